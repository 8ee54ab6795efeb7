-- What becomes of a leaf.
use Rattle.std.specs.Prelude.{◌≡◌, ℕ, ◌<◌, ◌≤◌, Option, Some, List, ◌∷◌, All}
use Rattle.rcpsp_model.specs.declared.parts.Entry.{Entry}
use Rattle.rcpsp_model.specs.declared.parts.Placing.{Placing}
use Rattle.rcpsp_model.specs.Project.{Project}
use Rattle.rcpsp_model.specs.Schedule.{end_of}
use Rattle.rcpsp_model.specs.Tree.{Completes}
use Rattle.rcpsp_model.specs.Claim.{EndsAt}
use Rattle.search_table.specs.declared.view.PassView.{PassView}

-- no leaf of these ends before the least best that the pass has seen
abbrev pub NoLeafEndsBefore : Project → PassView → List (List Entry) → Type 0
NoLeafEndsBefore P v leaves = All (λ F. v.least_seen ≤ end_of P F) leaves

-- the schedule is that of the leaf F
pub record IsPlanOf (P : Project) (F : List Entry) (s : List Placing) : Type 0 where
  pub completes : Completes P F s
  pub ends : EndsAt P (end_of P F) s

-- no end was offered, and the plan is what it was
pub record OffersNothing (v w : PassView) (plan now : Option (List Placing)) : Type 0 where
  pub offers : w.offers ≡ v.offers
  pub plan_kept : now ≡ plan

-- The end of F was offered, and the plan is now its schedule. No leaf that was visited before ends so early
pub record Offers (P : Project) (F : List Entry) (v w : PassView) (now : Option (List Placing)) : Type 0 where
  pub offers : w.offers ≡ end_of P F ∷ v.offers
  pub schedule : List Placing
  pub plan_is : now ≡ Some schedule
  pub is_its : IsPlanOf P F schedule
  pub first : (leaves : List (List Entry)) → NoLeafEndsBefore P v leaves → All (λ G. end_of P F < end_of P G) leaves

-- the end of F was offered where it is less than the best that was loaded, and not else; the pass has then seen no more than it
pub record OffersLeaf (P : Project) (F : List Entry) (best : ℕ) (v w : PassView) (plan now : Option (List Placing)) : Type 0 where
  pub less : end_of P F < best → Offers P F v w now
  pub no_less : best ≤ end_of P F → OffersNothing v w plan now
  pub seen : w.least_seen ≤ end_of P F
