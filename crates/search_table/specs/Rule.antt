-- The rule of the two words: what holds of the best, of the tickets and of the views of all passes between any two steps, whoever makes them.
use Rattle.std.specs.Prelude.{◌≡◌, ℕ, ◌+◌, ◌<◌, ◌≤◌, ◌⊎◌, List, [], ◌∷◌, length, min, nat_eq}
use Rattle.std.specs.List.{IsDistinct}
use Rattle.search_table.specs.declared.view.PassView.{PassView}
use Rattle.search_table.specs.declared.view.RoundTerms.{RoundTerms}
use Rattle.search_table.specs.Lists.{least, Has}
use Rattle.search_table.specs.Passes.{IsLive, At, EachView, total}

-- how many tickets a pass won, how many it was refused, and how many passes it stands for
abbrev pub won_of : PassView → ℕ
won_of v = v.won

abbrev pub refused_of : PassView → ℕ
refused_of v = v.refused

abbrev pub passes_of : PassView → ℕ
passes_of v = v.passes

-- the least of the start value and of all ends that were offered
abbrev pub least_offer : ℕ → List PassView → ℕ
least_offer start [] = start
least_offer start (v ∷ views) = min (least start v.offers) (least_offer start views)

-- b is the best: the least of the start value and of all offers, and no pass has seen less
pub record IsBest (start b : ℕ) (views : List PassView) : Type 0 where
  pub least_of_all : b ≡ least_offer start views
  pub seen : EachView (λ v. IsLive v → b ≤ v.least_seen) views

-- t tickets were drawn: each was won or refused, and they were won until the quota was spent
pub record AreDrawn (quota t : ℕ) (views : List PassView) : Type 0 where
  pub drawn : t ≡ total won_of views + total refused_of views
  pub won : total won_of views ≡ min t quota
  pub refused : EachView (λ v. v.refused ≤ v.passes) views

-- while the first pass is there, all passes are it and those of the workers that were split off it
pub record AreOf (workers : ℕ) (split_off : List ℕ) (views : List PassView) : Type 0 where
  pub all : total passes_of views ≡ 1 + length split_off
  pub once : IsDistinct nat_eq split_off
  pub in_range : (worker : ℕ) → Has split_off worker → (0 < worker) × (worker ≤ workers)
  pub known : EachView (λ v. IsLive v → (v.number ≡ 0) ⊎ Has split_off v.number) views

-- no two passes that are there have one number, and they stand for at most one pass a worker and the first
pub record AreNumbered (workers : ℕ) (views : List PassView) : Type 0 where
  pub passes : total passes_of views ≤ 1 + workers
  pub apart : (i j : ℕ) (v w : PassView) → At views i v → At views j w → IsLive v → IsLive w → v.number ≡ w.number → i ≡ j
  pub first : EachView (λ v. IsLive v → v.number ≡ 0 → AreOf workers v.split_off views) views

-- a pass that is there has the terms of the round, and what was joined into another counts for nothing
pub record IsOfRound (terms : RoundTerms) (v : PassView) : Type 0 where
  pub terms_of : IsLive v → v.terms ≡ terms
  pub spent : v.passes ≡ 0 → (v.won ≡ 0) × (v.offers ≡ [])

-- all that holds of the best b, the tickets t and the views
pub record KeepsRound (terms : RoundTerms) (b t : ℕ) (views : List PassView) : Type 0 where
  pub limits : (terms.quota ≤ 4096) × (terms.workers ≤ 32)
  pub best : IsBest terms.start b views
  pub tickets : AreDrawn terms.quota t views
  pub numbers : AreNumbered terms.workers views
  pub each : EachView (IsOfRound terms) views
