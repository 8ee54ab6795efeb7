-- What contracts see of a pass, and what it keeps.
use Rattle.std.specs.Prelude.{◌≡◌, ℕ, ◌+◌, ◌*◌, ◌≤◌, []}
use Rattle.atomic_table.specs.Seated.{TableId}
use Rattle.search_table.specs.declared.view.PassView.{PassView}
use Rattle.search_table.specs.declared.view.RoundTerms.{RoundTerms}
use Rattle.search_table.specs.Passes.{IsLive}
use Rattle.search_table.specs.Steps.{Mine}

-- of which table it is, and what it has seen and done
pub record PassState : Type 0 where
  pub table : TableId
  pub view : PassView

-- beside its seat a pass keeps the number, the terms and the own count of its view; it is there and holds no slot, its
-- table has a word for each worker, and only the pass of a worker has published
pub record KeepsView (n : ℕ) (k : RoundTerms) (count : ℕ) (table : TableId) (me : Mine) : Type 0 where
  pub number : n ≡ me.0.number
  pub terms : k ≡ me.0.terms
  pub own : count ≡ me.0.own
  pub slots : me.1 ≡ []
  pub live : IsLive me.0
  pub in_range : n ≤ k.workers
  pub words : table.words ≡ 16 + 8 * k.workers
  pub none : n ≡ 0 → count ≡ 0
