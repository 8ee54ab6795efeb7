-- What a step on a word tells the pass that makes it: the number found, and the view after it. No pass holds a slot.
use Rattle.std.specs.Prelude.{◌≡◌, ℕ, ◌+◌, ◌-◌, ◌/◌, ◌<◌, ◌≤◌}
use Rattle.atomic_table.specs.Table.{Me, Step}
use Rattle.search_table.specs.declared.view.PassView.{PassView}
use Rattle.search_table.specs.Lists.{least}
use Rattle.search_table.specs.Counts.{seen_of}
use Rattle.search_table.specs.Views.{with_best, with_offer, with_ticket, with_refusal, with_publication, with_count}

abbrev pub Mine : Type 0
Mine = Me (Unit {0}) PassView

-- the number is at most all that the pass had seen or offered
pub record IsNoMore (n : ℕ) (v : PassView) : Type 0 where
  pub seen : n ≤ v.least_seen
  pub offered : n ≤ least v.terms.start v.offers

-- the best is loaded
pub record Loads (step : Step (Unit {0})) (before : Mine) (n : ℕ) (after : Mine) : Type 0 where
  pub view : after.0 ≡ with_best n before.0
  pub no_more : IsNoMore n before.0
  pub slots : after.1 ≡ before.1

-- the best is lowered to the step's operand, where that is less
pub record Offers (step : Step (Unit {0})) (before : Mine) (n : ℕ) (after : Mine) : Type 0 where
  pub view : after.0 ≡ with_offer step.first n before.0
  pub no_more : IsNoMore n before.0
  pub slots : after.1 ≡ before.1

-- one is added to the tickets: it is won where fewer than the quota had been drawn
pub record Draws (step : Step (Unit {0})) (before : Mine) (n : ℕ) (after : Mine) : Type 0 where
  pub ticket : n < before.0.terms.quota → after.0 ≡ with_ticket before.0
  pub refusal : before.0.terms.quota ≤ n → after.0 ≡ with_refusal before.0
  pub own : before.0.won + before.0.refused ≤ n
  pub within : after.0.won ≤ after.0.terms.quota
  pub slots : after.1 ≡ before.1

-- one is added to the pass's own published count, which was what the pass had published
pub record Publishes (step : Step (Unit {0})) (before : Mine) (n : ℕ) (after : Mine) : Type 0 where
  pub view : after.0 ≡ with_publication before.0
  pub own : n ≡ before.0.own
  pub slots : after.1 ≡ before.1

-- the published count of a worker is loaded, of whom the pass had seen no more; its word is eight times one more than its number
pub record LoadsCount (step : Step (Unit {0})) (before : Mine) (n : ℕ) (after : Mine) : Type 0 where
  pub view : after.0 ≡ with_count (step.word / 8 - 1) n before.0
  pub no_less : seen_of (step.word / 8 - 1) before.0 ≤ n
  pub slots : after.1 ≡ before.1
