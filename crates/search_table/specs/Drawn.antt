-- What a draw answers, and what it makes of the view of the pass.
use Rattle.std.specs.Prelude.{◌≡◌, ℕ, ◌+◌, ◌<◌, ◌≤◌}
use Rattle.search_table.specs.declared.view.PassView.{PassView}
use Rattle.search_table.specs.declared.table.Draw.{Draw}
use Rattle.search_table.specs.declared.table.Draw.TheVariants.{Ticket, Spent}
use Rattle.search_table.specs.Views.{with_ticket, with_refusal}

-- where n tickets, fewer than the quota, had been drawn before, the pass wins one
pub record IsWon (n : ℕ) (before after : PassView) : Type 0 where
  pub under : n < before.terms.quota
  pub view : after ≡ with_ticket before

-- where n tickets, at least the quota, had been drawn before, the pass is refused and told n
pub record IsRefused (n told : ℕ) (before after : PassView) : Type 0 where
  pub over : before.terms.quota ≤ n
  pub view : after ≡ with_refusal before
  pub number : told ≡ n

abbrev pub DrawnAfter : ℕ → PassView → PassView → Draw → Type 0
DrawnAfter n before after Ticket = IsWon n before after
DrawnAfter n before after (Spent told) = IsRefused n told before after

-- a number of tickets had been drawn before, the pass's own among them
pub record Drawn (before after : PassView) (answer : Draw) : Type 0 where
  pub earlier : ℕ
  pub own : before.won + before.refused ≤ earlier
  pub outcome : DrawnAfter earlier before after answer
