use Rattle.std.proofs.Common.{◌≡◌, ◌++◌, map}
use Rattle.round_shares.specs.Crew.{real_waiting}
use Rattle.steal_rounds.specs.Whole.{all_lists, AddsLeft}
use Rattle.steal_rounds.proofs.GatheredParts.{on-ok, added-left}
use Rattle.steal_rounds.proofs.gathering.add_all_left.Goals as goal

pub returns : goal.returns
returns c =
    let starts = c.args.starts.now in
    let before = c.args.left.now.items in
    let mid = c.add_lists.new.left.items in
    let after = c.add_left.new.left.items in
    on-ok c.add_left.result (after ≡ mid ++ map (real_waiting starts) c.in_ok-lists.field-0.rest) (AddsLeft starts c.args.sources.items before after)
    (λ e. record { settled = c.in_ok-lists.field-0; is = c.in_ok-lists.ensures; left = added-left starts before mid after (all_lists c.in_ok-lists.field-0.lists.items) c.in_ok-lists.field-0.rest c.in_ok-add_lists.ensures e })
    c.add_left.ensures
