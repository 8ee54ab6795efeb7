use Rattle.std.proofs.Common.{◌≡◌, ℕ, List, get_or, sym, ap, ◌∙◌, arith, subst}
use Rattle.std.specs.Slots.{slots_items}
use Rattle.atomic_table.specs.Table.{Final, Seen}
use Rattle.search_table.specs.declared.view.PassView.{PassView}
use Rattle.search_table.specs.BetweenSteps.{HoldsBetweenSteps}
use Rattle.search_table.specs.Steps.{Mine}
use Rattle.search_table.proofs.Ends.{Ending, ends, word_is}
use Rattle.search_table.proofs.table.RoundTable.close_with.Goals as goal

abbrev words : goal.After-free → List ℕ
words c = slots_items c.close_with-closed.result.words

ending : (c : goal.After-free) → Ending (get_or (words c) 0 0) (get_or (words c) 8 0) c.args.pass.view
ending c =
    let k = c.self.inside.words.shared.key in let id = c.into_seat.result.id in let xs = slots_items c.close_with-closed.result.slots in
    let is : c.into_seat.result.me.0 ≡ c.args.pass.view = ap (λ (m : Mine). m.0) c.into_seat.ensures.view in
    ends k id c.args.pass.view (words c) xs c.into_seat.ensures.live c.requires.first c.requires.all
    (subst (λ (v : PassView). Final (Seen (HoldsBetweenSteps k) id v) (words c) xs) is c.close_with-closed.ensures.values.2)

pub returns-clause-best : goal.returns-clause-best
returns-clause-best c = sym (word_is (words c) 0 _ c.word-best.ensures) ∙ (ending c).best

pub returns-clause-seen : goal.returns-clause-seen
returns-clause-seen c = let e = word_is (words c) 0 _ c.word-best.ensures in let l = (ending c).seen in omega arith

pub returns-clause-tickets : goal.returns-clause-tickets
returns-clause-tickets c = sym (word_is (words c) 8 _ c.word-tickets.ensures) ∙ (ending c).tickets

pub returns-clause-won : goal.returns-clause-won
returns-clause-won c = let e = word_is (words c) 8 _ c.word-tickets.ensures in let w = (ending c).won in omega arith

pub returns-clause-spent : goal.returns-clause-spent
returns-clause-spent c = λ refused. let t = (ending c).tickets in let w = (ending c).won in omega arith

pub returns-clause-published : goal.returns-clause-published
returns-clause-published c = (ending c).published
