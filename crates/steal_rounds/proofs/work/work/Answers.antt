use Rattle.std.proofs.Common.{◌≡◌, ◌∙◌, ℕ, ◌+◌, refl, sym, ap, subst, arith}
use Rattle.node_sources.specs.Seats.{Seat}
use Rattle.node_sources.proofs.Stays.{stays-on}
use Rattle.steal_rounds.specs.Turns.{stage_of, KeepsShare}
use Rattle.steal_rounds.proofs.SourceTurns.{keeps-taken}
use Rattle.steal_rounds.proofs.TurnChains.{stays-then, turned}
use Rattle.steal_rounds.proofs.work.work.Goals as goal

pub returns-then-not-branch-clause-keeps : goal.returns-then-not-branch-clause-keeps
returns-then-not-branch-clause-keeps g c =
    let v = c.loop-done.invariant in
    let own : c.loop-done.part.source.number ≡ c.number-number.result = ap (λ (x : Seat). x.number) v.source.seat ∙ (c.requires.own ∙ sym c.number-number.ensures.number) in
    subst (λ (w : ℕ). KeepsShare c.args.project.now c.args.records.now (record { round = c.args.round; worker = w; turn = 0 }) (stage_of c.args.worker.now c.args.pass.now c.args.part.now)
    (stage_of c.take_turn.new.worker c.take_turn.new.pass c.take_turn.new.part)) c.number-number.ensures.number
    (keeps-taken c.args.project.now c.args.records.now c.args.round c.number-number.result (c.loop-done.done + 1) c.in-Some.next (stage_of c.args.worker.now c.args.pass.now c.args.part.now)
    (stage_of c.loop-done.worker c.loop-done.pass c.loop-done.part) (stage_of c.take_turn.new.worker c.take_turn.new.pass c.take_turn.new.part) c.take.new.self own (v.source.nodes c.args.project.now c.requires.source) c.in-Some.ensures.taken refl
    v.keeps c.in_ok-take_turn.ensures.keeps)

pub loop-done-preserved : goal.loop-done-preserved
loop-done-preserved g c =
    let v = c.loop-done.invariant in
    let own : c.loop-done.part.source.number ≡ c.number-number.result = ap (λ (x : Seat). x.number) v.source.seat ∙ (c.requires.own ∙ sym c.number-number.ensures.number) in
    let on = turned c.in_ok-take_turn.field-0 _ _ c.if-not-branch.false c.in_ok-take_turn.ensures.turn in
    let fills = v.fills in
    let more = on.0 in
    record {
      table = c.in_ok-take_turn.ensures.table ∙ v.table;
      stays = stays-then _ _ _ v.stays c.in_ok-take_turn.ensures.stays;
      work = c.in_ok-take_turn.ensures.work;
      unrefused = on.1 ∙ v.unrefused;
      source = stays-on _ _ _ v.source (stays-on _ _ _ c.in-Some.ensures.stays c.in_ok-take_turn.ensures.source);
      counts = c.in_ok-take_turn.ensures.counts;
      fills = omega arith;
      number = v.number ∙ sym c.in_ok-take_turn.ensures.stays.number;
      first = λ e. absurd (omega arith);
      keeps = keeps-taken c.args.project.now c.args.records.now c.args.round c.number-number.result (c.loop-done.done + 1) c.in-Some.next (stage_of c.args.worker.now c.args.pass.now c.args.part.now)
          (stage_of c.loop-done.worker c.loop-done.pass c.loop-done.part) (stage_of c.take_turn.new.worker c.take_turn.new.pass c.take_turn.new.part) c.take.new.self own (v.source.nodes c.args.project.now c.requires.source) c.in-Some.ensures.taken refl
          v.keeps c.in_ok-take_turn.ensures.keeps;
    }
