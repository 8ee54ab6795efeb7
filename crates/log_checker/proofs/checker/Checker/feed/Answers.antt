use Rattle.std.proofs.Common.{◌++◌, sym, ap, subst, ◌∙◌}
use Rattle.log_checker.specs.Checker.{CheckerState, StandsAs, StandsFor, IsAfter, IsFed}
use Rattle.log_checker.proofs.FedBytes.{stands-refused}
use Rattle.log_checker.proofs.ShownFaults.{runs-fed, refused-fed, stands-fed}
use Rattle.log_checker.proofs.checker.Checker.feed.Goals as goal
use Rattle.log_checker.proofs.checker.Checker.feed.Goals.{in-Some-refused, in-None}

pub returns-in-Some-clause-stands : goal.returns-in-Some-clause-stands
returns-in-Some-clause-stands c bytes s = stands-refused c.args.self.now bytes c.args.piece.now c.in-Some.refused (sym (ap (λ (v : CheckerState). v.refused) c.self.view_is) ∙ c.in-Some.is) s

pub returns-in-Some-clause-shown : goal.returns-in-Some-clause-shown
returns-in-Some-clause-shown c bytes s =
    let same = sym (ap (λ (v : CheckerState). v.refused) c.self.view_is) ∙ c.in-Some.is in
    stands-fed c.args.self.now (bytes ++ c.args.piece.now) c.in-Some.refused same (stands-refused c.args.self.now bytes c.args.piece.now c.in-Some.refused same s)

pub returns-clause-shown : goal.returns-clause-shown
returns-clause-shown c bytes s =
    let own = c.self.inside in
    let t = c.take_piece-refused in
    let P = own.project.now in
    let all = bytes ++ c.args.piece.now in
    let view : CheckerState = record { project = P; reader = own.reader; number = own.number; course = own.course; refused = own.refused } in
    let before : StandsFor view bytes = subst (λ (v : CheckerState). StandsFor v bytes) (sym c.self.view_is) s in
    let runs = subst (StandsAs view bytes) c.in_default.is before in
    let after = t.ensures.stands bytes runs in
    elim c.match-refused.branch [
      | in-Some-refused w ↦ subst (IsFed P all) (sym w.result-is) (refused-fed P all w.in-Some-refused.refused (subst (IsAfter P t.new.reader t.new.number t.new.course all) w.in-Some-refused.is after))
      | in-None w ↦ subst (IsFed P all) (sym w.result-is) (runs-fed P all t.new.reader t.new.number t.new.course (subst (IsAfter P t.new.reader t.new.number t.new.course all) w.in-None.is after))
    ]
