use Rattle.std.proofs.Common.{◌≡◌, ◌++◌, ℕ, List, None, sym, ap, subst, ◌∙◌}
use Rattle.rcpsp_model.specs.Project.{IsProject}
use Rattle.bound_checker.specs.Checker.{BoundCheckerState, Runs, StandsAs, StandsFor}
use Rattle.bound_checker.proofs.Outcomes.{runs-fed, broken-fed}
use Rattle.bound_checker.proofs.FedPieces.{refused_law}
use Rattle.bound_checker.proofs.checker.BoundChecker.feed.Goals as goal

pub returns-in-Some-clause-stands : goal.returns-in-Some-clause-stands
returns-in-Some-clause-stands c bytes s =
    let is = subst (λ (v : BoundCheckerState). IsProject v.project) c.self.view_is c.known.ensures in
    refused_law c.args.self.now bytes c.args.piece.now c.in-Some.refused is (sym (ap (λ (v : BoundCheckerState). v.refused) c.self.view_is) ∙ c.in-Some.is) s

pub returns-in-Some-clause-shown : goal.returns-in-Some-clause-shown
returns-in-Some-clause-shown c bytes s =
    let is = subst (λ (v : BoundCheckerState). IsProject v.project) c.self.view_is c.known.ensures in
    let same = sym (ap (λ (v : BoundCheckerState). v.refused) c.self.view_is) ∙ c.in-Some.is in
    let all = bytes ++ c.args.piece.now in
    broken-fed c.args.self.now.project is all c.in-Some.refused
    (subst (StandsAs c.args.self.now all) same (refused_law c.args.self.now bytes c.args.piece.now c.in-Some.refused is same s))

-- without a refusal the lines so far may stand there
runs_before : (view given : BoundCheckerState) (bytes : List ℕ) → view ≡ given → view.refused ≡ None → StandsFor given bytes → Runs view.project view.reader view.course bytes
runs_before view given bytes same none s = subst (StandsAs view bytes) none (subst (λ (v : BoundCheckerState). StandsFor v bytes) (sym same) s)

pub returns-then-take_piece-clause-shown : goal.returns-then-take_piece-clause-shown
returns-then-take_piece-clause-shown c bytes s =
    let own = c.self.inside in
    let r = runs_before (record { project = own.project.now; reader = own.reader; course = own.course; refused = own.refused }) c.args.self.now bytes c.self.view_is c.in_default.is s in
    runs-fed own.project.now c.known.ensures (bytes ++ c.args.piece.now) c.take_piece.new.reader c.take_piece.new.course (c.if-take_piece.ensures.stands bytes r)

pub returns-clause-stands : goal.returns-clause-stands
returns-clause-stands c bytes s =
    let own = c.self.inside in
    let r = runs_before (record { project = own.project.now; reader = own.reader; course = own.course; refused = own.refused }) c.args.self.now bytes c.self.view_is c.in_default.is s in
    c.if-take_piece.ensures.stands bytes r

pub returns-clause-shown : goal.returns-clause-shown
returns-clause-shown c bytes s =
    let own = c.self.inside in
    let r = runs_before (record { project = own.project.now; reader = own.reader; course = own.course; refused = own.refused }) c.args.self.now bytes c.self.view_is c.in_default.is s in
    broken-fed own.project.now c.known.ensures (bytes ++ c.args.piece.now) (record { line = c.take_piece.new.course.number }) (c.if-take_piece.ensures.stands bytes r)
