use Rattle.std.proofs.Common.{◌≡◌, ◌∙◌, refl, sym, None, List, ◌⊎◌, inl, inr}
use Rattle.proof_log.specs.declared.report.LogLine.{LogLine}
use Rattle.log_checker.specs.declared.walk.Root.{Root}
use Rattle.log_checker.specs.declared.walk.Root.TheVariants.{Wanted, Came, Cites}
use Rattle.log_checker.specs.declared.walk.Walk.{Walk}
use Rattle.log_checker.specs.Said.{line_said}
use Rattle.log_checker.specs.Walk.{wanted_of, Stands, IsTaken, IsTakenChild, IsTakenRoot}
use Rattle.log_checker.proofs.LineSteps.{ok-at, ok-map}
use Rattle.log_checker.proofs.TakenLines.{popped-sound, child-sound, root-sound, taken-child, taken-only, taken-left, emptied-sound, nothing}
use Rattle.log_checker.proofs.walk.Walk.take.Goals as goal

came : (r : Root) → (r ≡ Came) ⊎ (r ≡ Cites) → r ≡ Wanted → ⊥
came r (inl e) w = let bad : Came ≡ Wanted = sym e ∙ w in cc
came r (inr e) w = let bad : Cites ≡ Wanted = sym e ∙ w in cc

pub returns-in-Some-clause-sound : goal.returns-in-Some-clause-sound
returns-in-Some-clause-sound c e =
    let P = c.args.project.now in
    let w : Walk = record c.args.self.now { path = c.pop.new.self } in
    let s = popped-sound P w c.args.self.now.path c.in-Some.parent c.in-Some.ensures.items c.requires in
    let taken = ok-at (λ r. IsTakenChild P c.args.verdict w c.in-Some.parent (line_said c.args.line) c.args.line.fate r c.take_child.new.self) c.take_child.result None c.take_child.ensures e in
    child-sound P c.args.verdict w c.in-Some.parent (line_said c.args.line) c.args.line.fate None c.take_child.new.self s.0 s.1 taken refl

pub returns-in-Some-clause-line : goal.returns-in-Some-clause-line
returns-in-Some-clause-line c =
    let P = c.args.project.now in
    let w : Walk = record c.args.self.now { path = c.pop.new.self } in
    let s = popped-sound P w c.args.self.now.path c.in-Some.parent c.in-Some.ensures.items c.requires in
    ok-map (λ r. IsTakenChild P c.args.verdict w c.in-Some.parent (line_said c.args.line) c.args.line.fate r c.take_child.new.self)
    (λ r. (lines : List LogLine) → Stands P c.args.verdict c.args.self.now lines → IsTaken P c.args.verdict lines (wanted_of P c.args.self.now) (line_said c.args.line) r c.take_child.new.self) c.take_child.result c.take_child.ensures
    (λ r taken. taken-child P c.args.verdict w c.args.self.now.path c.in-Some.parent (line_said c.args.line) c.args.line.fate r c.take_child.new.self c.known.ensures.limits c.in-Some.ensures.items s.1 refl taken)

pub returns-in-Wanted-clause-sound : goal.returns-in-Wanted-clause-sound
returns-in-Wanted-clause-sound c e =
    let P = c.args.project.now in
    let w : Walk = record c.args.self.now { path = c.pop.new.self } in
    let taken = ok-at (λ r. IsTakenRoot P c.args.verdict w (line_said c.args.line) c.args.line.fate r c.take_root.new.self) c.take_root.result None c.take_root.ensures e in
    root-sound P c.args.verdict w (line_said c.args.line) c.args.line.fate None c.take_root.new.self (emptied-sound P w c.args.self.now.path (nothing c.pop.new.self c.in-None.ensures.cases.1) c.requires) taken refl

pub returns-in-Wanted-clause-line : goal.returns-in-Wanted-clause-line
returns-in-Wanted-clause-line c =
    let P = c.args.project.now in
    let w : Walk = record c.args.self.now { path = c.pop.new.self } in
    ok-map (λ r. IsTakenRoot P c.args.verdict w (line_said c.args.line) c.args.line.fate r c.take_root.new.self)
    (λ r. (lines : List LogLine) → Stands P c.args.verdict c.args.self.now lines → IsTaken P c.args.verdict lines (wanted_of P c.args.self.now) (line_said c.args.line) r c.take_root.new.self) c.take_root.result c.take_root.ensures
    (λ r taken. taken-only P c.args.verdict w c.args.self.now.path (line_said c.args.line) c.args.line.fate r c.take_root.new.self c.in-Wanted.is (nothing c.args.self.now.path c.in-None.ensures.cases.0)
    (nothing c.pop.new.self c.in-None.ensures.cases.1) refl taken)

pub returns-in-Came-clause-line : goal.returns-in-Came-clause-line
returns-in-Came-clause-line c lines s =
    taken-left c.args.project.now c.args.verdict c.args.self.now (line_said c.args.line) (record c.args.self.now { path = c.pop.new.self }) (came c.args.self.now.root c.in-Came.is) (nothing c.args.self.now.path c.in-None.ensures.cases.0) lines
