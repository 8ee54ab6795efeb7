use Rattle.std.proofs.Common.{ℕ, Option, List, subst}
use Rattle.std.specs.List.{AllZip}
use Rattle.rcpsp_model.specs.declared.parts.Verdict.{Verdict}
use Rattle.proof_log.specs.declared.report.LogLine.{LogLine}
use Rattle.log_checker.specs.declared.walk.Grown.{Grown}
use Rattle.log_checker.specs.declared.walk.Citing.{Citing}
use Rattle.log_checker.specs.Walk.{Citation, IsKeptAs, Stands}
use Rattle.log_checker.specs.Citations.{IsFirstBad, Ascends, numbers_of, IsFirstOf}
use Rattle.log_checker.proofs.LineSteps.{ok-map}
use Rattle.log_checker.proofs.ServedLines.{root-first_of, kept-first_of, not-cites}
use Rattle.log_checker.proofs.walk.Walk.first_unserved.Goals as goal

pub returns-in-Cites : goal.returns-in-Cites
returns-in-Cites c verdict lines s = root-first_of c.args.project.now verdict c.args.self.now lines c.in-Cites.is s

pub returns-in-Wanted : goal.returns-in-Wanted
returns-in-Wanted c =
    let P = c.args.project.now in
    let w = c.args.self.now in
    let Q : Option ℕ → Type 0 = λ n. (cs : List Citation) → AllZip (IsKeptAs P c.as_slice.result.now) cs c.as_slice-in-Wanted.result.now → Ascends (numbers_of c.as_slice.result.now) → IsFirstBad P c.as_slice.result.now cs n in
    let R : Option ℕ → Type 0 = λ n. (verdict : Verdict) (lines : List LogLine) → Stands P verdict w lines → IsFirstOf P lines n in
    ok-map Q R c.first_unserved.result c.first_unserved.ensures (λ n f verdict lines s.
    kept-first_of P verdict w lines n (not-cites w.root c.in-Wanted.is) s
    (subst (λ (gs : List Grown). (cs : List Citation) → AllZip (IsKeptAs P gs) cs w.citing.items → Ascends (numbers_of gs) → IsFirstBad P gs cs n) (c.as_slice.ensures.value)
    (subst (λ (ks : List Citing). (cs : List Citation) → AllZip (IsKeptAs P c.as_slice.result.now) cs ks → Ascends (numbers_of c.as_slice.result.now) → IsFirstBad P c.as_slice.result.now cs n) (c.as_slice-in-Wanted.ensures.value) f)))
