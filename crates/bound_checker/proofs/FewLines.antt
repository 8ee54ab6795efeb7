-- Lines that may stand there are few, since each step leaves less room.
use Rattle.std.proofs.Common.{◌≡◌, ℕ, zero, suc, ◌+◌, ◌-◌, ◌*◌, ◌≤◌, ◌∙◌, inl, inr, arith, ap, subst, List, [], ◌∷◌, length, length-append}
use Rattle.std.proofs.Math.Nat.{mul-le-mul_left}
use Rattle.std.proofs.lemmas.Bool.{cases_Bool}
use Rattle.std.proofs.lemmas.List.Folds.{sum_by-replicate}
use Rattle.rcpsp_model.specs.Project.{Project, IsProject, job_count}
use Rattle.proof_log.specs.Lines.{ReaderState}
use Rattle.window_refuter.specs.declared.window.Window.{Window}
use Rattle.window_refuter.specs.declared.line.BoundLine.{BoundLine}
use Rattle.window_refuter.specs.declared.line.BoundLine.TheVariants.{Title, Bound, Step, End}
use Rattle.window_refuter.specs.Windows.{AreWithin, first_windows}
use Rattle.window_refuter.specs.Steps.{is_contradiction, after_step}
use Rattle.window_refuter.specs.Propagation.{room}
use Rattle.window_refuter.proofs.FirstWindows.{first-size, first-within}
use Rattle.window_refuter.proofs.Narrowed.{less-room}
use Rattle.window_refuter.proofs.Within.{narrow-within, allowed-narrows, length-after}
use Rattle.bound_checker.specs.declared.checker.TheConstants.{MOST_TEXT}
use Rattle.bound_checker.specs.declared.course.Course.{Course}
use Rattle.bound_checker.specs.Text.{text_of}
use Rattle.bound_checker.specs.Beginning.{IsEnd, AreSteps, FollowsBound, FollowsTitle, IsBeginning}
use Rattle.bound_checker.specs.Checker.{held, Runs, StandsAs}
use Rattle.bound_checker.specs.Laws.{FewBytesLaw}
use Rattle.bound_checker.proofs.Beginnings.{behind-last, behind-other, at-begins}

end-few : (lines : List BoundLine) → IsEnd lines → length lines ≤ 1
end-few [] h = omega arith
end-few (line ∷ lines) h = let none = ap (λ (ls : List BoundLine). length ls) h.1 in omega arith

steps-few : (P : Project) (T : ℕ) (ws : List Window) (lines : List BoundLine) → IsProject P → T ≤ 1290000 → length ws ≡ job_count P → AreWithin T ws → AreSteps P T ws lines → length lines ≤ room ws + 2
steps-few P T ws [] is soon size within h = omega arith
steps-few P T ws (Step step ∷ lines) is soon size within h = elim (cases_Bool (is_contradiction step)) [
  | inl last ↦ let few = end-few lines (behind-last P T ws step lines (is_contradiction step) last h.1) in omega arith
  | inr other ↦
      let n = allowed-narrows P T ws step h.0 other in
      let less = less-room P T ws is.acyclic soon size within n.0 step n.1 in
      let few = steps-few P T (after_step P ws step) lines is soon (length-after P ws step ∙ size) (narrow-within P T ws step is.acyclic soon n.0 within n.1) (behind-other P T ws step lines (is_contradiction step) other h.1) in
      omega arith
]
steps-few P T ws (Title ∷ lines) is soon size within h = absurd h
steps-few P T ws (Bound b ∷ lines) is soon size within h = absurd h
steps-few P T ws (End ∷ lines) is soon size within h = absurd h

times-le : (n x : ℕ) → n ≤ 128 → x ≤ 2580000 → n * x ≤ 330240000
times-le n x few small = let e = mul-le-mul_left n small in omega arith

first-room : (P : Project) (T : ℕ) → IsProject P → T ≤ 1290000 → room (first_windows P T) ≤ 330240000
unfolding room first_windows
first-room P T is soon =
    let e = sum_by-replicate (λ (w : Window). w.latest_finish + (1290000 - w.earliest_start)) (job_count P) (record { earliest_start = 0; latest_finish = T }) in
    let small = times-le (job_count P) (T + (1290000 - 0)) is.limits.few_jobs (omega arith) in
    omega arith

bound-few : (P : Project) (b : ℕ) (lines : List BoundLine) → IsProject P → b ≤ 1290001 → FollowsBound P b lines → length lines ≤ 330240002
bound-few P zero lines is most h = let few = end-few lines h in omega arith
bound-few P (suc T) lines is most h =
    let few = steps-few P T (first_windows P T) lines is (omega arith) (first-size P T) (first-within P T) h in
    let all = first-room P T is (omega arith) in
    omega arith

title-few : (P : Project) (lines : List BoundLine) → IsProject P → FollowsTitle P lines → length lines ≤ 330240003
title-few P [] is h = omega arith
title-few P (Bound b ∷ lines) is h = let few = bound-few P b lines is h.0 h.1 in omega arith
title-few P (Title ∷ lines) is h = absurd h
title-few P (Step step ∷ lines) is h = absurd h
title-few P (End ∷ lines) is h = absurd h

pub few-lines : (P : Project) (lines : List BoundLine) → IsProject P → IsBeginning P lines → length lines ≤ 330240004
few-lines P [] is h = omega arith
few-lines P (Title ∷ lines) is h = let few = title-few P lines is h in omega arith
few-lines P (Bound b ∷ lines) is h = absurd h
few-lines P (Step step ∷ lines) is h = absurd h
few-lines P (End ∷ lines) is h = absurd h

-- so are the bytes that they have
few-bytes : (P : Project) (reader : ReaderState) (course : Course) (bytes : List ℕ) → IsProject P → Runs P reader course bytes → length bytes ≤ MOST_TEXT
few-bytes P reader course bytes is r =
    let few = few-lines P r.lines is (at-begins P course.stage course.windows r.lines r.at) in
    let all = ap (λ (xs : List ℕ). length xs) r.text ∙ length-append (text_of r.lines) (held reader) in
    let size = r.size in let short = r.short in
    omega arith

pub few_bytes_law : FewBytesLaw
few_bytes_law c bytes is none s = few-bytes c.project c.reader c.course bytes is (subst (StandsAs c bytes) none s)
