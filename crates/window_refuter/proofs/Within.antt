-- Windows stay within their limits.
use Rattle.std.proofs.Common.{◌≡◌, ℕ, ◌-◌, ◌≤◌, arith, refl, sym, subst, ◌∙◌, max, min, List, length, false}
use Rattle.std.proofs.lemmas.List.Elements.{All-set}
use Rattle.rcpsp_model.specs.Project.{Project, IsAcyclic}
use Rattle.window_refuter.specs.declared.window.Window.{Window}
use Rattle.window_refuter.specs.declared.step.BoundStep.{BoundStep}
use Rattle.window_refuter.specs.declared.step.BoundStep.TheVariants.{Head, Tail, Disjoint, Work, Empty}
use Rattle.window_refuter.specs.declared.step.Judged.{Judged}
use Rattle.window_refuter.specs.declared.step.Judged.TheVariants.{NotAllowed, Further, Contradiction}
use Rattle.window_refuter.specs.Windows.{TimeWindows, AreWithin, NoneIsEmpty, es_of, lf_of, earliest_finish, latest_start}
use Rattle.window_refuter.specs.Steps.{IsJudged, IsAllowed, is_contradiction, with_start, with_finish, after_step}
use Rattle.window_refuter.specs.Narrowing.{Narrows}
use Rattle.window_refuter.proofs.WindowLimits.{es_limit, lf_limit, length-with_start, length-with_finish}

start-within : (T : ℕ) (ws : List Window) (j t : ℕ) → t ≤ 1290000 → AreWithin T ws → AreWithin T (with_start ws j t)
unfolding with_start
start-within T ws j t soon w = record {
  starts = All-set (λ (v : Window). v.earliest_start ≤ 1290000) ws (j - 1) _ soon w.starts;
  finishes = All-set (λ (v : Window). v.latest_finish ≤ T) ws (j - 1) _ (lf_limit ws j T w.finishes) w.finishes;
}

finish-within : (T : ℕ) (ws : List Window) (j t : ℕ) → t ≤ T → AreWithin T ws → AreWithin T (with_finish ws j t)
unfolding with_finish
finish-within T ws j t soon w = record {
  starts = All-set (λ (v : Window). v.earliest_start ≤ 1290000) ws (j - 1) _ (es_limit ws j 1290000 w.starts) w.starts;
  finishes = All-set (λ (v : Window). v.latest_finish ≤ T) ws (j - 1) _ soon w.finishes;
}

pub narrow-within : (P : Project) (T : ℕ) (ws : List Window) (step : BoundStep) → IsAcyclic P → T ≤ 1290000 → NoneIsEmpty P ws → AreWithin T ws → Narrows P ws step → AreWithin T (after_step P ws step)
narrow-within P T ws (Head i j) acyclic soon none w n =
    let room = none i (acyclic.jobs i j n.before).0 in
    let end = lf_limit ws i T w.finishes in
    start-within T ws j (earliest_finish P ws i) (omega arith) w
narrow-within P T ws (Tail i j) acyclic soon none w n =
    let end = lf_limit ws j T w.finishes in
    finish-within T ws i (latest_start P ws j) (omega arith) w
narrow-within P T ws (Disjoint i j k) acyclic soon none w n =
    let room = none i n.conflict.first in
    let end = lf_limit ws i T w.finishes in
    let start = es_limit ws j 1290000 w.starts in
    finish-within T (with_start ws j (max (es_of ws j) (earliest_finish P ws i))) i (min (lf_of ws i) (latest_start P ws j)) (omega arith)
    (start-within T ws j (max (es_of ws j) (earliest_finish P ws i)) (omega arith) w)
narrow-within P T ws (Work k a b) acyclic soon none w n = absurd n
narrow-within P T ws (Empty j) acyclic soon none w n = absurd n

-- an allowed step that is no contradiction narrows a window, none of which is empty
pub allowed-narrows : (P : Project) (T : ℕ) (ws : List Window) (step : BoundStep) → IsAllowed P T ws step → is_contradiction step ≡ false → NoneIsEmpty P ws × Narrows P ws step
allowed-narrows P T ws (Head i j) a h = a
allowed-narrows P T ws (Tail i j) a h = a
allowed-narrows P T ws (Disjoint i j k) a h = a
allowed-narrows P T ws (Work k a b) al h = absurd (cc)
allowed-narrows P T ws (Empty j) a h = absurd (cc)

pub length-after : (P : Project) (ws : List Window) (step : BoundStep) → length (after_step P ws step) ≡ length ws
length-after P ws (Head i j) = length-with_start ws j (earliest_finish P ws i)
length-after P ws (Tail i j) = length-with_finish ws i (latest_start P ws j)
length-after P ws (Disjoint i j k) = length-with_finish (with_start ws j (max (es_of ws j) (earliest_finish P ws i))) i (min (lf_of ws i) (latest_start P ws j)) ∙ length-with_start ws j (max (es_of ws j) (earliest_finish P ws i))
length-after P ws (Work k a b) = refl
length-after P ws (Empty j) = refl

-- a judgement keeps them so
pub judged-within : (P : Project) (T : ℕ) (ws new : List Window) (step : BoundStep) (r : Judged) → IsAcyclic P → T ≤ 1290000 → AreWithin T ws → IsJudged P (record { end = T; windows = ws }) step r (record { end = T; windows = new }) → AreWithin T new
judged-within P T ws new step NotAllowed acyclic soon w j = subst (λ (W : TimeWindows). AreWithin T W.windows) (sym j.1) w
judged-within P T ws new step Contradiction acyclic soon w j = subst (λ (W : TimeWindows). AreWithin T W.windows) (sym j.2) w
judged-within P T ws new step Further acyclic soon w j =
    let n = allowed-narrows P T ws step j.0 j.1 in
    subst (λ (W : TimeWindows). AreWithin T W.windows) (sym j.2) (narrow-within P T ws step acyclic soon n.0 w n.1)
