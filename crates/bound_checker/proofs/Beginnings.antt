-- Lines that a text may begin with.
use Rattle.std.proofs.Common.{◌≡◌, ℕ, zero, suc, ◌+◌, ◌-◌, ◌≤◌, inl, inr, arith, refl, sym, subst, Bool, true, false, List, [], ◌∷◌, ◌++◌, map, append_assoc}
use Rattle.std.specs.Prelude.{MatchBool}
use Rattle.std.specs.List.{AllByRecursion, list_any}
use Rattle.std.proofs.lemmas.Bool.{cases_Bool}
use Rattle.std.proofs.lemmas.List.{append-nil}
use Rattle.rcpsp_model.specs.Project.{Project, IsProject}
use Rattle.window_refuter.specs.declared.window.Window.{Window}
use Rattle.window_refuter.specs.declared.step.BoundStep.{BoundStep}
use Rattle.window_refuter.specs.declared.step.BoundStep.TheVariants.{Head, Tail, Disjoint, Work, Empty}
use Rattle.window_refuter.specs.declared.line.BoundLine.{BoundLine}
use Rattle.window_refuter.specs.declared.line.BoundLine.TheVariants.{Title, Bound, Step, End}
use Rattle.window_refuter.specs.Windows.{TimeWindows, first_windows}
use Rattle.window_refuter.specs.Steps.{IsAllowed, is_contradiction, after_step, RefutesFrom, Refutes}
use Rattle.window_refuter.specs.Propagation.{LeadsTo}
use Rattle.window_refuter.specs.Refuted.{ShowsBound}
use Rattle.window_refuter.specs.Text.{HasNumbers, IsLine}
use Rattle.bound_checker.specs.declared.stage.Stage.{Stage}
use Rattle.bound_checker.specs.declared.stage.Stage.TheVariants as stages
use Rattle.bound_checker.specs.Text.{bound_lines}
use Rattle.bound_checker.specs.Beginning.{IsEnd, AreSteps, FollowsBound, FollowsTitle, IsBeginning}
use Rattle.bound_checker.specs.Judged.{is_end}
use Rattle.bound_checker.specs.Stages.{HasSteps, HasShown, IsAt}

-- Behind a step.

abbrev Behind : Project → ℕ → List Window → BoundStep → List BoundLine → Bool → Type 0
Behind P T ws step lines b = MatchBool b (IsEnd lines) (AreSteps P T (after_step P ws step) lines)

pub behind-last : (P : Project) (T : ℕ) (ws : List Window) (step : BoundStep) (lines : List BoundLine) (b : Bool) → b ≡ true → Behind P T ws step lines b → IsEnd lines
behind-last P T ws step lines b is h = subst (Behind P T ws step lines) is h

pub behind-other : (P : Project) (T : ℕ) (ws : List Window) (step : BoundStep) (lines : List BoundLine) (b : Bool) → b ≡ false → Behind P T ws step lines b → AreSteps P T (after_step P ws step) lines
behind-other P T ws step lines b is h = subst (Behind P T ws step lines) is h

last-behind : (P : Project) (T : ℕ) (ws : List Window) (step : BoundStep) (lines : List BoundLine) (b : Bool) → b ≡ true → IsEnd lines → Behind P T ws step lines b
last-behind P T ws step lines b is h = subst (Behind P T ws step lines) (sym is) h

other-behind : (P : Project) (T : ℕ) (ws : List Window) (step : BoundStep) (lines : List BoundLine) (b : Bool) → b ≡ false → AreSteps P T (after_step P ws step) lines → Behind P T ws step lines b
other-behind P T ws step lines b is h = subst (Behind P T ws step lines) (sym is) h

-- Each line is one that there may be.

allowed-numbers : (P : Project) (T : ℕ) (ws : List Window) (step : BoundStep) → IsProject P → T ≤ 1290000 → IsAllowed P T ws step → HasNumbers step
allowed-numbers P T ws (Head i j) is soon a = let own = is.acyclic.jobs i j a.1.before in let few = is.limits.few_jobs in let x = own.0.1 in let y = own.1.1 in (omega arith, omega arith)
allowed-numbers P T ws (Tail i j) is soon a = let own = is.acyclic.jobs i j a.1.before in let few = is.limits.few_jobs in let x = own.0.1 in let y = own.1.1 in (omega arith, omega arith)
allowed-numbers P T ws (Disjoint i j k) is soon a =
    let few = is.limits.few_jobs in let rs = is.limits.few_renewables in
    let x = a.1.conflict.first.1 in let y = a.1.conflict.second.1 in let z = a.1.conflict.renewable.1 in
    (omega arith, omega arith, omega arith)
allowed-numbers P T ws (Work k a b) is soon h =
    let rs = is.limits.few_renewables in let z = h.1.renewable.1 in let x = h.1.forwards in let y = h.1.by_end in
    (omega arith, omega arith, omega arith)
allowed-numbers P T ws (Empty j) is soon a = let few = is.limits.few_jobs in let x = a.0.1 in omega arith

end-lines : (lines : List BoundLine) → IsEnd lines → AllByRecursion IsLine lines
end-lines [] h = tt
end-lines (line ∷ lines) h = (subst IsLine (sym h.0) tt, subst (AllByRecursion IsLine) (sym h.1) tt)

steps-lines : (P : Project) (T : ℕ) (ws : List Window) (lines : List BoundLine) → IsProject P → T ≤ 1290000 → AreSteps P T ws lines → AllByRecursion IsLine lines
steps-lines P T ws [] is soon h = tt
steps-lines P T ws (Step step ∷ lines) is soon h = (
  allowed-numbers P T ws step is soon h.0,
  elim (cases_Bool (is_contradiction step)) [
    | inl last ↦ end-lines lines (behind-last P T ws step lines (is_contradiction step) last h.1)
    | inr other ↦ steps-lines P T (after_step P ws step) lines is soon (behind-other P T ws step lines (is_contradiction step) other h.1)
  ],
)
steps-lines P T ws (Title ∷ lines) is soon h = absurd h
steps-lines P T ws (Bound b ∷ lines) is soon h = absurd h
steps-lines P T ws (End ∷ lines) is soon h = absurd h

bound-lines : (P : Project) (b : ℕ) (lines : List BoundLine) → IsProject P → b ≤ 1290001 → FollowsBound P b lines → AllByRecursion IsLine lines
bound-lines P zero lines is most h = end-lines lines h
bound-lines P (suc T) lines is most h = steps-lines P T (first_windows P T) lines is (omega arith) h

title-lines : (P : Project) (lines : List BoundLine) → IsProject P → FollowsTitle P lines → AllByRecursion IsLine lines
title-lines P [] is h = tt
title-lines P (Bound b ∷ lines) is h = (let most = h.0 in omega arith, bound-lines P b lines is h.0 h.1)
title-lines P (Title ∷ lines) is h = absurd h
title-lines P (Step step ∷ lines) is h = absurd h
title-lines P (End ∷ lines) is h = absurd h

pub are-lines : (P : Project) (lines : List BoundLine) → IsProject P → IsBeginning P lines → AllByRecursion IsLine lines
are-lines P [] is h = tt
are-lines P (Title ∷ lines) is h = (tt, title-lines P lines is h)
are-lines P (Bound b ∷ lines) is h = absurd h
are-lines P (Step step ∷ lines) is h = absurd h
are-lines P (End ∷ lines) is h = absurd h

last-of : (lines : List BoundLine) (line : BoundLine) → AllByRecursion IsLine (lines ++ line ∷ []) → IsLine line
last-of [] line h = h.0
last-of (l ∷ lines) line h = last-of lines line h.1

pub is-line : (P : Project) (lines : List BoundLine) (line : BoundLine) → IsProject P → IsBeginning P (lines ++ line ∷ []) → IsLine line
is-line P lines line is h = last-of lines line (are-lines P (lines ++ line ∷ []) is h)

-- The lines before others may stand there.

none-before : (xs ys : List BoundLine) → xs ++ ys ≡ [] → xs ≡ []
none-before [] ys e = refl
none-before (x ∷ xs) ys e = absurd (cc)

end-front : (xs ys : List BoundLine) → IsEnd (xs ++ ys) → IsEnd xs
end-front [] ys h = tt
end-front (x ∷ xs) ys h = (h.0, none-before xs ys h.1)

steps-front : (P : Project) (T : ℕ) (ws : List Window) (xs ys : List BoundLine) → AreSteps P T ws (xs ++ ys) → AreSteps P T ws xs
steps-front P T ws [] ys h = tt
steps-front P T ws (Step step ∷ xs) ys h = (
  h.0,
  elim (cases_Bool (is_contradiction step)) [
    | inl last ↦ last-behind P T ws step xs (is_contradiction step) last (end-front xs ys (behind-last P T ws step (xs ++ ys) (is_contradiction step) last h.1))
    | inr other ↦ other-behind P T ws step xs (is_contradiction step) other (steps-front P T (after_step P ws step) xs ys (behind-other P T ws step (xs ++ ys) (is_contradiction step) other h.1))
  ],
)
steps-front P T ws (Title ∷ xs) ys h = absurd h
steps-front P T ws (Bound b ∷ xs) ys h = absurd h
steps-front P T ws (End ∷ xs) ys h = absurd h

bound-front : (P : Project) (b : ℕ) (xs ys : List BoundLine) → FollowsBound P b (xs ++ ys) → FollowsBound P b xs
bound-front P zero xs ys h = end-front xs ys h
bound-front P (suc T) xs ys h = steps-front P T (first_windows P T) xs ys h

title-front : (P : Project) (xs ys : List BoundLine) → FollowsTitle P (xs ++ ys) → FollowsTitle P xs
title-front P [] ys h = tt
title-front P (Bound b ∷ xs) ys h = (h.0, bound-front P b xs ys h.1)
title-front P (Title ∷ xs) ys h = absurd h
title-front P (Step step ∷ xs) ys h = absurd h
title-front P (End ∷ xs) ys h = absurd h

pub front : (P : Project) (xs ys : List BoundLine) → IsBeginning P (xs ++ ys) → IsBeginning P xs
front P [] ys h = tt
front P (Title ∷ xs) ys h = title-front P xs ys h
front P (Bound b ∷ xs) ys h = absurd h
front P (Step step ∷ xs) ys h = absurd h
front P (End ∷ xs) ys h = absurd h

-- the line behind these
pub front-line : (P : Project) (xs : List BoundLine) (line : BoundLine) (more : List BoundLine) → IsBeginning P (xs ++ line ∷ more) → IsBeginning P (xs ++ line ∷ [])
front-line P xs line more h = front P (xs ++ line ∷ []) more (subst (IsBeginning P) (sym (append_assoc xs (line ∷ []) more)) h)

-- Behind the last line stands none.

end-behind : (xs : List BoundLine) (line : BoundLine) → list_any is_end xs ≡ true → IsEnd (xs ++ line ∷ []) → ⊥
end-behind [] line e h = absurd (cc)
end-behind (x ∷ []) line e h = let bad = h.1 in absurd (cc)
end-behind (x ∷ y ∷ xs) line e h = let bad = h.1 in absurd (cc)

steps-behind : (P : Project) (T : ℕ) (ws : List Window) (xs : List BoundLine) (line : BoundLine) → list_any is_end xs ≡ true → AreSteps P T ws (xs ++ line ∷ []) → ⊥
steps-behind P T ws [] line e h = absurd (cc)
steps-behind P T ws (Step step ∷ xs) line e h = elim (cases_Bool (is_contradiction step)) [
  | inl last ↦ end-behind xs line e (behind-last P T ws step (xs ++ line ∷ []) (is_contradiction step) last h.1)
  | inr other ↦ steps-behind P T (after_step P ws step) xs line e (behind-other P T ws step (xs ++ line ∷ []) (is_contradiction step) other h.1)
]
steps-behind P T ws (Title ∷ xs) line e h = h
steps-behind P T ws (Bound b ∷ xs) line e h = h
steps-behind P T ws (End ∷ xs) line e h = h

bound-behind : (P : Project) (b : ℕ) (xs : List BoundLine) (line : BoundLine) → list_any is_end xs ≡ true → FollowsBound P b (xs ++ line ∷ []) → ⊥
bound-behind P zero xs line e h = end-behind xs line e h
bound-behind P (suc T) xs line e h = steps-behind P T (first_windows P T) xs line e h

title-behind : (P : Project) (xs : List BoundLine) (line : BoundLine) → list_any is_end xs ≡ true → FollowsTitle P (xs ++ line ∷ []) → ⊥
title-behind P [] line e h = absurd (cc)
title-behind P (Bound b ∷ xs) line e h = bound-behind P b xs line e h.1
title-behind P (Title ∷ xs) line e h = h
title-behind P (Step step ∷ xs) line e h = h
title-behind P (End ∷ xs) line e h = h

pub none-behind : (P : Project) (xs : List BoundLine) (line : BoundLine) → list_any is_end xs ≡ true → IsBeginning P (xs ++ line ∷ []) → ⊥
none-behind P [] line e h = absurd (cc)
none-behind P (Title ∷ xs) line e h = title-behind P xs line e h
none-behind P (Bound b ∷ xs) line e h = h
none-behind P (Step step ∷ xs) line e h = h
none-behind P (End ∷ xs) line e h = h

-- Behind steps.

pub follow : (P : Project) (T : ℕ) (ws last : List Window) (steps : List BoundStep) (lines : List BoundLine) → LeadsTo P T ws steps last → AreSteps P T ws (map Step steps ++ lines) → AreSteps P T last lines
follow P T ws last [] lines leads h = subst (λ (v : List Window). AreSteps P T v lines) (sym leads) h
follow P T ws last (step ∷ steps) lines leads h =
    follow P T (after_step P ws step) last steps lines leads.2 (behind-other P T ws step (map Step steps ++ lines) (is_contradiction step) leads.1 h.1)

pub lead : (P : Project) (T : ℕ) (ws last : List Window) (steps : List BoundStep) (lines : List BoundLine) → LeadsTo P T ws steps last → AreSteps P T last lines → AreSteps P T ws (map Step steps ++ lines)
lead P T ws last [] lines leads h = subst (λ (v : List Window). AreSteps P T v lines) leads h
lead P T ws last (step ∷ steps) lines leads h =
    (leads.0, other-behind P T ws step (map Step steps ++ lines) (is_contradiction step) leads.1 (lead P T (after_step P ws step) last steps lines leads.2 h))

abbrev Refuted : Project → ℕ → List Window → BoundStep → List BoundStep → Bool → Type 0
Refuted P T ws step steps b = MatchBool b (steps ≡ []) (RefutesFrom P T (after_step P ws step) steps)

steps-shown : (P : Project) (T : ℕ) (ws : List Window) (steps : List BoundStep) (lines : List BoundLine) → RefutesFrom P T ws steps → IsEnd lines → AreSteps P T ws (map Step steps ++ lines)
steps-shown P T ws [] lines r h = absurd r
steps-shown P T ws (step ∷ steps) lines r h = (
  r.0,
  elim (cases_Bool (is_contradiction step)) [
    | inl last ↦ last-behind P T ws step (map Step steps ++ lines) (is_contradiction step) last (subst (λ (ss : List BoundStep). IsEnd (map Step ss ++ lines)) (sym (subst (Refuted P T ws step steps) last r.1)) h)
    | inr other ↦ other-behind P T ws step (map Step steps ++ lines) (is_contradiction step) other (steps-shown P T (after_step P ws step) steps lines (subst (Refuted P T ws step steps) other r.1) h)
  ],
)

steps-end : (P : Project) (T : ℕ) (ws : List Window) (steps : List BoundStep) (lines : List BoundLine) → RefutesFrom P T ws steps → AreSteps P T ws (map Step steps ++ lines) → IsEnd lines
steps-end P T ws [] lines r h = absurd r
steps-end P T ws (step ∷ steps) lines r h = elim (cases_Bool (is_contradiction step)) [
  | inl last ↦ subst (λ (ss : List BoundStep). IsEnd (map Step ss ++ lines)) (subst (Refuted P T ws step steps) last r.1) (behind-last P T ws step (map Step steps ++ lines) (is_contradiction step) last h.1)
  | inr other ↦ steps-end P T (after_step P ws step) steps lines (subst (Refuted P T ws step steps) other r.1) (behind-other P T ws step (map Step steps ++ lines) (is_contradiction step) other h.1)
]

refutes-before : (P : Project) (T : ℕ) (steps : List BoundStep) → ShowsBound P (suc T) steps → Refutes P T steps
refutes-before P T steps shows = let e : suc T - 1 ≡ T = omega arith in subst (λ (n : ℕ). Refutes P n steps) e (shows.refutes (omega arith))

-- behind the steps of a bound stands the last line, and nothing else
pub shown-follows : (P : Project) (b : ℕ) (steps : List BoundStep) (lines : List BoundLine) → ShowsBound P b steps → IsEnd lines → FollowsBound P b (map Step steps ++ lines)
shown-follows P zero steps lines shows h = subst (λ (ss : List BoundStep). IsEnd (map Step ss ++ lines)) (sym (shows.none refl)) h
shown-follows P (suc T) steps lines shows h = steps-shown P T (first_windows P T) steps lines (refutes-before P T steps shows) h

pub shown-end : (P : Project) (b : ℕ) (steps : List BoundStep) (lines : List BoundLine) → ShowsBound P b steps → FollowsBound P b (map Step steps ++ lines) → IsEnd lines
shown-end P zero steps lines shows h = subst (λ (ss : List BoundStep). IsEnd (map Step ss ++ lines)) (shows.none refl) h
shown-end P (suc T) steps lines shows h = steps-end P T (first_windows P T) steps lines (refutes-before P T steps shows) h

-- The lines of an accepted text, and those for which a stage stands.

pub bound-begins : (P : Project) (b : ℕ) (steps : List BoundStep) → b ≤ 1290001 → ShowsBound P b steps → IsBeginning P (bound_lines b steps)
bound-begins P b steps most shows = (most, shown-follows P b steps (End ∷ []) shows (refl, refl))

steps-begin : (P : Project) (W : TimeWindows) (lines : List BoundLine) → HasSteps P W lines → IsBeginning P lines
steps-begin P W lines h =
    let own = lead P W.end (first_windows P W.end) W.windows h.steps [] h.leads tt in
    let soon = h.soon in
    subst (IsBeginning P) (sym h.lines_are) (omega arith, subst (AreSteps P W.end (first_windows P W.end)) (append-nil (map Step h.steps)) own)

shown-begin : (P : Project) (b : ℕ) (lines : List BoundLine) → HasShown P b lines → IsBeginning P lines
shown-begin P b lines h =
    subst (IsBeginning P) (sym h.lines_are) (h.most, subst (FollowsBound P b) (append-nil (map Step h.steps)) (shown-follows P b h.steps [] h.shows tt))

pub at-begins : (P : Project) (stage : Stage) (W : TimeWindows) (lines : List BoundLine) → IsAt P stage W lines → IsBeginning P lines
at-begins P stages.Title W lines at = subst (IsBeginning P) (sym at) tt
at-begins P stages.Bound W lines at = subst (IsBeginning P) (sym at) tt
at-begins P stages.Step W lines at = steps-begin P W lines at
at-begins P (stages.End b) W lines at = shown-begin P b lines at
at-begins P (stages.Ended b) W lines at = subst (IsBeginning P) (sym at.lines_are) (bound-begins P b at.steps at.most at.shows)
