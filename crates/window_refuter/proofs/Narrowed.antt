-- A step that narrows a window leaves less room, and windows inside those before it.
use Rattle.std.proofs.Common.{◌≡◌, ℕ, ◌+◌, ◌-◌, ◌<◌, ◌≤◌, ◌⊎◌, inl, inr, arith, refl, sym, ap, subst, ◌∙◌, max, min, List, [], ◌∷◌, ◌++◌, length, get_or, take, Bool, true, false}
use Rattle.std.specs.Prelude.{All}
use Rattle.std.proofs.lemmas.Bool.{cases_eq}
use Rattle.std.proofs.lemmas.List.{take_all}
use Rattle.std.proofs.lemmas.List.Sums.{sum_by-set}
use Rattle.std.proofs.lemmas.List.Elements.{All-head, All-cons, All-nil, All-more, All-tail}
use Rattle.rcpsp_model.specs.Project.{Project, job_count, IsAcyclic, IsJob}
use Rattle.window_refuter.specs.declared.window.Window.{Window}
use Rattle.window_refuter.specs.declared.step.BoundStep.{BoundStep}
use Rattle.window_refuter.specs.declared.step.BoundStep.TheVariants.{Head, Tail, Disjoint, Work, Empty}
use Rattle.window_refuter.specs.declared.propagation.Tightened.{Tightened}
use Rattle.window_refuter.specs.declared.propagation.Tightened.TheVariants.{Unchanged, Changed, Emptied}
use Rattle.window_refuter.specs.Windows.{no_window, window_of, es_of, lf_of, earliest_finish, latest_start, AreWithin, IsEmptyWindow, NoneIsEmpty, LiesInside}
use Rattle.window_refuter.specs.Steps.{IsAllowed, is_contradiction, with_start, with_finish, after_step, RefutesFrom}
use Rattle.window_refuter.specs.Narrowing.{Narrows, IsTaken}
use Rattle.window_refuter.specs.Propagation.{LeadsTo, room, IsNarrowed, IsTightened, IsChecked}
use Rattle.window_refuter.proofs.Within.{narrow-within}
use Rattle.window_refuter.proofs.WindowLimits.{es_limit, lf_limit, with_start-es, with_start-lf, with_finish-es, with_finish-lf, length-with_start}

-- the room of one window
abbrev room_of : Window → ℕ
room_of w = w.latest_finish + (1290000 - w.earliest_start)

room-with_start : (ws : List Window) (j t : ℕ) → j - 1 < length ws → es_of ws j ≤ t → t ≤ 1290000 → room (with_start ws j t) + (t - es_of ws j) ≡ room ws
unfolding room with_start window_of
room-with_start ws j t within up soon = let e = sum_by-set room_of ws (j - 1) (record { earliest_start = t; latest_finish = lf_of ws j }) no_window within in omega arith

room-with_finish : (ws : List Window) (j t : ℕ) → j - 1 < length ws → t ≤ lf_of ws j → room (with_finish ws j t) + (lf_of ws j - t) ≡ room ws
unfolding room with_finish window_of
room-with_finish ws j t within down = let e = sum_by-set room_of ws (j - 1) (record { earliest_start = es_of ws j; latest_finish = t }) no_window within in omega arith

module _ (P : Project) (T : ℕ) (ws : List Window) (acyclic : IsAcyclic P) (soon : T ≤ 1290000) (size : length ws ≡ job_count P) (within : AreWithin T ws) (none : NoneIsEmpty P ws) where
  place : (j : ℕ) → IsJob P j → j - 1 < length ws
  place j job = let low = job.0 in let high = job.1 in omega arith

  end-limit : (j : ℕ) → lf_of ws j ≤ T
  end-limit j = lf_limit ws j T within.finishes

  start-limit : (j : ℕ) → es_of ws j ≤ 1290000
  start-limit j = es_limit ws j 1290000 within.starts

  pub less-room : (step : BoundStep) → Narrows P ws step → room (after_step P ws step) < room ws
  less-room (Head i j) n =
      let are = acyclic.jobs i j n.before in
      let own = none i are.0 in let end = end-limit i in let raises = n.raises in
      let e = room-with_start ws j (earliest_finish P ws i) (place j are.1) (omega arith) (omega arith) in
      omega arith
  less-room (Tail i j) n =
      let are = acyclic.jobs i j n.before in
      let lowers = n.lowers in
      let e = room-with_finish ws i (latest_start P ws j) (place i are.0) (omega arith) in
      omega arith
  less-room (Disjoint i j k) n =
      let own = none i n.conflict.first in let end = end-limit i in let start = start-limit j in
      let t = max (es_of ws j) (earliest_finish P ws i) in
      let u = min (lf_of ws i) (latest_start P ws j) in
      let one = room-with_start ws j t (place j n.conflict.second) (omega arith) (omega arith) in
      let same = with_start-lf ws j t i in
      let two = room-with_finish (with_start ws j t) i u (let l = length-with_start ws j t in let p = place i n.conflict.first in omega arith) (omega arith) in
      elim n.changes [ inl raises ↦ omega arith | inr lowers ↦ omega arith ]
  less-room (Work k a b) n = absurd n
  less-room (Empty j) n = absurd n

  start-inside : (ws : List Window) (j t : ℕ) → IsJob P j → es_of ws j ≤ t → LiesInside P (with_start ws j t) ws
  start-inside ws j t job up = record {
    starts = λ x other. elim (with_start-es ws j t x job.0 other.0) [ inl own ↦ let same = ap (es_of ws) own.0 in let is = own.1 in omega arith | inr old ↦ omega arith ];
    finishes = λ x other. let kept = with_start-lf ws j t x in omega arith;
  }

  finish-inside : (ws : List Window) (j t : ℕ) → IsJob P j → t ≤ lf_of ws j → LiesInside P (with_finish ws j t) ws
  finish-inside ws j t job down = record {
    starts = λ x other. let kept = with_finish-es ws j t x in omega arith;
    finishes = λ x other. elim (with_finish-lf ws j t x job.0 other.0) [ inl own ↦ let same = ap (lf_of ws) own.0 in let is = own.1 in omega arith | inr old ↦ omega arith ];
  }

  pub narrow-inside : (step : BoundStep) → Narrows P ws step → LiesInside P (after_step P ws step) ws
  narrow-inside (Head i j) n = let raises = n.raises in start-inside ws j (earliest_finish P ws i) (acyclic.jobs i j n.before).1 (omega arith)
  narrow-inside (Tail i j) n = let lowers = n.lowers in finish-inside ws i (latest_start P ws j) (acyclic.jobs i j n.before).0 (omega arith)
  narrow-inside (Disjoint i j k) n =
      let t = max (es_of ws j) (earliest_finish P ws i) in
      let u = min (lf_of ws i) (latest_start P ws j) in
      let same = with_start-lf ws j t i in
      let one = start-inside ws j t n.conflict.second (omega arith) in
      let two = finish-inside (with_start ws j t) i u n.conflict.first (omega arith) in
      record {
        starts = λ x job. let a = one.starts x job in let b = two.starts x job in omega arith;
        finishes = λ x job. let a = one.finishes x job in let b = two.finishes x job in omega arith;
      }
  narrow-inside (Work k a b) n = absurd n
  narrow-inside (Empty j) n = absurd n

  -- a step that narrows a window, none of which is empty, is allowed
  pub narrows-allowed : (step : BoundStep) → Narrows P ws step → IsAllowed P T ws step × (is_contradiction step ≡ false)
  narrows-allowed (Head i j) n = ((none, n), refl)
  narrows-allowed (Tail i j) n = ((none, n), refl)
  narrows-allowed (Disjoint i j k) n = ((none, n), refl)
  narrows-allowed (Work k a b) n = absurd n
  narrows-allowed (Empty j) n = absurd n

  -- a job's window isn't empty
  abbrev HasRoom : List Window → ℕ → Type 0
  HasRoom new y = earliest_finish P new y ≤ lf_of new y

  -- the other windows aren't empty either, where those that the step narrows aren't
  pub checked-none : (step : BoundStep) → Narrows P ws step → IsChecked P step (after_step P ws step) Changed → NoneIsEmpty P (after_step P ws step)
  checked-none (Head i j) n c x job =
      let kept = with_start-lf ws j (earliest_finish P ws i) x in
      let old = none x job in
      elim (with_start-es ws j (earliest_finish P ws i) x (acyclic.jobs i j n.before).1.0 job.0) [
        | inl own ↦ subst (HasRoom (with_start ws j (earliest_finish P ws i))) (sym own.0) (All-head (HasRoom (with_start ws j (earliest_finish P ws i))) j [] c)
        | inr same ↦ omega arith
      ]
  checked-none (Tail i j) n c x job =
      let kept = with_finish-es ws i (latest_start P ws j) x in
      let old = none x job in
      elim (with_finish-lf ws i (latest_start P ws j) x (acyclic.jobs i j n.before).0.0 job.0) [
        | inl own ↦ subst (HasRoom (with_finish ws i (latest_start P ws j))) (sym own.0) (All-head (HasRoom (with_finish ws i (latest_start P ws j))) i [] c)
        | inr same ↦ omega arith
      ]
  checked-none (Disjoint i j k) n c x job =
      let t = max (es_of ws j) (earliest_finish P ws i) in
      let u = min (lf_of ws i) (latest_start P ws j) in
      let mid = with_start ws j t in
      let old = none x job in
      let es2 = with_finish-es mid i u x in
      let lf1 = with_start-lf ws j t x in
      elim (cases_eq x i) [
        | inl first ↦ subst (HasRoom (with_finish mid i u)) (sym first) (All-head (HasRoom (with_finish mid i u)) i (j ∷ []) c)
        | inr not_first ↦ elim (cases_eq x j) [
          | inl second ↦ subst (HasRoom (with_finish mid i u)) (sym second) (All-head (HasRoom (with_finish mid i u)) j [] (All-tail (HasRoom (with_finish mid i u)) i (j ∷ []) c))
          | inr not_second ↦ elim (with_finish-lf mid i u x n.conflict.first.0 job.0) [
            | inl own ↦ absurd (not_first own.0)
            | inr lf2 ↦ elim (with_start-es ws j t x n.conflict.second.0 job.0) [
              | inl own ↦ absurd (not_second own.0)
              | inr es1 ↦ omega arith
            ]
          ]
        ]
      ]
  checked-none (Work k a b) n c x job = absurd n
  checked-none (Empty j) n c x job = absurd n

-- Steps that lead from windows to windows.
pub leads-push : (P : Project) (T : ℕ) (first ws : List Window) (steps : List BoundStep) (step : BoundStep) → LeadsTo P T first steps ws → IsAllowed P T ws step → is_contradiction step ≡ false → LeadsTo P T first (steps ++ step ∷ []) (after_step P ws step)
leads-push P T first ws [] step leads allowed further = (subst (λ (v : List Window). IsAllowed P T v step) leads allowed, further, ap (λ (v : List Window). after_step P v step) leads)
leads-push P T first ws (s ∷ steps) step leads allowed further = (leads.0, leads.1, leads-push P T (after_step P first s) ws steps step leads.2 allowed further)

-- and then a contradiction
pub leads-refutes : (P : Project) (T : ℕ) (first ws : List Window) (steps : List BoundStep) (step : BoundStep) → LeadsTo P T first steps ws → IsAllowed P T ws step → is_contradiction step ≡ true → RefutesFrom P T first (steps ++ step ∷ [])
leads-refutes P T first ws [] step leads allowed last = (subst (λ (v : List Window). IsAllowed P T v step) leads allowed, rw last refl)
leads-refutes P T first ws (s ∷ steps) step leads allowed last = (leads.0, rw leads.1 (leads-refutes P T (after_step P first s) ws steps step leads.2 allowed last))

pub narrowed_itself : (P : Project) (T : ℕ) (old new : List Window) (steps : List BoundStep) → new ≡ old → IsNarrowed P T old steps new steps
narrowed_itself P T old new steps same = record {
  leads = λ first l. subst (LeadsTo P T first steps) (sym same) l;
  inside = subst (λ (v : List Window). LiesInside P v old) (sym same) (record { starts = λ j job. omega arith; finishes = λ j job. omega arith });
}

pub narrowed-then : (P : Project) (T : ℕ) (a b c : List Window) (as_ bs cs : List BoundStep) → IsNarrowed P T a as_ b bs → IsNarrowed P T b bs c cs → IsNarrowed P T a as_ c cs
narrowed-then P T a b c as_ bs cs one two = record {
  leads = λ first l. two.leads first (one.leads first l);
  inside = record {
    starts = λ j job. let x = one.inside.starts j job in let y = two.inside.starts j job in omega arith;
    finishes = λ j job. let x = one.inside.finishes j job in let y = two.inside.finishes j job in omega arith;
  };
}

-- Whether a step was taken.
pub taken-true : (P : Project) (ws new : List Window) (step : BoundStep) (b : Bool) → b ≡ true → IsTaken P ws step b new → Narrows P ws step × (new ≡ after_step P ws step)
taken-true P ws new step b is t = subst (λ (x : Bool). IsTaken P ws step x new) is t

pub taken-false : (P : Project) (ws new : List Window) (step : BoundStep) (b : Bool) → b ≡ false → IsTaken P ws step b new → (Narrows P ws step → ⊥) × (new ≡ ws)
taken-false P ws new step b is t = subst (λ (x : Bool). IsTaken P ws step x new) is t

-- what a step that wasn't taken leaves
pub left-tightened : (P : Project) (ws new : List Window) (step : BoundStep) → (Narrows P ws step → ⊥) → new ≡ ws → IsTightened P (step ∷ []) ws Unchanged new
left-tightened P ws new step fails same = (same, All-cons (λ (s : BoundStep). Narrows P ws s → ⊥) step [] fails (All-nil (λ (s : BoundStep). Narrows P ws s → ⊥)))

module _ (P : Project) (T : ℕ) (ws new : List Window) (step : BoundStep) (acyclic : IsAcyclic P) (soon : T ≤ 1290000) (size : length ws ≡ job_count P) (within : AreWithin T ws) (none : NoneIsEmpty P ws) (narrows : Narrows P ws step) (is : new ≡ after_step P ws step) where
  pub taken-narrowed : (steps now : List BoundStep) → now ≡ steps ++ step ∷ [] → IsNarrowed P T ws steps new now
  taken-narrowed steps now pushed = record {
    leads = λ first l.
        let allowed = narrows-allowed P T ws acyclic soon size within none step narrows in
        subst (λ (v : List Window). LeadsTo P T first now v) (sym is) (subst (λ (ss : List BoundStep). LeadsTo P T first ss (after_step P ws step)) (sym pushed) (leads-push P T first ws steps step l allowed.0 allowed.1));
    inside = subst (λ (v : List Window). LiesInside P v ws) (sym is) (narrow-inside P T ws acyclic soon size within none step narrows);
  }

  pub taken-within : AreWithin T new
  taken-within = subst (AreWithin T) (sym is) (narrow-within P T ws step acyclic soon none within narrows)

  pub taken-tightened : (t : Tightened) → IsChecked P step new t → IsTightened P (step ∷ []) ws t new
  taken-tightened t c = at t (subst (λ (v : List Window). IsChecked P step v t) is c)
    where
      never : (s : BoundStep) → Narrows P ws s → IsChecked P s (after_step P ws s) Unchanged → ⊥
      never (Head i j) n c' = c'
      never (Tail i j) n c' = c'
      never (Disjoint i j k) n c' = c'
      never (Work k a b) n c' = n
      never (Empty j) n c' = n

      empty : (s : BoundStep) (x : ℕ) → Narrows P ws s → IsChecked P s (after_step P ws s) (Emptied x) → IsJob P x × IsEmptyWindow P (after_step P ws s) x
      empty (Head i j) x n c' = c'
      empty (Tail i j) x n c' = c'
      empty (Disjoint i j k) x n c' = c'
      empty (Work k a b) x n c' = absurd n
      empty (Empty j) x n c' = absurd n

      at : (t : Tightened) → IsChecked P step (after_step P ws step) t → IsTightened P (step ∷ []) ws t new
      at Unchanged c' = absurd (never step narrows c')
      at Changed c' = subst (λ (v : List Window). (room v < room ws) × NoneIsEmpty P v) (sym is) (less-room P T ws acyclic soon size within none step narrows, checked-none P T ws acyclic soon size within none step narrows c')
      at (Emptied x) c' = subst (λ (v : List Window). IsJob P x × IsEmptyWindow P v x) (sym is) (empty step x narrows c')

-- What became of windows by the first steps of many: as of all, but no window is empty.
abbrev pub IsSoFar : Project → List BoundStep → List Window → Tightened → List Window → Type 0
IsSoFar P tried old Unchanged new = (new ≡ old) × All (λ step. Narrows P old step → ⊥) tried
IsSoFar P tried old Changed new = room new < room old
IsSoFar P tried old (Emptied j) new = ⊥

-- one step more
pub tried-unchanged : (P : Project) (tried : List BoundStep) (i : ℕ) (d : BoundStep) (old now new : List Window) (so_far t : Tightened) → i < length tried → t ≡ Unchanged → IsTightened P (get_or tried i d ∷ []) now t new → IsSoFar P (take i tried) old so_far now →
    IsSoFar P (take (i + 1) tried) old so_far new
tried-unchanged P tried i d old now new Unchanged t within is own before =
    let u = subst (λ (x : Tightened). IsTightened P (get_or tried i d ∷ []) now x new) is own in
    (u.0 ∙ before.0, All-more (λ (s : BoundStep). Narrows P old s → ⊥) tried i d within before.1 (subst (λ (v : List Window). Narrows P v (get_or tried i d) → ⊥) before.0 (All-head (λ (s : BoundStep). Narrows P now s → ⊥) (get_or tried i d) [] u.1)))
tried-unchanged P tried i d old now new Changed t within is own before =
    let u = subst (λ (x : Tightened). IsTightened P (get_or tried i d ∷ []) now x new) is own in
    let same = ap room u.0 in omega arith
tried-unchanged P tried i d old now new (Emptied j) t within is own before = before

pub tried-changed : (P : Project) (tried : List BoundStep) (i : ℕ) (step : BoundStep) (old now new : List Window) (so_far t : Tightened) → t ≡ Changed → IsTightened P (step ∷ []) now t new → IsSoFar P (take i tried) old so_far now →
    IsSoFar P (take (i + 1) tried) old Changed new
tried-changed P tried i step old now new Unchanged t is own before =
    let u = subst (λ (x : Tightened). IsTightened P (step ∷ []) now x new) is own in
    let less = u.0 in let same = ap room before.0 in omega arith
tried-changed P tried i step old now new Changed t is own before =
    let u = subst (λ (x : Tightened). IsTightened P (step ∷ []) now x new) is own in
    let less = u.0 in omega arith
tried-changed P tried i step old now new (Emptied j) t is own before = absurd before

pub tried-none : (P : Project) (step : BoundStep) (now new : List Window) (t : Tightened) → NoneIsEmpty P now → ((t ≡ Unchanged) ⊎ (t ≡ Changed)) → IsTightened P (step ∷ []) now t new → NoneIsEmpty P new
tried-none P step now new t none (inl is) own = let u = subst (λ (x : Tightened). IsTightened P (step ∷ []) now x new) is own in subst (NoneIsEmpty P) (sym u.0) none
tried-none P step now new t none (inr is) own = (subst (λ (x : Tightened). IsTightened P (step ∷ []) now x new) is own).1

-- all steps
pub tried-all : (P : Project) (tried : List BoundStep) (i : ℕ) (old new : List Window) (so_far : Tightened) → length tried ≤ i → NoneIsEmpty P new → IsSoFar P (take i tried) old so_far new → IsTightened P tried old so_far new
tried-all P tried i old new Unchanged past none before = (before.0, subst (All (λ (s : BoundStep). Narrows P old s → ⊥)) (take_all i tried past) before.1)
tried-all P tried i old new Changed past none before = (before, none)
tried-all P tried i old new (Emptied j) past none before = absurd before
