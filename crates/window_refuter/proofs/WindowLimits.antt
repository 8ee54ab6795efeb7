-- The windows of a list, job by job: their limits, and what a change of one leaves.
use Rattle.std.proofs.Common.{◌≡◌, ℕ, ◌-◌, ◌<◌, ◌≤◌, ◌⊎◌, inl, inr, arith, sym, ap, ◌∙◌, List, length, get_or, set}
use Rattle.std.specs.Prelude.{All}
use Rattle.std.proofs.lemmas.Bool.{cases_lt, cases_eq}
use Rattle.std.proofs.lemmas.List.{get_or-set_same, get_or-set_other, length-set, get_or_past, set_past}
use Rattle.std.proofs.lemmas.List.Elements.{All-get_or}
use Rattle.window_refuter.specs.declared.window.Window.{Window}
use Rattle.window_refuter.specs.Windows.{no_window, window_of, es_of, lf_of}
use Rattle.window_refuter.specs.Steps.{with_start, with_finish}

pub es_limit : (ws : List Window) (j n : ℕ) → All (λ w. w.earliest_start ≤ n) ws → es_of ws j ≤ n
unfolding window_of
es_limit ws j n all = elim (cases_lt (j - 1) (length ws)) [
  | inl within ↦ All-get_or (λ (w : Window). w.earliest_start ≤ n) ws (j - 1) no_window within all
  | inr past ↦ let none = ap (λ (w : Window). w.earliest_start) (get_or_past ws (j - 1) no_window past) in omega arith
]

pub lf_limit : (ws : List Window) (j n : ℕ) → All (λ w. w.latest_finish ≤ n) ws → lf_of ws j ≤ n
unfolding window_of
lf_limit ws j n all = elim (cases_lt (j - 1) (length ws)) [
  | inl within ↦ All-get_or (λ (w : Window). w.latest_finish ≤ n) ws (j - 1) no_window within all
  | inr past ↦ let none = ap (λ (w : Window). w.latest_finish) (get_or_past ws (j - 1) no_window past) in omega arith
]

-- a write to one place is read there, or changes nothing that is read
at_set : (ws : List Window) (i n : ℕ) (w d : Window) → ((n ≡ i) × (get_or (set ws i w) n d ≡ w)) ⊎ (get_or (set ws i w) n d ≡ get_or ws n d)
at_set ws i n w d = elim (cases_eq n i) [
  | inr other ↦ inr (get_or-set_other ws i n w d other)
  | inl same ↦ elim (cases_lt i (length ws)) [
    | inl within ↦ inl (same, ap (λ (k : ℕ). get_or (set ws i w) k d) same ∙ get_or-set_same ws i w d within)
    | inr past ↦ inr (ap (λ (vs : List Window). get_or vs n d) (set_past ws i w past))
  ]
]

-- another earliest start of one job
pub with_start-es : (ws : List Window) (j t x : ℕ) → 1 ≤ j → 1 ≤ x → ((x ≡ j) × (es_of (with_start ws j t) x ≡ t)) ⊎ (es_of (with_start ws j t) x ≡ es_of ws x)
unfolding with_start window_of
with_start-es ws j t x low some = elim (at_set ws (j - 1) (x - 1) (record { earliest_start = t; latest_finish = lf_of ws j }) no_window) [
  | inl own ↦ inl (let place = own.0 in omega arith, ap (λ (w : Window). w.earliest_start) own.1)
  | inr old ↦ inr (ap (λ (w : Window). w.earliest_start) old)
]

pub with_start-lf : (ws : List Window) (j t x : ℕ) → lf_of (with_start ws j t) x ≡ lf_of ws x
unfolding with_start window_of
with_start-lf ws j t x = elim (at_set ws (j - 1) (x - 1) (record { earliest_start = t; latest_finish = lf_of ws j }) no_window) [
  | inl own ↦ ap (λ (w : Window). w.latest_finish) own.1 ∙ ap (λ (n : ℕ). (get_or ws n no_window).latest_finish) (sym own.0)
  | inr old ↦ ap (λ (w : Window). w.latest_finish) old
]

-- another latest finish of one job
pub with_finish-lf : (ws : List Window) (j t x : ℕ) → 1 ≤ j → 1 ≤ x → ((x ≡ j) × (lf_of (with_finish ws j t) x ≡ t)) ⊎ (lf_of (with_finish ws j t) x ≡ lf_of ws x)
unfolding with_finish window_of
with_finish-lf ws j t x low some = elim (at_set ws (j - 1) (x - 1) (record { earliest_start = es_of ws j; latest_finish = t }) no_window) [
  | inl own ↦ inl (let place = own.0 in omega arith, ap (λ (w : Window). w.latest_finish) own.1)
  | inr old ↦ inr (ap (λ (w : Window). w.latest_finish) old)
]

pub with_finish-es : (ws : List Window) (j t x : ℕ) → es_of (with_finish ws j t) x ≡ es_of ws x
unfolding with_finish window_of
with_finish-es ws j t x = elim (at_set ws (j - 1) (x - 1) (record { earliest_start = es_of ws j; latest_finish = t }) no_window) [
  | inl own ↦ ap (λ (w : Window). w.earliest_start) own.1 ∙ ap (λ (n : ℕ). (get_or ws n no_window).earliest_start) (sym own.0)
  | inr old ↦ ap (λ (w : Window). w.earliest_start) old
]

pub length-with_start : (ws : List Window) (j t : ℕ) → length (with_start ws j t) ≡ length ws
unfolding with_start
length-with_start ws j t = length-set ws (j - 1) _

pub length-with_finish : (ws : List Window) (j t : ℕ) → length (with_finish ws j t) ≡ length ws
unfolding with_finish
length-with_finish ws j t = length-set ws (j - 1) _

-- the changed window itself
pub with_start-own : (ws : List Window) (j t : ℕ) → j - 1 < length ws → es_of (with_start ws j t) j ≡ t
unfolding with_start window_of
with_start-own ws j t within = ap (λ (w : Window). w.earliest_start) (get_or-set_same ws (j - 1) (record { earliest_start = t; latest_finish = lf_of ws j }) no_window within)

pub with_finish-own : (ws : List Window) (j t : ℕ) → j - 1 < length ws → lf_of (with_finish ws j t) j ≡ t
unfolding with_finish window_of
with_finish-own ws j t within = ap (λ (w : Window). w.latest_finish) (get_or-set_same ws (j - 1) (record { earliest_start = es_of ws j; latest_finish = t }) no_window within)
