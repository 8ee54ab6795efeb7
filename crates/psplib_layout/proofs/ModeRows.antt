-- The numbers that the modes of a requests part are.
use Rattle.std.proofs.Common.{◌≡◌, ℕ, zero, suc, ◌+◌, ◌≤◌, List, [], ◌∷◌, ◌++◌, length, map, refl, ap, subst, ◌∙◌, arith}
use Rattle.std.specs.List.{AllByRecursion}
use Rattle.std.proofs.lemmas.List.{append-nil}
use Rattle.std.proofs.lemmas.List.Elements.{All-from_recursion, recursion_from_All}
use Rattle.rcpsp_model.specs.declared.parts.Mode.{Mode}
use Rattle.rcpsp_model.specs.Project.{IsModeWithinLimits}
use Rattle.psplib_layout.specs.Rule.{Keeps, up_to}
use Rattle.psplib_layout.specs.Wanted.{give, times, Stands, ◌>>=◌}
use Rattle.psplib_layout.specs.Requests.{mode_numbers, modes_numbers, all_modes_numbers, mode_row, mode_rows, job_modes, all_modes}
use Rattle.psplib_layout.proofs.Stand.{Stands-parts, Stands-both, given, times_found, times_again, Stands-cons_parts, Stands-cons}

-- numbers up to the limit
pub within_limit : (numbers : List ℕ) → AllByRecursion (Keeps (up_to 1000000)) numbers → AllByRecursion (λ n. n ≤ 1000000) numbers
within_limit [] h = tt
within_limit (n ∷ ns) h = (h.0.1, within_limit ns h.1)

pub keep_limit : (numbers : List ℕ) → AllByRecursion (λ n. n ≤ 1000000) numbers → AllByRecursion (Keeps (up_to 1000000)) numbers
keep_limit [] h = tt
keep_limit (n ∷ ns) h = ((omega arith, h.0), keep_limit ns h.1)

record ModeFound (renewables nonrenewables number : ℕ) (numbers : List ℕ) (mode : Mode) : Type 0 where
  same : numbers ≡ mode_numbers number mode
  limits : IsModeWithinLimits renewables nonrenewables mode

mode_is : (a number d : ℕ) (ns rs ms : List ℕ) → a ≡ number → ns ≡ rs ++ ms → a ∷ d ∷ ns ≡ number ∷ d ∷ rs ++ ms
mode_is a number d ns rs ms e f = rw (e, f) refl

mode_found : (renewables nonrenewables number : ℕ) (numbers : List ℕ) (mode : Mode) → Stands (mode_row renewables nonrenewables number) numbers mode → ModeFound renewables nonrenewables number numbers mode
unfolding mode_row
mode_found renewables nonrenewables number [] mode h = absurd h
mode_found renewables nonrenewables number (a ∷ []) mode h = absurd h.1
mode_found renewables nonrenewables number (a ∷ d ∷ ns) mode h =
    let b = Stands-parts (times renewables (up_to 1000000)) (λ rs. times nonrenewables (up_to 1000000) >>= λ ms. give (record { duration = d; requests = rs; needs = ms })) ns mode h.1.1 in
    let c = Stands-parts (times nonrenewables (up_to 1000000)) (λ ms. give (record { duration = d; requests = b.value; needs = ms })) b.back mode b.second in
    let read : Mode = record { duration = d; requests = b.value; needs = c.value } in
    let g = given read c.back mode c.second in
    let t = times_found renewables (up_to 1000000) b.front b.value b.first in
    let u = times_found nonrenewables (up_to 1000000) c.front c.value c.first in
    let first : a ≡ number = omega arith in
    let needs : b.back ≡ c.value = c.numbers_are ∙ ap (λ (ms : List ℕ). c.front ++ ms) g.0 ∙ append-nil c.front ∙ u.same in
    let rest : ns ≡ b.value ++ c.value = b.numbers_are ∙ ap (λ (rs : List ℕ). rs ++ b.back) t.same ∙ ap (λ (ms : List ℕ). b.value ++ ms) needs in
    let limits : IsModeWithinLimits renewables nonrenewables read = record {
      duration = omega arith;
      all_requests = t.count;
      all_needs = u.count;
      requests = All-from_recursion (λ n. n ≤ 1000000) b.value (within_limit b.value t.each);
      needs = All-from_recursion (λ n. n ≤ 1000000) c.value (within_limit c.value u.each);
    } in
    subst (ModeFound renewables nonrenewables number (a ∷ d ∷ ns)) g.1 (record { same = mode_is a number d ns b.value c.value first rest; limits = limits })

mode_again : (renewables nonrenewables number : ℕ) (mode : Mode) → IsModeWithinLimits renewables nonrenewables mode → Stands (mode_row renewables nonrenewables number) (mode_numbers number mode) mode
unfolding mode_row
mode_again renewables nonrenewables number mode h =
    let rs = mode.requests in
    let ms = mode.needs in
    let requests = times_again renewables (up_to 1000000) rs h.all_requests (keep_limit rs (recursion_from_All (λ n. n ≤ 1000000) rs h.requests)) in
    let needs = times_again nonrenewables (up_to 1000000) ms h.all_needs (keep_limit ms (recursion_from_All (λ n. n ≤ 1000000) ms h.needs)) in
    let tail : Stands (times nonrenewables (up_to 1000000) >>= λ xs. give (record { duration = mode.duration; requests = rs; needs = xs })) (ms ++ []) mode = Stands-both (times nonrenewables (up_to 1000000)) (λ xs. give (record { duration = mode.duration; requests = rs; needs = xs })) ms [] ms mode needs refl in
    let both = Stands-both (times renewables (up_to 1000000)) (λ xs. times nonrenewables (up_to 1000000) >>= λ ys. give (record { duration = mode.duration; requests = xs; needs = ys })) rs ms rs mode requests (rw append-nil at tail) in
    ((omega arith, omega arith), ((omega arith, h.duration), both))

pub record ModesFound (renewables nonrenewables left number : ℕ) (numbers : List ℕ) (modes : List Mode) : Type 0 where
  pub same : numbers ≡ modes_numbers number modes
  pub count : length modes ≡ left
  pub each : AllByRecursion (IsModeWithinLimits renewables nonrenewables) modes

pub modes_found : (renewables nonrenewables left number : ℕ) (numbers : List ℕ) (modes : List Mode) → Stands (mode_rows left renewables nonrenewables number) numbers modes → ModesFound renewables nonrenewables left number numbers modes
unfolding mode_rows
modes_found renewables nonrenewables zero number numbers modes h =
    let g = given [] numbers modes h in
    subst (ModesFound renewables nonrenewables 0 number numbers) g.1 (record { same = g.0; count = refl; each = tt })
modes_found renewables nonrenewables (suc left) number numbers modes h =
    let b = Stands-cons_parts (mode_row renewables nonrenewables number) (λ m. mode_rows left renewables nonrenewables (number + 1)) numbers modes h in
    let one = mode_found renewables nonrenewables number b.front b.value b.first in
    let others = modes_found renewables nonrenewables left (number + 1) b.back b.values b.second in
    let whole : numbers ≡ modes_numbers number (b.value ∷ b.values) = b.numbers_are ∙ ap (λ (xs : List ℕ). xs ++ b.back) one.same ∙ ap (λ (ys : List ℕ). mode_numbers number b.value ++ ys) others.same in
    subst (ModesFound renewables nonrenewables (suc left) number numbers) b.whole (record { same = whole; count = ap suc others.count; each = (one.limits, others.each) })

pub modes_again : (renewables nonrenewables left number : ℕ) (modes : List Mode) → length modes ≡ left → AllByRecursion (IsModeWithinLimits renewables nonrenewables) modes → Stands (mode_rows left renewables nonrenewables number) (modes_numbers number modes) modes
unfolding mode_rows
modes_again renewables nonrenewables zero number [] c e = refl
modes_again renewables nonrenewables zero number (m ∷ ms) c e = absurd cc
modes_again renewables nonrenewables (suc left) number [] c e = absurd cc
modes_again renewables nonrenewables (suc left) number (m ∷ ms) c e =
    let len : length ms ≡ left = omega arith in
    Stands-cons (mode_row renewables nonrenewables number) (λ v. mode_rows left renewables nonrenewables (number + 1)) (mode_numbers number m) (modes_numbers (number + 1) ms) m ms (mode_again renewables nonrenewables number m e.0) (modes_again renewables nonrenewables left (number + 1) ms len e.1)

-- ---- the modes of all jobs

abbrev EachWithin : ℕ → ℕ → List (List Mode) → Type 0
EachWithin renewables nonrenewables modes = AllByRecursion (λ ms. AllByRecursion (IsModeWithinLimits renewables nonrenewables) ms) modes

record JobFound (renewables nonrenewables job count : ℕ) (numbers : List ℕ) (modes : List Mode) : Type 0 where
  same : numbers ≡ job ∷ modes_numbers 1 modes
  count_is : length modes ≡ count
  each : AllByRecursion (IsModeWithinLimits renewables nonrenewables) modes

job_is : (a job : ℕ) (ns ms : List ℕ) → a ≡ job → ns ≡ ms → a ∷ ns ≡ job ∷ ms
job_is a job ns ms e f = rw (e, f) refl

job_found : (renewables nonrenewables job count : ℕ) (numbers : List ℕ) (modes : List Mode) → Stands (job_modes renewables nonrenewables job count) numbers modes → JobFound renewables nonrenewables job count numbers modes
unfolding job_modes
job_found renewables nonrenewables job count [] modes h = absurd h
job_found renewables nonrenewables job count (a ∷ ns) modes h =
    let first : a ≡ job = omega arith in
    let f = modes_found renewables nonrenewables count 1 ns modes h.1 in
    record { same = job_is a job ns (modes_numbers 1 modes) first f.same; count_is = f.count; each = f.each }

job_again : (renewables nonrenewables job count : ℕ) (modes : List Mode) → length modes ≡ count → AllByRecursion (IsModeWithinLimits renewables nonrenewables) modes → Stands (job_modes renewables nonrenewables job count) (job ∷ modes_numbers 1 modes) modes
unfolding job_modes
job_again renewables nonrenewables job count modes c e = ((omega arith, omega arith), modes_again renewables nonrenewables count 1 modes c e)

pub record AllFound (renewables nonrenewables job : ℕ) (counts numbers : List ℕ) (modes : List (List Mode)) : Type 0 where
  pub same : numbers ≡ all_modes_numbers job modes
  pub counts_are : map (λ ms. length ms) modes ≡ counts
  pub each : EachWithin renewables nonrenewables modes

pub all_found : (renewables nonrenewables job : ℕ) (counts numbers : List ℕ) (modes : List (List Mode)) → Stands (all_modes renewables nonrenewables job counts) numbers modes → AllFound renewables nonrenewables job counts numbers modes
unfolding all_modes
all_found renewables nonrenewables job [] numbers modes h =
    let g = given [] numbers modes h in
    subst (AllFound renewables nonrenewables job [] numbers) g.1 (record { same = g.0; counts_are = refl; each = tt })
all_found renewables nonrenewables job (count ∷ counts) numbers modes h =
    let b = Stands-cons_parts (job_modes renewables nonrenewables job count) (λ m. all_modes renewables nonrenewables (job + 1) counts) numbers modes h in
    let one = job_found renewables nonrenewables job count b.front b.value b.first in
    let others = all_found renewables nonrenewables (job + 1) counts b.back b.values b.second in
    let whole : numbers ≡ all_modes_numbers job (b.value ∷ b.values) = b.numbers_are ∙ ap (λ (xs : List ℕ). xs ++ b.back) one.same ∙ ap (λ (ys : List ℕ). (job ∷ modes_numbers 1 b.value) ++ ys) others.same in
    subst (AllFound renewables nonrenewables job (count ∷ counts) numbers) b.whole (record { same = whole; counts_are = rw (one.count_is, others.counts_are) refl; each = (one.each, others.each) })

pub all_again : (renewables nonrenewables job : ℕ) (counts : List ℕ) (modes : List (List Mode)) → map (λ ms. length ms) modes ≡ counts → EachWithin renewables nonrenewables modes → Stands (all_modes renewables nonrenewables job counts) (all_modes_numbers job modes) modes
unfolding all_modes
all_again renewables nonrenewables job [] [] c e = refl
all_again renewables nonrenewables job [] (m ∷ ms) c e = absurd cc
all_again renewables nonrenewables job (count ∷ counts) [] c e = absurd cc
all_again renewables nonrenewables job (count ∷ counts) (m ∷ ms) c e =
    let first : length m ≡ count = cc in
    let later : map (λ ns. length ns) ms ≡ counts = cc in
    Stands-cons (job_modes renewables nonrenewables job count) (λ v. all_modes renewables nonrenewables (job + 1) counts) (job ∷ modes_numbers 1 m) (all_modes_numbers (job + 1) ms) m ms (job_again renewables nonrenewables job count m first e.0) (all_again renewables nonrenewables (job + 1) counts ms later e.1)
