-- How many choices the jobs up to a number make.
use Rattle.std.proofs.Common.{◌≡◌, ℕ, zero, suc, ◌+◌, ◌-◌, ◌<◌, ◌≤◌, arith, refl, sym, ap, subst, ◌∙◌, List, [], ◌∷◌, length}
use Rattle.std.specs.Prelude.{map}
use Rattle.std.proofs.lemmas.List.{length-append}
use Rattle.rcpsp_model.specs.declared.parts.Entry.{Entry}
use Rattle.rcpsp_model.specs.Project.{Project, job_count, modes_of, numbers_from}
use Rattle.rcpsp_model.specs.Tree.{IsEligible, Choice, choices_of, choices}
use Rattle.rcpsp_model.proofs.Choices.{choices_to, choices_to-eligible, choices_to-other}
use Rattle.project_net.proofs.Appended.{length-numbers}

length-map : (f : ℕ → Choice) (ns : List ℕ) → length (map f ns) ≡ length ns
length-map f [] = refl
length-map f (n ∷ ns) = ap suc (length-map f ns)

-- a job makes one choice for each of its modes
length-choices : (P : Project) (j : ℕ) → length (choices_of P j) ≡ length (modes_of P j)
length-choices P j = length-map (λ m. record { job = j; mode = m }) (numbers_from 1 (length (modes_of P j))) ∙ length-numbers 1 (length (modes_of P j))

-- and none where it isn't eligible
choices-other : (P : Project) (F : List Entry) (n more : ℕ) → n + more ≤ job_count P → ((i : ℕ) → n < i → i ≤ n + more → IsEligible P F i → ⊥) → length (choices_to P F (n + more)) ≡ length (choices_to P F n)
choices-other P F n zero few none = ap (λ i. length (choices_to P F i)) (let e : n + zero ≡ n = omega arith in e)
choices-other P F n (suc more) few none =
    let up : n + suc more ≡ n + more + 1 = omega arith in
    let so_far = choices-other P F n more (omega arith) (λ i low high. none i low (omega arith)) in
    let here = ap length (choices_to-other P F (n + more) (omega arith) (none (n + more + 1) (omega arith) (omega arith))) in
    ap (λ i. length (choices_to P F i)) up ∙ here ∙ so_far

-- up to the next eligible job, with its modes
pub choices-next : (P : Project) (F : List Entry) (last job : ℕ) → last < job → ((i : ℕ) → last < i → IsEligible P F i → job ≤ i) → IsEligible P F job →
    length (choices_to P F job) ≡ length (choices_to P F last) + length (modes_of P job)
choices-next P F last job above least el =
    let high = el.job.1 in
    let up : last + (job - 1 - last) ≡ job - 1 = omega arith in
    let to : job - 1 + 1 ≡ job = omega arith in
    let before = sym (ap (λ i. length (choices_to P F i)) up) ∙ choices-other P F last (job - 1 - last) (omega arith) (λ i low most own. let le = least i low own in omega arith) in
    let own = ap length (choices_to-eligible P F (job - 1) (subst (IsEligible P F) (sym to) el)) in
    let both = length-append (choices_to P F (job - 1)) (choices_of P (job - 1 + 1)) in
    let mine = length-choices P (job - 1 + 1) in
    let at = ap (λ i. length (choices_to P F i)) to in
    let modes = ap (λ i. length (modes_of P i)) to in
    omega arith

-- after the last eligible job there is none
pub choices-all : (P : Project) (F : List Entry) (last : ℕ) → last ≤ job_count P → ((i : ℕ) → last < i → IsEligible P F i → ⊥) → length (choices P F) ≡ length (choices_to P F last)
choices-all P F last within none =
    let up : last + (job_count P - last) ≡ job_count P = omega arith in
    sym (ap (λ i. length (choices_to P F i)) up) ∙ choices-other P F last (job_count P - last) (omega arith) (λ i low high. none i low)
