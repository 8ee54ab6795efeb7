-- A project is known by its facts.
use Rattle.std.proofs.Common.{◌≡◌, ℕ, ◌+◌, ◌-◌, ◌<◌, ◌≤◌, inl, inr, arith, refl, sym, ap, subst, ◌∙◌, List, [], ◌∷◌, length, get_or}
use Rattle.std.proofs.lemmas.List.{ext_get_or}
use Rattle.rcpsp_model.specs.declared.parts.CalRow.{CalRow}
use Rattle.rcpsp_model.specs.declared.parts.Mode.{Mode}
use Rattle.rcpsp_model.specs.Project.{Activity, Project, no_mode, no_activity, job_count, modes_of, successors_of, mode_of, duration, request, need, capacity, budget, IsJob, IsMode, IsAscending, IsProject}
use Rattle.rcpsp_model.specs.Laws.{SameFacts, SameFactsLaw}
use Rattle.rcpsp_model.proofs.Lists.{In}
use Rattle.rcpsp_model.proofs.Successors.{In-any, any-In, before-any}
use Rattle.rcpsp_model.proofs.Fronts.{activity-within, mode-within}

-- lists of one length with the same items, counted from 1
same-items : {X : Type 0} (d : X) (xs ys : List X) → length xs ≡ length ys → ((k : ℕ) → 1 ≤ k → k ≤ length xs → get_or xs (k - 1) d ≡ get_or ys (k - 1) d) → xs ≡ ys
same-items {X = X} d xs ys n h = ext_get_or d xs ys n (λ i low.
    let one : (i + 1) - 1 ≡ i = omega arith in
    subst (λ (k : ℕ). get_or xs k d ≡ get_or ys k d) one (h (i + 1) (omega arith) (omega arith)))

-- an ascending list is known by its members
ascending-tail : (x : ℕ) (xs : List ℕ) → IsAscending (x ∷ xs) → IsAscending xs
ascending-tail x [] a = tt
ascending-tail x (y ∷ ys) a = a.1

ascending-above : (x : ℕ) (xs : List ℕ) → IsAscending (x ∷ xs) → (y : ℕ) → In xs y → x < y
ascending-above x [] a y i = absurd i
ascending-above x (z ∷ zs) a y (inl e) = let up = a.0 in omega arith
ascending-above x (z ∷ zs) a y (inr i) = let up = a.0 in let rest = ascending-above z zs a.1 y i in omega arith

same-ascending : (xs ys : List ℕ) → IsAscending xs → IsAscending ys → ((j : ℕ) → In xs j → In ys j) → ((j : ℕ) → In ys j → In xs j) → xs ≡ ys
same-ascending [] [] a b f g = refl
same-ascending [] (y ∷ ys) a b f g = absurd (g y (inl refl))
same-ascending (x ∷ xs) [] a b f g = absurd (f x (inl refl))
same-ascending (x ∷ xs) (y ∷ ys) a b f g =
    let head : x ≡ y = elim (f x (inl refl)) [
      | inl e ↦ sym e
      | inr i ↦ let up = ascending-above y ys b x i in elim (g y (inl refl)) [ inl e ↦ absurd (omega arith) | inr k ↦ let down = ascending-above x xs a y k in absurd (omega arith) ]
    ] in
    let tail : xs ≡ ys = same-ascending xs ys (ascending-tail x xs a) (ascending-tail y ys b)
    (λ j i. elim (f j (inr i)) [ inl e ↦ let up = ascending-above x xs a j i in absurd (omega arith) | inr k ↦ k ])
    (λ j i. elim (g j (inr i)) [ inl e ↦ let up = ascending-above y ys b j i in absurd (omega arith) | inr k ↦ k ]) in
    ap (λ (z : ℕ). z ∷ xs) head ∙ ap (λ (zs : List ℕ). y ∷ zs) tail

-- equal parts make equal records
abbrev mode_with : ℕ → List ℕ → List ℕ → Mode
mode_with d r n = record { duration = d; requests = r; needs = n }

same-mode : (a b : Mode) → a.duration ≡ b.duration → a.requests ≡ b.requests → a.needs ≡ b.needs → a ≡ b
same-mode a b d r n =
    ap (λ (x : ℕ). mode_with x a.requests a.needs) d ∙ ap (λ (x : List ℕ). mode_with b.duration x a.needs) r ∙ ap (λ (x : List ℕ). mode_with b.duration b.requests x) n

abbrev activity_with : List Mode → List ℕ → Activity
activity_with m s = record { modes = m; successors = s }

same-activity : (a b : Activity) → a.modes ≡ b.modes → a.successors ≡ b.successors → a ≡ b
same-activity a b m s = ap (λ (x : List Mode). activity_with x a.successors) m ∙ ap (λ (x : List ℕ). activity_with b.modes x) s

abbrev project_with : List Activity → List ℕ → List ℕ → List CalRow → Project
project_with a c b r = record { activities = a; capacities = c; budgets = b; calendar = r }

same-project : (P Q : Project) → P.activities ≡ Q.activities → P.capacities ≡ Q.capacities → P.budgets ≡ Q.budgets → P.calendar ≡ Q.calendar → P ≡ Q
same-project P Q a c b r =
    ap (λ (x : List Activity). project_with x P.capacities P.budgets P.calendar) a ∙ ap (λ (x : List ℕ). project_with Q.activities x P.budgets P.calendar) c
    ∙ ap (λ (x : List ℕ). project_with Q.activities Q.capacities x P.calendar) b ∙ ap (λ (x : List CalRow). project_with Q.activities Q.capacities Q.budgets x) r

same-mode_of : (P Q : Project) → IsProject P → IsProject Q → SameFacts P Q → (j m : ℕ) → IsJob P j → IsJob Q j → IsMode P j m → IsMode Q j m → mode_of P j m ≡ mode_of Q j m
unfolding duration request need
same-mode_of P Q p q f j m jp jq mp mq =
    let a = mode-within P p.limits j m jp mp in
    let b = mode-within Q q.limits j m jq mq in
    let ka = a.all_requests in let kb = b.all_requests in let la = a.all_needs in let lb = b.all_needs in
    let ks = f.renewables in let ls = f.nonrenewables in
    same-mode (mode_of P j m) (mode_of Q j m) (f.durations j m jp mp)
    (same-items 0 (mode_of P j m).requests (mode_of Q j m).requests (omega arith) (λ k low high. f.requests j m k jp mp (low, omega arith)))
    (same-items 0 (mode_of P j m).needs (mode_of Q j m).needs (omega arith) (λ l low high. f.needs j m l jp mp (low, omega arith)))

same-modes_of : (P Q : Project) → IsProject P → IsProject Q → SameFacts P Q → (j : ℕ) → IsJob P j → IsJob Q j → modes_of P j ≡ modes_of Q j
unfolding mode_of
same-modes_of P Q p q f j jp jq =
    let n = f.modes j jp in
    same-items no_mode (modes_of P j) (modes_of Q j) n (λ m low high. same-mode_of P Q p q f j m jp jq (low, high) (low, omega arith))

same-successors_of : (P Q : Project) → IsProject P → IsProject Q → SameFacts P Q → (j : ℕ) → IsJob P j → IsJob Q j → successors_of P j ≡ successors_of Q j
unfolding successors_of
same-successors_of P Q p q f j jp jq =
    same-ascending (successors_of P j) (successors_of Q j) (activity-within P p.limits j jp).ascending (activity-within Q q.limits j jq).ascending
    (λ k i. any-In (successors_of Q j) k (sym (before-any Q j k jq.0) ∙ sym (f.before j k) ∙ before-any P j k jp.0 ∙ In-any (successors_of P j) k i))
    (λ k i. any-In (successors_of P j) k (sym (before-any P j k jp.0) ∙ f.before j k ∙ before-any Q j k jq.0 ∙ In-any (successors_of Q j) k i))

pub same_facts_law : SameFactsLaw
unfolding job_count modes_of successors_of capacity budget
same_facts_law P Q p q f =
    same-project P Q
    (same-items no_activity P.activities Q.activities f.jobs (λ j low high.
    let n = f.jobs in
    same-activity (get_or P.activities (j - 1) no_activity) (get_or Q.activities (j - 1) no_activity)
    (same-modes_of P Q p q f j (low, high) (low, omega arith)) (same-successors_of P Q p q f j (low, high) (low, omega arith))))
    (same-items 0 P.capacities Q.capacities f.renewables (λ k low high. f.capacities k (low, high)))
    (same-items 0 P.budgets Q.budgets f.nonrenewables (λ l low high. f.budgets l (low, high)))
    f.calendar
