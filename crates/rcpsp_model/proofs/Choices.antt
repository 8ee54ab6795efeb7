-- The choices of a front: eligibility is decided by its test, and each eligible job is there in each of its modes.
use Rattle.std.proofs.Common.{◌≡◌, ℕ, zero, suc, ◌+◌, ◌≤◌, inl, inr, arith, refl, sym, ap, ◌∙◌, subst, List, [], ◌∷◌, ◌++◌, length, Bool, true, false, ◌||◌, not, cond}
use Rattle.std.specs.Prelude.{filter, map}
use Rattle.std.specs.List.{list_all, flat_map, AllZip}
use Rattle.std.proofs.lemmas.Bool.{and_parts, and_from, or_cases, or_left, or_right, both_ways, cases_Bool}
use Rattle.std.proofs.lemmas.List.{append-nil}
use Rattle.std.proofs.lemmas.List.Elements.{filter-append}
use Rattle.std.proofs.lemmas.List.Concat.{flat_map-append}
use Rattle.rcpsp_model.specs.declared.parts.Entry.{Entry}
use Rattle.rcpsp_model.specs.Project.{Project, job_count, jobs, modes_of, is_before, numbers_from, IsMode}
use Rattle.rcpsp_model.specs.Tree.{has_job, has_predecessors, is_eligible, IsEligible, Choice, choices_by, choices_of, choices}
use Rattle.rcpsp_model.proofs.Lists.{In, In-append, filter-In, In-filter}
use Rattle.rcpsp_model.proofs.Successors.{before-job}
use Rattle.rcpsp_model.proofs.LeastModes.{numbers-In, numbers-range}
use Rattle.rcpsp_model.specs.Laws.{EligibleLaw}

pub all-In : {X : Type 0} (p : X → Bool) (xs : List X) → list_all p xs ≡ true → (x : X) → In xs x → p x ≡ true
all-In p [] h x i = absurd i
all-In {X = X} p (y ∷ ys) h x (inl e) = subst (λ (z : X). p z ≡ true) e (and_parts (p y) (list_all p ys) h).0
all-In p (y ∷ ys) h x (inr i) = all-In p ys (and_parts (p y) (list_all p ys) h).1 x i

pub all-from_In : {X : Type 0} (p : X → Bool) (xs : List X) → ((x : X) → In xs x → p x ≡ true) → list_all p xs ≡ true
all-from_In p [] h = refl
all-from_In p (y ∷ ys) h = and_from (p y) (list_all p ys) (h y (inl refl)) (all-from_In p ys (λ x i. h x (inr i)))

pub In-jobs : (P : Project) (j : ℕ) → 1 ≤ j → j ≤ job_count P → In (jobs P) j
In-jobs P j low high = numbers-In 1 (job_count P) j low (omega arith)

pub In-left : {X : Type 0} (xs ys : List X) (x : X) → In xs x → In (xs ++ ys) x
In-left [] ys x i = absurd i
In-left (z ∷ xs) ys x (inl e) = inl e
In-left (z ∷ xs) ys x (inr i) = inr (In-left xs ys x i)

pub In-right : {X : Type 0} (xs ys : List X) (x : X) → In ys x → In (xs ++ ys) x
In-right [] ys x i = i
In-right (z ∷ xs) ys x i = inr (In-right xs ys x i)

pub In-map : {X Y : Type 0} (f : X → Y) (xs : List X) (x : X) → In xs x → In (map f xs) (f x)
In-map f [] x i = absurd i
In-map f (y ∷ xs) x (inl e) = inl (ap f e)
In-map f (y ∷ xs) x (inr i) = inr (In-map f xs x i)

pub map-In : {X Y : Type 0} (f : X → Y) (xs : List X) (y : Y) → In (map f xs) y → (x : X) × In xs x × (f x ≡ y)
map-In f [] y i = absurd i
map-In f (x ∷ xs) y (inl e) = (x, inl refl, e)
map-In f (x ∷ xs) y (inr i) = let r = map-In f xs y i in (r.0, inr r.1, r.2)

pub In-flat_map : {X Y : Type 0} (f : X → List Y) (xs : List X) (x : X) (y : Y) → In xs x → In (f x) y → In (flat_map f xs) y
In-flat_map f [] x y i k = absurd i
In-flat_map {X = X} {Y = Y} f (z ∷ xs) x y (inl e) k = In-left (f z) (flat_map f xs) y (subst (λ (w : X). In (f w) y) (sym e) k)
In-flat_map f (z ∷ xs) x y (inr i) k = In-right (f z) (flat_map f xs) y (In-flat_map f xs x y i k)

not-true : (b : Bool) → not b ≡ true → b ≡ false
not-true b h = elim (cases_Bool b) [ inl y ↦ absurd (both_ways (not b) (ap not y) h) | inr n ↦ n ]

implied : (a b : Bool) → (not a || b) ≡ true → a ≡ true → b ≡ true
implied a b h t = elim (or_cases (not a) b h) [ inl n ↦ absurd (both_ways a (not-true a n) t) | inr y ↦ y ]

implied-from : (a b : Bool) → (a ≡ true → b ≡ true) → (not a || b) ≡ true
implied-from a b f = elim (cases_Bool a) [ inl y ↦ or_right (not a) b (f y) | inr n ↦ or_left (not a) b (ap not n) ]

pub eligible_law : EligibleLaw
eligible_law P F j job = (
  λ h.
      let parts = and_parts (not (has_job F j)) (has_predecessors P F j) h in
      record {
        job = job;
        unplaced = not-true (has_job F j) parts.0;
        preds = λ i b.
            let is = before-job P i j b in
            implied (is_before P i j) (has_job F i) (all-In (λ k. not (is_before P k j) || has_job F k) (jobs P) parts.1 i (In-jobs P i is.0 is.1)) b;
      },
  λ el. and_from (not (has_job F j)) (has_predecessors P F j) (ap not el.unplaced)
      (all-from_In (λ k. not (is_before P k j) || has_job F k) (jobs P) (λ k i. implied-from (is_before P k j) (has_job F k) (λ b. el.preds k b))),
)

-- An eligible job is among the choices in each of its modes.
pub choice-In : (P : Project) (F : List Entry) (j m : ℕ) → IsEligible P F j → IsMode P j m → In (choices P F) (record { job = j; mode = m })
choice-In P F j m el mode =
    In-flat_map (choices_of P) (filter (is_eligible P F) (jobs P)) j (record { job = j; mode = m })
    (filter-In (is_eligible P F) (jobs P) j (In-jobs P j el.job.0 el.job.1) ((eligible_law P F j el.job).1 el))
    (In-map (λ k. record { job = j; mode = k }) (numbers_from 1 (length (modes_of P j))) m (numbers-In 1 (length (modes_of P j)) m mode.0 (let high = mode.1 in omega arith)))

-- And a choice is of an eligible job and one of its modes.
flat-In : {X Y : Type 0} (f : X → List Y) (xs : List X) (y : Y) → In (flat_map f xs) y → (x : X) × In xs x × In (f x) y
flat-In f [] y i = absurd i
flat-In f (x ∷ xs) y i = elim (In-append (f x) (flat_map f xs) y i) [
  | inl j ↦ (x, inl refl, j)
  | inr j ↦ let r = flat-In f xs y j in (r.0, inr r.1, r.2)
]

pub choice-is : (P : Project) (F : List Entry) (c : Choice) → In (choices P F) c → IsEligible P F c.job × IsMode P c.job c.mode
choice-is P F c i =
    let r = flat-In (choices_of P) (filter (is_eligible P F) (jobs P)) c i in
    let kept = In-filter (is_eligible P F) (jobs P) r.0 r.1 in
    let job = numbers-range 1 (job_count P) r.0 kept.0 in
    let low = job.0 in let high = job.1 in
    let el = (eligible_law P F r.0 (low, omega arith)).0 kept.1 in
    let m = map-In (λ (k : ℕ). record { job = r.0; mode = k }) (numbers_from 1 (length (modes_of P r.0))) c r.2 in
    let mode = numbers-range 1 (length (modes_of P r.0)) m.0 m.1 in
    let few = mode.0 in let most = mode.1 in
    let is : IsEligible P F r.0 × IsMode P r.0 m.0 = (el, (few, omega arith)) in
    subst (λ (x : Choice). IsEligible P F x.job × IsMode P x.job x.mode) m.2 is

-- Lists that stand in a relation place by place.
pub zip-append : {A B : Type 0} (R : A → B → Type 0) (xs ys : List A) (cs ds : List B) → AllZip R xs cs → AllZip R ys ds → AllZip R (xs ++ ys) (cs ++ ds)
zip-append R [] ys [] ds a b = b
zip-append R [] ys (c ∷ cs) ds a b = absurd a
zip-append R (x ∷ xs) ys [] ds a b = absurd a
zip-append R (x ∷ xs) ys (c ∷ cs) ds a b = (a.0, zip-append R xs ys cs ds a.1 b)

pub zip-left : {A B : Type 0} (R : A → B → Type 0) (xs : List A) (cs : List B) → AllZip R xs cs → (x : A) → In xs x → (c : B) × In cs c × R x c
zip-left R [] cs a x i = absurd i
zip-left R (y ∷ xs) [] a x i = absurd a
zip-left R (y ∷ xs) (d ∷ cs) a x (inl e) = (d, inl refl, subst (λ z. R z d) e a.0)
zip-left R (y ∷ xs) (d ∷ cs) a x (inr i) = let r = zip-left R xs cs a.1 x i in (r.0, inr r.1, r.2)

pub zip-right : {A B : Type 0} (R : A → B → Type 0) (xs : List A) (cs : List B) → AllZip R xs cs → (c : B) → In cs c → (x : A) × In xs x × R x c
zip-right R [] [] a c i = absurd i
zip-right R [] (d ∷ cs) a c i = absurd a
zip-right R (y ∷ xs) [] a c i = absurd a
zip-right R (y ∷ xs) (d ∷ cs) a c (inl e) = (y, inl refl, subst (R y) e a.0)
zip-right R (y ∷ xs) (d ∷ cs) a c (inr i) = let r = zip-right R xs cs a.1 c i in (r.0, inr r.1, r.2)

pub zip-one : {A B : Type 0} (R : A → B → Type 0) → ((x : A) (c d : B) → R x c → R x d → c ≡ d) → (xs : List A) (cs ds : List B) → AllZip R xs cs → AllZip R xs ds → cs ≡ ds
zip-one R one [] [] [] a b = refl
zip-one R one [] [] (d ∷ ds) a b = absurd b
zip-one R one [] (c ∷ cs) ds a b = absurd a
zip-one R one (x ∷ xs) [] ds a b = absurd a
zip-one R one (x ∷ xs) (c ∷ cs) [] a b = absurd b
zip-one {B = B} R one (x ∷ xs) (c ∷ cs) (d ∷ ds) a b = ap (λ (y : B). y ∷ cs) (one x c d a.0 b.0) ∙ ap (λ (ys : List B). d ∷ ys) (zip-one R one xs cs ds a.1 b.1)

pub some-zip : {A B : Type 0} (R : A → B → Type 0) (xs : List A) → ((x : A) → In xs x → (c : B) × R x c) → (cs : List B) × AllZip R xs cs
some-zip R [] f = ([], tt)
some-zip R (x ∷ xs) f = let c = f x (inl refl) in let r = some-zip R xs (λ y i. f y (inr i)) in (c.0 ∷ r.0, (c.1, r.1))

-- One mode and one job more, as loops over them want it.
numbers-push : (i n : ℕ) → numbers_from i (suc n) ≡ numbers_from i n ++ (i + n) ∷ []
numbers-push i zero = let e : i ≡ i + 0 = omega arith in ap (λ (k : ℕ). k ∷ []) e
numbers-push i (suc n) =
    let e : (i + 1) + n ≡ i + suc n = omega arith in
    ap (λ (ks : List ℕ). i ∷ ks) (numbers-push (i + 1) n ∙ ap (λ (k : ℕ). numbers_from (i + 1) n ++ k ∷ []) e)

map-push : {X Y : Type 0} (f : X → Y) (xs : List X) (x : X) → map f (xs ++ x ∷ []) ≡ map f xs ++ f x ∷ []
map-push f [] x = refl
map-push {Y = Y} f (y ∷ xs) x = ap (λ (ys : List Y). f y ∷ ys) (map-push f xs x)

pub choices_by-push : (j n : ℕ) → choices_by j (n + 1) ≡ choices_by j n ++ record { job = j; mode = n + 1 } ∷ []
choices_by-push j n =
    let more : n + 1 ≡ suc n = omega arith in let e : 1 + n ≡ n + 1 = omega arith in
    ap (choices_by j) more ∙ (ap (map (λ m. record { job = j; mode = m })) (numbers-push 1 n ∙ ap (λ (k : ℕ). numbers_from 1 n ++ k ∷ []) e)
    ∙ map-push (λ m. record { job = j; mode = m }) (numbers_from 1 n) (n + 1))

-- the choices by the jobs from 1 to n
abbrev pub choices_to : Project → List Entry → ℕ → List Choice
choices_to P F n = flat_map (choices_of P) (filter (is_eligible P F) (numbers_from 1 n))

one_job : (P : Project) (b : Bool) (j : ℕ) → flat_map (choices_of P) (cond b (j ∷ []) []) ≡ cond b (choices_of P j) []
one_job P true j = append-nil (choices_of P j)
one_job P false j = refl

choices_to-push : (P : Project) (F : List Entry) (n : ℕ) → choices_to P F (n + 1) ≡ choices_to P F n ++ cond (is_eligible P F (n + 1)) (choices_of P (n + 1)) []
choices_to-push P F n =
    let more : n + 1 ≡ suc n = omega arith in let e : 1 + n ≡ n + 1 = omega arith in
    ap (choices_to P F) more ∙ (ap (λ (js : List ℕ). flat_map (choices_of P) (filter (is_eligible P F) js)) (numbers-push 1 n ∙ ap (λ (k : ℕ). numbers_from 1 n ++ k ∷ []) e)
    ∙ (ap (flat_map (choices_of P)) (filter-append (is_eligible P F) (numbers_from 1 n) ((n + 1) ∷ []))
    ∙ (flat_map-append (choices_of P) (filter (is_eligible P F) (numbers_from 1 n)) (cond (is_eligible P F (n + 1)) ((n + 1) ∷ []) [])
    ∙ ap (λ (cs : List Choice). choices_to P F n ++ cs) (one_job P (is_eligible P F (n + 1)) (n + 1)))))

pub choices_to-eligible : (P : Project) (F : List Entry) (n : ℕ) → IsEligible P F (n + 1) → choices_to P F (n + 1) ≡ choices_to P F n ++ choices_of P (n + 1)
choices_to-eligible P F n el =
    choices_to-push P F n ∙ ap (λ (b : Bool). choices_to P F n ++ cond b (choices_of P (n + 1)) []) ((eligible_law P F (n + 1) el.job).1 el)

pub choices_to-other : (P : Project) (F : List Entry) (n : ℕ) → n + 1 ≤ job_count P → (IsEligible P F (n + 1) → ⊥) → choices_to P F (n + 1) ≡ choices_to P F n
choices_to-other P F n few other = elim (cases_Bool (is_eligible P F (n + 1))) [
  | inl yes_ ↦ absurd (other ((eligible_law P F (n + 1) (omega arith, few)).0 yes_))
  | inr no_ ↦ choices_to-push P F n ∙ (ap (λ (b : Bool). choices_to P F n ++ cond b (choices_of P (n + 1)) []) no_ ∙ append-nil (choices_to P F n))
]
