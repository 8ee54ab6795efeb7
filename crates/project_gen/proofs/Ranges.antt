-- Lists by the numbers of a range.
use Rattle.std.proofs.Common.{◌≡◌, ℕ, zero, suc, ◌+◌, ◌<◌, ◌≤◌, arith, refl, sym, ap, ◌∙◌, List, [], ◌∷◌, ◌++◌, map, filter, Bool, true, false, cond}
use Rattle.std.specs.Prelude.{All, sum_by}
use Rattle.std.specs.List.{range_with_len}
use Rattle.std.proofs.lemmas.List.{append-nil}
use Rattle.std.proofs.lemmas.List.Elements.{All-nil, All-cons, filter-append}
use Rattle.std.proofs.lemmas.List.FromFn.{map-range_with_len_more}
use Rattle.std.proofs.lemmas.List.Sums.{sum_by-cons}
use Rattle.rcpsp_model.specs.Project.{numbers_from}

map_same : (xs : List ℕ) → map (λ x. x) xs ≡ xs
map_same [] = refl
map_same (x ∷ xs) = ap (λ (ys : List ℕ). x ∷ ys) (map_same xs)

range-more : (a n j : ℕ) → a + n ≡ j → range_with_len a (n + 1) ≡ range_with_len a n ++ j ∷ []
range-more a n j e =
    sym (map_same (range_with_len a (n + 1)))
    ∙ map-range_with_len_more (λ (x : ℕ). x) a n j e
    ∙ ap (λ (xs : List ℕ). xs ++ j ∷ []) (map_same (range_with_len a n))

-- one number more is kept, or isn't
pub filter_range-yes : (p : ℕ → Bool) (a n j : ℕ) → a + n ≡ j → p j ≡ true → filter p (range_with_len a (n + 1)) ≡ filter p (range_with_len a n) ++ j ∷ []
filter_range-yes p a n j e passes =
    ap (filter p) (range-more a n j e)
    ∙ filter-append p (range_with_len a n) (j ∷ [])
    ∙ ap (λ (b : Bool). filter p (range_with_len a n) ++ cond b (j ∷ []) []) passes

pub filter_range-no : (p : ℕ → Bool) (a n j : ℕ) → a + n ≡ j → p j ≡ false → filter p (range_with_len a (n + 1)) ≡ filter p (range_with_len a n)
filter_range-no p a n j e fails =
    ap (filter p) (range-more a n j e)
    ∙ filter-append p (range_with_len a n) (j ∷ [])
    ∙ ap (λ (b : Bool). filter p (range_with_len a n) ++ cond b (j ∷ []) []) fails
    ∙ append-nil (filter p (range_with_len a n))

-- functions that agree in a range make the same list of it
pub map_range-same : {X : Type 0} (f g : ℕ → X) (a n : ℕ) → ((j : ℕ) → a ≤ j → j < a + n → f j ≡ g j) → map f (range_with_len a n) ≡ map g (range_with_len a n)
map_range-same f g a zero same = refl
map_range-same {X = X} f g a (suc n) same =
    ap (λ (x : X). x ∷ map f (range_with_len (a + 1) n)) (same a (omega arith) (let z : a < a + suc n = omega arith in z))
    ∙ ap (λ (xs : List X). g a ∷ xs) (map_range-same f g (a + 1) n (λ j l h. same j (omega arith) (let z : j < a + suc n = omega arith in z)))

pub map-map : {X Y Z : Type 0} (g : Y → Z) (f : X → Y) (xs : List X) → map g (map f xs) ≡ map (λ x. g (f x)) xs
map-map g f [] = refl
map-map {Z = Z} g f (x ∷ xs) = ap (λ (zs : List Z). g (f x) ∷ zs) (map-map g f xs)

pub sum_by-map : {X Y : Type 0} (g : Y → ℕ) (f : X → Y) (xs : List X) → sum_by g (map f xs) ≡ sum_by (λ x. g (f x)) xs
sum_by-map g f [] = refl
sum_by-map {Y = Y} g f (x ∷ xs) =
    sum_by-cons g (f x) (map f xs)
    ∙ ap (λ n. g (f x) + n) (sum_by-map g f xs)
    ∙ sym (sum_by-cons (λ y. g (f y)) x xs)

pub range-numbers : (i n : ℕ) → range_with_len i n ≡ numbers_from i n
range-numbers i zero = refl
range-numbers i (suc n) = ap (λ (xs : List ℕ). i ∷ xs) (range-numbers (i + 1) n)

kept_all : (P : ℕ → Type 0) (b : Bool) (x : ℕ) (xs : List ℕ) → (b ≡ true → P x) → All P xs → All P (cond b (x ∷ xs) xs)
kept_all P true x xs here all = All-cons P x xs (here refl) all
kept_all P false x xs here all = all

-- what holds of each number of a range that passes holds of all that are kept
pub All-filter_range : (P : ℕ → Type 0) (p : ℕ → Bool) (a n : ℕ) → ((j : ℕ) → a ≤ j → j < a + n → p j ≡ true → P j) → All P (filter p (range_with_len a n))
All-filter_range P p a zero each = All-nil P
All-filter_range P p a (suc n) each =
    kept_all P (p a) a (filter p (range_with_len (a + 1) n)) (each a (omega arith) (let z : a < a + suc n = omega arith in z))
    (All-filter_range P p (a + 1) n (λ j l h. each j (omega arith) (let z : j < a + suc n = omega arith in z)))

-- what holds of what is made of each number of a range
pub All-map_range : {X : Type 0} (P : X → Type 0) (f : ℕ → X) (a n : ℕ) → ((j : ℕ) → a ≤ j → j < a + n → P (f j)) → All P (map f (range_with_len a n))
All-map_range P f a zero each = All-nil P
All-map_range P f a (suc n) each =
    All-cons P (f a) (map f (range_with_len (a + 1) n)) (each a (omega arith) (let z : a < a + suc n = omega arith in z))
    (All-map_range P f (a + 1) n (λ j l h. each j (omega arith) (let z : j < a + suc n = omega arith in z)))
