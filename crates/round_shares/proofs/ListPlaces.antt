-- Lists by place.
use Rattle.std.proofs.Common.{◌≡◌, ℕ, zero, suc, ◌+◌, ◌<◌, inl, inr, refl, ap, ◌∙◌, arith, List, [], ◌∷◌, ◌++◌, length, map, Some}
use Rattle.std.specs.Prelude.{slice_get, slice_index_or}
use Rattle.std.specs.List.{AllZip}
use Rattle.rcpsp_model.proofs.Lists.{In}
use Rattle.search_log.specs.Weights.{total, Each}

pub get-In : {X : Type 0} (xs : List X) (i : ℕ) (x : X) → slice_get xs i ≡ Some x → In xs x
get-In [] i x e = absurd cc
get-In (y ∷ ys) zero x e = inl (let same : y ≡ x = cc in same)
get-In (y ∷ ys) (suc i) x e = inr (get-In ys i x e)

pub record IsThere {X : Type 0} (xs : List X) (x : X) : Type 0 where
  pub place : ℕ
  pub is : slice_get xs place ≡ Some x

pub In-get : {X : Type 0} (xs : List X) (x : X) → In xs x → IsThere xs x
In-get [] x i = absurd i
In-get {X = X} (y ∷ ys) x (inl e) = record { place = 0; is = ap (λ (z : X). Some z) e }
In-get (y ∷ ys) x (inr i) = let r = In-get ys x i in record { place = suc r.place; is = r.is }

pub get-inside : {X : Type 0} (xs : List X) (i : ℕ) (x : X) → slice_get xs i ≡ Some x → i < length xs
get-inside [] i x e = absurd cc
get-inside (y ∷ ys) zero x e = omega arith
get-inside (y ∷ ys) (suc i) x e = let ih = get-inside ys i x e in omega arith

pub get-left : {X : Type 0} (xs ys : List X) (i : ℕ) → i < length xs → slice_get (xs ++ ys) i ≡ slice_get xs i
get-left [] ys i l = absurd (omega arith)
get-left (x ∷ xs) ys zero l = refl
get-left (x ∷ xs) ys (suc i) l = get-left xs ys i (omega arith)

pub get-right : {X : Type 0} (xs ys : List X) (i : ℕ) → slice_get (xs ++ ys) (length xs + i) ≡ slice_get ys i
get-right [] ys i = let e : 0 + i ≡ i = omega arith in ap (slice_get ys) e
get-right (x ∷ xs) ys i =
    let e : length (x ∷ xs) + i ≡ suc (length xs + i) = omega arith in
    ap (slice_get (x ∷ (xs ++ ys))) e ∙ get-right xs ys i

pub get-map : {X Y : Type 0} (f : X → Y) (xs : List X) (i : ℕ) (x : X) → slice_get xs i ≡ Some x → slice_get (map f xs) i ≡ Some (f x)
get-map f [] i x e = absurd cc
get-map {Y = Y} f (y ∷ ys) zero x e = let same : y ≡ x = cc in ap (λ z. Some (f z)) same
get-map f (y ∷ ys) (suc i) x e = get-map f ys i x e

pub map-get : {X Y : Type 0} (f : X → Y) (xs : List X) (i : ℕ) (y : Y) → slice_get (map f xs) i ≡ Some y → (x : X) × (slice_get xs i ≡ Some x) × (f x ≡ y)
map-get f [] i y e = absurd cc
map-get f (x ∷ xs) zero y e = (x, refl, let same : f x ≡ y = cc in same)
map-get f (x ∷ xs) (suc i) y e = map-get f xs i y e

pub Each-at : {X : Type 0} (Q : X → Type 0) (xs : List X) (i : ℕ) (d : X) → Each Q xs → i < length xs → Q (slice_index_or xs i d)
Each-at Q [] i d e l = absurd (omega arith)
Each-at Q (x ∷ xs) zero d e l = e.0
Each-at Q (x ∷ xs) (suc i) d e l = Each-at Q xs i d e.1 (omega arith)

-- weights that are the same where Q holds
pub total-where : {X : Type 0} (f g : X → ℕ) (Q : X → Type 0) (xs : List X) → ((x : X) → Q x → f x ≡ g x) → Each Q xs → total f xs ≡ total g xs
total-where f g Q [] e a = refl
total-where f g Q (x ∷ xs) e a = let own = e x a.0 in let ih = total-where f g Q xs e a.1 in omega arith

pub Each-map : {X Y : Type 0} (Q : Y → Type 0) (f : X → Y) (xs : List X) → Each (λ x. Q (f x)) xs → Each Q (map f xs)
Each-map Q f [] a = tt
Each-map Q f (x ∷ xs) a = (a.0, Each-map Q f xs a.1)

-- Lists that stand in a relation item by item.

pub zip-weaker : {A B : Type 0} (R S : A → B → Type 0) (xs : List A) (ys : List B) → ((x : A) (y : B) → R x y → S x y) → AllZip R xs ys → AllZip S xs ys
zip-weaker R S [] [] f z = z
zip-weaker R S [] (y ∷ ys) f z = absurd z
zip-weaker R S (x ∷ xs) [] f z = absurd z
zip-weaker R S (x ∷ xs) (y ∷ ys) f z = (f x y z.0, zip-weaker R S xs ys f z.1)

pub zip-map : {A B C : Type 0} (R : C → B → Type 0) (h : A → C) (xs : List A) (ys : List B) → AllZip (λ x y. R (h x) y) xs ys → AllZip R (map h xs) ys
zip-map R h [] [] z = z
zip-map R h [] (y ∷ ys) z = absurd z
zip-map R h (x ∷ xs) [] z = absurd z
zip-map R h (x ∷ xs) (y ∷ ys) z = (z.0, zip-map R h xs ys z.1)

-- two items in one place
pub zip-at : {A B : Type 0} (R : A → B → Type 0) (xs : List A) (ys : List B) (i : ℕ) (a : A) (b : B) → AllZip R xs ys → i < length xs → R (slice_index_or xs i a) (slice_index_or ys i b)
zip-at R [] ys i a b z l = absurd (omega arith)
zip-at R (x ∷ xs) [] i a b z l = absurd z
zip-at R (x ∷ xs) (y ∷ ys) zero a b z l = z.0
zip-at R (x ∷ xs) (y ∷ ys) (suc i) a b z l = zip-at R xs ys i a b z.1 (omega arith)

-- Properties of each item.

pub Each-unmap : {X Y : Type 0} (Q : Y → Type 0) (f : X → Y) (xs : List X) → Each Q (map f xs) → Each (λ x. Q (f x)) xs
Each-unmap Q f [] a = tt
Each-unmap Q f (x ∷ xs) a = (a.0, Each-unmap Q f xs a.1)

pub Each-both : {X : Type 0} (Q R S : X → Type 0) (xs : List X) → ((x : X) → Q x → R x → S x) → Each Q xs → Each R xs → Each S xs
Each-both Q R S [] f a b = tt
Each-both Q R S (x ∷ xs) f a b = (f x a.0 b.0, Each-both Q R S xs f a.1 b.1)
