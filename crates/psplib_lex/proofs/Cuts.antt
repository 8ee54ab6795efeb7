-- Cutting a list that gets one item more.
use Rattle.std.proofs.Common.{◌≡◌, ◌≤◌, Bool, true, false, cond, List, [], ◌∷◌, ◌++◌, length, refl, sym, ap, ◌∙◌, arith}
use Rattle.std.specs.List.{slice_split, onto_first}
use Rattle.std.proofs.lemmas.List.Splits.{length-slice_split}

-- the parts after one item more
abbrev pushed : {X : Type 0} → (X → Bool) → X → List (List X) → List (List X)
pushed p x [] = []
pushed p x (part ∷ []) = cond (p x) (part ∷ [] ∷ []) ((part ++ x ∷ []) ∷ [])
pushed p x (part ∷ next ∷ parts) = part ∷ pushed p x (next ∷ parts)

pushed-new : {X : Type 0} (p : X → Bool) (x : X) (parts : List (List X)) → 1 ≤ length parts → pushed p x ([] ∷ parts) ≡ [] ∷ pushed p x parts
pushed-new p x [] h = absurd (omega arith)
pushed-new p x (part ∷ parts) h = refl

pushed-onto : {X : Type 0} (p : X → Bool) (x y : X) (parts : List (List X)) → 1 ≤ length parts → pushed p x (onto_first y parts) ≡ onto_first y (pushed p x parts)
pushed-onto p x y [] h = absurd (omega arith)
pushed-onto {X} p x y (part ∷ []) h = go (p x)
  where
    go : (b : Bool) → cond b ((y ∷ part) ∷ [] ∷ []) ((y ∷ (part ++ x ∷ [])) ∷ []) ≡ onto_first y (cond b (part ∷ [] ∷ []) ((part ++ x ∷ []) ∷ []))
    go true = refl
    go false = refl
pushed-onto p x y (part ∷ next ∷ parts) h = refl

some_part : {X : Type 0} (p : X → Bool) (xs : List X) → 1 ≤ length (slice_split p xs)
some_part p xs = omega (arith, length-slice_split p xs)

slice_split-push : {X : Type 0} (p : X → Bool) (xs : List X) (x : X) → slice_split p (xs ++ x ∷ []) ≡ pushed p x (slice_split p xs)
slice_split-push p [] x = refl
slice_split-push {X} p (y ∷ ys) x = go (p y) (slice_split-push p ys x)
  where
    go : (b : Bool) → slice_split p (ys ++ x ∷ []) ≡ pushed p x (slice_split p ys) → cond b ([] ∷ slice_split p (ys ++ x ∷ [])) (onto_first y (slice_split p (ys ++ x ∷ []))) ≡ pushed p x (cond b ([] ∷ slice_split p ys) (onto_first y (slice_split p ys)))
    go true e = ap (λ (ps : List (List X)). [] ∷ ps) e ∙ sym (pushed-new p x (slice_split p ys) (some_part p ys))
    go false e = ap (onto_first y) e ∙ sym (pushed-onto p x y (slice_split p ys) (some_part p ys))

pushed-ends : {X : Type 0} (p : X → Bool) (x : X) (parts : List (List X)) → 1 ≤ length parts → p x ≡ true → pushed p x parts ≡ parts ++ [] ∷ []
pushed-ends p x [] h e = absurd (omega arith)
pushed-ends {X} p x (part ∷ []) h e = ap (λ (b : Bool). cond b (part ∷ [] ∷ []) ((part ++ x ∷ []) ∷ [])) e
pushed-ends {X} p x (part ∷ next ∷ parts) h e = ap (λ (ps : List (List X)). part ∷ ps) (pushed-ends p x (next ∷ parts) (omega arith) e)

pushed-grows : {X : Type 0} (p : X → Bool) (x : X) (ended : List (List X)) (open_part : List X) → p x ≡ false → pushed p x (ended ++ open_part ∷ []) ≡ ended ++ (open_part ++ x ∷ []) ∷ []
pushed-grows {X} p x [] open_part e = ap (λ (b : Bool). cond b (open_part ∷ [] ∷ []) ((open_part ++ x ∷ []) ∷ [])) e
pushed-grows {X} p x (part ∷ []) open_part e = ap (λ (ps : List (List X)). part ∷ ps) (pushed-grows p x [] open_part e)
pushed-grows {X} p x (part ∷ next ∷ parts) open_part e = ap (λ (ps : List (List X)). part ∷ ps) (pushed-grows p x (next ∷ parts) open_part e)

-- an item that cuts ends the last part, and a new one is open
pub cut_ends : {X : Type 0} (p : X → Bool) (xs : List X) (x : X) → p x ≡ true → slice_split p (xs ++ x ∷ []) ≡ slice_split p xs ++ [] ∷ []
cut_ends p xs x e = slice_split-push p xs x ∙ pushed-ends p x (slice_split p xs) (some_part p xs) e

-- another item joins the last part
pub cut_grows : {X : Type 0} (p : X → Bool) (xs : List X) (x : X) (ended : List (List X)) (open_part : List X) → slice_split p xs ≡ ended ++ open_part ∷ [] → p x ≡ false → slice_split p (xs ++ x ∷ []) ≡ ended ++ (open_part ++ x ∷ []) ∷ []
cut_grows p xs x ended open_part h e = slice_split-push p xs x ∙ ap (pushed p x) h ∙ pushed-grows p x ended open_part e
