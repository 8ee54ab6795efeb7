-- Numbers that are wanted: one want after another, and many under one rule.
use Rattle.std.proofs.Common.{◌≡◌, ℕ, zero, suc, List, [], ◌∷◌, ◌++◌, length, refl, sym, ap, subst, ◌∙◌, arith}
use Rattle.std.specs.List.{AllByRecursion}
use Rattle.std.proofs.lemmas.List.{append-nil}
use Rattle.psplib_layout.specs.declared.rule.Rule.{Rule}
use Rattle.psplib_layout.specs.Rule.{Keeps}
use Rattle.psplib_layout.specs.Wanted.{Wanted, give, number, times, Stands, ◌>>=◌}

-- numbers of two wants, one after the other
pub record Both {A B : Type 0} (w : Wanted A) (more : A → Wanted B) (numbers : List ℕ) (y : B) : Type 0 where
  pub front : List ℕ
  pub back : List ℕ
  pub value : A
  pub numbers_are : numbers ≡ front ++ back
  pub first : Stands w front value
  pub second : Stands (more value) back y

pub Stands-parts : {A B : Type 0} (w : Wanted A) (more : A → Wanted B) (numbers : List ℕ) (y : B) → Stands (w >>= more) numbers y → Both w more numbers y
Stands-parts (give x) more ns y h = record { front = []; back = ns; value = x; numbers_are = refl; first = refl; second = h }
Stands-parts (number rule next) more [] y h = absurd h
Stands-parts (number rule next) more (n ∷ ns) y h =
    let b = Stands-parts (next n) more ns y h.1 in
    record { front = n ∷ b.front; back = b.back; value = b.value; numbers_are = ap (λ (xs : List ℕ). n ∷ xs) b.numbers_are; first = (h.0, b.first); second = b.second }

pub Stands-both : {A B : Type 0} (w : Wanted A) (more : A → Wanted B) (xs ys : List ℕ) (x : A) (y : B) → Stands w xs x → Stands (more x) ys y → Stands (w >>= more) (xs ++ ys) y
Stands-both {A = A} (give v) more [] ys x y h k = subst (λ (z : A). Stands (more z) ys y) (sym h) k
Stands-both (give v) more (n ∷ ns) ys x y h k = absurd h
Stands-both (number rule next) more [] ys x y h k = absurd h
Stands-both (number rule next) more (n ∷ ns) ys x y h k = (h.0, Stands-both (next n) more ns ys x y h.1 k)

-- nothing more was wanted
pub given : {A : Type 0} (x : A) (ns : List ℕ) (y : A) → Stands (give x) ns y → (ns ≡ []) × (x ≡ y)
given x [] y h = (refl, h)
given x (n ∷ ns) y h = absurd h

-- ---- a list of numbers under one rule

pub record AreTimes (k : ℕ) (rule : Rule) (numbers value : List ℕ) : Type 0 where
  pub same : numbers ≡ value
  pub count : length value ≡ k
  pub each : AllByRecursion (Keeps rule) value

pub times_found : (k : ℕ) (rule : Rule) (numbers value : List ℕ) → Stands (times k rule) numbers value → AreTimes k rule numbers value
times_found zero rule [] value h = subst (λ (v : List ℕ). AreTimes 0 rule [] v) h (record { same = refl; count = refl; each = tt })
times_found zero rule (n ∷ ns) value h = absurd h
times_found (suc k) rule [] value h = absurd h
times_found (suc k) rule (n ∷ ns) value h =
    let b = Stands-parts (times k rule) (λ xs. give (n ∷ xs)) ns value h.1 in
    let t = times_found k rule b.front b.value b.first in
    let g = given (n ∷ b.value) b.back value b.second in
    record {
      same = ap (λ (xs : List ℕ). n ∷ xs) (b.numbers_are ∙ ap (λ (ys : List ℕ). b.front ++ ys) g.0 ∙ append-nil b.front ∙ t.same) ∙ g.1;
      count = ap length (sym g.1) ∙ ap suc t.count;
      each = subst (AllByRecursion (Keeps rule)) g.1 (h.0, t.each);
    }

pub times_again : (k : ℕ) (rule : Rule) (value : List ℕ) → length value ≡ k → AllByRecursion (Keeps rule) value → Stands (times k rule) value value
times_again zero rule [] c e = refl
times_again zero rule (n ∷ ns) c e = absurd cc
times_again (suc k) rule [] c e = absurd cc
times_again (suc k) rule (n ∷ ns) c e =
    let len : length ns ≡ k = omega arith in
    (e.0, subst (λ (xs : List ℕ). Stands (times k rule >>= λ ms. give (n ∷ ms)) xs (n ∷ ns)) (append-nil ns) (Stands-both (times k rule) (λ ms. give (n ∷ ms)) ns [] ns (n ∷ ns) (times_again k rule ns len e.1) refl))

-- ---- one, and then others

pub record Cons {A : Type 0} (w : Wanted A) (others : A → Wanted (List A)) (numbers : List ℕ) (y : List A) : Type 0 where
  pub front : List ℕ
  pub back : List ℕ
  pub value : A
  pub values : List A
  pub numbers_are : numbers ≡ front ++ back
  pub first : Stands w front value
  pub second : Stands (others value) back values
  pub whole : value ∷ values ≡ y

pub Stands-cons_parts : {A : Type 0} (w : Wanted A) (others : A → Wanted (List A)) (numbers : List ℕ) (y : List A) → Stands (w >>= λ x. others x >>= λ xs. give (x ∷ xs)) numbers y → Cons w others numbers y
Stands-cons_parts {A} w others numbers y h =
    let b = Stands-parts w (λ x. others x >>= λ xs. give (x ∷ xs)) numbers y h in
    let c = Stands-parts (others b.value) (λ xs. give (b.value ∷ xs)) b.back y b.second in
    let g = given (b.value ∷ c.value) c.back y c.second in
    let back_is : b.back ≡ c.front = c.numbers_are ∙ ap (λ (ns : List ℕ). c.front ++ ns) g.0 ∙ append-nil c.front in
    record {
      front = b.front;
      back = c.front;
      value = b.value;
      values = c.value;
      numbers_are = b.numbers_are ∙ ap (λ (ns : List ℕ). b.front ++ ns) back_is;
      first = b.first;
      second = c.first;
      whole = g.1;
    }

pub Stands-cons : {A : Type 0} (w : Wanted A) (others : A → Wanted (List A)) (xs ys : List ℕ) (x : A) (rest : List A) → Stands w xs x → Stands (others x) ys rest → Stands (w >>= λ x. others x >>= λ more. give (x ∷ more)) (xs ++ ys) (x ∷ rest)
Stands-cons {A} w others xs ys x rest h k =
    let tail : Stands (others x >>= λ more. give (x ∷ more)) (ys ++ []) (x ∷ rest) = Stands-both (others x) (λ more. give (x ∷ more)) ys [] rest (x ∷ rest) k refl in
    Stands-both w (λ v. others v >>= λ more. give (v ∷ more)) xs ys x (x ∷ rest) h (subst (λ (ns : List ℕ). Stands (others x >>= λ more. give (x ∷ more)) ns (x ∷ rest)) (append-nil ys) tail)
