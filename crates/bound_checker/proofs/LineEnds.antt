-- Bytes, and the first LF among them.
use Rattle.std.proofs.Common.{◌≡◌, ℕ, zero, suc, ◌+◌, ◌<◌, ◌∙◌, inl, inr, arith, refl, sym, ap, true, false, List, [], ◌∷◌, ◌++◌, length, take}
use Rattle.std.specs.Prelude.{nat_lt}
use Rattle.std.proofs.lemmas.Bool.{cases_Bool}
use Rattle.std.proofs.lemmas.Bool.Decides.{nat_tests}
use Rattle.proof_log.specs.Lines.{is_line_end, line_len}
use Rattle.proof_log.proofs.CutParts.{is_above, parts_true}
use Rattle.bound_checker.specs.Checker.{HasNoEnd}

heads : (x y : ℕ) (xs ys : List ℕ) → x ∷ xs ≡ y ∷ ys → (x ≡ y) × (xs ≡ ys)
heads x y xs ys same = (cc, cc)

ends-not : (y : ℕ) → 10 ≡ y → is_line_end y ≡ false → ⊥
ends-not y e h = grind (arith, nat_tests)

pub no_end-append : (xs ys : List ℕ) → HasNoEnd xs → HasNoEnd ys → HasNoEnd (xs ++ ys)
no_end-append [] ys p q = q
no_end-append (x ∷ xs) ys p q = (p.0, no_end-append xs ys p.1 q)

above-byte : (byte : ℕ) → nat_lt 10 byte ≡ true → is_line_end byte ≡ false
above-byte byte h = grind (arith, nat_tests)

-- what is above LF
pub above-no_end : (xs : List ℕ) → is_above 10 xs ≡ true → HasNoEnd xs
above-no_end [] h = tt
above-no_end (x ∷ xs) h = let two = parts_true (nat_lt 10 x) (is_above 10 xs) h in (above-byte x two.0, above-no_end xs two.1)

len-end : (byte : ℕ) (bytes : List ℕ) → is_line_end byte ≡ true → line_len (byte ∷ bytes) ≡ 0
unfolding line_len
len-end byte bytes h = rw h

len-other : (byte : ℕ) (bytes : List ℕ) → is_line_end byte ≡ false → line_len (byte ∷ bytes) ≡ suc (line_len bytes)
unfolding line_len
len-other byte bytes h = let e : 1 + line_len bytes ≡ suc (line_len bytes) = omega arith in rw h e

end-is : (byte : ℕ) → is_line_end byte ≡ true → byte ≡ 10
end-is byte h = grind (arith, nat_tests)

-- the bytes before the first LF have none
pub no_end-front : (piece : List ℕ) → HasNoEnd (take (line_len piece) piece)
no_end-front [] = none (line_len [])
  where
    none : (n : ℕ) → HasNoEnd (take n [])
    none zero = tt
    none (suc n) = tt
no_end-front (byte ∷ piece) = elim (cases_Bool (is_line_end byte)) [
  | inl end ↦ rw (len-end byte piece end) tt
  | inr other ↦ rw (len-other byte piece other) (other, no_end-front piece)
]

-- and then the LF stands
pub with_end : (piece : List ℕ) → line_len piece < length piece → take (line_len piece + 1) piece ≡ take (line_len piece) piece ++ 10 ∷ []
with_end [] some = absurd (omega arith)
with_end (byte ∷ piece) some = elim (cases_Bool (is_line_end byte)) [
  | inl end ↦ rw (len-end byte piece end) (ap (λ (b : ℕ). b ∷ []) (end-is byte end))
  | inr other ↦
      let less = len-other byte piece other in
      let e : line_len (byte ∷ piece) + 1 ≡ suc (line_len piece + 1) = omega arith in
      ap (λ (n : ℕ). take n (byte ∷ piece)) e ∙ ap (λ (xs : List ℕ). byte ∷ xs) (with_end piece (omega arith)) ∙ ap (λ (n : ℕ). take n (byte ∷ piece) ++ 10 ∷ []) (sym less)
]

-- bytes are cut at their first LF in one way
pub one_cut : (xs ys a b : List ℕ) → HasNoEnd xs → HasNoEnd ys → xs ++ 10 ∷ a ≡ ys ++ 10 ∷ b → (xs ≡ ys) × (a ≡ b)
one_cut [] [] a b p q same = (refl, (heads 10 10 a b same).1)
one_cut [] (y ∷ ys) a b p q same = absurd (ends-not y ((heads 10 y a (ys ++ 10 ∷ b) same).0) q.0)
one_cut (x ∷ xs) [] a b p q same = absurd (ends-not x (sym (heads x 10 (xs ++ 10 ∷ a) b same).0) p.0)
one_cut (x ∷ xs) (y ∷ ys) a b p q same =
    let two = heads x y (xs ++ 10 ∷ a) (ys ++ 10 ∷ b) same in
    let rest = one_cut xs ys a b p.1 q.1 two.1 in
    (ap (λ (n : ℕ). n ∷ xs) two.0 ∙ ap (λ (zs : List ℕ). y ∷ zs) rest.0, rest.1)

-- bytes without LF aren't cut
pub no_cut : (xs ys zs : List ℕ) → HasNoEnd xs → xs ≡ ys ++ 10 ∷ zs → ⊥
no_cut [] [] zs p same = absurd (cc)
no_cut [] (y ∷ ys) zs p same = absurd (cc)
no_cut (x ∷ xs) [] zs p same = ends-not x (sym (heads x 10 xs zs same).0) p.0
no_cut (x ∷ xs) (y ∷ ys) zs p same = no_cut xs ys zs p.1 (heads x y xs (ys ++ 10 ∷ zs) same).1

-- a line that ends in bytes and what comes behind them ends in the bytes, where an LF or more bytes than the line has stand there
pub cut_again : (t l m more rest : List ℕ) → HasNoEnd t → (l ++ 10 ∷ m) ++ more ≡ t ++ 10 ∷ rest → (others : List ℕ) × (l ++ 10 ∷ m ≡ t ++ 10 ∷ others)
cut_again [] [] m more rest p same = (m, refl)
cut_again [] (x ∷ l) m more rest p same = (l ++ 10 ∷ m, ap (λ (n : ℕ). n ∷ (l ++ 10 ∷ m)) (heads x 10 ((l ++ 10 ∷ m) ++ more) rest same).0)
cut_again (y ∷ t) [] m more rest p same = absurd (ends-not y ((heads 10 y (m ++ more) (t ++ 10 ∷ rest) same).0) p.0)
cut_again (y ∷ t) (x ∷ l) m more rest p same =
    let two = heads x y ((l ++ 10 ∷ m) ++ more) (t ++ 10 ∷ rest) same in
    let own = cut_again t l m more rest p.1 two.1 in
    (own.0, ap (λ (n : ℕ). n ∷ (l ++ 10 ∷ m)) two.0 ∙ ap (λ (zs : List ℕ). y ∷ zs) own.1)

pub cut_long : (t xs more rest : List ℕ) → length t < length xs → xs ++ more ≡ t ++ 10 ∷ rest → (others : List ℕ) × (xs ≡ t ++ 10 ∷ others)
cut_long t [] more rest long same = absurd (omega arith)
cut_long [] (x ∷ xs) more rest long same = (xs, ap (λ (n : ℕ). n ∷ xs) (heads x 10 (xs ++ more) rest same).0)
cut_long (y ∷ t) (x ∷ xs) more rest long same =
    let two = heads x y (xs ++ more) (t ++ 10 ∷ rest) same in
    let own = cut_long t xs more rest (omega arith) two.1 in
    (own.0, ap (λ (n : ℕ). n ∷ xs) two.0 ∙ ap (λ (zs : List ℕ). y ∷ zs) own.1)

-- a byte behind an LF
pub none_left : (xs ys : List ℕ) → [] ≡ xs ++ 10 ∷ ys → ⊥
none_left [] ys same = absurd (cc)
none_left (x ∷ xs) ys same = absurd (cc)
