-- The workers that were split off: a list in which each stands once.
use Rattle.std.proofs.Common.{◌≡◌, ◌≢◌, true≢false, ℕ, ◌+◌, ◌<◌, ◌≤◌, ◌⊎◌, ◌||◌, Bool, true, false, nat_eq, List, [], ◌∷◌, ◌++◌, length, sym, refl, ap, ◌∙◌, inl, inr, arith, length-append}
use Rattle.std.proofs.lemmas.Bool.Decides.{nat_tests}
use Rattle.std.proofs.lemmas.Cmp.{nat_eq_equiv}
use Rattle.std.specs.List.{list_any, IsDistinct}
use Rattle.std.proofs.lemmas.List.Folds.{list_any-append}
use Rattle.std.proofs.lemmas.Map.Keys.{IsDistinct-push}
use Rattle.std.proofs.lemmas.Map.Steps.{length-le_from_distinct_below}
use Rattle.search_table.specs.Lists.{Has, Lacks}

pub nothing_once : IsDistinct nat_eq []
unfolding IsDistinct
nothing_once = tt

pub once_more : (ws : List ℕ) (w : ℕ) → IsDistinct nat_eq ws → Lacks ws w → IsDistinct nat_eq (ws ++ w ∷ [])
once_more ws w once out = IsDistinct-push nat_eq_equiv ws w once out

pub Has-before : (ws : List ℕ) (w q : ℕ) → Has ws q → Has (ws ++ w ∷ []) q
Has-before ws w q h = list_any-append (nat_eq q) ws (w ∷ []) ∙ ap (λ (b : Bool). b || (nat_eq q w || false)) h

pub Has-last : (ws : List ℕ) (w : ℕ) → Has (ws ++ w ∷ []) w
Has-last ws w = list_any-append (nat_eq w) ws (w ∷ []) ∙ last (list_any (nat_eq w) ws)
  where
    last : (b : Bool) → (b || (nat_eq w w || false)) ≡ true
    last true = refl
    last false = grind (arith, nat_tests)

pub Has-snoc : (ws : List ℕ) (w q : ℕ) → Has (ws ++ w ∷ []) q → Has ws q ⊎ (q ≡ w)
Has-snoc ws w q h = cases (list_any (nat_eq q) ws) refl (sym (list_any-append (nat_eq q) ws (w ∷ [])) ∙ h)
  where
    cases : (b : Bool) → list_any (nat_eq q) ws ≡ b → (b || (nat_eq q w || false)) ≡ true → Has ws q ⊎ (q ≡ w)
    cases true e _ = inl e
    cases false e o = inr (grind (arith, nat_tests))

-- where the longer list lacks a worker, the list lacks it, and it is another than the last
pub Lacks-before : (ws : List ℕ) (w q : ℕ) → Lacks (ws ++ w ∷ []) q → Lacks ws q
Lacks-before ws w q out = by_test (list_any (nat_eq q) ws) refl
  where
    by_test : (b : Bool) → list_any (nat_eq q) ws ≡ b → b ≡ false
    by_test true e = absurd (true≢false (sym (Has-before ws w q e) ∙ out))
    by_test false e = refl

pub Lacks-last : (ws : List ℕ) (w q : ℕ) → Lacks (ws ++ w ∷ []) q → q ≢ w
Lacks-last ws w q out e = true≢false (sym (Has-last ws w) ∙ (ap (λ (x : ℕ). list_any (nat_eq x) (ws ++ w ∷ [])) (sym e) ∙ out))

-- distinct workers from 1 to n are at most n
pub length-le : (n : ℕ) (ws : List ℕ) → IsDistinct nat_eq ws → ((q : ℕ) → Has ws q → (0 < q) × (q ≤ n)) → length ws ≤ n
length-le n ws once range =
    let out : Lacks ws 0 = lacks (list_any (nat_eq 0) ws) refl in
    let l = length-le_from_distinct_below (ws ++ 0 ∷ []) (n + 1) (once_more ws 0 once out) below in
    omega (arith, length-append ws (0 ∷ []))
  where
    lacks : (b : Bool) → list_any (nat_eq 0) ws ≡ b → b ≡ false
    lacks true e = let h = (range 0 e).0 in absurd (omega arith)
    lacks false e = refl

    below : (q : ℕ) → Has (ws ++ 0 ∷ []) q → q < n + 1
    below q h = cases (list_any (nat_eq q) ws) refl (sym (list_any-append (nat_eq q) ws (0 ∷ [])) ∙ h)
      where
        cases : (b : Bool) → list_any (nat_eq q) ws ≡ b → (b || (nat_eq q 0 || false)) ≡ true → q < n + 1
        cases true e _ = let m = (range q e).1 in omega arith
        cases false e o = grind (arith, nat_tests)
