-- The views of all passes, where one changes or comes: which stands where, what they took, and how many passes there are.
use Rattle.std.proofs.Common.{◌≡◌, ◌≢◌, ℕ, zero, suc, ◌+◌, ◌<◌, ◌≤◌, ◌⊎◌, List, [], ◌∷◌, ◌++◌, length, set, sym, refl, ap, ◌∙◌, subst, ⊎_elim, arith, length-append, append-nil, IsPermutation}
use mathlib.Core.Option.{some-injective, some-ne-none}
use Rattle.atomic_table.proofs.Lists.{at_set, at_snoc}
use Rattle.std.proofs.lemmas.List.Sorted.{IsPermutation-sym, IsPermutation-append_right, IsPermutation-append_comm, IsPermutation-trans}
use Rattle.node_deques.specs.declared.node.DequeNode.{DequeNode}
use Rattle.node_deques.specs.declared.view.DequeView.{DequeView}
use Rattle.node_deques.specs.Passes.{At, EachView, all_passes, all_taken}
use Rattle.node_deques.proofs.Orders.{last-two, behind}

pub At-below : (vs : List DequeView) (j : ℕ) (u : DequeView) → At vs j u → j < length vs
At-below [] j u e = absurd (some-ne-none u (sym e))
At-below (x ∷ xs) zero u e = omega arith
At-below (x ∷ xs) (suc j) u e = let r = At-below xs j u e in omega arith

pub EachView-set : (P : DequeView → Type 0) (vs : List DequeView) (i : ℕ) (w : DequeView) → EachView P vs → P w → EachView P (set vs i w)
EachView-set P vs i w each mine j u at = ⊎_elim (λ (x : (j ≡ i) × (w ≡ u)). subst P x.1 mine) (λ (x : (j ≢ i) × At vs j u). each j u x.1) (at_set vs i j w u at)

pub EachView-snoc : (P : DequeView → Type 0) (vs : List DequeView) (w : DequeView) → EachView P vs → P w → EachView P (vs ++ w ∷ [])
EachView-snoc P vs w each mine j u at = ⊎_elim (λ (x : At vs j u). each j u x) (λ (x : w ≡ u). subst P x mine) (at_snoc vs w u j at)

pub EachView-weaker : (P Q : DequeView → Type 0) (vs : List DequeView) → ((v : DequeView) → P v → Q v) → EachView P vs → EachView Q vs
EachView-weaker P Q vs f each i v at = f v (each i v at)

pub all_passes-set : (vs : List DequeView) (i : ℕ) (v w : DequeView) → At vs i v → all_passes (set vs i w) + v.passes ≡ all_passes vs + w.passes
all_passes-set [] i v w e = absurd (some-ne-none v (sym e))
all_passes-set (x ∷ xs) zero v w e = let is : x.passes ≡ v.passes = ap (λ (u : DequeView). u.passes) (some-injective x v e) in omega arith
all_passes-set (x ∷ xs) (suc i) v w e = let r = all_passes-set xs i v w e in omega arith

pub all_passes-snoc : (vs : List DequeView) (w : DequeView) → all_passes (vs ++ w ∷ []) ≡ all_passes vs + w.passes
all_passes-snoc [] w = omega arith
all_passes-snoc (x ∷ xs) w = let r = all_passes-snoc xs w in omega arith

-- a pass takes more
pub all_taken-more : (vs : List DequeView) (i : ℕ) (v w : DequeView) (more : List DequeNode) → At vs i v → w.taken ≡ v.taken ++ more → IsPermutation (all_taken vs ++ more) (all_taken (set vs i w))
all_taken-more [] i v w more e t = absurd (some-ne-none v (sym e))
all_taken-more (x ∷ xs) zero v w more e t =
    let is : x.taken ++ more ≡ w.taken = ap (λ (u : DequeView). u.taken ++ more) (some-injective x v e) ∙ sym t in
    subst (λ (l : List DequeNode). IsPermutation ((x.taken ++ all_taken xs) ++ more) (l ++ all_taken xs)) is (last-two x.taken (all_taken xs) more)
all_taken-more (x ∷ xs) (suc i) v w more e t = behind x.taken (all_taken xs) more (all_taken (set xs i w)) (all_taken-more xs i v w more e t)

pub all_taken-same : (vs : List DequeView) (i : ℕ) (v w : DequeView) → At vs i v → w.taken ≡ v.taken → all_taken (set vs i w) ≡ all_taken vs
all_taken-same [] i v w e t = absurd (some-ne-none v (sym e))
all_taken-same (x ∷ xs) zero v w e t = ap (λ (l : List DequeNode). l ++ all_taken xs) (t ∙ ap (λ (u : DequeView). u.taken) (sym (some-injective x v e)))
all_taken-same (x ∷ xs) (suc i) v w e t = ap (λ (l : List DequeNode). x.taken ++ l) (all_taken-same xs i v w e t)

pub all_taken-snoc : (vs : List DequeView) (w : DequeView) → w.taken ≡ [] → all_taken (vs ++ w ∷ []) ≡ all_taken vs
all_taken-snoc [] w none = ap (λ (l : List DequeNode). l ++ []) none
all_taken-snoc (x ∷ xs) w none = ap (λ (l : List DequeNode). x.taken ++ l) (all_taken-snoc xs w none)

-- what a pass took goes elsewhere
all_taken-cleared : (vs : List DequeView) (i : ℕ) (u s : DequeView) → At vs i u → s.taken ≡ [] → IsPermutation (all_taken (set vs i s) ++ u.taken) (all_taken vs)
all_taken-cleared [] i u s e none = absurd (some-ne-none u (sym e))
all_taken-cleared (x ∷ xs) zero u s e none =
    let is : u.taken ≡ x.taken = ap (λ (y : DequeView). y.taken) (sym (some-injective x u e)) in
    let p : IsPermutation (all_taken xs ++ u.taken) (x.taken ++ all_taken xs) = subst (λ (l : List DequeNode). IsPermutation (all_taken xs ++ u.taken) (l ++ all_taken xs)) is (IsPermutation-append_comm (all_taken xs) u.taken) in
    subst (λ (l : List DequeNode). IsPermutation ((l ++ all_taken xs) ++ u.taken) (x.taken ++ all_taken xs)) (sym none) p
all_taken-cleared (x ∷ xs) (suc i) u s e none = behind x.taken (all_taken (set xs i s)) u.taken (all_taken xs) (all_taken-cleared xs i u s e none)

-- what another pass took goes to the first
pub all_taken-joined : (vs : List DequeView) (other : ℕ) (v w u s : DequeView) → At vs 0 v → other ≢ 0 → At vs other u → w.taken ≡ v.taken ++ u.taken → s.taken ≡ []
    → IsPermutation (all_taken (set (set vs 0 w) other s)) (all_taken vs)
all_taken-joined [] other v w u s e apart at t none = absurd (some-ne-none v (sym e))
all_taken-joined (x ∷ xs) zero v w u s e apart at t none = absurd (apart refl)
all_taken-joined (x ∷ xs) (suc j) v w u s e apart at t none =
    let rest : List DequeNode = all_taken (set xs j s) in let is : w.taken ≡ x.taken ++ u.taken = t ∙ ap (λ (y : DequeView). y.taken ++ u.taken) (sym (some-injective x v e)) in
    subst (λ (l : List DequeNode). IsPermutation (l ++ rest) (x.taken ++ all_taken xs)) (sym is)
    (IsPermutation-trans ((x.taken ++ u.taken) ++ rest) ((x.taken ++ rest) ++ u.taken) (x.taken ++ all_taken xs) (last-two x.taken u.taken rest) (behind x.taken rest u.taken (all_taken xs) (all_taken-cleared xs j u s at none)))

nothing : (vs : List DequeView) → all_passes vs ≡ 0 → EachView (λ v. v.passes ≡ 0 → v.taken ≡ []) vs → all_taken vs ≡ []
nothing [] none each = refl
nothing (x ∷ xs) none each =
    let t = each zero x refl (omega arith) in let r = nothing xs (omega arith) (λ i v e. each (suc i) v e) in ap (λ (l : List DequeNode). l ++ all_taken xs) t ∙ r

-- where the first pass stands for all passes, it has all that was taken
pub all_taken-alone : (vs : List DequeView) (v : DequeView) → At vs 0 v → all_passes vs ≡ v.passes → EachView (λ u. u.passes ≡ 0 → u.taken ≡ []) vs → all_taken vs ≡ v.taken
all_taken-alone [] v e all each = absurd (some-ne-none v (sym e))
all_taken-alone (x ∷ xs) v e all each =
    let is : x ≡ v = some-injective x v e in let p : x.passes ≡ v.passes = ap (λ (u : DequeView). u.passes) is in
    let r = nothing xs (omega arith) (λ i u at. each (suc i) u at) in ap (λ (l : List DequeNode). x.taken ++ l) r ∙ (append-nil x.taken ∙ ap (λ (u : DequeView). u.taken) is)

-- the first pass took no more than all
pub first-taken : (vs : List DequeView) (v : DequeView) → At vs 0 v → length v.taken ≤ length (all_taken vs)
first-taken [] v e = absurd (some-ne-none v (sym e))
first-taken (x ∷ xs) v e =
    let is : length x.taken ≡ length v.taken = ap (λ (u : DequeView). length u.taken) (some-injective x v e) in let l = length-append x.taken (all_taken xs) in omega arith
