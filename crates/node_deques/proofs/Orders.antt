-- Lists joined end to end: in another order, and what holds of each node of a part.
use Rattle.std.proofs.Common.{◌≡◌, List, [], ◌∷◌, ◌++◌, sym, refl, ap, subst, All, IsPermutation}
use Rattle.std.proofs.lemmas.List.Elements.{All-nil, All-cons, All-head, All-tail}
use Rattle.std.proofs.lemmas.List.Sorted.{IsPermutation-append_right, IsPermutation-append_comm}

join-assoc : {X : Type 0} (ks ls ms : List X) → (ks ++ ls) ++ ms ≡ ks ++ (ls ++ ms)
join-assoc [] ls ms = refl
join-assoc (k ∷ ks) ls ms = ap (λ xs. k ∷ xs) (join-assoc ks ls ms)

-- the last two of three lists change places
pub last-two : {X : Type 0} (ks ls ms : List X) → IsPermutation ((ks ++ ls) ++ ms) ((ks ++ ms) ++ ls)
last-two {X} ks ls ms =
    let p : IsPermutation (ks ++ (ls ++ ms)) (ks ++ (ms ++ ls)) = IsPermutation-append_right ks (ls ++ ms) (ms ++ ls) (IsPermutation-append_comm ls ms) in
    subst (λ (xs : List X). IsPermutation xs ((ks ++ ms) ++ ls)) (sym (join-assoc ks ls ms)) (subst (λ (xs : List X). IsPermutation (ks ++ (ls ++ ms)) xs) (sym (join-assoc ks ms ls)) p)

-- behind the same list
pub behind : {X : Type 0} (ks ls ms ns : List X) → IsPermutation (ls ++ ms) ns → IsPermutation ((ks ++ ls) ++ ms) (ks ++ ns)
behind {X} ks ls ms ns p = subst (λ (xs : List X). IsPermutation xs (ks ++ ns)) (sym (join-assoc ks ls ms)) (IsPermutation-append_right ks (ls ++ ms) ns p)

-- the end of three lists comes between the others
pub end-between : {X : Type 0} (ks ls ms : List X) → IsPermutation (ks ++ (ls ++ ms)) ((ks ++ ms) ++ ls)
end-between {X} ks ls ms = subst (λ (xs : List X). IsPermutation xs ((ks ++ ms) ++ ls)) (join-assoc ks ls ms) (last-two ks ls ms)

pub All-front : {X : Type 0} (P : X → Type 0) (xs ys : List X) → All P (xs ++ ys) → All P xs
All-front P [] ys all = All-nil P
All-front P (x ∷ xs) ys all = All-cons P x xs (All-head P x (xs ++ ys) all) (All-front P xs ys (All-tail P x (xs ++ ys) all))

pub All-back : {X : Type 0} (P : X → Type 0) (xs ys : List X) → All P (xs ++ ys) → All P ys
All-back P [] ys all = all
All-back P (x ∷ xs) ys all = All-back P xs ys (All-tail P x (xs ++ ys) all)
