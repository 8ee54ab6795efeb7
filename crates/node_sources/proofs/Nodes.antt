-- Nodes of deques as nodes that wait, and what they weigh.
use Rattle.std.proofs.Common.{◌≡◌, ℕ, ◌+◌, ◌∙◌, List, [], ◌∷◌, ◌++◌, length, drop, refl, ap, sym, subst, arith, map, All, sum_by, IsPermutation}
use Rattle.std.specs.Prelude.{Contains}
use Rattle.std.proofs.lemmas.List.Elements.{All-nil, All-cons, All-head, All-tail}
use Rattle.std.proofs.lemmas.List.Sums.{sum_by-cons}
use Rattle.std.proofs.lemmas.List.Sorted.{sum_by-IsPermutation}
use Rattle.rcpsp_model.specs.Project.{Project}
use Rattle.rcpsp_model.proofs.Lists.{In-from_Contains, Contains-from_In, In-All, All-from_In}
use Rattle.rcpsp_model.proofs.Choices.{In-map, In-left, In-right}
use Rattle.precedence_tree.specs.Node.{NodeState}
use Rattle.search_log.specs.Weights.{total}
use Rattle.search_log.specs.Stands.{Waiting}
use Rattle.search_log.proofs.Sums.{total-map}
use Rattle.search_rounds.specs.declared.round.WaitingNode.{WaitingNode}
use Rattle.search_rounds.specs.Round.{waits_at, waiting_of}
use Rattle.node_deques.specs.declared.node.DequeNode.{DequeNode}
use Rattle.node_deques.specs.declared.view.NodeTerms.{NodeTerms}
use Rattle.node_deques.specs.Nodes.{IsOn, IsOnEach}
use Rattle.node_sources.specs.Places.{terms_of}
use Rattle.node_sources.specs.Source.{waiting}

-- what a node of a deque weighs, where nodes that wait are weighed
abbrev pub weight_of : (Waiting → ℕ) → DequeNode → ℕ
weight_of weight x = weight (waits_at (waiting x))

pub weighs : (weight : Waiting → ℕ) (xs : List DequeNode) → total weight (waiting_of (map waiting xs)) ≡ total (weight_of weight) xs
weighs weight xs = total-map weight waits_at (map waiting xs) ∙ total-map (λ w. weight (waits_at w)) waiting xs

weighs-as : {X : Type 0} (f : X → ℕ) (xs : List X) → total f xs ≡ sum_by f xs
weighs-as f [] = refl
weighs-as f (x ∷ xs) = ap (λ (n : ℕ). f x + n) (weighs-as f xs) ∙ sym (sum_by-cons f x xs)

pub total-permutation : {X : Type 0} (f : X → ℕ) (xs ys : List X) → IsPermutation xs ys → total f xs ≡ total f ys
total-permutation f xs ys p = let a = weighs-as f xs in let b = weighs-as f ys in let c = sum_by-IsPermutation f xs ys p in omega arith

pub contains-waiting : (xs : List DequeNode) (x : DequeNode) → Contains xs x → Contains (map waiting xs) (waiting x)
contains-waiting xs x c = Contains-from_In (map waiting xs) (waiting x) (In-map waiting xs x (In-from_Contains xs x c))

pub on-terms : (P : Project) (worker : ℕ) (terms : List NodeTerms) (x : DequeNode) → terms ≡ terms_of P worker ∷ [] → All (IsOnEach terms) (x ∷ []) → IsOn x (terms_of P worker)
on-terms P worker terms x is all = All-head (IsOn x) (terms_of P worker) [] (subst (λ (ts : List NodeTerms). IsOnEach ts x) is (All-head (IsOnEach terms) x [] all))

pub All-waiting : (Q : NodeState → Type 0) (xs : List DequeNode) → All (λ x. Q x.node) xs → All (λ w. Q w.node) (map waiting xs)
All-waiting Q [] all = All-nil (λ (w : WaitingNode). Q w.node)
All-waiting Q (x ∷ xs) all = All-cons (λ (w : WaitingNode). Q w.node) (waiting x) (map waiting xs) (All-head (λ (y : DequeNode). Q y.node) x xs all) (All-waiting Q xs (All-tail (λ (y : DequeNode). Q y.node) x xs all))

-- which project the terms are of
abbrev first_project : Project → List NodeTerms → Project
first_project P [] = P
first_project P (t ∷ ts) = t.project

pub one-project : (P Q : Project) (worker : ℕ) (terms : List NodeTerms) → terms ≡ terms_of P worker ∷ [] → terms ≡ terms_of Q worker ∷ [] → P ≡ Q
one-project P Q worker terms p q = ap (first_project P) (sym p ∙ q)

pub All-back : {X : Type 0} (Q : X → Type 0) (xs ys : List X) → All Q (xs ++ ys) → All Q ys
All-back Q xs ys all = All-from_In Q ys (λ y i. In-All Q (xs ++ ys) all y (In-right xs ys y i))

pub All-front : {X : Type 0} (Q : X → Type 0) (xs ys : List X) → All Q (xs ++ ys) → All Q xs
All-front Q xs ys all = All-from_In Q xs (λ x i. In-All Q (xs ++ ys) all x (In-left xs ys x i))

-- a queue that is as it was once its first is dropped
pub none-left : {X : Type 0} (xs rest : List X) → xs ≡ rest → rest ≡ drop 1 xs → xs ≡ []
none-left [] rest a b = refl
none-left (x ∷ xs) rest a b = absurd (let e : length (x ∷ xs) ≡ length xs = ap length (a ∙ b) in omega arith)
