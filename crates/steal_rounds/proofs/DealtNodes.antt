-- Nodes dealt out.
use Rattle.std.proofs.Common.{◌≡◌, ℕ, zero, suc, ◌+◌, ◌<◌, ◌⊎◌, inl, inr, refl, ap, subst, arith, List, [], ◌∷◌, ◌++◌, length, length-append, All, Global}
use Rattle.std.specs.declared.vec.Vec.{Vec}
use Rattle.std.specs.Prelude.{Contains, slice_set, slice_index_or}
use Rattle.rcpsp_model.proofs.Lists.{In, In-All, In-push, In-from_Contains, Contains-from_In, All-from_In}
use Rattle.rcpsp_model.proofs.Choices.{In-left, In-right}
use Rattle.search_log.specs.Weights.{total}
use Rattle.search_log.proofs.Sums.{total-append}
use Rattle.search_rounds.specs.declared.round.WaitingNode.{WaitingNode}
use Rattle.steal_rounds.specs.Dealt.{all_dealt, Adds}

-- one node more at the end of a list
pub added : (lists : List (Vec WaitingNode Global)) (i : ℕ) (d : Vec WaitingNode Global) (list : Vec WaitingNode Global) (node : WaitingNode) → i < length lists → list.items ≡ (slice_index_or lists i d).items ++ node ∷ [] →
    Adds node (all_dealt lists) (all_dealt (slice_set lists i list))
added lists i d list node l is = record { weighs = weighs lists i l is; from = λ x c. from_In (from lists i l is x (In-from_Contains (all_dealt (slice_set lists i list)) x c)) }
  where
    weighs : (lists : List (Vec WaitingNode Global)) (i : ℕ) → i < length lists → list.items ≡ (slice_index_or lists i d).items ++ node ∷ [] → (h : WaitingNode → ℕ) →
        total h (all_dealt (slice_set lists i list)) ≡ total h (all_dealt lists) + h node
    weighs [] i l is h = absurd (omega arith)
    weighs (v ∷ lists) zero l is h =
        let a = total-append h list.items (all_dealt lists) in
        let b = total-append h v.items (all_dealt lists) in
        let c = ap (total h) is in
        let e = total-append h v.items (node ∷ []) in
        omega arith
    weighs (v ∷ lists) (suc i) l is h =
        let a = total-append h v.items (all_dealt (slice_set lists i list)) in
        let b = total-append h v.items (all_dealt lists) in
        let c = weighs lists i (omega arith) is h in
        omega arith

    split : (xs ys : List WaitingNode) (x : WaitingNode) → In (xs ++ ys) x → In xs x ⊎ In ys x
    split [] ys x c = inr c
    split (y ∷ xs) ys x (inl same) = inl (inl same)
    split (y ∷ xs) ys x (inr c) = elim (split xs ys x c) [ inl a ↦ inl (inr a) | inr b ↦ inr b ]

    from : (lists : List (Vec WaitingNode Global)) (i : ℕ) → i < length lists → list.items ≡ (slice_index_or lists i d).items ++ node ∷ [] → (x : WaitingNode) →
        In (all_dealt (slice_set lists i list)) x → In (all_dealt lists) x ⊎ (node ≡ x)
    from [] i l is x c = absurd (omega arith)
    from (v ∷ lists) zero l is x c = elim (split list.items (all_dealt lists) x c) [
      | inl own ↦ elim (In-push v.items node x (subst (λ (ws : List WaitingNode). In ws x) is own)) [ inl a ↦ inl (In-left v.items (all_dealt lists) x a) | inr same ↦ inr same ]
      | inr later ↦ inl (In-right v.items (all_dealt lists) x later)
    ]
    from (v ∷ lists) (suc i) l is x c = elim (split v.items (all_dealt (slice_set lists i list)) x c) [
      | inl own ↦ inl (In-left v.items (all_dealt lists) x own)
      | inr later ↦ elim (from lists i (omega arith) is x later) [ inl a ↦ inl (In-right v.items (all_dealt lists) x a) | inr same ↦ inr same ]
    ]

    from_In : {x : WaitingNode} → In (all_dealt lists) x ⊎ (node ≡ x) → Contains (all_dealt lists) x ⊎ (node ≡ x)
    from_In {x} (inl a) = inl (Contains-from_In (all_dealt lists) x a)
    from_In (inr same) = inr same

-- what is among the nodes of a frontier stays among them
pub still-among : (frontier before after : List WaitingNode) (node : WaitingNode) → Adds node before after → All (Contains frontier) before → Contains frontier node → All (Contains frontier) after
still-among frontier before after node a all own =
    All-from_In (Contains frontier) after (λ x i. elim (a.from x (Contains-from_In after x i)) [ inl old ↦ In-All (Contains frontier) before all x (In-from_Contains before x old) | inr same ↦ subst (Contains frontier) same own ])

both-none : (xs ys : List WaitingNode) → length (xs ++ ys) ≡ 0 → (length xs ≡ 0) × (length ys ≡ 0)
both-none xs ys z = let a = length-append xs ys in (omega arith, omega arith)

-- an empty list more
pub none-more : (lists : List (Vec WaitingNode Global)) (v : Vec WaitingNode Global) → v.items ≡ [] → length (all_dealt lists) ≡ 0 → length (all_dealt (lists ++ v ∷ [])) ≡ 0
none-more [] v e z = ap (λ (ws : List WaitingNode). length (ws ++ [])) e
none-more (w ∷ lists) v e z =
    let b = both-none w.items (all_dealt lists) z in
    let x = b.0 in
    let y = none-more lists v e b.1 in
    let a = length-append w.items (all_dealt (lists ++ v ∷ [])) in
    omega arith

-- where nothing is, nothing weighs
pub nothing-weighs : (ws : List WaitingNode) → length ws ≡ 0 → ws ≡ []
nothing-weighs [] z = refl
nothing-weighs (w ∷ ws) z = absurd (omega arith)
