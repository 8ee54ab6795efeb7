-- The rows of children, and those of them that wait.
use Rattle.std.proofs.Common.{◌≡◌, ℕ, suc, ◌+◌, ◌-◌, ◌<◌, ◌≤◌, refl, sym, ap, subst, ◌∙◌, arith, List, [], ◌∷◌, ◌++◌, length, length-append, map, All, Some, None}
use Rattle.std.specs.List.{AllZip}
use Rattle.std.proofs.lemmas.List.{get_or_at}
use Rattle.std.proofs.lemmas.List.Elements.{All-cons, All-nil, All-head, All-tail}
use Rattle.rcpsp_model.specs.declared.parts.Child.{Child}
use Rattle.rcpsp_model.specs.declared.parts.Child.TheVariants.{Placed, Shut}
use Rattle.rcpsp_model.specs.declared.parts.Entry.{Entry}
use Rattle.rcpsp_model.specs.declared.parts.Verdict.{Verdict}
use Rattle.rcpsp_model.specs.declared.parts.Verdict.TheVariants.{Infeasible}
use Rattle.rcpsp_model.specs.Project.{Project}
use Rattle.rcpsp_model.specs.Tree.{Choice, entry_at, IsChild}
use Rattle.precedence_tree.specs.Node.{NodeState, StandsFor}
use Rattle.precedence_tree.specs.Children.{child_front, StandsWherePlaced}
use Rattle.log_truth.specs.Log.{Branch, by_choice}
use Rattle.search_log.specs.declared.row.RowFate.TheVariants as fate
use Rattle.search_log.specs.declared.row.Row.{Row}
use Rattle.search_log.specs.declared.row.Origin.{Origin}
use Rattle.search_log.specs.Weights.{Each}
use Rattle.search_log.specs.Table.{says_row}
use Rattle.search_log.specs.Stands.{TreeNode, node_at, RowSuits, Waiting}
use Rattle.search_log.specs.Laws.{child_node, child_row}
use Rattle.search_log.proofs.Sums.{Each-append}
use Rattle.search_log.proofs.GrownTables.{child_rows_law}
use Rattle.search_rounds.specs.declared.round.WaitingNode.{WaitingNode}
use Rattle.search_rounds.specs.Round.{waits_at, waiting_of}
use Rattle.steal_rounds.specs.Children.{last_placed, placed_row, row_of_child, new_row, waiting_child, placed_from}
use Rattle.round_shares.specs.Part.{Beginning, IsNewRow, IsByOneOf}
use Rattle.round_shares.specs.Share.{born_at, born, IsNewAt, IsRowFor}

-- the place is one of these
pub record IsWithin (low high : ℕ) (w : Waiting) : Type 0 where
  pub from : low ≤ w.place
  pub below : w.place < high

-- the node of the tree for which a child stands
abbrev pub kid_node : List Entry → Choice → Child NodeState → TreeNode
kid_node F c (Placed node) = record { branch = by_choice F c; front = Some node.front }
kid_node F c (Shut j m why) = record { branch = by_choice F c; front = None }

abbrev pub kid_nodes : List Entry → List Choice → List (Child NodeState) → List TreeNode
kid_nodes F [] kids = []
kid_nodes F (c ∷ cs) [] = []
kid_nodes F (c ∷ cs) (kid ∷ kids) = kid_node F c kid ∷ kid_nodes F cs kids

abbrev pub IsKid : Project → List Entry → Choice → Child NodeState → Type 0
IsKid P F c kid = IsChild P F c.job c.mode (child_front kid)

pub AreKids-from : (P : Project) (F : List Entry) (cs : List Choice) (kids : List (Child NodeState)) → AllZip (λ c k. IsChild P F c.job c.mode k) cs (map child_front kids) → AllZip (IsKid P F) cs kids
AreKids-from P F [] [] z = tt
AreKids-from P F [] (kid ∷ kids) z = absurd z
AreKids-from P F (c ∷ cs) [] z = absurd z
AreKids-from P F (c ∷ cs) (kid ∷ kids) z = (z.0, AreKids-from P F cs kids z.1)

kid-branch : (F : List Entry) (c : Choice) (kid : Child NodeState) → (kid_node F c kid).branch ≡ by_choice F c
kid-branch F c (Placed node) = refl
kid-branch F c (Shut j m why) = refl

pub kid-branches : (P : Project) (F : List Entry) (cs : List Choice) (kids : List (Child NodeState)) → AllZip (IsKid P F) cs kids → map (λ n. n.branch) (kid_nodes F cs kids) ≡ map (λ c. by_choice F c) cs
kid-branches P F [] [] z = refl
kid-branches P F [] (kid ∷ kids) z = absurd z
kid-branches P F (c ∷ cs) [] z = absurd z
kid-branches P F (c ∷ cs) (kid ∷ kids) z =
    ap (λ (b : Branch). b ∷ map (λ n. n.branch) (kid_nodes F cs kids)) (kid-branch F c kid) ∙ ap (λ (bs : List Branch). by_choice F c ∷ bs) (kid-branches P F cs kids z.1)

pub kid-length : (P : Project) (F : List Entry) (cs : List Choice) (kids : List (Child NodeState)) → AllZip (IsKid P F) cs kids → length (kid_nodes F cs kids) ≡ length kids
kid-length P F [] [] z = refl
kid-length P F [] (kid ∷ kids) z = absurd z
kid-length P F (c ∷ cs) [] z = absurd z
kid-length P F (c ∷ cs) (kid ∷ kids) z = ap suc (kid-length P F cs kids z.1)

pub choice-length : (P : Project) (F : List Entry) (cs : List Choice) (kids : List (Child NodeState)) → AllZip (IsKid P F) cs kids → length cs ≡ length kids
choice-length P F [] [] z = refl
choice-length P F [] (kid ∷ kids) z = absurd z
choice-length P F (c ∷ cs) [] z = absurd z
choice-length P F (c ∷ cs) (kid ∷ kids) z = ap suc (choice-length P F cs kids z.1)

last-placed : (F : List Entry) (e : Entry) → last_placed (F ++ e ∷ []) ≡ e
last-placed F e = let n = length-append F (e ∷ []) in get_or_at F e [] (entry_at 0 0 0) (length (F ++ e ∷ []) - 1) (omega arith)

kid-row : (P : Project) (v : Verdict) (ns : List TreeNode) (p : ℕ) (F : List Entry) (c : Choice) (kid : Child NodeState) → node_at ns p ≡ kid_node F c kid → IsKid P F c kid → RowSuits P v ns p (row_of_child kid)
kid-row P v ns p F c (Placed node) at is =
    let t = is.0 in
    let own : node_at ns p ≡ child_node F c (Some t) = at ∙ ap (λ (G : List Entry). let n : TreeNode = record { branch = by_choice F c; front = Some G } in n) is.1 in
    let entry : last_placed node.front ≡ entry_at c.job c.mode t = ap last_placed is.1 ∙ last-placed F (entry_at c.job c.mode t) in
    let row : child_row c (Some t) fate.Open ≡ placed_row (last_placed node.front) = sym (ap placed_row entry) in
    subst (RowSuits P v ns p) row ((child_rows_law P v ns p F c).placed t own is.2)
kid-row P v ns p F c (Shut j m why) at is =
    let row : child_row c None (fate.Shut why) ≡ row_of_child (Shut j m why) =
    ap (λ (x : ℕ). let r : Row = record { start = None; fate = fate.Shut why; job = x; mode = c.mode } in r) (sym is.0)
    ∙ ap (λ (x : ℕ). let r : Row = record { start = None; fate = fate.Shut why; job = j; mode = x } in r) (sym is.1) in
    subst (RowSuits P v ns p) row ((child_rows_law P v ns p F c).shut why at is.2)

new-says : (F : List Entry) (c : Choice) (kid : Child NodeState) → IsNewAt (kid_node F c kid).front (says_row (row_of_child kid))
new-says F c (Placed node) = tt
new-says F c (Shut j m why) = tt

-- the row of each child is that of its node
pub kid-rows : (P : Project) (F : List Entry) (cs : List Choice) (kids : List (Child NodeState)) → AllZip (IsKid P F) cs kids → AllZip (IsRowFor P) (kid_nodes F cs kids) (map row_of_child kids)
kid-rows P F [] [] z = tt
kid-rows P F [] (kid ∷ kids) z = absurd z
kid-rows P F (c ∷ cs) [] z = absurd z
kid-rows P F (c ∷ cs) (kid ∷ kids) z = (
  (let r = kid-row P Infeasible (kid_node F c kid ∷ []) 0 F c kid refl z.0 in record { line = r.line; front = r.front; says = new-says F c kid }),
  kid-rows P F cs kids z.1,
)

-- What waits.

pub waiting-append : (xs ys : List WaitingNode) → waiting_of (xs ++ ys) ≡ waiting_of xs ++ waiting_of ys
waiting-append [] ys = refl
waiting-append (x ∷ xs) ys = ap (λ (ws : List _). waits_at x ∷ ws) (waiting-append xs ys)

child-born : (p : ℕ) (F : List Entry) (c : Choice) (kid : Child NodeState) → waiting_of (waiting_child p kid) ≡ born_at p (kid_node F c kid).front
child-born p F c (Placed node) = refl
child-born p F c (Shut j m why) = refl

-- the placed children are the fronts of the nodes
pub kid-born : (P : Project) (F : List Entry) (cs : List Choice) (kids : List (Child NodeState)) → AllZip (IsKid P F) cs kids → (p : ℕ) → waiting_of (placed_from p kids) ≡ born p (kid_nodes F cs kids)
kid-born P F [] [] z p = refl
kid-born P F [] (kid ∷ kids) z p = absurd z
kid-born P F (c ∷ cs) [] z p = absurd z
kid-born P F (c ∷ cs) (kid ∷ kids) z p =
    waiting-append (waiting_child p kid) (placed_from (p + 1) kids)
    ∙ (ap (λ (ws : List Waiting). ws ++ waiting_of (placed_from (p + 1) kids)) (child-born p F c kid) ∙ ap (λ (ws : List Waiting). born_at p (kid_node F c kid).front ++ ws) (kid-born P F cs kids z.1 (p + 1)))

child-within : (low high p : ℕ) (kid : Child NodeState) → low ≤ p → p < high → Each (IsWithin low high) (waiting_of (waiting_child p kid))
child-within low high p (Placed node) l h = (record { from = l; below = h }, tt)
child-within low high p (Shut j m why) l h = tt

-- and have their places
pub kid-within : (low high p : ℕ) (kids : List (Child NodeState)) → low ≤ p → p + length kids ≤ high → Each (IsWithin low high) (waiting_of (placed_from p kids))
kid-within low high p [] l h = tt
kid-within low high p (kid ∷ kids) l h =
    subst (Each (IsWithin low high)) (sym (waiting-append (waiting_child p kid) (placed_from (p + 1) kids)))
    (Each-append (IsWithin low high) (waiting_of (waiting_child p kid)) (waiting_of (placed_from (p + 1) kids)) (child-within low high p kid l (omega arith)) (kid-within low high (p + 1) kids (omega arith) (omega arith)))

All-append : {X : Type 0} (Q : X → Type 0) (xs ys : List X) → All Q xs → All Q ys → All Q (xs ++ ys)
All-append Q [] ys a b = b
All-append Q (x ∷ xs) ys a b = All-cons Q x (xs ++ ys) (All-head Q x xs a) (All-append Q xs ys (All-tail Q x xs a) b)

child-stands : (P : Project) (p : ℕ) (kid : Child NodeState) → StandsWherePlaced P kid → All (λ w. StandsFor P w.node) (waiting_child p kid)
child-stands P p (Placed node) s = All-cons (λ (w : WaitingNode). StandsFor P w.node) (record { place = p; node = node }) [] s (All-nil (λ (w : WaitingNode). StandsFor P w.node))
child-stands P p (Shut j m why) s = All-nil (λ (w : WaitingNode). StandsFor P w.node)

pub kid-stands : (P : Project) (p : ℕ) (kids : List (Child NodeState)) → All (StandsWherePlaced P) kids → (rest : List WaitingNode) → All (λ w. StandsFor P w.node) rest → All (λ w. StandsFor P w.node) (placed_from p kids ++ rest)
kid-stands P p kids s rest r = All-append (λ (w : WaitingNode). StandsFor P w.node) (placed_from p kids) rest (placed P p kids s) r
  where
    placed : (P : Project) (p : ℕ) (kids : List (Child NodeState)) → All (StandsWherePlaced P) kids → All (λ w. StandsFor P w.node) (placed_from p kids)
    placed P p [] s = All-nil (λ (w : WaitingNode). StandsFor P w.node)
    placed P p (kid ∷ kids) s =
        All-append (λ (w : WaitingNode). StandsFor P w.node) (waiting_child p kid) (placed_from (p + 1) kids) (child-stands P p kid (All-head (StandsWherePlaced P) kid kids s))
        (placed P (p + 1) kids (All-tail (StandsWherePlaced P) kid kids s))

-- New rows.

pub rows-of_new : (o : Origin) (kids : List (Child NodeState)) → map (λ n. n.row) (map (new_row o) kids) ≡ map row_of_child kids
rows-of_new o [] = refl
rows-of_new o (kid ∷ kids) = ap (λ (rs : List Row). row_of_child kid ∷ rs) (rows-of_new o kids)

child-new : (b : Beginning) (o : Origin) (kid : Child NodeState) → o.round ≡ b.terms.number → IsByOneOf b o → IsNewRow b (new_row o kid)
child-new b o (Placed node) r w = record { says = tt; round = r; worker = w }
child-new b o (Shut j m why) r w = record { says = tt; round = r; worker = w }

pub kid-new : (b : Beginning) (o : Origin) (kids : List (Child NodeState)) → o.round ≡ b.terms.number → IsByOneOf b o → Each (IsNewRow b) (map (new_row o) kids)
kid-new b o [] r w = tt
kid-new b o (kid ∷ kids) r w = (child-new b o kid r w, kid-new b o kids r w)
