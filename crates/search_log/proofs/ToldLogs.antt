-- The log that is told of a table in which nothing waits.
use Rattle.std.proofs.Common.{◌≡◌, ℕ, suc, ◌+◌, ◌<◌, inl, inr, refl, sym, ap, subst, ◌∙◌, arith, List, [], ◌∷◌, ◌++◌, length, map, Bool, cond, Option, Some, None}
use Rattle.std.specs.Prelude.{IfSome, All}
use Rattle.std.specs.Option.{option_map}
use Rattle.std.proofs.lemmas.Bool.{cases_lt}
use Rattle.std.proofs.lemmas.List.{map-append, get_or_past}
use Rattle.std.proofs.lemmas.Option.{slice_get-map}
use Rattle.rcpsp_model.specs.declared.parts.Entry.{Entry}
use Rattle.rcpsp_model.specs.declared.parts.Verdict.{Verdict}
use Rattle.rcpsp_model.specs.Project.{Project}
use Rattle.rcpsp_model.proofs.Lists.{In, All-from_In, Contains-from_In}
use Rattle.proof_log.specs.declared.report.LogLine.{LogLine}
use Rattle.log_truth.specs.Fates.{expands}
use Rattle.log_truth.specs.Log.{Branch, at_root, says, is_expanded, expanded_branches, below, AreLogs, IsTreeLog, LogNode, front_of, nodes_from, nodes}
use Rattle.log_truth.specs.Holds.{numbered, CitesWell, IsServed, AreServed, expanded_in}
use Rattle.log_truth.specs.Refusal.{expanded_by}
use Rattle.log_truth.proofs.OneRefusal.{expanded-cons}
use Rattle.search_log.specs.declared.row.Row.{Row}
use Rattle.search_log.specs.Weights.{total, over, places_weight, Each}
use Rattle.search_log.specs.Fates.{RowSaying, row_open, row_expanded, row_late, row_cites, row_shut}
use Rattle.search_log.specs.Table.{no_row, row_at, says_row, says_at, children_of, IsWhole, Walks, IsPreorder}
use Rattle.search_log.specs.Stands.{line_of, TreeNode, branch_at, place_front, Suits, Stands, IsExpandedAt, RowsCite, one_expanded, expanded_rows}
use Rattle.search_log.specs.Told.{Tells}
use Rattle.search_log.specs.Laws.{WholeLaw, CountLaw}
use Rattle.search_log.proofs.Sums.{Each-weaker, over-items, only_at, place-once, In-from_weight}
use Rattle.search_log.proofs.PassedPlaces.{IsPlace, next-inside, passes-all}
use Rattle.search_log.proofs.OneParent.{level_of, children-below}
use Rattle.search_log.proofs.RowLines.{told, saying-told, row-line, row-front}

-- A table in which nothing waits is whole.

pub whole_law : WholeLaw
whole_law P v T ns s = record {
  root = s.some;
  account = λ h. let a = s.account h in omega arith;
  level = λ p. level_of (branch_at ns p);
  inside = children-below P v T ns [] s;
}

-- The lines are the log of the root.

abbrev pub line_at : List ℕ → List Row → ℕ → LogLine
line_at numbers T p = line_of numbers (row_at T p)

-- the line of a place on its branch
abbrev pub log_node : List ℕ → List Row → List TreeNode → ℕ → LogNode
log_node numbers T ns p = record { branch = branch_at ns p; line = line_at numbers T p }

pub log_node-says : (numbers : List ℕ) (T : List Row) (p : ℕ) → says (line_at numbers T p) ≡ told numbers (says_at T p)
log_node-says numbers T p = saying-told numbers (row_at T p).fate

pub log_node-front : (P : Project) (v : Verdict) (T : List Row) (ns : List TreeNode) (numbers : List ℕ) → Stands P v T ns [] [] → (p : ℕ) → p < length T → front_of (log_node numbers T ns p) ≡ place_front ns p
log_node-front P v T ns numbers s p l = row-front (branch_at ns p) numbers (row_at T p) ∙ (s.rows p l).front

children-branches : (P : Project) (v : Verdict) (ns : List TreeNode) (numbers : List ℕ) (o : Option (List Entry)) (s : RowSaying) → Suits P v ns o s →
    map (branch_at ns) (children_of s) ≡ expanded_branches P (expands (told numbers s)) o
children-branches P v ns numbers (Some F) row_open is = refl
children-branches P v ns numbers (Some F) (row_expanded first count) is = is.children
children-branches P v ns numbers (Some F) (row_late reason) is = refl
children-branches P v ns numbers (Some F) (row_cites q) is = refl
children-branches P v ns numbers (Some F) (row_shut why) is = refl
children-branches P v ns numbers None row_open is = absurd is
children-branches P v ns numbers None (row_expanded first count) is = absurd is
children-branches P v ns numbers None (row_late reason) is = absurd is
children-branches P v ns numbers None (row_cites q) is = absurd is
children-branches P v ns numbers None (row_shut why) is = refl

below-children : (P : Project) (v : Verdict) (T : List Row) (ns : List TreeNode) (numbers : List ℕ) → Stands P v T ns [] [] → (p : ℕ) → p < length T →
    map (branch_at ns) (children_of (says_at T p)) ≡ below P (branch_at ns p) (line_at numbers T p)
unfolding below
below-children P v T ns numbers s p l =
    children-branches P v ns numbers (place_front ns p) (says_at T p) (s.rows p l).says
    ∙ (ap (λ (x : Bool). expanded_branches P x (place_front ns p)) (sym (ap expands (log_node-says numbers T p)))
    ∙ ap (expanded_branches P (is_expanded (line_at numbers T p))) (sym (log_node-front P v T ns numbers s p l)))

-- the branches that are wanted after a line
next-branches : (P : Project) (v : Verdict) (T : List Row) (ns : List TreeNode) (numbers : List ℕ) → Stands P v T ns [] [] → (next : ℕ) (waiting : List ℕ) → next < length T →
    map (branch_at ns) (children_of (says_at T next) ++ waiting) ≡ below P (branch_at ns next) (line_at numbers T next) ++ map (branch_at ns) waiting
next-branches P v T ns numbers s next waiting l =
    map-append (branch_at ns) (children_of (says_at T next)) waiting
    ∙ ap (λ (x : List Branch). x ++ map (branch_at ns) waiting) (below-children P v T ns numbers s next l)

pub are-logs : (P : Project) (v : Verdict) (T : List Row) (ns : List TreeNode) (numbers : List ℕ) → Stands P v T ns [] [] → (waiting order : List ℕ) → Walks T waiting order → Each (IsPlace T) waiting →
    AreLogs P (map (branch_at ns) waiting) (map (line_at numbers T) order)
are-logs P v T ns numbers s waiting [] w e = ap (map (branch_at ns)) w
are-logs P v T ns numbers s [] (p ∷ order) w e = absurd w
are-logs P v T ns numbers s (next ∷ waiting) (p ∷ order) w e =
    let ih = are-logs P v T ns numbers s (children_of (says_at T next) ++ waiting) order w.1 (next-inside T (whole_law P v T ns s) next waiting e.0 e.1) in
    subst (λ (x : ℕ). AreLogs P (branch_at ns next ∷ map (branch_at ns) waiting) (line_at numbers T x ∷ map (line_at numbers T) order)) (sym w.0) (
      row-line P (branch_at ns next) numbers (row_at T next) (s.rows next e.0).line,
      subst (λ (bs : List Branch). AreLogs P bs (map (line_at numbers T) order)) (next-branches P v T ns numbers s next waiting e.0) ih,
    )

nodes-places : (P : Project) (v : Verdict) (T : List Row) (ns : List TreeNode) (numbers : List ℕ) → Stands P v T ns [] [] → (waiting order : List ℕ) → Walks T waiting order → Each (IsPlace T) waiting →
    nodes_from P (map (branch_at ns) waiting) (map (line_at numbers T) order) ≡ map (log_node numbers T ns) order
nodes-places P v T ns numbers s waiting [] w e = refl
nodes-places P v T ns numbers s [] (p ∷ order) w e = absurd w
nodes-places P v T ns numbers s (next ∷ waiting) (p ∷ order) w e =
    let ih = nodes-places P v T ns numbers s (children_of (says_at T next) ++ waiting) order w.1 (next-inside T (whole_law P v T ns s) next waiting e.0 e.1) in
    let rest : nodes_from P (below P (branch_at ns next) (line_at numbers T next) ++ map (branch_at ns) waiting) (map (line_at numbers T) order) ≡ map (log_node numbers T ns) order =
    subst (λ (bs : List Branch). nodes_from P bs (map (line_at numbers T) order) ≡ map (log_node numbers T ns) order) (next-branches P v T ns numbers s next waiting e.0) ih in
    subst (λ (x : ℕ). nodes_from P (branch_at ns next ∷ map (branch_at ns) waiting) (line_at numbers T x ∷ map (line_at numbers T) order) ≡ log_node numbers T ns x ∷ map (log_node numbers T ns) order) (sym w.0)
    (ap (λ (x : List LogNode). log_node numbers T ns next ∷ x) rest)

pub tree-log : (P : Project) (v : Verdict) (T : List Row) (ns : List TreeNode) (lines : List LogLine) → Stands P v T ns [] [] → Tells T lines → IsTreeLog P lines
tree-log P v T ns lines s t =
    subst (λ (ls : List LogLine). AreLogs P (at_root ∷ []) ls) (sym t.are)
    (subst (λ (b : Branch). AreLogs P (b ∷ []) (map (line_at t.numbers T) t.order)) s.root (are-logs P v T ns t.numbers s (0 ∷ []) t.order t.walk (s.some, tt)))

-- the nodes of the lines are those of the places
pub told-nodes : (P : Project) (v : Verdict) (T : List Row) (ns : List TreeNode) (lines : List LogLine) → Stands P v T ns [] [] → (t : Tells T lines) → nodes P lines ≡ map (log_node t.numbers T ns) t.order
told-nodes P v T ns lines s t =
    ap (nodes P) t.are
    ∙ subst (λ (b : Branch). nodes_from P (b ∷ []) (map (line_at t.numbers T) t.order) ≡ map (log_node t.numbers T ns) t.order) s.root
    (nodes-places P v T ns t.numbers s (0 ∷ []) t.order t.walk (s.some, tt))

pub All-of_map : {X Y : Type 0} (Q : Y → Type 0) (f : X → Y) (xs : List X) → Each (λ x. Q (f x)) xs → All Q (map f xs)
All-of_map Q f xs e = All-from_In Q (map f xs) (λ y i. each-of Q f xs y e i)
  where
    each-of : {X Y : Type 0} (Q : Y → Type 0) (f : X → Y) (xs : List X) (y : Y) → Each (λ x. Q (f x)) xs → In (map f xs) y → Q y
    each-of Q f [] y e i = absurd i
    each-of Q f (x ∷ xs) y e (inl s) = subst Q s e.0
    each-of Q f (x ∷ xs) y e (inr i) = each-of Q f xs y e.1 i

-- what each place's line and front have, each node has
pub all-nodes : (P : Project) (v : Verdict) (T : List Row) (ns : List TreeNode) (lines : List LogLine) (Q : LogNode → Type 0) → (s : Stands P v T ns [] []) → (t : Tells T lines) →
    ((p : ℕ) → p < length T → Q (log_node t.numbers T ns p)) → All Q (nodes P lines)
all-nodes P v T ns lines Q s t each =
    let w = passes-all T (whole_law P v T ns s) t.order t.walk in
    subst (All Q) (sym (told-nodes P v T ns lines s t))
    (All-of_map Q (log_node t.numbers T ns) t.order (Each-weaker (IsPlace T) (λ p. Q (log_node t.numbers T ns p)) t.order each w.inside))

-- Every place is passed.

pub In-order : (T : List Row) (order : List ℕ) → IsWhole T → IsPreorder T order → (q : ℕ) → q < length T → In order q
In-order T order w k q l =
    let a = (passes-all T w order k).once (only_at q) in
    let b = place-once no_row T q l in
    In-from_weight q order (omega arith)

-- a row that says anything but that it is shut lies in the table
pub said-inside : (T : List Row) (q : ℕ) (s : RowSaying) → says_at T q ≡ s → (says_row no_row ≡ s → ⊥) → q < length T
said-inside T q s e none =
    elim (cases_lt q (length T)) [ inl l ↦ l | inr g ↦ absurd (none (sym (ap says_row (get_or_past T q no_row g)) ∙ e)) ]

pub expanded-inside : (T : List Row) (q : ℕ) → IsExpandedAt T q → q < length T
expanded-inside T q e = said-inside T q (row_expanded e.first e.count) e.is (λ bad. cc)

-- Citations.

numbered-at : {X : Type 0} (xs : List X) (i k : ℕ) → i ≡ k + 1 → numbered xs i ≡ numbered xs (suc k)
numbered-at xs i k e = let same : i ≡ suc k = omega arith in ap (numbered xs) same

served-at : (P : Project) (v : Verdict) (T : List Row) (ns : List TreeNode) (lines : List LogLine) → (s : Stands P v T ns [] []) → RowsCite P T ns → (t : Tells T lines) →
    (p : ℕ) (o : Option (List Entry)) (said : RowSaying) → place_front ns p ≡ o → says_at T p ≡ said → IfSome o (λ F. CitesWell P (map (log_node t.numbers T ns) t.order) F (told t.numbers said))
served-at P v T ns lines s c t p None said e is = tt
served-at P v T ns lines s c t p (Some F) row_open e is = tt
served-at P v T ns lines s c t p (Some F) (row_expanded first count) e is = tt
served-at P v T ns lines s c t p (Some F) (row_late reason) e is = tt
served-at P v T ns lines s c t p (Some F) (row_shut why) e is = tt
served-at P v T ns lines s c t p (Some F) (row_cites q) e is =
    let r = c p q F is e in
    let l = expanded-inside T q r.expanded in
    let i = In-order T t.order (whole_law P v T ns s) t.walk q l in
    let h = t.numbered q (Contains-from_In t.order q i) in
    record {
      cited = log_node t.numbers T ns q;
      number = numbered-at (map (log_node t.numbers T ns) t.order) _ h.index h.number ∙ (slice_get-map (log_node t.numbers T ns) t.order h.index ∙ ap (option_map (log_node t.numbers T ns)) h.stands);
      expanded = ap expands (log_node-says t.numbers T q ∙ ap (told t.numbers) r.expanded.is);
      front = r.front;
      is_its = log_node-front P v T ns t.numbers s q l ∙ r.is_its;
      dominates = r.dominates;
    }

pub are-served : (P : Project) (v : Verdict) (T : List Row) (ns : List TreeNode) (lines : List LogLine) → Stands P v T ns [] [] → RowsCite P T ns → Tells T lines → AreServed P lines
are-served P v T ns lines s c t =
    subst (λ (all : List LogNode). All (IsServed P all) (nodes P lines)) (sym (told-nodes P v T ns lines s t))
    (all-nodes P v T ns lines (IsServed P (map (log_node t.numbers T ns) t.order)) s t
    (λ p l.
    let own = served-at P v T ns lines s c t p (place_front ns p) (says_at T p) refl refl in
    subst (λ (o : Option (List Entry)). IfSome o (λ F. CitesWell P (map (log_node t.numbers T ns) t.order) F (says (line_at t.numbers T p)))) (sym (log_node-front P v T ns t.numbers s p l))
    (subst (λ x. IfSome (place_front ns p) (λ F. CitesWell P (map (log_node t.numbers T ns) t.order) F x)) (sym (log_node-says t.numbers T p)) own)))

-- Lines that are expanded.

expands-one : (numbers : List ℕ) (s : RowSaying) → cond (expands (told numbers s)) 1 0 ≡ one_expanded s
expands-one numbers row_open = refl
expands-one numbers (row_expanded first count) = refl
expands-one numbers (row_late reason) = refl
expands-one numbers (row_cites q) = refl
expands-one numbers (row_shut why) = refl

expanded-at : (numbers : List ℕ) (T : List Row) (p : ℕ) → expanded_by (line_at numbers T p) ≡ one_expanded (says_at T p)
expanded-at numbers T p = ap (λ x. cond (expands x) 1 0) (log_node-says numbers T p) ∙ expands-one numbers (says_at T p)

expanded-lines : (numbers : List ℕ) (T : List Row) (order : List ℕ) → expanded_in (map (line_at numbers T) order) ≡ total (λ p. one_expanded (says_at T p)) order
expanded-lines numbers T [] = refl
expanded-lines numbers T (p ∷ order) =
    let ih = expanded-lines numbers T order in
    let first = expanded-cons (line_at numbers T p) (map (line_at numbers T) order) in
    let own = expanded-at numbers T p in
    omega arith

over-total : {X : Type 0} (f : X → ℕ) (k : ℕ) (xs : List X) → over (λ p x. f x) k xs ≡ total f xs
over-total f k [] = refl
over-total f k (x ∷ xs) = let ih = over-total f (k + 1) xs in omega arith

pub places-expanded : (T : List Row) → places_weight (λ p. one_expanded (says_at T p)) T ≡ expanded_rows T
places-expanded T = over-items no_row (λ k r. one_expanded (says_row r)) T ∙ over-total (λ r. one_expanded (says_row r)) 0 T

pub count_law : CountLaw
count_law T lines w t =
    let a : expanded_in lines ≡ expanded_in (map (line_at t.numbers T) t.order) = ap expanded_in t.are in
    let b = expanded-lines t.numbers T t.order in
    let c = (passes-all T w t.order t.walk).once (λ p. one_expanded (says_at T p)) in
    let d = places-expanded T in
    omega arith
