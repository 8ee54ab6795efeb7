-- The new rows of a share, in the table.
use Rattle.std.proofs.Common.{◌≡◌, ℕ, zero, suc, ◌+◌, ◌-◌, ◌<◌, ◌≤◌, refl, sym, ap, subst, ◌∙◌, arith, List, [], ◌∷◌, length, map, Option, Some, None}
use Rattle.std.proofs.lemmas.List.{length-map}
use Rattle.rcpsp_model.specs.declared.parts.Entry.{Entry}
use Rattle.rcpsp_model.specs.declared.parts.Verdict.{Verdict}
use Rattle.rcpsp_model.specs.Project.{Project, numbers_from}
use Rattle.log_truth.specs.Log.{Branch, front_at, IsLineAt}
use Rattle.search_log.specs.declared.row.RowFate.{RowFate}
use Rattle.search_log.specs.declared.row.RowFate.TheVariants.{Open, Expanded, Leaf, TailBound, WorkBound, Cited, Left, Shut}
use Rattle.search_log.specs.declared.row.Row.{Row}
use Rattle.search_log.specs.declared.row.Fill.{Fill}
use Rattle.search_log.specs.Weights.{total, over}
use Rattle.search_log.specs.Fates.{RowSaying, row_open, row_expanded, row_late, row_cites, row_shut, row_saying}
use Rattle.search_log.specs.Table.{no_row, row_at, says_row, children_of}
use Rattle.search_log.specs.Stands.{line_of, TreeNode, no_node, node_at, branch_at, place_front, searching, HasChildren, Suits, RowSuits, Waiting, if_open}
use Rattle.search_log.proofs.Sums.{total-map}
use Rattle.search_rounds.specs.declared.round.NewRow.{NewRow}
use Rattle.search_rounds.proofs.FilledSums.{zip-length}
use Rattle.round_shares.specs.Ends.{end_in}
use Rattle.round_shares.specs.Part.{Beginning, Event, fills_of, says_event}
use Rattle.round_shares.specs.Share.{first_place, born, IsNewAt, IsRowFor, SuitsFront}
use Rattle.round_shares.specs.Crew.{Worked, HasShare, real_place, real_fate}
use Rattle.round_shares.proofs.ListPlaces.{zip-at, total-where}
use Rattle.round_shares.proofs.BornNodes.{IsBorn, born-weighs}
use Rattle.round_shares.proofs.PlacedShares.{Whole, IsFound, IsPlaced}

-- Sums over places that move.

over-shift : {X : Type 0} (f : ℕ → X → ℕ) (move : ℕ → ℕ) (k m : ℕ) (xs : List X) → ((i : ℕ) → i < length xs → move (k + i) ≡ m + i) → over f m xs ≡ over (λ p x. f (move p) x) k xs
over-shift f move k m [] e = refl
over-shift f move k m (x ∷ xs) e =
    let a : k + 0 ≡ k = omega arith in
    let here : move k ≡ m = (let first = e 0 (omega arith) in let same = ap move a in omega arith) in
    let own : f (move k) x ≡ f m x = ap (λ (p : ℕ). f p x) here in
    let ih = over-shift f move (k + 1) (m + 1) xs
    (λ i l. let next = e (suc i) (omega arith) in let b : k + suc i ≡ k + 1 + i = omega arith in let same = ap move b in omega arith) in
    omega arith

pub over-map : {X Y : Type 0} (f : ℕ → Y → ℕ) (g : X → Y) (k : ℕ) (xs : List X) → over f k (map g xs) ≡ over (λ p x. f p (g x)) k xs
over-map f g k [] = refl
over-map f g k (x ∷ xs) = let ih = over-map f g (k + 1) xs in omega arith

numbers-shift : (h move : ℕ → ℕ) (k m count : ℕ) → ((i : ℕ) → i < count → move (k + i) ≡ m + i) → total h (numbers_from m count) ≡ total (λ p. h (move p)) (numbers_from k count)
numbers-shift h move k m zero e = refl
numbers-shift h move k m (suc count) e =
    let a : k + 0 ≡ k = omega arith in
    let here : move k ≡ m = (let first = e 0 (omega arith) in let same = ap move a in omega arith) in
    let own : h (move k) ≡ h m = ap h here in
    let ih = numbers-shift h move (k + 1) (m + 1) count
    (λ i l. let next = e (suc i) (omega arith) in let b : k + suc i ≡ k + 1 + i = omega arith in let same = ap move b in omega arith) in
    omega arith

branches-placed : (ns more : List TreeNode) (start offset count : ℕ) → ((i : ℕ) → i < length more → node_at ns (start + i) ≡ node_at more i) → offset + count ≤ length more →
    map (branch_at ns) (numbers_from (start + offset) count) ≡ map (branch_at more) (numbers_from offset count)
branches-placed ns more start offset zero nodes l = refl
branches-placed ns more start offset (suc count) nodes l =
    let own : branch_at ns (start + offset) ≡ branch_at more offset = ap (λ (n : TreeNode). n.branch) (nodes offset (omega arith)) in
    let next : start + offset + 1 ≡ start + (offset + 1) = omega arith in
    let tail : map (branch_at ns) (numbers_from (start + offset + 1) count) ≡ map (branch_at ns) (numbers_from (start + (offset + 1)) count) = ap (λ (k : ℕ). map (branch_at ns) (numbers_from k count)) next in
    let ih = branches-placed ns more start (offset + 1) count nodes (omega arith) in
    ap (λ (x : Branch). x ∷ map (branch_at ns) (numbers_from (start + offset + 1) count)) own ∙ ap (λ (x : List Branch). branch_at more offset ∷ x) (tail ∙ ih)

-- New rows.

new-suits : (P : Project) (v : Verdict) (ns : List TreeNode) (o : Option (List Entry)) (s : RowSaying) → IsNewAt o s → Suits P v ns o s
new-suits P v ns (Some F) row_open is = tt
new-suits P v ns (Some F) (row_expanded first count) is = absurd is
new-suits P v ns (Some F) (row_late reason) is = absurd is
new-suits P v ns (Some F) (row_cites q) is = absurd is
new-suits P v ns (Some F) (row_shut why) is = absurd is
new-suits P v ns None row_open is = absurd is
new-suits P v ns None (row_expanded first count) is = absurd is
new-suits P v ns None (row_late reason) is = absurd is
new-suits P v ns None (row_cites q) is = absurd is
new-suits P v ns None (row_shut why) is = tt

row-for : (P : Project) (v : Verdict) (ns : List TreeNode) (p : ℕ) (node : TreeNode) (r : Row) → node_at ns p ≡ node → IsRowFor P node r → RowSuits P v ns p r
row-for P v ns p node r e is = record {
  line = subst (λ (x : TreeNode). IsLineAt P x.branch (line_of [] r)) (sym e) is.line;
  front = subst (λ (x : TreeNode). front_at x.branch (line_of [] r) ≡ x.front) (sym e) is.front;
  says = subst (λ (x : TreeNode). Suits P v ns x.front (says_row r)) (sym e) (new-suits P v ns node.front (says_row r) is.says);
}

-- One share in the whole.

module _ (P : Project) (b : Beginning) (t : Whole) (worker start : ℕ) (w : Worked) (has : HasShare P b worker w) (placed : IsPlaced P b t worker start w has) where
  pub more-size : length has.share.more ≡ length w.part.grown
  more-size = zip-length (IsRowFor P) has.share.more (map (λ (n : NewRow). n.row) w.part.grown) has.share.rows ∙ length-map w.part.grown (λ (n : NewRow). n.row)

  pub row-suits : (v : Verdict) (i : ℕ) → i < length w.part.grown → RowSuits P v t.nodes (start + i) (row_at (map (λ n. n.row) w.part.grown) i)
  row-suits v i l =
      let size = more-size in
      row-for P v t.nodes (start + i) (node_at has.share.more i) (row_at (map (λ (n : NewRow). n.row) w.part.grown) i) (placed.nodes i (omega arith))
      (zip-at (IsRowFor P) has.share.more (map (λ (n : NewRow). n.row) w.part.grown) i no_node no_row has.share.rows (omega arith))

  -- what waits at new places
  pub found-born : (x : Waiting) → IsBorn (first_place worker) has.share.more x → IsFound t x
  found-born x is =
      let size = more-size in
      let few = has.few in
      let within = is.within in
      let place : real_place t.starts x.place ≡ start + is.index = ap (real_place t.starts) is.place ∙ placed.moves is.index (omega arith) in
      let node : place_front t.nodes (start + is.index) ≡ place_front has.share.more is.index = ap (λ (n : TreeNode). n.front) (placed.nodes is.index is.within) in
      record {
        at = ap (place_front t.nodes) place ∙ (node ∙ is.front);
        named = ap t.names place ∙ (placed.named is.index (omega arith) ∙ sym is.place);
      }

  pub born-rows : (h : ℕ → ℕ) → total (λ x. h (real_place t.starts x.place)) (born (first_place worker) has.share.more) ≡ over (λ k n. if_open (says_row n.row) (h k)) start w.part.grown
  born-rows h =
      let few = has.few in
      let weighs = born-weighs P (λ p. h (real_place t.starts p)) (first_place worker) has.share.more (map (λ (n : NewRow). n.row) w.part.grown) has.share.rows in
      let rows = over-map (λ k r. if_open (says_row r) (h (real_place t.starts k))) (λ (n : NewRow). n.row) (first_place worker) w.part.grown in
      let shift = over-shift (λ k (n : NewRow). if_open (says_row n.row) (h k)) (real_place t.starts) (first_place worker) start w.part.grown (λ i l. placed.moves i (omega arith)) in
      omega arith

  -- Children.

  -- an expansion by its first child, among the new rows
  pub record IsBrood (F : List Entry) (first count : ℕ) : Type 0 where
    pub offset : ℕ
    pub first_is : first ≡ first_place worker + offset
    pub children : HasChildren P has.share.more F offset count

  pub brood : (v : Verdict) (F : List Entry) (first count : ℕ) → SuitsFront P v (first_place worker) has.share.more F (row_expanded first count) → IsBrood F first count
  brood v F first count s = let low = s.0 in record { offset = first - first_place worker; first_is = omega arith; children = s.1 }

  pub brood-first : (F : List Entry) (first count : ℕ) (is : IsBrood F first count) → real_place t.starts first ≡ start + is.offset
  brood-first F first count is =
      let size = more-size in
      let few = has.few in
      let within = is.children.within in
      ap (real_place t.starts) is.first_is ∙ placed.moves is.offset (omega arith)

  brood-each : (F : List Entry) (first count : ℕ) (is : IsBrood F first count) (i : ℕ) → i < count → real_place t.starts (first + i) ≡ real_place t.starts first + i
  brood-each F first count is i l =
      let size = more-size in
      let few = has.few in
      let within = is.children.within in
      let at = is.first_is in
      let place : first + i ≡ first_place worker + (is.offset + i) = omega arith in
      let moved = placed.moves (is.offset + i) (omega arith) in
      let here : real_place t.starts (first + i) ≡ start + (is.offset + i) = ap (real_place t.starts) place ∙ moved in
      let low = brood-first F first count is in
      omega arith

  pub brood-real : (F : List Entry) (first count : ℕ) → IsBrood F first count → HasChildren P t.nodes F (real_place t.starts first) count
  brood-real F first count is =
      let within = is.children.within in
      let all = placed.within in
      let low = brood-first F first count is in
      record {
        inner = is.children.inner;
        within = omega arith;
        children = ap (λ (k : ℕ). map (branch_at t.nodes) (numbers_from k count)) low ∙ (branches-placed t.nodes has.share.more start is.offset count placed.nodes within ∙ is.children.children);
      }

  children-weigh : (v : Verdict) (h : ℕ → ℕ) (F : List Entry) (fate : RowFate) → SuitsFront P v (first_place worker) has.share.more F (row_saying fate) →
      total h (children_of (row_saying (real_fate t.starts fate))) ≡ total (λ p. h (real_place t.starts p)) (children_of (row_saying fate))
  children-weigh v h F Open s = refl
  children-weigh v h F (Expanded count first) s = numbers-shift h (real_place t.starts) first (real_place t.starts first) count (brood-each F first count (brood v F first count s))
  children-weigh v h F Leaf s = refl
  children-weigh v h F TailBound s = refl
  children-weigh v h F (WorkBound k) s = refl
  children-weigh v h F (Cited q) s = refl
  children-weigh v h F (Left k) s = refl
  children-weigh v h F (Shut why) s = refl

  -- however places are weighed, the new rows weigh what the children of fills weigh
  pub rows-account : (h : ℕ → ℕ) → over (λ k n. h k) start w.part.grown ≡ total (λ f. total h (children_of (row_saying (real_fate t.starts f.fate)))) w.part.fills
  rows-account h =
      let few = has.few in
      let v : Verdict = searching (end_in w.at.pass.least_seen) in
      let real : Fill → ℕ = λ f. total h (children_of (row_saying (real_fate t.starts f.fate))) in
      let own : Fill → ℕ = λ f. total (λ p. h (real_place t.starts p)) (children_of (row_saying f.fate)) in
      let account = has.share.account (λ p. h (real_place t.starts p)) in
      let shift = over-shift (λ k (n : NewRow). h k) (real_place t.starts) (first_place worker) start w.part.grown (λ i l. placed.moves i (omega arith)) in
      let one : total real w.part.fills ≡ total real (fills_of has.share.events) = ap (total real) has.share.fills in
      let two : total own w.part.fills ≡ total own (fills_of has.share.events) = ap (total own) has.share.fills in
      let a = total-map real (λ (e : Event). e.fill) has.share.events in
      let c = total-map own (λ (e : Event). e.fill) has.share.events in
      let same = total-where (λ (e : Event). real e.fill) (λ (e : Event). own e.fill) (λ (e : Event). SuitsFront P v (first_place worker) has.share.more e.front (says_event e)) has.share.events
      (λ e s. children-weigh v h e.front e.fill.fate s) has.share.suits in
      omega arith
