-- The table after a round.
use Rattle.std.proofs.Common.{◌≡◌, ℕ, ◌+◌, ◌<◌, ◌≤◌, ◌⊎◌, inl, inr, refl, sym, ap, subst, ◌∙◌, arith, List, [], ◌∷◌, ◌++◌, length, length-append, map}
use Rattle.std.specs.Prelude.{All, Contains}
use Rattle.std.specs.List.{AllZip}
use Rattle.std.proofs.lemmas.Bool.{cases_lt}
use Rattle.std.proofs.lemmas.List.{get_or_append_left, length-map}
use Rattle.rcpsp_model.specs.Project.{Project}
use Rattle.rcpsp_model.proofs.Lists.{In-All, In, All-from_In}
use Rattle.rcpsp_model.proofs.Choices.{zip-append, zip-right}
use Rattle.precedence_tree.specs.declared.base.Base.{Base}
use Rattle.precedence_tree.specs.Base.{IsBaseOf}
use Rattle.log_truth.specs.Log.{says}
use Rattle.search_log.specs.declared.row.Row.{Row}
use Rattle.search_log.specs.declared.row.Origin.{Origin}
use Rattle.search_log.specs.declared.row.Fill.{Fill}
use Rattle.search_log.specs.declared.table.Table.{Table}
use Rattle.search_log.specs.Weights.{total, over}
use Rattle.search_log.specs.Fates.{RowSaying, row_open, row_expanded, row_late, row_cites, row_shut, row_saying}
use Rattle.search_log.specs.Table.{no_row, row_at, says_row, says_at, children_of}
use Rattle.search_log.specs.Stands.{TreeNode, no_node, node_at, place_front, searching, line_of, IsClosed, FillSuits, Stands, if_open, IsExpandedAt, RowsCite, one_expanded, expanded_rows}
use Rattle.search_log.specs.Told.{origin_at}
use Rattle.search_log.specs.Lean.{Seen, seen_row}
use Rattle.search_log.specs.Laws.{PlaceRow, row_with, place_row}
use Rattle.search_log.proofs.Sums.{total-append, total-one, over-one, Each-In}
use Rattle.search_log.proofs.StayingRows.{stays_law}
use Rattle.search_log.proofs.FilledRows.{fills_law}
use Rattle.search_log.proofs.GrownTables.{grow_law}
use Rattle.search_log.proofs.ToldLogs.{said-inside, expanded-inside}
use Rattle.search_rounds.specs.declared.round.NewRow.{NewRow}
use Rattle.search_rounds.specs.declared.round.WaitingNode.{WaitingNode}
use Rattle.search_rounds.specs.declared.round.PlacedRecord.{PlacedRecord}
use Rattle.search_rounds.specs.declared.round.Records.{Records}
use Rattle.search_rounds.specs.declared.round.Terms.{Terms}
use Rattle.search_rounds.specs.declared.round.RoundResult.{RoundResult}
use Rattle.search_rounds.specs.Round.{waits_at, waiting_of, IsRecordOf, AreRecords, rows_after, origins_after, VisitedIn, line_after, IsRound}
use Rattle.search_rounds.specs.Going.{IsSaid}
use Rattle.search_rounds.proofs.FilledSums.{open_or_closed, said-closed, expanded-closed, length-fill_rows, length-fill_origins, expanded-filled, Contains-left, Contains-right, zip-weaker}

-- a round, with what stood before it
pub record Step (P : Project) (workers : ℕ) (table : Table) (ns : List TreeNode) (records : Records) (frontier : List WaitingNode) (terms : Terms) (r : RoundResult) : Type 0 where
  pub before : Stands P (searching terms.best) table.rows ns [] (waiting_of frontier)
  pub origins : length table.origins ≡ length table.rows
  pub known : AreRecords P table.rows ns records
  pub round : IsRound P workers table ns records frontier terms r

abbrev pub new_rows : RoundResult → List Row
new_rows r = map (λ n. n.row) r.grown

abbrev pub new_origins : RoundResult → List Origin
new_origins r = map (λ n. n.origin) r.grown

pub mid : (P : Project) (w : ℕ) (t : Table) (ns : List TreeNode) (known : Records) (fr : List WaitingNode) (te : Terms) (r : RoundResult) → (k : Step P w t ns known fr te r) →
    Stands P (searching r.best) (t.rows ++ new_rows r) (ns ++ k.round.more) r.fills (waiting_of r.left)
mid P w t ns known fr te r k =
    grow_law P te.best r.best t.rows (new_rows r) ns k.round.more (waiting_of fr) (waiting_of r.left) r.fills k.before k.round.falls k.round.grows

pub after : (P : Project) (w : ℕ) (t : Table) (ns : List TreeNode) (known : Records) (fr : List WaitingNode) (te : Terms) (r : RoundResult) → (k : Step P w t ns known fr te r) →
    Stands P (searching r.best) (rows_after t.rows r) (ns ++ k.round.more) [] (waiting_of r.left)
after P w t ns known fr te r k = fills_law P (searching r.best) (t.rows ++ new_rows r) (ns ++ k.round.more) r.fills (waiting_of r.left) (mid P w t ns known fr te r k)

pub size-after : (T : List Row) (r : RoundResult) → length (rows_after T r) ≡ length T + length r.grown
size-after T r =
    let a = length-fill_rows (T ++ new_rows r) r.fills in
    let b = length-append T (new_rows r) in
    let c = length-map r.grown (λ (n : NewRow). n.row) in
    omega arith

pub origins-size : (T : List Row) (O : List Origin) (r : RoundResult) → length O ≡ length T → length (origins_after O r) ≡ length (rows_after T r)
origins-size T O r e =
    let a = length-fill_origins (O ++ new_origins r) r.fills in
    let b = length-append O (new_origins r) in
    let c = length-map r.grown (λ (n : NewRow). n.origin) in
    let d = size-after T r in
    omega arith

pair : (x y : Row) (o q : Origin) → x ≡ y → o ≡ q → row_with x o ≡ row_with y q
pair x y o q e f = ap (λ (z : Row). row_with z o) e ∙ ap (row_with y) f

-- what was said stays
pub stays : (P : Project) (w : ℕ) (t : Table) (ns : List TreeNode) (known : Records) (fr : List WaitingNode) (te : Terms) (r : RoundResult) → Step P w t ns known fr te r → (p : ℕ) → IsSaid t.rows p →
    place_row (rows_after t.rows r) (origins_after t.origins r) p ≡ place_row t.rows t.origins p
stays P w t ns known fr te r k p is =
    let l = is.within in
    let size = k.origins in
    let row : row_at (t.rows ++ new_rows r) p ≡ row_at t.rows p = get_or_append_left t.rows (new_rows r) no_row p l in
    let origin : origin_at (t.origins ++ new_origins r) p ≡ origin_at t.origins p = get_or_append_left t.origins (new_origins r) _ p (omega arith) in
    let closed : IsClosed (says_at (t.rows ++ new_rows r) p) = said-closed (says_at (t.rows ++ new_rows r) p) (says_at t.rows p) (ap says_row row) is.closed in
    stays_law P (searching r.best) (t.rows ++ new_rows r) (t.origins ++ new_origins r) (ns ++ k.round.more) r.fills (waiting_of r.left) p (mid P w t ns known fr te r k) closed
    ∙ pair (row_at (t.rows ++ new_rows r) p) (row_at t.rows p) (origin_at (t.origins ++ new_origins r) p) (origin_at t.origins p) row origin

-- the line of a place, by what is there
abbrev pub line_by : TreeNode → PlaceRow → Seen
line_by n x = record { branch = n.branch; front = n.front; said = says (line_of [] x.row); origin = x.origin }

pub node-stays : (ns more : List TreeNode) (p : ℕ) → p < length ns → node_at (ns ++ more) p ≡ node_at ns p
node-stays ns more p l = get_or_append_left ns more no_node p l

pub front-stays : (ns more : List TreeNode) (p : ℕ) → p < length ns → place_front (ns ++ more) p ≡ place_front ns p
front-stays ns more p l = ap (λ (n : TreeNode). n.front) (node-stays ns more p l)

pub line-stays : (P : Project) (w : ℕ) (t : Table) (ns : List TreeNode) (known : Records) (fr : List WaitingNode) (te : Terms) (r : RoundResult) → (k : Step P w t ns known fr te r) → (p : ℕ) → IsSaid t.rows p →
    line_after t (ns ++ k.round.more) r p ≡ seen_row t.rows ns t.origins p
line-stays P w t ns known fr te r k p is =
    let l = is.within in
    let size = k.before.size in
    let x : PlaceRow = place_row (rows_after t.rows r) (origins_after t.origins r) p in
    let node = node-stays ns k.round.more p (omega arith) in
    let row = stays P w t ns known fr te r k p is in
    let first : line_by (node_at (ns ++ k.round.more) p) x ≡ line_by (node_at ns p) x = ap (λ (n : TreeNode). line_by n x) node in
    first ∙ ap (line_by (node_at ns p)) row

pub says-stays : (P : Project) (w : ℕ) (t : Table) (ns : List TreeNode) (known : Records) (fr : List WaitingNode) (te : Terms) (r : RoundResult) → Step P w t ns known fr te r → (p : ℕ) → IsSaid t.rows p →
    says_at (rows_after t.rows r) p ≡ says_at t.rows p
says-stays P w t ns known fr te r k p is = ap (λ (x : PlaceRow). says_row x.row) (stays P w t ns known fr te r k p is)

-- what is said after the round was said before, or the place was visited
pub said_or_visited : (t : Table) (r : RoundResult) (p : ℕ) → IsSaid (rows_after t.rows r) p → IsSaid t.rows p ⊎ VisitedIn t r p
said_or_visited t r p is =
    elim (cases_lt p (length t.rows)) [
      | inl old ↦ elim (open_or_closed (says_at t.rows p)) [
        | inl open_ ↦ inr (record { within = is.within; closed = is.closed; was_open = λ l. open_ })
        | inr closed ↦ inl (record { within = old; closed = closed })
      ]
      | inr fresh ↦ inr (record { within = is.within; closed = is.closed; was_open = λ l. absurd (omega arith) })
    ]

pub said-after : (P : Project) (w : ℕ) (t : Table) (ns : List TreeNode) (known : Records) (fr : List WaitingNode) (te : Terms) (r : RoundResult) → Step P w t ns known fr te r → (p : ℕ) → IsSaid t.rows p → IsSaid (rows_after t.rows r) p
said-after P w t ns known fr te r k p is =
    let l = is.within in
    let size = size-after t.rows r in
    record { within = omega arith; closed = said-closed (says_at (rows_after t.rows r) p) (says_at t.rows p) (says-stays P w t ns known fr te r k p is) is.closed }

pub said-visited : (t : Table) (r : RoundResult) (p : ℕ) → VisitedIn t r p → IsSaid (rows_after t.rows r) p
said-visited t r p is = record { within = is.within; closed = is.closed }

pub said-expanded : (T : List Row) (q : ℕ) → IsExpandedAt T q → IsSaid T q
said-expanded T q e = record { within = expanded-inside T q e; closed = expanded-closed T q e }

pub expanded-stays : (P : Project) (w : ℕ) (t : Table) (ns : List TreeNode) (known : Records) (fr : List WaitingNode) (te : Terms) (r : RoundResult) → Step P w t ns known fr te r → (q : ℕ) → IsExpandedAt t.rows q →
    IsExpandedAt (rows_after t.rows r) q
expanded-stays P w t ns known fr te r k q e =
    record { first = e.first; count = e.count; is = says-stays P w t ns known fr te r k q (said-expanded t.rows q e) ∙ e.is }

-- what was expanded after the round was so before, or the place was visited
pub expanded-cases : (P : Project) (w : ℕ) (t : Table) (ns : List TreeNode) (known : Records) (fr : List WaitingNode) (te : Terms) (r : RoundResult) → Step P w t ns known fr te r → (q : ℕ) →
    IsExpandedAt (rows_after t.rows r) q → IsExpandedAt t.rows q ⊎ VisitedIn t r q
expanded-cases P w t ns known fr te r k q e =
    elim (said_or_visited t r q (said-expanded (rows_after t.rows r) q e)) [
      | inl old ↦ inl (record { first = e.first; count = e.count; is = sym (says-stays P w t ns known fr te r k q old) ∙ e.is })
      | inr new ↦ inr new
    ]

-- Citations.

pub cites-after : (P : Project) (w : ℕ) (t : Table) (ns : List TreeNode) (known : Records) (fr : List WaitingNode) (te : Terms) (r : RoundResult) → (k : Step P w t ns known fr te r) → RowsCite P t.rows ns →
    RowsCite P (rows_after t.rows r) (ns ++ k.round.more)
cites-after P w t ns known fr te r k old p q F says front =
    let inside = said-inside (rows_after t.rows r) p (row_cites q) says (λ bad. cc) in
    elim (said_or_visited t r p (record { within = inside; closed = said-closed (says_at (rows_after t.rows r) p) (row_cites q) says tt })) [
      | inr new ↦ k.round.cites p q F new says front
      | inl is ↦ (
          let l = is.within in
          let size = k.before.size in
          let was : says_at t.rows p ≡ row_cites q = sym (says-stays P w t ns known fr te r k p is) ∙ says in
          let c = old p q F was (sym (front-stays ns k.round.more p (omega arith)) ∙ front) in
          let m = expanded-inside t.rows q c.expanded in
          record {
            expanded = expanded-stays P w t ns known fr te r k q c.expanded;
            front = c.front;
            is_its = front-stays ns k.round.more q (omega arith) ∙ c.is_its;
            dominates = c.dominates;
          })
    ]

-- Records.

pub record-stays : (P : Project) (w : ℕ) (t : Table) (ns : List TreeNode) (known : Records) (fr : List WaitingNode) (te : Terms) (r : RoundResult) → (k : Step P w t ns known fr te r) → (q : ℕ) (base : Base) →
    IsRecordOf P t.rows ns q base → IsRecordOf P (rows_after t.rows r) (ns ++ k.round.more) q base
record-stays P w t ns known fr te r k q base is =
    let m = expanded-inside t.rows q is.expanded in
    let size = k.before.size in
    record {
      expanded = expanded-stays P w t ns known fr te r k q is.expanded;
      front = front-stays ns k.round.more q (omega arith) ∙ is.front;
      known = is.known;
    }

made-zip : (P : Project) (T : List Row) (ns : List TreeNode) (ms : List PlacedRecord) → ((m : PlacedRecord) → In ms m → IsRecordOf P T ns m.place m.known) →
    AllZip (IsRecordOf P T ns) (map (λ m. m.place) ms) (map (λ m. m.known) ms)
made-zip P T ns [] each = tt
made-zip P T ns (m ∷ ms) each = (each m (inl refl), made-zip P T ns ms (λ x i. each x (inr i)))

pub records-after : (P : Project) (w : ℕ) (t : Table) (ns : List TreeNode) (known : Records) (fr : List WaitingNode) (te : Terms) (r : RoundResult) → (k : Step P w t ns known fr te r) → (more : Records) →
    more.index ≡ known.index ++ map (λ m. m.known) r.made → more.places ≡ known.places ++ map (λ m. m.place) r.made → AreRecords P (rows_after t.rows r) (ns ++ k.round.more) more
records-after P w t ns known fr te r k more index places =
    let T : List Row = rows_after t.rows r in
    let ms : List TreeNode = ns ++ k.round.more in
    let old = zip-weaker (IsRecordOf P t.rows ns) (IsRecordOf P T ms) (record-stays P w t ns known fr te r k) known.places known.index k.known.each in
    let new = made-zip P T ms r.made (In-All (λ m. IsRecordOf P T ms m.place m.known) r.made k.round.made_each) in
    let both = zip-append (IsRecordOf P T ms) known.places (map (λ m. m.place) r.made) known.index (map (λ m. m.known) r.made) old new in
    record {
      each = subst (λ (x : List ℕ). AllZip (IsRecordOf P T ms) x more.index) (sym places) (subst (λ (x : List Base). AllZip (IsRecordOf P T ms) (known.places ++ map (λ m. m.place) r.made) x) (sym index) both);
      all = λ q e. subst (λ (x : List ℕ). Contains x q) (sym places) (elim (expanded-cases P w t ns known fr te r k q e) [
        | inl was ↦ Contains-left known.places (map (λ m. m.place) r.made) q (k.known.all q was)
        | inr visited ↦ Contains-right known.places (map (λ m. m.place) r.made) q (k.round.made_all q visited e)
      ]);
    }

-- what is known of the fronts of records
pub known-bases : (P : Project) (T : List Row) (ns : List TreeNode) (places : List ℕ) (index : List Base) → AllZip (IsRecordOf P T ns) places index → All (IsBaseOf P) index
known-bases P T ns places index z = All-from_In (IsBaseOf P) index (λ b i. (zip-right (IsRecordOf P T ns) places index z b i).2.known)

-- How much there is.

open-few : (k : ℕ) (rows : List Row) → over (λ k r. if_open (says_row r) 1) k rows ≤ length rows
open-few k [] = omega arith
open-few k (r ∷ rows) = let ih = open-few (k + 1) rows in let own = at (says_row r) in omega arith
  where
    at : (s : RowSaying) → if_open s 1 ≤ 1
    at row_open = omega arith
    at (row_expanded first count) = omega arith
    at (row_late reason) = omega arith
    at (row_cites q) = omega arith
    at (row_shut why) = omega arith

-- each visit takes one node away, and each new row brings one at most
pub left-few : (P : Project) (w : ℕ) (t : Table) (ns : List TreeNode) (known : Records) (fr : List WaitingNode) (te : Terms) (r : RoundResult) → Step P w t ns known fr te r →
    length r.fills + length r.left ≤ length fr + length r.grown
left-few P w t ns known fr te r k =
    let a = k.round.grows.waits (λ p. 1) in
    let b = total-one r.fills in
    let c = total-one (waiting_of r.left) in
    let d = total-one (waiting_of fr) in
    let e = length-map r.left waits_at in
    let f = length-map fr waits_at in
    let g = open-few (length t.rows) (new_rows r) in
    let h = length-map r.grown (λ (n : NewRow). n.row) in
    omega arith

no-children : (s : RowSaying) → one_expanded s ≡ 0 → total (λ p. 1) (children_of s) ≡ 0
no-children row_open e = refl
no-children (row_expanded first count) e = absurd (omega arith)
no-children (row_late reason) e = refl
no-children (row_cites q) e = refl
no-children (row_shut why) e = refl

no-children_fills : (fills : List Fill) → total (λ f. one_expanded (row_saying f.fate)) fills ≡ 0 → total (λ f. total (λ p. 1) (children_of (row_saying f.fate))) fills ≡ 0
no-children_fills [] e = refl
no-children_fills (f ∷ fills) e = let ih = no-children_fills fills (omega arith) in let own = no-children (row_saying f.fate) (omega arith) in omega arith

no-children_rows : (k : ℕ) (rows : List Row) → expanded_rows rows ≡ 0 → over (λ k r. total (λ p. 1) (children_of (says_row r))) k rows ≡ 0
no-children_rows k [] e = refl
no-children_rows k (r ∷ rows) e = let ih = no-children_rows (k + 1) rows (omega arith) in let own = no-children (says_row r) (omega arith) in omega arith

-- where nothing is expanded, fewer nodes wait
pub none-grown : (P : Project) (w : ℕ) (t : Table) (ns : List TreeNode) (known : Records) (fr : List WaitingNode) (te : Terms) (r : RoundResult) → Step P w t ns known fr te r → r.used ≡ 0 → length r.grown ≡ 0
none-grown P w t ns known fr te r k none =
    let a = k.round.used in
    let b = expanded-filled P (searching r.best) (t.rows ++ new_rows r) (ns ++ k.round.more) r.fills (waiting_of r.left) (mid P w t ns known fr te r k) in
    let c = total-append (λ x. one_expanded (says_row x)) t.rows (new_rows r) in
    let d = no-children_fills r.fills (omega arith) in
    let e = no-children_rows (length t.rows) (new_rows r) (omega arith) in
    let f = k.round.grows.account (λ p. 1) in
    let g = over-one (length t.rows) (new_rows r) in
    let h = length-map r.grown (λ (n : NewRow). n.row) in
    omega arith

-- the places that are filled lie in the table
pub places-fit : (P : Project) (w : ℕ) (t : Table) (ns : List TreeNode) (known : Records) (fr : List WaitingNode) (te : Terms) (r : RoundResult) → Step P w t ns known fr te r → (f : Fill) → In r.fills f →
    f.place < length t.rows + length r.grown
places-fit P w t ns known fr te r k f i =
    let fits = Each-In (FillSuits P (searching r.best) (ns ++ k.round.more)) r.fills f k.round.grows.each_fill i in
    let l = fits.within in
    let a = length-append ns k.round.more in
    let b = k.before.size in
    let c = k.round.grows.size in
    let d = length-map r.grown (λ (n : NewRow). n.row) in
    omega arith

pub all-places_fit : (P : Project) (w : ℕ) (t : Table) (ns : List TreeNode) (known : Records) (fr : List WaitingNode) (te : Terms) (r : RoundResult) → Step P w t ns known fr te r →
    All (λ f. f.place < length t.rows + length r.grown) r.fills
all-places_fit P w t ns known fr te r k = All-from_In (λ (f : Fill). f.place < length t.rows + length r.grown) r.fills (places-fit P w t ns known fr te r k)
