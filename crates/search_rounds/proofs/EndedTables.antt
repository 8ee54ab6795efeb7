-- A search in which no node waits.
use Rattle.search_log.specs.declared.row.RowFate.{RowFate}
use Rattle.std.proofs.Common.{◌≡◌, ℕ, zero, suc, ◌+◌, ◌<◌, ◌≤◌, ◌⊎◌, inl, inr, refl, sym, ap, subst, ◌∙◌, arith, List, [], ◌∷◌, length, map, true, false, Option, Some, None}
use Rattle.std.specs.Prelude.{Contains, slice_get, slice_index, count_by}
use Rattle.std.specs.List.{AllZip}
use Rattle.std.proofs.lemmas.Bool.{cases_lt}
use Rattle.rcpsp_model.specs.declared.parts.Entry.{Entry}
use Rattle.rcpsp_model.specs.Project.{Project, numbers_from}
use Rattle.rcpsp_model.specs.Schedule.{end_of}
use Rattle.rcpsp_model.specs.Chain.{IsLeast}
use Rattle.rcpsp_model.specs.Tree.{IsLeaf}
use Rattle.rcpsp_model.proofs.Lists.{In, In-from_Contains, Contains-from_In}
use Rattle.rcpsp_model.proofs.Choices.{zip-left, zip-right, In-map, map-In}
use Rattle.log_truth.specs.Fates.{Reason, late_leaf, late_tail, late_work, late_left, says_late, expands}
use Rattle.log_truth.specs.Log.{says}
use Rattle.log_truth.specs.Holds.{IsLate}
use Rattle.search_log.specs.declared.row.Row.{Row}
use Rattle.search_log.specs.declared.row.Origin.{Origin}
use Rattle.search_log.specs.declared.row.Fill.{Fill}
use Rattle.search_log.specs.Weights.{total}
use Rattle.search_log.specs.Fates.{RowSaying, row_late, row_cites, row_saying}
use Rattle.search_log.specs.Table.{row_at, says_row, says_at}
use Rattle.search_log.specs.Stands.{TreeNode, node_at, place_front, line_of, searching, closing, Suits, Stands, fill_rows, fill_origins, RowsCite, one_expanded, expanded_rows}
use Rattle.search_log.specs.Told.{origin_at, IsLeftAt}
use Rattle.search_log.specs.Lean.{Seen, seen_row, seen_rows, end_number, IsEnd, of_first, of_leaf, IsOfFirst, expands_line, most_in_round, expands_in, IsKnown, IsBegun, IsAfterParent, IsLean}
use Rattle.search_log.specs.Laws.{PlaceRow}
use Rattle.search_log.proofs.StayingRows.{stays_law, comes_law, filled_cites_law}
use Rattle.search_log.proofs.RowLines.{told, saying-told}
use Rattle.search_log.proofs.ToldLogs.{said-inside}
use Rattle.search_rounds.specs.declared.round.WaitingNode.{WaitingNode}
use Rattle.search_rounds.specs.Round.{waiting_of, IsAmong}
use Rattle.search_rounds.specs.Closing.{IsEndOrLeft, of_best, of_left, IsLowered, after_last, IsCloseOf, IsNarrow}
use Rattle.search_rounds.specs.Going.{IsSaid, IsSaidBy, IsLeanSoFar}
use Rattle.search_rounds.proofs.FilledSums.{length-fill_rows, expanded-filled, total-numbers_le}
use Rattle.search_rounds.proofs.TablesAfter.{line_by}
use Rattle.search_rounds.proofs.LeanRounds.{ends-map, count-places, one_in, one_in-false}
use Rattle.search_rounds.proofs.ClosingFills.{Closes, closing-stands, closed-row, lowered-falls, waiting-at, front-within}
use Rattle.search_log.specs.declared.row.RowFate.TheVariants.{Open, Expanded, Leaf, TailBound, WorkBound, Cited, Left, Shut}

-- Lists of lines.

pub record SeenAt (f : ℕ → Seen) (n : ℕ) (s : Seen) : Type 0 where
  pub place : ℕ
  pub within : place < n
  pub is : f place ≡ s

numbers-in : (i n q : ℕ) → In (numbers_from i n) q → q < i + n
numbers-in i zero q m = absurd m
numbers-in i (suc n) q (inl e) = omega arith
numbers-in i (suc n) q (inr m) = let r = numbers-in (i + 1) n q m in omega arith

in-numbers : (i n q : ℕ) → i ≤ q → q < i + n → In (numbers_from i n) q
in-numbers i zero q a b = absurd (omega arith)
in-numbers i (suc n) q a b = elim (cases_lt i q) [ inl l ↦ inr (in-numbers (i + 1) n q (omega arith) (omega arith)) | inr g ↦ inl (omega arith) ]

pub seen-at : (f : ℕ → Seen) (n : ℕ) (s : Seen) → Contains (map f (numbers_from 0 n)) s → SeenAt f n s
seen-at f n s c =
    let x = map-In f (numbers_from 0 n) s (In-from_Contains (map f (numbers_from 0 n)) s c) in
    let l = numbers-in 0 n x.0 x.1 in
    record { place = x.0; within = omega arith; is = x.2 }

pub at-seen : (f : ℕ → Seen) (n p : ℕ) → p < n → Contains (map f (numbers_from 0 n)) (f p)
at-seen f n p l = Contains-from_In (map f (numbers_from 0 n)) (f p) (In-map f (numbers_from 0 n) p (in-numbers 0 n p (omega arith) (omega arith)))

pub get-seen : (f : ℕ → Seen) (i n k : ℕ) (s : Seen) → slice_get (map f (numbers_from i n)) k ≡ Some s → (k < n) × (f (i + k) ≡ s)
get-seen f i zero k s e = absurd (cc)
get-seen f i (suc n) zero s e = (omega arith, let a : f i ≡ s = cc in let b : i + zero ≡ i = omega arith in ap f b ∙ a)
get-seen f i (suc n) (suc k) s e = let r = get-seen f (i + 1) n k s e in let l = r.0 in let b : i + suc k ≡ i + 1 + k = omega arith in (omega arith, ap f b ∙ r.1)

-- The lines after the close.

pub says-by : (T : List Row) (p : ℕ) → says (line_of [] (row_at T p)) ≡ told [] (says_at T p)
says-by T p = saying-told [] (row_at T p).fate

-- a line that was closed at the end
pub record ClosedLine (P : Project) (left : List WaitingNode) (best : Option ℕ) (number : ℕ) (s : Seen) : Type 0 where
  pub node : WaitingNode
  pub among : In left node
  pub fill : Fill
  pub closes : IsCloseOf P best number node fill
  pub said : s.said ≡ says_late closes.late.reason
  pub origin : s.origin ≡ after_last number
  pub front : s.front ≡ Some node.node.front

pub record KeptLine (Said : ℕ → Type 0) (line : ℕ → Seen) (p : ℕ) (s : Seen) : Type 0 where
  pub is_said : Said p
  pub line_is : s ≡ line p

abbrev pub closed_line : List Row → List Origin → List TreeNode → List Fill → ℕ → Seen
closed_line T O ns fills = seen_row (fill_rows T fills) ns (fill_origins O fills)

pub close-cases : (P : Project) (T : List Row) (O : List Origin) (ns : List TreeNode) (left : List WaitingNode) (old best : Option ℕ) (number : ℕ) (fills : List Fill) → Closes P T O ns left old best number fills → (p : ℕ) → p < length T →
    KeptLine (IsSaid T) (seen_row T ns O) p (closed_line T O ns fills p) ⊎ ClosedLine P left best number (closed_line T O ns fills p)
close-cases P T O ns left old best number fills k p l =
    elim (closed-row P T O ns left old best number fills k p l) [
      | inl kept ↦ inl (record { is_said = kept.0; line_is = ap (line_by (node_at ns p)) kept.1 })
      | inr c ↦ inr (record {
        node = c.node;
        among = c.among;
        fill = c.fill;
        closes = c.closes;
        said = says-by (fill_rows T fills) p ∙ ap (told []) (c.says ∙ c.closes.late.says);
        origin = c.origin;
        front = c.front;
      })
    ]

late-not_expanded : (P : Project) (left : List WaitingNode) (best : Option ℕ) (number : ℕ) (s : Seen) → ClosedLine P left best number s → expands_line s ≡ false
late-not_expanded P left best number s c = ap expands c.said

-- a line that is expanded is one from before
expanded-kept : (P : Project) (T : List Row) (O : List Origin) (ns : List TreeNode) (left : List WaitingNode) (old best : Option ℕ) (number : ℕ) (fills : List Fill) → Closes P T O ns left old best number fills → (p : ℕ) → p < length T →
    expands_line (closed_line T O ns fills p) ≡ true → KeptLine (IsSaid T) (seen_row T ns O) p (closed_line T O ns fills p)
expanded-kept P T O ns left old best number fills k p l e =
    elim (close-cases P T O ns left old best number fills k p l) [
      | inl kept ↦ kept
      | inr c ↦ absurd (let bad : false ≡ true = sym (late-not_expanded P left best number (closed_line T O ns fills p) c) ∙ e in cc)
    ]

pub kept-line : (P : Project) (T : List Row) (O : List Origin) (ns : List TreeNode) (left : List WaitingNode) (old best : Option ℕ) (number : ℕ) (fills : List Fill) → Closes P T O ns left old best number fills → (p : ℕ) → IsSaid T p →
    closed_line T O ns fills p ≡ seen_row T ns O p
kept-line P T O ns left old best number fills k p is = ap (line_by (node_at ns p)) (stays_law P (closing best) T O ns fills [] p (closing-stands P T O ns left old best number fills k) is.closed)

-- a front that waits has its place in the table
front-inside : (P : Project) (T : List Row) (ns : List TreeNode) (left : List WaitingNode) (old : Option ℕ) (p : ℕ) (F : List Entry) → Stands P (searching old) T ns [] (waiting_of left) → place_front ns p ≡ Some F → p < length T
front-inside P T ns left old p F s e = let a = front-within ns p F e in let b = s.size in omega arith

-- Lean.

begun-by : (P : Project) (w : ℕ) (first best : Option ℕ) (starts : List ℕ) (Said : ℕ → Type 0) (line : ℕ → Seen) → IsLeanSoFar P w first starts best Said line → (p : ℕ) → Said p → expands_line (line p) ≡ true → IsBegun P w starts (line p)
begun-by P w first best starts Said line lean p is e =
    let o = lean.rounds p is in
    record { some_round = o.some; round = o.round; some_worker = o.worker.some; worker = o.worker.few; early = λ F b front lower. lean.early p F b is e front lower }

few-closed : (P : Project) (T : List Row) (O : List Origin) (ns : List TreeNode) (left : List WaitingNode) (old best : Option ℕ) (number : ℕ) (fills : List Fill) → Closes P T O ns left old best number fills → (n : ℕ) →
    count_by (expands_in n) (seen_rows (fill_rows T fills) ns (fill_origins O fills)) ≤ count_by (expands_in n) (seen_rows T ns O)
few-closed P T O ns left old best number fills k n =
    let size = length-fill_rows T fills in
    let a = count-places (fill_rows T fills) ns (fill_origins O fills) n in
    let b = count-places T ns O n in
    let c = ap (λ (m : ℕ). total (λ p. one_in n (closed_line T O ns fills p)) (numbers_from 0 m)) size in
    let d = total-numbers_le (λ p. one_in n (closed_line T O ns fills p)) (λ p. one_in n (seen_row T ns O p)) 0 (length T)
    (λ p l. elim (close-cases P T O ns left old best number fills k p (omega arith)) [
      | inl kept ↦ (let e = ap (one_in n) kept.line_is in omega arith)
      | inr x ↦ (let e = one_in-false n (closed_line T O ns fills p) (late-not_expanded P left best number (closed_line T O ns fills p) x) in omega arith)
    ]) in
    omega arith

known-round : (P : Project) (w : ℕ) (first best : Option ℕ) (starts : List ℕ) (Said : ℕ → Type 0) (line : ℕ → Seen) → IsLeanSoFar P w first starts best Said line → (p : ℕ) → Said p → (line p).origin.round ≤ length starts
known-round P w first best starts Said line lean p is = (lean.rounds p is).round

leaf-front : (P : Project) (best : Option ℕ) (F : List Entry) (reason : Reason) → says_late reason ≡ says_late late_leaf → IsLate P (closing best) F reason → IsLeaf P F
leaf-front P best F late_leaf e is = is.late.0
leaf-front P best F late_tail e is = absurd (cc)
leaf-front P best F (late_work r) e is = absurd (cc)
leaf-front P best F (late_left b) e is = absurd (cc)

-- the least of the ends of all leaves
duration-closed : (P : Project) (w : ℕ) (first : Option ℕ) (starts : List ℕ) (T : List Row) (O : List Origin) (ns : List TreeNode) (left : List WaitingNode) (old best : Option ℕ) (number : ℕ) (fills : List Fill) →
    (k : Closes P T O ns left old best number fills) → IsLowered P left old best → IsLeanSoFar P w first starts old (IsSaid T) (seen_row T ns O) →
    IsLeast (IsEnd P first (Contains (seen_rows (fill_rows T fills) ns (fill_origins O fills)))) (end_number best)
duration-closed P w first starts T O ns left old best number fills k low lean = record { attained = reach low.attained; least = least }
  where
    all : List Seen
    all = seen_rows (fill_rows T fills) ns (fill_origins O fills)

    among : (p : ℕ) → p < length T → Contains (seen_rows (fill_rows T fills) ns (fill_origins O fills)) (closed_line T O ns fills p)
    among p l = let size = length-fill_rows T fills in at-seen (closed_line T O ns fills) (length (fill_rows T fills)) p (omega arith)

    of_said : (s : Seen) → IsAmong (IsSaid T) (seen_row T ns O) s → Contains (seen_rows (fill_rows T fills) ns (fill_origins O fills)) s
    of_said s a = subst (Contains (seen_rows (fill_rows T fills) ns (fill_origins O fills))) (kept-line P T O ns left old best number fills k a.place a.visited ∙ sym a.is) (among a.place a.visited.within)

    of_fill : (f : Fill) (v : WaitingNode) → In fills f → In left v → IsCloseOf P best number v f → IsLeaf P v.node.front → (e : ℕ) → e ≡ end_of P v.node.front → IsEnd P first (Contains (seen_rows (fill_rows T fills) ns (fill_origins O fills))) e
    of_fill f v i j is leaf e end =
        let s = closing-stands P T O ns left old best number fills k in
        let at = waiting-at ns left v k.before.each_waiting j in
        let inside = front-inside P T ns left old v.place v.node.front k.before at in
        let here : f.place < length T = let same = is.place in omega arith in
        let come = comes_law P (closing best) T O ns fills [] f s k.size (Contains-from_In fills f i) in
        let fate : says_at (fill_rows T fills) f.place ≡ row_late late_leaf = ap (λ (x : PlaceRow). says_row x.row) come ∙ ap row_saying (is.leaf leaf) in
        of_leaf (closed_line T O ns fills f.place) v.node.front (among f.place here) (says-by (fill_rows T fills) f.place ∙ ap (told []) fate) (ap (place_front ns) is.place ∙ at) end

    reach : IsEndOrLeft P old left (end_number best) → IsEnd P first (Contains (seen_rows (fill_rows T fills) ns (fill_origins O fills))) (end_number best)
    reach (of_best e) = subst (IsEnd P first (Contains (seen_rows (fill_rows T fills) ns (fill_origins O fills)))) (sym e)
        (ends-map P first (IsAmong (IsSaid T) (seen_row T ns O)) (Contains (seen_rows (fill_rows T fills) ns (fill_origins O fills))) of_said (end_number old) lean.best_least.attained)
    reach (of_left v c leaf e) = let z = zip-left (IsCloseOf P best number) left fills k.fills_are v (In-from_Contains left v c) in of_fill z.0 v z.1 (In-from_Contains left v c) z.2 leaf (end_number best) e

    least : (u : ℕ) → IsEnd P first (Contains (seen_rows (fill_rows T fills) ns (fill_origins O fills))) u → end_number best ≤ u
    least u (of_first e) = let a = lean.best_least.least u (of_first e) in let b = lowered-falls P left old best low in omega arith
    least u (of_leaf s F c said front e) =
        let size = length-fill_rows T fills in
        let x = seen-at (closed_line T O ns fills) (length (fill_rows T fills)) s c in
        let inside = x.within in
        elim (close-cases P T O ns left old best number fills k x.place (omega arith)) [
          | inl kept ↦ (
              let a = lean.best_least.least u (of_leaf s F (record { place = x.place; visited = kept.is_said; is = sym x.is ∙ kept.line_is }) said front e) in
              let b = lowered-falls P left old best low in
              omega arith)
          | inr y ↦ (
              let says_ : says_late y.closes.late.reason ≡ says_late late_leaf = sym y.said ∙ (ap (λ (z : Seen). z.said) x.is ∙ said) in
              let leaf = leaf-front P best y.node.node.front y.closes.late.reason says_ y.closes.late.late in
              let same : Some y.node.node.front ≡ Some F = sym y.front ∙ (ap (λ (z : Seen). z.front) x.is ∙ front) in
              let fronts : y.node.node.front ≡ F = cc in
              let own = ap (end_of P) fronts in
              low.least u (of_left y.node (Contains-from_In left y.node y.among) leaf (e ∙ sym own)))
        ]

starts-closed : (P : Project) (w : ℕ) (first : Option ℕ) (starts : List ℕ) (T : List Row) (O : List Origin) (ns : List TreeNode) (left : List WaitingNode) (old best : Option ℕ) (number : ℕ) (fills : List Fill) →
    Closes P T O ns left old best number fills → number ≡ length starts + 1 → IsLeanSoFar P w first starts old (IsSaid T) (seen_row T ns O) → (i : ℕ) → i < length starts →
    IsLeast (IsEnd P first (IsOfFirst (seen_rows (fill_rows T fills) ns (fill_origins O fills)) i)) (slice_index starts i)
starts-closed P w first starts T O ns left old best number fills k e lean i l =
    let is = lean.starts_least i l in
    record {
      attained = ends-map P first (IsAmong (IsSaidBy (IsSaid T) (seen_row T ns O) i) (seen_row T ns O)) (IsOfFirst (seen_rows (fill_rows T fills) ns (fill_origins O fills)) i) there (slice_index starts i) is.attained;
      least = λ u h. is.least u (ends-map P first (IsOfFirst (seen_rows (fill_rows T fills) ns (fill_origins O fills)) i) (IsAmong (IsSaidBy (IsSaid T) (seen_row T ns O) i) (seen_row T ns O)) back u h);
    }
  where
    there : (s : Seen) → IsAmong (IsSaidBy (IsSaid T) (seen_row T ns O) i) (seen_row T ns O) s → IsOfFirst (seen_rows (fill_rows T fills) ns (fill_origins O fills)) i s
    there s a =
        let size = length-fill_rows T fills in
        let inside = a.visited.said.within in
        let small = a.visited.round in
        let own = ap (λ (x : Seen). x.origin.round) a.is in
        record {
          among = subst (Contains (seen_rows (fill_rows T fills) ns (fill_origins O fills))) (kept-line P T O ns left old best number fills k a.place a.visited.said ∙ sym a.is) (at-seen (closed_line T O ns fills) (length (fill_rows T fills)) a.place (omega arith));
          round = omega arith;
        }

    back : (s : Seen) → IsOfFirst (seen_rows (fill_rows T fills) ns (fill_origins O fills)) i s → IsAmong (IsSaidBy (IsSaid T) (seen_row T ns O) i) (seen_row T ns O) s
    back s a =
        let size = length-fill_rows T fills in
        let x = seen-at (closed_line T O ns fills) (length (fill_rows T fills)) s a.among in
        let inside = x.within in
        let small = a.round in
        let own = ap (λ (y : Seen). y.origin.round) x.is in
        elim (close-cases P T O ns left old best number fills k x.place (omega arith)) [
          | inl kept ↦ (let same = ap (λ (y : Seen). y.origin.round) kept.line_is in record { place = x.place; visited = record { said = kept.is_said; round = omega arith }; is = sym x.is ∙ kept.line_is })
          | inr c ↦ absurd (let late = ap (λ (y : Origin). y.round) c.origin in omega arith)
        ]

pub lean-closed : (P : Project) (w : ℕ) (first : Option ℕ) (starts : List ℕ) (T : List Row) (O : List Origin) (ns : List TreeNode) (left : List WaitingNode) (old best : Option ℕ) (number : ℕ) (fills : List Fill) →
    Closes P T O ns left old best number fills → IsLowered P left old best → number ≡ length starts + 1 → ((n : ℕ) → count_by (expands_in n) (seen_rows T ns O) ≤ most_in_round n) →
    IsLeanSoFar P w first starts old (IsSaid T) (seen_row T ns O) → IsLean P w first starts best (seen_rows (fill_rows T fills) ns (fill_origins O fills))
lean-closed P w first starts T O ns left old best number fills k low e few lean =
    let line : ℕ → Seen = seen_row T ns O in
    let new : ℕ → Seen = closed_line T O ns fills in
    let size = length-fill_rows T fills in
    let at = λ (s : Seen) (c : Contains (seen_rows (fill_rows T fills) ns (fill_origins O fills)) s). seen-at new (length (fill_rows T fills)) s c in
    let inside = λ (x : ℕ) (l : x < length (fill_rows T fills)). let l2 : x < length T = omega arith in l2 in
    record {
      begun = λ s c x.
          let y = at s c in
          let kept = expanded-kept P T O ns left old best number fills k y.place (inside y.place y.within) (ap expands_line y.is ∙ x) in
          let same : line y.place ≡ s = sym kept.line_is ∙ y.is in
          subst (IsBegun P w starts) same (begun-by P w first old starts (IsSaid T) line lean y.place kept.is_said (ap expands_line same ∙ x));
      closed = λ s c x.
          let y = at s c in
          let worker = ap (λ (z : Seen). z.origin.worker) y.is in
          let round = ap (λ (z : Seen). z.origin.round) y.is in
          elim (close-cases P T O ns left old best number fills k y.place (inside y.place y.within)) [
            | inl kept ↦ absurd (let o = (lean.rounds y.place kept.is_said).worker.some in let m = ap (λ (z : Seen). z.origin.worker) kept.line_is in omega arith)
            | inr z ↦ (let late = ap (λ (o : Origin). o.round) z.origin in omega arith)
          ];
      few = λ n. let a = few-closed P T O ns left old best number fills k n in let b = few n in omega arith;
      one = λ i j s t gi gj es et same.
          let a = get-seen new 0 (length (fill_rows T fills)) i s gi in
          let b = get-seen new 0 (length (fill_rows T fills)) j t gj in
          let zi : 0 + i ≡ i = omega arith in
          let zj : 0 + j ≡ j = omega arith in
          let si : new i ≡ s = ap new (sym zi) ∙ a.1 in
          let tj : new j ≡ t = ap new (sym zj) ∙ b.1 in
          let x = expanded-kept P T O ns left old best number fills k i (inside i a.0) (ap expands_line si ∙ es) in
          let y = expanded-kept P T O ns left old best number fills k j (inside j b.0) (ap expands_line tj ∙ et) in
          let u : line i ≡ s = sym x.line_is ∙ si in
          let v : line j ≡ t = sym y.line_is ∙ tj in
          lean.one i j x.is_said y.is_said (ap expands_line u ∙ es) (ap expands_line v ∙ et) (ap (λ (z : Seen). z.origin) u ∙ (same ∙ sym (ap (λ (z : Seen). z.origin) v)));
      new = λ s t F A cs ct es et known ft fs dominates.
          let a = at s cs in
          let b = at t ct in
          let x = expanded-kept P T O ns left old best number fills k a.place (inside a.place a.within) (ap expands_line a.is ∙ es) in
          let y = expanded-kept P T O ns left old best number fills k b.place (inside b.place b.within) (ap expands_line b.is ∙ et) in
          let u : line a.place ≡ s = sym x.line_is ∙ a.is in
          let v : line b.place ≡ t = sym y.line_is ∙ b.is in
          let known_ : IsKnown (line b.place).origin (line a.place).origin = subst (λ (z : Seen). IsKnown (line b.place).origin z.origin) (sym u) (subst (λ (z : Seen). IsKnown z.origin s.origin) (sym v) known) in
          lean.new a.place b.place F A x.is_said y.is_said (ap expands_line u ∙ es) (ap expands_line v ∙ et) known_ (ap (λ (z : Seen). z.front) v ∙ ft) (ap (λ (z : Seen). z.front) u ∙ fs) dominates;
      parents = λ s t F c cs ct et ft branch.
          let a = at s cs in
          let b = at t ct in
          let y = expanded-kept P T O ns left old best number fills k b.place (inside b.place b.within) (ap expands_line b.is ∙ et) in
          let v : line b.place ≡ t = sym y.line_is ∙ b.is in
          elim (close-cases P T O ns left old best number fills k a.place (inside a.place a.within)) [
            | inl x ↦ (
                let u : line a.place ≡ s = sym x.line_is ∙ a.is in
                let own = lean.parents a.place b.place F c x.is_said y.is_said (ap expands_line v ∙ et) (ap (λ (z : Seen). z.front) v ∙ ft) (ap (λ (z : Seen). z.branch) u ∙ branch) in
                subst (λ (z : Seen). IsAfterParent z s) v (subst (λ (z : Seen). IsAfterParent (line b.place) z) u own))
            | inr x ↦ (
                let late = ap (λ (o : Origin). o.round) x.origin in
                let ra = ap (λ (z : Seen). z.origin.round) a.is in
                let rv = ap (λ (z : Seen). z.origin.round) v in
                let old_ = (lean.rounds b.place y.is_said).round in
                record { round = omega arith; turn = λ open_ same worker. absurd (omega arith) })
          ];
      starts_least = starts-closed P w first starts T O ns left old best number fills k e lean;
      duration_least = duration-closed P w first starts T O ns left old best number fills k low lean;
    }

-- What else is so in the end.

none-fills : (P : Project) (best : Option ℕ) (number : ℕ) (left : List WaitingNode) (fills : List Fill) → AllZip (IsCloseOf P best number) left fills → total (λ f. one_expanded (row_saying f.fate)) fills ≡ 0
none-fills P best number [] [] z = refl
none-fills P best number [] (f ∷ fills) z = absurd z
none-fills P best number (w ∷ left) [] z = absurd z
none-fills P best number (w ∷ left) (f ∷ fills) z = let ih = none-fills P best number left fills z.1 in let own : one_expanded (row_saying f.fate) ≡ 0 = ap one_expanded z.0.late.says in omega arith

pub expanded-closed_rows : (P : Project) (T : List Row) (O : List Origin) (ns : List TreeNode) (left : List WaitingNode) (old best : Option ℕ) (number : ℕ) (fills : List Fill) → Closes P T O ns left old best number fills →
    expanded_rows (fill_rows T fills) ≡ expanded_rows T
expanded-closed_rows P T O ns left old best number fills k =
    let a = expanded-filled P (closing best) T ns fills [] (closing-stands P T O ns left old best number fills k) in
    let b = none-fills P best number left fills k.fills_are in
    omega arith

late-no_cite : (reason : Reason) (q : ℕ) → row_late reason ≡ row_cites q → ⊥
late-no_cite reason q e = cc

pub cites-closed : (P : Project) (T : List Row) (O : List Origin) (ns : List TreeNode) (left : List WaitingNode) (old best : Option ℕ) (number : ℕ) (fills : List Fill) → Closes P T O ns left old best number fills → RowsCite P T ns →
    RowsCite P (fill_rows T fills) ns
cites-closed P T O ns left old best number fills k cites =
    filled_cites_law P (closing best) T ns fills [] (closing-stands P T O ns left old best number fills k) cites
    (λ f q F c says_ front.
    let z = zip-right (IsCloseOf P best number) left fills k.fills_are f (In-from_Contains fills f c) in
    absurd (late-no_cite z.2.late.reason q (sym z.2.late.says ∙ says_)))

-- while the search goes on, nothing is left
searching-left : (P : Project) (best : Option ℕ) (F : List Entry) (b : ℕ) → IsLate P (searching best) F (late_left b) → ⊥
searching-left P (Some d) F b is = is.suffices.0
searching-left P None F b is = is.suffices.0

suits-left : (P : Project) (best : Option ℕ) (ns : List TreeNode) (o : Option (List Entry)) (b : ℕ) → Suits P (searching best) ns o (row_late (late_left b)) → ⊥
suits-left P best ns (Some F) b is = searching-left P best F b is
suits-left P best ns None b is = is

-- a row that was left, or closed after the last round, was one of those that waited
pub some-left : (P : Project) (T : List Row) (O : List Origin) (ns : List TreeNode) (left : List WaitingNode) (old best : Option ℕ) (number : ℕ) (fills : List Fill) → Closes P T O ns left old best number fills → (b : ℕ) →
    IsLeftAt (fill_rows T fills) b → left ≡ [] → ⊥
some-left P T O ns left old best number fills k b at none =
    let inside = said-inside (fill_rows T fills) at.place (row_late (late_left b)) at.is (λ bad. cc) in
    let size = length-fill_rows T fills in
    elim (closed-row P T O ns left old best number fills k at.place (omega arith)) [
      | inr c ↦ (let bad : In [] c.node = subst (λ (x : List WaitingNode). In x c.node) none c.among in bad)
      | inl kept ↦ (
          let was : says_at T at.place ≡ row_late (late_left b) = sym (ap (λ (x : PlaceRow). says_row x.row) kept.1) ∙ at.is in
          suits-left P old ns (place_front ns at.place) b (subst (λ (s : RowSaying). Suits P (searching old) ns (place_front ns at.place) s) was (k.before.rows at.place kept.0.within).says))
    ]

pub late-left : (P : Project) (w : ℕ) (first : Option ℕ) (starts : List ℕ) (T : List Row) (O : List Origin) (ns : List TreeNode) (left : List WaitingNode) (old best : Option ℕ) (number : ℕ) (fills : List Fill) →
    Closes P T O ns left old best number fills → IsLeanSoFar P w first starts old (IsSaid T) (seen_row T ns O) → (p : ℕ) → p < length T → length starts < (origin_at (fill_origins O fills) p).round → left ≡ [] → ⊥
late-left P w first starts T O ns left old best number fills k lean p l late none =
    elim (closed-row P T O ns left old best number fills k p l) [
      | inr c ↦ (let bad : In [] c.node = subst (λ (x : List WaitingNode). In x c.node) none c.among in bad)
      | inl kept ↦ (let o = (lean.rounds p kept.0).round in let same = ap (λ (x : PlaceRow). x.origin.round) kept.1 in omega arith)
    ]

left-fate : (f : RowFate) (b : ℕ) → row_saying f ≡ row_late (late_left b) → IsNarrow f → b ≤ 999999999
left-fate (Left u) b e few = let same : u ≡ b = cc in omega arith
left-fate Open b e few = absurd (cc)
left-fate (Expanded count first) b e few = absurd (cc)
left-fate Leaf b e few = absurd (cc)
left-fate TailBound b e few = absurd (cc)
left-fate (WorkBound k) b e few = absurd (cc)
left-fate (Cited q) b e few = absurd (cc)
left-fate (Shut why) b e few = absurd (cc)

-- the number of a row that was left
pub narrow-left : (P : Project) (T : List Row) (O : List Origin) (ns : List TreeNode) (left : List WaitingNode) (old best : Option ℕ) (number : ℕ) (fills : List Fill) → Closes P T O ns left old best number fills → (b : ℕ) →
    IsLeftAt (fill_rows T fills) b → b ≤ 999999999
narrow-left P T O ns left old best number fills k b at =
    let inside = said-inside (fill_rows T fills) at.place (row_late (late_left b)) at.is (λ bad. cc) in
    let size = length-fill_rows T fills in
    elim (closed-row P T O ns left old best number fills k at.place (omega arith)) [
      | inr c ↦ left-fate c.fill.fate b (sym c.says ∙ at.is) c.closes.late.narrow
      | inl kept ↦ absurd (
          let was : says_at T at.place ≡ row_late (late_left b) = sym (ap (λ (x : PlaceRow). says_row x.row) kept.1) ∙ at.is in
          suits-left P old ns (place_front ns at.place) b (subst (λ (s : RowSaying). Suits P (searching old) ns (place_front ns at.place) s) was (k.before.rows at.place kept.0.within).says))
    ]
