-- The new rows and the fills of all workers, in the table.
use Rattle.std.proofs.Common.{◌≡◌, ℕ, ◌+◌, ◌-◌, ◌<◌, ◌≤◌, inl, inr, refl, sym, ap, subst, ◌∙◌, arith, List, [], ◌∷◌, ◌++◌, length, length-append, map}
use Rattle.std.specs.Prelude.{IfSome}
use Rattle.std.proofs.lemmas.Bool.{cases_lt}
use Rattle.std.proofs.lemmas.List.{get_or_append_left, get_or-append_right, length-map, map-append}
use Rattle.rcpsp_model.specs.declared.parts.Verdict.{Verdict}
use Rattle.rcpsp_model.specs.Project.{Project}
use Rattle.search_log.specs.declared.row.Row.{Row}
use Rattle.search_log.specs.declared.row.Fill.{Fill}
use Rattle.search_log.specs.Weights.{total, over, Each}
use Rattle.search_log.specs.Fates.{RowSaying, row_open, row_expanded, row_late, row_cites, row_shut, row_saying}
use Rattle.search_log.specs.Table.{no_row, row_at, says_row, children_of}
use Rattle.search_log.specs.Stands.{TreeNode, searching, RowSuits, FillSuits, Waiting, IsAtPlace, if_open, Grows}
use Rattle.search_log.proofs.Sums.{total-append, total-map, over-append, Each-append, Each-left, Each-right, Each-weaker}
use Rattle.search_rounds.specs.declared.round.NewRow.{NewRow}
use Rattle.search_rounds.specs.declared.round.WaitingNode.{WaitingNode}
use Rattle.search_rounds.specs.Round.{waiting_of}
use Rattle.round_shares.specs.Ends.{end_in}
use Rattle.round_shares.specs.Part.{Beginning, BeginsOn, Event, fills_of, IsNewSaying, IsNewRow}
use Rattle.round_shares.specs.Share.{room, first_place, visited, born}
use Rattle.round_shares.specs.Crew.{Worked, of_worker, HaveShares, real_place, real_fate, real_fill, real_waiting, all_grown, all_fills, all_left, IsHandedOn}
use Rattle.round_shares.proofs.ListPlaces.{Each-map, total-where}
use Rattle.round_shares.proofs.RealPlaces.{real-stays}
use Rattle.round_shares.proofs.PlacedShares.{all_more, all_visited, all_born, Whole, IsFound, ArePlaced}
use Rattle.round_shares.proofs.ShareRows.{over-map, more-size, row-suits, born-rows, rows-account}
use Rattle.round_shares.proofs.ShareVisits.{node-inside, new-row_of, fills-suit}
use Rattle.round_shares.proofs.CrewNodes.{waits-all}

-- Rows.

rows-both : (xs ys : List NewRow) → map (λ n. n.row) (xs ++ ys) ≡ map (λ n. n.row) xs ++ map (λ n. n.row) ys
rows-both xs ys = map-append (λ (n : NewRow). n.row) xs ys

none-below : (s : RowSaying) → IsNewSaying s → children_of s ≡ []
none-below row_open is = refl
none-below (row_expanded first count) is = absurd is
none-below (row_late reason) is = absurd is
none-below (row_cites q) is = absurd is
none-below (row_shut why) is = refl

childless : (b : Beginning) (h : ℕ → ℕ) (k : ℕ) (grown : List NewRow) → Each (IsNewRow b) grown → over (λ k n. total h (children_of (says_row n.row))) k grown ≡ 0
childless b h k [] new = refl
childless b h k (n ∷ grown) new =
    let own : total h (children_of (says_row n.row)) ≡ 0 = ap (total h) (none-below (says_row n.row) new.0.says) in
    let ih = childless b h (k + 1) grown new.1 in
    omega arith

pub new-all : (P : Project) (b : Beginning) (worker : ℕ) (ws : List Worked) → HaveShares P b worker ws → b.first_worker ≤ worker → worker + length ws ≤ b.last_worker + 1 → Each (IsNewRow b) (all_grown ws)
new-all P b worker [] s from to = tt
new-all P b worker (w ∷ ws) s from to =
    Each-append (IsNewRow b) w.part.grown (all_grown ws) (Each-weaker (IsNewRow (of_worker worker b)) (IsNewRow b) w.part.grown (new-row_of b worker from (omega arith)) s.0.share.new)
    (new-all P b (worker + 1) ws s.1 (omega arith) (omega arith))

module _ (P : Project) (b : Beginning) (t : Whole) where
  size-all : (worker start : ℕ) (ws : List Worked) (s : HaveShares P b worker ws) → ArePlaced P b t worker start ws s → length (all_more P b worker ws s) ≡ length (all_grown ws)
  size-all worker start [] s placed = refl
  size-all worker start (w ∷ ws) s placed =
      let own = more-size P b t worker start w s.0 placed.0 in
      let ih = size-all (worker + 1) (start + length w.part.grown) ws s.1 placed.1 in
      let a = length-append s.0.share.more (all_more P b (worker + 1) ws s.1) in
      let c = length-append w.part.grown (all_grown ws) in
      omega arith

  rows-all : (v : Verdict) (worker start : ℕ) (ws : List Worked) (s : HaveShares P b worker ws) → ArePlaced P b t worker start ws s → (i : ℕ) → i < length (all_grown ws) →
      RowSuits P v t.nodes (start + i) (row_at (map (λ n. n.row) (all_grown ws)) i)
  rows-all v worker start [] s placed i l = absurd (omega arith)
  rows-all v worker start (w ∷ ws) s placed i l =
      let own : List Row = map (λ (n : NewRow). n.row) w.part.grown in
      let others : List Row = map (λ (n : NewRow). n.row) (all_grown ws) in
      let size : length own ≡ length w.part.grown = length-map w.part.grown (λ (n : NewRow). n.row) in
      let a = length-append w.part.grown (all_grown ws) in
      let both : row_at (map (λ n. n.row) (w.part.grown ++ all_grown ws)) i ≡ row_at (own ++ others) i = ap (λ (rs : List Row). row_at rs i) (rows-both w.part.grown (all_grown ws)) in
      elim (cases_lt i (length w.part.grown)) [
        | inl first ↦ (
            let at : row_at (own ++ others) i ≡ row_at own i = get_or_append_left own others no_row i (omega arith) in
            subst (RowSuits P v t.nodes (start + i)) (sym (both ∙ at)) (row-suits P b t worker start w s.0 placed.0 v i first))
        | inr later ↦ (
            let k = i - length w.part.grown in
            let at : row_at (own ++ others) i ≡ row_at others k = get_or-append_right own others (length w.part.grown) i no_row size later in
            let place : start + length w.part.grown + k ≡ start + i = omega arith in
            subst (RowSuits P v t.nodes (start + i)) (sym (both ∙ at))
            (subst (λ (p : ℕ). RowSuits P v t.nodes p (row_at others k)) place (rows-all v (worker + 1) (start + length w.part.grown) ws s.1 placed.1 k (omega arith))))
      ]

  -- Sums.

  account-all : (worker start : ℕ) (ws : List Worked) (s : HaveShares P b worker ws) → ArePlaced P b t worker start ws s → (h : ℕ → ℕ) →
      over (λ k n. h k) start (all_grown ws) ≡ total (λ f. total h (children_of (row_saying (real_fate t.starts f.fate)))) (all_fills ws)
  account-all worker start [] s placed h = refl
  account-all worker start (w ∷ ws) s placed h =
      let own = rows-account P b t worker start w s.0 placed.0 h in
      let ih = account-all (worker + 1) (start + length w.part.grown) ws s.1 placed.1 h in
      let rows = over-append (λ k (n : NewRow). h k) start w.part.grown (all_grown ws) in
      let fills = total-append (λ (f : Fill). total h (children_of (row_saying (real_fate t.starts f.fate)))) w.part.fills (all_fills ws) in
      omega arith

  born-all : (worker start : ℕ) (ws : List Worked) (s : HaveShares P b worker ws) → ArePlaced P b t worker start ws s → (h : ℕ → ℕ) →
      total (λ x. h (real_place t.starts x.place)) (all_born P b worker ws s) ≡ over (λ k n. if_open (says_row n.row) (h k)) start (all_grown ws)
  born-all worker start [] s placed h = refl
  born-all worker start (w ∷ ws) s placed h =
      let own = born-rows P b t worker start w s.0 placed.0 h in
      let ih = born-all (worker + 1) (start + length w.part.grown) ws s.1 placed.1 h in
      let rows = over-append (λ k (n : NewRow). if_open (says_row n.row) (h k)) start w.part.grown (all_grown ws) in
      let children = total-append (λ (x : Waiting). h (real_place t.starts x.place)) (born (first_place worker) s.0.share.more) (all_born P b (worker + 1) ws s.1) in
      omega arith

  visits-all : (g : ℕ → ℕ) (worker : ℕ) (ws : List Worked) (s : HaveShares P b worker ws) → total (λ f. g f.place) (all_fills ws) ≡ total (λ x. g x.place) (all_visited P b worker ws s)
  visits-all g worker [] s = refl
  visits-all g worker (w ∷ ws) s =
      let ih = visits-all g (worker + 1) ws s.1 in
      let fills = total-append (λ (f : Fill). g f.place) w.part.fills (all_fills ws) in
      let visits = total-append (λ (x : Waiting). g x.place) (map visited s.0.share.events) (all_visited P b (worker + 1) ws s.1) in
      let of : total (λ (f : Fill). g f.place) w.part.fills ≡ total (λ (f : Fill). g f.place) (fills_of s.0.share.events) = ap (total (λ (f : Fill). g f.place)) s.0.share.fills in
      let a = total-map (λ (f : Fill). g f.place) (λ (e : Event). e.fill) s.0.share.events in
      let c = total-map (λ (x : Waiting). g x.place) visited s.0.share.events in
      omega arith

  -- Fills.

  fills-all : IfSome b.terms.best (λ end. end ≤ 1290000) → (worker start : ℕ) (ws : List Worked) (s : HaveShares P b worker ws) → ArePlaced P b t worker start ws s → Each (IsFound t) (all_visited P b worker ws s) →
      Each (λ f. FillSuits P (searching (end_in t.best)) t.nodes (real_fill t.starts f)) (all_fills ws)
  fills-all soon worker start [] s placed found = tt
  fills-all soon worker start (w ∷ ws) s placed found =
      Each-append (λ f. FillSuits P (searching (end_in t.best)) t.nodes (real_fill t.starts f)) w.part.fills (all_fills ws)
      (fills-suit P b t worker start w s.0 placed.0 soon (Each-left (IsFound t) (map visited s.0.share.events) (all_visited P b (worker + 1) ws s.1) found))
      (fills-all soon (worker + 1) (start + length w.part.grown) ws s.1 placed.1 (Each-right (IsFound t) (map visited s.0.share.events) (all_visited P b (worker + 1) ws s.1) found))

  waits-real : (xs : List WaitingNode) → Each (IsFound t) (waiting_of xs) → Each (IsAtPlace t.nodes) (waiting_of (map (real_waiting t.starts) xs))
  waits-real [] found = tt
  waits-real (x ∷ xs) found = (found.0.at, waits-real xs found.1)

  weigh-real : (h : ℕ → ℕ) (xs : List WaitingNode) → total (λ x. h x.place) (waiting_of (map (real_waiting t.starts) xs)) ≡ total (λ x. h (real_place t.starts x.place)) (waiting_of xs)
  weigh-real h [] = refl
  weigh-real h (x ∷ xs) = let ih = weigh-real h xs in omega arith

  weigh-dealt : (h : ℕ → ℕ) (ns : List TreeNode) (xs : List Waiting) → length ns ≤ room → Each (IsAtPlace ns) xs → total (λ x. h (real_place t.starts x.place)) xs ≡ total (λ x. h x.place) xs
  weigh-dealt h ns xs fits at =
      total-where (λ (x : Waiting). h (real_place t.starts x.place)) (λ (x : Waiting). h x.place) (IsAtPlace ns) xs
      (λ x is. ap h (real-stays t.starts x.place (let l = node-inside ns x.place x.front is in omega arith))) at

  -- The whole.

  pub grows-all : IfSome b.terms.best (λ end. end ≤ 1290000) → (ns : List TreeNode) (start : ℕ) (ws : List Worked) (rest : List WaitingNode) (s : HaveShares P b 1 ws) → BeginsOn b ns → length ns ≤ room → start ≡ length b.table.rows →
      t.nodes ≡ ns ++ all_more P b 1 ws s → ArePlaced P b t 1 start ws s → Each (IsNewRow b) (all_grown ws) → IsHandedOn b.dealt ws rest → Each (IsFound t) (all_visited P b 1 ws s ++ waiting_of (all_left ws ++ rest)) →
      Grows P (searching (end_in t.best)) b.table.rows ns (waiting_of b.dealt) (map (λ n. n.row) (all_grown ws)) (all_more P b 1 ws s) (map (real_fill t.starts) (all_fills ws))
      (waiting_of (map (real_waiting t.starts) (all_left ws ++ rest)))
  grows-all soon ns start ws rest s begins fits from nodes placed new handed found =
      let v : Verdict = searching (end_in t.best) in
      let n = length b.table.rows in
      let rows : List Row = map (λ (n : NewRow). n.row) (all_grown ws) in
      let at : ArePlaced P b t 1 n ws s = subst (λ (k : ℕ). ArePlaced P b t 1 k ws s) from placed in
      let visits = Each-left (IsFound t) (all_visited P b 1 ws s) (waiting_of (all_left ws ++ rest)) found in
      let waits = Each-right (IsFound t) (all_visited P b 1 ws s) (waiting_of (all_left ws ++ rest)) found in
      let many : length rows ≡ length (all_grown ws) = length-map (all_grown ws) (λ (n : NewRow). n.row) in
      record {
        size = size-all 1 n ws s at ∙ sym many;
        account = λ h.
            let account = account-all 1 n ws s at h in
            let all = over-map (λ k (r : Row). h k) (λ (n : NewRow). n.row) n (all_grown ws) in
            let below = over-map (λ k (r : Row). total h (children_of (says_row r))) (λ (n : NewRow). n.row) n (all_grown ws) in
            let none = childless b h n (all_grown ws) new in
            let fills = total-map (λ (f : Fill). total h (children_of (row_saying f.fate))) (real_fill t.starts) (all_fills ws) in
            omega arith;
        waits = λ h.
            let g : Waiting → ℕ = λ x. h (real_place t.starts x.place) in
            let handed_on = waits-all P b 1 ws s b.dealt rest handed g in
            let before = total-append g (all_visited P b 1 ws s) (waiting_of (all_left ws ++ rest)) in
            let after = total-append g (waiting_of b.dealt) (all_born P b 1 ws s) in
            let fills = total-map (λ (f : Fill). h f.place) (real_fill t.starts) (all_fills ws) in
            let made = visits-all (λ p. h (real_place t.starts p)) 1 ws s in
            let left = weigh-real h (all_left ws ++ rest) in
            let dealt = weigh-dealt h ns (waiting_of b.dealt) fits begins.dealt in
            let children = born-all 1 n ws s at h in
            let open_rows = over-map (λ k (r : Row). if_open (says_row r) (h k)) (λ (n : NewRow). n.row) n (all_grown ws) in
            omega arith;
        rows = λ i l. subst (λ (ms : List TreeNode). RowSuits P v ms (n + i) (row_at rows i)) nodes (rows-all v 1 n ws s at i (omega arith));
        each_fill = subst (λ (ms : List TreeNode). Each (FillSuits P v ms) (map (real_fill t.starts) (all_fills ws))) nodes
            (Each-map (FillSuits P v t.nodes) (real_fill t.starts) (all_fills ws) (fills-all soon 1 n ws s at visits));
        each_left = subst (λ (ms : List TreeNode). Each (IsAtPlace ms) (waiting_of (map (real_waiting t.starts) (all_left ws ++ rest)))) nodes (waits-real (all_left ws ++ rest) waits);
      }
