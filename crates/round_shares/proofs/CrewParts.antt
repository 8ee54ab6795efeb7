-- The shares of all workers are a part of the round.
use Rattle.std.proofs.Common.{◌≡◌, ℕ, ◌+◌, ◌<◌, ◌≤◌, inl, inr, refl, sym, ap, subst, ◌∙◌, arith, List, [], ◌∷◌, ◌++◌, length, map, All}
use Rattle.std.specs.Prelude.{Contains, IfSome, slice_get, slice_index}
use Rattle.std.specs.List.{AllZip}
use Rattle.std.proofs.lemmas.Bool.Decides.{nat_tests}
use Rattle.std.proofs.lemmas.List.{length-map}
use Rattle.std.proofs.lemmas.List.Elements.{All-nil, All-map}
use Rattle.rcpsp_model.specs.declared.parts.Entry.{Entry}
use Rattle.rcpsp_model.specs.Project.{Project}
use Rattle.cutset_store.specs.Index.{fronts_of}
use Rattle.search_log.specs.declared.row.Fill.{Fill}
use Rattle.search_log.specs.Weights.{Each}
use Rattle.search_log.specs.Fates.{row_saying}
use Rattle.search_log.specs.Stands.{TreeNode, IsAtPlace, one_expanded}
use Rattle.search_log.proofs.Sums.{total-map, total-same, Each-left, Each-weaker}
use Rattle.search_rounds.specs.declared.round.PlacedRecord.{PlacedRecord}
use Rattle.search_rounds.specs.declared.round.WaitingNode.{WaitingNode}
use Rattle.search_rounds.specs.Round.{waiting_of}
use Rattle.tree_worker.specs.Worker.{Progress}
use Rattle.round_shares.specs.Part.{Beginning, BeginsOn, Event, IsCitedLive, IsMadeIn, IsOffered, IsNewRow, IsPartAt}
use Rattle.round_shares.specs.Share.{room}
use Rattle.round_shares.specs.Crew.{Worked, HaveShares, starts_from, real_fate, real_fill, real_record, all_grown, all_fills, all_live, all_made, all_left, IsHandedOn, crew_part, joined_progress, crew_progress, IsFresh, IsOfCrew}
use Rattle.round_shares.specs.Laws.{CrewLaw}
use Rattle.round_shares.proofs.RealFates.{one-real}
use Rattle.round_shares.proofs.PlacedShares.{all_more, all_visited, all_events, Whole, IsFound, ArePlaced, named_from, named_place}
use Rattle.round_shares.proofs.CrewNodes.{BeginsAt, placed-all, found-dealt, found-all}
use Rattle.round_shares.proofs.CrewTables.{new-all, grows-all}
use Rattle.round_shares.proofs.CrewTurns.{fills_of-all, each-all, nodes-all, turns-all}
use Rattle.round_shares.proofs.CrewCitations.{cites-all, live-all, made-all, has_record-all, expanded-all, fronts-all, offered-all}

-- The least best seen.

least-first : (at : Progress) (ws : List Worked) → (crew_progress at ws).pass.least_seen ≤ at.pass.least_seen
least-first at [] = omega arith
least-first at (w ∷ ws) = let ih = least-first (joined_progress at w.at) ws in omega arith

least-each : (at : Progress) (ws : List Worked) → Each (λ w. (crew_progress at ws).pass.least_seen ≤ w.at.pass.least_seen) ws
least-each at [] = tt
least-each at (w ∷ ws) = (let all = least-first (joined_progress at w.at) ws in omega arith, least-each (joined_progress at w.at) ws)

-- The whole, on a table that stands for these nodes.

abbrev crew_whole : (P : Project) (b : Beginning) (ns : List TreeNode) (best : ℕ) (ws : List Worked) → HaveShares P b 1 ws → Whole
crew_whole P b ns best ws s = record { starts = starts_from (length b.table.rows) ws; names = named_place (length b.table.rows) ws; nodes = ns ++ all_more P b 1 ws s; best = best }

named-old : (rows : ℕ) (ws : List Worked) (q : ℕ) → q < rows → named_place rows ws q ≡ q
named-old rows ws q l = grind (arith, nat_tests)

named-new : (rows : ℕ) (ws : List Worked) (q : ℕ) → rows ≤ q → named_place rows ws q ≡ named_from 1 rows ws q
named-new rows ws q l = grind (arith, nat_tests)

real-fronts : (starts : List ℕ) (ms : List PlacedRecord) → map (λ m. m.known.front) (map (real_record starts) ms) ≡ map (λ m. m.known.front) ms
real-fronts starts [] = refl
real-fronts starts (m ∷ ms) = ap (λ (fs : List (List Entry)). m.known.front ∷ fs) (real-fronts starts ms)

module _ (P : Project) (b : Beginning) (at : Progress) (ws : List Worked) (rest : List WaitingNode) (soon : IfSome b.terms.best (λ end. end ≤ 1290000)) (fresh : IsFresh b at) (crew : IsOfCrew b ws) (s : HaveShares P b 1 ws)
    (handed : IsHandedOn b.dealt ws rest) where
  abbrev best : ℕ
  best = (crew_progress at ws).pass.least_seen

  abbrev starts : List ℕ
  starts = starts_from (length b.table.rows) ws

  crew-new : Each (IsNewRow b) (all_grown ws)
  crew-new = let first = crew.first in let last = crew.last in new-all P b 1 ws s (omega arith) (omega arith)

  crew-begins : (ns : List TreeNode) → BeginsOn b ns → BeginsAt P b (crew_whole P b ns best ws s) 0 (length b.table.rows) ns ws s
  crew-begins ns k =
      let first = crew.first in
      let last = crew.last in
      record {
        from = omega arith;
        to = omega arith;
        starts = λ j. let e : 0 + j ≡ j = omega arith in ap (slice_index starts) e;
        names = λ q l. named-new (length b.table.rows) ws q l;
        size = k.size;
        nodes = refl;
      }

  crew-placed : (ns : List TreeNode) → BeginsOn b ns → ArePlaced P b (crew_whole P b ns best ws s) 1 (length b.table.rows) ws s
  crew-placed ns k = placed-all P b (crew_whole P b ns best ws s) 0 (length b.table.rows) ns ws s (crew-begins ns k) (least-each at ws)

  crew-found : (ns : List TreeNode) → BeginsOn b ns → Each (IsFound (crew_whole P b ns best ws s)) (all_visited P b 1 ws s ++ waiting_of (all_left ws ++ rest))
  crew-found ns k =
      let t : Whole = crew_whole P b ns best ws s in
      let size = k.size in
      let fits = crew.fits in
      found-all P b t 1 (length b.table.rows) ws s b.dealt rest (crew-placed ns k) handed
      (Each-weaker (IsAtPlace ns) (IsFound t) (waiting_of b.dealt)
      (λ x is. found-dealt t ns (all_more P b 1 ws s) x refl (omega arith) (λ q l. named-old (length b.table.rows) ws q (omega arith)) is) k.dealt)

  crew-at : (ns : List TreeNode) → BeginsOn b ns → IsPartAt P b ns (crew_progress at ws) (crew_part starts ws rest)
  crew-at ns k =
      let t : Whole = crew_whole P b ns best ws s in
      let n = length b.table.rows in
      let all : List Event = all_events P b starts 1 ws s in
      let size = k.size in
      let fits = crew.fits in
      let placed : ArePlaced P b t 1 n ws s = crew-placed ns k in
      let found = crew-found ns k in
      let visits : Each (IsFound t) (all_visited P b 1 ws s) = Each-left (IsFound t) (all_visited P b 1 ws s) (waiting_of (all_left ws ++ rest)) found in
      let inside : Each (λ q. q < room) b.records.places = Each-weaker (λ q. q < n) (λ q. q < room) b.records.places (λ q l. omega arith) k.records in
      let among : (e : Event) → Contains all e → Contains all e = λ e c. c in
      let behind : (i : ℕ) → i < length all → slice_get all (0 + i) ≡ slice_get all i = λ i l. let e : 0 + i ≡ i = omega arith in ap (slice_get all) e in
      record {
        more = all_more P b 1 ws s;
        events = all;
        fills = fills_of-all P b t 1 ws s;
        grows = grows-all P b t soon ns n ws rest s k (omega arith) refl refl placed crew-new handed found;
        at_nodes = nodes-all P b t 1 n ws s placed visits;
        each = each-all P b t 1 n ws s placed;
        turns = turns-all P b t 1 n ws s placed visits;
        cites = λ i q e is says. elim (cites-all P b starts all inside 0 1 ws s among i q e is says) [
          | inl cited ↦ inl cited
          | inr live ↦ (let place : 0 + i ≡ i = omega arith in inr (subst (Contains (all_live 0 ws)) place live))
        ];
        live = live-all P b starts all 0 1 ws s at [] behind (subst (AllZip (IsCitedLive P all) []) (sym fresh.live) tt);
        made = All-map (IsMadeIn P all) (real_record starts) (all_made ws) (made-all P b starts all 1 ws s among);
        made_all = has_record-all P b starts 1 ws s;
        offered = offered-all P b starts all 1 ws s at among (subst (All (IsOffered P b all)) (sym fresh.offers) (All-nil (IsOffered P b all)));
      }

pub crew_law : CrewLaw
crew_law P b at ws rest soon fresh crew s handed =
    let starts : List ℕ = starts_from (length b.table.rows) ws in
    let least = least-first at ws in
    let seen = fresh.seen in
    let none : fronts_of at.worker.expanded ≡ [] = ap fronts_of fresh.expanded in
    record {
      falls = omega arith;
      rows = crew-new P b at ws rest soon fresh crew s handed;
      fronts = real-fronts starts (all_made ws) ∙ sym (fronts-all P b starts 1 ws at s ∙ ap (λ (fs : List (List Entry)). fs ++ map (λ (m : PlacedRecord). m.known.front) (all_made ws)) none);
      expanded =
          let a = total-map (λ (f : Fill). one_expanded (row_saying f.fate)) (real_fill starts) (all_fills ws) in
          let c = total-same (λ (f : Fill). one_expanded (row_saying (real_fate starts f.fate))) (λ (f : Fill). one_expanded (row_saying f.fate)) (all_fills ws) (λ f. one-real starts f.fate) in
          let d = expanded-all P b starts 1 ws s in
          let e = length-map (all_made ws) (real_record starts) in
          omega arith;
      at_tree = crew-at P b at ws rest soon fresh crew s handed;
    }
