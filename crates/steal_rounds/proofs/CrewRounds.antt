-- What all workers did in a round is a round.
use Rattle.std.proofs.Common.{◌≡◌, ℕ, ◌+◌, ◌<◌, ◌≤◌, inl, refl, sym, ap, subst, ◌∙◌, arith, List, [], ◌∷◌, ◌++◌, length, map, All, Option, None, Global, min, vec_len}
use Rattle.std.specs.declared.vec.Vec.{Vec}
use Rattle.std.specs.Prelude.{IfSome, Contains}
use Rattle.std.specs.List.{AllZip}
use Rattle.std.proofs.Common.{IsPermutation, sum_by}
use Rattle.std.proofs.lemmas.List.Elements.{All-nil, All-cons, All-head, All-tail}
use Rattle.std.proofs.lemmas.List.Sums.{sum_by-cons}
use Rattle.std.proofs.lemmas.List.Sorted.{All-permutation, sum_by-IsPermutation}
use Rattle.atomic_table.specs.Seated.{TableId}
use Rattle.rcpsp_model.specs.declared.parts.Placing.{Placing}
use Rattle.rcpsp_model.specs.declared.parts.Verdict.{Verdict}
use Rattle.rcpsp_model.specs.Project.{Project}
use Rattle.rcpsp_model.proofs.Lists.{In-All, In-from_Contains, Contains-from_In, All-from_In}
use Rattle.precedence_tree.specs.Node.{StandsFor}
use Rattle.search_log.specs.declared.row.Fill.{Fill}
use Rattle.search_log.specs.declared.table.Table.{Table}
use Rattle.search_log.specs.Weights.{total, Each}
use Rattle.search_log.specs.Stands.{TreeNode, searching, Waiting, IsAtPlace, Stands}
use Rattle.search_log.specs.Lean.{end_number}
use Rattle.search_log.proofs.Sums.{Each-weaker}
use Rattle.search_rounds.specs.declared.round.NewRow.{NewRow}
use Rattle.search_rounds.specs.declared.round.WaitingNode.{WaitingNode}
use Rattle.search_rounds.specs.declared.round.PlacedRecord.{PlacedRecord}
use Rattle.search_rounds.specs.declared.round.Records.{Records}
use Rattle.search_rounds.specs.declared.round.Terms.{Terms}
use Rattle.search_rounds.specs.declared.round.RoundResult.{RoundResult}
use Rattle.search_rounds.specs.Round.{waiting_of, IsRound, IsRoundOn}
use Rattle.search_rounds.proofs.FilledSums.{zip-length}
use Rattle.search_table.specs.declared.view.PassView.{PassView}
use Rattle.search_table.specs.declared.view.RoundTerms.{RoundTerms}
use Rattle.search_table.specs.Lists.{least}
use Rattle.search_table.specs.Views.{first_view}
use Rattle.shared_rows.specs.Rows.{RowsState}
use Rattle.tree_worker.specs.Worker.{Progress, HasPlan, new_worker}
use Rattle.steal_rounds.specs.declared.member.Member.{Member}
use Rattle.steal_rounds.specs.declared.gathering.Whole.{Whole}
use Rattle.round_shares.specs.Ends.{end_in}
use Rattle.round_shares.specs.Part.{Beginning, PartState, IsPart}
use Rattle.round_shares.specs.Share.{room}
use Rattle.round_shares.specs.Crew.{starts_from, crew_part, crew_progress}
use Rattle.node_sources.specs.Source.{SourceState, IsSourceOf}
use Rattle.node_sources.specs.Seats.{Stays}
use Rattle.node_sources.specs.Seats as seats
use Rattle.node_sources.specs.Settled.{IsNew, AreNew, IsSettled}
use Rattle.node_sources.proofs.Stays.{seated-still, sources-still}
use Rattle.steal_rounds.specs.Lists.{new_part}
use Rattle.steal_rounds.specs.Dealt.{all_dealt, AreDealt}
use Rattle.steal_rounds.specs.Members.{with_workers, AreSeated, IsReady, Went}
use Rattle.steal_rounds.specs.Whole.{whole_state, IsShort, IsOfTable, IsSound, joined_views, source_of, best_plan, IsWholeOf}
use Rattle.steal_rounds.specs.Cited.{ArePublished, AreToBeCited, AreFills, IsRowOf}
use Rattle.steal_rounds.specs.Ended.{result_of, resolved_part, HasEnded}
use Rattle.steal_rounds.specs.Settled.{Settles, EndsAs}
use Rattle.round_shares.proofs.ShareVisits.{node-inside}
use Rattle.steal_rounds.proofs.WiderParts.{in_order-each}
use Rattle.steal_rounds.proofs.BegunShares.{AreBelowRoom}
use Rattle.steal_rounds.proofs.JoinedMembers.{joined_parts, starts_in, whole-joined, crew_of, crew-dealt, crew-many, all_progress, crew-progress, crew-handed}
use Rattle.round_shares.proofs.CrewParts.{crew_law}
use Rattle.steal_rounds.proofs.ResolvedRounds.{resolved-round}
use Rattle.steal_rounds.proofs.CitedNotes.{SeesNoMore, StandsForAll, all-worked, tables-stay, workers-many, passes-joined, published-notes, notes-to_cite, live-fills}
use Rattle.steal_rounds.proofs.CrewParts.{crew_beginning, all-ready, sources-new, sources-stay, progress-pass, progress-live, shares-done, HasEndedPart, all-ended, plans-short, sound-ended, fronts-of, lives-of, numbers-of, won-made, left-stand, plan-best, some-move}

-- the words of a round begin with its terms
pub record Begins (terms : Terms) (workers : ℕ) (rows : RowsState) (words : RoundTerms) : Type 0 where
  pub start : words.start ≡ end_number terms.best
  pub quota : words.quota ≡ terms.quota
  pub of_words : words.workers ≡ workers
  pub of_rows : rows.workers ≡ workers
  pub cells : rows.cells ≡ terms.quota

-- workers took their seats, each with a source that has its nodes, and did their parts
pub record Ran (P : Project) (table : Table) (records : Records) (terms : Terms) (workers : ℕ) (rows : RowsState) (words : TableId) (round : RoundTerms) (frontier : List WaitingNode) (lists : List (Vec WaitingNode Global)) (before after : List Member) : Type 0 where
  pub begins : Begins terms workers rows round
  pub soon : IfSome terms.best (λ end. end ≤ 1290000)
  pub room : length table.rows ≤ 51200001
  pub some : 0 < length frontier
  pub quota : 0 < terms.quota
  pub many : length lists ≡ workers
  pub dealt : AreDealt frontier (all_dealt lists)
  pub sources : List SourceState
  pub new : AreNew P lists sources
  pub seated : AreSeated words (first_view round) 1 sources before
  pub went : AllZip (Went P records rows terms.number) before after

dealt-nodes : (P : Project) (frontier dealt : List WaitingNode) → AreDealt frontier dealt → All (λ w. StandsFor P w.node) frontier → All (λ w. StandsFor P w.node) dealt
dealt-nodes P frontier dealt d nodes =
    All-from_In (λ (w : WaitingNode). StandsFor P w.node) dealt (λ w i. In-All (λ (x : WaitingNode). StandsFor P x.node) frontier nodes w (In-from_Contains frontier w (In-All (Contains frontier) dealt d.among w i)))

-- as their sources want them
lists-stand : (P : Project) (lists : List (Vec WaitingNode Global)) → All (λ w. StandsFor P w.node) (all_dealt lists) → Each (λ list. All (λ w. StandsFor P w.node) list.items) lists
lists-stand P [] a = tt
lists-stand P (l ∷ lists) a = (front l.items a, lists-stand P lists (back l.items a))
  where
    front : (xs : List WaitingNode) → All (λ w. StandsFor P w.node) (xs ++ all_dealt lists) → All (λ w. StandsFor P w.node) xs
    front [] a = All-nil (λ (w : WaitingNode). StandsFor P w.node)
    front (x ∷ xs) a =
        All-cons (λ (w : WaitingNode). StandsFor P w.node) x xs (All-head (λ (w : WaitingNode). StandsFor P w.node) x (xs ++ all_dealt lists) a) (front xs (All-tail (λ (w : WaitingNode). StandsFor P w.node) x (xs ++ all_dealt lists) a))

    back : (xs : List WaitingNode) → All (λ w. StandsFor P w.node) (xs ++ all_dealt lists) → All (λ w. StandsFor P w.node) (all_dealt lists)
    back [] a = a
    back (x ∷ xs) a = back xs (All-tail (λ (w : WaitingNode). StandsFor P w.node) x (xs ++ all_dealt lists) a)

pub dealt-stand : (P : Project) (frontier : List WaitingNode) (lists : List (Vec WaitingNode Global)) → AreDealt frontier (all_dealt lists) → All (λ w. StandsFor P w.node) frontier → Each (λ list. All (λ w. StandsFor P w.node) list.items) lists
dealt-stand P frontier lists dealt nodes = lists-stand P lists (dealt-nodes P frontier (all_dealt lists) dealt nodes)

pub list-many : {X : Type 0} (xs : Vec X Global) → length xs.items ≡ vec_len xs
list-many xs = sym (xs.ok.0)

-- there are as many sources as lists
pub sources-many : (P : Project) (lists : List (Vec WaitingNode Global)) (sources : List SourceState) → AreNew P lists sources → length sources ≡ length lists
sources-many P lists sources new = sym (zip-length (IsNew P) lists sources new.each)

pub vec-many : (P : Project) (lists : Vec (Vec WaitingNode Global) Global) (sources : Vec SourceState Global) → AreNew P lists.items sources.items → vec_len sources ≡ vec_len lists
vec-many P lists sources new = sym (list-many sources) ∙ (sources-many P lists.items sources.items new ∙ list-many lists)

-- before they begin
pub begin-ready : (P : Project) (terms : Terms) (workers : ℕ) (rows : RowsState) (words : TableId) (round : RoundTerms) (lists : List (Vec WaitingNode Global)) (sources : List SourceState) (ms : List Member) → Begins terms workers rows round → workers ≤ 32 → length lists ≡ workers →
    AreNew P lists sources → AreSeated words (first_view round) 1 sources ms → All (IsReady P words rows) ms
begin-ready P terms workers rows words round lists sources ms b few many new seated =
    let q = b.quota in
    let c = b.cells in
    let same = sources-many P lists sources new in
    let order = new.seated in
    all-ready P rows words (first_view round) 1 sources ms seated (omega arith) (omega arith) (b.of_words ∙ sym b.of_rows) (omega arith) order.numbers (sources-new P lists sources new.each)

pub ran-passes : (P : Project) (table : Table) (records : Records) (terms : Terms) (workers : ℕ) (rows : RowsState) (words : TableId) (round : RoundTerms) (frontier : List WaitingNode) (lists : List (Vec WaitingNode Global)) (before after : List Member) →
    Ran P table records terms workers rows words round frontier lists before after → Each (IsOfTable words) after
ran-passes P table records terms workers rows words round frontier lists before after r = tables-stay P records rows terms.number words (first_view round) 1 r.sources before after r.seated r.went

ran-ended : (P : Project) (table : Table) (records : Records) (terms : Terms) (workers : ℕ) (rows : RowsState) (words : TableId) (round : RoundTerms) (frontier : List WaitingNode) (lists : List (Vec WaitingNode Global)) (before after : List Member) →
    Ran P table records terms workers rows words round frontier lists before after → Each (λ n. IsSound n → HasEndedPart P n) after
ran-ended P table records terms workers rows words round frontier lists before after r =
    all-ended P records terms rows words (first_view round) 1 r.sources before after r.seated r.went

pub ran-sources : (P : Project) (table : Table) (records : Records) (terms : Terms) (workers : ℕ) (rows : RowsState) (words : TableId) (round : RoundTerms) (frontier : List WaitingNode) (lists : List (Vec WaitingNode Global)) (before after : List Member) →
    Ran P table records terms workers rows words round frontier lists before after → seats.AreSeated (map source_of after)
ran-sources P table records terms workers rows words round frontier lists before after r =
    seated-still r.sources (map source_of after) (sources-stay P records rows terms.number words (first_view round) 1 r.sources before after r.seated r.went) r.new.seated

pub ran-plans : (P : Project) (table : Table) (records : Records) (terms : Terms) (workers : ℕ) (rows : RowsState) (words : TableId) (round : RoundTerms) (frontier : List WaitingNode) (lists : List (Vec WaitingNode Global)) (before after : List Member) →
    Ran P table records terms workers rows words round frontier lists before after → Each (λ m. IsSound m → IfSome m.worker.plan (IsShort P)) after
ran-plans P table records terms workers rows words round frontier lists before after r = plans-short P after (ran-ended P table records terms workers rows words round frontier lists before after r)

-- memory was refused to none of them, and what they did was put together, with this view of the first pass
pub record Gathered (P : Project) (table : Table) (records : Records) (terms : Terms) (workers : ℕ) (rows : RowsState) (words : TableId) (round : RoundTerms) (frontier : List WaitingNode) (lists : List (Vec WaitingNode Global))
    (before after : List Member) (whole : Whole) (view : PassView) : Type 0 where
  pub ran : Ran P table records terms workers rows words round frontier lists before after
  pub sound : Each IsSound after
  pub whole_is : IsWholeOf P (length table.rows) after whole
  pub joined : view ≡ joined_views (with_workers workers (first_view round)) after

many-after : (P : Project) (table : Table) (records : Records) (terms : Terms) (workers : ℕ) (rows : RowsState) (words : TableId) (round : RoundTerms) (frontier : List WaitingNode) (lists : List (Vec WaitingNode Global)) (before after : List Member) →
    Ran P table records terms workers rows words round frontier lists before after → length after ≡ workers
many-after P table records terms workers rows words round frontier lists before after r = workers-many P records rows terms.number words (first_view round) 1 r.sources before after r.seated r.went ∙ (sources-many P lists r.sources r.new ∙ r.many)

pub gathered-view : (P : Project) (table : Table) (records : Records) (terms : Terms) (workers : ℕ) (rows : RowsState) (words : TableId) (round : RoundTerms) (frontier : List WaitingNode) (lists : List (Vec WaitingNode Global)) (before after : List Member)
    (whole : Whole) (view : PassView) → Gathered P table records terms workers rows words round frontier lists before after whole view → StandsForAll round view
gathered-view P table records terms workers rows words round frontier lists before after whole view g =
    let r = g.ran in
    passes-joined P rows round workers (first_view round) view after refl (all-worked P records rows terms.number words (first_view round) 1 r.sources before after r.seated r.went g.sound)
    (many-after P table records terms workers rows words round frontier lists before after r) g.joined

-- as the citing of live records wants it
pub record AreCitable (rows : RowsState) (whole : Whole) : Type 0 where
  pub published : ArePublished rows whole.made.items whole.published.items
  pub cited : AreToBeCited rows whole.published.items whole.cited.items
  pub many : length whole.live.items ≡ length whole.cited.items
  pub fills : AreFills (length whole.fills.items) whole.live.items

pub gathered-citable : (P : Project) (table : Table) (records : Records) (terms : Terms) (workers : ℕ) (rows : RowsState) (words : TableId) (round : RoundTerms) (frontier : List WaitingNode) (lists : List (Vec WaitingNode Global)) (before after : List Member)
    (whole : Whole) (view : PassView) → Gathered P table records terms workers rows words round frontier lists before after whole view → SeesNoMore workers view → AreCitable rows whole
gathered-citable P table records terms workers rows words round frontier lists before after whole view g closed =
    let r = g.ran in
    let worked = all-worked P records rows terms.number words (first_view round) 1 r.sources before after r.seated r.went g.sound in
    let ended = sound-ended P after (ran-ended P table records terms workers rows words round frontier lists before after r) g.sound in
    let fills = live-fills P (length table.rows) after whole (lives-of P after ended) (numbers-of P after ended) g.whole_is in
    record {
      published = published-notes P rows (length table.rows) after whole worked (fronts-of P after ended) g.whole_is;
      cited = notes-to_cite P rows round workers (first_view round) view (length table.rows) after whole refl worked (many-after P table records terms workers rows words round frontier lists before after r) r.begins.of_rows g.whole_is g.joined closed;
      many = fills.0;
      fills = fills.1;
    }

-- The end.

abbrev result_by : List NewRow → List Fill → List WaitingNode → List PlacedRecord → ℕ → Option (List Placing) → RoundResult
result_by grown fills left made best plan = record { grown = grown; fills = fills; left = left; made = made; best = end_in best; plan = plan; used = length made }

same-result : (s t : PartState) (p q : Option (List Placing)) (best : ℕ) → s.grown ≡ t.grown → s.fills ≡ t.fills → s.left ≡ t.left → s.made ≡ t.made → p ≡ q → result_of s p best ≡ result_of t q best
same-result s t p q best a b c d e =
    ap (λ (x : List NewRow). result_by x s.fills s.left s.made best p) a ∙ (ap (λ (x : List Fill). result_by t.grown x s.left s.made best p) b ∙ (ap (λ (x : List WaitingNode). result_by t.grown t.fills x s.made best p) c
    ∙ (ap (λ (x : List PlacedRecord). result_by t.grown t.fills t.left x best p) d ∙ ap (result_by t.grown t.fills t.left t.made best) e)))

some-dealt : (frontier dealt : List WaitingNode) → AreDealt frontier dealt → 0 < length frontier → 0 < length dealt
some-dealt frontier dealt d some = let p = d.places (λ q. 1) in let a = ones frontier in let b = ones dealt in omega arith
  where
    ones : (ws : List WaitingNode) → total (λ w. 1) ws ≡ length ws
    ones [] = refl
    ones (w ∷ ws) = let ih = ones ws in omega arith

weighs-as : (f : WaitingNode → ℕ) (ws : List WaitingNode) → total f ws ≡ sum_by f ws
weighs-as f [] = refl
weighs-as f (w ∷ ws) = ap (λ (n : ℕ). f w + n) (weighs-as f ws) ∙ sym (sum_by-cons f w ws)

permuted-dealt : (ws vs : List WaitingNode) → IsPermutation ws vs → AreDealt ws vs
permuted-dealt ws vs p = record {
  places = λ h. weighs-as (λ w. h w.place) vs ∙ (sum_by-IsPermutation (λ (w : WaitingNode). h w.place) ws vs p ∙ sym (weighs-as (λ w. h w.place) ws));
  among = All-permutation (Contains ws) ws vs p (All-from_In (Contains ws) ws (λ w i. Contains-from_In ws w i));
}

-- what the closed words tell
pub record Closes (round : RoundTerms) (view : PassView) (best tickets : ℕ) : Type 0 where
  pub best_is : best ≡ least view.terms.start view.offers
  pub seen : best ≤ view.least_seen
  pub won : view.won ≡ min tickets view.terms.quota
  pub spent : 0 < view.refused → view.won ≡ view.terms.quota

least-start : (start : ℕ) (offers : List ℕ) → least start offers ≤ start
least-start start [] = omega arith
least-start start (e ∷ offers) = let ih = least-start start offers in omega arith

pub closed-best : (round : RoundTerms) (view : PassView) (best tickets : ℕ) → Closes round view best tickets → view.terms ≡ round → best ≤ round.start
closed-best round view best tickets c e =
    let l = least-start view.terms.start view.offers in
    let s = ap (λ (t : RoundTerms). t.start) e in
    let b = c.best_is in
    omega arith

-- what was dealt lies on the table
dealt-below : (table : Table) (ns : List TreeNode) (v : Verdict) (frontier dealt : List WaitingNode) → length table.rows ≤ 51200001 → AreDealt frontier dealt → (P : Project) → Stands P v table.rows ns [] (waiting_of frontier) →
    AreBelowRoom (waiting_of dealt)
dealt-below table ns v frontier dealt few d P st =
    let size = st.size in
    Each-weaker (IsAtPlace ns) (λ (w : Waiting). w.place < room) (waiting_of dealt) (λ w is. let l = node-inside ns w.place w.front is in omega arith) (in_order-each (IsAtPlace ns) frontier dealt d st.each_waiting)

pub gathered-round : (P : Project) (table : Table) (records : Records) (terms : Terms) (workers : ℕ) (rows : RowsState) (words : TableId) (round : RoundTerms) (frontier : List WaitingNode) (lists : List (Vec WaitingNode Global)) (before after : List Member)
    (whole settled : Whole) (view : PassView) (best tickets : ℕ) → Gathered P table records terms workers rows words round frontier lists before after whole view → Closes round view best tickets → Settles whole settled →
    (result : RoundResult) → EndsAs settled best result → IsRoundOn P workers table records frontier terms result
gathered-round P table records terms workers rows words round frontier lists before after whole settled view best tickets g c k result e ns stands origins records_of =
    subst (λ (x : RoundResult). IsRound P workers table ns records frontier terms x)
    (sym (e.is ∙ same-result (record (whole_state settled) { left = e.left }) (record (resolved_part s k.places) { left = e.left }) settled.plan plan best k.grown k.fills refl k.made (k.plan ∙ g.whole_is.plan)))
    (resolved-round P workers b frontier e.left at s k.places best plan (record { first = refl; last = refl }) r.dealt (part (dealt-below table ns (searching terms.best) frontier (all_dealt lists) r.room r.dealt P stands)) rows_of ordered ended
    (All-permutation (λ (w : WaitingNode). StandsFor P w.node) s.left e.left order left) ns stands origins records_of)
  where
    r : Ran P table records terms workers rows words round frontier lists before after
    r = g.ran

    b : Beginning
    b = crew_beginning table records terms (all_dealt lists) workers

    first : PassView
    first = with_workers workers (first_view round)

    at0 : Progress
    at0 = record { worker = new_worker 0; pass = first }

    at : Progress
    at = all_progress at0 after

    s : PartState
    s = whole_state whole

    plan : Option (List Placing)
    plan = best_plan P None after

    order : IsPermutation s.left e.left
    order = subst (λ (ws : List WaitingNode). IsPermutation ws e.left) k.left e.same

    ordered : AreDealt s.left e.left
    ordered = permuted-dealt s.left e.left order

    starts : List ℕ
    starts = starts_in (length table.rows) after

    joined : s ≡ record (joined_parts starts (new_part []) after) { left = s.left }
    joined = whole-joined P (length table.rows) after whole g.whole_is

    many : length after ≡ length lists
    many = workers-many P records rows terms.number words (first_view round) 1 r.sources before after r.seated r.went ∙ sources-many P lists r.sources r.new

    stay : AllZip Stays r.sources (map source_of after)
    stay = sources-stay P records rows terms.number words (first_view round) 1 r.sources before after r.seated r.went

    settled_is : IsSettled (map source_of after) g.whole_is.settled
    settled_is = g.whole_is.is_settled

    rest : List WaitingNode
    rest = g.whole_is.settled.rest

    pass : at.pass ≡ view
    pass = progress-pass at0 after ∙ sym g.joined

    all : Each (HasEndedPart P) after
    all = sound-ended P after (ran-ended P table records terms workers rows words round frontier lists before after r) g.sound

    start : round.start ≡ end_number terms.best
    start = r.begins.start

    part : AreBelowRoom (waiting_of (all_dealt lists)) → IsPart P b at s
    part below =
        let ws = crew_of lists after in
        let size = crew-many lists after many in
        let all_many = r.many in
        let rows_few = r.room in
        let e = start in
        let law : IsPart P b (crew_progress at0 ws) (crew_part (starts_from (length table.rows) ws) ws rest) =
        crew_law P b at0 ws rest r.soon (record { seen = omega arith; offers = refl; expanded = refl; live = refl }) (record { first = refl; last = omega arith; fits = omega arith })
        (shares-done P table records terms rows words (first_view round) 1 workers (all_dealt lists) lists r.sources before after r.soon start (omega arith) below r.new.each r.seated r.went g.sound) (crew-handed lists after g.whole_is.settled many settled_is) in
        subst (IsPart P b at) (crew-dealt (length table.rows) lists after rest many ∙ sym g.whole_is.lists)
        (subst (λ (x : Progress). IsPart P b x (crew_part (starts_from (length table.rows) ws) ws rest)) (crew-progress at0 lists after many) law)

    live : whole.cited.items ≡ at.worker.live
    live = g.whole_is.cited ∙ sym (progress-live at0 after)

    rows_of : AllZip (IsRowOf s.made) k.places at.worker.live
    rows_of = subst (AllZip (IsRowOf s.made) k.places) live k.rows

    terms_of : view.terms ≡ round
    terms_of = (gathered-view P table records terms workers rows words round frontier lists before after whole view g).terms_of

    won : view.won ≡ length s.made
    won = ap (λ (u : PassView). u.won) g.joined ∙ (won-made P starts first (new_part []) after all refl ∙ ap (λ (t : PartState). length t.made) (sym joined))

    moves : 0 < length s.fills + view.refused
    moves =
        let m = some-move P starts records rows terms.number words (first_view round) first 1 lists r.sources (new_part []) before after r.new.each r.seated r.went g.sound (inl (some-dealt frontier (all_dealt lists) r.dealt r.some)) in
        let a = ap (λ (t : PartState). length t.fills) joined in
        let d = ap (λ (u : PassView). u.refused) g.joined in
        omega arith

    brings : HasPlan P view.offers plan
    brings = subst (λ (u : PassView). HasPlan P u.offers plan) (sym g.joined) (plan-best P first None after all tt)

    sources : Each (IsSourceOf P) (map source_of after)
    sources = sources-still P r.sources (map source_of after) stay (sources-new P lists r.sources r.new.each)

    left : All (λ w. StandsFor P w.node) s.left
    left = subst (λ (t : PartState). All (λ (w : WaitingNode). StandsFor P w.node) t.left) (sym g.whole_is.lists) (left-stand P starts after rest sources (settled_is.nodes P sources))

    ended : HasEnded P b at s best plan
    ended =
        let e = terms_of in
        let q = ap (λ (t : RoundTerms). t.quota) e in
        let z = ap (λ (t : RoundTerms). t.start) e in
        let y = r.begins.quota in
        let cw = c.won in
        subst (λ (u : PassView). HasEnded P b (record { worker = at.worker; pass = u }) s best plan) (sym pass) (record {
          soon = r.soon;
          moves = moves;
          won = won;
          few = omega arith;
          spent = λ x. let w = c.spent x in omega arith;
          some = r.quota;
          best_is = c.best_is ∙ ap (λ (n : ℕ). least n view.offers) (z ∙ start);
          seen = c.seen;
          brings = brings;
        })
