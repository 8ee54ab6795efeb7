-- What the workers of a round published and cited live, once all have ended.
use Rattle.std.proofs.Common.{◌≡◌, ℕ, zero, suc, ◌+◌, ◌-◌, ◌<◌, ◌≤◌, ◌≢◌, ◌==◌, true, inl, inr, refl, sym, ap, subst, ◌∙◌, arith, List, [], ◌∷◌, ◌++◌, length, length-append, map, All, Option, Some, None, IsSome}
use Rattle.std.specs.Prelude.{slice_get, if◌then◌else◌}
use Rattle.std.specs.List.{AllZip}
use Rattle.std.proofs.lemmas.Bool.Decides.{nat_tests}
use Rattle.std.proofs.lemmas.List.{length-map}
use Rattle.std.proofs.lemmas.List.Elements.{All-append, All-map, All-nil, All-weaker}
use Rattle.atomic_table.specs.Seated.{TableId}
use Rattle.rcpsp_model.specs.Project.{Project, numbers_from}
use Rattle.rcpsp_model.specs.declared.parts.Entry.{Entry}
use Rattle.rcpsp_model.proofs.Lists.{In}
use Rattle.precedence_tree.specs.declared.base.Base.{Base}
use Rattle.cutset_store.specs.Index.{fronts_of}
use Rattle.search_log.specs.Weights.{Each}
use Rattle.search_rounds.specs.declared.round.PlacedRecord.{PlacedRecord}
use Rattle.search_rounds.specs.declared.round.Records.{Records}
use Rattle.search_table.specs.declared.view.PassView.{PassView}
use Rattle.search_table.specs.declared.view.RoundTerms.{RoundTerms}
use Rattle.search_table.specs.Counts.{seen_of, made_by, sum_of}
use Rattle.search_table.specs.Views.{first_view, joint_view}
use Rattle.search_table.proofs.CountSums.{if-apart, if-le, made_by-joint_view, seen_of-joint_view}
use Rattle.shared_rows.specs.Rows.{RowsState, IsNoteOf}
use Rattle.tree_worker.specs.declared.live.LiveNote.{LiveNote}
use Rattle.tree_worker.specs.Live.{IsLiveNote}
use Rattle.tree_worker.specs.Worker.{IsAtWork}
use Rattle.node_sources.specs.Source.{SourceState}
use Rattle.steal_rounds.specs.declared.member.Member.{Member}
use Rattle.steal_rounds.specs.declared.gathering.Shown.{Shown}
use Rattle.steal_rounds.specs.declared.gathering.Published.{Published}
use Rattle.steal_rounds.specs.declared.gathering.Whole.{Whole}
use Rattle.round_shares.specs.Part.{PartState}
use Rattle.round_shares.specs.Crew.{real_fill, real_record}
use Rattle.steal_rounds.specs.Lists.{part_state, new_part}
use Rattle.steal_rounds.specs.Members.{progress_of, with_workers, IsSeated, AreSeated, Went}
use Rattle.steal_rounds.specs.Whole.{IsOfTable, IsSound, joined_part, joined_views, all_cited, by_worker, IsPublishedBy, ArePublishedBy, IsWholeOf}
use Rattle.steal_rounds.specs.Cited.{IsShown, IsPublished, ArePublished, IsToBeCited, AreToBeCited, AreFills}
use Rattle.steal_rounds.proofs.JoinedMembers.{joined_parts, starts_in, whole-joined}
use Rattle.round_shares.proofs.ListPlaces.{get-inside, get-left, get-right, get-map, map-get}

-- The workers.

-- the worker was at work to the end, and its pass stands for it alone, under this number
pub record HasWorked (P : Project) (rows : RowsState) (number : ℕ) (m : Member) : Type 0 where
  pub pass_number : m.pass.view.number ≡ number
  pub passes : m.pass.view.passes ≡ 1
  pub alone : m.pass.view.joined_counts ≡ []
  pub work : IsAtWork P rows (progress_of m)

-- the workers of these numbers, from the first on
abbrev pub HaveWorked : Project → RowsState → ℕ → List Member → Type 0
HaveWorked P rows number [] = Unit {0}
HaveWorked P rows number (m ∷ ms) = HasWorked P rows number m × HaveWorked P rows (number + 1) ms

pub all-worked : (P : Project) (records : Records) (rows : RowsState) (round : ℕ) (table : TableId) (v : PassView) (number : ℕ) (ss : List SourceState) (before after : List Member) →
    AreSeated table v number ss before → AllZip (Went P records rows round) before after → Each IsSound after → HaveWorked P rows number after
all-worked P records rows round table v number [] [] [] s z a = tt
all-worked P records rows round table v number [] [] (m ∷ ms) s z a = absurd z
all-worked P records rows round table v number [] (b ∷ bs) after s z a = absurd s
all-worked P records rows round table v number (d ∷ ds) [] after s z a = absurd s
all-worked P records rows round table v number (d ∷ ds) (b ∷ bs) [] s z a = absurd z
all-worked P records rows round table v number (d ∷ ds) (b ∷ bs) (m ∷ ms) s z a = (worked s.0 z.0 a.0, all-worked P records rows round table v (number + 1) ds bs ms s.1 z.1 a.1)
  where
    worked : IsSeated table v number d b → Went P records rows round b m → IsSound m → HasWorked P rows number m
    worked seated went sound = record {
      pass_number = went.stays.number ∙ ap (λ (w : PassView). w.number) seated.pass;
      passes = went.stays.passes ∙ ap (λ (w : PassView). w.passes) seated.pass;
      alone = went.stays.joined_counts ∙ ap (λ (w : PassView). w.joined_counts) seated.pass;
      work = (went.done sound).work;
    }

-- each pass stays one of the table, whether or not memory was refused
pub tables-stay : (P : Project) (records : Records) (rows : RowsState) (round : ℕ) (table : TableId) (v : PassView) (number : ℕ) (ss : List SourceState) (before after : List Member) →
    AreSeated table v number ss before → AllZip (Went P records rows round) before after → Each (IsOfTable table) after
tables-stay P records rows round table v number [] [] [] s z = tt
tables-stay P records rows round table v number [] [] (m ∷ ms) s z = absurd z
tables-stay P records rows round table v number [] (b ∷ bs) after s z = absurd s
tables-stay P records rows round table v number (d ∷ ds) [] after s z = absurd s
tables-stay P records rows round table v number (d ∷ ds) (b ∷ bs) [] s z = absurd z
tables-stay P records rows round table v number (d ∷ ds) (b ∷ bs) (m ∷ ms) s z =
    (let went = z.0 in let seated = s.0 in went.pass_table ∙ seated.pass_table, tables-stay P records rows round table v (number + 1) ds bs ms s.1 z.1)

-- there are as many workers as sources of nodes
pub workers-many : (P : Project) (records : Records) (rows : RowsState) (round : ℕ) (table : TableId) (v : PassView) (number : ℕ) (ss : List SourceState) (before after : List Member) →
    AreSeated table v number ss before → AllZip (Went P records rows round) before after → length after ≡ length ss
workers-many P records rows round table v number [] [] [] s z = refl
workers-many P records rows round table v number [] [] (m ∷ ms) s z = absurd z
workers-many P records rows round table v number [] (b ∷ bs) after s z = absurd s
workers-many P records rows round table v number (d ∷ ds) [] after s z = absurd s
workers-many P records rows round table v number (d ∷ ds) (b ∷ bs) [] s z = absurd z
workers-many P records rows round table v number (d ∷ ds) (b ∷ bs) (m ∷ ms) s z = ap suc (workers-many P records rows round table v (number + 1) ds bs ms s.1 z.1)

worked-at : (P : Project) (rows : RowsState) (number : ℕ) (ms : List Member) (k : ℕ) (m : Member) → HaveWorked P rows number ms → slice_get ms k ≡ Some m → HasWorked P rows (number + k) m
worked-at P rows number [] k m h e = absurd cc
worked-at P rows number (n ∷ ms) zero m h e =
    let same : n ≡ m = cc in
    let here : number ≡ number + 0 = omega arith in
    subst (λ (i : ℕ). HasWorked P rows i m) here (subst (HasWorked P rows number) same h.0)
worked-at P rows number (n ∷ ms) (suc k) m h e =
    let here : number + 1 + k ≡ number + suc k = omega arith in
    subst (λ (i : ℕ). HasWorked P rows i m) here (worked-at P rows (number + 1) ms k m h.1 e)

live-in : (P : Project) (rows : RowsState) (number : ℕ) (ms : List Member) (m : Member) → HaveWorked P rows number ms → In ms m → All (IsLiveNote rows m.pass.view) m.worker.live
live-in P rows number [] m h i = absurd i
live-in P rows number (n ∷ ms) m h (inl e) = subst (λ (x : Member). All (IsLiveNote rows x.pass.view) x.worker.live) e (let own = h.0 in own.work.live)
live-in P rows number (n ∷ ms) m h (inr i) = live-in P rows (number + 1) ms m h.1 i

-- The joined pass.

-- the pass with the view u stands for the first one of the terms and for all that were split off it
pub record StandsForAll (terms : RoundTerms) (u : PassView) : Type 0 where
  pub number : u.number ≡ 0
  pub all : u.passes ≡ 1 + length u.split_off
  pub terms_of : u.terms ≡ terms

joined-number : (w : PassView) (ms : List Member) → (joined_views w ms).number ≡ w.number
joined-number w [] = refl
joined-number w (m ∷ ms) = joined-number (joint_view w m.pass.view) ms

joined-terms : (w : PassView) (ms : List Member) → (joined_views w ms).terms ≡ w.terms
joined-terms w [] = refl
joined-terms w (m ∷ ms) = joined-terms (joint_view w m.pass.view) ms

joined-split_off : (w : PassView) (ms : List Member) → (joined_views w ms).split_off ≡ w.split_off
joined-split_off w [] = refl
joined-split_off w (m ∷ ms) = joined-split_off (joint_view w m.pass.view) ms

joined-passes : (P : Project) (rows : RowsState) (number : ℕ) (w : PassView) (ms : List Member) → HaveWorked P rows number ms → (joined_views w ms).passes ≡ w.passes + length ms
joined-passes P rows number w [] h = omega arith
joined-passes P rows number w (m ∷ ms) h =
    let ih = joined-passes P rows (number + 1) (joint_view w m.pass.view) ms h.1 in
    let own = h.0 in
    let one = own.passes in
    omega arith

numbers-many : (i n : ℕ) → length (numbers_from i n) ≡ n
numbers-many i zero = refl
numbers-many i (suc n) = ap suc (numbers-many (i + 1) n)

pub passes-joined : (P : Project) (rows : RowsState) (terms : RoundTerms) (workers : ℕ) (v u : PassView) (after : List Member) → v ≡ first_view terms → HaveWorked P rows 1 after → length after ≡ workers →
    u ≡ joined_views (with_workers workers v) after → StandsForAll terms u
passes-joined P rows terms workers v u after first worked many is =
    let w = with_workers workers v in
    let ended = joined_views w after in
    let none = ap (λ (x : PassView). x.number) first in
    let of_round = ap (λ (x : PassView). x.terms) first in
    let one : v.passes ≡ 1 = ap (λ (x : PassView). x.passes) first in
    let passes = joined-passes P rows 1 w after worked in
    let split_off : length ended.split_off ≡ workers = ap (λ (ns : List ℕ). length ns) (joined-split_off w after) ∙ numbers-many 1 workers in
    let all : ended.passes ≡ 1 + length ended.split_off = omega arith in
    subst (StandsForAll terms) (sym is) (record { number = joined-number w after ∙ none; all = all; terms_of = joined-terms w after ∙ of_round })

-- what a worker's pass had seen published, the joined pass has
seen-before : (worker : ℕ) (w : PassView) (ms : List Member) → seen_of worker w ≤ seen_of worker (joined_views w ms)
seen-before worker w [] = omega arith
seen-before worker w (m ∷ ms) = let ih = seen-before worker (joint_view w m.pass.view) ms in let a = seen_of-joint_view worker w m.pass.view in omega arith

seen-by : (worker : ℕ) (w : PassView) (ms : List Member) (m : Member) → In ms m → seen_of worker m.pass.view ≤ seen_of worker (joined_views w ms)
seen-by worker w [] m i = absurd i
seen-by worker w (n ∷ ms) m (inl e) =
    let later = seen-before worker (joint_view w n.pass.view) ms in
    let a = seen_of-joint_view worker w n.pass.view in
    let same = ap (λ (x : Member). seen_of worker x.pass.view) e in
    omega arith
seen-by worker w (n ∷ ms) m (inr i) = seen-by worker (joint_view w n.pass.view) ms m i

-- a pass that stands for no other has published under its own number alone
counts-own : (worker : ℕ) (v : PassView) → v.joined_counts ≡ [] → v.number ≡ worker → made_by worker v ≡ v.own
counts-own worker v alone e =
    let same : (v.number == worker) ≡ true = grind (arith, nat_tests) in
    let own = ap (λ b. if b then v.own else 0) same in
    let none = ap (sum_of worker) alone in
    omega arith

counts-none : (worker : ℕ) (v : PassView) → v.joined_counts ≡ [] → v.number ≢ worker → made_by worker v ≡ 0
counts-none worker v alone n =
    let own = if-apart v.number worker v.own n in
    let none = ap (sum_of worker) alone in
    omega arith

-- nobody of a higher number published for the worker
made-past : (P : Project) (rows : RowsState) (number worker : ℕ) (w : PassView) (ms : List Member) → HaveWorked P rows number ms → worker < number → made_by worker (joined_views w ms) ≡ made_by worker w
made-past P rows number worker w [] h l = refl
made-past P rows number worker w (m ∷ ms) h l =
    let own = h.0 in
    let is = own.pass_number in
    let ih = made-past P rows (number + 1) worker (joint_view w m.pass.view) ms h.1 (omega arith) in
    let both = made_by-joint_view worker w m.pass.view in
    let none = counts-none worker m.pass.view own.alone (λ e. omega arith) in
    omega arith

made-one : (P : Project) (rows : RowsState) (number worker k : ℕ) (w : PassView) (ms : List Member) (m : Member) → HaveWorked P rows number ms → slice_get ms k ≡ Some m → worker ≡ number + k →
    made_by worker (joined_views w ms) ≡ made_by worker w + m.pass.view.own
made-one P rows number worker k w [] m h e at = absurd cc
made-one P rows number worker zero w (n ∷ ms) m h e at =
    let same : n ≡ m = cc in
    let own = h.0 in
    let is = own.pass_number in
    let later = made-past P rows (number + 1) worker (joint_view w n.pass.view) ms h.1 (omega arith) in
    let both = made_by-joint_view worker w n.pass.view in
    let count = counts-own worker n.pass.view own.alone (omega arith) in
    let counted = ap (λ (x : Member). x.pass.view.own) same in
    omega arith
made-one P rows number worker (suc k) w (n ∷ ms) m h e at =
    let own = h.0 in
    let is = own.pass_number in
    let ih = made-one P rows (number + 1) worker k (joint_view w n.pass.view) ms m h.1 e (omega arith) in
    let both = made_by-joint_view worker w n.pass.view in
    let none = counts-none worker n.pass.view own.alone (λ s. omega arith) in
    omega arith

-- What was published.

get-some : {X : Type 0} (xs : List X) (i : ℕ) → i < length xs → (x : X) × (slice_get xs i ≡ Some x)
get-some [] i l = absurd (omega arith)
get-some (x ∷ xs) zero l = (x, refl)
get-some (x ∷ xs) (suc i) l = get-some xs i (omega arith)

-- a record of one worker has its front among the records of all
made-stays : (starts : List ℕ) (s : PartState) (ms : List Member) (i : ℕ) (r : PlacedRecord) → slice_get s.made i ≡ Some r → slice_get (joined_parts starts s ms).made i ≡ Some r
made-stays starts s [] i r e = e
made-stays starts s (m ∷ ms) i r e =
    let t = part_state m.part in
    made-stays starts (joined_part starts s t) ms i r (get-left s.made (map (real_record starts) t.made) i (get-inside s.made i r e) ∙ e)

record IsMadeAt (made : List PlacedRecord) (number : ℕ) (base : Base) : Type 0 where
  pub made_record : PlacedRecord
  pub is_at : slice_get made number ≡ Some made_record
  pub front : made_record.known.front ≡ base.front

front-made : (made : List PlacedRecord) (bases : List Base) (i : ℕ) (base : Base) → map (λ (r : PlacedRecord). r.known.front) made ≡ fronts_of bases → slice_get bases i ≡ Some base → IsMadeAt made i base
front-made made bases i base fronts e =
    let r = map-get (λ (r : PlacedRecord). r.known.front) made i base.front (ap (λ (fs : List (List Entry)). slice_get fs i) fronts ∙ get-map (λ (b : Base). b.front) bases i base e) in
    record { made_record = r.0; is_at = r.1; front = r.2 }

made-joined : (starts : List ℕ) (s : PartState) (m : Member) (ms : List Member) (i : ℕ) (base : Base) → IsMadeAt m.part.made.items i base → IsMadeAt (joined_parts starts s (m ∷ ms)).made (length s.made + i) base
made-joined starts s m ms i base is =
    let t = part_state m.part in
    let move = real_record starts in
    record {
      made_record = move is.made_record;
      is_at = made-stays starts (joined_part starts s t) ms (length s.made + i) (move is.made_record) (get-right s.made (map move t.made) i ∙ get-map move t.made i is.made_record is.is_at);
      front = is.front;
    }

-- the fronts of the records of a worker are those that it expanded
abbrev pub HasFronts : Member → Type 0
HasFronts m = map (λ r. r.known.front) m.part.made.items ≡ fronts_of m.worker.expanded

-- what one worker published, behind the records s of those before it
published-first : (P : Project) (rows : RowsState) (number : ℕ) (starts : List ℕ) (s : PartState) (m : Member) (ms : List Member) (p : Published) → HasWorked P rows number m → HasFronts m →
    IsPublishedBy (length s.made) m p → IsPublished rows (joined_parts starts s (m ∷ ms)).made number p
published-first P rows number starts s m ms p worked fronts by = record { each = each }
  where
    each : (place : ℕ) (x : Shown) → slice_get p.shown.items place ≡ Some x → IsShown rows (joined_parts starts s (m ∷ ms)).made number place (p.first + place) x.note
    each place x e =
        let own = map-get (by_worker m.pass.view.number) m.worker.notes place x (ap (λ (xs : List Shown). slice_get xs place) (sym by.shown) ∙ e) in
        let note = own.0 in
        let same : note ≡ x.note = ap (λ (y : Shown). y.note) own.2 in
        let is = worked.work.notes place note own.1 in
        let inside = get-inside m.worker.notes place note own.1 in
        let few = worked.work.within in
        let base = get-some m.worker.expanded place (omega arith) in
        let made = made-joined starts s m ms place base.0 (front-made m.part.made.items m.worker.expanded place base.0 fronts base.1) in
        let number_is : length s.made + place ≡ p.first + place = ap (λ (k : ℕ). k + place) (sym by.first) in
        let cell : IsNoteOf rows number place note = subst (λ (k : ℕ). IsNoteOf rows k place note) worked.pass_number is.cell in
        let known : note.known ≡ Some base.0 = is.known ∙ base.1 in
        let shown : IsShown rows (joined_parts starts s (m ∷ ms)).made number place (length s.made + place) note = record {
          cell = cell;
          made_record = made.made_record;
          is_at = made.is_at;
          base = base.0;
          known = known;
          front = made.front;
        } in
        subst (λ (k : ℕ). IsShown rows (joined_parts starts s (m ∷ ms)).made number place k x.note) number_is
        (subst (IsShown rows (joined_parts starts s (m ∷ ms)).made number place (length s.made + place)) same shown)

published-from : (P : Project) (rows : RowsState) (number : ℕ) (starts : List ℕ) (s : PartState) (ms : List Member) (ps : List Published) → HaveWorked P rows number ms → Each HasFronts ms →
    ArePublishedBy (length s.made) ms ps → (k : ℕ) (p : Published) → slice_get ps k ≡ Some p → IsPublished rows (joined_parts starts s ms).made (number + k) p
published-from P rows number starts s [] [] h f a k p e = absurd cc
published-from P rows number starts s [] (q ∷ ps) h f a k p e = absurd a
published-from P rows number starts s (m ∷ ms) [] h f a k p e = absurd a
published-from P rows number starts s (m ∷ ms) (q ∷ ps) h f a zero p e =
    let same : q ≡ p = cc in
    let here : number ≡ number + 0 = omega arith in
    subst (λ (i : ℕ). IsPublished rows (joined_parts starts s (m ∷ ms)).made i p) here
    (subst (IsPublished rows (joined_parts starts s (m ∷ ms)).made number) same (published-first P rows number starts s m ms q h.0 f.0 a.0))
published-from P rows number starts s (m ∷ ms) (q ∷ ps) h f a (suc k) p e =
    let t = part_state m.part in
    let move = real_record starts in
    let here : number + 1 + k ≡ number + suc k = omega arith in
    let many : length s.made + length m.part.made.items ≡ length (s.made ++ map move t.made) = let l = length-append s.made (map move t.made) in let n = length-map t.made move in omega arith in
    subst (λ (i : ℕ). IsPublished rows (joined_parts starts s (m ∷ ms)).made i p) here
    (published-from P rows (number + 1) starts (joined_part starts s t) ms ps h.1 f.1 (subst (λ (n : ℕ). ArePublishedBy n ms ps) many a.1) k p e)

pub published-notes : (P : Project) (rows : RowsState) (table : ℕ) (after : List Member) (whole : Whole) → HaveWorked P rows 1 after → Each HasFronts after → IsWholeOf P table after whole →
    ArePublished rows whole.made.items whole.published.items
published-notes P rows table after whole worked fronts is k p e =
    let here : 1 + k ≡ k + 1 = omega arith in
    let starts = starts_in table after in
    let made : (joined_parts starts (new_part []) after).made ≡ whole.made.items = ap (λ (s : PartState). s.made) (sym (whole-joined P table after whole is)) in
    subst (λ (i : ℕ). IsPublished rows whole.made.items i p) here
    (subst (λ (rs : List PlacedRecord). IsPublished rows rs (1 + k) p) made (published-from P rows 1 starts (new_part []) after whole.published.items worked fronts is.published k p e))

-- What is cited.

record PublishesAt (ms : List Member) (ps : List Published) (k : ℕ) : Type 0 where
  pub member : Member
  pub is_at : slice_get ms k ≡ Some member
  pub by : Published
  pub by_at : slice_get ps k ≡ Some by
  pub first : ℕ
  pub is : IsPublishedBy first member by

publishes-at : (made : ℕ) (ms : List Member) (ps : List Published) (k : ℕ) → k < length ms → ArePublishedBy made ms ps → PublishesAt ms ps k
publishes-at made [] ps k l a = absurd (omega arith)
publishes-at made (m ∷ ms) [] k l a = absurd a
publishes-at made (m ∷ ms) (p ∷ ps) zero l a = record { member = m; is_at = refl; by = p; by_at = refl; first = made; is = a.0 }
publishes-at made (m ∷ ms) (p ∷ ps) (suc k) l a =
    let r = publishes-at (made + length m.part.made.items) ms ps k (omega arith) a.1 in
    record { member = r.member; is_at = r.is_at; by = r.by; by_at = r.by_at; first = r.first; is = r.is }

some-of : {X : Type 0} (o : Option X) → IsSome o → (x : X) × (o ≡ Some x)
some-of None s = absurd cc
some-of (Some x) s = (x, refl)

-- no more was seen of a worker than it published, of those up to this number
abbrev pub SeesNoMore : ℕ → PassView → Type 0
SeesNoMore workers u = (worker : ℕ) → 1 ≤ worker → worker ≤ workers → seen_of worker u ≤ made_by worker u

note-to_cite : (P : Project) (rows : RowsState) (terms : RoundTerms) (workers : ℕ) (v u : PassView) (after : List Member) (ps : List Published) → v ≡ first_view terms → HaveWorked P rows 1 after → length after ≡ workers → rows.workers ≡ workers →
    ArePublishedBy 0 after ps → u ≡ joined_views (with_workers workers v) after → SeesNoMore workers u → (m : Member) → In after m → (l : LiveNote) → IsLiveNote rows m.pass.view l → IsToBeCited rows ps l
note-to_cite P rows terms workers v u after ps first worked many all published is closed m i l note =
    let other = note.of_other in
    let low = other.low in
    let high = other.high in
    let k = l.worker - 1 in
    let p = publishes-at 0 after ps k (omega arith) published in
    let place : l.worker ≡ 1 + k = omega arith in
    let of = worked-at P rows 1 after k p.member worked p.is_at in
    let w = with_workers workers v in
    let seen = seen-by l.worker w after m i in
    let no_more = subst (λ (x : PassView). seen_of l.worker x ≤ made_by l.worker x) is (closed l.worker low (omega arith)) in
    let made = made-one P rows 1 l.worker k w after p.member worked p.is_at place in
    let nothing : made_by l.worker w ≡ 0 = subst (λ (x : PassView). made_by l.worker (with_workers workers x) ≡ 0) (sym first) (none l.worker) in
    let own = of.work.published in
    let shown : length p.by.shown.items ≡ length p.member.worker.notes = ap (λ (xs : List Shown). length xs) p.is.shown ∙ length-map p.member.worker.notes (by_worker p.member.pass.view.number) in
    let below = note.published in
    let base = some-of l.note.known other.known in
    record { some = low; by = p.by; worker = p.by_at; within = omega arith; cell = other.cell; base = base.0; known = base.1 }
  where
    none : (worker : ℕ) → made_by worker (with_workers workers (first_view terms)) ≡ 0
    none worker = let a = if-le (0 == worker) 0 in omega arith

cited-all : (Q : LiveNote → Type 0) (ms : List Member) → ((m : Member) → In ms m → All Q m.worker.live) → All Q (all_cited ms)
cited-all Q [] f = All-nil Q
cited-all Q (m ∷ ms) f = All-append Q m.worker.live (all_cited ms) (f m (inl refl)) (cited-all Q ms (λ n i. f n (inr i)))

pub notes-to_cite : (P : Project) (rows : RowsState) (terms : RoundTerms) (workers : ℕ) (v u : PassView) (table : ℕ) (after : List Member) (whole : Whole) → v ≡ first_view terms → HaveWorked P rows 1 after →
    length after ≡ workers → rows.workers ≡ workers → IsWholeOf P table after whole → u ≡ joined_views (with_workers workers v) after → SeesNoMore workers u → AreToBeCited rows whole.published.items whole.cited.items
notes-to_cite P rows terms workers v u table after whole first worked many all is joined closed =
    let Q = IsToBeCited rows whole.published.items in
    subst (All Q) (sym is.cited) (cited-all Q after (λ m i.
    All-weaker (IsLiveNote rows m.pass.view) Q (λ l n. note-to_cite P rows terms workers v u after whole.published.items first worked many all is.published joined closed m i l n) m.worker.live
    (live-in P rows 1 after m worked i)))

-- The fills that cite live records.

-- the worker has a number of a fill for each live record that it cites
abbrev pub HasLive : Member → Type 0
HasLive m = length m.part.live.items ≡ length m.worker.live

-- these are numbers of its fills
abbrev pub HasFills : Member → Type 0
HasFills m = AreFills (length m.part.fills.items) m.part.live.items

live-many : (starts : List ℕ) (s : PartState) (ms : List Member) → Each HasLive ms → length (joined_parts starts s ms).live ≡ length s.live + length (all_cited ms)
live-many starts s [] h = omega arith
live-many starts s (m ∷ ms) h =
    let t = part_state m.part in
    let own = h.0 in
    let ih = live-many starts (joined_part starts s t) ms h.1 in
    let a = length-append s.live (map (λ i. length s.fills + i) t.live) in
    let b = length-map t.live (λ i. length s.fills + i) in
    let c = length-append m.worker.live (all_cited ms) in
    omega arith

fills-behind : (n m k : ℕ) (xs ys : List ℕ) → k ≡ n + m → AreFills n xs → AreFills m ys → AreFills k (xs ++ map (λ i. n + i) ys)
fills-behind n m k xs ys e a b =
    All-append (λ i. i < k) xs (map (λ i. n + i) ys) (All-weaker (λ i. i < n) (λ i. i < k) (λ i l. omega arith) xs a)
    (All-map (λ i. i < k) (λ i. n + i) ys (All-weaker (λ i. i < m) (λ i. n + i < k) (λ i l. omega arith) ys b))

fills-joined : (starts : List ℕ) (s : PartState) (ms : List Member) → Each HasFills ms → AreFills (length s.fills) s.live → AreFills (length (joined_parts starts s ms).fills) (joined_parts starts s ms).live
fills-joined starts s [] h a = a
fills-joined starts s (m ∷ ms) h a =
    let t = part_state m.part in
    let move = real_fill starts in
    let many : length (s.fills ++ map move t.fills) ≡ length s.fills + length t.fills = length-append s.fills (map move t.fills) ∙ ap (λ n. length s.fills + n) (length-map t.fills move) in
    fills-joined starts (joined_part starts s t) ms h.1 (fills-behind (length s.fills) (length t.fills) (length (s.fills ++ map move t.fills)) s.live t.live many a h.0)

pub live-fills : (P : Project) (table : ℕ) (after : List Member) (whole : Whole) → Each HasLive after → Each HasFills after → IsWholeOf P table after whole →
    (length whole.live.items ≡ length whole.cited.items) × AreFills (length whole.fills.items) whole.live.items
live-fills P table after whole live fills is =
    let starts = starts_in table after in
    let joined = whole-joined P table after whole is in
    let lists : length whole.live.items ≡ length (joined_parts starts (new_part []) after).live = ap (λ (s : PartState). length s.live) joined in
    let cited : length whole.cited.items ≡ length (all_cited after) = ap (λ (ls : List LiveNote). length ls) is.cited in
    let many = live-many starts (new_part []) after live in
    let within = fills-joined starts (new_part []) after fills (All-nil (λ i. i < 0)) in
    (omega arith, subst (λ (s : PartState). AreFills (length s.fills) s.live) (sym joined) within)
