-- The parts of all workers, as they come out of a round.
use Rattle.std.proofs.Common.{◌≡◌, ℕ, ◌+◌, ◌<◌, ◌≤◌, ◌⊎◌, inl, inr, refl, sym, ap, subst, ◌∙◌, arith, List, [], ◌∷◌, ◌++◌, length, length-append, append_assoc, append-nil, map, All, Option, Some, None, Global}
use Rattle.std.specs.declared.vec.Vec.{Vec}
use Rattle.std.specs.Prelude.{IfSome}
use Rattle.std.specs.List.{AllZip}
use Rattle.std.proofs.lemmas.List.{length-map}
use Rattle.std.proofs.lemmas.List.Elements.{All-nil, All-cons, All-head, All-tail, All-append}
use Rattle.atomic_table.specs.Seated.{TableId}
use Rattle.rcpsp_model.specs.declared.parts.Placing.{Placing}
use Rattle.rcpsp_model.specs.Project.{Project}
use Rattle.precedence_tree.specs.Node.{StandsFor}
use Rattle.search_log.specs.Weights.{Each}
use Rattle.search_log.specs.Stands.{Waiting}
use Rattle.search_log.specs.Lean.{end_number}
use Rattle.search_log.specs.declared.table.Table.{Table}
use Rattle.search_log.proofs.Sums.{Each-left, Each-right}
use Rattle.search_rounds.specs.declared.round.WaitingNode.{WaitingNode}
use Rattle.search_rounds.specs.declared.round.Records.{Records}
use Rattle.search_rounds.specs.declared.round.Terms.{Terms}
use Rattle.search_rounds.specs.Round.{waiting_of}
use Rattle.search_table.specs.declared.view.PassView.{PassView}
use Rattle.search_table.specs.Lists.{least}
use Rattle.search_table.specs.Views.{joint_view}
use Rattle.shared_rows.specs.Rows.{RowsState}
use Rattle.tree_worker.specs.Worker.{WorkerState, Progress, HasPlan, new_worker, IsReadyFor, IsAtWork}
use Rattle.tree_worker.proofs.WorkSteps.{at_work-new}
use Rattle.steal_rounds.specs.declared.member.Member.{Member}
use Rattle.round_shares.specs.Part.{Beginning, PartState}
use Rattle.round_shares.specs.Share.{room, Handled, IsShare}
use Rattle.node_sources.specs.Source.{SourceState, IsSourceOf}
use Rattle.node_sources.specs.Seats.{seat_of, Stays, AreNumberedFrom}
use Rattle.node_sources.specs.Settled.{IsNew}
use Rattle.steal_rounds.specs.Lists.{part_state, new_part}
use Rattle.steal_rounds.specs.Sources.{handled_by}
use Rattle.steal_rounds.specs.Turns.{beginning, Counts}
use Rattle.round_shares.specs.Crew.{HasShare, HaveShares, real_fill, real_record, real_waiting, all_left, joined_progress}
use Rattle.steal_rounds.specs.Dealt.{all_dealt}
use Rattle.steal_rounds.specs.Members.{progress_of, IsSeated, AreSeated, IsReady, IsDone, Went}
use Rattle.steal_rounds.specs.Whole.{IsShort, IsSound, worked, source_of, joined_part, better_plan, joined_views, all_cited, best_plan}
use Rattle.steal_rounds.proofs.BegunShares.{AreBelowRoom, dealt_to, handled-new, begin-share}
use Rattle.round_shares.proofs.CrewNodes.{waiting-append}
use Rattle.steal_rounds.proofs.JoinedMembers.{joined_parts, crew_of, all_progress}
use Rattle.steal_rounds.proofs.PlanEnds.{plans_law}
use Rattle.steal_rounds.proofs.CitedNotes.{HasFronts, HasLive, HasFills}

-- At the start.

-- a worker that has taken its seat may begin
pub seated-ready : (P : Project) (rows : RowsState) (words : TableId) (v : PassView) (number : ℕ) (s : SourceState) (m : Member) → IsSeated words v number s m → IsReadyFor rows number v → number ≤ 32 → s.number ≡ number → IsSourceOf P s →
    IsReady P words rows m
seated-ready P rows words v number s m seated ready few own source =
    let work = at_work-new P rows number v ready in
    let part = seated.part in
    let number_is : m.pass.view.number ≡ number = ap (λ (u : PassView). u.number) seated.pass in
    record {
      table = seated.pass_table;
      work = subst (λ (w : WorkerState). IsAtWork P rows (record { worker = w; pass = m.pass.view })) (sym seated.worker) (subst (λ (u : PassView). IsAtWork P rows (record { worker = new_worker number; pass = u })) (sym seated.pass) work);
      unrefused = ap (λ (u : PassView). u.refused) seated.pass;
      source = subst (IsSourceOf P) (sym seated.source) source;
      own = ap (λ (t : SourceState). t.number) seated.source ∙ (own ∙ sym number_is);
      number = omega arith;
      fresh = ap (λ (t : PartState). t.fills) part;
      counts = subst (λ (t : PartState). Counts (record { at = record { worker = m.worker; pass = m.pass.view }; part = t; source = m.part.source })) (sym part)
          (subst (λ (w : WorkerState). Counts (record { at = record { worker = w; pass = m.pass.view }; part = new_part s.list; source = m.part.source })) (sym seated.worker)
          (subst (λ (u : PassView). Counts (record { at = record { worker = new_worker number; pass = u }; part = new_part s.list; source = m.part.source })) (sym seated.pass)
          (record { grown = omega arith; fronts = refl; made = refl; won = refl; live = refl; numbers = All-nil (λ (i : ℕ). i < 0); soon = All-nil (λ (e : ℕ). e ≤ 1290000) })));
    }

pub all-ready : (P : Project) (rows : RowsState) (words : TableId) (v : PassView) (number : ℕ) (ss : List SourceState) (ms : List Member) → AreSeated words v number ss ms → 1 ≤ number → number + length ss ≤ 33 → v.terms.workers ≡ rows.workers →
    v.terms.quota ≤ rows.cells → AreNumberedFrom number (map seat_of ss) → Each (IsSourceOf P) ss → All (IsReady P words rows) ms
all-ready P rows words v number [] [] s some few workers room numbers sources = All-nil (IsReady P words rows)
all-ready P rows words v number [] (m ∷ ms) s some few workers room numbers sources = absurd s
all-ready P rows words v number (t ∷ ss) [] s some few workers room numbers sources = absurd s
all-ready P rows words v number (t ∷ ss) (m ∷ ms) s some few workers room numbers sources =
    All-cons (IsReady P words rows) m ms (seated-ready P rows words v number t m s.0 (record { some = some; workers = workers; room = room }) (omega arith) numbers.0 sources.0)
    (all-ready P rows words v (number + 1) ss ms s.1 (omega arith) (omega arith) workers room numbers.1 sources.1)

-- each is of the project
pub sources-new : (P : Project) (lists : List (Vec WaitingNode Global)) (ss : List SourceState) → AllZip (IsNew P) lists ss → Each (IsSourceOf P) ss
sources-new P [] [] z = tt
sources-new P [] (s ∷ ss) z = absurd z
sources-new P (l ∷ lists) [] z = absurd z
sources-new P (l ∷ lists) (s ∷ ss) z = (let new = z.0 in new.source, sources-new P lists ss z.1)

-- What becomes of their sources.

pub sources-stay : (P : Project) (records : Records) (rows : RowsState) (round : ℕ) (words : TableId) (v : PassView) (number : ℕ) (ss : List SourceState) (before after : List Member) → AreSeated words v number ss before →
    AllZip (Went P records rows round) before after → AllZip Stays ss (map source_of after)
sources-stay P records rows round words v number [] [] [] seated went = tt
sources-stay P records rows round words v number [] [] (n ∷ ns) seated went = absurd went
sources-stay P records rows round words v number [] (m ∷ ms) ns seated went = absurd seated
sources-stay P records rows round words v number (s ∷ ss) [] ns seated went = absurd seated
sources-stay P records rows round words v number (s ∷ ss) (m ∷ ms) [] seated went = absurd went
sources-stay P records rows round words v number (s ∷ ss) (m ∷ ms) (n ∷ ns) seated went = (
  (let own = seated.0 in let w = went.0 in subst (λ (t : SourceState). Stays t n.part.source) own.source w.source),
  sources-stay P records rows round words v (number + 1) ss ms ns seated.1 went.1,
)

-- At the end.

-- of all workers up to this one
abbrev pub crew_beginning : Table → Records → Terms → List WaitingNode → ℕ → Beginning
crew_beginning table records terms dealt last = record { table = table; records = records; dealt = dealt; terms = terms; first_worker = 1; last_worker = last }

-- the share of one worker
pub share-done : (P : Project) (table : Table) (records : Records) (terms : Terms) (rows : RowsState) (words : TableId) (v : PassView) (number last : ℕ) (all : List WaitingNode) (l : Vec WaitingNode Global) (s : SourceState) (m n : Member) →
    IfSome terms.best (λ end. end ≤ 1290000) → v.least_seen ≡ end_number terms.best → 1 ≤ number → AreBelowRoom (waiting_of l.items) → IsNew P l s → IsSeated words v number s m → Went P records rows terms.number m n → IsSound n →
    HasShare P (crew_beginning table records terms all last) number (record (worked n) { handled = handled_by (waiting_of l.items) n.part.source })
share-done P table records terms rows words v number last all l s m n soon start some below new seated went sound =
    let b = beginning table records m.pass.view.number all terms in
    let dealt = waiting_of l.items in
    let view = seated.pass in
    let least : m.pass.view.least_seen ≡ v.least_seen = ap (λ (u : PassView). u.least_seen) view in
    let own : m.pass.view.number ≡ number = ap (λ (u : PassView). u.number) view in
    let part : part_state m.part ≡ new_part l.items = seated.part ∙ ap new_part new.list in
    let handled : handled_by dealt m.part.source ≡ dealt_to l.items = ap (handled_by dealt) seated.source ∙ handled-new dealt s new.given new.taken in
    let first : IsShare P b (dealt_to l.items) (progress_of m) (new_part l.items) =
    begin-share P b (progress_of m) l.items (record {
      seen = omega arith;
      offers = ap (λ (u : PassView). u.offers) view;
      expanded = ap (λ (w : WorkerState). w.expanded) seated.worker;
      live = ap (λ (w : WorkerState). w.live) seated.worker;
    }) (omega arith) below in
    let begun : IsShare P b (handled_by dealt m.part.source) (progress_of m) (part_state m.part) =
    subst (λ (h : Handled). IsShare P b h (progress_of m) (part_state m.part)) (sym handled) (subst (IsShare P b (dealt_to l.items) (progress_of m)) (sym part) first) in
    let done = went.done sound in
    let grown = done.counts.grown in
    let few = done.few in
    record {
      share = subst (λ (k : ℕ). IsShare P (beginning table records k all terms) (handled_by dealt n.part.source) (progress_of n) (part_state n.part)) own (done.keeps table all terms dealt refl soon begun);
      few = omega arith;
    }

pub progress-pass : (at : Progress) (ms : List Member) → (all_progress at ms).pass ≡ joined_views at.pass ms
progress-pass at [] = refl
progress-pass at (m ∷ ms) = progress-pass (joined_progress at (progress_of m)) ms

pub progress-live : (at : Progress) (ms : List Member) → (all_progress at ms).worker.live ≡ at.worker.live ++ all_cited ms
progress-live at [] = sym (append-nil at.worker.live)
progress-live at (m ∷ ms) = progress-live (joined_progress at (progress_of m)) ms ∙ append_assoc at.worker.live m.worker.live (all_cited ms)

below-front : (xs ys : List WaitingNode) → AreBelowRoom (waiting_of (xs ++ ys)) → AreBelowRoom (waiting_of xs) × AreBelowRoom (waiting_of ys)
below-front xs ys a =
    let both : AreBelowRoom (waiting_of xs ++ waiting_of ys) = subst AreBelowRoom (waiting-append xs ys) a in
    (Each-left (λ (w : Waiting). w.place < room) (waiting_of xs) (waiting_of ys) both, Each-right (λ (w : Waiting). w.place < room) (waiting_of xs) (waiting_of ys) both)

-- the shares of all, the first of this number
pub shares-done : (P : Project) (table : Table) (records : Records) (terms : Terms) (rows : RowsState) (words : TableId) (v : PassView) (number last : ℕ) (all : List WaitingNode) (lists : List (Vec WaitingNode Global)) (ss : List SourceState) (before after : List Member) →
    IfSome terms.best (λ end. end ≤ 1290000) → v.least_seen ≡ end_number terms.best → 1 ≤ number → AreBelowRoom (waiting_of (all_dealt lists)) → AllZip (IsNew P) lists ss → AreSeated words v number ss before →
    AllZip (Went P records rows terms.number) before after → Each IsSound after → HaveShares P (crew_beginning table records terms all last) number (crew_of lists after)
shares-done P table records terms rows words v number last all [] ss before after soon start some below new seated went sound = tt
shares-done P table records terms rows words v number last all (l ∷ lists) ss before [] soon start some below new seated went sound = tt
shares-done P table records terms rows words v number last all (l ∷ lists) [] before (n ∷ ns) soon start some below new seated went sound = absurd new
shares-done P table records terms rows words v number last all (l ∷ lists) (s ∷ ss) [] (n ∷ ns) soon start some below new seated went sound = absurd seated
shares-done P table records terms rows words v number last all (l ∷ lists) (s ∷ ss) (m ∷ ms) (n ∷ ns) soon start some below new seated went sound =
    let two = below-front l.items (all_dealt lists) below in (
      share-done P table records terms rows words v number last all l s m n soon start some two.0 new.0 seated.0 went.0 sound.0,
      shares-done P table records terms rows words v (number + 1) last all lists ss ms ns soon start (omega arith) two.1 new.1 seated.1 went.1 sound.1,
    )

-- What is known of each.

pub record HasEndedPart (P : Project) (m : Member) : Type 0 where
  pub fronts : HasFronts m
  pub live : HasLive m
  pub fills : HasFills m
  pub won : m.pass.view.won ≡ length m.part.made.items
  pub plan : HasPlan P m.pass.view.offers m.worker.plan
  pub soon : All (λ end. end ≤ 1290000) m.pass.view.offers

pub all-ended : (P : Project) (records : Records) (terms : Terms) (rows : RowsState) (words : TableId) (v : PassView) (number : ℕ) (ss : List SourceState) (before after : List Member) → AreSeated words v number ss before →
    AllZip (Went P records rows terms.number) before after → Each (λ n. IsSound n → HasEndedPart P n) after
all-ended P records terms rows words v number [] [] [] seated went = tt
all-ended P records terms rows words v number [] [] (n ∷ ns) seated went = absurd went
all-ended P records terms rows words v number [] (m ∷ ms) ns seated went = absurd seated
all-ended P records terms rows words v number (s ∷ ss) [] ns seated went = absurd seated
all-ended P records terms rows words v number (s ∷ ss) (m ∷ ms) [] seated went = absurd went
all-ended P records terms rows words v number (s ∷ ss) (m ∷ ms) (n ∷ ns) seated went = (
  (λ sound.
      let done = went.0.done sound in
      record { fronts = done.counts.fronts; live = done.counts.live; fills = done.counts.numbers; won = done.counts.won; plan = done.work.plan; soon = done.counts.soon }),
  all-ended P records terms rows words v (number + 1) ss ms ns seated.1 went.1,
)

pub plan-short : (P : Project) (offers : List ℕ) (plan : Option (List Placing)) → HasPlan P offers plan → All (λ end. end ≤ 1290000) offers → IfSome plan (IsShort P)
plan-short P [] None has soon = tt
plan-short P [] (Some s) has soon = absurd has
plan-short P (e ∷ es) None has soon = tt
plan-short P (e ∷ es) (Some s) has soon =
    let low = least-low e es in
    let first : e ≤ 1290000 = All-head (λ (x : ℕ). x ≤ 1290000) e es soon in
    let end = has.end in
    record { feasible = has.feasible; soon = omega arith }
  where
    least-low : (start : ℕ) (ends : List ℕ) → least start ends ≤ start
    least-low start [] = omega arith
    least-low start (x ∷ xs) = let ih = least-low start xs in omega arith

each-map : (Q R : Member → Type 0) (ms : List Member) → ((m : Member) → Q m → R m) → Each Q ms → Each R ms
each-map Q R [] f a = tt
each-map Q R (m ∷ ms) f a = (f m a.0, each-map Q R ms f a.1)

-- as gathering wants it
pub plans-short : (P : Project) (ms : List Member) → Each (λ n. IsSound n → HasEndedPart P n) ms → Each (λ m. IsSound m → IfSome m.worker.plan (IsShort P)) ms
plans-short P ms all = each-map (λ (n : Member). IsSound n → HasEndedPart P n) (λ (m : Member). IsSound m → IfSome m.worker.plan (IsShort P)) ms (λ m f sound. plan-short P m.pass.view.offers m.worker.plan (f sound).plan (f sound).soon) all

pub sound-ended : (P : Project) (ms : List Member) → Each (λ n. IsSound n → HasEndedPart P n) ms → Each IsSound ms → Each (HasEndedPart P) ms
sound-ended P [] a s = tt
sound-ended P (m ∷ ms) a s = (a.0 s.0, sound-ended P ms a.1 s.1)

pub fronts-of : (P : Project) (ms : List Member) → Each (HasEndedPart P) ms → Each HasFronts ms
fronts-of P ms a = each-map (HasEndedPart P) HasFronts ms (λ m e. e.fronts) a

pub lives-of : (P : Project) (ms : List Member) → Each (HasEndedPart P) ms → Each HasLive ms
lives-of P ms a = each-map (HasEndedPart P) HasLive ms (λ m e. e.live) a

pub numbers-of : (P : Project) (ms : List Member) → Each (HasEndedPart P) ms → Each HasFills ms
numbers-of P ms a = each-map (HasEndedPart P) HasFills ms (λ m e. e.fills) a

-- What all have together.

-- each ticket that was won is that of a record
pub won-made : (P : Project) (starts : List ℕ) (v : PassView) (s : PartState) (ms : List Member) → Each (HasEndedPart P) ms → v.won ≡ length s.made → (joined_views v ms).won ≡ length (joined_parts starts s ms).made
won-made P starts v s [] all e = e
won-made P starts v s (m ∷ ms) all e =
    let a = length-append s.made (map (real_record starts) m.part.made.items) in
    let b = length-map m.part.made.items (real_record starts) in
    let w = all.0.won in
    won-made P starts (joint_view v m.pass.view) (joined_part starts s (part_state m.part)) ms all.1 (omega arith)

real-stand : (P : Project) (starts : List ℕ) (ws : List WaitingNode) → All (λ w. StandsFor P w.node) ws → All (λ w. StandsFor P w.node) (map (real_waiting starts) ws)
real-stand P starts [] a = All-nil (λ (w : WaitingNode). StandsFor P w.node)
real-stand P starts (w ∷ ws) a =
    All-cons (λ (x : WaitingNode). StandsFor P x.node) (real_waiting starts w) (map (real_waiting starts) ws) (All-head (λ (x : WaitingNode). StandsFor P x.node) w ws a)
    (real-stand P starts ws (All-tail (λ (x : WaitingNode). StandsFor P x.node) w ws a))

lists-stand : (P : Project) (ms : List Member) → Each (IsSourceOf P) (map source_of ms) → All (λ w. StandsFor P w.node) (all_left (map worked ms))
lists-stand P [] each = All-nil (λ (w : WaitingNode). StandsFor P w.node)
lists-stand P (m ∷ ms) each = let own = each.0 in All-append (λ (w : WaitingNode). StandsFor P w.node) m.part.source.list (all_left (map worked ms)) own.list (lists-stand P ms each.1)

pub left-stand : (P : Project) (starts : List ℕ) (ms : List Member) (rest : List WaitingNode) → Each (IsSourceOf P) (map source_of ms) → All (λ w. StandsFor P w.node) rest →
    All (λ w. StandsFor P w.node) (map (real_waiting starts) (all_left (map worked ms) ++ rest))
left-stand P starts ms rest each nodes = real-stand P starts (all_left (map worked ms) ++ rest) (All-append (λ (w : WaitingNode). StandsFor P w.node) (all_left (map worked ms)) rest (lists-stand P ms each) nodes)

pub plan-best : (P : Project) (v : PassView) (plan : Option (List Placing)) (ms : List Member) → Each (HasEndedPart P) ms → HasPlan P v.offers plan → HasPlan P (joined_views v ms).offers (best_plan P plan ms)
plan-best P v plan [] all has = has
plan-best P v plan (m ∷ ms) all has = plan-best P (joint_view v m.pass.view) (better_plan P plan m.worker.plan) ms all.1 (plans_law P v.offers m.pass.view.offers plan m.worker.plan has all.0.plan)

-- where nodes were dealt, somebody visited one or was refused a ticket
pub some-move : (P : Project) (starts : List ℕ) (records : Records) (rows : RowsState) (round : ℕ) (words : TableId) (w v : PassView) (number : ℕ) (lists : List (Vec WaitingNode Global)) (ss : List SourceState) (s : PartState) (before after : List Member) →
    AllZip (IsNew P) lists ss → AreSeated words w number ss before → AllZip (Went P records rows round) before after → Each IsSound after → (0 < length (all_dealt lists)) ⊎ (0 < length s.fills + v.refused) →
    0 < length (joined_parts starts s after).fills + (joined_views v after).refused
some-move P starts records rows round words w v number [] [] s [] [] new seated went sound (inl d) = absurd (omega arith)
some-move P starts records rows round words w v number [] [] s [] [] new seated went sound (inr d) = d
some-move P starts records rows round words w v number [] [] s [] (n ∷ ns) new seated went sound d = absurd went
some-move P starts records rows round words w v number [] [] s (m ∷ ms) ns new seated went sound d = absurd seated
some-move P starts records rows round words w v number [] (t ∷ ss) s ms ns new seated went sound d = absurd new
some-move P starts records rows round words w v number (l ∷ lists) [] s ms ns new seated went sound d = absurd new
some-move P starts records rows round words w v number (l ∷ lists) (t ∷ ss) s [] ns new seated went sound d = absurd seated
some-move P starts records rows round words w v number (l ∷ lists) (t ∷ ss) s (m ∷ ms) [] new seated went sound d = absurd went
some-move P starts records rows round words w v number (l ∷ lists) (t ∷ ss) s (m ∷ ms) (n ∷ ns) new seated went sound d =
    some-move P starts records rows round words w (joint_view v n.pass.view) (number + 1) lists ss (joined_part starts s (part_state n.part)) ms ns new.1 seated.1 went.1 sound.1 (next d)
  where
    done : IsDone P records rows round m n
    done = went.0.done sound.0

    source : length m.part.source.list ≡ length l.items
    source = let own = seated.0 in let fresh = new.0 in ap (λ (x : SourceState). length x.list) own.source ∙ ap (λ (ws : List WaitingNode). length ws) fresh.list

    own : 0 < length l.items → 0 < length (joined_part starts s (part_state n.part)).fills + (joint_view v n.pass.view).refused
    own some =
        let e = source in
        let a = done.moves (omega arith) in
        let b = length-append s.fills (map (real_fill starts) n.part.fills.items) in
        let c = length-map n.part.fills.items (real_fill starts) in
        omega arith

    by : (items : List WaitingNode) → l.items ≡ items → 0 < length (items ++ all_dealt lists) → (0 < length (all_dealt lists)) ⊎ (0 < length (joined_part starts s (part_state n.part)).fills + (joint_view v n.pass.view).refused)
    by [] e some = inl some
    by (x ∷ items) e some = inr (own (let k = ap length e in omega arith))

    next : (0 < length (all_dealt (l ∷ lists))) ⊎ (0 < length s.fills + v.refused) → (0 < length (all_dealt lists)) ⊎ (0 < length (joined_part starts s (part_state n.part)).fills + (joint_view v n.pass.view).refused)
    next (inl some) = by l.items refl some
    next (inr old) =
        let b = length-append s.fills (map (real_fill starts) n.part.fills.items) in
        inr (omega arith)
