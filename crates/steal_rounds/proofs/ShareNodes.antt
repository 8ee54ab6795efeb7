-- The nodes of a share, as visits come.
use Rattle.std.proofs.Common.{◌≡◌, ℕ, ◌+◌, ◌-◌, ◌<◌, ◌≤◌, inl, inr, refl, sym, ap, subst, arith, List, [], ◌∷◌, ◌++◌, length, length-append, map, Option, Some}
use Rattle.std.specs.List.{AllZip}
use Rattle.std.proofs.lemmas.List.{length-map, map-append}
use Rattle.rcpsp_model.specs.declared.parts.Entry.{Entry}
use Rattle.rcpsp_model.specs.declared.parts.Verdict.{Verdict}
use Rattle.rcpsp_model.specs.Project.{Project, numbers_from}
use Rattle.rcpsp_model.proofs.Lists.{In}
use Rattle.rcpsp_model.proofs.Choices.{In-map, zip-append}
use Rattle.search_log.specs.declared.row.Fill.{Fill}
use Rattle.search_log.specs.Weights.{total, over, Each}
use Rattle.search_log.specs.Fates.{RowSaying, row_open, row_expanded, row_late, row_cites, row_shut, row_saying}
use Rattle.search_log.specs.Table.{children_of}
use Rattle.search_log.specs.Stands.{TreeNode, searching, IsNoLater, Suits, IsClosed, Waiting}
use Rattle.search_log.proofs.Sums.{total-append, over-append, Each-append, Each-left, Each-right, Each-weaker, Each-In, numbers-total}
use Rattle.search_log.proofs.VerdictChanges.{searching-suits}
use Rattle.search_log.proofs.GrownTables.{children-more}
use Rattle.search_rounds.specs.declared.round.NewRow.{NewRow}
use Rattle.search_rounds.specs.declared.round.PlacedRecord.{PlacedRecord}
use Rattle.search_rounds.specs.declared.round.WaitingNode.{WaitingNode}
use Rattle.search_rounds.specs.Round.{waits_at, waiting_of}
use Rattle.search_rounds.proofs.FilledSums.{zip-length}
use Rattle.tree_worker.specs.Worker.{Progress}
use Rattle.round_shares.specs.Ends.{end_in}
use Rattle.round_shares.specs.Part.{Beginning, PartState, Event, says_event, IsNewRow}
use Rattle.round_shares.specs.Share.{room, first_place, IsPast, visited, born_at, born, IsRowFor, SuitsFront, Handled, IsShare}
use Rattle.steal_rounds.proofs.ChildRows.{IsWithin, waiting-append}

-- Weights.

visited-push : (weight : Waiting → ℕ) (events : List Event) (x : Event) → total weight (map visited (events ++ x ∷ [])) ≡ total weight (map visited events) + weight (visited x)
visited-push weight [] x = omega arith
visited-push weight (e ∷ events) x = let ih = visited-push weight events x in omega arith

born-weight : (weight : Waiting → ℕ) (p : ℕ) (xs ys : List TreeNode) → total weight (born p (xs ++ ys)) ≡ total weight (born p xs) + total weight (born (p + length xs) ys)
born-weight weight p [] ys = let here : p ≡ p + 0 = omega arith in let e = ap (λ (k : ℕ). total weight (born k ys)) here in omega arith
born-weight weight p (x ∷ xs) ys =
    let ih = born-weight weight (p + 1) xs ys in
    let a = total-append weight (born_at p x.front) (born (p + 1) (xs ++ ys)) in
    let b = total-append weight (born_at p x.front) (born (p + 1) xs) in
    let here : p + 1 + length xs ≡ p + length (x ∷ xs) = omega arith in
    let c = ap (λ (k : ℕ). total weight (born k ys)) here in
    omega arith

-- What is said of fronts.

front-later : (P : Project) (first best : Option ℕ) (start : ℕ) (more : List TreeNode) (F : List Entry) (s : RowSaying) → IsNoLater first best → SuitsFront P (searching first) start more F s → SuitsFront P (searching best) start more F s
front-later P first best start more F row_open l is = is
front-later P first best start more F (row_expanded p count) l is = is
front-later P first best start more F (row_late reason) l is = searching-suits P first best [] (Some F) (row_late reason) l is
front-later P first best start more F (row_cites q) l is = tt
front-later P first best start more F (row_shut why) l is = is

front-more : (P : Project) (v : Verdict) (start : ℕ) (more most : List TreeNode) (F : List Entry) (s : RowSaying) → SuitsFront P v start more F s → SuitsFront P v start (more ++ most) F s
front-more P v start more most F row_open is = is
front-more P v start more most F (row_expanded p count) is = (is.0, children-more P more most F (p - start) count is.1)
front-more P v start more most F (row_late reason) is = is
front-more P v start more most F (row_cites q) is = tt
front-more P v start more most F (row_shut why) is = is

-- of a node that was closed
pub front-closed : (P : Project) (v : Verdict) (start : ℕ) (more : List TreeNode) (F : List Entry) (s : RowSaying) → ((ns : List TreeNode) → Suits P v ns (Some F) s) → IsClosed s → children_of s ≡ [] →
    ((p count : ℕ) → s ≡ row_expanded p count → ⊥) → SuitsFront P v start more F s
front-closed P v start more F row_open suits closed none plain = absurd closed
front-closed P v start more F (row_expanded p count) suits closed none plain = absurd (plain p count refl)
front-closed P v start more F (row_late reason) suits closed none plain = suits []
front-closed P v start more F (row_cites q) suits closed none plain = tt
front-closed P v start more F (row_shut why) suits closed none plain = suits []

pub suits-later : (P : Project) (first best : Option ℕ) (start : ℕ) (more : List TreeNode) (events : List Event) → IsNoLater first best → Each (λ e. SuitsFront P (searching first) start more e.front (says_event e)) events →
    Each (λ e. SuitsFront P (searching best) start more e.front (says_event e)) events
suits-later P first best start more events l a =
    Each-weaker (λ (e : Event). SuitsFront P (searching first) start more e.front (says_event e)) (λ (e : Event). SuitsFront P (searching best) start more e.front (says_event e)) events
    (λ e is. front-later P first best start more e.front (says_event e) l is) a

suits-more : (P : Project) (v : Verdict) (start : ℕ) (more most : List TreeNode) (events : List Event) → Each (λ e. SuitsFront P v start more e.front (says_event e)) events → Each (λ e. SuitsFront P v start (more ++ most) e.front (says_event e)) events
suits-more P v start more most events a =
    Each-weaker (λ (e : Event). SuitsFront P v start more e.front (says_event e)) (λ (e : Event). SuitsFront P v start (more ++ most) e.front (says_event e)) events
    (λ e is. front-more P v start more most e.front (says_event e) is) a

-- Places.

past-more : (start count more : ℕ) (p : ℕ) → count ≤ more → IsPast start count p → IsPast start more p
past-more start count more p l (inl low) = inl (omega arith)
past-more start count more p l (inr high) = inr high

abbrev ArePast : ℕ → ℕ → List Waiting → Type 0
ArePast start count ws = Each (λ w. IsPast start count w.place) ws

all-past : (start count more : ℕ) (ws : List Waiting) → count ≤ more → ArePast start count ws → ArePast start more ws
all-past start count more ws l a = Each-weaker (λ (w : Waiting). IsPast start count w.place) (λ (w : Waiting). IsPast start more w.place) ws (λ w is. past-more start count more w.place l is) a

-- of a worker: what it visited, a node that waits before others, these others, and what it gave away
record Past (start count : ℕ) (es : List Waiting) (w : Waiting) (left given : List Waiting) : Type 0 where
  pub before : ArePast start count es
  pub next : IsPast start count w.place
  pub others : ArePast start count left
  pub away : ArePast start count given

past-parts : (start count : ℕ) (es : List Waiting) (w : Waiting) (left given : List Waiting) → ArePast start count (es ++ ((w ∷ left) ++ given)) → Past start count es w left given
past-parts start count es w left given a =
    let Q : Waiting → Type 0 = λ v. IsPast start count v.place in
    let rest = Each-right Q es ((w ∷ left) ++ given) a in
    record { before = Each-left Q es ((w ∷ left) ++ given) a; next = rest.0; others = Each-left Q left given rest.1; away = Each-right Q left given rest.1 }

-- once the node was visited, and others may wait before the rest
past-next : (start count more : ℕ) (es : List Waiting) (w : Waiting) (kids left given : List Waiting) → count ≤ more → Past start count es w left given → ArePast start more kids → ArePast start more ((es ++ w ∷ []) ++ ((kids ++ left) ++ given))
past-next start count more es w kids left given l a k =
    let Q : Waiting → Type 0 = λ v. IsPast start more v.place in
    Each-append Q (es ++ w ∷ []) ((kids ++ left) ++ given)
    (Each-append Q es (w ∷ []) (all-past start count more es l a.before) (past-more start count more w.place l a.next, tt))
    (Each-append Q (kids ++ left) given (Each-append Q kids left k (all-past start count more left l a.others)) (all-past start count more given l a.away))

-- What a share tells of nodes.

pub record HasNodes (P : Project) (b : Beginning) (h : Handled) (now : Progress) (s : PartState) (more : List TreeNode) (events : List Event) : Type 0 where
  pub new : Each (IsNewRow b) s.grown
  pub rows : AllZip (IsRowFor P) more (map (λ n. n.row) s.grown)
  pub account : (weight : ℕ → ℕ) → over (λ k r. weight k) (first_place b.first_worker) s.grown ≡ total (λ f. total weight (children_of (row_saying f.fate))) s.fills
  pub once : (weight : Waiting → ℕ) → total weight (map visited events) + total weight (waiting_of s.left) + total weight h.given ≡ total weight h.got + total weight (born (first_place b.first_worker) more)
  pub past : Each (λ w. IsPast (first_place b.first_worker) (length s.grown) w.place) (map visited events ++ (waiting_of s.left ++ h.given))
  pub suits : Each (λ e. SuitsFront P (searching (end_in now.pass.least_seen)) (first_place b.first_worker) more e.front (says_event e)) events

-- nothing came, and the node at the head was closed
pub closed-nodes : (P : Project) (b : Beginning) (h : Handled) (at now : Progress) (grown : List NewRow) (fills : List Fill) (live more_live : List ℕ) (made : List PlacedRecord) (w : WaitingNode) (left : List WaitingNode) (x : Event) →
    (old : IsShare P b h at (record { grown = grown; fills = fills; live = live; made = made; left = w ∷ left })) → IsNoLater (end_in at.pass.least_seen) (end_in now.pass.least_seen) → visited x ≡ waits_at w → children_of (says_event x) ≡ [] →
    SuitsFront P (searching (end_in now.pass.least_seen)) (first_place b.first_worker) old.more x.front (says_event x) →
    HasNodes P b h now (record { grown = grown; fills = fills ++ x.fill ∷ []; live = more_live; made = made; left = left }) old.more (old.events ++ x ∷ [])
closed-nodes P b h at now grown fills live more_live made w left x old later own none suits =
    let start = first_place b.first_worker in
    let count = length grown in
    record {
      new = old.new;
      rows = old.rows;
      account = λ weight.
          let a = old.account weight in
          let t = total-append (λ (f : Fill). total weight (children_of (row_saying f.fate))) fills (x.fill ∷ []) in
          let z : total weight (children_of (says_event x)) ≡ 0 = ap (total weight) none in
          omega arith;
      once = λ weight.
          let o = old.once weight in
          let v = visited-push weight old.events x in
          let e = ap weight own in
          omega arith;
      past = subst (λ (es : List Waiting). ArePast start count (es ++ (waiting_of left ++ h.given))) (sym (map-append visited old.events (x ∷ [])))
          (subst (λ (v : Waiting). ArePast start count ((map visited old.events ++ v ∷ []) ++ (waiting_of left ++ h.given))) (sym own)
          (past-next start count count (map visited old.events) (waits_at w) [] (waiting_of left) h.given (omega arith) (past-parts start count (map visited old.events) (waits_at w) (waiting_of left) h.given old.past) tt));
      suits = Each-append (λ (e : Event). SuitsFront P (searching (end_in now.pass.least_seen)) start old.more e.front (says_event e)) old.events (x ∷ [])
          (suits-later P (end_in at.pass.least_seen) (end_in now.pass.least_seen) start old.more old.events later old.suits) (suits, tt);
    }

-- the node at the head was expanded: these rows came, which are those of its children
pub expanded-nodes : (P : Project) (b : Beginning) (h : Handled) (at now : Progress) (grown kids : List NewRow) (fills : List Fill) (live : List ℕ) (made more_made : List PlacedRecord) (w : WaitingNode) (placed left : List WaitingNode) (x : Event) (most : List TreeNode)
    (first : ℕ) → (old : IsShare P b h at (record { grown = grown; fills = fills; live = live; made = made; left = w ∷ left })) → IsNoLater (end_in at.pass.least_seen) (end_in now.pass.least_seen) → visited x ≡ waits_at w →
    first ≡ first_place b.first_worker + length grown → says_event x ≡ row_expanded first (length kids) → Each (IsNewRow b) kids → AllZip (IsRowFor P) most (map (λ n. n.row) kids) → waiting_of placed ≡ born first most →
    Each (IsWithin first (first + length kids)) (waiting_of placed) → SuitsFront P (searching (end_in now.pass.least_seen)) (first_place b.first_worker) (old.more ++ most) x.front (says_event x) →
    HasNodes P b h now (record { grown = grown ++ kids; fills = fills ++ x.fill ∷ []; live = live; made = more_made; left = placed ++ left }) (old.more ++ most) (old.events ++ x ∷ [])
expanded-nodes P b h at now grown kids fills live made more_made w placed left x most first old later own is_first says new rows come within suits =
    let start = first_place b.first_worker in
    let count = length grown in
    let many = zip-length (IsRowFor P) old.more (map (λ (n : NewRow). n.row) grown) old.rows in
    let same = length-map grown (λ (n : NewRow). n.row) in
    let all = length-append grown kids in
    record {
      new = Each-append (IsNewRow b) grown kids old.new new;
      rows = subst (AllZip (IsRowFor P) (old.more ++ most)) (sym (map-append (λ (n : NewRow). n.row) grown kids))
          (zip-append (IsRowFor P) old.more most (map (λ (n : NewRow). n.row) grown) (map (λ (n : NewRow). n.row) kids) old.rows rows);
      account = λ weight.
          let a = old.account weight in
          let t = total-append (λ (f : Fill). total weight (children_of (row_saying f.fate))) fills (x.fill ∷ []) in
          let c : total weight (children_of (says_event x)) ≡ total weight (numbers_from first (length kids)) = ap (λ (s : RowSaying). total weight (children_of s)) says in
          let o = over-append (λ k (r : NewRow). weight k) start grown kids in
          let n = numbers-total weight (start + count) kids in
          let f = ap (λ (p : ℕ). total weight (numbers_from p (length kids))) is_first in
          omega arith;
      once = λ weight.
          let o = old.once weight in
          let v = visited-push weight old.events x in
          let e = ap weight own in
          let t = ap (total weight) (waiting-append placed left) in
          let u = total-append weight (waiting_of placed) (waiting_of left) in
          let c = ap (total weight) come in
          let m = born-weight weight start old.more most in
          let f : first ≡ start + length old.more = omega arith in
          let g = ap (λ (p : ℕ). total weight (born p most)) f in
          omega arith;
      past =
          let mine : ArePast start (length (grown ++ kids)) (waiting_of placed) =
          Each-weaker (IsWithin first (first + length kids)) (λ (v : Waiting). IsPast start (length (grown ++ kids)) v.place) (waiting_of placed) (λ v is. let high = is.below in inl (omega arith)) within in
          subst (λ (es : List Waiting). ArePast start (length (grown ++ kids)) (es ++ (waiting_of (placed ++ left) ++ h.given))) (sym (map-append visited old.events (x ∷ [])))
          (subst (λ (v : Waiting). ArePast start (length (grown ++ kids)) ((map visited old.events ++ v ∷ []) ++ (waiting_of (placed ++ left) ++ h.given))) (sym own)
          (subst (λ (ws : List Waiting). ArePast start (length (grown ++ kids)) ((map visited old.events ++ waits_at w ∷ []) ++ (ws ++ h.given))) (sym (waiting-append placed left))
          (past-next start count (length (grown ++ kids)) (map visited old.events) (waits_at w) (waiting_of placed) (waiting_of left) h.given (omega arith)
          (past-parts start count (map visited old.events) (waits_at w) (waiting_of left) h.given old.past) mine)));
      suits = Each-append (λ (e : Event). SuitsFront P (searching (end_in now.pass.least_seen)) start (old.more ++ most) e.front (says_event e)) old.events (x ∷ [])
          (suits-more P (searching (end_in now.pass.least_seen)) start old.more most old.events
          (suits-later P (end_in at.pass.least_seen) (end_in now.pass.least_seen) start old.more old.events later old.suits)) (suits, tt);
    }

-- a place that is past is none of those of children that come
pub no-child : (start grown p first count : ℕ) → IsPast start grown p → first ≡ start + grown → grown + count ≤ room → first ≤ p → p < first + count → ⊥
no-child start grown p first count (inl low) e l from below = omega arith
no-child start grown p first count (inr high) e l from below = omega arith

-- nor is the place of a node that was visited, or waits at the head
pub visited-past : (P : Project) (b : Beginning) (h : Handled) (at : Progress) (s : PartState) (old : IsShare P b h at s) → (e : Event) → In old.events e → IsPast (first_place b.first_worker) (length s.grown) e.fill.place
visited-past P b h at s old e i =
    let Q : Waiting → Type 0 = λ v. IsPast (first_place b.first_worker) (length s.grown) v.place in
    Each-In Q (map visited old.events) (visited e) (Each-left Q (map visited old.events) (waiting_of s.left ++ h.given) old.past) (In-map visited old.events e i)

pub head-past : (P : Project) (b : Beginning) (h : Handled) (at : Progress) (grown : List NewRow) (fills : List Fill) (live : List ℕ) (made : List PlacedRecord) (w : WaitingNode) (left : List WaitingNode) →
    (old : IsShare P b h at (record { grown = grown; fills = fills; live = live; made = made; left = w ∷ left })) → IsPast (first_place b.first_worker) (length grown) w.place
head-past P b h at grown fills live made w left old = (past-parts (first_place b.first_worker) (length grown) (map visited old.events) (waits_at w) (waiting_of left) h.given old.past).next
