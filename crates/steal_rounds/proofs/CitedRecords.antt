-- A live citation gets the place of the row that it cites.
use Rattle.std.proofs.Common.{◌≡◌, ℕ, zero, suc, ◌⊎◌, inl, inr, refl, sym, ap, subst, ◌∙◌, arith, List, [], ◌∷◌, ◌++◌, length, map, Option, Some}
use Rattle.std.specs.Prelude.{Contains, slice_get, slice_set}
use Rattle.std.specs.List.{AllZip}
use Rattle.std.proofs.lemmas.Bool.{cases_eq}
use Rattle.std.proofs.lemmas.List.Elements.{All-weaker, All-contains}
use Rattle.rcpsp_model.specs.declared.parts.Entry.{Entry}
use Rattle.rcpsp_model.specs.Project.{Project}
use Rattle.rcpsp_model.specs.Dominance.{Dominates}
use Rattle.rcpsp_model.proofs.Lists.{In, In-from_Contains, Contains-from_In}
use Rattle.log_truth.specs.Fates.{late_leaf}
use Rattle.precedence_tree.specs.declared.base.Base.{Base}
use Rattle.cutset_store.specs.Index.{fronts_of}
use Rattle.search_log.specs.declared.row.RowFate.TheVariants.{Cited}
use Rattle.search_log.specs.declared.row.Fill.{Fill}
use Rattle.search_log.specs.Weights.{total, Each}
use Rattle.search_log.specs.Fates.{RowSaying, row_expanded, row_late, row_cites, row_saying}
use Rattle.search_log.specs.Table.{children_of}
use Rattle.search_log.specs.Stands.{TreeNode, searching, Suits, FillSuits, Grows, one_expanded}
use Rattle.search_log.proofs.Sums.{Each-In}
use Rattle.search_rounds.specs.declared.round.PlacedRecord.{PlacedRecord}
use Rattle.search_rounds.specs.Round.{waiting_of}
use Rattle.tree_worker.specs.declared.live.LiveNote.{LiveNote}
use Rattle.tree_worker.specs.Worker.{Progress}
use Rattle.round_shares.specs.Ends.{end_in}
use Rattle.round_shares.specs.Part.{Beginning, PartState, Event, says_event, IsExpansion, IsAtNode, IsEventOf, AreInTurns, IsCitedIn, by_earlier, by_own, IsCitedLive, IsMadeIn, IsOffered, IsPartAt, IsPart}
use Rattle.steal_rounds.specs.Cited.{IsRowOf, with_cited, cited_rows}
use Rattle.steal_rounds.proofs.PartLaws.{ResolveLaw}
use Rattle.round_shares.proofs.ListPlaces.{get-In, get-map, zip-weaker}

-- Lists of which one item is changed.

get-set_same : {X : Type 0} (xs : List X) (i : ℕ) (x y : X) → slice_get xs i ≡ Some x → slice_get (slice_set xs i y) i ≡ Some y
get-set_same [] i x y e = absurd cc
get-set_same (z ∷ xs) zero x y e = refl
get-set_same (z ∷ xs) (suc i) x y e = get-set_same xs i x y e

get-set_other : {X : Type 0} (xs : List X) (i k : ℕ) (y : X) → (k ≡ i → ⊥) → slice_get (slice_set xs i y) k ≡ slice_get xs k
get-set_other [] i k y n = refl
get-set_other (z ∷ xs) zero zero y n = absurd (n refl)
get-set_other (z ∷ xs) zero (suc k) y n = refl
get-set_other (z ∷ xs) (suc i) zero y n = refl
get-set_other (z ∷ xs) (suc i) (suc k) y n = get-set_other xs i k y (λ e. n (ap suc e))

-- an item of the new list is an old one or the new one
In-set : {X : Type 0} (xs : List X) (i : ℕ) (y z : X) → In (slice_set xs i y) z → In xs z ⊎ (y ≡ z)
In-set [] i y z k = absurd k
In-set (x ∷ xs) zero y z (inl e) = inr e
In-set (x ∷ xs) zero y z (inr k) = inl (inr k)
In-set (x ∷ xs) (suc i) y z (inl e) = inl (inl e)
In-set (x ∷ xs) (suc i) y z (inr k) = elim (In-set xs i y z k) [ inl o ↦ inl (inr o) | inr n ↦ inr n ]

-- an old item stays, or is the one that was changed
In-stays : {X : Type 0} (xs : List X) (i : ℕ) (x y z : X) → slice_get xs i ≡ Some x → In xs z → In (slice_set xs i y) z ⊎ (x ≡ z)
In-stays [] i x y z e k = absurd k
In-stays (w ∷ xs) zero x y z e (inl s) = inr (let same : w ≡ x = cc in sym same ∙ s)
In-stays (w ∷ xs) zero x y z e (inr k) = inl (inr k)
In-stays (w ∷ xs) (suc i) x y z e (inl s) = inl (inl s)
In-stays (w ∷ xs) (suc i) x y z e (inr k) = elim (In-stays xs i x y z e k) [ inl o ↦ inl (inr o) | inr n ↦ inr n ]

total-set : {X : Type 0} (f : X → ℕ) (xs : List X) (i : ℕ) (x y : X) → slice_get xs i ≡ Some x → f y ≡ f x → total f (slice_set xs i y) ≡ total f xs
total-set f [] i x y e s = refl
total-set f (z ∷ xs) zero x y e s = let same : z ≡ x = cc in let own = ap f same in omega arith
total-set f (z ∷ xs) (suc i) x y e s = let ih = total-set f xs i x y e s in omega arith

Each-set : {X : Type 0} (Q : X → Type 0) (xs : List X) (i : ℕ) (y : X) → Q y → Each Q xs → Each Q (slice_set xs i y)
Each-set Q [] i y q a = tt
Each-set Q (x ∷ xs) zero y q a = (q, a.1)
Each-set Q (x ∷ xs) (suc i) y q a = (a.0, Each-set Q xs i y q a.1)

map-set : {X Y : Type 0} (f : X → Y) (xs : List X) (i : ℕ) (y : X) → map f (slice_set xs i y) ≡ slice_set (map f xs) i (f y)
map-set f [] i y = refl
map-set f (x ∷ xs) zero y = refl
map-set {Y = Y} f (x ∷ xs) (suc i) y = ap (λ (k : List Y). f x ∷ k) (map-set f xs i y)

length-set : {X : Type 0} (xs : List X) (i : ℕ) (y : X) → length (slice_set xs i y) ≡ length xs
length-set [] i y = refl
length-set (x ∷ xs) zero y = refl
length-set (x ∷ xs) (suc i) y = ap suc (length-set xs i y)

-- One live citation.

abbrev citing : Fill → ℕ → Fill
citing f q = record f { fate = Cited q }

with_cited-is : (fills : List Fill) (i q : ℕ) (f : Fill) → slice_get fills i ≡ Some f → with_cited fills i q ≡ slice_set fills i (citing f q)
with_cited-is [] i q f e = absurd cc
with_cited-is (g ∷ fills) zero q f e = let same : g ≡ f = cc in ap (λ (x : Fill). citing x q ∷ fills) same
with_cited-is (g ∷ fills) (suc i) q f e = ap (λ (fs : List Fill). g ∷ fs) (with_cited-is fills i q f e)

abbrev citing_event : Event → ℕ → Event
citing_event e q = record { fill = citing e.fill q; front = e.front }

-- event number i cites a row, and then that at the place q, which was expanded in one of the events and dominates it
record Resolves (P : Project) (events : List Event) (i q : ℕ) : Type 0 where
  pub event : Event
  pub is_at : slice_get events i ≡ Some event
  pub row : ℕ
  pub cites : says_event event ≡ row_cites row
  pub cause : Event
  pub among : Contains events cause
  pub expansion : IsExpansion cause
  pub place : q ≡ cause.fill.place
  pub dominates : Dominates P cause.front event.front

abbrev after : (P : Project) (events : List Event) (i q : ℕ) → Resolves P events i q → List Event
after P events i q r = slice_set events i (citing_event r.event q)

not-expanded : (e : Event) (row : ℕ) → says_event e ≡ row_cites row → IsExpansion e → ⊥
not-expanded e row c x = let bad : row_cites row ≡ row_expanded x.first x.count = sym c ∙ x.is in cc

expansion-stays : (P : Project) (events : List Event) (i q : ℕ) (r : Resolves P events i q) (e : Event) → IsExpansion e → Contains events e → Contains (after P events i q r) e
expansion-stays P events i q r e x c =
    elim (In-stays events i r.event (citing_event r.event q) e r.is_at (In-from_Contains events e c)) [
      | inl k ↦ Contains-from_In (after P events i q r) e k
      | inr same ↦ absurd (not-expanded r.event r.row r.cites (subst IsExpansion (sym same) x))
    ]

-- what was expanded after it was so before
expansion-before : (P : Project) (events : List Event) (i q : ℕ) (r : Resolves P events i q) (e : Event) → IsExpansion e → Contains (after P events i q r) e → Contains events e
expansion-before P events i q r e x c =
    elim (In-set events i (citing_event r.event q) e (In-from_Contains (after P events i q r) e c)) [
      | inl k ↦ Contains-from_In events e k
      | inr same ↦ absurd (not-expanded (citing_event r.event q) q refl (subst IsExpansion (sym same) x))
    ]

late-stays : (P : Project) (events : List Event) (i q : ℕ) (r : Resolves P events i q) (e : Event) → says_event e ≡ row_late late_leaf → Contains events e → Contains (after P events i q r) e
late-stays P events i q r e s c =
    elim (In-stays events i r.event (citing_event r.event q) e r.is_at (In-from_Contains events e c)) [
      | inl k ↦ Contains-from_In (after P events i q r) e k
      | inr same ↦ absurd (let bad : row_cites r.row ≡ row_late late_leaf = sym r.cites ∙ (ap says_event same ∙ s) in cc)
    ]

-- an event after it has the turn, the worker and the place of one before
record Was (events : List Event) (e : Event) : Type 0 where
  pub event : Event
  pub among : Contains events event
  pub place : event.fill.place ≡ e.fill.place
  pub turn : event.fill.origin.turn ≡ e.fill.origin.turn
  pub worker : event.fill.origin.worker ≡ e.fill.origin.worker

was : (P : Project) (events : List Event) (i q : ℕ) (r : Resolves P events i q) (e : Event) → Contains (after P events i q r) e → Was events e
was P events i q r e c =
    elim (In-set events i (citing_event r.event q) e (In-from_Contains (after P events i q r) e c)) [
      | inl k ↦ record { event = e; among = Contains-from_In events e k; place = refl; turn = refl; worker = refl }
      | inr same ↦ record {
        event = r.event;
        among = Contains-from_In events r.event (get-In events i r.event r.is_at);
        place = ap (λ (z : Event). z.fill.place) same;
        turn = ap (λ (z : Event). z.fill.origin.turn) same;
        worker = ap (λ (z : Event). z.fill.origin.worker) same;
      }
    ]

turns-resolved : (P : Project) (events : List Event) (i q : ℕ) (r : Resolves P events i q) → AreInTurns P events → AreInTurns P (after P events i q r)
turns-resolved P events i q r t = record {
  few = λ e c.
      let w = was P events i q r e c in
      let a = t.few w.event w.among in
      let turn = w.turn in
      let len = length-set events i (citing_event r.event q) in
      omega arith;
  one = λ e f c d w x y same. t.one e f (expansion-before P events i q r e x c) (expansion-before P events i q r f y d) w x y same;
  own = λ e f c d w x y less. t.own e f (expansion-before P events i q r e x c) (expansion-before P events i q r f y d) w x y less;
  before = λ e f x c d w le from below.
      let a = was P events i q r e c in
      let turn = a.turn in
      let place = a.place in
      t.before a.event f x a.among (expansion-before P events i q r f x d) (a.worker ∙ w) (omega arith) (omega arith) (omega arith);
}

cited-resolved : (P : Project) (b : Beginning) (events : List Event) (i q : ℕ) (r : Resolves P events i q) (p : ℕ) (F : List Entry) → IsCitedIn P b events p F → IsCitedIn P b (after P events i q r) p F
cited-resolved P b events i q r p F (by_earlier k l e d) = by_earlier k l e d
cited-resolved P b events i q r p F (by_own e c x same d) = by_own e (expansion-stays P events i q r e x c) x same d

live-resolved : (P : Project) (events : List Event) (i q : ℕ) (r : Resolves P events i q) (k : ℕ) (l : LiveNote) → IsCitedLive P events k l → IsCitedLive P (after P events i q r) k l
live-resolved P events i q r k l is =
    elim (cases_eq k i) [
      | inl e ↦ (
          let here : slice_get (after P events i q r) k ≡ Some (citing_event r.event q) = ap (slice_get (after P events i q r)) e ∙ get-set_same events i r.event (citing_event r.event q) r.is_at in
          let both : Some is.event ≡ Some r.event = sym is.is_at ∙ (ap (slice_get events) e ∙ r.is_at) in
          let same : is.event ≡ r.event = cc in
          record { event = citing_event r.event q; is_at = here; row = q; cites = refl; base = is.base; known = is.known; dominates = subst (λ (x : Event). Dominates P is.base.front x.front) same is.dominates })
      | inr n ↦ record { event = is.event; is_at = get-set_other events i k (citing_event r.event q) n ∙ is.is_at; row = is.row; cites = is.cites; base = is.base; known = is.known; dominates = is.dominates }
    ]

event-citing : (P : Project) (b : Beginning) (best : ℕ) (e : Event) (q : ℕ) → IsEventOf P b best e → IsEventOf P b best (citing_event e q)
event-citing P b best e q is = record {
  round = is.round;
  worker = is.worker;
  leaf = λ s. absurd (let bad : row_cites q ≡ row_late late_leaf = s in cc);
  early = λ x. absurd (not-expanded (citing_event e q) q refl x);
  new = λ x. absurd (not-expanded (citing_event e q) q refl x);
}

cites-front : (P : Project) (b : Beginning) (ns : List TreeNode) (best : Option ℕ) (e : Event) (q : ℕ) → IsAtNode ns e → FillSuits P (searching best) ns e.fill → FillSuits P (searching best) ns (citing e.fill q)
cites-front P b ns best e q at is = record {
  within = is.within;
  closed = tt;
  says = subst (λ (o : Option (List Entry)). Suits P (searching best) ns o (row_cites q)) (sym at) tt;
}

-- a part of which the first live citation is resolved
resolved-one : (P : Project) (b : Beginning) (ns : List TreeNode) (at : Progress) (s : PartState) (i q : ℕ) (live : List ℕ) (note : LiveNote) (notes : List LiveNote) → s.live ≡ i ∷ live → at.worker.live ≡ note ∷ notes →
    IsRowOf s.made q note → IsPartAt P b ns at s →
    IsPartAt P b ns (record at { worker = record at.worker { live = notes } }) (record s { fills = with_cited s.fills i q; live = live })
resolved-one P b ns at s i q live note notes first noted row is =
    let zip : AllZip (IsCitedLive P is.events) (i ∷ live) (note ∷ notes) =
    subst (λ (ks : List ℕ). AllZip (IsCitedLive P is.events) ks (note ∷ notes)) first (subst (AllZip (IsCitedLive P is.events) s.live) noted is.live) in
    let here = zip.0 in
    let m = All-contains (IsMadeIn P is.events) s.made row.made_record is.made row.among in
    let front : m.event.front ≡ here.base.front = sym m.is.front ∙ row.front here.base here.known in
    let r : Resolves P is.events i q = record {
      event = here.event;
      is_at = here.is_at;
      row = here.row;
      cites = here.cites;
      cause = m.event;
      among = m.among;
      expansion = m.is.expansion;
      place = sym row.is_at ∙ m.is.place;
      dominates = subst (λ (A : List Entry). Dominates P A here.event.front) (sym front) here.dominates;
    } in
    let x = citing_event here.event q in
    let events = after P is.events i q r in
    let fill_at : slice_get s.fills i ≡ Some here.event.fill = ap (λ (fs : List Fill). slice_get fs i) is.fills ∙ get-map (λ (e : Event). e.fill) is.events i here.event here.is_at in
    let fills : with_cited s.fills i q ≡ slice_set s.fills i x.fill = with_cited-is s.fills i q here.event.fill fill_at in
    let inside : In is.events here.event = get-In is.events i here.event here.is_at in
    let node = Each-In (IsAtNode (ns ++ is.more)) is.events here.event is.at_nodes inside in
    let own_fill : In s.fills here.event.fill = get-In s.fills i here.event.fill fill_at in
    let suits = Each-In (FillSuits P (searching (end_in at.pass.least_seen)) (ns ++ is.more)) s.fills here.event.fill is.grows.each_fill own_fill in
    record {
      more = is.more;
      events = events;
      fills = fills ∙ (ap (λ (fs : List Fill). slice_set fs i x.fill) is.fills ∙ sym (map-set (λ (e : Event). e.fill) is.events i x));
      grows = subst (λ (fs : List Fill). Grows P (searching (end_in at.pass.least_seen)) b.table.rows ns (waiting_of b.dealt) (map (λ n. n.row) s.grown) is.more fs (waiting_of s.left)) (sym fills) (record {
        size = is.grows.size;
        account = λ h.
            let a = is.grows.account h in
            let none : total h (children_of (row_saying here.event.fill.fate)) ≡ 0 = ap (λ (w : RowSaying). total h (children_of w)) here.cites in
            let k = total-set (λ (f : Fill). total h (children_of (row_saying f.fate))) s.fills i here.event.fill x.fill fill_at (sym none) in
            omega arith;
        waits = λ h.
            let a = is.grows.waits h in
            let k = total-set (λ (f : Fill). h f.place) s.fills i here.event.fill x.fill fill_at refl in
            omega arith;
        rows = is.grows.rows;
        each_fill = Each-set (FillSuits P (searching (end_in at.pass.least_seen)) (ns ++ is.more)) s.fills i x.fill (cites-front P b (ns ++ is.more) (end_in at.pass.least_seen) here.event q node suits) is.grows.each_fill;
        each_left = is.grows.each_left;
      });
      at_nodes = Each-set (IsAtNode (ns ++ is.more)) is.events i x node is.at_nodes;
      each = Each-set (IsEventOf P b at.pass.least_seen) is.events i x (event-citing P b at.pass.least_seen here.event q (Each-In (IsEventOf P b at.pass.least_seen) is.events here.event is.each inside)) is.each;
      turns = turns-resolved P is.events i q r is.turns;
      cites = λ k p e k_is says. elim (cases_eq k i) [
        | inl same ↦ inl (
            let new : slice_get events k ≡ Some x = ap (slice_get events) same ∙ get-set_same is.events i here.event x here.is_at in
            let both : Some x ≡ Some e = sym new ∙ k_is in
            let e_is : x ≡ e = cc in
            let row_is : row_cites q ≡ row_cites p = ap says_event e_is ∙ says in
            let p_is : q ≡ p = cc in
            subst (λ (z : ℕ). IsCitedIn P b events z e.front) p_is
            (subst (λ (z : Event). IsCitedIn P b events q z.front) e_is (by_own r.cause (expansion-stays P is.events i q r r.cause r.expansion r.among) r.expansion r.place r.dominates)))
        | inr other ↦ elim (is.cites k p e (sym (get-set_other is.events i k x other) ∙ k_is) says) [
          | inl c ↦ inl (cited-resolved P b is.events i q r p e.front c)
          | inr c ↦ inr (
              let l : In (i ∷ live) k = In-from_Contains (i ∷ live) k (subst (λ (ks : List ℕ). Contains ks k) first c) in
              elim l [
                | inl bad ↦ absurd (other (sym bad))
                | inr rest ↦ Contains-from_In live k rest
              ])
        ]
      ];
      live = zip-weaker (IsCitedLive P is.events) (IsCitedLive P events) live notes (live-resolved P is.events i q r) zip.1;
      made = All-weaker (IsMadeIn P is.events) (IsMadeIn P events) (λ n y. record { event = y.event; among = expansion-stays P is.events i q r y.event y.is.expansion y.among; is = y.is }) s.made is.made;
      made_all = λ e c y. is.made_all e (expansion-before P is.events i q r e y c) y;
      offered = All-weaker (IsOffered P b is.events) (IsOffered P b events) (λ n y. record { event = y.event; among = late-stays P is.events i q r y.event y.leaf y.among; leaf = y.leaf; is = y.is; less = y.less; soon = y.soon }) at.pass.offers is.offered;
    }

-- All of them.

abbrev part_with : PartState → List Fill → List ℕ → PartState
part_with s fills live = record s { fills = fills; live = live }

abbrev progress_with : Progress → List LiveNote → Progress
progress_with at notes = record at { worker = record at.worker { live = notes } }

resolved-at : (P : Project) (b : Beginning) (ns : List TreeNode) (at : Progress) (s : PartState) (fills : List Fill) (live places : List ℕ) (notes : List LiveNote) → AllZip (IsRowOf s.made) places notes →
    IsPartAt P b ns (progress_with at notes) (part_with s fills live) → IsPartAt P b ns (progress_with at []) (part_with s (cited_rows fills live places) [])
resolved-at P b ns at s fills [] [] [] z is = is
resolved-at P b ns at s fills [] (q ∷ places) [] z is = absurd z
resolved-at P b ns at s fills [] places (note ∷ notes) z is = absurd is.live
resolved-at P b ns at s fills (i ∷ live) places [] z is = absurd is.live
resolved-at P b ns at s fills (i ∷ live) [] (note ∷ notes) z is = absurd z
resolved-at P b ns at s fills (i ∷ live) (q ∷ places) (note ∷ notes) z is =
    resolved-at P b ns at s (with_cited fills i q) live places notes z.1
    (resolved-one P b ns (progress_with at (note ∷ notes)) (part_with s fills (i ∷ live)) i q live note notes refl refl z.0 is)

-- as many were expanded
expanded-resolved : (P : Project) (b : Beginning) (ns : List TreeNode) (at : Progress) (s : PartState) (fills : List Fill) (live places : List ℕ) (notes : List LiveNote) → AllZip (IsRowOf s.made) places notes →
    IsPartAt P b ns (progress_with at notes) (part_with s fills live) → total (λ f. one_expanded (row_saying f.fate)) (cited_rows fills live places) ≡ total (λ f. one_expanded (row_saying f.fate)) fills
expanded-resolved P b ns at s fills [] places notes z is = refl
expanded-resolved P b ns at s fills (i ∷ live) [] notes z is = refl
expanded-resolved P b ns at s fills (i ∷ live) (q ∷ places) [] z is = absurd z
expanded-resolved P b ns at s fills (i ∷ live) (q ∷ places) (note ∷ notes) z is =
    let here : IsCitedLive P is.events i note = is.live.0 in
    let fill_at : slice_get fills i ≡ Some here.event.fill = ap (λ (fs : List Fill). slice_get fs i) is.fills ∙ get-map (λ (e : Event). e.fill) is.events i here.event here.is_at in
    let none : one_expanded (row_saying here.event.fill.fate) ≡ 0 = ap one_expanded here.cites in
    let ih = expanded-resolved P b ns at s (with_cited fills i q) live places notes z.1
    (resolved-one P b ns (progress_with at (note ∷ notes)) (part_with s fills (i ∷ live)) i q live note notes refl refl z.0 is) in
    let count : Fill → ℕ = λ f. one_expanded (row_saying f.fate) in
    ih ∙ (ap (total count) (with_cited-is fills i q here.event.fill fill_at) ∙ total-set count fills i here.event.fill (citing here.event.fill q) fill_at (sym none))

pub resolve_law : ResolveLaw
resolve_law P b ns at s places begins rows is = record {
  falls = is.falls;
  rows = is.rows;
  fronts = is.fronts;
  expanded = expanded-resolved P b ns at s s.fills s.live places at.worker.live rows (is.at_tree ns begins) ∙ is.expanded;
  at_tree = λ ms k. resolved-at P b ms at s s.fills s.live places at.worker.live rows (is.at_tree ms k);
}

-- The row of a record.

-- record number i of what was expanded has the row of the one that was made as number i
pub row_of-own : (P : Project) (b : Beginning) (at : Progress) (s : PartState) (i q : ℕ) (m : PlacedRecord) (base : Base) (live : LiveNote) → IsPart P b at s → slice_get s.made i ≡ Some m → slice_get at.worker.expanded i ≡ Some base →
    live.note.known ≡ Some base → m.place ≡ q → IsRowOf s.made q live
row_of-own P b at s i q m base live is made expanded known place =
    let one : slice_get (map (λ (x : PlacedRecord). x.known.front) s.made) i ≡ Some m.known.front = get-map (λ (x : PlacedRecord). x.known.front) s.made i m made in
    let two : slice_get (fronts_of at.worker.expanded) i ≡ Some base.front = get-map (λ (x : Base). x.front) at.worker.expanded i base expanded in
    let both : Some m.known.front ≡ Some base.front = sym one ∙ (ap (λ (fs : List (List Entry)). slice_get fs i) is.fronts ∙ two) in
    let fronts : m.known.front ≡ base.front = cc in
    record {
      made_record = m;
      among = Contains-from_In s.made m (get-In s.made i m made);
      is_at = place;
      front = λ other k. (let same : Some base ≡ Some other = sym known ∙ k in let bases : base ≡ other = cc in fronts ∙ ap (λ (x : Base). x.front) bases);
    }
