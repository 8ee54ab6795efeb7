-- One event more.
use Rattle.std.proofs.Common.{◌≡◌, ℕ, zero, suc, ◌+◌, ◌<◌, ◌≤◌, ◌⊎◌, inl, inr, refl, ap, subst, arith, List, [], ◌∷◌, ◌++◌, length, length-append, map, All, Some}
use Rattle.std.specs.Prelude.{Contains, slice_get, slice_index, slice_index_or}
use Rattle.std.specs.List.{AllZip}
use Rattle.std.proofs.lemmas.List.Elements.{All-weaker}
use Rattle.rcpsp_model.specs.declared.parts.Entry.{Entry}
use Rattle.rcpsp_model.specs.Project.{Project}
use Rattle.rcpsp_model.specs.Dominance.{Dominates}
use Rattle.rcpsp_model.proofs.Lists.{In, In-push, In-from_Contains, Contains-from_In}
use Rattle.search_log.specs.declared.row.Fill.{Fill}
use Rattle.search_log.specs.Weights.{Each}
use Rattle.search_log.proofs.Sums.{Each-weaker}
use Rattle.search_rounds.specs.declared.round.PlacedRecord.{PlacedRecord}
use Rattle.search_rounds.proofs.FilledSums.{Contains-left, Contains-right, zip-weaker}
use Rattle.tree_worker.specs.declared.live.LiveNote.{LiveNote}
use Rattle.steal_rounds.specs.Fates.{places_of}
use Rattle.round_shares.specs.Part.{Beginning, Event, fills_of, IsExpansion, IsEventOf, IsSameWorker, IsNoChildOf, AreInTurns, IsCitedIn, by_earlier, by_own, IsCitedLive, IsMadeIn, IsOffered}

pub pushed : (events : List Event) (x e : Event) → Contains (events ++ x ∷ []) e → Contains events e ⊎ (x ≡ e)
pushed events x e c = elim (In-push events x e (In-from_Contains (events ++ x ∷ []) e c)) [ inl i ↦ inl (Contains-from_In events e i) | inr same ↦ inr same ]

pub old-event : (events : List Event) (x e : Event) → Contains events e → Contains (events ++ x ∷ []) e
old-event events x e c = Contains-left events (x ∷ []) e c

pub new-event : (events : List Event) (x : Event) → Contains (events ++ x ∷ []) x
new-event events x = Contains-right events (x ∷ []) x (Contains-from_In (x ∷ []) x (inl refl))

-- what holds of pairs
pairs : (Q : Event → Event → Type 0) (events : List Event) (x : Event) → ((e f : Event) → Contains events e → Contains events f → Q e f) → ((e : Event) → Contains events e → Q e x) →
    ((f : Event) → Contains events f → Q x f) → Q x x → (e f : Event) → Contains (events ++ x ∷ []) e → Contains (events ++ x ∷ []) f → Q e f
pairs Q events x old last first own e f a b =
    elim (pushed events x e a) [
      | inl i ↦ elim (pushed events x f b) [
        | inl k ↦ old e f i k
        | inr same ↦ subst (Q e) same (last e i)
      ]
      | inr here ↦ elim (pushed events x f b) [
        | inl k ↦ subst (λ (y : Event). Q y f) here (first f k)
        | inr same ↦ subst (λ (y : Event). Q y f) here (subst (Q x) same own)
      ]
    ]

pub turns-push : (P : Project) (events : List Event) (x : Event) → AreInTurns P events → x.fill.origin.turn ≡ length events + 1 →
    ((e : Event) → Contains events e → IsExpansion e → IsExpansion x → Dominates P e.front x.front → ⊥) → ((e : Event) (y : IsExpansion x) → Contains (events ++ x ∷ []) e → IsNoChildOf x y e.fill.place) →
    AreInTurns P (events ++ x ∷ [])
turns-push P events x t turn own before = record {
  few = λ e c. elim (pushed events x e c) [
    | inl i ↦ (let a = t.few e i in let len = length-append events (x ∷ []) in omega arith)
    | inr same ↦ (let a : x.fill.origin.turn ≡ e.fill.origin.turn = ap (λ (y : Event). y.fill.origin.turn) same in let len = length-append events (x ∷ []) in omega arith)
  ];
  one = pairs (λ e f. IsSameWorker e f → IsExpansion e → IsExpansion f → e.fill.origin.turn ≡ f.fill.origin.turn → e ≡ f) events x t.one
      (λ e i w u v same. absurd (let a = t.few e i in omega arith)) (λ f i w u v same. absurd (let a = t.few f i in omega arith)) (λ w u v same. refl);
  own = λ e f a b w u v. pairs (λ e f. IsSameWorker e f → IsExpansion e → IsExpansion f → e.fill.origin.turn < f.fill.origin.turn → Dominates P e.front f.front → ⊥) events x (λ e f i k. t.own e f i k)
      (λ e i w u v less. own e i u v) (λ f i w u v less. absurd (let a = t.few f i in omega arith)) (λ w u v less. absurd (omega arith)) e f a b w u v;
  before = λ e f y a b w. pairs (λ e f. (y : IsExpansion f) → IsSameWorker e f → e.fill.origin.turn ≤ f.fill.origin.turn → IsNoChildOf f y e.fill.place) events x (λ e f i k y. t.before e f y i k)
      (λ e i y w le. before e y (old-event events x e i)) (λ f i y w le. absurd (let a = t.few f i in omega arith)) (λ y w le. before x y (new-event events x)) e f a b y w;
}

-- The event of a number.

pub get-old : (events : List Event) (x e : Event) (i : ℕ) → slice_get events i ≡ Some e → slice_get (events ++ x ∷ []) i ≡ Some e
get-old [] x e i g = absurd cc
get-old (y ∷ events) x e zero g = g
get-old (y ∷ events) x e (suc i) g = get-old events x e i g

pub get-new : (events : List Event) (x : Event) → slice_get (events ++ x ∷ []) (length events) ≡ Some x
get-new [] x = refl
get-new (y ∷ events) x = get-new events x

pub got-pushed : (events : List Event) (x e : Event) (i : ℕ) → slice_get (events ++ x ∷ []) i ≡ Some e → (slice_get events i ≡ Some e) ⊎ ((i ≡ length events) × (x ≡ e))
got-pushed [] x e zero g = inr (refl, cc)
got-pushed [] x e (suc i) g = absurd cc
got-pushed (y ∷ events) x e zero g = inl g
got-pushed (y ∷ events) x e (suc i) g = elim (got-pushed events x e i g) [ inl old ↦ inl old | inr new ↦ inr (ap suc new.0, new.1) ]

-- more events
pub cited-more : (P : Project) (b : Beginning) (events : List Event) (x : Event) (q : ℕ) (F : List Entry) → IsCitedIn P b events q F → IsCitedIn P b (events ++ x ∷ []) q F
cited-more P b events x q F (by_earlier i l e d) = by_earlier i l e d
cited-more P b events x q F (by_own e c y same d) = by_own e (old-event events x e c) y same d

pub live-more : (P : Project) (events : List Event) (x : Event) (numbers : List ℕ) (notes : List LiveNote) → AllZip (IsCitedLive P events) numbers notes → AllZip (IsCitedLive P (events ++ x ∷ [])) numbers notes
live-more P events x numbers notes z = zip-weaker (IsCitedLive P events) (IsCitedLive P (events ++ x ∷ []))
    (λ i note is. record { event = is.event; is_at = get-old events x is.event i is.is_at; row = is.row; cites = is.cites; base = is.base; known = is.known; dominates = is.dominates }) numbers notes z

pub made-more : (P : Project) (events : List Event) (x : Event) (made : List PlacedRecord) → All (IsMadeIn P events) made → All (IsMadeIn P (events ++ x ∷ [])) made
made-more P events x made a = All-weaker (IsMadeIn P events) (IsMadeIn P (events ++ x ∷ [])) (λ m is. record { event = is.event; among = old-event events x is.event is.among; is = is.is }) made a

pub offered-more : (P : Project) (b : Beginning) (events : List Event) (x : Event) (ends : List ℕ) → All (IsOffered P b events) ends → All (IsOffered P b (events ++ x ∷ [])) ends
offered-more P b events x ends a =
    All-weaker (IsOffered P b events) (IsOffered P b (events ++ x ∷ [])) (λ n is. record { event = is.event; among = old-event events x is.event is.among; leaf = is.leaf; is = is.is; less = is.less; soon = is.soon }) ends a

pub later-event : (P : Project) (b : Beginning) (best less : ℕ) (events : List Event) → less ≤ best → Each (IsEventOf P b best) events → Each (IsEventOf P b less) events
later-event P b best less events l a =
    Each-weaker (IsEventOf P b best) (IsEventOf P b less) events (λ e is. record { round = is.round; worker = is.worker; leaf = λ s. let end = is.leaf s in omega arith; early = is.early; new = is.new }) a

pub fills-push : (events : List Event) (x : Event) → fills_of (events ++ x ∷ []) ≡ fills_of events ++ x.fill ∷ []
fills-push [] x = refl
fills-push (e ∷ events) x = ap (λ (fs : List Fill). e.fill ∷ fs) (fills-push events x)

pub fills-length : (events : List Event) → length (fills_of events) ≡ length events
fills-length [] = refl
fills-length (e ∷ events) = ap suc (fills-length events)

-- The record in a place among those that were made.
pub record IsMadeAt (made : List PlacedRecord) (i : ℕ) : Type 0 where
  pub made_record : PlacedRecord
  pub among : In made made_record
  pub place : slice_index (places_of made) i ≡ made_record.place
  pub front : slice_index_or (map (λ m. m.known.front) made) i [] ≡ made_record.known.front

pub made-at : (made : List PlacedRecord) (i : ℕ) → i < length made → IsMadeAt made i
made-at [] i l = absurd (omega arith)
made-at (m ∷ made) zero l = record { made_record = m; among = inl refl; place = refl; front = refl }
made-at (m ∷ made) (suc i) l = let r = made-at made i (omega arith) in record { made_record = r.made_record; among = inr r.among; place = r.place; front = r.front }
