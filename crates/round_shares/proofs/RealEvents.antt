-- Events, with their places in the table.
use Rattle.std.proofs.Common.{◌≡◌, ℕ, ◌<◌, ◌≤◌, inl, inr, refl, sym, ap, subst, arith, List, [], ◌∷◌, ◌++◌, length, length-append, map}
use Rattle.std.specs.Prelude.{Contains}
use Rattle.std.proofs.lemmas.List.{length-map}
use Rattle.rcpsp_model.specs.Project.{Project}
use Rattle.rcpsp_model.specs.Dominance.{Dominates}
use Rattle.rcpsp_model.proofs.Lists.{In-append, In-from_Contains, Contains-from_In}
use Rattle.rcpsp_model.proofs.Choices.{In-map, map-In}
use Rattle.log_truth.specs.Fates.{late_leaf}
use Rattle.search_log.specs.declared.row.Fill.{Fill}
use Rattle.round_shares.specs.Part.{Beginning, Event, fills_of, IsExpansion, IsEventOf, IsSameWorker, IsNoChildOf, AreInTurns}
use Rattle.round_shares.specs.Crew.{real_place, real_fill}
use Rattle.round_shares.proofs.RealFates.{expanded-real, expanded-unreal, late-unreal}

abbrev pub real_event : List ℕ → Event → Event
real_event starts e = record { fill = real_fill starts e.fill; front = e.front }

pub in-real : (starts : List ℕ) (xs : List Event) (e : Event) → Contains xs e → Contains (map (real_event starts) xs) (real_event starts e)
in-real starts xs e c = Contains-from_In (map (real_event starts) xs) (real_event starts e) (In-map (real_event starts) xs e (In-from_Contains xs e c))

-- what holds of each
pub each-real : (starts : List ℕ) (Q : Event → Type 0) (xs : List Event) → ((e : Event) → Contains xs e → Q (real_event starts e)) → (e : Event) → Contains (map (real_event starts) xs) e → Q e
each-real starts Q xs own e c = let x = map-In (real_event starts) xs e (In-from_Contains (map (real_event starts) xs) e c) in subst Q x.2 (own x.0 (Contains-from_In xs x.0 x.1))

pub each-of : (Q : Event → Type 0) (xs ys : List Event) → ((e : Event) → Contains xs e → Q e) → ((e : Event) → Contains ys e → Q e) → (e : Event) → Contains (xs ++ ys) e → Q e
each-of Q xs ys first second e c =
    elim (In-append xs ys e (In-from_Contains (xs ++ ys) e c)) [
      | inl i ↦ first e (Contains-from_In xs e i)
      | inr i ↦ second e (Contains-from_In ys e i)
    ]

-- and of each two
two-real : (starts : List ℕ) (Q : Event → Event → Type 0) (xs : List Event) → ((e f : Event) → Contains xs e → Contains xs f → Q (real_event starts e) (real_event starts f)) → (e f : Event) → Contains (map (real_event starts) xs) e →
    Contains (map (real_event starts) xs) f → Q e f
two-real starts Q xs own e f i k = each-real starts (λ x. Q x f) xs (λ x p. each-real starts (Q (real_event starts x)) xs (λ y q. own x y p q) f k) e i

two-of : (Q : Event → Event → Type 0) (xs ys : List Event) → ((e f : Event) → Contains xs e → Contains xs f → Q e f) → ((e f : Event) → Contains xs e → Contains ys f → Q e f) →
    ((e f : Event) → Contains ys e → Contains xs f → Q e f) → ((e f : Event) → Contains ys e → Contains ys f → Q e f) → (e f : Event) → Contains (xs ++ ys) e → Contains (xs ++ ys) f → Q e f
two-of Q xs ys a b c d e f i k =
    each-of (λ x. Q x f) xs ys (λ x p. each-of (Q x) xs ys (λ y q. a x y p q) (λ y q. b x y p q) f k) (λ x p. each-of (Q x) xs ys (λ y q. c x y p q) (λ y q. d x y p q) f k) e i

-- an expansion, with the places of the share
pub record Unreal (starts : List ℕ) (e : Event) (x : IsExpansion (real_event starts e)) : Type 0 where
  pub expansion : IsExpansion e
  pub first : real_place starts expansion.first ≡ x.first
  pub count : expansion.count ≡ x.count

pub unreal : (starts : List ℕ) (e : Event) (x : IsExpansion (real_event starts e)) → Unreal starts e x
unreal starts e x = let u = expanded-unreal starts e.fill.fate x.first x.count x.is in record { expansion = record { first = u.0; count = x.count; is = u.1 }; first = u.2; count = refl }

pub expansion-real : (starts : List ℕ) (e : Event) → IsExpansion e → IsExpansion (real_event starts e)
expansion-real starts e x = record { first = real_place starts x.first; count = x.count; is = expanded-real starts e.fill.fate x.first x.count x.is }

pub event-real : (P : Project) (b : Beginning) (best : ℕ) (starts : List ℕ) (e : Event) → IsEventOf P b best e → IsEventOf P b best (real_event starts e)
event-real P b best starts e is = record {
  round = is.round;
  worker = is.worker;
  leaf = λ s. is.leaf (late-unreal starts e.fill.fate late_leaf s);
  early = λ x. is.early (unreal starts e x).expansion;
  new = λ x. is.new (unreal starts e x).expansion;
}

pub fills-real : (starts : List ℕ) (xs : List Event) → map (real_fill starts) (fills_of xs) ≡ fills_of (map (real_event starts) xs)
fills-real starts [] = refl
fills-real starts (x ∷ xs) = ap (λ (k : List Fill). real_fill starts x.fill ∷ k) (fills-real starts xs)

-- Turns.

-- what is no child by the places of the share is none by those of the table
abbrev pub StaysNoChild : List ℕ → List Event → Type 0
StaysNoChild starts xs = (e f : Event) (x : IsExpansion (real_event starts f)) → Contains xs e → Contains xs f → IsNoChildOf f (unreal starts f x).expansion e.fill.place → IsNoChildOf (real_event starts f) x (real_place starts e.fill.place)

pub turns-real : (P : Project) (starts : List ℕ) (xs : List Event) → AreInTurns P xs → StaysNoChild starts xs → AreInTurns P (map (real_event starts) xs)
turns-real P starts xs t stays =
    let ys : List Event = map (real_event starts) xs in
    let size : length ys ≡ length xs = length-map xs (real_event starts) in
    record {
      few = each-real starts (λ e. e.fill.origin.turn ≤ length ys) xs (λ e c. let few = t.few e c in omega arith);
      one = two-real starts (λ e f. IsSameWorker e f → IsExpansion e → IsExpansion f → e.fill.origin.turn ≡ f.fill.origin.turn → e ≡ f) xs
          (λ e f c d w x y same. ap (real_event starts) (t.one e f c d w (unreal starts e x).expansion (unreal starts f y).expansion same));
      own = two-real starts (λ e f. IsSameWorker e f → IsExpansion e → IsExpansion f → e.fill.origin.turn < f.fill.origin.turn → Dominates P e.front f.front → ⊥) xs
          (λ e f c d w x y less. t.own e f c d w (unreal starts e x).expansion (unreal starts f y).expansion less);
      before = λ e f x c d w le.
          two-real starts (λ e f. (x : IsExpansion f) → IsSameWorker e f → e.fill.origin.turn ≤ f.fill.origin.turn → IsNoChildOf f x e.fill.place) xs
          (λ e f c d x w le. stays e f x c d (t.before e f (unreal starts f x).expansion c d w le)) e f c d x w le;
    }

-- no worker has visits in both
abbrev pub AreApart : List Event → List Event → Type 0
AreApart xs ys = (e f : Event) → Contains xs e → Contains ys f → IsSameWorker e f → ⊥

pub turns-both : (P : Project) (xs ys : List Event) → AreInTurns P xs → AreInTurns P ys → AreApart xs ys → AreInTurns P (xs ++ ys)
turns-both P xs ys a b apart =
    let size = length-append xs ys in
    record {
      few = each-of (λ e. e.fill.origin.turn ≤ length (xs ++ ys)) xs ys (λ e c. let few = a.few e c in omega arith) (λ e c. let few = b.few e c in omega arith);
      one = two-of (λ e f. IsSameWorker e f → IsExpansion e → IsExpansion f → e.fill.origin.turn ≡ f.fill.origin.turn → e ≡ f) xs ys a.one (λ e f c d w x y same. absurd (apart e f c d w))
          (λ e f c d w x y same. absurd (apart f e d c (sym w))) b.one;
      own = two-of (λ e f. IsSameWorker e f → IsExpansion e → IsExpansion f → e.fill.origin.turn < f.fill.origin.turn → Dominates P e.front f.front → ⊥) xs ys a.own (λ e f c d w x y less. absurd (apart e f c d w))
          (λ e f c d w x y less. absurd (apart f e d c (sym w))) b.own;
      before = λ e f x c d w le. two-of (λ e f. (x : IsExpansion f) → IsSameWorker e f → e.fill.origin.turn ≤ f.fill.origin.turn → IsNoChildOf f x e.fill.place) xs ys (λ e f c d x w le. a.before e f x c d w le)
          (λ e f c d x w le. absurd (apart e f c d w)) (λ e f c d x w le. absurd (apart f e d c (sym w))) (λ e f c d x w le. b.before e f x c d w le) e f c d x w le;
    }
