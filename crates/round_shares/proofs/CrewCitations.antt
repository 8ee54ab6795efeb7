-- Citations, records and ends of all workers.
use Rattle.std.proofs.Common.{◌≡◌, ℕ, ◌+◌, ◌-◌, ◌<◌, ◌⊎◌, inl, inr, refl, sym, ap, subst, ◌∙◌, arith, List, [], ◌∷◌, ◌++◌, length, length-append, append_assoc, append-nil, map, All, Some}
use Rattle.std.specs.Prelude.{Contains, slice_get, slice_index}
use Rattle.std.specs.List.{AllZip}
use Rattle.std.proofs.lemmas.Bool.{cases_lt}
use Rattle.std.proofs.lemmas.List.{length-map, map-append}
use Rattle.std.proofs.lemmas.List.Elements.{All-nil, All-append, All-weaker}
use Rattle.rcpsp_model.specs.declared.parts.Entry.{Entry}
use Rattle.rcpsp_model.specs.Project.{Project}
use Rattle.rcpsp_model.proofs.Lists.{In-from_Contains, Contains-from_In}
use Rattle.rcpsp_model.proofs.Choices.{In-left, In-map, zip-append}
use Rattle.precedence_tree.specs.declared.base.Base.{Base}
use Rattle.cutset_store.specs.Index.{fronts_of}
use Rattle.log_truth.specs.Fates.{late_leaf}
use Rattle.search_log.specs.declared.row.Fill.{Fill}
use Rattle.search_log.specs.Weights.{total, Each}
use Rattle.search_log.specs.Fates.{row_cites, row_saying}
use Rattle.search_log.specs.Stands.{one_expanded}
use Rattle.search_log.proofs.Sums.{total-append}
use Rattle.search_rounds.specs.declared.round.PlacedRecord.{PlacedRecord}
use Rattle.search_rounds.proofs.FilledSums.{Contains-left, Contains-right}
use Rattle.tree_worker.specs.declared.live.LiveNote.{LiveNote}
use Rattle.tree_worker.specs.Worker.{Progress}
use Rattle.round_shares.specs.Part.{Beginning, Event, says_event, IsExpansion, IsCitedIn, by_earlier, by_own, IsCitedLive, IsMadeIn, HasRecord, IsOffered}
use Rattle.round_shares.specs.Share.{room}
use Rattle.round_shares.specs.Crew.{Worked, of_worker, HaveShares, real_place, real_record, all_fills, all_live, all_made, joined_progress, crew_progress}
use Rattle.round_shares.proofs.ListPlaces.{get-left, get-right, get-inside, get-map, map-get, Each-at, zip-weaker, zip-map}
use Rattle.round_shares.proofs.RealPlaces.{real-stays}
use Rattle.round_shares.proofs.RealFates.{cites-real, cites-unreal, late-real}
use Rattle.round_shares.proofs.RealEvents.{real_event, in-real, each-real, each-of, unreal, expansion-real}
use Rattle.round_shares.proofs.PlacedShares.{all_events}

-- The events of a share among all.

abbrev AreAmong : List Event → List Event → Type 0
AreAmong xs all = (e : Event) → Contains xs e → Contains all e

-- with their places in the table
abbrev AreFound : List ℕ → List Event → List Event → Type 0
AreFound starts xs all = (e : Event) → Contains xs e → Contains all (real_event starts e)

-- from number n on, from 0
abbrev pub IsBehind : List Event → ℕ → List Event → Type 0
IsBehind all n xs = (i : ℕ) → i < length xs → slice_get all (n + i) ≡ slice_get xs i

behind-first : (all : List Event) (n : ℕ) (xs ys : List Event) → IsBehind all n (xs ++ ys) → IsBehind all n xs
behind-first all n xs ys is i l = let a = length-append xs ys in is i (omega arith) ∙ get-left xs ys i l

behind-second : (all : List Event) (n m : ℕ) (xs ys : List Event) → m ≡ length xs → IsBehind all n (xs ++ ys) → IsBehind all (n + m) ys
behind-second all n m xs ys e is i l =
    let a = length-append xs ys in
    let place : n + m + i ≡ n + (length xs + i) = omega arith in
    ap (slice_get all) place ∙ (is (length xs + i) (omega arith) ∙ get-right xs ys i)

-- One share.

cited-real : (P : Project) (b : Beginning) (starts : List ℕ) (worker q : ℕ) (F : List Entry) (xs all : List Event) → Each (λ p. p < room) b.records.places → AreFound starts xs all → IsCitedIn P (of_worker worker b) xs q F →
    IsCitedIn P b all (real_place starts q) F
cited-real P b starts worker q F xs all inside found (by_earlier i l e d) =
    by_earlier i l (ap (real_place starts) e ∙ real-stays starts (slice_index b.records.places i) (Each-at (λ p. p < room) b.records.places i 0 inside l)) d
cited-real P b starts worker q F xs all inside found (by_own e c x same d) = by_own (real_event starts e) (found e c) (expansion-real starts e x) (ap (real_place starts) same) d

cites-own : (P : Project) (b : Beginning) (starts : List ℕ) (worker i q : ℕ) (e : Event) (xs all : List Event) (live : List ℕ) → Each (λ p. p < room) b.records.places → AreFound starts xs all →
    slice_get (map (real_event starts) xs) i ≡ Some e → says_event e ≡ row_cites q →
    ((i q : ℕ) (e : Event) → slice_get xs i ≡ Some e → says_event e ≡ row_cites q → IsCitedIn P (of_worker worker b) xs q e.front ⊎ Contains live i) → IsCitedIn P b all q e.front ⊎ Contains live i
cites-own P b starts worker i q e xs all live inside found is says cites =
    let f = map-get (real_event starts) xs i e is in
    let u = cites-unreal starts f.0.fill.fate q (ap says_event f.2 ∙ says) in
    let front : f.0.front ≡ e.front = ap (λ (z : Event). z.front) f.2 in
    elim (cites i u.0 f.0 f.1 u.1) [
      | inl cited ↦ inl (subst (IsCitedIn P b all q) front (subst (λ (p : ℕ). IsCitedIn P b all p f.0.front) u.2 (cited-real P b starts worker u.0 f.0.front xs all inside found cited)))
      | inr open_ ↦ inr open_
    ]

live-own : (P : Project) (starts : List ℕ) (n i : ℕ) (l : LiveNote) (xs all : List Event) → IsBehind all n (map (real_event starts) xs) → IsCitedLive P xs i l → IsCitedLive P all (n + i) l
live-own P starts n i l xs all behind is =
    let size = length-map xs (real_event starts) in
    let inside = get-inside xs i is.event is.is_at in
    record {
      event = real_event starts is.event;
      is_at = behind i (omega arith) ∙ get-map (real_event starts) xs i is.event is.is_at;
      row = real_place starts is.row;
      cites = cites-real starts is.event.fill.fate is.row is.cites;
      base = is.base;
      known = is.known;
      dominates = is.dominates;
    }

made-own : (P : Project) (starts : List ℕ) (xs all : List Event) → AreFound starts xs all → (m : PlacedRecord) → IsMadeIn P xs m → IsMadeIn P all (real_record starts m)
made-own P starts xs all found m is = record {
  event = real_event starts is.event;
  among = found is.event is.among;
  is = record { expansion = expansion-real starts is.event is.is.expansion; place = ap (real_place starts) is.is.place; front = is.is.front; known = is.is.known };
}

offered-own : (P : Project) (b : Beginning) (starts : List ℕ) (worker : ℕ) (xs all : List Event) → AreFound starts xs all → (k : ℕ) → IsOffered P (of_worker worker b) xs k → IsOffered P b all k
offered-own P b starts worker xs all found k is = record {
  event = real_event starts is.event;
  among = found is.event is.among;
  leaf = late-real starts is.event.fill.fate late_leaf is.leaf;
  is = is.is;
  less = is.less;
  soon = is.soon;
}

-- All shares.

module _ (P : Project) (b : Beginning) (starts : List ℕ) where
  first-found : (worker : ℕ) (w : Worked) (ws : List Worked) (s : HaveShares P b worker (w ∷ ws)) (all : List Event) → AreAmong (all_events P b starts worker (w ∷ ws) s) all → AreFound starts s.0.share.events all
  first-found worker w ws s all among e c =
      among (real_event starts e) (Contains-left (map (real_event starts) s.0.share.events) (all_events P b starts (worker + 1) ws s.1) (real_event starts e) (in-real starts s.0.share.events e c))

  others-among : (worker : ℕ) (w : Worked) (ws : List Worked) (s : HaveShares P b worker (w ∷ ws)) (all : List Event) → AreAmong (all_events P b starts worker (w ∷ ws) s) all → AreAmong (all_events P b starts (worker + 1) ws s.1) all
  others-among worker w ws s all among e c = among e (Contains-right (map (real_event starts) s.0.share.events) (all_events P b starts (worker + 1) ws s.1) e c)

  events-size : (worker : ℕ) (w : Worked) (ws : List Worked) (s : HaveShares P b worker (w ∷ ws)) → length w.part.fills ≡ length (map (real_event starts) s.0.share.events)
  events-size worker w ws s = ap length s.0.share.fills ∙ (length-map s.0.share.events (λ (e : Event). e.fill) ∙ sym (length-map s.0.share.events (real_event starts)))

  pub cites-all : (all : List Event) → Each (λ p. p < room) b.records.places → (n worker : ℕ) (ws : List Worked) (s : HaveShares P b worker ws) → AreAmong (all_events P b starts worker ws s) all → (i q : ℕ) (e : Event) →
      slice_get (all_events P b starts worker ws s) i ≡ Some e → says_event e ≡ row_cites q → IsCitedIn P b all q e.front ⊎ Contains (all_live n ws) (n + i)
  cites-all all inside n worker [] s among i q e is says = absurd cc
  cites-all all inside n worker (w ∷ ws) s among i q e is says =
      let first : List Event = map (real_event starts) s.0.share.events in
      let rest : List Event = all_events P b starts (worker + 1) ws s.1 in
      let own : List ℕ = map (λ (i : ℕ). n + i) w.part.live in
      let others : List ℕ = all_live (n + length w.part.fills) ws in
      let size : length w.part.fills ≡ length first = events-size worker w ws s in
      elim (cases_lt i (length first)) [
        | inl l ↦ elim (cites-own P b starts worker i q e s.0.share.events all w.part.live inside (first-found worker w ws s all among) (sym (get-left first rest i l) ∙ is) says s.0.share.cites) [
          | inl cited ↦ inl cited
          | inr live ↦ inr (Contains-left own others (n + i) (Contains-from_In own (n + i) (In-map (λ (i : ℕ). n + i) w.part.live i (In-from_Contains w.part.live i live))))
        ]
        | inr over ↦ (
            let k = i - length first in
            let place : length first + k ≡ i = omega arith in
            let here : slice_get rest k ≡ Some e = sym (get-right first rest k) ∙ (ap (slice_get (first ++ rest)) place ∙ is) in
            let there : n + length w.part.fills + k ≡ n + i = omega arith in
            elim (cites-all all inside (n + length w.part.fills) (worker + 1) ws s.1 (others-among worker w ws s all among) k q e here says) [
              | inl cited ↦ inl cited
              | inr live ↦ inr (Contains-right own others (n + i) (subst (Contains others) there live))
            ])
      ]

  pub live-all : (all : List Event) (n worker : ℕ) (ws : List Worked) (s : HaveShares P b worker ws) (at : Progress) (numbers : List ℕ) → IsBehind all n (all_events P b starts worker ws s) →
      AllZip (IsCitedLive P all) numbers at.worker.live → AllZip (IsCitedLive P all) (numbers ++ all_live n ws) (crew_progress at ws).worker.live
  live-all all n worker [] s at numbers behind z = subst (λ (is : List ℕ). AllZip (IsCitedLive P all) is at.worker.live) (sym (append-nil numbers)) z
  live-all all n worker (w ∷ ws) s at numbers behind z =
      let first : List Event = map (real_event starts) s.0.share.events in
      let rest : List Event = all_events P b starts (worker + 1) ws s.1 in
      let own : List ℕ = map (λ (i : ℕ). n + i) w.part.live in
      let others : List ℕ = all_live (n + length w.part.fills) ws in
      let zipped : AllZip (IsCitedLive P all) own w.at.worker.live =
      zip-map (IsCitedLive P all) (λ (i : ℕ). n + i) w.part.live w.at.worker.live
      (zip-weaker (IsCitedLive P s.0.share.events) (λ i l. IsCitedLive P all (n + i) l) w.part.live w.at.worker.live (λ i l is. live-own P starts n i l s.0.share.events all (behind-first all n first rest behind) is) s.0.share.live) in
      subst (λ (is : List ℕ). AllZip (IsCitedLive P all) is (crew_progress (joined_progress at w.at) ws).worker.live) (append_assoc numbers own others)
      (live-all all (n + length w.part.fills) (worker + 1) ws s.1 (joined_progress at w.at) (numbers ++ own) (behind-second all n (length w.part.fills) first rest (events-size worker w ws s) behind)
      (zip-append (IsCitedLive P all) numbers own at.worker.live w.at.worker.live z zipped))

  -- Records.

  pub made-all : (all : List Event) (worker : ℕ) (ws : List Worked) (s : HaveShares P b worker ws) → AreAmong (all_events P b starts worker ws s) all → All (λ m. IsMadeIn P all (real_record starts m)) (all_made ws)
  made-all all worker [] s among = All-nil (λ (m : PlacedRecord). IsMadeIn P all (real_record starts m))
  made-all all worker (w ∷ ws) s among =
      All-append (λ (m : PlacedRecord). IsMadeIn P all (real_record starts m)) w.part.made (all_made ws)
      (All-weaker (IsMadeIn P s.0.share.events) (λ (m : PlacedRecord). IsMadeIn P all (real_record starts m)) (made-own P starts s.0.share.events all (first-found worker w ws s all among)) w.part.made s.0.share.made)
      (made-all all (worker + 1) ws s.1 (others-among worker w ws s all among))

  pub has_record-all : (worker : ℕ) (ws : List Worked) (s : HaveShares P b worker ws) (e : Event) → Contains (all_events P b starts worker ws s) e → IsExpansion e → HasRecord (map (real_record starts) (all_made ws)) e
  has_record-all worker [] s e c x = absurd (In-from_Contains [] e c)
  has_record-all worker (w ∷ ws) s e c x =
      let made : List PlacedRecord = w.part.made ++ all_made ws in
      let both = map-append (real_record starts) w.part.made (all_made ws) in
      let ih = has_record-all (worker + 1) ws s.1 in
      each-of (λ e. IsExpansion e → HasRecord (map (real_record starts) made) e) (map (real_event starts) s.0.share.events) (all_events P b starts (worker + 1) ws s.1)
      (each-real starts (λ e. IsExpansion e → HasRecord (map (real_record starts) made) e) s.0.share.events
      (λ e c x.
      let has = s.0.share.made_all e c (unreal starts e x).expansion in
      record {
        made_record = real_record starts has.made_record;
        among =
            Contains-from_In (map (real_record starts) made) (real_record starts has.made_record)
            (In-map (real_record starts) made has.made_record (In-left w.part.made (all_made ws) has.made_record (In-from_Contains w.part.made has.made_record has.among)));
        place = ap (real_place starts) has.place;
        front = has.front;
      }))
      (λ e c x.
      let has = ih e c x in
      record {
        made_record = has.made_record;
        among =
            subst (λ (ms : List PlacedRecord). Contains ms has.made_record) (sym both)
            (Contains-right (map (real_record starts) w.part.made) (map (real_record starts) (all_made ws)) has.made_record has.among);
        place = has.place;
        front = has.front;
      })
      e c x

  pub expanded-all : (worker : ℕ) (ws : List Worked) → HaveShares P b worker ws → total (λ f. one_expanded (row_saying f.fate)) (all_fills ws) ≡ length (all_made ws)
  expanded-all worker [] s = refl
  expanded-all worker (w ∷ ws) s =
      let own = s.0.share.expanded in
      let ih = expanded-all (worker + 1) ws s.1 in
      let a = total-append (λ (f : Fill). one_expanded (row_saying f.fate)) w.part.fills (all_fills ws) in
      let c = length-append w.part.made (all_made ws) in
      omega arith

  pub fronts-all : (worker : ℕ) (ws : List Worked) (at : Progress) → HaveShares P b worker ws → fronts_of (crew_progress at ws).worker.expanded ≡ fronts_of at.worker.expanded ++ map (λ m. m.known.front) (all_made ws)
  fronts-all worker [] at s = sym (append-nil (fronts_of at.worker.expanded))
  fronts-all worker (w ∷ ws) at s =
      let old : List (List Entry) = fronts_of at.worker.expanded in
      let own : List (List Entry) = map (λ (m : PlacedRecord). m.known.front) w.part.made in
      let others : List (List Entry) = map (λ (m : PlacedRecord). m.known.front) (all_made ws) in
      let ih = fronts-all (worker + 1) ws (joined_progress at w.at) s.1 in
      let both : fronts_of (at.worker.expanded ++ w.at.worker.expanded) ≡ old ++ own =
      map-append (λ (base : Base). base.front) at.worker.expanded w.at.worker.expanded ∙ ap (λ (fs : List (List Entry)). old ++ fs) (sym s.0.share.fronts) in
      ih ∙
      (ap (λ (fs : List (List Entry)). fs ++ others) both ∙
      (append_assoc old own others ∙ ap (λ (fs : List (List Entry)). old ++ fs) (sym (map-append (λ (m : PlacedRecord). m.known.front) w.part.made (all_made ws)))))

  -- Ends.

  pub offered-all : (all : List Event) (worker : ℕ) (ws : List Worked) (s : HaveShares P b worker ws) (at : Progress) → AreAmong (all_events P b starts worker ws s) all → All (IsOffered P b all) at.pass.offers →
      All (IsOffered P b all) (crew_progress at ws).pass.offers
  offered-all all worker [] s at among old = old
  offered-all all worker (w ∷ ws) s at among old =
      offered-all all (worker + 1) ws s.1 (joined_progress at w.at) (others-among worker w ws s all among)
      (All-append (IsOffered P b all) at.pass.offers w.at.pass.offers old
      (All-weaker (IsOffered P (of_worker worker b) s.0.share.events) (IsOffered P b all) (offered-own P b starts worker s.0.share.events all (first-found worker w ws s all among)) w.at.pass.offers s.0.share.offered))
