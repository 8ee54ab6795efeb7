-- New sources: without reaches first, and then with one reach more.
use Rattle.std.proofs.Common.{◌≡◌, ◌≢◌, ℕ, zero, suc, ◌+◌, ◌<◌, ◌∙◌, List, [], ◌∷◌, ◌++◌, length, refl, ap, sym, subst, arith, map, Global}
use Rattle.std.specs.Prelude.{slice_index_or, slice_set}
use Rattle.std.specs.List.{AllZip}
use Rattle.std.specs.declared.vec.Vec.{Vec}
use Rattle.std.proofs.lemmas.List.{map-set, map-append, length-map, length-set}
use Rattle.std.proofs.Math.Seq.{map-set_same}
use Rattle.std.proofs.Math.ListN.{get_or-map}
use Rattle.rcpsp_model.specs.Project.{Project}
use Rattle.search_log.specs.Weights.{Each}
use Rattle.search_log.proofs.Sums.{Each-append, Each-left, Each-right}
use Rattle.search_rounds.specs.declared.round.WaitingNode.{WaitingNode}
use Rattle.node_deques.specs.declared.node.DequeNode.{DequeNode}
use Rattle.node_deques.specs.Views.{with_thief, thief_view}
use Rattle.node_sources.specs.declared.reach.Reach.{Reach}
use Rattle.node_sources.specs.Source.{SourceState, waiting, stolen, LeadsOn}
use Rattle.node_sources.specs.Seats.{Handle, Right, Seat, handle_of, right_of, seat_of, all_rights, passes_on, AreReached, AreNumberedFrom, IsWithin, AreSeats}
use Rattle.node_sources.specs.Settled.{IsNew, AreNew}
use Rattle.node_sources.specs.Seating.{IsLone, SplitsOff, with_reach, KeepsNew}
use Rattle.node_sources.proofs.Reached.{passes-append, split_handle, new_right, splits, reordered}

-- Without reaches.

abbrev pub AreLone : Project → ℕ → List (Vec WaitingNode Global) → List SourceState → Type 0
AreLone P n [] [] = Unit {0}
AreLone P n [] (s ∷ ss) = ⊥
AreLone P n (x ∷ xs) [] = ⊥
AreLone P n (x ∷ xs) (s ∷ ss) = IsLone P n x s × AreLone P (n + 1) xs ss

pub one-more_lone : (P : Project) (n m : ℕ) (xs : List (Vec WaitingNode Global)) (ss : List SourceState) (x : Vec WaitingNode Global) (s : SourceState) → AreLone P n xs ss → m ≡ n + length ss → IsLone P m x s → AreLone P n (xs ++ x ∷ []) (ss ++ s ∷ [])
one-more_lone P n m [] [] x s k e lone = (subst (λ (i : ℕ). IsLone P i x s) (let is : m ≡ n = omega arith in is) lone, tt)
one-more_lone P n m [] (t ∷ ss) x s k e lone = absurd k
one-more_lone P n m (y ∷ xs) [] x s k e lone = absurd k
one-more_lone P n m (y ∷ xs) (t ∷ ss) x s k e lone = (k.0, one-more_lone P (n + 1) m xs ss x s k.1 (omega arith) lone)

pub lone-long : (P : Project) (n : ℕ) (xs : List (Vec WaitingNode Global)) (ss : List SourceState) → AreLone P n xs ss → length ss ≡ length xs
lone-long P n [] [] k = refl
lone-long P n [] (s ∷ ss) k = absurd k
lone-long P n (x ∷ xs) [] k = absurd k
lone-long P n (x ∷ xs) (s ∷ ss) k = ap suc (lone-long P (n + 1) xs ss k.1)

lone-each : (P : Project) (n : ℕ) (xs : List (Vec WaitingNode Global)) (ss : List SourceState) → AreLone P n xs ss → AllZip (IsNew P) xs ss
lone-each P n [] [] k = tt
lone-each P n [] (s ∷ ss) k = absurd k
lone-each P n (x ∷ xs) [] k = absurd k
lone-each P n (x ∷ xs) (s ∷ ss) k = (k.0.new, lone-each P (n + 1) xs ss k.1)

lone-numbers : (P : Project) (n : ℕ) (xs : List (Vec WaitingNode Global)) (ss : List SourceState) → AreLone P n xs ss → AreNumberedFrom n (map seat_of ss)
lone-numbers P n [] [] k = tt
lone-numbers P n [] (s ∷ ss) k = absurd k
lone-numbers P n (x ∷ xs) [] k = absurd k
lone-numbers P n (x ∷ xs) (s ∷ ss) k = (k.0.number, lone-numbers P (n + 1) xs ss k.1)

lone-rights : (P : Project) (n : ℕ) (xs : List (Vec WaitingNode Global)) (ss : List SourceState) → AreLone P n xs ss → all_rights (map seat_of ss) ≡ []
lone-rights P n [] [] k = refl
lone-rights P n [] (s ∷ ss) k = absurd k
lone-rights P n (x ∷ xs) [] k = absurd k
lone-rights P n (x ∷ xs) (s ∷ ss) k = ap (λ (rs : List Reach). map right_of rs ++ all_rights (map seat_of ss)) k.0.reaches ∙ lone-rights P (n + 1) xs ss k.1

lone-reached : (P : Project) (n : ℕ) (xs : List (Vec WaitingNode Global)) (ss : List SourceState) → AreLone P n xs ss → AreReached [] n (map (λ s. s.own) (map seat_of ss))
lone-reached P n [] [] k = tt
lone-reached P n [] (s ∷ ss) k = absurd k
lone-reached P n (x ∷ xs) [] k = absurd k
lone-reached P n (x ∷ xs) (s ∷ ss) k = (record { deque = tt; passes = let a = k.0.passes in let b = k.0.split_off in omega arith }, lone-reached P (n + 1) xs ss k.1)

pub lone-new : (P : Project) (xs : List (Vec WaitingNode Global)) (ss : List SourceState) → AreLone P 1 xs ss → AreNew P xs ss
lone-new P xs ss k =
    let none = lone-rights P 1 xs ss k in
    record {
      seated = record {
        numbers = lone-numbers P 1 xs ss k;
        within = subst (Each (IsWithin (length (map seat_of ss)))) (sym none) tt;
        reached = subst (λ (rs : List Right). AreReached rs 1 (map (λ s. s.own) (map seat_of ss))) (sym none) (lone-reached P 1 xs ss k);
      };
      each = lone-each P 1 xs ss k;
    }

-- Seats, where one has a right more.

number-at : (n : ℕ) (xs : List Seat) (i : ℕ) (d : Seat) → AreNumberedFrom n xs → i < length xs → (slice_index_or xs i d).number ≡ n + i
number-at n [] i d k l = absurd (omega arith)
number-at n (x ∷ xs) zero d k l = let e = k.0 in omega arith
number-at n (x ∷ xs) (suc i) d k l = let e = number-at (n + 1) xs i d k.1 (omega arith) in omega arith

numbered-set : (n : ℕ) (xs : List Seat) (i : ℕ) (x d : Seat) → x.number ≡ (slice_index_or xs i d).number → AreNumberedFrom n xs → AreNumberedFrom n (slice_set xs i x)
numbered-set n [] i x d e k = tt
numbered-set n (y ∷ xs) zero x d e k = (e ∙ k.0, k.1)
numbered-set n (y ∷ xs) (suc i) x d e k = (k.0, numbered-set (n + 1) xs i x d e k.1)

rights-set : (xs : List Seat) (i : ℕ) (x d : Seat) → x.rights ≡ (slice_index_or xs i d).rights → all_rights (slice_set xs i x) ≡ all_rights xs
rights-set [] i x d e = refl
rights-set (y ∷ xs) zero x d e = ap (λ (rs : List Right). rs ++ all_rights xs) e
rights-set (y ∷ xs) (suc i) x d e = ap (λ (rs : List Right). y.rights ++ rs) (rights-set xs i x d e)

each-more : (Q : Right → Type 0) (xs : List Seat) (i : ℕ) (x d : Seat) (r : Right) → i < length xs → x.rights ≡ (slice_index_or xs i d).rights ++ r ∷ [] → Each Q (r ∷ all_rights xs) → Each Q (all_rights (slice_set xs i x))
each-more Q [] i x d r l e k = absurd (omega arith)
each-more Q (y ∷ xs) zero x d r l e k =
    let own = Each-append Q y.rights (r ∷ []) (Each-left Q y.rights (all_rights xs) k.1) (k.0, tt) in
    Each-append Q x.rights (all_rights xs) (subst (Each Q) (sym e) own) (Each-right Q y.rights (all_rights xs) k.1)
each-more Q (y ∷ xs) (suc i) x d r l e k =
    Each-append Q y.rights (all_rights (slice_set xs i x)) (Each-left Q y.rights (all_rights xs) k.1) (each-more Q xs i x d r (omega arith) e (k.0, Each-right Q y.rights (all_rights xs) k.1))

passes-more : (worker : ℕ) (xs : List Seat) (i : ℕ) (x d : Seat) (r : Right) → i < length xs → x.rights ≡ (slice_index_or xs i d).rights ++ r ∷ [] → passes_on worker (all_rights (slice_set xs i x)) ≡ passes_on worker (r ∷ all_rights xs)
passes-more worker [] i x d r l e = absurd (omega arith)
passes-more worker (y ∷ xs) zero x d r l e =
    let a = passes-append worker x.rights (all_rights xs) in
    let b = ap (passes_on worker) e in
    let c = passes-append worker y.rights (r ∷ []) in
    let f = passes-append worker y.rights (all_rights xs) in
    omega arith
passes-more worker (y ∷ xs) (suc i) x d r l e =
    let a = passes-append worker y.rights (all_rights (slice_set xs i x)) in
    let b = passes-more worker xs i x d r (omega arith) e in
    let f = passes-append worker y.rights (all_rights xs) in
    omega arith

abbrev owns : List Seat → List Handle
owns xs = map (λ s. s.own) xs

-- a pass is split off the own handle
abbrev pub split_seat : Seat → Seat
split_seat s = record { number = s.number; own = split_handle s.own; rights = s.rights }

abbrev pub with_right : Right → Seat → Seat
with_right r s = record { number = s.number; own = s.own; rights = s.rights ++ r ∷ [] }

-- a right on the deque of one seat, which another gets
seats-reached : (xs : List Seat) (o k : ℕ) (d e : Seat) (r : Right) → o < length xs → k < length xs → AreSeats xs → r ≡ new_right (slice_index_or xs o d).number (slice_index_or xs o d).own →
    (mid : List Seat) → mid ≡ slice_set xs o (split_seat (slice_index_or xs o d)) → (new : List Seat) → new ≡ slice_set mid k (with_right r (slice_index_or mid k e)) → AreReached (all_rights new) 1 (owns new)
seats-reached xs o k d e r lo lk are ris mid mids new news =
    let was : Seat = slice_index_or xs o d in
    let old : Seat = slice_index_or mid k e in
    let in_mid : k < length mid = let a = length-set xs o (split_seat was) in let b : length mid ≡ length (slice_set xs o (split_seat was)) = ap length mids in omega arith in
    let in_owns : o < length (owns xs) = let a : length (owns xs) ≡ length xs = length-map xs (λ (s : Seat). s.own) in omega arith in
    let at : slice_index_or (owns xs) o d.own ≡ was.own = get_or-map (λ (s : Seat). s.own) xs o d in
    let split : AreReached (new_right (1 + o) was.own ∷ all_rights xs) 1 (slice_set (owns xs) o (split_handle was.own)) =
    subst (λ (h : Handle). AreReached (new_right (1 + o) h ∷ all_rights xs) 1 (slice_set (owns xs) o (split_handle h))) at (splits (all_rights xs) 1 (owns xs) o d.own in_owns are.reached) in
    let is : new_right (1 + o) was.own ≡ r = ap (λ (n : ℕ). new_right n was.own) (sym (number-at 1 xs o d are.numbers lo)) ∙ sym ris in
    let rights : all_rights xs ≡ all_rights mid = sym (ap all_rights mids ∙ rights-set xs o (split_seat was) d refl) in
    let own : slice_set (owns xs) o (split_handle was.own) ≡ owns mid = sym (ap owns mids ∙ map-set (λ (s : Seat). s.own) xs o (split_seat was)) in
    let a : AreReached (r ∷ all_rights xs) 1 (slice_set (owns xs) o (split_handle was.own)) = subst (λ (q : Right). AreReached (q ∷ all_rights xs) 1 (slice_set (owns xs) o (split_handle was.own))) is split in
    let b : AreReached (r ∷ all_rights mid) 1 (slice_set (owns xs) o (split_handle was.own)) = subst (λ (rs : List Right). AreReached (r ∷ rs) 1 (slice_set (owns xs) o (split_handle was.own))) rights a in
    let c : AreReached (r ∷ all_rights mid) 1 (owns mid) = subst (AreReached (r ∷ all_rights mid) 1) own b in
    let set : List Seat = slice_set mid k (with_right r old) in
    let f : AreReached (all_rights set) 1 (owns mid) = reordered (r ∷ all_rights mid) (all_rights set) (λ worker. passes-more worker mid k (with_right r old) e r in_mid refl) (λ Q. each-more Q mid k (with_right r old) e r in_mid refl) 1 (owns mid) c in
    let same : owns mid ≡ owns set = sym (map-set_same (λ (s : Seat). s.own) mid k (with_right r old) e refl) in
    subst (λ (ys : List Seat). AreReached (all_rights ys) 1 (owns ys)) (sym news) (subst (AreReached (all_rights set) 1) same f)

pub seats-more : (xs : List Seat) (o k : ℕ) (d e : Seat) (r : Right) → o < length xs → k < length xs → AreSeats xs → r ≡ new_right (slice_index_or xs o d).number (slice_index_or xs o d).own →
    (mid : List Seat) → mid ≡ slice_set xs o (split_seat (slice_index_or xs o d)) → (new : List Seat) → new ≡ slice_set mid k (with_right r (slice_index_or mid k e)) → AreSeats new
seats-more xs o k d e r lo lk are ris mid mids new news =
    let was : Seat = slice_index_or xs o d in
    let old : Seat = slice_index_or mid k e in
    let long_mid : length mid ≡ length xs = ap length mids ∙ length-set xs o (split_seat was) in
    let long : length new ≡ length xs = ap length news ∙ (length-set mid k (with_right r old) ∙ long_mid) in
    let number : r.owner ≡ 1 + o = ap (λ (q : Right). q.owner) ris ∙ number-at 1 xs o d are.numbers lo in
    let rights : all_rights xs ≡ all_rights mid = sym (ap all_rights mids ∙ rights-set xs o (split_seat was) d refl) in
    let within_r : IsWithin (length xs) r = record { low = omega arith; high = omega arith } in
    let within : Each (IsWithin (length xs)) (all_rights (slice_set mid k (with_right r old))) =
    each-more (IsWithin (length xs)) mid k (with_right r old) e r (omega arith) refl (within_r, subst (Each (IsWithin (length xs))) rights are.within) in
    record {
      numbers = subst (AreNumberedFrom 1) (sym news) (numbered-set 1 mid k (with_right r old) e refl (subst (AreNumberedFrom 1) (sym mids) (numbered-set 1 xs o (split_seat was) d refl are.numbers)));
      within = subst (λ (n : ℕ). Each (IsWithin n) (all_rights new)) (sym long) (subst (λ (ys : List Seat). Each (IsWithin (length xs)) (all_rights ys)) (sym news) within);
      reached = seats-reached xs o k d e r lo lk are ris mid mids new news;
    }

-- Sources, where one gets a reach.

zip-at : (P : Project) (xs : List (Vec WaitingNode Global)) (ss : List SourceState) (i : ℕ) (d : SourceState) → i < length ss → AllZip (IsNew P) xs ss → (x : Vec WaitingNode Global) × IsNew P x (slice_index_or ss i d)
zip-at P [] [] i d l z = absurd (omega arith)
zip-at P [] (s ∷ ss) i d l z = absurd z
zip-at P (x ∷ xs) [] i d l z = absurd z
zip-at P (x ∷ xs) (s ∷ ss) zero d l z = (x, z.0)
zip-at P (x ∷ xs) (s ∷ ss) (suc i) d l z = zip-at P xs ss i d (omega arith) z.1

zip-set : (P : Project) (xs : List (Vec WaitingNode Global)) (ss : List SourceState) (i : ℕ) (s d : SourceState) → ((x : Vec WaitingNode Global) → IsNew P x (slice_index_or ss i d) → IsNew P x s) → AllZip (IsNew P) xs ss → AllZip (IsNew P) xs (slice_set ss i s)
zip-set P [] [] i s d f z = z
zip-set P [] (t ∷ ss) i s d f z = absurd z
zip-set P (x ∷ xs) [] i s d f z = z
zip-set P (x ∷ xs) (t ∷ ss) zero s d f z = (f x z.0, z.1)
zip-set P (x ∷ xs) (t ∷ ss) (suc i) s d f z = (z.0, zip-set P xs ss i s d f z.1)

stolen-none : (rs : List Reach) (r : Reach) → r.thief.view.taken ≡ [] → stolen (rs ++ r ∷ []) ≡ stolen rs
stolen-none [] r none = ap (λ (xs : List DequeNode). xs ++ []) none
stolen-none (q ∷ rs) r none = ap (λ (xs : List DequeNode). q.thief.view.taken ++ xs) (stolen-none rs r none)

abbrev split_source : SourceState → SourceState
split_source s = record s { deque = record s.deque { view = with_thief s.deque.view } }

abbrev new_reach : SourceState → Reach
new_reach s = record { owner = s.number; thief = record { deque = s.deque.deque; view = thief_view s.deque.view } }

split-new : (P : Project) (x : Vec WaitingNode Global) (s : SourceState) → IsNew P x s → IsNew P x (split_source s)
split-new P x s new = record {
  source = record { terms = new.source.terms; given = new.source.given; list = new.source.list; reaches = new.source.reaches };
  list = new.list;
  given = new.given;
  taken = new.taken;
}

held-new : (P : Project) (x : Vec WaitingNode Global) (s : SourceState) (r : Reach) → r.thief.view.taken ≡ [] → LeadsOn P s.number r → IsNew P x s → IsNew P x (with_reach r s)
held-new P x s r none leads new = record {
  source = record { terms = new.source.terms; given = new.source.given; list = new.source.list; reaches = Each-append (LeadsOn P s.number) s.reaches (r ∷ []) new.source.reaches (leads, tt) };
  list = new.list;
  given = new.given;
  taken = ap (λ (xs : List DequeNode). map waiting (s.deque.view.taken ++ xs)) (stolen-none s.reaches r none) ∙ new.taken;
}

-- the same, of sources
source-number : (n : ℕ) (ss : List SourceState) (i : ℕ) (d : SourceState) → AreNumberedFrom n (map seat_of ss) → i < length ss → (slice_index_or ss i d).number ≡ n + i
source-number n [] i d k l = absurd (omega arith)
source-number n (s ∷ ss) zero d k l = let e = k.0 in omega arith
source-number n (s ∷ ss) (suc i) d k l = let e = source-number (n + 1) ss i d k.1 (omega arith) in omega arith

reach-new : (ss : List SourceState) (o k : ℕ) (d e : SourceState) → o < length ss → k < length ss → o ≢ k →
    KeepsNew ss (slice_set (slice_set ss o (split_source (slice_index_or ss o d))) k (with_reach (new_reach (slice_index_or ss o d)) (slice_index_or (slice_set ss o (split_source (slice_index_or ss o d))) k e)))
reach-new ss o k d e lo lk apart P xs new =
    let was : SourceState = slice_index_or ss o d in
    let mid : List SourceState = slice_set ss o (split_source was) in
    let old : SourceState = slice_index_or mid k e in
    let r : Reach = new_reach was in
    let all : List SourceState = slice_set mid k (with_reach r old) in
    let long : length (map seat_of ss) ≡ length ss = length-map ss seat_of in
    let long_mid : length mid ≡ length ss = length-set ss o (split_source was) in
    let at : slice_index_or (map seat_of ss) o (seat_of d) ≡ seat_of was = get_or-map seat_of ss o d in
    let at_mid : slice_index_or (map seat_of mid) k (seat_of e) ≡ seat_of old = get_or-map seat_of mid k e in
    let mids : map seat_of mid ≡ slice_set (map seat_of ss) o (split_seat (slice_index_or (map seat_of ss) o (seat_of d))) =
    map-set seat_of ss o (split_source was) ∙ ap (λ (s : Seat). slice_set (map seat_of ss) o (split_seat s)) (sym at) in
    let held : seat_of (with_reach r old) ≡ with_right (right_of r) (seat_of old) = ap (λ (rs : List Right). record { number = old.number; own = handle_of old.deque; rights = rs }) (map-append right_of old.reaches (r ∷ [])) in
    let news : map seat_of all ≡ slice_set (map seat_of mid) k (with_right (right_of r) (slice_index_or (map seat_of mid) k (seat_of e))) =
    map-set seat_of mid k (with_reach r old) ∙ (ap (slice_set (map seat_of mid) k) held ∙ ap (λ (s : Seat). slice_set (map seat_of mid) k (with_right (right_of r) s)) (sym at_mid)) in
    let ris : right_of r ≡ new_right (slice_index_or (map seat_of ss) o (seat_of d)).number (slice_index_or (map seat_of ss) o (seat_of d)).own = ap (λ (s : Seat). new_right s.number s.own) (sym at) in
    let zip_mid : AllZip (IsNew P) xs mid = zip-set P xs ss o (split_source was) d (λ x was_new. split-new P x was was_new) new.each in
    let from = zip-at P xs ss o d lo new.each in
    let seated_mid : AreNumberedFrom 1 (map seat_of mid) = subst (AreNumberedFrom 1) (sym mids) (numbered-set 1 (map seat_of ss) o (split_seat (slice_index_or (map seat_of ss) o (seat_of d))) (seat_of d) refl new.seated.numbers) in
    let a : was.number ≡ 1 + o = source-number 1 ss o d new.seated.numbers lo in
    let b : old.number ≡ 1 + k = source-number 1 mid k e seated_mid (omega arith) in
    let leads : LeadsOn P old.number r = record { other = λ same. apart (omega arith); terms = from.1.source.terms } in
    record {
      seated = seats-more (map seat_of ss) o k (seat_of d) (seat_of e) (right_of r) (omega arith) (omega arith) new.seated ris (map seat_of mid) mids (map seat_of all) news;
      each = zip-set P xs mid k (with_reach r old) e (λ x old_new. held-new P x old r refl leads old_new) zip_mid;
    }

pub reach-added : (ss : List SourceState) (o k : ℕ) (a b d e : SourceState) (r : Reach) → o < length ss → k < length ss → o ≢ k → SplitsOff (slice_index_or ss o d) r a → b ≡ with_reach r (slice_index_or (slice_set ss o a) k e) →
    KeepsNew ss (slice_set (slice_set ss o a) k b)
reach-added ss o k a b d e r lo lk apart splits is =
    let was : SourceState = slice_index_or ss o d in
    let to : slice_set (slice_set ss o a) k b ≡ slice_set (slice_set ss o (split_source was)) k (with_reach (new_reach was) (slice_index_or (slice_set ss o (split_source was)) k e)) =
    ap (slice_set (slice_set ss o a) k) is
    ∙ (ap (λ (s : SourceState). slice_set (slice_set ss o s) k (with_reach r (slice_index_or (slice_set ss o s) k e))) splits.split
    ∙ ap (λ (q : Reach). slice_set (slice_set ss o (split_source was)) k (with_reach q (slice_index_or (slice_set ss o (split_source was)) k e))) splits.reach) in
    subst (KeepsNew ss) (sym to) (reach-new ss o k d e lo lk apart)
