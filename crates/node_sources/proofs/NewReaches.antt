-- Whom new sources reach, one reach after another.
use Rattle.std.proofs.Common.{◌≡◌, ℕ, zero, suc, ◌+◌, ◌-◌, ◌<◌, ◌≤◌, ◌⊎◌, inl, inr, ◌∙◌, List, [], ◌∷◌, ◌++◌, length, refl, ap, sym, subst, arith, map, append_assoc, append-nil, Global}
use Rattle.std.specs.Prelude.{slice_index_or, slice_set}
use Rattle.std.specs.declared.vec.Vec.{Vec}
use Rattle.std.proofs.lemmas.List.{map-set, map-append, length-map, get_or-map, get_or-set_same, get_or-set_other, set-set}
use Rattle.std.proofs.Math.Seq.{map-set_same}
use Rattle.rcpsp_model.specs.Project.{Project, numbers_from}
use Rattle.search_log.specs.Weights.{Each}
use Rattle.search_rounds.specs.declared.round.WaitingNode.{WaitingNode}
use Rattle.node_sources.specs.declared.reach.Reach.{Reach}
use Rattle.node_sources.specs.Source.{SourceState}
use Rattle.node_sources.specs.Seats.{seat_of, AreNumberedFrom}
use Rattle.node_sources.specs.Seating.{reached_by, others_behind, ReachesOthers, numbers_of, all_reached, ReachesMore, SplitsOff, with_reach}
use Rattle.node_sources.proofs.NewSeats.{AreLone}

-- One reach more.

pub reaches-one_more : (ss : List SourceState) (o k : ℕ) (a b d e : SourceState) (r : Reach) → o < length ss → k < length ss → SplitsOff (slice_index_or ss o d) r a → b ≡ with_reach r (slice_index_or (slice_set ss o a) k e) →
    ReachesMore k (slice_index_or (numbers_of ss) o 0 ∷ []) ss (slice_set (slice_set ss o a) k b)
reaches-one_more ss o k a b d e r lo lk splits is =
    let was : SourceState = slice_index_or ss o d in
    let mid : List SourceState = slice_set ss o a in
    let old : SourceState = slice_index_or mid k e in
    let number : SourceState → ℕ = λ s. s.number in
    let numbers_mid : numbers_of mid ≡ numbers_of ss = map-set_same number ss o a d (ap number splits.split) in
    let numbers : numbers_of (slice_set mid k b) ≡ numbers_of mid = map-set_same number mid k b e (ap number is) in
    let reached_mid : all_reached mid ≡ all_reached ss = map-set_same reached_by ss o a d (ap reached_by splits.split) in
    let owner : r.owner ≡ slice_index_or (numbers_of ss) o 0 = ap (λ (q : Reach). q.owner) splits.reach ∙ sym (get_or-map number ss o d 0 lo) in
    let in_mid : k < length mid = let n = ap length numbers_mid in let x = length-map mid number in let y = length-map ss number in omega arith in
    let held : reached_by old ≡ slice_index_or (all_reached ss) k [] = sym (get_or-map reached_by mid k e [] in_mid) ∙ ap (λ (xs : List (List ℕ)). slice_index_or xs k []) reached_mid in
    let own : reached_by b ≡ slice_index_or (all_reached ss) k [] ++ slice_index_or (numbers_of ss) o 0 ∷ [] =
    ap reached_by is ∙ (map-append (λ (q : Reach). q.owner) old.reaches (r ∷ []) ∙ (ap (λ (xs : List ℕ). xs ++ r.owner ∷ []) held ∙ ap (λ (n : ℕ). slice_index_or (all_reached ss) k [] ++ n ∷ []) owner)) in
    record {
      numbers = numbers ∙ numbers_mid;
      reached = map-set reached_by mid k b ∙ (ap (λ (xs : List (List ℕ)). slice_set xs k (reached_by b)) reached_mid ∙ ap (slice_set (all_reached ss) k) own);
    }

pub reaches-on : (index : ℕ) (xs ys : List ℕ) (before mid after : List SourceState) → index < length before → ReachesMore index xs before mid → ReachesMore index ys mid after → ReachesMore index (xs ++ ys) before after
reaches-on index xs ys before mid after l first then_more =
    let was : List ℕ = slice_index_or (all_reached before) index [] in
    let in_all : index < length (all_reached before) = let x = length-map before reached_by in omega arith in
    let at : slice_index_or (all_reached mid) index [] ≡ was ++ xs = ap (λ (zs : List (List ℕ)). slice_index_or zs index []) first.reached ∙ get_or-set_same (all_reached before) index (was ++ xs) [] in_all in
    let own : slice_index_or (all_reached mid) index [] ++ ys ≡ was ++ (xs ++ ys) = ap (λ (zs : List ℕ). zs ++ ys) at ∙ append_assoc was xs ys in
    record {
      numbers = then_more.numbers ∙ first.numbers;
      reached = then_more.reached ∙ (ap (slice_set (all_reached mid) index) own
          ∙ (ap (λ (zs : List (List ℕ)). slice_set zs index (was ++ (xs ++ ys))) first.reached ∙ set-set (all_reached before) index (was ++ xs) (was ++ (xs ++ ys))));
    }

-- The others, in order.

numbers-more : (i n : ℕ) → numbers_from i (n + 1) ≡ numbers_from i n ++ (i + n) ∷ []
numbers-more i zero = let e : i ≡ i + 0 = omega arith in ap (λ (k : ℕ). k ∷ []) e
numbers-more i (suc n) =
    let m : suc n + 1 ≡ suc (n + 1) = omega arith in
    let e : i + 1 + n ≡ i + suc n = omega arith in
    ap (numbers_from i) m ∙ ap (λ (xs : List ℕ). i ∷ xs) (numbers-more (i + 1) n ∙ ap (λ (k : ℕ). numbers_from (i + 1) n ++ k ∷ []) e)

pub number-in : (i n k d : ℕ) → k < n → slice_index_or (numbers_from i n) k d ≡ i + k
number-in i zero k d l = absurd (omega arith)
number-in i (suc n) zero d l = omega arith
number-in i (suc n) (suc k) d l = let ih = number-in (i + 1) n k d (omega arith) in omega arith

-- the first so many of those that come behind the one with this index
abbrev pub first_behind : ℕ → ℕ → ℕ → List ℕ
first_behind index count many = numbers_from (index + 2) (many - (many - (count - index - 1))) ++ numbers_from 1 (many - (count - index - 1))

-- one more, before the last or from the first on
pub behind-more : (index count many r : ℕ) → index < count → r < count → (r ≡ index + (many + 1)) ⊎ (r + count ≡ index + (many + 1)) → first_behind index count many ++ (1 + r) ∷ [] ≡ first_behind index count (many + 1)
behind-more index count many r l lr (inl is) =
    let a : many - (many - (count - index - 1)) ≡ many = omega arith in
    let b : many - (count - index - 1) ≡ 0 = omega arith in
    let c : many + 1 - (many + 1 - (count - index - 1)) ≡ many + 1 = omega arith in
    let d : many + 1 - (count - index - 1) ≡ 0 = omega arith in
    let n : 1 + r ≡ index + 2 + many = omega arith in
    let before : first_behind index count many ≡ numbers_from (index + 2) many =
    ap (λ (k : ℕ). numbers_from (index + 2) k ++ numbers_from 1 (many - (count - index - 1))) a ∙ (ap (λ (k : ℕ). numbers_from (index + 2) many ++ numbers_from 1 k) b ∙ append-nil (numbers_from (index + 2) many)) in
    let after : first_behind index count (many + 1) ≡ numbers_from (index + 2) (many + 1) =
    ap (λ (k : ℕ). numbers_from (index + 2) k ++ numbers_from 1 (many + 1 - (count - index - 1))) c ∙ (ap (λ (k : ℕ). numbers_from (index + 2) (many + 1) ++ numbers_from 1 k) d ∙ append-nil (numbers_from (index + 2) (many + 1))) in
    ap (λ (xs : List ℕ). xs ++ (1 + r) ∷ []) before ∙ (ap (λ (k : ℕ). numbers_from (index + 2) many ++ k ∷ []) n ∙ (sym (numbers-more (index + 2) many) ∙ sym after))
behind-more index count many r l lr (inr is) =
    let m : ℕ = count - index - 1 in
    let a : many - (many - m) ≡ m = omega arith in
    let c : many + 1 - (many + 1 - m) ≡ m = omega arith in
    let d : many + 1 - m ≡ many - m + 1 = omega arith in
    let n : 1 + r ≡ 1 + (many - m) = omega arith in
    let front : List ℕ = numbers_from (index + 2) m in
    let before : first_behind index count many ≡ front ++ numbers_from 1 (many - m) = ap (λ (k : ℕ). numbers_from (index + 2) k ++ numbers_from 1 (many - m)) a in
    let after : first_behind index count (many + 1) ≡ front ++ numbers_from 1 (many - m + 1) =
    ap (λ (k : ℕ). numbers_from (index + 2) k ++ numbers_from 1 (many + 1 - m)) c ∙ ap (λ (k : ℕ). front ++ numbers_from 1 k) d in
    ap (λ (xs : List ℕ). xs ++ (1 + r) ∷ []) before ∙ (append_assoc front (numbers_from 1 (many - m)) ((1 + r) ∷ [])
    ∙ (ap (λ (k : ℕ). front ++ (numbers_from 1 (many - m) ++ k ∷ [])) n ∙ (ap (λ (xs : List ℕ). front ++ xs) (sym (numbers-more 1 (many - m))) ∙ sym after)))

-- a step of the loop over the others
pub reaches-next : (index count many r : ℕ) (before mid after : List SourceState) → index < count → count ≡ length before → numbers_of before ≡ numbers_from 1 (length before) → r < count → (r ≡ index + (many + 1)) ⊎ (r + count ≡ index + (many + 1)) →
    ReachesMore index (first_behind index count many) before mid → ReachesMore index (slice_index_or (numbers_of mid) r 0 ∷ []) mid after → ReachesMore index (first_behind index count (many + 1)) before after
reaches-next index count many r before mid after l long numbers lr is first one =
    let number : slice_index_or (numbers_of mid) r 0 ≡ 1 + r = ap (λ (ns : List ℕ). slice_index_or ns r 0) (first.numbers ∙ numbers) ∙ number-in 1 (length before) r 0 (omega arith) in
    let both = reaches-on index (first_behind index count many) (slice_index_or (numbers_of mid) r 0 ∷ []) before mid after (omega arith) first one in
    let more : first_behind index count many ++ slice_index_or (numbers_of mid) r 0 ∷ [] ≡ first_behind index count (many + 1) =
    ap (λ (n : ℕ). first_behind index count many ++ n ∷ []) number ∙ behind-more index count many r l lr is in
    subst (λ (xs : List ℕ). ReachesMore index xs before after) more both

-- All sources.

pub numbered : (n : ℕ) (ss : List SourceState) → AreNumberedFrom n (map seat_of ss) → numbers_of ss ≡ numbers_from n (length ss)
numbered n [] k = refl
numbered n (s ∷ ss) k = ap (λ (i : ℕ). i ∷ numbers_of ss) k.0 ∙ ap (λ (ns : List ℕ). n ∷ ns) (numbered (n + 1) ss k.1)

-- the sources before the one with this index reach all others, the others nobody
pub record ReachUpTo (index : ℕ) (ss : List SourceState) : Type 0 where
  pub done : (i : ℕ) → i < index → slice_index_or (all_reached ss) i [] ≡ others_behind (i + 1) (length ss)
  pub rest : (i : ℕ) → index ≤ i → slice_index_or (all_reached ss) i [] ≡ []

pub lone-alone : (P : Project) (n : ℕ) (xs : List (Vec WaitingNode Global)) (ss : List SourceState) → AreLone P n xs ss → Each (λ s. s.reaches ≡ []) ss
lone-alone P n [] [] k = tt
lone-alone P n [] (s ∷ ss) k = absurd k
lone-alone P n (x ∷ xs) [] k = absurd k
lone-alone P n (x ∷ xs) (s ∷ ss) k = (k.0.reaches, lone-alone P (n + 1) xs ss k.1)

alone-at : (ss : List SourceState) (i : ℕ) → Each (λ s. s.reaches ≡ []) ss → slice_index_or (all_reached ss) i [] ≡ []
alone-at [] i k = refl
alone-at (s ∷ ss) zero k = ap (map (λ (r : Reach). r.owner)) k.0
alone-at (s ∷ ss) (suc i) k = alone-at ss i k.1

pub reach-begin : (ss : List SourceState) → Each (λ s. s.reaches ≡ []) ss → ReachUpTo 0 ss
reach-begin ss k = record { done = λ i l. absurd (omega arith); rest = λ i _. alone-at ss i k }

last-or-before : (i n : ℕ) → i < n + 1 → (i < n) ⊎ (i ≡ n)
last-or-before zero zero l = inr refl
last-or-before zero (suc n) l = inl (omega arith)
last-or-before (suc i) zero l = absurd (omega arith)
last-or-before (suc i) (suc n) l = elim (last-or-before i n (omega arith)) [ inl m ↦ inl (omega arith) | inr e ↦ inr (ap suc e) ]

done-now : (index n i : ℕ) (was now : List (List ℕ)) → ((i : ℕ) → i < index → slice_index_or was i [] ≡ others_behind (i + 1) n) → ((i : ℕ) → (i ≡ index → ⊥) → slice_index_or now i [] ≡ slice_index_or was i []) →
    slice_index_or now index [] ≡ others_behind (index + 1) n → (i < index) ⊎ (i ≡ index) → slice_index_or now i [] ≡ others_behind (i + 1) n
done-now index n i was now done beside here (inl l) = beside i (λ e. omega arith) ∙ done i l
done-now index n i was now done beside here (inr e) = subst (λ (j : ℕ). slice_index_or now j [] ≡ others_behind (j + 1) n) (sym e) here

pub reach-more : (index : ℕ) (before after : List SourceState) → index < length before → length after ≡ length before → ReachUpTo index before → ReachesMore index (others_behind (index + 1) (length before)) before after → ReachUpTo (index + 1) after
reach-more index before after l long up more =
    let was : List ℕ = slice_index_or (all_reached before) index [] in
    let others : List ℕ = others_behind (index + 1) (length before) in
    let in_all : index < length (all_reached before) = let x = length-map before reached_by in omega arith in
    let beside : (i : ℕ) → (i ≡ index → ⊥) → slice_index_or (all_reached after) i [] ≡ slice_index_or (all_reached before) i [] =
    λ i ne. ap (λ (xs : List (List ℕ)). slice_index_or xs i []) more.reached ∙ get_or-set_other (all_reached before) index i (was ++ others) [] ne in
    let here : slice_index_or (all_reached after) index [] ≡ others =
    ap (λ (xs : List (List ℕ)). slice_index_or xs index []) more.reached ∙ (get_or-set_same (all_reached before) index (was ++ others) [] in_all ∙ ap (λ (xs : List ℕ). xs ++ others) (up.rest index (omega arith))) in
    record {
      done = λ i li. subst (λ (n : ℕ). slice_index_or (all_reached after) i [] ≡ others_behind (i + 1) n) (sym long)
          (done-now index (length before) i (all_reached before) (all_reached after) up.done beside here (last-or-before i index li));
      rest = λ i le. beside i (λ e. omega arith) ∙ up.rest i (omega arith);
    }

each-reaches : (n count : ℕ) (ss : List SourceState) → AreNumberedFrom n (map seat_of ss) → ((i : ℕ) → i < length ss → slice_index_or (all_reached ss) i [] ≡ others_behind (n + i) count) → Each (ReachesOthers count) ss
each-reaches n count [] k f = tt
each-reaches n count (s ∷ ss) k f =
    let e : n + 0 ≡ s.number = let a = k.0 in omega arith in
    (f 0 (omega arith) ∙ ap (λ (m : ℕ). others_behind m count) e, each-reaches (n + 1) count ss k.1 (λ i l. f (suc i) (omega arith) ∙ (let c : n + suc i ≡ n + 1 + i = omega arith in ap (λ (m : ℕ). others_behind m count) c)))

pub reach-all : (index : ℕ) (ss : List SourceState) → length ss ≤ index → AreNumberedFrom 1 (map seat_of ss) → ReachUpTo index ss → Each (ReachesOthers (length ss)) ss
reach-all index ss le numbers up = each-reaches 1 (length ss) ss numbers (λ i l. up.done i (omega arith) ∙ (let e : i + 1 ≡ 1 + i = omega arith in ap (λ (m : ℕ). others_behind m (length ss)) e))
