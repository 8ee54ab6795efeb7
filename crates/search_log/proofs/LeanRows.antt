-- Lean rows tell a lean log: its lines are the rows in another order.
use Rattle.std.proofs.Common.{◌≡◌, ℕ, zero, suc, ◌+◌, ◌-◌, ◌<◌, ◌≤◌, inl, inr, refl, sym, ap, subst, ◌∙◌, arith, List, [], ◌∷◌, length, map, Bool, true, false, cond, Option, Some}
use Rattle.std.specs.Prelude.{◌==◌, ◌&&◌, if◌then◌else◌, slice_get, slice_index, Contains, count_by}
use Rattle.std.proofs.lemmas.Bool.{cases_eq, eqb-true, eq-eqb}
use Rattle.std.proofs.lemmas.List.{length-map}
use Rattle.rcpsp_model.specs.declared.parts.Verdict.{Verdict}
use Rattle.rcpsp_model.specs.Project.{Project, numbers_from}
use Rattle.rcpsp_model.specs.Chain.{IsLeast}
use Rattle.rcpsp_model.proofs.Lists.{In, In-from_Contains, Contains-from_In, sum_by-total}
use Rattle.rcpsp_model.proofs.Choices.{map-In, In-map}
use Rattle.proof_log.specs.declared.report.LogLine.{LogLine}
use Rattle.log_truth.specs.Fates.{says_late, late_leaf, expands, shuts}
use Rattle.log_truth.specs.Log.{says, LogNode}
use Rattle.search_log.specs.declared.row.Row.{Row}
use Rattle.search_log.specs.declared.row.Origin.{Origin}
use Rattle.search_log.specs.Weights.{total}
use Rattle.search_log.specs.Fates.{RowSaying, row_open, row_expanded, row_late, row_cites, row_shut}
use Rattle.search_log.specs.Table.{no_row, row_at, says_at, IsWhole}
use Rattle.search_log.specs.Stands.{line_of, TreeNode, Stands}
use Rattle.search_log.specs.Told.{TellsAll, origin_at, told_origin}
use Rattle.search_log.specs.Lean.{Seen, seen_node, seen_nodes, seen_lines, seen_row, end_number, IsEnd, of_first, of_leaf, IsOfFirst, expands_line, IsBegun, expands_in, IsKnown, IsAfterParent, IsLean}
use Rattle.search_log.specs.Laws.{LeanLaw}
use Rattle.search_log.proofs.Sums.{weighs-one, total-map, Each-In, numbers-total, only_at, only_at-same, place-once, In-from_weight}
use Rattle.search_log.proofs.PassedPlaces.{IsPlace, passes-all}
use Rattle.search_log.proofs.RowLines.{told, saying-told}
use Rattle.search_log.proofs.ToldLogs.{whole_law, log_node, log_node-front, told-nodes}

-- Two sights of one line: nothing differs but the numbers of what is cited, and the turn of what was closed at the end.

pub record IsAlike (a b : Seen) : Type 0 where
  pub branch : a.branch ≡ b.branch
  pub front : a.front ≡ b.front
  pub expanded : expands a.said ≡ expands b.said
  pub shut : shuts a.said ≡ shuts b.said
  pub leaf : a.said ≡ says_late late_leaf → b.said ≡ says_late late_leaf
  pub leaf_back : b.said ≡ says_late late_leaf → a.said ≡ says_late late_leaf
  pub round : a.origin.round ≡ b.origin.round
  pub worker : a.origin.worker ≡ b.origin.worker
  pub origin : 1 ≤ a.origin.worker → a.origin ≡ b.origin

alike-expands : (m n : List ℕ) (s : RowSaying) → expands (told m s) ≡ expands (told n s)
alike-expands m n row_open = refl
alike-expands m n (row_expanded first count) = refl
alike-expands m n (row_late reason) = refl
alike-expands m n (row_cites q) = refl
alike-expands m n (row_shut why) = refl

alike-shuts : (m n : List ℕ) (s : RowSaying) → shuts (told m s) ≡ shuts (told n s)
alike-shuts m n row_open = refl
alike-shuts m n (row_expanded first count) = refl
alike-shuts m n (row_late reason) = refl
alike-shuts m n (row_cites q) = refl
alike-shuts m n (row_shut why) = refl

alike-leaf : (m n : List ℕ) (s : RowSaying) → told m s ≡ says_late late_leaf → told n s ≡ says_late late_leaf
alike-leaf m n row_open e = e
alike-leaf m n (row_expanded first count) e = e
alike-leaf m n (row_late reason) e = e
alike-leaf m n (row_cites q) e = absurd (cc)
alike-leaf m n (row_shut why) e = e

told-as : (number : ℕ) (o : Origin) (b : Bool) → (o.worker == 0) ≡ b → ((told_origin number o).round ≡ o.round) × ((told_origin number o).worker ≡ o.worker) × (1 ≤ o.worker → o ≡ told_origin number o)
told-as number o true e =
    let turned : told_origin number o ≡ record o { turn = number } = ap (λ (x : Bool). if x then record o { turn = number } else o) e in
    (ap (λ (x : Origin). x.round) turned, ap (λ (x : Origin). x.worker) turned, λ l. absurd (let z = eqb-true o.worker 0 e in omega arith))
told-as number o false e =
    let same : told_origin number o ≡ o = ap (λ (x : Bool). if x then record o { turn = number } else o) e in
    (ap (λ (x : Origin). x.round) same, ap (λ (x : Origin). x.worker) same, λ l. sym same)

-- the line of a place with its origin
abbrev pub seen_place : List ℕ → List Row → List TreeNode → List Origin → ℕ → Seen
seen_place numbers T ns O p = seen_node (log_node numbers T ns p) (told_origin (slice_index numbers p) (origin_at O p))

place-alike : (P : Project) (v : Verdict) (T : List Row) (O : List Origin) (ns : List TreeNode) (numbers : List ℕ) → Stands P v T ns [] [] → (p : ℕ) → p < length T → IsAlike (seen_row T ns O p) (seen_place numbers T ns O p)
place-alike P v T O ns numbers s p l =
    let here : says (line_of [] (row_at T p)) ≡ told [] (says_at T p) = saying-told [] (row_at T p).fate in
    let there : says (line_of numbers (row_at T p)) ≡ told numbers (says_at T p) = saying-told numbers (row_at T p).fate in
    let o = told-as (slice_index numbers p) (origin_at O p) ((origin_at O p).worker == 0) refl in
    record {
      branch = refl;
      front = sym (log_node-front P v T ns numbers s p l);
      expanded = ap expands here ∙ (alike-expands [] numbers (says_at T p) ∙ sym (ap expands there));
      shut = ap shuts here ∙ (alike-shuts [] numbers (says_at T p) ∙ sym (ap shuts there));
      leaf = λ e. there ∙ alike-leaf [] numbers (says_at T p) (sym here ∙ e);
      leaf_back = λ e. here ∙ alike-leaf numbers [] (says_at T p) (sym there ∙ e);
      round = sym o.0;
      worker = sym o.1;
      origin = o.2;
    }

-- Two lists of places.

nodes-zip : (f : ℕ → LogNode) (g : ℕ → Origin) (order : List ℕ) → seen_nodes (map f order) (map g order) ≡ map (λ p. seen_node (f p) (g p)) order
nodes-zip f g [] = refl
nodes-zip f g (p ∷ order) = ap (λ (x : List Seen). seen_node (f p) (g p) ∷ x) (nodes-zip f g order)

-- the lines with their origins are those of the places
told-seen : (P : Project) (v : Verdict) (T : List Row) (O : List Origin) (ns : List TreeNode) (lines : List LogLine) (origins : List Origin) → Stands P v T ns [] [] → (t : TellsAll T O lines origins) →
    seen_lines P lines origins ≡ map (seen_place t.lines_of.numbers T ns O) t.lines_of.order
told-seen P v T O ns lines origins s t =
    ap (λ (x : List LogNode). seen_nodes x origins) (told-nodes P v T ns lines s t.lines_of)
    ∙ (ap (seen_nodes (map (log_node t.lines_of.numbers T ns) t.lines_of.order)) t.origins_of
    ∙ nodes-zip (log_node t.lines_of.numbers T ns) (λ p. told_origin (slice_index t.lines_of.numbers p) (origin_at O p)) t.lines_of.order)

numbers-In : (i n q : ℕ) → In (numbers_from i n) q → (i ≤ q) × (q < i + n)
numbers-In i zero q m = absurd m
numbers-In i (suc n) q (inl e) = (omega arith, omega arith)
numbers-In i (suc n) q (inr m) = let r = numbers-In (i + 1) n q m in let a = r.0 in let b = r.1 in (omega arith, omega arith)

In-numbers : (i n q : ℕ) → i ≤ q → q < i + n → In (numbers_from i n) q
In-numbers i zero q a b = absurd (omega arith)
In-numbers i (suc n) q a b = elim (cases_eq i q) [ inl e ↦ inl e | inr d ↦ inr (In-numbers (i + 1) n q (omega arith) (omega arith)) ]

numbers-get : (i n k : ℕ) → k < n → slice_get (numbers_from i n) k ≡ Some (i + k)
numbers-get i zero k l = absurd (omega arith)
numbers-get i (suc n) zero l = let e : i ≡ i + 0 = omega arith in ap (λ (x : ℕ). Some x) e
numbers-get i (suc n) (suc k) l = let e : i + 1 + k ≡ i + suc k = omega arith in numbers-get (i + 1) n k (omega arith) ∙ ap (λ (x : ℕ). Some x) e

get-map : {X Y : Type 0} (f : X → Y) (xs : List X) (i : ℕ) (x : X) → slice_get xs i ≡ Some x → slice_get (map f xs) i ≡ Some (f x)
get-map f [] i x e = absurd (cc)
get-map f (y ∷ xs) zero x e = let same : y ≡ x = cc in ap (λ z. Some (f z)) same
get-map f (y ∷ xs) (suc i) x e = get-map f xs i x e

-- what stands at a place of a list that a function made
pub record IsOf {X Y : Type 0} (f : X → Y) (xs : List X) (i : ℕ) (y : Y) : Type 0 where
  pub item : X
  pub at : slice_get xs i ≡ Some item
  pub is : f item ≡ y

map-get : {X Y : Type 0} (f : X → Y) (xs : List X) (i : ℕ) (y : Y) → slice_get (map f xs) i ≡ Some y → IsOf f xs i y
map-get f [] i y e = absurd (cc)
map-get f (x ∷ xs) zero y e = record { item = x; at = refl; is = cc }
map-get f (x ∷ xs) (suc i) y e = let r = map-get f xs i y e in record { item = r.item; at = r.at; is = r.is }

weighs-at : (q : ℕ) (xs : List ℕ) (i : ℕ) → slice_get xs i ≡ Some q → 1 ≤ total (only_at q) xs
weighs-at q [] i e = absurd (cc)
weighs-at q (x ∷ xs) zero e = let same : x ≡ q = cc in let own : only_at q x ≡ only_at q q = ap (only_at q) same in let one = only_at-same q in omega arith
weighs-at q (x ∷ xs) (suc i) e = let ih = weighs-at q xs i e in omega arith

-- what weighs 1 stands once
stands-once : (q : ℕ) (xs : List ℕ) (i k : ℕ) → total (only_at q) xs ≤ 1 → slice_get xs i ≡ Some q → slice_get xs k ≡ Some q → i ≡ k
stands-once q [] i k l a b = absurd (cc)
stands-once q (x ∷ xs) zero zero l a b = refl
stands-once q (x ∷ xs) zero (suc k) l a b = absurd (let same : x ≡ q = cc in let own : only_at q x ≡ only_at q q = ap (only_at q) same in let one = only_at-same q in let more = weighs-at q xs k b in omega arith)
stands-once q (x ∷ xs) (suc i) zero l a b = absurd (let same : x ≡ q = cc in let own : only_at q x ≡ only_at q q = ap (only_at q) same in let one = only_at-same q in let more = weighs-at q xs i a in omega arith)
stands-once q (x ∷ xs) (suc i) (suc k) l a b = ap suc (stands-once q xs i k (omega arith) a b)

get-in : (xs : List ℕ) (i q : ℕ) → slice_get xs i ≡ Some q → In xs q
get-in [] i q e = absurd (cc)
get-in (x ∷ xs) zero q e = inl (cc)
get-in (x ∷ xs) (suc i) q e = inr (get-in xs i q e)

-- Leanness from one order to another.

-- the places of `order` are the first n, each once; f and g see alike what is at a place
pub record IsReordered (n : ℕ) (order : List ℕ) (f g : ℕ → Seen) : Type 0 where
  pub inside : (p : ℕ) → In order p → p < n
  pub has : (p : ℕ) → p < n → In order p
  pub once : (h : ℕ → ℕ) → total h order ≡ total h (numbers_from 0 n)
  pub alike : (p : ℕ) → p < n → IsAlike (f p) (g p)

-- a line in the one order, and the same in the other
record IsSame (n : ℕ) (f g : ℕ → Seen) (all : List Seen) (y : Seen) : Type 0 where
  place : ℕ
  within : place < n
  among : Contains all (f place)
  alike : IsAlike (f place) y

there : (n : ℕ) (order : List ℕ) (f g : ℕ → Seen) → IsReordered n order f g → (y : Seen) → Contains (map g order) y → IsSame n f g (map f (numbers_from 0 n)) y
there n order f g r y c =
    let x = map-In g order y (In-from_Contains (map g order) y c) in
    let p = x.0 in
    let l = r.inside p x.1 in
    record {
      place = p;
      within = l;
      among = Contains-from_In (map f (numbers_from 0 n)) (f p) (In-map f (numbers_from 0 n) p (In-numbers 0 n p (omega arith) (omega arith)));
      alike = subst (IsAlike (f p)) x.2 (r.alike p l);
    }

record IsBack (n : ℕ) (f g : ℕ → Seen) (order : List ℕ) (x : Seen) : Type 0 where
  place : ℕ
  among : Contains (map g order) (g place)
  alike : IsAlike x (g place)

back : (n : ℕ) (order : List ℕ) (f g : ℕ → Seen) → IsReordered n order f g → (x : Seen) → Contains (map f (numbers_from 0 n)) x → IsBack n f g order x
back n order f g r x c =
    let y = map-In f (numbers_from 0 n) x (In-from_Contains (map f (numbers_from 0 n)) x c) in
    let p = y.0 in
    let l : p < n = let w = (numbers-In 0 n p y.1).1 in omega arith in
    record { place = p; among = Contains-from_In (map g order) (g p) (In-map g order p (r.has p l)); alike = subst (λ (z : Seen). IsAlike z (g p)) y.2 (r.alike p l) }

ends-there : (P : Project) (first : Option ℕ) (A B : Seen → Type 0) → ((y : Seen) → B y → (x : Seen) × A x × IsAlike x y) → (e : ℕ) → IsEnd P first B e → IsEnd P first A e
ends-there P first A B go e (of_first is) = of_first is
ends-there P first A B go e (of_leaf y F among said front is) =
    let x = go y among in of_leaf x.0 F x.1 (x.2.leaf_back said) (x.2.front ∙ front) is

ends-back : (P : Project) (first : Option ℕ) (A B : Seen → Type 0) → ((x : Seen) → A x → (y : Seen) × B y × IsAlike x y) → (e : ℕ) → IsEnd P first A e → IsEnd P first B e
ends-back P first A B go e (of_first is) = of_first is
ends-back P first A B go e (of_leaf x F among said front is) =
    let y = go x among in of_leaf y.0 F y.1 (y.2.leaf said) (sym y.2.front ∙ front) is

least-there : (P : Project) (first : Option ℕ) (A B : Seen → Type 0) (e : ℕ) → ((y : Seen) → B y → (x : Seen) × A x × IsAlike x y) → ((x : Seen) → A x → (y : Seen) × B y × IsAlike x y) → IsLeast (IsEnd P first A) e → IsLeast (IsEnd P first B) e
least-there P first A B e go come is = record { attained = ends-back P first A B come e is.attained; least = λ u h. is.least u (ends-there P first A B go u h) }

alike-begun : (P : Project) (workers : ℕ) (starts : List ℕ) (a b : Seen) → IsAlike a b → IsBegun P workers starts a → IsBegun P workers starts b
alike-begun P workers starts a b k is =
    let r = k.round in let w = k.worker in
    let x = is.some_round in let y = is.round in let z = is.some_worker in let u = is.worker in
    record {
      some_round = omega arith;
      round = omega arith;
      some_worker = omega arith;
      worker = omega arith;
      early = λ F n front lower.
          let early = is.early F n (k.front ∙ front) lower in
          let same : slice_index starts (a.origin.round - 1) ≡ slice_index starts (b.origin.round - 1) = ap (λ (m : ℕ). slice_index starts (m - 1)) r in
          omega arith;
    }

alike-in_round : (r : ℕ) (a b : Seen) → IsAlike a b → expands_in r a ≡ expands_in r b
alike-in_round r a b k = ap (λ (x : Bool). x && (a.origin.round == r)) k.expanded ∙ ap (λ (m : ℕ). expands b.said && (m == r)) k.round

count-total : {X : Type 0} (p : X → Bool) (xs : List X) → count_by p xs ≡ total (λ x. cond (p x) 1 0) xs
count-total p xs = sum_by-total (λ x. cond (p x) 1 0) xs

total-same_inside : (f g : ℕ → ℕ) (n i m : ℕ) → i + m ≤ n → ((p : ℕ) → p < n → f p ≡ g p) → total f (numbers_from i m) ≡ total g (numbers_from i m)
total-same_inside f g n i zero l e = refl
total-same_inside f g n i (suc m) l e = let own = e i (omega arith) in let ih = total-same_inside f g n (i + 1) m (omega arith) e in omega arith

few-there : (n : ℕ) (order : List ℕ) (f g : ℕ → Seen) → IsReordered n order f g → (r : ℕ) → count_by (expands_in r) (map g order) ≡ count_by (expands_in r) (map f (numbers_from 0 n))
few-there n order f g k r =
    let one : Seen → ℕ = λ x. cond (expands_in r x) 1 0 in
    let a = count-total (expands_in r) (map g order) in
    let b = total-map one g order in
    let c = k.once (λ p. one (g p)) in
    let d = total-same_inside (λ p. one (f p)) (λ p. one (g p)) n 0 n (omega arith) (λ p l. ap (λ (x : Bool). cond x 1 0) (alike-in_round r (f p) (g p) (k.alike p l))) in
    let e = total-map one f (numbers_from 0 n) in
    let h = count-total (expands_in r) (map f (numbers_from 0 n)) in
    omega arith

alike-parent : (a b x y : Seen) → IsAlike a b → IsAlike x y → 1 ≤ a.origin.worker → IsAfterParent a x → IsAfterParent b y
alike-parent a b x y k m some is =
    let r = k.round in let w = k.worker in let u = m.round in let z = m.worker in
    let l = is.round in
    let own = ap (λ (o : Origin). o.turn) (k.origin some) in
    record {
      round = omega arith;
      turn = λ open_ same_round same_worker.
          let turn = is.turn (m.shut ∙ open_) (omega arith) (omega arith) in
          let other = ap (λ (o : Origin). o.turn) (m.origin (omega arith)) in
          omega arith;
    }

-- the places at which two lines stand
places-same : (P : Project) (workers : ℕ) (first : Option ℕ) (starts : List ℕ) (duration : Option ℕ) (n : ℕ) (order : List ℕ) (f g : ℕ → Seen) → IsReordered n order f g →
    IsLean P workers first starts duration (map f (numbers_from 0 n)) → (i k : ℕ) (s t : Seen) → slice_get (map g order) i ≡ Some s → slice_get (map g order) k ≡ Some t →
    expands_line s ≡ true → expands_line t ≡ true → s.origin ≡ t.origin → i ≡ k
places-same P workers first starts duration n order f g r lean i k s t at_i at_k es et same =
    let x = map-get g order i s at_i in
    let y = map-get g order k t at_k in
    let p = x.item in
    let q = y.item in
    let lp = r.inside p (get-in order i p x.at) in
    let lq = r.inside q (get-in order k q y.at) in
    let ap_ = subst (IsAlike (f p)) x.is (r.alike p lp) in
    let aq = subst (IsAlike (f q)) y.is (r.alike q lq) in
    let ep = ap_.expanded ∙ es in
    let eq_ = aq.expanded ∙ et in
    let bp = lean.begun (f p) (Contains-from_In (map f (numbers_from 0 n)) (f p) (In-map f (numbers_from 0 n) p (In-numbers 0 n p (omega arith) (omega arith)))) ep in
    let bq = lean.begun (f q) (Contains-from_In (map f (numbers_from 0 n)) (f q) (In-map f (numbers_from 0 n) q (In-numbers 0 n q (omega arith) (omega arith)))) eq_ in
    let gp : slice_get (map f (numbers_from 0 n)) p ≡ Some (f p) = get-map f (numbers_from 0 n) p p (numbers-get 0 n p lp ∙ ap (λ (z : ℕ). Some z) (let e : 0 + p ≡ p = omega arith in e)) in
    let gq : slice_get (map f (numbers_from 0 n)) q ≡ Some (f q) = get-map f (numbers_from 0 n) q q (numbers-get 0 n q lq ∙ ap (λ (z : ℕ). Some z) (let e : 0 + q ≡ q = omega arith in e)) in
    let pq : p ≡ q = lean.one p q (f p) (f q) gp gq ep eq_ (ap_.origin bp.some_worker ∙ (same ∙ sym (aq.origin bq.some_worker))) in
    let w = r.once (only_at q) in
    let small = weighs-one q 0 n in
    stands-once q order i k (omega arith) (x.at ∙ ap (λ (z : ℕ). Some z) pq) y.at

lean-there : (P : Project) (workers : ℕ) (first : Option ℕ) (starts : List ℕ) (duration : Option ℕ) (n : ℕ) (order : List ℕ) (f g : ℕ → Seen) → IsReordered n order f g →
    IsLean P workers first starts duration (map f (numbers_from 0 n)) → IsLean P workers first starts duration (map g order)
lean-there P workers first starts duration n order f g r lean = record {
  begun = λ s c e. let x = there n order f g r s c in alike-begun P workers starts (f x.place) s x.alike (lean.begun (f x.place) x.among (x.alike.expanded ∙ e));
  closed = λ s c e.
      let x = there n order f g r s c in
      let w = x.alike.worker in
      let m = x.alike.round in
      let own = lean.closed (f x.place) x.among (omega arith) in
      omega arith;
  few = λ m. let a = few-there n order f g r m in let b = lean.few m in omega arith;
  one = places-same P workers first starts duration n order f g r lean;
  new = λ s t F A cs ct es et known at_t at_s dominates.
      let x = there n order f g r s cs in
      let y = there n order f g r t ct in
      let ex = x.alike.expanded ∙ es in
      let ey = y.alike.expanded ∙ et in
      let bx = lean.begun (f x.place) x.among ex in
      let by_ = lean.begun (f y.place) y.among ey in
      let known_ : IsKnown (f y.place).origin (f x.place).origin = subst (λ (o : Origin). IsKnown (f y.place).origin o) (sym (x.alike.origin bx.some_worker))
      (subst (λ (o : Origin). IsKnown o s.origin) (sym (y.alike.origin by_.some_worker)) known) in
      lean.new (f x.place) (f y.place) F A x.among y.among ex ey known_ (y.alike.front ∙ at_t) (x.alike.front ∙ at_s) dominates;
  parents = λ s t F c cs ct et at_t branch.
      let x = there n order f g r s cs in
      let y = there n order f g r t ct in
      let ey = y.alike.expanded ∙ et in
      let by_ = lean.begun (f y.place) y.among ey in
      let k = lean.parents (f x.place) (f y.place) F c x.among y.among ey (y.alike.front ∙ at_t) (x.alike.branch ∙ branch) in
      alike-parent (f y.place) t (f x.place) s y.alike x.alike by_.some_worker k;
  starts_least = λ i l. least-there P first (IsOfFirst (map f (numbers_from 0 n)) i) (IsOfFirst (map g order) i) (slice_index starts i)
      (λ y m. let x = there n order f g r y m.among in let e = x.alike.round in let w = m.round in (f x.place, record { among = x.among; round = omega arith }, x.alike))
      (λ x m. let y = back n order f g r x m.among in let e = y.alike.round in let w = m.round in (g y.place, record { among = y.among; round = omega arith }, y.alike))
      (lean.starts_least i l);
  duration_least = least-there P first (Contains (map f (numbers_from 0 n))) (Contains (map g order)) (end_number duration)
      (λ y m. let x = there n order f g r y m in (f x.place, x.among, x.alike))
      (λ x m. let y = back n order f g r x m in (g y.place, y.among, y.alike))
      lean.duration_least;
}

told-turn : (number : ℕ) (o : Origin) (b : Bool) → (o.worker == 0) ≡ b → (told_origin number o).worker ≡ 0 → (told_origin number o).turn ≡ number
told-turn number o true e w = ap (λ (x : Bool). (if x then record o { turn = number } else o).turn) e
told-turn number o false e w =
    let same : told_origin number o ≡ o = ap (λ (x : Bool). if x then record o { turn = number } else o) e in
    let none : o.worker ≡ 0 = sym (ap (λ (x : Origin). x.worker) same) ∙ w in
    let yes_ : (o.worker == 0) ≡ true = eq-eqb o.worker 0 none in
    absurd (let bad : true ≡ false = sym yes_ ∙ e in cc)

-- the turn of what was closed at the end
closed-turn : (T : List Row) (O : List Origin) (lines : List LogLine) (origins : List Origin) → IsWhole T → (t : TellsAll T O lines origins) → (i : ℕ) (origin : Origin) → slice_get origins i ≡ Some origin →
    origin.worker ≡ 0 → origin.turn ≡ i + 1
closed-turn T O lines origins whole t i origin at w =
    let numbers = t.lines_of.numbers in
    let order = t.lines_of.order in
    let g : ℕ → Origin = λ p. told_origin (slice_index numbers p) (origin_at O p) in
    let x = map-get g order i origin (sym (ap (λ (os : List Origin). slice_get os i) t.origins_of) ∙ at) in
    let p = x.item in
    let passes = passes-all T whole order t.lines_of.walk in
    let among = get-in order i p x.at in
    let h = t.lines_of.numbered p (Contains-from_In order p among) in
    let l = Each-In (IsPlace T) order p passes.inside among in
    let once = passes.once (only_at p) in
    let one = place-once no_row T p l in
    let same : h.index ≡ i = stands-once p order h.index i (omega arith) h.stands x.at in
    let none : (g p).worker ≡ 0 = ap (λ (o : Origin). o.worker) x.is ∙ w in
    let turn = told-turn (slice_index numbers p) (origin_at O p) ((origin_at O p).worker == 0) refl none in
    let own = ap (λ (o : Origin). o.turn) x.is in
    let number = h.number in
    omega arith

pub lean_law : LeanLaw
lean_law P v T O ns workers first starts duration lines origins s t lean =
    let N = t.lines_of.numbers in
    let order = t.lines_of.order in
    let w = passes-all T (whole_law P v T ns s) order t.lines_of.walk in
    let r : IsReordered (length T) order (seen_row T ns O) (seen_place N T ns O) = record {
      inside = λ p i. Each-In (IsPlace T) order p w.inside i;
      has = λ p l. In-from_weight p order (let a = w.once (only_at p) in let b = place-once no_row T p l in omega arith);
      once = λ h. w.once h ∙ numbers-total h 0 T;
      alike = place-alike P v T O ns N s;
    } in
    record {
      size =
          let a = ap length t.origins_of in
          let b = ap length t.lines_of.are in
          let c = length-map order (λ p. told_origin (slice_index N p) (origin_at O p)) in
          let d = length-map order (λ p. line_of N (row_at T p)) in
          omega arith;
      closed = closed-turn T O lines origins (whole_law P v T ns s) t;
      lean = subst (IsLean P workers first starts duration) (sym (told-seen P v T O ns lines origins s t))
          (lean-there P workers first starts duration (length T) order (seen_row T ns O) (seen_place N T ns O) r lean);
    }
