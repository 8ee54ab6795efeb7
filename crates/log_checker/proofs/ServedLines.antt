-- Citations of a log, by what is kept of its lines.
use Rattle.std.proofs.Common.{◌≡◌, ℕ, zero, suc, ◌+◌, ◌<◌, ◌≤◌, inl, inr, arith, refl, sym, ap, subst, ◌∙◌, List, [], ◌∷◌, ◌++◌, length, map, Bool, true, false, Option, Some, None}
use Rattle.std.specs.Prelude.{nat_eq, slice_get, slice_index, ◌⊎◌, ◌↔◌, IfSome, IsTrue}
use Rattle.std.specs.List.{AllZip}
use Rattle.std.proofs.lemmas.Bool.{eqb-true, eq-eqb}
use Rattle.rcpsp_model.specs.declared.parts.Entry.{Entry}
use Rattle.rcpsp_model.specs.declared.parts.Verdict.{Verdict}
use Rattle.rcpsp_model.specs.declared.parts.Verdict.TheVariants.{Limit}
use Rattle.rcpsp_model.specs.Project.{Project}
use Rattle.rcpsp_model.specs.Chain.{IsLeast}
use Rattle.rcpsp_model.specs.Dominance.{Dominates}
use Rattle.rcpsp_model.proofs.Lists.{In, All-from_In}
use Rattle.rcpsp_model.proofs.Numbers.{least-one}
use Rattle.proof_log.specs.declared.report.LogLine.{LogLine}
use Rattle.log_truth.specs.Fates.{Saying, says_expanded, says_late, says_dominated, says_shut}
use Rattle.log_truth.specs.Log.{Branch, at_root, says, is_expanded, below, LogNode, front_of, nodes_from, nodes}
use Rattle.log_truth.specs.Holds.{numbered, Cites, CitesWell, IsServed, IsLeftNumber, HasLower}
use Rattle.log_truth.specs.Refusal.{IsFirstUnserved}
use Rattle.log_checker.specs.declared.walk.Root.{Root}
use Rattle.log_checker.specs.declared.walk.Root.TheVariants.{Wanted, Came, Cites as RootCites}
use Rattle.log_checker.specs.declared.walk.Grown.{Grown}
use Rattle.log_checker.specs.declared.walk.Citing.{Citing}
use Rattle.log_checker.specs.declared.walk.Walk.{Walk}
use Rattle.log_checker.specs.Walk.{Mark, mark_at, marks_from, Citation, citation_at, citations_from, mark_of, IsKeptAs, AreKept, IsLeastLeft, Stands}
use Rattle.log_checker.specs.Citations.{IsServedBy, IsFirstBad, numbers_of, Ascends, IsFirstOf}

-- The marks of the nodes, and back.

some-same : {X : Type 0} (x y : X) → Some x ≡ Some y → x ≡ y
some-same x y e = cc

record IsNodeAt (ns : List LogNode) (i : ℕ) (m : Mark) : Type 0 where
  place : ℕ
  node : LogNode
  at : slice_get ns place ≡ Some node
  line : m.line ≡ i + place
  expanded : is_expanded node.line ≡ true
  front : front_of node ≡ Some m.front

later : (n : LogNode) (ns : List LogNode) (i : ℕ) (m : Mark) → IsNodeAt ns (i + 1) m → IsNodeAt (n ∷ ns) i m
later n ns i m is = record { place = suc is.place; node = is.node; at = is.at; line = (let e = is.line in omega arith); expanded = is.expanded; front = is.front }

marks-node : (ns : List LogNode) (i place : ℕ) (m : Mark) → slice_get (marks_from i ns) place ≡ Some m → IsNodeAt ns i m
marks-node [] i place m e = absurd (cc)
marks-node (n ∷ ns) i place m e = at (λ k h. marks-node ns (i + 1) k m h) (is_expanded n.line) (front_of n) place refl refl e
  where
    at : ((k : ℕ) → slice_get (marks_from (i + 1) ns) k ≡ Some m → IsNodeAt ns (i + 1) m) → (x : Bool) (o : Option (List Entry)) (k : ℕ) → is_expanded n.line ≡ x → front_of n ≡ o → slice_get (mark_at i x o ++ marks_from (i + 1) ns) k ≡ Some m → IsNodeAt (n ∷ ns) i m
    at up true (Some F) zero x o h =
        let same = some-same (record { line = i; front = F }) m h in
        record { place = 0; node = n; at = refl; line = ap (λ (y : Mark). y.line) (sym same) ∙ (let e2 : i ≡ i + 0 = omega arith in e2); expanded = x; front = o ∙ ap (λ (y : Mark). Some y.front) same }
    at up true (Some F) (suc k) x o h = later n ns i m (up k h)
    at up true None k x o h = later n ns i m (up k h)
    at up false o2 k x o h = later n ns i m (up k h)

record IsMarkAt (ms : List Mark) (m : Mark) : Type 0 where
  place : ℕ
  at : slice_get ms place ≡ Some m

node-mark : (ns : List LogNode) (i k : ℕ) (n : LogNode) (F : List Entry) → slice_get ns k ≡ Some n → is_expanded n.line ≡ true → front_of n ≡ Some F → IsMarkAt (marks_from i ns) (record { line = i + k; front = F })
node-mark [] i k n F e x o = absurd (cc)
node-mark (y ∷ ns) i zero n F e x o =
    let same = some-same y n e in
    let first : mark_at i (is_expanded y.line) (front_of y) ≡ record { line = i; front = F } ∷ [] =
    ap (λ (b : Bool). mark_at i b (front_of y)) (ap (λ (z : LogNode). is_expanded z.line) same ∙ x) ∙ ap (mark_at i true) (ap front_of same ∙ o) in
    let number : i ≡ i + 0 = omega arith in
    record {
      place = 0;
      at = ap (λ (ms : List Mark). slice_get (ms ++ marks_from (i + 1) ns) 0) first ∙ ap (λ (j : ℕ). let m : Mark = record { line = j; front = F } in Some m) number;
    }
node-mark (y ∷ ns) i (suc k) n F e x o =
    let up = node-mark ns (i + 1) k n F e x o in
    let number : i + 1 + k ≡ i + suc k = omega arith in
    let there : slice_get (marks_from (i + 1) ns) up.place ≡ Some (record { line = i + suc k; front = F }) = up.at ∙ ap (λ (j : ℕ). let m : Mark = record { line = j; front = F } in Some m) number in
    at (is_expanded y.line) (front_of y) up.place there
  where
    at : (b : Bool) (q : Option (List Entry)) (p : ℕ) → slice_get (marks_from (i + 1) ns) p ≡ Some (record { line = i + suc k; front = F }) → IsMarkAt (mark_at i b q ++ marks_from (i + 1) ns) (record { line = i + suc k; front = F })
    at true (Some G) p h = record { place = suc p; at = h }
    at true None p h = record { place = p; at = h }
    at false q p h = record { place = p; at = h }

record IsItemAt (xs : List Grown) (i : ℕ) (m : Mark) : Type 0 where
  item : Grown
  at : slice_get xs i ≡ Some item
  is : mark_of item ≡ m

get-map : (xs : List Grown) (i : ℕ) (m : Mark) → slice_get (map mark_of xs) i ≡ Some m → IsItemAt xs i m
get-map [] i m e = absurd (cc)
get-map (x ∷ xs) zero m e = record { item = x; at = refl; is = some-same (mark_of x) m e }
get-map (x ∷ xs) (suc i) m e = let r = get-map xs i m e in record { item = r.item; at = r.at; is = r.is }

map-get : (xs : List Grown) (i : ℕ) (g : Grown) → slice_get xs i ≡ Some g → slice_get (map mark_of xs) i ≡ Some (mark_of g)
map-get [] i g e = absurd (cc)
map-get (x ∷ xs) zero g e = ap (λ (y : Grown). Some (mark_of y)) (some-same x g e)
map-get (x ∷ xs) (suc i) g e = map-get xs i g e

-- One citation.

cites-by : (P : Project) (all : List LogNode) (grown : List Grown) (c : Citation) → map mark_of grown ≡ marks_from 1 all → IsServedBy P grown c → Cites P all c.cited c.front
cites-by P all grown c same s =
    let m = marks-node all 1 s.place (mark_of s.own) (ap (λ (ms : List Mark). slice_get ms s.place) (sym same) ∙ map-get grown s.place s.own s.at) in
    let number : c.cited ≡ suc m.place = let e = m.line in let f = s.line in omega arith in
    record {
      cited = m.node;
      number = ap (numbered all) number ∙ m.at;
      expanded = m.expanded;
      front = s.own.front.front;
      is_its = m.front;
      dominates = s.dominates;
    }

by-cites : (P : Project) (all : List LogNode) (grown : List Grown) (c : Citation) → map mark_of grown ≡ marks_from 1 all → Cites P all c.cited c.front → IsServedBy P grown c
by-cites P all grown c same h = at c.cited refl h.number
  where
    at : (i : ℕ) → c.cited ≡ i → numbered all i ≡ Some h.cited → IsServedBy P grown c
    at zero e n = absurd (cc)
    at (suc k) e n =
        let m = node-mark all 1 k h.cited h.front n h.expanded h.is_its in
        let r = get-map grown m.place (record { line = 1 + k; front = h.front }) (ap (λ (ms : List Mark). slice_get ms m.place) same ∙ m.at) in
        let line : r.item.line ≡ 1 + k = ap (λ (y : Mark). y.line) r.is in
        let front : r.item.front.front ≡ h.front = ap (λ (y : Mark). y.front) r.is in
        record { place = m.place; own = r.item; at = r.at; line = (let l = line in let f = e in omega arith); dominates = subst (λ (F : List Entry). Dominates P F c.front) (sym front) h.dominates }

-- All citations, in the order of the lines.

step : (P : Project) (all : List LogNode) (grown : List Grown) (i : ℕ) (s : Saying) (o : Option (List Entry)) (cs : List Citation) (n : Option ℕ) → map mark_of grown ≡ marks_from 1 all → IsFirstBad P grown (citation_at i s o ++ cs) n →
    ((IfSome o (λ F. CitesWell P all F s) → ⊥) × (n ≡ Some i)) ⊎ (IfSome o (λ F. CitesWell P all F s) × IsFirstBad P grown cs n)
step P all grown i (says_dominated c) (Some F) cs n same (inl h) = inl (λ cites. h.0 (by-cites P all grown (record { line = i; cited = c; front = F }) same cites), h.1)
step P all grown i (says_dominated c) (Some F) cs n same (inr h) = inr (cites-by P all grown (record { line = i; cited = c; front = F }) same h.0, h.1)
step P all grown i (says_dominated c) None cs n same h = inr (tt, h)
step P all grown i says_expanded None cs n same h = inr (tt, h)
step P all grown i says_expanded (Some F) cs n same h = inr (tt, h)
step P all grown i (says_late r) None cs n same h = inr (tt, h)
step P all grown i (says_late r) (Some F) cs n same h = inr (tt, h)
step P all grown i (says_shut why) None cs n same h = inr (tt, h)
step P all grown i (says_shut why) (Some F) cs n same h = inr (tt, h)

FirstOf : Project → List LogNode → ℕ → List LogNode → Option ℕ → Type 0
FirstOf P all i ns None = (x : LogNode) → In ns x → IsServed P all x
FirstOf P all i ns (Some m) = IsFirstUnserved P all i ns m × (m < i + length ns)

more-served : (P : Project) (all : List LogNode) (i : ℕ) (x : LogNode) (ns : List LogNode) (n : Option ℕ) → IsServed P all x → FirstOf P all (i + 1) ns n → FirstOf P all i (x ∷ ns) n
unfolding FirstOf
more-served P all i x ns None own rest = λ y j. elim j [ inl e ↦ subst (IsServed P all) e own | inr k ↦ rest y k ]
more-served P all i x ns (Some m) own rest = (inr (own, rest.0), let low = rest.1 in omega arith)

first-of : (P : Project) (all : List LogNode) (grown : List Grown) (i : ℕ) (ns : List LogNode) (n : Option ℕ) → map mark_of grown ≡ marks_from 1 all → IsFirstBad P grown (citations_from i ns) n → FirstOf P all i ns n
unfolding FirstOf
first-of P all grown i [] n same h = subst (FirstOf P all i []) (sym h) (λ x j. absurd j)
first-of P all grown i (x ∷ ns) n same h = elim (step P all grown i (says x.line) (front_of x) (citations_from (i + 1) ns) n same h) [
  | inl bad ↦ subst (FirstOf P all i (x ∷ ns)) (sym bad.1) (inl (refl, bad.0), let low : i < i + length (x ∷ ns) = omega arith in low)
  | inr good ↦ more-served P all i x ns n good.0 (first-of P all grown (i + 1) ns n same good.1)
]

-- The numbers of the marks ascend.

AscFrom : ℕ → List ℕ → Type 0
AscFrom low [] = Unit {0}
AscFrom low (x ∷ xs) = (low ≤ x) × AscFrom (x + 1) xs

asc-lower : (a b : ℕ) (xs : List ℕ) → a ≤ b → AscFrom b xs → AscFrom a xs
unfolding AscFrom
asc-lower a b [] le h = tt
asc-lower a b (x ∷ xs) le h = (let low = h.0 in omega arith, h.1)

asc-mark : (i : ℕ) (ns : List LogNode) (x : Bool) (o : Option (List Entry)) → AscFrom (i + 1) (map (λ (m : Mark). m.line) (marks_from (i + 1) ns)) → AscFrom i (map (λ (m : Mark). m.line) (mark_at i x o ++ marks_from (i + 1) ns))
unfolding AscFrom
asc-mark i ns true (Some F) up = (let low : i ≤ i = omega arith in low, up)
asc-mark i ns true None up = asc-lower i (i + 1) (map (λ (m : Mark). m.line) (marks_from (i + 1) ns)) (omega arith) up
asc-mark i ns false o up = asc-lower i (i + 1) (map (λ (m : Mark). m.line) (marks_from (i + 1) ns)) (omega arith) up

asc-marks : (i : ℕ) (ns : List LogNode) → AscFrom i (map (λ (m : Mark). m.line) (marks_from i ns))
unfolding AscFrom
asc-marks i [] = tt
asc-marks i (n ∷ ns) = asc-mark i ns (is_expanded n.line) (front_of n) (asc-marks (i + 1) ns)

asc-least : (low : ℕ) (xs : List ℕ) → AscFrom low xs → (k : ℕ) → k < length xs → low ≤ slice_index xs k
unfolding AscFrom
asc-least low [] h k within = absurd (omega arith)
asc-least low (x ∷ xs) h zero within = h.0
asc-least low (x ∷ xs) h (suc k) within = let up = asc-least (x + 1) xs h.1 k (omega arith) in let first = h.0 in omega arith

asc-index : (low : ℕ) (xs : List ℕ) → AscFrom low xs → Ascends xs
unfolding AscFrom
asc-index low [] h i k less within = absurd (omega arith)
asc-index low (x ∷ xs) h zero zero less within = absurd (omega arith)
asc-index low (x ∷ xs) h zero (suc k) less within = let up = asc-least (x + 1) xs h.1 k (omega arith) in omega arith
asc-index low (x ∷ xs) h (suc i) zero less within = absurd (omega arith)
asc-index low (x ∷ xs) h (suc i) (suc k) less within = asc-index (x + 1) xs h.1 i k (omega arith) (omega arith)

numbers-marks : (grown : List Grown) → numbers_of grown ≡ map (λ (m : Mark). m.line) (map mark_of grown)
numbers-marks [] = refl
numbers-marks (g ∷ grown) = ap (λ (xs : List ℕ). g.line ∷ xs) (numbers-marks grown)

pub ascends : (all : List LogNode) (grown : List Grown) → map mark_of grown ≡ marks_from 1 all → Ascends (numbers_of grown)
ascends all grown same =
    subst Ascends (sym (numbers-marks grown ∙ ap (map (λ (m : Mark). m.line)) same)) (asc-index 1 (map (λ (m : Mark). m.line) (marks_from 1 all)) (asc-marks 1 all))

-- The log of a walk.

nodes-few : (P : Project) (bs : List Branch) (ls : List LogLine) → length (nodes_from P bs ls) ≤ length ls
nodes-few P bs [] = omega arith
nodes-few P [] (l ∷ ls) = omega arith
nodes-few P (b ∷ bs) (l ∷ ls) = let up = nodes-few P (below P b l ++ bs) ls in omega arith

first-lines : (P : Project) (ls : List LogLine) (n : Option ℕ) → FirstOf P (nodes P ls) 1 (nodes P ls) n → IsFirstOf P ls n
unfolding FirstOf
first-lines P ls None h = All-from_In (IsServed P (nodes P ls)) (nodes P ls) h
first-lines P ls (Some m) h = (h.0, let few = nodes-few P (at_root ∷ []) ls in let low = h.1 in omega arith)

-- a root that cites has no line beside it, and so is served by none
pub root-first_of : (P : Project) (v : Verdict) (w : Walk) (ls : List LogLine) → w.root ≡ RootCites → Stands P v w ls → IsFirstOf P ls (Some 1)
root-first_of P v w ls cites s =
    let kept = subst (λ (r : Root). AreKept P r w.grown.items w.citing.items (citations_from 1 (nodes P ls))) cites s.kept in
    let bad : IsFirstBad P w.grown.items (record { line = 1; cited = kept.1.0; front = [] } ∷ []) (Some 1) = inl (λ by. none by.place by.own (ap (λ (gs : List Grown). slice_get gs by.place) (sym kept.0) ∙ by.at), refl) in
    first-lines P ls (Some 1) (first-of P (nodes P ls) w.grown.items 1 (nodes P ls) (Some 1) s.marks (subst (λ (cs : List Citation). IsFirstBad P w.grown.items cs (Some 1)) (sym kept.1.1) bad))
  where
    none : (i : ℕ) (g : Grown) → slice_get [] i ≡ Some g → ⊥
    none i g e = cc

zip-kept : (P : Project) (r : Root) (grown : List Grown) (ks : List Citing) (cs : List Citation) → (r ≡ RootCites → ⊥) → AreKept P r grown ks cs → AllZip (IsKeptAs P grown) cs ks
zip-kept P Wanted grown ks cs no_ k = k
zip-kept P Came grown ks cs no_ k = k
zip-kept P RootCites grown ks cs no_ k = absurd (no_ refl)

pub kept-first_of : (P : Project) (v : Verdict) (w : Walk) (ls : List LogLine) (n : Option ℕ) → (w.root ≡ RootCites → ⊥) → Stands P v w ls →
    ((cs : List Citation) → AllZip (IsKeptAs P w.grown.items) cs w.citing.items → Ascends (numbers_of w.grown.items) → IsFirstBad P w.grown.items cs n) → IsFirstOf P ls n
kept-first_of P v w ls n other s f =
    first-lines P ls n (first-of P (nodes P ls) w.grown.items 1 (nodes P ls) n s.marks
    (f (citations_from 1 (nodes P ls)) (zip-kept P w.root w.grown.items w.citing.items (citations_from 1 (nodes P ls)) other s.kept) (ascends (nodes P ls) w.grown.items s.marks)))

-- The lower bound.

pub lower-limit : (ls : List LogLine) (least : Option ℕ) (d : Option ℕ) (b : ℕ) → IsLeastLeft ls least → (least ≡ Some b) ↔ HasLower (Limit d b) ls
lower-limit ls None d b is = (λ e. absurd (cc), λ h. absurd (is b h.attained))
lower-limit ls (Some a) d b is = (λ e. subst (IsLeast (IsLeftNumber ls)) (some-same a b e) is, λ h. ap (λ (n : ℕ). Some n) (least-one (IsLeftNumber ls) a b is h))

pub not-cites : (r : Root) → (r ≡ Wanted) ⊎ (r ≡ Came) → r ≡ RootCites → ⊥
not-cites r (inl w) c = let e = w in cc
not-cites r (inr w) c = let e = w in cc

least-limit : (v : Verdict) (ls : List LogLine) (least d : Option ℕ) (b : ℕ) (x : Bool) → v ≡ Limit d b → (IsTrue x ↔ (least ≡ Some b)) → IsLeastLeft ls least → IsTrue x ↔ HasLower v ls
least-limit v ls least d b x is same left =
    let low = lower-limit ls least d b left in
    subst (λ (y : Verdict). IsTrue x ↔ HasLower y ls) (sym is) (λ t. low.0 (same.0 t), λ h. same.1 (low.1 h))

equal-test : (a b : ℕ) → IsTrue (nat_eq a b) ↔ (Some a ≡ Some b)
equal-test a b = (λ t. ap (λ (n : ℕ). Some n) (eqb-true a b t), λ e. eq-eqb a b (some-same a b e))

pub lower-some : (v : Verdict) (ls : List LogLine) (least d : Option ℕ) (a b : ℕ) → v ≡ Limit d b → least ≡ Some a → IsLeastLeft ls least → IsTrue (nat_eq a b) ↔ HasLower v ls
lower-some v ls least d a b is some left =
    let test = equal-test a b in
    least-limit v ls least d b (nat_eq a b) is (λ t. some ∙ test.0 t, λ e. test.1 (sym some ∙ e)) left

pub lower-none : (v : Verdict) (ls : List LogLine) (least d : Option ℕ) (b : ℕ) → v ≡ Limit d b → least ≡ None → IsLeastLeft ls least → IsTrue false ↔ HasLower v ls
lower-none v ls least d b is none left = least-limit v ls least d b false is (λ t. absurd (let bad : false ≡ true = t in cc), λ e. let bad : None ≡ Some b = sym none ∙ e in absurd (cc)) left
