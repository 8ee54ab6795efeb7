-- No front has two lines: the fronts below two branches that are wanted differ.
use Rattle.std.proofs.Common.{◌≡◌, ℕ, zero, suc, ◌+◌, inl, inr, arith, refl, sym, ap, ◌∙◌, subst, append_assoc, List, [], ◌∷◌, ◌++◌, length, length-append, Bool, true, false, cond, Option, Some, None}
use Rattle.std.specs.Prelude.{slice_get, filter, map}
use Rattle.std.specs.List.{flat_map}
use Rattle.rcpsp_model.specs.declared.parts.Entry.{Entry}
use Rattle.rcpsp_model.specs.Project.{Project, jobs, job_count, modes_of, numbers_from}
use Rattle.rcpsp_model.specs.Tree.{Choice, choices_of, choices, is_eligible, entry_at}
use Rattle.rcpsp_model.proofs.Lists.{In, In-append, In-filter, In-from_Contains}
use Rattle.rcpsp_model.proofs.LeastModes.{numbers-range}
use Rattle.rcpsp_model.proofs.Choices.{map-In}
use Rattle.proof_log.specs.declared.report.LogLine.{LogLine}
use Rattle.log_truth.specs.Log.{Branch, at_root, by_choice, is_expanded, extended_by, front_at, expanded_branches, below, AreLogs, LogNode, front_of, nodes_from, nodes}
use Rattle.log_truth.specs.Holds.{numbered}
use Rattle.log_truth.specs.Laws.{OneNodeLaw, OneLineLaw, FrontNumberLaw}
use Rattle.log_truth.proofs.JoinedLogs.{below-is}

-- no element stands again after its place
abbrev Unlike : {X : Type 0} → List X → Type 0
Unlike [] = Unit {0}
Unlike (x ∷ xs) = (In xs x → ⊥) × Unlike xs

numbers-unlike : (i n : ℕ) → Unlike (numbers_from i n)
numbers-unlike i zero = tt
numbers-unlike i (suc n) = (λ m. let r = numbers-range (i + 1) n i m in let low = r.0 in omega arith, numbers-unlike (i + 1) n)

filter-unlike : {X : Type 0} (p : X → Bool) (xs : List X) → Unlike xs → Unlike (filter p xs)
filter-unlike p [] u = tt
filter-unlike {X = X} p (x ∷ xs) u =
    let ih = filter-unlike p xs u.1 in
    elim (p x) as (λ b. Unlike (cond b (x ∷ filter p xs) (filter p xs))) [ true ↦ (λ i. u.0 (In-filter p xs x i).0, ih) | false ↦ ih ]

map-unlike : {X Y : Type 0} (f : X → Y) (xs : List X) → ((x y : X) → f x ≡ f y → x ≡ y) → Unlike xs → Unlike (map f xs)
map-unlike f [] one u = tt
map-unlike {X = X} f (x ∷ xs) one u =
    (λ i. let r = map-In f xs (f x) i in u.0 (subst (In xs) (one r.0 x r.2) r.1), map-unlike f xs one u.1)

append-unlike : {X : Type 0} (xs ys : List X) → Unlike xs → Unlike ys → ((x : X) → In xs x → In ys x → ⊥) → Unlike (xs ++ ys)
append-unlike [] ys u w apart = w
append-unlike (x ∷ xs) ys u w apart =
    (λ i. elim (In-append xs ys x i) [ inl j ↦ u.0 j | inr j ↦ apart x (inl refl) j ], append-unlike xs ys u.1 w (λ y i j. apart y (inr i) j))

flat-In : {X Y : Type 0} (f : X → List Y) (xs : List X) (y : Y) → In (flat_map f xs) y → (x : X) × In xs x × In (f x) y
flat-In f [] y i = absurd i
flat-In f (x ∷ xs) y i = elim (In-append (f x) (flat_map f xs) y i) [
  | inl j ↦ (x, inl refl, j)
  | inr j ↦ let r = flat-In f xs y j in (r.0, inr r.1, r.2)
]

-- A front has no choice twice: those of one job differ in their modes, and those of two jobs in their jobs.
of_job : (P : Project) (j : ℕ) (c : Choice) → In (choices_of P j) c → c.job ≡ j
of_job P j c i = let r = map-In (λ m. record { job = j; mode = m }) (numbers_from 1 (length (modes_of P j))) c i in sym (ap (λ (x : Choice). x.job) r.2)

choices_of-unlike : (P : Project) (j : ℕ) → Unlike (choices_of P j)
choices_of-unlike P j = map-unlike (λ m. record { job = j; mode = m }) (numbers_from 1 (length (modes_of P j))) (λ m n e. ap (λ (c : Choice). c.mode) e) (numbers-unlike 1 (length (modes_of P j)))

flat-unlike : (P : Project) (js : List ℕ) → Unlike js → Unlike (flat_map (choices_of P) js)
flat-unlike P [] u = tt
flat-unlike P (j ∷ js) u =
    append-unlike (choices_of P j) (flat_map (choices_of P) js) (choices_of-unlike P j) (flat-unlike P js u.1)
    (λ c i k. let r = flat-In (choices_of P) js c k in u.0 (subst (In js) (sym (of_job P r.0 c r.2) ∙ of_job P j c i) r.1))

choices-unlike : (P : Project) (F : List Entry) → Unlike (choices P F)
choices-unlike P F = flat-unlike P (filter (is_eligible P F) (jobs P)) (filter-unlike (is_eligible P F) (jobs P) (numbers-unlike 1 (job_count P)))

-- F begins with a front on the branch
abbrev IsUnder : Branch → List Entry → Type 0
IsUnder at_root F = Unit {0}
IsUnder (by_choice G c) F = (t : ℕ) × (rest : List Entry) × (G ++ entry_at c.job c.mode t ∷ rest ≡ F)

-- no front is under two of the branches
abbrev AreApart : List Branch → Type 0
AreApart [] = Unit {0}
AreApart (b ∷ bs) = ((c : Branch) → In bs c → (F : List Entry) → IsUnder b F → IsUnder c F → ⊥) × AreApart bs

apart-append : (bs cs : List Branch) → AreApart bs → AreApart cs → ((b c : Branch) → In bs b → In cs c → (F : List Entry) → IsUnder b F → IsUnder c F → ⊥) → AreApart (bs ++ cs)
apart-append [] cs a d cross = d
apart-append (b ∷ bs) cs a d cross = (
  λ c i F u w. elim (In-append bs cs c i) [ inl j ↦ a.0 c j F u w | inr j ↦ cross b c (inl refl) j F u w ],
  apart-append bs cs a.1 d (λ x c i j. cross x c (inr i) j),
)

under-extended : (G F : List Entry) (c : Choice) (start : Option ℕ) → extended_by G c start ≡ Some F → IsUnder (by_choice G c) F
under-extended G F c None e = absurd (cc)
under-extended G F c (Some t) e = (t, [], cc)

under-own : (b : Branch) (l : LogLine) (F : List Entry) → front_at b l ≡ Some F → IsUnder b F
under-own at_root l F e = tt
under-own (by_choice G c) l F e = under-extended G F c l.start e

under-more : (b : Branch) (F more : List Entry) → IsUnder b F → IsUnder b (F ++ more)
under-more at_root F more u = tt
under-more (by_choice G c) F more u =
    (u.0, u.1 ++ more, sym (append_assoc G (entry_at c.job c.mode u.0 ∷ u.1) more) ∙ ap (λ (x : List Entry). x ++ more) u.2)

-- what is under a branch below a line is under the line's branch, and longer than its front
under-below : (P : Project) (b c : Branch) (l : LogLine) (F : List Entry) → In (below P b l) c → IsUnder c F → IsUnder b F × ((front_at b l ≡ Some F) → ⊥)
unfolding below
under-below P b c l F i u =
    let x = below-is P (is_expanded l) (front_at b l) c i in
    let at : IsUnder (by_choice x.front x.choice) F = subst (λ (y : Branch). IsUnder y F) (sym x.branch) u in
    let longer = under-more b x.front (entry_at x.choice.job x.choice.mode at.0 ∷ at.1) (under-own b l x.front x.is_its) in (
      subst (IsUnder b) at.2 longer,
      λ same.
          let is : Some x.front ≡ Some F = sym x.is_its ∙ same in
          let front : x.front ≡ F = cc in
          let n = ap (λ (y : List Entry). length y) at.2 in
          let m = length-append x.front (entry_at x.choice.job x.choice.mode at.0 ∷ at.1) in
          let k = ap (λ (y : List Entry). length y) front in
          omega arith,
    )

cancel : {X : Type 0} (xs ys zs : List X) → xs ++ ys ≡ xs ++ zs → ys ≡ zs
cancel [] ys zs e = e
cancel (x ∷ xs) ys zs e = cancel xs ys zs (cc)

same_choice : (c d : Choice) (t u : ℕ) (r s : List Entry) → entry_at c.job c.mode t ∷ r ≡ entry_at d.job d.mode u ∷ s → c ≡ d
same_choice c d t u r s e =
    let one : entry_at c.job c.mode t ≡ entry_at d.job d.mode u = cc in
    let j = ap (λ (x : Entry). x.job) one in let m = ap (λ (x : Entry). x.mode) one in
    ◌∙◌ {b = record { job = d.job; mode = c.mode }} (ap (λ (i : ℕ). record { job = i; mode = c.mode }) j) (ap (λ (i : ℕ). record { job = d.job; mode = i }) m)

children-apart : (F : List Entry) (cs : List Choice) → Unlike cs → AreApart (map (λ c. by_choice F c) cs)
children-apart F [] u = tt
children-apart F (c ∷ cs) u = (
  λ b i G under other.
      let r = map-In (λ x. by_choice F x) cs b i in
      let at : IsUnder (by_choice F r.0) G = subst (λ (x : Branch). IsUnder x G) (sym r.2) other in
      let same = cancel F (entry_at c.job c.mode under.0 ∷ under.1) (entry_at r.0.job r.0.mode at.0 ∷ at.1) (under.2 ∙ sym at.2) in
      u.0 (subst (In cs) (sym (same_choice c r.0 under.0 at.0 under.1 at.1 same)) r.1),
  children-apart F cs u.1,
)

below-apart : (P : Project) (x : Bool) (o : Option (List Entry)) → AreApart (expanded_branches P x o)
below-apart P true (Some F) = children-apart F (choices P F) (choices-unlike P F)
below-apart P true None = tt
below-apart P false o = tt

apart-below : (P : Project) (b : Branch) (bs : List Branch) (l : LogLine) → AreApart (b ∷ bs) → AreApart (below P b l ++ bs)
unfolding below
apart-below P b bs l a =
    apart-append (below P b l) bs (below-apart P (is_expanded l) (front_at b l)) a.1
    (λ c d i j F u w. a.0 d j F (under-below P b c l F i u).0 w)

-- the front of a node is under one of the branches that are wanted
record IsUnderOne (bs : List Branch) (F : List Entry) : Type 0 where
  branch : Branch
  member : In bs branch
  under : IsUnder branch F

under-one : (P : Project) (bs : List Branch) (lines : List LogLine) (n : LogNode) (F : List Entry) → In (nodes_from P bs lines) n → front_of n ≡ Some F → IsUnderOne bs F
under-one P bs [] n F i e = absurd i
under-one P [] (l ∷ ls) n F i e = absurd i
under-one P (b ∷ bs) (l ∷ ls) n F (inl s) e = record { branch = b; member = inl refl; under = under-own b l F (ap front_of s ∙ e) }
under-one P (b ∷ bs) (l ∷ ls) n F (inr i) e =
    let u = under-one P (below P b l ++ bs) ls n F i e in
    elim (In-append (below P b l) bs u.branch u.member) [
      | inl j ↦ record { branch = b; member = inl refl; under = (under-below P b u.branch l F j u.under).0 }
      | inr j ↦ record { branch = u.branch; member = inr j; under = u.under }
    ]

pub get-In : {X : Type 0} (xs : List X) (i : ℕ) (x : X) → slice_get xs i ≡ Some x → In xs x
get-In [] i x h = absurd (cc)
get-In (y ∷ xs) zero x h = inl (cc)
get-In (y ∷ xs) (suc i) x h = inr (get-In xs i x h)

pub numbered-In : {X : Type 0} (xs : List X) (i : ℕ) (x : X) → numbered xs i ≡ Some x → In xs x
numbered-In xs zero x h = absurd (cc)
numbered-In xs (suc i) x h = get-In xs i x h

-- no later line has the first line's front
first-alone : (P : Project) (b : Branch) (bs : List Branch) (l : LogLine) (ls : List LogLine) (n : LogNode) (F : List Entry) → AreApart (b ∷ bs) →
    In (nodes_from P (below P b l ++ bs) ls) n → front_at b l ≡ Some F → front_of n ≡ Some F → ⊥
first-alone P b bs l ls n F a i own e =
    let u = under-one P (below P b l ++ bs) ls n F i e in
    elim (In-append (below P b l) bs u.branch u.member) [
      | inl j ↦ (under-below P b u.branch l F j u.under).1 own
      | inr j ↦ a.0 u.branch j F (under-own b l F own) u.under
    ]

one-line : (P : Project) (bs : List Branch) (lines : List LogLine) (i k : ℕ) (m n : LogNode) (F : List Entry) → AreApart bs → slice_get (nodes_from P bs lines) i ≡ Some m →
    slice_get (nodes_from P bs lines) k ≡ Some n → front_of m ≡ Some F → front_of n ≡ Some F → i ≡ k
one-line P bs [] i k m n F a x y e f = absurd (cc)
one-line P [] (l ∷ ls) i k m n F a x y e f = absurd (cc)
one-line P (b ∷ bs) (l ∷ ls) zero zero m n F a x y e f = refl
one-line P (b ∷ bs) (l ∷ ls) zero (suc k) m n F a x y e f =
    let here : record { branch = b; line = l } ≡ m = cc in
    absurd (first-alone P b bs l ls n F a (get-In (nodes_from P (below P b l ++ bs) ls) k n y) (ap front_of here ∙ e) f)
one-line P (b ∷ bs) (l ∷ ls) (suc i) zero m n F a x y e f =
    let here : record { branch = b; line = l } ≡ n = cc in
    absurd (first-alone P b bs l ls m F a (get-In (nodes_from P (below P b l ++ bs) ls) i m x) (ap front_of here ∙ f) e)
one-line P (b ∷ bs) (l ∷ ls) (suc i) (suc k) m n F a x y e f =
    ap suc (one-line P (below P b l ++ bs) ls i k m n F (apart-below P b bs l a) x y e f)

pub one_line_law : OneLineLaw
one_line_law P lines zero k m n F x y e f = absurd (cc)
one_line_law P lines (suc i) zero m n F x y e f = absurd (cc)
one_line_law P lines (suc i) (suc k) m n F x y e f = ap suc (one-line P (at_root ∷ []) lines i k m n F (λ c j G u w. j, tt) x y e f)

nodes-length : (P : Project) (bs : List Branch) (lines : List LogLine) → AreLogs P bs lines → length (nodes_from P bs lines) ≡ length lines
nodes-length P bs [] a = refl
nodes-length P [] (l ∷ ls) a = absurd a
nodes-length P (b ∷ bs) (l ∷ ls) a = ap suc (nodes-length P (below P b l ++ bs) ls a.1)

pub one_node_law : OneNodeLaw
one_node_law P lines log = nodes-length P (at_root ∷ []) lines log

In-get : {X : Type 0} (xs : List X) (x : X) → In xs x → (i : ℕ) × (slice_get xs i ≡ Some x)
In-get [] x i = absurd i
In-get (y ∷ xs) x (inl e) = (0, ap Some e)
In-get (y ∷ xs) x (inr i) = let r = In-get xs x i in (suc r.0, r.1)

pub front_number_law : FrontNumberLaw
front_number_law P lines node F c e =
    let r = In-get (nodes P lines) node (In-from_Contains (nodes P lines) node c) in
    record { number = suc r.0; has = (node, r.1, e); only = λ i n. one_line_law P lines i (suc r.0) n.0 node F n.1 r.1 n.2 e }
