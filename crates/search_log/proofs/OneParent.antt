-- Each place but the root's is that of one child, and no two places have one front.
use Rattle.std.proofs.Common.{◌≡◌, ℕ, zero, suc, ◌+◌, ◌<◌, ◌≤◌, inl, inr, refl, sym, ap, subst, ◌∙◌, arith, List, [], ◌∷◌, ◌++◌, length, length-append, map, Bool, cond, Option, Some, None}
use Rattle.std.specs.Prelude.{◌==◌, if◌then◌else◌, filter}
use Rattle.std.specs.List.{flat_map}
use Rattle.std.proofs.lemmas.Bool.{cases_eq, cases_lt, cases_Bool}
use Rattle.std.proofs.lemmas.Bool.Decides.{nat_tests}
use Rattle.std.proofs.lemmas.List.{same_from_push}
use Rattle.rcpsp_model.specs.declared.parts.Entry.{Entry}
use Rattle.rcpsp_model.specs.declared.parts.Verdict.{Verdict}
use Rattle.rcpsp_model.specs.Project.{Project, numbers_from, jobs, job_count, modes_of}
use Rattle.rcpsp_model.specs.Tree.{Choice, choices_of, choices, is_eligible, entry_at}
use Rattle.rcpsp_model.proofs.Lists.{In, Contains-from_In}
use Rattle.rcpsp_model.proofs.Choices.{In-map}
use Rattle.rcpsp_model.proofs.LeastModes.{numbers-range}
use Rattle.proof_log.specs.declared.report.LogLine.{LogLine}
use Rattle.log_truth.specs.Fates.{shuts}
use Rattle.log_truth.specs.Log.{Branch, at_root, by_choice, says, extended_by, front_at, child_branches}
use Rattle.log_truth.proofs.LineFronts.{root_front-is}
use Rattle.search_log.specs.declared.row.Row.{Row}
use Rattle.search_log.specs.Weights.{total, over, Each}
use Rattle.search_log.specs.Fates.{RowSaying, row_open, row_expanded, row_late, row_cites, row_shut}
use Rattle.search_log.specs.Table.{no_row, row_at, says_at, children_of, IsBelow}
use Rattle.search_log.specs.Stands.{line_of, TreeNode, branch_at, place_front, HasChildren, Suits, Waiting, Stands}
use Rattle.search_log.specs.Laws.{OneFrontLaw, ParentLaw}
use Rattle.search_log.proofs.Sums.{total-append, total-map, Each-from_In, only_at, only_at-same, only_at-other, place-once, In-from_weight, weighs-one}
use Rattle.search_log.proofs.PassedPlaces.{below, below-rows}

-- A front has each choice once.

-- 1 for this choice, and nothing for any other
abbrev only_choice : Choice → Choice → ℕ
only_choice c d = if d.job == c.job then only_at c.mode d.mode else 0

only_choice-same : (c : Choice) → only_choice c c ≡ 1
only_choice-same c = let one = only_at-same c.mode in grind (arith, nat_tests)

other-job : (c : Choice) (j i n : ℕ) → (j ≡ c.job → ⊥) → total (λ m. only_choice c (record { job = j; mode = m })) (numbers_from i n) ≡ 0
other-job c j i zero d = refl
other-job c j i (suc n) d =
    let ih = other-job c j (i + 1) n d in
    let own : only_choice c (record { job = j; mode = i }) ≡ 0 = grind (arith, nat_tests) in
    omega arith

own-job : (c : Choice) (j i n : ℕ) → j ≡ c.job → total (λ m. only_choice c (record { job = j; mode = m })) (numbers_from i n) ≡ total (only_at c.mode) (numbers_from i n)
own-job c j i zero e = refl
own-job c j i (suc n) e =
    let ih = own-job c j (i + 1) n e in
    let own : only_choice c (record { job = j; mode = i }) ≡ only_at c.mode i = grind (arith, nat_tests) in
    omega arith

job-choices : (P : Project) (c : Choice) (j : ℕ) → total (only_choice c) (choices_of P j) ≤ only_at c.job j
job-choices P c j =
    let n = length (modes_of P j) in
    let a = total-map (only_choice c) (λ m. record { job = j; mode = m }) (numbers_from 1 n) in
    elim (cases_eq j c.job) [
      | inl e ↦ (let b = own-job c j 1 n e in let d = weighs-one c.mode 1 n in let own : only_at c.job j ≡ only_at c.job c.job = ap (only_at c.job) e in let one = only_at-same c.job in omega arith)
      | inr d ↦ (let b = other-job c j 1 n d in omega arith)
    ]

all-choices : (P : Project) (c : Choice) (js : List ℕ) → total (only_choice c) (flat_map (choices_of P) js) ≤ total (only_at c.job) js
all-choices P c [] = omega arith
all-choices P c (j ∷ js) =
    let ih = all-choices P c js in
    let own = job-choices P c j in
    let both = total-append (only_choice c) (choices_of P j) (flat_map (choices_of P) js) in
    omega arith

total-filter : {X : Type 0} (f : X → ℕ) (p : X → Bool) (xs : List X) → total f (filter p xs) ≤ total f xs
total-filter f p [] = omega arith
total-filter {X = X} f p (x ∷ xs) =
    let ih = total-filter f p xs in
    elim (cases_Bool (p x)) [
      | inl yes_ ↦ (let kept : total f (filter p (x ∷ xs)) ≡ f x + total f (filter p xs) = ap (λ (b : Bool). total f (cond b (x ∷ filter p xs) (filter p xs))) yes_ in omega arith)
      | inr no_ ↦ (let left : total f (filter p (x ∷ xs)) ≡ total f (filter p xs) = ap (λ (b : Bool). total f (cond b (x ∷ filter p xs) (filter p xs))) no_ in omega arith)
    ]

choice-once : (P : Project) (F : List Entry) (c : Choice) → total (only_choice c) (choices P F) ≤ 1
choice-once P F c =
    let a = all-choices P c (filter (is_eligible P F) (jobs P)) in
    let b = total-filter (only_at c.job) (is_eligible P F) (jobs P) in
    let d = weighs-one c.job 1 (job_count P) in
    omega arith

-- the choice of a branch, weighed
abbrev branch_weight : Choice → Branch → ℕ
branch_weight c at_root = 0
branch_weight c (by_choice F d) = only_choice c d

branch-once : (P : Project) (F : List Entry) (c : Choice) → total (branch_weight c) (child_branches P F) ≤ 1
branch-once P F c = let a = total-map (branch_weight c) (λ d. by_choice F d) (choices P F) in let b = choice-once P F c in omega arith

In-weighs : {X : Type 0} (h : X → ℕ) (xs : List X) (x : X) → In xs x → h x ≤ total h xs
In-weighs h [] x i = absurd i
In-weighs h (y ∷ xs) x (inl e) = let same : h y ≡ h x = ap h e in omega arith
In-weighs h (y ∷ xs) x (inr i) = let ih = In-weighs h xs x i in omega arith

two-weigh : (h : ℕ → ℕ) (xs : List ℕ) (p q : ℕ) → In xs p → In xs q → (p ≡ q → ⊥) → h p + h q ≤ total h xs
two-weigh h [] p q i k d = absurd i
two-weigh h (x ∷ xs) p q (inl e) (inl f) d = absurd (d (sym e ∙ f))
two-weigh h (x ∷ xs) p q (inl e) (inr k) d = let same : h x ≡ h p = ap h e in let more = In-weighs h xs q k in omega arith
two-weigh h (x ∷ xs) p q (inr i) (inl f) d = let same : h x ≡ h q = ap h f in let more = In-weighs h xs p i in omega arith
two-weigh h (x ∷ xs) p q (inr i) (inr k) d = let ih = two-weigh h xs p q i k d in omega arith

-- two children of one front by one choice are one
children-apart : (P : Project) (ns : List TreeNode) (G : List Entry) (first count : ℕ) (c : Choice) (p q : ℕ) → HasChildren P ns G first count → In (numbers_from first count) p → In (numbers_from first count) q →
    branch_at ns p ≡ by_choice G c → branch_at ns q ≡ by_choice G c → p ≡ q
children-apart P ns G first count c p q children i k e f =
    elim (cases_eq p q) [
      | inl same ↦ same
      | inr d ↦ absurd (
          let h : ℕ → ℕ = λ x. branch_weight c (branch_at ns x) in
          let a = two-weigh h (numbers_from first count) p q i k d in
          let b = total-map (branch_weight c) (branch_at ns) (numbers_from first count) in
          let all : total (branch_weight c) (map (branch_at ns) (numbers_from first count)) ≡ total (branch_weight c) (child_branches P G) = ap (total (branch_weight c)) children.children in
          let once = branch-once P G c in
          let one = only_choice-same c in
          let x : h p ≡ only_choice c c = ap (branch_weight c) e in
          let y : h q ≡ only_choice c c = ap (branch_weight c) f in
          omega arith)
    ]

-- Parents.

-- the place q is that of a child of the front at a place
pub record HasParent (P : Project) (T : List Row) (ns : List TreeNode) (q : ℕ) : Type 0 where
  pub place : ℕ
  pub within : place < length T
  pub front : List Entry
  pub is_its : place_front ns place ≡ Some front
  pub first : ℕ
  pub count : ℕ
  pub says : says_at T place ≡ row_expanded first count
  pub children : HasChildren P ns front first count
  pub among : In (numbers_from first count) q
  pub choice : Choice
  pub branch : branch_at ns q ≡ by_choice front choice

weighs-somewhere : {X : Type 0} (g : ℕ → ℕ) (k : ℕ) (xs : List X) → 0 < over (λ p x. g p) k xs → (i : ℕ) × (i < k + length xs) × (0 < g i)
weighs-somewhere g k [] l = absurd (omega arith)
weighs-somewhere g k (x ∷ xs) l =
    elim (cases_lt 0 (g k)) [
      | inl here ↦ (k, omega arith, here)
      | inr none ↦ (let r = weighs-somewhere g (k + 1) xs (omega arith) in let w = r.1 in (r.0, omega arith, r.2))
    ]

-- the front of a row that has children
record HasFront (P : Project) (ns : List TreeNode) (o : Option (List Entry)) (s : RowSaying) (q : ℕ) : Type 0 where
  front : List Entry
  is_its : o ≡ Some front
  first : ℕ
  count : ℕ
  says : s ≡ row_expanded first count
  children : HasChildren P ns front first count
  among : In (numbers_from first count) q

child-front : (P : Project) (v : Verdict) (ns : List TreeNode) (q : ℕ) (o : Option (List Entry)) (s : RowSaying) → Suits P v ns o s → In (children_of s) q → HasFront P ns o s q
child-front P v ns q (Some F) (row_expanded first count) is i = record { front = F; is_its = refl; first = first; count = count; says = refl; children = is; among = i }
child-front P v ns q (Some F) row_open is i = absurd i
child-front P v ns q (Some F) (row_late reason) is i = absurd i
child-front P v ns q (Some F) (row_cites r) is i = absurd i
child-front P v ns q (Some F) (row_shut why) is i = absurd i
child-front P v ns q None row_open is i = absurd i
child-front P v ns q None (row_expanded first count) is i = absurd is
child-front P v ns q None (row_late reason) is i = absurd i
child-front P v ns q None (row_cites r) is i = absurd i
child-front P v ns q None (row_shut why) is i = absurd i

branch-choice : (F : List Entry) (cs : List Choice) (b : Branch) → In (map (λ c. by_choice F c) cs) b → (c : Choice) × (b ≡ by_choice F c)
branch-choice F [] b i = absurd i
branch-choice F (c ∷ cs) b (inl e) = (c, sym e)
branch-choice F (c ∷ cs) b (inr i) = branch-choice F cs b i

child-choice : (P : Project) (ns : List TreeNode) (q : ℕ) (F : List Entry) (first count : ℕ) → HasChildren P ns F first count → In (numbers_from first count) q → (c : Choice) × (branch_at ns q ≡ by_choice F c)
child-choice P ns q F first count children i =
    branch-choice F (choices P F) (branch_at ns q) (subst (λ (x : List Branch). In x (branch_at ns q)) children.children (In-map (branch_at ns) (numbers_from first count) q i))

parent-at : (P : Project) (v : Verdict) (T : List Row) (ns : List TreeNode) (ws : List Waiting) → Stands P v T ns [] ws → (p q : ℕ) → p < length T → In (children_of (says_at T p)) q → HasParent P T ns q
parent-at P v T ns ws s p q w i =
    let f = child-front P v ns q (place_front ns p) (says_at T p) (s.rows p w).says i in
    let c = child-choice P ns q f.front f.first f.count f.children f.among in
    record { place = p; within = w; front = f.front; is_its = f.is_its; first = f.first; count = f.count; says = f.says; children = f.children; among = f.among; choice = c.0; branch = c.1 }

pub has-parent : (P : Project) (v : Verdict) (T : List Row) (ns : List TreeNode) (ws : List Waiting) → Stands P v T ns [] ws → (q : ℕ) → q < length T → (q ≡ 0 → ⊥) → HasParent P T ns q
has-parent P v T ns ws s q l d =
    let a = s.account (only_at q) in
    let b = place-once no_row T q l in
    let c = only_at-other q 0 (λ e. d (sym e)) in
    let e = below-rows T (only_at q) in
    let r = weighs-somewhere (below T (only_at q)) 0 T (omega arith) in
    let w : r.0 < length T = let x = r.1 in omega arith in
    parent-at P v T ns ws s r.0 q w (In-from_weight q (children_of (says_at T r.0)) r.2)

-- the front of a place behind that of its parent
record IsLonger (G F : List Entry) (c : Choice) : Type 0 where
  start : ℕ
  is : F ≡ G ++ entry_at c.job c.mode start ∷ []

longer-by : (G F : List Entry) (c : Choice) (start : Option ℕ) → extended_by G c start ≡ Some F → IsLonger G F c
longer-by G F c None e = absurd (cc)
longer-by G F c (Some t) e = record { start = t; is = cc }

longer : (P : Project) (v : Verdict) (T : List Row) (ns : List TreeNode) (ws : List Waiting) → Stands P v T ns [] ws → (q : ℕ) → q < length T → (F G : List Entry) (c : Choice) → place_front ns q ≡ Some F → branch_at ns q ≡ by_choice G c → IsLonger G F c
longer P v T ns ws s q l F G c front branch =
    let e : front_at (branch_at ns q) (line_of [] (row_at T q)) ≡ Some F = (s.rows q l).front ∙ front in
    longer-by G F c (row_at T q).start (subst (λ (b : Branch). front_at b (line_of [] (row_at T q)) ≡ Some F) branch e)

-- Levels.

-- how many jobs are placed before the choice of a branch, and that choice with them; none at the root
abbrev pub level_of : Branch → ℕ
level_of at_root = 0
level_of (by_choice F c) = suc (length F)

branch-level : (b : Branch) (line : LogLine) (F : List Entry) → front_at b line ≡ Some F → level_of b ≡ length F
branch-level at_root line F e = ap length (root_front-is (shuts (says line)) F e)
branch-level (by_choice G c) line F e =
    let longer = longer-by G F c line.start e in
    let n = length-append G (entry_at c.job c.mode longer.start ∷ []) in
    let same = ap length longer.is in
    omega arith

-- a child lies one level below the front that has it, and in the table
pub children-below : (P : Project) (v : Verdict) (T : List Row) (ns : List TreeNode) (ws : List Waiting) → Stands P v T ns [] ws → (p : ℕ) → p < length T →
    Each (IsBelow T (λ q. level_of (branch_at ns q)) p) (children_of (says_at T p))
unfolding parent-at
children-below P v T ns ws s p l = Each-from_In (IsBelow T (λ q. level_of (branch_at ns q)) p) (children_of (says_at T p)) below_it
  where
    below_it : (q : ℕ) → In (children_of (says_at T p)) q → IsBelow T (λ x. level_of (branch_at ns x)) p q
    below_it q i =
        let x = parent-at P v T ns ws s p q l i in
        let own = branch-level (branch_at ns p) (line_of [] (row_at T p)) x.front ((s.rows p l).front ∙ x.is_its) in
        let its : level_of (branch_at ns q) ≡ suc (length x.front) = ap level_of x.branch in
        let range = numbers-range x.first x.count q x.among in
        let low = range.1 in
        let within = x.children.within in
        let size = s.size in
        record { deeper = omega arith; within = omega arith }

root-short : (P : Project) (v : Verdict) (T : List Row) (ns : List TreeNode) (ws : List Waiting) → Stands P v T ns [] ws → (F : List Entry) → place_front ns 0 ≡ Some F → length F ≡ 0
root-short P v T ns ws s F front =
    let e : front_at (branch_at ns 0) (line_of [] (row_at T 0)) ≡ Some F = (s.rows 0 s.some).front ∙ front in
    let r = root_front-is (shuts (says (line_of [] (row_at T 0)))) F (subst (λ (b : Branch). front_at b (line_of [] (row_at T 0)) ≡ Some F) s.root e) in
    sym (ap length r)

not-root : (P : Project) (v : Verdict) (T : List Row) (ns : List TreeNode) (ws : List Waiting) → Stands P v T ns [] ws → (q : ℕ) → q < length T → (F : List Entry) → place_front ns 0 ≡ Some F → place_front ns q ≡ Some F → q ≡ 0
not-root P v T ns ws s q l F at_0 at_q =
    elim (cases_eq q 0) [
      | inl e ↦ e
      | inr d ↦ absurd (
          let x = has-parent P v T ns ws s q l d in
          let m = longer P v T ns ws s q l F x.front x.choice at_q x.branch in
          let short = root-short P v T ns ws s F at_0 in
          let a = ap length m.is in
          let b = length-append x.front (entry_at x.choice.job x.choice.mode m.start ∷ []) in
          omega arith)
    ]

same-choice : (c d : Choice) (t u : ℕ) → entry_at c.job c.mode t ≡ entry_at d.job d.mode u → c ≡ d
same-choice c d t u e =
    let j = ap (λ (x : Entry). x.job) e in
    let m = ap (λ (x : Entry). x.mode) e in
    ◌∙◌ {b = record { job = d.job; mode = c.mode }} (ap (λ (i : ℕ). record { job = i; mode = c.mode }) j) (ap (λ (i : ℕ). record { job = d.job; mode = i }) m)

one-front : (P : Project) (v : Verdict) (T : List Row) (ns : List TreeNode) (ws : List Waiting) → Stands P v T ns [] ws → (n p q : ℕ) (F : List Entry) → length F < n → p < length T → q < length T →
    place_front ns p ≡ Some F → place_front ns q ≡ Some F → p ≡ q
one-front P v T ns ws s zero p q F small lp lq fp fq = absurd (omega arith)
one-front P v T ns ws s (suc n) p q F small lp lq fp fq =
    elim (cases_eq p 0) [
      | inl e ↦ e ∙ sym (not-root P v T ns ws s q lq F (subst (λ (x : ℕ). place_front ns x ≡ Some F) e fp) fq)
      | inr dp ↦ elim (cases_eq q 0) [
        | inl f ↦ not-root P v T ns ws s p lp F (subst (λ (x : ℕ). place_front ns x ≡ Some F) f fq) fp ∙ sym f
        | inr dq ↦ (
            let x = has-parent P v T ns ws s p lp dp in
            let y = has-parent P v T ns ws s q lq dq in
            let a = longer P v T ns ws s p lp F x.front x.choice fp x.branch in
            let b = longer P v T ns ws s q lq F y.front y.choice fq y.branch in
            let same = same_from_push x.front y.front (entry_at x.choice.job x.choice.mode a.start) (entry_at y.choice.job y.choice.mode b.start) (sym a.is ∙ b.is) in
            let choice = same-choice x.choice y.choice a.start b.start same.1 in
            let len = ap length a.is in
            let more = length-append x.front (entry_at x.choice.job x.choice.mode a.start ∷ []) in
            let parents : x.place ≡ y.place = one-front P v T ns ws s n x.place y.place x.front (omega arith) x.within y.within x.is_its (y.is_its ∙ ap (λ (G : List Entry). Some G) (sym same.0)) in
            let spans : row_expanded x.first x.count ≡ row_expanded y.first y.count = sym x.says ∙ (ap (says_at T) parents ∙ y.says) in
            let numbers : children_of (row_expanded y.first y.count) ≡ children_of (row_expanded x.first x.count) = ap children_of (sym spans) in
            let among : In (numbers_from x.first x.count) q = subst (λ (xs : List ℕ). In xs q) numbers y.among in
            let branch : branch_at ns q ≡ by_choice x.front x.choice = y.branch ∙ (ap (λ (G : List Entry). by_choice G y.choice) (sym same.0) ∙ ap (by_choice x.front) (sym choice)) in
            children-apart P ns x.front x.first x.count x.choice p q x.children x.among among x.branch branch)
      ]
    ]

pub one_front_law : OneFrontLaw
one_front_law P v T ns ws p q F s lp lq fp fq = one-front P v T ns ws s (suc (length F)) p q F (omega arith) lp lq fp fq

same-front : (F G : List Entry) (c d : Choice) → by_choice F c ≡ by_choice G d → F ≡ G
same-front F G c d e = cc

root-no_choice : (F : List Entry) (c : Choice) → at_root ≡ by_choice F c → ⊥
root-no_choice F c e = cc

pub parent_law : ParentLaw
parent_law P v T ns ws p q F c s lp lq front branch =
    let d : q ≡ 0 → ⊥ = λ e. root-no_choice F c (sym s.root ∙ (sym (ap (branch_at ns) e) ∙ branch)) in
    let x = has-parent P v T ns ws s q lq d in
    let same = same-front x.front F x.choice c (sym x.branch ∙ branch) in
    let place : x.place ≡ p = one_front_law P v T ns ws x.place p F s x.within lp (x.is_its ∙ ap (λ (G : List Entry). Some G) same) front in
    let among : In (children_of (says_at T x.place)) q = subst (λ (z : RowSaying). In (children_of z) q) (sym x.says) x.among in
    Contains-from_In (children_of (says_at T p)) q (subst (λ (z : ℕ). In (children_of (says_at T z)) q) place among)
