-- At the limit there is one front more than what was expanded: each line that is expanded, and one that was left, has a front of
-- its own.
use Rattle.std.proofs.Common.{◌≡◌, ℕ, suc, ◌+◌, ◌<◌, ◌≤◌, ◌⊎◌, inl, inr, refl, sym, ap, subst, ◌∙◌, arith, Bool, true, false, cond, Option, Some, None, List, [], ◌∷◌, ◌++◌, length, All}
use Rattle.std.specs.Prelude.{slice_get, IfSome, map}
use Rattle.sched_base.specs.declared.fate.Fate.TheVariants.{Left}
use Rattle.rcpsp_model.specs.declared.parts.Entry.{Entry}
use Rattle.rcpsp_model.specs.declared.parts.Verdict.{Verdict}
use Rattle.rcpsp_model.specs.declared.parts.Verdict.TheVariants.{Optimal, Infeasible, Limit}
use Rattle.rcpsp_model.specs.Project.{Project}
use Rattle.rcpsp_model.specs.Tree.{IsFront}
use Rattle.rcpsp_model.proofs.Lists.{In, In-All, All-from_In, In-from_Contains}
use Rattle.rcpsp_model.proofs.Choices.{map-In}
use Rattle.proof_log.specs.declared.report.LogLine.{LogLine}
use Rattle.log_truth.specs.Fates.{late_left, Saying, says_expanded, says_late, says_dominated, says_shut, saying, expands, shuts}
use Rattle.log_truth.specs.Log.{Branch, at_root, says, is_expanded, below, AreLogs, LogNode, front_of, nodes_from, nodes}
use Rattle.log_truth.specs.Holds.{IsLimit, IsLeftNumber, expanded_in, Allows, IsAllowed, LogHolds}
use Rattle.log_truth.specs.Refusal.{expanded_by}
use Rattle.log_truth.proofs.JoinedLogs.{node-line}
use Rattle.log_truth.proofs.LineFronts.{line-open, node-front}
use Rattle.log_truth.proofs.OneLine.{one_line_law}
use Rattle.log_truth.proofs.OneRefusal.{expanded-cons}
use Rattle.scheduler.specs.Solve.{EndsAtLimit, AreDifferent, HasAtMostFronts}

-- The node of a line that was left.

node-of : (P : Project) (bs : List Branch) (lines : List LogLine) → AreLogs P bs lines → (l : LogLine) → In lines l → (n : LogNode) × In (nodes_from P bs lines) n × (n.line ≡ l)
node-of P bs [] a l i = absurd i
node-of P [] (x ∷ ls) a l i = absurd a
node-of P (b ∷ bs) (x ∷ ls) a l (inl e) = (record { branch = b; line = x }, inl refl, e)
node-of P (b ∷ bs) (x ∷ ls) a l (inr i) = let r = node-of P (below P b x ++ bs) ls a.1 l i in (r.0, inr r.1, r.2)

record IsLeftNode (P : Project) (verdict : Verdict) (lines : List LogLine) (bound : ℕ) : Type 0 where
  node : LogNode
  member : In (nodes P lines) node
  says_left : says node.line ≡ says_late (late_left bound)
  front : List Entry
  is_its : front_of node ≡ Some front
  allowed : Allows P verdict front (says_late (late_left bound))

left-node : (P : Project) (verdict : Verdict) (lines : List LogLine) (bound : ℕ) → LogHolds P verdict lines → IsLeftNumber lines bound → IsLeftNode P verdict lines bound
left-node P verdict lines bound log left =
    let line = map-In (λ (l : LogLine). l.fate) lines (Left bound) (In-from_Contains (map (λ (l : LogLine). l.fate) lines) (Left bound) left) in
    let n = node-of P (at_root ∷ []) lines log.log line.0 line.1 in
    let fate : n.0.line.fate ≡ Left bound = ap (λ (l : LogLine). l.fate) n.2 ∙ line.2 in
    let said : says n.0.line ≡ says_late (late_left bound) = ap saying fate in
    let open_ = line-open P n.0.branch n.0.line (node-line P (at_root ∷ []) lines log.log n.0 n.1) (ap shuts said) in
    let allows = In-All (λ (m : LogNode). IsAllowed P verdict m.branch m.line) (nodes P lines) log.allowed n.0 n.1 in
    let here : Allows P verdict open_.0 (says n.0.line) = subst (λ (o : Option (List Entry)). IfSome o (λ F. Allows P verdict F (says n.0.line))) open_.1 allows in
    record { node = n.0; member = n.1; says_left = said; front = open_.0; is_its = open_.1; allowed = subst (Allows P verdict open_.0) said here }

limit-at : (P : Project) (duration : Option ℕ) (lower nodes : ℕ) (lines : List LogLine) → LogHolds P (Limit duration lower) lines → expanded_in lines ≡ nodes → EndsAtLimit nodes (Limit duration lower) lines
limit-at P duration lower nodes lines log all =
    let left = left-node P (Limit duration lower) lines lower log log.lower.attained in
    let late = left.allowed in
    let same : late.number ≡ lower = sym late.late.2 in
    record { expanded = all; bound = lower; left = log.lower.attained; below = subst (λ (n : ℕ). IfSome duration (λ d. n < d)) same late.suffices.1 }

pub limit_ends : (P : Project) (nodes : ℕ) (verdict : Verdict) (lines : List LogLine) → LogHolds P verdict lines → IsLimit verdict → expanded_in lines ≡ nodes → EndsAtLimit nodes verdict lines
limit_ends P nodes (Limit duration lower) lines log limit all = limit-at P duration lower nodes lines log all
limit_ends P nodes (Optimal duration) lines log limit all = absurd limit
limit_ends P nodes Infeasible lines log limit all = absurd limit

-- The fronts of all lines.

abbrev with-front : Option (List Entry) → List (List Entry) → List (List Entry)
with-front None Fs = Fs
with-front (Some F) Fs = F ∷ Fs

abbrev fronts : List LogNode → List (List Entry)
fronts [] = []
fronts (n ∷ ns) = with-front (front_of n) (fronts ns)

in-with-front : (o : Option (List Entry)) (Fs : List (List Entry)) (F : List Entry) → In (with-front o Fs) F → (o ≡ Some F) ⊎ In Fs F
in-with-front None Fs F i = inr i
in-with-front (Some G) Fs F (inl e) = inl (ap Some e)
in-with-front (Some G) Fs F (inr i) = inr i

in-fronts : (ns : List LogNode) (F : List Entry) → In (fronts ns) F → (n : LogNode) × In ns n × (front_of n ≡ Some F)
in-fronts [] F i = absurd i
in-fronts (n ∷ ns) F i = elim (in-with-front (front_of n) (fronts ns) F i) [
  | inl e ↦ (n, inl refl, e)
  | inr k ↦ let r = in-fronts ns F k in (r.0, inr r.1, r.2)
]

In-place : {X : Type 0} (xs : List X) (x : X) → In xs x → (i : ℕ) × (slice_get xs i ≡ Some x)
In-place [] x i = absurd i
In-place (y ∷ xs) x (inl e) = (0, ap Some e)
In-place (y ∷ xs) x (inr i) = let r = In-place xs x i in (suc r.0, r.1)

-- no front is that of two nodes
abbrev HaveOwn : List LogNode → Type 0
HaveOwn ns = (i k : ℕ) (m n : LogNode) (F : List Entry) → slice_get ns i ≡ Some m → slice_get ns k ≡ Some n → front_of m ≡ Some F → front_of n ≡ Some F → i ≡ k

different-cons : (o : Option (List Entry)) (Fs : List (List Entry)) → ((F : List Entry) → o ≡ Some F → In Fs F → ⊥) → AreDifferent Fs → AreDifferent (with-front o Fs)
different-cons None Fs apart rest = rest
different-cons (Some F) Fs apart rest = (λ c. apart F refl (In-from_Contains Fs F c), rest)

suc-same : (i k : ℕ) → suc i ≡ suc k → i ≡ k
suc-same i k e = omega (arith, e)

different : (ns : List LogNode) → HaveOwn ns → AreDifferent (fronts ns)
different [] own = tt
different (n ∷ ns) own = different-cons (front_of n) (fronts ns)
    (λ F e i.
    let m = in-fronts ns F i in
    let at = In-place ns m.0 m.1 in
    let same : 0 ≡ suc at.0 = own 0 (suc at.0) n m.0 F refl at.1 e m.2 in
    absurd (omega (arith, same)))
    (different ns (λ i k m l F a b e f. suc-same i k (own (suc i) (suc k) m l F a b e f)))

-- How many there are.

abbrev expanded-nodes : List LogNode → ℕ
expanded-nodes [] = 0
expanded-nodes (n ∷ ns) = expanded_by n.line + expanded-nodes ns

expanded-counted : (P : Project) (bs : List Branch) (lines : List LogLine) → AreLogs P bs lines → expanded-nodes (nodes_from P bs lines) ≡ expanded_in lines
expanded-counted P bs [] a = refl
expanded-counted P [] (x ∷ ls) a = absurd a
expanded-counted P (b ∷ bs) (x ∷ ls) a = ap (λ (n : ℕ). expanded_by x + n) (expanded-counted P (below P b x ++ bs) ls a.1) ∙ sym (expanded-cons x ls)

-- each expanded node has a front
abbrev HaveFronts : List LogNode → Type 0
HaveFronts ns = (n : LogNode) → In ns n → is_expanded n.line ≡ true → (F : List Entry) × (front_of n ≡ Some F)

counted-at : (x : Bool) (o : Option (List Entry)) (Fs : List (List Entry)) (k : ℕ) → (x ≡ true → (F : List Entry) × (o ≡ Some F)) → k ≤ length Fs → cond x 1 0 + k ≤ length (with-front o Fs)
counted-at true None Fs k has few = let none = (has refl).1 in absurd cc
counted-at true (Some F) Fs k has few = omega (arith, few)
counted-at false None Fs k has few = omega (arith, few)
counted-at false (Some F) Fs k has few = omega (arith, few)

counted : (ns : List LogNode) → HaveFronts ns → expanded-nodes ns ≤ length (fronts ns)
counted [] has = omega arith
counted (n ∷ ns) has = counted-at (is_expanded n.line) (front_of n) (fronts ns) (expanded-nodes ns) (has n (inl refl)) (counted ns (λ m i. has m (inr i)))

-- one of them isn't expanded, and has a front too
one-more-at : (x : Bool) (o : Option (List Entry)) (F : List Entry) (Fs : List (List Entry)) (k : ℕ) → x ≡ false → o ≡ Some F → k ≤ length Fs → cond x 1 0 + k + 1 ≤ length (with-front o Fs)
one-more-at true o F Fs k open_ is few = absurd cc
one-more-at false None F Fs k open_ is few = absurd cc
one-more-at false (Some G) F Fs k open_ is few = omega (arith, few)

one-more : (ns : List LogNode) (m : LogNode) (F : List Entry) → HaveFronts ns → In ns m → is_expanded m.line ≡ false → front_of m ≡ Some F → expanded-nodes ns + 1 ≤ length (fronts ns)
one-more [] m F has i open_ is = absurd i
one-more (n ∷ ns) m F has (inl e) open_ is =
    one-more-at (is_expanded n.line) (front_of n) F (fronts ns) (expanded-nodes ns) (ap (λ (l : LogNode). is_expanded l.line) e ∙ open_) (ap front_of e ∙ is) (counted ns (λ l i. has l (inr i)))
one-more (n ∷ ns) m F has (inr i) open_ is =
    let more = one-more ns m F (λ l k. has l (inr k)) i open_ is in
    let at = counted-at (is_expanded n.line) (front_of n) (fronts ns) (expanded-nodes ns + 1) (has n (inl refl)) more in
    omega (arith, at)

open-expanded : (s : Saying) → expands s ≡ true → shuts s ≡ false
open-expanded says_expanded x = refl
open-expanded (says_late r) x = refl
open-expanded (says_dominated i) x = refl
open-expanded (says_shut why) x = absurd cc

-- as many expansions as there are fronts suffice
pub fronts_suffice : (P : Project) (nodes : ℕ) (verdict : Verdict) (lines : List LogLine) → LogHolds P verdict lines → HasAtMostFronts P nodes → EndsAtLimit nodes verdict lines → ⊥
fronts_suffice P most verdict lines log few limit =
    let left = left-node P verdict lines limit.bound log limit.left in
    let all : List LogNode = nodes P lines in
    let has : HaveFronts all = λ n i x. line-open P n.branch n.line (node-line P (at_root ∷ []) lines log.log n i) (open-expanded (says n.line) x) in
    let more = one-more all left.node left.front has left.member (ap expands left.says_left) left.is_its in
    let count = expanded-counted P (at_root ∷ []) lines log.log in
    let are : All (IsFront P) (fronts all) = All-from_In (IsFront P) (fronts all) (λ F i. let r = in-fronts all F i in node-front P lines log.log r.0 F r.1 r.2) in
    let own : HaveOwn all = λ i k m n F a b e f. suc-same i k (one_line_law P lines (suc i) (suc k) m n F a b e f) in
    let at_most = few (fronts all) are (different all own) in
    let exactly = limit.expanded in
    omega (arith, more, count, at_most, exactly)
