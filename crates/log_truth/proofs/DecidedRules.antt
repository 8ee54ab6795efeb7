-- Each rule for a line is decided, and so is a citation, and the lower bound.
use Rattle.std.proofs.Common.{◌≡◌, ℕ, inl, inr, refl, sym, ap, ◌∙◌, subst, List, [], true, Option, Some, None}
use Rattle.std.specs.Prelude.{IfSome, map}
use Rattle.std.proofs.lemmas.Bool.{cases_eq, cases_Bool, both_ways}
use Rattle.sched_base.specs.declared.fate.Fate.TheVariants.{Left}
use Rattle.rcpsp_model.specs.declared.parts.Entry.{Entry}
use Rattle.rcpsp_model.specs.declared.parts.Shut.TheVariants.{NoCapacity, NoBudget, Inefficient}
use Rattle.rcpsp_model.specs.declared.parts.Verdict.{Verdict}
use Rattle.rcpsp_model.specs.declared.parts.Verdict.TheVariants.{Optimal, Infeasible, Limit}
use Rattle.rcpsp_model.specs.Project.{Project, IsAcyclic}
use Rattle.rcpsp_model.specs.Tree.{Choice, IsFront}
use Rattle.rcpsp_model.specs.Dominance.{Dominates}
use Rattle.rcpsp_model.proofs.Lists.{In-from_Contains, Contains-from_In}
use Rattle.rcpsp_model.proofs.Numbers.{Decided, lt_decided, implies_decided, both_decided, true_decided}
use Rattle.rcpsp_model.proofs.Decided.{not_decided, tested, least_decided, leaves_decided, gap_decided, Kind, is_placed, is_shut_by, kind-of, shut-not_placed, placed_decided, shut_decided, leaf_decided, dominates_decided}
use Rattle.proof_log.specs.declared.report.LogLine.{LogLine}
use Rattle.log_truth.specs.Fates.{Saying, says_expanded, says_late, says_dominated, says_shut, shuts}
use Rattle.log_truth.specs.Log.{Branch, at_root, by_choice, says, is_expanded, IsRootSaying, IsShutSaying, LogNode, front_of}
use Rattle.log_truth.specs.Holds.{Allows, numbered, Cites, CitesWell, IsServed, IsLeftNumber, HasLower, most_expanded}
use Rattle.log_truth.specs.Refusal.{IsNamed, IsRightlyShut, IsChildStart, IsRightlyStarted, IsFew}
use Rattle.log_truth.proofs.LineFronts.{IsBranch, shut_saying-not_placed}
use Rattle.log_truth.proofs.LateEnds.{late_decided}
use Rattle.log_truth.proofs.HoldsTests.{left_test, left_test-true, left_test-from}

none_decided : (o : Option ℕ) → Decided (o ≡ None)
none_decided None = inl refl
none_decided (Some t) = inr (λ e. cc)

pub named_decided : (b : Branch) (l : LogLine) → Decided (IsNamed b l)
named_decided at_root l = elim (both_decided (cases_eq l.job 0) (both_decided (cases_eq l.mode 0) (none_decided l.start))) [
  | inl h ↦ inl (h.0, h.1.0, h.1.1)
  | inr no_ ↦ inr (λ n. no_ (n.0, (n.1, n.2)))
]
named_decided (by_choice F c) l = both_decided (cases_eq l.job c.job) (cases_eq l.mode c.mode)

-- What is shut.
root_saying_decided : (P : Project) (s : Saying) → Decided (IsRootSaying P s)
root_saying_decided P (says_shut (NoBudget l)) = gap_decided P [] l
root_saying_decided P (says_shut (NoCapacity k)) = inr (λ h. h)
root_saying_decided P (says_shut (Inefficient m)) = inr (λ h. h)
root_saying_decided P says_expanded = leaves_decided P []
root_saying_decided P (says_late r) = leaves_decided P []
root_saying_decided P (says_dominated i) = leaves_decided P []

shut_saying_decided : (P : Project) (F : List Entry) (c : Choice) (s : Saying) → Kind P F c → Decided (IsShutSaying P F c s)
shut_saying_decided P F c (says_shut why) kind = shut_decided P F c why kind
shut_saying_decided P F c says_expanded kind = inr (λ h. h)
shut_saying_decided P F c (says_late r) kind = inr (λ h. h)
shut_saying_decided P F c (says_dominated i) kind = inr (λ h. h)

child_shut_decided : (P : Project) (F : List Entry) (c : Choice) (s : Saying) → Kind P F c → Decided (IsRightlyShut P (by_choice F c) s)
child_shut_decided P F c s (is_placed t p) = elim (cases_Bool (shuts s)) [
  | inr no_ ↦ inl (inr (no_, (t, p)))
  | inl yes_ ↦ inr (λ h. elim h [ inl shut ↦ shut_saying-not_placed P F c s t shut p | inr open_ ↦ both_ways (shuts s) open_.0 yes_ ])
]
child_shut_decided P F c s (is_shut_by why own) = elim (shut_saying_decided P F c s (is_shut_by why own)) [
  | inl shut ↦ inl (inl shut)
  | inr no_ ↦ inr (λ h. elim h [ inl shut ↦ no_ shut | inr open_ ↦ shut-not_placed P F c.job c.mode open_.1.0 why own open_.1.1 ])
]

pub rightly_shut_decided : (P : Project) (b : Branch) (s : Saying) → IsBranch P b → Decided (IsRightlyShut P b s)
rightly_shut_decided P at_root s is = root_saying_decided P s
rightly_shut_decided P (by_choice F c) s is = child_shut_decided P F c s (kind-of P F c is.1)

child_start_decided : (P : Project) (F : List Entry) (c : Choice) (s : Saying) (start : Option ℕ) → Kind P F c → Decided (IsChildStart P F c s start)
child_start_decided P F c s None kind = true_decided (shuts s)
child_start_decided P F c s (Some t) kind = placed_decided P F c t kind

pub rightly_started_decided : (P : Project) (b : Branch) (l : LogLine) → IsBranch P b → Decided (IsRightlyStarted P b l)
rightly_started_decided P at_root l is = inl tt
rightly_started_decided P (by_choice F c) l is = child_start_decided P F c (says l) l.start (kind-of P F c is.1)

-- What is said of a front.
allows_decided : (P : Project) (a : IsAcyclic P) (v : Verdict) (F : List Entry) (s : Saying) → IsFront P F → Decided (Allows P v F s)
allows_decided P a v F says_expanded f = not_decided (leaf_decided P F)
allows_decided P a v F (says_late r) f = late_decided P a v F r f
allows_decided P a v F (says_dominated i) f = inl tt
allows_decided P a v F (says_shut why) f = inr (λ h. h)

pub allowed_decided : (P : Project) (a : IsAcyclic P) (v : Verdict) (s : Saying) (o : Option (List Entry)) → ((F : List Entry) → o ≡ Some F → IsFront P F) → Decided (IfSome o (λ F. Allows P v F s))
allowed_decided P a v s None fronts = inl tt
allowed_decided P a v s (Some F) fronts = allows_decided P a v F s (fronts F refl)

pub few_decided : (k : ℕ) (l : LogLine) → Decided (IsFew k l)
few_decided k l = implies_decided (true_decided (is_expanded l)) (lt_decided k most_expanded)

-- Citations, where each node has a front of the project or none.
abbrev pub HaveFronts : Project → List LogNode → Type 0
HaveFronts P all = (i : ℕ) (n : LogNode) (A : List Entry) → numbered all i ≡ Some n → front_of n ≡ Some A → IsFront P A

front_decided : (P : Project) (all : List LogNode) (i : ℕ) (F : List Entry) (n : LogNode) (o : Option (List Entry)) → HaveFronts P all → numbered all i ≡ Some n → is_expanded n.line ≡ true → front_of n ≡ o →
    Decided (Cites P all i F)
front_decided P all i F n None fronts e x g = inr (λ c.
    let same : n ≡ c.cited = (let number = c.number in cc) in
    let own = ap front_of same ∙ c.is_its in cc)
front_decided P all i F n (Some A) fronts e x g = elim (dominates_decided P A F (fronts i n A e g)) [
  | inl d ↦ inl (record { cited = n; number = e; expanded = x; front = A; is_its = g; dominates = d })
  | inr no_ ↦ inr (λ c.
      let same : n ≡ c.cited = (let number = c.number in cc) in
      let own : Some A ≡ Some c.front = sym g ∙ (ap front_of same ∙ c.is_its) in
      let front : c.front ≡ A = cc in
      no_ (subst (λ (G : List Entry). Dominates P G F) front c.dominates))
]

node_decided : (P : Project) (all : List LogNode) (i : ℕ) (F : List Entry) (o : Option LogNode) → HaveFronts P all → numbered all i ≡ o → Decided (Cites P all i F)
node_decided P all i F None fronts e = inr (λ c. let number = c.number in cc)
node_decided P all i F (Some n) fronts e = elim (cases_Bool (is_expanded n.line)) [
  | inl yes_ ↦ front_decided P all i F n (front_of n) fronts e yes_ refl
  | inr no_ ↦ inr (λ c.
      let same : n ≡ c.cited = (let number = c.number in cc) in
      both_ways (is_expanded n.line) no_ (ap (λ (m : LogNode). is_expanded m.line) same ∙ c.expanded))
]

cites_decided : (P : Project) (all : List LogNode) (s : Saying) (o : Option (List Entry)) → HaveFronts P all → Decided (IfSome o (λ F. CitesWell P all F s))
cites_decided P all s None fronts = inl tt
cites_decided P all (says_dominated i) (Some F) fronts = node_decided P all i F (numbered all i) fronts refl
cites_decided P all says_expanded (Some F) fronts = inl tt
cites_decided P all (says_late r) (Some F) fronts = inl tt
cites_decided P all (says_shut why) (Some F) fronts = inl tt

pub served_decided : (P : Project) (all : List LogNode) (n : LogNode) → HaveFronts P all → Decided (IsServed P all n)
served_decided P all n fronts = cites_decided P all (says n.line) (front_of n) fronts

-- The lower bound.
pub lower_decided : (v : Verdict) (lines : List LogLine) → Decided (HasLower v lines)
lower_decided (Limit d b) lines =
    least_decided (IsLeftNumber lines)
    (λ i. tested (IsLeftNumber lines i) (left_test lines i) (λ t. Contains-from_In (map (λ (l : LogLine). l.fate) lines) (Left i) (left_test-true lines i t)) (λ c. left_test-from lines i (In-from_Contains (map (λ (l : LogLine). l.fate) lines) (Left i) c)))
    b
lower_decided (Optimal d) lines = inl tt
lower_decided Infeasible lines = inl tt
