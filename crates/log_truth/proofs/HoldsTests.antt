-- Tests that compute whether a report holds, on a project that is given with a longest chain from each job, and what they
-- show.
use Rattle.std.proofs.Common.{◌≡◌, ℕ, ◌<◌, inl, inr, refl, ap, ◌∙◌, List, [], ◌∷◌, Bool, true, false, eqb, leb, ltb, ◌&&◌, ◌||◌, not, Option, Some, None}
use Rattle.std.specs.Prelude.{All, IfSome, map}
use Rattle.std.proofs.lemmas.Bool.{and_parts, leb-true, ltb-true, eqb-true, eq-eqb, or_cases, or_left, or_right, false≢true}
use Rattle.sched_base.specs.declared.fate.Fate.{Fate}
use Rattle.sched_base.specs.declared.fate.Fate.TheVariants.{Expanded, Leaf, TailBound, WorkBound, Budget, Capacity, Worse, Cutset, Left}
use Rattle.rcpsp_model.specs.declared.parts.Entry.{Entry}
use Rattle.rcpsp_model.specs.declared.parts.Placing.{Placing}
use Rattle.rcpsp_model.specs.declared.parts.Verdict.{Verdict}
use Rattle.rcpsp_model.specs.declared.parts.Verdict.TheVariants.{Optimal, Infeasible, Limit}
use Rattle.rcpsp_model.specs.Project.{Project, IsAcyclic}
use Rattle.rcpsp_model.specs.Schedule.{end_of, entries}
use Rattle.rcpsp_model.specs.Dominance.{Dominates}
use Rattle.rcpsp_model.specs.Claim.{HasDuration}
use Rattle.rcpsp_model.proofs.Lists.{In, In-from_Contains, Contains-from_In}
use Rattle.rcpsp_model.proofs.Tests.{every, All-every, feasible_test, feasible_test-true}
use Rattle.rcpsp_model.proofs.ChildTests.{least_test, least_test-true}
use Rattle.rcpsp_model.proofs.BoundTests.{leaf_test, leaf_test-true, not_leaf, Chains, tail_test, tail_value, tail_bound-by, work_test, work_value, work_test-true, lower_test, lower_test-true, dominates_test, dominates_test-true}
use Rattle.proof_log.specs.declared.report.LogLine.{LogLine}
use Rattle.proof_log.specs.Report.{duration_of}
use Rattle.log_truth.specs.Fates.{Reason, late_leaf, late_tail, late_work, late_left, Saying, says_expanded, says_late, says_dominated, says_shut}
use Rattle.log_truth.specs.Log.{Branch, at_root, says, is_expanded, front_at, LogNode, front_of, nodes}
use Rattle.log_truth.specs.Holds.{IsLateBy, IsLimit, Reaches, Suffices, Allows, IsAllowed, numbered, Cites, CitesWell, IsServed, IsLeftNumber, HasLower, most_expanded, expanded_in, LogHolds}
use Rattle.log_truth.proofs.LineTests.{logs_test, logs_test-true}

-- Fronts that end late.
abbrev pub late_value : Project → Chains → List Entry → Reason → ℕ
late_value P chains F late_leaf = end_of P F
late_value P chains F late_tail = tail_value P chains F
late_value P chains F (late_work k) = work_value P F k
late_value P chains F (late_left b) = b

abbrev pub late_test : Project → Chains → List Entry → Reason → Bool
late_test P chains F late_leaf = leaf_test P F
late_test P chains F late_tail = tail_test P chains F
late_test P chains F (late_work k) = work_test P F k
late_test P chains F (late_left b) = not (leaf_test P F) && lower_test P chains F b

pub late_test-true : (P : Project) (a : IsAcyclic P) (chains : Chains) (F : List Entry) (r : Reason) → late_test P chains F r ≡ true → IsLateBy P F r (late_value P chains F r)
late_test-true P a chains F late_leaf h = (leaf_test-true P F h, refl)
late_test-true P a chains F late_tail h = tail_bound-by P a chains F h
late_test-true P a chains F (late_work k) h = work_test-true P F k h
late_test-true P a chains F (late_left b) h =
    let p = and_parts (not (leaf_test P F)) (lower_test P chains F b) h in (not_leaf P F p.0, lower_test-true P a chains F b p.1, refl)

abbrev pub reaches_test : Option ℕ → ℕ → Bool
reaches_test None n = false
reaches_test (Some d) n = leb d n

reaches-true : (o : Option ℕ) (n : ℕ) → reaches_test o n ≡ true → Reaches o n
reaches-true None n h = absurd (false≢true h)
reaches-true (Some d) n h = leb-true d n h

abbrev pub limit_test : Verdict → Bool
limit_test (Limit d b) = true
limit_test _ = false

limit-true : (v : Verdict) → limit_test v ≡ true → IsLimit v
limit-true (Limit d b) h = tt
limit-true (Optimal d) h = absurd (false≢true h)
limit-true Infeasible h = absurd (false≢true h)

abbrev pub below_test : Option ℕ → ℕ → Bool
below_test None n = true
below_test (Some d) n = ltb n d

below-true : (o : Option ℕ) (n : ℕ) → below_test o n ≡ true → IfSome o (λ d. n < d)
below-true None n h = tt
below-true (Some d) n h = ltb-true n d h

abbrev pub suffices_test : Verdict → Reason → ℕ → Bool
suffices_test v (late_left b) n = limit_test v && below_test (duration_of v) n
suffices_test v _ n = reaches_test (duration_of v) n

suffices-true : (v : Verdict) (r : Reason) (n : ℕ) → suffices_test v r n ≡ true → Suffices v r n
suffices-true v (late_left b) n h = let p = and_parts (limit_test v) (below_test (duration_of v) n) h in (limit-true v p.0, below-true (duration_of v) n p.1)
suffices-true v _ n h = reaches-true (duration_of v) n h

-- What a front allows to be said.
abbrev pub allows_test : Project → Chains → Verdict → List Entry → Saying → Bool
allows_test P chains v F says_expanded = not (leaf_test P F)
allows_test P chains v F (says_late r) = late_test P chains F r && suffices_test v r (late_value P chains F r)
allows_test P chains v F (says_dominated i) = true
allows_test P chains v F (says_shut why) = false

allows-true : (P : Project) (a : IsAcyclic P) (chains : Chains) (v : Verdict) (F : List Entry) (s : Saying) → allows_test P chains v F s ≡ true → Allows P v F s
allows-true P a chains v F says_expanded h = not_leaf P F h
allows-true P a chains v F (says_late r) h =
    let p = and_parts (late_test P chains F r) (suffices_test v r (late_value P chains F r)) h in
    record { number = late_value P chains F r; late = late_test-true P a chains F r p.0; suffices = suffices-true v r (late_value P chains F r) p.1 }
allows-true P a chains v F (says_dominated i) h = tt
allows-true P a chains v F (says_shut why) h = absurd (false≢true h)

abbrev pub front_allows_test : Project → Chains → Verdict → Option (List Entry) → Saying → Bool
front_allows_test P chains v None s = true
front_allows_test P chains v (Some F) s = allows_test P chains v F s

front_allows-true : (P : Project) (a : IsAcyclic P) (chains : Chains) (v : Verdict) (o : Option (List Entry)) (s : Saying) → front_allows_test P chains v o s ≡ true → IfSome o (λ F. Allows P v F s)
front_allows-true P a chains v None s h = tt
front_allows-true P a chains v (Some F) s h = allows-true P a chains v F s h

abbrev pub allowed_test : Project → Chains → Verdict → Branch → LogLine → Bool
allowed_test P chains v b l = front_allows_test P chains v (front_at b l) (says l)

pub allowed_test-true : (P : Project) (a : IsAcyclic P) (chains : Chains) (v : Verdict) (b : Branch) (l : LogLine) → allowed_test P chains v b l ≡ true → IsAllowed P v b l
allowed_test-true P a chains v b l h = front_allows-true P a chains v (front_at b l) (says l) h

-- Citations.
abbrev pub dominates_at : Project → Option (List Entry) → List Entry → Bool
dominates_at P None F = false
dominates_at P (Some A) F = dominates_test P A F

dominates_at-true : (P : Project) (o : Option (List Entry)) (F : List Entry) → dominates_at P o F ≡ true → (A : List Entry) × (o ≡ Some A) × Dominates P A F
dominates_at-true P None F h = absurd (false≢true h)
dominates_at-true P (Some A) F h = (A, refl, dominates_test-true P A F h)

abbrev pub cites_at : Project → Option LogNode → List Entry → Bool
cites_at P None F = false
cites_at P (Some n) F = is_expanded n.line && dominates_at P (front_of n) F

cites-true : (P : Project) (all : List LogNode) (i : ℕ) (o : Option LogNode) (F : List Entry) → numbered all i ≡ o → cites_at P o F ≡ true → Cites P all i F
cites-true P all i None F e h = absurd (false≢true h)
cites-true P all i (Some n) F e h =
    let p = and_parts (is_expanded n.line) _ h in
    let d = dominates_at-true P (front_of n) F p.1 in
    record { cited = n; number = e; expanded = p.0; front = d.0; is_its = d.1; dominates = d.2 }

abbrev pub front_cites_test : Project → List LogNode → Option (List Entry) → Saying → Bool
front_cites_test P all (Some F) (says_dominated i) = cites_at P (numbered all i) F
front_cites_test P all _ _ = true

front_cites-true : (P : Project) (all : List LogNode) (o : Option (List Entry)) (s : Saying) → front_cites_test P all o s ≡ true → IfSome o (λ F. CitesWell P all F s)
front_cites-true P all None s h = tt
front_cites-true P all (Some F) (says_dominated i) h = cites-true P all i (numbered all i) F refl h
front_cites-true P all (Some F) says_expanded h = tt
front_cites-true P all (Some F) (says_late r) h = tt
front_cites-true P all (Some F) (says_shut why) h = tt

abbrev pub served_test : Project → List LogNode → LogNode → Bool
served_test P all n = front_cites_test P all (front_of n) (says n.line)

pub served_test-true : (P : Project) (all : List LogNode) (n : LogNode) → served_test P all n ≡ true → IsServed P all n
served_test-true P all n h = front_cites-true P all (front_of n) (says n.line) h

-- The verdict.
abbrev pub duration_test : Project → Option ℕ → Option (List Placing) → Bool
duration_test P None None = true
duration_test P (Some d) (Some s) = feasible_test P s && eqb (end_of P (entries s)) d
duration_test P None (Some s) = false
duration_test P (Some d) None = false

pub duration_test-true : (P : Project) (d : Option ℕ) (s : Option (List Placing)) → duration_test P d s ≡ true → HasDuration P d s
duration_test-true P None None h = tt
duration_test-true P (Some d) (Some s) h = let a = and_parts (feasible_test P s) _ h in record { feasible = feasible_test-true P s a.0; end = eqb-true _ _ a.1 }
duration_test-true P None (Some s) h = absurd (false≢true h)
duration_test-true P (Some d) None h = absurd (false≢true h)

abbrev pub is_left : ℕ → Fate → Bool
is_left b (Left n) = eqb n b
is_left b _ = false

is_left-true : (b : ℕ) (f : Fate) → is_left b f ≡ true → f ≡ Left b
is_left-true b (Left n) h = ap Left (eqb-true n b h)
is_left-true b Expanded h = absurd (false≢true h)
is_left-true b Leaf h = absurd (false≢true h)
is_left-true b TailBound h = absurd (false≢true h)
is_left-true b (WorkBound k) h = absurd (false≢true h)
is_left-true b (Cutset i) h = absurd (false≢true h)
is_left-true b (Budget l) h = absurd (false≢true h)
is_left-true b (Capacity k) h = absurd (false≢true h)
is_left-true b (Worse m) h = absurd (false≢true h)

abbrev pub left_test : List LogLine → ℕ → Bool
left_test [] b = false
left_test (l ∷ ls) b = is_left b l.fate || left_test ls b

pub left_test-true : (ls : List LogLine) (b : ℕ) → left_test ls b ≡ true → In (map (λ (l : LogLine). l.fate) ls) (Left b)
left_test-true [] b h = absurd (false≢true h)
left_test-true (l ∷ ls) b h = elim (or_cases (is_left b l.fate) (left_test ls b) h) [ inl here ↦ inl (is_left-true b l.fate here) | inr later ↦ inr (left_test-true ls b later) ]

pub left_test-from : (ls : List LogLine) (b : ℕ) → In (map (λ (l : LogLine). l.fate) ls) (Left b) → left_test ls b ≡ true
left_test-from [] b i = absurd i
left_test-from (l ∷ ls) b (inl e) = or_left (is_left b l.fate) (left_test ls b) (ap (is_left b) e ∙ eq-eqb b b refl)
left_test-from (l ∷ ls) b (inr i) = or_right (is_left b l.fate) (left_test ls b) (left_test-from ls b i)

abbrev pub has_lower_test : Verdict → List LogLine → Bool
has_lower_test (Limit d b) lines = least_test (left_test lines) b
has_lower_test _ lines = true

pub has_lower_test-true : (v : Verdict) (lines : List LogLine) → has_lower_test v lines ≡ true → HasLower v lines
has_lower_test-true (Limit d b) lines h =
    least_test-true (IsLeftNumber lines) (left_test lines) (λ i t. Contains-from_In _ (Left i) (left_test-true lines i t)) (λ i c. left_test-from lines i (In-from_Contains _ (Left i) c)) b h
has_lower_test-true (Optimal d) lines h = tt
has_lower_test-true Infeasible lines h = tt

-- A log.
abbrev pub all_allowed_test : Project → Chains → Verdict → List LogLine → Bool
all_allowed_test P chains v lines = every (λ n. allowed_test P chains v n.branch n.line) (nodes P lines)

pub all_allowed_test-true : (P : Project) (a : IsAcyclic P) (chains : Chains) (v : Verdict) (lines : List LogLine) → all_allowed_test P chains v lines ≡ true →
    All (λ n. IsAllowed P v n.branch n.line) (nodes P lines)
all_allowed_test-true P a chains v lines h =
    All-every (λ (n : LogNode). IsAllowed P v n.branch n.line) (λ n. allowed_test P chains v n.branch n.line) (nodes P lines) (λ n t. allowed_test-true P a chains v n.branch n.line t) h

abbrev pub holds_test : Project → Chains → Verdict → List LogLine → Bool
holds_test P chains v lines =
    logs_test P (at_root ∷ []) lines && (all_allowed_test P chains v lines && (every (served_test P (nodes P lines)) (nodes P lines) && (leb (expanded_in lines) most_expanded && has_lower_test v lines)))

pub holds_test-true : (P : Project) (a : IsAcyclic P) (chains : Chains) (v : Verdict) (lines : List LogLine) → holds_test P chains v lines ≡ true → LogHolds P v lines
holds_test-true P a chains v lines h =
    let Served : LogNode → Bool = served_test P (nodes P lines) in
    let p = and_parts (logs_test P (at_root ∷ []) lines) _ h in
    let q = and_parts (all_allowed_test P chains v lines) _ p.1 in
    let r = and_parts (every Served (nodes P lines)) _ q.1 in
    let s = and_parts (leb (expanded_in lines) most_expanded) (has_lower_test v lines) r.1 in
    record {
      log = logs_test-true P (at_root ∷ []) lines p.0;
      allowed = all_allowed_test-true P a chains v lines q.0;
      served = All-every (IsServed P (nodes P lines)) Served (nodes P lines) (λ n t. served_test-true P (nodes P lines) n t) r.0;
      few = leb-true _ _ s.0;
      lower = has_lower_test-true v lines s.1;
    }
