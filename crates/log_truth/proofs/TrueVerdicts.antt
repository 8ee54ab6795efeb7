-- Where a report holds, its verdict is true: what completes the front of a line ends late, by induction from the longest
-- fronts down.
use Rattle.std.proofs.Common.{◌≡◌, ℕ, zero, suc, ◌+◌, ◌<◌, ◌≤◌, inl, inr, arith, refl, sym, ap, ◌∙◌, subst, List, [], ◌∷◌, ◌++◌, length, length-append, true, Option, Some, None}
use Rattle.std.specs.Prelude.{IfSome, map}
use Rattle.std.proofs.lemmas.Bool.{cases_Bool}
use Rattle.sched_base.specs.declared.fate.Fate.{Fate}
use Rattle.sched_base.specs.declared.fate.Fate.TheVariants.{Expanded, Leaf, TailBound, WorkBound, Budget, Capacity, Worse, Cutset, Left}
use Rattle.rcpsp_model.specs.declared.parts.Entry.{Entry}
use Rattle.rcpsp_model.specs.declared.parts.Placing.{Placing}
use Rattle.rcpsp_model.specs.declared.parts.Shut.TheVariants.{NoCapacity, NoBudget, Inefficient}
use Rattle.rcpsp_model.specs.declared.parts.Verdict.{Verdict}
use Rattle.rcpsp_model.specs.declared.parts.Verdict.TheVariants.{Optimal, Infeasible, Limit}
use Rattle.rcpsp_model.specs.Project.{Project, job_count, IsAcyclic}
use Rattle.rcpsp_model.specs.Schedule.{end_of, entries}
use Rattle.rcpsp_model.specs.Tree.{IsLeaf}
use Rattle.rcpsp_model.specs.Claim.{HasDuration, NoneIsFeasible, NoneEndsBefore, EndsLate, Claim}
use Rattle.rcpsp_model.proofs.Lists.{In, In-All, In-from_Contains, Contains-from_In}
use Rattle.rcpsp_model.proofs.Fronts.{length-front, same-length}
use Rattle.rcpsp_model.proofs.RootAndLeaves.{root_law}
use Rattle.rcpsp_model.proofs.BoundsHold.{gap_law}
use Rattle.rcpsp_model.proofs.Choices.{In-map, map-In}
use Rattle.rcpsp_model.proofs.Exchanged.{exchange_law}
use Rattle.rcpsp_model.proofs.Dominated.{dominance_law}
use Rattle.proof_log.specs.declared.report.LogLine.{LogLine}
use Rattle.proof_log.specs.Report.{duration_of}
use Rattle.log_truth.specs.Fates.{Reason, late_left, Saying, says_expanded, says_late, says_dominated, says_shut, saying, expands, shuts}
use Rattle.log_truth.specs.Log.{Branch, at_root, says, is_expanded, root_front, front_at, below, IsRootSaying, IsLineOfRoot, IsLineAt, AreLogs, LogNode, front_of, nodes_from, nodes}
use Rattle.log_truth.specs.Holds.{Reaches, IsLate, Allows, IsAllowed, CitesWell, IsServed, LogHolds}
use Rattle.log_truth.specs.Laws.{HoldsLaw}
use Rattle.log_truth.proofs.JoinedLogs.{node-line, wanted-stands}
use Rattle.log_truth.proofs.LineFronts.{line-open, node-front, child-node}
use Rattle.log_truth.proofs.OneLine.{numbered-In}
use Rattle.log_truth.proofs.LateEnds.{late_law}

-- a root that is shut has a gap
gap-none : (P : Project) (s : Saying) → shuts s ≡ true → IsRootSaying P s → NoneIsFeasible P
gap-none P (says_shut (NoBudget l)) shut gap s f = gap_law P [] s l tt gap.attained (((root_law P).1 s).1 f)
gap-none P (says_shut (NoCapacity k)) shut gap s f = gap
gap-none P (says_shut (Inefficient m)) shut gap s f = gap
gap-none P says_expanded shut gap s f = absurd (cc)
gap-none P (says_late r) shut gap s f = absurd (cc)
gap-none P (says_dominated i) shut gap s f = absurd (cc)

-- each late line ends late by d or more
abbrev AreLate : Project → Verdict → List LogLine → ℕ → Type 0
AreLate P v lines d = (n : LogNode) (F : List Entry) (r : Reason) → In (nodes P lines) n → says n.line ≡ says_late r → (l : IsLate P v F r) → d ≤ l.number

module _ (P : Project) (a : IsAcyclic P) (v : Verdict) (lines : List LogLine) (log : LogHolds P v lines) (d : ℕ) (late : AreLate P v lines d) where
  allows : (n : LogNode) (F : List Entry) → In (nodes P lines) n → front_of n ≡ Some F → Allows P v F (says n.line)
  allows n F i e =
      subst (λ (o : Option (List Entry)). IfSome o (λ G. Allows P v G (says n.line))) e (In-All (λ m. IsAllowed P v m.branch m.line) (nodes P lines) log.allowed n i)

  cites : (n : LogNode) (F : List Entry) → In (nodes P lines) n → front_of n ≡ Some F → CitesWell P (nodes P lines) F (says n.line)
  cites n F i e =
      subst (λ (o : Option (List Entry)). IfSome o (λ G. CitesWell P (nodes P lines) G (says n.line))) e (In-All (IsServed P (nodes P lines)) (nodes P lines) log.served n i)

  -- all that completes the front of each line whose front is one longer than F ends late
  abbrev Longer : List Entry → Type 0
  Longer F = (e : Entry) (m : LogNode) → In (nodes P lines) m → front_of m ≡ Some (F ++ e ∷ []) → EndsLate P d (F ++ e ∷ [])

  expanded-allows : (F : List Entry) (s : Saying) → expands s ≡ true → Allows P v F s → IsLeaf P F → ⊥
  expanded-allows F says_expanded x inner = inner
  expanded-allows F (says_late r) x inner = absurd (cc)
  expanded-allows F (says_dominated i) x inner = absurd (cc)
  expanded-allows F (says_shut why) x inner = absurd (cc)

  -- an expanded line
  late-expanded : (n : LogNode) (F : List Entry) → In (nodes P lines) n → front_of n ≡ Some F → is_expanded n.line ≡ true → Longer F → EndsLate P d F
  late-expanded n F i e x longer s c =
      let r = exchange_law P F s a (node-front P lines log.log n F i e) (expanded-allows F (says n.line) x (allows n F i e)) c in
      let m = child-node P lines log.log n F r.entry i e x r.child in
      let far = longer r.entry m.0 m.1 m.2 r.better r.completes in
      let no_later = r.no_later in
      omega arith

  -- any line, by what it says
  late-saying : (n : LogNode) (F : List Entry) (s : Saying) → In (nodes P lines) n → front_of n ≡ Some F → says n.line ≡ s → Allows P v F s → CitesWell P (nodes P lines) F s →
      ((A : List Entry) → length A ≡ length F → Longer A) → EndsLate P d F
  late-saying n F says_expanded i e is allowed cited longer = late-expanded n F i e (ap expands is) (longer F refl)
  late-saying n F (says_late r) i e is allowed cited longer = λ s c.
      let by = late_law P F s r allowed.number a (node-front P lines log.log n F i e) c allowed.late in
      let enough = late n F r i is allowed in
      omega arith
  late-saying n F (says_dominated k) i e is allowed cited longer = λ s c.
      let j = numbered-In (nodes P lines) k cited.cited cited.number in
      let front = node-front P lines log.log n F i e in
      let other = node-front P lines log.log cited.cited cited.front j cited.is_its in
      let r = dominance_law P cited.front F s a other front cited.dominates c in
      let far = late-expanded cited.cited cited.front j cited.is_its cited.expanded (longer cited.front (same-length P cited.front F other front cited.dominates.jobs)) r.better r.completes in
      let no_later = r.no_later in
      omega arith
  late-saying n F (says_shut why) i e is allowed cited longer = absurd allowed

  -- fronts that lack fewer than k jobs
  late-from : (k : ℕ) (n : LogNode) (F : List Entry) → In (nodes P lines) n → front_of n ≡ Some F → job_count P < length F + k → EndsLate P d F
  late-from zero n F i e short s c = let few = length-front P F (node-front P lines log.log n F i e) in absurd (omega arith)
  late-from (suc k) n F i e short s c =
      let longer : (A : List Entry) → length A ≡ length F → Longer A =
      λ A same x m j front. late-from k m (A ++ x ∷ []) j front (let one = length-append A (x ∷ []) in omega arith) in
      late-saying n F (says n.line) i e refl (allows n F i e) (cites n F i e) longer s c

  -- The root has a gap, or all that completes the empty front ends late.
  root-late : (n : LogNode) → In (nodes P lines) n → n.branch ≡ at_root → NoneEndsBefore P d
  root-late n i here s f =
      let line : IsLineOfRoot P n.line = subst (λ (b : Branch). IsLineAt P b n.line) here (node-line P (at_root ∷ []) lines log.log n i) in
      elim (cases_Bool (shuts (says n.line))) [
        | inl shut ↦ absurd (gap-none P (says n.line) shut line.fate s f)
        | inr open_ ↦
            let front : front_of n ≡ Some [] = subst (λ (b : Branch). front_at b n.line ≡ Some []) (sym here) (ap root_front open_) in
            late-from (job_count P + 1) n [] i front (omega arith) s (((root_law P).1 s).1 f)
      ]

  none-before : NoneEndsBefore P d
  none-before = let r = wanted-stands P (at_root ∷ []) lines log.log at_root (inl refl) in root-late r.node r.member r.branch

-- Each line of a log has a node, and each node is of a line.
node-of_line : (P : Project) (bs : List Branch) (lines : List LogLine) → AreLogs P bs lines → (l : LogLine) → In lines l → (n : LogNode) × In (nodes_from P bs lines) n × (n.line ≡ l)
node-of_line P bs [] a l i = absurd i
node-of_line P [] (x ∷ ls) a l i = absurd a
node-of_line P (b ∷ bs) (x ∷ ls) a l (inl e) = (record { branch = b; line = x }, inl refl, e)
node-of_line P (b ∷ bs) (x ∷ ls) a l (inr i) = let r = node-of_line P (below P b x ++ bs) ls a.1 l i in (r.0, inr r.1, r.2)

line-of_node : (P : Project) (bs : List Branch) (lines : List LogLine) (n : LogNode) → In (nodes_from P bs lines) n → In lines n.line
line-of_node P bs [] n i = absurd i
line-of_node P [] (x ∷ ls) n i = absurd i
line-of_node P (b ∷ bs) (x ∷ ls) n (inl e) = inl (ap (λ (y : LogNode). y.line) e)
line-of_node P (b ∷ bs) (x ∷ ls) n (inr i) = inr (line-of_node P (below P b x ++ bs) ls n i)

-- the fate of a line that was left
left-fate : (f : Fate) (b : ℕ) → saying f ≡ says_late (late_left b) → f ≡ Left b
left-fate (Left k) b e = cc
left-fate Expanded b e = absurd (cc)
left-fate Leaf b e = absurd (cc)
left-fate TailBound b e = absurd (cc)
left-fate (WorkBound k) b e = absurd (cc)
left-fate (Cutset i) b e = absurd (cc)
left-fate (Budget l) b e = absurd (cc)
left-fate (Capacity k) b e = absurd (cc)
left-fate (Worse m) b e = absurd (cc)

reaches-some : (o : Option ℕ) (k : ℕ) → Reaches o k → (e : ℕ) × (o ≡ Some e) × (e ≤ k)
reaches-some None k r = absurd r
reaches-some (Some e) k r = (e, refl, r)

module _ (P : Project) (lines : List LogLine) (duration : Option ℕ) (bound : ℕ) (log : LogHolds P (Limit duration bound) lines) where
  -- no line was left with a lesser number
  least-left : (n : LogNode) (b : ℕ) → In (nodes P lines) n → says n.line ≡ says_late (late_left b) → bound ≤ b
  least-left n b i e =
      let fate = left-fate n.line.fate b e in
      let member = subst (In (map (λ (l : LogLine). l.fate) lines)) fate (In-map (λ (l : LogLine). l.fate) lines n.line (line-of_node P (at_root ∷ []) lines n i)) in
      log.lower.least b (Contains-from_In (map (λ (l : LogLine). l.fate) lines) (Left b) member)

  -- and the least is below the duration
  lower-below : (e : ℕ) → duration ≡ Some e → bound ≤ e
  lower-below e same =
      let l = map-In (λ (l : LogLine). l.fate) lines (Left bound) (In-from_Contains (map (λ (l : LogLine). l.fate) lines) (Left bound) log.lower.attained) in
      let n = node-of_line P (at_root ∷ []) lines log.log l.0 l.1 in
      let said : says n.0.line ≡ says_late (late_left bound) = ap saying (ap (λ (x : LogLine). x.fate) n.2 ∙ l.2) in
      let front = line-open P n.0.branch n.0.line (node-line P (at_root ∷ []) lines log.log n.0 n.1) (ap shuts said) in
      let may : IsLate P (Limit duration bound) front.0 (late_left bound) =
      subst (Allows P (Limit duration bound) front.0) said (allows-of n.0 front.0 n.1 front.1) in
      let low : may.number < e = subst (λ (o : Option ℕ). IfSome o (λ x. may.number < x)) same may.suffices.1 in
      let number = may.late.2 in
      omega arith
    where
      allows-of : (n : LogNode) (F : List Entry) → In (nodes P lines) n → front_of n ≡ Some F → Allows P (Limit duration bound) F (says n.line)
      allows-of n F i f =
          subst (λ (o : Option (List Entry)). IfSome o (λ G. Allows P (Limit duration bound) G (says n.line))) f
          (In-All (λ m. IsAllowed P (Limit duration bound) m.branch m.line) (nodes P lines) log.allowed n i)

  are_late : AreLate P (Limit duration bound) lines bound
  are_late n F (late_left b) i e l = let least = least-left n b i e in let number = l.late.2 in omega arith
  are_late n F _ i e l = let r = reaches-some duration l.number l.suffices in let low = lower-below r.0 r.1 in let up = r.2 in omega arith

optimal-late : (P : Project) (lines : List LogLine) (d : ℕ) → AreLate P (Optimal d) lines d
optimal-late P lines d n F (late_left b) i e l = absurd l.suffices.0
optimal-late P lines d n F _ i e l = l.suffices

-- without a duration and a limit no line is late
none-late : (P : Project) (lines : List LogLine) (d : ℕ) → AreLate P Infeasible lines d
none-late P lines d n F (late_left b) i e l = absurd l.suffices.0
none-late P lines d n F _ i e l = absurd l.suffices

pub log-claim : (P : Project) (v : Verdict) (best : Option (List Placing)) (lines : List LogLine) → IsAcyclic P → LogHolds P v lines → HasDuration P (duration_of v) best → Claim P v best
log-claim P (Optimal d) best lines a log has = (has, none-before P a (Optimal d) lines log d (optimal-late P lines d))
log-claim P (Limit duration bound) best lines a log has = (has, none-before P a (Limit duration bound) lines log bound (are_late P lines duration bound log))
log-claim P Infeasible best lines a log has =
    (has, λ s f. let far = none-before P a Infeasible lines log (end_of P (entries s) + 1) (none-late P lines (end_of P (entries s) + 1)) s f in omega arith)

pub holds_law : HoldsLaw
holds_law P report a h = log-claim P report.verdict report.best h.lines a h.log h.best
