-- A log that holds has the form of a log, and what was found is a report that has a text.
use Rattle.std.proofs.Common.{◌≡◌, ℕ, zero, suc, ◌+◌, ◌<◌, ◌≤◌, inl, inr, refl, sym, ap, subst, arith, List, [], ◌∷◌, ◌++◌, length, map, true, false, not, Option, Some, None}
use Rattle.std.specs.Prelude.{All, IfSome, is_some, slice_get}
use Rattle.std.proofs.lemmas.List.Elements.{All-cons, All-head, All-nil, All-tail}
use Rattle.sched_base.specs.declared.fate.Fate.{Fate}
use Rattle.sched_base.specs.declared.fate.Fate.TheVariants.{Expanded, Leaf, TailBound, WorkBound, Budget, Capacity, Worse, Cutset, Left}
use Rattle.rcpsp_model.specs.declared.parts.Entry.{Entry}
use Rattle.rcpsp_model.specs.declared.parts.Placing.{Placing}
use Rattle.rcpsp_model.specs.declared.parts.Verdict.{Verdict}
use Rattle.rcpsp_model.specs.declared.parts.Verdict.TheVariants.{Optimal, Infeasible, Limit}
use Rattle.rcpsp_model.specs.Project.{Project, job_count, IsMode, IsWithinLimits}
use Rattle.rcpsp_model.specs.Schedule.{entries_from, IsOf}
use Rattle.rcpsp_model.specs.Tree.{Choice, choices, entry_at, IsFront}
use Rattle.rcpsp_model.specs.Claim.{HasDuration}
use Rattle.rcpsp_model.proofs.Lists.{In, In-append, In-All, All-from_In, Contains-from_In}
use Rattle.rcpsp_model.proofs.Choices.{choice-is, In-map, In-right}
use Rattle.rcpsp_model.proofs.RootAndLeaves.{front-push}
use Rattle.rcpsp_model.proofs.Fronts.{front-of}
use Rattle.project_net.proofs.Limits.{few_modes}
use Rattle.proof_log.specs.declared.report.LogLine.{LogLine}
use Rattle.proof_log.specs.Line.{IsNumber, is_shut}
use Rattle.proof_log.specs.Report.{duration_of, lower_of, letter_of, fate_number, IsRootLine, IsInnerLine, IsPlan}
use Rattle.log_truth.specs.Fates.{saying, shuts}
use Rattle.log_truth.specs.Log.{Branch, at_root, by_choice, is_expanded, extended_by, front_at, below, IsRootSaying, IsShutSaying, IsChildSaying, IsLineOfRoot, IsLineOfChoice, IsLineAt, AreLogs, LogNode, front_of, nodes_from, nodes}
use Rattle.log_truth.specs.Holds.{Allows, IsAllowed, numbered, CitesWell, IsServed, IsLeftNumber, HasLower, LogHolds}
use Rattle.log_truth.proofs.JoinedLogs.{node-line, each-branch, below-is}
use Rattle.log_truth.proofs.LineFronts.{IsBranch, line-front}
use Rattle.log_truth.proofs.OneRefusal.{good_law}
use Rattle.log_truth.proofs.FewLines.{room_law}
use Rattle.search_rounds.specs.Laws.{FormLaw, ReportLaw}
use Rattle.search_rounds.proofs.SoonEnds.{starts-soon}

-- What is known of a line, whatever its branch: how many lines there are, and the numbers of those that were left.
record Around (P : Project) (v : Verdict) (all : List LogNode) (front : Option (List Entry)) (fate : Fate) : Type 0 where
  limits : IsWithinLimits P
  allowed : IfSome front (λ F. Allows P v F (saying fate))
  served : IfSome front (λ F. CitesWell P all F (saying fate))
  short : length all ≤ 51200001
  narrow : (b : ℕ) → fate ≡ Left b → b ≤ 999999999

slice_get-within : {X : Type 0} (xs : List X) (i : ℕ) (x : X) → slice_get xs i ≡ Some x → i < length xs
slice_get-within [] i x e = absurd (cc)
slice_get-within (y ∷ xs) zero x e = omega arith
slice_get-within (y ∷ xs) (suc i) x e = let ih = slice_get-within xs i x e in omega arith

numbered-within : {X : Type 0} (xs : List X) (i : ℕ) (x : X) → numbered xs i ≡ Some x → i ≤ length xs
numbered-within xs zero x e = omega arith
numbered-within xs (suc i) x e = let l = slice_get-within xs i x e in omega arith

-- the number of a fate that isn't that of a shut child
front-number : (P : Project) (v : Verdict) (all : List LogNode) (F : List Entry) (fate : Fate) → Around P v all (Some F) fate → shuts (saying fate) ≡ false → IsNumber (fate_number fate)
front-number P v all F Expanded k o = omega arith
front-number P v all F Leaf k o = omega arith
front-number P v all F TailBound k o = omega arith
front-number P v all F (WorkBound r) k o = let few = k.limits.few_renewables in let last = k.allowed.late.renewable.1 in omega arith
front-number P v all F (Budget l) k o = absurd (cc)
front-number P v all F (Capacity r) k o = absurd (cc)
front-number P v all F (Worse m) k o = absurd (cc)
front-number P v all F (Cutset i) k o = let l = numbered-within all i k.served.cited k.served.number in let few = k.short in omega arith
front-number P v all F (Left b) k o = k.narrow b refl

-- and that of a shut child
shut-number : (P : Project) (F : List Entry) (c : Choice) (fate : Fate) → IsWithinLimits P → In (choices P F) c → IsShutSaying P F c (saying fate) → IsNumber (fate_number fate) × (is_shut (letter_of fate) ≡ true)
shut-number P F c Expanded limits i is = absurd is
shut-number P F c Leaf limits i is = absurd is
shut-number P F c TailBound limits i is = absurd is
shut-number P F c (WorkBound r) limits i is = absurd is
shut-number P F c (Cutset n) limits i is = absurd is
shut-number P F c (Left b) limits i is = absurd is
shut-number P F c (Capacity r) limits i is = let few = limits.few_renewables in let last = is.attained.renewable.1 in (omega arith, refl)
shut-number P F c (Budget l) limits i is = let few = limits.few_nonrenewables in let last = is.1.attained.nonrenewable.1 in (omega arith, refl)
shut-number P F c (Worse m) limits i is =
    let last = is.2.attained.mode.1 in
    let few = few_modes P c.job limits (choice-is P F c i).0.job in
    (omega arith, refl)

open-letter : (fate : Fate) → shuts (saying fate) ≡ false → is_shut (letter_of fate) ≡ false
open-letter Expanded e = refl
open-letter Leaf e = refl
open-letter TailBound e = refl
open-letter (WorkBound r) e = refl
open-letter (Budget l) e = absurd (cc)
open-letter (Capacity r) e = absurd (cc)
open-letter (Worse m) e = absurd (cc)
open-letter (Cutset i) e = refl
open-letter (Left b) e = refl

-- The line of a choice.
record InnerParts (start : Option ℕ) (fate : Fate) : Type 0 where
  begun : IfSome start IsNumber
  shut : is_some start ≡ not (is_shut (letter_of fate))
  number : IsNumber (fate_number fate)

inner-parts : (P : Project) (v : Verdict) (all : List LogNode) (F : List Entry) (c : Choice) (start : Option ℕ) (fate : Fate) → IsFront P F → In (choices P F) c → IsChildSaying P F c start (saying fate) →
    Around P v all (extended_by F c start) fate → InnerParts start fate
inner-parts P v all F c (Some t) fate front chosen is k =
    let e : Entry = entry_at c.job c.mode t in
    let whole = front-push P F e front is.0.follows in
    let of = In-All (IsOf P) (F ++ e ∷ []) (front-of P (F ++ e ∷ []) k.limits whole) e (In-right F (e ∷ []) e (inl refl)) in
    record {
      begun = of.start;
      shut = sym (ap not (open-letter fate is.1));
      number = front-number P v all (F ++ e ∷ []) fate k is.1;
    }
inner-parts P v all F c None fate front chosen is k =
    let x = shut-number P F c fate k.limits chosen is in
    record { begun = tt; shut = sym (ap not x.1); number = x.0 }

inner-line : (P : Project) (v : Verdict) (all : List LogNode) (F : List Entry) (c : Choice) (l : LogLine) → IsFront P F → In (choices P F) c → IsLineOfChoice P F c l → Around P v all (extended_by F c l.start) l.fate →
    IsInnerLine l × ((l.job < 256) × (l.mode < 256))
unfolding job_count
inner-line P v all F c l front chosen is k =
    let x = inner-parts P v all F c l.start l.fate front chosen is.fate k in
    let by = choice-is P F c chosen in
    let some_job = by.0.job.0 in
    let last_job = by.0.job.1 in
    let some_mode = by.1.0 in
    let last_mode = by.1.1 in
    let jobs = k.limits.few_jobs in
    let modes = few_modes P c.job k.limits by.0.job in
    let job = is.job in
    let mode = is.mode in
    (record { job = omega arith; mode = omega arith; start = x.begun; shut = x.shut; number = x.number }, (omega arith, omega arith))

-- The line of the root.
root-number : (P : Project) (v : Verdict) (all : List LogNode) (fate : Fate) → IsRootSaying P (saying fate) → Around P v all (front_at at_root (record { job = 0; mode = 0; start = None; fate = fate })) fate → IsNumber (fate_number fate)
root-number P v all Expanded is k = omega arith
root-number P v all Leaf is k = omega arith
root-number P v all TailBound is k = omega arith
root-number P v all (WorkBound r) is k = front-number P v all [] (WorkBound r) k refl
root-number P v all (Budget l) is k = let few = k.limits.few_nonrenewables in let last = is.attained.nonrenewable.1 in omega arith
root-number P v all (Capacity r) is k = absurd is
root-number P v all (Worse m) is k = absurd is
root-number P v all (Cutset i) is k = front-number P v all [] (Cutset i) k refl
root-number P v all (Left b) is k = front-number P v all [] (Left b) k refl

-- Branches below the root.
abbrev IsInner : Project → Branch → Type 0
IsInner P at_root = ⊥
IsInner P (by_choice F c) = IsFront P F × In (choices P F) c

inner-branch : (P : Project) (b : Branch) → IsInner P b → IsBranch P b
inner-branch P at_root i = absurd i
inner-branch P (by_choice F c) i = i

below-inner : (P : Project) (b c : Branch) (l : LogLine) → IsBranch P b → IsLineAt P b l → In (below P b l) c → IsInner P c
unfolding below
below-inner P b c l on is i =
    let x = below-is P (is_expanded l) (front_at b l) c i in
    let here : IsInner P (by_choice x.front x.choice) = (line-front P b l x.front on is x.is_its, x.chosen) in
    subst (IsInner P) x.branch here

-- what the line of each node has, each line has
lines-of : (P : Project) (Q : LogLine → Type 0) (bs : List Branch) (lines : List LogLine) → AreLogs P bs lines → ((n : LogNode) → In (nodes_from P bs lines) n → Q n.line) → (l : LogLine) → In lines l → Q l
lines-of P Q bs [] a q l i = absurd i
lines-of P Q [] (x ∷ lines) a q l i = absurd a
lines-of P Q (b ∷ bs) (x ∷ lines) a q l (inl e) = subst Q e (q (record { branch = b; line = x }) (inl refl))
lines-of P Q (b ∷ bs) (x ∷ lines) a q l (inr i) = lines-of P Q (below P b x ++ bs) lines a.1 (λ n j. q n (inr j)) l i

nodes-length : (P : Project) (bs : List Branch) (lines : List LogLine) → AreLogs P bs lines → length (nodes_from P bs lines) ≡ length lines
nodes-length P bs [] a = refl
nodes-length P [] (x ∷ lines) a = absurd a
nodes-length P (b ∷ bs) (x ∷ lines) a = ap suc (nodes-length P (below P b x ++ bs) lines a.1)

few-log : (P : Project) (v : Verdict) (lines : List LogLine) → IsWithinLimits P → LogHolds P v lines → length lines ≤ 51200001
few-log P v lines limits h =
    let wants = ((good_law P v lines).1 h).0 in
    let room = room_law P v lines [] limits wants in
    let a = room.0 in
    let b = room.1 in
    omega arith

around-node : (P : Project) (v : Verdict) (lines : List LogLine) → IsWithinLimits P → LogHolds P v lines → ((b : ℕ) → IsLeftNumber lines b → b ≤ 999999999) → (n : LogNode) → In (nodes P lines) n →
    Around P v (nodes P lines) (front_of n) n.line.fate
around-node P v lines limits h narrow n i =
    let same = nodes-length P (at_root ∷ []) lines h.log in
    let few = few-log P v lines limits h in
    record {
      limits = limits;
      allowed = In-All (λ (x : LogNode). IsAllowed P v x.branch x.line) (nodes P lines) h.allowed n i;
      served = In-All (IsServed P (nodes P lines)) (nodes P lines) h.served n i;
      short = omega arith;
      narrow = λ b e. narrow b (Contains-from_In (map (λ (l : LogLine). l.fate) lines) (Left b) (subst (In (map (λ (l : LogLine). l.fate) lines)) e (In-map (λ (l : LogLine). l.fate) lines n.line (node-among P (at_root ∷ []) lines h.log n i))));
    }
  where
    node-among : (P : Project) (bs : List Branch) (lines : List LogLine) → AreLogs P bs lines → (n : LogNode) → In (nodes_from P bs lines) n → In lines n.line
    node-among P bs [] a n i = absurd i
    node-among P [] (x ∷ lines) a n i = absurd a
    node-among P (b ∷ bs) (x ∷ lines) a n (inl e) = inl (ap (λ (m : LogNode). m.line) e)
    node-among P (b ∷ bs) (x ∷ lines) a n (inr i) = inr (node-among P (below P b x ++ bs) lines a.1 n i)

-- the line of a node below the root
node-inner : (P : Project) (v : Verdict) (all : List LogNode) (b : Branch) (l : LogLine) → IsInner P b → IsLineAt P b l → Around P v all (front_at b l) l.fate → IsInnerLine l × ((l.job < 256) × (l.mode < 256))
node-inner P v all at_root l i is k = absurd i
node-inner P v all (by_choice F c) l i is k = inner-line P v all F c l i.0 i.1 is k

root-line : (P : Project) (v : Verdict) (all : List LogNode) (l : LogLine) → IsLineOfRoot P l → Around P v all (front_at at_root l) l.fate → IsRootLine l
root-line P v all l is k = record { job = is.job; mode = is.mode; start = is.start; number = root-number P v all l.fate is.fate k }

first-below : (P : Project) (root : LogLine) → IsLineAt P at_root root → (b : Branch) → In (below P at_root root ++ []) b → IsInner P b
first-below P root is b i = elim (In-append (below P at_root root) [] b i) [ inl under ↦ below-inner P at_root b root tt is under | inr none ↦ absurd none ]

pub form_law : FormLaw
form_law P v [] p h narrow = (tt, All-nil (λ (l : LogLine). (l.job < 256) × (l.mode < 256)))
form_law P v (root ∷ lines) p h narrow =
    let all : List LogNode = nodes P (root ∷ lines) in
    let around = around-node P v (root ∷ lines) p.limits h narrow in
    let first : IsLineOfRoot P root = h.log.0 in
    let rest : AreLogs P (below P at_root root ++ []) lines = h.log.1 in
    let inner = λ (n : LogNode) (i : In (nodes_from P (below P at_root root ++ []) lines) n).
    node-inner P v all n.branch n.line
    (each-branch P (IsInner P) (λ b c l on is under. below-inner P b c l (inner-branch P b on) is under) (below P at_root root ++ []) lines rest (first-below P root first) n i)
    (node-line P (below P at_root root ++ []) lines rest n i) (around n (inr i)) in
    let each = lines-of P (λ (l : LogLine). IsInnerLine l × ((l.job < 256) × (l.mode < 256))) (below P at_root root ++ []) lines rest inner in
    let job = first.job in
    let mode = first.mode in (
      (root-line P v all root first (around (record { branch = at_root; line = root }) (inl refl)), All-from_In IsInnerLine lines (λ l i. (each l i).0)),
      All-cons (λ (l : LogLine). (l.job < 256) × (l.mode < 256)) root lines (omega arith, omega arith) (All-from_In (λ (l : LogLine). (l.job < 256) × (l.mode < 256)) lines (λ l i. (each l i).1)),
    )

-- The schedule.

modes-few : (P : Project) (j : ℕ) (s : List Placing) → IsWithinLimits P → 1 ≤ j → j + length s ≤ job_count P + 1 → All (λ e. IsMode P e.job e.mode) (entries_from j s) → (x : Placing) → In s x → x.mode < 256
modes-few P j [] limits low high all x i = absurd i
modes-few P j (p ∷ s) limits low high all x (inl e) =
    let own = All-head (λ (e : Entry). IsMode P e.job e.mode) (record { job = j; mode = p.mode; start = p.start }) (entries_from (j + 1) s) all in
    let last = own.1 in
    let few = few_modes P j limits (low, omega arith) in
    let same = ap (λ (y : Placing). y.mode) e in
    omega arith
modes-few P j (p ∷ s) limits low high all x (inr i) =
    modes-few P (j + 1) s limits (omega arith) (omega arith) (All-tail (λ (e : Entry). IsMode P e.job e.mode) (record { job = j; mode = p.mode; start = p.start }) (entries_from (j + 1) s) all) x i

plan-form : (P : Project) (duration : Option ℕ) (best : Option (List Placing)) → IsWithinLimits P → HasDuration P duration best → IfSome duration (λ d. d ≤ 1290000) →
    (is_some best ≡ is_some duration) × IfSome best IsPlan × IfSome best (All (λ place. place.mode < 256))
plan-form P None None limits has soon = (refl, tt, tt)
plan-form P (Some d) (Some s) limits has soon =
    let whole = has.feasible.whole in
    let jobs = limits.few_jobs in
    let end = has.end in (
      refl,
      record { jobs = omega arith; starts = λ i x l. starts-soon P s i x (omega arith) l },
      All-from_In (λ (x : Placing). x.mode < 256) s (modes-few P 1 s limits (omega arith) (omega arith) has.feasible.modes),
    )
plan-form P None (Some s) limits has soon = absurd has
plan-form P (Some d) None limits has soon = absurd has

-- The verdict's numbers.

verdict-form : (v : Verdict) (lines : List LogLine) → IfSome (duration_of v) (λ d. d ≤ 1290000) → ((b : ℕ) → IsLeftNumber lines b → b ≤ 999999999) → HasLower v lines → IfSome (duration_of v) IsNumber × IfSome (lower_of v) IsNumber
verdict-form (Optimal d) lines soon narrow low = (omega arith, omega arith)
verdict-form Infeasible lines soon narrow low = (tt, tt)
verdict-form (Limit (Some d) b) lines soon narrow low = (omega arith, narrow b low.attained)
verdict-form (Limit None b) lines soon narrow low = (tt, narrow b low.attained)

pub report_form_law : ReportLaw
report_form_law P w nodes first f p is =
    let h = is.holds in
    let same : h.lines ≡ f.log = cc in
    let log : LogHolds P f.verdict f.log = subst (LogHolds P f.verdict) same h.log in
    let form = form_law P f.verdict f.log p log is.narrow in
    let plan = plan-form P (duration_of f.verdict) f.best p.limits h.best is.soon in
    let numbers = verdict-form f.verdict f.log is.soon is.narrow log.lower in (
      record { duration = numbers.0; lower = numbers.1; has_best = plan.0; best = plan.1; log = form.0 },
      record { modes = plan.2; log = form.1 },
    )
