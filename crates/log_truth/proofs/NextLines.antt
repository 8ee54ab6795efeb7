-- A log as its lines come.
use Rattle.std.proofs.Common.{◌≡◌, ℕ, ◌+◌, inl, inr, arith, refl, sym, ap, subst, List, [], ◌∷◌, ◌++◌, length}
use Rattle.rcpsp_model.specs.declared.parts.Verdict.{Verdict}
use Rattle.rcpsp_model.specs.Project.{Project}
use Rattle.proof_log.specs.declared.report.LogLine.{LogLine}
use Rattle.log_truth.specs.Log.{Branch, at_root, below, LogNode, nodes_from}
use Rattle.log_truth.specs.Holds.{expanded_in}
use Rattle.log_truth.specs.Refusal.{Fault, surplus, missing, IsGood, HasFault, expanded_by, WantsFrom, IsFirstFault, IsRefusal, at_line}
use Rattle.log_truth.specs.Laws.{NextLaw, NextNodeLaw, BreakLaw, SurplusLaw, MissingLaw}
use Rattle.log_truth.proofs.OneRefusal.{expanded-cons}

next : (P : Project) (v : Verdict) (bs : List Branch) (k : ℕ) (ls : List LogLine) (l : LogLine) (b : Branch) (rest : List Branch) →
    WantsFrom P v bs k ls (b ∷ rest) → IsGood P v (k + expanded_in ls) b l → WantsFrom P v bs k (ls ++ l ∷ []) (below P b l ++ rest)
next P v bs k [] l b rest w g =
    let none : k + 0 ≡ k = omega arith in
    let good : IsGood P v k b l = subst (λ (n : ℕ). IsGood P v n b l) none g in
    let here : WantsFrom P v (b ∷ rest) k (l ∷ []) (below P b l ++ rest) = (good, refl) in
    subst (λ (cs : List Branch). WantsFrom P v cs k (l ∷ []) (below P b l ++ rest)) (sym w) here
next P v [] k (x ∷ ls) l b rest w g = absurd w
next P v (c ∷ bs) k (x ∷ ls) l b rest w g =
    let count = expanded-cons x ls in
    let at : k + expanded_in (x ∷ ls) ≡ (k + expanded_by x) + expanded_in ls = omega arith in
    (w.0, next P v (below P c x ++ bs) (k + expanded_by x) ls l b rest w.1 (subst (λ (n : ℕ). IsGood P v n b l) at g))

pub next_law : NextLaw
next_law P v ls l b rest w g =
    let at : expanded_in ls ≡ 0 + expanded_in ls = omega arith in next P v (at_root ∷ []) 0 ls l b rest w (subst (λ (n : ℕ). IsGood P v n b l) at g)

next_node : (P : Project) (v : Verdict) (bs : List Branch) (k : ℕ) (ls : List LogLine) (l : LogLine) (b : Branch) (rest : List Branch) →
    WantsFrom P v bs k ls (b ∷ rest) → nodes_from P bs (ls ++ l ∷ []) ≡ nodes_from P bs ls ++ record { branch = b; line = l } ∷ []
next_node P v bs k [] l b rest w = ap (λ (cs : List Branch). nodes_from P cs (l ∷ [])) w
next_node P v [] k (x ∷ ls) l b rest w = absurd w
next_node P v (c ∷ bs) k (x ∷ ls) l b rest w =
    ap (λ (ns : List LogNode). record { branch = c; line = x } ∷ ns) (next_node P v (below P c x ++ bs) (k + expanded_by x) ls l b rest w.1)

pub next_node_law : NextNodeLaw
next_node_law P v ls l b rest w = next_node P v (at_root ∷ []) 0 ls l b rest w

broken : (P : Project) (v : Verdict) (bs : List Branch) (k i : ℕ) (ls more : List LogLine) (l : LogLine) (b : Branch) (rest : List Branch) (f : Fault) →
    WantsFrom P v bs k ls (b ∷ rest) → HasFault P v (k + expanded_in ls) b l f → IsFirstFault P v bs k i (ls ++ l ∷ more) (i + length ls) f
broken P v bs k i [] more l b rest f w h =
    let none : k + 0 ≡ k = omega arith in
    let fault : HasFault P v k b l f = subst (λ (n : ℕ). HasFault P v n b l f) none h in
    let here : IsFirstFault P v (b ∷ rest) k i (l ∷ more) (i + 0) f = inl (omega arith, fault) in
    subst (λ (cs : List Branch). IsFirstFault P v cs k i (l ∷ more) (i + 0) f) (sym w) here
broken P v [] k i (x ∷ ls) more l b rest f w h = absurd w
broken P v (c ∷ bs) k i (x ∷ ls) more l b rest f w h =
    let count = expanded-cons x ls in
    let at : k + expanded_in (x ∷ ls) ≡ (k + expanded_by x) + expanded_in ls = omega arith in
    let number : (i + 1) + length ls ≡ i + length (x ∷ ls) = omega arith in
    let later = broken P v (below P c x ++ bs) (k + expanded_by x) (i + 1) ls more l b rest f w.1 (subst (λ (n : ℕ). HasFault P v n b l f) at h) in
    inr (w.0, subst (λ (n : ℕ). IsFirstFault P v (below P c x ++ bs) (k + expanded_by x) (i + 1) (ls ++ l ∷ more) n f) number later)

left_over : (P : Project) (v : Verdict) (bs : List Branch) (k i : ℕ) (ls more : List LogLine) (l : LogLine) → WantsFrom P v bs k ls [] → IsFirstFault P v bs k i (ls ++ l ∷ more) (i + length ls) surplus
left_over P v bs k i [] more l w =
    let here : IsFirstFault P v [] k i (l ∷ more) (i + 0) surplus = (omega arith, refl) in
    subst (λ (cs : List Branch). IsFirstFault P v cs k i (l ∷ more) (i + 0) surplus) (sym w) here
left_over P v [] k i (x ∷ ls) more l w = absurd w
left_over P v (c ∷ bs) k i (x ∷ ls) more l w =
    let number : (i + 1) + length ls ≡ i + length (x ∷ ls) = omega arith in
    let later = left_over P v (below P c x ++ bs) (k + expanded_by x) (i + 1) ls more l w.1 in
    inr (w.0, subst (λ (n : ℕ). IsFirstFault P v (below P c x ++ bs) (k + expanded_by x) (i + 1) (ls ++ l ∷ more) n surplus) number later)

none_left : (P : Project) (v : Verdict) (bs : List Branch) (k i : ℕ) (ls : List LogLine) (b : Branch) (rest : List Branch) → WantsFrom P v bs k ls (b ∷ rest) → IsFirstFault P v bs k i ls (i + length ls) missing
none_left P v bs k i [] b rest w =
    let here : IsFirstFault P v (b ∷ rest) k i [] (i + 0) missing = (omega arith, refl) in
    subst (λ (cs : List Branch). IsFirstFault P v cs k i [] (i + 0) missing) (sym w) here
none_left P v [] k i (x ∷ ls) b rest w = absurd w
none_left P v (c ∷ bs) k i (x ∷ ls) b rest w =
    let number : (i + 1) + length ls ≡ i + length (x ∷ ls) = omega arith in
    let later = none_left P v (below P c x ++ bs) (k + expanded_by x) (i + 1) ls b rest w.1 in
    inr (w.0, subst (λ (n : ℕ). IsFirstFault P v (below P c x ++ bs) (k + expanded_by x) (i + 1) ls n missing) number later)

from_one : (P : Project) (v : Verdict) (ls : List LogLine) (n : ℕ) (f : Fault) → IsFirstFault P v (at_root ∷ []) 0 1 ls (1 + n) f → IsRefusal P v ls (n + 1) f
from_one P v ls n f h = let at : 1 + n ≡ n + 1 = omega arith in at_line (subst (λ (m : ℕ). IsFirstFault P v (at_root ∷ []) 0 1 ls m f) at h)

pub break_law : BreakLaw
break_law P v ls more l b rest f w h =
    let at : expanded_in ls ≡ 0 + expanded_in ls = omega arith in
    from_one P v (ls ++ l ∷ more) (length ls) f (broken P v (at_root ∷ []) 0 1 ls more l b rest f w (subst (λ (n : ℕ). HasFault P v n b l f) at h))

pub surplus_law : SurplusLaw
surplus_law P v ls more l w = from_one P v (ls ++ l ∷ more) (length ls) surplus (left_over P v (at_root ∷ []) 0 1 ls more l w)

pub missing_law : MissingLaw
missing_law P v ls b rest w = from_one P v ls (length ls) missing (none_left P v (at_root ∷ []) 0 1 ls b rest w)
