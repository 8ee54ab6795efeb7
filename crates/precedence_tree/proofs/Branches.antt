-- Children that are appended one after another, and what isn't lost by them.
use Rattle.std.proofs.Common.{◌≡◌, ℕ, zero, suc, ◌+◌, ◌-◌, ◌<◌, ◌≤◌, arith, refl, sym, ap, subst, ◌∙◌, List, [], ◌∷◌, ◌++◌, append_assoc}
use Rattle.std.proofs.lemmas.List.{append-nil}
use Rattle.rcpsp_model.specs.declared.parts.Child.{Child}
use Rattle.rcpsp_model.specs.declared.parts.Entry.{Entry}
use Rattle.rcpsp_model.specs.declared.parts.Shut.{Shut as Why}
use Rattle.rcpsp_model.specs.declared.parts.Shut.TheVariants.{NoCapacity, NoBudget, Inefficient}
use Rattle.rcpsp_model.specs.Project.{Project, job_count, IsMode}
use Rattle.rcpsp_model.specs.Chain.{IsLeast}
use Rattle.rcpsp_model.specs.Tree.{entry_at, CanStart, Follows, IsEligible, IsShut, IsPlacedChild, IsChild, Choice, choices_by, choices_of, Children, AreChildrenBy}
use Rattle.rcpsp_model.proofs.Choices.{choices_to, zip-append, choices_by-push, choices_to-eligible, choices_to-other}
use Rattle.precedence_tree.specs.Node.{NodeState}
use Rattle.precedence_tree.specs.Children.{child_front, child_fronts, Appends, IsOpen}
use Rattle.precedence_tree.proofs.Pushed.{leaves-keeps, leaves-start}

fronts-push : (cs : List (Child NodeState)) (c : Child NodeState) → child_fronts (cs ++ c ∷ []) ≡ child_fronts cs ++ child_front c ∷ []
fronts-push [] c = refl
fronts-push (x ∷ cs) c = ap (λ (xs : Children). child_front x ∷ xs) (fronts-push cs c)

-- one more child by the job
pub by_mode-push : (P : Project) (F : List Entry) (j m : ℕ) (old new newer : List (Child NodeState)) (c : Child NodeState) → Appends (AreChildrenBy P F (choices_by j m)) (child_fronts old) (child_fronts new) →
    IsChild P F j (m + 1) (child_front c) → newer ≡ new ++ c ∷ [] → Appends (AreChildrenBy P F (choices_by j (m + 1))) (child_fronts old) (child_fronts newer)
by_mode-push P F j m old new newer c a child same = (
  a.0 ++ child_front c ∷ [],
  ap child_fronts same ∙ fronts-push new c ∙ ap (λ (xs : Children). xs ++ child_front c ∷ []) a.1 ∙ append_assoc (child_fronts old) a.0 (child_front c ∷ []),
  subst (λ (cs : List Choice). AreChildrenBy P F cs (a.0 ++ child_front c ∷ [])) (sym (choices_by-push j m))
      (zip-append (λ (choice : Choice) d. IsChild P F choice.job choice.mode d) (choices_by j m) (record { job = j; mode = m + 1 } ∷ []) a.0 (child_front c ∷ []) a.2 (child, tt)),
)

-- no child by a job in none of its modes
pub by_mode-none : (P : Project) (F : List Entry) (j : ℕ) (cs : List (Child NodeState)) → Appends (AreChildrenBy P F (choices_by j 0)) (child_fronts cs) (child_fronts cs)
by_mode-none P F j cs = ([], sym (append-nil (child_fronts cs)), tt)

-- the children by the jobs from 1 to n
abbrev pub AreChildrenTo : Project → List Entry → ℕ → Children → Type 0
AreChildrenTo P F n cs = AreChildrenBy P F (choices_to P F n) cs

-- all children by an eligible job
by_job-eligible : (P : Project) (F : List Entry) (n : ℕ) (old new : Children) → IsEligible P F (n + 1) → AreChildrenTo P F n old → Appends (AreChildrenBy P F (choices_of P (n + 1))) old new → AreChildrenTo P F (n + 1) new
by_job-eligible P F n old new el before more =
    let By : Choice → Child (List Entry) → Type 0 = λ choice d. IsChild P F choice.job choice.mode d in
    subst (AreChildrenTo P F (n + 1)) (sym more.1)
    (subst (λ (cs : List Choice). AreChildrenBy P F cs (old ++ more.0)) (sym (choices_to-eligible P F n el))
    (zip-append By (choices_to P F n) (choices_of P (n + 1)) old more.0 before more.2))

-- and none by several other jobs, one after another
by_jobs-other : (P : Project) (F : List Entry) (n more : ℕ) (cs : Children) → n + more ≤ job_count P → ((i : ℕ) → n < i → i ≤ n + more → IsEligible P F i → ⊥) → AreChildrenTo P F n cs → AreChildrenTo P F (n + more) cs
by_jobs-other P F n zero cs few none before = subst (λ (i : ℕ). AreChildrenTo P F i cs) (let e : n ≡ n + zero = omega arith in e) before
by_jobs-other P F n (suc more) cs few none before =
    let up : n + more + 1 ≡ n + suc more = omega arith in
    let so_far = by_jobs-other P F n more cs (omega arith) (λ i low high. none i low (omega arith)) before in
    subst (λ (i : ℕ). AreChildrenTo P F i cs) up
    (subst (λ (xs : List Choice). AreChildrenBy P F xs cs) (sym (choices_to-other P F (n + more) (omega arith) (none (n + more + 1) (omega arith) (omega arith)))) so_far)

-- up to the next eligible job, and its children
pub by_jobs-next : (P : Project) (F : List Entry) (last job : ℕ) (old new : Children) → last < job → ((i : ℕ) → last < i → IsEligible P F i → job ≤ i) → IsEligible P F job → AreChildrenTo P F last old →
    Appends (AreChildrenBy P F (choices_of P job)) old new → AreChildrenTo P F job new
by_jobs-next P F last job old new above least el before more =
    let high = el.job.1 in
    let up : last + (job - 1 - last) ≡ job - 1 = omega arith in
    let to : job - 1 + 1 ≡ job = omega arith in
    let here = subst (λ (i : ℕ). AreChildrenTo P F i old) up (by_jobs-other P F last (job - 1 - last) old (omega arith) (λ i low most own. let le = least i low own in omega arith) before) in
    subst (λ (i : ℕ). AreChildrenTo P F i new) to
    (by_job-eligible P F (job - 1) old new (subst (IsEligible P F) (sym to) el) here (subst (λ (i : ℕ). Appends (AreChildrenBy P F (choices_of P i)) old new) (sym to) more))

-- after the last eligible job there is none
pub by_jobs-all : (P : Project) (F : List Entry) (last : ℕ) (cs : Children) → last ≤ job_count P → ((i : ℕ) → last < i → IsEligible P F i → ⊥) → AreChildrenTo P F last cs → AreChildrenTo P F (job_count P) cs
by_jobs-all P F last cs within none before =
    let up : last + (job_count P - last) ≡ job_count P = omega arith in
    subst (λ (i : ℕ). AreChildrenTo P F i cs) up (by_jobs-other P F last (job_count P - last) cs (omega arith) (λ i low high. none i low) before)

-- where no cause applies, the entry at the least start is one that may follow, and makes a placed child
pub open-follows : (P : Project) (F : List Entry) (j m t : ℕ) → IsEligible P F j → IsMode P j m → IsOpen P F j m → IsLeast (CanStart P F j m) t → Follows P F (entry_at j m t)
open-follows P F j m t el mode o least = record { eligible = el; mode = mode; start = least; budgets = leaves-keeps P F j m t o.budgets }

pub open-placed : (P : Project) (F : List Entry) (j m t : ℕ) → IsEligible P F j → IsMode P j m → IsOpen P F j m → IsLeast (CanStart P F j m) t → IsPlacedChild P F (entry_at j m t)
open-placed P F j m t el mode o least = record {
  follows = open-follows P F j m t el mode o least;
  executable = o.executable;
  budgets = leaves-start P F j m t o.budgets;
  efficient = o.efficient;
}

-- and no cause to shut it
pub open-shut : (P : Project) (F : List Entry) (j m : ℕ) (why : Why) → IsOpen P F j m → IsShut P F j m why → ⊥
open-shut P F j m (NoCapacity k) o s =
    let lack = s.attained in let enough = o.executable lack.takes_time k lack.renewable in let lacks = lack.lacks in omega arith
open-shut P F j m (NoBudget l) o s =
    let gap = s.1.attained in let enough = o.budgets l gap.nonrenewable in let exceeds = gap.exceeds in omega arith
open-shut P F j m (Inefficient n) o s = o.efficient n s.2.attained
