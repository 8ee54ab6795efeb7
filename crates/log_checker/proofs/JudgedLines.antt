-- One line on its branch: which rule it breaks first, or that it breaks none.
use Rattle.std.proofs.Common.{◌≡◌, ℕ, inl, inr, arith, refl, sym, ap, subst, ◌∙◌, List, [], true, false, Option, Some, None}
use Rattle.std.specs.Prelude.{IfSome}
use Rattle.std.proofs.lemmas.Bool.{both_ways}
use Rattle.std.proofs.lemmas.List.Sums.{fold_push}
use Rattle.rcpsp_model.specs.declared.parts.Child.{Child}
use Rattle.rcpsp_model.specs.declared.parts.Child.TheVariants as children
use Rattle.rcpsp_model.specs.declared.parts.Entry.{Entry}
use Rattle.rcpsp_model.specs.declared.parts.Shut.{Shut as Why}
use Rattle.rcpsp_model.specs.declared.parts.Shut.TheVariants.{NoCapacity, NoBudget, Inefficient}
use Rattle.rcpsp_model.specs.declared.parts.Verdict.{Verdict}
use Rattle.rcpsp_model.specs.Project.{Project}
use Rattle.rcpsp_model.specs.Tree.{Choice, entry_at, last_start, CanStart, HasGap, IsShut, IsChild, LeavesBudgets}
use Rattle.rcpsp_model.specs.Bounds.{IsBudgetGap}
use Rattle.rcpsp_model.proofs.Numbers.{least-one}
use Rattle.rcpsp_model.proofs.ChildLists.{child-one}
use Rattle.rcpsp_model.proofs.Decided.{shut-not_placed}
use Rattle.precedence_tree.specs.Node.{NodeState, StandsFor}
use Rattle.precedence_tree.specs.Children.{child_front}
use Rattle.proof_log.specs.declared.report.LogLine.{LogLine}
use Rattle.log_truth.specs.Fates.{Saying, says_expanded, says_late, says_dominated, says_shut, expands, shuts}
use Rattle.log_truth.specs.Log.{Branch, at_root, by_choice, says, extended_by, root_front, front_at, IsRootSaying, IsShutSaying}
use Rattle.log_truth.specs.Holds.{Allows}
use Rattle.log_truth.specs.Refusal.{wrong_child, wrong_fate, too_many, IsNamed, IsRightlyShut, IsChildStart, IsFew}
use Rattle.log_truth.proofs.LineFronts.{shut_saying-not_placed}
use Rattle.log_checker.specs.declared.judging.Judged.{Judged}
use Rattle.log_checker.specs.declared.judging.Judged.TheVariants.{Broken, Shut, Open}
use Rattle.log_checker.specs.declared.reason.Reason.TheVariants.{WrongChild, WrongFate, TooManyExpanded}
use Rattle.log_checker.specs.Judged.{IsPlacedNode, IsJudged, choice_at}

-- a line that isn't named
pub named-broken : (P : Project) (v : Verdict) (k : ℕ) (F : List Entry) (c : Choice) (l : LogLine) → (IsNamed (by_choice F c) l → ⊥) → IsJudged P v k (by_choice F c) l (Broken WrongChild)
named-broken P v k F c l no_ = (wrong_child, inl (no_, refl), refl)

pub root-named : (P : Project) (v : Verdict) (k : ℕ) (l : LogLine) → (IsNamed at_root l → ⊥) → IsJudged P v k at_root l (Broken WrongChild)
root-named P v k l no_ = (wrong_child, inl (no_, refl), refl)

-- A child that is shut.
same-cause : (P : Project) (F : List Entry) (c : Choice) (why said : Why) → IsShut P F c.job c.mode why → IsShut P F c.job c.mode said → says_shut said ≡ says_shut why
same-cause P F c why said is own =
    let same = child-one P F c.job c.mode (children.Shut c.job c.mode said) (children.Shut c.job c.mode why) (refl, refl, own) (refl, refl, is) in cc

shut-saying : (P : Project) (F : List Entry) (c : Choice) (why : Why) (s : Saying) → IsShut P F c.job c.mode why → IsShutSaying P F c s → s ≡ says_shut why
shut-saying P F c why (says_shut said) is own = same-cause P F c why said is own
shut-saying P F c why says_expanded is own = absurd own
shut-saying P F c why (says_late r) is own = absurd own
shut-saying P F c why (says_dominated i) is own = absurd own

pub shut-wrong : (P : Project) (v : Verdict) (k : ℕ) (F : List Entry) (c : Choice) (why : Why) (l : LogLine) → IsShut P F c.job c.mode why → IsNamed (by_choice F c) l → (says l ≡ says_shut why → ⊥) →
    IsJudged P v k (by_choice F c) l (Broken WrongFate)
shut-wrong P v k F c why l is named no_ = (wrong_fate, inr (named, inl (other, refl)), refl)
  where
    other : IsRightlyShut P (by_choice F c) (says l) → ⊥
    other (inl own) = no_ (shut-saying P F c why (says l) is own)
    other (inr o) = shut-not_placed P F c.job c.mode o.1.0 why is o.1.1

rightly : (P : Project) (F : List Entry) (c : Choice) (why : Why) (s : Saying) → IsShut P F c.job c.mode why → s ≡ says_shut why → IsRightlyShut P (by_choice F c) s
rightly P F c why s is e = subst (IsRightlyShut P (by_choice F c)) (sym e) (inl is)

pub shut-started : (P : Project) (v : Verdict) (k : ℕ) (F : List Entry) (c : Choice) (why : Why) (l : LogLine) → IsShut P F c.job c.mode why → IsNamed (by_choice F c) l → says l ≡ says_shut why →
    (l.start ≡ None → ⊥) → IsJudged P v k (by_choice F c) l (Broken WrongChild)
shut-started P v k F c why l is named e some = (wrong_child, inr (named, inr (rightly P F c why (says l) is e, inl (started l.start some, refl))), refl)
  where
    started : (o : Option ℕ) → (o ≡ None → ⊥) → IsChildStart P F c (says l) o → ⊥
    started None none s = none refl
    started (Some t) none s = shut-not_placed P F c.job c.mode t why is s

not_expanded : (why : Why) (s : Saying) → s ≡ says_shut why → expands s ≡ true → ⊥
not_expanded why s e x = let none : false ≡ true = sym (ap expands e) ∙ x in cc

pub shut-good : (P : Project) (v : Verdict) (k : ℕ) (F : List Entry) (c : Choice) (why : Why) (l : LogLine) → IsShut P F c.job c.mode why → IsNamed (by_choice F c) l → says l ≡ says_shut why →
    l.start ≡ None → IsJudged P v k (by_choice F c) l Shut
shut-good P v k F c why l is named e none =
    let front : front_at (by_choice F c) l ≡ None = ap (extended_by F c) none in (
      record {
        named = named;
        shut = rightly P F c why (says l) is e;
        started = subst (IsChildStart P F c (says l)) (sym none) (ap shuts e);
        allowed = subst (λ (o : Option (List Entry)). IfSome o (λ G. Allows P v G (says l))) (sym front) tt;
        few = λ x. absurd (not_expanded why (says l) e x);
      },
      front,
    )

-- A child that is placed.
pub placed-last : (P : Project) (F : List Entry) (c : Choice) (node : NodeState) → (n : IsPlacedNode P F c node) → last_start node.front ≡ n.start
placed-last P F c node n = ap last_start n.front ∙ fold_push (λ (_ : ℕ) (y : Entry). y.start) 0 F (entry_at c.job c.mode n.start)

pub placed-shut : (P : Project) (v : Verdict) (k : ℕ) (F : List Entry) (c : Choice) (node : NodeState) (l : LogLine) → IsPlacedNode P F c node → IsNamed (by_choice F c) l → shuts (says l) ≡ true →
    IsJudged P v k (by_choice F c) l (Broken WrongFate)
placed-shut P v k F c node l n named e = (wrong_fate, inr (named, inl (other, refl)), refl)
  where
    other : IsRightlyShut P (by_choice F c) (says l) → ⊥
    other (inl own) = shut_saying-not_placed P F c (says l) n.start own n.placed
    other (inr o) = both_ways (shuts (says l)) o.0 e

pub placed-started : (P : Project) (v : Verdict) (k : ℕ) (F : List Entry) (c : Choice) (node : NodeState) (l : LogLine) → IsPlacedNode P F c node → IsNamed (by_choice F c) l → shuts (says l) ≡ false →
    (l.start ≡ Some (last_start node.front) → ⊥) → IsJudged P v k (by_choice F c) l (Broken WrongChild)
placed-started P v k F c node l n named e no_ = (wrong_child, inr (named, inr (inr (e, (n.start, n.placed)), inl (started l.start no_, refl))), refl)
  where
    started : (o : Option ℕ) → (o ≡ Some (last_start node.front) → ⊥) → IsChildStart P F c (says l) o → ⊥
    started None none s = both_ways (shuts (says l)) e s
    started (Some t) none s =
        let same = least-one (CanStart P F c.job c.mode) t n.start s.follows.start n.placed.follows.start in
        none (ap (λ (i : ℕ). Some i) (same ∙ sym (placed-last P F c node n)))

-- what is known where the line has the child's start
placed-start : (P : Project) (F : List Entry) (c : Choice) (node : NodeState) (l : LogLine) → (n : IsPlacedNode P F c node) → l.start ≡ Some (last_start node.front) → l.start ≡ Some n.start
placed-start P F c node l n s = s ∙ ap (λ (i : ℕ). Some i) (placed-last P F c node n)

placed-front : (P : Project) (F : List Entry) (c : Choice) (node : NodeState) (l : LogLine) → (n : IsPlacedNode P F c node) → l.start ≡ Some (last_start node.front) → front_at (by_choice F c) l ≡ Some node.front
placed-front P F c node l n s = ap (extended_by F c) (placed-start P F c node l n s) ∙ ap (λ (G : List Entry). Some G) (sym n.front)

placed-child_start : (P : Project) (F : List Entry) (c : Choice) (node : NodeState) (l : LogLine) → (n : IsPlacedNode P F c node) → l.start ≡ Some (last_start node.front) → IsChildStart P F c (says l) l.start
placed-child_start P F c node l n s = subst (IsChildStart P F c (says l)) (sym (placed-start P F c node l n s)) n.placed

pub placed-fate : (P : Project) (v : Verdict) (k : ℕ) (F : List Entry) (c : Choice) (node : NodeState) (l : LogLine) → IsPlacedNode P F c node → IsNamed (by_choice F c) l → shuts (says l) ≡ false →
    l.start ≡ Some (last_start node.front) → (Allows P v node.front (says l) → ⊥) → IsJudged P v k (by_choice F c) l (Broken WrongFate)
placed-fate P v k F c node l n named e s no_ =
    let front = placed-front P F c node l n s in (
      wrong_fate,
      inr (
        named,
        inr (
          inr (e, (n.start, n.placed)),
          inr (
            placed-child_start P F c node l n s,
            inl (λ a. no_ (subst (λ (o : Option (List Entry)). IfSome o (λ G. Allows P v G (says l))) front a), refl),
          ),
        ),
      ),
      refl,
    )

pub placed-many : (P : Project) (v : Verdict) (k : ℕ) (F : List Entry) (c : Choice) (node : NodeState) (l : LogLine) → IsPlacedNode P F c node → IsNamed (by_choice F c) l → shuts (says l) ≡ false →
    l.start ≡ Some (last_start node.front) → Allows P v node.front (says l) → (IsFew k l → ⊥) → IsJudged P v k (by_choice F c) l (Broken TooManyExpanded)
placed-many P v k F c node l n named e s a many =
    let front = placed-front P F c node l n s in (
      too_many,
      inr (
        named,
        inr (
          inr (e, (n.start, n.placed)),
          inr (
            placed-child_start P F c node l n s,
            inr (subst (λ (o : Option (List Entry)). IfSome o (λ G. Allows P v G (says l))) (sym front) a, inl (many, refl)),
          ),
        ),
      ),
      refl,
    )

pub placed-good : (P : Project) (v : Verdict) (k : ℕ) (F : List Entry) (c : Choice) (node : NodeState) (l : LogLine) → StandsFor P node → IsPlacedNode P F c node → IsNamed (by_choice F c) l → shuts (says l) ≡ false →
    l.start ≡ Some (last_start node.front) → Allows P v node.front (says l) → IsFew k l → IsJudged P v k (by_choice F c) l (Open node)
placed-good P v k F c node l stands n named e s a few =
    let front = placed-front P F c node l n s in (
      record {
        named = named;
        shut = inr (e, (n.start, n.placed));
        started = placed-child_start P F c node l n s;
        allowed = subst (λ (o : Option (List Entry)). IfSome o (λ G. Allows P v G (says l))) (sym front) a;
        few = few;
      },
      front,
      stands,
    )

-- The root.
gap-leaves : (P : Project) (l : ℕ) → IsBudgetGap P [] l → LeavesBudgets P [] → ⊥
gap-leaves P l gap leaves = let g = gap.attained in let exceeds = g.exceeds in let within = leaves l g.nonrenewable in omega arith

gap-saying : (P : Project) (g : ℕ) (s : Saying) → IsBudgetGap P [] g → IsRootSaying P s → s ≡ says_shut (NoBudget g)
gap-saying P g (says_shut (NoBudget l)) gap is = ap (λ (i : ℕ). says_shut (NoBudget i)) (least-one (HasGap P []) l g is gap)
gap-saying P g (says_shut (NoCapacity k)) gap is = absurd is
gap-saying P g (says_shut (Inefficient m)) gap is = absurd is
gap-saying P g says_expanded gap is = absurd (gap-leaves P g gap is)
gap-saying P g (says_late r) gap is = absurd (gap-leaves P g gap is)
gap-saying P g (says_dominated i) gap is = absurd (gap-leaves P g gap is)

pub gap-wrong : (P : Project) (v : Verdict) (k g : ℕ) (l : LogLine) → IsBudgetGap P [] g → IsNamed at_root l → (says l ≡ says_shut (NoBudget g) → ⊥) → IsJudged P v k at_root l (Broken WrongFate)
gap-wrong P v k g l gap named no_ = (wrong_fate, inr (named, inl (λ is. no_ (gap-saying P g (says l) gap is), refl)), refl)

pub gap-good : (P : Project) (v : Verdict) (k g : ℕ) (l : LogLine) → IsBudgetGap P [] g → IsNamed at_root l → says l ≡ says_shut (NoBudget g) → IsJudged P v k at_root l Shut
gap-good P v k g l gap named e =
    let front : front_at at_root l ≡ None = ap (λ (s : Saying). root_front (shuts s)) e in (
      record {
        named = named;
        shut = subst (IsRootSaying P) (sym e) gap;
        started = tt;
        allowed = subst (λ (o : Option (List Entry)). IfSome o (λ G. Allows P v G (says l))) (sym front) tt;
        few = λ x. absurd (not_expanded (NoBudget g) (says l) e x);
      },
      front,
    )

open-saying : (P : Project) (s : Saying) → LeavesBudgets P [] → shuts s ≡ false → IsRootSaying P s
open-saying P (says_shut why) leaves e = absurd (cc)
open-saying P says_expanded leaves e = leaves
open-saying P (says_late r) leaves e = leaves
open-saying P (says_dominated i) leaves e = leaves

shut-root : (P : Project) (s : Saying) → LeavesBudgets P [] → shuts s ≡ true → IsRootSaying P s → ⊥
shut-root P (says_shut (NoBudget l)) leaves e is = gap-leaves P l is leaves
shut-root P (says_shut (NoCapacity k)) leaves e is = is
shut-root P (says_shut (Inefficient m)) leaves e is = is
shut-root P says_expanded leaves e is = cc
shut-root P (says_late r) leaves e is = cc
shut-root P (says_dominated i) leaves e is = cc

pub root-shut : (P : Project) (v : Verdict) (k : ℕ) (l : LogLine) → LeavesBudgets P [] → IsNamed at_root l → shuts (says l) ≡ true → IsJudged P v k at_root l (Broken WrongFate)
root-shut P v k l leaves named e = (wrong_fate, inr (named, inl (shut-root P (says l) leaves e, refl)), refl)

open-front : (l : LogLine) (F : List Entry) → [] ≡ F → shuts (says l) ≡ false → front_at at_root l ≡ Some F
open-front l F same e = ap root_front e ∙ ap (λ (G : List Entry). Some G) same

pub root-fate : (P : Project) (v : Verdict) (k : ℕ) (l : LogLine) (F : List Entry) → F ≡ [] → LeavesBudgets P [] → IsNamed at_root l → shuts (says l) ≡ false → (Allows P v F (says l) → ⊥) →
    IsJudged P v k at_root l (Broken WrongFate)
root-fate P v k l F same leaves named e no_ =
    let front = open-front l F (sym same) e in
    (wrong_fate, inr (named, inr (open-saying P (says l) leaves e, inr (tt, inl (λ a. no_ (subst (λ (o : Option (List Entry)). IfSome o (λ G. Allows P v G (says l))) front a), refl)))), refl)

pub root-many : (P : Project) (v : Verdict) (k : ℕ) (l : LogLine) (F : List Entry) → F ≡ [] → LeavesBudgets P [] → IsNamed at_root l → shuts (says l) ≡ false → Allows P v F (says l) →
    (IsFew k l → ⊥) → IsJudged P v k at_root l (Broken TooManyExpanded)
root-many P v k l F same leaves named e a many =
    let front = open-front l F (sym same) e in
    (too_many, inr (named, inr (open-saying P (says l) leaves e, inr (tt, inr (subst (λ (o : Option (List Entry)). IfSome o (λ G. Allows P v G (says l))) (sym front) a, inl (many, refl))))), refl)

pub root-good : (P : Project) (v : Verdict) (k : ℕ) (l : LogLine) (node : NodeState) → StandsFor P node → node.front ≡ [] → LeavesBudgets P [] → IsNamed at_root l → shuts (says l) ≡ false → Allows P v node.front (says l) →
    IsFew k l → IsJudged P v k at_root l (Open node)
root-good P v k l node stands same leaves named e a few =
    let front = open-front l node.front (sym same) e in (
      record {
        named = named;
        shut = open-saying P (says l) leaves e;
        started = tt;
        allowed = subst (λ (o : Option (List Entry)). IfSome o (λ G. Allows P v G (says l))) (sym front) a;
        few = few;
      },
      front,
      stands,
    )

-- What a child that was made tells.
pub shut-cause : (P : Project) (F : List Entry) (j m i n : ℕ) (why : Why) (d : Child NodeState) → IsChild P F j m (child_front d) → d ≡ children.Shut i n why → IsShut P F j m why
shut-cause P F j m i n why d is e = (subst (λ (x : Child NodeState). IsChild P F j m (child_front x)) e is).2

pub placed-node : (P : Project) (F : List Entry) (j m : ℕ) (node : NodeState) (d : Child NodeState) → IsChild P F j m (child_front d) → d ≡ children.Placed node → IsPlacedNode P F (choice_at j m) node
placed-node P F j m node d is e =
    let placed = subst (λ (x : Child NodeState). IsChild P F j m (child_front x)) e is in
    record { start = placed.0; front = placed.1; placed = placed.2 }

-- a judgement, by what is equal
pub judged-at : (P : Project) (v : Verdict) (k n : ℕ) (b : Branch) (l : LogLine) (i j : Judged) → IsJudged P v k b l i → k ≡ n → i ≡ j → IsJudged P v n b l j
judged-at P v k n b l i j is e same = subst (λ (m : ℕ). IsJudged P v m b l j) e (subst (IsJudged P v k b l) same is)
