-- With a log that holds nothing is wrong, one thing at most is wrong first, and a log in which nothing is wrong holds.
use Rattle.std.proofs.Common.{◌≡◌, ℕ, ◌+◌, ◌≤◌, inl, inr, arith, refl, sym, ap, ◌∙◌, subst, List, [], ◌∷◌, ◌++◌, Bool, true, cond, Option, Some, None}
use Rattle.std.proofs.lemmas.Bool.{both_ways, cases_Bool}
use Rattle.std.proofs.lemmas.List.Sums.{sum_by-cons}
use Rattle.rcpsp_model.specs.declared.parts.Entry.{Entry}
use Rattle.rcpsp_model.specs.declared.parts.Verdict.{Verdict}
use Rattle.rcpsp_model.specs.Project.{Project}
use Rattle.rcpsp_model.specs.Tree.{Choice}
use Rattle.rcpsp_model.proofs.Lists.{In, In-All, All-from_In}
use Rattle.proof_log.specs.declared.report.LogLine.{LogLine}
use Rattle.log_truth.specs.Fates.{Saying, says_expanded, says_late, says_dominated, says_shut, shuts}
use Rattle.log_truth.specs.Log.{Branch, at_root, by_choice, says, is_expanded, below, IsShutSaying, IsChildSaying, IsLineAt, AreLogs, LogNode, nodes_from, nodes}
use Rattle.log_truth.specs.Holds.{IsAllowed, IsServed, AreServed, HasLower, most_expanded, expanded_in, LogHolds}
use Rattle.log_truth.specs.Refusal.{Fault, IsNamed, IsRightlyShut, IsChildStart, IsRightlyStarted, IsGood, Breaks, HasFault, expanded_by, WantsFrom, Wants, IsFirstFault, IsFirstUnserved, at_line, at_citation, at_lower}
use Rattle.log_truth.specs.Laws.{ThreeRulesLaw, GoodLaw, NoRefusalLaw, OneRefusalLaw}
use Rattle.log_truth.proofs.LineFronts.{shut_saying-not_placed}

-- A line is that of its branch exactly where it keeps three rules.
shut-is : (P : Project) (F : List Entry) (c : Choice) (s : Saying) → IsShutSaying P F c s → shuts s ≡ true
shut-is P F c (says_shut why) is = refl
shut-is P F c says_expanded is = absurd is
shut-is P F c (says_late r) is = absurd is
shut-is P F c (says_dominated i) is = absurd is

child-parts : (P : Project) (F : List Entry) (c : Choice) (start : Option ℕ) (s : Saying) → IsChildSaying P F c start s → IsRightlyShut P (by_choice F c) s × IsChildStart P F c s start
child-parts P F c (Some t) s is = (inr (is.1, (t, is.0)), is.0)
child-parts P F c None s is = (inl is, shut-is P F c s is)

parts-child : (P : Project) (F : List Entry) (c : Choice) (start : Option ℕ) (s : Saying) → IsRightlyShut P (by_choice F c) s → IsChildStart P F c s start → IsChildSaying P F c start s
parts-child P F c (Some t) s (inl shut) placed = absurd (shut_saying-not_placed P F c s t shut placed)
parts-child P F c (Some t) s (inr open_) placed = (placed, open_.0)
parts-child P F c None s (inl shut) none = shut
parts-child P F c None s (inr open_) none = absurd (both_ways (shuts s) open_.0 none)

pub line-parts : (P : Project) (b : Branch) (l : LogLine) → IsLineAt P b l → IsNamed b l × IsRightlyShut P b (says l) × IsRightlyStarted P b l
line-parts P at_root l is = ((is.job, is.mode, is.start), is.fate, tt)
line-parts P (by_choice F c) l is = let x = child-parts P F c l.start (says l) is.fate in ((is.job, is.mode), x.0, x.1)

pub parts-line : (P : Project) (b : Branch) (l : LogLine) → IsNamed b l → IsRightlyShut P b (says l) → IsRightlyStarted P b l → IsLineAt P b l
parts-line P at_root l n h s = record { job = n.0; mode = n.1; start = n.2; fate = h }
parts-line P (by_choice F c) l n h s = record { job = n.0; mode = n.1; fate = parts-child P F c l.start (says l) h s }

pub three_rules_law : ThreeRulesLaw
three_rules_law P b l = (λ is. line-parts P b l is, λ rules. parts-line P b l rules.0 rules.1 rules.2)

pub good-line : (P : Project) (v : Verdict) (k : ℕ) (b : Branch) (l : LogLine) → IsGood P v k b l → IsLineAt P b l
good-line P v k b l g = parts-line P b l g.named g.shut g.started

-- Rules in order: where all are kept none is broken, and one is broken first.
breaks-none : {Rule Later : Type 0} {own fault : Fault} → Breaks Rule own fault Later → Rule → (Later → ⊥) → ⊥
breaks-none (inl broken) kept none = broken.0 kept
breaks-none (inr later) kept none = none later.1

breaks-one : {Rule Left Right : Type 0} {own a b : Fault} → Breaks Rule own a Left → Breaks Rule own b Right → (Left → Right → a ≡ b) → a ≡ b
breaks-one (inl x) (inl y) next = x.1 ∙ sym y.1
breaks-one (inl x) (inr y) next = absurd (x.0 y.0)
breaks-one (inr x) (inl y) next = absurd (y.0 x.0)
breaks-one (inr x) (inr y) next = next x.1 y.1

pub good-no_fault : (P : Project) (v : Verdict) (k : ℕ) (b : Branch) (l : LogLine) (x : Fault) → IsGood P v k b l → HasFault P v k b l x → ⊥
good-no_fault P v k b l x g f =
    breaks-none f g.named (λ f. breaks-none f g.shut (λ f. breaks-none f g.started (λ f. breaks-none f g.allowed (λ f. breaks-none f g.few (λ none. none)))))

fault-one : (P : Project) (v : Verdict) (k : ℕ) (b : Branch) (l : LogLine) (x y : Fault) → HasFault P v k b l x → HasFault P v k b l y → x ≡ y
fault-one P v k b l x y f g =
    breaks-one f g (λ f g. breaks-one f g (λ f g. breaks-one f g (λ f g. breaks-one f g (λ f g. breaks-one f g (λ none g. absurd none)))))

-- Lists of lines.
pub wants-no_fault : (P : Project) (v : Verdict) (bs : List Branch) (k i : ℕ) (ls : List LogLine) (n : ℕ) (x : Fault) → WantsFrom P v bs k ls [] → IsFirstFault P v bs k i ls n x → ⊥
wants-no_fault P v [] k i [] n x w f = f
wants-no_fault P v (b ∷ bs) k i [] n x w f = absurd (cc)
wants-no_fault P v [] k i (l ∷ ls) n x w f = w
wants-no_fault P v (b ∷ bs) k i (l ∷ ls) n x w (inl f) = good-no_fault P v k b l x w.0 f.1
wants-no_fault P v (b ∷ bs) k i (l ∷ ls) n x w (inr f) = wants-no_fault P v (below P b l ++ bs) (k + expanded_by l) (i + 1) ls n x w.1 f.1

first_fault-one : (P : Project) (v : Verdict) (bs : List Branch) (k i : ℕ) (ls : List LogLine) (m n : ℕ) (x y : Fault) → IsFirstFault P v bs k i ls m x → IsFirstFault P v bs k i ls n y → (m ≡ n) × (x ≡ y)
first_fault-one P v [] k i [] m n x y f g = absurd f
first_fault-one P v (b ∷ bs) k i [] m n x y f g = (f.0 ∙ sym g.0, f.1 ∙ sym g.1)
first_fault-one P v [] k i (l ∷ ls) m n x y f g = (f.0 ∙ sym g.0, f.1 ∙ sym g.1)
first_fault-one P v (b ∷ bs) k i (l ∷ ls) m n x y (inl f) (inl g) = (f.0 ∙ sym g.0, fault-one P v k b l x y f.1 g.1)
first_fault-one P v (b ∷ bs) k i (l ∷ ls) m n x y (inl f) (inr g) = absurd (good-no_fault P v k b l x g.0 f.1)
first_fault-one P v (b ∷ bs) k i (l ∷ ls) m n x y (inr f) (inl g) = absurd (good-no_fault P v k b l y f.0 g.1)
first_fault-one P v (b ∷ bs) k i (l ∷ ls) m n x y (inr f) (inr g) = first_fault-one P v (below P b l ++ bs) (k + expanded_by l) (i + 1) ls m n x y f.1 g.1

served-none : (P : Project) (all : List LogNode) (i : ℕ) (ns : List LogNode) (n : ℕ) → ((x : LogNode) → In ns x → IsServed P all x) → IsFirstUnserved P all i ns n → ⊥
served-none P all i [] n s f = f
served-none P all i (x ∷ ns) n s (inl f) = f.1 (s x (inl refl))
served-none P all i (x ∷ ns) n s (inr f) = served-none P all (i + 1) ns n (λ y j. s y (inr j)) f.1

pub unserved-one : (P : Project) (all : List LogNode) (i : ℕ) (ns : List LogNode) (m n : ℕ) → IsFirstUnserved P all i ns m → IsFirstUnserved P all i ns n → m ≡ n
unserved-one P all i [] m n f g = absurd f
unserved-one P all i (x ∷ ns) m n (inl f) (inl g) = f.0 ∙ sym g.0
unserved-one P all i (x ∷ ns) m n (inl f) (inr g) = absurd (f.1 g.0)
unserved-one P all i (x ∷ ns) m n (inr f) (inl g) = absurd (g.1 f.0)
unserved-one P all i (x ∷ ns) m n (inr f) (inr g) = unserved-one P all (i + 1) ns m n f.1 g.1

are_served-none : (P : Project) (ls : List LogLine) (n : ℕ) → AreServed P ls → IsFirstUnserved P (nodes P ls) 1 (nodes P ls) n → ⊥
are_served-none P ls n s = served-none P (nodes P ls) 1 (nodes P ls) n (λ x i. In-All (IsServed P (nodes P ls)) (nodes P ls) s x i)

pub one_refusal_law : OneRefusalLaw
one_refusal_law P v ls m n x y (at_line f) (at_line g) = first_fault-one P v (at_root ∷ []) 0 1 ls m n x y f g
one_refusal_law P v ls m n x y (at_line f) (at_citation w u e) = absurd (wants-no_fault P v (at_root ∷ []) 0 1 ls m x w f)
one_refusal_law P v ls m n x y (at_line f) (at_lower w s no_ z e) = absurd (wants-no_fault P v (at_root ∷ []) 0 1 ls m x w f)
one_refusal_law P v ls m n x y (at_citation w u e) (at_line f) = absurd (wants-no_fault P v (at_root ∷ []) 0 1 ls n y w f)
one_refusal_law P v ls m n x y (at_citation w u e) (at_citation z t d) = (unserved-one P (nodes P ls) 1 (nodes P ls) m n u t, e ∙ sym d)
one_refusal_law P v ls m n x y (at_citation w u e) (at_lower z s no_ h d) = absurd (are_served-none P ls m s u)
one_refusal_law P v ls m n x y (at_lower w s no_ z e) (at_line f) = absurd (wants-no_fault P v (at_root ∷ []) 0 1 ls n y w f)
one_refusal_law P v ls m n x y (at_lower w s no_ z e) (at_citation h u d) = absurd (are_served-none P ls n s u)
one_refusal_law P v ls m n x y (at_lower w s no_ z e) (at_lower h t no_2 q d) = (z ∙ sym q, e ∙ sym d)

-- From a log whose lines are allowed to lines that break no rule, and back.
pub expanded-cons : (l : LogLine) (ls : List LogLine) → expanded_in (l ∷ ls) ≡ expanded_by l + expanded_in ls
expanded-cons l ls = sum_by-cons expanded_by l ls

pub expanded_by-true : (l : LogLine) → is_expanded l ≡ true → expanded_by l ≡ 1
expanded_by-true l e = ap (λ (b : Bool). cond b 1 0) e

logs-wants : (P : Project) (v : Verdict) (bs : List Branch) (k : ℕ) (ls : List LogLine) → AreLogs P bs ls → ((n : LogNode) → In (nodes_from P bs ls) n → IsAllowed P v n.branch n.line) →
    k + expanded_in ls ≤ most_expanded → WantsFrom P v bs k ls []
logs-wants P v bs k [] a allowed few = a
logs-wants P v [] k (l ∷ ls) a allowed few = a
logs-wants P v (b ∷ bs) k (l ∷ ls) a allowed few =
    let count = expanded-cons l ls in
    let parts = line-parts P b l a.0 in (
      record {
        named = parts.0;
        shut = parts.1;
        started = parts.2;
        allowed = allowed (record { branch = b; line = l }) (inl refl);
        few = λ e. let one = expanded_by-true l e in omega arith;
      },
      logs-wants P v (below P b l ++ bs) (k + expanded_by l) ls a.1 (λ n i. allowed n (inr i)) (omega arith),
    )

pub wants-logs : (P : Project) (v : Verdict) (bs : List Branch) (k : ℕ) (ls : List LogLine) → WantsFrom P v bs k ls [] → AreLogs P bs ls
wants-logs P v bs k [] w = w
wants-logs P v [] k (l ∷ ls) w = w
wants-logs P v (b ∷ bs) k (l ∷ ls) w = (good-line P v k b l w.0, wants-logs P v (below P b l ++ bs) (k + expanded_by l) ls w.1)

wants-allowed : (P : Project) (v : Verdict) (bs : List Branch) (k : ℕ) (ls : List LogLine) → WantsFrom P v bs k ls [] → (n : LogNode) → In (nodes_from P bs ls) n → IsAllowed P v n.branch n.line
wants-allowed P v bs k [] w n i = absurd i
wants-allowed P v [] k (l ∷ ls) w n i = absurd i
wants-allowed P v (b ∷ bs) k (l ∷ ls) w n (inl e) = subst (λ (x : LogNode). IsAllowed P v x.branch x.line) e w.0.allowed
wants-allowed P v (b ∷ bs) k (l ∷ ls) w n (inr i) = wants-allowed P v (below P b l ++ bs) (k + expanded_by l) ls w.1 n i

expanded_by-few : (k : ℕ) (l : LogLine) → k ≤ most_expanded → (is_expanded l ≡ true → k + 1 ≤ most_expanded) → k + expanded_by l ≤ most_expanded
expanded_by-few k l low few = elim (cases_Bool (is_expanded l)) [
  | inl e ↦ let more = few e in let one = expanded_by-true l e in omega arith
  | inr no_ ↦ let none : expanded_by l ≡ 0 = ap (λ (b : Bool). cond b 1 0) no_ in omega arith
]

pub wants-few : (P : Project) (v : Verdict) (bs : List Branch) (k : ℕ) (ls : List LogLine) (rest : List Branch) → k ≤ most_expanded → WantsFrom P v bs k ls rest → k + expanded_in ls ≤ most_expanded
wants-few P v bs k [] rest low w = omega arith
wants-few P v [] k (l ∷ ls) rest low w = absurd w
wants-few P v (b ∷ bs) k (l ∷ ls) rest low w =
    let count = expanded-cons l ls in
    let here = expanded_by-few k l low (λ e. let few = w.0.few e in omega arith) in
    let later = wants-few P v (below P b l ++ bs) (k + expanded_by l) ls rest here w.1 in
    omega arith

log-wants : (P : Project) (v : Verdict) (ls : List LogLine) → LogHolds P v ls → Wants P v ls []
log-wants P v ls h =
    let few = h.few in
    logs-wants P v (at_root ∷ []) 0 ls h.log (λ n i. In-All (λ m. IsAllowed P v m.branch m.line) (nodes P ls) h.allowed n i) (omega arith)

wants-log : (P : Project) (v : Verdict) (ls : List LogLine) → Wants P v ls [] → AreServed P ls → HasLower v ls → LogHolds P v ls
wants-log P v ls w s b = record {
  log = wants-logs P v (at_root ∷ []) 0 ls w;
  allowed = All-from_In (λ m. IsAllowed P v m.branch m.line) (nodes P ls) (λ n i. wants-allowed P v (at_root ∷ []) 0 ls w n i);
  served = s;
  few = let few = wants-few P v (at_root ∷ []) 0 ls [] (omega arith) w in omega arith;
  lower = b;
}

pub good_law : GoodLaw
good_law P v ls = (λ h. wants-log P v ls h.0 h.1 h.2, λ h. (log-wants P v ls h, h.served, h.lower))

pub no_refusal_law : NoRefusalLaw
no_refusal_law P v ls n x h (at_line f) = wants-no_fault P v (at_root ∷ []) 0 1 ls n x (log-wants P v ls h) f
no_refusal_law P v ls n x h (at_citation w u e) = are_served-none P ls n h.served u
no_refusal_law P v ls n x h (at_lower w s no_ z e) = no_ h.lower
