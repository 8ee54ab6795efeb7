-- What is kept of the lines of a log, and for which lines it stands.
use Rattle.std.specs.Prelude.{◌≡◌, ℕ, ◌+◌, min, Bool, true, false, Option, Some, None, List, [], ◌∷◌, ◌++◌, length, map, slice_get, All}
use Rattle.std.specs.List.{AllZip}
use Rattle.rcpsp_model.specs.declared.parts.Entry.{Entry}
use Rattle.rcpsp_model.specs.declared.parts.Verdict.{Verdict}
use Rattle.rcpsp_model.specs.Project.{Project}
use Rattle.rcpsp_model.specs.Chain.{IsLeast}
use Rattle.rcpsp_model.specs.Tree.{Choice, entry_at, IsPlacedChild}
use Rattle.precedence_tree.specs.declared.base.Base.{Base}
use Rattle.precedence_tree.specs.Base.{IsBaseOf}
use Rattle.precedence_tree.specs.Node.{NodeState}
use Rattle.proof_log.specs.declared.report.LogLine.{LogLine}
use Rattle.log_truth.specs.Fates.{Saying, says_expanded, says_late, says_dominated, says_shut}
use Rattle.log_truth.specs.Log.{Branch, at_root, by_choice, says, is_expanded, LogNode, front_of, nodes}
use Rattle.log_truth.specs.Holds.{IsLeftNumber, expanded_in}
use Rattle.log_truth.specs.Refusal.{Fault, IsGood, HasFault, Wants}
use Rattle.log_checker.specs.declared.choices.Turn.{Turn}
use Rattle.log_checker.specs.declared.reason.Reason.{Reason}
use Rattle.log_checker.specs.declared.reason.Reason.TheVariants.{LinesLeft}
use Rattle.log_checker.specs.declared.said.SaidFate.{SaidFate}
use Rattle.log_checker.specs.declared.said.SaidFate.TheVariants.{Expanded, Leaf, TailBound, WorkBound, Budget, Capacity, Worse, Cutset, Left}
use Rattle.log_checker.specs.declared.walk.Root.{Root}
use Rattle.log_checker.specs.declared.walk.Root.TheVariants.{Wanted, Came, Cites}
use Rattle.log_checker.specs.declared.walk.Grown.{Grown}
use Rattle.log_checker.specs.declared.walk.OpenFront.{OpenFront}
use Rattle.log_checker.specs.declared.walk.Citing.{Citing}
use Rattle.log_checker.specs.declared.walk.Walk.{Walk}
use Rattle.log_checker.specs.declared.judging.Judged.TheVariants.{Broken, Shut, Open}
use Rattle.log_checker.specs.Reasons.{reason_of}
use Rattle.log_checker.specs.Judged.{choice_at, IsJudged}
use Rattle.log_checker.specs.Choices.{choices_above, choices_from, turns_from, IsTurnOf, IsNextChoice}

-- What is still wanted.

abbrev pub branches_by : List Entry → List Choice → List Branch
branches_by F cs = map (λ c. by_choice F c) cs

-- below the open fronts, of which the last is the deepest
abbrev pub wanted_below : Project → List OpenFront → List Branch
wanted_below P [] = []
wanted_below P (o ∷ os) = wanted_below P os ++ branches_by o.front.front (turns_from P o.front.front o.next)

-- the root, before the first line
abbrev pub wanted_root : Root → List Branch
wanted_root Wanted = at_root ∷ []
wanted_root Came = []
wanted_root Cites = []

abbrev pub wanted_of : Project → Walk → List Branch
wanted_of P walk = wanted_below P walk.path.items ++ wanted_root walk.root

-- What lines leave to be looked up.

-- an expanded line: its number and its front
pub record Mark : Type 0 where
  pub line : ℕ
  pub front : List Entry

abbrev pub mark_at : ℕ → Bool → Option (List Entry) → List Mark
mark_at i true (Some F) = record { line = i; front = F } ∷ []
mark_at i true None = []
mark_at i false F = []

-- the expanded lines among these nodes, numbered from i on
abbrev pub marks_from : ℕ → List LogNode → List Mark
marks_from i [] = []
marks_from i (n ∷ ns) = mark_at i (is_expanded n.line) (front_of n) ++ marks_from (i + 1) ns

-- a line that cites another: its number, the number that it cites, and its front
pub record Citation : Type 0 where
  pub line : ℕ
  pub cited : ℕ
  pub front : List Entry

abbrev pub citation_at : ℕ → Saying → Option (List Entry) → List Citation
citation_at i (says_dominated c) (Some F) = record { line = i; cited = c; front = F } ∷ []
citation_at i (says_dominated c) None = []
citation_at i says_expanded F = []
citation_at i (says_late r) F = []
citation_at i (says_shut why) F = []

-- the lines among these nodes that cite another, numbered from i on
abbrev pub citations_from : ℕ → List LogNode → List Citation
citations_from i [] = []
citations_from i (n ∷ ns) = citation_at i (says n.line) (front_of n) ++ citations_from (i + 1) ns

-- Whatever the lines.

-- in the place stands an expanded line with this front
pub record IsGrownAt (grown : List Grown) (place : ℕ) (F : List Entry) : Type 0 where
  pub own : Grown
  pub at : slice_get grown place ≡ Some own
  pub front : own.front.front ≡ F

-- an open front, with its next choice
pub record IsOpenFront (P : Project) (grown : List Grown) (o : OpenFront) : Type 0 where
  pub base : IsBaseOf P o.front
  pub turn : IsTurnOf P o.front.front o.next
  pub place : IsGrownAt grown o.place o.front.front

-- the child of an expanded line by a choice
pub record IsCiting (P : Project) (grown : List Grown) (c : Citing) : Type 0 where
  pub parent : List Entry
  pub place : IsGrownAt grown c.parent parent
  pub turn : IsTurnOf P parent c.turn

-- what is kept is of the project
pub record IsSound (P : Project) (walk : Walk) : Type 0 where
  pub bases : All (λ g. IsBaseOf P g.front) walk.grown.items
  pub path : All (IsOpenFront P walk.grown.items) walk.path.items
  pub citing : All (IsCiting P walk.grown.items) walk.citing.items

-- By the lines.

abbrev pub mark_of : Grown → Mark
mark_of g = record { line = g.line; front = g.front.front }

-- the citation is kept by the line's number, the number cited, and the child of an expanded line
pub record IsKeptAs (P : Project) (grown : List Grown) (citation : Citation) (c : Citing) : Type 0 where
  pub line : c.line ≡ citation.line
  pub cited : c.cited ≡ citation.cited
  pub parent : List Entry
  pub place : IsGrownAt grown c.parent parent
  pub start : ℕ
  pub front : citation.front ≡ parent ++ entry_at c.turn.job c.turn.mode start ∷ []
  pub placed : IsPlacedChild P parent (entry_at c.turn.job c.turn.mode start)

-- the citations are kept one by one; a root that cites has no line beside it
abbrev pub AreKept : Project → Root → List Grown → List Citing → List Citation → Type 0
AreKept P Cites grown cs citations = (grown ≡ []) × ((i : ℕ) × (citations ≡ record { line = 1; cited = i; front = [] } ∷ []))
AreKept P Wanted grown cs citations = AllZip (IsKeptAs P grown) citations cs
AreKept P Came grown cs citations = AllZip (IsKeptAs P grown) citations cs

-- the least number of a line that was left, if any was
abbrev pub IsLeastLeft : List LogLine → Option ℕ → Type 0
IsLeastLeft lines None = (b : ℕ) → IsLeftNumber lines b → ⊥
IsLeastLeft lines (Some b) = IsLeast (IsLeftNumber lines) b

-- what is kept stands for these lines, of which none breaks a rule as it comes
pub record Stands (P : Project) (verdict : Verdict) (walk : Walk) (lines : List LogLine) : Type 0 where
  pub wanted : Wants P verdict lines (wanted_of P walk)
  pub count : walk.lines ≡ length lines
  pub few : length walk.grown.items ≡ expanded_in lines
  pub marks : map mark_of walk.grown.items ≡ marks_from 1 (nodes P lines)
  pub kept : AreKept P walk.root walk.grown.items walk.citing.items (citations_from 1 (nodes P lines))
  pub left : IsLeastLeft lines walk.least

-- One line more.

-- the first of the branches that are wanted is this line's: it breaks a rule, which is the reason; or it is right, and what is
-- kept stands for it too
abbrev pub IsTaken : Project → Verdict → List LogLine → List Branch → LogLine → Option Reason → Walk → Type 0
IsTaken P verdict lines [] line reason walk = reason ≡ Some LinesLeft
IsTaken P verdict lines (branch ∷ rest) line None walk = IsGood P verdict (expanded_in lines) branch line × Stands P verdict walk (lines ++ line ∷ [])
IsTaken P verdict lines (branch ∷ rest) line (Some reason) walk = (fault : Fault) × HasFault P verdict (expanded_in lines) branch line fault × (reason ≡ reason_of fault)

-- the front with its next choice, if it has one
abbrev pub opened : Base → ℕ → Option Turn → List OpenFront
opened base place None = []
opened base place (Some turn) = record { front = base; place = place; next = turn } ∷ []

-- The steps of the machine.

-- what is kept gains open fronts, expanded lines and lines that cite, and has these other numbers
pub record Changes (old new : Walk) (root : Root) (lines : ℕ) (fronts : List OpenFront) (grown : List Grown) (citing : List Citing) (least : Option ℕ) : Type 0 where
  pub root_is : new.root ≡ root
  pub lines_is : new.lines ≡ lines
  pub path : new.path.items ≡ old.path.items ++ fronts
  pub grown_is : new.grown.items ≡ old.grown.items ++ grown
  pub citing_is : new.citing.items ≡ old.citing.items ++ citing
  pub least_is : new.least ≡ least

-- one line more, as far as there are numbers
abbrev pub next_number : ℕ → ℕ
next_number n = min (n + 1) 4294967295

-- the front that was taken off the path is put back with its next choice, if it has one
pub record Advances (P : Project) (old new : Walk) (parent : OpenFront) : Type 0 where
  pub next : Option Turn
  pub is_next : IsNextChoice P parent.front.front (choices_from P parent.front.front parent.next.job (parent.next.mode + 1)) next
  pub changes : Changes old new old.root (next_number old.lines) (opened parent.front parent.place next) [] [] old.least

-- the front is expanded, and its children are wanted
pub record Grows (P : Project) (old new : Walk) (F : List Entry) : Type 0 where
  pub base : Base
  pub front : base.front ≡ F
  pub known : IsBaseOf P base
  pub next : Option Turn
  pub is_next : IsNextChoice P F (choices_above P F 0) next
  pub changes : Changes old new old.root old.lines (opened base (length old.grown.items) next) (record { line = old.lines; front = base } ∷ []) [] old.least

-- the lesser of two numbers, of which the first may be missing
abbrev pub lesser_of : Option ℕ → ℕ → ℕ
lesser_of None b = b
lesser_of (Some a) b = min a b

abbrev pub Keeps : Walk → Walk → Type 0
Keeps old new = Changes old new old.root old.lines [] [] [] old.least

-- what a line of this fate leaves, citations apart
abbrev pub KeepsLine : Project → Walk → Walk → List Entry → SaidFate → Type 0
KeepsLine P old new F Expanded = Grows P old new F
KeepsLine P old new F (Left b) = Changes old new old.root old.lines [] [] [] (Some (lesser_of old.least b))
KeepsLine P old new F Leaf = Keeps old new
KeepsLine P old new F TailBound = Keeps old new
KeepsLine P old new F (WorkBound k) = Keeps old new
KeepsLine P old new F (Budget l) = Keeps old new
KeepsLine P old new F (Capacity k) = Keeps old new
KeepsLine P old new F (Worse m) = Keeps old new
KeepsLine P old new F (Cutset i) = Keeps old new

-- the citation of a line of this fate
abbrev pub citing_by : ℕ → ℕ → Turn → SaidFate → List Citing
citing_by line parent turn (Cutset i) = record { line = line; cited = i; parent = parent; turn = turn } ∷ []
citing_by line parent turn Expanded = []
citing_by line parent turn Leaf = []
citing_by line parent turn TailBound = []
citing_by line parent turn (WorkBound k) = []
citing_by line parent turn (Budget l) = []
citing_by line parent turn (Capacity k) = []
citing_by line parent turn (Worse m) = []
citing_by line parent turn (Left b) = []

-- a root of this fate has come
abbrev pub root_by : SaidFate → Root
root_by (Cutset i) = Cites
root_by Expanded = Came
root_by Leaf = Came
root_by TailBound = Came
root_by (WorkBound k) = Came
root_by (Budget l) = Came
root_by (Capacity k) = Came
root_by (Worse m) = Came
root_by (Left b) = Came

-- the line of a child whose front was taken off the path breaks a rule, which is the reason; or it has no front, and the next
-- child is wanted; or it has a front, and what is needed of it is kept
pub data IsTakenChild (P : Project) (verdict : Verdict) (old : Walk) (parent : OpenFront) (line : LogLine) (fate : SaidFate) : Option Reason → Walk → Type 0 where
  child_broken : (reason : Reason) (new : Walk) → IsJudged P verdict (length old.grown.items) (by_choice parent.front.front (choice_at parent.next.job parent.next.mode)) line (Broken reason) → IsTakenChild P verdict old parent line fate (Some reason) new
  child_shut : (new : Walk) → IsJudged P verdict (length old.grown.items) (by_choice parent.front.front (choice_at parent.next.job parent.next.mode)) line Shut → Advances P old new parent → IsTakenChild P verdict old parent line fate None new
  child_open : (node : NodeState) (next cites new : Walk) → IsJudged P verdict (length old.grown.items) (by_choice parent.front.front (choice_at parent.next.job parent.next.mode)) line (Open node) → Advances P old next parent →
      Changes next cites next.root next.lines [] [] (citing_by next.lines parent.place parent.next fate) next.least → KeepsLine P cites new node.front fate → IsTakenChild P verdict old parent line fate None new

-- the same of the line of the root
pub data IsTakenRoot (P : Project) (verdict : Verdict) (old : Walk) (line : LogLine) (fate : SaidFate) : Option Reason → Walk → Type 0 where
  root_broken : (reason : Reason) (new : Walk) → IsJudged P verdict (length old.grown.items) at_root line (Broken reason) → IsTakenRoot P verdict old line fate (Some reason) new
  root_shut : (new : Walk) → IsJudged P verdict (length old.grown.items) at_root line Shut → Changes old new (root_by fate) (next_number old.lines) [] [] [] old.least → IsTakenRoot P verdict old line fate None new
  root_open : (node : NodeState) (begun new : Walk) → IsJudged P verdict (length old.grown.items) at_root line (Open node) → Changes old begun (root_by fate) (next_number old.lines) [] [] [] old.least →
      KeepsLine P begun new node.front fate → IsTakenRoot P verdict old line fate None new
