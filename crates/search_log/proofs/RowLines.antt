-- The line of a row: what it says, and that it stays that of its branch while the row is filled.
use Rattle.std.proofs.Common.{◌≡◌, ℕ, refl, sym, ap, ◌∙◌, List, [], false, Option, Some, None}
use Rattle.std.specs.Prelude.{slice_index}
use Rattle.sched_base.specs.declared.fate.Fate.{Fate}
use Rattle.sched_base.specs.declared.fate.Fate.TheVariants.{Cutset}
use Rattle.rcpsp_model.specs.declared.parts.Entry.{Entry}
use Rattle.rcpsp_model.specs.declared.parts.Shut.TheVariants.{NoCapacity, NoBudget, Inefficient}
use Rattle.rcpsp_model.specs.declared.parts.Verdict.{Verdict}
use Rattle.rcpsp_model.specs.Project.{Project}
use Rattle.rcpsp_model.specs.Tree.{Choice, LeavesBudgets}
use Rattle.proof_log.specs.declared.report.LogLine.{LogLine}
use Rattle.log_truth.specs.Fates.{Saying, says_expanded, says_late, says_dominated, says_shut, late_left, saying, shuts}
use Rattle.log_truth.specs.Log.{Branch, at_root, by_choice, says, root_front, front_at, IsRootSaying, IsShutSaying, IsChildSaying, IsLineAt}
use Rattle.search_log.specs.declared.row.RowFate.{RowFate}
use Rattle.search_log.specs.declared.row.RowFate.TheVariants.{Open, Expanded, Leaf, TailBound, WorkBound, Cited, Left, Shut}
use Rattle.search_log.specs.declared.row.Row.{Row}
use Rattle.search_log.specs.Fates.{RowSaying, row_open, row_expanded, row_late, row_cites, row_shut, row_saying, fate_of}
use Rattle.search_log.specs.Table.{says_row}
use Rattle.search_log.specs.Stands.{line_of, TreeNode, Suits, filled}

-- what a row's line says, where the rows have these numbers
abbrev pub told : List ℕ → RowSaying → Saying
told numbers row_open = says_late (late_left 0)
told numbers (row_expanded first count) = says_expanded
told numbers (row_late reason) = says_late reason
told numbers (row_cites q) = says_dominated (slice_index numbers q)
told numbers (row_shut why) = says_shut why

pub saying-told : (numbers : List ℕ) (f : RowFate) → saying (fate_of numbers f) ≡ told numbers (row_saying f)
saying-told numbers Open = refl
saying-told numbers (Expanded count first) = refl
saying-told numbers Leaf = refl
saying-told numbers TailBound = refl
saying-told numbers (WorkBound k) = refl
saying-told numbers (Cited q) = refl
saying-told numbers (Left b) = refl
saying-told numbers (Shut (NoCapacity k)) = refl
saying-told numbers (Shut (NoBudget l)) = refl
saying-told numbers (Shut (Inefficient m)) = refl

-- A line that isn't shut stays that of its branch when another fate is written that doesn't shut it.

root-budgets : (P : Project) (s : Saying) → IsRootSaying P s → shuts s ≡ false → LeavesBudgets P []
root-budgets P says_expanded is o = is
root-budgets P (says_late reason) is o = is
root-budgets P (says_dominated i) is o = is
root-budgets P (says_shut why) is o = absurd (cc)

budgets-root : (P : Project) (s : Saying) → LeavesBudgets P [] → shuts s ≡ false → IsRootSaying P s
budgets-root P says_expanded b o = b
budgets-root P (says_late reason) b o = b
budgets-root P (says_dominated i) b o = b
budgets-root P (says_shut why) b o = absurd (cc)

unshut-none : (P : Project) (F : List Entry) (c : Choice) (s : Saying) → IsShutSaying P F c s → shuts s ≡ false → ⊥
unshut-none P F c says_expanded is o = is
unshut-none P F c (says_late reason) is o = is
unshut-none P F c (says_dominated i) is o = is
unshut-none P F c (says_shut why) is o = cc

child-kept : (P : Project) (F : List Entry) (c : Choice) (start : Option ℕ) (s new : Saying) → IsChildSaying P F c start s → shuts s ≡ false → shuts new ≡ false → IsChildSaying P F c start new
child-kept P F c (Some t) s new is o n = (is.0, n)
child-kept P F c None s new is o n = absurd (unshut-none P F c s is o)

line-kept : (P : Project) (b : Branch) (l : LogLine) (new : Fate) → IsLineAt P b l → shuts (says l) ≡ false → shuts (saying new) ≡ false → IsLineAt P b (record l { fate = new })
line-kept P at_root l new is o n = record { job = is.job; mode = is.mode; start = is.start; fate = budgets-root P (saying new) (root-budgets P (says l) is.fate o) n }
line-kept P (by_choice F c) l new is o n = record { job = is.job; mode = is.mode; fate = child-kept P F c l.start (says l) (saying new) is.fate o n }

front-kept : (b : Branch) (l : LogLine) (new : Fate) → shuts (says l) ≡ false → shuts (saying new) ≡ false → front_at b (record l { fate = new }) ≡ front_at b l
front-kept at_root l new o n = ap root_front (n ∙ sym o)
front-kept (by_choice F c) l new o n = refl

-- The numbers of the rows don't matter to that.

abbrev with_fate : List ℕ → ℕ → ℕ → Option ℕ → RowFate → LogLine
with_fate numbers j m start f = record { job = j; mode = m; start = start; fate = fate_of numbers f }

numbered-line : (P : Project) (b : Branch) (numbers : List ℕ) (j m : ℕ) (start : Option ℕ) (f : RowFate) → IsLineAt P b (with_fate [] j m start f) → IsLineAt P b (with_fate numbers j m start f)
numbered-line P b numbers j m start Open is = is
numbered-line P b numbers j m start (Expanded count first) is = is
numbered-line P b numbers j m start Leaf is = is
numbered-line P b numbers j m start TailBound is = is
numbered-line P b numbers j m start (WorkBound k) is = is
numbered-line P b numbers j m start (Cited q) is = line-kept P b (with_fate [] j m start (Cited q)) (Cutset (slice_index numbers q)) is refl refl
numbered-line P b numbers j m start (Left u) is = is
numbered-line P b numbers j m start (Shut why) is = is

pub row-line : (P : Project) (b : Branch) (numbers : List ℕ) (r : Row) → IsLineAt P b (line_of [] r) → IsLineAt P b (line_of numbers r)
row-line P b numbers r is = numbered-line P b numbers r.job r.mode r.start r.fate is

numbered-front : (b : Branch) (numbers : List ℕ) (j m : ℕ) (start : Option ℕ) (f : RowFate) → front_at b (with_fate numbers j m start f) ≡ front_at b (with_fate [] j m start f)
numbered-front b numbers j m start Open = refl
numbered-front b numbers j m start (Expanded count first) = refl
numbered-front b numbers j m start Leaf = refl
numbered-front b numbers j m start TailBound = refl
numbered-front b numbers j m start (WorkBound k) = refl
numbered-front b numbers j m start (Cited q) = front-kept b (with_fate [] j m start (Cited q)) (Cutset (slice_index numbers q)) refl refl
numbered-front b numbers j m start (Left u) = refl
numbered-front b numbers j m start (Shut why) = refl

pub row-front : (b : Branch) (numbers : List ℕ) (r : Row) → front_at b (line_of numbers r) ≡ front_at b (line_of [] r)
row-front b numbers r = numbered-front b numbers r.job r.mode r.start r.fate

-- A row is filled.

-- what suits a front that was open doesn't shut it
pub suits-unshut : (P : Project) (v w : Verdict) (ns : List TreeNode) (o : Option (List Entry)) (s : RowSaying) → Suits P v ns o row_open → Suits P w ns o s → shuts (told [] s) ≡ false
suits-unshut P v w ns (Some F) row_open is new = refl
suits-unshut P v w ns (Some F) (row_expanded first count) is new = refl
suits-unshut P v w ns (Some F) (row_late reason) is new = refl
suits-unshut P v w ns (Some F) (row_cites q) is new = refl
suits-unshut P v w ns (Some F) (row_shut why) is new = absurd new
suits-unshut P v w ns None s is new = absurd is

open-unshut : (r : Row) → says_row r ≡ row_open → shuts (says (line_of [] r)) ≡ false
open-unshut r e = ap shuts (saying-told [] r.fate ∙ ap (told []) e)

pub filled-line : (P : Project) (b : Branch) (r : Row) (new : RowFate) → says_row r ≡ row_open → shuts (told [] (row_saying new)) ≡ false → IsLineAt P b (line_of [] r) → IsLineAt P b (line_of [] (filled r new))
filled-line P b r new e n is = line-kept P b (line_of [] r) (fate_of [] new) is (open-unshut r e) (ap shuts (saying-told [] new) ∙ n)

pub filled-front : (b : Branch) (r : Row) (new : RowFate) → says_row r ≡ row_open → shuts (told [] (row_saying new)) ≡ false → front_at b (line_of [] (filled r new)) ≡ front_at b (line_of [] r)
filled-front b r new e n = front-kept b (line_of [] r) (fate_of [] new) (open-unshut r e) (ap shuts (saying-told [] new) ∙ n)
