-- Tests that compute whether lines are a log, on a project that is given, and what they show.
use Rattle.std.proofs.Common.{◌≡◌, ℕ, refl, List, [], ◌∷◌, ◌++◌, Bool, true, false, eqb, ◌&&◌, not, Option, Some, None}
use Rattle.std.proofs.lemmas.Bool.{and_parts, eqb-true, false≢true}
use Rattle.rcpsp_model.specs.declared.parts.Entry.{Entry}
use Rattle.rcpsp_model.specs.declared.parts.Shut.TheVariants.{NoCapacity, NoBudget, Inefficient}
use Rattle.rcpsp_model.specs.Project.{Project}
use Rattle.rcpsp_model.specs.Tree.{Choice}
use Rattle.rcpsp_model.proofs.TreeTests.{not-true}
use Rattle.rcpsp_model.proofs.ChildTests.{least_test, leaves_test, leaves_test-true, gap_test, least_gap, placed_test, placed_test-true, shut_test, shut_test-true}
use Rattle.proof_log.specs.declared.report.LogLine.{LogLine}
use Rattle.log_truth.specs.Fates.{Saying, says_expanded, says_late, says_dominated, says_shut, shuts}
use Rattle.log_truth.specs.Log.{Branch, at_root, by_choice, says, below, IsRootSaying, IsShutSaying, IsChildSaying, IsLineAt, AreLogs}

abbrev pub shut_saying_test : Project → List Entry → Choice → Saying → Bool
shut_saying_test P F c (says_shut why) = shut_test P F c.job c.mode why
shut_saying_test P F c _ = false

shut_saying_test-true : (P : Project) (F : List Entry) (c : Choice) (s : Saying) → shut_saying_test P F c s ≡ true → IsShutSaying P F c s
shut_saying_test-true P F c (says_shut why) h = shut_test-true P F c.job c.mode why h
shut_saying_test-true P F c says_expanded h = absurd (false≢true h)
shut_saying_test-true P F c (says_late r) h = absurd (false≢true h)
shut_saying_test-true P F c (says_dominated i) h = absurd (false≢true h)

abbrev pub child_saying_test : Project → List Entry → Choice → Option ℕ → Saying → Bool
child_saying_test P F c (Some t) s = placed_test P F c.job c.mode t && not (shuts s)
child_saying_test P F c None s = shut_saying_test P F c s

child_saying_test-true : (P : Project) (F : List Entry) (c : Choice) (start : Option ℕ) (s : Saying) → child_saying_test P F c start s ≡ true → IsChildSaying P F c start s
child_saying_test-true P F c (Some t) s h =
    let a = and_parts (placed_test P F c.job c.mode t) (not (shuts s)) h in (placed_test-true P F c.job c.mode t a.0, not-true (shuts s) a.1)
child_saying_test-true P F c None s h = shut_saying_test-true P F c s h

abbrev pub root_saying_test : Project → Saying → Bool
root_saying_test P (says_shut (NoBudget l)) = least_test (gap_test P []) l
root_saying_test P (says_shut _) = false
root_saying_test P _ = leaves_test P []

root_saying_test-true : (P : Project) (s : Saying) → root_saying_test P s ≡ true → IsRootSaying P s
root_saying_test-true P (says_shut (NoBudget l)) h = least_gap P [] l h
root_saying_test-true P (says_shut (NoCapacity k)) h = absurd (false≢true h)
root_saying_test-true P (says_shut (Inefficient m)) h = absurd (false≢true h)
root_saying_test-true P says_expanded h = leaves_test-true P [] h
root_saying_test-true P (says_late r) h = leaves_test-true P [] h
root_saying_test-true P (says_dominated i) h = leaves_test-true P [] h

abbrev pub is_without : Option ℕ → Bool
is_without None = true
is_without (Some t) = false

without-none : (o : Option ℕ) → is_without o ≡ true → o ≡ None
without-none None h = refl
without-none (Some t) h = absurd (false≢true h)

abbrev pub line_test : Project → Branch → LogLine → Bool
line_test P at_root line = eqb line.job 0 && (eqb line.mode 0 && (is_without line.start && root_saying_test P (says line)))
line_test P (by_choice F c) line = eqb line.job c.job && (eqb line.mode c.mode && child_saying_test P F c line.start (says line))

pub line_test-true : (P : Project) (b : Branch) (line : LogLine) → line_test P b line ≡ true → IsLineAt P b line
line_test-true P at_root line h =
    let a = and_parts (eqb line.job 0) _ h in
    let b = and_parts (eqb line.mode 0) _ a.1 in
    let c = and_parts (is_without line.start) _ b.1 in
    record { job = eqb-true line.job 0 a.0; mode = eqb-true line.mode 0 b.0; start = without-none line.start c.0; fate = root_saying_test-true P (says line) c.1 }
line_test-true P (by_choice F c) line h =
    let a = and_parts (eqb line.job c.job) _ h in
    let b = and_parts (eqb line.mode c.mode) _ a.1 in
    record { job = eqb-true line.job c.job a.0; mode = eqb-true line.mode c.mode b.0; fate = child_saying_test-true P F c line.start (says line) b.1 }

abbrev pub logs_test : Project → List Branch → List LogLine → Bool
logs_test P [] [] = true
logs_test P (b ∷ bs) [] = false
logs_test P [] (l ∷ ls) = false
logs_test P (b ∷ bs) (l ∷ ls) = line_test P b l && logs_test P (below P b l ++ bs) ls

pub logs_test-true : (P : Project) (bs : List Branch) (lines : List LogLine) → logs_test P bs lines ≡ true → AreLogs P bs lines
logs_test-true P [] [] h = refl
logs_test-true P (b ∷ bs) [] h = absurd (false≢true h)
logs_test-true P [] (l ∷ ls) h = absurd (false≢true h)
logs_test-true P (b ∷ bs) (l ∷ ls) h =
    let a = and_parts (line_test P b l) (logs_test P (below P b l ++ bs) ls) h in (line_test-true P b l a.0, logs_test-true P (below P b l ++ bs) ls a.1)
