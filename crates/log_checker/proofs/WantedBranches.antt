-- What the machine keeps stands for one line more.
use Rattle.std.proofs.Common.{◌≡◌, ℕ, suc, ◌+◌, ◌<◌, ◌≤◌, arith, refl, sym, ap, subst, ◌∙◌, append_assoc, List, [], ◌∷◌, ◌++◌, length, length-append, map, Option, Some, None}
use Rattle.std.specs.Prelude.{All}
use Rattle.std.proofs.lemmas.List.{append-nil}
use Rattle.std.proofs.lemmas.List.Sums.{sum_by_push}
use Rattle.rcpsp_model.specs.declared.parts.Verdict.{Verdict}
use Rattle.rcpsp_model.specs.Project.{Project, IsWithinLimits}
use Rattle.rcpsp_model.specs.Tree.{Choice}
use Rattle.precedence_tree.specs.declared.base.Base.{Base}
use Rattle.proof_log.specs.declared.report.LogLine.{LogLine}
use Rattle.log_truth.specs.Log.{Branch, at_root, by_choice, says, is_expanded, front_at, below, LogNode, front_of, nodes_from, nodes}
use Rattle.log_truth.specs.Holds.{expanded_in}
use Rattle.log_truth.specs.Refusal.{IsGood, expanded_by, WantsFrom, Wants}
use Rattle.log_truth.proofs.NextLines.{next_law, next_node_law}
use Rattle.log_truth.proofs.FewLines.{room_law}
use Rattle.log_checker.specs.declared.choices.Turn.{Turn}
use Rattle.log_checker.specs.declared.walk.Root.{Root}
use Rattle.log_checker.specs.declared.walk.Root.TheVariants.{Wanted, Came, Cites}
use Rattle.log_checker.specs.declared.walk.Grown.{Grown}
use Rattle.log_checker.specs.declared.walk.OpenFront.{OpenFront}
use Rattle.log_checker.specs.declared.walk.Walk.{Walk}
use Rattle.log_checker.specs.Judged.{choice_at}
use Rattle.log_checker.specs.Choices.{choices_from, turns_from, IsTurnOf, IsNextChoice}
use Rattle.log_checker.specs.Walk.{branches_by, wanted_below, wanted_root, wanted_of, Mark, mark_at, marks_from, Citation, citation_at, citations_from, IsOpenFront, mark_of, AreKept, IsLeastLeft, Stands, opened}
use Rattle.log_checker.proofs.LeftChoices.{from-first}

-- What is wanted.

pub wanted-push : (P : Project) (os : List OpenFront) (o : OpenFront) → wanted_below P (os ++ o ∷ []) ≡ branches_by o.front.front (turns_from P o.front.front o.next) ++ wanted_below P os
wanted-push P [] o = sym (append-nil (branches_by o.front.front (turns_from P o.front.front o.next)))
wanted-push P (x ∷ os) o =
    ap (λ (bs : List Branch). bs ++ branches_by x.front.front (turns_from P x.front.front x.next)) (wanted-push P os o)
    ∙ append_assoc (branches_by o.front.front (turns_from P o.front.front o.next)) (wanted_below P os) (branches_by x.front.front (turns_from P x.front.front x.next))

-- a front that is put on the path with its next choice
pub wanted-opened : (P : Project) (os : List OpenFront) (b : Base) (place : ℕ) (rest : List Choice) (next : Option Turn) → IsNextChoice P b.front rest next →
    wanted_below P (os ++ opened b place next) ≡ branches_by b.front rest ++ wanted_below P os
wanted-opened P os b place rest None is =
    ap (wanted_below P) (append-nil os) ∙ ap (λ (cs : List Choice). branches_by b.front cs ++ wanted_below P os) (sym is)
wanted-opened P os b place rest (Some t) is =
    wanted-push P os (record { front = b; place = place; next = t }) ∙ ap (λ (cs : List Choice). branches_by b.front cs ++ wanted_below P os) (sym is.0)

-- the deepest front's next child comes first
pub wanted-first : (P : Project) (os : List OpenFront) (o : OpenFront) → IsTurnOf P o.front.front o.next →
    wanted_below P (os ++ o ∷ []) ≡ by_choice o.front.front (choice_at o.next.job o.next.mode) ∷ (branches_by o.front.front (choices_from P o.front.front o.next.job (o.next.mode + 1)) ++ wanted_below P os)
wanted-first P os o turn =
    wanted-push P os o ∙ ap (λ (cs : List Choice). branches_by o.front.front cs ++ wanted_below P os) (from-first P o.front.front o.next.job o.next.mode turn.mode.1)

-- nothing is wanted exactly where nothing is left on the path, and the root has come
pub wanted-some : (P : Project) (o : OpenFront) (os : List OpenFront) (bs : List Branch) → IsTurnOf P o.front.front o.next → wanted_below P (o ∷ os) ++ bs ≡ [] → ⊥
wanted-some P o os bs turn e =
    let first = from-first P o.front.front o.next.job o.next.mode turn.mode.1 in
    let size = ap (λ (xs : List Branch). length xs) e in
    let one = length-append (wanted_below P os ++ branches_by o.front.front (turns_from P o.front.front o.next)) bs in
    let two = length-append (wanted_below P os) (branches_by o.front.front (turns_from P o.front.front o.next)) in
    let three = ap (λ (cs : List Choice). length (branches_by o.front.front cs)) first in
    omega arith

pub complete-is : (P : Project) (path : List OpenFront) (root : Root) (grown : List Grown) → All (IsOpenFront P grown) path → wanted_below P path ++ wanted_root root ≡ [] → (path ≡ []) × (root ≡ Wanted → ⊥)
complete-is P [] Wanted grown all e = absurd (cc)
complete-is P [] Came grown all e = (refl, λ x. cc)
complete-is P [] Cites grown all e = (refl, λ x. cc)
complete-is P (o ∷ os) root grown all e = absurd (wanted-some P o os (wanted_root root) (all 0 o (let low : 0 < length (o ∷ os) = omega arith in low)).turn e)

pub complete-from : (P : Project) (path : List OpenFront) (root : Root) → path ≡ [] → (root ≡ Wanted → ⊥) → wanted_below P path ++ wanted_root root ≡ []
complete-from P path Wanted e no_ = absurd (no_ refl)
complete-from P path Came e no_ = rw e
complete-from P path Cites e no_ = rw e

-- The nodes of the lines, by their numbers.

nodes-length : (P : Project) (v : Verdict) (bs : List Branch) (k : ℕ) (ls : List LogLine) (wanted : List Branch) → WantsFrom P v bs k ls wanted → length (nodes_from P bs ls) ≡ length ls
nodes-length P v bs k [] wanted w = refl
nodes-length P v [] k (l ∷ ls) wanted w = absurd w
nodes-length P v (b ∷ bs) k (l ∷ ls) wanted w = ap suc (nodes-length P v (below P b l ++ bs) (k + expanded_by l) ls wanted w.1)

marks-push : (i : ℕ) (ns : List LogNode) (n : LogNode) → marks_from i (ns ++ n ∷ []) ≡ marks_from i ns ++ mark_at (i + length ns) (is_expanded n.line) (front_of n)
marks-push i [] n = let e : i ≡ i + 0 = omega arith in append-nil (mark_at i (is_expanded n.line) (front_of n)) ∙ ap (λ (j : ℕ). mark_at j (is_expanded n.line) (front_of n)) e
marks-push i (m ∷ ns) n =
    let e : i + 1 + length ns ≡ i + length (m ∷ ns) = omega arith in
    ap (λ (xs : List Mark). mark_at i (is_expanded m.line) (front_of m) ++ xs) (marks-push (i + 1) ns n ∙ ap (λ (j : ℕ). marks_from (i + 1) ns ++ mark_at j (is_expanded n.line) (front_of n)) e)
    ∙ sym (append_assoc (mark_at i (is_expanded m.line) (front_of m)) (marks_from (i + 1) ns) (mark_at (i + length (m ∷ ns)) (is_expanded n.line) (front_of n)))

citations-push : (i : ℕ) (ns : List LogNode) (n : LogNode) → citations_from i (ns ++ n ∷ []) ≡ citations_from i ns ++ citation_at (i + length ns) (says n.line) (front_of n)
citations-push i [] n = let e : i ≡ i + 0 = omega arith in append-nil (citation_at i (says n.line) (front_of n)) ∙ ap (λ (j : ℕ). citation_at j (says n.line) (front_of n)) e
citations-push i (m ∷ ns) n =
    let e : i + 1 + length ns ≡ i + length (m ∷ ns) = omega arith in
    ap (λ (xs : List Citation). citation_at i (says m.line) (front_of m) ++ xs) (citations-push (i + 1) ns n ∙ ap (λ (j : ℕ). citations_from (i + 1) ns ++ citation_at j (says n.line) (front_of n)) e)
    ∙ sym (append_assoc (citation_at i (says m.line) (front_of m)) (citations_from (i + 1) ns) (citation_at (i + length (m ∷ ns)) (says n.line) (front_of n)))

-- One line more.

-- what has to be known of the machine before and after a line on a branch
pub record Goes (P : Project) (old new : Walk) (ls : List LogLine) (b : Branch) (l : LogLine) (rest : List Branch) : Type 0 where
  pub wanted : wanted_of P new ≡ below P b l ++ rest
  pub count : new.lines ≡ old.lines + 1
  pub few : length new.grown.items ≡ length old.grown.items + expanded_by l
  pub marks : map mark_of new.grown.items ≡ map mark_of old.grown.items ++ mark_at (old.lines + 1) (is_expanded l) (front_at b l)
  pub kept : AreKept P new.root new.grown.items new.citing.items (citations_from 1 (nodes P ls) ++ citation_at (old.lines + 1) (says l) (front_at b l))
  pub left_over : IsLeastLeft ls old.least → IsLeastLeft (ls ++ l ∷ []) new.least

pub expanded-push : (ls : List LogLine) (l : LogLine) → expanded_in (ls ++ l ∷ []) ≡ expanded_in ls + expanded_by l
expanded-push ls l = sum_by_push expanded_by ls l

pub stands-next : (P : Project) (v : Verdict) (old new : Walk) (ls : List LogLine) (b : Branch) (l : LogLine) (rest : List Branch) → Stands P v old ls → wanted_of P old ≡ b ∷ rest → IsGood P v (expanded_in ls) b l →
    Goes P old new ls b l rest → Stands P v new (ls ++ l ∷ [])
stands-next P v old new ls b l rest s e good g =
    let before = subst (Wants P v ls) e s.wanted in
    let number : 1 + length (nodes P ls) ≡ old.lines + 1 = let size = nodes-length P v (at_root ∷ []) 0 ls (b ∷ rest) before in let count = s.count in omega arith in
    let pushed = next_node_law P v ls l b rest before in
    record {
      wanted = subst (Wants P v (ls ++ l ∷ [])) (sym g.wanted) (next_law P v ls l b rest before good);
      count = g.count ∙ (let size = length-append ls (l ∷ []) in let count = s.count in omega arith);
      few = g.few ∙ (let few = s.few in let push = expanded-push ls l in omega arith);
      marks = g.marks ∙ ap (λ (xs : List Mark). xs ++ mark_at (old.lines + 1) (is_expanded l) (front_at b l)) s.marks
          ∙ sym (ap (marks_from 1) pushed ∙ marks-push 1 (nodes P ls) (record { branch = b; line = l }) ∙ ap (λ (i : ℕ). marks_from 1 (nodes P ls) ++ mark_at i (is_expanded l) (front_at b l)) number);
      kept = subst (AreKept P new.root new.grown.items new.citing.items)
          (sym (ap (citations_from 1) pushed ∙ citations-push 1 (nodes P ls) (record { branch = b; line = l }) ∙ ap (λ (i : ℕ). citations_from 1 (nodes P ls) ++ citation_at i (says l) (front_at b l)) number))
          g.kept;
      left = g.left_over s.left;
    }

-- the number of the lines has room
pub room : (P : Project) (v : Verdict) (walk : Walk) (ls : List LogLine) → IsWithinLimits P → Stands P v walk ls → walk.lines ≤ 51200001
room P v walk ls limits s = let r = room_law P v ls (wanted_of P walk) limits s.wanted in let few = r.0 in let most = r.1 in let count = s.count in omega arith
