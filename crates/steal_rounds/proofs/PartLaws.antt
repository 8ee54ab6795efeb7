-- What is shown of parts.
use Rattle.std.specs.Prelude.{◌≡◌, ℕ, Option, List, [], ◌++◌, All}
use Rattle.std.specs.List.{AllZip}
use Rattle.rcpsp_model.specs.declared.parts.Placing.{Placing}
use Rattle.rcpsp_model.specs.Project.{Project}
use Rattle.precedence_tree.specs.Node.{StandsFor}
use Rattle.search_log.specs.Stands.{TreeNode}
use Rattle.search_rounds.specs.declared.round.WaitingNode.{WaitingNode}
use Rattle.search_rounds.specs.Round.{IsRoundOn}
use Rattle.tree_worker.specs.Worker.{HasPlan, Progress}
use Rattle.round_shares.specs.Part.{Beginning, BeginsOn, PartState, IsPart}
use Rattle.steal_rounds.specs.Dealt.{AreDealt}
use Rattle.steal_rounds.specs.Whole.{better_plan}
use Rattle.steal_rounds.specs.Cited.{IsRowOf}
use Rattle.steal_rounds.specs.Ended.{result_of, IsWholeCrew, HasEnded, resolved_part, resolved_progress}

-- the better of two plans is one of what both have offered
abbrev pub PlansLaw : Type 0
PlansLaw = (P : Project) (one two : List ℕ) (p q : Option (List Placing)) → HasPlan P one p → HasPlan P two q → HasPlan P (one ++ two) (better_plan P p q)

-- a part stays one where each live citation is given the place of the row that it cites, if the table stands for any nodes at
-- all
abbrev pub ResolveLaw : Type 0
ResolveLaw =
    (P : Project) (b : Beginning) (ns : List TreeNode) (at : Progress) (s : PartState) (places : List ℕ) → BeginsOn b ns → AllZip (IsRowOf s.made) places at.worker.live → IsPart P b at s →
    IsPart P b (resolved_progress at) (resolved_part s places)

-- a part of all workers that has ended, and in which no live citation is open, is a round, in whatever order its nodes were
-- dealt, and in whatever order those that are left are handed on
abbrev pub RoundLaw : Type 0
RoundLaw =
    (P : Project) (workers : ℕ) (b : Beginning) (frontier left : List WaitingNode) (at : Progress) (s : PartState) (best : ℕ) (plan : Option (List Placing)) → IsWholeCrew workers b →
    AreDealt frontier b.dealt → IsPart P b at s → s.live ≡ [] → AreDealt s.left left → HasEnded P b at s best plan → All (λ w. StandsFor P w.node) left →
    IsRoundOn P workers b.table b.records frontier b.terms (result_of (record s { left = left }) plan best)

-- the same, where live citations are open, and each is then given the place of the row that it cites
abbrev pub ResolvedRoundLaw : Type 0
ResolvedRoundLaw =
    (P : Project) (workers : ℕ) (b : Beginning) (frontier left : List WaitingNode) (at : Progress) (s : PartState) (places : List ℕ) (best : ℕ) (plan : Option (List Placing)) → IsWholeCrew workers b →
    AreDealt frontier b.dealt → IsPart P b at s → AllZip (IsRowOf s.made) places at.worker.live → AreDealt s.left left → HasEnded P b at s best plan → All (λ w. StandsFor P w.node) left →
    IsRoundOn P workers b.table b.records frontier b.terms (result_of (record (resolved_part s places) { left = left }) plan best)
