-- What is shown of the shares of a round.
use Rattle.std.specs.Prelude.{◌≤◌, IfSome, List, length}
use Rattle.rcpsp_model.specs.Project.{Project}
use Rattle.search_rounds.specs.declared.round.WaitingNode.{WaitingNode}
use Rattle.tree_worker.specs.Worker.{Progress}
use Rattle.round_shares.specs.Part.{Beginning, IsPart}
use Rattle.round_shares.specs.Crew.{Worked, HaveShares, starts_from, IsHandedOn, crew_part, crew_progress, IsFresh, IsOfCrew}

-- the shares of all workers, between whom no node was lost and none came twice, are a part of the round
abbrev pub CrewLaw : Type 0
CrewLaw =
    (P : Project) (b : Beginning) (at : Progress) (ws : List Worked) (rest : List WaitingNode) → IfSome b.terms.best (λ end. end ≤ 1290000) → IsFresh b at → IsOfCrew b ws → HaveShares P b 1 ws → IsHandedOn b.dealt ws rest →
    IsPart P b (crew_progress at ws) (crew_part (starts_from (length b.table.rows) ws) ws rest)
