-- What a round ends with.
use Rattle.std.specs.Prelude.{◌≡◌, ℕ, ◌+◌, ◌<◌, ◌≤◌, Option, IfSome, List, [], length}
use Rattle.rcpsp_model.specs.declared.parts.Placing.{Placing}
use Rattle.rcpsp_model.specs.Project.{Project}
use Rattle.search_log.specs.Lean.{end_number}
use Rattle.search_table.specs.Lists.{least}
use Rattle.search_rounds.specs.declared.round.RoundResult.{RoundResult}
use Rattle.tree_worker.specs.Worker.{HasPlan, Progress}
use Rattle.round_shares.specs.Ends.{end_in}
use Rattle.round_shares.specs.Part.{Beginning, PartState}
use Rattle.steal_rounds.specs.Cited.{cited_rows}

-- of a part, with a plan and the best at the end
abbrev pub result_of : PartState → Option (List Placing) → ℕ → RoundResult
result_of s plan best = record { grown = s.grown; fills = s.fills; left = s.left; made = s.made; best = end_in best; plan = plan; used = length s.made }

-- the part is of all workers, who have the numbers from 1 on
pub record IsWholeCrew (workers : ℕ) (b : Beginning) : Type 0 where
  pub first : b.first_worker ≡ 1
  pub last : b.last_worker ≡ workers

-- Somebody visited a node or was refused a ticket. Each ticket that was won is that of an expansion; no more were won than the
-- quota, and where one was refused exactly so many. The best is the least of that at the start and of what was offered, and no
-- pass saw a lesser one; the plan ends at it where it was offered
pub record HasEnded (P : Project) (b : Beginning) (at : Progress) (s : PartState) (best : ℕ) (plan : Option (List Placing)) : Type 0 where
  pub soon : IfSome b.terms.best (λ end. end ≤ 1290000)
  pub moves : 0 < length s.fills + at.pass.refused
  pub won : at.pass.won ≡ length s.made
  pub few : at.pass.won ≤ b.terms.quota
  pub spent : 0 < at.pass.refused → at.pass.won ≡ b.terms.quota
  pub some : 0 < b.terms.quota
  pub best_is : best ≡ least (end_number b.terms.best) at.pass.offers
  pub seen : best ≤ at.pass.least_seen
  pub brings : HasPlan P at.pass.offers plan

-- A part once each live citation has been given the place of the row that it cites.
abbrev pub resolved_part : PartState → List ℕ → PartState
resolved_part s places = record s { fills = cited_rows s.fills s.live places; live = [] }

abbrev pub resolved_progress : Progress → Progress
resolved_progress at = record at { worker = record at.worker { live = [] } }
