-- Schedules that end soon.
use Rattle.std.proofs.Common.{◌≤◌, List, All}
use Rattle.std.proofs.lemmas.List.Elements.{All-from_get_or}
use Rattle.rcpsp_model.specs.declared.parts.Placing.{Placing}
use Rattle.rcpsp_model.specs.Project.{Project}
use Rattle.search_rounds.proofs.SoonEnds.{starts-soon}
use Rattle.steal_rounds.specs.Whole.{IsShort}

pub short_starts : (P : Project) (s : List Placing) → IsShort P s → All (λ p. p.start ≤ 999999999) s
short_starts P s short = All-from_get_or (λ (p : Placing). p.start ≤ 999999999) s (record { mode = 0; start = 0 }) (λ i l. starts-soon P s i (record { mode = 0; start = 0 }) short.soon l)
