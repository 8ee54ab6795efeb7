-- The lists of a worker's part.
use Rattle.std.specs.Prelude.{List, []}
use Rattle.search_rounds.specs.declared.round.WaitingNode.{WaitingNode}
use Rattle.round_shares.specs.Part.{PartState}
use Rattle.steal_rounds.specs.declared.part.Part.{Part}

abbrev pub part_state : Part → PartState
part_state p = record { grown = p.grown.items; fills = p.fills.items; live = p.live.items; made = p.made.items; left = p.source.list }

-- a part that has just begun: what was dealt waits
abbrev pub new_part : List WaitingNode → PartState
new_part dealt = record { grown = []; fills = []; live = []; made = []; left = dealt }
