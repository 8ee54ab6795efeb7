-- Parts with the same lists are the same.
use Rattle.std.proofs.Common.{◌≡◌, ℕ, ap, ◌∙◌, List}
use Rattle.search_log.specs.declared.row.Fill.{Fill}
use Rattle.search_rounds.specs.declared.round.NewRow.{NewRow}
use Rattle.search_rounds.specs.declared.round.PlacedRecord.{PlacedRecord}
use Rattle.search_rounds.specs.declared.round.WaitingNode.{WaitingNode}
use Rattle.round_shares.specs.Part.{PartState}

abbrev pub part_by : List NewRow → List Fill → List ℕ → List PlacedRecord → List WaitingNode → PartState
part_by grown fills live made left = record { grown = grown; fills = fills; live = live; made = made; left = left }

pub same_part : (s t : PartState) → s.grown ≡ t.grown → s.fills ≡ t.fills → s.live ≡ t.live → s.made ≡ t.made → s.left ≡ t.left → s ≡ t
same_part s t a b l c d =
    ap (λ (x : List NewRow). part_by x s.fills s.live s.made s.left) a ∙ (ap (λ (x : List Fill). part_by t.grown x s.live s.made s.left) b
    ∙ (ap (λ (x : List ℕ). part_by t.grown t.fills x s.made s.left) l
    ∙ (ap (λ (x : List PlacedRecord). part_by t.grown t.fills t.live x s.left) c ∙ ap (part_by t.grown t.fills t.live t.made) d)))
