-- What a row says of a node that a visit closed.
use Rattle.std.specs.Prelude.{ℕ, ◌<◌, List, [], ◌∷◌, map, slice_index}
use Rattle.search_log.specs.declared.row.RowFate.{RowFate}
use Rattle.search_log.specs.declared.row.RowFate.TheVariants as fate
use Rattle.search_rounds.specs.declared.round.PlacedRecord.{PlacedRecord}
use Rattle.tree_worker.specs.declared.answer.Cite.TheVariants.{Earlier, Own, Live}
use Rattle.tree_worker.specs.declared.answer.Close.{Close}
use Rattle.tree_worker.specs.declared.answer.Close.TheVariants.{Leaf, TailBound, WorkBound, Cutset}

abbrev pub places_of : List PlacedRecord → List ℕ
places_of made = map (λ m. m.place) made

-- a record that is cited is one of so many of earlier rounds, one of so many of the worker's own, or a live one
abbrev pub IsCitedWithin : ℕ → ℕ → Close → Type 0
IsCitedWithin earlier own (Cutset (Earlier i)) = i < earlier
IsCitedWithin earlier own (Cutset (Own i)) = i < own
IsCitedWithin earlier own _ = Unit {0}

-- The fate, where records of earlier rounds and the worker's own have their rows at these places. The row of a live record
-- isn't known while workers are at work, and the first row stands in its place
abbrev pub fate_in : List ℕ → List ℕ → Close → RowFate
fate_in earlier own Leaf = fate.Leaf
fate_in earlier own TailBound = fate.TailBound
fate_in earlier own (WorkBound k) = fate.WorkBound k
fate_in earlier own (Cutset (Earlier i)) = fate.Cited (slice_index earlier i)
fate_in earlier own (Cutset (Own i)) = fate.Cited (slice_index own i)
fate_in earlier own (Cutset (Live worker place)) = fate.Cited 0

-- a live record closed the node
abbrev pub IsLive : Close → Type 0
IsLive (Cutset (Live worker place)) = Unit {0}
IsLive _ = ⊥

-- the number of the fill, if a live record closed its node
abbrev pub live_numbers : ℕ → Close → List ℕ
live_numbers i (Cutset (Live worker place)) = i ∷ []
live_numbers i _ = []
