-- What a turn of a worker does to its part and its share.
use Rattle.std.specs.Prelude.{◌≡◌, ℕ, ◌+◌, ◌*◌, ◌<◌, ◌≤◌, Bool, true, false, IfSome, List, [], ◌∷◌, ◌++◌, length, map, All}
use Rattle.rcpsp_model.specs.declared.parts.Child.{Child}
use Rattle.rcpsp_model.specs.Project.{Project}
use Rattle.precedence_tree.specs.declared.base.Base.{Base}
use Rattle.precedence_tree.specs.Node.{NodeState}
use Rattle.cutset_store.specs.Index.{fronts_of}
use Rattle.search_log.specs.declared.row.RowFate.TheVariants.{Expanded}
use Rattle.search_log.specs.declared.row.Origin.{Origin}
use Rattle.search_log.specs.declared.table.Table.{Table}
use Rattle.search_log.specs.Stands.{Waiting}
use Rattle.search_rounds.specs.declared.round.WaitingNode.{WaitingNode}
use Rattle.search_rounds.specs.declared.round.Records.{Records}
use Rattle.search_rounds.specs.declared.round.Terms.{Terms}
use Rattle.search_table.specs.PassState.{PassState}
use Rattle.tree_worker.specs.declared.answer.Close.{Close}
use Rattle.tree_worker.specs.Worker.{WorkerState, Progress}
use Rattle.round_shares.specs.Part.{Beginning, PartState}
use Rattle.round_shares.specs.Share.{IsShare}
use Rattle.node_sources.specs.Source.{SourceState}
use Rattle.steal_rounds.specs.declared.part.Part.{Part}
use Rattle.steal_rounds.specs.Children.{new_row}
use Rattle.steal_rounds.specs.Fates.{fate_in, live_numbers, places_of}
use Rattle.steal_rounds.specs.Lists.{part_state}
use Rattle.steal_rounds.specs.Sources.{handled_by}

-- a node was expanded whose record this is, and whose children's rows begin at the place `first`; apart from what waits
pub record ExpandsAs (place : ℕ) (base : Base) (children : List (Child NodeState)) (first : ℕ) (origin : Origin) (before after : PartState) : Type 0 where
  pub grown : after.grown ≡ before.grown ++ map (new_row origin) children
  pub fills : after.fills ≡ before.fills ++ record { place = place; fate = Expanded (length children) first; origin = origin } ∷ []
  pub live : after.live ≡ before.live
  pub made : after.made ≡ before.made ++ record { place = place; known = base } ∷ []

-- a node was closed for this reason
pub record ClosesAs (records : Records) (place : ℕ) (close : Close) (origin : Origin) (before after : PartState) : Type 0 where
  pub grown : after.grown ≡ before.grown
  pub fills : after.fills ≡ before.fills ++ record { place = place; fate = fate_in records.places (places_of before.made) close; origin = origin } ∷ []
  pub live : after.live ≡ before.live ++ live_numbers (length before.fills) close
  pub made : after.made ≡ before.made
  pub left : after.left ≡ before.left

-- how far a worker has come: what it holds, what its pass has seen and done, its part and the source of its nodes
pub record Stage : Type 0 where
  pub at : Progress
  pub part : PartState
  pub source : SourceState

abbrev pub stage_of : WorkerState → PassState → Part → Stage
stage_of worker pass part = record { at = record { worker = worker; pass = pass.view }; part = part_state part; source = part.source }

abbrev pub beginning : Table → Records → ℕ → List WaitingNode → Terms → Beginning
beginning table records worker dealt terms = record { table = table; records = records; dealt = dealt; terms = terms; first_worker = worker; last_worker = worker }

-- where a node waits before the others
abbrev pub next_stage : WaitingNode → Stage → Stage
next_stage next s = record s { part = record s.part { left = next ∷ s.part.left } }

-- what is a share goes on to be one: whatever nodes the worker was dealt, and in whatever round of this number
abbrev pub KeepsShare : Project → Records → Origin → Stage → Stage → Type 0
KeepsShare P records origin before after =
    (table : Table) (all : List WaitingNode) (terms : Terms) (dealt : List Waiting) → terms.number ≡ origin.round → IfSome terms.best (λ end. end ≤ 1290000) →
    IsShare P (beginning table records origin.worker all terms) (handled_by dealt before.source) before.at before.part →
    IsShare P (beginning table records origin.worker all terms) (handled_by dealt after.source) after.at after.part

-- The counts of a part: at most 512 new rows for each fill, a record for each front that was expanded and each ticket that was
-- won, and the number of a fill for each live citation; what was offered ends by 1,290,000
pub record Counts (s : Stage) : Type 0 where
  pub grown : length s.part.grown ≤ 512 * length s.part.fills
  pub fronts : map (λ m. m.known.front) s.part.made ≡ fronts_of s.at.worker.expanded
  pub made : length s.part.made ≡ length s.at.worker.expanded
  pub won : s.at.pass.won ≡ length s.part.made
  pub live : length s.part.live ≡ length s.at.worker.live
  pub numbers : All (λ i. i < length s.part.fills) s.part.live
  pub soon : All (λ end. end ≤ 1290000) s.at.pass.offers

-- a turn that goes on filled one row more, and one that ends the part was refused a ticket
abbrev pub IsTurn : Bool → Stage → Stage → Type 0
IsTurn true before after = (length after.part.fills ≡ length before.part.fills + 1) × (after.at.pass.refused ≡ before.at.pass.refused)
IsTurn false before after = (length after.part.fills ≡ length before.part.fills) × (after.at.pass.refused ≡ before.at.pass.refused + 1)
