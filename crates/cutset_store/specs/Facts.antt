-- What is compared of a record and of a node.
use Rattle.std.specs.Prelude.{◌≡◌, ℕ, ◌-◌, ◌≤◌, List, length, slice_index}
use Rattle.rcpsp_model.specs.declared.parts.Entry.{Entry}
use Rattle.rcpsp_model.specs.Project.{Project, IsNonrenewable, nonrenewables}
use Rattle.rcpsp_model.specs.Schedule.{used, end_of}
use Rattle.rcpsp_model.specs.Tree.{last_start}
use Rattle.precedence_tree.specs.declared.base.Base.{Base}
use Rattle.precedence_tree.specs.Active.{AreActive}
use Rattle.precedence_tree.specs.Node.{joined}
use Rattle.cutset_store.specs.declared.facts.RecordFacts.{RecordFacts}
use Rattle.cutset_store.specs.declared.facts.NodeFacts.{NodeFacts}

-- they are what the record b keeps, with needs of each nonrenewable resource of the project
pub record AreOfRecord (P : Project) (b : Base) (facts : RecordFacts) : Type 0 where
  pub last : facts.last ≡ last_start b.front
  pub end : facts.end ≡ b.end
  pub wide : nonrenewables P ≤ length facts.used.now
  pub used : (l : ℕ) → IsNonrenewable P l → slice_index facts.used.now (l - 1) ≡ slice_index b.needs.used (l - 1)
  pub active : facts.active.now ≡ b.active

-- they are those of the front F
pub record AreOfFront (P : Project) (F : List Entry) (facts : NodeFacts) : Type 0 where
  pub last : facts.last ≡ last_start F
  pub end : facts.end ≡ end_of P F
  pub used : (l : ℕ) → IsNonrenewable P l → slice_index facts.used (l - 1) ≡ used P F l
  pub active : AreActive P F (joined facts.newest facts.older.now)
