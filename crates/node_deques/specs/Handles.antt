-- What contracts see of the two handles of a deque, and what each keeps.
use Rattle.std.specs.Prelude.{◌≡◌, ℕ, length}
use Rattle.std.specs.declared.alloc.Global.{Global}
use Rattle.atomic_blocks.specs.Lent.{RowsId}
use Rattle.crossbeam_deque.specs.declared.handles.Worker.{Worker}
use Rattle.crossbeam_deque.specs.Handles.{Pass, view, IsPassOf, worker_flavor, worker_port, worker_view}
use Rattle.node_deques.specs.declared.node.DequeNode.{DequeNode}
use Rattle.node_deques.specs.declared.view.DequeView.{DequeView}
use Rattle.node_deques.specs.Passes.{IsLive}

-- of which deque it is a handle, and what its pass has done
pub record HandleState : Type 0 where
  pub deque : RowsId × Global
  pub view : DequeView

-- the end of a deque from which the last node is popped; it has the first pass, and so many nodes were accepted
pub record IsOwnersEnd {P : Type 0} (nodes : Worker DequeNode Global DequeView P) (accepted : ℕ) : Type 0 where
  pub last : worker_flavor nodes ≡ 1
  pub first : worker_port nodes ≡ 0
  pub count : accepted ≡ length (worker_view nodes).accepted

-- a pass of the deque, which is there
pub record IsThiefsEnd (deque : RowsId × Global) (pass : Pass DequeNode DequeView Global) : Type 0 where
  pub table : IsPassOf deque pass
  pub live : IsLive (view pass)
