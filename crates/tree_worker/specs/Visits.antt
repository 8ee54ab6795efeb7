-- What a visit did: to its node, to the worker, and to what its pass has seen and done.
use Rattle.std.specs.Prelude.{◌≡◌, ℕ, ◌+◌, ◌≤◌, true, false, List, [], ◌∷◌, ◌++◌, All}
use Rattle.sched_base.specs.Outside.{Rose}
use Rattle.rcpsp_model.specs.declared.parts.Child.{Child}
use Rattle.rcpsp_model.specs.declared.parts.Entry.{Entry}
use Rattle.rcpsp_model.specs.Project.{Project}
use Rattle.rcpsp_model.specs.Tree.{IsLeaf, AreChildren}
use Rattle.precedence_tree.specs.declared.base.Base.{Base}
use Rattle.precedence_tree.specs.Base.{IsBaseOf}
use Rattle.precedence_tree.specs.Node.{NodeState}
use Rattle.precedence_tree.specs.Children.{child_fronts, StandsWherePlaced}
use Rattle.search_table.specs.declared.view.PassView.{PassView}
use Rattle.search_table.specs.Counts.{seen_of}
use Rattle.search_table.specs.Lists.{least}
use Rattle.cutset_store.specs.Index.{fronts_of}
use Rattle.shared_rows.specs.Rows.{RowsState}
use Rattle.tree_worker.specs.declared.answer.Cite.TheVariants.{Live}
use Rattle.tree_worker.specs.declared.answer.Close.{Close}
use Rattle.tree_worker.specs.declared.answer.Close.TheVariants.{Leaf, Cutset}
use Rattle.tree_worker.specs.declared.answer.Visited.{Visited}
use Rattle.tree_worker.specs.declared.answer.Visited.TheVariants.{Closed, Expanded, Back}
use Rattle.tree_worker.specs.Live.{CitesLive}
use Rattle.tree_worker.specs.Worker.{Progress}
use Rattle.tree_worker.specs.Reasons.{IsKnownReason, IsOpen}
use Rattle.tree_worker.specs.Offers.{OffersNothing, OffersLeaf}

-- What a visit leaves of a pass, whatever it answers: what the pass stands for beside its own work stays, the least best seen
-- doesn't rise, and the counts seen don't fall
pub record StaysOf (v w : PassView) : Type 0 where
  pub number : w.number ≡ v.number
  pub terms : w.terms ≡ v.terms
  pub passes : w.passes ≡ v.passes
  pub split_off : w.split_off ≡ v.split_off
  pub joined_counts : w.joined_counts ≡ v.joined_counts
  pub least_seen : w.least_seen ≤ v.least_seen
  pub seen : (worker : ℕ) → seen_of worker v ≤ seen_of worker w

-- Parts of what a visit did.

abbrev pub OffersNone : Progress → Progress → Type 0
OffersNone before after = OffersNothing before.pass after.pass before.worker.plan after.worker.plan

-- nothing was expanded and nothing was published
pub record ExpandsNothing (before after : Progress) : Type 0 where
  pub won : after.pass.won ≡ before.pass.won
  pub own : after.pass.own ≡ before.pass.own
  pub expanded : after.worker.expanded ≡ before.worker.expanded
  pub notes : after.worker.notes ≡ before.worker.notes
  pub stopped : after.worker.stopped ≡ before.worker.stopped

-- nothing was cited live
abbrev pub CitesNone : Progress → Progress → Type 0
CitesNone before after = after.worker.live ≡ before.worker.live

-- the leaf's end was offered where it is less than the best that was loaded
pub record ClosesLeaf (P : Project) (best : ℕ) (F : List Entry) (before after : Progress) : Type 0 where
  pub leaf : IsLeaf P F
  pub offers : OffersLeaf P F best before.pass after.pass before.worker.plan after.worker.plan
  pub live : CitesNone before after

-- the node isn't a leaf, and is closed by what is known of it
pub record ClosesBy (P : Project) (F : List Entry) (Reason : Type 0) (before after : Progress) : Type 0 where
  pub inner : IsLeaf P F → ⊥
  pub reason : Reason
  pub offers : OffersNone before after

-- why a node is closed, and what else was done
abbrev pub Closes : Project → List (List Entry) → RowsState → ℕ → List Entry → Progress → Progress → Close → Type 0
Closes P earlier rows best F before after Leaf = ClosesLeaf P best F before after
Closes P earlier rows best F before after (Cutset (Live worker place)) =
    ClosesBy P F (IsOpen P earlier (fronts_of before.worker.expanded) best F × CitesLive P rows after.pass F before.worker.live after.worker.live worker place) before after
Closes P earlier rows best F before after close = ClosesBy P F (IsKnownReason P earlier (fronts_of before.worker.expanded) best F close) before after × CitesNone before after

-- a closed node: no ticket was drawn
pub record ClosesNode (P : Project) (earlier : List (List Entry)) (rows : RowsState) (best : ℕ) (node : NodeState) (before after : Progress) (back : NodeState) (close : Close) : Type 0 where
  pub same : back ≡ node
  pub reason : Closes P earlier rows best node.front before after close
  pub nothing : ExpandsNothing before after
  pub refused : after.pass.refused ≡ before.pass.refused

-- the record of the node is published, unless the worker is stopped: it was, or a set was refused
pub record SharesOne (refused refused_now : ℕ) (before after : Progress) : Type 0 where
  pub going : after.worker.stopped ≡ false → after.pass.own ≡ before.pass.own + 1
  pub ended : after.worker.stopped ≡ true → after.pass.own ≡ before.pass.own
  pub stays : before.worker.stopped ≡ true → after.worker.stopped ≡ true
  pub cause : before.worker.stopped ≡ false → after.worker.stopped ≡ true → Rose refused refused_now

-- an expanded node: a ticket was won, and nothing that was known closes it; this is the record of its front that the worker keeps
pub record ExpandsNode (P : Project) (earlier : List (List Entry)) (best refused refused_now : ℕ) (node : NodeState) (before after : Progress) (back : NodeState) (children : List (Child NodeState)) (base : Base) : Type 0 where
  pub same : back ≡ node
  pub inner : IsLeaf P node.front → ⊥
  pub unclosed : IsOpen P earlier (fronts_of before.worker.expanded) best node.front
  pub are_children : AreChildren P node.front (child_fronts children)
  pub stand : All (StandsWherePlaced P) children
  pub won : after.pass.won ≡ before.pass.won + 1
  pub unrefused : after.pass.refused ≡ before.pass.refused
  pub front : base.front ≡ node.front
  pub known : IsBaseOf P base
  pub kept : after.worker.expanded ≡ before.worker.expanded ++ base ∷ []
  pub shares : SharesOne refused refused_now before after
  pub offers : OffersNone before after
  pub live : CitesNone before after

-- a node for which there was no ticket
pub record ReturnsNode (P : Project) (node : NodeState) (before after : Progress) (back : NodeState) : Type 0 where
  pub same : back ≡ node
  pub inner : IsLeaf P node.front → ⊥
  pub nothing : ExpandsNothing before after
  pub refused : after.pass.refused ≡ before.pass.refused + 1
  pub offers : OffersNone before after
  pub live : CitesNone before after

abbrev pub Did : Project → List (List Entry) → RowsState → ℕ → ℕ → ℕ → NodeState → Progress → Progress → Visited → Type 0
Did P earlier rows best refused refused_now node before after (Closed back close) = ClosesNode P earlier rows best node before after back close
Did P earlier rows best refused refused_now node before after (Expanded back children base) = ExpandsNode P earlier best refused refused_now node before after back children base
Did P earlier rows best refused refused_now node before after (Back back) = ReturnsNode P node before after back

-- The visit loaded this best, which is at most all that the pass had seen or offered, and at least what it has then seen
pub record Visits (P : Project) (earlier : List (List Entry)) (rows : RowsState) (refused refused_now : ℕ) (node : NodeState) (before after : Progress) (answer : Visited) : Type 0 where
  pub best : ℕ
  pub seen : best ≤ before.pass.least_seen
  pub offered : best ≤ least before.pass.terms.start before.pass.offers
  pub least_seen : after.pass.least_seen ≤ best
  pub number : after.worker.number ≡ before.worker.number
  pub did : Did P earlier rows best refused refused_now node before after answer
