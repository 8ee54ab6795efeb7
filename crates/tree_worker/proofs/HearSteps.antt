-- While a worker looks at the rows of others.
use Rattle.std.proofs.Common.{◌≡◌, ◌≢◌, ℕ, ◌<◌, ◌≤◌, sym, ap, subst, ◌∙◌, arith, List}
use Rattle.std.specs.Prelude.{All, Option, is_some}
use Rattle.once_cell.specs.declared.race.note.Note.{Note}
use Rattle.atomic_table.specs.Seated.{TableId}
use Rattle.rcpsp_model.specs.Project.{Project}
use Rattle.precedence_tree.specs.declared.base.Base.{Base}
use Rattle.search_table.specs.declared.view.PassView.{PassView}
use Rattle.search_table.specs.PassState.{PassState}
use Rattle.shared_rows.specs.Looked.{IsFound}
use Rattle.shared_rows.specs.Rows.{RowsState}
use Rattle.tree_worker.specs.declared.live.LiveRecord.{LiveRecord}
use Rattle.tree_worker.specs.Live.{IsOfOther, IsLiveRecord, StayLive, Listens}
use Rattle.tree_worker.proofs.PassSteps.{listens_no_more, listens_on}

-- from the start on, the pass has only loaded counts
pub record HearsOn (table : TableId) (start pass : PassState) (refused refused_now empty empty_now : ℕ) : Type 0 where
  pub same_table : pass.table ≡ table
  pub listens : Listens start.view pass.view
  pub refused_later : refused ≤ refused_now
  pub empty_later : empty ≤ empty_now

-- and the live records are still such: those of the project, or of any project
pub record HearsOf (P : Project) (rows : RowsState) (table : TableId) (start pass : PassState) (records : List LiveRecord) (refused refused_now empty empty_now : ℕ) : Type 0 where
  pub hears : HearsOn table start pass refused refused_now empty empty_now
  pub still : All (IsLiveRecord P rows start.view.number) records

pub record HearsAny (rows : RowsState) (table : TableId) (start pass : PassState) (old new : List LiveRecord) (refused refused_now empty empty_now : ℕ) : Type 0 where
  pub hears : HearsOn table start pass refused refused_now empty empty_now
  pub stay : StayLive rows start.view.number old new

pub hears-none : (table : TableId) (start : PassState) (refused empty : ℕ) → start.table ≡ table → HearsOn table start start refused refused empty empty
hears-none table start refused empty same = record {
  same_table = same;
  listens = listens_no_more start.view;
  refused_later = omega arith;
  empty_later = omega arith;
}

pub number-same : (v w : PassView) → Listens v w → w.number ≡ v.number
number-same v w l = ap (λ (x : PassView). x.number) l.view

pub hears-more : (table : TableId) (start mid pass : PassState) (refused refused_then refused_now empty empty_then empty_now : ℕ) → HearsOn table start mid refused refused_then empty empty_then →
    pass.table ≡ mid.table → Listens mid.view pass.view → refused_then ≤ refused_now → empty_then ≤ empty_now → HearsOn table start pass refused refused_now empty empty_now
hears-more table start mid pass refused refused_then refused_now empty empty_then empty_now h same l r e = record {
  same_table = same ∙ h.same_table;
  listens = listens_on start.view mid.view pass.view h.listens l;
  refused_later = let x = h.refused_later in omega arith;
  empty_later = let x = h.empty_later in omega arith;
}

-- live records that stay such for the pass as it is
pub stay-on : (rows : RowsState) (v w : PassView) (old then new : List LiveRecord) → Listens v w → StayLive rows v.number old then → StayLive rows w.number then new → StayLive rows v.number old new
stay-on rows v w old then new l a b P all =
    subst (λ (k : ℕ). All (IsLiveRecord P rows k) new) (number-same v w l) (b P (subst (λ (k : ℕ). All (IsLiveRecord P rows k) then) (sym (number-same v w l)) (a P all)))

-- what is read as found in the row of another worker
pub found-other : (rows : RowsState) (number worker place count : ℕ) (value : Base) (note : Note Base) → worker ≢ number → 1 ≤ worker → worker ≤ rows.workers → place < rows.cells → IsFound rows worker place count value note →
    IsOfOther rows number worker place note
found-other rows number worker place count value note other low high within found = record {
  other = other;
  low = low;
  high = high;
  within = within;
  cell = found.cell;
  known = ap (λ (k : Option Base). is_some k) found.known;
}
