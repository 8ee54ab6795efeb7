-- What loads of the best and of published counts leave of a pass.
use Rattle.std.proofs.Common.{◌≡◌, ℕ, ◌≤◌, refl, sym, ap, ◌∙◌, arith, List}
use Rattle.search_table.specs.declared.view.PassView.{PassView}
use Rattle.search_table.specs.declared.view.WorkerCount.{WorkerCount}
use Rattle.search_table.specs.Counts.{seen_of}
use Rattle.search_table.specs.Views.{with_best, with_count}
use Rattle.tree_worker.specs.Live.{Listens}

-- with other counts seen
abbrev pub with_counts : List WorkerCount → PassView → PassView
with_counts counts v = record v { seen_counts = counts }

pub listens_no_more : (v : PassView) → Listens v v
listens_no_more v = record { view = refl; later = λ worker. omega arith }

pub listens_count : (v w : PassView) (worker count : ℕ) → w ≡ with_count worker count v → Listens v w
listens_count v w worker count e = record {
  view = e ∙ ap (λ (c : List WorkerCount). with_counts c v) (sym (ap (λ (x : PassView). x.seen_counts) e));
  later = λ q. let s = ap (seen_of q) e in omega arith;
}

pub listens_on : (u v w : PassView) → Listens u v → Listens v w → Listens u w
listens_on u v w a b = record {
  view = b.view ∙ ap (with_counts w.seen_counts) a.view;
  later = λ q. let x = a.later q in let y = b.later q in omega arith;
}

-- the best was loaded, and then counts
pub record Loads (best : ℕ) (v w : PassView) : Type 0 where
  pub view : w ≡ record v { least_seen = best; seen_counts = w.seen_counts }
  pub later : (worker : ℕ) → seen_of worker v ≤ seen_of worker w

pub loads : (best : ℕ) (v u w : PassView) → u ≡ with_best best v → Listens u w → Loads best v w
loads best v u w e l = record {
  view = l.view ∙ ap (with_counts w.seen_counts) e;
  later = λ q. let s = ap (seen_of q) e in let x = l.later q in omega arith;
}
