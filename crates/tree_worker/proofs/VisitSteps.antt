-- What each way through a visit comes to.
use Rattle.std.proofs.Common.{◌≡◌, ℕ, ◌+◌, ◌-◌, ◌^◌, ◌<◌, ◌≤◌, min, refl, sym, ap, subst, ◌∙◌, arith, Bool, true, false, Option, List, [], ◌∷◌, ◌++◌, length}
use Rattle.std.specs.Prelude.{All}
use Rattle.std.proofs.lemmas.List.Elements.{All-push, All-weaker, All-same}
use Rattle.rcpsp_model.specs.declared.parts.Child.{Child}
use Rattle.rcpsp_model.specs.declared.parts.Entry.{Entry}
use Rattle.rcpsp_model.specs.declared.parts.Placing.{Placing}
use Rattle.rcpsp_model.specs.Project.{Project}
use Rattle.rcpsp_model.specs.Schedule.{end_of}
use Rattle.rcpsp_model.specs.Tree.{IsLeaf, AreChildren}
use Rattle.precedence_tree.specs.declared.base.Base.{Base}
use Rattle.precedence_tree.specs.Node.{NodeState}
use Rattle.precedence_tree.specs.Children.{child_fronts, StandsWherePlaced}
use Rattle.cutset_store.specs.Index.{fronts_of}
use Rattle.search_table.specs.declared.view.PassView.{PassView}
use Rattle.search_table.specs.Counts.{seen_of}
use Rattle.search_table.specs.Lists.{least}
use Rattle.search_table.specs.Views.{with_best, with_ticket}
use Rattle.shared_rows.specs.Rows.{RowsState}
use Rattle.tree_worker.specs.declared.answer.Cite.{Cite}
use Rattle.tree_worker.specs.declared.answer.Cite.TheVariants.{Earlier, Own, Live}
use Rattle.tree_worker.specs.declared.answer.Visited.TheVariants.{Expanded}
use Rattle.tree_worker.specs.Live.{Listens, CitesOther, IsLiveNote, IsLiveRecord}
use Rattle.tree_worker.specs.Worker.{WorkerState, Progress, HasPlan, IsAtWork}
use Rattle.tree_worker.specs.Reasons.{IsOpen}
use Rattle.tree_worker.specs.Offers.{OffersLeaf}
use Rattle.tree_worker.specs.Publishes.{Expands}
use Rattle.tree_worker.specs.Visits.{SharesOne, Visits}
use Rattle.tree_worker.proofs.PassSteps.{Loads, loads}
use Rattle.tree_worker.proofs.WorkSteps.{GoesOn, goes_on-loaded, notes-later, plan-offered, at_work-kept, at_work-expanded}

abbrev pub at : WorkerState → PassView → Progress
at worker pass = record { worker = worker; pass = pass }

-- The best was loaded.
pub record LoadsBest (best : ℕ) (v u : PassView) : Type 0 where
  pub view : u ≡ with_best best v
  pub seen : best ≤ v.least_seen
  pub offered : best ≤ least v.terms.start v.offers

pub loaded-on : (best : ℕ) (v u w : PassView) → LoadsBest best v u → Listens u w → Loads best v w
loaded-on best v u w l h = loads best v u w l.view h

-- A leaf.

offers-from : (P : Project) (F : List Entry) (best : ℕ) (v u w : PassView) (plan now : Option (List Placing)) → LoadsBest best v u → OffersLeaf P F best u w plan now → OffersLeaf P F best v w plan now
offers-from P F best v u w plan now l o = record {
  less = λ h. let n = o.less h in record {
    offers = n.offers ∙ ap (λ (x : PassView). end_of P F ∷ x.offers) l.view;
    schedule = n.schedule;
    plan_is = n.plan_is;
    is_its = n.is_its;
    first = λ leaves none. n.first leaves (All-weaker (λ G. v.least_seen ≤ end_of P G) (λ G. u.least_seen ≤ end_of P G) (λ G h. let s = ap (λ (x : PassView). x.least_seen) l.view in let low = l.seen in omega arith) leaves none);
  };
  no_less = λ h. let n = o.no_less h in record { offers = n.offers ∙ ap (λ (x : PassView). x.offers) l.view; plan_kept = n.plan_kept };
  seen = o.seen;
}

pub work-leaf : (P : Project) (rows : RowsState) (F : List Entry) (old new : WorkerState) (v u w : PassView) (best : ℕ) → IsAtWork P rows (at old v) → LoadsBest best v u →
    OffersLeaf P F best u w old.plan new.plan → w ≡ record u { offers = w.offers; least_seen = w.least_seen } → new ≡ record old { plan = new.plan } → IsAtWork P rows (at new w)
work-leaf P rows F old new v u w best a l o e worker =
    let g : GoesOn v w = record {
      number = ap (λ (x : PassView). x.number) e ∙ ap (λ (x : PassView). x.number) l.view;
      terms = ap (λ (x : PassView). x.terms) e ∙ ap (λ (x : PassView). x.terms) l.view;
      later = λ q. let s = ap (seen_of q) e in let t = ap (seen_of q) l.view in omega arith;
    } in
    subst (λ (x : WorkerState). IsAtWork P rows (at x w)) (sym worker)
    (at_work-kept P rows (at old v) w new.plan old.live old.heard a g (ap (λ (x : PassView). x.won) e ∙ ap (λ (x : PassView). x.won) l.view) (ap (λ (x : PassView). x.own) e ∙ ap (λ (x : PassView). x.own) l.view)
    (plan-offered P F best v w old.plan new.plan l.offered a.plan (offers-from P F best v u w old.plan new.plan l o)) (notes-later rows v w old.live g a.live) a.heard)

least-loaded : (best : ℕ) (v w : PassView) → Loads best v w → w.least_seen ≤ best
least-loaded best v w l = let s = ap (λ (x : PassView). x.least_seen) l.view in omega arith

-- Other workers were heard.

pub work-heard : (P : Project) (rows : RowsState) (old new : WorkerState) (v u w : PassView) (best : ℕ) → IsAtWork P rows (at old v) → LoadsBest best v u → Listens u w →
    new ≡ record old { live = new.live; heard = new.heard } → All (IsLiveRecord P rows u.number) new.heard → All (IsLiveNote rows w) new.live → IsAtWork P rows (at new w)
work-heard P rows old new v u w best a l h worker heard live =
    let loaded = loaded-on best v u w l h in
    let g = goes_on-loaded best v w loaded in
    subst (λ (x : WorkerState). IsAtWork P rows (at x w)) (sym worker)
    (at_work-kept P rows (at old v) w old.plan new.live new.heard a g (ap (λ (x : PassView). x.won) loaded.view) (ap (λ (x : PassView). x.own) loaded.view)
    (subst (λ os. HasPlan P os old.plan) (sym (ap (λ (x : PassView). x.offers) loaded.view)) a.plan) live
    (subst (λ (k : ℕ). All (IsLiveRecord P rows k) new.heard) (ap (λ (x : PassView). x.number) l.view) heard))

-- the live notes where none was cited
pub live-same : (P : Project) (rows : RowsState) (old new : WorkerState) (v u w : PassView) (best : ℕ) → IsAtWork P rows (at old v) → LoadsBest best v u → Listens u w → new.live ≡ old.live → All (IsLiveNote rows w) new.live
live-same P rows old new v u w best a l h same =
    All-same (IsLiveNote rows w) new.live old.live same (notes-later rows v w old.live (goes_on-loaded best v w (loaded-on best v u w l h)) a.live)

pub live-cited : (P : Project) (rows : RowsState) (F : List Entry) (old new : WorkerState) (v u w : PassView) (best : ℕ) (cite : Cite) → IsAtWork P rows (at old v) → LoadsBest best v u → Listens u w →
    CitesOther P rows w F old.live new.live cite → All (IsLiveNote rows w) new.live
live-cited P rows F old new v u w best (Earlier i) a l h c = absurd c
live-cited P rows F old new v u w best (Own i) a l h c = absurd c
live-cited P rows F old new v u w best (Live q place) a l h c =
    All-same (IsLiveNote rows w) new.live (old.live ++ c.cited ∷ []) c.kept
    (All-push (IsLiveNote rows w) old.live c.cited (notes-later rows v w old.live (goes_on-loaded best v w (loaded-on best v u w l h)) a.live) c.is.is)

-- There was a ticket.

-- with it the worker has expanded less than a row has cells
pub few-expanded : (P : Project) (rows : RowsState) (old mid : WorkerState) (v u w t : PassView) (best : ℕ) → IsAtWork P rows (at old v) → LoadsBest best v u → Listens u w → mid ≡ record old { live = mid.live; heard = mid.heard } →
    t ≡ with_ticket w → t.won ≤ t.terms.quota → length mid.expanded < rows.cells
few-expanded P rows old mid v u w t best a l h worker ticket within =
    let loaded = loaded-on best v u w l h in
    let size : length mid.expanded ≡ length old.expanded = ap (λ (y : WorkerState). length y.expanded) worker in
    let won : t.won ≡ v.won + 1 = ap (λ (y : PassView). y.won) ticket ∙ ap (λ (y : PassView). y.won + 1) loaded.view in
    let quota : t.terms.quota ≡ v.terms.quota = ap (λ (y : PassView). y.terms.quota) ticket ∙ ap (λ (y : PassView). y.terms.quota) loaded.view in
    let tickets = a.tickets in let room = a.room in omega arith

-- a count that rose from a later number on has risen from an earlier one on
rose-before : (most before refused now : ℕ) → before ≤ refused → min (refused + 1) most ≤ now → min (before + 1) most ≤ now
rose-before most before refused now low rose = omega arith

shares-one : (P : Project) (rows : RowsState) (F : List Entry) (base : Base) (before refused refused_now : ℕ) (old mid new : WorkerState) (v t x : PassView) → before ≤ refused → t.own ≡ v.own → mid.stopped ≡ old.stopped →
    Expands P rows F base refused refused_now t x mid new → SharesOne before refused_now (at old v) (at new x)
shares-one P rows F base before refused refused_now old mid new v t x low own stopped e = record {
  going = λ h. let p = e.publishes.going h in ap (λ (y : PassView). y.own) p.view ∙ ap (λ (n : ℕ). n + 1) own;
  ended = λ h. let p = e.publishes.ended h in ap (λ (y : PassView). y.own) p.view ∙ own;
  stays = λ h. e.publishes.stays (stopped ∙ h);
  cause = λ h k. rose-before (2 ^ 64 - 1) before refused refused_now low (e.publishes.cause (stopped ∙ h) k);
}

-- of what is published, only the own count changes
pub published-view : (P : Project) (rows : RowsState) (F : List Entry) (base : Base) (refused refused_now : ℕ) (mid new : WorkerState) (t x : PassView) → Expands P rows F base refused refused_now t x mid new → x ≡ record t { own = x.own }
published-view P rows F base refused refused_now mid new t x e = by_stop new.stopped refl
  where
    by_stop : (b : Bool) → new.stopped ≡ b → x ≡ record t { own = x.own }
    by_stop true is = let p = e.publishes.ended is in p.view ∙ ap (λ (k : ℕ). record t { own = k }) (sym (ap (λ (y : PassView). y.own) p.view))
    by_stop false is = let p = e.publishes.going is in p.view ∙ ap (λ (k : ℕ). record t { own = k }) (sym (ap (λ (y : PassView). y.own) p.view))

pub visits-expanded : (P : Project) (earlier : List (List Entry)) (rows : RowsState) (before refused refused_now : ℕ) (node : NodeState) (children : List (Child NodeState)) (base : Base) (old mid new : WorkerState) (v u w t x : PassView) (best : ℕ) →
    before ≤ refused → LoadsBest best v u → Listens u w → (IsLeaf P node.front → ⊥) → IsOpen P earlier (fronts_of old.expanded) best node.front → mid ≡ record old { live = mid.live; heard = mid.heard } → mid.live ≡ old.live → t ≡ with_ticket w →
    AreChildren P node.front (child_fronts children) → All (StandsWherePlaced P) children → Expands P rows node.front base refused refused_now t x mid new →
    Visits P earlier rows before refused_now node (at old v) (at new x) (Expanded node children base)
visits-expanded P earlier rows before refused refused_now node children base old mid new v u w t x best low l h inner known worker live ticket are stand e =
    let loaded = loaded-on best v u w l h in
    let after = published-view P rows node.front base refused refused_now mid new t x e in
    let first : old.expanded ≡ mid.expanded = sym (ap (λ (y : WorkerState). y.expanded) worker) in
    record {
      best = best;
      seen = l.seen;
      offered = l.offered;
      least_seen = let s = ap (λ (y : PassView). y.least_seen) after in let k = ap (λ (y : PassView). y.least_seen) ticket in let m = least-loaded best v w loaded in omega arith;
      number = ap (λ (y : WorkerState). y.number) e.worker ∙ ap (λ (y : WorkerState). y.number) worker;
      did = record {
        same = refl;
        inner = inner;
        unclosed = known;
        are_children = are;
        stand = stand;
        won = ap (λ (y : PassView). y.won) after ∙ (ap (λ (y : PassView). y.won) ticket ∙ ap (λ (y : PassView). y.won + 1) loaded.view);
        unrefused = ap (λ (y : PassView). y.refused) after ∙ (ap (λ (y : PassView). y.refused) ticket ∙ ap (λ (y : PassView). y.refused) loaded.view);
        front = e.front;
        known = e.is;
        kept = e.kept ∙ ap (λ es. es ++ base ∷ []) (sym first);
        shares = shares-one P rows node.front base before refused refused_now old mid new v t x low (ap (λ (y : PassView). y.own) ticket ∙ ap (λ (y : PassView). y.own) loaded.view) (ap (λ (y : WorkerState). y.stopped) worker) e;
        offers = record {
          offers = ap (λ (y : PassView). y.offers) after ∙ (ap (λ (y : PassView). y.offers) ticket ∙ ap (λ (y : PassView). y.offers) loaded.view);
          plan_kept = ap (λ (y : WorkerState). y.plan) e.worker ∙ ap (λ (y : WorkerState). y.plan) worker;
        };
        live = ap (λ (y : WorkerState). y.live) e.worker ∙ live;
      };
    }

pub work-expanded : (P : Project) (rows : RowsState) (F : List Entry) (base : Base) (refused refused_now : ℕ) (mid new : WorkerState) (w t x : PassView) → IsAtWork P rows (at mid w) → t ≡ with_ticket w → Expands P rows F base refused refused_now t x mid new →
    IsAtWork P rows (at new x)
work-expanded P rows F base refused refused_now mid new w t x a ticket e =
    at_work-expanded P rows F base refused refused_now w x mid new a (subst (λ (y : PassView). Expands P rows F base refused refused_now y x mid new) ticket e)
