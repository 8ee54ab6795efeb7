-- A worker stays at work.
use Rattle.std.proofs.Common.{◌≡◌, ℕ, ◌+◌, ◌<◌, ◌≤◌, refl, sym, ap, subst, ◌∙◌, arith, inl, inr, Bool, true, false, Option, List, [], ◌∷◌, ◌++◌, length, length-append}
use Rattle.std.specs.Prelude.{All}
use Rattle.std.proofs.lemmas.Bool.{cases_lt}
use Rattle.std.proofs.lemmas.List.Elements.{All-push, All-weaker, All-same, All-nil}
use Rattle.rcpsp_model.specs.declared.parts.Entry.{Entry}
use Rattle.rcpsp_model.specs.declared.parts.Placing.{Placing}
use Rattle.rcpsp_model.specs.Project.{Project}
use Rattle.rcpsp_model.specs.Schedule.{end_of}
use Rattle.rcpsp_model.specs.Claim.{EndsAt}
use Rattle.precedence_tree.specs.declared.base.Base.{Base}
use Rattle.precedence_tree.specs.Base.{IsBaseOf}
use Rattle.search_table.specs.declared.view.PassView.{PassView}
use Rattle.search_table.specs.declared.view.RoundTerms.{RoundTerms}
use Rattle.search_table.specs.Counts.{seen_of}
use Rattle.search_table.specs.Lists.{least}
use Rattle.search_table.specs.Views.{with_ticket, worker_view}
use Rattle.once_cell.specs.declared.race.note.Note.{Note}
use Rattle.shared_rows.specs.Rows.{RowsState, IsNoteOf}
use Rattle.tree_worker.specs.declared.live.LiveNote.{LiveNote}
use Rattle.tree_worker.specs.declared.live.LiveRecord.{LiveRecord}
use Rattle.tree_worker.specs.Live.{IsOfOther, IsLiveNote, IsLiveRecord}
use Rattle.tree_worker.specs.Worker.{WorkerState, Progress, HasPlan, AreOwnNotes, IsAtWork, IsReadyFor, new_worker}
use Rattle.tree_worker.specs.Offers.{OffersNothing, Offers, OffersLeaf}
use Rattle.tree_worker.specs.Publishes.{IsPublished, IsUnpublished, Expands}
use Rattle.tree_worker.proofs.PassSteps.{Loads}
use Rattle.tree_worker.proofs.NoteSteps.{notes-kept, notes-more}
use Rattle.tree_worker.proofs.OfferSteps.{least-new}

-- what being at work asks of a pass beside what it offered, and that no count seen fell
pub record GoesOn (v w : PassView) : Type 0 where
  pub number : w.number ≡ v.number
  pub terms : w.terms ≡ v.terms
  pub later : (worker : ℕ) → seen_of worker v ≤ seen_of worker w

pub goes_on-loaded : (best : ℕ) (v w : PassView) → Loads best v w → GoesOn v w
goes_on-loaded best v w l = record { number = ap (λ (x : PassView). x.number) l.view; terms = ap (λ (x : PassView). x.terms) l.view; later = l.later }

-- live notes stay live notes
pub notes-later : (rows : RowsState) (v w : PassView) (live : List LiveNote) → GoesOn v w → All (IsLiveNote rows v) live → All (IsLiveNote rows w) live
notes-later rows v w live g all = All-weaker (IsLiveNote rows v) (IsLiveNote rows w) one live all
  where
    one : (n : LiveNote) → IsLiveNote rows v n → IsLiveNote rows w n
    one n is = record {
      of_other = subst (λ (k : ℕ). IsOfOther rows k n.worker n.place n.note) (sym g.number) is.of_other;
      published = let l = g.later n.worker in let p = is.published in omega arith;
    }

pub heard-later : (P : Project) (rows : RowsState) (v w : PassView) (heard : List LiveRecord) → GoesOn v w → All (IsLiveRecord P rows v.number) heard → All (IsLiveRecord P rows w.number) heard
heard-later P rows v w heard g all = subst (λ (k : ℕ). All (IsLiveRecord P rows k) heard) (sym g.number) all

-- the plan after a leaf
pub plan-offered : (P : Project) (F : List Entry) (best : ℕ) (v w : PassView) (plan now : Option (List Placing)) → best ≤ least v.terms.start v.offers → HasPlan P v.offers plan →
    OffersLeaf P F best v w plan now → HasPlan P w.offers now
plan-offered P F best v w plan now low has o = elim (cases_lt (end_of P F) best) [
  | inl less ↦ new (o.less less) less
  | inr no_less ↦ old (o.no_less no_less)
]
  where
    old : OffersNothing v w plan now → HasPlan P w.offers now
    old n = subst (λ (ends : List ℕ). HasPlan P ends now) (sym n.offers) (subst (HasPlan P v.offers) (sym n.plan_kept) has)

    new : Offers P F v w now → end_of P F < best → HasPlan P w.offers now
    new n less =
        let least_is : least (end_of P F) v.offers ≡ end_of P F = least-new v.terms.start (end_of P F) v.offers (omega arith) in
        let ends : EndsAt P (least (end_of P F) v.offers) n.schedule = subst (λ (e : ℕ). EndsAt P e n.schedule) (sym least_is) n.is_its.ends in
        subst (λ (os : List ℕ). HasPlan P os now) (sym n.offers) (subst (HasPlan P (end_of P F ∷ v.offers)) (sym n.plan_is) ends)

-- nothing was expanded
pub at_work-kept : (P : Project) (rows : RowsState) (at : Progress) (w : PassView) (plan : Option (List Placing)) (live : List LiveNote) (heard : List LiveRecord) → IsAtWork P rows at → GoesOn at.pass w →
    w.won ≡ at.pass.won → w.own ≡ at.pass.own → HasPlan P w.offers plan → All (IsLiveNote rows w) live → All (IsLiveRecord P rows at.pass.number) heard →
    IsAtWork P rows (record { worker = record at.worker { plan = plan; live = live; heard = heard }; pass = w })
at_work-kept P rows at w plan live heard a g won own has notes all = record {
  number = g.number ∙ a.number;
  some = let n = g.number in let s = a.some in omega arith;
  workers = ap (λ (t : RoundTerms). t.workers) g.terms ∙ a.workers;
  room = let q = ap (λ (t : RoundTerms). t.quota) g.terms in let r = a.room in omega arith;
  expanded = a.expanded;
  tickets = let t = a.tickets in omega arith;
  published = own ∙ a.published;
  within = a.within;
  going = a.going;
  notes = subst (λ (k : ℕ). AreOwnNotes rows k at.worker.expanded at.worker.notes) (sym g.number) a.notes;
  live = notes;
  plan = has;
  heard = heard-later P rows at.pass w heard g all;
}

-- a record was expanded with a ticket
pub at_work-expanded : (P : Project) (rows : RowsState) (F : List Entry) (base : Base) (refused refused_now : ℕ) (v w : PassView) (old new : WorkerState) → IsAtWork P rows (record { worker = old; pass = v }) →
    Expands P rows F base refused refused_now (with_ticket v) w old new → IsAtWork P rows (record { worker = new; pass = w })
at_work-expanded P rows F base refused refused_now v w old new a x =
    subst (λ (worker : WorkerState). IsAtWork P rows (record { worker = worker; pass = w })) (sym x.worker) (by_stop new.stopped refl)
  where
    grown : WorkerState
    grown = record old { expanded = new.expanded; notes = new.notes; stopped = new.stopped }

    size : length new.expanded ≡ length old.expanded + 1
    size = ap (λ (xs : List Base). length xs) x.kept ∙ length-append old.expanded (base ∷ [])

    bases : All (IsBaseOf P) new.expanded
    bases = All-same (IsBaseOf P) new.expanded (old.expanded ++ base ∷ []) x.kept (All-push (IsBaseOf P) old.expanded base a.expanded x.is)

    going-before : new.stopped ≡ false → (b : Bool) → old.stopped ≡ b → old.stopped ≡ false
    going-before is true was = absurd (let s = x.publishes.stays was in cc)
    going-before is false was = was

    published : new.stopped ≡ false → IsPublished rows base (with_ticket v) w old.notes new.notes → IsAtWork P rows (record { worker = grown; pass = w })
    published is p =
        let g : GoesOn v w = record { number = ap (λ (y : PassView). y.number) p.view; terms = ap (λ (y : PassView). y.terms) p.view; later = λ q. let s = ap (seen_of q) p.view in omega arith } in
        let all : length old.notes ≡ length old.expanded = a.going (going-before is old.stopped refl) in
        let more : length new.notes ≡ length old.notes + 1 = ap (λ (ns : List (Note Base)). length ns) p.kept ∙ length-append old.notes (p.note ∷ []) in
        let own : w.own ≡ v.own + 1 = ap (λ (y : PassView). y.own) p.view in
        let won : w.won ≡ v.won + 1 = ap (λ (y : PassView). y.won) p.view in
        record {
          number = g.number ∙ a.number;
          some = let n = g.number in let s = a.some in omega arith;
          workers = ap (λ (t : RoundTerms). t.workers) g.terms ∙ a.workers;
          room = let q = ap (λ (t : RoundTerms). t.quota) g.terms in let r = a.room in omega arith;
          expanded = bases;
          tickets = let t = a.tickets in let s = size in omega arith;
          published = let t = a.published in omega arith;
          within = let s = size in omega arith;
          going = λ h. let s = size in omega arith;
          notes = subst (λ (k : ℕ). AreOwnNotes rows k new.expanded new.notes) (sym g.number)
              (subst (λ es. AreOwnNotes rows v.number es new.notes) (sym x.kept)
              (subst (AreOwnNotes rows v.number (old.expanded ++ base ∷ [])) (sym p.kept)
              (notes-more rows v.number old.expanded old.notes base p.note all (subst (λ (k : ℕ). IsNoteOf rows v.number k p.note) a.published p.cell) p.known a.notes)));
          live = notes-later rows v w old.live g a.live;
          plan = subst (λ (ends : List ℕ). HasPlan P ends old.plan) (sym (ap (λ (y : PassView). y.offers) p.view)) a.plan;
          heard = heard-later P rows v w old.heard g a.heard;
        }

    unpublished : new.stopped ≡ true → IsUnpublished (with_ticket v) w old.notes new.notes → IsAtWork P rows (record { worker = grown; pass = w })
    unpublished is p =
        let g : GoesOn v w = record { number = ap (λ (y : PassView). y.number) p.view; terms = ap (λ (y : PassView). y.terms) p.view; later = λ q. let s = ap (seen_of q) p.view in omega arith } in
        let same : length new.notes ≡ length old.notes = ap (λ (ns : List (Note Base)). length ns) p.kept in
        let own : w.own ≡ v.own = ap (λ (y : PassView). y.own) p.view in
        let won : w.won ≡ v.won + 1 = ap (λ (y : PassView). y.won) p.view in
        record {
          number = g.number ∙ a.number;
          some = let n = g.number in let s = a.some in omega arith;
          workers = ap (λ (t : RoundTerms). t.workers) g.terms ∙ a.workers;
          room = let q = ap (λ (t : RoundTerms). t.quota) g.terms in let r = a.room in omega arith;
          expanded = bases;
          tickets = let t = a.tickets in let s = size in omega arith;
          published = let t = a.published in omega arith;
          within = let t = a.within in let s = size in omega arith;
          going = λ h. absurd cc;
          notes = subst (λ (k : ℕ). AreOwnNotes rows k new.expanded new.notes) (sym g.number)
              (subst (λ es. AreOwnNotes rows v.number es new.notes) (sym x.kept)
              (subst (AreOwnNotes rows v.number (old.expanded ++ base ∷ [])) (sym p.kept)
              (notes-kept rows v.number old.expanded old.notes base a.within a.notes)));
          live = notes-later rows v w old.live g a.live;
          plan = subst (λ (ends : List ℕ). HasPlan P ends old.plan) (sym (ap (λ (y : PassView). y.offers) p.view)) a.plan;
          heard = heard-later P rows v w old.heard g a.heard;
        }

    by_stop : (b : Bool) → new.stopped ≡ b → IsAtWork P rows (record { worker = grown; pass = w })
    by_stop true is = unpublished is (x.publishes.ended is)
    by_stop false is = published is (x.publishes.going is)

-- a new worker
pub at_work-new : (P : Project) (rows : RowsState) (number : ℕ) (v : PassView) → IsReadyFor rows number v → IsAtWork P rows (record { worker = new_worker number; pass = worker_view number v })
at_work-new P rows number v r = record {
  number = refl;
  some = r.some;
  workers = r.workers;
  room = r.room;
  expanded = All-nil (IsBaseOf P);
  tickets = omega arith;
  published = refl;
  within = omega arith;
  going = λ h. refl;
  notes = λ i note e. absurd cc;
  live = All-nil (IsLiveNote rows (worker_view number v));
  plan = tt;
  heard = All-nil (IsLiveRecord P rows number);
}
