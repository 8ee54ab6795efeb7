-- Each kind of step keeps the rule.
use Rattle.std.proofs.Common.{◌≡◌, ◌≢◌, ℕ, ◌+◌, ◌-◌, ◌*◌, ◌/◌, ◌%◌, ◌^◌, ◌<◌, ◌≤◌, List, get_or, set, min, refl, ap, ⊎_elim, subst, arith}
use mathlib.Core.Option.{none}
use mathlib.Core.Logic.{dite}
use native.Mathlib.Decide.{dec_le}
use Rattle.atomic_table.specs.Table.{step, keeps, stepped, Allows, Splits, Joins}
use Rattle.atomic_table.proofs.Lists.{at_set}
use Rattle.search_table.specs.declared.view.PassView.{PassView}
use Rattle.search_table.specs.declared.view.RoundTerms.{RoundTerms}
use Rattle.search_table.specs.declared.view.WorkerCount.{WorkerCount}
use Rattle.search_table.specs.Lists.{Lacks, least}
use Rattle.search_table.specs.Counts.{seen_of}
use Rattle.search_table.specs.Views.{with_best, with_offer, with_ticket, with_refusal, with_publication, with_count, with_worker, worker_view, joint_view, spent_view}
use Rattle.search_table.specs.Passes.{At, IsLive}
use Rattle.search_table.specs.Rule.{IsOfRound, KeepsRound}
use Rattle.search_table.specs.CountRule.{IsWorker}
use Rattle.search_table.specs.BetweenSteps.{count_in, HoldsBetweenSteps}
use Rattle.search_table.specs.Steps.{Mine, Loads, Offers, Draws, Publishes, LoadsCount, IsNoMore}
use Rattle.search_table.proofs.Totals.{EachView-set, EachView-snoc}
use Rattle.search_table.proofs.LeastOffers.{least_offer-at}
use Rattle.search_table.proofs.BestSteps.{IsBest-set, IsBest-offer, IsBest-snoc, IsBest-join}
use Rattle.search_table.proofs.TicketSteps.{AreDrawn-set, AreDrawn-ticket, AreDrawn-refusal, AreDrawn-snoc, AreDrawn-join, few_drawn, own_draws}
use Rattle.search_table.proofs.NumberSteps.{AreNumbered-set, AreNumbered-split, AreNumbered-join}
use Rattle.search_table.proofs.CountSteps.{KeepsCounts-quiet, KeepsCounts-publish, KeepsCounts-load, KeepsCounts-split, KeepsCounts-join}
use Rattle.search_table.proofs.Words.{best_becomes, tickets_become, count_becomes, count_here, count_else, count_again}

-- the best is at most all that a pass has seen or offered
no_more : (k : RoundTerms) (b t : ℕ) (vs : List PassView) (i : ℕ) (v : PassView) → KeepsRound k b t vs → At vs i v → IsLive v → IsNoMore b v
no_more k b t vs i v r at live =
    let m = least_offer-at k.start vs i v at in let l = r.best.least_of_all in
    let e : least v.terms.start v.offers ≡ least k.start v.offers = ap (λ (x : RoundTerms). least x.start v.offers) ((r.each i v at).terms_of live) in
    record { seen = r.best.seen i v at live; offered = omega arith }

pub loads : (k : RoundTerms) (slots id : ℕ) (me : Mine) → IsLive me.0 → Allows (HoldsBetweenSteps k) slots id me 0 (λ n. n) (Loads (step slots 0 0 0 none) me)
loads k slots id me live s h _ at _ =
    let b : ℕ = get_or s.words 0 0 in let v : PassView = me.0 in let w : PassView = with_best b v in let r = h.round in let f = r.each id v at in (
      w,
      keeps,
      tt,
      best_becomes k s b id me.1 w h.words record {
        limits = r.limits;
        best = IsBest-set k.start b s.views id v w r.best at refl (λ _. omega arith);
        tickets = AreDrawn-set k.quota _ s.views id v w r.tickets at refl refl refl;
        numbers = AreNumbered-set k.workers s.views id v w r.numbers at record { number = refl; passes = refl; split_off = refl };
        each = EachView-set (IsOfRound k) s.views id w r.each record { terms_of = f.terms_of; spent = f.spent };
      } (KeepsCounts-quiet k.workers (count_in s.words) s.views id v w h.counts at live record { number = refl; passes = refl; split_off = refl } refl refl),
      record { view = refl; no_more = no_more k b _ s.views id v r at live; slots = refl },
    )

pub offers : (k : RoundTerms) (slots id end : ℕ) (me : Mine) → IsLive me.0 → Allows (HoldsBetweenSteps k) slots id me 0 (λ n. min n end) (Offers (step slots 0 end 0 none) me)
offers k slots id end me live s h _ at _ =
    let b : ℕ = get_or s.words 0 0 in let v : PassView = me.0 in let w : PassView = with_offer end b v in let r = h.round in let f = r.each id v at in (
      w,
      keeps,
      tt,
      best_becomes k s (min b end) id me.1 w h.words record {
        limits = r.limits;
        best = IsBest-offer k.start b end s.views id v r.best at;
        tickets = AreDrawn-set k.quota _ s.views id v w r.tickets at refl refl refl;
        numbers = AreNumbered-set k.workers s.views id v w r.numbers at record { number = refl; passes = refl; split_off = refl };
        each = EachView-set (IsOfRound k) s.views id w r.each record { terms_of = f.terms_of; spent = λ none. absurd (omega arith) };
      } (KeepsCounts-quiet k.workers (count_in s.words) s.views id v w h.counts at live record { number = refl; passes = refl; split_off = refl } refl refl),
      record { view = refl; no_more = no_more k b _ s.views id v r at live; slots = refl },
    )

wins : (k : RoundTerms) (b t : ℕ) (vs : List PassView) (i : ℕ) (v : PassView) → KeepsRound k b t vs → At vs i v → IsLive v → t < k.quota → KeepsRound k b (t + 1) (set vs i (with_ticket v))
wins k b t vs i v r at live under = let w : PassView = with_ticket v in let f = r.each i v at in record {
  limits = r.limits;
  best = IsBest-set k.start b vs i v w r.best at refl (r.best.seen i v at);
  tickets = AreDrawn-ticket k.quota t vs i v r.tickets at under;
  numbers = AreNumbered-set k.workers vs i v w r.numbers at record { number = refl; passes = refl; split_off = refl };
  each = EachView-set (IsOfRound k) vs i w r.each record { terms_of = f.terms_of; spent = λ none. absurd (omega arith) };
}

is_refused : (k : RoundTerms) (b t : ℕ) (vs : List PassView) (i : ℕ) (v : PassView) → KeepsRound k b t vs → At vs i v → IsLive v → v.refused ≡ 0 → k.quota ≤ t
    → KeepsRound k b (t + 1) (set vs i (with_refusal v))
is_refused k b t vs i v r at live unrefused over = let w : PassView = with_refusal v in let f = r.each i v at in record {
  limits = r.limits;
  best = IsBest-set k.start b vs i v w r.best at refl (r.best.seen i v at);
  tickets = AreDrawn-refusal k.quota t vs i v r.tickets at live unrefused over;
  numbers = AreNumbered-set k.workers vs i v w r.numbers at record { number = refl; passes = refl; split_off = refl };
  each = EachView-set (IsOfRound k) vs i w r.each record { terms_of = f.terms_of; spent = f.spent };
}

pub draws : (k : RoundTerms) (slots id : ℕ) (me : Mine) → IsLive me.0 → me.0.refused ≡ 0 → Allows (HoldsBetweenSteps k) slots id me 8 (λ n. (n + 1) % 2 ^ 64) (Draws (step slots 8 1 0 none) me)
draws k slots id me live unrefused s h _ at _ =
    let t : ℕ = get_or s.words 8 0 in let b : ℕ = get_or s.words 0 0 in let v : PassView = me.0 in let r = h.round in
    let few = few_drawn k.quota k.workers t s.views r.tickets r.numbers.passes r.limits.0 r.limits.1 in let own = own_draws k.quota t s.views id v r.tickets at in
    let q : v.terms.quota ≡ k.quota = ap (λ (x : RoundTerms). x.quota) ((r.each id v at).terms_of live) in
    let next : t + 1 ≡ (t + 1) % 18446744073709551616 = omega arith in let own0 = own.0 in let own1 = own.1 in let own2 = own.2 in
    dite (dec_le k.quota t)
    (λ over. let w : PassView = with_refusal v in (
      w,
      keeps,
      tt,
      subst (λ (z : ℕ). HoldsBetweenSteps k (stepped s 8 z id me.1 w keeps)) next (tickets_become k s (t + 1) id me.1 w h.words (is_refused k b t s.views id v r at live unrefused over) (KeepsCounts-quiet k.workers (count_in s.words) s.views id v w h.counts at live record { number = refl; passes = refl; split_off = refl } refl refl)),
      record { ticket = λ less. absurd (omega arith); refusal = λ _. refl; own = own2; within = omega arith; slots = refl },
    ))
    (λ under. let w : PassView = with_ticket v in (
      w,
      keeps,
      tt,
      subst (λ (z : ℕ). HoldsBetweenSteps k (stepped s 8 z id me.1 w keeps)) next (tickets_become k s (t + 1) id me.1 w h.words (wins k b t s.views id v r at live (omega arith)) (KeepsCounts-quiet k.workers (count_in s.words) s.views id v w h.counts at live record { number = refl; passes = refl; split_off = refl } refl refl)),
      record { ticket = λ _. refl; refusal = λ more. absurd (omega arith); own = own2; within = omega arith; slots = refl },
    ))

-- a step on a published count leaves the best and the tickets
round_stays : (k : RoundTerms) (b t : ℕ) (vs : List PassView) (i own : ℕ) (seen_counts : List WorkerCount) (v : PassView) → KeepsRound k b t vs → At vs i v
    → KeepsRound k b t (set vs i (record v { own = own; seen_counts = seen_counts }))
round_stays k b t vs i own seen_counts v r at = let w : PassView = record v { own = own; seen_counts = seen_counts } in let f = r.each i v at in record {
  limits = r.limits;
  best = IsBest-set k.start b vs i v w r.best at refl (r.best.seen i v at);
  tickets = AreDrawn-set k.quota t vs i v w r.tickets at refl refl refl;
  numbers = AreNumbered-set k.workers vs i v w r.numbers at record { number = refl; passes = refl; split_off = refl };
  each = EachView-set (IsOfRound k) vs i w r.each record { terms_of = f.terms_of; spent = f.spent };
}

pub publishes : (k : RoundTerms) (slots id : ℕ) (me : Mine) → IsLive me.0 → 1 ≤ me.0.number → me.0.number ≤ me.0.terms.workers → me.0.own < 4294967295
    → Allows (HoldsBetweenSteps k) slots id me (8 + 8 * me.0.number) (λ n. (n + 1) % 2 ^ 64) (Publishes (step slots (8 + 8 * me.0.number) 1 0 none) me)
publishes k slots id me live low high room s h _ at _ =
    let v : PassView = me.0 in let q : ℕ = v.number in let n : ℕ = count_in s.words q in let r = h.round in let w : PassView = with_publication v in
    let ws : v.terms.workers ≡ k.workers = ap (λ (x : RoundTerms). x.workers) ((r.each id v at).terms_of live) in
    let is : IsWorker k.workers q = record { low = low; high = omega arith } in
    let new : List ℕ = set s.words (8 + 8 * q) (n + 1) in
    let c = KeepsCounts-publish k.workers (count_in s.words) (count_in new) s.views id v h.counts at live is (count_here k s.words q (n + 1) h.words is) (λ x ne. count_else s.words q (n + 1) x ne) in
    let own = c.1 in let next : n + 1 ≡ (n + 1) % 18446744073709551616 = omega arith in (
      w,
      keeps,
      tt,
      subst (λ (z : ℕ). HoldsBetweenSteps k (stepped s (8 + 8 * q) z id me.1 w keeps)) next
          (count_becomes k s (n + 1) id q me.1 w h.words low (round_stays k _ _ s.views id w.own w.seen_counts v r at) c.0),
      record { view = refl; own = own; slots = refl },
    )

pub loads_count : (k : RoundTerms) (slots id worker : ℕ) (me : Mine) → IsLive me.0 → 1 ≤ worker → worker ≤ me.0.terms.workers
    → Allows (HoldsBetweenSteps k) slots id me (8 + 8 * worker) (λ n. n) (LoadsCount (step slots (8 + 8 * worker) 0 0 none) me)
loads_count k slots id worker me live low high s h _ at _ =
    let v : PassView = me.0 in let n : ℕ = count_in s.words worker in let r = h.round in let w : PassView = with_count worker n v in
    let ws : v.terms.workers ≡ k.workers = ap (λ (x : RoundTerms). x.workers) ((r.each id v at).terms_of live) in
    let is : IsWorker k.workers worker = record { low = low; high = omega arith } in
    let c = KeepsCounts-load k.workers (count_in s.words) s.views id worker v h.counts at live is in let same : worker ≡ (8 + 8 * worker) / 8 - 1 = omega arith in (
      w,
      keeps,
      tt,
      count_becomes k s n id worker me.1 w h.words low (round_stays k _ _ s.views id w.own w.seen_counts v r at)
          (count_again k s.words worker (set s.views id w) h.words is c.0),
      record {
        view = ap (λ (x : ℕ). with_count x n v) same;
        no_less = subst (λ (x : ℕ). seen_of x v ≤ n) same c.1;
        slots = refl;
      },
    )

pub splits : (k : RoundTerms) (id worker : ℕ) (v : PassView) → IsLive v → v.number ≡ 0 → 1 ≤ worker → worker ≤ v.terms.workers → Lacks v.split_off worker
    → Splits (HoldsBetweenSteps k) id v (with_worker worker v) (worker_view worker v)
splits k id worker v live zeroth pos most out s h at =
    let vs : List PassView = s.views in let left : PassView = with_worker worker v in let right : PassView = worker_view worker v in let mid : List PassView = set vs id left in
    let r = h.round in let f = r.each id v at in let b : ℕ = get_or s.words 0 0 in let seen = r.best.seen id v at in
    let ws : v.terms.workers ≡ k.workers = ap (λ (x : RoundTerms). x.workers) (f.terms_of live) in record {
      words = h.words;
      round = record {
        limits = r.limits;
        best = IsBest-snoc k.start b mid right (IsBest-set k.start b vs id v left r.best at refl seen) refl (seen live);
        tickets = AreDrawn-snoc k.quota _ mid right (AreDrawn-set k.quota _ vs id v left r.tickets at refl refl refl) refl refl;
        numbers = AreNumbered-split k.workers worker vs id v r.numbers at live zeroth pos (omega arith) out;
        each = EachView-snoc (IsOfRound k) mid right (EachView-set (IsOfRound k) vs id left r.each record { terms_of = f.terms_of; spent = f.spent })
            record { terms_of = λ _. f.terms_of live; spent = λ none. absurd (omega arith) };
      };
      counts = KeepsCounts-split k.workers (count_in s.words) worker vs id v h.counts r.numbers at live zeroth pos out;
    }

pub joins : (k : RoundTerms) (id other : ℕ) (v w : PassView) → IsLive v → IsLive w → Joins (HoldsBetweenSteps k) id v other w (joint_view v w) spent_view
joins k id other v w live live' s h at apart there =
    let vs : List PassView = s.views in let both : PassView = joint_view v w in let mid : List PassView = set vs id both in
    let r = h.round in let f = r.each id v at in let b : ℕ = get_or s.words 0 0 in
    let was : At vs other w = ⊎_elim (λ (x : (other ≡ id) × (both ≡ w)). absurd (apart x.0)) (λ (x : (other ≢ id) × At vs other w). x.1) (at_set vs id other both w there) in record {
      words = h.words;
      round = record {
        limits = r.limits;
        best = IsBest-join k.start b vs id other v w r.best at was apart there live live';
        tickets = AreDrawn-join k.quota _ vs id other v w r.tickets at was there;
        numbers = AreNumbered-join k.workers vs id other v w r.numbers at there live;
        each = EachView-set (IsOfRound k) mid other spent_view (EachView-set (IsOfRound k) vs id both r.each record { terms_of = λ _. f.terms_of live; spent = λ none. absurd (omega arith) })
            record { terms_of = λ p. absurd (omega arith); spent = λ _. (refl, refl) };
      };
      counts = KeepsCounts-join k.workers (count_in s.words) vs id other v w h.counts at was there live live';
    }
