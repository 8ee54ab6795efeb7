-- What each call makes of the view of a pass.
use Rattle.std.specs.Prelude.{ℕ, ◌+◌, [], ◌∷◌, ◌++◌, min}
use Rattle.search_table.specs.declared.view.PassView.{PassView}
use Rattle.search_table.specs.declared.view.RoundTerms.{RoundTerms}
use Rattle.search_table.specs.Counts.{counts_of}

-- of the pass that comes with a new table: it has seen the start value, and has done nothing
abbrev pub first_view : RoundTerms → PassView
first_view terms = record {
  number = 0;
  terms = terms;
  least_seen = terms.start;
  offers = [];
  won = 0;
  refused = 0;
  own = 0;
  joined_counts = [];
  seen_counts = [];
  passes = 1;
  split_off = [];
}

-- after a load that found this best
abbrev pub with_best : ℕ → PassView → PassView
with_best best v = record v { least_seen = best }

-- after an offer of this end, where the best before was the second number
abbrev pub with_offer : ℕ → ℕ → PassView → PassView
with_offer end best v = record v { offers = end ∷ v.offers; least_seen = min best end }

-- after a draw that won
abbrev pub with_ticket : PassView → PassView
with_ticket v = record v { won = v.won + 1 }

-- after a draw that was refused
abbrev pub with_refusal : PassView → PassView
with_refusal v = record v { refused = v.refused + 1 }

-- after a publication
abbrev pub with_publication : PassView → PassView
with_publication v = record v { own = v.own + 1 }

-- after a load that found this published count of the worker
abbrev pub with_count : ℕ → ℕ → PassView → PassView
with_count worker count v = record v { seen_counts = record { worker = worker; count = count } ∷ v.seen_counts }

-- of the first pass, after the pass of this worker was split off
abbrev pub with_worker : ℕ → PassView → PassView
with_worker worker v = record v { split_off = v.split_off ++ worker ∷ [] }

-- of the pass of a worker that is split off: it has seen what the first has, and has done nothing
abbrev pub worker_view : ℕ → PassView → PassView
worker_view worker v = record {
  number = worker;
  terms = v.terms;
  least_seen = v.least_seen;
  offers = [];
  won = 0;
  refused = 0;
  own = 0;
  joined_counts = [];
  seen_counts = v.seen_counts;
  passes = 1;
  split_off = [];
}

-- of a pass into which another was joined: what either has seen and done
abbrev pub joint_view : PassView → PassView → PassView
joint_view v w = record v {
  least_seen = min v.least_seen w.least_seen;
  offers = v.offers ++ w.offers;
  won = v.won + w.won;
  refused = v.refused + w.refused;
  joined_counts = v.joined_counts ++ counts_of w;
  seen_counts = v.seen_counts ++ w.seen_counts;
  passes = v.passes + w.passes;
}

-- what stays of a pass that was joined into another
abbrev pub spent_view : PassView
spent_view = record {
  number = 0;
  terms = record { start = 0; quota = 0; workers = 0 };
  least_seen = 0;
  offers = [];
  won = 0;
  refused = 0;
  own = 0;
  joined_counts = [];
  seen_counts = [];
  passes = 0;
  split_off = [];
}
