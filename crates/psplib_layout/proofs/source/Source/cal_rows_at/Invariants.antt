use Rattle.std.proofs.Common.{◌≡◌, ◌-◌, ◌≤◌}
use Rattle.psplib_layout.specs.Calendar.{cal_rows, no_row}
use Rattle.psplib_layout.specs.Reading.{read_wanted}
use Rattle.psplib_layout.specs.Place.{rest_at}
use Rattle.psplib_layout.proofs.Loops.{with_front}
use Rattle.psplib_layout.proofs.source.Source.cal_rows_at.Given as goal

abbrev pub invariant-loop : goal.invariant-loop
invariant-loop l = record {
  resource : 1 ≤ l.before.resource;
  until : l.before.until ≤ 10000;
  so_far : with_front l.rows.items (read_wanted l.self.end (cal_rows (l.count - l.counter) l.capacities l.before) (rest_at l.self.words l.at)) ≡ read_wanted l.self.end (cal_rows l.count l.capacities no_row) (rest_at l.self.words l.fn.at);
}
