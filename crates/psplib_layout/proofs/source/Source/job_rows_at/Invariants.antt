use Rattle.std.proofs.Common.{◌≡◌, ◌-◌, ◌+◌}
use Rattle.psplib_layout.specs.Precedence.{job_rows}
use Rattle.psplib_layout.specs.Reading.{read_wanted}
use Rattle.psplib_layout.specs.Place.{rest_at}
use Rattle.psplib_layout.proofs.Loops.{with_front}
use Rattle.psplib_layout.proofs.source.Source.job_rows_at.Given as goal

abbrev pub invariant-loop-index : goal.invariant-loop-index
invariant-loop-index l =
    with_front l.rows.items (read_wanted l.self.end (job_rows (l.jobs - l.index) l.jobs (l.index + 1) l.room) (rest_at l.self.words l.at)) ≡ read_wanted l.self.end (job_rows l.jobs l.jobs 1 512) (rest_at l.self.words l.fn.at)
