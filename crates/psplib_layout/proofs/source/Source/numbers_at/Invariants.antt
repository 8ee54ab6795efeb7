use Rattle.std.proofs.Common.{◌≡◌, ◌-◌}
use Rattle.psplib_layout.specs.Reading.{read_wanted}
use Rattle.psplib_layout.specs.Place.{rest_at}
use Rattle.psplib_layout.specs.Wanted.{times}
use Rattle.psplib_layout.proofs.Loops.{with_front}
use Rattle.psplib_layout.proofs.source.Source.numbers_at.Given as goal

abbrev pub invariant-loop : goal.invariant-loop
invariant-loop l =
    with_front l.numbers.items (read_wanted l.self.end (times (l.count - l.counter) l.rule) (rest_at l.self.words l.at)) ≡ read_wanted l.self.end (times l.count l.rule) (rest_at l.self.words l.fn.at)
