-- Why a report is refused.
use Rattle.std.specs.Prelude.{ℕ}
use Rattle.log_truth.specs.Refusal.{Fault, wrong_child, wrong_fate, too_many, surplus, missing, bad_citation, bad_lower}
use Rattle.log_checker.specs.declared.reason.Reason.{Reason}
use Rattle.log_checker.specs.declared.reason.Reason.TheVariants.{BadLine, WrongChild, WrongFate, BadSchedule, BadVerdict, BadCitation, TextEnds, LinesLeft, TooManyExpanded}

-- the numbers that stand for the reasons
abbrev pub number_of : Reason → ℕ
number_of BadLine = 1
number_of WrongChild = 2
number_of WrongFate = 3
number_of BadSchedule = 4
number_of BadVerdict = 5
number_of BadCitation = 6
number_of TextEnds = 7
number_of LinesLeft = 8
number_of TooManyExpanded = 9

-- the reason for a fault of the log
abbrev pub reason_of : Fault → Reason
reason_of wrong_child = WrongChild
reason_of wrong_fate = WrongFate
reason_of too_many = TooManyExpanded
reason_of surplus = LinesLeft
reason_of missing = TextEnds
reason_of bad_citation = BadCitation
reason_of bad_lower = BadVerdict
