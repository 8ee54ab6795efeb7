-- Lines of a log as they are said: any number may stand there.
use Rattle.sched_base.specs.declared.fate.Fate.{Fate}
use Rattle.sched_base.specs.declared.fate.Fate.TheVariants as fates
use Rattle.proof_log.specs.declared.report.LogLine.{LogLine}
use Rattle.log_checker.specs.declared.said.SaidFate.{SaidFate}
use Rattle.log_checker.specs.declared.said.SaidFate.TheVariants.{Expanded, Leaf, TailBound, WorkBound, Budget, Capacity, Worse, Cutset, Left}
use Rattle.log_checker.specs.declared.said.SaidLine.{SaidLine}

abbrev pub fate_said : SaidFate → Fate
fate_said Expanded = fates.Expanded
fate_said Leaf = fates.Leaf
fate_said TailBound = fates.TailBound
fate_said (WorkBound k) = fates.WorkBound k
fate_said (Budget l) = fates.Budget l
fate_said (Capacity k) = fates.Capacity k
fate_said (Worse m) = fates.Worse m
fate_said (Cutset i) = fates.Cutset i
fate_said (Left b) = fates.Left b

abbrev pub line_said : SaidLine → LogLine
line_said line = record { job = line.job; mode = line.mode; start = line.start; fate = fate_said line.fate }
