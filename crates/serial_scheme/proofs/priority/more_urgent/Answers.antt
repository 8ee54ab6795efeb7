use Rattle.serial_scheme.proofs.JobSteps.{more_urgent-keeps, more_urgent-takes}
use Rattle.serial_scheme.proofs.priority.more_urgent.Goals as goal

pub returns-then-tail-longest : goal.returns-then-tail-longest
returns-then-tail-longest c =
    more_urgent-keeps c.args.project.now c.args.best c.in-Some.other c.args.job c.tail.result c.tail-longest.result c.in-Some.is c.tail.ensures.value c.tail-longest.ensures.value c.if-tail-longest.true

pub returns-else-tail-longest : goal.returns-else-tail-longest
returns-else-tail-longest c =
    more_urgent-takes c.args.project.now c.args.best c.in-Some.other c.args.job c.tail.result c.tail-longest.result c.in-Some.is c.tail.ensures.value c.tail-longest.ensures.value c.if-tail-longest.false
