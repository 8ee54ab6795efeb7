use Rattle.psplib_layout.proofs.JobLines.{job_line_is}
use Rattle.psplib_layout.proofs.laws.job_lines_are_read.Goals as goal

pub returns : goal.returns
returns c end text content job h = job_line_is end text content h job
