use Rattle.std.proofs.Common.{arith}
use Rattle.psplib_layout.proofs.Places.{any_line_here}
use Rattle.psplib_layout.proofs.source.Source.any_line_at.Goals as goal

pub returns : goal.returns
returns c = any_line_here c.args.self.now.end c.args.self.now.words c.args.at.line c.args.at.word (omega arith)
