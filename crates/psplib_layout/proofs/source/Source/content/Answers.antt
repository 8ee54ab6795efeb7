use Rattle.psplib_layout.proofs.Limits.{read_limits}
use Rattle.psplib_layout.proofs.source.Source.content.Goals as goal

pub returns-clause-limits : goal.returns-clause-limits
returns-clause-limits c = read_limits c.args.self.now.end c.args.self.now.words c.parts.result c.parts.ensures
