use Rattle.psplib_layout.proofs.Limits.{text_found, text_limits}
use Rattle.psplib_layout.proofs.text.read_content.Goals as goal

pub returns-clause-content : goal.returns-clause-content
returns-clause-content c = text_found c.args.text.now c.read_whole.result c.read_whole.ensures

pub returns-clause-limits : goal.returns-clause-limits
returns-clause-limits c = text_limits c.args.text.now c.read_whole.result c.read_whole.ensures
