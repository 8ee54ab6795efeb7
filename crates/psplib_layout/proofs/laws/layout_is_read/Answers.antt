use Rattle.psplib_layout.proofs.PartsRead.{layout_found, layout_again}
use Rattle.psplib_layout.proofs.laws.layout_is_read.Goals as goal

pub returns : goal.returns
returns c end lines content words = (layout_found end lines content, layout_again end lines content words)
