use Rattle.psplib_layout.proofs.Headers.{header_found, header_again}
use Rattle.psplib_layout.proofs.laws.header_is_read.Goals as goal

pub returns : goal.returns
returns c end lines rest header = (header_found end lines rest header, header_again end lines rest header)
