use Rattle.psplib_layout.proofs.PartsRead.{requests_found, requests_again}
use Rattle.psplib_layout.proofs.laws.requests_are_read.Goals as goal

pub returns : goal.returns
returns c end header rows lines rest modes some words = (requests_found end header rows lines rest modes, requests_again end header rows lines rest modes some words)
