use Rattle.psplib_layout.proofs.PartsRead.{precedence_found, precedence_again}
use Rattle.psplib_layout.proofs.laws.precedence_is_read.Goals as goal

pub returns : goal.returns
returns c end header lines rest rows some words = (precedence_found end header lines rest rows, precedence_again end header lines rest rows some words)
