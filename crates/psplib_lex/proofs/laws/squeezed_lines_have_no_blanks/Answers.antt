use Rattle.psplib_lex.proofs.Kept.{squeezed-line_from}
use Rattle.psplib_lex.proofs.laws.squeezed_lines_have_no_blanks.Goals as goal

pub returns : goal.returns
returns c = squeezed-line_from
