use Rattle.psplib_lex.proofs.Kept.{have_words}
use Rattle.psplib_lex.proofs.laws.kept_lines_have_words.Goals as goal

pub returns : goal.returns
returns c = have_words
