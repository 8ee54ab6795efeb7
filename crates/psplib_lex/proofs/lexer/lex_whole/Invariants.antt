use Rattle.std.proofs.Common.{◌≡◌, ◌-◌, length}
use Rattle.psplib_lex.specs.Lexing.{IsLexing}
use Rattle.psplib_lex.proofs.lexer.lex_whole.Given as goal

abbrev pub invariant-loop-lexer : goal.invariant-loop-lexer
invariant-loop-lexer l = IsLexing l.lexer × (l.lexer.text.now ≡ l.text)

abbrev pub decreases-loop-lexer : goal.decreases-loop-lexer
decreases-loop-lexer l = length l.text - l.lexer.at
