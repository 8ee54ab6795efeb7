use Rattle.std.proofs.Common.{arith, [], map, ap, refl}
use Rattle.std.proofs.lemmas.List.Elements.{All-nil, All-same}
use Rattle.psplib_lex.specs.View.{word_seen, IsWithin, line_seen}
use Rattle.psplib_lex.proofs.lexer.Lexer.new.Goals as goal

pub returns-clause-begun : goal.returns-clause-begun
returns-clause-begun c = record {
  ended_lines = [];
  open_line = [];
  ended_words = [];
  short = c.requires;
  at_within = omega arith;
  word_begun = omega arith;
  line_begun = omega arith;
  line_cut = refl;
  word_cut = refl;
  number = refl;
  lines = ap (map (line_seen c.args.text.now c.new-2.result.items)) c.new.ensures.items;
  words = ap (map (word_seen c.args.text.now)) c.new-2.ensures.items;
  stars = refl;
  hyphens = refl;
  lines_within = All-same (λ line. IsWithin 0 line.words) _ [] c.new.ensures.items (All-nil (λ line. IsWithin 0 line.words));
  words_within = All-same (IsWithin 0) _ [] c.new-2.ensures.items (All-nil (IsWithin 0));
}
