use Rattle.std.proofs.Common.{◌≡◌, ℕ, ◌∷◌, [], ◌++◌, ◌||◌, ◌≤◌, length, take, ap, sym, ◌∙◌, arith, rules, length-append, length-take}
use Rattle.std.proofs.lemmas.List.Elements.{All-take, All-same}
use Rattle.psplib_lex.specs.View.{IsWithin, word_between}
use Rattle.psplib_lex.proofs.Spans.{lines_within_more}
use Rattle.psplib_lex.proofs.Lexed.{lines_more, line_count, dropped_lines, kept_lines, words_within, kept_within}
use Rattle.psplib_lex.proofs.lexer.Lexer.end_line.Goals as goal
use Rattle.psplib_lex.proofs.lexer.Lexer.end_line.Goals.{then-self, else-self}

pub returns-then-self-2-clause-ended : goal.returns-then-self-2-clause-ended
returns-then-self-2-clause-ended c =
    let x = c.args.self.now in
    let l = c.requires in
    let more = word_between x.word_begin x.at in
    let words : c.truncate.new.self.items ≡ take x.first_word (x.words.items ++ more) = c.truncate.ensures.items ∙ ap (take x.first_word) c.in_ok-push_word.ensures in
    let room : x.first_word ≤ length c.truncate.new.self.items = omega (arith, ap length words, length-take x.first_word (x.words.items ++ more), length-append x.words.items more, l.line_begun) in
    let rule : (x.only_stars || x.only_hyphens) ≡ c.if-self.value = elim c.if-self.branch [
      | then-self w ↦ rw w.if-self.true (sym (w.value-is ∙ w.if-self.true))
      | else-self w ↦ rw w.if-self.false (sym w.value-is)
    ] in
    record {
      short = l.short;
      at_within = l.at_within;
      number = line_count x l;
      lines = lines_more x l _ (dropped_lines x l _ words (rule ∙ c.if-self-2.true));
      lines_within = lines_within_more x.first_word _ x.lines.items room l.lines_within;
      words_within = All-same (IsWithin x.at) _ _ words (All-take (IsWithin x.at) x.first_word (x.words.items ++ more) (words_within x l));
    }

pub returns-in_ok-push-clause-ended : goal.returns-in_ok-push-clause-ended
returns-in_ok-push-clause-ended c =
    let x = c.args.self.now in
    let l = c.requires in
    let words = c.in_ok-push_word.ensures in
    let end : c.len.result ≡ length c.push_word.new.words.items = search rules in
    let lines = c.in_ok-push.ensures.items ∙ ap (λ (n : ℕ). x.lines.items ++ record { number = x.number; words = record { begin = x.first_word; end = n } } ∷ []) end in
    let room : x.first_word ≤ length c.push_word.new.words.items = omega (arith, ap length words, length-append x.words.items (word_between x.word_begin x.at), l.line_begun) in
    let rule : (x.only_stars || x.only_hyphens) ≡ c.if-self.value = elim c.if-self.branch [
      | then-self w ↦ rw w.if-self.true (sym (w.value-is ∙ w.if-self.true))
      | else-self w ↦ rw w.if-self.false (sym w.value-is)
    ] in
    record {
      short = l.short;
      at_within = l.at_within;
      number = line_count x l;
      lines = lines_more x l _ (kept_lines x l _ _ words lines (rule ∙ c.if-self-2.false));
      lines_within = kept_within x l _ _ room lines;
      words_within = All-same (IsWithin x.at) _ _ words (words_within x l);
    }
