use Rattle.std.proofs.Common.{◌≡◌, ◌+◌, ℕ, true, false, List, [], ◌∷◌, ◌++◌, length, take, slice_index, ap, sym, ◌∙◌, arith, length-append}
use Rattle.std.specs.List.{slice_split, slice_range, concat}
use Rattle.std.proofs.lemmas.List.{take_more, append-nil}
use Rattle.std.proofs.lemmas.List.Elements.{All-same}
use Rattle.std.proofs.lemmas.List.Folds.{concat-append}
use Rattle.std.proofs.lemmas.Bool.Decides.{nat_tests}
use Rattle.psplib_lex.specs.Line.{is_line_end, is_blank, consists_of}
use Rattle.psplib_lex.specs.View.{lines_seen, word_between, IsWithin}
use Rattle.psplib_lex.specs.Lexing.{open_word}
use Rattle.psplib_lex.proofs.Cuts.{cut_ends, cut_grows}
use Rattle.psplib_lex.proofs.Spans.{slice_range-none, lines_seen-grow, words_within_more}
use Rattle.psplib_lex.proofs.Lexed.{ended_words, words_within}
use Rattle.psplib_lex.proofs.lexer.Lexer.read_blank.Goals as goal

no_line_end : (byte : ℕ) → is_blank byte ≡ true → is_line_end byte ≡ false
no_line_end byte h = grind (arith, nat_tests)

pub returns-clause-lexing : goal.returns-clause-lexing
returns-clause-lexing c =
    let x = c.args.self.now in
    let l = c.requires.lexing in
    let byte = slice_index x.text.now x.at in
    let more = word_between x.word_begin x.at in
    let words = c.in_ok-push_word.ensures in
    let none = slice_range-none x.text.now (x.at + 1) in
    let ended = l.ended_words ++ open_word x ∷ [] in
    let bytes : concat ended ++ slice_range x.text.now (x.at + 1) (x.at + 1) ≡ concat l.ended_words ++ open_word x = ap (λ (bs : List ℕ). concat ended ++ bs) none ∙ append-nil (concat ended) ∙ concat-append l.ended_words (open_word x ∷ []) ∙ ap (λ (bs : List ℕ). concat l.ended_words ++ bs) (append-nil (open_word x)) in
    record {
      ended_lines = l.ended_lines;
      open_line = l.open_line ++ byte ∷ [];
      ended_words = ended;
      short = l.short;
      at_within = omega (arith, c.requires.within);
      word_begun = omega arith;
      line_begun = omega (arith, ap length words, length-append x.words.items more, l.line_begun);
      line_cut = ap (slice_split is_line_end) (take_more x.text.now x.at 0 c.requires.within) ∙ cut_grows is_line_end (take x.at x.text.now) byte l.ended_lines l.open_line l.line_cut (no_line_end byte c.requires.blank);
      word_cut = cut_ends is_blank l.open_line byte c.requires.blank ∙ ap (λ (ps : List (List ℕ)). ps ++ [] ∷ []) l.word_cut ∙ ap (λ (bs : List ℕ). ended ++ bs ∷ []) (sym none);
      number = l.number;
      lines = ap (λ ws. lines_seen x.text.now ws x.lines.items) words ∙ lines_seen-grow x.text.now x.words.items more x.lines.items x.first_word l.line_begun l.lines_within ∙ l.lines;
      words = ended_words x l _ words;
      stars = l.stars ∙ sym (ap (consists_of 0x2A) bytes);
      hyphens = l.hyphens ∙ sym (ap (consists_of 0x2D) bytes);
      lines_within = l.lines_within;
      words_within = words_within_more x.at (x.at + 1) _ (omega arith) (All-same (IsWithin x.at) _ _ words (words_within x l));
    }
