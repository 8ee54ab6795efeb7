use Rattle.std.proofs.Common.{◌≡◌, ◌+◌, ◌==◌, ◌&&◌, ℕ, Bool, List, [], ◌∷◌, ◌++◌, take, ap, sym, ◌∙◌, arith}
use Rattle.std.specs.List.{slice_split, slice_range, concat}
use Rattle.std.proofs.lemmas.List.{take_more}
use Rattle.psplib_lex.specs.Line.{is_line_end, is_blank, consists_of}
use Rattle.psplib_lex.specs.Lexing.{open_word}
use Rattle.psplib_lex.proofs.Cuts.{cut_grows}
use Rattle.psplib_lex.proofs.Spans.{slice_range-more, words_within_more}
use Rattle.psplib_lex.proofs.Lexed.{consists_of-push}
use Rattle.psplib_lex.proofs.lexer.Lexer.read_other.Goals as goal
use Rattle.psplib_lex.proofs.lexer.Lexer.read_other.Goals.{then-self, else-self, then-self-2, else-self-2}

pub returns-clause-lexing : goal.returns-clause-lexing
returns-clause-lexing c =
    let x = c.args.self.now in
    let l = c.requires.lexing in
    let grown : slice_range x.text.now x.word_begin (x.at + 1) ≡ open_word x ++ c.args.byte ∷ [] = slice_range-more x.text.now x.word_begin x.at l.word_begun c.requires.within ∙ ap (λ (b : ℕ). open_word x ++ b ∷ []) c.requires.read in
    let stars : c.if-self.self ≡ (x.only_stars && (c.args.byte == 0x2A)) = elim c.if-self.branch [
      | then-self w ↦ rw w.if-self.true w.self-is
      | else-self w ↦ rw w.if-self.false (w.self-is ∙ w.if-self.false)
    ] in
    let hyphens : c.if-self-2.self ≡ (x.only_hyphens && (c.args.byte == 0x2D)) = elim c.if-self-2.branch [
      | then-self-2 w ↦ rw w.if-self-2.true w.self-is
      | else-self-2 w ↦ rw w.if-self-2.false (w.self-is ∙ w.if-self-2.false)
    ] in
    record {
      ended_lines = l.ended_lines;
      open_line = l.open_line ++ c.args.byte ∷ [];
      ended_words = l.ended_words;
      short = l.short;
      at_within = omega (arith, c.requires.within);
      word_begun = omega (arith, l.word_begun);
      line_begun = l.line_begun;
      line_cut = ap (slice_split is_line_end) (take_more x.text.now x.at 0 c.requires.within ∙ ap (λ (b : ℕ). take x.at x.text.now ++ b ∷ []) c.requires.read) ∙ cut_grows is_line_end (take x.at x.text.now) c.args.byte l.ended_lines l.open_line l.line_cut c.requires.no_line_end;
      word_cut = cut_grows is_blank l.open_line c.args.byte l.ended_words (open_word x) l.word_cut c.requires.no_blank ∙ ap (λ (bs : List ℕ). l.ended_words ++ bs ∷ []) (sym grown);
      number = l.number;
      lines = l.lines;
      words = l.words;
      stars = stars ∙ ap (λ (t : Bool). t && (c.args.byte == 0x2A)) l.stars ∙ sym (ap (λ (bs : List ℕ). consists_of 0x2A (concat l.ended_words ++ bs)) grown ∙ consists_of-push 0x2A (concat l.ended_words) (open_word x) c.args.byte);
      hyphens = hyphens ∙ ap (λ (t : Bool). t && (c.args.byte == 0x2D)) l.hyphens ∙ sym (ap (λ (bs : List ℕ). consists_of 0x2D (concat l.ended_words ++ bs)) grown ∙ consists_of-push 0x2D (concat l.ended_words) (open_word x) c.args.byte);
      lines_within = l.lines_within;
      words_within = words_within_more x.at (x.at + 1) _ (omega arith) l.words_within;
    }
