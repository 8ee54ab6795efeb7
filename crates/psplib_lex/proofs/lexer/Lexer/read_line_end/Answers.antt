use Rattle.std.proofs.Common.{◌≡◌, ◌≤◌, ◌+◌, ℕ, true, List, [], ◌∷◌, length, take, map, slice_index, ap, sym, ◌∙◌, refl, arith, rules, length-take}
use Rattle.std.proofs.lemmas.List.{take_more, drop_all}
use Rattle.std.specs.List.{slice_split}
use Rattle.std.proofs.lemmas.List.Splits.{length-slice_split}
use Rattle.std.proofs.lemmas.List.Sums.{count_by-le-length}
use Rattle.psplib_lex.specs.Line.{is_line_end, consists_of}
use Rattle.psplib_lex.specs.View.{word_seen}
use Rattle.psplib_lex.proofs.Cuts.{cut_ends}
use Rattle.psplib_lex.proofs.Spans.{slice_range-none, lines_within_more, words_within_more}
use Rattle.psplib_lex.proofs.lexer.Lexer.read_line_end.Goals as goal

pub overflow_add-self : goal.overflow_add-self
overflow_add-self c =
    let x = c.end_line.new.self in
    let read = take x.at x.text.now in
    let h = c.in_ok-end_line.ensures.ended in
    omega (arith, h.number, h.short, length-slice_split is_line_end read, count_by-le-length is_line_end read, length-take x.at x.text.now)

pub returns-clause-lexing : goal.returns-clause-lexing
returns-clause-lexing c =
    let x = c.end_line.new.self in
    let h = c.in_ok-end_line.ensures.ended in
    let inside : x.at + 1 ≤ length x.text.now = omega (arith, c.requires.within, c.in_ok-end_line.ensures.place, ap (λ t. length t.now) c.in_ok-end_line.ensures.text) in
    let line_end : is_line_end (slice_index x.text.now x.at) ≡ true = rw (c.in_ok-end_line.ensures.place, c.in_ok-end_line.ensures.text) (rw c.requires.line_end refl) in
    let none = slice_range-none x.text.now (x.at + 1) in
    let all : c.len-self.result ≡ length x.words.items = search rules in
    record {
      ended_lines = slice_split is_line_end (take x.at x.text.now);
      open_line = [];
      ended_words = [];
      short = h.short;
      at_within = inside;
      word_begun = omega arith;
      line_begun = omega arith;
      line_cut = ap (slice_split is_line_end) (take_more x.text.now x.at 0 (omega arith)) ∙ cut_ends is_line_end (take x.at x.text.now) (slice_index x.text.now x.at) line_end;
      word_cut = ap (λ (bs : List ℕ). bs ∷ []) (sym none);
      number = ap (λ (n : ℕ). n + 1) h.number;
      lines = h.lines;
      words = ap (map (word_seen x.text.now)) (drop_all c.len-self.result x.words.items (omega arith));
      stars = sym (ap (consists_of 0x2A) none);
      hyphens = sym (ap (consists_of 0x2D) none);
      lines_within = lines_within_more (length x.words.items) c.len-self.result x.lines.items (omega arith) h.lines_within;
      words_within = words_within_more x.at (x.at + 1) x.words.items (omega arith) h.words_within;
    }
