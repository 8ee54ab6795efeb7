-- How far a lexer has come.
use Rattle.std.specs.Prelude.{◌≡◌, ℕ, ◌+◌, ◌≤◌, List, [], ◌∷◌, ◌++◌, length, take, drop, map, filter}
use Rattle.std.specs.List.{slice_split, slice_range, concat}
use Rattle.psplib_lex.specs.declared.lexer.Lexer.{Lexer}
use Rattle.psplib_lex.specs.declared.lexer.TheConstants.{MOST_BYTES}
use Rattle.psplib_lex.specs.Line.{is_line_end, is_blank, has_bytes, is_kept, numbered, all_lines, consists_of}
use Rattle.psplib_lex.specs.View.{word_seen, lines_seen, AreWordsWithin, AreLinesWithin}

-- the bytes since the last blank or LF
abbrev pub open_word : Lexer → List ℕ
open_word x = slice_range x.text.now x.word_begin x.at

-- The bytes before `at` are read: the ended lines are kept or dropped, and of the line that is open the ended words.
pub record IsLexing (x : Lexer) : Type 0 where
  pub ended_lines : List (List ℕ)
  pub open_line : List ℕ
  pub ended_words : List (List ℕ)
  pub short : length x.text.now ≤ MOST_BYTES
  pub at_within : x.at ≤ length x.text.now
  pub word_begun : x.word_begin ≤ x.at
  pub line_begun : x.first_word ≤ length x.words.items
  pub line_cut : slice_split is_line_end (take x.at x.text.now) ≡ ended_lines ++ open_line ∷ []
  pub word_cut : slice_split is_blank open_line ≡ ended_words ++ open_word x ∷ []
  pub number : x.number ≡ length ended_lines + 1
  pub lines : lines_seen x.text.now x.words.items x.lines.items ≡ filter is_kept (numbered 1 ended_lines)
  pub words : map (word_seen x.text.now) (drop x.first_word x.words.items) ≡ filter has_bytes ended_words
  pub stars : x.only_stars ≡ consists_of 0x2A (concat ended_words ++ open_word x)
  pub hyphens : x.only_hyphens ≡ consists_of 0x2D (concat ended_words ++ open_word x)
  pub lines_within : AreLinesWithin x.first_word x.lines.items
  pub words_within : AreWordsWithin x.at x.words.items

-- The bytes before `at` are read as a text of their own: its last line has ended too.
pub record HasLexed (x : Lexer) : Type 0 where
  pub short : length x.text.now ≤ MOST_BYTES
  pub at_within : x.at ≤ length x.text.now
  pub number : x.number ≡ length (slice_split is_line_end (take x.at x.text.now))
  pub lines : lines_seen x.text.now x.words.items x.lines.items ≡ filter is_kept (all_lines (take x.at x.text.now))
  pub lines_within : AreLinesWithin (length x.words.items) x.lines.items
  pub words_within : AreWordsWithin x.at x.words.items
