-- What an ended word and an ended line add to what was read.
use Rattle.std.proofs.Common.{◌≡◌, ℕ, ◌+◌, ◌≤◌, ◌||◌, ◌&&◌, ◌==◌, Bool, true, false, cond, not, List, [], ◌∷◌, ◌++◌, length, map, take, drop, filter, refl, sym, ap, ◌∙◌, arith, append_assoc, length-append}
use Rattle.std.specs.List.{slice_split, concat}
use Rattle.std.proofs.lemmas.List.{append-nil, drop-append-le, map-append, map_push, take_rest, take-append-le}
use Rattle.std.proofs.lemmas.List.Elements.{filter-append, All-append, All-push, All-same}
use Rattle.std.proofs.lemmas.List.Folds.{concat-append, list_all-append}
use Rattle.psplib_lex.specs.Line.{Line, words_of, has_bytes, is_blank, is_rule, is_kept, line_from, numbered, consists_of, squeezed, is_line_end, all_lines}
use Rattle.psplib_lex.specs.View.{word_seen, lines_seen, line_seen, word_between, IsWithin, AreWordsWithin, AreLinesWithin}
use Rattle.psplib_lex.specs.Lexing.{IsLexing, open_word}
use Rattle.psplib_lex.specs.declared.lexer.Lexer.{Lexer}
use Rattle.psplib_lex.specs.declared.words.Span.{Span}
use Rattle.psplib_lex.specs.declared.words.KeptLine.{KeptLine}
use Rattle.psplib_lex.proofs.Spans.{map-word_between, lines_seen-grow, lines_seen-take, lines_within_more, word_between-within}

pub concat-filter : (parts : List (List ℕ)) → concat (filter has_bytes parts) ≡ concat parts
concat-filter [] = refl
concat-filter ([] ∷ parts) = concat-filter parts
concat-filter ((b ∷ bytes) ∷ parts) = ap (λ (bs : List ℕ). b ∷ bytes ++ bs) (concat-filter parts)

pub numbered_push : (n : ℕ) (xs : List (List ℕ)) (y : List ℕ) → numbered n (xs ++ y ∷ []) ≡ numbered n xs ++ line_from (n + length xs) y ∷ []
numbered_push n [] y = ap (λ (k : ℕ). line_from k y ∷ []) (omega arith)
numbered_push n (x ∷ xs) y =
    let e : n + 1 + length xs ≡ n + length (x ∷ xs) = omega arith in
    ap (λ (ls : List Line). line_from n x ∷ ls) (numbered_push (n + 1) xs y ∙ ap (λ (k : ℕ). numbered (n + 1) xs ++ line_from k y ∷ []) e)

-- the words of the open line, its last word among them
pub ended_words : (x : Lexer) (l : IsLexing x) (words : List Span) → words ≡ x.words.items ++ word_between x.word_begin x.at → map (word_seen x.text.now) (drop x.first_word words) ≡ filter has_bytes (l.ended_words ++ open_word x ∷ [])
ended_words x l words e =
    let seen = word_seen x.text.now in
    ap (λ (ws : List Span). map seen (drop x.first_word ws)) e
    ∙ ap (map seen) (drop-append-le x.first_word x.words.items (word_between x.word_begin x.at) l.line_begun)
    ∙ map-append seen (drop x.first_word x.words.items) (word_between x.word_begin x.at)
    ∙ ap (λ (ws : List (List ℕ)). ws ++ map seen (word_between x.word_begin x.at)) l.words
    ∙ ap (λ (ws : List (List ℕ)). filter has_bytes l.ended_words ++ ws) (map-word_between x.text.now x.word_begin x.at l.at_within)
    ∙ sym (filter-append has_bytes l.ended_words (open_word x ∷ []))

pub open_words : (x : Lexer) (l : IsLexing x) (words : List Span) → words ≡ x.words.items ++ word_between x.word_begin x.at → map (word_seen x.text.now) (drop x.first_word words) ≡ words_of l.open_line
unfolding words_of
open_words x l words e = ended_words x l words e ∙ sym (ap (filter has_bytes) l.word_cut)

squeezed_open : (x : Lexer) (l : IsLexing x) → squeezed (line_from x.number l.open_line) ≡ concat l.ended_words ++ open_word x
unfolding words_of
squeezed_open x l =
    concat-filter (slice_split is_blank l.open_line) ∙ ap concat l.word_cut ∙ concat-append l.ended_words (open_word x ∷ []) ∙ ap (λ (bs : List ℕ). concat l.ended_words ++ bs) (append-nil (open_word x))

pub open_rule : (x : Lexer) (l : IsLexing x) → is_rule (line_from x.number l.open_line) ≡ (x.only_stars || x.only_hyphens)
open_rule x l =
    ap (λ (bs : List ℕ). consists_of 0x2A bs || consists_of 0x2D bs) (squeezed_open x l) ∙ sym (ap (λ (b : Bool). b || x.only_hyphens) l.stars ∙ ap (λ (b : Bool). consists_of 0x2A (concat l.ended_words ++ open_word x) || b) l.hyphens)

one_line : (line : Line) (b : Bool) → is_rule line ≡ b → filter is_kept (line ∷ []) ≡ cond b [] (line ∷ [])
one_line line true e = ap (λ (r : Bool). cond (not r) (line ∷ []) []) e
one_line line false e = ap (λ (r : Bool). cond (not r) (line ∷ []) []) e

-- one line more
pub lines_more : (x : Lexer) (l : IsLexing x) (lines : List Line) → lines ≡ lines_seen x.text.now x.words.items x.lines.items ++ filter is_kept (line_from x.number l.open_line ∷ []) → lines ≡ filter is_kept (all_lines (take x.at x.text.now))
lines_more x l lines e =
    let n : x.number ≡ 1 + length l.ended_lines = omega (arith, l.number) in
    e ∙ ap (λ (ls : List Line). ls ++ filter is_kept (line_from x.number l.open_line ∷ [])) l.lines
    ∙ ap (λ (k : ℕ). filter is_kept (numbered 1 l.ended_lines) ++ filter is_kept (line_from k l.open_line ∷ [])) n
    ∙ sym (filter-append is_kept (numbered 1 l.ended_lines) (line_from (1 + length l.ended_lines) l.open_line ∷ []))
    ∙ ap (filter is_kept) (sym (numbered_push 1 l.ended_lines l.open_line) ∙ ap (numbered 1) (sym l.line_cut))

pub dropped_lines : (x : Lexer) (l : IsLexing x) (words : List Span) → words ≡ take x.first_word (x.words.items ++ word_between x.word_begin x.at) → (x.only_stars || x.only_hyphens) ≡ true → lines_seen x.text.now words x.lines.items ≡ lines_seen x.text.now x.words.items x.lines.items ++ filter is_kept (line_from x.number l.open_line ∷ [])
dropped_lines x l words e r =
    let seen = lines_seen x.text.now x.words.items x.lines.items in
    ap (λ (ws : List Span). lines_seen x.text.now ws x.lines.items) (e ∙ take-append-le x.first_word x.words.items (word_between x.word_begin x.at) l.line_begun)
    ∙ lines_seen-take x.text.now x.words.items x.lines.items x.first_word l.line_begun l.lines_within
    ∙ sym (ap (λ (ls : List Line). seen ++ ls) (one_line (line_from x.number l.open_line) true (open_rule x l ∙ r)) ∙ append-nil seen)

pub kept_lines : (x : Lexer) (l : IsLexing x) (words : List Span) (lines : List KeptLine) → words ≡ x.words.items ++ word_between x.word_begin x.at → lines ≡ x.lines.items ++ record { number = x.number; words = record { begin = x.first_word; end = length words } } ∷ [] → (x.only_stars || x.only_hyphens) ≡ false → lines_seen x.text.now words lines ≡ lines_seen x.text.now x.words.items x.lines.items ++ filter is_kept (line_from x.number l.open_line ∷ [])
kept_lines x l words lines e f r =
    let line : KeptLine = record { number = x.number; words = record { begin = x.first_word; end = length words } } in
    let seen = line_seen x.text.now words in
    let same : lines_seen x.text.now words x.lines.items ≡ lines_seen x.text.now x.words.items x.lines.items = ap (λ (ws : List Span). lines_seen x.text.now ws x.lines.items) e ∙ lines_seen-grow x.text.now x.words.items (word_between x.word_begin x.at) x.lines.items x.first_word l.line_begun l.lines_within in
    let new : seen line ≡ line_from x.number l.open_line = ap (λ (ws : List (List ℕ)). let made : Line = record { number = x.number; words = ws } in made) (ap (map (word_seen x.text.now)) (take_rest words x.first_word) ∙ open_words x l words e) in
    ap (map seen) f ∙ map_push seen x.lines.items line
    ∙ ap (λ (ls : List Line). ls ++ seen line ∷ []) same
    ∙ ap (λ (n : Line). lines_seen x.text.now x.words.items x.lines.items ++ n ∷ []) new
    ∙ sym (ap (λ (ls : List Line). lines_seen x.text.now x.words.items x.lines.items ++ ls) (one_line (line_from x.number l.open_line) false (open_rule x l ∙ r)))

pub words_within : (x : Lexer) (l : IsLexing x) → AreWordsWithin x.at (x.words.items ++ word_between x.word_begin x.at)
words_within x l = All-append (IsWithin x.at) x.words.items (word_between x.word_begin x.at) l.words_within (word_between-within x.word_begin x.at)

pub kept_within : (x : Lexer) (l : IsLexing x) (n : ℕ) (lines : List KeptLine) → x.first_word ≤ n → lines ≡ x.lines.items ++ record { number = x.number; words = record { begin = x.first_word; end = n } } ∷ [] → AreLinesWithin n lines
kept_within x l n lines h e =
    All-same P lines _ e (All-push P x.lines.items _ (lines_within_more x.first_word n x.lines.items h l.lines_within) (record { ordered = h; within = omega arith }))
  where
    P : KeptLine → Type 0
    P k = IsWithin n k.words

-- the number of the open line is the number of lines so far
pub line_count : (x : Lexer) (l : IsLexing x) → x.number ≡ length (slice_split is_line_end (take x.at x.text.now))
line_count x l = omega (arith, l.number, ap length l.line_cut, length-append l.ended_lines (l.open_line ∷ []))

and_true : (b : Bool) → (b && true) ≡ b
and_true true = refl
and_true false = refl

pub consists_of-push : (byte : ℕ) (front word : List ℕ) (b : ℕ) → consists_of byte (front ++ (word ++ b ∷ [])) ≡ (consists_of byte (front ++ word) && (b == byte))
consists_of-push byte front word b =
    ap (consists_of byte) (sym (append_assoc front word (b ∷ []))) ∙ list_all-append (λ (y : ℕ). y == byte) (front ++ word) (b ∷ []) ∙ ap (λ (t : Bool). consists_of byte (front ++ word) && t) (and_true (b == byte))
