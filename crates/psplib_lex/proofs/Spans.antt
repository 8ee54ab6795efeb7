-- Words and lines by their places.
use Rattle.std.proofs.Common.{◌≡◌, ℕ, ◌+◌, ◌-◌, ◌<◌, ◌≤◌, Bool, true, false, cond, nat_lt, List, [], ◌∷◌, ◌++◌, length, map, take, drop, filter, get_or, refl, sym, ap, ◌∙◌, arith, length-take, length-drop}
use Rattle.std.specs.List.{slice_range}
use Rattle.std.proofs.lemmas.List.{take_more, get_or-drop, drop-append-le, take-append-le, take-append-drop, length-take-le}
use Rattle.std.proofs.lemmas.List.Elements.{All-head, All-tail, All-cons, All-nil, All-weaker}
use Rattle.std.proofs.lemmas.Bool.Decides.{nat_tests}
use Rattle.psplib_lex.specs.Line.{Line, has_bytes}
use Rattle.psplib_lex.specs.View.{word_seen, line_seen, lines_seen, IsWithin, AreWordsWithin, AreLinesWithin, word_between}
use Rattle.psplib_lex.specs.declared.words.Span.{Span}
use Rattle.psplib_lex.specs.declared.words.KeptLine.{KeptLine}

pub slice_range-more : (xs : List ℕ) (a i : ℕ) → a ≤ i → i < length xs → slice_range xs a (i + 1) ≡ slice_range xs a i ++ get_or xs i 0 ∷ []
slice_range-more xs a i h k =
    let n : i + 1 - a ≡ (i - a) + 1 = omega arith in
    let m : a + (i - a) ≡ i = omega arith in
    let inside : i - a < length (drop a xs) = omega (arith, length-drop a xs) in
    ap (λ (c : ℕ). take c (drop a xs)) n ∙ take_more (drop a xs) (i - a) 0 inside ∙ ap (λ (y : ℕ). slice_range xs a i ++ y ∷ []) (get_or-drop a xs (i - a) 0 ∙ ap (λ (c : ℕ). get_or xs c 0) m)

pub slice_range-none : {X : Type 0} (xs : List X) (a : ℕ) → slice_range xs a a ≡ []
slice_range-none xs a = let n : a - a ≡ 0 = omega arith in ap (λ (c : ℕ). take c (drop a xs)) n

length-slice_range : {X : Type 0} (xs : List X) (a b : ℕ) → b ≤ length xs → length (slice_range xs a b) ≡ b - a
length-slice_range xs a b h = omega (arith, length-take (b - a) (drop a xs), length-drop a xs)

slice_range-grow : {X : Type 0} (xs more : List X) (a b : ℕ) → a ≤ b → b ≤ length xs → slice_range (xs ++ more) a b ≡ slice_range xs a b
slice_range-grow xs more a b h k =
    let e : drop a (xs ++ more) ≡ drop a xs ++ more = drop-append-le a xs more (omega arith) in
    ap (take (b - a)) e ∙ take-append-le (b - a) (drop a xs) more (omega (arith, length-drop a xs))

has_bytes-from_length : (bytes : List ℕ) → 0 < length bytes → has_bytes bytes ≡ true
has_bytes-from_length [] h = absurd (omega arith)
has_bytes-from_length (byte ∷ bytes) h = refl

no_bytes-from_length : (bytes : List ℕ) → length bytes ≡ 0 → has_bytes bytes ≡ false
no_bytes-from_length [] h = refl
no_bytes-from_length (byte ∷ bytes) h = absurd (omega arith)

-- a word is its bytes, and there is no word where there are no bytes
pub map-word_between : (text : List ℕ) (begin end : ℕ) → end ≤ length text → map (word_seen text) (word_between begin end) ≡ filter has_bytes (slice_range text begin end ∷ [])
map-word_between text begin end h = go (nat_lt begin end) refl
  where
    go : (b : Bool) → nat_lt begin end ≡ b → map (word_seen text) (cond b (record { begin = begin; end = end } ∷ []) []) ≡ filter has_bytes (slice_range text begin end ∷ [])
    go true e =
        let less : begin < end = grind (arith, nat_tests) in
        sym (ap (λ (b : Bool). cond b (slice_range text begin end ∷ []) []) (has_bytes-from_length (slice_range text begin end) (omega (arith, length-slice_range text begin end h))))
    go false e =
        let not_less : end ≤ begin = grind (arith, nat_tests) in
        sym (ap (λ (b : Bool). cond b (slice_range text begin end ∷ []) []) (no_bytes-from_length (slice_range text begin end) (omega (arith, length-slice_range text begin end h))))

-- a line stays as it is where words come behind its own
lines_seen-append : (text : List ℕ) (words more : List Span) (lines : List KeptLine) → AreLinesWithin (length words) lines → lines_seen text (words ++ more) lines ≡ lines_seen text words lines
lines_seen-append text words more [] h = refl
lines_seen-append text words more (line ∷ lines) h =
    let w = All-head (λ (l : KeptLine). IsWithin (length words) l.words) line lines h in
    let e : line_seen text (words ++ more) line ≡ line_seen text words line = ap (λ (ws : List Span). let seen : Line = record { number = line.number; words = map (word_seen text) ws } in seen) (slice_range-grow words more line.words.begin line.words.end w.ordered w.within) in
    ap (λ (l : Line). l ∷ lines_seen text (words ++ more) lines) e ∙ ap (λ (ls : List Line). line_seen text words line ∷ ls) (lines_seen-append text words more lines (All-tail (λ (l : KeptLine). IsWithin (length words) l.words) line lines h))

IsWithin-from_less : (n m : ℕ) → n ≤ m → (s : Span) → IsWithin n s → IsWithin m s
IsWithin-from_less n m h s w = record { ordered = w.ordered; within = omega arith }

pub lines_within_more : (n m : ℕ) (lines : List KeptLine) → n ≤ m → AreLinesWithin n lines → AreLinesWithin m lines
lines_within_more n m lines h all = All-weaker (λ (l : KeptLine). IsWithin n l.words) (λ (l : KeptLine). IsWithin m l.words) (λ (l : KeptLine). IsWithin-from_less n m h l.words) lines all

pub words_within_more : (n m : ℕ) (words : List Span) → n ≤ m → AreWordsWithin n words → AreWordsWithin m words
words_within_more n m words h all = All-weaker (IsWithin n) (IsWithin m) (IsWithin-from_less n m h) words all

pub lines_seen-grow : (text : List ℕ) (words more : List Span) (lines : List KeptLine) (n : ℕ) → n ≤ length words → AreLinesWithin n lines → lines_seen text (words ++ more) lines ≡ lines_seen text words lines
lines_seen-grow text words more lines n h all = lines_seen-append text words more lines (lines_within_more n (length words) lines h all)

pub lines_seen-take : (text : List ℕ) (words : List Span) (lines : List KeptLine) (n : ℕ) → n ≤ length words → AreLinesWithin n lines → lines_seen text (take n words) lines ≡ lines_seen text words lines
lines_seen-take text words lines n h all =
    sym (ap (λ (ws : List Span). lines_seen text ws lines) (sym (take-append-drop n words)) ∙ lines_seen-grow text (take n words) (drop n words) lines n (omega (arith, length-take-le n words h)) all)

pub word_between-within : (begin end : ℕ) → AreWordsWithin end (word_between begin end)
word_between-within begin end = go (nat_lt begin end) refl
  where
    go : (b : Bool) → nat_lt begin end ≡ b → AreWordsWithin end (cond b (record { begin = begin; end = end } ∷ []) [])
    go true e =
        let less : begin < end = grind (arith, nat_tests) in
        All-cons (IsWithin end) _ [] (record { ordered = omega arith; within = omega arith }) (All-nil (IsWithin end))
    go false e = All-nil (IsWithin end)
