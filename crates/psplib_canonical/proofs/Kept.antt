-- The kept lines of lines that are written as a text.
use Rattle.std.proofs.Common.{◌≡◌, ℕ, suc, ◌+◌, ◌-◌, ◌*◌, ◌≤◌, Bool, true, false, cond, not, ◌&&◌, leb, List, [], ◌∷◌, ◌++◌, length, get_or, filter, refl, ap, ◌∙◌, arith, inl, inr, ◌⊎◌, length-append}
use Rattle.std.proofs.lemmas.Bool.{and_parts, leb-true}
use Rattle.std.specs.List.{AllByRecursion, list_all, slice_split}
use Rattle.std.proofs.lemmas.List.Splits.{slice_split_at}
use Rattle.std.proofs.lemmas.List.Elements.{All-from_recursion}
use Rattle.psplib_lex.specs.Line.{Line, is_line_end, is_kept, words_of, line_from, numbered, without_mark, lines_of}
use Rattle.project_net.specs.Canonical.{text_of}

-- no LF
abbrev pub is_whole : List ℕ → Bool
is_whole line = list_all (λ b. not (is_line_end b)) line

-- a line that can be written, of at most 2,800 bytes
abbrev pub is_fit : List ℕ → Bool
is_fit line = is_whole line && leb (length line) 2800

abbrev pub keep : List ℕ → Bool
keep line = is_kept (line_from 0 line)

-- the kept ones of lines with these bytes, the first of which has the number n
unfoldable pub kept : ℕ → List (List ℕ) → List Line
kept n lines = filter is_kept (numbered n lines)

pub kept-none : (n : ℕ) → kept n ([] ∷ []) ≡ []
unfolding kept words_of
kept-none n = refl

-- a line that is kept, and one that isn't
pub keep_line : (n : ℕ) (line : List ℕ) (lines : List (List ℕ)) (more : List Line) → keep line ≡ true → kept (n + 1) lines ≡ more → kept n (line ∷ lines) ≡ line_from n line ∷ more
unfolding kept
keep_line n line lines more h e = ap (λ (b : Bool). cond b (line_from n line ∷ filter is_kept (numbered (n + 1) lines)) (filter is_kept (numbered (n + 1) lines))) h ∙ ap (λ (ls : List Line). line_from n line ∷ ls) e

pub skip : (n : ℕ) (line : List ℕ) (lines : List (List ℕ)) (more : List Line) → keep line ≡ false → kept (n + 1) lines ≡ more → kept n (line ∷ lines) ≡ more
unfolding kept
skip n line lines more h e = ap (λ (b : Bool). cond b (line_from n line ∷ filter is_kept (numbered (n + 1) lines)) (filter is_kept (numbered (n + 1) lines))) h ∙ e

-- lines that are all kept
pub steps : (n : ℕ) (rows lines : List (List ℕ)) → list_all keep rows ≡ true → kept n (rows ++ lines) ≡ numbered n rows ++ kept (n + length rows) lines
steps n [] lines h = let e : n ≡ n + 0 = omega arith in ap (λ (k : ℕ). kept k lines) e
steps n (row ∷ rows) lines h =
    let k = and_parts (keep row) (list_all keep rows) h in
    let e : n + 1 + length rows ≡ n + length (row ∷ rows) = omega arith in
    keep_line n row (rows ++ lines) (numbered (n + 1) rows ++ kept (n + length (row ∷ rows)) lines) k.0
    (steps (n + 1) rows lines k.1 ∙ ap (λ (m : ℕ). numbered (n + 1) rows ++ kept m lines) e)

-- ---- a text is cut into its lines

end_none : (byte : ℕ) → not (is_line_end byte) ≡ true → is_line_end byte ≡ false
end_none byte h = go (is_line_end byte) h
  where
    go : (b : Bool) → not b ≡ true → b ≡ false
    go true h = absurd cc
    go false h = refl

ends_none : (line : List ℕ) → is_whole line ≡ true → AllByRecursion (λ b. is_line_end b ≡ false) line
ends_none [] h = tt
ends_none (b ∷ bs) h = let k = and_parts (not (is_line_end b)) (is_whole bs) h in (end_none b k.0, ends_none bs k.1)

split_text_of : (lines : List (List ℕ)) → list_all is_fit lines ≡ true → slice_split is_line_end (text_of lines) ≡ lines ++ [] ∷ []
split_text_of [] h = refl
split_text_of (l ∷ ls) h =
    let k = and_parts (is_fit l) (list_all is_fit ls) h in
    let whole = (and_parts (is_whole l) (leb (length l) 2800) k.0).0 in
    slice_split_at is_line_end l 0x0A (text_of ls) (All-from_recursion (λ b. is_line_end b ≡ false) l (ends_none l whole)) refl ∙ ap (λ (xs : List (List ℕ)). l ∷ xs) (split_text_of ls k.1)

abbrev last : List ℕ → ℕ
last bytes = get_or bytes (length bytes - 1) 0

last-cons : (x y : ℕ) (ys : List ℕ) → last (x ∷ y ∷ ys) ≡ last (y ∷ ys)
last-cons x y ys =
    let e : length (x ∷ y ∷ ys) - 1 ≡ suc (length ys) = omega arith in
    let f : length (y ∷ ys) - 1 ≡ length ys = omega arith in
    rw (e, f) refl

last_end : (xs ys : List ℕ) → (ys ≡ []) ⊎ (last ys ≡ 0x0A) → last (xs ++ 0x0A ∷ ys) ≡ 0x0A
last_end [] [] h = refl
last_end [] (y ∷ ys) (inl h) = absurd cc
last_end [] (y ∷ ys) (inr h) = last-cons 0x0A y ys ∙ h
last_end (x ∷ []) ys h = last-cons x 0x0A ys ∙ last_end [] ys h
last_end (x ∷ k ∷ xs) ys h = last-cons x k (xs ++ 0x0A ∷ ys) ∙ last_end (k ∷ xs) ys h

last-text_of : (lines : List (List ℕ)) → (text_of lines ≡ []) ⊎ (last (text_of lines) ≡ 0x0A)
last-text_of [] = inl refl
last-text_of (l ∷ ls) = inr (last_end l (text_of ls) (last-text_of ls))

without_mark-text_of : (lines : List (List ℕ)) → without_mark (text_of lines) ≡ text_of lines
without_mark-text_of lines = go (text_of lines) (last-text_of lines)
  where
    go : (text : List ℕ) → (text ≡ []) ⊎ (last text ≡ 0x0A) → without_mark text ≡ text
    go text (inl e) = rw e refl
    go text (inr e) = rw e refl

pub lines_of-text_of : (lines : List (List ℕ)) → list_all is_fit lines ≡ true → lines_of (text_of lines) ≡ kept 1 (lines ++ [] ∷ [])
unfolding lines_of kept
lines_of-text_of lines h =
    ap (λ (t : List ℕ). filter is_kept (numbered 1 (slice_split is_line_end t))) (without_mark-text_of lines) ∙ ap (λ (ps : List (List ℕ)). filter is_kept (numbered 1 ps)) (split_text_of lines h)

-- how long the text is
pub length-text_of : (lines : List (List ℕ)) → list_all is_fit lines ≡ true → length (text_of lines) ≤ 2801 * length lines
length-text_of [] h = omega arith
length-text_of (l ∷ ls) h =
    let k = and_parts (is_fit l) (list_all is_fit ls) h in
    let few : length l ≤ 2800 = leb-true (length l) 2800 (and_parts (is_whole l) (leb (length l) 2800) k.0).1 in
    let later = length-text_of ls k.1 in
    let both : length (l ++ 0x0A ∷ text_of ls) ≡ length l + length (0x0A ∷ text_of ls) = length-append l (0x0A ∷ text_of ls) in
    let one : length (0x0A ∷ text_of ls) ≡ suc (length (text_of ls)) = refl in
    let size : length (l ∷ ls) ≡ suc (length ls) = refl in
    omega arith
