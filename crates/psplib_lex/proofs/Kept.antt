-- Kept lines and squeezed lines.
use Rattle.std.proofs.Common.{◌≡◌, ℕ, ◌≤◌, Bool, true, false, cond, not, List, [], ◌∷◌, length, filter, All, refl, ap, ◌∙◌, arith}
use Rattle.std.specs.List.{slice_split, onto_first, concat}
use Rattle.std.proofs.lemmas.List.Elements.{All-nil, All-cons}
use Rattle.psplib_lex.specs.Line.{Line, is_blank, is_kept, words_of, squeezed, line_from, lines_of, all_lines, without_mark}
use Rattle.psplib_lex.proofs.Lexed.{concat-filter}

some_word : (words : List (List ℕ)) (n : ℕ) → is_kept (record { number = n; words = words }) ≡ true → 1 ≤ length words
some_word [] n h = absurd cc
some_word (word ∷ words) n h = omega arith

abbrev HasWord : Line → Type 0
HasWord line = 1 ≤ length line.words

kept_have : (lines : List Line) → All HasWord (filter is_kept lines)
kept_have [] = All-nil HasWord
kept_have (line ∷ lines) = go (is_kept line) refl (kept_have lines)
  where
    go : (b : Bool) → is_kept line ≡ b → All HasWord (filter is_kept lines) → All HasWord (cond b (line ∷ filter is_kept lines) (filter is_kept lines))
    go true e h = All-cons HasWord line (filter is_kept lines) (some_word line.words line.number e) h
    go false e h = h

pub have_words : (text : List ℕ) → All HasWord (lines_of text)
unfolding lines_of
have_words text = kept_have (all_lines (without_mark text))

concat-onto_first : (b : ℕ) (parts : List (List ℕ)) → concat (onto_first b parts) ≡ b ∷ concat parts
concat-onto_first b [] = refl
concat-onto_first b (part ∷ parts) = refl

concat-slice_split : (p : ℕ → Bool) (bytes : List ℕ) → concat (slice_split p bytes) ≡ filter (λ b. not (p b)) bytes
concat-slice_split p [] = refl
concat-slice_split p (b ∷ bytes) = go (p b) (concat-slice_split p bytes)
  where
    go : (t : Bool) → concat (slice_split p bytes) ≡ filter (λ (x : ℕ). not (p x)) bytes → concat (cond t ([] ∷ slice_split p bytes) (onto_first b (slice_split p bytes))) ≡ cond (not t) (b ∷ filter (λ (x : ℕ). not (p x)) bytes) (filter (λ (x : ℕ). not (p x)) bytes)
    go true e = e
    go false e = concat-onto_first b (slice_split p bytes) ∙ ap (λ (bs : List ℕ). b ∷ bs) e

pub squeezed-line_from : (number : ℕ) (bytes : List ℕ) → squeezed (line_from number bytes) ≡ filter (λ b. not (is_blank b)) bytes
unfolding words_of
squeezed-line_from number bytes = concat-filter (slice_split is_blank bytes) ∙ concat-slice_split is_blank bytes
