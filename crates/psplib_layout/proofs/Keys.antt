-- A key against the words of a line.
use Rattle.std.proofs.Common.{◌≡◌, ℕ, ◌+◌, ◌<◌, ◌≤◌, Bool, true, false, cond, ◌&&◌, eqb, List, [], ◌∷◌, ◌++◌, length, get_or, drop, Option, Some, None, refl, sym, ap, ◌∙◌, arith}
use Rattle.std.specs.List.{concat}
use Rattle.std.proofs.lemmas.Bool.{ne_eqb}
use Rattle.std.proofs.lemmas.List.{drop_all}
use Rattle.psplib_layout.specs.Title.{begins_with, key_left}
use Rattle.psplib_layout.proofs.Places.{words_from}

key_left-nil : (key : List ℕ) → key_left key [] ≡ Some key
key_left-nil [] = refl
key_left-nil (k ∷ key) = refl

begins_broken : (key word bytes : List ℕ) → key_left key word ≡ None → begins_with key (word ++ bytes) ≡ false
begins_broken [] word bytes e = absurd cc
begins_broken (k ∷ key) [] bytes e = absurd cc
begins_broken (k ∷ key) (b ∷ word) bytes e = go (eqb k b) (begins_broken key word bytes) e
  where
    go : (t : Bool) → (key_left key word ≡ None → begins_with key (word ++ bytes) ≡ false) → cond t (key_left key word) None ≡ None → (t && begins_with key (word ++ bytes)) ≡ false
    go true h f = h f
    go false h f = refl

begins_left : (key word bytes left : List ℕ) → key_left key word ≡ Some left → begins_with key (word ++ bytes) ≡ begins_with left bytes
begins_left [] word bytes left e = let f : [] ≡ left = cc in rw (← f) refl
begins_left (k ∷ key) [] bytes left e = let f : k ∷ key ≡ left = cc in rw (← f) refl
begins_left (k ∷ key) (b ∷ word) bytes left e = go (eqb k b) (begins_left key word bytes left) e
  where
    go : (t : Bool) → (key_left key word ≡ Some left → begins_with key (word ++ bytes) ≡ begins_with left bytes) → cond t (key_left key word) None ≡ Some left → (t && begins_with key (word ++ bytes)) ≡ begins_with left bytes
    go true h f = h f
    go false h f = absurd cc

pub key_done : (key word : List ℕ) (i : ℕ) (total : Option (List ℕ)) → length word ≤ i → key_left key (drop i word) ≡ total → Some key ≡ total
key_done key word i total h e = sym (key_left-nil key) ∙ ap (key_left key) (sym (drop_all i word h)) ∙ e

-- the word at this place breaks the key
pub word_breaks : (key word : List ℕ) (words : List (List ℕ)) (i : ℕ) → i < length words → word ≡ get_or words i [] → None ≡ key_left key word → begins_with key (concat (drop i words)) ≡ false
word_breaks key word words i h w e =
    ap (λ (ws : List (List ℕ)). begins_with key (concat ws)) (words_from words i h) ∙ begins_broken key (get_or words i []) (concat (drop (i + 1) words)) (rw (← w) (sym e))

-- it doesn't, and leaves this of the key
pub word_leaves : (key word left : List ℕ) (words : List (List ℕ)) (i : ℕ) → i < length words → word ≡ get_or words i [] → Some left ≡ key_left key word → begins_with key (concat (drop i words)) ≡ begins_with left (concat (drop (i + 1) words))
word_leaves key word left words i h w e =
    ap (λ (ws : List (List ℕ)). begins_with key (concat ws)) (words_from words i h) ∙ begins_left key (get_or words i []) (concat (drop (i + 1) words)) left (rw (← w) (sym e))

begins_with-nil : (key : List ℕ) → begins_with key [] ≡ eqb (length key) 0
begins_with-nil [] = refl
begins_with-nil (k ∷ key) = sym (ne_eqb (length (k ∷ key)) 0 (λ e. omega arith))

pub words_end : (key : List ℕ) (words : List (List ℕ)) (i : ℕ) → length words ≤ i → begins_with key (concat (drop i words)) ≡ eqb (length key) 0
words_end key words i h = ap (λ (ws : List (List ℕ)). begins_with key (concat ws)) (drop_all i words h) ∙ begins_with-nil key
