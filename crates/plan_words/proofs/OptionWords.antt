-- A word that gives an option, among options that may come in any order.
use Rattle.std.proofs.Common.{◌≡◌, ℕ, ◌<◌, refl, sym, ap, ◌∙◌, arith, Bool, true, false, not, ◌&&◌, List, [], ◌∷◌, ◌++◌, length, take, drop, get_or, codes, if◌then◌else◌}
use Rattle.std.proofs.lemmas.Slice.Eq.{bytes_eq-Decides}
use Rattle.psplib_lex.specs.Number.{digits_value}
use Rattle.plan_words.specs.declared.options.Options.{Options}
use Rattle.plan_words.specs.Words.{Form, modes_form, workers_form, nodes_form, log_form, tries_form, begins_with, gives, others, is_yes}
use Rattle.plan_words.specs.Options.{form_if, free_forms, number_after, flag_after}

-- a word that begins with a key begins with its first byte
first_byte : (word key : List ℕ) → 0 < length key → begins_with key word ≡ true → get_or word 0 256 ≡ get_or key 0 256
unfolding begins_with
first_byte word [] some is = absurd (omega arith)
first_byte [] (k ∷ ks) some is = let same : [] ≡ k ∷ ks = (bytes_eq-Decides (take (length (k ∷ ks)) []) (k ∷ ks)).0 is in absurd cc
first_byte (c ∷ cs) (k ∷ ks) some is =
    let same : take (length (k ∷ ks)) (c ∷ cs) ≡ k ∷ ks = (bytes_eq-Decides (take (length (k ∷ ks)) (c ∷ cs)) (k ∷ ks)).0 is in
    ap (λ (bytes : List ℕ). get_or bytes 0 256) same

-- it doesn't begin with a key that has another
other_key : (word key other : List ℕ) → 0 < length key → 0 < length other → (get_or key 0 256 ≡ get_or other 0 256 → ⊥) → begins_with key word ≡ true → begins_with other word ≡ false
other_key word key other some too differ is = by_cases (begins_with other word) refl
  where
    by_cases : (b : Bool) → begins_with other word ≡ b → begins_with other word ≡ false
    by_cases true e = absurd (differ (sym (first_byte word key some is) ∙ first_byte word other too e))
    by_cases false e = e

-- what both say, each says
pub both : (a b : Bool) → true ≡ (a && b) → (a ≡ true) × (b ≡ true)
both true true e = (refl, refl)
both true false e = absurd cc
both false b e = absurd cc

-- An option that the word doesn't give stays as it is.

skip-free-at : (free may : Bool) (begins : Bool) → begins ≡ false → free ≡ (free && not (begins && may))
skip-free-at true may true e = absurd cc
skip-free-at true may false e = refl
skip-free-at false may begins e = refl

pub skip_free : (form : Form) (free : Bool) (word : List ℕ) → begins_with form.key word ≡ false → free ≡ (free && not (gives form word))
skip_free form free word e = skip-free-at free (form.may (drop (length form.key) word)) (begins_with form.key word) e

skip-number-at : (free begins : Bool) (value given later : ℕ) → begins ≡ false → (if free then (if begins then given else later) else value) ≡ (if free then later else value)
skip-number-at true true value given later e = absurd cc
skip-number-at true false value given later e = refl
skip-number-at false begins value given later e = refl

pub skip_number : (key : List ℕ) (free : Bool) (value : ℕ) (word : List ℕ) (words : List (List ℕ)) → begins_with key word ≡ false → number_after key free value (word ∷ words) ≡ number_after key free value words
skip_number key free value word words e = skip-number-at free (begins_with key word) value _ _ e

skip-flag-at : (free begins value given later : Bool) → begins ≡ false → (if free then (if begins then given else later) else value) ≡ (if free then later else value)
skip-flag-at true true value given later e = absurd cc
skip-flag-at true false value given later e = refl
skip-flag-at false begins value given later e = refl

pub skip_flag : (key : List ℕ) (free value : Bool) (word : List ℕ) (words : List (List ℕ)) → begins_with key word ≡ false → flag_after key free value (word ∷ words) ≡ flag_after key free value words
skip_flag key free value word words e = skip-flag-at free (begins_with key word) value _ _ e

-- One that it gives is taken.

take-free-at : (free given now : Bool) → true ≡ (free && given) → now ≡ false → now ≡ (free && not given)
take-free-at true true now e n = n
take-free-at true false now e n = absurd cc
take-free-at false given now e n = absurd cc

pub take_free : (form : Form) (free now : Bool) (word : List ℕ) → true ≡ (free && gives form word) → now ≡ false → now ≡ (free && not (gives form word))
take_free form free now word e n = take-free-at free (gives form word) now e n

-- the word begins with the key of the option that it gives
pub begins : (form : Form) (free : Bool) (word : List ℕ) → true ≡ (free && gives form word) → begins_with form.key word ≡ true
begins form free word e = (both (begins_with form.key word) (form.may (drop (length form.key) word)) (sym (both free (gives form word) e).1)).0

take-number-at : (free now begins : Bool) (value taken given later other : ℕ) → free ≡ true → begins ≡ true → now ≡ false → taken ≡ given → (if free then (if begins then given else later) else value) ≡ (if now then other else taken)
take-number-at true true begins value taken given later other f b n e = absurd cc
take-number-at true false true value taken given later other f b n e = sym e
take-number-at true false false value taken given later other f b n e = absurd cc
take-number-at false now begins value taken given later other f b n e = absurd cc

pub take_number : (form : Form) (free now : Bool) (value taken : ℕ) (word : List ℕ) (words : List (List ℕ)) → true ≡ (free && gives form word) → now ≡ false →
    taken ≡ digits_value (drop (length form.key) word) → number_after form.key free value (word ∷ words) ≡ number_after form.key now taken words
take_number form free now value taken word words e n is = take-number-at free now (begins_with form.key word) value taken _ _ _ (both free (gives form word) e).0 (begins form free word e) n is

take-flag-at : (free now begins value taken given later other : Bool) → free ≡ true → begins ≡ true → now ≡ false → taken ≡ given → (if free then (if begins then given else later) else value) ≡ (if now then other else taken)
take-flag-at true true begins value taken given later other f b n e = absurd cc
take-flag-at true false true value taken given later other f b n e = sym e
take-flag-at true false false value taken given later other f b n e = absurd cc
take-flag-at false now begins value taken given later other f b n e = absurd cc

pub take_flag : (form : Form) (free now value taken : Bool) (word : List ℕ) (words : List (List ℕ)) → true ≡ (free && gives form word) → now ≡ false →
    taken ≡ is_yes (drop (length form.key) word) → flag_after form.key free value (word ∷ words) ≡ flag_after form.key now taken words
take_flag form free now value taken word words e n is = take-flag-at free now (begins_with form.key word) value taken _ _ _ (both free (gives form word) e).0 (begins form free word e) n is

-- The options that are left.

kept-or-not : (given : Bool) (form : Form) (rest : List Form) → (if given then rest else form ∷ rest) ≡ form_if (not given) form ++ rest
kept-or-not true form rest = refl
kept-or-not false form rest = refl

others_first : (free : Bool) (form : Form) (rest : List Form) (word : List ℕ) → others (form_if free form ++ rest) word ≡ form_if (free && not (gives form word)) form ++ others rest word
others_first true form rest word = kept-or-not (gives form word) form (others rest word)
others_first false form rest word = refl

kept-alone : (given : Bool) (form : Form) → (if given then [] else form ∷ []) ≡ form_if (not given) form
kept-alone true form = refl
kept-alone false form = refl

others_last : (free : Bool) (form : Form) (word : List ℕ) → others (form_if free form) word ≡ form_if (free && not (gives form word)) form
others_last true form word = kept-alone (gives form word) form
others_last false form word = refl

-- the options from one on, of which the first is free or not, where those behind it are known
left_from : (first now : Bool) (form : Form) (rest left : List Form) (word : List ℕ) → now ≡ (first && not (gives form word)) → left ≡ others rest word → form_if now form ++ left ≡ others (form_if first form ++ rest) word
left_from first now form rest left word is e =
    ap (λ (free : Bool). form_if free form ++ left) is ∙ ap (λ (fs : List Form). form_if (first && not (gives form word)) form ++ fs) e ∙ sym (others_first first form rest word)

pub others_left : (o : Options) (m w n l t : Bool) (word : List ℕ) → m ≡ (o.modes.free && not (gives modes_form word)) → w ≡ (o.workers.free && not (gives workers_form word)) →
    n ≡ (o.nodes.free && not (gives nodes_form word)) → l ≡ (o.log.free && not (gives log_form word)) → t ≡ (o.tries.free && not (gives tries_form word)) →
    form_if m modes_form ++ (form_if w workers_form ++ (form_if n nodes_form ++ (form_if l log_form ++ form_if t tries_form))) ≡ others (free_forms o) word
others_left o m w n l t word ms ws ns ls ts =
    left_from o.modes.free m modes_form _ _ word ms
    (left_from o.workers.free w workers_form _ _ word ws
    (left_from o.nodes.free n nodes_form _ _ word ns
    (left_from o.log.free l log_form _ _ word ls
    (ap (λ (free : Bool). form_if free tries_form) ts ∙ sym (others_last o.tries.free tries_form word)))))

-- A word that begins with the key of one option begins with no other.

-- the word doesn't begin with the key of the option
abbrev pub Avoids : List ℕ → Form → Type 0
Avoids word form = begins_with form.key word ≡ false

pub only_modes : (word : List ℕ) → begins_with (codes "modes=") word ≡ true → Avoids word workers_form × Avoids word nodes_form × Avoids word log_form × Avoids word tries_form
only_modes word is = (
  other_key word (codes "modes=") (codes "workers=") (omega arith) (omega arith) (λ e. omega arith) is,
  other_key word (codes "modes=") (codes "nodes=") (omega arith) (omega arith) (λ e. omega arith) is,
  other_key word (codes "modes=") (codes "log=") (omega arith) (omega arith) (λ e. omega arith) is,
  other_key word (codes "modes=") (codes "tries=") (omega arith) (omega arith) (λ e. omega arith) is,
)

pub only_workers : (word : List ℕ) → begins_with (codes "workers=") word ≡ true → Avoids word modes_form × Avoids word nodes_form × Avoids word log_form × Avoids word tries_form
only_workers word is = (
  other_key word (codes "workers=") (codes "modes=") (omega arith) (omega arith) (λ e. omega arith) is,
  other_key word (codes "workers=") (codes "nodes=") (omega arith) (omega arith) (λ e. omega arith) is,
  other_key word (codes "workers=") (codes "log=") (omega arith) (omega arith) (λ e. omega arith) is,
  other_key word (codes "workers=") (codes "tries=") (omega arith) (omega arith) (λ e. omega arith) is,
)

pub only_nodes : (word : List ℕ) → begins_with (codes "nodes=") word ≡ true → Avoids word modes_form × Avoids word workers_form × Avoids word log_form × Avoids word tries_form
only_nodes word is = (
  other_key word (codes "nodes=") (codes "modes=") (omega arith) (omega arith) (λ e. omega arith) is,
  other_key word (codes "nodes=") (codes "workers=") (omega arith) (omega arith) (λ e. omega arith) is,
  other_key word (codes "nodes=") (codes "log=") (omega arith) (omega arith) (λ e. omega arith) is,
  other_key word (codes "nodes=") (codes "tries=") (omega arith) (omega arith) (λ e. omega arith) is,
)

pub only_log : (word : List ℕ) → begins_with (codes "log=") word ≡ true → Avoids word modes_form × Avoids word workers_form × Avoids word nodes_form × Avoids word tries_form
only_log word is = (
  other_key word (codes "log=") (codes "modes=") (omega arith) (omega arith) (λ e. omega arith) is,
  other_key word (codes "log=") (codes "workers=") (omega arith) (omega arith) (λ e. omega arith) is,
  other_key word (codes "log=") (codes "nodes=") (omega arith) (omega arith) (λ e. omega arith) is,
  other_key word (codes "log=") (codes "tries=") (omega arith) (omega arith) (λ e. omega arith) is,
)

pub only_tries : (word : List ℕ) → begins_with (codes "tries=") word ≡ true → Avoids word modes_form × Avoids word workers_form × Avoids word nodes_form × Avoids word log_form
only_tries word is = (
  other_key word (codes "tries=") (codes "modes=") (omega arith) (omega arith) (λ e. omega arith) is,
  other_key word (codes "tries=") (codes "workers=") (omega arith) (omega arith) (λ e. omega arith) is,
  other_key word (codes "tries=") (codes "nodes=") (omega arith) (omega arith) (λ e. omega arith) is,
  other_key word (codes "tries=") (codes "log=") (omega arith) (omega arith) (λ e. omega arith) is,
)
