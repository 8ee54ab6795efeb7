-- Reading what is wanted one after the other.
use Rattle.std.proofs.Common.{◌≡◌, ℕ, suc, ◌-◌, ◌+◌, ◌<◌, List, [], ◌∷◌, ◌++◌, Result, Ok, Err, refl, sym, ap, ◌∙◌, append_assoc, arith}
use Rattle.std.proofs.lemmas.List.{append-nil}
use Rattle.psplib_lex.specs.Line.{Line}
use Rattle.psplib_layout.specs.declared.fault.Refusal.{Refusal}
use Rattle.psplib_layout.specs.declared.fault.ReadError.{ReadError}
use Rattle.psplib_layout.specs.declared.fault.ReadError.TheVariants as errors
use Rattle.psplib_layout.specs.declared.rule.Rule.{Rule}
use Rattle.psplib_layout.specs.Wanted as wanted
use Rattle.psplib_layout.specs.Wanted.{Wanted, give, number, times}
use Rattle.psplib_layout.specs.Reading.{◌>>=◌, number_in, read_wanted}
use Rattle.psplib_layout.specs.Place.{IsRefused}

-- reading one after the other
pub read_wanted->>= : {A B : Type 0} (end : ℕ) (w : Wanted A) (more : A → Wanted B) (lines : List Line) → read_wanted end (wanted.◌>>=◌ w more) lines ≡ (read_wanted end w lines >>= λ x. read_wanted end (more x.0) x.1)
read_wanted->>= end (give x) more lines = refl
read_wanted->>= {A = A} {B = B} end (number rule next) more lines = go (λ n ls. read_wanted->>= end (next n) more ls) (number_in end rule lines)
  where
    go : ((n : ℕ) (ls : List Line) → read_wanted end (wanted.◌>>=◌ (next n) more) ls ≡ (read_wanted end (next n) ls >>= λ x. read_wanted end (more x.0) x.1)) → (r : Result (ℕ × List Line) Refusal) → (r >>= λ x. read_wanted end (wanted.◌>>=◌ (next x.0) more) x.1) ≡ ((r >>= λ x. read_wanted end (next x.0) x.1) >>= λ x. read_wanted end (more x.0) x.1)
    go same (Ok x) = same x.0 x.1
    go same (Err e) = refl

-- what was read before, and what is still read
abbrev pub with_front : {A : Type 0} → List A → Result (List A × List Line) Refusal → Result (List A × List Line) Refusal
with_front front read = read >>= λ x. Ok (front ++ x.0, x.1)

pub with_one_more : {A : Type 0} (front : List A) (n : A) (read : Result (List A × List Line) Refusal) → with_front front (read >>= λ x. Ok (n ∷ x.0, x.1)) ≡ with_front (front ++ n ∷ []) read
with_one_more {A = A} front n (Ok x) = ap (λ (ns : List A). Ok (ns, x.1)) (simp append_assoc)
with_one_more front n (Err f) = refl

pub with_none_more : {A : Type 0} (front : List A) (lines : List Line) → with_front front (Ok ([], lines)) ≡ Ok (front, lines)
with_none_more {A = A} front lines = ap (λ (ns : List A). Ok (ns, lines)) (append-nil front)

-- a fault of a step is a fault of the whole
pub stops : {A X : Type 0} (e : ReadError) (front : List A) (step : Result X Refusal) (rest total : Result (List A × List Line) Refusal) → ((f : Refusal) → step ≡ Err f → rest ≡ Err f) → with_front front rest ≡ total → IsRefused e step → IsRefused e total
stops errors.NoMemory front step rest total through so_far h = tt
stops {A = A} (errors.Refused f) front step rest total through so_far h = sym so_far ∙ ap (with_front front) (through f h)

pub goes_on : {A : Type 0} (front : List A) (n : A) (rest later total : Result (List A × List Line) Refusal) → rest ≡ (later >>= λ x. Ok (n ∷ x.0, x.1)) → with_front front rest ≡ total → with_front (front ++ n ∷ []) later ≡ total
goes_on front n rest later total e so_far = sym (with_one_more front n later) ∙ ap (with_front front) (sym e) ∙ so_far

pub IsRefused->>= : {A B : Type 0} (e : ReadError) (r : Result A Refusal) (f : A → Result B Refusal) → IsRefused e r → IsRefused e (r >>= f)
IsRefused->>= errors.NoMemory r f h = tt
IsRefused->>= (errors.Refused x) r f h = rw h refl

-- one, and then others
pub first_of : {A : Type 0} (end : ℕ) (w : Wanted A) (others : A → Wanted (List A)) (lines after : List Line) (x : A) → read_wanted end w lines ≡ Ok (x, after) → read_wanted end (wanted.◌>>=◌ w (λ r. wanted.◌>>=◌ (others r) (λ rs. give (r ∷ rs)))) lines ≡ (read_wanted end (others x) after >>= λ y. Ok (x ∷ y.0, y.1))
first_of end w others lines after x h =
    read_wanted->>= end w (λ r. wanted.◌>>=◌ (others r) (λ rs. give (r ∷ rs))) lines ∙ rw h (read_wanted->>= end (others x) (λ rs. give (x ∷ rs)) after)

pub first_stops : {A B : Type 0} (end : ℕ) (w : Wanted A) (more : A → Wanted B) (lines : List Line) (f : Refusal) → read_wanted end w lines ≡ Err f → read_wanted end (wanted.◌>>=◌ w more) lines ≡ Err f
first_stops end w more lines f h = read_wanted->>= end w more lines ∙ rw h refl

-- ---- numbers

pub times_next : (end k : ℕ) (rule : Rule) (lines after : List Line) (n : ℕ) → number_in end rule lines ≡ Ok (n, after) → read_wanted end (times (suc k) rule) lines ≡ (read_wanted end (times k rule) after >>= λ x. Ok (n ∷ x.0, x.1))
times_next end k rule lines after n h = rw h (read_wanted->>= end (times k rule) (λ ns. give (n ∷ ns)) after)

pub times_stops : (end k : ℕ) (rule : Rule) (lines : List Line) (f : Refusal) → number_in end rule lines ≡ Err f → read_wanted end (times (suc k) rule) lines ≡ Err f
times_stops end k rule lines f h = rw h refl

pub times_from : (end count i : ℕ) (rule : Rule) (lines after : List Line) (n : ℕ) → i < count → number_in end rule lines ≡ Ok (n, after) → read_wanted end (times (count - i) rule) lines ≡ (read_wanted end (times (count - (i + 1)) rule) after >>= λ x. Ok (n ∷ x.0, x.1))
times_from end count i rule lines after n lt h =
    let k : count - i ≡ suc (count - (i + 1)) = omega arith in
    rw k (times_next end (count - (i + 1)) rule lines after n h)

pub times_from_stops : (end count i : ℕ) (rule : Rule) (lines : List Line) (f : Refusal) → i < count → number_in end rule lines ≡ Err f → read_wanted end (times (count - i) rule) lines ≡ Err f
times_from_stops end count i rule lines f lt h =
    let k : count - i ≡ suc (count - (i + 1)) = omega arith in
    rw k (times_stops end (count - (i + 1)) rule lines f h)

-- a fault of a step that a reader meets, as a fault of the whole
pub IsRefused-through : {A B : Type 0} (e : ReadError) (r : Result A Refusal) (whole : Result B Refusal) → ((f : Refusal) → r ≡ Err f → whole ≡ Err f) → IsRefused e r → IsRefused e whole
IsRefused-through errors.NoMemory r whole through h = tt
IsRefused-through (errors.Refused f) r whole through h = through f h
