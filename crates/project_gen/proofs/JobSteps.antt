-- Jobs drawn one after another.
use Rattle.std.proofs.Common.{◌≡◌, ℕ, ◌+◌, ◌-◌, ◌*◌, ◌<◌, ◌≤◌, Bool, false, cond, ◌&&◌, List, [], ◌∷◌, ◌++◌, map, refl, sym, ap, ◌∙◌, arith, zero-mul}
use Rattle.std.specs.Prelude.{nat_lt}
use Rattle.std.specs.List.{range_with_len}
use Rattle.std.proofs.lemmas.Bool.{lt-ltb, le-ltb, and_right}
use Rattle.std.proofs.lemmas.List.FromFn.{map-range_with_len_more}
use Rattle.rand_core.specs.Stream.{Stream}
use Rattle.rcpsp_model.specs.declared.parts.Mode.{Mode}
use Rattle.project_gen.specs.declared.drawing.Drawn.{Drawn}
use Rattle.project_gen.specs.declared.drawing.Predecessors.{Predecessors}
use Rattle.project_gen.specs.Draws.{after}
use Rattle.project_gen.specs.Made.{mode_words, job_words, drawn_modes, drawn_predecessors, idle_mode, words_of_job, made_predecessors, made_modes}
use Rattle.project_gen.specs.Drafting.{AreDrawn}
use Rattle.project_gen.proofs.DrawSteps.{left_after, left_none}

-- what is drawn before a job: the predecessors of the jobs from 2 on, and the modes of those from 1 on
pub record AreDrawnBefore (n M : ℕ) (s : Stream) (job : ℕ) (t : Stream) (pairs : List Predecessors) (lists : List (List Mode)) : Type 0 where
  pub words : t ≡ words_of_job M s job
  pub predecessors : pairs ≡ map (made_predecessors M s) (range_with_len 2 (job - 2))
  pub modes : lists ≡ map (made_modes n M s) (range_with_len 1 (job - 1))

if_inner : (n j : ℕ) (a b : List Mode) → 1 < j → j < n → cond (nat_lt 1 j && nat_lt j n) a b ≡ a
if_inner n j a b low high = ap (λ (x : Bool). cond (x && nat_lt j n) a b) (lt-ltb 1 j low) ∙ ap (λ (x : Bool). cond x a b) (lt-ltb j n high)

if_last : (n : ℕ) (a b : List Mode) → cond (nat_lt 1 n && nat_lt n n) a b ≡ b
if_last n a b = ap (λ (x : Bool). cond (nat_lt 1 n && x) a b) (le-ltb n n (omega arith)) ∙ ap (λ (x : Bool). cond x a b) (and_right (nat_lt 1 n) false refl)

inner_modes : (n M : ℕ) (s : Stream) (j : ℕ) → 1 < j → j < n → made_modes n M s j ≡ drawn_modes M (after 2 (words_of_job M s j))
unfolding made_modes
inner_modes n M s j low high = if_inner n j (drawn_modes M (after 2 (words_of_job M s j))) (idle_mode M ∷ []) low high

first_modes : (n M : ℕ) (s : Stream) → made_modes n M s 1 ≡ idle_mode M ∷ []
unfolding made_modes
first_modes n M s = refl

last_modes : (n M : ℕ) (s : Stream) → made_modes n M s n ≡ idle_mode M ∷ []
unfolding made_modes
last_modes n M s = if_last n (drawn_modes M (after 2 (words_of_job M s n))) (idle_mode M ∷ [])

first_words : (M : ℕ) (s : Stream) → s ≡ words_of_job M s 2
unfolding words_of_job
first_words M s = left_none s ∙ ap (λ (k : ℕ). after k s) (sym (zero-mul (job_words M)))

next_words : (M : ℕ) (s t u v : Stream) (j : ℕ) → 2 ≤ j → t ≡ words_of_job M s j → u ≡ after 2 t → v ≡ after (M * mode_words M) u → v ≡ words_of_job M s (j + 1)
unfolding words_of_job
next_words M s t u v j low a b c =
    let w = job_words M in
    let rest = left_after t u v 2 (M * mode_words M) w b c refl in
    left_after s t v ((j - 2) * w) w ((j + 1 - 2) * w) a rest (one_more (j - 2) (j + 1 - 2) w (omega arith))
  where
    one_more : (i k w : ℕ) → k ≡ i + 1 → i * w + w ≡ k * w
    one_more i k w e = let times : (i + 1) * w ≡ k * w = ap (λ (x : ℕ). x * w) (sym e) in omega arith

-- before job 2
pub drawn_first : (n M : ℕ) (s : Stream) (predecessors : List Predecessors) (modes : List (List Mode)) (before : List (List Mode)) (idle : List Mode) →
    predecessors ≡ [] → before ≡ [] → modes ≡ before ++ idle ∷ [] → idle ≡ idle_mode M ∷ [] → AreDrawnBefore n M s 2 s predecessors modes
drawn_first n M s predecessors modes before idle none empty pushed e = record {
  words = first_words M s;
  predecessors = none;
  modes =
      pushed
      ∙ ap (λ (xs : List (List Mode)). xs ++ idle ∷ []) empty
      ∙ ap (λ (ms : List Mode). ms ∷ []) (e ∙ sym (first_modes n M s));
}

-- one job more
pub drawn_more : (n M : ℕ) (s : Stream) (j : ℕ) (t u v : Stream) (predecessors predecessors' : List Predecessors) (modes modes' : List (List Mode)) (both : Predecessors) (drawn : List Mode) →
    2 ≤ j → j < n → AreDrawnBefore n M s j t predecessors modes →
    both ≡ drawn_predecessors j t → u ≡ after 2 t → predecessors' ≡ predecessors ++ both ∷ [] →
    drawn ≡ drawn_modes M u → v ≡ after (M * mode_words M) u → modes' ≡ modes ++ drawn ∷ [] →
    AreDrawnBefore n M s (j + 1) v predecessors' modes'
unfolding made_predecessors
drawn_more n M s j t u v predecessors predecessors' modes modes' both drawn low high before first left pushed second rest pushed' =
    let here : both ≡ made_predecessors M s j = first ∙ ap (drawn_predecessors j) before.words in
    let now : drawn ≡ made_modes n M s j =
    second ∙ ap (drawn_modes M) (left ∙ ap (after 2) before.words) ∙ sym (inner_modes n M s j (omega arith) high) in
    let one : j - 2 + 1 ≡ j + 1 - 2 = omega arith in
    let two : j - 1 + 1 ≡ j + 1 - 1 = omega arith in
    record {
      words = next_words M s t u v j low before.words left rest;
      predecessors =
          pushed
          ∙ ap (λ (xs : List Predecessors). xs ++ both ∷ []) before.predecessors
          ∙ ap (λ (x : Predecessors). map (made_predecessors M s) (range_with_len 2 (j - 2)) ++ x ∷ []) here
          ∙ sym (map-range_with_len_more (made_predecessors M s) 2 (j - 2) j (omega arith))
          ∙ ap (λ (k : ℕ). map (made_predecessors M s) (range_with_len 2 k)) one;
      modes =
          pushed'
          ∙ ap (λ (xs : List (List Mode)). xs ++ drawn ∷ []) before.modes
          ∙ ap (λ (x : List Mode). map (made_modes n M s) (range_with_len 1 (j - 1)) ++ x ∷ []) now
          ∙ sym (map-range_with_len_more (made_modes n M s) 1 (j - 1) j (omega arith))
          ∙ ap (λ (k : ℕ). map (made_modes n M s) (range_with_len 1 k)) two;
    }

-- the last job
pub all_drawn : (n M : ℕ) (s : Stream) (j : ℕ) (t : Stream) (pairs : List Predecessors) (lists lists' : List (List Mode)) (idle : List Mode) (drawn : Drawn) → 1 ≤ n → j ≡ n →
    AreDrawnBefore n M s j t pairs lists → drawn.predecessors ≡ pairs → idle ≡ idle_mode M ∷ [] → lists' ≡ lists ++ idle ∷ [] → drawn.modes ≡ lists' → AreDrawn n M s drawn
all_drawn n M s j t pairs lists lists' idle drawn some last before first e pushed second = record {
  predecessors = first ∙ before.predecessors ∙ ap (λ (k : ℕ). map (made_predecessors M s) (range_with_len 2 (k - 2))) last;
  modes =
      second
      ∙ pushed
      ∙ ap (λ (xs : List (List Mode)). xs ++ idle ∷ []) before.modes
      ∙ ap (λ (k : ℕ). map (made_modes n M s) (range_with_len 1 (k - 1)) ++ idle ∷ []) last
      ∙ ap (λ (x : List Mode). map (made_modes n M s) (range_with_len 1 (n - 1)) ++ x ∷ []) (e ∙ sym (last_modes n M s))
      ∙ sym (map-range_with_len_more (made_modes n M s) 1 (n - 1) n (omega arith))
      ∙ ap (λ (k : ℕ). map (made_modes n M s) (range_with_len 1 k)) (let back : n - 1 + 1 ≡ n = omega arith in back);
}
