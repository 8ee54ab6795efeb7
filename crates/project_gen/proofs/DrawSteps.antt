-- Words drawn one after another: what is left of a stream, and what is drawn of what is left.
use Rattle.std.proofs.Common.{◌≡◌, ℕ, zero, suc, ◌+◌, ◌-◌, ◌*◌, ◌%◌, Bool, true, false, cond, List, [], ◌∷◌, ◌++◌, map, Result, Ok, Err, refl, sym, ap, ◌∙◌, arith, zero-mul}
use Rattle.std.specs.Prelude.{IfOk}
use Rattle.std.specs.List.{range_with_len}
use Rattle.std.proofs.lemmas.List.FromFn.{map-range_with_len_more}
use Rattle.rand_core.specs.Stream.{Stream, next_u32}
use Rattle.sched_base.specs.declared.faults.NoMemory.{NoMemory}
use Rattle.rcpsp_model.specs.declared.parts.Mode.{Mode}
use Rattle.project_gen.specs.declared.drawing.Predecessors.{Predecessors}
use Rattle.project_gen.specs.Draws.{after, draw, two_draws}
use Rattle.project_gen.specs.Made.{has_budgets, need_words, mode_words, drawn_needs, drawn_mode, drawn_modes, drawn_predecessors, idle_mode}

after-add : (k i : ℕ) (s : Stream) → after i (after k s) ≡ after (k + i) s
unfolding after
after-add zero i s = ap (λ (n : ℕ). after n s) (let e : i ≡ 0 + i = omega arith in e)
after-add (suc k) i s = after-add k i (next_u32 s).1 ∙ ap (λ (n : ℕ). after n s) (let e : suc (k + i) ≡ suc k + i = omega arith in e)

-- what is left after some words and then some more
pub left_after : (s t u : Stream) (i k n : ℕ) → t ≡ after i s → u ≡ after k t → i + k ≡ n → u ≡ after n s
left_after s t u i k n a b e = b ∙ ap (after k) a ∙ after-add i k s ∙ ap (λ (m : ℕ). after m s) e

pub left_none : (s : Stream) → s ≡ after 0 s
unfolding after
left_none s = refl

-- a word drawn from what is left
draw_left : (s t : Stream) (i k n q : ℕ) → t ≡ after i s → i + k ≡ n → draw t k q ≡ draw s n q
unfolding draw
draw_left s t i k n q a e = ap (λ (r : Stream). (next_u32 r).0 % q) (ap (after k) a ∙ after-add i k s ∙ ap (λ (m : ℕ). after m s) e)

-- one word
pub drawn_word : (s t : Stream) (word q : ℕ) → (word, t) ≡ next_u32 s → word % q ≡ draw s 0 q
unfolding draw after
drawn_word s t word q e = ap (λ (p : ℕ × Stream). p.0 % q) e

pub left_word : (s t : Stream) (word : ℕ) → (word, t) ≡ next_u32 s → t ≡ after 1 s
unfolding after
left_word s t word e = ap (λ (p : ℕ × Stream). p.1) e

-- two words
pub drawn_two : (s t : Stream) (a b q : ℕ) (numbers : List ℕ) → numbers ≡ a ∷ b ∷ [] → a ≡ draw s 0 q → t ≡ after 1 s → b ≡ draw t 0 q → numbers ≡ two_draws s 0 q
unfolding two_draws
drawn_two s t a b q numbers e first left second =
    let later : b ≡ draw s 1 q = second ∙ draw_left s t 1 0 1 q left refl in
    e ∙ ap (λ (x : ℕ). x ∷ b ∷ []) first ∙ ap (λ (y : ℕ). draw s 0 q ∷ y ∷ []) later

two_left : (s t : Stream) (i k n q : ℕ) → t ≡ after i s → i + k ≡ n → two_draws t k q ≡ two_draws s n q
unfolding two_draws
two_left s t i k n q a e =
    ap (λ (x : ℕ). x ∷ draw t (k + 1) q ∷ []) (draw_left s t i k n q a e)
    ∙ ap (λ (y : ℕ). draw s n q ∷ y ∷ []) (draw_left s t i (k + 1) (n + 1) q a (omega arith))

-- needs
pub no_needs : (M : ℕ) (s : Stream) (needs : List ℕ) → false ≡ has_budgets M → needs ≡ [] → needs ≡ drawn_needs M s 0
unfolding drawn_needs
no_needs M s needs none e = e ∙ ap (λ (b : Bool). cond b (two_draws s 0 10) []) none

pub some_needs : (M : ℕ) (s : Stream) (r : Result (List ℕ) NoMemory) → true ≡ has_budgets M → IfOk r (λ needs. needs ≡ two_draws s 0 10) → IfOk r (λ needs. needs ≡ drawn_needs M s 0)
unfolding drawn_needs
some_needs M s (Ok needs) some e = e ∙ ap (λ (b : Bool). cond b (two_draws s 0 10) []) some
some_needs M s (Err refused) some e = tt

pub no_words : (M : ℕ) (s : Stream) → false ≡ has_budgets M → s ≡ after (need_words M) s
no_words M s none = left_none s ∙ ap (λ (b : Bool). after (cond b 2 0) s) none

needs_left : (M : ℕ) (s t : Stream) (i k n : ℕ) → t ≡ after i s → i + k ≡ n → drawn_needs M t k ≡ drawn_needs M s n
unfolding drawn_needs
needs_left M s t i k n a e = ap (λ (two : List ℕ). cond (has_budgets M) two []) (two_left s t i k n 10 a e)

-- a mode
same_mode : (d d' : ℕ) (r r' n n' : List ℕ) → d ≡ d' → r ≡ r' → n ≡ n' → (let m : Mode = record { duration = d; requests = r; needs = n } in m) ≡ record { duration = d'; requests = r'; needs = n' }
same_mode d d' r r' n n' a b c = cc

pub mode_drawn : (M : ℕ) (s t u : Stream) (mode : Mode) → mode.duration ≡ 1 + draw s 0 10 → t ≡ after 1 s → mode.requests ≡ two_draws t 0 6 → u ≡ after 2 t → mode.needs ≡ drawn_needs M u 0 → mode ≡ drawn_mode M s
unfolding drawn_mode
mode_drawn M s t u mode duration first requests second needs =
    let asked : mode.requests ≡ two_draws s 1 6 = requests ∙ two_left s t 1 0 1 6 first refl in
    let needed : mode.needs ≡ drawn_needs M s 3 = needs ∙ needs_left M s u 3 0 3 (left_after s t u 1 2 3 first second refl) refl in
    same_mode mode.duration (1 + draw s 0 10) mode.requests (two_draws s 1 6) mode.needs (drawn_needs M s 3) duration asked needed

-- the modes of a job, one more
abbrev pub mode_in : ℕ → Stream → ℕ → Mode
mode_in M s m = drawn_mode M (after ((m - 1) * mode_words M) s)

pub none_yet : (M : ℕ) (s : Stream) → s ≡ after (0 * mode_words M) s
none_yet M s = left_none s ∙ ap (λ (k : ℕ). after k s) (sym (zero-mul (mode_words M)))

pub modes_more : (M : ℕ) (s t : Stream) (i : ℕ) (mode : Mode) (items more : List Mode) →
    items ≡ map (mode_in M s) (range_with_len 1 i) → t ≡ after (i * mode_words M) s → mode ≡ drawn_mode M t → more ≡ items ++ mode ∷ [] → more ≡ map (mode_in M s) (range_with_len 1 (i + 1))
modes_more M s t i mode items more before left drawn pushed =
    let here : mode ≡ mode_in M s (i + 1) = drawn ∙ ap (drawn_mode M) left ∙ ap (λ (n : ℕ). drawn_mode M (after (n * mode_words M) s)) (let e : i ≡ i + 1 - 1 = omega arith in e) in
    pushed
    ∙ ap (λ (xs : List Mode). xs ++ mode ∷ []) before
    ∙ ap (λ (m : Mode). map (mode_in M s) (range_with_len 1 i) ++ m ∷ []) here
    ∙ sym (map-range_with_len_more (mode_in M s) 1 i (i + 1) (omega arith))

pub modes_all : (M : ℕ) (s : Stream) (i : ℕ) (items : List Mode) → items ≡ map (mode_in M s) (range_with_len 1 i) → i ≡ M → items ≡ drawn_modes M s
unfolding drawn_modes
modes_all M s i items e end = e ∙ ap (λ (n : ℕ). map (mode_in M s) (range_with_len 1 n)) end

pub modes_left : (M : ℕ) (s t u : Stream) (i : ℕ) → t ≡ after (i * mode_words M) s → u ≡ after (mode_words M) t → u ≡ after ((i + 1) * mode_words M) s
modes_left M s t u i a b = left_after s t u (i * mode_words M) (mode_words M) ((i + 1) * mode_words M) a b (suc_times i (mode_words M))
  where
    suc_times : (i w : ℕ) → i * w + w ≡ (i + 1) * w
    suc_times i w = omega arith

-- the predecessors of a job
same_both : (a a' b b' : ℕ) → a ≡ a' → b ≡ b' → (let both : Predecessors = record { first = a; second = b } in both) ≡ record { first = a'; second = b' }
same_both a a' b b' f g = cc

pub predecessors_drawn : (j : ℕ) (s t : Stream) (both : Predecessors) → both.first ≡ 1 + draw s 0 (j - 1) → t ≡ after 1 s → both.second ≡ 1 + draw t 0 (j - 1) → both ≡ drawn_predecessors j s
unfolding drawn_predecessors
predecessors_drawn j s t both first left second =
    let later : both.second ≡ 1 + draw s 1 (j - 1) = second ∙ ap (λ (n : ℕ). 1 + n) (draw_left s t 1 0 1 (j - 1) left refl) in
    same_both both.first (1 + draw s 0 (j - 1)) both.second (1 + draw s 1 (j - 1)) first later

-- the mode of a job that takes nothing
pub no_idle_needs : (M : ℕ) (needs : List ℕ) → false ≡ has_budgets M → needs ≡ [] → needs ≡ cond (has_budgets M) (0 ∷ 0 ∷ []) []
no_idle_needs M needs none e = e ∙ ap (λ (b : Bool). cond b (0 ∷ 0 ∷ []) []) none

pub some_idle_needs : (M : ℕ) (needs : List ℕ) → true ≡ has_budgets M → needs ≡ 0 ∷ 0 ∷ [] → needs ≡ cond (has_budgets M) (0 ∷ 0 ∷ []) []
some_idle_needs M needs some e = e ∙ ap (λ (b : Bool). cond b (0 ∷ 0 ∷ []) []) some

pub idle_drawn : (M : ℕ) (requests needs : List ℕ) (idle : List Mode) → idle ≡ record { duration = 0; requests = requests; needs = needs } ∷ [] → requests ≡ 0 ∷ 0 ∷ [] → needs ≡ cond (has_budgets M) (0 ∷ 0 ∷ []) [] → idle ≡ idle_mode M ∷ []
unfolding idle_mode
idle_drawn M requests needs idle e asked needed = e ∙ ap (λ (m : Mode). m ∷ []) (same_mode 0 0 requests (0 ∷ 0 ∷ []) needs (cond (has_budgets M) (0 ∷ 0 ∷ []) []) refl asked needed)
