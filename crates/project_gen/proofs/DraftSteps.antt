-- From what is drawn to a draft, a step at a time.
use Rattle.std.proofs.Common.{◌≡◌, ℕ, ◌+◌, ◌-◌, ◌/◌, ◌<◌, ◌≤◌, Bool, true, false, cond, eqb, List, [], ◌∷◌, ◌++◌, length, map, get_or, filter, refl, sym, ap, ◌∙◌, arith}
use Rattle.std.specs.Prelude.{sum_by}
use Rattle.std.specs.List.{range_with_len}
use Rattle.std.proofs.lemmas.Bool.{eq-eqb, ne_eqb}
use Rattle.std.proofs.lemmas.List.{get_or_default}
use Rattle.std.proofs.lemmas.List.FromFn.{length-map-range_with_len, get_or-map-range_with_len, map-range_with_len_more}
use Rattle.rand_core.specs.Stream.{Stream}
use Rattle.rcpsp_model.specs.declared.parts.CalRow.{CalRow}
use Rattle.rcpsp_model.specs.declared.parts.Mode.{Mode}
use Rattle.project_net.specs.declared.draft.Draft.{Draft}
use Rattle.project_net.specs.declared.draft.DraftJob.{DraftJob}
use Rattle.project_net.proofs.Ranges.{filter-range-same}
use Rattle.project_gen.specs.declared.drawing.Drawn.{Drawn}
use Rattle.project_gen.specs.declared.drawing.Predecessors.{Predecessors}
use Rattle.project_gen.specs.Made.{has_budgets, is_either, or_last, needs_together, made_predecessors, made_modes, followers, made_successors, made_budget}
use Rattle.project_gen.specs.Drafting.{AreDrawn, no_predecessors, followers_in, successors_in, job_in, budget_in, made_job, made_draft}
use Rattle.project_gen.proofs.Ranges.{filter_range-yes, filter_range-no, map_range-same, sum_by-map}

-- ---- the jobs that follow one

-- whether a job of a list that begins with job 2 follows job i
abbrev pub follows_in : List Predecessors → ℕ → ℕ → Bool
follows_in all i j = is_either i (get_or all (j - 2) no_predecessors)

abbrev pub found_before : List Predecessors → ℕ → ℕ → List ℕ
found_before all i place = filter (follows_in all i) (range_with_len 2 place)

follows_at : (all : List Predecessors) (i place : ℕ) (d : Predecessors) → place < length all → follows_in all i (2 + place) ≡ is_either i (get_or all place d)
follows_at all i place d lt =
    ap (λ (k : ℕ). is_either i (get_or all k no_predecessors)) (let back : 2 + place - 2 ≡ place = omega arith in back)
    ∙ ap (is_either i) (get_or_default all place no_predecessors d lt)

-- the next job follows, or doesn't
pub found_more : (all : List Predecessors) (i place job : ℕ) (d : Predecessors) (b : Bool) (items more : List ℕ) → place < length all → b ≡ is_either i (get_or all place d) → b ≡ true → job ≡ place + 2 →
    items ≡ found_before all i place → more ≡ items ++ job ∷ [] → more ≡ found_before all i (place + 1)
found_more all i place job d b items more lt test follows number before pushed =
    let e : 2 + place ≡ job = omega arith in
    pushed
    ∙ ap (λ (xs : List ℕ). xs ++ job ∷ []) before
    ∙ sym (filter_range-yes (follows_in all i) 2 place job e (ap (follows_in all i) (sym e) ∙ follows_at all i place d lt ∙ sym test ∙ follows))

pub found_same : (all : List Predecessors) (i place : ℕ) (d : Predecessors) (b : Bool) (items : List ℕ) → place < length all → b ≡ is_either i (get_or all place d) → b ≡ false →
    items ≡ found_before all i place → items ≡ found_before all i (place + 1)
found_same all i place d b items lt test differs before =
    before ∙ sym (filter_range-no (follows_in all i) 2 place (2 + place) refl (follows_at all i place d lt ∙ sym test ∙ differs))

pub found_all : (all : List Predecessors) (i place : ℕ) (items : List ℕ) → place ≡ length all → items ≡ found_before all i place → items ≡ followers_in all i
unfolding followers_in
found_all all i place items e before = before ∙ ap (found_before all i) e

-- ---- the successors of one

pub last_without : (n : ℕ) (all : List Predecessors) (i : ℕ) (found : List ℕ) → i ≡ n → found ≡ [] → found ≡ successors_in n all i
unfolding successors_in
last_without n all i found e none = none ∙ ap (λ (b : Bool). cond b [] (or_last n (followers_in all i))) (sym (eq-eqb i n e))

others_with : (n : ℕ) (all : List Predecessors) (i : ℕ) → (i ≡ n → ⊥) → or_last n (followers_in all i) ≡ successors_in n all i
unfolding successors_in
others_with n all i ne = ap (λ (b : Bool). cond b [] (or_last n (followers_in all i))) (sym (ne_eqb i n ne))

pub last_alone : (n : ℕ) (all : List Predecessors) (i : ℕ) (found more : List ℕ) → (i ≡ n → ⊥) → found ≡ followers_in all i → length found ≡ 0 → more ≡ found ++ n ∷ [] → more ≡ successors_in n all i
last_alone n all i found more ne e none pushed = pushed ∙ alone found none ∙ ap (or_last n) e ∙ others_with n all i ne
  where
    alone : (xs : List ℕ) → length xs ≡ 0 → xs ++ n ∷ [] ≡ or_last n xs
    alone [] z = refl
    alone (x ∷ xs) z = absurd (omega arith)

pub followers_alone : (n : ℕ) (all : List Predecessors) (i : ℕ) (found : List ℕ) → (i ≡ n → ⊥) → found ≡ followers_in all i → (length found ≡ 0 → ⊥) → found ≡ successors_in n all i
followers_alone n all i found ne e some = kept found some ∙ ap (or_last n) e ∙ others_with n all i ne
  where
    kept : (xs : List ℕ) → (length xs ≡ 0 → ⊥) → xs ≡ or_last n xs
    kept [] z = absurd (z refl)
    kept (x ∷ xs) z = refl

-- ---- the jobs

pub drafted_more : (n : ℕ) (all : List Predecessors) (modes : List (List Mode)) (done : ℕ) (of_job : List Mode) (successors : List ℕ) (job : ℕ) (items more : List DraftJob) →
    done < length modes → of_job ≡ get_or modes done of_job → job ≡ done + 1 → successors ≡ successors_in n all job →
    items ≡ map (job_in n all modes) (range_with_len 1 done) → more ≡ items ++ record { modes = of_job; successors = successors } ∷ [] →
    more ≡ map (job_in n all modes) (range_with_len 1 (done + 1))
unfolding job_in
drafted_more n all modes done of_job successors job items more lt at number found before pushed =
    let back : done ≡ done + 1 - 1 = omega arith in
    let here : of_job ≡ get_or modes (done + 1 - 1) [] = at ∙ get_or_default modes done of_job [] lt ∙ ap (λ (k : ℕ). get_or modes k []) back in
    let now : successors ≡ successors_in n all (done + 1) = found ∙ ap (successors_in n all) number in
    pushed
    ∙ ap (λ (xs : List DraftJob). xs ++ (let x : DraftJob = record { modes = of_job; successors = successors } in x) ∷ []) before
    ∙ ap (λ (ms : List Mode). map (job_in n all modes) (range_with_len 1 done) ++ (let x : DraftJob = record { modes = ms; successors = successors } in x) ∷ []) here
    ∙ ap (λ (js : List ℕ). map (job_in n all modes) (range_with_len 1 done) ++ (let x : DraftJob = record { modes = get_or modes (done + 1 - 1) []; successors = js } in x) ∷ []) now
    ∙ sym (map-range_with_len_more (job_in n all modes) 1 done (done + 1) (omega arith))

pub length_drafted : (n : ℕ) (all : List Predecessors) (modes : List (List Mode)) (done : ℕ) (items : List DraftJob) → items ≡ map (job_in n all modes) (range_with_len 1 done) → length items ≡ done
length_drafted n all modes done items e = ap length e ∙ length-map-range_with_len (job_in n all modes) 1 done

-- ---- what is drafted is what is made

followers-drawn : (n M : ℕ) (s : Stream) (all : List Predecessors) (i : ℕ) → all ≡ map (made_predecessors M s) (range_with_len 2 (n - 2)) → followers_in all i ≡ followers n M s i
unfolding followers_in followers
followers-drawn n M s all i e =
    let size : length all ≡ n - 2 = ap length e ∙ length-map-range_with_len (made_predecessors M s) 2 (n - 2) in
    ap (λ (k : ℕ). filter (follows_in all i) (range_with_len 2 k)) size
    ∙ filter-range-same (follows_in all i) (λ j. is_either i (made_predecessors M s j)) 2 (n - 2)
    (λ j low high.
    ap (λ (xs : List Predecessors). is_either i (get_or xs (j - 2) no_predecessors)) e
    ∙ ap (is_either i) (get_or-map-range_with_len (made_predecessors M s) 2 (n - 2) (j - 2) j no_predecessors (omega arith) (omega arith)))

successors-drawn : (n M : ℕ) (s : Stream) (all : List Predecessors) (i : ℕ) → all ≡ map (made_predecessors M s) (range_with_len 2 (n - 2)) → successors_in n all i ≡ made_successors n M s i
unfolding successors_in made_successors
successors-drawn n M s all i e = ap (λ (js : List ℕ). cond (eqb i n) [] (or_last n js)) (followers-drawn n M s all i e)

job-drawn : (n M : ℕ) (s : Stream) (drawn : Drawn) (j : ℕ) → AreDrawn n M s drawn → 1 ≤ j → j < 1 + n → job_in n drawn.predecessors drawn.modes j ≡ made_job n M s j
unfolding job_in made_job
job-drawn n M s drawn j a low high =
    let modes : get_or drawn.modes (j - 1) [] ≡ made_modes n M s j =
    ap (λ (xs : List (List Mode)). get_or xs (j - 1) []) a.modes ∙ get_or-map-range_with_len (made_modes n M s) 1 n (j - 1) j [] (omega arith) (omega arith) in
    ap (λ (ms : List Mode). (let x : DraftJob = record { modes = ms; successors = successors_in n drawn.predecessors j } in x)) modes
    ∙ ap (λ (js : List ℕ). (let x : DraftJob = record { modes = made_modes n M s j; successors = js } in x)) (successors-drawn n M s drawn.predecessors j a.predecessors)

pub length-drawn : (n M : ℕ) (s : Stream) (drawn : Drawn) → AreDrawn n M s drawn → (length drawn.modes ≡ n) × (length drawn.predecessors ≡ n - 2)
length-drawn n M s drawn a =
    (ap length a.modes ∙ length-map-range_with_len (made_modes n M s) 1 n, ap length a.predecessors ∙ length-map-range_with_len (made_predecessors M s) 2 (n - 2))

pub jobs-drawn : (n M : ℕ) (s : Stream) (drawn : Drawn) (all : List Predecessors) (jobs : List DraftJob) → AreDrawn n M s drawn → all ≡ drawn.predecessors →
    jobs ≡ map (job_in (length drawn.modes) all drawn.modes) (range_with_len 1 (length drawn.modes)) → jobs ≡ map (made_job n M s) (range_with_len 1 n)
jobs-drawn n M s drawn all jobs a same e =
    let size = (length-drawn n M s drawn a).0 in
    e
    ∙ ap (λ (k : ℕ). map (job_in k all drawn.modes) (range_with_len 1 k)) size
    ∙ ap (λ (xs : List Predecessors). map (job_in n xs drawn.modes) (range_with_len 1 n)) same
    ∙ map_range-same (job_in n drawn.predecessors drawn.modes) (made_job n M s) 1 n (λ j low high. job-drawn n M s drawn j a low high)

budget-made : (n M : ℕ) (s : Stream) (l : ℕ) (jobs : List DraftJob) → jobs ≡ map (made_job n M s) (range_with_len 1 n) → budget_in jobs l ≡ made_budget n M s l
unfolding budget_in made_budget made_job
budget-made n M s l jobs e =
    ap (λ (xs : List DraftJob). (sum_by (λ job. needs_together l job.modes) xs + 1) / 2) e
    ∙ ap (λ (k : ℕ). (k + 1) / 2) (sum_by-map (λ (job : DraftJob). needs_together l job.modes) (made_job n M s) (range_with_len 1 n))

-- the whole draft
pub draft-made : (n M : ℕ) (s : Stream) (jobs slice : List DraftJob) (capacities budgets : List ℕ) (calendar : List CalRow) →
    jobs ≡ map (made_job n M s) (range_with_len 1 n) → slice ≡ jobs → capacities ≡ 8 ∷ 8 ∷ [] → budgets ≡ cond (has_budgets M) (budget_in slice 1 ∷ budget_in slice 2 ∷ []) [] → calendar ≡ [] →
    (let d : Draft = record { jobs = jobs; capacities = capacities; budgets = budgets; calendar = calendar } in d) ≡ made_draft n M s
unfolding made_draft
draft-made n M s jobs slice capacities budgets calendar e same a b none =
    let first = budget-made n M s 1 slice (same ∙ e) in
    let second = budget-made n M s 2 slice (same ∙ e) in
    let both : budgets ≡ cond (has_budgets M) (made_budget n M s 1 ∷ made_budget n M s 2 ∷ []) [] =
    b
    ∙ ap (λ (k : ℕ). cond (has_budgets M) (k ∷ budget_in slice 2 ∷ []) []) first
    ∙ ap (λ (k : ℕ). cond (has_budgets M) (made_budget n M s 1 ∷ k ∷ []) []) second in
    same_draft jobs (map (made_job n M s) (range_with_len 1 n)) capacities (8 ∷ 8 ∷ []) budgets (cond (has_budgets M) (made_budget n M s 1 ∷ made_budget n M s 2 ∷ []) []) calendar [] e a both none
  where
    same_draft : (j j' : List DraftJob) (c c' b b' : List ℕ) (r r' : List CalRow) → j ≡ j' → c ≡ c' → b ≡ b' → r ≡ r' →
        (let d : Draft = record { jobs = j; capacities = c; budgets = b; calendar = r } in d) ≡ record { jobs = j'; capacities = c'; budgets = b'; calendar = r' }
    same_draft j j' c c' b b' r r' e f g h = cc
