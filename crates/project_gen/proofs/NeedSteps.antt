-- The least need over the first modes, one mode further, and the needs of the first jobs together, one job further.
use Rattle.std.proofs.Common.{◌≡◌, ℕ, ◌+◌, ◌/◌, ◌<◌, ◌≤◌, min, List, [], ◌∷◌, ◌++◌, length, map, take, get_or, length-take, refl, sym, ap, ◌∙◌, arith}
use Rattle.std.specs.Prelude.{sum_by}
use Rattle.std.proofs.lemmas.List.{take_more, take_all}
use Rattle.std.proofs.lemmas.List.Sums.{sum_by_more}
use Rattle.rcpsp_model.specs.declared.parts.Mode.{Mode}
use Rattle.rcpsp_model.specs.Chain.{least_over}
use Rattle.project_net.specs.declared.draft.DraftJob.{DraftJob}
use Rattle.project_net.specs.Canonical.{greatest}
use Rattle.project_gen.specs.Made.{need_of, needs_together}
use Rattle.project_gen.specs.Drafting.{budget_in}

least_over-push : (f : Mode → ℕ) (x : Mode) (ms : List Mode) (m : Mode) → least_over f ((x ∷ ms) ++ m ∷ []) ≡ min (least_over f (x ∷ ms)) (f m)
least_over-push f x [] m = refl
least_over-push f x (y ∷ ms) m = let ih = least_over-push f y ms m in omega arith

least_over-last : (f : Mode → ℕ) (ms : List Mode) (m : Mode) → 1 ≤ length ms → least_over f (ms ++ m ∷ []) ≡ min (least_over f ms) (f m)
least_over-last f [] m h = absurd (let z : 1 ≤ 0 = h in omega arith)
least_over-last f (x ∷ ms) m h = least_over-push f x ms m

pub least-more : (f : Mode → ℕ) (ms : List Mode) (i : ℕ) (d : Mode) → 1 ≤ i → i < length ms → least_over f (take (i + 1) ms) ≡ min (least_over f (take i ms)) (f (get_or ms i d))
least-more f ms i d low high = ap (least_over f) (take_more ms i d high) ∙ least_over-last f (take i ms) (get_or ms i d) (let t = length-take i ms in omega arith)

-- one job more
pub budget-more : (l : ℕ) (jobs : List DraftJob) (i : ℕ) (job : DraftJob) (modes : List Mode) (least most : ℕ) → i < length jobs → job ≡ get_or jobs i job → modes ≡ job.modes →
    least ≡ least_over (need_of l) modes → most ≡ greatest (map (need_of l) modes) →
    sum_by (λ job. needs_together l job.modes) (take (i + 1) jobs) ≡ sum_by (λ job. needs_together l job.modes) (take i jobs) + (least + most)
unfolding needs_together
budget-more l jobs i job modes least most lt at same a b =
    sum_by_more (λ (x : DraftJob). needs_together l x.modes) jobs i job lt
    ∙ ap (λ (x : DraftJob). sum_by (λ job. needs_together l job.modes) (take i jobs) + needs_together l x.modes) (sym at)
    ∙ ap (λ (ms : List Mode). sum_by (λ job. needs_together l job.modes) (take i jobs) + needs_together l ms) (sym same)
    ∙ ap (λ (k : ℕ). sum_by (λ job. needs_together l job.modes) (take i jobs) + (k + greatest (map (need_of l) modes))) (sym a)
    ∙ ap (λ (k : ℕ). sum_by (λ job. needs_together l job.modes) (take i jobs) + (least + k)) (sym b)

pub budget-all : (l : ℕ) (jobs : List DraftJob) (i sum : ℕ) → length jobs ≤ i → sum ≡ sum_by (λ job. needs_together l job.modes) (take i jobs) → (sum + 1) / 2 ≡ budget_in jobs l
unfolding budget_in
budget-all l jobs i sum h e = ap (λ (k : ℕ). (k + 1) / 2) (e ∙ ap (λ (xs : List DraftJob). sum_by (λ job. needs_together l job.modes) xs) (take_all i jobs h))
