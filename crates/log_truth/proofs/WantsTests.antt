-- Tests that compute whether lines break no rule, and what is wanted after them.
use Rattle.std.proofs.Common.{◌≡◌, ℕ, ◌+◌, refl, List, [], ◌∷◌, ◌++◌, Bool, true, false, ltb, ◌&&◌}
use Rattle.std.proofs.lemmas.Bool.{and_parts, ltb-true, false≢true}
use Rattle.rcpsp_model.specs.declared.parts.Verdict.{Verdict}
use Rattle.rcpsp_model.specs.Project.{Project, IsAcyclic}
use Rattle.rcpsp_model.proofs.BoundTests.{Chains}
use Rattle.proof_log.specs.declared.report.LogLine.{LogLine}
use Rattle.log_truth.specs.Log.{Branch, at_root, below}
use Rattle.log_truth.specs.Holds.{most_expanded}
use Rattle.log_truth.specs.Refusal.{IsGood, expanded_by, WantsFrom, Wants}
use Rattle.log_truth.proofs.OneRefusal.{line-parts}
use Rattle.log_truth.proofs.LineTests.{line_test, line_test-true}
use Rattle.log_truth.proofs.HoldsTests.{allowed_test, allowed_test-true}

abbrev pub good_test : Project → Chains → Verdict → ℕ → Branch → LogLine → Bool
good_test P chains v k b l = line_test P b l && (allowed_test P chains v b l && ltb k most_expanded)

good_test-true : (P : Project) (a : IsAcyclic P) (chains : Chains) (v : Verdict) (k : ℕ) (b : Branch) (l : LogLine) → good_test P chains v k b l ≡ true → IsGood P v k b l
good_test-true P a chains v k b l h =
    let x = and_parts (line_test P b l) _ h in
    let y = and_parts (allowed_test P chains v b l) (ltb k most_expanded) x.1 in
    let parts = line-parts P b l (line_test-true P b l x.0) in
    let low = ltb-true k most_expanded y.1 in
    record { named = parts.0; shut = parts.1; started = parts.2; allowed = allowed_test-true P a chains v b l y.0; few = λ e. low }

-- the branches whose logs are wanted after the lines
abbrev pub branches_after : Project → List Branch → List LogLine → List Branch
branches_after P bs [] = bs
branches_after P [] (l ∷ ls) = []
branches_after P (b ∷ bs) (l ∷ ls) = branches_after P (below P b l ++ bs) ls

abbrev pub goods_test : Project → Chains → Verdict → List Branch → ℕ → List LogLine → Bool
goods_test P chains v bs k [] = true
goods_test P chains v [] k (l ∷ ls) = false
goods_test P chains v (b ∷ bs) k (l ∷ ls) = good_test P chains v k b l && goods_test P chains v (below P b l ++ bs) (k + expanded_by l) ls

goods_test-true : (P : Project) (a : IsAcyclic P) (chains : Chains) (v : Verdict) (bs : List Branch) (k : ℕ) (ls : List LogLine) → goods_test P chains v bs k ls ≡ true →
    WantsFrom P v bs k ls (branches_after P bs ls)
goods_test-true P a chains v bs k [] h = refl
goods_test-true P a chains v [] k (l ∷ ls) h = absurd (false≢true h)
goods_test-true P a chains v (b ∷ bs) k (l ∷ ls) h =
    let x = and_parts (good_test P chains v k b l) _ h in
    (good_test-true P a chains v k b l x.0, goods_test-true P a chains v (below P b l ++ bs) (k + expanded_by l) ls x.1)

abbrev pub wants_test : Project → Chains → Verdict → List LogLine → Bool
wants_test P chains v ls = goods_test P chains v (at_root ∷ []) 0 ls

pub wants_test-true : (P : Project) (a : IsAcyclic P) (chains : Chains) (v : Verdict) (ls : List LogLine) → wants_test P chains v ls ≡ true → Wants P v ls (branches_after P (at_root ∷ []) ls)
wants_test-true P a chains v ls h = goods_test-true P a chains v (at_root ∷ []) 0 ls h
