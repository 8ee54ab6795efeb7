-- Workers take their seats one after another.
use Rattle.std.proofs.Common.{◌≡◌, ℕ, zero, suc, ◌+◌, ◌≤◌, refl, sym, ap, subst, ◌∙◌, arith, List, [], ◌∷◌, ◌++◌, length}
use Rattle.std.proofs.lemmas.Bool.Decides.{nat_tests}
use Rattle.atomic_table.specs.Seated.{TableId}
use Rattle.rcpsp_model.specs.Project.{numbers_from}
use Rattle.project_net.proofs.Appended.{numbers-more}
use Rattle.search_table.specs.declared.view.PassView.{PassView}
use Rattle.search_table.specs.Lists.{Lacks}
use Rattle.search_table.specs.Views.{with_worker}
use Rattle.node_sources.specs.Source.{SourceState}
use Rattle.steal_rounds.specs.declared.member.Member.{Member}
use Rattle.steal_rounds.specs.Members.{with_workers, IsSeated, AreSeated}

-- the numbers from i on that are below q don't hold q
lacks-from : (i n q : ℕ) → i + n ≤ q → Lacks (numbers_from i n) q
lacks-from i zero q l = refl
lacks-from i (suc n) q l = grind (arith, nat_tests, lacks-from (i + 1) n q (omega arith))

pub lacks-next : (n q : ℕ) → q ≡ n + 1 → Lacks (numbers_from 1 n) q
lacks-next n q e = lacks-from 1 n q (omega arith)

-- the pass of one worker more is split off
pub one-more_split : (n q : ℕ) (v : PassView) → q ≡ n + 1 → with_worker q (with_workers n v) ≡ with_workers (n + 1) v
one-more_split n q v e =
    ap (λ (ks : List ℕ). record v { split_off = ks }) (ap (λ (k : ℕ). numbers_from 1 n ++ k ∷ []) (let same : q ≡ 1 + n = omega arith in same) ∙ sym (numbers-more 1 n))

-- and the worker sits down behind the others
pub one-more_seated : (table : TableId) (v : PassView) (number : ℕ) (ss : List SourceState) (ms : List Member) (s : SourceState) (m : Member) (q : ℕ) → AreSeated table v number ss ms → q ≡ number + length ms → IsSeated table v q s m →
    AreSeated table v number (ss ++ s ∷ []) (ms ++ m ∷ [])
one-more_seated table v number [] [] s m q all e is = (let same : q ≡ number = omega arith in subst (λ (k : ℕ). IsSeated table v k s m) same is, tt)
one-more_seated table v number [] (x ∷ ms) s m q all e is = absurd all
one-more_seated table v number (t ∷ ss) [] s m q all e is = absurd all
one-more_seated table v number (t ∷ ss) (x ∷ ms) s m q all e is = (all.0, one-more_seated table v (number + 1) ss ms s m q all.1 (omega arith) is)
