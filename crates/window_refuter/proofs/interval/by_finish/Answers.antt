use Rattle.std.proofs.Common.{◌≡◌, ℕ, ◌+◌, arith, sym, ap, subst, rules, ◌∙◌, map, List, ◌++◌, ◌∷◌, []}
use Rattle.std.specs.List.Sorted.{IsPermutation}
use Rattle.std.proofs.lemmas.List.Sorted.{IsNonDecreasingBy-from_sort_by_key}
use Rattle.rcpsp_model.specs.Project.{numbers_from, jobs, job_count}
use Rattle.window_refuter.specs.declared.window.Window.{Window}
use Rattle.window_refuter.specs.declared.interval.Due.{Due}
use Rattle.window_refuter.specs.Dues.{due_of}
use Rattle.window_refuter.proofs.DueSums.{dues-next}
use Rattle.window_refuter.proofs.interval.by_finish.Goals as goal

pub loop-done-preserved : goal.loop-done-preserved
loop-done-preserved c =
    let own : record { job = c.loop-done.done + 1; latest_finish = c.window-latest_finish.result.latest_finish } ≡ due_of c.args.windows.now (c.loop-done.done + 1) = ap (λ (w : Window). record { job = c.loop-done.done + 1; latest_finish = w.latest_finish }) c.window-latest_finish.ensures in
    c.in_ok-push.ensures.items
    ∙ ap (λ (xs : List Due). xs ++ record { job = c.loop-done.done + 1; latest_finish = c.window-latest_finish.result.latest_finish } ∷ []) c.loop-done.invariant
    ∙ ap (λ (d : Due). map (due_of c.args.windows.now) (numbers_from 1 c.loop-done.done) ++ d ∷ []) own
    ∙ sym (dues-next c.args.windows.now c.loop-done.done)

pub returns : goal.returns
returns c =
    let count : c.loop-done.done ≡ job_count c.args.project.now = (let value = c.jobs-done-end.ensures.value in let past = c.loop-done-test.false in let within = c.loop-done.auto.done-end in omega arith) in
    let all : c.loop-done.dues.items ≡ map (due_of c.args.windows.now) (jobs c.args.project.now) = c.loop-done.invariant ∙ ap (λ (n : ℕ). map (due_of c.args.windows.now) (numbers_from 1 n)) count in
    record {
      jobs = subst (λ (xs : List Due). IsPermutation xs c.sort_unstable_by_key.new.self.items) all c.sort_unstable_by_key.ensures.permutation;
      sorted = IsNonDecreasingBy-from_sort_by_key (λ (d : Due). d.latest_finish) _ c.sort_unstable_by_key.ensures.sorted (λ a r q k. search rules);
    }
