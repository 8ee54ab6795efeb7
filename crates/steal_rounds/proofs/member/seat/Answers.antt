use Rattle.std.proofs.Common.{rules, ◌≡◌, ◌∙◌, ◌+◌, ◌++◌, ◌∷◌, [], ℕ, sym, ap, subst, arith, List, length-append, append_assoc, vec_len}
use Rattle.node_sources.specs.Source.{SourceState}
use Rattle.search_table.specs.declared.view.PassView.{PassView}
use Rattle.search_table.specs.PassState.{PassState}
use Rattle.search_table.specs.Lists.{Lacks}
use Rattle.search_table.specs.Views.{with_worker, worker_view}
use Rattle.steal_rounds.specs.declared.member.Member.{Member}
use Rattle.steal_rounds.specs.Members.{with_workers, AreSeated}
use Rattle.steal_rounds.proofs.SeatedMembers.{lacks-next, one-more_split, one-more_seated}
use Rattle.steal_rounds.proofs.member.seat.Goals as goal

pub split-pass-requires-clause-once : goal.split-pass-requires-clause-once
split-pass-requires-clause-once c =
    subst (λ (ks : List ℕ). Lacks ks (c.len-in-Some.result + 1)) (sym (ap (λ (v : PassView). v.split_off) c.loop-source.invariant.view))
    (lacks-next (vec_len c.loop-source.members) (c.len-in-Some.result + 1) (ap (λ (n : ℕ). n + 1) c.len-in-Some.ensures))

pub loop-source-preserved : goal.loop-source-preserved
loop-source-preserved c =
    let v = c.loop-source.invariant in
    let n : ℕ = vec_len c.loop-source.members in
    let q : ℕ = c.len-in-Some.result + 1 in
    let number : q ≡ n + 1 = ap (λ (k : ℕ). k + 1) c.len-in-Some.ensures in
    let many = c.in_ok-push.ensures.len in
    let fresh : c.new_member.result.pass.view ≡ worker_view q c.args.first.now.view =
    ap (λ (p : PassState). p.view) c.new_member.ensures.pass ∙ (c.split-pass.ensures.split_view ∙ ap (worker_view q) v.view) in
    let len = length-append v.done (c.in-Some.source ∷ []) in
    let old = v.many in
    record {
      table = c.split-pass.ensures.table ∙ v.table;
      view = c.split-pass.ensures.view ∙ (ap (with_worker q) v.view ∙ (one-more_split n q c.args.first.now.view number ∙ ap (λ (k : ℕ). with_workers k c.args.first.now.view) (sym many)));
      done = v.done ++ c.in-Some.source ∷ [];
      all = v.all ∙ (ap (λ (xs : List SourceState). v.done ++ xs) c.in-Some.ensures.items ∙ sym (append_assoc v.done (c.in-Some.source ∷ []) c.pop_front.new.self.items));
      seated = subst (λ (ms : List Member). AreSeated c.args.words.now c.args.first.now.view 1 (v.done ++ c.in-Some.source ∷ []) ms) (sym c.in_ok-push.ensures.items)
          (one-more_seated c.args.words.now c.args.first.now.view 1 v.done c.loop-source.members.items c.in-Some.source c.new_member.result q v.seated (search rules)
          (record { pass_table = ap (λ (p : PassState). p.table) c.new_member.ensures.pass ∙ (c.split-pass.ensures.split_table ∙ v.table); pass = fresh; worker = c.new_member.ensures.worker; part = c.new_member.ensures.part; source = c.new_member.ensures.source }));
      many = omega arith;
    }
