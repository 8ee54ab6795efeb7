use Rattle.std.proofs.Common.{rules, ◌≡◌, ◌≤◌, ◌<◌, ◌+◌, ℕ, List, length, subst, sym, refl, vec_len}
use Rattle.std.proofs.lemmas.List.{with_items_is}
use Rattle.rcpsp_model.specs.Project.{numbers_from}
use Rattle.search_log.specs.Weights.{Each}
use Rattle.node_sources.specs.Source.{SourceState}
use Rattle.node_sources.specs.Settled.{AreNew}
use Rattle.node_sources.specs.Seating.{others_behind, ReachesOthers, numbers_of, ReachesMore}
use Rattle.node_sources.proofs.NewReaches.{numbered, ReachUpTo, reach-begin, reach-more, reach-all}
use Rattle.node_sources.proofs.seating.seat.Goals as goal

pub loop-index-init : goal.loop-index-init
loop-index-init c = record { len = refl; new = c.in_ok-sources.ensures.new; reach = reach-begin c.in_ok-sources.sources.items c.in_ok-sources.ensures.alone }

pub add_reaches-requires-clause-numbers : goal.add_reaches-requires-clause-numbers
add_reaches-requires-clause-numbers c =
    subst (λ (ss : List SourceState). numbers_of ss ≡ numbers_from 1 (length ss)) (sym c.deref_mut.ensures.value) (numbered 1 c.loop-index.sources.items c.loop-index.invariant.new.seated.numbers)

pub loop-index-preserved : goal.loop-index-preserved
loop-index-preserved c =
    let v = c.loop-index.invariant in
    let before : List SourceState = c.loop-index.sources.items in
    let after : List SourceState = c.add_reaches.new.sources in
    let at = c.deref_mut.ensures.value in
    let more = subst (λ (ss : List SourceState). ReachesMore c.loop-index.index (others_behind (c.loop-index.index + 1) (length ss)) ss after) at c.in_ok-add_reaches.ensures.more in
    let long : length after ≡ length before = search rules in
    let kept : length after ≡ vec_len c.loop-index.sources = search rules in
    let is = with_items_is c.loop-index.sources after kept in
    let within : c.loop-index.index < length before = search rules in
    let P = c.args.project.now in
    let dealt = c.args.dealt.items in
    record {
      len = v.len;
      new = subst (AreNew P dealt) (sym is) (c.in_ok-add_reaches.ensures.new P dealt (subst (AreNew P dealt) (sym at) v.new));
      reach = subst (ReachUpTo (c.loop-index.index + 1)) (sym is) (reach-more c.loop-index.index before after within long v.reach more);
    }

pub returns-clause-reaches : goal.returns-clause-reaches
returns-clause-reaches c =
    let many : length c.loop-index.sources.items ≡ vec_len c.args.dealt = search rules in
    let le : length c.loop-index.sources.items ≤ c.loop-index.index = search rules in
    subst (λ (n : ℕ). Each (ReachesOthers n) c.loop-index.sources.items) many (reach-all c.loop-index.index c.loop-index.sources.items le c.loop-index.invariant.new.seated.numbers c.loop-index.invariant.reach)
