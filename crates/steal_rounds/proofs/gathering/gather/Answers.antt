use Rattle.std.proofs.Common.{◌≡◌, ◌∙◌, ℕ, ◌++◌, ◌∷◌, [], sym, ap, subst, List, length, append-nil, append_assoc, map, Option, None}
use Rattle.std.specs.Prelude.{IfSome}
use Rattle.rcpsp_model.specs.declared.parts.Placing.{Placing}
use Rattle.search_log.specs.Weights.{Each}
use Rattle.search_table.specs.declared.view.PassView.{PassView}
use Rattle.node_sources.specs.Source.{SourceState}
use Rattle.node_sources.specs.Seats.{AreSeated}
use Rattle.steal_rounds.specs.declared.member.Member.{Member}
use Rattle.round_shares.specs.Crew.{starts_from, crew_part}
use Rattle.steal_rounds.specs.Lists.{new_part}
use Rattle.steal_rounds.specs.Whole.{whole_state, worked, IsShort, IsOfTable, IsSound, AddsMember, AddsLeft, source_of, joined_views, all_cited, ArePublishedBy, best_plan}
use Rattle.steal_rounds.proofs.JoinedMembers.{joined_parts}
use Rattle.steal_rounds.proofs.GatheredParts.{short-better, gathers, none-dropped, sources-all, whole-all}
use Rattle.steal_rounds.proofs.gathering.gather.Goals as goal

pub loop-member-preserved : goal.loop-member-preserved
loop-member-preserved c =
    let v = c.loop-member.invariant in
    let starts = c.in_ok-starts.starts.items in
    let m = c.in-Some.member in
    let rest = c.pop_front.new.self.items in
    let cons : c.loop-member.members.items ≡ m ∷ rest = c.in-Some.ensures.items in
    let a = c.in_ok-add_member.ensures in
    let adds = subst (λ (ps : List ℕ). AddsMember c.args.project.now ps m c.loop-member.whole c.add_member.new.whole) c.as_slice-in-Some.ensures.value a.joined in
    let g = gathers c.args.project.now starts c.loop-member.whole c.add_member.new.whole m rest adds in
    let passes = subst (Each (IsOfTable c.args.words.now)) cons v.passes in
    let plans = subst (Each (λ (x : Member). IsSound x → IfSome x.worker.plan (IsShort c.args.project.now))) cons v.plans in
    record {
      table = a.table ∙ v.table;
      passes = passes.1;
      plans = plans.1;
      view = ap (λ (u : PassView). joined_views u rest) a.view ∙ (sym (ap (joined_views c.loop-member.first.view) cons) ∙ v.view);
      sound = λ others. v.sound (subst (Each IsSound) (sym cons) (a.sound, others));
      short = subst (λ (p : Option (List Placing)). IfSome p (IsShort c.args.project.now)) (sym a.joined.plan) (short-better c.args.project.now c.loop-member.whole.plan m.worker.plan v.short (plans.0 a.sound));
      lists = g.lists ∙ (sym (ap (joined_parts starts (whole_state c.loop-member.whole)) cons) ∙ v.lists);
      cited = g.cited ∙ (sym (ap (λ (ms : List Member). c.loop-member.whole.cited.items ++ all_cited ms) cons) ∙ v.cited);
      published = λ ps are.
          let q = g.published ps are in
          subst (ArePublishedBy 0 c.from-members.result.items) (sym q.2) (v.published q.0 (subst (λ (ms : List Member). ArePublishedBy (length c.loop-member.whole.made.items) ms q.0) (sym cons) q.1));
      sources = ap (λ (xs : List SourceState). xs ++ map source_of rest) a.source
          ∙ (append_assoc c.loop-member.sources.items (source_of m ∷ []) (map source_of rest) ∙ (sym (ap (λ (ms : List Member). c.loop-member.sources.items ++ map source_of ms) cons) ∙ v.sources));
      plan = g.plan ∙ (sym (ap (best_plan c.args.project.now c.loop-member.whole.plan) cons) ∙ v.plan);
    }

pub add_all_left-requires : goal.add_all_left-requires
add_all_left-requires c =
    let v = c.loop-member.invariant in
    let none = none-dropped c.loop-member.members.items c.pop_front.new.self.items c.in_default.ensures.items c.in_default.ensures.rest in
    let all : c.from-members.result.items ≡ c.args.members.items = c.from-members.ensures.0 in
    subst AreSeated (sym (sources-all c.loop-member.sources.items c.loop-member.members.items c.from-members.result.items c.args.members.items none v.sources all)) c.requires.sources

pub returns-clause-whole : goal.returns-clause-whole
returns-clause-whole c =
    let v = c.loop-member.invariant in
    let starts = c.in_ok-starts.starts.items in
    let w = c.loop-member.whole in
    let members = c.args.members.items in
    let none = none-dropped c.loop-member.members.items c.pop_front.new.self.items c.in_default.ensures.items c.in_default.ensures.rest in
    let all : c.from-members.result.items ≡ members = c.from-members.ensures.0 in
    let a = subst (λ (ps : List ℕ). AddsLeft ps c.loop-member.sources.items w.left.items c.add_all_left.new.left.items) c.as_slice-3.ensures.value c.in_ok-add_all_left.ensures in
    let sources = sources-all c.loop-member.sources.items c.loop-member.members.items c.from-members.result.items members none v.sources all in
    let both = whole-all starts (whole_state w) c.add_all_left.new.left.items members c.loop-member.sources.items (sym (ap (joined_parts starts (whole_state w)) none) ∙ (v.lists ∙ ap (joined_parts starts (new_part [])) all)) sources a in
    record {
      settled = a.settled;
      is_settled = both.0;
      lists = both.1
          ∙ ap (λ (ps : List ℕ). crew_part ps (map worked members) a.settled.rest) (c.in_ok-starts.ensures ∙ ap (λ (ms : List Member). starts_from c.args.table (map worked ms)) c.as_slice.ensures.value);
      cited = sym (append-nil w.cited.items) ∙ (sym (ap (λ (ms : List Member). w.cited.items ++ all_cited ms) none) ∙ (v.cited ∙ ap all_cited all));
      published = subst (ArePublishedBy 0 c.args.members.items) (append-nil w.published.items)
          (subst (λ (ms : List Member). ArePublishedBy 0 ms (w.published.items ++ [])) all (v.published [] (subst (λ (ms : List Member). ArePublishedBy (length w.made.items) ms []) (sym none) tt)));
      plan = sym (ap (best_plan c.args.project.now w.plan) none) ∙ (v.plan ∙ ap (best_plan c.args.project.now None) all);
    }
