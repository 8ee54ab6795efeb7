use Rattle.std.proofs.Common.{◌≡◌, ◌∙◌, ℕ, refl, ap, subst, arith, vec_len}
use Rattle.search_rounds.specs.Round.{IsRoundOn}
use Rattle.search_table.specs.declared.view.PassView.{PassView}
use Rattle.search_table.specs.declared.view.RoundTerms.{RoundTerms}
use Rattle.search_table.specs.Views.{first_view}
use Rattle.steal_rounds.specs.Members.{with_workers, AreSeated}
use Rattle.steal_rounds.specs.Whole.{joined_views, IsWholeOf}
use Rattle.steal_rounds.specs.Settled.{EndsAs}
use Rattle.round_shares.proofs.EndNumbers.{end-small}
use Rattle.steal_rounds.proofs.RoundWords.{if_ok-weaker}
use Rattle.steal_rounds.proofs.CrewRounds.{list-many}
use Rattle.steal_rounds.proofs.CrewRounds.{vec-many, dealt-stand, Ran, Gathered, Closes, begin-ready, ran-passes, ran-sources, ran-plans, gathered-view, gathered-citable, gathered-round, closed-best}
use Rattle.steal_rounds.proofs.crew.round.Goals as goal

pub seat-requires-clause-nodes : goal.seat-requires-clause-nodes
seat-requires-clause-nodes g c = dealt-stand c.args.project.now c.args.frontier c.in_ok-dealt.dealt.items c.in_ok-dealt.ensures.dealt c.requires.nodes

pub seat-requires-2-clause-room : goal.seat-requires-2-clause-room
seat-requires-2-clause-room g c =
    let many = vec-many c.args.project.now c.in_ok-dealt.dealt c.in_ok-sources.sources c.in_ok-sources.ensures.new in
    let dealt = c.in_ok-dealt.ensures.len in
    let terms = ap (λ (v : PassView). v.terms.workers) c.in_ok-words.ensures.view in
    omega arith

pub seat-requires-2-clause-few : goal.seat-requires-2-clause-few
seat-requires-2-clause-few g c =
    let many = vec-many c.args.project.now c.in_ok-dealt.dealt c.in_ok-sources.sources c.in_ok-sources.ensures.new in
    let dealt = c.in_ok-dealt.ensures.len in
    let few = c.requires.few_workers in
    omega arith

pub run_members-requires-clause-ready : goal.run_members-requires-clause-ready
run_members-requires-clause-ready g c κs within =
    let round : RoundTerms = record { start = c.number_of-start.result; quota = c.args.terms.quota; workers = c.args.workers } in
    begin-ready c.args.project.now c.args.terms c.args.workers c.in_ok-rows.rows c.in_ok-words.words round c.in_ok-dealt.dealt.items c.in_ok-sources.sources.items c.in_ok-members.members.items
    (record { start = c.number_of-start.ensures; quota = refl; of_words = refl; of_rows = c.in_ok-rows.ensures.workers; cells = c.in_ok-rows.ensures.cells }) c.requires.few_workers
    (list-many c.in_ok-dealt.dealt ∙ c.in_ok-dealt.ensures.len) c.in_ok-sources.ensures.new
    (subst (λ (v : PassView). AreSeated c.in_ok-words.words v 1 c.in_ok-sources.sources.items c.in_ok-members.members.items) c.in_ok-words.ensures.view c.in_ok-members.ensures.members)

pub gather-requires-clause-passes : goal.gather-requires-clause-passes
gather-requires-clause-passes g c =
    let round : RoundTerms = record { start = c.number_of-start.result; quota = c.args.terms.quota; workers = c.args.workers } in
    let ran : Ran c.args.project.now c.args.table.now c.args.records.now c.args.terms c.args.workers c.in_ok-rows.rows c.in_ok-words.words round c.args.frontier c.in_ok-dealt.dealt.items c.in_ok-members.members.items c.run_members.new.members.items = record {
      begins = record { start = c.number_of-start.ensures; quota = refl; of_words = refl; of_rows = c.in_ok-rows.ensures.workers; cells = c.in_ok-rows.ensures.cells };
      soon = c.requires.soon;
      room = c.requires.room;
      some = c.requires.some;
      quota = c.requires.quota;
      many = list-many c.in_ok-dealt.dealt ∙ c.in_ok-dealt.ensures.len;
      dealt = c.in_ok-dealt.ensures.dealt;
      sources = c.in_ok-sources.sources.items;
      new = c.in_ok-sources.ensures.new;
      seated = subst (λ (v : PassView). AreSeated c.in_ok-words.words v 1 c.in_ok-sources.sources.items c.in_ok-members.members.items) c.in_ok-words.ensures.view c.in_ok-members.ensures.members;
      went = c.run_members.ensures;
    } in
    ran-passes _ _ _ _ _ _ _ _ _ _ _ _ ran

pub gather-requires-clause-plans : goal.gather-requires-clause-plans
gather-requires-clause-plans g c =
    let round : RoundTerms = record { start = c.number_of-start.result; quota = c.args.terms.quota; workers = c.args.workers } in
    let ran : Ran c.args.project.now c.args.table.now c.args.records.now c.args.terms c.args.workers c.in_ok-rows.rows c.in_ok-words.words round c.args.frontier c.in_ok-dealt.dealt.items c.in_ok-members.members.items c.run_members.new.members.items = record {
      begins = record { start = c.number_of-start.ensures; quota = refl; of_words = refl; of_rows = c.in_ok-rows.ensures.workers; cells = c.in_ok-rows.ensures.cells };
      soon = c.requires.soon;
      room = c.requires.room;
      some = c.requires.some;
      quota = c.requires.quota;
      many = list-many c.in_ok-dealt.dealt ∙ c.in_ok-dealt.ensures.len;
      dealt = c.in_ok-dealt.ensures.dealt;
      sources = c.in_ok-sources.sources.items;
      new = c.in_ok-sources.ensures.new;
      seated = subst (λ (v : PassView). AreSeated c.in_ok-words.words v 1 c.in_ok-sources.sources.items c.in_ok-members.members.items) c.in_ok-words.ensures.view c.in_ok-members.ensures.members;
      went = c.run_members.ensures;
    } in
    ran-plans _ _ _ _ _ _ _ _ _ _ _ _ ran

pub gather-requires-clause-sources : goal.gather-requires-clause-sources
gather-requires-clause-sources g c =
    let round : RoundTerms = record { start = c.number_of-start.result; quota = c.args.terms.quota; workers = c.args.workers } in
    let ran : Ran c.args.project.now c.args.table.now c.args.records.now c.args.terms c.args.workers c.in_ok-rows.rows c.in_ok-words.words round c.args.frontier c.in_ok-dealt.dealt.items c.in_ok-members.members.items c.run_members.new.members.items = record {
      begins = record { start = c.number_of-start.ensures; quota = refl; of_words = refl; of_rows = c.in_ok-rows.ensures.workers; cells = c.in_ok-rows.ensures.cells };
      soon = c.requires.soon;
      room = c.requires.room;
      some = c.requires.some;
      quota = c.requires.quota;
      many = list-many c.in_ok-dealt.dealt ∙ c.in_ok-dealt.ensures.len;
      dealt = c.in_ok-dealt.ensures.dealt;
      sources = c.in_ok-sources.sources.items;
      new = c.in_ok-sources.ensures.new;
      seated = subst (λ (v : PassView). AreSeated c.in_ok-words.words v 1 c.in_ok-sources.sources.items c.in_ok-members.members.items) c.in_ok-words.ensures.view c.in_ok-members.ensures.members;
      went = c.run_members.ensures;
    } in
    ran-sources _ _ _ _ _ _ _ _ _ _ _ _ ran

pub close_with-end-requires-clause-first : goal.close_with-end-requires-clause-first
close_with-end-requires-clause-first g c =
    let round : RoundTerms = record { start = c.number_of-start.result; quota = c.args.terms.quota; workers = c.args.workers } in
    let ran : Ran c.args.project.now c.args.table.now c.args.records.now c.args.terms c.args.workers c.in_ok-rows.rows c.in_ok-words.words round c.args.frontier c.in_ok-dealt.dealt.items c.in_ok-members.members.items c.run_members.new.members.items = record {
      begins = record { start = c.number_of-start.ensures; quota = refl; of_words = refl; of_rows = c.in_ok-rows.ensures.workers; cells = c.in_ok-rows.ensures.cells };
      soon = c.requires.soon;
      room = c.requires.room;
      some = c.requires.some;
      quota = c.requires.quota;
      many = list-many c.in_ok-dealt.dealt ∙ c.in_ok-dealt.ensures.len;
      dealt = c.in_ok-dealt.ensures.dealt;
      sources = c.in_ok-sources.sources.items;
      new = c.in_ok-sources.ensures.new;
      seated = subst (λ (v : PassView). AreSeated c.in_ok-words.words v 1 c.in_ok-sources.sources.items c.in_ok-members.members.items) c.in_ok-words.ensures.view c.in_ok-members.ensures.members;
      went = c.run_members.ensures;
    } in
    let joined : c.gather.new.first.view ≡ joined_views (with_workers c.args.workers (first_view round)) c.run_members.new.members.items = c.in_ok-whole.ensures.view ∙ ap (λ (v : PassView). joined_views v c.run_members.new.members.items)
    (c.in_ok-members.ensures.first ∙ (ap (λ (v : PassView). with_workers (vec_len c.in_ok-sources.sources) v) c.in_ok-words.ensures.view
    ∙ ap (λ (n : ℕ). with_workers n (first_view round)) (vec-many c.args.project.now c.in_ok-dealt.dealt c.in_ok-sources.sources c.in_ok-sources.ensures.new ∙ c.in_ok-dealt.ensures.len))) in
    let gathered : Gathered c.args.project.now c.args.table.now c.args.records.now c.args.terms c.args.workers c.in_ok-rows.rows c.in_ok-words.words round c.args.frontier c.in_ok-dealt.dealt.items c.in_ok-members.members.items c.run_members.new.members.items
    c.in_ok-whole.whole c.gather.new.first.view = record { ran = ran; sound = c.in_ok-whole.ensures.sound; whole_is = subst (λ (n : ℕ). IsWholeOf c.args.project.now n c.run_members.new.members.items c.in_ok-whole.whole) c.len.ensures c.in_ok-whole.ensures.whole; joined = joined } in
    (gathered-view _ _ _ _ _ _ _ _ _ _ _ _ _ _ gathered).number

pub close_with-end-requires-clause-all : goal.close_with-end-requires-clause-all
close_with-end-requires-clause-all g c =
    let round : RoundTerms = record { start = c.number_of-start.result; quota = c.args.terms.quota; workers = c.args.workers } in
    let ran : Ran c.args.project.now c.args.table.now c.args.records.now c.args.terms c.args.workers c.in_ok-rows.rows c.in_ok-words.words round c.args.frontier c.in_ok-dealt.dealt.items c.in_ok-members.members.items c.run_members.new.members.items = record {
      begins = record { start = c.number_of-start.ensures; quota = refl; of_words = refl; of_rows = c.in_ok-rows.ensures.workers; cells = c.in_ok-rows.ensures.cells };
      soon = c.requires.soon;
      room = c.requires.room;
      some = c.requires.some;
      quota = c.requires.quota;
      many = list-many c.in_ok-dealt.dealt ∙ c.in_ok-dealt.ensures.len;
      dealt = c.in_ok-dealt.ensures.dealt;
      sources = c.in_ok-sources.sources.items;
      new = c.in_ok-sources.ensures.new;
      seated = subst (λ (v : PassView). AreSeated c.in_ok-words.words v 1 c.in_ok-sources.sources.items c.in_ok-members.members.items) c.in_ok-words.ensures.view c.in_ok-members.ensures.members;
      went = c.run_members.ensures;
    } in
    let joined : c.gather.new.first.view ≡ joined_views (with_workers c.args.workers (first_view round)) c.run_members.new.members.items = c.in_ok-whole.ensures.view ∙ ap (λ (v : PassView). joined_views v c.run_members.new.members.items)
    (c.in_ok-members.ensures.first ∙ (ap (λ (v : PassView). with_workers (vec_len c.in_ok-sources.sources) v) c.in_ok-words.ensures.view
    ∙ ap (λ (n : ℕ). with_workers n (first_view round)) (vec-many c.args.project.now c.in_ok-dealt.dealt c.in_ok-sources.sources c.in_ok-sources.ensures.new ∙ c.in_ok-dealt.ensures.len))) in
    let gathered : Gathered c.args.project.now c.args.table.now c.args.records.now c.args.terms c.args.workers c.in_ok-rows.rows c.in_ok-words.words round c.args.frontier c.in_ok-dealt.dealt.items c.in_ok-members.members.items c.run_members.new.members.items
    c.in_ok-whole.whole c.gather.new.first.view = record { ran = ran; sound = c.in_ok-whole.ensures.sound; whole_is = subst (λ (n : ℕ). IsWholeOf c.args.project.now n c.run_members.new.members.items c.in_ok-whole.whole) c.len.ensures c.in_ok-whole.ensures.whole; joined = joined } in
    (gathered-view _ _ _ _ _ _ _ _ _ _ _ _ _ _ gathered).all

pub settled-requires-clause-published : goal.settled-requires-clause-published
settled-requires-clause-published g c =
    let round : RoundTerms = record { start = c.number_of-start.result; quota = c.args.terms.quota; workers = c.args.workers } in
    let ran : Ran c.args.project.now c.args.table.now c.args.records.now c.args.terms c.args.workers c.in_ok-rows.rows c.in_ok-words.words round c.args.frontier c.in_ok-dealt.dealt.items c.in_ok-members.members.items c.run_members.new.members.items = record {
      begins = record { start = c.number_of-start.ensures; quota = refl; of_words = refl; of_rows = c.in_ok-rows.ensures.workers; cells = c.in_ok-rows.ensures.cells };
      soon = c.requires.soon;
      room = c.requires.room;
      some = c.requires.some;
      quota = c.requires.quota;
      many = list-many c.in_ok-dealt.dealt ∙ c.in_ok-dealt.ensures.len;
      dealt = c.in_ok-dealt.ensures.dealt;
      sources = c.in_ok-sources.sources.items;
      new = c.in_ok-sources.ensures.new;
      seated = subst (λ (v : PassView). AreSeated c.in_ok-words.words v 1 c.in_ok-sources.sources.items c.in_ok-members.members.items) c.in_ok-words.ensures.view c.in_ok-members.ensures.members;
      went = c.run_members.ensures;
    } in
    let joined : c.gather.new.first.view ≡ joined_views (with_workers c.args.workers (first_view round)) c.run_members.new.members.items = c.in_ok-whole.ensures.view ∙ ap (λ (v : PassView). joined_views v c.run_members.new.members.items)
    (c.in_ok-members.ensures.first ∙ (ap (λ (v : PassView). with_workers (vec_len c.in_ok-sources.sources) v) c.in_ok-words.ensures.view
    ∙ ap (λ (n : ℕ). with_workers n (first_view round)) (vec-many c.args.project.now c.in_ok-dealt.dealt c.in_ok-sources.sources c.in_ok-sources.ensures.new ∙ c.in_ok-dealt.ensures.len))) in
    let gathered : Gathered c.args.project.now c.args.table.now c.args.records.now c.args.terms c.args.workers c.in_ok-rows.rows c.in_ok-words.words round c.args.frontier c.in_ok-dealt.dealt.items c.in_ok-members.members.items c.run_members.new.members.items
    c.in_ok-whole.whole c.gather.new.first.view = record { ran = ran; sound = c.in_ok-whole.ensures.sound; whole_is = subst (λ (n : ℕ). IsWholeOf c.args.project.now n c.run_members.new.members.items c.in_ok-whole.whole) c.len.ensures c.in_ok-whole.ensures.whole; joined = joined } in
    let terms_of = ap (λ (t : RoundTerms). t.workers) (gathered-view _ _ _ _ _ _ _ _ _ _ _ _ _ _ gathered).terms_of in
    let citable = gathered-citable _ _ _ _ _ _ _ _ _ _ _ _ _ _ gathered (λ w some few. c.close_with-end.ensures.published w some (let l = few in omega arith)) in
    citable.published

pub settled-requires-clause-cited : goal.settled-requires-clause-cited
settled-requires-clause-cited g c =
    let round : RoundTerms = record { start = c.number_of-start.result; quota = c.args.terms.quota; workers = c.args.workers } in
    let ran : Ran c.args.project.now c.args.table.now c.args.records.now c.args.terms c.args.workers c.in_ok-rows.rows c.in_ok-words.words round c.args.frontier c.in_ok-dealt.dealt.items c.in_ok-members.members.items c.run_members.new.members.items = record {
      begins = record { start = c.number_of-start.ensures; quota = refl; of_words = refl; of_rows = c.in_ok-rows.ensures.workers; cells = c.in_ok-rows.ensures.cells };
      soon = c.requires.soon;
      room = c.requires.room;
      some = c.requires.some;
      quota = c.requires.quota;
      many = list-many c.in_ok-dealt.dealt ∙ c.in_ok-dealt.ensures.len;
      dealt = c.in_ok-dealt.ensures.dealt;
      sources = c.in_ok-sources.sources.items;
      new = c.in_ok-sources.ensures.new;
      seated = subst (λ (v : PassView). AreSeated c.in_ok-words.words v 1 c.in_ok-sources.sources.items c.in_ok-members.members.items) c.in_ok-words.ensures.view c.in_ok-members.ensures.members;
      went = c.run_members.ensures;
    } in
    let joined : c.gather.new.first.view ≡ joined_views (with_workers c.args.workers (first_view round)) c.run_members.new.members.items = c.in_ok-whole.ensures.view ∙ ap (λ (v : PassView). joined_views v c.run_members.new.members.items)
    (c.in_ok-members.ensures.first ∙ (ap (λ (v : PassView). with_workers (vec_len c.in_ok-sources.sources) v) c.in_ok-words.ensures.view
    ∙ ap (λ (n : ℕ). with_workers n (first_view round)) (vec-many c.args.project.now c.in_ok-dealt.dealt c.in_ok-sources.sources c.in_ok-sources.ensures.new ∙ c.in_ok-dealt.ensures.len))) in
    let gathered : Gathered c.args.project.now c.args.table.now c.args.records.now c.args.terms c.args.workers c.in_ok-rows.rows c.in_ok-words.words round c.args.frontier c.in_ok-dealt.dealt.items c.in_ok-members.members.items c.run_members.new.members.items
    c.in_ok-whole.whole c.gather.new.first.view = record { ran = ran; sound = c.in_ok-whole.ensures.sound; whole_is = subst (λ (n : ℕ). IsWholeOf c.args.project.now n c.run_members.new.members.items c.in_ok-whole.whole) c.len.ensures c.in_ok-whole.ensures.whole; joined = joined } in
    let terms_of = ap (λ (t : RoundTerms). t.workers) (gathered-view _ _ _ _ _ _ _ _ _ _ _ _ _ _ gathered).terms_of in
    let citable = gathered-citable _ _ _ _ _ _ _ _ _ _ _ _ _ _ gathered (λ w some few. c.close_with-end.ensures.published w some (let l = few in omega arith)) in
    citable.cited

pub settled-requires-clause-many : goal.settled-requires-clause-many
settled-requires-clause-many g c =
    let round : RoundTerms = record { start = c.number_of-start.result; quota = c.args.terms.quota; workers = c.args.workers } in
    let ran : Ran c.args.project.now c.args.table.now c.args.records.now c.args.terms c.args.workers c.in_ok-rows.rows c.in_ok-words.words round c.args.frontier c.in_ok-dealt.dealt.items c.in_ok-members.members.items c.run_members.new.members.items = record {
      begins = record { start = c.number_of-start.ensures; quota = refl; of_words = refl; of_rows = c.in_ok-rows.ensures.workers; cells = c.in_ok-rows.ensures.cells };
      soon = c.requires.soon;
      room = c.requires.room;
      some = c.requires.some;
      quota = c.requires.quota;
      many = list-many c.in_ok-dealt.dealt ∙ c.in_ok-dealt.ensures.len;
      dealt = c.in_ok-dealt.ensures.dealt;
      sources = c.in_ok-sources.sources.items;
      new = c.in_ok-sources.ensures.new;
      seated = subst (λ (v : PassView). AreSeated c.in_ok-words.words v 1 c.in_ok-sources.sources.items c.in_ok-members.members.items) c.in_ok-words.ensures.view c.in_ok-members.ensures.members;
      went = c.run_members.ensures;
    } in
    let joined : c.gather.new.first.view ≡ joined_views (with_workers c.args.workers (first_view round)) c.run_members.new.members.items = c.in_ok-whole.ensures.view ∙ ap (λ (v : PassView). joined_views v c.run_members.new.members.items)
    (c.in_ok-members.ensures.first ∙ (ap (λ (v : PassView). with_workers (vec_len c.in_ok-sources.sources) v) c.in_ok-words.ensures.view
    ∙ ap (λ (n : ℕ). with_workers n (first_view round)) (vec-many c.args.project.now c.in_ok-dealt.dealt c.in_ok-sources.sources c.in_ok-sources.ensures.new ∙ c.in_ok-dealt.ensures.len))) in
    let gathered : Gathered c.args.project.now c.args.table.now c.args.records.now c.args.terms c.args.workers c.in_ok-rows.rows c.in_ok-words.words round c.args.frontier c.in_ok-dealt.dealt.items c.in_ok-members.members.items c.run_members.new.members.items
    c.in_ok-whole.whole c.gather.new.first.view = record { ran = ran; sound = c.in_ok-whole.ensures.sound; whole_is = subst (λ (n : ℕ). IsWholeOf c.args.project.now n c.run_members.new.members.items c.in_ok-whole.whole) c.len.ensures c.in_ok-whole.ensures.whole; joined = joined } in
    let terms_of = ap (λ (t : RoundTerms). t.workers) (gathered-view _ _ _ _ _ _ _ _ _ _ _ _ _ _ gathered).terms_of in
    let citable = gathered-citable _ _ _ _ _ _ _ _ _ _ _ _ _ _ gathered (λ w some few. c.close_with-end.ensures.published w some (let l = few in omega arith)) in
    citable.many

pub settled-requires-clause-fills : goal.settled-requires-clause-fills
settled-requires-clause-fills g c =
    let round : RoundTerms = record { start = c.number_of-start.result; quota = c.args.terms.quota; workers = c.args.workers } in
    let ran : Ran c.args.project.now c.args.table.now c.args.records.now c.args.terms c.args.workers c.in_ok-rows.rows c.in_ok-words.words round c.args.frontier c.in_ok-dealt.dealt.items c.in_ok-members.members.items c.run_members.new.members.items = record {
      begins = record { start = c.number_of-start.ensures; quota = refl; of_words = refl; of_rows = c.in_ok-rows.ensures.workers; cells = c.in_ok-rows.ensures.cells };
      soon = c.requires.soon;
      room = c.requires.room;
      some = c.requires.some;
      quota = c.requires.quota;
      many = list-many c.in_ok-dealt.dealt ∙ c.in_ok-dealt.ensures.len;
      dealt = c.in_ok-dealt.ensures.dealt;
      sources = c.in_ok-sources.sources.items;
      new = c.in_ok-sources.ensures.new;
      seated = subst (λ (v : PassView). AreSeated c.in_ok-words.words v 1 c.in_ok-sources.sources.items c.in_ok-members.members.items) c.in_ok-words.ensures.view c.in_ok-members.ensures.members;
      went = c.run_members.ensures;
    } in
    let joined : c.gather.new.first.view ≡ joined_views (with_workers c.args.workers (first_view round)) c.run_members.new.members.items = c.in_ok-whole.ensures.view ∙ ap (λ (v : PassView). joined_views v c.run_members.new.members.items)
    (c.in_ok-members.ensures.first ∙ (ap (λ (v : PassView). with_workers (vec_len c.in_ok-sources.sources) v) c.in_ok-words.ensures.view
    ∙ ap (λ (n : ℕ). with_workers n (first_view round)) (vec-many c.args.project.now c.in_ok-dealt.dealt c.in_ok-sources.sources c.in_ok-sources.ensures.new ∙ c.in_ok-dealt.ensures.len))) in
    let gathered : Gathered c.args.project.now c.args.table.now c.args.records.now c.args.terms c.args.workers c.in_ok-rows.rows c.in_ok-words.words round c.args.frontier c.in_ok-dealt.dealt.items c.in_ok-members.members.items c.run_members.new.members.items
    c.in_ok-whole.whole c.gather.new.first.view = record { ran = ran; sound = c.in_ok-whole.ensures.sound; whole_is = subst (λ (n : ℕ). IsWholeOf c.args.project.now n c.run_members.new.members.items c.in_ok-whole.whole) c.len.ensures c.in_ok-whole.ensures.whole; joined = joined } in
    let terms_of = ap (λ (t : RoundTerms). t.workers) (gathered-view _ _ _ _ _ _ _ _ _ _ _ _ _ _ gathered).terms_of in
    let citable = gathered-citable _ _ _ _ _ _ _ _ _ _ _ _ _ _ gathered (λ w some few. c.close_with-end.ensures.published w some (let l = few in omega arith)) in
    citable.fills

pub ended-requires : goal.ended-requires
ended-requires g c =
    let round : RoundTerms = record { start = c.number_of-start.result; quota = c.args.terms.quota; workers = c.args.workers } in
    let ran : Ran c.args.project.now c.args.table.now c.args.records.now c.args.terms c.args.workers c.in_ok-rows.rows c.in_ok-words.words round c.args.frontier c.in_ok-dealt.dealt.items c.in_ok-members.members.items c.run_members.new.members.items = record {
      begins = record { start = c.number_of-start.ensures; quota = refl; of_words = refl; of_rows = c.in_ok-rows.ensures.workers; cells = c.in_ok-rows.ensures.cells };
      soon = c.requires.soon;
      room = c.requires.room;
      some = c.requires.some;
      quota = c.requires.quota;
      many = list-many c.in_ok-dealt.dealt ∙ c.in_ok-dealt.ensures.len;
      dealt = c.in_ok-dealt.ensures.dealt;
      sources = c.in_ok-sources.sources.items;
      new = c.in_ok-sources.ensures.new;
      seated = subst (λ (v : PassView). AreSeated c.in_ok-words.words v 1 c.in_ok-sources.sources.items c.in_ok-members.members.items) c.in_ok-words.ensures.view c.in_ok-members.ensures.members;
      went = c.run_members.ensures;
    } in
    let joined : c.gather.new.first.view ≡ joined_views (with_workers c.args.workers (first_view round)) c.run_members.new.members.items = c.in_ok-whole.ensures.view ∙ ap (λ (v : PassView). joined_views v c.run_members.new.members.items)
    (c.in_ok-members.ensures.first ∙ (ap (λ (v : PassView). with_workers (vec_len c.in_ok-sources.sources) v) c.in_ok-words.ensures.view
    ∙ ap (λ (n : ℕ). with_workers n (first_view round)) (vec-many c.args.project.now c.in_ok-dealt.dealt c.in_ok-sources.sources c.in_ok-sources.ensures.new ∙ c.in_ok-dealt.ensures.len))) in
    let gathered : Gathered c.args.project.now c.args.table.now c.args.records.now c.args.terms c.args.workers c.in_ok-rows.rows c.in_ok-words.words round c.args.frontier c.in_ok-dealt.dealt.items c.in_ok-members.members.items c.run_members.new.members.items
    c.in_ok-whole.whole c.gather.new.first.view = record { ran = ran; sound = c.in_ok-whole.ensures.sound; whole_is = subst (λ (n : ℕ). IsWholeOf c.args.project.now n c.run_members.new.members.items c.in_ok-whole.whole) c.len.ensures c.in_ok-whole.ensures.whole; joined = joined } in
    let close : Closes round c.gather.new.first.view c.close_with-end.result.best c.close_with-end.result.tickets = record { best_is = c.close_with-end.ensures.best; seen = c.close_with-end.ensures.seen; won = c.close_with-end.ensures.won; spent = c.close_with-end.ensures.spent } in
    let low = closed-best round c.gather.new.first.view c.close_with-end.result.best c.close_with-end.result.tickets close (gathered-view _ _ _ _ _ _ _ _ _ _ _ _ _ _ gathered).terms_of in
    let small = end-small c.args.terms.best c.requires.soon in
    let start = c.number_of-start.ensures in
    omega arith

pub returns : goal.returns
returns g c =
    let round : RoundTerms = record { start = c.number_of-start.result; quota = c.args.terms.quota; workers = c.args.workers } in
    let ran : Ran c.args.project.now c.args.table.now c.args.records.now c.args.terms c.args.workers c.in_ok-rows.rows c.in_ok-words.words round c.args.frontier c.in_ok-dealt.dealt.items c.in_ok-members.members.items c.run_members.new.members.items = record {
      begins = record { start = c.number_of-start.ensures; quota = refl; of_words = refl; of_rows = c.in_ok-rows.ensures.workers; cells = c.in_ok-rows.ensures.cells };
      soon = c.requires.soon;
      room = c.requires.room;
      some = c.requires.some;
      quota = c.requires.quota;
      many = list-many c.in_ok-dealt.dealt ∙ c.in_ok-dealt.ensures.len;
      dealt = c.in_ok-dealt.ensures.dealt;
      sources = c.in_ok-sources.sources.items;
      new = c.in_ok-sources.ensures.new;
      seated = subst (λ (v : PassView). AreSeated c.in_ok-words.words v 1 c.in_ok-sources.sources.items c.in_ok-members.members.items) c.in_ok-words.ensures.view c.in_ok-members.ensures.members;
      went = c.run_members.ensures;
    } in
    let joined : c.gather.new.first.view ≡ joined_views (with_workers c.args.workers (first_view round)) c.run_members.new.members.items = c.in_ok-whole.ensures.view ∙ ap (λ (v : PassView). joined_views v c.run_members.new.members.items)
    (c.in_ok-members.ensures.first ∙ (ap (λ (v : PassView). with_workers (vec_len c.in_ok-sources.sources) v) c.in_ok-words.ensures.view
    ∙ ap (λ (n : ℕ). with_workers n (first_view round)) (vec-many c.args.project.now c.in_ok-dealt.dealt c.in_ok-sources.sources c.in_ok-sources.ensures.new ∙ c.in_ok-dealt.ensures.len))) in
    let gathered : Gathered c.args.project.now c.args.table.now c.args.records.now c.args.terms c.args.workers c.in_ok-rows.rows c.in_ok-words.words round c.args.frontier c.in_ok-dealt.dealt.items c.in_ok-members.members.items c.run_members.new.members.items
    c.in_ok-whole.whole c.gather.new.first.view = record { ran = ran; sound = c.in_ok-whole.ensures.sound; whole_is = subst (λ (n : ℕ). IsWholeOf c.args.project.now n c.run_members.new.members.items c.in_ok-whole.whole) c.len.ensures c.in_ok-whole.ensures.whole; joined = joined } in
    if_ok-weaker (EndsAs c.settled.result c.close_with-end.result.best) (IsRoundOn c.args.project.now c.args.workers c.args.table.now c.args.records.now c.args.frontier c.args.terms) c.ended.result c.ended.ensures
    (gathered-round _ _ _ _ _ _ _ _ _ _ _ _ _ c.settled.result _ c.close_with-end.result.best c.close_with-end.result.tickets gathered
    (record { best_is = c.close_with-end.ensures.best; seen = c.close_with-end.ensures.seen; won = c.close_with-end.ensures.won; spent = c.close_with-end.ensures.spent }) c.settled.ensures)
