use Rattle.std.proofs.Common.{◌≡◌, ℕ, ◌<◌, ◌≤◌, sym, subst, List, []}
use Rattle.rcpsp_model.specs.Project.{Project}
use Rattle.search_rounds.specs.declared.round.WaitingNode.{WaitingNode}
use Rattle.search_rounds.specs.declared.round.Terms.{Terms}
use Rattle.search_rounds.specs.declared.round.RoundResult.{RoundResult}
use Rattle.search_rounds.specs.declared.going.Search.{Search}
use Rattle.search_rounds.specs.Round.{IsRoundOn}
use Rattle.search_rounds.specs.Going.{Goes, work, holding, AreTerms, HasRun}
use Rattle.steal_rounds.proofs.searching.advance.Goals as goal

-- the round ran on what was left of the search
has_run : (P : Project) (w n : ℕ) (s left : Search) (frontier : List WaitingNode) (t : Terms) (r : RoundResult) → Goes P w n s → AreTerms n s t → n ≤ 100000 → frontier ≡ s.frontier → left ≡ holding [] s →
    IsRoundOn P w left.table left.records frontier t r → HasRun P w n left s.frontier t r
has_run P w n s left frontier t r goes terms small same rest =
    subst (λ (x : Search). IsRoundOn P w x.table x.records frontier t r → HasRun P w n x s.frontier t r) (sym rest) (λ is. record {
      before = goes;
      terms_are = record { number = terms.number; some = terms.some; left = terms.left; few = terms.few; best = terms.best };
      round = subst (λ (ws : List WaitingNode). IsRoundOn P w s.table s.records ws t r) same is;
      small = small;
    })

pub take_round-requires : goal.take_round-requires
take_round-requires g c =
    let s = c.args.going in
    let taken = c.take_frontier-frontier in
    let run = has_run c.args.project.now c.args.workers c.args.nodes s taken.new.self taken.result c.next_terms-terms.result c.in_ok-ended.ended
    c.requires.goes c.next_terms-terms.ensures.terms c.requires.few taken.ensures.frontier taken.ensures.rest c.in_ok-ended.ensures in
    (c.args.workers, c.args.nodes, s.frontier, run)

pub returns-clause-goes : goal.returns-clause-goes
returns-clause-goes g c =
    let s = c.args.going in
    let taken = c.take_frontier-frontier in
    c.in_ok-next.ensures.goes c.args.workers c.args.nodes s.frontier
    (has_run c.args.project.now c.args.workers c.args.nodes s taken.new.self taken.result c.next_terms-terms.result c.in_ok-ended.ended
    c.requires.goes c.next_terms-terms.ensures.terms c.requires.few taken.ensures.frontier taken.ensures.rest c.in_ok-ended.ensures)

pub returns-clause-nearer : goal.returns-clause-nearer
returns-clause-nearer g c =
    let s = c.args.going in
    let n = c.args.nodes in
    let taken = c.take_frontier-frontier in
    subst (λ (x : Search). work n c.in_ok-next.next < work n (holding s.frontier x)) taken.ensures.rest
    (c.in_ok-next.ensures.nearer c.args.workers n s.frontier
    (has_run c.args.project.now c.args.workers n s taken.new.self taken.result c.next_terms-terms.result c.in_ok-ended.ended
    c.requires.goes c.next_terms-terms.ensures.terms c.requires.few taken.ensures.frontier taken.ensures.rest c.in_ok-ended.ensures))
