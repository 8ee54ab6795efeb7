use Rattle.std.proofs.Common.{Bool}
use Rattle.std.specs.Prelude.{IsTrue, ◌↔◌}
use Rattle.rcpsp_model.specs.Dominance.{Dominates}
use Rattle.log_checker.specs.Walk.{Citation, IsKeptAs}
use Rattle.log_checker.specs.Citations.{numbers_of, Ascends, IsChildOf, IsServedBy}
use Rattle.log_checker.proofs.LineSteps.{ok-map}
use Rattle.log_checker.proofs.CitedPlaces.{child-of, served-some, served-none}
use Rattle.log_checker.proofs.citations.is_served.Goals as goal

pub returns-in-Some : goal.returns-in-Some
returns-in-Some c =
    let P = c.args.project.now in
    let grown = c.args.grown.now in
    let parent = c.index-grown-citing.result in
    let cited = c.index-grown-place.result in
    ok-map (λ (b : Bool). (k : Citation) → IsChildOf P parent.front.front c.args.citing.turn k.front → IsTrue b ↔ Dominates P cited.front.front k.front)
    (λ (b : Bool). (k : Citation) → IsKeptAs P grown k c.args.citing → Ascends (numbers_of grown) → IsTrue b ↔ IsServedBy P grown k) c.dominates_at.result c.dominates_at.ensures
    (λ b exactly k is asc. served-some P grown k c.args.citing c.in-Some.place cited b is asc c.in-Some.ensures.within c.index-grown-place.is c.in-Some.ensures.found
    (exactly k (child-of P grown k c.args.citing parent is c.index-grown-citing.is)))

pub returns-in-None : goal.returns-in-None
returns-in-None c k is asc = (λ t. absurd (cc t), λ s. absurd (served-none c.args.project.now c.args.grown.now k c.args.citing is (c.in-None.ensures.none asc) s))
