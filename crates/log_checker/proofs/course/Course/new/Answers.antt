use Rattle.std.proofs.Common.{◌≤◌, refl, sym, subst, arith, List}
use Rattle.std.specs.Prelude.{All}
use Rattle.rcpsp_model.specs.declared.parts.Placing.{Placing}
use Rattle.log_checker.proofs.course.Course.new.Goals as goal

pub returns-clause-ready : goal.returns-clause-ready
returns-clause-ready c P = record {
  walk = c.new-2.ensures.sound P;
  starts = subst (λ (ps : List Placing). All (λ place. place.start ≤ 999999999) ps) (sym c.new.ensures) (λ k d low. absurd (omega arith));
}

pub returns-clause-holds : goal.returns-clause-holds
returns-clause-holds c P = record { stage = refl; places = c.new.ensures; log = (refl, c.new-2.ensures.stands P) }
