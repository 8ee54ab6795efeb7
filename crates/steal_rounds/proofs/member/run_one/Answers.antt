use Rattle.std.proofs.Common.{◌∙◌, sym}
use Rattle.steal_rounds.proofs.MemberEnds.{from-answer}
use Rattle.steal_rounds.proofs.member.run_one.Goals as goal

pub returns : goal.returns
returns g c =
    let e = c.work-done.ensures in
    record {
      pass_table = e.table;
      stays = e.stays;
      source = e.source;
      done = λ ok.
          let good = sym c.is_err-member.ensures.value ∙ ok in
          record {
            work = from-answer c.work-done.result _ good e.work;
            counts = from-answer c.work-done.result _ good e.counts;
            few = from-answer c.work-done.result _ good e.few;
            moves = from-answer c.work-done.result _ good e.moves;
            keeps = from-answer c.work-done.result _ good e.keeps;
          };
    }
