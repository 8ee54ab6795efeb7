use Rattle.std.proofs.Common.{◌≡◌, ◌∙◌, map, string_bytes}
use Rattle.scheduler.specs.declared.status.Status.TheVariants.{NoMemory}
use Rattle.scheduler.specs.Status.{IsFaultless}
use Rattle.scheduler.proofs.StatusesTold.{told_bad_project, told_served, told_printed, told_refused, told_tried, told_complete, made_is_done}
use Rattle.scheduler.proofs.ReportsTold.{tells_solution, tells_accepted, tells_no_later, tells_no_twins, tells_ends}
use Rattle.scheduler.proofs.PlansTold.{tells_plan}
use Rattle.scheduler.proofs.ReportsJudged.{judges}
use Rattle.scheduler.proofs.BoundsTold.{tells_bound, verifies}
use Rattle.scheduler.proofs.TrialsTold.{tries}
use Rattle.scheduler.proofs.running.run.Goals as goal

pub returns-in-Ok-tell-clause-bad_project : goal.returns-in-Ok-tell-clause-bad_project
returns-in-Ok-tell-clause-bad_project g c told =
    told_bad_project (map string_bytes c.args.words.now) (g.S.Shelf.texts c.args.shelf.now) c.in-Ok.answer c.in-Ok-tell.status c.in-Ok.ensures.answer c.in-Ok-tell.ensures.status

pub returns-in-Ok-tell-clause-served : goal.returns-in-Ok-tell-clause-served
returns-in-Ok-tell-clause-served g c told =
    told_served (map string_bytes c.args.words.now) (g.S.Shelf.texts c.args.shelf.now) c.in-Ok.answer c.in-Ok-tell.status c.in-Ok.ensures.answer c.in-Ok-tell.ensures.status

pub returns-in-Ok-tell-clause-complete : goal.returns-in-Ok-tell-clause-complete
returns-in-Ok-tell-clause-complete g c =
    told_complete (map string_bytes c.args.words.now) (g.S.Shelf.texts c.args.shelf.now) c.in-Ok.answer c.in-Ok-tell.status
    (IsFaultless (g.S.Shelf.faults c.args.shelf.now) (g.S.Shelf.faults c.answer_to.new.shelf)) (IsFaultless (g.K.Sink.faults c.args.out.now) (g.K.Sink.faults c.tell.new.out)) (c.in-Ok-tell.status ≡ NoMemory → ⊥)
    c.in-Ok.ensures.answer c.in-Ok-tell.ensures.status

pub returns-in-Ok-tell-clause-printed : goal.returns-in-Ok-tell-clause-printed
returns-in-Ok-tell-clause-printed g c = told_printed (map string_bytes c.args.words.now) (g.S.Shelf.texts c.args.shelf.now) c.in-Ok.answer c.in-Ok-tell.status c.in-Ok.ensures.answer c.in-Ok-tell.ensures.status

pub returns-in-Ok-tell-clause-makes : goal.returns-in-Ok-tell-clause-makes
returns-in-Ok-tell-clause-makes g c make _ _ = c.in-Ok-tell.ensures.status ∙ made_is_done (map string_bytes c.args.words.now) (g.S.Shelf.texts c.args.shelf.now) c.in-Ok.answer c.in-Ok.ensures.answer make

pub returns-in-Ok-tell-clause-report : goal.returns-in-Ok-tell-clause-report
returns-in-Ok-tell-clause-report g c =
    tells_solution (map string_bytes c.args.words.now) (g.S.Shelf.texts c.args.shelf.now) c.in-Ok.answer c.in-Ok-tell.status (g.K.Sink.held c.args.out.now) (g.K.Sink.held c.tell.new.out) c.in-Ok.ensures.answer
    c.in-Ok-tell.ensures.status c.in-Ok-tell.ensures.whole

pub returns-in-Ok-tell-clause-accepted : goal.returns-in-Ok-tell-clause-accepted
returns-in-Ok-tell-clause-accepted g c =
    tells_accepted (map string_bytes c.args.words.now) (g.S.Shelf.texts c.args.shelf.now) c.in-Ok.answer c.in-Ok-tell.status (g.K.Sink.held c.args.out.now) (g.K.Sink.held c.tell.new.out) c.in-Ok.ensures.answer
    c.in-Ok-tell.ensures.status c.in-Ok-tell.ensures.whole

pub returns-in-Ok-tell-clause-no_later : goal.returns-in-Ok-tell-clause-no_later
returns-in-Ok-tell-clause-no_later g c =
    tells_no_later (map string_bytes c.args.words.now) (g.S.Shelf.texts c.args.shelf.now) c.in-Ok.answer c.in-Ok-tell.status (g.K.Sink.held c.args.out.now) (g.K.Sink.held c.tell.new.out) c.in-Ok.ensures.answer
    c.in-Ok-tell.ensures.status c.in-Ok-tell.ensures.whole

pub returns-in-Ok-tell-clause-no_twins : goal.returns-in-Ok-tell-clause-no_twins
returns-in-Ok-tell-clause-no_twins g c =
    tells_no_twins (map string_bytes c.args.words.now) (g.S.Shelf.texts c.args.shelf.now) c.in-Ok.answer c.in-Ok-tell.status (g.K.Sink.held c.args.out.now) (g.K.Sink.held c.tell.new.out) c.in-Ok.ensures.answer
    c.in-Ok-tell.ensures.status c.in-Ok-tell.ensures.whole

pub returns-in-Ok-tell-clause-ends : goal.returns-in-Ok-tell-clause-ends
returns-in-Ok-tell-clause-ends g c =
    tells_ends (map string_bytes c.args.words.now) (g.S.Shelf.texts c.args.shelf.now) c.in-Ok.answer c.in-Ok-tell.status (g.K.Sink.held c.args.out.now) (g.K.Sink.held c.tell.new.out) c.in-Ok.ensures.answer
    c.in-Ok-tell.ensures.status c.in-Ok-tell.ensures.whole

pub returns-in-Ok-tell-clause-planned : goal.returns-in-Ok-tell-clause-planned
returns-in-Ok-tell-clause-planned g c =
    tells_plan (map string_bytes c.args.words.now) (g.S.Shelf.texts c.args.shelf.now) c.in-Ok.answer c.in-Ok-tell.status (g.K.Sink.held c.args.out.now) (g.K.Sink.held c.tell.new.out) c.in-Ok.ensures.answer
    c.in-Ok-tell.ensures.status c.in-Ok-tell.ensures.whole

pub returns-in-Ok-tell-clause-judged : goal.returns-in-Ok-tell-clause-judged
returns-in-Ok-tell-clause-judged g c =
    judges (map string_bytes c.args.words.now) (g.S.Shelf.texts c.args.shelf.now) c.in-Ok.answer c.in-Ok-tell.status (g.K.Sink.held c.args.out.now) (g.K.Sink.held c.tell.new.out) c.in-Ok.ensures.answer
    c.in-Ok-tell.ensures.status c.in-Ok-tell.ensures.whole

pub returns-in-Ok-tell-clause-refused : goal.returns-in-Ok-tell-clause-refused
returns-in-Ok-tell-clause-refused g c = told_refused (map string_bytes c.args.words.now) (g.S.Shelf.texts c.args.shelf.now) c.in-Ok.answer c.in-Ok-tell.status c.in-Ok.ensures.answer c.in-Ok-tell.ensures.status

pub returns-in-Ok-tell-clause-bounded : goal.returns-in-Ok-tell-clause-bounded
returns-in-Ok-tell-clause-bounded g c =
    tells_bound (map string_bytes c.args.words.now) (g.S.Shelf.texts c.args.shelf.now) c.in-Ok.answer c.in-Ok-tell.status (g.K.Sink.held c.args.out.now) (g.K.Sink.held c.tell.new.out) c.in-Ok.ensures.answer
    c.in-Ok-tell.ensures.status c.in-Ok-tell.ensures.whole

pub returns-in-Ok-tell-clause-verified : goal.returns-in-Ok-tell-clause-verified
returns-in-Ok-tell-clause-verified g c =
    verifies (map string_bytes c.args.words.now) (g.S.Shelf.texts c.args.shelf.now) c.in-Ok.answer c.in-Ok-tell.status (g.K.Sink.held c.args.out.now) (g.K.Sink.held c.tell.new.out) c.in-Ok.ensures.answer
    c.in-Ok-tell.ensures.status c.in-Ok-tell.ensures.whole

pub returns-in-Ok-tell-clause-tried : goal.returns-in-Ok-tell-clause-tried
returns-in-Ok-tell-clause-tried g c =
    tries (map string_bytes c.args.words.now) (g.S.Shelf.texts c.args.shelf.now) c.in-Ok.answer c.in-Ok-tell.status (g.K.Sink.held c.args.out.now) (g.K.Sink.held c.tell.new.out) c.in-Ok.ensures.answer
    c.in-Ok-tell.ensures.status c.in-Ok-tell.ensures.whole

pub returns-in-Ok-tell-clause-tries : goal.returns-in-Ok-tell-clause-tries
returns-in-Ok-tell-clause-tries g c trial _ _ = told_tried (map string_bytes c.args.words.now) (g.S.Shelf.texts c.args.shelf.now) c.in-Ok.answer c.in-Ok-tell.status c.in-Ok.ensures.answer c.in-Ok-tell.ensures.status trial
