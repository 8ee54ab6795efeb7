use Rattle.plan_words.specs.Words.{modes_form, workers_form, nodes_form, log_form, tries_form}
use Rattle.plan_words.proofs.OptionWords.{begins, skip_free, skip_number, skip_flag, take_free, take_number, take_flag, others_left, only_modes, only_workers, only_nodes, only_log, only_tries}
use Rattle.plan_words.proofs.options.Options.with_word.Goals as goal

pub returns-in-Some-clause-left : goal.returns-in-Some-clause-left
returns-in-Some-clause-left c =
    let only = only_modes c.args.word.now (begins modes_form c.args.self.modes.free c.args.word.now c.in-Some.ensures.stands) in
    others_left c.args.self c.in-Some.modes.free c.args.self.workers.free c.args.self.nodes.free c.args.self.log.free c.args.self.tries.free c.args.word.now
    (take_free modes_form c.args.self.modes.free c.in-Some.modes.free c.args.word.now c.in-Some.ensures.stands c.in-Some.ensures.taken)
    (skip_free workers_form c.args.self.workers.free c.args.word.now only.0)
    (skip_free nodes_form c.args.self.nodes.free c.args.word.now only.1)
    (skip_free log_form c.args.self.log.free c.args.word.now only.2)
    (skip_free tries_form c.args.self.tries.free c.args.word.now only.3)

pub returns-in-Some-clause-values : goal.returns-in-Some-clause-values
returns-in-Some-clause-values c words =
    let only = only_modes c.args.word.now (begins modes_form c.args.self.modes.free c.args.word.now c.in-Some.ensures.stands) in
    record {
      modes = take_number modes_form c.args.self.modes.free c.in-Some.modes.free c.args.self.modes.value c.in-Some.modes.value c.args.word.now words c.in-Some.ensures.stands c.in-Some.ensures.taken c.in-Some.ensures.value;
      workers = skip_number workers_form.key c.args.self.workers.free c.args.self.workers.value c.args.word.now words only.0;
      nodes = skip_number nodes_form.key c.args.self.nodes.free c.args.self.nodes.value c.args.word.now words only.1;
      log = skip_flag log_form.key c.args.self.log.free c.args.self.log.value c.args.word.now words only.2;
      tries = skip_number tries_form.key c.args.self.tries.free c.args.self.tries.value c.args.word.now words only.3;
    }

pub returns-in-Some-number_chosen-clause-left : goal.returns-in-Some-number_chosen-clause-left
returns-in-Some-number_chosen-clause-left c =
    let only = only_workers c.args.word.now (begins workers_form c.args.self.workers.free c.args.word.now c.in-Some-number_chosen.ensures.stands) in
    others_left c.args.self c.args.self.modes.free c.in-Some-number_chosen.workers.free c.args.self.nodes.free c.args.self.log.free c.args.self.tries.free c.args.word.now
    (skip_free modes_form c.args.self.modes.free c.args.word.now only.0)
    (take_free workers_form c.args.self.workers.free c.in-Some-number_chosen.workers.free c.args.word.now c.in-Some-number_chosen.ensures.stands c.in-Some-number_chosen.ensures.taken)
    (skip_free nodes_form c.args.self.nodes.free c.args.word.now only.1)
    (skip_free log_form c.args.self.log.free c.args.word.now only.2)
    (skip_free tries_form c.args.self.tries.free c.args.word.now only.3)

pub returns-in-Some-number_chosen-clause-values : goal.returns-in-Some-number_chosen-clause-values
returns-in-Some-number_chosen-clause-values c words =
    let only = only_workers c.args.word.now (begins workers_form c.args.self.workers.free c.args.word.now c.in-Some-number_chosen.ensures.stands) in
    record {
      modes = skip_number modes_form.key c.args.self.modes.free c.args.self.modes.value c.args.word.now words only.0;
      workers = take_number workers_form c.args.self.workers.free c.in-Some-number_chosen.workers.free c.args.self.workers.value c.in-Some-number_chosen.workers.value c.args.word.now words c.in-Some-number_chosen.ensures.stands c.in-Some-number_chosen.ensures.taken c.in-Some-number_chosen.ensures.value;
      nodes = skip_number nodes_form.key c.args.self.nodes.free c.args.self.nodes.value c.args.word.now words only.1;
      log = skip_flag log_form.key c.args.self.log.free c.args.self.log.value c.args.word.now words only.2;
      tries = skip_number tries_form.key c.args.self.tries.free c.args.self.tries.value c.args.word.now words only.3;
    }

pub returns-in-Some-number_chosen-2-clause-left : goal.returns-in-Some-number_chosen-2-clause-left
returns-in-Some-number_chosen-2-clause-left c =
    let only = only_nodes c.args.word.now (begins nodes_form c.args.self.nodes.free c.args.word.now c.in-Some-number_chosen-2.ensures.stands) in
    others_left c.args.self c.args.self.modes.free c.args.self.workers.free c.in-Some-number_chosen-2.nodes.free c.args.self.log.free c.args.self.tries.free c.args.word.now
    (skip_free modes_form c.args.self.modes.free c.args.word.now only.0)
    (skip_free workers_form c.args.self.workers.free c.args.word.now only.1)
    (take_free nodes_form c.args.self.nodes.free c.in-Some-number_chosen-2.nodes.free c.args.word.now c.in-Some-number_chosen-2.ensures.stands c.in-Some-number_chosen-2.ensures.taken)
    (skip_free log_form c.args.self.log.free c.args.word.now only.2)
    (skip_free tries_form c.args.self.tries.free c.args.word.now only.3)

pub returns-in-Some-number_chosen-2-clause-values : goal.returns-in-Some-number_chosen-2-clause-values
returns-in-Some-number_chosen-2-clause-values c words =
    let only = only_nodes c.args.word.now (begins nodes_form c.args.self.nodes.free c.args.word.now c.in-Some-number_chosen-2.ensures.stands) in
    record {
      modes = skip_number modes_form.key c.args.self.modes.free c.args.self.modes.value c.args.word.now words only.0;
      workers = skip_number workers_form.key c.args.self.workers.free c.args.self.workers.value c.args.word.now words only.1;
      nodes = take_number nodes_form c.args.self.nodes.free c.in-Some-number_chosen-2.nodes.free c.args.self.nodes.value c.in-Some-number_chosen-2.nodes.value c.args.word.now words c.in-Some-number_chosen-2.ensures.stands c.in-Some-number_chosen-2.ensures.taken c.in-Some-number_chosen-2.ensures.value;
      log = skip_flag log_form.key c.args.self.log.free c.args.self.log.value c.args.word.now words only.2;
      tries = skip_number tries_form.key c.args.self.tries.free c.args.self.tries.value c.args.word.now words only.3;
    }

pub returns-in-Some-log_chosen-clause-left : goal.returns-in-Some-log_chosen-clause-left
returns-in-Some-log_chosen-clause-left c =
    let only = only_log c.args.word.now (begins log_form c.args.self.log.free c.args.word.now c.in-Some-log_chosen.ensures.stands) in
    others_left c.args.self c.args.self.modes.free c.args.self.workers.free c.args.self.nodes.free c.in-Some-log_chosen.log.free c.args.self.tries.free c.args.word.now
    (skip_free modes_form c.args.self.modes.free c.args.word.now only.0)
    (skip_free workers_form c.args.self.workers.free c.args.word.now only.1)
    (skip_free nodes_form c.args.self.nodes.free c.args.word.now only.2)
    (take_free log_form c.args.self.log.free c.in-Some-log_chosen.log.free c.args.word.now c.in-Some-log_chosen.ensures.stands c.in-Some-log_chosen.ensures.taken)
    (skip_free tries_form c.args.self.tries.free c.args.word.now only.3)

pub returns-in-Some-log_chosen-clause-values : goal.returns-in-Some-log_chosen-clause-values
returns-in-Some-log_chosen-clause-values c words =
    let only = only_log c.args.word.now (begins log_form c.args.self.log.free c.args.word.now c.in-Some-log_chosen.ensures.stands) in
    record {
      modes = skip_number modes_form.key c.args.self.modes.free c.args.self.modes.value c.args.word.now words only.0;
      workers = skip_number workers_form.key c.args.self.workers.free c.args.self.workers.value c.args.word.now words only.1;
      nodes = skip_number nodes_form.key c.args.self.nodes.free c.args.self.nodes.value c.args.word.now words only.2;
      log = take_flag log_form c.args.self.log.free c.in-Some-log_chosen.log.free c.args.self.log.value c.in-Some-log_chosen.log.value c.args.word.now words c.in-Some-log_chosen.ensures.stands c.in-Some-log_chosen.ensures.taken c.in-Some-log_chosen.ensures.value;
      tries = skip_number tries_form.key c.args.self.tries.free c.args.self.tries.value c.args.word.now words only.3;
    }

pub returns-in-Some-number_chosen-3-clause-left : goal.returns-in-Some-number_chosen-3-clause-left
returns-in-Some-number_chosen-3-clause-left c =
    let only = only_tries c.args.word.now (begins tries_form c.args.self.tries.free c.args.word.now c.in-Some-number_chosen-3.ensures.stands) in
    others_left c.args.self c.args.self.modes.free c.args.self.workers.free c.args.self.nodes.free c.args.self.log.free c.in-Some-number_chosen-3.tries.free c.args.word.now
    (skip_free modes_form c.args.self.modes.free c.args.word.now only.0)
    (skip_free workers_form c.args.self.workers.free c.args.word.now only.1)
    (skip_free nodes_form c.args.self.nodes.free c.args.word.now only.2)
    (skip_free log_form c.args.self.log.free c.args.word.now only.3)
    (take_free tries_form c.args.self.tries.free c.in-Some-number_chosen-3.tries.free c.args.word.now c.in-Some-number_chosen-3.ensures.stands c.in-Some-number_chosen-3.ensures.taken)

pub returns-in-Some-number_chosen-3-clause-values : goal.returns-in-Some-number_chosen-3-clause-values
returns-in-Some-number_chosen-3-clause-values c words =
    let only = only_tries c.args.word.now (begins tries_form c.args.self.tries.free c.args.word.now c.in-Some-number_chosen-3.ensures.stands) in
    record {
      modes = skip_number modes_form.key c.args.self.modes.free c.args.self.modes.value c.args.word.now words only.0;
      workers = skip_number workers_form.key c.args.self.workers.free c.args.self.workers.value c.args.word.now words only.1;
      nodes = skip_number nodes_form.key c.args.self.nodes.free c.args.self.nodes.value c.args.word.now words only.2;
      log = skip_flag log_form.key c.args.self.log.free c.args.self.log.value c.args.word.now words only.3;
      tries = take_number tries_form c.args.self.tries.free c.in-Some-number_chosen-3.tries.free c.args.self.tries.value c.in-Some-number_chosen-3.tries.value c.args.word.now words c.in-Some-number_chosen-3.ensures.stands c.in-Some-number_chosen-3.ensures.taken c.in-Some-number_chosen-3.ensures.value;
    }
