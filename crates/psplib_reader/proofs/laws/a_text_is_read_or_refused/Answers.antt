use Rattle.psplib_reader.proofs.OneReading.{read_or_refused, never_both, one_refusal}
use Rattle.psplib_reader.proofs.laws.a_text_is_read_or_refused.Goals as goal

pub returns-clause-either : goal.returns-clause-either
returns-clause-either c text = read_or_refused text

pub returns-clause-never_both : goal.returns-clause-never_both
returns-clause-never_both c text P f = never_both text P f

pub returns-clause-one_refusal : goal.returns-clause-one_refusal
returns-clause-one_refusal c text f g = one_refusal text f g
