use Rattle.psplib_reader.proofs.OneReading.{read_exactly, refused_exactly}
use Rattle.psplib_reader.proofs.reader.read_project.Goals as goal

pub returns-clause-if_project : goal.returns-clause-if_project
returns-clause-if_project c P reads = read_exactly c.args.text.now c.judged.result c.judged.ensures.ok c.judged.ensures.refused P reads

pub returns-clause-if_refused : goal.returns-clause-if_refused
returns-clause-if_refused c f first = refused_exactly c.args.text.now c.judged.result c.judged.ensures.ok c.judged.ensures.refused f first
