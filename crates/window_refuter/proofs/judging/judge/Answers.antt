use Rattle.window_refuter.proofs.Within.{judged-within}
use Rattle.window_refuter.proofs.judging.judge.Goals as goal

pub returns-in-None : goal.returns-in-None
returns-in-None c = record {
  judged = c.judge_where_none_is_empty.ensures;
  within = judged-within c.args.project.now c.args.end c.args.windows.now c.judge_where_none_is_empty.new.windows c.args.step c.judge_where_none_is_empty.result c.known.ensures.acyclic c.requires.soon c.requires.within c.judge_where_none_is_empty.ensures;
}
