use Rattle.project_gen.proofs.DrawSteps.{drawn_word, left_word}
use Rattle.project_gen.proofs.drawing.draw.Goals as goal

pub returns-clause-value : goal.returns-clause-value
returns-clause-value g c = drawn_word _ _ _ _ c.next_u32.ensures

pub returns-clause-left : goal.returns-clause-left
returns-clause-left g c = left_word _ _ _ c.next_u32.ensures
