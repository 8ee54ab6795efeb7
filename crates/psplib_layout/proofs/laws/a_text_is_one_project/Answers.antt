use Rattle.psplib_layout.proofs.OneContent.{one_project}
use Rattle.psplib_layout.proofs.laws.a_text_is_one_project.Goals as goal

pub returns : goal.returns
returns c text P Q = one_project text P Q
