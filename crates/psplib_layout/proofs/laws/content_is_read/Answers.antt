use Rattle.psplib_layout.proofs.OneContent.{content_found, content_again}
use Rattle.psplib_layout.proofs.laws.content_is_read.Goals as goal

pub returns : goal.returns
returns c text content = (content_found text content, content_again text content)
