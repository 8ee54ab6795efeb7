use Rattle.std.proofs.Common.{arith}
use Rattle.psplib_layout.specs.Title.{key_left}
use Rattle.psplib_layout.proofs.Keys.{key_done}
use Rattle.psplib_layout.proofs.title.left_of_key.Goals as goal

pub returns : goal.returns
returns c = key_done c.loop-byte.key.now c.args.word.now c.loop-byte.byte-index (key_left c.args.key.now c.args.word.now) (omega arith) c.loop-byte.invariant
