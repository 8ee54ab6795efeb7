use Rattle.std.proofs.Common.{◌≡◌, drop}
use Rattle.psplib_layout.specs.Title.{key_left}
use Rattle.psplib_layout.proofs.title.left_of_key.Given as goal

abbrev pub invariant-loop-byte : goal.invariant-loop-byte
invariant-loop-byte l = key_left l.key (drop l.byte-index l.word) ≡ key_left l.fn.key l.word
