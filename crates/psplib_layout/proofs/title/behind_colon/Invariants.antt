use Rattle.std.proofs.Common.{◌≡◌, drop}
use Rattle.psplib_layout.specs.Title.{behind_colon}
use Rattle.psplib_layout.proofs.title.behind_colon.Given as goal

abbrev pub invariant-loop-i : goal.invariant-loop-i
invariant-loop-i l = behind_colon (drop l.i l.word) ≡ behind_colon l.word
