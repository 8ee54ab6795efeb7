-- What an answer tells of a worker.
use Rattle.std.proofs.Common.{◌≡◌, false, Result, Ok, Err}
use Rattle.std.specs.Prelude.{OnOk}
use Rattle.std.specs.Result.{is_err}

-- what holds where a call doesn't fail, holds where it is known not to have failed
pub from-answer : {X E : Type 0} (r : Result X E) (Q : Type 0) → is_err r ≡ false → OnOk r Q → Q
from-answer (Ok x) Q good q = q
from-answer (Err e) Q good q = absurd cc
