-- Steps that may be refused.
use Rattle.std.proofs.Common.{◌≡◌, Result, Ok, Err, refl}
use Rattle.psplib_layout.specs.declared.fault.Refusal.{Refusal}
use Rattle.psplib_layout.specs.Reading.{◌>>=◌}

-- the value of a step that wasn't refused
pub bind_ok : {A B : Type 0} (r : Result A Refusal) (f : A → Result B Refusal) (y : B) → (r >>= f) ≡ Ok y → (x : A) × (r ≡ Ok x) × (f x ≡ Ok y)
bind_ok (Ok x) f y e = (x, refl, e)
bind_ok (Err d) f y e = absurd cc

abbrev pub done : {A : Type 0} → A → Result A Refusal
done x = Ok x

pub ok_is : {A : Type 0} (x y : A) → done x ≡ done y → x ≡ y
ok_is x y e = cc
