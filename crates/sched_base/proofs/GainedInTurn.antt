-- What a sink gained in several calls.
use Rattle.std.proofs.Common.{◌≡◌, ℕ, ◌+◌, ◌-◌, arith, length, sym, ap, subst, ◌∙◌, List, [], ◌++◌, take, drop, append_assoc, Option, None, Some}
use Rattle.std.proofs.Math.Seq.{take-add}
use Rattle.std.proofs.lemmas.List.{append-nil, take-append-drop, take_all, length-drop}
use Rattle.sched_base.specs.Outside.{Gains, GainsFront}

pub gains_nothing : (before : Option (List ℕ)) → Gains before before []
gains_nothing None = tt
gains_nothing (Some held) = sym (append-nil held)

-- what was gained in one call and then in another was gained in both
pub gains_more : (before between now : Option (List ℕ)) (first second : List ℕ) → Gains before between first → Gains between now second → Gains before now (first ++ second)
gains_more before between None first second a b = tt
gains_more before None (Some now) first second a b = absurd b
gains_more None (Some held) (Some now) first second a b = absurd a
gains_more (Some start) (Some held) (Some now) first second a b = b ∙ ap (λ xs. xs ++ second) a ∙ append_assoc start first second

-- the first n bytes, and then m of all that were left
pub gains_next : (before between now : Option (List ℕ)) (bytes : List ℕ) (n m : ℕ) → Gains before between (take n bytes) → Gains between now (take m (take (length bytes - n) (drop n bytes))) → Gains before now (take (n + m) bytes)
gains_next before between now bytes n m a b =
    let left : take (length bytes - n) (drop n bytes) ≡ drop n bytes = take_all (length bytes - n) (drop n bytes) (omega (arith, length-drop n bytes)) in
    subst (Gains before now) (sym (take-add n m bytes)) (gains_more before between now (take n bytes) (take m (drop n bytes)) a (subst (λ xs. Gains between now (take m xs)) left b))

-- the first n bytes, and then none
pub gains_front : (before between now : Option (List ℕ)) (bytes : List ℕ) (n : ℕ) → Gains before between (take n bytes) → Gains between now [] → GainsFront before now bytes
gains_front before between now bytes n a b = record {
  front = take n bytes;
  rest = drop n bytes;
  whole = sym (take-append-drop n bytes);
  gained = subst (Gains before now) (append-nil (take n bytes)) (gains_more before between now (take n bytes) [] a b);
}
