-- The place in the table of a place of a share.
use Rattle.std.proofs.Common.{◌≡◌, ℕ, ◌+◌, ◌-◌, ◌/◌, ◌%◌, ◌<◌, ◌≤◌, ap, ◌∙◌, arith, List}
use Rattle.std.specs.Prelude.{slice_index}
use Rattle.std.proofs.lemmas.Bool.Decides.{nat_tests}
use Rattle.std.proofs.lemmas.Nat.{div-mul-add, mod-mul-add}
use Rattle.round_shares.specs.Share.{room, first_place}
use Rattle.round_shares.specs.Crew.{real_place}

-- the places of the table at the start of a round stay
pub real-stays : (starts : List ℕ) (p : ℕ) → p < room → real_place starts p ≡ p
real-stays starts p l = grind (arith, nat_tests)

real-far : (starts : List ℕ) (p : ℕ) → room ≤ p → real_place starts p ≡ slice_index starts (p / room - 1) + p % room
real-far starts p l = grind (arith, nat_tests)

-- and those of a worker come from its start on
pub real-own : (starts : List ℕ) (k i start : ℕ) → i < room → slice_index starts k ≡ start → real_place starts (first_place (k + 1) + i) ≡ start + i
real-own starts k i start l e =
    let row : (first_place (k + 1) + i) / room ≡ k + 1 = div-mul-add (k + 1) room i l in
    let column : (first_place (k + 1) + i) % room ≡ i = mod-mul-add (k + 1) room i l in
    let far = real-far starts (first_place (k + 1) + i) (omega arith) in
    let index : (first_place (k + 1) + i) / room - 1 ≡ k = omega arith in
    let at : slice_index starts ((first_place (k + 1) + i) / room - 1) ≡ start = ap (slice_index starts) index ∙ e in
    omega arith
