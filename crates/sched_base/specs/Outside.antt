-- Texts that are read by name, bytes that are written, and the faults of either.
use Rattle.std.specs.Prelude.{◌≡◌, ℕ, ◌+◌, ◌-◌, ◌^◌, ◌≤◌, min, List, [], ◌∷◌, ◌++◌, length, take, Option, None, Some, Result, OnErr, if◌then◌else◌}
use Rattle.std.specs.Str.{bytes_eq}
use Rattle.sched_base.specs.declared.faults.Failed.{Failed}

-- The texts of a shelf are pairs of a name and the bytes under it.

-- the text under a name: the first of that name, and the empty text where there is none
abbrev pub text_under : List (List ℕ × List ℕ) → List ℕ → List ℕ
text_under [] name = []
text_under (text ∷ more) name = if bytes_eq text.0 name then text.1 else text_under more name

-- where the texts are told, the text of this name is in hand, whole
abbrev pub Begins : Option (List (List ℕ × List ℕ)) → List ℕ → List ℕ → Type 0
Begins None name left = Unit {0}
Begins (Some texts) name left = left ≡ text_under texts name

-- the next n bytes of what was left were taken, and there was no more only where none was taken into some room
pub record Takes (before after piece : List ℕ) (n : ℕ) : Type 0 where
  pub taken : before ≡ take n piece ++ after
  pub ended : n ≡ 0 → 1 ≤ length piece → before ≡ []

-- a sink that tells its bytes told them before, and has gained these
abbrev pub Gains : Option (List ℕ) → Option (List ℕ) → List ℕ → Type 0
Gains before None bytes = Unit {0}
Gains None (Some now) bytes = ⊥
Gains (Some held) (Some now) bytes = now ≡ held ++ bytes

-- a sink that tells its bytes told them before, and has gained a prefix of these
pub record GainsFront (before now : Option (List ℕ)) (bytes : List ℕ) : Type 0 where
  pub front : List ℕ
  pub rest : List ℕ
  pub whole : bytes ≡ front ++ rest
  pub gained : Gains before now front

-- a count that rose, or that stands at the end of a u64
abbrev pub Rose : ℕ → ℕ → Type 0
Rose before now = min (before + 1) (2 ^ 64 - 1) ≤ now

-- a count of faults never falls, and a call that failed has counted it
pub record HasCause {T : Type 0} (before now : ℕ) (result : Result T Failed) : Type 0 where
  pub later : before ≤ now
  pub failed : OnErr result (Rose before now)
