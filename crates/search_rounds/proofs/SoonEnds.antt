-- A plan to begin with.
use Rattle.std.proofs.Common.{ℕ, zero, suc, ◌+◌, ◌<◌, ◌≤◌, arith, List, [], ◌∷◌, length, get_or}
use Rattle.rcpsp_model.specs.declared.parts.Placing.{Placing}
use Rattle.rcpsp_model.specs.Project.{Project}
use Rattle.rcpsp_model.specs.Schedule.{end_of, entries, entries_from}

-- each start is at most the end
start-end : (P : Project) (j : ℕ) (s : List Placing) (i : ℕ) (d : Placing) → i < length s → (get_or s i d).start ≤ end_of P (entries_from j s)
start-end P j [] i d h = absurd (omega arith)
start-end P j (p ∷ ps) zero d h = omega arith
start-end P j (p ∷ ps) (suc i) d h = let later = start-end P (j + 1) ps i d (omega arith) in omega arith

pub starts-soon : (P : Project) (s : List Placing) (i : ℕ) (d : Placing) → end_of P (entries s) ≤ 1290000 → i < length s → (get_or s i d).start ≤ 999999999
starts-soon P s i d soon h = let le = start-end P 1 s i d h in omega arith
