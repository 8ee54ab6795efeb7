-- The least made project of seed 42: job 2 between jobs 1 and 3, in one mode.
use Rattle.std.specs.Prelude.{ℕ, List, [], ◌∷◌}
use Rattle.rcpsp_model.specs.Project.{Project}

-- the first words for seed 42
abbrev pub first_words : List ℕ
first_words = 0xa15c02b7 ∷ 0x7b47f409 ∷ 0xba1d3330 ∷ 0x83d2f293 ∷ 0xbfa4784b ∷ []

-- jobs 1, 2 and 3 one after another; job 2 takes 5 periods, and a unit of each resource
abbrev pub least_project : Project
least_project = record {
  activities =
      record { modes = record { duration = 0; requests = 0 ∷ 0 ∷ []; needs = [] } ∷ []; successors = 2 ∷ [] }
      ∷ record { modes = record { duration = 5; requests = 1 ∷ 1 ∷ []; needs = [] } ∷ []; successors = 3 ∷ [] }
      ∷ record { modes = record { duration = 0; requests = 0 ∷ 0 ∷ []; needs = [] } ∷ []; successors = [] } ∷ [];
  capacities = 8 ∷ 8 ∷ [];
  budgets = [];
  calendar = [];
}
