-- The jobs of a draft, from the rows and the modes of a text.
use Rattle.std.specs.Prelude.{List, [], ◌∷◌}
use Rattle.rcpsp_model.specs.declared.parts.Mode.{Mode}
use Rattle.psplib_layout.specs.declared.content.JobRow.{JobRow}
use Rattle.project_net.specs.declared.draft.DraftJob.{DraftJob}

-- a job with the successors of each row, and the modes in the same place
abbrev pub drafted : List JobRow → List (List Mode) → List DraftJob
drafted [] modes = []
drafted (row ∷ rows) [] = []
drafted (row ∷ rows) (modes ∷ more) = record { modes = modes; successors = row.successors } ∷ drafted rows more
