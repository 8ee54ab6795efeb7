-- The line of a job's number, in a text of which no more is known than its lines.
use Rattle.std.specs.Prelude.{ℕ, List, Result}
use Rattle.psplib_lex.specs.Line.{Line}
use Rattle.psplib_layout.specs.declared.fault.Refusal.{Refusal}
use Rattle.psplib_layout.specs.Layout.{layout_in}
use Rattle.psplib_layout.specs.Reading.{◌>>=◌}
use Rattle.psplib_layout.specs.Text.{job_line_in}

-- where the lines are the layout, the line of the job's number in the precedence part
unfoldable pub line_in : ℕ → List Line → ℕ → Result ℕ Refusal
line_in end lines job = do
  content ← layout_in end lines
  job_line_in end lines content.rows job
