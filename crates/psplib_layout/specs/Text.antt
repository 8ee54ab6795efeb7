-- A whole text: the project that it is, or its first refusal.
use Rattle.std.specs.Prelude.{◌≡◌, ℕ, ◌+◌, ◌-◌, ◌<◌, ◌≤◌, ◌⊎◌, List, [], ◌∷◌, ◌++◌, length, take, count_by, nat_lt, Result, Ok, Err, if◌then◌else◌}
use Rattle.psplib_lex.specs.declared.lexer.TheConstants.{MOST_BYTES}
use Rattle.psplib_lex.specs.Line.{Line, is_line_end, lines_of}
use Rattle.rcpsp_model.specs.Project.{Project, IsAcyclic}
use Rattle.rcpsp_model.specs.Chain.{IsLeast, IsOnCycle}
use Rattle.psplib_layout.specs.declared.fault.Fault.TheVariants.{TextTooLong, Cycle}
use Rattle.psplib_layout.specs.declared.fault.Refusal.{Refusal}
use Rattle.psplib_layout.specs.declared.fault.ReadError.{ReadError}
use Rattle.psplib_layout.specs.declared.fault.ReadError.TheVariants as errors
use Rattle.psplib_layout.specs.Reading.{◌>>=◌, refusal}
use Rattle.psplib_layout.specs.Header.{header_in}
use Rattle.psplib_layout.specs.Precedence.{JobRow, rows_numbers}
use Rattle.psplib_layout.specs.Layout.{Content, ReadsLayout, rows_begin_in, layout_in, project_of}

-- the text has this content
pub record HasContent (text : List ℕ) (content : Content) : Type 0 where
  pub few_bytes : length text ≤ MOST_BYTES
  pub layout : ReadsLayout (lines_of text) content

-- the text is this project: it describes it, and no job of it comes before itself
pub record Reads (text : List ℕ) (P : Project) : Type 0 where
  pub content : Content
  pub has_content : HasContent text content
  pub described : project_of content ≡ P
  pub acyclic : IsAcyclic P

-- the text is some project
abbrev pub IsProjectText : List ℕ → Type 0
IsProjectText text = (P : Project) × Reads text P

-- the line on which a text ends: one more than it has LF bytes
abbrev pub end_line : List ℕ → ℕ
end_line text = count_by is_line_end text + 1

-- the content of a text, or the first rule that it breaks, cycles apart
unfoldable pub content_in : List ℕ → Result Content Refusal
content_in text = if nat_lt MOST_BYTES (length text) then refusal TextTooLong 0 else layout_in (end_line text) (lines_of text)

-- a refusal of the text because it is too long, or want of memory
abbrev pub IsRefusedAsLong : List ℕ → ReadError → Type 0
IsRefusedAsLong text errors.NoMemory = Unit {0}
IsRefusedAsLong text (errors.Refused f) = (MOST_BYTES < length text) × (f ≡ record { fault = TextTooLong; line = 0 })

-- ---- cycles, which are judged when all else is read

-- the line of a word of lines, counted from 0 through all of them
abbrev pub line_of_word : List Line → ℕ → ℕ
line_of_word [] i = 0
line_of_word (line ∷ lines) i = if nat_lt i (length line.words) then line.number else line_of_word lines (i - length line.words)

-- the line of a job's number, where the rows of all jobs stand on these lines
abbrev pub row_line : List Line → List JobRow → ℕ → ℕ
row_line lines rows job = line_of_word lines (length (rows_numbers 1 (take (job - 1) rows)))

-- the line of a job's number in the precedence part of a text with these rows
unfoldable pub job_line_in : ℕ → List Line → List JobRow → ℕ → Result ℕ Refusal
job_line_in end lines rows job = do
  header ← header_in end lines
  begin ← rows_begin_in end header.1
  Ok (row_line begin rows job)

-- the text has a content with a cycle, and this is the line of the lowest job that lies on one
pub record HasCycle (text : List ℕ) (f : Refusal) : Type 0 where
  pub content : Content
  pub has_content : HasContent text content
  pub job : ℕ
  pub lowest : IsLeast (IsOnCycle (project_of content)) job
  pub fault_is : f.fault ≡ Cycle
  pub line_is : job_line_in (end_line text) (lines_of text) content.rows job ≡ Ok f.line

-- this is the first refusal of the text
abbrev pub IsFirstRefusal : List ℕ → Refusal → Type 0
IsFirstRefusal text f = (content_in text ≡ Err f) ⊎ HasCycle text f
