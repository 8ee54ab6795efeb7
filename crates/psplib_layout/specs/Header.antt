-- The header: the numbers of jobs and of resources.
use Rattle.std.specs.Prelude.{◌≡◌, ℕ, ◌≤◌, false, true, List, ◌∷◌, ◌++◌, Option, Some, Result, Ok, codes}
use Rattle.std.specs.List.{AllByRecursion}
use Rattle.psplib_lex.specs.Line.{Line}
use Rattle.psplib_lex.specs.Number.{word_value}
use Rattle.psplib_layout.specs.declared.fault.Fault.TheVariants.{NotOneProject, DoublyConstrained}
pub use Rattle.psplib_layout.specs.declared.content.Header.{Header}
use Rattle.psplib_layout.specs.declared.fault.Refusal.{Refusal}
use Rattle.psplib_layout.specs.Rule.{exactly, between, up_to}
use Rattle.psplib_layout.specs.Reading.{◌>>=◌}
use Rattle.psplib_layout.specs.Title.{has_title, header_value, titled, keyed, colon_line, skipped_to}

-- ---- what the header is

-- the line has the title
abbrev pub HasTitle : List ℕ → Line → Type 0
HasTitle key line = has_title key line ≡ true

-- none of the lines has the title
abbrev pub NoneHasTitle : List ℕ → List Line → Type 0
NoneHasTitle key lines = AllByRecursion (λ line. has_title key line ≡ false) lines

-- the line has the title, and its value is this number
pub record HasValue (key : List ℕ) (line : Line) (n : ℕ) : Type 0 where
  pub titled : HasTitle key line
  pub word : List ℕ
  pub value : header_value line.words ≡ Some (Some word)
  pub number : word_value word ≡ Some n

-- the line has the title and a colon
pub record HasColon (key : List ℕ) (line : Line) : Type 0 where
  pub titled : HasTitle key line
  pub behind : Option (List ℕ)
  pub colon : header_value line.words ≡ Some behind

-- lines that aren't read, then the eight header lines, and then the rest
pub record ReadsHeader (lines : List Line) (header : Header) (rest : List Line) : Type 0 where
  pub unread : List Line
  pub projects : Line
  pub jobs : Line
  pub horizon : Line
  pub resources : Line
  pub renewables : Line
  pub nonrenewables : Line
  pub doubly_constrained : Line
  pub information : Line
  pub lines_are : lines ≡ unread ++ (projects ∷ jobs ∷ horizon ∷ resources ∷ renewables ∷ nonrenewables ∷ doubly_constrained ∷ information ∷ rest)
  pub first : NoneHasTitle (codes "projects") unread
  pub one_project : HasValue (codes "projects") projects 1
  pub job_count : HasValue (codes "jobs") jobs header.jobs
  pub some_job : 1 ≤ header.jobs
  pub few_jobs : header.jobs ≤ 128
  pub horizon_is : HasColon (codes "horizon") horizon
  pub resources_is : HasTitle (codes "RESOURCES") resources
  pub renewable_count : HasValue (codes "-renewable") renewables header.renewables
  pub few_renewables : header.renewables ≤ 16
  pub nonrenewable_count : HasValue (codes "-nonrenewable") nonrenewables header.nonrenewables
  pub few_nonrenewables : header.nonrenewables ≤ 16
  pub none_doubly_constrained : HasValue (codes "-doublyconstrained") doubly_constrained 0
  pub information_is : HasTitle (codes "PROJECTINFORMATION:") information

-- ---- reading it line by line, up to the first fault

-- the lines up to the horizon, with the number of jobs
unfoldable pub job_count_in : ℕ → List Line → Result (ℕ × List Line) Refusal
job_count_in end lines = do
  head ← skipped_to end (codes "projects") lines
  projects ← keyed end (codes "projects") (exactly 1 NotOneProject) head
  jobs ← keyed end (codes "jobs") (between 1 128) projects.1
  horizon ← colon_line end (codes "horizon") jobs.1
  Ok (jobs.0, horizon)

-- the next three lines, with the numbers of renewable and nonrenewable resources
unfoldable pub counts_in : ℕ → List Line → Result ((ℕ × ℕ) × List Line) Refusal
counts_in end lines = do
  resources ← titled end (codes "RESOURCES") lines
  renewables ← keyed end (codes "-renewable") (up_to 16) resources.1
  nonrenewables ← keyed end (codes "-nonrenewable") (up_to 16) renewables.1
  Ok ((renewables.0, nonrenewables.0), nonrenewables.1)

-- those and the last two, with the same numbers
unfoldable pub resources_in : ℕ → List Line → Result ((ℕ × ℕ) × List Line) Refusal
resources_in end lines = do
  counts ← counts_in end lines
  doubly ← keyed end (codes "-doublyconstrained") (exactly 0 DoublyConstrained) counts.1
  information ← titled end (codes "PROJECTINFORMATION:") doubly.1
  Ok (counts.0, information.1)

-- the header, and the lines behind it
unfoldable pub header_in : ℕ → List Line → Result (Header × List Line) Refusal
header_in end lines = do
  jobs ← job_count_in end lines
  resources ← resources_in end jobs.1
  Ok (record { jobs = jobs.0; renewables = resources.0.0; nonrenewables = resources.0.1 }, resources.1)
