-- The whole layout: the header and the parts behind it, and the project that they describe.
use Rattle.std.specs.Prelude.{◌≡◌, ℕ, ◌+◌, ◌≤◌, ◌⊎◌, ◌==◌, Bool, true, false, List, [], ◌∷◌, ◌++◌, map, filter, Result, Ok, codes, if◌then◌else◌}
use Rattle.std.specs.List.{list_any}
use Rattle.psplib_lex.specs.Line.{Line}
use Rattle.rcpsp_model.specs.declared.parts.CalRow.{CalRow}
use Rattle.rcpsp_model.specs.declared.parts.Mode.{Mode}
use Rattle.rcpsp_model.specs.Project.{Project, Activity, numbers_from}
pub use Rattle.psplib_layout.specs.declared.content.Content.{Content}
use Rattle.psplib_layout.specs.declared.fault.Fault.TheVariants.{WordsLeft}
use Rattle.psplib_layout.specs.declared.fault.Refusal.{Refusal}
use Rattle.psplib_layout.specs.Reading.{◌>>=◌, refusal}
use Rattle.psplib_layout.specs.Title.{has_title, titled, skipped_to, any_line, no_more}
use Rattle.psplib_layout.specs.Part.{HasPart, part_in}
use Rattle.psplib_layout.specs.Header.{Header, HasTitle, NoneHasTitle, ReadsHeader, header_in}
use Rattle.psplib_layout.specs.Precedence.{JobRow, rows_numbers, AreRows, all_rows}
use Rattle.psplib_layout.specs.Requests.{all_modes_numbers, AreModes, all_modes}
use Rattle.psplib_layout.specs.Availabilities.{Amounts, AreAmounts, all_amounts}
use Rattle.psplib_layout.specs.Calendar.{calendar_numbers, AreCalRows, whole_calendar}

-- ---- what each part is

-- lines that aren't read, the title, a heading, and lines that spell the rows of all jobs
pub record ReadsPrecedence (header : Header) (lines : List Line) (rows : List JobRow) (rest : List Line) : Type 0 where
  pub unread : List Line
  pub title : Line
  pub heading : Line
  pub behind : List Line
  pub lines_are : lines ≡ unread ++ (title ∷ heading ∷ behind)
  pub first : NoneHasTitle (codes "PRECEDENCERELATIONS:") unread
  pub title_is : HasTitle (codes "PRECEDENCERELATIONS:") title
  pub part : HasPart (rows_numbers 1 rows) behind rest
  pub limits : AreRows header.jobs rows

-- how many modes each job has by its row
abbrev pub mode_counts : List JobRow → List ℕ
mode_counts rows = map (λ row. row.modes) rows

-- the title, a heading, and lines that spell the modes of all jobs, as many as the rows say
pub record ReadsRequests (header : Header) (rows : List JobRow) (lines : List Line) (modes : List (List Mode)) (rest : List Line) : Type 0 where
  pub title : Line
  pub heading : Line
  pub behind : List Line
  pub lines_are : lines ≡ title ∷ heading ∷ behind
  pub title_is : HasTitle (codes "REQUESTS/DURATIONS:") title
  pub part : HasPart (all_modes_numbers 1 modes) behind rest
  pub limits : AreModes header.renewables header.nonrenewables (mode_counts rows) modes

-- the lines are a heading and lines that spell the amounts
pub record ListsAmounts (lines : List Line) (amounts : Amounts) (rest : List Line) : Type 0 where
  pub heading : Line
  pub behind : List Line
  pub lines_are : lines ≡ heading ∷ behind
  pub part : HasPart (amounts.capacities ++ amounts.budgets) behind rest

-- where there is no resource, nothing follows the title
abbrev pub HasAmounts : Bool → List Line → Amounts → List Line → Type 0
HasAmounts true lines amounts rest = lines ≡ rest
HasAmounts false lines amounts rest = ListsAmounts lines amounts rest

-- whether there is a resource of neither kind
abbrev pub has_no_resource : Header → Bool
has_no_resource header = header.renewables + header.nonrenewables == 0

-- the title, and the amounts where there is a resource
pub record ReadsAvailabilities (header : Header) (lines : List Line) (amounts : Amounts) (rest : List Line) : Type 0 where
  pub title : Line
  pub behind : List Line
  pub lines_are : lines ≡ title ∷ behind
  pub title_is : HasTitle (codes "RESOURCEAVAILABILITIES:") title
  pub listed : HasAmounts (has_no_resource header) behind amounts rest
  pub limits : AreAmounts header.renewables header.nonrenewables amounts

-- the title, a heading, and lines that spell the rows of the calendar, which may be none; and no more
pub record ListsRows (lines : List Line) (rows : List CalRow) : Type 0 where
  pub title : Line
  pub heading : Line
  pub behind : List Line
  pub lines_are : lines ≡ title ∷ heading ∷ behind
  pub title_is : HasTitle (codes "CALENDAR:") title
  pub part : HasPart (calendar_numbers rows) behind []

-- a project without a calendar needs no such part
abbrev pub HasNoCalendar : List Line → List CalRow → Type 0
HasNoCalendar lines rows = (lines ≡ []) × (rows ≡ [])

-- the rows of the calendar
pub record ReadsCalendar (capacities : List ℕ) (lines : List Line) (rows : List CalRow) : Type 0 where
  pub listed : HasNoCalendar lines rows ⊎ ListsRows lines rows
  pub limits : AreCalRows capacities rows

-- the lines are the header and the parts in their order, and no more
pub record ReadsLayout (lines : List Line) (content : Content) : Type 0 where
  pub behind_header : List Line
  pub behind_precedence : List Line
  pub behind_requests : List Line
  pub behind_availabilities : List Line
  pub header : ReadsHeader lines content.header behind_header
  pub precedence : ReadsPrecedence content.header behind_header content.rows behind_precedence
  pub requests : ReadsRequests content.header content.rows behind_precedence content.modes behind_requests
  pub availabilities : ReadsAvailabilities content.header behind_requests content.amounts behind_availabilities
  pub calendar : ReadsCalendar content.amounts.capacities behind_availabilities content.calendar

-- the numbers of a content are within the limits, and its lists as long as they say
pub record IsWithinContentLimits (content : Content) : Type 0 where
  pub some_job : 1 ≤ content.header.jobs
  pub few_jobs : content.header.jobs ≤ 128
  pub few_renewables : content.header.renewables ≤ 16
  pub few_nonrenewables : content.header.nonrenewables ≤ 16
  pub rows : AreRows content.header.jobs content.rows
  pub modes : AreModes content.header.renewables content.header.nonrenewables (mode_counts content.rows) content.modes
  pub amounts : AreAmounts content.header.renewables content.header.nonrenewables content.amounts
  pub calendar : AreCalRows content.amounts.capacities content.calendar

-- the jobs of so many that are among these, ascending and each once
abbrev pub ascending : ℕ → List ℕ → List ℕ
ascending jobs successors = filter (λ job. list_any (λ s. s == job) successors) (numbers_from 1 jobs)

-- the jobs of a project of so many, by their rows and their modes
abbrev pub activities_of : ℕ → List JobRow → List (List Mode) → List Activity
activities_of jobs [] modes = []
activities_of jobs (row ∷ rows) [] = []
activities_of jobs (row ∷ rows) (modes ∷ more) = record { modes = modes; successors = ascending jobs row.successors } ∷ activities_of jobs rows more

-- the project that the content describes; it may have a cycle
abbrev pub project_of : Content → Project
project_of content = record {
  activities = activities_of content.header.jobs content.rows content.modes;
  capacities = content.amounts.capacities;
  budgets = content.amounts.budgets;
  calendar = content.calendar;
}

-- ---- reading it, up to the first fault

-- the lines behind the title and the heading of the precedence part
unfoldable pub rows_begin_in : ℕ → List Line → Result (List Line) Refusal
rows_begin_in end lines = do
  title ← skipped_to end (codes "PRECEDENCERELATIONS:") lines
  heading ← any_line end title
  any_line end heading

-- the rows of all jobs, and the lines behind the part
unfoldable pub precedence_in : ℕ → Header → List Line → Result (List JobRow × List Line) Refusal
precedence_in end header lines = do
  rows ← rows_begin_in end lines
  part_in end (all_rows header.jobs) rows

-- the modes of all jobs, and the lines behind the part
unfoldable pub requests_in : ℕ → Header → List JobRow → List Line → Result (List (List Mode) × List Line) Refusal
requests_in end header rows lines = do
  title ← titled end (codes "REQUESTS/DURATIONS:") lines
  modes ← any_line end title.1
  part_in end (all_modes header.renewables header.nonrenewables 1 (mode_counts rows)) modes

-- the amounts where there is a resource
unfoldable pub listed_in : ℕ → Header → List Line → Result (Amounts × List Line) Refusal
listed_in end header lines = do
  amounts ← any_line end lines
  part_in end (all_amounts header.renewables header.nonrenewables) amounts

-- the amounts where there is no resource
abbrev pub no_amounts : Amounts
no_amounts = record { capacities = []; budgets = [] }

-- the amounts, and the lines behind the part
unfoldable pub availabilities_in : ℕ → Header → List Line → Result (Amounts × List Line) Refusal
availabilities_in end header lines = do
  title ← titled end (codes "RESOURCEAVAILABILITIES:") lines
  if has_no_resource header then Ok (no_amounts, title.1) else listed_in end header title.1

-- the rows behind the title of the calendar part, behind which no line is left
unfoldable pub listed_rows_in : ℕ → List ℕ → List Line → Result (List CalRow) Refusal
listed_rows_in end capacities lines = do
  heading ← any_line end lines
  rows ← part_in end (whole_calendar capacities) heading
  none ← no_more rows.1
  Ok rows.0

-- the rows of the calendar, or none where no line is left
abbrev pub calendar_in : ℕ → List ℕ → List Line → Result (List CalRow) Refusal
calendar_in end capacities [] = Ok []
calendar_in end capacities (line ∷ more) = if has_title (codes "CALENDAR:") line then listed_rows_in end capacities more else refusal WordsLeft line.number

-- the content of lines that are the layout and no more
unfoldable pub layout_in : ℕ → List Line → Result Content Refusal
layout_in end lines = do
  header ← header_in end lines
  rows ← precedence_in end header.0 header.1
  modes ← requests_in end header.0 rows.0 rows.1
  amounts ← availabilities_in end header.0 modes.1
  calendar ← calendar_in end amounts.0.capacities amounts.1
  Ok (record { header = header.0; rows = rows.0; modes = modes.0; amounts = amounts.0; calendar = calendar })
