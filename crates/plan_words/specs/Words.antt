-- The words of a command, and the place of the first that can't stand.
use Rattle.std.specs.Prelude.{◌≡◌, ℕ, ◌+◌, ◌≤◌, ◌⊎◌, Bool, true, false, IsTrue, not, ◌&&◌, ◌||◌, ◌==◌, nat_le, List, [], ◌∷◌, length, take, drop, codes, Option, None, Some, if◌then◌else◌}
use Rattle.std.specs.List.{slice_index_or}
use Rattle.std.specs.Str.{bytes_eq}
use Rattle.psplib_lex.specs.Number.{is_number, digits_value}
use Rattle.plan_words.specs.declared.command.Request.{Request}
use Rattle.plan_words.specs.declared.command.Recipe.{Recipe}
use Rattle.plan_words.specs.declared.command.Command.{Command}
use Rattle.plan_words.specs.declared.command.Command.TheVariants as commands

-- ---- what a word has to be

-- the name of a project, a report or a bound: any text that isn't empty
abbrev pub is_name : List ℕ → Bool
is_name word = not (length word == 0)

-- one to nine decimal digits, for a number from the least to the most
unfoldable pub is_within : ℕ → ℕ → List ℕ → Bool
is_within least most word = is_number word && (nat_le (length word) 9 && (nat_le least (digits_value word) && nat_le (digits_value word) most))

abbrev pub is_seed : List ℕ → Bool
is_seed word = is_within 0 999999999 word

abbrev pub is_jobs : List ℕ → Bool
is_jobs word = is_within 3 128 word

abbrev pub is_yes : List ℕ → Bool
is_yes word = bytes_eq word (codes "yes")

abbrev pub is_yes_or_no : List ℕ → Bool
is_yes_or_no word = is_yes word || bytes_eq word (codes "no")

-- ---- options

-- an option: what its word begins with, and what may stand behind that
pub record Form : Type 0 where
  pub key : List ℕ
  pub may : List ℕ → Bool

-- a number from the least to the most behind the key
abbrev pub number_form : List ℕ → ℕ → ℕ → Form
number_form key least most = record { key = key; may = is_within least most }

abbrev pub modes_form : Form
modes_form = number_form (codes "modes=") 1 4

abbrev pub workers_form : Form
workers_form = number_form (codes "workers=") 1 32

abbrev pub nodes_form : Form
nodes_form = number_form (codes "nodes=") 0 100000

abbrev pub log_form : Form
log_form = record { key = codes "log="; may = is_yes_or_no }

abbrev pub tries_form : Form
tries_form = number_form (codes "tries=") 0 1000000

unfoldable pub begins_with : List ℕ → List ℕ → Bool
begins_with key word = bytes_eq (take (length key) word) key

-- the word gives the option
abbrev pub gives : Form → List ℕ → Bool
gives form word = begins_with form.key word && form.may (drop (length form.key) word)

-- the word gives one of the options
abbrev pub gives_some : List Form → List ℕ → Bool
gives_some [] word = false
gives_some (form ∷ forms) word = gives form word || gives_some forms word

-- the options that the word doesn't give: they may still come
abbrev pub others : List Form → List ℕ → List Form
others [] word = []
others (form ∷ forms) word = if gives form word then others forms word else form ∷ others forms word

-- ---- the first word that can't stand

-- the place of the first word, counted from this number, that can't stand: first come words that have to stand, each with its
-- test, and then words of which each gives another one of the options; a word that is missing can't stand either
abbrev pub first_bad : List (List ℕ → Bool) → List Form → List (List ℕ) → ℕ → Option ℕ
first_bad (test ∷ tests) forms [] place = Some place
first_bad (test ∷ tests) forms (word ∷ words) place = if test word then first_bad tests forms words (place + 1) else Some place
first_bad [] forms [] place = None
first_bad [] forms (word ∷ words) place = if gives_some forms word then first_bad [] (others forms word) words (place + 1) else Some place

-- ---- the commands

abbrev pub is_solve : List ℕ → Bool
is_solve word = bytes_eq word (codes "solve")

abbrev pub is_check : List ℕ → Bool
is_check word = bytes_eq word (codes "check")

abbrev pub is_show : List ℕ → Bool
is_show word = bytes_eq word (codes "show")

abbrev pub is_make : List ℕ → Bool
is_make word = bytes_eq word (codes "make")

abbrev pub is_trial : List ℕ → Bool
is_trial word = bytes_eq word (codes "trial")

abbrev pub is_plan : List ℕ → Bool
is_plan word = bytes_eq word (codes "plan")

abbrev pub is_bound : List ℕ → Bool
is_bound word = bytes_eq word (codes "bound")

abbrev pub is_verify : List ℕ → Bool
is_verify word = bytes_eq word (codes "verify")

-- the place, from 1, of the first word that can't stand; none where the words are a command:
--   solve PROJECT     then any of workers=W, nodes=L, log=yes or log=no, tries=N
--   check PROJECT REPORT
--   show PROJECT
--   make SEED JOBS    then modes=M or nothing
--   trial SEED JOBS   then any of modes=M, workers=W, nodes=L
--   plan PROJECT      then tries=N or nothing
--   bound PROJECT
--   verify PROJECT BOUND
abbrev pub bad_word : List (List ℕ) → Option ℕ
bad_word [] = Some 1
bad_word (command ∷ words) =
    if is_solve command then first_bad (is_name ∷ []) (workers_form ∷ nodes_form ∷ log_form ∷ tries_form ∷ []) words 2 else
    (if is_check command then first_bad (is_name ∷ is_name ∷ []) [] words 2 else
    (if is_show command then first_bad (is_name ∷ []) [] words 2 else
    (if is_make command then first_bad (is_seed ∷ is_jobs ∷ []) (modes_form ∷ []) words 2 else
    (if is_trial command then first_bad (is_seed ∷ is_jobs ∷ []) (modes_form ∷ workers_form ∷ nodes_form ∷ []) words 2 else
    (if is_plan command then first_bad (is_name ∷ []) (tries_form ∷ []) words 2 else
    (if is_bound command then first_bad (is_name ∷ []) [] words 2 else
    (if is_verify command then first_bad (is_name ∷ is_name ∷ []) [] words 2 else Some 1)))))))

-- ---- what the words ask for

-- word i, counted from 0
abbrev pub word_at : List (List ℕ) → ℕ → List ℕ
word_at words i = slice_index_or words i []

abbrev pub IsSolve : List (List ℕ) → Type 0
IsSolve words = (bad_word words ≡ None) × IsTrue (is_solve (word_at words 0))

abbrev pub IsCheck : List (List ℕ) → Type 0
IsCheck words = (bad_word words ≡ None) × IsTrue (is_check (word_at words 0))

abbrev pub IsShow : List (List ℕ) → Type 0
IsShow words = (bad_word words ≡ None) × IsTrue (is_show (word_at words 0))

abbrev pub IsMake : List (List ℕ) → Type 0
IsMake words = (bad_word words ≡ None) × IsTrue (is_make (word_at words 0))

abbrev pub IsTrial : List (List ℕ) → Type 0
IsTrial words = (bad_word words ≡ None) × IsTrue (is_trial (word_at words 0))

abbrev pub IsPlan : List (List ℕ) → Type 0
IsPlan words = (bad_word words ≡ None) × IsTrue (is_plan (word_at words 0))

abbrev pub IsBound : List (List ℕ) → Type 0
IsBound words = (bad_word words ≡ None) × IsTrue (is_bound (word_at words 0))

abbrev pub IsVerify : List (List ℕ) → Type 0
IsVerify words = (bad_word words ≡ None) × IsTrue (is_verify (word_at words 0))

-- the words speak of a made project: they ask for its text, or to solve it
abbrev pub IsMade : List (List ℕ) → Type 0
IsMade words = IsMake words ⊎ IsTrial words

-- the words speak of the project under a name: they ask to solve it, to judge a report on it, to show it, for a plan of it, for a
-- bound of it, or to judge one
abbrev pub IsOnProject : List (List ℕ) → Type 0
IsOnProject words = IsSolve words ⊎ (IsCheck words ⊎ (IsShow words ⊎ (IsPlan words ⊎ (IsBound words ⊎ IsVerify words))))

-- the words ask for the text of a project
abbrev pub IsPrint : List (List ℕ) → Type 0
IsPrint words = IsShow words ⊎ IsMake words

-- the name of the project, which is the second word
abbrev pub project_name : List (List ℕ) → List ℕ
project_name words = word_at words 1

-- the name of the report, which is the third
abbrev pub report_name : List (List ℕ) → List ℕ
report_name words = word_at words 2

-- and so is that of the bound
abbrev pub bound_name : List (List ℕ) → List ℕ
bound_name words = word_at words 2

abbrev pub seed_in : List (List ℕ) → ℕ
seed_in words = digits_value (word_at words 1)

abbrev pub jobs_in : List (List ℕ) → ℕ
jobs_in words = digits_value (word_at words 2)

-- what stands behind the key in the first word that begins with it, as a number; the default where there is no such word
abbrev pub number_behind : List ℕ → ℕ → List (List ℕ) → ℕ
number_behind key default [] = default
number_behind key default (word ∷ words) = if begins_with key word then digits_value (drop (length key) word) else number_behind key default words

-- one mode, unless the words say otherwise
abbrev pub modes_in : List (List ℕ) → ℕ
modes_in words = number_behind (codes "modes=") 1 (drop 3 words)

-- one worker
abbrev pub workers_in : List (List ℕ) → ℕ
workers_in words = number_behind (codes "workers=") 1 (drop 2 words)

-- 50,000 expansions
abbrev pub nodes_in : List (List ℕ) → ℕ
nodes_in words = number_behind (codes "nodes=") 50000 (drop 2 words)

-- no tries, of `solve` and of `plan`
abbrev pub tries_in : List (List ℕ) → ℕ
tries_in words = number_behind (codes "tries=") 0 (drop 2 words)

-- workers and expansions of `trial`, where options stand behind two numbers
abbrev pub trial_workers_in : List (List ℕ) → ℕ
trial_workers_in words = number_behind (codes "workers=") 1 (drop 3 words)

abbrev pub trial_nodes_in : List (List ℕ) → ℕ
trial_nodes_in words = number_behind (codes "nodes=") 50000 (drop 3 words)

-- whether `yes` stands there; the default where there is no such word
abbrev pub yes_behind : List ℕ → Bool → List (List ℕ) → Bool
yes_behind key default [] = default
yes_behind key default (word ∷ words) = if begins_with key word then is_yes (drop (length key) word) else yes_behind key default words

-- the log is printed, unless the words say otherwise
abbrev pub prints_log : List (List ℕ) → Bool
prints_log words = yes_behind (codes "log=") true (drop 2 words)

-- the words of `solve` ask for this
pub record IsRequest (words : List (List ℕ)) (request : Request) : Type 0 where
  pub workers : request.workers ≡ workers_in words
  pub nodes : request.nodes ≡ nodes_in words
  pub tries : request.tries ≡ tries_in words
  pub log : request.log ≡ prints_log words

-- the words of `make` or `trial` speak of what is made from this
pub record IsRecipe (words : List (List ℕ)) (recipe : Recipe) : Type 0 where
  pub seed : recipe.seed ≡ seed_in words
  pub jobs : recipe.jobs ≡ jobs_in words
  pub modes : recipe.modes ≡ modes_in words

-- the words are this command
abbrev pub IsCommand : List (List ℕ) → Command → Type 0
IsCommand words (commands.Solve project request) = IsSolve words × (project.now ≡ project_name words) × IsRequest words request
IsCommand words (commands.Check project report) = IsCheck words × (project.now ≡ project_name words) × (report.now ≡ report_name words)
IsCommand words (commands.Show project) = IsShow words × (project.now ≡ project_name words)
IsCommand words (commands.Make recipe) = IsMake words × IsRecipe words recipe
IsCommand words (commands.Trial recipe workers nodes) = IsTrial words × IsRecipe words recipe × (workers ≡ trial_workers_in words) × (nodes ≡ trial_nodes_in words)
IsCommand words (commands.Plan project tries) = IsPlan words × (project.now ≡ project_name words) × (tries ≡ tries_in words)
IsCommand words (commands.Bound project) = IsBound words × (project.now ≡ project_name words)
IsCommand words (commands.Verify project bound) = IsVerify words × (project.now ≡ project_name words) × (bound.now ≡ bound_name words)

-- a search can run by so many workers, up to so many expansions, after so many tries
abbrev pub IsWithinSearch : Request → Type 0
IsWithinSearch request = (1 ≤ request.workers) × (request.workers ≤ 32) × (request.nodes ≤ 100000) × (request.tries ≤ 1000000)

-- a project can be made from these numbers
abbrev pub CanBeMade : Recipe → Type 0
CanBeMade recipe = (3 ≤ recipe.jobs) × (recipe.jobs ≤ 128) × (1 ≤ recipe.modes) × (recipe.modes ≤ 4)

-- the numbers of the command are such that it can be carried out
abbrev pub IsWithinReach : Command → Type 0
IsWithinReach (commands.Solve project request) = IsWithinSearch request
IsWithinReach (commands.Make recipe) = CanBeMade recipe
IsWithinReach (commands.Trial recipe workers nodes) = CanBeMade recipe × (1 ≤ workers) × (workers ≤ 32) × (nodes ≤ 100000)
IsWithinReach (commands.Check project report) = Unit {0}
IsWithinReach (commands.Show project) = Unit {0}
IsWithinReach (commands.Plan project tries) = tries ≤ 1000000
IsWithinReach (commands.Bound project) = Unit {0}
IsWithinReach (commands.Verify project bound) = Unit {0}
