-- What a report breaks first: a line, in the order of the lines; then its end; then a citation; and then the lower bound.
use Rattle.std.specs.Prelude.{◌≡◌, ℕ, ◌+◌, ◌<◌, ◌⊎◌, true, false, if◌then◌else◌, Ok, Err, List, [], ◌∷◌, ◌++◌, length}
use Rattle.rcpsp_model.specs.declared.parts.Verdict.{Verdict}
use Rattle.rcpsp_model.specs.Project.{Project}
use Rattle.proof_log.specs.declared.line_reader.TheConstants.{LONGEST_LINE}
use Rattle.proof_log.specs.Lines.{is_line_end}
use Rattle.log_truth.specs.Log.{nodes}
use Rattle.log_truth.specs.Holds.{AreServed, HasLower}
use Rattle.log_truth.specs.Refusal.{IsFirstUnserved}
use Rattle.log_checker.specs.declared.reason.Reason.{Reason}
use Rattle.log_checker.specs.declared.reason.Reason.TheVariants.{BadLine, BadVerdict, BadCitation, TextEnds, LinesLeft}
use Rattle.log_checker.specs.declared.stage.Stage.{Stage}
use Rattle.log_checker.specs.declared.stage.Stage.TheVariants as stages
use Rattle.log_checker.specs.Progress.{Progress, start, is_ended, IsStep}

-- A text is cut at each LF.

-- the lines that an LF ends, where these bytes of a line stand before
unfoldable pub whole_from : List ℕ → List ℕ → List (List ℕ)
whole_from line [] = []
whole_from line (byte ∷ bytes) = if is_line_end byte then line ∷ whole_from [] bytes else whole_from (line ++ byte ∷ []) bytes

-- and what stands behind the last LF
unfoldable pub rest_from : List ℕ → List ℕ → List ℕ
rest_from line [] = line
rest_from line (byte ∷ bytes) = if is_line_end byte then rest_from [] bytes else rest_from (line ++ byte ∷ []) bytes

abbrev pub whole_lines : List ℕ → List (List ℕ)
whole_lines bytes = whole_from [] bytes

abbrev pub rest_of : List ℕ → List ℕ
rest_of bytes = rest_from [] bytes

-- Lines, one after another.

-- no line breaks a rule, and they lead from one progress to another
abbrev pub Leads : Project → Progress → List (List ℕ) → Progress → Type 0
Leads P p [] last = p ≡ last
Leads P p (line ∷ lines) last = (next : Progress) × IsStep P p line (Ok next) × Leads P next lines last

-- of these lines, numbered from i on, line n is the first that breaks a rule, which is the reason; or none does, and then what
-- comes behind them breaks one
abbrev pub IsFirst : Project → (Progress → ℕ → ℕ → Reason → Type 0) → Progress → ℕ → List (List ℕ) → ℕ → Reason → Type 0
IsFirst P Behind p i [] n reason = Behind p i n reason
IsFirst P Behind p i (line ∷ lines) n reason =
    ((n ≡ i) × IsStep P p line (Err reason)) ⊎ ((next : Progress) × IsStep P p line (Ok next) × IsFirst P Behind next (i + 1) lines n reason)

-- what the beginning of a line shows at once: a byte behind the last line, or one too many
pub data IsEarly (p : Progress) (rest : List ℕ) : Reason → Type 0 where
  behind_end : is_ended p.stage ≡ true → 0 < length rest → IsEarly p rest LinesLeft
  too_long : is_ended p.stage ≡ false → LONGEST_LINE < length rest → IsEarly p rest BadLine

-- Where the bytes break one of the rules that are judged as they come: the number of the line, from 1, and the reason.
abbrev pub IsBroken : Project → List ℕ → ℕ → Reason → Type 0
IsBroken P bytes n reason = IsFirst P (λ p i k r. (k ≡ i) × IsEarly p (rest_of bytes) r) start 1 (whole_lines bytes) n reason

-- At the end of the text.

-- how many lines of the report stand before the log
abbrev pub lines_before : Progress → ℕ
lines_before p = 5 + length p.places

-- a citation that doesn't serve, and then a lower bound that isn't the least number of a line that was left
pub data AfterLog (P : Project) (verdict : Verdict) (p : Progress) : ℕ → Reason → Type 0 where
  unserved : (m : ℕ) → IsFirstUnserved P (nodes P p.lines) 1 (nodes P p.lines) m → AfterLog P verdict p (lines_before p + m) BadCitation
  not_least : AreServed P p.lines → (HasLower verdict p.lines → ⊥) → AfterLog P verdict p 4 BadVerdict

-- the text ends before its last line; or, behind it, what the log breaks as a whole
abbrev pub AtEnd : Project → Progress → Stage → ℕ → ℕ → Reason → Type 0
AtEnd P p (stages.Ended verdict) i n reason = AfterLog P verdict p n reason
AtEnd P p stages.Title i n reason = (n ≡ i) × (reason ≡ TextEnds)
AtEnd P p stages.Kind i n reason = (n ≡ i) × (reason ≡ TextEnds)
AtEnd P p (stages.Duration kind) i n reason = (n ≡ i) × (reason ≡ TextEnds)
AtEnd P p (stages.Lower kind duration) i n reason = (n ≡ i) × (reason ≡ TextEnds)
AtEnd P p (stages.Job verdict) i n reason = (n ≡ i) × (reason ≡ TextEnds)
AtEnd P p (stages.Flag verdict) i n reason = (n ≡ i) × (reason ≡ TextEnds)
AtEnd P p (stages.Line verdict) i n reason = (n ≡ i) × (reason ≡ TextEnds)

-- the beginning of a line shows nothing at once
abbrev pub IsQuiet : Progress → List ℕ → Type 0
IsQuiet p rest = (reason : Reason) → IsEarly p rest reason → ⊥

-- Where the text is no accepted report: the number of the line, from 1, and the reason.
abbrev pub IsRefusal : Project → List ℕ → ℕ → Reason → Type 0
IsRefusal P bytes n reason =
    IsFirst P (λ p i k r. ((k ≡ i) × IsEarly p (rest_of bytes) r) ⊎ (IsQuiet p (rest_of bytes) × AtEnd P p p.stage i k r)) start 1 (whole_lines bytes) n reason
