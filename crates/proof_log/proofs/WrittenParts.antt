-- What a sink has gained of the lines of a text, part by part.
use Rattle.std.proofs.Common.{◌≡◌, ℕ, ◌+◌, ◌-◌, ◌<◌, arith, refl, sym, ap, subst, ◌∙◌, append_assoc, length, drop, map, get_or, List, [], ◌∷◌, ◌++◌, Option, None, Some}
use Rattle.std.specs.Prelude.{slice_get}
use Rattle.std.proofs.lemmas.Grind.{flat_map-append}
use Rattle.std.proofs.lemmas.List.{append-nil, drop_more}
use Rattle.std.proofs.lemmas.Option.{slice_get_within, get_or_from_slice_get}
use Rattle.sched_base.specs.Outside.{Gains, GainsFront}
use Rattle.rcpsp_model.specs.declared.parts.Placing.{Placing}
use Rattle.rcpsp_model.specs.Schedule.{entries_from}
use Rattle.proof_log.specs.declared.line.ReportLine.{ReportLine}
use Rattle.proof_log.specs.declared.line.ReportLine.TheVariants.{Job, Log}
use Rattle.proof_log.specs.Line.{line_text}
use Rattle.proof_log.specs.declared.line.LogWords.{LogWords}
use Rattle.proof_log.specs.declared.report.LogLine.{LogLine}
use Rattle.proof_log.specs.Text.{text_of_lines, log_words, log_lines}

-- the text of one line
pub text_of_line : (line : ReportLine) → text_of_lines (line ∷ []) ≡ line_text line ++ 0x0A ∷ []
unfolding text_of_lines
text_of_line line = append-nil (line_text line ++ 0x0A ∷ [])

-- the text of two parts
pub text_of_parts : (part rest : List ReportLine) → text_of_lines (part ++ rest) ≡ text_of_lines part ++ text_of_lines rest
unfolding text_of_lines
text_of_parts part rest = flat_map-append (λ line. line_text line ++ 0x0A ∷ []) part rest

pub nothing : text_of_lines [] ≡ []
unfolding text_of_lines
nothing = refl

-- what is gained in one call and then in another is gained in both
both : (before between now : Option (List ℕ)) (first second : List ℕ) → Gains before between first → Gains between now second → Gains before now (first ++ second)
both before between None first second a b = tt
both before None (Some now) first second a b = absurd b
both None (Some held) (Some now) first second a b = absurd a
both (Some start) (Some held) (Some now) first second a b = b ∙ ap (λ xs. xs ++ second) a ∙ append_assoc start first second

pub gains_nothing : (sink : Option (List ℕ)) → Gains sink sink []
gains_nothing None = tt
gains_nothing (Some held) = sym (append-nil held)

-- all lines but the rest are written
pub record Writes (before now : Option (List ℕ)) (lines rest : List ReportLine) : Type 0 where
  pub done : List ℕ
  pub gained : Gains before now done
  pub left : text_of_lines lines ≡ done ++ text_of_lines rest

-- at the start none is written
pub none_written : (sink : Option (List ℕ)) (lines : List ReportLine) → Writes sink sink lines lines
none_written sink lines = record { done = []; gained = gains_nothing sink; left = refl }

-- one more part
pub part_written : (before between now : Option (List ℕ)) (lines part rest : List ReportLine) → Writes before between lines (part ++ rest) → Gains between now (text_of_lines part) → Writes before now lines rest
part_written before between now lines part rest w gained = record {
  done = w.done ++ text_of_lines part;
  gained = both before between now w.done (text_of_lines part) w.gained gained;
  left = w.left ∙ ap (λ xs. w.done ++ xs) (text_of_parts part rest) ∙ sym (append_assoc w.done (text_of_lines part) (text_of_lines rest));
}

-- a front of one more part
pub part_failed : (before between now : Option (List ℕ)) (lines part rest : List ReportLine) → Writes before between lines (part ++ rest) → GainsFront between now (text_of_lines part) → GainsFront before now (text_of_lines lines)
part_failed before between now lines part rest w f = record {
  front = w.done ++ f.front;
  rest = f.rest ++ text_of_lines rest;
  whole =
      w.left
      ∙ ap (λ xs. w.done ++ xs) (text_of_parts part rest ∙ ap (λ xs. xs ++ text_of_lines rest) f.whole ∙ append_assoc f.front f.rest (text_of_lines rest))
      ∙ sym (append_assoc w.done f.front (f.rest ++ text_of_lines rest));
  gained = both before between now w.done f.front w.gained f.gained;
}

-- the last part is all that is left
pub last_part : {before now : Option (List ℕ)} {lines part : List ReportLine} → Writes before now lines part → Writes before now lines (part ++ [])
last_part {before = before} {now = now} {lines = lines} {part = part} w = subst (Writes before now lines) (sym (append-nil part)) w

-- at the end all is written
pub all_written : (before now : Option (List ℕ)) (lines : List ReportLine) → Writes before now lines [] → Gains before now (text_of_lines lines)
all_written before now lines w = subst (Gains before now) (sym (w.left ∙ ap (λ xs. w.done ++ xs) nothing ∙ append-nil w.done)) w.gained

-- the lines of the jobs from one on
abbrev pub jobs_from : ℕ → List Placing → List ReportLine
jobs_from job places = map (λ e. Job e.job e.mode e.start) (entries_from job places)

-- the line of a job before those of the later ones
pub next_job : (places : List Placing) (index job : ℕ) (place : Placing) → job ≡ index + 1 → slice_get places (job - 1) ≡ Some place →
    jobs_from (index + 1) (drop index places) ≡ (Job job place.mode place.start ∷ []) ++ jobs_from (index + 1 + 1) (drop (index + 1) places)
next_job places index job place number there =
    let here : slice_get places index ≡ Some place = ap (λ (i : ℕ). slice_get places i) (omega arith) ∙ there in
    let front : drop index places ≡ place ∷ drop (index + 1) places =
    drop_more places index place (slice_get_within places index place here) ∙ ap (λ (p : Placing). p ∷ drop (index + 1) places) (get_or_from_slice_get places index place place here) in
    ap (jobs_from (index + 1)) front ∙ ap (λ (j : ℕ). Job j place.mode place.start ∷ jobs_from (index + 1 + 1) (drop (index + 1) places)) (sym number)

-- the line of a log line before those after it
pub next_log_line : (log items : List LogLine) (index : ℕ) (line : LogLine) (words : LogWords) → items ≡ log → index < length items → words ≡ log_words (get_or items index line) →
    log_lines (drop index log) ≡ (Log words ∷ []) ++ log_lines (drop (index + 1) log)
next_log_line log items index line words same within there =
    let here : index < length log = omega (arith, ap length same) in
    ap log_lines (drop_more log index line here)
    ∙ ap (λ (w : LogWords). Log w ∷ log_lines (drop (index + 1) log)) (ap (λ (ls : List LogLine). log_words (get_or ls index line)) (sym same) ∙ sym there)
