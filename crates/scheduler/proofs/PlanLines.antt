-- The lines of a plan, as they are written.
use Rattle.std.proofs.Common.{◌≡◌, ℕ, ◌++◌, refl, ap, ◌∙◌, append_assoc, List, [], ◌∷◌, Some, None, codes, decimal}
use Rattle.rcpsp_model.specs.declared.parts.Placing.{Placing}
use Rattle.proof_log.specs.declared.line.ReportLine.TheVariants.{Duration, Job}
use Rattle.proof_log.specs.Line.{number_word, line_words, line_text}
use Rattle.proof_log.specs.Text.{text_of_lines, job_lines}
use Rattle.proof_log.proofs.WrittenParts.{text_of_line, text_of_parts}

pub duration_text : (duration : ℕ) → text_of_lines (Duration (Some duration) ∷ []) ≡ codes "duration " ++ (decimal duration ++ 0x0A ∷ [])
unfolding number_word line_words line_text
duration_text duration = text_of_line (Duration (Some duration)) ∙ refl

pub no_duration_text : text_of_lines (Duration None ∷ []) ≡ codes "duration -" ++ 0x0A ∷ []
unfolding number_word line_words line_text
no_duration_text = text_of_line (Duration None) ∙ refl

pub job_text : (job mode start : ℕ) → text_of_lines (Job job mode start ∷ []) ≡ codes "job " ++ (decimal job ++ (codes " " ++ (decimal mode ++ (codes " " ++ (decimal start ++ 0x0A ∷ [])))))
unfolding number_word line_words line_text
job_text job mode start =
    text_of_line (Job job mode start)
    ∙ ap (λ xs. codes "job " ++ xs) (append_assoc (decimal job) (0x20 ∷ (decimal mode ++ 0x20 ∷ decimal start)) (0x0A ∷ []) ∙ ap (λ xs. decimal job ++ 0x20 ∷ xs) (append_assoc (decimal mode) (0x20 ∷ decimal start) (0x0A ∷ [])))

-- the line of the duration, and then those of the jobs
pub plan_parts : (duration : ℕ) (places : List Placing) → text_of_lines (Duration (Some duration) ∷ job_lines places) ≡ text_of_lines (Duration (Some duration) ∷ []) ++ text_of_lines (job_lines places)
plan_parts duration places = text_of_parts (Duration (Some duration) ∷ []) (job_lines places)
