-- What the front of a text shows of the text, where the front is longer than any project text.
use Rattle.std.proofs.Common.{◌≡◌, ℕ, ◌<◌, inl, inr, sym, subst, ◌∙◌, arith, List, length, take, length-take, Option, None, Some, IfSome}
use Rattle.std.proofs.lemmas.Bool.{cases_lt}
use Rattle.std.proofs.lemmas.List.{take_all}
use Rattle.psplib_lex.specs.declared.lexer.TheConstants.{MOST_BYTES}
use Rattle.psplib_layout.specs.Text.{Reads}
use Rattle.psplib_layout.proofs.OneContent.{long_text}
use Rattle.rcpsp_model.specs.Project.{Project}
use Rattle.sched_base.specs.Outside.{text_under}
use Rattle.scheduler.specs.declared.answer.Outcome.{Outcome}
use Rattle.scheduler.specs.declared.answer.Outcome.TheVariants.{Solved, Planned, Shown, Bounded, BadProject}
use Rattle.plan_words.specs.Words.{project_name}
use Rattle.scheduler.specs.Answer.{IsOutcomeOf, IsOutcomeUnder, IsNamed}

long_front : (text : List ℕ) (most : ℕ) → MOST_BYTES < most → MOST_BYTES < length text → MOST_BYTES < length (take most text)
long_front text most more long = let n = length-take most text in omega arith

pub front_outcome : (words : List (List ℕ)) (text : List ℕ) (most : ℕ) (outcome : Outcome) → MOST_BYTES < most → IsOutcomeOf words (take most text) outcome → IsOutcomeOf words text outcome
front_outcome words text most outcome more is = elim (cases_lt MOST_BYTES (length text)) [
  | inl long ↦ of_long outcome is (long_front text most more long) long
  | inr short ↦ subst (λ bytes. IsOutcomeOf words bytes outcome) (take_all most text (omega arith)) is
]
  where
    of_long : (outcome : Outcome) → IsOutcomeOf words (take most text) outcome → MOST_BYTES < length (take most text) → MOST_BYTES < length text → IsOutcomeOf words text outcome
    of_long (Solved report) is front long = let few = is.1.has_content.few_bytes in absurd (omega arith)
    of_long (Planned plan) is front long = let few = is.1.has_content.few_bytes in absurd (omega arith)
    of_long (Shown printed) is front long = let few = is.1.has_content.few_bytes in absurd (omega arith)
    of_long (Bounded printed) is front long = let few = is.1.has_content.few_bytes in absurd (omega arith)
    of_long (BadProject f) is front long = (
      is.0,
      elim is.1 [
        | inl e ↦ inl (long_text text long ∙ sym (long_text (take most text) front) ∙ e)
        | inr cycle ↦ let few = cycle.has_content.few_bytes in absurd (omega arith)
      ],
    )

-- a text whose front is a project is that project
front-reads : (text : List ℕ) (most : ℕ) (P : Project) → MOST_BYTES < most → Reads (take most text) P → Reads text P
front-reads text most P more reads = elim (cases_lt MOST_BYTES (length text)) [
  | inl long ↦ let few = reads.has_content.few_bytes in let front = long_front text most more long in absurd (omega arith)
  | inr short ↦ subst (λ (bytes : List ℕ). Reads bytes P) (take_all most text (omega arith)) reads
]

pub front_named : (words : List (List ℕ)) (texts : Option (List (List ℕ × List ℕ))) (name bytes : List ℕ) (most : ℕ) (P : Project) → MOST_BYTES < most → name ≡ project_name words →
    IfSome texts (λ ts. bytes ≡ take most (text_under ts name)) → Reads bytes P → IsNamed words texts P
front_named words None name bytes most P more same read reads = (bytes, reads)
front_named words (Some ts) name bytes most P more same read reads =
    subst (λ (n : List ℕ). Reads (text_under ts n) P) same (front-reads (text_under ts name) most P more (subst (λ (bs : List ℕ). Reads bs P) read reads))

-- the same of the text under a name, or of the text that was read where none is told
pub told_outcome : (words : List (List ℕ)) (texts : Option (List (List ℕ × List ℕ))) (name other bytes : List ℕ) (most : ℕ) (outcome : Outcome) → MOST_BYTES < most → name ≡ other →
    IfSome texts (λ ts. bytes ≡ take most (text_under ts name)) → IsOutcomeOf words bytes outcome → IsOutcomeUnder words texts other outcome
told_outcome words None name other bytes most outcome more same read is = (bytes, is)
told_outcome words (Some ts) name other bytes most outcome more same read is =
    subst (λ n. IsOutcomeOf words (text_under ts n) outcome) same (front_outcome words (text_under ts name) most outcome more (subst (λ bs. IsOutcomeOf words bs outcome) read is))
