-- What the bytes break is shown as soon as they do, and nothing else is.
use Rattle.std.proofs.Common.{◌≡◌, ℕ, refl, sym, ap, subst, ◌∙◌, List, Some}
use Rattle.std.specs.Prelude.{Ok, Err, Result}
use Rattle.rcpsp_model.specs.Project.{Project}
use Rattle.proof_log.specs.Lines.{ReaderState}
use Rattle.log_checker.specs.declared.course.Course.{Course}
use Rattle.log_checker.specs.declared.reason.Reason.{Reason}
use Rattle.log_checker.specs.declared.refused.Refused.{Refused}
use Rattle.log_checker.specs.declared.refused.Refused.TheVariants.{Report, NoMemory}
use Rattle.log_checker.specs.Reasons.{number_of}
use Rattle.log_checker.specs.Progress.{start}
use Rattle.log_checker.specs.Refusal.{whole_lines, rest_of, IsEarly, IsBroken}
use Rattle.log_checker.specs.Checker.{CheckerState, Runs, Breaks, StandsAs, StandsFor, RefusedAs, IsFed}
use Rattle.log_checker.proofs.ReportEnds.{broken-refused}
use Rattle.log_checker.proofs.OneOutcomes.{first-behind, one_outcome_law}

pub line-same : {X : Type 0} (m n i k : ℕ) → ◌≡◌ {A = Result X Refused} (Err (Report m i)) (Err (Report n k)) → m ≡ n
line-same m n i k e = cc

pub number-same : {X : Type 0} (m n i k : ℕ) → ◌≡◌ {A = Result X Refused} (Err (Report m i)) (Err (Report n k)) → i ≡ k
number-same m n i k e = cc

module _ (P : Project) (bytes : List ℕ) where
  -- lines that lead on, and a rest that shows nothing, break no rule
  runs-unbroken : (reader : ReaderState) (number : ℕ) (course : Course) → Runs P reader number course bytes → (n : ℕ) (r : Reason) → IsBroken P bytes n r → ⊥
  runs-unbroken reader number course runs n r broken =
      let behind = first-behind P (λ p i k x. (k ≡ i) × IsEarly p (rest_of bytes) x) start runs.progress 1 (whole_lines bytes) n r runs.leads broken in runs.quiet r behind.1.1

  pub runs-fed : (reader : ReaderState) (number : ℕ) (course : Course) → Runs P reader number course bytes → IsFed P bytes (Ok tt)
  runs-fed reader number course runs = record {
    unbroken = (λ ok. runs-unbroken reader number course runs, λ none. refl);
    broken = λ line number. (λ e. absurd (cc), λ b. absurd (runs-unbroken reader _ course runs line b.0 b.2));
  }

  pub refused-fed : (x : Refused) → RefusedAs P bytes x → IsFed P bytes (Err x)
  refused-fed (Report line number) b = record {
    unbroken = (λ ok. absurd (cc), λ none. absurd (none line b.0 b.2));
    broken = λ m i. (
      λ e. subst (λ (n : ℕ). Breaks P bytes n i) (line-same line m number i e) (subst (λ (n : ℕ). Breaks P bytes line n) (number-same line m number i e) b),
      λ s.
          let same = (one_outcome_law P bytes).refusal line m b.0 s.0 (broken-refused P bytes line b.0 b.2) (broken-refused P bytes m s.0 s.2) in
          let numbers : number ≡ i = b.1 ∙ ap number_of same.1 ∙ sym s.1 in
          ap (λ (n : ℕ). Err (Report n number)) same.0 ∙ ap (λ (n : ℕ). Err (Report m n)) numbers,
    );
  }
  refused-fed NoMemory b = tt

-- what stands refused is refused
pub stands-fed : (c : CheckerState) (bytes : List ℕ) (x : Refused) → c.refused ≡ Some x → StandsFor c bytes → IsFed c.project bytes (Err x)
stands-fed c bytes x e s = refused-fed c.project bytes x (by x (subst (StandsAs c bytes) e s))
  where
    by : (y : Refused) → StandsAs c bytes (Some y) → RefusedAs c.project bytes y
    by (Report line number) b = b
    by NoMemory b = tt
