-- A text is accepted exactly where it is that of a report that holds, and nothing is broken first exactly there.
use Rattle.std.proofs.Common.{◌≡◌, ℕ, inl, inr, sym, ap, subst, ◌∙◌, List}
use Rattle.std.specs.Prelude.{Ok, Err, Result}
use Rattle.rcpsp_model.specs.declared.parts.Verdict.{Verdict}
use Rattle.rcpsp_model.specs.Project.{Project, IsWithinLimits, IsProject}
use Rattle.rcpsp_model.specs.Claim.{Claim}
use Rattle.log_truth.specs.Holds.{Accepts}
use Rattle.log_truth.proofs.TrueVerdicts.{holds_law}
use Rattle.log_checker.specs.declared.refused.Refused.{Refused}
use Rattle.log_checker.specs.declared.refused.Refused.TheVariants.{Report, NoMemory}
use Rattle.log_checker.specs.Reasons.{number_of}
use Rattle.log_checker.specs.Checker.{IsAcceptedAs, AcceptsAs, IsRefusedAs, IsOutcome, IsJudgement, IsFinished}
use Rattle.log_checker.specs.Laws.{AcceptsLaw, EitherLaw, ExactLaw}
use Rattle.log_checker.proofs.OneOutcomes.{one_outcome_law}
use Rattle.log_checker.proofs.AcceptedForms.{accepted-text}
use Rattle.log_checker.proofs.TakenTexts.{text-accepted}
use Rattle.log_checker.proofs.DecidedSteps.{text-comes}
use Rattle.log_checker.proofs.ShownFaults.{line-same, number-same}

as-accepted : (P : Project) (bytes : List ℕ) (v : Verdict) → IsWithinLimits P → AcceptsAs P bytes v → IsAcceptedAs P bytes v
as-accepted P bytes v limits a = subst (IsAcceptedAs P bytes) a.is_its (text-accepted P bytes limits a.accepts)

pub accepts_law : AcceptsLaw
accepts_law P bytes v limits = (λ a. accepted-text P bytes v limits a, λ a. as-accepted P bytes v limits a)

pub either_law : EitherLaw
either_law P bytes p = elim (text-comes P bytes p.acyclic) [ inl a ↦ inl (accepted-text P bytes a.0 p.limits a.1).accepts | inr r ↦ inr r ]

pub exact_law : ExactLaw
exact_law P bytes p = (
  λ none. elim (either_law P bytes p) [ inl a ↦ a | inr r ↦ absurd (none r.0 r.1 r.2) ],
  λ a n r refusal. (one_outcome_law P bytes).unrefused a.report.verdict n r (text-accepted P bytes p.limits a) refusal,
)

-- What comes of a text.

ok-same : (v w : Verdict) → ◌≡◌ {A = Result Verdict Refused} (Ok v) (Ok w) → v ≡ w
ok-same v w e = cc

module _ (P : Project) (bytes : List ℕ) (p : IsProject P) where
  claims : (a : Accepts P bytes) → Claim P a.report.verdict a.report.best
  claims a = holds_law P a.report p.acyclic a.holds

  accepted-judged : (v : Verdict) → IsAcceptedAs P bytes v → IsJudgement P bytes (Ok v)
  accepted-judged v a = record {
    accepted = λ w. (
      λ e. accepted-text P bytes w p.limits (subst (IsAcceptedAs P bytes) (ok-same v w e) a),
      λ b. ap (λ (x : Verdict). Ok x) ((one_outcome_law P bytes).verdict v w a (as-accepted P bytes w p.limits b)),
    );
    refused = λ line number. (λ e. absurd (cc), λ r. absurd ((one_outcome_law P bytes).unrefused v line r.0 a r.2));
    claim = claims;
  }

  refused-judged : (line number : ℕ) → IsRefusedAs P bytes line number → IsJudgement P bytes (Err (Report line number))
  refused-judged line number r = record {
    accepted = λ w. (λ e. absurd (cc), λ b. absurd ((one_outcome_law P bytes).unrefused w line r.0 (as-accepted P bytes w p.limits b) r.2));
    refused = λ m i. (
      λ e. subst (λ (n : ℕ). IsRefusedAs P bytes n i) (line-same line m number i e) (subst (λ (n : ℕ). IsRefusedAs P bytes line n) (number-same line m number i e) r),
      λ s.
          let same = (one_outcome_law P bytes).refusal line m r.0 s.0 r.2 s.2 in
          let numbers : number ≡ i = r.1 ∙ ap number_of same.1 ∙ sym s.1 in
          ap (λ (n : ℕ). Err (Report n number)) same.0 ∙ ap (λ (n : ℕ). Err (Report m n)) numbers,
    );
    claim = claims;
  }

  pub finished : (out : Result Verdict Refused) → IsOutcome P bytes out → IsFinished P bytes out
  finished (Ok v) a = accepted-judged v a
  finished (Err (Report line number)) r = refused-judged line number r
  finished (Err NoMemory) r = tt
