-- Ends and their numbers.
use Rattle.std.proofs.Common.{◌≡◌, ℕ, ◌<◌, ◌≤◌, inl, inr, sym, ap, subst, ◌∙◌, arith, Option, Some, None}
use Rattle.std.specs.Prelude.{IfSome}
use Rattle.std.proofs.lemmas.Bool.{cases_eq}
use Rattle.std.proofs.lemmas.Bool.Decides.{nat_tests}
use Rattle.proof_log.specs.Report.{duration_of}
use Rattle.log_truth.specs.Holds.{Reaches}
use Rattle.search_log.specs.Stands.{IsNoLater, searching}
use Rattle.search_log.specs.Lean.{none_yet, end_number}
use Rattle.round_shares.specs.Ends.{end_in}

pub end_in-none : (n : ℕ) → n ≡ none_yet → end_in n ≡ None
end_in-none n e = grind (arith, nat_tests)

pub end_in-some : (n : ℕ) → n < none_yet → end_in n ≡ Some n
end_in-some n l = grind (arith, nat_tests)

pub number-end_in : (n : ℕ) → end_number (end_in n) ≡ n
number-end_in n = elim (cases_eq n none_yet) [
  | inl e ↦ ap end_number (end_in-none n e) ∙ sym e
  | inr d ↦ (let other : end_in n ≡ Some n = grind (arith, nat_tests) in ap end_number other)
]

pub end-small : (best : Option ℕ) → IfSome best (λ end. end ≤ 1290000) → end_number best ≤ none_yet
end-small None s = omega arith
end-small (Some d) s = omega arith

-- a lesser number is that of no later end
pub later-end : (a b : ℕ) → a ≤ none_yet → b ≤ a → IsNoLater (end_in a) (end_in b)
later-end a b small l = elim (cases_eq a none_yet) [
  | inl e ↦ subst (λ (o : Option ℕ). IsNoLater o (end_in b)) (sym (end_in-none a e)) tt
  | inr d ↦
      subst (λ (o : Option ℕ). IsNoLater o (end_in b)) (sym (end_in-some a (omega arith)))
      (subst (λ (o : Option ℕ). IsNoLater (Some a) o) (sym (end_in-some b (omega arith))) l)
]

pub no_later-end : (best : Option ℕ) (b : ℕ) → IfSome best (λ end. end ≤ 1290000) → b ≤ end_number best → IsNoLater best (end_in b)
no_later-end None b s l = tt
no_later-end (Some d) b s l = subst (λ (o : Option ℕ). IsNoLater (Some d) o) (sym (end_in-some b (omega arith))) l

pub reaches-end : (b n : ℕ) → b ≤ n → n < none_yet → Reaches (duration_of (searching (end_in b))) n
reaches-end b n l small = subst (λ (o : Option ℕ). Reaches (duration_of (searching o)) n) (sym (end_in-some b (omega arith))) l
