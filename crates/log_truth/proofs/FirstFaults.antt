-- A log holds, or something is wrong with it first.
use Rattle.std.proofs.Common.{ℕ, ◌+◌, ◌⊎◌, inl, inr, refl, subst, List, [], ◌∷◌, ◌++◌}
use Rattle.rcpsp_model.specs.declared.parts.Verdict.{Verdict}
use Rattle.rcpsp_model.specs.Project.{Project, IsAcyclic}
use Rattle.rcpsp_model.proofs.Lists.{In, In-append, All-from_In}
use Rattle.proof_log.specs.declared.report.LogLine.{LogLine}
use Rattle.log_truth.specs.Log.{Branch, at_root, says, front_at, below, LogNode, nodes}
use Rattle.log_truth.specs.Holds.{IsServed}
use Rattle.log_truth.specs.Refusal.{Fault, wrong_child, wrong_fate, too_many, surplus, missing, bad_citation, bad_lower, IsGood, HasFault, expanded_by, WantsFrom, IsFirstFault, IsFirstUnserved, at_line, at_citation, at_lower}
use Rattle.log_truth.specs.Laws.{EitherLaw}
use Rattle.log_truth.proofs.LineFronts.{IsBranch, root-branch, line-front, below-branch, node-front}
use Rattle.log_truth.proofs.OneLine.{numbered-In}
use Rattle.log_truth.proofs.OneRefusal.{parts-line, good-line, wants-logs, good_law}
use Rattle.log_truth.proofs.DecidedRules.{named_decided, rightly_shut_decided, rightly_started_decided, allowed_decided, few_decided, HaveFronts, served_decided, lower_decided}

-- One line: its rules in order.
pub line-found : (P : Project) (a : IsAcyclic P) (v : Verdict) (k : ℕ) (b : Branch) (l : LogLine) → IsBranch P b → IsGood P v k b l ⊎ ((f : Fault) × HasFault P v k b l f)
line-found P a v k b l is =
    elim (named_decided b l) [
      | inr no_ ↦ inr (wrong_child, inl (no_, refl))
      | inl named ↦ elim (rightly_shut_decided P b (says l) is) [
        | inr no_ ↦ inr (wrong_fate, inr (named, inl (no_, refl)))
        | inl shut ↦ elim (rightly_started_decided P b l is) [
          | inr no_ ↦ inr (wrong_child, inr (named, inr (shut, inl (no_, refl))))
          | inl started ↦ elim (allowed_decided P a v (says l) (front_at b l) (λ F e. line-front P b l F is (parts-line P b l named shut started) e)) [
            | inr no_ ↦ inr (wrong_fate, inr (named, inr (shut, inr (started, inl (no_, refl)))))
            | inl allowed ↦ elim (few_decided k l) [
              | inr no_ ↦ inr (too_many, inr (named, inr (shut, inr (started, inr (allowed, inl (no_, refl))))))
              | inl few ↦ inl (record { named = named; shut = shut; started = started; allowed = allowed; few = few })
            ]
          ]
        ]
      ]
    ]

-- All lines.
lines-found : (P : Project) (a : IsAcyclic P) (v : Verdict) (bs : List Branch) (k i : ℕ) (ls : List LogLine) → ((b : Branch) → In bs b → IsBranch P b) →
    WantsFrom P v bs k ls [] ⊎ ((n : ℕ) × (f : Fault) × IsFirstFault P v bs k i ls n f)
lines-found P a v [] k i [] real = inl refl
lines-found P a v (b ∷ bs) k i [] real = inr (i, missing, (refl, refl))
lines-found P a v [] k i (l ∷ ls) real = inr (i, surplus, (refl, refl))
lines-found P a v (b ∷ bs) k i (l ∷ ls) real =
    elim (line-found P a v k b l (real b (inl refl))) [
      | inr f ↦ inr (i, f.0, inl (refl, f.1))
      | inl good ↦ elim (lines-found P a v (below P b l ++ bs) (k + expanded_by l) (i + 1) ls
          (λ c (j : In (below P b l ++ bs) c). elim (In-append (below P b l) bs c j) [ inl under ↦ below-branch P b c l (real b (inl refl)) (good-line P v k b l good) under | inr r ↦ real c (inr r) ])) [
            | inl rest ↦ inl (good, rest)
            | inr f ↦ inr (f.0, f.1, inr (good, f.2))
          ]
    ]

-- Citations.
served-cons : (P : Project) (all : List LogNode) (n : LogNode) (ns : List LogNode) → IsServed P all n → ((m : LogNode) → In ns m → IsServed P all m) → (m : LogNode) → In (n ∷ ns) m → IsServed P all m
served-cons P all n ns own rest m (inl e) = subst (IsServed P all) e own
served-cons P all n ns own rest m (inr i) = rest m i

nodes-found : (P : Project) (all : List LogNode) (i : ℕ) (ns : List LogNode) → HaveFronts P all → ((n : LogNode) → In ns n → IsServed P all n) ⊎ ((n : ℕ) × IsFirstUnserved P all i ns n)
nodes-found P all i [] fronts = inl (λ n j. absurd j)
nodes-found P all i (n ∷ ns) fronts =
    elim (served_decided P all n fronts) [
      | inr no_ ↦ inr (i, inl (refl, no_))
      | inl own ↦ elim (nodes-found P all (i + 1) ns fronts) [
        | inl rest ↦ inl (served-cons P all n ns own rest)
        | inr f ↦ inr (f.0, inr (own, f.1))
      ]
    ]

pub either_law : EitherLaw
either_law P v lines a =
    elim (lines-found P a v (at_root ∷ []) 0 1 lines (root-branch P)) [
      | inr f ↦ inr (f.0, f.1, at_line f.2)
      | inl wants ↦
          let log = wants-logs P v (at_root ∷ []) 0 lines wants in
          elim (nodes-found P (nodes P lines) 1 (nodes P lines) (λ i n A e own. node-front P lines log n A (numbered-In (nodes P lines) i n e) own)) [
            | inr f ↦ inr (f.0, bad_citation, at_citation wants f.1 refl)
            | inl each ↦
                let served = All-from_In (IsServed P (nodes P lines)) (nodes P lines) each in
                elim (lower_decided v lines) [
                  | inr no_ ↦ inr (0, bad_lower, at_lower wants served no_ refl refl)
                  | inl low ↦ inl ((good_law P v lines).0 (wants, served, low))
                ]
          ]
    ]
