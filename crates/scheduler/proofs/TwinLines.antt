-- One worker expands no two nodes of which each dominates the other: the one was known when the other was visited.
use Rattle.std.proofs.Common.{◌≡◌, ℕ, zero, suc, ◌⊎◌, inl, inr, sym, ap, ◌∙◌, arith, true, Option, Some, List, [], ◌∷◌, length}
use Rattle.std.specs.Prelude.{slice_get, Contains}
use Rattle.std.proofs.lemmas.Bool.{cases_lt}
use Rattle.rcpsp_model.specs.Project.{Project}
use Rattle.rcpsp_model.specs.declared.parts.Entry.{Entry}
use Rattle.rcpsp_model.specs.declared.parts.Verdict.{Verdict}
use Rattle.rcpsp_model.specs.Dominance.{Dominates}
use Rattle.rcpsp_model.proofs.Lists.{Contains-from_In}
use Rattle.proof_log.specs.declared.report.LogLine.{LogLine}
use Rattle.proof_log.specs.Report.{duration_of}
use Rattle.log_truth.specs.Log.{IsTreeLog, LogNode, front_of, is_expanded, nodes}
use Rattle.log_truth.proofs.OneLine.{get-In, one_node_law}
use Rattle.search_log.specs.declared.row.Origin.{Origin}
use Rattle.search_log.specs.Lean.{Seen, seen_node, seen_nodes, seen_lines, IsBegun, IsKnown, by_round, by_turn, IsLeanLog}
use Rattle.search_rounds.specs.Found.{end_of_plan}
use Rattle.scheduler.specs.Solve.{IsLeanFromStart, DominateEachOther}

-- the node with this place, with its origin
record SeenAt (ns : List LogNode) (os : List Origin) (i : ℕ) (n : LogNode) : Type 0 where
  origin : Origin
  is_seen : slice_get (seen_nodes ns os) i ≡ Some (seen_node n origin)

seen-at : (ns : List LogNode) (os : List Origin) (i : ℕ) (n : LogNode) → length os ≡ length ns → slice_get ns i ≡ Some n → SeenAt ns os i n
seen-at [] os i n same at = absurd cc
seen-at (m ∷ ns) [] i n same at = absurd (omega (arith, same))
seen-at (m ∷ ns) (o ∷ os) zero n same at = let here : m ≡ n = cc in record { origin = o; is_seen = ap (λ (k : LogNode). Some (seen_node k o)) here }
seen-at (m ∷ ns) (o ∷ os) (suc i) n same at =
    let shorter : length os ≡ length ns = omega (arith, same) in
    let r = seen-at ns os i n shorter at in record { origin = r.origin; is_seen = r.is_seen }

same-origin : (a b : Origin) → a.round ≡ b.round → a.worker ≡ b.worker → a.turn ≡ b.turn → a ≡ b
same-origin a b round worker turn =
    ◌∙◌ {b = record { round = b.round; worker = a.worker; turn = a.turn }} (ap (λ (r : ℕ). record { round = r; worker = a.worker; turn = a.turn }) round)
    (◌∙◌ {b = record { round = b.round; worker = b.worker; turn = a.turn }} (ap (λ (w : ℕ). record { round = b.round; worker = w; turn = a.turn }) worker)
    (ap (λ (t : ℕ). record { round = b.round; worker = b.worker; turn = t }) turn))

-- two visits of one worker are one, or the one was known at the other
ordered : (a b : Origin) → a.worker ≡ b.worker → (a ≡ b) ⊎ (IsKnown a b ⊎ IsKnown b a)
ordered a b worker = elim (cases_lt a.round b.round) [
  | inl less ↦ inr (inl (by_round less))
  | inr not_less ↦ elim (cases_lt b.round a.round) [
    | inl less ↦ inr (inr (by_round less))
    | inr not_more ↦ let round : a.round ≡ b.round = omega arith in elim (cases_lt a.turn b.turn) [
      | inl less ↦ inr (inl (by_turn round worker less))
      | inr not_less_turn ↦ elim (cases_lt b.turn a.turn) [
        | inl less ↦ inr (inr (by_turn (sym round) (sym worker) less))
        | inr not_more_turn ↦ let turn : a.turn ≡ b.turn = omega arith in inl (same-origin a b round worker turn)
      ]
    ]
  ]
]

-- what one worker expanded has the number of that worker
by_first : (P : Project) (starts : List ℕ) (s : Seen) → IsBegun P 1 starts s → s.origin.worker ≡ 1
by_first P starts s begun = let some = begun.some_worker in let few = begun.worker in omega arith

no-twins-at : (P : Project) (lines : List LogLine) (first : Option ℕ) (starts : List ℕ) (duration : Option ℕ) (origins : List Origin) → IsTreeLog P lines →
    IsLeanLog P 1 first starts duration lines origins → (i k : ℕ) (one other : LogNode) (F G : List Entry) → slice_get (nodes P lines) i ≡ Some one → slice_get (nodes P lines) k ≡ Some other →
    is_expanded one.line ≡ true → is_expanded other.line ≡ true → front_of one ≡ Some F → front_of other ≡ Some G → Dominates P F G → Dominates P G F → i ≡ k
no-twins-at P lines first starts duration origins log lean i k one other F G at too x y f g down up =
    let size : length origins ≡ length (nodes P lines) = lean.size ∙ sym (one_node_law P lines log) in
    let r = seen-at (nodes P lines) origins i one size at in
    let q = seen-at (nodes P lines) origins k other size too in
    let all : List Seen = seen_lines P lines origins in
    let s : Seen = seen_node one r.origin in
    let t : Seen = seen_node other q.origin in
    let a : Contains all s = Contains-from_In all s (get-In all i s r.is_seen) in
    let b : Contains all t = Contains-from_In all t (get-In all k t q.is_seen) in
    let worker = by_first P starts s (lean.lean.begun s a x) ∙ sym (by_first P starts t (lean.lean.begun t b y)) in
    elim (ordered r.origin q.origin worker) [
      | inl same ↦ lean.lean.one i k s t r.is_seen q.is_seen x y same
      | inr (inl known) ↦ absurd (lean.lean.new t s G F b a y x known f g down)
      | inr (inr known) ↦ absurd (lean.lean.new s t F G a b x y known g f up)
    ]

pub no_twins : (P : Project) (tries : ℕ) (verdict : Verdict) (lines : List LogLine) → IsTreeLog P lines → IsLeanFromStart P 1 tries verdict lines → (i k : ℕ) → DominateEachOther P lines i k → i ≡ k
no_twins P tries verdict lines log lean zero k twins = let none = twins.one_is in absurd cc
no_twins P tries verdict lines log lean (suc i) zero twins = let none = twins.other_is in absurd cc
no_twins P tries verdict lines log lean (suc i) (suc k) twins =
    ap suc (no-twins-at P lines (end_of_plan P lean.plan) lean.starts (duration_of verdict) lean.origins log lean.lean i k twins.one twins.other twins.front twins.other_front twins.one_is
    twins.other_is twins.expanded twins.other_expanded twins.front_is twins.other_front_is twins.dominates twins.dominated)
