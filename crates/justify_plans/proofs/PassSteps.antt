-- A pass, one job more; and what whole passes keep.
use Rattle.std.proofs.Common.{◌≡◌, ℕ, ◌+◌, ◌<◌, ◌≤◌, inl, inr, arith, refl, sym, ap, subst, ◌∙◌, List, [], ◌∷◌, ◌++◌, Bool, true, false, eqb, ◌||◌}
use Rattle.std.proofs.lemmas.Bool.{cases_Bool, cases_eq, both_ways, eq-eqb, ne_eqb, or_left, or_right}
use Rattle.rcpsp_model.specs.declared.parts.Placing.{Placing}
use Rattle.rcpsp_model.specs.Project.{Project, IsJob, IsAcyclic, duration, job_count, jobs}
use Rattle.rcpsp_model.specs.Schedule.{IsFeasible, end_of, entries}
use Rattle.rcpsp_model.specs.Tree.{InTurn}
use Rattle.rcpsp_model.specs.Rank.{is_among}
use Rattle.rcpsp_model.proofs.Lists.{In-push, In-push_old, In-push_new, total}
use Rattle.rcpsp_model.proofs.Successors.{any-In, In-any}
use Rattle.rcpsp_model.proofs.LeastModes.{numbers-In, numbers-range, total-lt}
use Rattle.rcpsp_model.proofs.Ranks.{one_unless, untaken_one, untaken_none, untaken_some}
use Rattle.rcpsp_model.proofs.RootAndLeaves.{in_turn-push}
use Rattle.project_net.specs.Feasible.{placing_in}
use Rattle.justify_plans.specs.declared.direction.Direction.{Direction}
use Rattle.justify_plans.specs.declared.direction.Direction.TheVariants.{Backward, Forward}
use Rattle.justify_plans.specs.Placings.{start_in, finish_in}
use Rattle.justify_plans.specs.Order.{ComesFirst, IsNext}
use Rattle.justify_plans.specs.Passes.{Moves, MovesAll, IsPass}
use Rattle.justify_plans.specs.Improved.{IsDoublePass, IsImproved, at_last, goes_on}
use Rattle.justify_plans.proofs.JobByJob.{moved-other}
use Rattle.justify_plans.proofs.Moved.{IsKept, moves-kept}

-- ---- one job more

moves-push : (way : Direction) (P : Project) (end : ℕ) (s : List Placing) (js : List ℕ) (j : ℕ) (q r : List Placing) → MovesAll way P end s js q → Moves way P end q j r → MovesAll way P end s (js ++ j ∷ []) r
moves-push way P end s [] j q r same move = (r, subst (λ (x : List Placing). Moves way P end x j r) same move, refl)
moves-push way P end s (i ∷ js) j q r all move = (all.0, all.1, moves-push way P end all.0 js j q r all.2 move)

-- two jobs that are where they were come in the order in which they came
comes-same : (way : Direction) (P : Project) (s q : List Placing) (i j : ℕ) → placing_in q i ≡ placing_in s i → placing_in q j ≡ placing_in s j → ComesFirst way P q i j → ComesFirst way P s i j
comes-same Backward P s q i j pi pj c =
    let fi : finish_in P q i ≡ finish_in P s i = ap (λ (p : Placing). p.start + duration P i p.mode) pi in
    let fj : finish_in P q j ≡ finish_in P s j = ap (λ (p : Placing). p.start + duration P j p.mode) pj in
    elim c [ inl less ↦ inl (omega arith) | inr tie ↦ inr (sym fi ∙ tie.0 ∙ fj, tie.1) ]
comes-same Forward P s q i j pi pj c =
    let fi : start_in q i ≡ start_in s i = ap (λ (p : Placing). p.start) pi in
    let fj : start_in q j ≡ start_in s j = ap (λ (p : Placing). p.start) pj in
    elim c [ inl less ↦ inl (omega arith) | inr tie ↦ inr (sym fi ∙ tie.0 ∙ fj, tie.1) ]

-- the jobs of a list were moved, and the others are where they were
pub record SoFar (way : Direction) (P : Project) (s : List Placing) (end : ℕ) (done : ℕ → Bool) (q : List Placing) : Type 0 where
  pub before : List ℕ
  pub in_turn : InTurn (λ earlier. IsNext way P s (is_among earlier)) [] before
  pub moves : MovesAll way P end s before q
  pub members : (i : ℕ) → 1 ≤ i → done i ≡ is_among before i
  pub stay : (i : ℕ) → IsJob P i → done i ≡ false → placing_in q i ≡ placing_in s i
  pub feasible : IsFeasible P q
  pub within : end_of P (entries q) ≤ end

pub among-push : (js : List ℕ) (j i : ℕ) → is_among (js ++ j ∷ []) i ≡ (is_among js i || eqb i j)
among-push js j i = elim (cases_Bool (is_among (js ++ j ∷ []) i)) [
  | inl yes_ ↦ yes_ ∙ sym (elim (In-push js j i (any-In (js ++ j ∷ []) i yes_)) [
    | inl old ↦ or_left (is_among js i) (eqb i j) (In-any js i old)
    | inr new ↦ or_right (is_among js i) (eqb i j) (eq-eqb i j (sym new))
  ])
  | inr no_ ↦ no_ ∙ sym (none no_)
]
  where
    none : is_among (js ++ j ∷ []) i ≡ false → (is_among js i || eqb i j) ≡ false
    none h = elim (cases_Bool (is_among js i)) [
      | inl old ↦ absurd (both_ways (is_among (js ++ j ∷ []) i) h (In-any (js ++ j ∷ []) i (In-push_old js j i (any-In js i old))))
      | inr not_old ↦ elim (cases_eq i j) [
        | inl e ↦ absurd (both_ways (is_among (js ++ j ∷ []) i) h (subst (λ (k : ℕ). is_among (js ++ j ∷ []) k ≡ true) (sym e) (In-any (js ++ j ∷ []) j (In-push_new js j))))
        | inr ne ↦ ap (λ (b : Bool). b || eqb i j) not_old ∙ ne_eqb i j ne
      ]
    ]

pub so_far-push : (way : Direction) (P : Project) → IsAcyclic P → (s : List Placing) (end : ℕ) (done next : ℕ → Bool) (q r : List Placing) (j : ℕ) → SoFar way P s end done q → IsNext way P q done j →
    Moves way P end q j r → ((i : ℕ) → 1 ≤ i → next i ≡ (done i || eqb i j)) → SoFar way P s end next r
so_far-push way P a s end done next q r j so job move more =
    let kept = moves-kept way P a q r j end so.feasible so.within job.job move in record {
      before = so.before ++ j ∷ [];
      in_turn = in_turn-push (λ earlier. IsNext way P s (is_among earlier)) [] so.before j so.in_turn (record {
        job = job.job;
        unmoved = sym (so.members j job.job.0) ∙ job.unmoved;
        first = λ i ji free.
            let left : done i ≡ false = so.members i ji.0 ∙ free in
            comes-same way P s q j i (so.stay j job.job job.unmoved) (so.stay i ji left) (job.first i ji left);
      });
      moves = moves-push way P end s so.before j q r so.moves move;
      members = λ i low. more i low ∙ ap (λ (b : Bool). b || eqb i j) (so.members i low) ∙ sym (among-push so.before j i);
      stay = λ i ji free.
          let parts = left i ji free in
          ap (λ (x : List Placing). placing_in x i) move.2 ∙ moved-other q j move.0 i job.job.0 ji.0 parts.1 ∙ so.stay i ji parts.0;
      feasible = kept.feasible;
      within = kept.within;
    }
  where
    left : (i : ℕ) → IsJob P i → next i ≡ false → (done i ≡ false) × (i ≡ j → ⊥)
    left i ji free =
        let is : (done i || eqb i j) ≡ false = sym (more i ji.0) ∙ free in (
          elim (cases_Bool (done i)) [ inl yes_ ↦ absurd (both_ways (done i || eqb i j) is (or_left (done i) (eqb i j) yes_)) | inr no_ ↦ no_ ],
          λ e. both_ways (done i || eqb i j) is (or_right (done i) (eqb i j) (eq-eqb i j e)),
        )

-- how many jobs weren't moved
abbrev pub left : Project → (ℕ → Bool) → ℕ
left P done = total (λ i. one_unless (done i)) (jobs P)

pub left-less : (P : Project) (done next : ℕ → Bool) (j : ℕ) → IsJob P j → done j ≡ false → ((i : ℕ) → 1 ≤ i → next i ≡ (done i || eqb i j)) → left P next < left P done
left-less P done next j job free more =
    total-lt (λ i. one_unless (next i)) (λ i. one_unless (done i)) (jobs P) j (λ i m. fewer i (numbers-range 1 (job_count P) i m).0) (numbers-In 1 (job_count P) j job.0 (let high = job.1 in omega arith)) here
  where
    fewer : (i : ℕ) → 1 ≤ i → one_unless (next i) ≤ one_unless (done i)
    fewer i low = elim (cases_Bool (done i)) [
      | inl y ↦ let new = untaken_none (next i) (more i low ∙ or_left (done i) (eqb i j) y) in omega arith
      | inr n ↦ let old = untaken_some (done i) n in let most = untaken_one (next i) in omega arith
    ]

    here : one_unless (next j) < one_unless (done j)
    here =
        let new = untaken_none (next j) (more j job.0 ∙ or_right (done j) (eqb j j) (eq-eqb j j refl)) in
        let old = untaken_some (done j) free in
        omega arith

-- ---- what passes keep

kept-trans : (P : Project) (end less : ℕ) (s q r : List Placing) → less ≤ end → IsKept P end s q → IsKept P less q r → IsKept P end s r
kept-trans P end less s q r le p k = let within = k.within in record { feasible = k.feasible; within = omega arith; modes = k.modes ∙ p.modes }

kept-self : (P : Project) (end : ℕ) (s : List Placing) → IsFeasible P s → end_of P (entries s) ≤ end → IsKept P end s s
kept-self P end s f within = record { feasible = f; within = within; modes = refl }

all-kept : (way : Direction) (P : Project) → IsAcyclic P → (first : List Placing) (before js : List ℕ) (end : ℕ) (s r : List Placing) → InTurn (λ earlier. IsNext way P first (is_among earlier)) before js →
    IsFeasible P s → end_of P (entries s) ≤ end → MovesAll way P end s js r → IsKept P end s r
all-kept way P a first before [] end s r turn f within same = subst (IsKept P end s) (sym same) (kept-self P end s f within)
all-kept way P a first before (j ∷ js) end s r turn f within all =
    let here = moves-kept way P a s all.0 j end f within turn.0.job all.1 in
    kept-trans P end end s all.0 r (omega arith) here (all-kept way P a first (before ++ j ∷ []) js end all.0 r turn.1 here.feasible here.within all.2)

pub pass-kept : (way : Direction) (P : Project) → IsAcyclic P → (s r : List Placing) → IsFeasible P s → IsPass way P s r → IsKept P (end_of P (entries s)) s r
pass-kept way P a s r f p = all-kept way P a s [] p.order (end_of P (entries s)) s r p.is_order.in_turn f (omega arith) p.moves

pub double-kept : (P : Project) → IsAcyclic P → (s r : List Placing) → IsFeasible P s → IsDoublePass P s r → IsKept P (end_of P (entries s)) s r
double-kept P a s r f p =
    let back = pass-kept Backward P a s p.late f p.backward in
    kept-trans P (end_of P (entries s)) (end_of P (entries p.late)) s p.late r back.within back (pass-kept Forward P a p.late r back.feasible p.forward)

pub improved-kept : (P : Project) → IsAcyclic P → (s r : List Placing) → IsFeasible P s → IsImproved P s r → IsKept P (end_of P (entries s)) s r
improved-kept P a s r f (at_last p h) = double-kept P a s r f p
improved-kept P a s r f (goes_on {q = q} p h rest) =
    let once = double-kept P a s q f p in
    kept-trans P (end_of P (entries s)) (end_of P (entries q)) s q r once.within once (improved-kept P a q r once.feasible rest)

-- the same of a schedule that was copied
pub copied-pass : (way : Direction) (P : Project) → IsAcyclic P → (s q r : List Placing) → IsFeasible P s → q ≡ s → IsPass way P q r → IsKept P (end_of P (entries s)) s r
copied-pass way P a s q r f e p = pass-kept way P a s r f (subst (λ (y : List Placing). IsPass way P y r) e p)

pub copied-improved : (P : Project) → IsAcyclic P → (s q r : List Placing) → IsFeasible P s → q ≡ s → IsImproved P q r → IsKept P (end_of P (entries s)) s r
copied-improved P a s q r f e p = improved-kept P a s r f (subst (λ (y : List Placing). IsImproved P y r) e p)
