-- The jobs come in one order, and each has one new start.
use Rattle.std.proofs.Common.{◌≡◌, ℕ, suc, inl, inr, arith, refl, sym, ap, subst, ◌∙◌, List, [], ◌∷◌, ◌++◌, append_assoc, length, Bool, true}
use Rattle.std.proofs.lemmas.Bool.{both_ways}
use Rattle.std.proofs.lemmas.List.{append-nil}
use Rattle.rcpsp_model.specs.declared.parts.Placing.{Placing}
use Rattle.rcpsp_model.specs.Project.{Project, IsJob, IsAcyclic}
use Rattle.rcpsp_model.specs.Schedule.{end_of, entries}
use Rattle.rcpsp_model.specs.Chain.{IsGreatest}
use Rattle.rcpsp_model.specs.Tree.{InTurn}
use Rattle.rcpsp_model.specs.Plan.{CanRun}
use Rattle.rcpsp_model.specs.Rank.{is_among, IsRank, IsLowestFree}
use Rattle.rcpsp_model.proofs.Numbers.{least-one}
use Rattle.rcpsp_model.proofs.Ranks.{rank_law}
use Rattle.justify_plans.specs.declared.direction.Direction.{Direction}
use Rattle.justify_plans.specs.declared.direction.Direction.TheVariants.{Backward, Forward}
use Rattle.justify_plans.specs.Placings.{mode_in, others, moved}
use Rattle.justify_plans.specs.Order.{HasNoGreaterRank, ComesFirst, IsNext}
use Rattle.justify_plans.specs.Passes.{CanRunBy, IsNewStart, Moves, MovesAll, IsPass}
use Rattle.justify_plans.specs.Improved.{IsDoublePass, IsImproved, at_last, goes_on}

-- ---- no two jobs have one rank

lowest-one : (P : Project) (F : List ℕ) (i j : ℕ) → IsLowestFree P (is_among F) i → IsLowestFree P (is_among F) j → i ≡ j
lowest-one P F i j p q = let up = p.lowest j q.job q.untaken q.preds in let down = q.lowest i p.job p.untaken p.preds in omega arith

same-job : (P : Project) (F xs ys : List ℕ) (i j : ℕ) → InTurn (λ before. IsLowestFree P (is_among before)) F (xs ++ i ∷ []) → InTurn (λ before. IsLowestFree P (is_among before)) F (ys ++ j ∷ []) → length xs ≡ length ys → i ≡ j
same-job P F [] [] i j t u e = lowest-one P F i j t.0 u.0
same-job P F [] (y ∷ ys) i j t u e = absurd (let z : 0 ≡ suc (length ys) = e in omega arith)
same-job P F (x ∷ xs) [] i j t u e = absurd (let z : suc (length xs) ≡ 0 = e in omega arith)
same-job P F (x ∷ xs) (y ∷ ys) i j t u e =
    let same = lowest-one P F y x u.0 t.0 in
    let shorter : suc (length xs) ≡ suc (length ys) = e in
    same-job P (F ++ x ∷ []) xs ys i j t.1 (subst (λ (k : ℕ). InTurn (λ before. IsLowestFree P (is_among before)) (F ++ k ∷ []) (ys ++ j ∷ [])) same u.1) (omega arith)

job-of_rank : (P : Project) (i j r : ℕ) → IsRank P i r → IsRank P j r → i ≡ j
job-of_rank P i j r p q = let a = p.2 in let b = q.2 in same-job P [] p.0 q.0 i j p.1 q.1 (omega arith)

same-rank : (P : Project) → IsAcyclic P → (i j : ℕ) → IsJob P i → IsJob P j → HasNoGreaterRank P i j → HasNoGreaterRank P j i → i ≡ j
same-rank P a i j ji jj p q =
    let x = rank_law P i a ji in let y = rank_law P j a jj in
    let le = p x.rank y.rank x.is y.is in let ge = q y.rank x.rank y.is x.is in
    job-of_rank P i j x.rank x.is (subst (IsRank P j) (let e : y.rank ≡ x.rank = omega arith in e) y.is)

-- ---- so there is one order

comes-same_job : (way : Direction) (P : Project) → IsAcyclic P → (s : List Placing) (i j : ℕ) → IsJob P i → IsJob P j → ComesFirst way P s i j → ComesFirst way P s j i → i ≡ j
comes-same_job Backward P a s i j ji jj (inl p) (inl q) = absurd (omega arith)
comes-same_job Backward P a s i j ji jj (inl p) (inr q) = absurd (let e = q.0 in omega arith)
comes-same_job Backward P a s i j ji jj (inr p) (inl q) = absurd (let e = p.0 in omega arith)
comes-same_job Backward P a s i j ji jj (inr p) (inr q) = same-rank P a i j ji jj q.1 p.1
comes-same_job Forward P a s i j ji jj (inl p) (inl q) = absurd (omega arith)
comes-same_job Forward P a s i j ji jj (inl p) (inr q) = absurd (let e = q.0 in omega arith)
comes-same_job Forward P a s i j ji jj (inr p) (inl q) = absurd (let e = p.0 in omega arith)
comes-same_job Forward P a s i j ji jj (inr p) (inr q) = same-rank P a i j ji jj p.1 q.1

next-one : (way : Direction) (P : Project) → IsAcyclic P → (s : List Placing) (done : ℕ → Bool) (i j : ℕ) → IsNext way P s done i → IsNext way P s done j → i ≡ j
next-one way P a s done i j p q = comes-same_job way P a s i j p.job q.job (p.first j q.job q.unmoved) (q.first i p.job p.unmoved)

abbrev HasAll : Project → List ℕ → Type 0
HasAll P js = (j : ℕ) → IsJob P j → is_among js j ≡ true

past-all : (way : Direction) (P : Project) (s : List Placing) (js : List ℕ) (j : ℕ) → HasAll P js → IsNext way P s (is_among js) j → ⊥
past-all way P s js j all next = both_ways (is_among js j) next.unmoved (all j next.job)

orders-one : (way : Direction) (P : Project) → IsAcyclic P → (s : List Placing) (before is js : List ℕ) → InTurn (λ earlier. IsNext way P s (is_among earlier)) before is → InTurn (λ earlier. IsNext way P s (is_among earlier)) before js →
    HasAll P (before ++ is) → HasAll P (before ++ js) → is ≡ js
orders-one way P a s F [] [] p q l m = refl
orders-one way P a s F [] (j ∷ js) p q l m = absurd (past-all way P s F j (subst (HasAll P) (append-nil F) l) q.0)
orders-one way P a s F (i ∷ is) [] p q l m = absurd (past-all way P s F i (subst (HasAll P) (append-nil F) m) p.0)
orders-one way P a s F (i ∷ is) (j ∷ js) p q l m =
    let head = next-one way P a s (is_among F) i j p.0 q.0 in
    let rest : is ≡ js = orders-one way P a s (F ++ i ∷ []) is js p.1 (subst (λ (x : ℕ). InTurn (λ earlier. IsNext way P s (is_among earlier)) (F ++ x ∷ []) js) (sym head) q.1)
    (subst (HasAll P) (sym (append_assoc F (i ∷ []) is)) l) (subst (λ (x : ℕ). HasAll P ((F ++ x ∷ []) ++ js)) (sym head) (subst (HasAll P) (sym (append_assoc F (j ∷ []) js)) m)) in
    ap (λ (x : ℕ). x ∷ is) head ∙ ap (λ (xs : List ℕ). j ∷ xs) rest

-- ---- and one new start for each job

greatest-one : (Q : ℕ → Type 0) (a b : ℕ) → IsGreatest Q a → IsGreatest Q b → a ≡ b
greatest-one Q a b p q = let up = p.greatest b q.attained in let down = q.greatest a p.attained in omega arith

new_start-one : (way : Direction) (P : Project) (end : ℕ) (s : List Placing) (j t u : ℕ) → IsNewStart way P end s j t → IsNewStart way P end s j u → t ≡ u
new_start-one Backward P end s j t u p q = greatest-one (CanRunBy P (others s j) end j (mode_in s j)) t u p q
new_start-one Forward P end s j t u p q = least-one (CanRun P (others s j) j (mode_in s j)) t u p q

moves-one : (way : Direction) (P : Project) (end : ℕ) (s q r : List Placing) (j : ℕ) → Moves way P end s j q → Moves way P end s j r → q ≡ r
moves-one way P end s q r j m n = m.2 ∙ ap (moved s j) (new_start-one way P end s j m.0 n.0 m.1 n.1) ∙ sym n.2

all-one : (way : Direction) (P : Project) (end : ℕ) (js : List ℕ) (s q r : List Placing) → MovesAll way P end s js q → MovesAll way P end s js r → q ≡ r
all-one way P end [] s q r m n = m ∙ sym n
all-one way P end (j ∷ js) s q r m n =
    let here = moves-one way P end s n.0 m.0 j n.1 m.1 in
    all-one way P end js m.0 q r m.2 (subst (λ (x : List Placing). MovesAll way P end x js r) here n.2)

pub pass-one : (way : Direction) (P : Project) → IsAcyclic P → (s q r : List Placing) → IsPass way P s q → IsPass way P s r → q ≡ r
pass-one way P a s q r p k =
    let same = orders-one way P a s [] k.order p.order k.is_order.in_turn p.is_order.in_turn k.is_order.whole p.is_order.whole in
    all-one way P (end_of P (entries s)) p.order s q r p.moves (subst (λ (js : List ℕ). MovesAll way P (end_of P (entries s)) s js r) same k.moves)

double-one : (P : Project) → IsAcyclic P → (s q r : List Placing) → IsDoublePass P s q → IsDoublePass P s r → q ≡ r
double-one P a s q r p k =
    let late = pass-one Backward P a s k.late p.late k.backward p.backward in
    pass-one Forward P a p.late q r p.forward (subst (λ (x : List Placing). IsPass Forward P x r) late k.forward)

pub improved-one : (P : Project) → IsAcyclic P → (s q r : List Placing) → IsImproved P s q → IsImproved P s r → q ≡ r
improved-one P a s q r (at_last p h) (at_last k l) = double-one P a s q r p k
improved-one P a s q r (at_last p h) (goes_on {q = m} k l rest) = absurd (let e = ap (λ (x : List Placing). end_of P (entries x)) (double-one P a s q m p k) in omega arith)
improved-one P a s q r (goes_on {q = m} p h rest) (at_last k l) = absurd (let e = ap (λ (x : List Placing). end_of P (entries x)) (double-one P a s m r p k) in omega arith)
improved-one P a s q r (goes_on {q = m} p h rest) (goes_on {q = n} k l more) =
    improved-one P a m q r rest (subst (λ (x : List Placing). IsImproved P x r) (double-one P a s n m k p) more)
