-- Each kind of step keeps the rule of a deque.
use Rattle.std.proofs.Common.{◌≡◌, ◌≢◌, ℕ, zero, suc, ◌+◌, ◌<◌, ◌≤◌, ◌⊎◌, List, [], ◌∷◌, ◌++◌, length, set, sym, refl, ap, ◌∙◌, ⊎_elim, subst, arith, length-append, All, Contains, IsPermutation}
use mathlib.Core.Option.{some-injective}
use mathlib.Core.Logic.{dite}
use native.Mathlib.Decide.{ℕ_discrete}
use lib.ListN.{get_elem?}
use Rattle.atomic_table.proofs.Lists.{at_set, set_here, set_else, at_longer}
use Rattle.std.proofs.lemmas.List.Elements.{All-nil, All-cons, All-tail, All-push, All-weaker, All-contains, All-contains_itself}
use Rattle.std.proofs.lemmas.List.Sorted.{IsPermutation-refl, IsPermutation-sym, IsPermutation-trans, IsPermutation-append_left, IsPermutation-append_right, IsPermutation-append_comm, All-permutation, length_permutation}
use Rattle.crossbeam_deque.specs.Tasks as tasks
use Rattle.node_deques.specs.declared.node.DequeNode.{DequeNode}
use Rattle.node_deques.specs.declared.view.NodeTerms.{NodeTerms}
use Rattle.node_deques.specs.declared.view.DequeView.{DequeView}
use Rattle.node_deques.specs.Nodes.{IsOn, IsOnEach, AreNumberedFrom, RiseFrom}
use Rattle.node_deques.specs.Views.{new_view, spent_view, with_terms, with_accepted, with_taken, with_thief, thief_view, joint_view}
use Rattle.node_deques.specs.Passes.{IsLive, At, EachView, all_passes, all_taken}
use Rattle.node_deques.specs.Rule.{IsPassBeside, KeepsNodes, HoldsBetweenSteps}
use Rattle.node_deques.specs.Steps.{Accepts, Takes, Pops, HasAllPasses, HasAllTaken}
use Rattle.node_deques.proofs.Orders.{last-two, end-between, All-front, All-back}
use Rattle.node_deques.proofs.Numbers.{AreNumberedFrom-snoc, numbers-below, RiseFrom-snoc, RiseFrom-front, RiseFrom-rest}
use Rattle.node_deques.proofs.Taken.{At-below, EachView-set, EachView-snoc, EachView-weaker, all_passes-set, all_passes-snoc, all_taken-more, all_taken-same, all_taken-snoc, all_taken-joined, all_taken-alone, first-taken}

only_view : (i : ℕ) (v : DequeView) → At (new_view [] ∷ []) i v → new_view [] ≡ v
only_view zero v e = some-injective (new_view []) v e
only_view (suc i) v e = absurd (let l = At-below [] i v e in omega arith)

-- the rule holds of a new deque
pub opens : HoldsBetweenSteps [] (new_view [] ∷ [])
opens = record {
  owner = new_view [];
  keeps = record {
    first = refl;
    live = omega arith;
    numbers = tt;
    on_terms = All-nil (IsOnEach []);
    once = IsPermutation-refl [];
    order = tt;
    passes = refl;
    each = λ i v e. subst (IsPassBeside (new_view [])) (only_view i v e) record { terms = All-nil (Contains {X = NodeTerms} []); spent = λ none. refl };
  };
}

-- the first pass is the owner's
owns : (nodes : List DequeNode) (vs : List DequeView) (v : DequeView) → HoldsBetweenSteps nodes vs → At vs 0 v → KeepsNodes v nodes vs
owns nodes vs v h at = subst (λ (o : DequeView). KeepsNodes o nodes vs) (some-injective h.owner v (sym h.keeps.first ∙ at)) h.keeps

-- what was accepted stays on the terms, in the deque and with the passes
all-on : (nodes : List DequeNode) (vs : List DequeView) (o : DequeView) → KeepsNodes o nodes vs → All (IsOnEach o.terms) nodes
all-on nodes vs o k = All-front (IsOnEach o.terms) nodes (all_taken vs) (All-permutation (IsOnEach o.terms) o.accepted (nodes ++ all_taken vs) (IsPermutation-sym (nodes ++ all_taken vs) o.accepted k.once) k.on_terms)

pub pushes : (v : DequeView) (x : DequeNode) → x.number ≡ length v.accepted → IsOnEach v.terms x → tasks.Pushes HoldsBetweenSteps 0 v (x ∷ []) (Accepts v (x ∷ []))
pushes v x number on nodes vs holds at =
    let k = owns nodes vs v holds at in let w : DequeView = with_accepted (x ∷ []) v in let new : List DequeView = set vs 0 w in
    let Below : DequeNode → Type 0 = λ y. y.number < length v.accepted in
    let below : All Below nodes = All-front Below nodes (all_taken vs) (All-permutation Below v.accepted (nodes ++ all_taken vs) (IsPermutation-sym (nodes ++ all_taken vs) v.accepted k.once) (numbers-below v.accepted k.numbers)) in
    let same : all_taken new ≡ all_taken vs = all_taken-same vs 0 v w at refl in
    let once : IsPermutation ((nodes ++ x ∷ []) ++ all_taken vs) (v.accepted ++ x ∷ []) =
    IsPermutation-trans ((nodes ++ x ∷ []) ++ all_taken vs) ((nodes ++ all_taken vs) ++ x ∷ []) (v.accepted ++ x ∷ []) (last-two nodes (x ∷ []) (all_taken vs))
    (IsPermutation-append_left (x ∷ []) (nodes ++ all_taken vs) v.accepted k.once) in
    let mine : IsPassBeside v v = k.each 0 v at in (
      w,
      record {
        owner = w;
        keeps = record {
          first = set_here vs 0 w (At-below vs 0 v at);
          live = k.live;
          numbers = AreNumberedFrom-snoc 0 v.accepted x k.numbers (omega arith);
          on_terms = All-push (IsOnEach v.terms) v.accepted x k.on_terms on;
          once = subst (λ (l : List DequeNode). IsPermutation ((nodes ++ x ∷ []) ++ l) (v.accepted ++ x ∷ [])) (sym same) once;
          order = RiseFrom-snoc 0 (length v.accepted) nodes x k.order (omega arith) number below;
          passes = let s = all_passes-set vs 0 v w at in let p = k.passes in omega arith;
          each = EachView-weaker (IsPassBeside v) (IsPassBeside w) new (λ u b. record { terms = b.terms; spent = b.spent })
              (EachView-set (IsPassBeside v) vs 0 w k.each record { terms = mine.terms; spent = mine.spent });
        };
      },
      refl,
    )

-- nodes go from the deque to pass i, where the owner's view becomes one that has taken these
moved : (nodes kept xs t : List DequeNode) (vs : List DequeView) (i : ℕ) (v o : DequeView) → KeepsNodes o nodes vs → At vs i v → IsLive v
    → IsPermutation nodes (kept ++ xs) → RiseFrom 0 kept → At (set vs i (with_taken xs v)) 0 (record o { taken = t }) → HoldsBetweenSteps kept (set vs i (with_taken xs v))
moved nodes kept xs t vs i v o k at live parted up first =
    let w : DequeView = with_taken xs v in let new : List DequeView = set vs i w in let now : DequeView = record o { taken = t } in
    let mine : IsPassBeside o v = k.each i v at in
    let taken : IsPermutation (all_taken vs ++ xs) (all_taken new) = all_taken-more vs i v w xs at refl in
    let a : IsPermutation ((kept ++ xs) ++ all_taken vs) o.accepted = IsPermutation-trans ((kept ++ xs) ++ all_taken vs) (nodes ++ all_taken vs) o.accepted
    (IsPermutation-append_left (all_taken vs) (kept ++ xs) nodes (IsPermutation-sym nodes (kept ++ xs) parted)) k.once in
    let b : IsPermutation (kept ++ (all_taken vs ++ xs)) o.accepted = IsPermutation-trans (kept ++ (all_taken vs ++ xs)) ((kept ++ xs) ++ all_taken vs) o.accepted
    (end-between kept (all_taken vs) xs) a in
    record {
      owner = now;
      keeps = record {
        first = first;
        live = k.live;
        numbers = k.numbers;
        on_terms = k.on_terms;
        once = IsPermutation-trans (kept ++ all_taken new) (kept ++ (all_taken vs ++ xs)) o.accepted
            (IsPermutation-append_right kept (all_taken new) (all_taken vs ++ xs) (IsPermutation-sym (all_taken vs ++ xs) (all_taken new) taken)) b;
        order = up;
        passes = let s = all_passes-set vs i v w at in let p = k.passes in omega arith;
        each = EachView-weaker (IsPassBeside o) (IsPassBeside now) new (λ u b. record { terms = b.terms; spent = b.spent })
            (EachView-set (IsPassBeside o) vs i w k.each record { terms = mine.terms; spent = λ none. absurd (omega arith) });
      };
    }

-- which view is the owner's after a pass took nodes
moves : (nodes kept xs : List DequeNode) (vs : List DequeView) (i : ℕ) (v o : DequeView) → KeepsNodes o nodes vs → At vs i v → IsLive v
    → IsPermutation nodes (kept ++ xs) → RiseFrom 0 kept → HoldsBetweenSteps kept (set vs i (with_taken xs v))
moves nodes kept xs vs i v o k at live parted up = let w : DequeView = with_taken xs v in dite (ℕ_discrete i 0)
    (λ e. let is : v ≡ o = some-injective v o (sym at ∙ (ap (get_elem? vs) e ∙ k.first)) in
    let here : At (set vs i w) 0 w = subst (λ (j : ℕ). At (set vs i w) j w) e (set_here vs i w (At-below vs i v at)) in
    moved nodes kept xs (o.taken ++ xs) vs i v o k at live parted up (subst (λ (u : DequeView). At (set vs i w) 0 (with_taken xs u)) is here))
    (λ ne. moved nodes kept xs o.taken vs i v o k at live parted up (set_else vs i 0 w (λ e. ne (sym e)) ∙ k.first))

pub pops : (v : DequeView) → tasks.Pops HoldsBetweenSteps 0 v (Pops v)
pops v x nodes vs holds at =
    let k = owns (nodes ++ x ∷ []) vs v holds at in let all : List DequeNode = nodes ++ x ∷ [] in
    let back : (P : DequeNode → Type 0) → All P v.accepted → All P (x ∷ []) = λ P h. All-back P nodes (x ∷ []) (All-front P all (all_taken vs) (All-permutation P v.accepted (all ++ all_taken vs) (IsPermutation-sym (all ++ all_taken vs) v.accepted k.once) h)) in
    let l = length_permutation (all ++ all_taken vs) v.accepted k.once in let m = length-append all (all_taken vs) in let n = length-append nodes (x ∷ []) in let p = length-append v.taken (x ∷ []) in let f = first-taken vs v at in (
      with_taken (x ∷ []) v,
      moves all nodes (x ∷ []) vs 0 v v k at k.live (IsPermutation-refl all) (RiseFrom-front 0 nodes (x ∷ []) k.order),
      record {
        takes = record { view = refl; on_terms = back (IsOnEach v.terms) k.on_terms };
        accepted = back (Contains v.accepted) (All-contains_itself v.accepted);
        no_more = omega arith;
      },
    )

-- a pass takes the first nodes
pub takes : (i : ℕ) (v : DequeView) → IsLive v → tasks.Takes HoldsBetweenSteps i v 1 (Takes v)
takes i v live xs nodes vs _ _ holds at =
    let o = holds.owner in let k = holds.keeps in let mine : IsPassBeside o v = k.each i v at in
    let each : All (IsOnEach o.terms) xs = All-front (IsOnEach o.terms) xs nodes (all-on (xs ++ nodes) vs o k) in (
      with_taken xs v,
      moves (xs ++ nodes) nodes xs vs i v o k at live (IsPermutation-append_comm xs nodes) (RiseFrom-rest 0 xs nodes k.order),
      record {
        view = refl;
        on_terms = All-weaker (IsOnEach o.terms) (IsOnEach v.terms) (λ x on. All-weaker (Contains o.terms) (IsOn x) (λ t among. All-contains (IsOn x) o.terms t on among) v.terms mine.terms) xs each;
      },
    )

pub finds : (v : DequeView) → tasks.Finds HoldsBetweenSteps 0 v (HasAllTaken v)
finds v vs holds at all =
    let k = owns [] vs v holds at in let p = k.passes in
    let is : all_taken vs ≡ v.taken = all_taken-alone vs v at (omega arith) (λ i u e. (k.each i u e).spent) in
    subst (λ (l : List DequeNode). IsPermutation l v.accepted) is k.once

-- a pass comes that has taken nothing, and the owner's has these terms and so many split off
comes : (nodes : List DequeNode) (vs : List DequeView) (v u : DequeView) (terms : List NodeTerms) (n : ℕ) → KeepsNodes v nodes vs → At vs 0 v → All (IsOnEach terms) v.accepted → All (Contains terms) v.terms
    → All (Contains terms) u.terms → u.taken ≡ [] → n ≡ v.split_off + u.passes → HoldsBetweenSteps nodes (set vs 0 (record v { terms = terms; split_off = n }) ++ u ∷ [])
comes nodes vs v u terms n k at on among among' none more =
    let w : DequeView = record v { terms = terms; split_off = n } in let mid : List DequeView = set vs 0 w in
    let same : all_taken (mid ++ u ∷ []) ≡ all_taken vs = all_taken-snoc mid u none ∙ all_taken-same vs 0 v w at refl in
    let mine : IsPassBeside v v = k.each 0 v at in
    record {
      owner = w;
      keeps = record {
        first = at_longer mid (u ∷ []) 0 w (set_here vs 0 w (At-below vs 0 v at));
        live = k.live;
        numbers = k.numbers;
        on_terms = on;
        once = subst (λ (l : List DequeNode). IsPermutation (nodes ++ l) v.accepted) (sym same) k.once;
        order = k.order;
        passes = let a = all_passes-set vs 0 v w at in let b = all_passes-snoc mid u in let p = k.passes in omega arith;
        each = EachView-snoc (IsPassBeside w) mid u
            (EachView-set (IsPassBeside w) vs 0 w
            (EachView-weaker (IsPassBeside v) (IsPassBeside w) vs (λ y b. record { terms = All-weaker (Contains v.terms) (Contains terms) (λ t c. All-contains (Contains terms) v.terms t among c) y.terms b.terms; spent = b.spent }) k.each)
            record { terms = All-contains_itself terms; spent = mine.spent })
            record { terms = among'; spent = λ _. none };
      };
    }

pub splits : (v : DequeView) → tasks.Forks HoldsBetweenSteps 0 v (with_thief v) (thief_view v)
splits v nodes vs holds at =
    let k = owns nodes vs v holds at in comes nodes vs v (thief_view v) v.terms (v.split_off + 1) k at k.on_terms (All-contains_itself v.terms) (All-contains_itself v.terms) refl refl

-- where nothing was accepted, terms may come
pub agrees : (terms : NodeTerms) (v : DequeView) → v.accepted ≡ [] → tasks.Forks HoldsBetweenSteps 0 v (with_terms terms v) spent_view
agrees terms v none nodes vs holds at =
    let k = owns nodes vs v holds at in let more : List NodeTerms = terms ∷ v.terms in
    comes nodes vs v spent_view more v.split_off k at (subst (λ (l : List DequeNode). All (IsOnEach more) l) (sym none) (All-nil (IsOnEach more)))
    (All-tail (Contains more) terms v.terms (All-contains_itself more)) (All-nil (Contains more)) refl (omega arith)

pub joins : (v : DequeView) (other : ℕ) (u : DequeView) → tasks.Merges HoldsBetweenSteps 0 v other u (joint_view v u) spent_view
joins v other u nodes vs holds at apart at' =
    let k = owns nodes vs v holds at in let w : DequeView = joint_view v u in let mid : List DequeView = set vs 0 w in let new : List DequeView = set mid other spent_view in
    let had : At vs other u = ⊎_elim (λ (x : (other ≡ 0) × (w ≡ u)). absurd (apart x.0)) (λ (x : (other ≢ 0) × At vs other u). x.1) (at_set vs 0 other w u at') in
    let mine : IsPassBeside v v = k.each 0 v at in
    let taken : IsPermutation (all_taken new) (all_taken vs) = all_taken-joined vs other v w u spent_view at apart had refl refl in
    record {
      owner = w;
      keeps = record {
        first = set_else mid other 0 spent_view (λ e. apart (sym e)) ∙ set_here vs 0 w (At-below vs 0 v at);
        live = let l = k.live in omega arith;
        numbers = k.numbers;
        on_terms = k.on_terms;
        once = IsPermutation-trans (nodes ++ all_taken new) (nodes ++ all_taken vs) v.accepted (IsPermutation-append_right nodes (all_taken new) (all_taken vs) taken) k.once;
        order = k.order;
        passes = let a = all_passes-set vs 0 v w at in let b = all_passes-set mid other u spent_view at' in let p = k.passes in omega arith;
        each = EachView-set (IsPassBeside w) mid other spent_view
            (EachView-set (IsPassBeside w) vs 0 w
            (EachView-weaker (IsPassBeside v) (IsPassBeside w) vs (λ y b. record { terms = b.terms; spent = b.spent }) k.each)
            record { terms = mine.terms; spent = λ none. let l = k.live in absurd (omega arith) })
            record { terms = All-nil (Contains v.terms); spent = λ _. refl };
      };
    }
