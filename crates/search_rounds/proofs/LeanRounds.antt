-- What may not be wasted, from round to round.
use Rattle.std.proofs.Common.{◌≡◌, ℕ, ◌+◌, ◌-◌, ◌<◌, ◌≤◌, ◌⊎◌, inl, inr, refl, sym, ap, subst, ◌∙◌, arith, List, [], ◌∷◌, ◌++◌, length, length-append, Bool, true, false, cond, Option, Some}
use Rattle.std.specs.Prelude.{slice_index, count_by, ◌==◌, ◌&&◌}
use Rattle.std.proofs.lemmas.Bool.{cases_lt, cases_eq, cases_Bool, eqb-true}
use Rattle.std.proofs.lemmas.List.{get_or_append_left, get_or_at, get_or_past}
use Rattle.rcpsp_model.specs.declared.parts.Entry.{Entry}
use Rattle.rcpsp_model.specs.Project.{Project, numbers_from}
use Rattle.rcpsp_model.specs.Chain.{IsLeast}
use Rattle.rcpsp_model.specs.Tree.{Choice}
use Rattle.rcpsp_model.specs.Bounds.{IsLowerBound}
use Rattle.rcpsp_model.specs.Dominance.{Dominates}
use Rattle.rcpsp_model.proofs.Lists.{In, In-All, In-from_Contains, sum_by-total}
use Rattle.rcpsp_model.proofs.Choices.{zip-left}
use Rattle.precedence_tree.specs.declared.base.Base.{Base}
use Rattle.log_truth.specs.Log.{by_choice, at_root}
use Rattle.search_log.specs.declared.row.Row.{Row}
use Rattle.search_log.specs.declared.row.Origin.{Origin}
use Rattle.search_log.specs.declared.table.Table.{Table}
use Rattle.search_log.specs.Weights.{total}
use Rattle.search_log.specs.Fates.{RowSaying, row_open, row_expanded}
use Rattle.search_log.specs.Table.{no_row, says_row, says_at}
use Rattle.search_log.specs.Stands.{TreeNode, branch_at, place_front, searching, IsExpandedAt, one_expanded, expanded_rows}
use Rattle.search_log.specs.Lean.{Seen, seen_row, seen_rows, end_number, IsEnd, of_first, of_leaf, expands_line, most_in_round, expands_in, IsKnown, by_round, by_turn, IsAfterParent}
use Rattle.search_log.proofs.Sums.{total-map, numbers-total}
use Rattle.search_log.proofs.ToldLogs.{places-expanded, expanded-inside}
use Rattle.search_log.proofs.OneParent.{has-parent, one_front_law}
use Rattle.search_rounds.specs.declared.round.WaitingNode.{WaitingNode}
use Rattle.search_rounds.specs.declared.round.Records.{Records}
use Rattle.search_rounds.specs.declared.round.Terms.{Terms}
use Rattle.search_rounds.specs.declared.round.RoundResult.{RoundResult}
use Rattle.search_rounds.specs.Round.{waiting_of, rows_after, origins_after, VisitedIn, line_after, IsEarlierTurn, IsAmong}
use Rattle.search_rounds.specs.Going.{IsSaid, IsOfRounds, IsSaidBy, IsLeanSoFar}
use Rattle.search_rounds.proofs.FilledSums.{line-expanded, expanded-line, total-numbers_le, total-numbers_more}
use Rattle.search_rounds.proofs.TablesAfter.{Step, after, size-after, front-stays, line-stays, says-stays, said_or_visited, said-after, said-visited, said-expanded}

-- Ends.

pub ends-map : (P : Project) (first : Option ℕ) (A B : Seen → Type 0) → ((s : Seen) → A s → B s) → (e : ℕ) → IsEnd P first A e → IsEnd P first B e
ends-map P first A B f e (of_first is) = of_first is
ends-map P first A B f e (of_leaf s F a said front is) = of_leaf s F (f s a) said front is

pub least-map : (P : Project) (first : Option ℕ) (A B : Seen → Type 0) (e : ℕ) → ((s : Seen) → A s → B s) → ((s : Seen) → B s → A s) → IsLeast (IsEnd P first A) e → IsLeast (IsEnd P first B) e
least-map P first A B e f g is = record { attained = ends-map P first A B f e is.attained; least = λ u h. is.least u (ends-map P first B A g u h) }

-- A line after a round is one from before, or one of the round.

pub record OldLine (Said : ℕ → Type 0) (line new : ℕ → Seen) (p : ℕ) : Type 0 where
  pub said : Said p
  pub line_is : new p ≡ line p

pub record NewLine (Visited : ℕ → Type 0) (number : ℕ) (new : ℕ → Seen) (p : ℕ) : Type 0 where
  pub visited : Visited p
  pub round : (new p).origin.round ≡ number

pub line-cases : (P : Project) (w : ℕ) (t : Table) (ns : List TreeNode) (known : Records) (fr : List WaitingNode) (te : Terms) (r : RoundResult) → (k : Step P w t ns known fr te r) → (p : ℕ) →
    IsSaid (rows_after t.rows r) p →
    OldLine (IsSaid t.rows) (seen_row t.rows ns t.origins) (line_after t (ns ++ k.round.more) r) p ⊎ NewLine (VisitedIn t r) te.number (line_after t (ns ++ k.round.more) r) p
line-cases P w t ns known fr te r k p is =
    elim (said_or_visited t r p is) [
      | inl old ↦ inl (record { said = old; line_is = line-stays P w t ns known fr te r k p old })
      | inr new ↦ inr (record { visited = new; round = k.round.lean.round p new })
    ]

-- What is known of both, for places and lines of whatever kind.
pub record Goings (w number rounds : ℕ) (Said Visited After : ℕ → Type 0) (line new : ℕ → Seen) : Type 0 where
  pub numbered : number ≡ rounds + 1
  pub cases : (p : ℕ) → After p → OldLine Said line new p ⊎ NewLine Visited number new p
  pub of_old : (p : ℕ) → Said p → After p
  pub of_new : (p : ℕ) → Visited p → After p
  pub same : (p : ℕ) → Said p → new p ≡ line p
  pub old_round : (p : ℕ) → Said p → (line p).origin.round ≤ rounds
  pub new_round : (p : ℕ) → Visited p → (new p).origin.round ≡ number

-- the lines of the first rounds are as they were
among-old : (w number rounds : ℕ) (Said Visited After : ℕ → Type 0) (line new : ℕ → Seen) → Goings w number rounds Said Visited After line new → (i : ℕ) → i ≤ rounds → (s : Seen) →
    IsAmong (IsSaidBy After new i) new s → IsAmong (IsSaidBy Said line i) line s
among-old w number rounds Said Visited After line new g i l s a =
    let n = g.numbered in
    elim (g.cases a.place a.visited.said) [
      | inl old ↦ (let same = ap (λ (x : Seen). x.origin.round) old.line_is in let small = a.visited.round in
          record { place = a.place; visited = record { said = old.said; round = omega arith }; is = a.is ∙ old.line_is })
      | inr fresh ↦ absurd (let m = fresh.round in let small = a.visited.round in omega arith)
    ]

among-new : (w number rounds : ℕ) (Said Visited After : ℕ → Type 0) (line new : ℕ → Seen) → Goings w number rounds Said Visited After line new → (i : ℕ) → (s : Seen) →
    IsAmong (IsSaidBy Said line i) line s → IsAmong (IsSaidBy After new i) new s
among-new w number rounds Said Visited After line new g i s a =
    let e = g.same a.place a.visited.said in
    let same = ap (λ (x : Seen). x.origin.round) e in
    let small = a.visited.round in
    record { place = a.place; visited = record { said = g.of_old a.place a.visited.said; round = omega arith }; is = a.is ∙ sym e }

all-first : (w number rounds : ℕ) (Said Visited After : ℕ → Type 0) (line new : ℕ → Seen) → Goings w number rounds Said Visited After line new → (s : Seen) → IsAmong Said line s → IsAmong (IsSaidBy Said line rounds) line s
all-first w number rounds Said Visited After line new g s a = record { place = a.place; visited = record { said = a.visited; round = g.old_round a.place a.visited }; is = a.is }

first-all : (Said : ℕ → Type 0) (line : ℕ → Seen) (i : ℕ) (s : Seen) → IsAmong (IsSaidBy Said line i) line s → IsAmong Said line s
first-all Said line i s a = record { place = a.place; visited = a.visited.said; is = a.is }

-- the best at the start of each round, also of this one
starts-after : (P : Project) (w number : ℕ) (first best : Option ℕ) (starts : List ℕ) (Said Visited After : ℕ → Type 0) (line new : ℕ → Seen) → Goings w number (length starts) Said Visited After line new →
    IsLeanSoFar P w first starts best Said line → (i : ℕ) → i < length (starts ++ end_number best ∷ []) → IsLeast (IsEnd P first (IsAmong (IsSaidBy After new i) new)) (slice_index (starts ++ end_number best ∷ []) i)
starts-after P w number first best starts Said Visited After line new g old i l =
    let size = length-append starts (end_number best ∷ []) in
    elim (cases_lt i (length starts)) [
      | inl before ↦ (
          let same : slice_index (starts ++ end_number best ∷ []) i ≡ slice_index starts i = get_or_append_left starts (end_number best ∷ []) 0 i before in
          subst (IsLeast (IsEnd P first (IsAmong (IsSaidBy After new i) new))) (sym same)
          (least-map P first (IsAmong (IsSaidBy Said line i) line) (IsAmong (IsSaidBy After new i) new) (slice_index starts i)
          (among-new w number (length starts) Said Visited After line new g i) (among-old w number (length starts) Said Visited After line new g i (omega arith)) (old.starts_least i before)))
      | inr now ↦ (
          let e : length starts ≡ i = omega arith in
          let same : slice_index (starts ++ end_number best ∷ []) i ≡ end_number best = get_or_at starts (end_number best) [] 0 i e in
          subst (IsLeast (IsEnd P first (IsAmong (IsSaidBy After new i) new))) (sym same)
          (least-map P first (IsAmong Said line) (IsAmong (IsSaidBy After new i) new) (end_number best)
          (λ s a. among-new w number (length starts) Said Visited After line new g i s (subst (λ (x : ℕ). IsAmong (IsSaidBy Said line x) line s) e (all-first w number (length starts) Said Visited After line new g s a)))
          (λ s a. first-all Said line i s (among-old w number (length starts) Said Visited After line new g i (omega arith) s a)) old.best_least))
    ]

-- the best now
best-now : (P : Project) (w number rounds : ℕ) (first before best : Option ℕ) (Said Visited After : ℕ → Type 0) (line new : ℕ → Seen) → Goings w number rounds Said Visited After line new →
    IsLeast (IsEnd P first (IsAmong Said line)) (end_number before) → IsLeast (IsEnd P before (IsAmong Visited new)) (end_number best) → IsLeast (IsEnd P first (IsAmong After new)) (end_number best)
best-now P w number rounds first before best Said Visited After line new g old is = record { attained = reach is.attained; least = least }
  where
    of_said : (s : Seen) → IsAmong Said line s → IsAmong After new s
    of_said s a = record { place = a.place; visited = g.of_old a.place a.visited; is = a.is ∙ sym (g.same a.place a.visited) }

    reach : IsEnd P before (IsAmong Visited new) (end_number best) → IsEnd P first (IsAmong After new) (end_number best)
    reach (of_first e) = subst (IsEnd P first (IsAmong After new)) (sym e) (ends-map P first (IsAmong Said line) (IsAmong After new) of_said (end_number before) old.attained)
    reach (of_leaf s F a said front e) = of_leaf s F (record { place = a.place; visited = g.of_new a.place a.visited; is = a.is }) said front e

    falls : end_number best ≤ end_number before
    falls = is.least (end_number before) (of_first refl)

    least : (u : ℕ) → IsEnd P first (IsAmong After new) u → end_number best ≤ u
    least u (of_first e) = let a = old.least u (of_first e) in let b = falls in omega arith
    least u (of_leaf s F a said front e) =
        elim (g.cases a.place a.visited) [
          | inl o ↦ (let x = old.least u (of_leaf s F (record { place = a.place; visited = o.said; is = a.is ∙ o.line_is }) said front e) in let b = falls in omega arith)
          | inr n ↦ is.least u (of_leaf s F (record { place = a.place; visited = n.visited; is = a.is }) said front e)
        ]

-- Facts of one line, from one round to the next.

abbrev IsEarly : Project → List ℕ → Seen → Type 0
IsEarly P starts s = (F : List Entry) (b : ℕ) → expands_line s ≡ true → s.front ≡ Some F → IsLowerBound P F b → b < slice_index starts (s.origin.round - 1)

early-old : (P : Project) (starts : List ℕ) (x w : ℕ) (s : Seen) → IsOfRounds w (length starts) s.origin → IsEarly P starts s → IsEarly P (starts ++ x ∷ []) s
early-old P starts x w s o early F b expanded front lower =
    let own = early F b expanded front lower in
    let some = o.some in
    let few = o.round in
    let same : slice_index (starts ++ x ∷ []) (s.origin.round - 1) ≡ slice_index starts (s.origin.round - 1) = get_or_append_left starts (x ∷ []) 0 (s.origin.round - 1) (omega arith) in
    omega arith

early-new : (P : Project) (starts : List ℕ) (x : ℕ) (s : Seen) → s.origin.round ≡ length starts + 1 → ((F : List Entry) (b : ℕ) → expands_line s ≡ true → s.front ≡ Some F → IsLowerBound P F b → b < x) → IsEarly P (starts ++ x ∷ []) s
early-new P starts x s e early F b expanded front lower =
    let own = early F b expanded front lower in
    let same : slice_index (starts ++ x ∷ []) (s.origin.round - 1) ≡ x = get_or_at starts x [] 0 (s.origin.round - 1) (omega arith) in
    omega arith

rounds-more : (w n m : ℕ) (o : Origin) → n ≤ m → IsOfRounds w n o → IsOfRounds w m o
rounds-more w n m o l is = let a = is.round in record { some = is.some; round = omega arith; worker = is.worker }

-- The step of a search.

pub goings : (P : Project) (w : ℕ) (t : Table) (ns : List TreeNode) (known : Records) (fr : List WaitingNode) (te : Terms) (r : RoundResult) (first best : Option ℕ) (starts : List ℕ) → (k : Step P w t ns known fr te r) →
    te.number ≡ length starts + 1 → IsLeanSoFar P w first starts best (IsSaid t.rows) (seen_row t.rows ns t.origins) →
    Goings w te.number (length starts) (IsSaid t.rows) (VisitedIn t r) (IsSaid (rows_after t.rows r)) (seen_row t.rows ns t.origins) (line_after t (ns ++ k.round.more) r)
goings P w t ns known fr te r first best starts k e old = record {
  numbered = e;
  cases = line-cases P w t ns known fr te r k;
  of_old = said-after P w t ns known fr te r k;
  of_new = said-visited t r;
  same = line-stays P w t ns known fr te r k;
  old_round = λ p is. (old.rounds p is).round;
  new_round = k.round.lean.round;
}

-- a front that was expanded before has a record
known-front : (P : Project) (w : ℕ) (t : Table) (ns : List TreeNode) (known : Records) (fr : List WaitingNode) (te : Terms) (r : RoundResult) → Step P w t ns known fr te r → (q : ℕ) (A : List Entry) →
    IsExpandedAt t.rows q → place_front ns q ≡ Some A → (base : Base) × In known.index base × (base.front ≡ A)
known-front P w t ns known fr te r k q A e front =
    let x = zip-left _ known.places known.index k.known.each q (In-from_Contains known.places q (k.known.all q e)) in
    let same : Some x.0.front ≡ Some A = sym x.2.front ∙ front in
    (x.0, x.1, let own : x.0.front ≡ A = cc in own)

-- the child of a front that was expanded now isn't from before
child-new : (P : Project) (w : ℕ) (t : Table) (ns : List TreeNode) (known : Records) (fr : List WaitingNode) (te : Terms) (r : RoundResult) → (k : Step P w t ns known fr te r) → (p q : ℕ) (F : List Entry) (c : Choice) →
    IsSaid t.rows p → VisitedIn t r q → place_front (ns ++ k.round.more) q ≡ Some F → branch_at ns p ≡ by_choice F c → ⊥
child-new P w t ns known fr te r k p q F c is visited front branch =
    let root : p ≡ 0 → ⊥ = λ e. at-root (sym k.before.root ∙ (ap (branch_at ns) (sym e) ∙ branch)) in
    let x = has-parent P (searching te.best) t.rows ns (waiting_of fr) k.before p is.within root in
    let same : x.front ≡ F = fronts (sym x.branch ∙ branch) in
    let size = k.before.size in
    let wx = x.within in
    let grown = size-after t.rows r in
    let at_x : place_front (ns ++ k.round.more) x.place ≡ Some F = front-stays ns k.round.more x.place (omega arith) ∙ (x.is_its ∙ ap (λ (G : List Entry). Some G) same) in
    let place : x.place ≡ q = one_front_law P (searching r.best) (rows_after t.rows r) (ns ++ k.round.more) (waiting_of r.left) x.place q F (after P w t ns known fr te r k) (omega arith) visited.within at_x front in
    let was : says_at t.rows x.place ≡ row_open = subst (λ (z : ℕ). says_at t.rows z ≡ row_open) (sym place) (visited.was_open (omega arith)) in
    clash x.first x.count (sym x.says ∙ was)
  where
    at-root : at_root ≡ by_choice F c → ⊥
    at-root e = cc

    fronts : {G : List Entry} {d : Choice} → by_choice G d ≡ by_choice F c → G ≡ F
    fronts e = cc

    clash : (i n : ℕ) → row_expanded i n ≡ row_open → ⊥
    clash i n e = cc

known-old : (a b : Origin) (n : ℕ) → IsKnown a b → b.round ≤ n → a.round ≤ n
known-old a b n (by_round l) m = omega arith
known-old a b n (by_turn e w l) m = omega arith

known-cases : (a b : Origin) → IsKnown a b → (a.round < b.round) ⊎ IsEarlierTurn a b
known-cases a b (by_round l) = inl l
known-cases a b (by_turn e w l) = inr (record { worker = w; turn = l })

-- two expanded lines, of which the one was known
new-after : (P : Project) (w : ℕ) (t : Table) (ns : List TreeNode) (known : Records) (fr : List WaitingNode) (te : Terms) (r : RoundResult) (first : Option ℕ) (starts : List ℕ) → (k : Step P w t ns known fr te r) →
    te.number ≡ length starts + 1 → IsLeanSoFar P w first starts te.best (IsSaid t.rows) (seen_row t.rows ns t.origins) →
    (p q : ℕ) (F A : List Entry) → IsSaid (rows_after t.rows r) p → IsSaid (rows_after t.rows r) q → expands_line (line_after t (ns ++ k.round.more) r p) ≡ true → expands_line (line_after t (ns ++ k.round.more) r q) ≡ true →
    IsKnown (line_after t (ns ++ k.round.more) r q).origin (line_after t (ns ++ k.round.more) r p).origin → (line_after t (ns ++ k.round.more) r q).front ≡ Some A → (line_after t (ns ++ k.round.more) r p).front ≡ Some F → Dominates P A F → ⊥
new-after P w t ns known fr te r first starts k e old p q F A ip iq ep eq_ before fq fp dominates =
    let line : ℕ → Seen = seen_row t.rows ns t.origins in
    let new : ℕ → Seen = line_after t (ns ++ k.round.more) r in
    let g = goings P w t ns known fr te r first te.best starts k e old in
    elim (g.cases p ip) [
      | inl a ↦ elim (g.cases q iq) [
        | inl b ↦ (
            let known_ : IsKnown (line q).origin (line p).origin = subst (λ (s : Seen). IsKnown (line q).origin s.origin) a.line_is (subst (λ (s : Seen). IsKnown s.origin (new p).origin) b.line_is before) in
            old.new p q F A a.said b.said (ap expands_line (sym a.line_is) ∙ ep) (ap expands_line (sym b.line_is) ∙ eq_) known_
            (ap (λ (s : Seen). s.front) (sym b.line_is) ∙ fq) (ap (λ (s : Seen). s.front) (sym a.line_is) ∙ fp) dominates)
        | inr b ↦ (
            let x = g.old_round p a.said in
            let y = b.round in
            let z = ap (λ (s : Seen). s.origin.round) a.line_is in
            let u = known-old (new q).origin (new p).origin (length starts) before (omega arith) in
            absurd (omega arith))
      ]
      | inr a ↦ elim (g.cases q iq) [
        | inl b ↦ (
            let expanded : IsExpandedAt t.rows q = line-expanded t.rows ns t.origins q (ap expands_line (sym b.line_is) ∙ eq_) in
            let front : place_front ns q ≡ Some A = ap (λ (s : Seen). s.front) (sym b.line_is) ∙ fq in
            let x = known-front P w t ns known fr te r k q A expanded front in
            let none = In-All (λ (base : Base). Dominates P base.front F → ⊥) known.index (k.round.lean.new p F a.visited ep fp) x.0 x.1 in
            none (subst (λ (G : List Entry). Dominates P G F) (sym x.2) dominates))
        | inr b ↦ elim (known-cases (new q).origin (new p).origin before) [
          | inl l ↦ absurd (let x = a.round in let y = b.round in omega arith)
          | inr turn ↦ k.round.lean.own p q F A a.visited b.visited ep eq_ turn fq fp dominates
        ]
      ]
    ]

parents-after : (P : Project) (w : ℕ) (t : Table) (ns : List TreeNode) (known : Records) (fr : List WaitingNode) (te : Terms) (r : RoundResult) (first : Option ℕ) (starts : List ℕ) → (k : Step P w t ns known fr te r) →
    te.number ≡ length starts + 1 → IsLeanSoFar P w first starts te.best (IsSaid t.rows) (seen_row t.rows ns t.origins) →
    (p q : ℕ) (F : List Entry) (c : Choice) → IsSaid (rows_after t.rows r) p → IsSaid (rows_after t.rows r) q → expands_line (line_after t (ns ++ k.round.more) r q) ≡ true →
    (line_after t (ns ++ k.round.more) r q).front ≡ Some F → (line_after t (ns ++ k.round.more) r p).branch ≡ by_choice F c → IsAfterParent (line_after t (ns ++ k.round.more) r q) (line_after t (ns ++ k.round.more) r p)
parents-after P w t ns known fr te r first starts k e old p q F c ip iq eq_ fq branch =
    let line : ℕ → Seen = seen_row t.rows ns t.origins in
    let new : ℕ → Seen = line_after t (ns ++ k.round.more) r in
    let g = goings P w t ns known fr te r first te.best starts k e old in
    elim (g.cases p ip) [
      | inl a ↦ elim (g.cases q iq) [
        | inl b ↦ (
            let own = old.parents p q F c a.said b.said (ap expands_line (sym b.line_is) ∙ eq_) (ap (λ (s : Seen). s.front) (sym b.line_is) ∙ fq) (ap (λ (s : Seen). s.branch) (sym a.line_is) ∙ branch) in
            subst (λ (s : Seen). IsAfterParent s (new p)) (sym b.line_is) (subst (λ (s : Seen). IsAfterParent (line q) s) (sym a.line_is) own))
        | inr b ↦ absurd (child-new P w t ns known fr te r k p q F c a.said b.visited fq (ap (λ (s : Seen). s.branch) (sym a.line_is) ∙ branch))
      ]
      | inr a ↦ elim (g.cases q iq) [
        | inl b ↦ (
            let x = g.old_round q b.said in
            let y = a.round in
            let z = ap (λ (s : Seen). s.origin.round) b.line_is in
            record { round = omega arith; turn = λ open_ same worker. absurd (omega arith) })
        | inr b ↦ k.round.lean.parents p q F c a.visited b.visited eq_ fq branch
      ]
    ]

pub lean-after : (P : Project) (w : ℕ) (t : Table) (ns : List TreeNode) (known : Records) (fr : List WaitingNode) (te : Terms) (r : RoundResult) (first : Option ℕ) (starts : List ℕ) → (k : Step P w t ns known fr te r) →
    te.number ≡ length starts + 1 → IsLeanSoFar P w first starts te.best (IsSaid t.rows) (seen_row t.rows ns t.origins) →
    IsLeanSoFar P w first (starts ++ end_number te.best ∷ []) r.best (IsSaid (rows_after t.rows r)) (line_after t (ns ++ k.round.more) r)
lean-after P w t ns known fr te r first starts k e old =
    let line : ℕ → Seen = seen_row t.rows ns t.origins in
    let new : ℕ → Seen = line_after t (ns ++ k.round.more) r in
    let g = goings P w t ns known fr te r first te.best starts k e old in
    let lean = k.round.lean in
    let size = length-append starts (end_number te.best ∷ []) in
    record {
      rounds = λ p is. elim (g.cases p is) [
        | inl o ↦ subst (λ (s : Seen). IsOfRounds w (length (starts ++ end_number te.best ∷ [])) s.origin) (sym o.line_is) (rounds-more w (length starts) (length (starts ++ end_number te.best ∷ [])) (line p).origin (omega arith) (old.rounds p o.said))
        | inr n ↦ (let m = n.round in record { some = omega arith; round = omega arith; worker = lean.worker p n.visited })
      ];
      early = λ p F b is. elim (g.cases p is) [
        | inl o ↦ subst (IsEarly P (starts ++ end_number te.best ∷ [])) (sym o.line_is) (early-old P starts (end_number te.best) w (line p) (old.rounds p o.said) (λ G c. old.early p G c o.said)) F b
        | inr n ↦ early-new P starts (end_number te.best) (new p) (n.round ∙ e) (λ G c. lean.early p G c n.visited) F b
      ];
      one = λ p q ip iq. elim (g.cases p ip) [
        | inl a ↦ elim (g.cases q iq) [
          | inl b ↦ (λ ep eq_ same. old.one p q a.said b.said (ap expands_line (sym a.line_is) ∙ ep) (ap expands_line (sym b.line_is) ∙ eq_) (ap (λ (s : Seen). s.origin) (sym a.line_is) ∙ (same ∙ ap (λ (s : Seen). s.origin) b.line_is)))
          | inr b ↦ (λ ep eq_ same. absurd (
              let x = g.old_round p a.said in
              let y = b.round in
              let z = ap (λ (s : Seen). s.origin.round) a.line_is in
              let u = ap (λ (o : Origin). o.round) same in
              omega arith))
        ]
        | inr a ↦ elim (g.cases q iq) [
          | inl b ↦ (λ ep eq_ same. absurd (
              let x = g.old_round q b.said in
              let y = a.round in
              let z = ap (λ (s : Seen). s.origin.round) b.line_is in
              let u = ap (λ (o : Origin). o.round) same in
              omega arith))
          | inr b ↦ (λ ep eq_ same. lean.one p q a.visited b.visited ep eq_ same)
        ]
      ];
      new = new-after P w t ns known fr te r first starts k e old;
      parents = parents-after P w t ns known fr te r first starts k e old;
      starts_least = starts-after P w te.number first te.best starts (IsSaid t.rows) (VisitedIn t r) (IsSaid (rows_after t.rows r)) line new g old;
      best_least = best-now P w te.number (length starts) first te.best r.best (IsSaid t.rows) (VisitedIn t r) (IsSaid (rows_after t.rows r)) line new g old.best_least k.round.best;
    }

-- How many lines a round expands.

-- 1 where the line was expanded in the round
abbrev pub one_in : ℕ → Seen → ℕ
one_in n s = cond (expands_in n s) 1 0

pub count-places : (T : List Row) (ns : List TreeNode) (O : List Origin) (n : ℕ) → count_by (expands_in n) (seen_rows T ns O) ≡ total (λ p. one_in n (seen_row T ns O p)) (numbers_from 0 (length T))
count-places T ns O n = sum_by-total (one_in n) (seen_rows T ns O) ∙ total-map (one_in n) (seen_row T ns O) (numbers_from 0 (length T))

pub one_in-false : (n : ℕ) (s : Seen) → expands_line s ≡ false → one_in n s ≡ 0
one_in-false n s e = ap (λ (b : Bool). cond (b && (s.origin.round == n)) 1 0) e

one_in-other : (n : ℕ) (s : Seen) → (s.origin.round ≡ n → ⊥) → one_in n s ≡ 0
one_in-other n s d = at (expands_line s) (s.origin.round == n) refl
  where
    at : (a b : Bool) → (s.origin.round == n) ≡ b → ◌≡◌ {A = ℕ} (cond (a && b) 1 0) 0
    at true true e = absurd (d (eqb-true s.origin.round n e))
    at true false e = refl
    at false b e = refl

one_in-le : (n : ℕ) (s : Seen) → one_in n s ≤ 1
one_in-le n s = at (expands_in n s)
  where
    at : (b : Bool) → cond b 1 0 ≤ 1
    at true = omega arith
    at false = omega arith

-- a line that isn't expanded counts for nothing, nor does its row
unexpanded : (T : List Row) (ns : List TreeNode) (O : List Origin) (p : ℕ) → expands_line (seen_row T ns O p) ≡ false → one_expanded (says_at T p) ≡ 0
unexpanded T ns O p e = at (says_at T p) refl
  where
    at : (s : RowSaying) → says_at T p ≡ s → one_expanded s ≡ 0
    at (row_expanded first count) is = absurd (let yes_ = expanded-line T ns O p (record { first = first; count = count; is = is }) in let bad : true ≡ false = sym yes_ ∙ e in cc)
    at _ is = refl

past-line : (T : List Row) (ns : List TreeNode) (O : List Origin) (p : ℕ) → length T ≤ p → expands_line (seen_row T ns O p) ≡ false
past-line T ns O p l =
    elim (cases_Bool (expands_line (seen_row T ns O p))) [
      | inl yes_ ↦ absurd (let i = expanded-inside T p (line-expanded T ns O p yes_) in omega arith)
      | inr no_ ↦ no_
    ]

rows-places : (T : List Row) → expanded_rows T ≡ total (λ p. one_expanded (says_at T p)) (numbers_from 0 (length T))
rows-places T = sym (places-expanded T) ∙ numbers-total (λ p. one_expanded (says_at T p)) 0 T

-- at a place after a round: an earlier round has no more there, and this round no more than what was expanded since
few-at : (P : Project) (w : ℕ) (t : Table) (ns : List TreeNode) (known : Records) (fr : List WaitingNode) (te : Terms) (r : RoundResult) (first : Option ℕ) (starts : List ℕ) → (k : Step P w t ns known fr te r) →
    te.number ≡ length starts + 1 → IsLeanSoFar P w first starts te.best (IsSaid t.rows) (seen_row t.rows ns t.origins) → (n p : ℕ) →
    ((n ≡ te.number → ⊥) → one_in n (line_after t (ns ++ k.round.more) r p) ≤ one_in n (seen_row t.rows ns t.origins p))
    × (one_in te.number (line_after t (ns ++ k.round.more) r p) + one_expanded (says_at t.rows p) ≤ one_expanded (says_at (rows_after t.rows r) p))
few-at P w t ns known fr te r first starts k e old n p =
    let line : ℕ → Seen = seen_row t.rows ns t.origins in
    let new : ℕ → Seen = line_after t (ns ++ k.round.more) r in
    let g = goings P w t ns known fr te r first te.best starts k e old in
    elim (cases_Bool (expands_line (new p))) [
      | inr no_ ↦ (
          let a = one_in-false n (new p) no_ in
          let b = one_in-false te.number (new p) no_ in
          let c : one_expanded (says_at t.rows p) ≡ 0 = elim (cases_Bool (expands_line (line p))) [
            | inr none ↦ unexpanded t.rows ns t.origins p none
            | inl was ↦ absurd (let x = line-stays P w t ns known fr te r k p (said-expanded t.rows p (line-expanded t.rows ns t.origins p was)) in let bad : false ≡ true = sym no_ ∙ (ap expands_line x ∙ was) in cc)
          ] in
          (λ d. omega arith, omega arith))
      | inl yes_ ↦ (
          let now = line-expanded (rows_after t.rows r) (ns ++ k.round.more) (origins_after t.origins r) p yes_ in
          let one : one_expanded (says_at (rows_after t.rows r) p) ≡ 1 = ap one_expanded now.is in
          elim (g.cases p (said-expanded (rows_after t.rows r) p now)) [
            | inl o ↦ (
                let same = ap (one_in n) o.line_is in
                let x = g.old_round p o.said in
                let z = ap (λ (s : Seen). s.origin.round) o.line_is in
                let none = one_in-other te.number (new p) (λ f. omega arith) in
                let was : one_expanded (says_at t.rows p) ≡ 1 = sym (ap one_expanded (says-stays P w t ns known fr te r k p o.said)) ∙ one in
                (λ d. omega arith, omega arith))
            | inr v ↦ (
                let other = λ (d : n ≡ te.number → ⊥). one_in-other n (new p) (λ f. d (sym f ∙ v.round)) in
                let few = one_in-le te.number (new p) in
                let was : one_expanded (says_at t.rows p) ≡ 0 = elim (cases_lt p (length t.rows)) [
                  | inl before ↦ ap one_expanded (v.visited.was_open before)
                  | inr past ↦ ap (λ (x : Row). one_expanded (says_row x)) (get_or_past t.rows p no_row past)
                ] in
                (λ d. let a = other d in omega arith, omega arith))
          ])
    ]

pub few-after : (P : Project) (w : ℕ) (t : Table) (ns : List TreeNode) (known : Records) (fr : List WaitingNode) (te : Terms) (r : RoundResult) (first : Option ℕ) (starts : List ℕ) → (k : Step P w t ns known fr te r) →
    te.number ≡ length starts + 1 → IsLeanSoFar P w first starts te.best (IsSaid t.rows) (seen_row t.rows ns t.origins) → te.quota ≤ most_in_round te.number →
    ((n : ℕ) → count_by (expands_in n) (seen_rows t.rows ns t.origins) ≤ most_in_round n) →
    (n : ℕ) → count_by (expands_in n) (seen_rows (rows_after t.rows r) (ns ++ k.round.more) (origins_after t.origins r)) ≤ most_in_round n
few-after P w t ns known fr te r first starts k e old quota few n =
    let T : List Row = t.rows in
    let T2 : List Row = rows_after t.rows r in
    let size = length T2 in
    let grown = size-after t.rows r in
    let c2 = count-places T2 (ns ++ k.round.more) (origins_after t.origins r) n in
    elim (cases_eq n te.number) [
      | inr d ↦ (
          let c1 = count-places T ns t.origins n in
          let a = total-numbers_le (λ p. one_in n (line_after t (ns ++ k.round.more) r p)) (λ p. one_in n (seen_row T ns t.origins p)) 0 size (λ p l. (few-at P w t ns known fr te r first starts k e old n p).0 d) in
          let b = total-numbers_more (λ p. one_in n (seen_row T ns t.origins p)) (length T) size (omega arith) (λ p l. one_in-false n (seen_row T ns t.origins p) (past-line T ns t.origins p l)) in
          let f = few n in
          omega arith)
      | inl same ↦ (
          let a = total-numbers_le (λ p. one_in te.number (line_after t (ns ++ k.round.more) r p) + one_expanded (says_at T p)) (λ p. one_expanded (says_at T2 p)) 0 size (λ p l. (few-at P w t ns known fr te r first starts k e old n p).1) in
          let s = total-sum (λ p. one_in te.number (line_after t (ns ++ k.round.more) r p)) (λ p. one_expanded (says_at T p)) (numbers_from 0 size) in
          let b = total-numbers_more (λ p. one_expanded (says_at T p)) (length T) size (omega arith) (λ p l. unexpanded T ns t.origins p (past-line T ns t.origins p l)) in
          let x = rows-places T in
          let y = rows-places T2 in
          let u = k.round.used in
          let f = k.round.few in
          let m = ap most_in_round same in
          let c3 = ap (λ (z : ℕ). total (λ p. one_in z (line_after t (ns ++ k.round.more) r p)) (numbers_from 0 size)) same in
          omega arith)
    ]
  where
    total-sum : (f h : ℕ → ℕ) (xs : List ℕ) → total (λ p. f p + h p) xs ≡ total f xs + total h xs
    total-sum f h [] = refl
    total-sum f h (x ∷ xs) = let ih = total-sum f h xs in omega arith

-- where nothing is expanded, no round expanded anything
pub few-none : (T : List Row) (ns : List TreeNode) (O : List Origin) (n : ℕ) → ((p : ℕ) → IsExpandedAt T p → ⊥) → count_by (expands_in n) (seen_rows T ns O) ≡ 0
few-none T ns O n none =
    let a = count-places T ns O n in
    let b = total-numbers_more (λ p. one_in n (seen_row T ns O p)) 0 (length T) (omega arith)
    (λ p l. elim (cases_Bool (expands_line (seen_row T ns O p))) [ inl yes_ ↦ absurd (none p (line-expanded T ns O p yes_)) | inr no_ ↦ one_in-false n (seen_row T ns O p) no_ ]) in
    omega arith
