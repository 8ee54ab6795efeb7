-- A node that is taken from a source, or put to it.
use Rattle.std.proofs.Common.{◌≡◌, ℕ, ◌∙◌, List, [], ◌∷◌, ◌++◌, refl, ap, sym, subst, arith, All}
use Rattle.std.specs.Prelude.{Contains}
use Rattle.std.proofs.lemmas.List.Elements.{All-nil, All-cons, All-head, All-tail, All-push}
use Rattle.rcpsp_model.specs.Project.{Project}
use Rattle.precedence_tree.specs.Node.{NodeState, StandsFor}
use Rattle.search_log.specs.Weights.{total}
use Rattle.search_log.proofs.Sums.{total-append}
use Rattle.search_rounds.specs.declared.round.WaitingNode.{WaitingNode}
use Rattle.search_rounds.specs.Round.{waiting_of}
use Rattle.node_deques.specs.declared.node.DequeNode.{DequeNode}
use Rattle.node_deques.specs.declared.view.DequeView.{DequeView}
use Rattle.node_deques.specs.declared.view.NodeTerms.{NodeTerms}
use Rattle.node_deques.specs.Handles.{HandleState}
use Rattle.node_deques.specs.Nodes.{IsOn, IsOnEach}
use Rattle.node_deques.specs.Steps as deques
use Rattle.node_deques.specs.Views.{next_node, with_taken}
use Rattle.node_sources.specs.declared.reach.Reach.{Reach}
use Rattle.node_sources.specs.Places.{terms_of, IsOwnPlace}
use Rattle.node_sources.specs.Source.{SourceState, waiting, stolen, IsSourceOf}
use Rattle.node_sources.specs.Seats.{Right, handle_of, Stays}
use Rattle.node_sources.specs.Thefts.{Steals}
use Rattle.node_sources.specs.Steps.{from_list, from_own, from_other, Takes, with_given, with_first}
use Rattle.node_sources.proofs.Nodes.{weight_of, weighs, contains-waiting, on-terms, one-project}
use Rattle.node_sources.proofs.Thefts.{rights-stay, stolen-more, all-lead, theft-on, elsewhere}

-- a source after a step: what it did, and that its seat stays
pub record Took (before : SourceState) (w : WaitingNode) (after : SourceState) : Type 0 where
  pub takes : Takes before w after
  pub stays : Stays before after

-- From its own deque.

abbrev with_view : DequeView → SourceState → SourceState
with_view v s = record s { deque = record s.deque { view = v } }

own-took : (s : SourceState) (x : DequeNode) → All (IsOnEach s.deque.view.terms) (x ∷ []) → Contains s.deque.view.accepted x → Took s (waiting x) (with_view (with_taken (x ∷ []) s.deque.view) s)
own-took s x on among = record {
  takes = record {
    given = refl;
    once = λ weight.
        let xs = s.deque.view.taken in
        let ys = stolen s.reaches in
        let a = weighs weight ((xs ++ x ∷ []) ++ ys) in
        let b = weighs weight (xs ++ ys) in
        let c = total-append (weight_of weight) (xs ++ x ∷ []) ys in
        let d = total-append (weight_of weight) xs (x ∷ []) in
        let e = total-append (weight_of weight) xs ys in
        omega arith;
    stands = λ P is. (on-terms P s.number s.deque.view.terms x is.terms on).node;
    from = λ P is. from_own refl (contains-waiting s.deque.view.accepted x among);
  };
  stays = record { seat = refl; nodes = λ P is. record { terms = is.terms; given = is.given; list = is.list; reaches = is.reaches } };
}

abbrev pub with_deque : HandleState → SourceState → SourceState
with_deque d s = record s { deque = d }

same-deque : (s : SourceState) (d : HandleState) (v : DequeView) → d.deque ≡ s.deque.deque → d.view ≡ v → with_deque d s ≡ with_view v s
same-deque s d v e f = ap (λ q. with_deque (record { deque = q; view = d.view }) s) e ∙ ap (λ (u : DequeView). with_view u s) f

pub pop-took : (s : SourceState) (d : HandleState) (x : DequeNode) → d.deque ≡ s.deque.deque → deques.Pops s.deque.view (x ∷ []) d.view → Took s (waiting x) (with_deque d s)
pop-took s d x e pops = subst (Took s (waiting x)) (sym (same-deque s d (with_taken (x ∷ []) s.deque.view) e pops.takes.view)) (own-took s x pops.takes.on_terms (All-head (Contains s.deque.view.accepted) x [] pops.accepted))

pub none-popped : (s : SourceState) (d : HandleState) → d.deque ≡ s.deque.deque → d.view ≡ s.deque.view → with_deque d s ≡ s
none-popped s d e f = same-deque s d s.deque.view e f

-- From its list.

abbrev pub with_list : List WaitingNode → SourceState → SourceState
with_list ws s = record s { list = ws }

pub first-took : (s : SourceState) (w : WaitingNode) (rest : List WaitingNode) → s.list ≡ w ∷ rest → Took s w (with_list rest s)
first-took s w rest is =
    let all : (P : Project) → IsSourceOf P s → All (λ v. StandsFor P v.node) (w ∷ rest) = λ P of. subst (All (λ v. StandsFor P v.node)) is of.list in
    record {
      takes = record {
        given = refl;
        once = λ weight. let a = ap (λ (ws : List WaitingNode). total weight (waiting_of ws)) is in omega arith;
        stands = λ P of. All-head (λ v. StandsFor P v.node) w rest (all P of);
        from = λ P of. from_list (ap (λ (ws : List WaitingNode). with_list ws s) is);
      };
      stays = record { seat = refl; nodes = λ P of. record { terms = of.terms; given = of.given; list = All-tail (λ v. StandsFor P v.node) w rest (all P of); reaches = of.reaches } };
    }

-- From another's deque.

abbrev pub with_reaches : List Reach → SourceState → SourceState
with_reaches rs s = record s { reaches = rs }

pub theft-took : (s : SourceState) (rs : List Reach) (x : DequeNode) → Steals s.reaches x rs → Took s (waiting x) (with_reaches rs s)
theft-took s rs x steals =
    let on : (P : Project) → IsSourceOf P s → (owner : ℕ) × (owner ≡ s.number → ⊥) × IsOn x (terms_of P owner) = λ P is. theft-on P s.number s.reaches rs x steals is.reaches in
    record {
      takes = record {
        given = refl;
        once = λ weight.
            let xs = s.deque.view.taken in
            let a = weighs weight (xs ++ stolen rs) in
            let b = weighs weight (xs ++ stolen s.reaches) in
            let c = total-append (weight_of weight) xs (stolen rs) in
            let d = total-append (weight_of weight) xs (stolen s.reaches) in
            let e = stolen-more (weight_of weight) s.reaches rs x steals in
            omega arith;
        stands = λ P is. (on P is).2.node;
        from = λ P is. let o = on P is in from_other refl (elsewhere P s.number o.0 x o.1 o.2);
      };
      stays = record {
        seat = ap (λ (rights : List Right). record { number = s.number; own = handle_of s.deque; rights = rights }) (rights-stay s.reaches rs x steals);
        nodes = λ P is. record { terms = is.terms; given = is.given; list = is.list; reaches = all-lead P s.number s.reaches rs x steals is.reaches };
      };
    }

-- Put to it.

-- the node is on the terms of the source's deque
pub suits-deque : (P : Project) (s : SourceState) (place : ℕ) (node : NodeState) → IsSourceOf P s → StandsFor P node → IsOwnPlace s.number place → IsOnEach s.deque.view.terms (next_node s.deque.view place node)
suits-deque P s place node is stands own =
    let x : DequeNode = next_node s.deque.view place node in
    subst (λ (ts : List NodeTerms). IsOnEach ts x) (sym is.terms) (All-cons (IsOn x) (terms_of P s.number) [] (record { node = stands; low = own.low; high = own.high }) (All-nil (IsOn x)))

pub given-stays : (P : Project) (s : SourceState) (place : ℕ) (node : NodeState) → IsSourceOf P s → StandsFor P node → Stays s (with_given s place node)
given-stays P s place node of stands = record {
  seat = refl;
  nodes = λ Q is. record {
    terms = is.terms;
    given = All-push (λ x. StandsFor Q x.node) s.deque.view.accepted (next_node s.deque.view place node) is.given (subst (λ (R : Project). StandsFor R node) (one-project P Q s.number s.deque.view.terms of.terms is.terms) stands);
    list = is.list;
    reaches = is.reaches;
  };
}

pub first-stays : (P : Project) (s : SourceState) (place : ℕ) (node : NodeState) → IsSourceOf P s → StandsFor P node → Stays s (with_first s place node)
first-stays P s place node of stands = record {
  seat = refl;
  nodes = λ Q is. record {
    terms = is.terms;
    given = is.given;
    list = All-cons (λ w. StandsFor Q w.node) (record { place = place; node = node }) s.list (subst (λ (R : Project). StandsFor R node) (one-project P Q s.number s.deque.view.terms of.terms is.terms) stands) is.list;
    reaches = is.reaches;
  };
}
