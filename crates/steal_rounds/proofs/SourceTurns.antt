-- What becomes of a share where nodes are taken from the worker's source, or come to it.
use Rattle.std.proofs.Common.{◌≡◌, ℕ, ◌+◌, inl, inr, refl, sym, ap, subst, ◌∙◌, arith, List, [], ◌∷◌, ◌++◌, length, length-append, map}
use Rattle.std.proofs.lemmas.List.{map-append}
use Rattle.rcpsp_model.specs.declared.parts.Child.{Child}
use Rattle.rcpsp_model.specs.Project.{Project}
use Rattle.rcpsp_model.proofs.Lists.{In-from_Contains}
use Rattle.rcpsp_model.proofs.Choices.{In-map}
use Rattle.precedence_tree.specs.Node.{NodeState}
use Rattle.search_log.specs.declared.row.Origin.{Origin}
use Rattle.search_log.specs.declared.row.Fill.{Fill}
use Rattle.search_log.specs.Weights.{total, Each}
use Rattle.search_log.specs.Stands.{Waiting}
use Rattle.search_log.proofs.Sums.{total-append, Each-append, Each-left, Each-right, Each-In, Each-from_In}
use Rattle.search_rounds.specs.declared.round.NewRow.{NewRow}
use Rattle.search_rounds.specs.declared.round.WaitingNode.{WaitingNode}
use Rattle.search_rounds.specs.declared.round.PlacedRecord.{PlacedRecord}
use Rattle.search_rounds.specs.declared.round.Records.{Records}
use Rattle.search_rounds.specs.Round.{waits_at, waiting_of}
use Rattle.tree_worker.specs.Worker.{Progress}
use Rattle.node_deques.specs.declared.node.DequeNode.{DequeNode}
use Rattle.node_deques.specs.Views.{next_node}
use Rattle.node_sources.specs.Source.{SourceState, waiting, given_by, taken_by, IsSourceOf}
use Rattle.node_sources.specs.Steps.{IsTakenFrom, from_list, from_own, from_other, Takes, Puts}
use Rattle.round_shares.specs.Part.{Beginning}
use Rattle.round_shares.specs.Share.{first_place, IsPast, visited, Handled, IsShare}
use Rattle.round_shares.proofs.SameItems.{same-items}
use Rattle.steal_rounds.specs.Children.{waiting_child, placed_from}
use Rattle.steal_rounds.specs.Sources.{handled_by, Gains}
use Rattle.steal_rounds.specs.Turns.{beginning, Stage, KeepsShare}
use Rattle.steal_rounds.proofs.ChildRows.{waiting-append}
use Rattle.steal_rounds.proofs.SameParts.{part_by}
use Rattle.steal_rounds.proofs.TurnSteps.{KeepsPart}

abbrev ArePast : ℕ → ℕ → List Waiting → Type 0
ArePast start count ws = Each (λ w. IsPast start count w.place) ws

-- other nodes are left, got and given
other-nodes : (P : Project) (b : Beginning) (h k : Handled) (at : Progress) (grown : List NewRow) (fills : List Fill) (live : List ℕ) (made : List PlacedRecord) (left now : List WaitingNode) →
    ((weight : Waiting → ℕ) → total weight (waiting_of now) + total weight k.given + total weight h.got ≡ total weight (waiting_of left) + total weight h.given + total weight k.got) →
    (ArePast (first_place b.first_worker) (length grown) (waiting_of left ++ h.given) → ArePast (first_place b.first_worker) (length grown) (waiting_of now ++ k.given)) →
    IsShare P b h at (part_by grown fills live made left) → IsShare P b k at (part_by grown fills live made now)
other-nodes P b h k at grown fills live made left now once past old =
    let Q : Waiting → Type 0 = λ w. IsPast (first_place b.first_worker) (length grown) w.place in
    record {
      more = old.more;
      events = old.events;
      fills = old.fills;
      falls = old.falls;
      new = old.new;
      rows = old.rows;
      fronts = old.fronts;
      expanded = old.expanded;
      account = old.account;
      once = λ weight. let o = old.once weight in let e = once weight in omega arith;
      past = Each-append Q (map visited old.events) (waiting_of now ++ k.given) (Each-left Q (map visited old.events) (waiting_of left ++ h.given) old.past) (past (Each-right Q (map visited old.events) (waiting_of left ++ h.given) old.past));
      suits = old.suits;
      each = old.each;
      turns = old.turns;
      cites = old.cites;
      live = old.live;
      made = old.made;
      made_all = old.made_all;
      offered = old.offered;
    }

-- A node is taken.

taken-past : (start count : ℕ) (before : SourceState) (w : WaitingNode) (after : SourceState) → start ≡ first_place before.number → given_by after ≡ given_by before → IsTakenFrom before w after →
    ArePast start count (waiting_of before.list ++ waiting_of (given_by before)) → ArePast start count (waits_at w ∷ (waiting_of after.list ++ waiting_of (given_by after)))
taken-past start count before w after own given (from_list is) old =
    subst (λ (ws : List WaitingNode). ArePast start count (waits_at w ∷ (waiting_of after.list ++ waiting_of ws))) (sym given)
    (subst (λ (ws : List WaitingNode). ArePast start count (waiting_of ws ++ waiting_of (given_by before))) (ap (λ (s : SourceState). s.list) is) old)
taken-past start count before w after own given (from_own same among) old =
    let Q : Waiting → Type 0 = λ v. IsPast start count v.place in (
      Each-In Q (waiting_of (given_by before)) (waits_at w) (Each-right Q (waiting_of before.list) (waiting_of (given_by before)) old) (In-map waits_at (given_by before) w (In-from_Contains (given_by before) w among)),
      subst (λ (ws : List WaitingNode). ArePast start count (waiting_of after.list ++ waiting_of ws)) (sym given) (subst (λ (ws : List WaitingNode). ArePast start count (waiting_of ws ++ waiting_of (given_by before))) (sym same) old),
    )
taken-past start count before w after own given (from_other same elsewhere) old = (
  elim elsewhere [ inl low ↦ inl (omega arith) | inr high ↦ inr (omega arith) ],
  subst (λ (ws : List WaitingNode). ArePast start count (waiting_of after.list ++ waiting_of ws)) (sym given) (subst (λ (ws : List WaitingNode). ArePast start count (waiting_of ws ++ waiting_of (given_by before))) (sym same) old),
)

taken-share : (P : Project) (b : Beginning) (dealt : List Waiting) (at : Progress) (grown : List NewRow) (fills : List Fill) (live : List ℕ) (made : List PlacedRecord) (before : SourceState) (w : WaitingNode) (after : SourceState) →
    before.number ≡ b.first_worker → IsSourceOf P before → Takes before w after → IsShare P b (handled_by dealt before) at (part_by grown fills live made before.list) →
    IsShare P b (handled_by dealt after) at (part_by grown fills live made (w ∷ after.list))
taken-share P b dealt at grown fills live made before w after own of takes share =
    let given : given_by after ≡ given_by before = ap (λ (xs : List DequeNode). map waiting xs) takes.given in
    other-nodes P b (handled_by dealt before) (handled_by dealt after) at grown fills live made before.list (w ∷ after.list)
    (λ weight.
    let o = takes.once weight in
    let g = ap (λ (ws : List WaitingNode). total weight (waiting_of ws)) given in
    let c = total-append weight dealt (waiting_of (taken_by before)) in
    let d = total-append weight dealt (waiting_of (taken_by after)) in
    omega arith)
    (taken-past (first_place b.first_worker) (length grown) before w after (sym (ap first_place own)) given (takes.from P of)) share

-- the next node is taken, and then a turn is made
pub keeps-taken : (P : Project) (records : Records) (round worker turn : ℕ) (next : WaitingNode) (a b c : Stage) (after : SourceState) → b.source.number ≡ worker → IsSourceOf P b.source → Takes b.source next after → b.part.left ≡ b.source.list →
    KeepsShare P records (record { round = round; worker = worker; turn = 0 }) a b →
    KeepsShare P records (record { round = round; worker = worker; turn = turn }) (record { at = b.at; part = part_by b.part.grown b.part.fills b.part.live b.part.made (next ∷ after.list); source = after }) c →
    KeepsShare P records (record { round = round; worker = worker; turn = 0 }) a c
keeps-taken P records round worker turn next a b c after own of takes left f g table all terms dealt number soon share =
    let k = beginning table records worker all terms in
    let same : b.part ≡ part_by b.part.grown b.part.fills b.part.live b.part.made b.source.list = ap (part_by b.part.grown b.part.fills b.part.live b.part.made) left in
    g table all terms dealt number soon (taken-share P k dealt b.at b.part.grown b.part.fills b.part.live b.part.made b.source next after own of takes
    (subst (IsShare P k (handled_by dealt b.source) b.at) same (f table all terms dealt number soon share)))

-- Nodes come.

gained-share : (P : Project) (b : Beginning) (dealt : List Waiting) (at : Progress) (grown : List NewRow) (fills : List Fill) (live : List ℕ) (made : List PlacedRecord) (ws : List WaitingNode) (before after : SourceState) → Gains ws before after →
    IsShare P b (handled_by dealt before) at (part_by grown fills live made (ws ++ before.list)) → IsShare P b (handled_by dealt after) at (part_by grown fills live made after.list)
gained-share P b dealt at grown fills live made ws before after gains share =
    let Q : Waiting → Type 0 = λ v. IsPast (first_place b.first_worker) (length grown) v.place in
    let old = waiting_of (ws ++ before.list) ++ waiting_of (given_by before) in
    let now = waiting_of after.list ++ waiting_of (given_by after) in
    other-nodes P b (handled_by dealt before) (handled_by dealt after) at grown fills live made (ws ++ before.list) after.list
    (λ weight.
    let o = gains.once weight in
    let t = ap (λ (xs : List WaitingNode). total weight (dealt ++ waiting_of xs)) gains.taken in
    let e = ap (total weight) (waiting-append ws before.list) in
    let d = total-append weight (waiting_of ws) (waiting_of before.list) in
    omega arith)
    (λ past. Each-from_In Q now (λ x i. Each-In Q old x past (same-items now old (λ weight.
    let o = gains.once weight in
    let e = ap (total weight) (waiting-append ws before.list) in
    let d = total-append weight (waiting_of ws) (waiting_of before.list) in
    let f = total-append weight (waiting_of (ws ++ before.list)) (waiting_of (given_by before)) in
    let g = total-append weight (waiting_of after.list) (waiting_of (given_by after)) in
    omega arith) x i))) share

pub keeps-gained : (P : Project) (records : Records) (origin : Origin) (a c : Stage) (ws : List WaitingNode) → Gains ws a.source c.source → c.part.left ≡ c.source.list →
    KeepsPart P records origin a.at a.part c.at (part_by c.part.grown c.part.fills c.part.live c.part.made (ws ++ a.source.list)) → KeepsShare P records origin a c
keeps-gained P records origin a c ws gains left keeps table all terms dealt number soon share =
    let k = beginning table records origin.worker all terms in
    let same : c.part ≡ part_by c.part.grown c.part.fills c.part.live c.part.made c.source.list = ap (part_by c.part.grown c.part.fills c.part.live c.part.made) left in
    subst (IsShare P k (handled_by dealt c.source) c.at) (sym same)
    (gained-share P k dealt c.at c.part.grown c.part.fills c.part.live c.part.made ws a.source c.source gains (keeps table all terms (handled_by dealt a.source) number soon share))

-- Nothing is taken or given.

pub keeps-alike : (P : Project) (records : Records) (origin : Origin) (a c : Stage) → given_by c.source ≡ given_by a.source → taken_by c.source ≡ taken_by a.source → KeepsPart P records origin a.at a.part c.at c.part → KeepsShare P records origin a c
keeps-alike P records origin a c given taken keeps table all terms dealt number soon share =
    let k = beginning table records origin.worker all terms in
    let h : Handled = handled_by dealt a.source in
    let one : handled_by dealt c.source ≡ record { got = dealt ++ waiting_of (taken_by c.source); given = waiting_of (given_by a.source) } =
    ap (λ (ws : List WaitingNode). let x : Handled = record { got = dealt ++ waiting_of (taken_by c.source); given = waiting_of ws } in x) given in
    let two : record { got = dealt ++ waiting_of (taken_by c.source); given = waiting_of (given_by a.source) } ≡ h =
    ap (λ (ws : List WaitingNode). let x : Handled = record { got = dealt ++ waiting_of ws; given = waiting_of (given_by a.source) } in x) taken in
    subst (λ (x : Handled). IsShare P k x c.at c.part) (sym (one ∙ two)) (keeps table all terms h number soon share)

pub gains-more : (ws vs : List WaitingNode) (a b c : SourceState) → Gains ws a b → Gains vs b c → Gains (vs ++ ws) a c
gains-more ws vs a b c f g = record {
  taken = g.taken ∙ f.taken;
  once = λ weight.
      let x = f.once weight in
      let y = g.once weight in
      let e = ap (total weight) (waiting-append vs ws) in
      let d = total-append weight (waiting_of vs) (waiting_of ws) in
      omega arith;
}

pub gains-none : (s : SourceState) → Gains [] s s
gains-none s = record { taken = refl; once = λ weight. omega arith }

pub puts-gains : (before : SourceState) (place : ℕ) (node : NodeState) (after : SourceState) → Puts before place node after → Gains (record { place = place; node = node } ∷ []) before after
puts-gains before place node after (inl is) = subst (Gains (record { place = place; node = node } ∷ []) before) (sym is) (record {
  taken = refl;
  once = λ weight.
      let x = next_node before.deque.view place node in
      let e = ap (λ (ws : List WaitingNode). total weight (waiting_of ws)) (map-append waiting before.deque.view.accepted (x ∷ [])) in
      let d = ap (total weight) (waiting-append (given_by before) (waiting x ∷ [])) in
      let c = total-append weight (waiting_of (given_by before)) (waits_at (waiting x) ∷ []) in
      omega arith;
})
puts-gains before place node after (inr is) = subst (Gains (record { place = place; node = node } ∷ []) before) (sym is) (record { taken = refl; once = λ weight. omega arith })

-- the children of which the last ones were put, with one more of them
pub gains-child : (first : ℕ) (rest done : List (Child NodeState)) (child : Child NodeState) (a b c : SourceState) → Gains (placed_from (first + length (rest ++ child ∷ [])) done) a b → Gains (waiting_child (first + length rest) child) b c →
    Gains (placed_from (first + length rest) (child ∷ done)) a c
gains-child first rest done child a b c f g =
    let l = length-append rest (child ∷ []) in
    let place : first + length (rest ++ child ∷ []) ≡ first + length rest + 1 = omega arith in
    gains-more (placed_from (first + length rest + 1) done) (waiting_child (first + length rest) child) a b c (subst (λ (p : ℕ). Gains (placed_from p done) a b) place f) g
