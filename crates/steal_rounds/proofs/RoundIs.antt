-- A part at its end is a round: what may not be wasted, the best, and the plan.
use Rattle.std.proofs.Common.{◌≡◌, ℕ, ◌<◌, ◌≤◌, ◌⊎◌, inl, inr, refl, sym, ap, subst, ◌∙◌, arith, List, [], ◌∷◌, ◌++◌, length, map, All, Option, Some, None, true, min}
use Rattle.std.specs.Prelude.{IfSome}
use Rattle.std.proofs.Common.{get_or-set_other}
use Rattle.std.proofs.lemmas.Bool.{cases_lt, cases_eq}
use Rattle.std.proofs.lemmas.List.{get_or_append_left}
use Rattle.rcpsp_model.specs.declared.parts.Verdict.{Verdict}
use Rattle.rcpsp_model.proofs.Choices.{In-map}
use Rattle.search_log.specs.declared.row.Row.{Row}
use Rattle.search_log.proofs.FilledRows.{fill-open, filled-one}
use Rattle.search_rounds.specs.declared.round.NewRow.{NewRow}
use Rattle.std.proofs.lemmas.List.Elements.{All-head, All-tail, All-weaker}
use Rattle.rcpsp_model.specs.declared.parts.Entry.{Entry}
use Rattle.rcpsp_model.specs.declared.parts.Placing.{Placing}
use Rattle.rcpsp_model.specs.Project.{Project, numbers_from}
use Rattle.rcpsp_model.specs.Schedule.{end_of}
use Rattle.rcpsp_model.specs.Chain.{IsLeast}
use Rattle.rcpsp_model.specs.Bounds.{IsLowerBound}
use Rattle.rcpsp_model.specs.Dominance.{Dominates}
use Rattle.rcpsp_model.specs.Claim.{HasDuration}
use Rattle.rcpsp_model.proofs.Lists.{In, In-from_Contains, Contains-from_In}
use Rattle.rcpsp_model.proofs.LeastModes.{numbers-range}
use Rattle.precedence_tree.specs.declared.base.Base.{Base}
use Rattle.precedence_tree.specs.Node.{StandsFor}
use Rattle.search_log.specs.declared.row.Fill.{Fill}
use Rattle.search_log.specs.declared.row.Origin.{Origin}
use Rattle.search_log.specs.Fates.{RowSaying, row_open, row_expanded, row_saying}
use Rattle.search_log.specs.Table.{no_row, row_at, says_row, says_at, children_of}
use Rattle.search_log.specs.Stands.{TreeNode, place_front, searching, Waiting, FillSuits, IsClosed, Stands, filled, fill_row, one_expanded}
use Rattle.search_log.specs.Lean.{Seen, none_yet, end_number, IsEnd, of_first, of_leaf, expands_line}
use Rattle.search_log.proofs.Sums.{Each-In}
use Rattle.search_log.proofs.RowLines.{told}
use Rattle.search_log.proofs.OneParent.{parent_law}
use Rattle.search_table.specs.Lists.{least}
use Rattle.search_rounds.specs.Round.{waiting_of, IsLeanRound, IsAmong, BringsPlan, VisitedIn, line_after, IsRound}
use Rattle.search_rounds.proofs.FilledSums.{line-expanded, length-fill_rows}
use Rattle.tree_worker.specs.Worker.{HasPlan, Progress}
use Rattle.round_shares.specs.Ends.{end_in}
use Rattle.steal_rounds.specs.Ended.{IsWholeCrew, HasEnded, result_of}
use Rattle.steal_rounds.proofs.PartLaws.{RoundLaw}
use Rattle.round_shares.specs.Part.{Beginning, IsByOneOf, PartState, Event, IsSameWorker, says_event, IsExpansion, IsAtNode, IsEventOf, IsOffered}
use Rattle.round_shares.proofs.EndNumbers.{end_in-none, end_in-some, number-end_in, end-small, no_later-end}
use Rattle.steal_rounds.proofs.WiderParts.{begins-on, in_order-part}
use Rattle.steal_rounds.proofs.RoundWords.{some-fills}
use Rattle.steal_rounds.proofs.RoundEnds.{Ending, grown_table, mid, event-written, after_rows, after_origins, grows-end, after, ByEvent, ByParent, ExpandedEvent, visited-cases, event-at, leaf-said, said-of, shut-line, expanded-event, event-front, end-cites, end-made, end-made_all, end-used}

abbrev line : Beginning → PartState → List TreeNode → ℕ → ℕ → Seen
line b s ns best = line_after b.table ns (result_of s None best)

abbrev visited : Beginning → PartState → ℕ → ℕ → Type 0
visited b s best = VisitedIn b.table (result_of s None best)

origin-facts : (P : Project) (b : Beginning) (ns : List TreeNode) (at : Progress) (s : PartState) (best p : ℕ) → (k : Ending P b ns at s best) → visited b s best p →
    ((line b s (ns ++ k.at_tree.more) best p).origin.round ≡ b.terms.number) × IsByOneOf b (line b s (ns ++ k.at_tree.more) best p).origin
origin-facts P b ns at s best p k v =
    elim (visited-cases P b ns at s best p k v) [
      | inl e ↦ (
          let is = Each-In (IsEventOf P b at.pass.least_seen) k.at_tree.events e.event k.at_tree.each e.among in
          (ap (λ (o : Origin). o.round) e.origin ∙ is.round, subst (IsByOneOf b) (sym e.origin) is.worker))
      | inr g ↦ (g.round, g.worker)
    ]

end-lean : (P : Project) (workers : ℕ) (b : Beginning) (ns : List TreeNode) (at : Progress) (s : PartState) (best : ℕ) → b.first_worker ≡ 1 → b.last_worker ≡ workers → (k : Ending P b ns at s best) →
    IsLeanRound P workers b.terms b.records.index (visited b s best) (line b s (ns ++ k.at_tree.more) best)
end-lean P workers b ns at s best one last k = record {
  round = λ p v. (origin-facts P b ns at s best p k v).0;
  worker = λ p v. let w = (origin-facts P b ns at s best p k v).1 in let from = w.from in let to = w.to in record { some = omega arith; few = omega arith };
  early = λ p F c v x f low.
      let e = find p F v x f in
      let is = each e.by.event e.by.among in
      is.early e.expansion c (subst (λ (G : List Entry). IsLowerBound P G c) (sym e.front) low).attained;
  new = λ p F v x f.
      let e = find p F v x f in
      subst (λ (G : List Entry). All (λ (base : Base). Dominates P base.front G → ⊥) b.records.index) e.front ((each e.by.event e.by.among).new e.expansion);
  own = λ p q F A v w x y t g f d.
      let e = find p F v x f in
      let h = find q A w y g in
      let turn = t.turn in
      let et = ap (λ (o : Origin). o.turn) e.by.origin in
      let ht = ap (λ (o : Origin). o.turn) h.by.origin in
      let same : IsSameWorker h.by.event e.by.event = ap (λ (o : Origin). o.worker) (sym h.by.origin) ∙ (t.worker ∙ ap (λ (o : Origin). o.worker) e.by.origin) in
      k.at_tree.turns.own h.by.event e.by.event (Contains-from_In k.at_tree.events h.by.event h.by.among) (Contains-from_In k.at_tree.events e.by.event e.by.among) same h.expansion e.expansion (omega arith)
      (subst (λ (G : List Entry). Dominates P h.by.event.front G) (sym e.front) (subst (λ (G : List Entry). Dominates P G F) (sym h.front) d));
  one = λ p q v w x y same.
      elim (visited-cases P b ns at s best p k v) [
        | inr g ↦ absurd (shut-expanded p x g)
        | inl e ↦ elim (visited-cases P b ns at s best q k w) [
          | inr g ↦ absurd (shut-expanded q y g)
          | inl h ↦ (
              let origins : e.event.fill.origin ≡ h.event.fill.origin = sym e.origin ∙ (same ∙ h.origin) in
              let events = k.at_tree.turns.one e.event h.event (Contains-from_In k.at_tree.events e.event e.among) (Contains-from_In k.at_tree.events h.event h.among) (ap (λ (o : Origin). o.worker) origins)
              (expansion p x e) (expansion q y h) (ap (λ (o : Origin). o.turn) origins) in
              sym e.place ∙ (ap (λ (z : Event). z.fill.place) events ∙ h.place))
        ]
      ];
  parents = λ p q F c v w x f branch.
      let e = find q F w x f in
      let a = origin-facts P b ns at s best p k v in
      let d = origin-facts P b ns at s best q k w in
      let a0 = a.0 in
      let d0 = d.0 in
      record {
        round = omega arith;
        turn = λ unshut r u. elim (visited-cases P b ns at s best p k v) [
          | inr g ↦ absurd (shut-line (after_rows b s) (ns ++ k.at_tree.more) (after_origins b s) p g.why g.says unshut)
          | inl h ↦ (
              let i = parent_law P (searching (end_in best)) (after_rows b s) (ns ++ k.at_tree.more) (waiting_of s.left) q p F c (after P b ns at s best k) w.within v.within f branch in
              let says : says_at (after_rows b s) q ≡ row_expanded e.expansion.first e.expansion.count = e.by.says ∙ e.expansion.is in
              let j : In (numbers_from e.expansion.first e.expansion.count) p = subst (λ (z : RowSaying). In (children_of z) p) says (In-from_Contains (children_of (says_at (after_rows b s) q)) p i) in
              let range = numbers-range e.expansion.first e.expansion.count p j in
              let low = range.0 in
              let high = range.1 in
              let et = ap (λ (o : Origin). o.turn) e.by.origin in
              let ht = ap (λ (o : Origin). o.turn) h.origin in
              let same : IsSameWorker h.event e.by.event = ap (λ (o : Origin). o.worker) (sym h.origin) ∙ (sym u ∙ ap (λ (o : Origin). o.worker) e.by.origin) in
              let place = h.place in
              elim (cases_lt e.by.event.fill.origin.turn h.event.fill.origin.turn) [
                | inl less ↦ omega arith
                | inr over ↦ absurd (
                    k.at_tree.turns.before h.event e.by.event e.expansion (Contains-from_In k.at_tree.events h.event h.among) (Contains-from_In k.at_tree.events e.by.event e.by.among) same over (omega arith) (omega arith))
              ])
        ];
      };
}
  where
    each : (e : Event) → In k.at_tree.events e → IsEventOf P b at.pass.least_seen e
    each e i = Each-In (IsEventOf P b at.pass.least_seen) k.at_tree.events e k.at_tree.each i

    find : (p : ℕ) (F : List Entry) (v : visited b s best p) (x : expands_line (line b s (ns ++ k.at_tree.more) best p) ≡ true) (f : place_front (ns ++ k.at_tree.more) p ≡ Some F) → ExpandedEvent b s (ns ++ k.at_tree.more) k.at_tree.events p F
    find p F v x f = expanded-event P b ns at s best p F k v (line-expanded (after_rows b s) (ns ++ k.at_tree.more) (after_origins b s) p x) f

    expansion : (p : ℕ) → expands_line (line b s (ns ++ k.at_tree.more) best p) ≡ true → (e : ByEvent b s k.at_tree.events p) → IsExpansion e.event
    expansion p x e =
        let is = line-expanded (after_rows b s) (ns ++ k.at_tree.more) (after_origins b s) p x in
        record { first = is.first; count = is.count; is = sym e.says ∙ is.is }

    shut-expanded : (p : ℕ) → expands_line (line b s (ns ++ k.at_tree.more) best p) ≡ true → ByParent b s p → ⊥
    shut-expanded p x g =
        let is = line-expanded (after_rows b s) (ns ++ k.at_tree.more) (after_origins b s) p x in
        let bad = sym g.says ∙ is.is in
        cc

-- The best.

fills-open : (P : Project) (v : Verdict) (T : List Row) (ns : List TreeNode) (fs : List Fill) (ws : List Waiting) (g : Fill) → Stands P v T ns fs ws → In fs g → says_at T g.place ≡ row_open
fills-open P v T ns [] ws g s i = absurd i
fills-open P v T ns (h ∷ fs) ws g s (inl same) = subst (λ (x : Fill). says_at T x.place ≡ row_open) same (fill-open P v T ns h fs ws s).is
fills-open P v T ns (h ∷ fs) ws g s (inr i) =
    elim (cases_eq g.place h.place) [
      | inl e ↦ ap (says_at T) e ∙ (fill-open P v T ns h fs ws s).is
      | inr d ↦ sym (ap says_row (get_or-set_other T h.place g.place (filled (row_at T h.place) h.fate) no_row d)) ∙ fills-open P v (fill_row T h) ns fs ws g (filled-one P v T ns h fs ws s) i
    ]

event-says : (P : Project) (b : Beginning) (ns : List TreeNode) (at : Progress) (s : PartState) (best : ℕ) → (k : Ending P b ns at s best) → (e : Event) → In k.at_tree.events e → says_at (after_rows b s) e.fill.place ≡ says_event e
event-says P b ns at s best k e i = (event-written P b ns at s best k e i).0

event-visited : (P : Project) (b : Beginning) (ns : List TreeNode) (at : Progress) (s : PartState) (best : ℕ) → (k : Ending P b ns at s best) → (e : Event) → In k.at_tree.events e → visited b s best e.fill.place
event-visited P b ns at s best k e i =
    let f : In s.fills e.fill = subst (λ (fs : List Fill). In fs e.fill) (sym k.at_tree.fills) (In-map (λ (x : Event). x.fill) k.at_tree.events e i) in
    let suits = Each-In (FillSuits P (searching (end_in best)) (ns ++ k.at_tree.more)) s.fills e.fill (mid P b ns at s best k).each_fill f in
    let open_ = fills-open P (searching (end_in best)) (grown_table b s) (ns ++ k.at_tree.more) s.fills (waiting_of s.left) e.fill (mid P b ns at s best k) f in
    let size = (mid P b ns at s best k).size in
    let len = length-fill_rows (grown_table b s) s.fills in
    let inside = suits.within in
    record {
      within = omega arith;
      closed = subst IsClosed (sym (event-says P b ns at s best k e i)) suits.closed;
      was_open = λ l. sym (ap says_row (get_or_append_left b.table.rows (map (λ (n : NewRow). n.row) s.grown) no_row e.fill.place l)) ∙ open_;
    }

-- what the words of the round tell of the best
pub record BestIs (start : ℕ) (offers : List ℕ) (best : ℕ) : Type 0 where
  pub is : best ≡ least start offers

least-start : (start : ℕ) (offers : List ℕ) → least start offers ≤ start
least-start start [] = omega arith
least-start start (e ∷ offers) = let ih = least-start start offers in omega arith

least-one : (Q : ℕ → Type 0) (start : ℕ) (offers : List ℕ) → All Q offers → (least start offers ≡ start) ⊎ Q (least start offers)
least-one Q start [] a = inl refl
least-one Q start (e ∷ offers) a = elim (cases_lt e (least start offers)) [
  | inl less ↦ inr (let same : e ≡ min e (least start offers) = omega arith in subst Q same (All-head Q e offers a))
  | inr over ↦ (
      let same : least start offers ≡ min e (least start offers) = omega arith in
      elim (least-one Q start offers (All-tail Q e offers a)) [ inl i ↦ inl (sym same ∙ i) | inr q ↦ inr (subst Q same q) ])
]

end-best : (P : Project) (b : Beginning) (ns : List TreeNode) (at : Progress) (s : PartState) (best : ℕ) → (k : Ending P b ns at s best) → best ≡ least (end_number b.terms.best) at.pass.offers →
    IsLeast (IsEnd P b.terms.best (IsAmong (visited b s best) (line b s (ns ++ k.at_tree.more) best))) (end_number (end_in best))
end-best P b ns at s best k is = subst (IsLeast (IsEnd P b.terms.best (IsAmong (visited b s best) (line b s (ns ++ k.at_tree.more) best)))) (sym (number-end_in best)) (record { attained = attained; least = lowest })
  where
    attained : IsEnd P b.terms.best (IsAmong (visited b s best) (line b s (ns ++ k.at_tree.more) best)) best
    attained = elim (least-one (IsOffered P b k.at_tree.events) (end_number b.terms.best) at.pass.offers k.at_tree.offered) [
      | inl same ↦ of_first (is ∙ same)
      | inr o ↦ (
          let i = In-from_Contains k.at_tree.events o.event o.among in
          let h = event-at P b ns at s best k o.event i in
          of_leaf (line b s (ns ++ k.at_tree.more) best o.event.fill.place) o.event.front (record { place = o.event.fill.place; visited = event-visited P b ns at s best k o.event i; is = refl })
          (said-of (after_rows b s) (ns ++ k.at_tree.more) (after_origins b s) o.event.fill.place ∙ ap (told []) (event-says P b ns at s best k o.event i ∙ o.leaf))
          (Each-In (IsAtNode (ns ++ k.at_tree.more)) k.at_tree.events o.event k.at_tree.at_nodes i) (is ∙ o.is))
    ]

    lowest : (u : ℕ) → IsEnd P b.terms.best (IsAmong (visited b s best) (line b s (ns ++ k.at_tree.more) best)) u → best ≤ u
    lowest u (of_first e) = let l = least-start (end_number b.terms.best) at.pass.offers in omega arith
    lowest u (of_leaf x F among said front e) =
        elim (visited-cases P b ns at s best among.place k among.visited) [
          | inl h ↦ (
              let says = leaf-said (says_at (after_rows b s) among.place) (sym (said-of (after_rows b s) (ns ++ k.at_tree.more) (after_origins b s) among.place) ∙ (ap (λ (y : Seen). y.said) (sym among.is) ∙ said)) in
              let own = event-front (ns ++ k.at_tree.more) k.at_tree.events h.event among.place F k.at_tree.at_nodes h.among h.place (ap (λ (y : Seen). y.front) (sym among.is) ∙ front) in
              let l = (Each-In (IsEventOf P b at.pass.least_seen) k.at_tree.events h.event k.at_tree.each h.among).leaf (sym h.says ∙ says) in
              let ends = ap (end_of P) own in
              let f = k.falls in
              omega arith)
          | inr g ↦ absurd (
              let says = leaf-said (says_at (after_rows b s) among.place) (sym (said-of (after_rows b s) (ns ++ k.at_tree.more) (after_origins b s) among.place) ∙ (ap (λ (y : Seen). y.said) (sym among.is) ∙ said)) in
              let bad = sym g.says ∙ says in
              cc)
        ]

offers-small : (P : Project) (b : Beginning) (events : List Event) (offers : List ℕ) (best : ℕ) → IfSome b.terms.best (λ end. end ≤ 1290000) → All (IsOffered P b events) offers → best ≡ least (end_number b.terms.best) offers →
    (best ≡ none_yet) ⊎ (best ≤ 1290000)
offers-small P b events offers best soon all is = elim (least-one (IsOffered P b events) (end_number b.terms.best) offers all) [
  | inl same ↦ start b.terms.best soon (is ∙ same)
  | inr o ↦ inr (let s = o.soon in omega arith)
]
  where
    start : (first : Option ℕ) → IfSome first (λ end. end ≤ 1290000) → best ≡ end_number first → (best ≡ none_yet) ⊎ (best ≤ 1290000)
    start None s e = inl e
    start (Some d) s e = inr (omega arith)

end-soon : (best : ℕ) → (best ≡ none_yet) ⊎ (best ≤ 1290000) → IfSome (end_in best) (λ end. end ≤ 1290000)
end-soon best (inl none) = subst (λ (o : Option ℕ). IfSome o (λ end. end ≤ 1290000)) (sym (end_in-none best none)) tt
end-soon best (inr small) = subst (λ (o : Option ℕ). IfSome o (λ end. end ≤ 1290000)) (sym (end_in-some best (omega arith))) small

same-end : (first : Option ℕ) → IfSome first (λ end. end ≤ 1290000) → end_in (end_number first) ≡ first
same-end None s = end_in-none none_yet refl
same-end (Some d) s = end_in-some d (omega arith)

-- where each end that was offered is less than the start, the least of them is that of all
least-less : (start end : ℕ) (ends : List ℕ) → end < start → All (λ e. e < start) ends → (least start (end ∷ ends) ≡ least end ends) × (least end ends < start)
least-less start end [] l a = (omega arith, l)
least-less start end (e ∷ ends) l a =
    let ih = least-less start end ends l (All-tail (λ (x : ℕ). x < start) e ends a) in
    let x = ih.0 in
    let y = ih.1 in
    let own : e < start = All-head (λ (x : ℕ). x < start) e ends a in
    (omega arith, omega arith)

end-plan : (P : Project) (first : Option ℕ) (offers : List ℕ) (best : ℕ) (plan : Option (List Placing)) → IfSome first (λ end. end ≤ 1290000) → All (λ e. e < end_number first) offers → best ≡ least (end_number first) offers → best ≤ none_yet →
    HasPlan P offers plan → BringsPlan P first (end_in best) plan
end-plan P first [] best None soon all is small has = ap end_in is ∙ same-end first soon
end-plan P first [] best (Some plan) soon all is small has = absurd has
end-plan P first (end ∷ ends) best None soon all is small has = absurd has
end-plan P first (end ∷ ends) best (Some plan) soon all is small has =
    let start = end-small first soon in
    let l = least-less (end_number first) end ends (All-head (λ (x : ℕ). x < end_number first) end ends all) (All-tail (λ (x : ℕ). x < end_number first) end ends all) in
    let a = l.0 in
    let c = l.1 in
    let less : best < end_number first = omega arith in
    let same : least end ends ≡ best = omega arith in
    let number = number-end_in best in
    (omega arith, subst (λ (o : Option ℕ). HasDuration P o (Some plan)) (sym (end_in-some best (omega arith))) (record { feasible = has.feasible; end = has.end ∙ same }))

-- The whole.

offers-less : (P : Project) (b : Beginning) (events : List Event) (ends : List ℕ) → All (IsOffered P b events) ends → All (λ e. e < end_number b.terms.best) ends
offers-less P b events ends a = All-weaker (IsOffered P b events) (λ (e : ℕ). e < end_number b.terms.best) (λ e is. is.less) ends a

round-at : (P : Project) (workers : ℕ) (b : Beginning) (ns : List TreeNode) (at : Progress) (s : PartState) (best : ℕ) (plan : Option (List Placing)) → IsWholeCrew workers b → (k : Ending P b ns at s best) →
    All (λ w. StandsFor P w.node) s.left → 0 < length s.fills → HasEnded P b at s best plan → IsRound P workers b.table ns b.records b.dealt b.terms (result_of s plan best)
round-at P workers b ns at s best plan crew k nodes moves has =
    let falls = k.falls in
    let start = k.part.falls in
    let small = end-small b.terms.best k.soon in
    let won = has.won in
    let few = has.few in
    record {
      more = k.at_tree.more;
      grows = grows-end P b ns at s best k;
      nodes = nodes;
      moves = moves;
      used = end-used P b ns at s best k;
      few = omega arith;
      cites = end-cites P b ns at s best k;
      made_few = refl;
      made_each = end-made P b ns at s best k;
      made_all = end-made_all P b ns at s best k;
      lean = end-lean P workers b ns at s best crew.first crew.last k;
      best = end-best P b ns at s best k has.best_is;
      falls = no_later-end b.terms.best best k.soon (omega arith);
      soon = end-soon best (offers-small P b k.at_tree.events at.pass.offers best k.soon k.at_tree.offered has.best_is);
      plan = end-plan P b.terms.best at.pass.offers best plan k.soon (offers-less P b k.at_tree.events at.pass.offers k.at_tree.offered) has.best_is (omega arith) has.brings;
    }

pub round-is : RoundLaw
round-is P workers b frontier left at s best plan crew dealt is none others ended nodes ns st or ar =
    let c : Beginning = record b { dealt = frontier } in
    let t : PartState = record s { left = left } in
    let part = in_order-part P b frontier left at s dealt others is in
    let begins = begins-on P c ns st ar in
    round-at P workers c ns at t best plan (record { first = crew.first; last = crew.last })
    (record { stands = st; origins = or; known = ar; part = part; at_tree = part.at_tree ns begins; none_live = none; falls = ended.seen; soon = ended.soon }) nodes
    (some-fills (λ (f : Fill). one_expanded (row_saying f.fate)) s.fills (length s.made) at.pass.refused at.pass.won b.terms.quota part.expanded ended.won ended.moves ended.spent ended.some)
    (record { soon = ended.soon; moves = ended.moves; won = ended.won; few = ended.few; spent = ended.spent; some = ended.some; best_is = ended.best_is; seen = ended.seen; brings = ended.brings })
