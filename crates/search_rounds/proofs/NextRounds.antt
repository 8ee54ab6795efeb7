-- A search goes on after a round.
use Rattle.std.proofs.Common.{◌≡◌, ℕ, zero, suc, ◌+◌, ◌<◌, ◌≤◌, ◌⊎◌, inl, inr, refl, sym, ap, subst, ◌∙◌, arith, List, [], ◌∷◌, ◌++◌, length, length-append, map, Bool, true, false, Option, Some, None}
use Rattle.std.specs.Prelude.{All, IfSome}
use Rattle.std.proofs.lemmas.Bool.{cases_eq, cases_lt, both_ways}
use Rattle.std.proofs.lemmas.List.{length-map, nil_from_length}
use Rattle.rcpsp_model.specs.declared.parts.Entry.{Entry}
use Rattle.rcpsp_model.specs.declared.parts.Placing.{Placing}
use Rattle.rcpsp_model.specs.Project.{Project, IsWithinLimits}
use Rattle.rcpsp_model.specs.Tree.{LeavesBudgets}
use Rattle.rcpsp_model.specs.Claim.{HasDuration}
use Rattle.precedence_tree.specs.declared.base.Base.{Base}
use Rattle.precedence_tree.specs.Node.{NodeState, StandsFor}
use Rattle.search_log.specs.declared.row.Row.{Row}
use Rattle.search_log.specs.declared.row.Origin.{Origin}
use Rattle.search_log.specs.declared.row.RowFate.TheVariants.{Open}
use Rattle.search_log.specs.Fates.{row_cites}
use Rattle.search_log.specs.Stands.{TreeNode, searching, IsClosed, Stands, root_row, root_node}
use Rattle.search_log.specs.Told.{no_origin}
use Rattle.search_log.specs.Lean.{seen_row, end_number, IsEnd, of_first, of_leaf, most_in_round}
use Rattle.search_log.proofs.GrownTables.{start_law}
use Rattle.search_log.proofs.FewRows.{room_law}
use Rattle.search_log.proofs.ToldLogs.{said-inside}
use Rattle.search_rounds.specs.declared.best.Best.{Best}
use Rattle.search_rounds.specs.declared.going.Search.{Search}
use Rattle.search_rounds.specs.declared.round.WaitingNode.{WaitingNode}
use Rattle.search_rounds.specs.declared.round.PlacedRecord.{PlacedRecord}
use Rattle.search_rounds.specs.declared.round.Terms.{Terms}
use Rattle.search_rounds.specs.declared.round.RoundResult.{RoundResult}
use Rattle.search_rounds.specs.Round.{waiting_of, rows_after, origins_after, BringsPlan, IsAmong, IsRoundOn}
use Rattle.search_rounds.specs.Going.{IsSaid, IsLeanSoFar, Goes, best_after, work, holding, AreTerms, HasRun}
use Rattle.search_rounds.proofs.TablesAfter.{Step, after, size-after, origins-size, cites-after, records-after, left-few, none-grown, said-expanded, all-places_fit}
use Rattle.search_rounds.proofs.LeanRounds.{lean-after, few-after, few-none}

abbrev pub terms_by : ℕ → ℕ → Search → Terms
terms_by number quota s = record { number = number; quota = quota; best = s.best.end }

-- the round that a search takes
pub step_of : (P : Project) (w nodes number quota : ℕ) (s : Search) (r : RoundResult) → (g : Goes P w nodes s) → IsRoundOn P w s.table s.records s.frontier (terms_by number quota s) r →
    Step P w s.table g.tree s.records s.frontier (terms_by number quota s) r
step_of P w nodes number quota s r g h = record { before = g.stands; origins = g.origins; known = g.records; round = h g.tree g.stands g.origins g.records }

-- the best after a round
pub brings : (P : Project) (b : Best) (e : Option ℕ) (plan : Option (List Placing)) → HasDuration P b.end b.plan → BringsPlan P b.end e plan →
    ((best_after b e plan).end ≡ e) × HasDuration P (best_after b e plan).end (best_after b e plan).plan
brings P b e None has is = (sym is, has)
brings P b e (Some s) has is = (refl, is.1)

-- a search by its parts
abbrev pub search_by : List Row → List Origin → List WaitingNode → List Base → List ℕ → Option ℕ → List ℕ → Best → ℕ → Search
search_by T O frontier index places first starts best used =
    record { table = record { rows = T; origins = O }; frontier = frontier; records = record { index = index; places = places }; first = first; starts = starts; best = best; used = used }

-- the search after a round
abbrev pub search_after : Search → RoundResult → Search
search_after s r =
    search_by (rows_after s.table.rows r) (origins_after s.table.origins r) r.left (s.records.index ++ map (λ m. m.known) r.made) (s.records.places ++ map (λ m. m.place) r.made)
    s.first (s.starts ++ end_number s.best.end ∷ []) (best_after s.best r.best r.plan) (s.used + r.used)

recorded-after : (s : Search) (r : RoundResult) → length s.records.index ≡ s.used → length r.made ≡ r.used → length (s.records.index ++ map (λ m. m.known) r.made) ≡ s.used + r.used
recorded-after s r a b =
    let c = length-append s.records.index (map (λ m. m.known) r.made) in
    let d = length-map r.made (λ (m : PlacedRecord). m.known) in
    omega arith

pub goes_on : (P : Project) (w nodes number quota : ℕ) (s : Search) (r : RoundResult) → Goes P w nodes s → IsRoundOn P w s.table s.records s.frontier (terms_by number quota s) r →
    number ≡ length s.starts + 1 → quota + s.used ≤ nodes → quota ≤ most_in_round number → Goes P w nodes (search_after s r)
goes_on P w nodes number quota s r g h e room most =
    let te : Terms = terms_by number quota s in
    let k = step_of P w nodes number quota s r g h in
    let b = brings P s.best r.best r.plan g.best k.round.plan in
    let T : List Row = rows_after s.table.rows r in
    let ns : List TreeNode = g.tree ++ k.round.more in
    let used = g.used in
    let used_ = k.round.used in
    let few = k.round.few in
    let left = left-few P w s.table g.tree s.records s.frontier te r k in
    let moves = k.round.moves in
    let rounds = g.rounds in
    let size = size-after s.table.rows r in
    let begun = length-append s.starts (end_number s.best.end ∷ []) in
    record {
      tree = ns;
      stands = subst (λ (o : Option ℕ). Stands P (searching o) T ns [] (waiting_of r.left)) (sym b.0) (after P w s.table g.tree s.records s.frontier te r k);
      origins = origins-size s.table.rows s.table.origins r g.origins;
      fronts = k.round.nodes;
      cites = cites-after P w s.table g.tree s.records s.frontier te r k g.cites;
      records = records-after P w s.table g.tree s.records s.frontier te r k (search_after s r).records refl refl;
      recorded = recorded-after s r g.recorded k.round.made_few;
      used = omega arith;
      few = omega arith;
      rounds = omega arith;
      few_in_round = few-after P w s.table g.tree s.records s.frontier te r s.first s.starts k e g.lean most g.few_in_round;
      lean = subst (λ (o : Option ℕ). IsLeanSoFar P w s.first (s.starts ++ end_number s.best.end ∷ []) o (IsSaid T) (seen_row T ns (origins_after s.table.origins r))) (sym b.0)
          (lean-after P w s.table g.tree s.records s.frontier te r s.first s.starts k e g.lean);
      best = b.1;
      soon = subst (λ (o : Option ℕ). IfSome o (λ end. end ≤ 1290000)) (sym b.0) k.round.soon;
    }

-- a place fits 32 bits
pub rooms : (P : Project) (w nodes : ℕ) (s : Search) → IsWithinLimits P → nodes ≤ 100000 → Goes P w nodes s → length s.table.rows ≤ 51200001
rooms P w nodes s limits few g =
    let a = room_law P (searching s.best.end) s.table.rows g.tree (waiting_of s.frontier) limits g.stands in
    let b = g.used in
    let c = g.few in
    omega arith

pub nearer : (P : Project) (w nodes number quota : ℕ) (s : Search) (r : RoundResult) → IsWithinLimits P → nodes ≤ 100000 → Goes P w nodes s → IsRoundOn P w s.table s.records s.frontier (terms_by number quota s) r →
    number ≡ length s.starts + 1 → quota + s.used ≤ nodes → quota ≤ most_in_round number → work nodes (search_after s r) < work nodes s
nearer P w nodes number quota s r limits small g h e room most =
    let te : Terms = terms_by number quota s in
    let k = step_of P w nodes number quota s r g h in
    let next = goes_on P w nodes number quota s r g h e room most in
    let fits = rooms P w nodes (search_after s r) limits small next in
    let rounds = next.rounds in
    let few = k.round.few in
    let moves = k.round.moves in
    let left = left-few P w s.table g.tree s.records s.frontier te r k in
    elim (cases_eq r.used 0) [
      | inl none ↦ (let grown = none-grown P w s.table g.tree s.records s.frontier te r k none in omega arith)
      | inr some ↦ omega arith
    ]

-- A round that took the frontier.

ran-terms : (nodes : ℕ) (s : Search) (t : Terms) → AreTerms nodes s t → t ≡ terms_by t.number t.quota s
ran-terms nodes s t is = let with : Option ℕ → Terms = λ b. record { number = t.number; quota = t.quota; best = b } in ap with is.best

ran-round : (P : Project) (w nodes : ℕ) (s : Search) (frontier : List WaitingNode) (t : Terms) (r : RoundResult) → HasRun P w nodes s frontier t r →
    IsRoundOn P w s.table s.records frontier (terms_by t.number t.quota s) r
ran-round P w nodes s frontier t r h = subst (λ (x : Terms). IsRoundOn P w s.table s.records frontier x r) (ran-terms nodes s t h.terms_are) h.round

pub ran-goes : (P : Project) (w nodes : ℕ) (s : Search) (frontier : List WaitingNode) (t : Terms) (r : RoundResult) → HasRun P w nodes s frontier t r → Goes P w nodes (search_after s r)
ran-goes P w nodes s frontier t r h =
    goes_on P w nodes t.number t.quota (holding frontier s) r h.before (ran-round P w nodes s frontier t r h) h.terms_are.number h.terms_are.left h.terms_are.few

pub ran-nearer : (P : Project) (w nodes : ℕ) (s : Search) (frontier : List WaitingNode) (t : Terms) (r : RoundResult) → IsWithinLimits P → HasRun P w nodes s frontier t r →
    work nodes (search_after s r) < work nodes (holding frontier s)
ran-nearer P w nodes s frontier t r limits h =
    nearer P w nodes t.number t.quota (holding frontier s) r limits h.small h.before (ran-round P w nodes s frontier t r h) h.terms_are.number h.terms_are.left h.terms_are.few

-- the step of the table
ran-step : (P : Project) (w nodes : ℕ) (s : Search) (frontier : List WaitingNode) (t : Terms) (r : RoundResult) → (h : HasRun P w nodes s frontier t r) →
    Step P w s.table h.before.tree s.records frontier (terms_by t.number t.quota s) r
ran-step P w nodes s frontier t r h = step_of P w nodes t.number t.quota (holding frontier s) r h.before (ran-round P w nodes s frontier t r h)

pub ran-rows : (P : Project) (w nodes : ℕ) (s : Search) (frontier : List WaitingNode) (t : Terms) (r : RoundResult) → IsWithinLimits P → HasRun P w nodes s frontier t r →
    length s.table.rows + length r.grown ≤ 51200001
ran-rows P w nodes s frontier t r limits h =
    let fits = rooms P w nodes (search_after s r) limits h.small (ran-goes P w nodes s frontier t r h) in
    let size = size-after s.table.rows r in
    omega arith

pub ran-places : (P : Project) (w nodes : ℕ) (s : Search) (frontier : List WaitingNode) (t : Terms) (r : RoundResult) → HasRun P w nodes s frontier t r →
    All (λ f. f.place < length s.table.rows + length r.grown) r.fills
ran-places P w nodes s frontier t r h =
    all-places_fit P w s.table h.before.tree s.records frontier (terms_by t.number t.quota s) r (ran-step P w nodes s frontier t r h)

pub ran-used : (P : Project) (w nodes : ℕ) (s : Search) (frontier : List WaitingNode) (t : Terms) (r : RoundResult) → HasRun P w nodes s frontier t r → s.used + r.used ≤ 100000
ran-used P w nodes s frontier t r h =
    let few = (ran-goes P w nodes s frontier t r h).few in
    let small = h.small in
    omega arith

pub ran-records : (P : Project) (w nodes : ℕ) (s : Search) (frontier : List WaitingNode) (t : Terms) (r : RoundResult) → HasRun P w nodes s frontier t r → length s.records.index + length r.made ≤ 100000
ran-records P w nodes s frontier t r h =
    let used = ran-used P w nodes s frontier t r h in
    let made = (ran-step P w nodes s frontier t r h).round.made_few in
    let recorded = h.before.recorded in
    omega arith

-- The root waits.

none-said : (p : ℕ) → IsSaid (root_row Open ∷ []) p → ⊥
none-said zero is = is.closed
none-said (suc p) is = let l = is.within in omega arith

pub begins : (P : Project) (w nodes : ℕ) (n : NodeState) (b : Best) → LeavesBudgets P [] → HasDuration P b.end b.plan → IfSome b.end (λ end. end ≤ 1290000) → n.front ≡ [] → StandsFor P n →
    Goes P w nodes (search_by (root_row Open ∷ []) (no_origin ∷ []) (record { place = 0; node = n } ∷ []) [] [] b.end [] b 0)
begins P w nodes n b budgets has soon root stands = record {
  tree = root_node ∷ [];
  stands = subst (λ (F : List Entry). Stands P (searching b.end) (root_row Open ∷ []) (root_node ∷ []) [] (record { place = 0; front = F } ∷ [])) (sym root) (start_law P (searching b.end) budgets);
  origins = refl;
  fronts = λ i d l. one i d l;
  cites = λ p q F says front. absurd (let i = said-inside (root_row Open ∷ []) p (row_cites q) says (λ bad. cc) in none-said p (record { within = i; closed = subst IsClosed (sym says) tt }));
  records = record { each = tt; all = λ q e. absurd (none-said q (said-expanded (root_row Open ∷ []) q e)) };
  recorded = refl;
  used = refl;
  few = omega arith;
  rounds = omega arith;
  few_in_round = λ r. let z = few-none (root_row Open ∷ []) (root_node ∷ []) (no_origin ∷ []) r (λ p e. none-said p (said-expanded (root_row Open ∷ []) p e)) in omega arith;
  lean = record {
    rounds = λ p is. absurd (none-said p is);
    early = λ p F x is. absurd (none-said p is);
    one = λ p q is. absurd (none-said p is);
    new = λ p q F A is. absurd (none-said p is);
    parents = λ p q F c is. absurd (none-said p is);
    starts_least = λ i l. absurd (omega arith);
    best_least = record { attained = of_first refl; least = least };
  };
  best = has;
  soon = soon;
}
  where
    one : All (λ (x : WaitingNode). StandsFor P x.node) (record { place = 0; node = n } ∷ [])
    one zero d l = stands
    one (suc i) d l = absurd (omega arith)

    least : (u : ℕ) → IsEnd P b.end (IsAmong (IsSaid (root_row Open ∷ [])) (seen_row (root_row Open ∷ []) (root_node ∷ []) (no_origin ∷ []))) u → end_number b.end ≤ u
    least u (of_first e) = omega arith
    least u (of_leaf s F a said front e) = absurd (none-said a.place a.visited)

-- two searches with the same parts
pub same_search : (s t : Search) → s.table.rows ≡ t.table.rows → s.table.origins ≡ t.table.origins → s.frontier ≡ t.frontier → s.records.index ≡ t.records.index → s.records.places ≡ t.records.places →
    s.first ≡ t.first → s.starts ≡ t.starts → s.best ≡ t.best → s.used ≡ t.used → s ≡ t
same_search s t a b c d e f g h i =
    ap (λ (x : List Row). search_by x s.table.origins s.frontier s.records.index s.records.places s.first s.starts s.best s.used) a
    ∙ (ap (λ (x : List Origin). search_by t.table.rows x s.frontier s.records.index s.records.places s.first s.starts s.best s.used) b
    ∙ (ap (λ (x : List WaitingNode). search_by t.table.rows t.table.origins x s.records.index s.records.places s.first s.starts s.best s.used) c
    ∙ (ap (λ (x : List Base). search_by t.table.rows t.table.origins t.frontier x s.records.places s.first s.starts s.best s.used) d
    ∙ (ap (λ (x : List ℕ). search_by t.table.rows t.table.origins t.frontier t.records.index x s.first s.starts s.best s.used) e
    ∙ (ap (λ (x : Option ℕ). search_by t.table.rows t.table.origins t.frontier t.records.index t.records.places x s.starts s.best s.used) f
    ∙ (ap (λ (x : List ℕ). search_by t.table.rows t.table.origins t.frontier t.records.index t.records.places t.first x s.best s.used) g
    ∙ (ap (λ (x : Best). search_by t.table.rows t.table.origins t.frontier t.records.index t.records.places t.first t.starts x s.used) h
    ∙ ap (λ (x : ℕ). search_by t.table.rows t.table.origins t.frontier t.records.index t.records.places t.first t.starts t.best x) i)))))))

-- a search stops where no node waits, or no expansion is left
pub stops : (n m : ℕ) (frontier : List WaitingNode) (b : Bool) → ((0 < length frontier) × (n < m) → b ≡ true) → b ≡ false → (frontier ≡ []) ⊎ (m ≤ n)
stops n m frontier b go none =
    elim (cases_lt 0 (length frontier)) [
      | inr empty ↦ inl (nil_from_length frontier (omega arith))
      | inl some ↦ elim (cases_lt n m) [ inr spent ↦ inr spent | inl more ↦ absurd (both_ways b none (go (some, more))) ]
    ]
