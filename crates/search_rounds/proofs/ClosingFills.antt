-- What is left at the end is closed.
use Rattle.std.proofs.Common.{◌≡◌, ℕ, ◌+◌, ◌<◌, ◌≤◌, ◌⊎◌, inl, inr, refl, sym, ap, subst, ◌∙◌, arith, List, [], ◌∷◌, ◌++◌, length, take, get_or, Option, Some, None}
use Rattle.std.specs.Prelude.{All, IfSome, IsSomeAnd, IsNone, Contains}
use Rattle.std.specs.List.{AllZip}
use Rattle.std.proofs.lemmas.Bool.{cases_lt}
use Rattle.std.proofs.lemmas.List.{get_or_past, take_more}
use Rattle.rcpsp_model.specs.declared.parts.Entry.{Entry}
use Rattle.rcpsp_model.specs.Project.{Project, capacity, IsWithinLimits}
use Rattle.rcpsp_model.specs.Schedule.{end_of}
use Rattle.rcpsp_model.specs.Tree.{IsLeaf}
use Rattle.rcpsp_model.specs.Bounds.{IsTailBound, IsWorkBound, LowerValue, of_tail, of_work, IsLowerBound}
use Rattle.rcpsp_model.proofs.BoundsHold.{work_bound-one}
use Rattle.rcpsp_model.proofs.Lists.{In, In-push, In-All, All-from_In, In-from_Contains, Contains-from_In}
use Rattle.rcpsp_model.proofs.Choices.{zip-append, zip-right}
use Rattle.rcpsp_model.proofs.Fronts.{front-end}
use Rattle.precedence_tree.specs.Node.{StandsFor}
use Rattle.log_truth.specs.Fates.{Reason, late_work, late_left}
use Rattle.log_truth.specs.Holds.{Reaches}
use Rattle.search_log.specs.declared.row.RowFate.{RowFate}
use Rattle.search_log.specs.declared.row.RowFate.TheVariants.{WorkBound, Left}
use Rattle.search_log.specs.declared.row.Row.{Row}
use Rattle.search_log.specs.declared.row.Origin.{Origin}
use Rattle.search_log.specs.declared.row.Fill.{Fill}
use Rattle.search_log.specs.Weights.{total, Each}
use Rattle.search_log.specs.Fates.{RowSaying, row_late, row_saying}
use Rattle.search_log.specs.Table.{says_row, says_at, children_of}
use Rattle.search_log.specs.Stands.{TreeNode, no_node, place_front, searching, closing, IsNoLater, Suits, IsClosed, FillSuits, IsAtPlace, Stands, fill_rows}
use Rattle.search_log.specs.Lean.{end_number}
use Rattle.search_log.specs.Laws.{PlaceRow, place_row, filled_row}
use Rattle.search_log.proofs.Sums.{Each-In}
use Rattle.search_log.proofs.VerdictChanges.{close_law}
use Rattle.search_log.proofs.FilledRows.{fills_law, none-open}
use Rattle.search_log.proofs.StayingRows.{stays_law, from_law}
use Rattle.search_rounds.specs.declared.best.Best.{Best}
use Rattle.search_rounds.specs.declared.round.WaitingNode.{WaitingNode}
use Rattle.search_rounds.specs.Round.{waits_at, waiting_of}
use Rattle.search_rounds.specs.Closing.{IsBetter, IsEndOrLeft, of_best, of_left, IsLowered, IsLateFate, after_last, IsCloseOf}
use Rattle.search_rounds.specs.Going.{IsSaid}
use Rattle.search_rounds.proofs.FilledSums.{open_or_closed, closed-not_open, length-fill_rows, Contains-left, Contains-right}

-- The best is lowered.

pub no_later : (a b : Option ℕ) → IfSome a (λ end. end ≤ 1290000) → end_number b ≤ end_number a → IsNoLater a b
no_later None b soon l = tt
no_later (Some d) (Some e) soon l = l
no_later (Some d) None soon l = absurd (omega arith)

pub reaches_end : (b : Option ℕ) (n : ℕ) → n ≤ 1290000 → end_number b ≤ n → Reaches b n
reaches_end (Some d) n small l = l
reaches_end None n small l = absurd (omega arith)

pub lowered-none : (P : Project) (best : Option ℕ) → IsLowered P [] best best
lowered-none P best = record { attained = of_best refl; least = least }
  where
    least : (u : ℕ) → IsEndOrLeft P best [] u → end_number best ≤ u
    least u (of_best e) = omega arith
    least u (of_left w c leaf e) = absurd (In-from_Contains [] w c)

-- one node more
pub lowered-more : (P : Project) (left : List WaitingNode) (w : WaitingNode) (best : Option ℕ) (old new : Best) → IsLowered P left best old.end → IsBetter P w.node.front old new → IsLowered P (left ++ w ∷ []) best new.end
lowered-more P left w best old new is b = record { attained = reach b.is; least = least }
  where
    wider : (u : ℕ) → IsEndOrLeft P best left u → IsEndOrLeft P best (left ++ w ∷ []) u
    wider u (of_best e) = of_best e
    wider u (of_left v c leaf e) = of_left v (Contains-left left (w ∷ []) v c) leaf e

    last : Contains (left ++ w ∷ []) w
    last = Contains-right left (w ∷ []) w (Contains-from_In (w ∷ []) w (inl refl))

    reach : ((new.end ≡ old.end) ⊎ (IsLeaf P w.node.front × (new.end ≡ Some (end_of P w.node.front)))) → IsEndOrLeft P best (left ++ w ∷ []) (end_number new.end)
    reach (inl same) = subst (λ (o : Option ℕ). IsEndOrLeft P best (left ++ w ∷ []) (end_number o)) (sym same) (wider (end_number old.end) is.attained)
    reach (inr leaf) = of_left w last leaf.0 (ap end_number leaf.1)

    least : (u : ℕ) → IsEndOrLeft P best (left ++ w ∷ []) u → end_number new.end ≤ u
    least u (of_best e) = let a = is.least u (of_best e) in let f = b.falls in omega arith
    least u (of_left v c leaf e) = elim (In-push left w v (In-from_Contains (left ++ w ∷ []) v c)) [
      | inl i ↦ (let a = is.least u (of_left v (Contains-from_In left v i) leaf e) in let f = b.falls in omega arith)
      | inr same ↦ (
          let own : IsLeaf P w.node.front = subst (λ (x : WaitingNode). IsLeaf P x.node.front) (sym same) leaf in
          let a = b.leaf own in
          let ends = ap (λ (x : WaitingNode). end_of P x.node.front) same in
          omega arith)
    ]

-- in a loop over the nodes
pub lowered-step : (P : Project) (left : List WaitingNode) (i : ℕ) (w : WaitingNode) (best : Option ℕ) (old new : Best) → i < length left → w ≡ get_or left i w → IsLowered P (take i left) best old.end → IsBetter P w.node.front old new →
    IsLowered P (take (i + 1) left) best new.end
lowered-step P left i w best old new l at is b =
    let more : take (i + 1) left ≡ take i left ++ w ∷ [] = take_more left i w l ∙ ap (λ (x : WaitingNode). take i left ++ x ∷ []) (sym at) in
    subst (λ (xs : List WaitingNode). IsLowered P xs best new.end) (sym more) (lowered-more P (take i left) w best old new is b)

pub lowered-falls : (P : Project) (left : List WaitingNode) (best least : Option ℕ) → IsLowered P left best least → end_number least ≤ end_number best
lowered-falls P left best least is = is.least (end_number best) (of_best refl)

pub lowered-leaves : (P : Project) (left : List WaitingNode) (best least : Option ℕ) → IsWithinLimits P → All (λ w. StandsFor P w.node) left → IsLowered P left best least →
    All (λ w. IsLeaf P w.node.front → Reaches least (end_of P w.node.front)) left
lowered-leaves P left best least limits stand is =
    All-from_In (λ (w : WaitingNode). IsLeaf P w.node.front → Reaches least (end_of P w.node.front)) left (λ w i leaf.
    let front = (In-All (λ (x : WaitingNode). StandsFor P x.node) left stand w i).front in
    reaches_end least (end_of P w.node.front) (front-end P w.node.front limits front) (is.least (end_of P w.node.front) (of_left w (Contains-from_In left w i) leaf refl)))

-- The fills.

pub same-places : (P : Project) (best : Option ℕ) (number : ℕ) (left : List WaitingNode) (fills : List Fill) → AllZip (IsCloseOf P best number) left fills → (h : ℕ → ℕ) →
    total (λ f. h f.place) fills ≡ total (λ w. h w.place) (waiting_of left)
same-places P best number [] [] z h = refl
same-places P best number [] (f ∷ fills) z h = absurd z
same-places P best number (w ∷ left) [] z h = absurd z
same-places P best number (w ∷ left) (f ∷ fills) z h = let own = ap h z.0.place in let ih = same-places P best number left fills z.1 h in omega arith

late-children : (f : RowFate) (reason : Reason) → row_saying f ≡ row_late reason → children_of (row_saying f) ≡ []
late-children f reason e = ap children_of e

each-children : (P : Project) (best : Option ℕ) (number : ℕ) (left : List WaitingNode) (fills : List Fill) → AllZip (IsCloseOf P best number) left fills → Each (λ f. children_of (row_saying f.fate) ≡ []) fills
each-children P best number [] [] z = tt
each-children P best number [] (f ∷ fills) z = absurd z
each-children P best number (w ∷ left) [] z = absurd z
each-children P best number (w ∷ left) (f ∷ fills) z = (late-children f.fate z.0.late.reason z.0.late.says, each-children P best number left fills z.1)

-- a place that has a front is one of the tree
pub front-within : (ns : List TreeNode) (p : ℕ) (F : List Entry) → place_front ns p ≡ Some F → p < length ns
front-within ns p F e =
    elim (cases_lt p (length ns)) [
      | inl l ↦ l
      | inr g ↦ absurd (
          let none : place_front ns p ≡ None = ap (λ (n : TreeNode). n.front) (get_or_past ns p no_node g) in
          let bad : None ≡ Some F = sym none ∙ e in
          cc)
    ]

close-suits : (P : Project) (best : Option ℕ) (number : ℕ) (ns : List TreeNode) (w : WaitingNode) (f : Fill) → IsAtPlace ns (waits_at w) → IsCloseOf P best number w f → FillSuits P (closing best) ns f
close-suits P best number ns w f at is =
    let here : place_front ns f.place ≡ Some w.node.front = ap (place_front ns) is.place ∙ at in
    let own : Suits P (closing best) ns (Some w.node.front) (row_late is.late.reason) = is.late.late in
    record {
      within = front-within ns f.place w.node.front here;
      closed = subst IsClosed (sym is.late.says) tt;
      says = subst (λ (o : Option (List Entry)). Suits P (closing best) ns o (row_saying f.fate)) (sym here)
          (subst (λ (s : RowSaying). Suits P (closing best) ns (Some w.node.front) s) (sym is.late.says) own);
    }

each-suits : (P : Project) (best : Option ℕ) (number : ℕ) (ns : List TreeNode) (left : List WaitingNode) (fills : List Fill) → Each (IsAtPlace ns) (waiting_of left) → AllZip (IsCloseOf P best number) left fills →
    Each (FillSuits P (closing best) ns) fills
each-suits P best number ns [] [] at z = tt
each-suits P best number ns [] (f ∷ fills) at z = absurd z
each-suits P best number ns (w ∷ left) [] at z = absurd z
each-suits P best number ns (w ∷ left) (f ∷ fills) at z = (close-suits P best number ns w f at.0 z.0, each-suits P best number ns left fills at.1 z.1)

-- in a loop over the nodes
pub closes-step : (P : Project) (best : Option ℕ) (number : ℕ) (left : List WaitingNode) (i : ℕ) (w : WaitingNode) (old new : List Fill) (f : Fill) → i < length left → w ≡ get_or left i w → AllZip (IsCloseOf P best number) (take i left) old →
    new ≡ old ++ f ∷ [] → IsCloseOf P best number w f → AllZip (IsCloseOf P best number) (take (i + 1) left) new
closes-step P best number left i w old new f l at z e is =
    let more : take (i + 1) left ≡ take i left ++ w ∷ [] = take_more left i w l ∙ ap (λ (x : WaitingNode). take i left ++ x ∷ []) (sym at) in
    subst (λ (xs : List WaitingNode). AllZip (IsCloseOf P best number) xs new) (sym more)
    (subst (λ (fs : List Fill). AllZip (IsCloseOf P best number) (take i left ++ w ∷ []) fs) (sym e) (zip-append (IsCloseOf P best number) (take i left) (w ∷ []) old (f ∷ []) z (is, tt)))

-- By which bound a front ends late.

pub late-work : (P : Project) (F : List Entry) (k end : ℕ) (o : Option ℕ) → IfSome o (IsWorkBound P F k) → IsSomeAnd o (λ w. end ≤ w) → IsLateFate P (Some end) F (WorkBound k)
late-work P F k end (Some w) is l = record { reason = late_work k; says = refl; late = record { number = w; late = is; suffices = l }; narrow = tt }
late-work P F k end None is l = absurd l

pub late-left : (P : Project) (F : List Entry) (b : ℕ) (best : Option ℕ) → (IsLeaf P F → ⊥) → IsLowerBound P F b → IfSome best (λ d. b < d) → b ≤ 999999999 → IsLateFate P best F (Left b)
late-left P F b best inner is below few = record { reason = late_left b; says = refl; late = record { number = b; late = (inner, is, refl); suffices = (tt, below) }; narrow = few }

-- where no bound reaches an end, the lower bound doesn't
pub lower-below : (P : Project) (F : List Entry) (end : ℕ) → ((t : ℕ) → IsTailBound P F t → t < end) → ((k w : ℕ) → IsWorkBound P F k w → w < end) → (b : ℕ) → IsLowerBound P F b → b < end
lower-below P F end tail work b is = at b is.attained
  where
    at : (x : ℕ) → LowerValue P F x → x < end
    at x (of_tail t h) = tail t h
    at x (of_work k w h) = work k w h

-- one resource more, whose work bound, if there is one, doesn't reach the end
pub works-step : (P : Project) (F : List Entry) (end r : ℕ) (o : Option ℕ) → ((k w : ℕ) → k < r → IsWorkBound P F k w → w < end) → IfSome o (IsWorkBound P F r) → (IsNone o → capacity P r ≡ 0) → (IsSomeAnd o (λ w. end ≤ w) → ⊥) →
    (k w : ℕ) → k < r + 1 → IsWorkBound P F k w → w < end
works-step P F end r o before is none late k w l h =
    elim (cases_lt k r) [
      | inl old ↦ before k w old h
      | inr now ↦ (let same : k ≡ r = omega arith in own o is none late (subst (λ (x : ℕ). IsWorkBound P F x w) same h))
    ]
  where
    own : (o : Option ℕ) → IfSome o (IsWorkBound P F r) → (IsNone o → capacity P r ≡ 0) → (IsSomeAnd o (λ w. end ≤ w) → ⊥) → IsWorkBound P F r w → w < end
    own (Some v) is none late h = let same = work_bound-one P F r v w is h in elim (cases_lt w end) [ inl less ↦ less | inr more ↦ absurd (late (omega arith)) ]
    own None is none late h = absurd (let some = h.some in let zero_ = none refl in omega arith)

-- a table before its end, and the fills that close what is left
pub record Closes (P : Project) (T : List Row) (O : List Origin) (ns : List TreeNode) (left : List WaitingNode) (old best : Option ℕ) (number : ℕ) (fills : List Fill) : Type 0 where
  pub before : Stands P (searching old) T ns [] (waiting_of left)
  pub size : length O ≡ length T
  pub later : IsNoLater old best
  pub fills_are : AllZip (IsCloseOf P best number) left fills

pub closing-stands : (P : Project) (T : List Row) (O : List Origin) (ns : List TreeNode) (left : List WaitingNode) (old best : Option ℕ) (number : ℕ) (fills : List Fill) → Closes P T O ns left old best number fills →
    Stands P (closing best) T ns fills []
closing-stands P T O ns left old best number fills k =
    close_law P old best T ns (waiting_of left) fills k.before k.later (same-places P best number left fills k.fills_are) (each-children P best number left fills k.fills_are)
    (each-suits P best number ns left fills k.before.each_waiting k.fills_are)

pub closed-stands : (P : Project) (T : List Row) (O : List Origin) (ns : List TreeNode) (left : List WaitingNode) (old best : Option ℕ) (number : ℕ) (fills : List Fill) → Closes P T O ns left old best number fills →
    Stands P (closing best) (fill_rows T fills) ns [] []
closed-stands P T O ns left old best number fills k = fills_law P (closing best) T ns fills [] (closing-stands P T O ns left old best number fills k)

pub closing-places : (P : Project) (T : List Row) (O : List Origin) (ns : List TreeNode) (left : List WaitingNode) (old best : Option ℕ) (number : ℕ) (fills : List Fill) → Closes P T O ns left old best number fills →
    All (λ f. f.place < length T) fills
closing-places P T O ns left old best number fills k =
    let s = closing-stands P T O ns left old best number fills k in
    let size = s.size in
    All-from_In (λ (f : Fill). f.place < length T) fills (λ f i. let l = (Each-In (FillSuits P (closing best) ns) fills f s.each_fill i).within in omega arith)

-- a row that was closed at the end: its node was left, and this is the fill that closed it
pub record ClosedRow (P : Project) (ns : List TreeNode) (left : List WaitingNode) (best : Option ℕ) (number p : ℕ) (x : PlaceRow) : Type 0 where
  pub node : WaitingNode
  pub among : In left node
  pub fill : Fill
  pub closes : IsCloseOf P best number node fill
  pub says : says_row x.row ≡ row_saying fill.fate
  pub origin : x.origin ≡ after_last number
  pub front : place_front ns p ≡ Some node.node.front

pub waiting-at : (ns : List TreeNode) (left : List WaitingNode) (w : WaitingNode) → Each (IsAtPlace ns) (waiting_of left) → In left w → IsAtPlace ns (waits_at w)
waiting-at ns [] w e i = absurd i
waiting-at ns (x ∷ left) w e (inl same) = subst (λ (y : WaitingNode). IsAtPlace ns (waits_at y)) same e.0
waiting-at ns (x ∷ left) w e (inr i) = waiting-at ns left w e.1 i

pub closed-row : (P : Project) (T : List Row) (O : List Origin) (ns : List TreeNode) (left : List WaitingNode) (old best : Option ℕ) (number : ℕ) (fills : List Fill) → Closes P T O ns left old best number fills → (p : ℕ) → p < length T →
    (IsSaid T p × (filled_row T O fills p ≡ place_row T O p)) ⊎ ClosedRow P ns left best number p (filled_row T O fills p)
closed-row P T O ns left old best number fills k p l =
    let s = closing-stands P T O ns left old best number fills k in
    elim (open_or_closed (says_at T p)) [
      | inr closed ↦ inl (record { within = l; closed = closed }, stays_law P (closing best) T O ns fills [] p s closed)
      | inl open_ ↦ elim (from_law P (closing best) T O ns fills [] p s k.size) [
        | inl kept ↦ absurd (
            let size : length (fill_rows T fills) ≡ length T = length-fill_rows T fills in
            let none = none-open P (closing best) (fill_rows T fills) ns (closed-stands P T O ns left old best number fills k) p (omega arith) in
            closed-not_open (says_at (fill_rows T fills) p) none (ap (λ (x : PlaceRow). says_row x.row) kept ∙ open_))
        | inr by ↦ (
            let z = zip-right (IsCloseOf P best number) left fills k.fills_are by.fill (In-from_Contains fills by.fill by.among) in
            let at = waiting-at ns left z.0 k.before.each_waiting z.1 in
            let place : z.0.place ≡ p = sym z.2.place ∙ by.place in
            inr (record {
              node = z.0;
              among = z.1;
              fill = by.fill;
              closes = z.2;
              says = ap (λ (x : PlaceRow). says_row x.row) by.row;
              origin = ap (λ (x : PlaceRow). x.origin) by.row ∙ z.2.origin;
              front = ap (place_front ns) (sym place) ∙ at;
            }))
      ]
    ]
