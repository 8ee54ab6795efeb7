-- What the rows say holds by the verdict that is told.
use Rattle.std.proofs.Common.{◌≡◌, ℕ, ◌<◌, refl, sym, ap, subst, ◌∙◌, arith, List, [], ◌∷◌, length, map, Option, Some, None}
use Rattle.std.specs.Prelude.{IfSome}
use Rattle.sched_base.specs.declared.fate.Fate.{Fate}
use Rattle.sched_base.specs.declared.fate.Fate.TheVariants as line
use Rattle.rcpsp_model.specs.declared.parts.Entry.{Entry}
use Rattle.rcpsp_model.specs.declared.parts.Shut.TheVariants.{NoCapacity, NoBudget, Inefficient}
use Rattle.rcpsp_model.specs.declared.parts.Verdict.{Verdict}
use Rattle.rcpsp_model.specs.Project.{Project}
use Rattle.rcpsp_model.proofs.Lists.{In, In-from_Contains, Contains-from_In}
use Rattle.rcpsp_model.proofs.Choices.{map-In, In-map}
use Rattle.proof_log.specs.declared.report.LogLine.{LogLine}
use Rattle.proof_log.specs.Report.{duration_of}
use Rattle.log_truth.specs.Fates.{Reason, late_leaf, late_tail, late_work, late_left}
use Rattle.log_truth.specs.Log.{says, LogNode}
use Rattle.log_truth.specs.Holds.{IsLate, IsLimit, Reaches, Allows, IsAllowed, IsLeftNumber, HasLower, LogHolds}
use Rattle.rcpsp_model.specs.Claim.{HasDuration}
use Rattle.search_log.specs.declared.row.RowFate.{RowFate}
use Rattle.search_log.specs.declared.row.RowFate.TheVariants.{Open, Expanded, Leaf, TailBound, WorkBound, Cited, Left, Shut}
use Rattle.search_log.specs.declared.row.Row.{Row}
use Rattle.search_log.specs.declared.row.Fill.{Fill}
use Rattle.search_log.specs.Weights.{total, Each}
use Rattle.search_log.specs.Fates.{RowSaying, row_open, row_expanded, row_late, row_cites, row_shut, row_saying, fate_of}
use Rattle.search_log.specs.Table.{row_at, says_row, says_at, children_of}
use Rattle.search_log.specs.Stands.{IsNoLater, TreeNode, place_front, searching, closing, Suits, RowSuits, IsClosed, Stands}
use Rattle.search_log.specs.Told.{Tells, IsLeftAt, IsLeastLeft, verdict_of}
use Rattle.search_log.specs.Laws.{CloseLaw, LogLaw, ReportLaw}
use Rattle.search_log.proofs.Sums.{Each-In}
use Rattle.search_log.proofs.PassedPlaces.{IsPlace, passes-all}
use Rattle.search_log.proofs.RowLines.{told}
use Rattle.search_log.proofs.FilledRows.{none-open}
use Rattle.search_log.proofs.ToldLogs.{whole_law, line_at, log_node, log_node-says, log_node-front, tree-log, all-nodes, In-order, said-inside, are-served, count_law}

-- One verdict and another.

reaches-later : (d e : Option ℕ) (n : ℕ) → IsNoLater d e → Reaches d n → Reaches e n
reaches-later None e n l r = absurd r
reaches-later (Some d) None n l r = absurd l
reaches-later (Some d) (Some e) n l r = omega arith

-- what may be left under the one verdict may be left under the other
abbrev LeavesToo : Verdict → Verdict → Reason → Type 0
LeavesToo v w reason = (b : ℕ) → reason ≡ late_left b → IsLimit v → IsLimit w × (duration_of v ≡ duration_of w)

late-later : (P : Project) (v w : Verdict) (F : List Entry) (reason : Reason) → IsNoLater (duration_of v) (duration_of w) → LeavesToo v w reason → IsLate P v F reason → IsLate P w F reason
late-later P v w F late_leaf l k is = record { number = is.number; late = is.late; suffices = reaches-later (duration_of v) (duration_of w) is.number l is.suffices }
late-later P v w F late_tail l k is = record { number = is.number; late = is.late; suffices = reaches-later (duration_of v) (duration_of w) is.number l is.suffices }
late-later P v w F (late_work r) l k is = record { number = is.number; late = is.late; suffices = reaches-later (duration_of v) (duration_of w) is.number l is.suffices }
late-later P v w F (late_left b) l k is =
    let m = k b refl is.suffices.0 in
    let n = is.number in
    record { number = n; late = is.late; suffices = (m.0, subst (λ (o : Option ℕ). IfSome o (λ d. n < d)) m.1 is.suffices.1) }

pub suits-later : (P : Project) (v w : Verdict) (ns : List TreeNode) (o : Option (List Entry)) (s : RowSaying) → IsNoLater (duration_of v) (duration_of w) →
    ((reason : Reason) → s ≡ row_late reason → LeavesToo v w reason) → Suits P v ns o s → Suits P w ns o s
suits-later P v w ns (Some F) row_open l k is = tt
suits-later P v w ns (Some F) (row_expanded first count) l k is = is
suits-later P v w ns (Some F) (row_late reason) l k is = late-later P v w F reason l (k reason refl) is
suits-later P v w ns (Some F) (row_cites q) l k is = tt
suits-later P v w ns (Some F) (row_shut why) l k is = is
suits-later P v w ns None row_open l k is = is
suits-later P v w ns None (row_expanded first count) l k is = is
suits-later P v w ns None (row_late reason) l k is = is
suits-later P v w ns None (row_cites q) l k is = is
suits-later P v w ns None (row_shut why) l k is = tt

-- Closing.

searching-duration : (best : Option ℕ) → duration_of (searching best) ≡ best
searching-duration (Some d) = refl
searching-duration None = refl

searching-no_limit : (best : Option ℕ) → IsLimit (searching best) → ⊥
searching-no_limit (Some d) l = l
searching-no_limit None l = l

close-row : (P : Project) (start best : Option ℕ) (ns : List TreeNode) (p : ℕ) (r : Row) → IsNoLater start best → RowSuits P (searching start) ns p r → RowSuits P (closing best) ns p r
close-row P start best ns p r l is = record {
  line = is.line;
  front = is.front;
  says = suits-later P (searching start) (closing best) ns (place_front ns p) (says_row r)
      (subst (λ (o : Option ℕ). IsNoLater o best) (sym (searching-duration start)) l)
      (λ reason e b f m. absurd (searching-no_limit start m)) is.says;
}

-- what is right while the search goes on is so with a lesser end
pub searching-suits : (P : Project) (start best : Option ℕ) (ns : List TreeNode) (o : Option (List Entry)) (s : RowSaying) → IsNoLater start best → Suits P (searching start) ns o s → Suits P (searching best) ns o s
searching-suits P start best ns o s l is =
    suits-later P (searching start) (searching best) ns o s
    (subst (λ (x : Option ℕ). IsNoLater x (duration_of (searching best))) (sym (searching-duration start)) (subst (λ (x : Option ℕ). IsNoLater start x) (sym (searching-duration best)) l))
    (λ reason e b f m. absurd (searching-no_limit start m)) is

pub searching-row : (P : Project) (start best : Option ℕ) (ns : List TreeNode) (p : ℕ) (r : Row) → IsNoLater start best → RowSuits P (searching start) ns p r → RowSuits P (searching best) ns p r
searching-row P start best ns p r l is =
    record { line = is.line; front = is.front; says = searching-suits P start best ns (place_front ns p) (says_row r) l is.says }

children-none : (h : ℕ → ℕ) (fills : List Fill) → Each (λ f. children_of (row_saying f.fate) ≡ []) fills → total (λ f. total h (children_of (row_saying f.fate))) fills ≡ 0
children-none h [] e = refl
children-none h (f ∷ fills) e = let ih = children-none h fills e.1 in let own : total h (children_of (row_saying f.fate)) ≡ 0 = ap (total h) e.0 in omega arith

pub close_law : CloseLaw
close_law P start best T ns ws fills s l same none suits = record {
  some = s.some;
  size = s.size;
  root = s.root;
  account = λ h. let a = s.account h in let b = children-none h fills none in omega arith;
  waits = λ h. let a = s.waits h in let b = same h in omega arith;
  rows = λ p w. close-row P start best ns p (row_at T p) l (s.rows p w);
  each_fill = suits;
  each_waiting = tt;
}

-- The verdict that is told.

told-duration : (best lower : Option ℕ) → duration_of (verdict_of best lower) ≡ best
told-duration best (Some b) = refl
told-duration best None = searching-duration best

no-later : (best : Option ℕ) → IsNoLater best best
no-later None = tt
no-later (Some d) = omega arith

left-limit : (T : List Row) (best lower : Option ℕ) (b : ℕ) → IsLeastLeft T lower → IsLeftAt T b → IsLimit (verdict_of best lower)
left-limit T best (Some l) b least at = tt
left-limit T best None b none at = absurd (none b at)

-- a right saying that isn't open is allowed
suits-allowed : (P : Project) (v : Verdict) (ns : List TreeNode) (numbers : List ℕ) (o : Option (List Entry)) (s : RowSaying) → IsClosed s → Suits P v ns o s → IfSome o (λ F. Allows P v F (told numbers s))
suits-allowed P v ns numbers (Some F) row_open c is = absurd c
suits-allowed P v ns numbers (Some F) (row_expanded first count) c is = is.inner
suits-allowed P v ns numbers (Some F) (row_late reason) c is = is
suits-allowed P v ns numbers (Some F) (row_cites q) c is = tt
suits-allowed P v ns numbers (Some F) (row_shut why) c is = is
suits-allowed P v ns numbers None s c is = tt

place-allowed : (P : Project) (best lower : Option ℕ) (T : List Row) (ns : List TreeNode) (numbers : List ℕ) → Stands P (closing best) T ns [] [] → IsLeastLeft T lower → (p : ℕ) → p < length T →
    IsAllowed P (verdict_of best lower) (log_node numbers T ns p).branch (log_node numbers T ns p).line
place-allowed P best lower T ns numbers s least p l =
    let v : Verdict = verdict_of best lower in
    let same = told-duration best lower in
    let suits = suits-later P (closing best) v ns (place_front ns p) (says_at T p)
    (subst (λ (o : Option ℕ). IsNoLater best o) (sym same) (no-later best))
    (λ reason e b f m. (left-limit T best lower b least (record { place = p; is = e ∙ ap row_late f }), sym same)) (s.rows p l).says in
    let allowed = suits-allowed P v ns numbers (place_front ns p) (says_at T p) (none-open P (closing best) T ns s p l) suits in
    subst (λ (o : Option (List Entry)). IfSome o (λ F. Allows P v F (says (line_at numbers T p)))) (sym (log_node-front P (closing best) T ns numbers s p l))
    (subst (λ x. IfSome (place_front ns p) (λ F. Allows P v F x)) (sym (log_node-says numbers T p)) allowed)

-- What was left.

left-fate : (numbers : List ℕ) (f : RowFate) (b : ℕ) → row_saying f ≡ row_late (late_left b) → fate_of numbers f ≡ line.Left b
left-fate numbers Open b e = absurd (cc)
left-fate numbers (Expanded count first) b e = absurd (cc)
left-fate numbers Leaf b e = absurd (cc)
left-fate numbers TailBound b e = absurd (cc)
left-fate numbers (WorkBound k) b e = absurd (cc)
left-fate numbers (Cited q) b e = absurd (cc)
left-fate numbers (Left u) b e = let same : u ≡ b = cc in ap line.Left same
left-fate numbers (Shut why) b e = absurd (cc)

fate-left : (numbers : List ℕ) (f : RowFate) (b : ℕ) → IsClosed (row_saying f) → fate_of numbers f ≡ line.Left b → row_saying f ≡ row_late (late_left b)
fate-left numbers Open b c e = absurd c
fate-left numbers (Expanded count first) b c e = absurd (cc)
fate-left numbers Leaf b c e = absurd (cc)
fate-left numbers TailBound b c e = absurd (cc)
fate-left numbers (WorkBound k) b c e = absurd (cc)
fate-left numbers (Cited q) b c e = absurd (cc)
fate-left numbers (Left u) b c e = let same : u ≡ b = cc in ap (λ (n : ℕ). row_late (late_left n)) same
fate-left numbers (Shut (NoCapacity k)) b c e = absurd (cc)
fate-left numbers (Shut (NoBudget l)) b c e = absurd (cc)
fate-left numbers (Shut (Inefficient m)) b c e = absurd (cc)

abbrev fates : List LogLine → List Fate
fates lines = map (λ l. l.fate) lines

left-line : (P : Project) (v : Verdict) (T : List Row) (ns : List TreeNode) (lines : List LogLine) → Stands P v T ns [] [] → Tells T lines → (b : ℕ) → IsLeftAt T b → IsLeftNumber lines b
left-line P v T ns lines s t b at =
    let l = said-inside T at.place (row_late (late_left b)) at.is (λ bad. cc) in
    let i = In-order T t.order (whole_law P v T ns s) t.walk at.place l in
    let j = In-map (λ (l : LogLine). l.fate) (map (line_at t.numbers T) t.order) (line_at t.numbers T at.place) (In-map (line_at t.numbers T) t.order at.place i) in
    let own : In (fates (map (line_at t.numbers T) t.order)) (line.Left b) = subst (In (fates (map (line_at t.numbers T) t.order))) (left-fate t.numbers (row_at T at.place).fate b at.is) j in
    Contains-from_In (fates lines) (line.Left b) (subst (λ (ls : List LogLine). In (fates ls) (line.Left b)) (sym t.are) own)

line-left : (P : Project) (v : Verdict) (T : List Row) (ns : List TreeNode) (lines : List LogLine) → Stands P v T ns [] [] → Tells T lines → (b : ℕ) → IsLeftNumber lines b → IsLeftAt T b
line-left P v T ns lines s t b has =
    let i : In (fates (map (line_at t.numbers T) t.order)) (line.Left b) = subst (λ (ls : List LogLine). In (fates ls) (line.Left b)) t.are (In-from_Contains (fates lines) (line.Left b) has) in
    let x = map-In (λ (l : LogLine). l.fate) (map (line_at t.numbers T) t.order) (line.Left b) i in
    let y = map-In (line_at t.numbers T) t.order x.0 x.1 in
    let p = y.0 in
    let l = Each-In (IsPlace T) t.order p (passes-all T (whole_law P v T ns s) t.order t.walk).inside y.1 in
    let e : fate_of t.numbers (row_at T p).fate ≡ line.Left b = ap (λ (l : LogLine). l.fate) y.2 ∙ x.2 in
    record { place = p; is = fate-left t.numbers (row_at T p).fate b (none-open P v T ns s p l) e }

has-lower : (P : Project) (v : Verdict) (best lower : Option ℕ) (T : List Row) (ns : List TreeNode) (lines : List LogLine) → Stands P v T ns [] [] → Tells T lines → IsLeastLeft T lower → HasLower (verdict_of best lower) lines
has-lower P v best (Some b) T ns lines s t least = record { attained = left-line P v T ns lines s t b least.attained; least = λ u h. least.least u (line-left P v T ns lines s t u h) }
has-lower P v (Some d) None T ns lines s t none = tt
has-lower P v None None T ns lines s t none = tt

pub log_law : LogLaw
log_law P best lower T ns lines s c least few t = record {
  log = tree-log P (closing best) T ns lines s t;
  allowed = all-nodes P (closing best) T ns lines (λ (n : LogNode). IsAllowed P (verdict_of best lower) n.branch n.line) s t (λ p l. place-allowed P best lower T ns t.numbers s least p l);
  served = are-served P (closing best) T ns lines s c t;
  few = let a = count_law T lines (whole_law P (closing best) T ns s) t in omega arith;
  lower = has-lower P (closing best) best lower T ns lines s t least;
}

pub report_law : ReportLaw
report_law P best lower T ns lines report s c least few t verdict log ends = record {
  lines = lines;
  is_its = log;
  log = subst (λ (v : Verdict). LogHolds P v lines) (sym verdict) (log_law P best lower T ns lines s c least few t);
  best = subst (λ (o : Option ℕ). HasDuration P o report.best) (sym (ap duration_of verdict ∙ told-duration best lower)) ends;
}
