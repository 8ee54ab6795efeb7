-- What a search found.
use Rattle.sched_base.specs.declared.fate.Fate.{Fate}
use Rattle.proof_log.specs.declared.report.LogLine.{LogLine}
use Rattle.rcpsp_model.specs.declared.parts.Verdict.{Verdict}
use Rattle.std.proofs.Common.{◌≡◌, ℕ, zero, suc, ◌+◌, ◌<◌, ◌≤◌, ◌⊎◌, inl, inr, refl, sym, ap, subst, ◌∙◌, arith, List, [], ◌∷◌, length, map, Bool, true, false, Option, Some, None}
use Rattle.std.specs.Prelude.{Contains, slice_index, ◌==◌, if◌then◌else◌, IfSome}
use Rattle.std.specs.List.{AllZip}
use Rattle.rcpsp_model.specs.declared.parts.Shut.TheVariants.{NoCapacity, NoBudget, Inefficient}
use Rattle.rcpsp_model.specs.Project.{Project}
use Rattle.rcpsp_model.specs.Bounds.{IsBudgetGap}
use Rattle.rcpsp_model.specs.Claim.{HasDuration}
use Rattle.rcpsp_model.proofs.Lists.{In, In-from_Contains}
use Rattle.rcpsp_model.proofs.Choices.{map-In}
use Rattle.proof_log.specs.declared.report.Report.{Report}
use Rattle.proof_log.specs.Report.{duration_of}
use Rattle.log_truth.specs.Fates.{says_late, says_shut, late_leaf, late_left, expands}
use Rattle.log_truth.specs.Holds.{IsLimit, IsLeftNumber}
use Rattle.search_log.specs.declared.row.RowFate.TheVariants.{Open, Expanded, Leaf, TailBound, WorkBound, Cited, Left, Shut}
use Rattle.search_log.specs.declared.row.Row.{Row}
use Rattle.search_log.specs.declared.row.Origin.{Origin}
use Rattle.search_log.specs.declared.row.Fill.{Fill}
use Rattle.search_log.specs.Fates.{row_late, row_cites, row_saying, fate_of}
use Rattle.search_log.specs.declared.row.RowFate.{RowFate}
use Rattle.search_log.specs.Table.{says_at, row_at}
use Rattle.search_log.specs.Stands.{Stands, closing, fill_rows, fill_origins, IsExpandedAt, root_row, shut_root, IsClosed, TreeNode}
use Rattle.search_log.specs.Told.{origin_at, told_origin, Tells, TellsAll, IsLeftAt, IsLeastLeft, verdict_of}
use Rattle.search_log.specs.Lean.{Seen, seen_row, seen_rows, expands_line, end_number, IsEnd, of_first, of_leaf, IsLean, IsLeanLog}
use Rattle.search_log.proofs.Sums.{Each-In}
use Rattle.search_log.proofs.PassedPlaces.{IsPlace, passes-all}
use Rattle.search_log.proofs.EveryTable.{told-log}
use Rattle.search_log.proofs.GrownTables.{gap_law}
use Rattle.search_log.proofs.ToldLogs.{whole_law, count_law, line_at}
use Rattle.search_log.proofs.VerdictChanges.{report_law}
use Rattle.search_log.proofs.LeanRows.{lean_law}
use Rattle.search_rounds.specs.declared.best.Best.{Best}
use Rattle.search_rounds.specs.declared.going.Search.{Search}
use Rattle.search_rounds.specs.declared.found.Found.{Found}
use Rattle.search_rounds.specs.declared.found.Ended.{Ended}
use Rattle.search_rounds.specs.Closing.{IsLowered, IsCloseOf, after_last}
use Rattle.search_rounds.specs.Going.{Goes}
use Rattle.search_rounds.specs.Found.{IsEnded, report_of, IsFound, IsUntold}
use Rattle.search_rounds.proofs.FilledSums.{length-fill_rows, length-fill_origins}
use Rattle.search_rounds.proofs.ClosingFills.{Closes, closed-stands, no_later, lowered-falls}
use Rattle.search_rounds.proofs.EndedTables.{lean-closed, expanded-closed_rows, cites-closed, some-left, late-left, narrow-left, SeenAt, seen-at, get-seen}
use Rattle.search_rounds.proofs.LeanRounds.{few-none}
use Rattle.search_log.proofs.FilledRows.{none-open}
use Rattle.sched_base.specs.declared.fate.Fate.TheVariants as line

-- what closes a search
pub closes_of : (P : Project) (w nodes number : ℕ) (s : Search) (best : Best) (fills : List Fill) → (g : Goes P w nodes s) → IsLowered P s.frontier s.best.end best.end → AllZip (IsCloseOf P best.end number) s.frontier fills →
    Closes P s.table.rows s.table.origins g.tree s.frontier s.best.end best.end number fills
closes_of P w nodes number s best fills g low z =
    record { before = g.stands; size = g.origins; later = no_later s.best.end best.end g.soon (lowered-falls P s.frontier s.best.end best.end low); fills_are = z }

-- an end by its parts
abbrev pub ended_by : List Row → List Origin → List ℕ → Best → Ended
ended_by T O starts best = record { table = record { rows = T; origins = O }; starts = starts; best = best }

pub ends : (P : Project) (w nodes number : ℕ) (s : Search) (best : Best) (fills : List Fill) → Goes P w nodes s → (s.frontier ≡ []) ⊎ (nodes ≤ s.used) → number ≡ length s.starts + 1 →
    IsLowered P s.frontier s.best.end best.end → HasDuration P best.end best.plan → IfSome best.end (λ end. end ≤ 1290000) → AllZip (IsCloseOf P best.end number) s.frontier fills →
    IsEnded P w nodes s.first (ended_by (fill_rows s.table.rows fills) (fill_origins s.table.origins fills) s.starts best)
ends P w nodes number s best fills g ended e low has soon z =
    let T : List Row = s.table.rows in
    let O : List Origin = s.table.origins in
    let k = closes_of P w nodes number s best fills g low z in
    let same = expanded-closed_rows P T O g.tree s.frontier s.best.end best.end number fills k in
    let used = g.used in
    let few = g.few in
    let a = length-fill_rows T fills in
    let b = length-fill_origins O fills in
    let c = g.origins in
    record {
      tree = g.tree;
      stands = closed-stands P T O g.tree s.frontier s.best.end best.end number fills k;
      origins = omega arith;
      cites = cites-closed P T O g.tree s.frontier s.best.end best.end number fills k g.cites;
      few = omega arith;
      left = λ x at. elim ended [ inl none ↦ absurd (some-left P T O g.tree s.frontier s.best.end best.end number fills k x at none) | inr all ↦ omega arith ];
      late = λ p l m. elim ended [
        | inl none ↦ absurd (late-left P w s.first s.starts T O g.tree s.frontier s.best.end best.end number fills k g.lean p (omega arith) m none)
        | inr all ↦ inl (omega arith)
      ];
      lean = lean-closed P w s.first s.starts T O g.tree s.frontier s.best.end best.end number fills k low e g.few_in_round g.lean;
      best = has;
      soon = soon;
      narrow = narrow-left P T O g.tree s.frontier s.best.end best.end number fills k;
    }

-- The telling.

-- the number of a line that was left is that of a row
line-fate : (numbers : List ℕ) (f : RowFate) (b : ℕ) → IsClosed (row_saying f) → fate_of numbers f ≡ line.Left b → row_saying f ≡ row_late (late_left b)
line-fate numbers Open b c e = absurd c
line-fate numbers (Expanded count first) b c e = absurd (cc)
line-fate numbers Leaf b c e = absurd (cc)
line-fate numbers TailBound b c e = absurd (cc)
line-fate numbers (WorkBound k) b c e = absurd (cc)
line-fate numbers (Cited q) b c e = absurd (cc)
line-fate numbers (Left u) b c e = let same : u ≡ b = cc in ap (λ (n : ℕ). row_late (late_left n)) same
line-fate numbers (Shut (NoCapacity k)) b c e = absurd (cc)
line-fate numbers (Shut (NoBudget l)) b c e = absurd (cc)
line-fate numbers (Shut (Inefficient m)) b c e = absurd (cc)

line-left : (P : Project) (v : Verdict) (T : List Row) (ns : List TreeNode) (lines : List LogLine) → Stands P v T ns [] [] → Tells T lines → (b : ℕ) → IsLeftNumber lines b → IsLeftAt T b
line-left P v T ns lines s t b has =
    let fates : List LogLine → List Fate = λ ls. map (λ (l : LogLine). l.fate) ls in
    let i : In (fates (map (line_at t.numbers T) t.order)) (line.Left b) = subst (λ (ls : List LogLine). In (fates ls) (line.Left b)) t.are (In-from_Contains (fates lines) (line.Left b) has) in
    let x = map-In (λ (l : LogLine). l.fate) (map (line_at t.numbers T) t.order) (line.Left b) i in
    let y = map-In (line_at t.numbers T) t.order x.0 x.1 in
    let p = y.0 in
    let l = Each-In (IsPlace T) t.order p (passes-all T (whole_law P v T ns s) t.order t.walk).inside y.1 in
    let e : fate_of t.numbers (row_at T p).fate ≡ line.Left b = ap (λ (l : LogLine). l.fate) y.2 ∙ x.2 in
    record { place = p; is = line-fate t.numbers (row_at T p).fate b (none-open P v T ns s p l) e }

told_duration : (best lower : Option ℕ) → duration_of (verdict_of best lower) ≡ best
told_duration (Some d) (Some b) = refl
told_duration None (Some b) = refl
told_duration (Some d) None = refl
told_duration None None = refl

limit-left : (T : List Row) (best lower : Option ℕ) → IsLeastLeft T lower → IsLimit (verdict_of best lower) → (b : ℕ) × IsLeftAt T b
limit-left T best (Some b) least l = (b, least.attained)
limit-left T (Some d) None none l = absurd l
limit-left T None None none l = absurd l

told-round : (n : ℕ) (o : Origin) → (told_origin n o).round ≡ o.round
told-round n o = at (o.worker == 0)
  where
    at : (b : Bool) → (if b then record o { turn = n } else o).round ≡ o.round
    at true = refl
    at false = refl

pub tells : (P : Project) (w nodes : ℕ) (first lower : Option ℕ) (e : Ended) (f : Found) → nodes ≤ 100000 → IsEnded P w nodes first e → IsLeastLeft e.table.rows lower → TellsAll e.table.rows e.table.origins f.log f.origins →
    f.verdict ≡ verdict_of e.best.end lower → f.best ≡ e.best.plan → f.starts ≡ e.starts → IsFound P w first nodes f
tells P w nodes first lower e f small is least told verdict plan starts =
    let T : List Row = e.table.rows in
    let whole = whole_law P (closing e.best.end) T is.tree is.stands in
    let count = count_law T f.log whole told.lines_of in
    let few = is.few in
    let duration : duration_of f.verdict ≡ e.best.end = ap duration_of verdict ∙ told_duration e.best.end lower in
    let lean = lean_law P (closing e.best.end) T e.table.origins is.tree w first e.starts e.best.end f.log f.origins is.stands told is.lean in
    record {
      holds = report_law P e.best.end lower T is.tree f.log (report_of f) is.stands is.cites least (omega arith) told.lines_of verdict refl
          (subst (HasDuration P e.best.end) (sym plan) is.best);
      lean = subst (λ (o : Option ℕ). IsLeanLog P w first f.starts o f.log f.origins) (sym duration) (subst (λ (x : List ℕ). IsLeanLog P w first x e.best.end f.log f.origins) (sym starts) lean);
      soon = subst (λ (o : Option ℕ). IfSome o (λ d. d ≤ 1290000)) (sym duration) is.soon;
      narrow = λ b left. is.narrow b (line-left P (closing e.best.end) T is.tree f.log is.stands told.lines_of b left);
      few = omega arith;
      limit = λ l. let x = limit-left T e.best.end lower least (subst IsLimit verdict l) in let y = is.left x.0 x.1 in omega arith;
      late = λ origin c m.
          let i : In (map _ told.lines_of.order) origin = subst (λ (os : List Origin). In os origin) told.origins_of (In-from_Contains f.origins origin c) in
          let x = map-In (λ (p : ℕ). told_origin (slice_index told.lines_of.numbers p) (origin_at e.table.origins p)) told.lines_of.order origin i in
          let p = x.0 in
          let inside : p < length T = Each-In (IsPlace T) told.lines_of.order p (passes-all T whole told.lines_of.order told.lines_of.walk).inside x.1 in
          let round = ap (λ (o : Origin). o.round) x.2 in
          let own = told-round (slice_index told.lines_of.numbers p) (origin_at e.table.origins p) in
          let many = ap length starts in
          elim (is.late p inside (omega arith)) [ inl all ↦ inl (omega arith) | inr gap ↦ inr gap ];
    }

-- without its log: the one that the table would tell
pub tells_none : (P : Project) (w nodes : ℕ) (first lower : Option ℕ) (e : Ended) (report : Report) → nodes ≤ 100000 → IsEnded P w nodes first e → IsLeastLeft e.table.rows lower →
    report ≡ record { verdict = verdict_of e.best.end lower; best = e.best.plan; log = None } → IsUntold P w first nodes report
tells_none P w nodes first lower e report small is least same =
    let log = told-log e.table.rows e.table.origins (whole_law P (closing e.best.end) e.table.rows is.tree is.stands) in
    let f : Found = record { verdict = verdict_of e.best.end lower; best = e.best.plan; log = log.0; origins = log.1; starts = e.starts } in
    record { found = f; is_found = tells P w nodes first lower e f small is least log.2 refl refl refl; untold = same }

-- The root has a budget gap.

abbrev pub gap_rows : ℕ → List Row
gap_rows l = root_row (Shut (NoBudget l)) ∷ []

abbrev gap_line : ℕ → ℕ → Seen
gap_line l = seen_row (gap_rows l) (shut_root ∷ []) (after_last 1 ∷ [])

gap-said : (l p : ℕ) → p < 1 → (gap_line l p).said ≡ says_shut (NoBudget l)
gap-said l zero k = refl
gap-said l (suc p) k = absurd (omega arith)

gap-round : (l p : ℕ) → p < 1 → (gap_line l p).origin.round ≡ 1
gap-round l zero k = refl
gap-round l (suc p) k = absurd (omega arith)

gap-unexpanded : (l : ℕ) (s : Seen) → SeenAt (gap_line l) 1 s → expands_line s ≡ true → ⊥
gap-unexpanded l s x e =
    let none : expands_line s ≡ false = ap expands (sym (ap (λ (z : Seen). z.said) x.is) ∙ gap-said l x.place x.within) in
    let bad : false ≡ true = sym none ∙ e in
    cc

gap-says : (l p q : ℕ) → says_at (gap_rows l) p ≡ row_cites q → ⊥
gap-says l zero q e = cc
gap-says l (suc p) q e = cc

gap-left : (l b : ℕ) → IsLeftAt (gap_rows l) b → ⊥
gap-left l b at = apart at.place at.is
  where
    apart : (p : ℕ) → says_at (gap_rows l) p ≡ row_late (late_left b) → ⊥
    apart zero e = cc
    apart (suc p) e = cc

gap-few : (l p : ℕ) → IsExpandedAt (gap_rows l) p → ⊥
gap-few l zero e = let bad = e.is in cc
gap-few l (suc p) e = let bad = e.is in cc

gap-lean : (P : Project) (w l : ℕ) (first : Option ℕ) → IsLean P w first [] first (seen_rows (gap_rows l) (shut_root ∷ []) (after_last 1 ∷ []))
gap-lean P w l first = record {
  begun = λ s c e. absurd (gap-unexpanded l s (seen-at (gap_line l) 1 s c) e);
  closed = λ s c e. let x = seen-at (gap_line l) 1 s c in sym (ap (λ (z : Seen). z.origin.round) x.is) ∙ gap-round l x.place x.within;
  few = λ n. let z = few-none (gap_rows l) (shut_root ∷ []) (after_last 1 ∷ []) n (gap-few l) in omega arith;
  one = λ i j s t gi gj es et same. absurd (
      let a = get-seen (gap_line l) 0 1 i s gi in
      let z : 0 + i ≡ i = omega arith in
      gap-unexpanded l s (record { place = i; within = a.0; is = ap (gap_line l) (sym z) ∙ a.1 }) es);
  new = λ s t F A cs ct es. absurd (gap-unexpanded l s (seen-at (gap_line l) 1 s cs) es);
  parents = λ s t F c cs ct et. absurd (gap-unexpanded l t (seen-at (gap_line l) 1 t ct) et);
  starts_least = λ i k. absurd (omega arith);
  duration_least = record { attained = of_first refl; least = least };
}
  where
    least : (u : ℕ) → IsEnd P first (Contains (seen_rows (gap_rows l) (shut_root ∷ []) (after_last 1 ∷ []))) u → end_number first ≤ u
    least u (of_first e) = omega arith
    least u (of_leaf s F c said front e) = absurd (
        let x = seen-at (gap_line l) 1 s c in
        let shut : s.said ≡ says_shut (NoBudget l) = sym (ap (λ (z : Seen). z.said) x.is) ∙ gap-said l x.place x.within in
        let bad : says_shut (NoBudget l) ≡ says_late late_leaf = sym shut ∙ said in
        cc)

pub gap_ends : (P : Project) (w nodes l : ℕ) (best : Best) → IsBudgetGap P [] l → HasDuration P best.end best.plan → IfSome best.end (λ end. end ≤ 1290000) → IsEnded P w nodes best.end (ended_by (gap_rows l) (after_last 1 ∷ []) [] best)
gap_ends P w nodes l best gap has soon = record {
  tree = shut_root ∷ [];
  stands = gap_law P (closing best.end) l gap;
  origins = refl;
  cites = λ p q F e. absurd (gap-says l p q e);
  few = omega arith;
  left = λ b at. absurd (gap-left l b at);
  late = λ p k m. inr (l, gap);
  lean = gap-lean P w l best.end;
  best = has;
  soon = soon;
  narrow = λ b at. absurd (gap-left l b at);
}

-- two ends with the same parts
pub same_ended : (e f : Ended) → e.table.rows ≡ f.table.rows → e.table.origins ≡ f.table.origins → e.starts ≡ f.starts → e.best ≡ f.best → e ≡ f
same_ended e f a b c d =
    ap (λ (x : List Row). ended_by x e.table.origins e.starts e.best) a
    ∙ (ap (λ (x : List Origin). ended_by f.table.rows x e.starts e.best) b
    ∙ (ap (λ (x : List ℕ). ended_by f.table.rows f.table.origins x e.best) c ∙ ap (λ (x : Best). ended_by f.table.rows f.table.origins f.starts x) d))
