-- The lines of an index: one record more, and the first place that dominates.
use Rattle.std.proofs.Common.{◌≡◌, ℕ, zero, suc, ◌+◌, ◌<◌, ◌≤◌, arith, inl, inr, refl, sym, ap, subst, ◌∙◌, List, [], ◌∷◌, ◌++◌, length, get_or, take, drop, length-append, drop-cons}
use Rattle.std.specs.Prelude.{nat_eq, ◌↔◌, Option, Some, None, IsNone, IfSome, IfNone, All, Contains}
use Rattle.std.specs.HashMap.{get}
use Rattle.std.proofs.lemmas.Bool.{cases_lt, cases_eq}
use Rattle.std.proofs.lemmas.List.{get_or_append_left, get_or_push, get_or_default, length-take, take_all, take-append-le, drop_all, drop-append-le}
use Rattle.std.proofs.lemmas.List.Elements.{All-get_or, All-from_get_or, Contains-get_or, Contains-append_left, Contains-push, Contains-push_cases}
use Rattle.sched_base.specs.declared.job_set.JobSet.{JobSet}
use Rattle.sched_base.proofs.Sets.{same_set}
use Rattle.rcpsp_model.specs.declared.parts.Entry.{Entry}
use Rattle.rcpsp_model.specs.Project.{Project, IsAcyclic}
use Rattle.rcpsp_model.specs.Chain.{IsLeast}
use Rattle.rcpsp_model.specs.Dominance.{Dominates}
use Rattle.rcpsp_model.specs.Tree.{has_job, IsFront}
use Rattle.precedence_tree.specs.declared.active.Active.{Active}
use Rattle.precedence_tree.specs.declared.base.Base.{Base}
use Rattle.precedence_tree.specs.Base.{IsBaseOf}
use Rattle.precedence_tree.specs.Frontier.{HasJobs}
use Rattle.cutset_store.specs.declared.facts.RecordFacts.{RecordFacts}
use Rattle.cutset_store.specs.declared.facts.NodeFacts.{NodeFacts}
use Rattle.cutset_store.specs.declared.row.Row.{Row}
use Rattle.cutset_store.specs.declared.table.Table.{Table}
use Rattle.cutset_store.specs.Line.{LineState, empty_line, IsRowOf, IsRowAt, AreInLine, Appends}
use Rattle.cutset_store.specs.Table.{IsTable, line_in, line_at, Enters}
use Rattle.cutset_store.specs.Index.{DominatesAt, ArePlaces, IsLineOf, places_in, fronts_of, IsIndexed}
use Rattle.cutset_store.specs.Facts.{AreOfRecord, AreOfFront}
use Rattle.cutset_store.specs.Parts.{Beats}
use Rattle.cutset_store.proofs.Compared.{beats-exactly}
use Rattle.cutset_store.proofs.JobSets.{same_jobs}
use Rattle.cutset_store.proofs.Tables.{at-default}

abbrev front_at : List (List Entry) → ℕ → List Entry
front_at fronts i = get_or fronts i []

-- in the place i stands a front that has exactly the jobs of the set
abbrev HasJobsAt : List (List Entry) → JobSet → ℕ → Type 0
HasJobsAt fronts set i = (i < length fronts) × HasJobs (front_at fronts i) set

length-push : {X : Type 0} (xs : List X) (x : X) → length (xs ++ x ∷ []) ≡ length xs + 1
length-push xs x = length-append xs (x ∷ [])

-- the places of the fronts before it stay, also where one front more is appended
at-longer : (fronts : List (List Entry)) (F : List Entry) (set : JobSet) (i : ℕ) → HasJobsAt fronts set i → HasJobsAt (fronts ++ F ∷ []) set i
at-longer fronts F set i h = (
  let l = length-push fronts F in let low = h.0 in omega arith,
  subst (λ (G : List Entry). HasJobs G set) (sym (get_or_append_left fronts (F ∷ []) [] i h.0)) h.1,
)

at-shorter : (fronts : List (List Entry)) (F : List Entry) (set : JobSet) (i : ℕ) → i < length fronts → HasJobsAt (fronts ++ F ∷ []) set i → HasJobsAt fronts set i
at-shorter fronts F set i low h = (low, subst (λ (G : List Entry). HasJobs G set) (get_or_append_left fronts (F ∷ []) [] i low) h.1)

-- the last place is that of the new front
at-last : (fronts : List (List Entry)) (F : List Entry) (set : JobSet) (i : ℕ) → HasJobsAt (fronts ++ F ∷ []) set i → length fronts ≤ i → (i ≡ length fronts) × HasJobs F set
at-last fronts F set i h high =
    let l = length-push fronts F in
    let is : i ≡ length fronts = let low = h.0 in omega arith in
    (is, subst (λ (G : List Entry). HasJobs G set) (get_or_push fronts F [] i (sym is)) h.1)

places-here : (fronts : List (List Entry)) (F : List Entry) (set : JobSet) (ps : List ℕ) → ArePlaces fronts set ps → HasJobs F set → ArePlaces (fronts ++ F ∷ []) set (ps ++ length fronts ∷ [])
places-here fronts F set ps are has = record {
  ascending = λ i j d before within.
      let l = length-push ps (length fronts) in
      elim (cases_lt j (length ps)) [
        | inl low ↦
            let a = get_or_append_left ps (length fronts ∷ []) d i (omega arith) in
            let b = get_or_append_left ps (length fronts ∷ []) d j low in
            let old = are.ascending i j d before low in omega arith
        | inr high ↦
            let at : length ps ≡ j = omega arith in
            let a = get_or_append_left ps (length fronts ∷ []) d i (omega arith) in
            let b = get_or_push ps (length fronts) d j at in
            let old = ((are.all (get_or ps i d)).0 (Contains-get_or ps i d (omega arith))).0 in omega arith
      ];
  all = λ i. (
    λ c. elim (Contains-push_cases ps (length fronts) i c) [
      | inl old ↦ at-longer fronts F set i ((are.all i).0 old)
      | inr e ↦ (let l = length-push fronts F in omega arith, subst (λ (G : List Entry). HasJobs G set) (sym (get_or_push fronts F [] i e)) has)
    ],
    λ h. elim (cases_lt i (length fronts)) [
      | inl low ↦ Contains-append_left ps (length fronts ∷ []) i ((are.all i).1 (at-shorter fronts F set i low h))
      | inr high ↦ subst (Contains (ps ++ length fronts ∷ [])) (sym (at-last fronts F set i h high).0) (Contains-push ps (length fronts))
    ],
  );
}

places-elsewhere : (fronts : List (List Entry)) (F : List Entry) (set : JobSet) (ps : List ℕ) → ArePlaces fronts set ps → (HasJobs F set → ⊥) → ArePlaces (fronts ++ F ∷ []) set ps
places-elsewhere fronts F set ps are lacks = record {
  ascending = are.ascending;
  all = λ i. (
    λ c. at-longer fronts F set i ((are.all i).0 c),
    λ h. elim (cases_lt i (length fronts)) [
      | inl low ↦ (are.all i).1 (at-shorter fronts F set i low h)
      | inr high ↦ absurd (lacks (at-last fronts F set i h high).1)
    ],
  );
}

fronts-push : (bases : List Base) (b : Base) → fronts_of (bases ++ b ∷ []) ≡ fronts_of bases ++ b.front ∷ []
fronts-push [] b = refl
fronts-push (x ∷ bases) b = ap (λ (fs : List (List Entry)). x.front ∷ fs) (fronts-push bases b)

places-push : (rows : List Row) (row : Row) → places_in (rows ++ row ∷ []) ≡ places_in rows ++ row.place ∷ []
places-push [] row = refl
places-push (x ∷ rows) row = ap (λ (ps : List ℕ). x.place ∷ ps) (places-push rows row)

pub fronts-length : (bases : List Base) → length (fronts_of bases) ≡ length bases
fronts-length [] = refl
fronts-length (x ∷ bases) = ap suc (fronts-length bases)

pub places-length : (rows : List Row) → length (places_in rows) ≡ length rows
places-length [] = refl
places-length (x ∷ rows) = ap suc (places-length rows)

-- the place of a row
pub places-at : (rows : List Row) (i : ℕ) (d : Row) → i < length rows → get_or (places_in rows) i 0 ≡ (get_or rows i d).place
places-at [] i d low = absurd (omega arith)
places-at (x ∷ rows) zero d low = refl
places-at (x ∷ rows) (suc i) d low = places-at rows i d (let more : length (x ∷ rows) ≡ suc (length rows) = refl in omega arith)

-- the front in a place
pub fronts-at : (bases : List Base) (i : ℕ) (d : Base) → i < length bases → get_or (fronts_of bases) i [] ≡ (get_or bases i d).front
fronts-at [] i d low = absurd (omega arith)
fronts-at (x ∷ bases) zero d low = refl
fronts-at (x ∷ bases) (suc i) d low = fronts-at bases i d (let more : length (x ∷ bases) ≡ suc (length bases) = refl in omega arith)

row-longer : (bases : List Base) (b : Base) (width : ℕ) (row : Row) (used : List ℕ) (xs : List Active) → IsRowAt bases width row used xs → IsRowAt (bases ++ b ∷ []) width row used xs
row-longer bases b width row used xs at = record {
  within = let l = length-push bases b in let low = at.within in omega arith;
  wide = at.wide;
  count = at.count;
  row_of = λ d. subst (λ (x : Base). IsRowOf x row used xs) (sym (get_or_append_left bases (b ∷ []) d row.place at.within)) (at.row_of d);
}

row-last : (bases : List Base) (b : Base) (width : ℕ) (row : Row) (used : List ℕ) (xs : List Active) → row.place ≡ length bases → length used ≡ width → row.active ≡ length xs → IsRowOf b row used xs → IsRowAt (bases ++ b ∷ []) width row used xs
row-last bases b width row used xs place wide count is = record {
  within = let l = length-push bases b in omega arith;
  wide = wide;
  count = count;
  row_of = λ d. subst (λ (x : Base). IsRowOf x row used xs) (sym (get_or_push bases b d row.place (sym place))) is;
}

-- the rows stay those of their records where one record more is appended
line-longer : (bases : List Base) (b : Base) (width : ℕ) (rows : List Row) (used : List ℕ) (xs : List Active) → AreInLine bases width rows used xs → AreInLine (bases ++ b ∷ []) width rows used xs
line-longer bases b width [] used xs h = h
line-longer bases b width (row ∷ rows) used xs h = (row-longer bases b width row (take width used) (take row.active xs) h.0, line-longer bases b width rows (drop width used) (drop row.active xs) h.1)

pub long-enough : {X : Type 0} (n : ℕ) (xs : List X) → length (take n xs) ≡ n → n ≤ length xs
long-enough n xs e = let size = length-take n xs in omega arith

-- one row more in a line
line-push : (bases : List Base) (width : ℕ) (row : Row) (own : List ℕ) (ys : List Active) → IsRowAt bases width row own ys → (rows : List Row) (used : List ℕ) (xs : List Active) → AreInLine bases width rows used xs →
    AreInLine bases width (rows ++ row ∷ []) (used ++ own) (xs ++ ys)
line-push bases width row own ys at [] used xs h = (
  subst (λ (ns : List ℕ). IsRowAt bases width row ns (take row.active (xs ++ ys))) (sym needs) (subst (λ (zs : List Active). IsRowAt bases width row own zs) (sym active) at),
  (ap (λ (ns : List ℕ). drop width (ns ++ own)) h.0 ∙ drop_all width own (let size = at.wide in omega arith), ap (λ (zs : List Active). drop row.active (zs ++ ys)) h.1 ∙ drop_all row.active ys (let size = at.count in omega arith)),
)
  where
    needs : take width (used ++ own) ≡ own
    needs = ap (λ (ns : List ℕ). take width (ns ++ own)) h.0 ∙ take_all width own (let size = at.wide in omega arith)

    active : take row.active (xs ++ ys) ≡ ys
    active = ap (λ (zs : List Active). take row.active (zs ++ ys)) h.1 ∙ take_all row.active ys (let size = at.count in omega arith)
line-push bases width row own ys at (r ∷ rows) used xs h = (
  subst (λ (ns : List ℕ). IsRowAt bases width r ns (take r.active (xs ++ ys))) (sym (take-append-le width used own wide)) (subst (λ (zs : List Active). IsRowAt bases width r (take width used) zs) (sym (take-append-le r.active xs ys many)) h.0),
  subst (λ (ns : List ℕ). AreInLine bases width (rows ++ row ∷ []) ns (drop r.active (xs ++ ys))) (sym (drop-append-le width used own wide))
      (subst (λ (zs : List Active). AreInLine bases width (rows ++ row ∷ []) (drop width used ++ own) zs) (sym (drop-append-le r.active xs ys many)) (line-push bases width row own ys at rows (drop width used) (drop r.active xs) h.1)),
)
  where
    wide : width ≤ length used
    wide = long-enough width used h.0.wide

    many : r.active ≤ length xs
    many = long-enough r.active xs (sym h.0.count)

-- the line of a set with one row more, or with a record more that has other jobs
line-here : (bases : List Base) (b : Base) (width : ℕ) (set : JobSet) (old new : LineState) (row : Row) (used : List ℕ) (xs : List Active) → IsLineOf bases width set old → HasJobs b.front set → row.place ≡ length bases → IsRowAt (bases ++ b ∷ []) width row used xs →
    Appends old new row used xs → IsLineOf (bases ++ b ∷ []) width set new
line-here bases b width set old new row used xs line has place at more = record {
  places = subst (λ (fs : List (List Entry)). ArePlaces fs set (places_in new.rows)) (sym (fronts-push bases b))
      (subst (λ (rs : List Row). ArePlaces (fronts_of bases ++ b.front ∷ []) set (places_in rs)) (sym more.rows)
      (subst (ArePlaces (fronts_of bases ++ b.front ∷ []) set) (sym (places-push old.rows row))
      (subst (λ n. ArePlaces (fronts_of bases ++ b.front ∷ []) set (places_in old.rows ++ n ∷ [])) (fronts-length bases ∙ sym place)
      (places-here (fronts_of bases) b.front set (places_in old.rows) line.places has))));
  each = subst (λ (rs : List Row). AreInLine (bases ++ b ∷ []) width rs new.needs new.active) (sym more.rows)
      (subst (λ (ns : List ℕ). AreInLine (bases ++ b ∷ []) width (old.rows ++ row ∷ []) ns new.active) (sym more.needs)
      (subst (λ (zs : List Active). AreInLine (bases ++ b ∷ []) width (old.rows ++ row ∷ []) (old.needs ++ used) zs) (sym more.active)
      (line-push (bases ++ b ∷ []) width row used xs at old.rows old.needs old.active (line-longer bases b width old.rows old.needs old.active line.each))));
}

line-elsewhere : (bases : List Base) (b : Base) (width : ℕ) (set : JobSet) (line : LineState) → IsLineOf bases width set line → (HasJobs b.front set → ⊥) → IsLineOf (bases ++ b ∷ []) width set line
line-elsewhere bases b width set line is lacks = record {
  places = subst (λ (fs : List (List Entry)). ArePlaces fs set (places_in line.rows)) (sym (fronts-push bases b)) (places-elsewhere (fronts_of bases) b.front set (places_in line.rows) is.places lacks);
  each = line-longer bases b width line.rows line.needs line.active is.each;
}

-- one record more, whose row is entered at the set of its jobs
pub indexed-push : (bases : List Base) (b : Base) (width : ℕ) (old new : Table) (set : JobSet) (row : Row) (used : List ℕ) (xs : List Active) → IsIndexed bases width old → length bases < 4294967295 → HasJobs b.front set →
    row.place ≡ length bases → length used ≡ width → row.active ≡ length xs → IsRowOf b row used xs → IsTable new → Enters old new set row used xs → IsIndexed (bases ++ b ∷ []) width new
indexed-push bases b width old new set row used xs indexed room has place wide count is table enters = record {
  few = let l = length-push bases b in omega arith;
  narrow = indexed.narrow;
  table = table;
  lines = λ s. elim (cases_eq s.0 set.0) [
    | inl e ↦
        let same : s ≡ set = ap (λ n. (let r : JobSet = record { 0 = n } in r)) e in
        subst (λ (t : JobSet). IsLineOf (bases ++ b ∷ []) width t (line_at new t)) (sym same)
        (line-here bases b width set (line_at old set) (line_at new set) row used xs (indexed.lines set) has place (row-last bases b width row used xs place wide count is) enters.here)
    | inr ne ↦
        let apart : s ≡ set → ⊥ = λ e. ne (ap (λ (t : JobSet). t.0) e) in
        subst (IsLineOf (bases ++ b ∷ []) width s) (sym (enters.others s apart))
        (line-elsewhere bases b width s (line_at old s) (indexed.lines s) (λ own. apart (same_set s set (λ i low. own i low ∙ sym (has i low)))))
  ];
}

pub indexed-same : (bases : List Base) (width : ℕ) (old new : Table) → IsIndexed bases width old → IsTable new → ((s : JobSet) → line_at new s ≡ line_at old s) → IsIndexed bases width new
indexed-same bases width old new indexed table same = record {
  few = indexed.few;
  narrow = indexed.narrow;
  table = table;
  lines = λ s. subst (IsLineOf bases width s) (sym (same s)) (indexed.lines s);
}

-- an index without a record
pub indexed-none : (width : ℕ) (t : Table) → width ≤ 16 → IsTable t → ((s : JobSet) → line_at t s ≡ empty_line s) → IsIndexed [] width t
indexed-none width t narrow table none = record {
  few = omega arith;
  narrow = narrow;
  table = table;
  lines = λ s. subst (IsLineOf [] width s) (sym (none s)) (record {
    places = record { ascending = λ i j d before within. absurd (omega arith); all = λ i. (λ c. absurd (let low = c.1 in omega arith), λ h. absurd (let low = h.0 in omega arith)) };
    each = (refl, refl);
  });
}

-- what a look-up finds
pub line-found : (bases : List Base) (width : ℕ) (t : Table) (set : JobSet) (place : ℕ) (line : LineState) → IsIndexed bases width t → Some place ≡ get nat_eq t.places set.0 → line ≡ get_or t.lines.items place line → IsLineOf bases width set line
line-found bases width t set place line indexed found is =
    let has = indexed.table.own set.0 place (sym found) in
    subst (IsLineOf bases width set) (ap (λ (o : Option ℕ). line_in t.lines.items o set) (sym found) ∙ at-default t.lines.items set.0 place (empty_line set) line has ∙ sym is) (indexed.lines set)

pub places-none : (bases : List Base) (width : ℕ) (t : Table) (set : JobSet) → IsIndexed bases width t → None ≡ get nat_eq t.places set.0 → ArePlaces (fronts_of bases) set []
places-none bases width t set indexed none =
    (subst (IsLineOf bases width set) (ap (λ (o : Option ℕ). line_in t.lines.items o set) (sym none)) (indexed.lines set)).places

-- Where the places are those of the jobs of B, a front that dominates B stands in one of them.
place-of : (P : Project) (fronts : List (List Entry)) (B : List Entry) (set : JobSet) (ps : List ℕ) → HasJobs B set → ArePlaces fronts set ps → (u : ℕ) → DominatesAt P fronts B u → Contains ps u
place-of P fronts B set ps has are u d = (are.all u).1 (d.within, λ i low. has i low ∙ sym (d.dominates.jobs i))

Contains-at : (ps : List ℕ) (u : ℕ) (c : Contains ps u) → get_or ps c.0 0 ≡ u
Contains-at ps u c = get_or_default ps c.0 0 u c.1 ∙ c.2

-- none of them dominates, up to a place among them
abbrev pub NoneBefore : Project → List (List Entry) → List Entry → List ℕ → ℕ → Type 0
NoneBefore P fronts B ps n = (k : ℕ) → k < n → DominatesAt P fronts B (get_or ps k 0) → ⊥

pub none-dominates : (P : Project) (fronts : List (List Entry)) (B : List Entry) (set : JobSet) (ps : List ℕ) → HasJobs B set → ArePlaces fronts set ps → (n : ℕ) → length ps ≤ n → NoneBefore P fronts B ps n →
    (u : ℕ) → DominatesAt P fronts B u → ⊥
none-dominates P fronts B set ps has are n all none u d =
    let p = place-of P fronts B set ps has are u d in
    none p.0 (let low = p.1 in omega arith) (subst (DominatesAt P fronts B) (sym (Contains-at ps u p)) d)

pub first-dominates : (P : Project) (fronts : List (List Entry)) (B : List Entry) (set : JobSet) (ps : List ℕ) → HasJobs B set → ArePlaces fronts set ps → (n : ℕ) → n < length ps → NoneBefore P fronts B ps n →
    DominatesAt P fronts B (get_or ps n 0) → IsLeast (DominatesAt P fronts B) (get_or ps n 0)
first-dominates P fronts B set ps has are n within none here = record {
  attained = here;
  least = λ u d.
      let p = place-of P fronts B set ps has are u d in
      let at = Contains-at ps u p in
      elim (cases_lt p.0 n) [
        | inl before ↦ absurd (none p.0 before (subst (DominatesAt P fronts B) (sym at) d))
        | inr from ↦ elim (cases_eq n p.0) [
          | inl e ↦ let same = ap (λ k. get_or ps k 0) e in omega arith
          | inr ne ↦ let up = are.ascending n p.0 0 (omega arith) p.1 in omega arith
        ]
      ];
}

-- nothing is found exactly where none dominates
pub none-exactly : (P : Project) (fronts : List (List Entry)) (B : List Entry) (o : Option ℕ) → IfSome o (IsLeast (DominatesAt P fronts B)) → IfNone o ((i : ℕ) → DominatesAt P fronts B i → ⊥) →
    IsNone o ↔ All (λ A. Dominates P A B → ⊥) fronts
none-exactly P fronts B None first none = (
  λ e. All-from_get_or (λ (A : List Entry). Dominates P A B → ⊥) fronts [] (λ i low d. none i (record { within = low; dominates = d })),
  λ all. refl,
)
none-exactly P fronts B (Some i) first none = (
  λ e. cc,
  λ all. absurd (All-get_or (λ (A : List Entry). Dominates P A B → ⊥) fronts i [] first.attained.within all first.attained.dominates),
)

-- The rows of a line, one after another.

abbrev pub no_row : Row
no_row = record { place = 0; last = 0; end = 0; active = 0 }

-- the next row and what stands beside it, and the rows after it
pub next-row : (bases : List Base) (width : ℕ) (rows : List Row) (used : List ℕ) (xs : List Active) (i : ℕ) → i < length rows → AreInLine bases width (drop i rows) used xs →
    IsRowAt bases width (get_or rows i no_row) (take width used) (take (get_or rows i no_row).active xs) × AreInLine bases width (drop (i + 1) rows) (drop width used) (drop (get_or rows i no_row).active xs)
next-row bases width rows used xs i low h =
    let both = subst (λ (rs : List Row). AreInLine bases width rs used xs) (drop-cons rows i no_row low) h in
    (both.0, subst (λ k. AreInLine bases width (drop k rows) (drop width used) (drop (get_or rows i no_row).active xs)) (let e : suc i ≡ i + 1 = omega arith in e) both.1)

-- A record beats a node exactly where it dominates in the place of its row.
module _ (P : Project) (bases : List Base) (width : ℕ) (set : JobSet) (rows : List Row) (used : List ℕ) (xs : List Active) (i : ℕ) (b : Base) (bases_of : All (IsBaseOf P) bases) (places : ArePlaces (fronts_of bases) set (places_in rows)) (low : i < length rows) (line : AreInLine bases width (drop i rows) used xs) (is : b ≡ get_or bases (get_or rows i no_row).place b) where
  row_within : (get_or rows i no_row).place < length bases
  row_within = (next-row bases width rows used xs i low line).0.within

  pub row-base : IsBaseOf P b
  row-base = subst (IsBaseOf P) (sym is) (All-get_or (IsBaseOf P) bases (get_or rows i no_row).place b row_within bases_of)

  row-front : get_or (fronts_of bases) (get_or (places_in rows) i 0) [] ≡ b.front
  row-front = ap (λ p. get_or (fronts_of bases) p []) (places-at rows i no_row low) ∙ fronts-at bases (get_or rows i no_row).place b row_within ∙ ap (λ (x : Base). x.front) (sym is)

  row-jobs : (F : List Entry) → IsFront P F → HasJobs F set → (j : ℕ) → has_job b.front j ≡ has_job F j
  row-jobs F f has =
      let place = (places.all (get_or (places_in rows) i 0)).0 (Contains-get_or (places_in rows) i 0 (let size = places-length rows in omega arith)) in
      same_jobs P b.front F set set row-base.front f (subst (λ (G : List Entry). HasJobs G set) row-front place.1) has refl

  pub row-beats : IsAcyclic P → (F : List Entry) (x : RecordFacts) (y : NodeFacts) → IsFront P F → HasJobs F set → AreOfRecord P b x → AreOfFront P F y → Beats P x y ↔ DominatesAt P (fronts_of bases) F (get_or (places_in rows) i 0)
  row-beats acyclic F x y f has of_x of_y =
      let exactly = beats-exactly P acyclic b F x y row-base f of_x of_y (row-jobs F f has) in (
        λ h. record {
          within = let at = places-at rows i no_row low in let size = fronts-length bases in let within = row_within in omega arith;
          dominates = subst (λ (A : List Entry). Dominates P A F) (sym row-front) (exactly.0 h);
        },
        λ d. exactly.1 (subst (λ (A : List Entry). Dominates P A F) row-front d.dominates),
      )

-- one row further
pub none-more : (P : Project) (fronts : List (List Entry)) (B : List Entry) (ps : List ℕ) (n : ℕ) → (DominatesAt P fronts B (get_or ps n 0) → ⊥) → NoneBefore P fronts B ps n → NoneBefore P fronts B ps (n + 1)
none-more P fronts B ps n here none k low d = elim (cases_eq k n) [
  | inl e ↦ here (subst (λ i. DominatesAt P fronts B (get_or ps i 0)) e d)
  | inr ne ↦ none k (omega arith) d
]
