-- What there is of a renewable resource in a period, by the rows of the calendar.
use Rattle.std.proofs.Common.{◌≡◌, ℕ, ◌-◌, ◌<◌, ◌≤◌, max, min, inl, inr, arith, refl, sym, ap, ◌∙◌, subst, List, [], ◌∷◌, Bool, true, eqb, leb, ltb, ◌&&◌}
use Rattle.std.specs.Prelude.{fold, filter, slice_index}
use Rattle.std.proofs.lemmas.Bool.{and_parts, and_from, eqb-true, eq-eqb, leb-true, le-leb, ltb-true, lt-ltb}
use Rattle.rcpsp_model.specs.declared.parts.CalRow.{CalRow}
use Rattle.rcpsp_model.specs.Project.{Project, capacity, MayPrecede, IsInOrder, IsRowWithinLimits}
use Rattle.rcpsp_model.specs.Schedule.{covers, cap, calm}
use Rattle.rcpsp_model.specs.Laws.{RowLaw, OtherPeriodLaw, CapLaw, WholeLaw, CalmLaw}
use Rattle.rcpsp_model.proofs.Lists.{In, In-All, In-from_Contains, Contains-from_In, filter-In, In-filter}

-- The least of a number and the rows' capacities, and the greatest of a number and their ends.
abbrev pub least_of : ℕ → List CalRow → ℕ
least_of c rows = fold (λ least row. min least row.capacity) c rows

abbrev greatest_of : ℕ → List CalRow → ℕ
greatest_of n rows = fold (λ greatest row. max greatest row.until) n rows

least_of-le : (c : ℕ) (rows : List CalRow) → least_of c rows ≤ c
least_of-le c [] = omega arith
least_of-le c (row ∷ rows) = let ih = least_of-le (min c row.capacity) rows in omega arith

-- rows that all have one capacity leave it, where it is no more than the number
least_of-one : (x c : ℕ) (rows : List CalRow) → ((row : CalRow) → In rows row → row.capacity ≡ x) → x ≤ c → (rows ≡ [] → c ≡ x) → least_of c rows ≡ x
least_of-one x c [] same le empty = empty refl
least_of-one x c (row ∷ rows) same le empty =
    let own = same row (inl refl) in
    let now : min c row.capacity ≡ x = omega arith in
    least_of-one x (min c row.capacity) rows (λ r i. same r (inr i)) (omega arith) (λ _. now)

greatest_of-le : (n m : ℕ) (rows : List CalRow) → n ≤ m → ((row : CalRow) → In rows row → row.until ≤ m) → greatest_of n rows ≤ m
greatest_of-le n m [] le each = le
greatest_of-le n m (row ∷ rows) le each = let own = each row (inl refl) in greatest_of-le (max n row.until) m rows (omega arith) (λ r i. each r (inr i))

greatest_of-own : (n : ℕ) (rows : List CalRow) → n ≤ greatest_of n rows
greatest_of-own n [] = omega arith
greatest_of-own n (row ∷ rows) = let ih = greatest_of-own (max n row.until) rows in omega arith

greatest_of-In : (n : ℕ) (rows : List CalRow) (row : CalRow) → In rows row → row.until ≤ greatest_of n rows
greatest_of-In n [] row i = absurd i
greatest_of-In n (r ∷ rows) row (inl e) = let same = ap (λ (x : CalRow). x.until) e in let own = greatest_of-own (max n r.until) rows in omega arith
greatest_of-In n (r ∷ rows) row (inr i) = greatest_of-In (max n r.until) rows row i

pub until-calm : (P : Project) (row : CalRow) → In P.calendar row → row.until ≤ calm P
unfolding calm
until-calm P row i = greatest_of-In 0 P.calendar row i

-- Rows that have a period.
pub covers-parts : (k t : ℕ) (row : CalRow) → covers k t row ≡ true → (row.resource ≡ k) × (row.begin ≤ t) × (t < row.until)
covers-parts k t row h =
    let a = and_parts (eqb row.resource k) (leb row.begin t && ltb t row.until) h in
    let b = and_parts (leb row.begin t) (ltb t row.until) a.1 in
    (eqb-true row.resource k a.0, leb-true row.begin t b.0, ltb-true t row.until b.1)

pub covers-from : (k t : ℕ) (row : CalRow) → row.resource ≡ k → row.begin ≤ t → t < row.until → covers k t row ≡ true
covers-from k t row e low high = and_from (eqb row.resource k) _ (eq-eqb row.resource k e) (and_from (leb row.begin t) _ (le-leb row.begin t low) (lt-ltb t row.until high))

none-filtered : (p : CalRow → Bool) (rows : List CalRow) → ((row : CalRow) → In rows row → p row ≡ true → ⊥) → filter p rows ≡ []
none-filtered p rows none = empty (filter p rows) (λ row i. let both = In-filter p rows row i in none row both.0 both.1)
  where
    empty : (xs : List CalRow) → ((row : CalRow) → In xs row → ⊥) → xs ≡ []
    empty [] h = refl
    empty (x ∷ xs) h = absurd (h x (inl refl))

-- The rows of an ordered calendar.
abbrev HavePeriods : List CalRow → Type 0
HavePeriods rows = (row : CalRow) → In rows row → row.begin < row.until

-- each later row may stand after the first
precede-later : (a : CalRow) (rows : List CalRow) → IsInOrder (a ∷ rows) → HavePeriods rows → (b : CalRow) → In rows b → MayPrecede a b
precede-later a [] o h b i = absurd i
precede-later a (r ∷ rows) o h b (inl e) = subst (MayPrecede a) e o.0
precede-later a (r ∷ rows) o h b (inr i) = between o.0 (precede-later r rows o.1 (λ x j. h x (inr j)) b i)
  where
    some : r.begin < r.until
    some = h r (inl refl)

    between : MayPrecede a r → MayPrecede r b → MayPrecede a b
    between (inl x) (inl y) = inl (omega arith)
    between (inl x) (inr y) = let same = y.0 in inl (omega arith)
    between (inr x) (inl y) = let same = x.0 in inl (omega arith)
    between (inr x) (inr y) = let z = some in let over = x.1 in let next = y.1 in inr (x.0 ∙ y.0, omega arith)

later-order : (a : CalRow) (rows : List CalRow) → IsInOrder (a ∷ rows) → IsInOrder rows
later-order a [] o = tt
later-order a (r ∷ rows) o = o.1

-- the first of two such rows doesn't have a period of the second
apart : (k t : ℕ) (a b : CalRow) → MayPrecede a b → covers k t a ≡ true → covers k t b ≡ true → ⊥
apart k t a b (inl low) ca cb = let x = (covers-parts k t a ca).0 in let y = (covers-parts k t b cb).0 in omega arith
apart k t a b (inr same) ca cb = let x = (covers-parts k t a ca).2 in let y = (covers-parts k t b cb).1 in let z = same.1 in omega arith

-- no two rows of one resource have a period together
one-covers : (k t : ℕ) (rows : List CalRow) → IsInOrder rows → HavePeriods rows → (a b : CalRow) → In rows a → In rows b → covers k t a ≡ true → covers k t b ≡ true → a ≡ b
one-covers k t [] o h a b i j ca cb = absurd i
one-covers k t (r ∷ rows) o h a b (inl e) (inl f) ca cb = sym e ∙ f
one-covers k t (r ∷ rows) o h a b (inl e) (inr j) ca cb =
    absurd (apart k t r b (precede-later r rows o (λ x i. h x (inr i)) b j) (subst (λ (x : CalRow). covers k t x ≡ true) (sym e) ca) cb)
one-covers k t (r ∷ rows) o h a b (inr i) (inl f) ca cb =
    absurd (apart k t r a (precede-later r rows o (λ x i. h x (inr i)) a i) (subst (λ (x : CalRow). covers k t x ≡ true) (sym f) cb) ca)
one-covers k t (r ∷ rows) o h a b (inr i) (inr j) ca cb = one-covers k t rows (later-order r rows o) (λ x z. h x (inr z)) a b i j ca cb

-- The laws.
pub cap_law : CapLaw
unfolding cap
cap_law P k t = least_of-le (capacity P k) (filter (covers k t) P.calendar)

pub other_period_law : OtherPeriodLaw
unfolding cap
other_period_law P k t none =
    ap (least_of (capacity P k)) (none-filtered (covers k t) P.calendar (λ row i c.
    let p = covers-parts k t row c in none row (Contains-from_In P.calendar row i) p.0 p.1 p.2))

pub whole_law : WholeLaw
whole_law P k t h = other_period_law P k t (λ row i e low high. let over = until-calm P row (In-from_Contains P.calendar row i) in omega arith)

pub calm_law : CalmLaw
unfolding calm
calm_law P w = greatest_of-le 0 10000 P.calendar (omega arith) (λ row i. (In-All (IsRowWithinLimits P.capacities) P.calendar w.rows row i).until)

pub row_law : RowLaw
unfolding cap capacity
row_law P row t w i low high =
    let member = In-from_Contains P.calendar row i in
    let within = In-All (IsRowWithinLimits P.capacities) P.calendar w.rows in
    let own = covers-from row.resource t row refl low high in
    let among = filter-In (covers row.resource t) P.calendar row member own in
    least_of-one row.capacity (slice_index P.capacities (row.resource - 1)) (filter (covers row.resource t) P.calendar)
    (λ r j. let both = In-filter (covers row.resource t) P.calendar r j in
    ap (λ (x : CalRow). x.capacity) (one-covers row.resource t P.calendar w.calendar (λ x z. (within x z).some_period) r row both.0 member both.1 own))
    (within row member).capacity
    (λ e. absurd (subst (λ (xs : List CalRow). In xs row) e among))
