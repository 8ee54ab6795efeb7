-- Rows and lists, before and after.
use Rattle.std.proofs.Common.{◌≡◌, ℕ, zero, suc, ◌+◌, ◌-◌, ◌<◌, ◌≤◌, ◌⊎◌, inl, inr, refl, sym, ap, subst, ◌∙◌, arith, List, [], ◌∷◌, ◌++◌, length, length-set, true}
use Rattle.std.specs.Prelude.{Contains}
use Rattle.std.specs.List.{AllZip}
use Rattle.rcpsp_model.specs.declared.parts.Verdict.{Verdict}
use Rattle.rcpsp_model.specs.Project.{Project, numbers_from}
use Rattle.rcpsp_model.proofs.Lists.{In-from_Contains, Contains-from_In}
use Rattle.rcpsp_model.proofs.Choices.{In-left, In-right}
use Rattle.log_truth.specs.Fates.{expands}
use Rattle.search_log.specs.declared.row.Row.{Row}
use Rattle.search_log.specs.declared.row.Origin.{Origin}
use Rattle.search_log.specs.declared.row.Fill.{Fill}
use Rattle.search_log.specs.Weights.{total, over}
use Rattle.search_log.specs.Fates.{RowSaying, row_open, row_expanded, row_late, row_cites, row_shut, row_saying}
use Rattle.search_log.specs.Table.{no_row, row_at, says_row, says_at}
use Rattle.search_log.specs.Stands.{TreeNode, IsClosed, Waiting, Stands, filled, fill_row, fill_rows, fill_origins, IsExpandedAt, one_expanded, expanded_rows}
use Rattle.search_log.specs.Lean.{seen_row, expands_line}
use Rattle.search_log.proofs.Sums.{over-set}
use Rattle.search_log.proofs.RowLines.{told, saying-told}
use Rattle.search_log.proofs.FilledRows.{fill-open, filled-one}

-- What a row says.

pub open_or_closed : (s : RowSaying) → (s ≡ row_open) ⊎ IsClosed s
open_or_closed row_open = inl refl
open_or_closed (row_expanded first count) = inr tt
open_or_closed (row_late reason) = inr tt
open_or_closed (row_cites q) = inr tt
open_or_closed (row_shut why) = inr tt

pub closed-not_open : (s : RowSaying) → IsClosed s → s ≡ row_open → ⊥
closed-not_open s c e = subst IsClosed e c

pub said-closed : (s t : RowSaying) → s ≡ t → IsClosed t → IsClosed s
said-closed s t e c = subst IsClosed (sym e) c

pub expanded-closed : (T : List Row) (q : ℕ) → IsExpandedAt T q → IsClosed (says_at T q)
expanded-closed T q e = said-closed (says_at T q) (row_expanded e.first e.count) e.is tt

expands-told : (s : RowSaying) → expands (told [] s) ≡ true → (first : ℕ) × (count : ℕ) × (s ≡ row_expanded first count)
expands-told row_open e = absurd (cc)
expands-told (row_expanded first count) e = (first, count, refl)
expands-told (row_late reason) e = absurd (cc)
expands-told (row_cites q) e = absurd (cc)
expands-told (row_shut why) e = absurd (cc)

-- the line of a row is expanded exactly where the row is
pub line-expanded : (T : List Row) (ns : List TreeNode) (O : List Origin) (p : ℕ) → expands_line (seen_row T ns O p) ≡ true → IsExpandedAt T p
line-expanded T ns O p e =
    let x = expands-told (says_at T p) (sym (ap expands (saying-told [] (row_at T p).fate)) ∙ e) in
    record { first = x.0; count = x.1; is = x.2 }

pub expanded-line : (T : List Row) (ns : List TreeNode) (O : List Origin) (p : ℕ) → IsExpandedAt T p → expands_line (seen_row T ns O p) ≡ true
expanded-line T ns O p e = ap expands (saying-told [] (row_at T p).fate) ∙ ap (λ (s : RowSaying). expands (told [] s)) e.is

-- Fills.

pub length-fill_rows : (T : List Row) (fills : List Fill) → length (fill_rows T fills) ≡ length T
length-fill_rows T [] = refl
length-fill_rows T (f ∷ fills) = length-fill_rows (fill_row T f) fills ∙ length-set T f.place (filled (row_at T f.place) f.fate)

pub length-fill_origins : (O : List Origin) (fills : List Fill) → length (fill_origins O fills) ≡ length O
length-fill_origins O [] = refl
length-fill_origins O (f ∷ fills) = length-fill_origins _ fills ∙ length-set O f.place f.origin

over-total : {X : Type 0} (f : X → ℕ) (k : ℕ) (xs : List X) → over (λ p x. f x) k xs ≡ total f xs
over-total f k [] = refl
over-total f k (x ∷ xs) = let ih = over-total f (k + 1) xs in omega arith

-- each fill that expands is one row more
pub expanded-filled : (P : Project) (v : Verdict) (T : List Row) (ns : List TreeNode) (fills : List Fill) (ws : List Waiting) → Stands P v T ns fills ws →
    expanded_rows (fill_rows T fills) ≡ expanded_rows T + total (λ f. one_expanded (row_saying f.fate)) fills
expanded-filled P v T ns [] ws s = omega arith
expanded-filled P v T ns (f ∷ fills) ws s =
    let one : Row → ℕ = λ r. one_expanded (says_row r) in
    let o = fill-open P v T ns f fills ws s in
    let ih = expanded-filled P v (fill_row T f) ns fills ws (filled-one P v T ns f fills ws s) in
    let a = over-set no_row (λ k r. one r) 0 T f.place (filled (row_at T f.place) f.fate) o.within in
    let b = over-total one 0 T in
    let c = over-total one 0 (fill_row T f) in
    let d : one (row_at T f.place) ≡ 0 = ap one_expanded o.is in
    omega arith

-- Lists.

pub Contains-left : {X : Type 0} (xs ys : List X) (x : X) → Contains xs x → Contains (xs ++ ys) x
Contains-left xs ys x c = Contains-from_In (xs ++ ys) x (In-left xs ys x (In-from_Contains xs x c))

pub Contains-right : {X : Type 0} (xs ys : List X) (x : X) → Contains ys x → Contains (xs ++ ys) x
Contains-right xs ys x c = Contains-from_In (xs ++ ys) x (In-right xs ys x (In-from_Contains ys x c))

pub zip-weaker : {A B : Type 0} (R S : A → B → Type 0) → ((a : A) (b : B) → R a b → S a b) → (xs : List A) (ys : List B) → AllZip R xs ys → AllZip S xs ys
zip-weaker R S f [] [] z = tt
zip-weaker R S f [] (y ∷ ys) z = absurd z
zip-weaker R S f (x ∷ xs) [] z = absurd z
zip-weaker R S f (x ∷ xs) (y ∷ ys) z = (f x y z.0, zip-weaker R S f xs ys z.1)

pub zip-length : {A B : Type 0} (R : A → B → Type 0) (xs : List A) (ys : List B) → AllZip R xs ys → length xs ≡ length ys
zip-length R [] [] z = refl
zip-length R [] (y ∷ ys) z = absurd z
zip-length R (x ∷ xs) [] z = absurd z
zip-length R (x ∷ xs) (y ∷ ys) z = ap suc (zip-length R xs ys z.1)

-- Sums over numbers in a row.

pub total-numbers_le : (f g : ℕ → ℕ) (i n : ℕ) → ((p : ℕ) → p < i + n → f p ≤ g p) → total f (numbers_from i n) ≤ total g (numbers_from i n)
total-numbers_le f g i zero l = omega arith
total-numbers_le f g i (suc n) l = let own = l i (omega arith) in let ih = total-numbers_le f g (i + 1) n (λ p w. l p (omega arith)) in omega arith

pub total-numbers_zero : (f : ℕ → ℕ) (i n : ℕ) → ((p : ℕ) → i ≤ p → f p ≡ 0) → total f (numbers_from i n) ≡ 0
total-numbers_zero f i zero z = refl
total-numbers_zero f i (suc n) z = let own = z i (omega arith) in let ih = total-numbers_zero f (i + 1) n (λ p l. z p (omega arith)) in omega arith

pub total-numbers_split : (f : ℕ → ℕ) (i m n : ℕ) → total f (numbers_from i (m + n)) ≡ total f (numbers_from i m) + total f (numbers_from (i + m) n)
total-numbers_split f i zero n =
    let e : zero + n ≡ n = omega arith in
    let d : i + zero ≡ i = omega arith in
    let a = ap (λ (x : ℕ). total f (numbers_from i x)) e in
    let b = ap (λ (x : ℕ). total f (numbers_from x n)) d in
    omega arith
total-numbers_split f i (suc m) n =
    let e : suc m + n ≡ suc (m + n) = omega arith in
    let d : i + 1 + m ≡ i + suc m = omega arith in
    let a = ap (λ (x : ℕ). total f (numbers_from i x)) e in
    let b = ap (λ (x : ℕ). total f (numbers_from x n)) d in
    let ih = total-numbers_split f (i + 1) m n in
    omega arith

-- what is nothing from the first number on adds nothing
pub total-numbers_more : (f : ℕ → ℕ) (m n : ℕ) → m ≤ n → ((p : ℕ) → m ≤ p → f p ≡ 0) → total f (numbers_from 0 n) ≡ total f (numbers_from 0 m)
total-numbers_more f m n l z =
    let e : m + (n - m) ≡ n = omega arith in
    let a = ap (λ (x : ℕ). total f (numbers_from 0 x)) e in
    let b = total-numbers_split f 0 m (n - m) in
    let c = total-numbers_zero f (0 + m) (n - m) (λ p h. z p (omega arith)) in
    omega arith
