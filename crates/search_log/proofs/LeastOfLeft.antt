-- The least number of what was left, row by row.
use Rattle.std.proofs.Common.{◌≡◌, ℕ, ◌+◌, ◌<◌, ◌≤◌, inl, inr, sym, ap, subst, ◌∙◌, arith, List, length, Option, Some, None}
use Rattle.std.specs.Prelude.{min}
use Rattle.std.proofs.lemmas.Bool.{cases_lt, cases_eq}
use Rattle.log_truth.specs.Fates.{late_left}
use Rattle.search_log.specs.declared.row.RowFate.{RowFate}
use Rattle.search_log.specs.declared.row.RowFate.TheVariants.{Open, Expanded, Leaf, TailBound, WorkBound, Cited, Left, Shut}
use Rattle.search_log.specs.declared.row.Row.{Row}
use Rattle.search_log.specs.Fates.{row_late, row_saying}
use Rattle.search_log.specs.Table.{row_at, says_at}
use Rattle.search_log.specs.Told.{IsLeastIfAny, IsLeftAt, IsLeastLeft, lesser_of}
use Rattle.search_log.proofs.ToldLogs.{said-inside}

-- one of the first n rows was left with the number b
pub record IsLeftBefore (T : List Row) (n b : ℕ) : Type 0 where
  pub place : ℕ
  pub before : place < n
  pub is : says_at T place ≡ row_late (late_left b)

abbrev pub IsLeastBefore : List Row → ℕ → Option ℕ → Type 0
IsLeastBefore T n least = IsLeastIfAny (IsLeftBefore T n) least

later : (T : List Row) (n b : ℕ) → IsLeftBefore T n b → IsLeftBefore T (n + 1) b
later T n b x = let w = x.before in record { place = x.place; before = omega arith; is = x.is }

-- what comes with row n
own-or-before : (T : List Row) (n b : ℕ) (Q : Type 0) → IsLeftBefore T (n + 1) b → (says_at T n ≡ row_late (late_left b) → Q) → (IsLeftBefore T n b → Q) → Q
own-or-before T n b Q x own before =
    let w = x.before in
    elim (cases_eq x.place n) [
      | inl same ↦ own (sym (ap (says_at T) same) ∙ x.is)
      | inr other ↦ before (record { place = x.place; before = omega arith; is = x.is })
    ]

pub least-same : (T : List Row) (n : ℕ) (least : Option ℕ) → ((b : ℕ) → says_at T n ≡ row_late (late_left b) → ⊥) → IsLeastBefore T n least → IsLeastBefore T (n + 1) least
least-same T n (Some a) other is = record {
  attained = later T n a is.attained;
  least = λ u x. own-or-before T n u (a ≤ u) x (λ own. absurd (other u own)) (λ before. is.least u before);
}
least-same T n None other is = λ u x. own-or-before T n u ⊥ x (λ own. other u own) (λ before. is u before)

same-number : (b u : ℕ) → row_late (late_left b) ≡ row_late (late_left u) → b ≡ u
same-number b u e = cc

pub least-next : (T : List Row) (n b : ℕ) (least : Option ℕ) → says_at T n ≡ row_late (late_left b) → IsLeastBefore T n least → IsLeastBefore T (n + 1) (Some (lesser_of least b))
least-next T n b None own is = record {
  attained = record { place = n; before = omega arith; is = own };
  least = λ u x. own-or-before T n u (b ≤ u) x (λ is_own. let e = same-number b u (sym own ∙ is_own) in omega arith) (λ before. absurd (is u before));
}
least-next T n b (Some a) own is = elim (cases_lt a b) [
  | inl less ↦ (let e : min a b ≡ a = omega arith in record {
    attained = subst (IsLeftBefore T (n + 1)) (sym e) (later T n a is.attained);
    least = λ u x. own-or-before T n u (min a b ≤ u) x (λ is_own. let s = same-number b u (sym own ∙ is_own) in omega arith) (λ before. let l = is.least u before in omega arith);
  })
  | inr more ↦ (let e : min a b ≡ b = omega arith in record {
    attained = subst (IsLeftBefore T (n + 1)) (sym e) (record { place = n; before = omega arith; is = own });
    least = λ u x. own-or-before T n u (min a b ≤ u) x (λ is_own. let s = same-number b u (sym own ∙ is_own) in omega arith) (λ before. let l = is.least u before in omega arith);
  })
]

pub least-none : (T : List Row) → IsLeastBefore T 0 None
least-none T = λ b x. let w = x.before in omega arith

inside : (T : List Row) (n b : ℕ) → length T ≤ n → IsLeftAt T b → IsLeftBefore T n b
inside T n b l at = let w = said-inside T at.place (row_late (late_left b)) at.is (λ bad. cc) in record { place = at.place; before = omega arith; is = at.is }

outside : (T : List Row) (n b : ℕ) → IsLeftBefore T n b → IsLeftAt T b
outside T n b x = record { place = x.place; is = x.is }

pub least-all : (T : List Row) (n : ℕ) (least : Option ℕ) → length T ≤ n → IsLeastBefore T n least → IsLeastLeft T least
least-all T n (Some a) l is = record { attained = outside T n a is.attained; least = λ u at. is.least u (inside T n u l at) }
least-all T n None l is = λ u at. is u (inside T n u l at)

-- a fate of another kind
pub other-fate : (T : List Row) (n : ℕ) → ((b : ℕ) → (row_at T n).fate ≡ Left b → ⊥) → (b : ℕ) → says_at T n ≡ row_late (late_left b) → ⊥
other-fate T n other b e = other b (left-from (row_at T n).fate e)
  where
    left-from : {b : ℕ} (f : RowFate) → row_saying f ≡ row_late (late_left b) → f ≡ Left b
    left-from Open e = absurd (cc)
    left-from (Expanded count first) e = absurd (cc)
    left-from Leaf e = absurd (cc)
    left-from TailBound e = absurd (cc)
    left-from (WorkBound k) e = absurd (cc)
    left-from (Cited q) e = absurd (cc)
    left-from {b = b} (Left u) e = let same : u ≡ b = cc in ap Left same
    left-from (Shut why) e = absurd (cc)
