-- The children that a worker made, as what waits.
use Rattle.std.proofs.Common.{◌≡◌, ℕ, zero, suc, ◌+◌, ◌<◌, inl, inr, refl, sym, ap, arith, List, [], ◌∷◌, length, Option, Some, None}
use Rattle.std.specs.List.{AllZip}
use Rattle.rcpsp_model.specs.declared.parts.Entry.{Entry}
use Rattle.rcpsp_model.specs.Project.{Project}
use Rattle.rcpsp_model.proofs.Lists.{In, In-append}
use Rattle.search_log.specs.declared.row.Row.{Row}
use Rattle.search_log.specs.Weights.{total, over}
use Rattle.search_log.specs.Fates.{RowSaying, row_open, row_expanded, row_late, row_cites, row_shut}
use Rattle.search_log.specs.Table.{says_row}
use Rattle.search_log.specs.Stands.{TreeNode, place_front, Waiting, if_open}
use Rattle.search_log.proofs.Sums.{total-append}
use Rattle.round_shares.specs.Share.{born_at, born, IsNewAt, IsRowFor}

-- it is that of one of these nodes, which have the places from p on
pub record IsBorn (p : ℕ) (more : List TreeNode) (x : Waiting) : Type 0 where
  pub index : ℕ
  pub within : index < length more
  pub place : x.place ≡ p + index
  pub front : place_front more index ≡ Some x.front

born_at-is : (p : ℕ) (o : Option (List Entry)) (x : Waiting) → In (born_at p o) x → (x.place ≡ p) × (o ≡ Some x.front)
born_at-is p None x i = absurd i
born_at-is p (Some F) x (inl e) = (ap (λ (w : Waiting). w.place) (sym e), ap (λ (w : Waiting). Some w.front) e)
born_at-is p (Some F) x (inr i) = absurd i

pub born-is : (p : ℕ) (more : List TreeNode) (x : Waiting) → In (born p more) x → IsBorn p more x
born-is p [] x i = absurd i
born-is p (node ∷ more) x i =
    elim (In-append (born_at p node.front) (born (p + 1) more) x i) [
      | inl own ↦ (let is = born_at-is p node.front x own in record { index = zero; within = omega arith; place = (let at = is.0 in omega arith); front = is.1 })
      | inr later ↦ (let is = born-is (p + 1) more x later in record { index = suc is.index; within = (let within = is.within in omega arith); place = (let at = is.place in omega arith); front = is.front })
    ]

-- However places are weighed, what waits weighs what the open rows weigh.

born_at-weighs : (g : ℕ → ℕ) (p : ℕ) (o : Option (List Entry)) (s : RowSaying) → IsNewAt o s → total (λ w. g w.place) (born_at p o) ≡ if_open s (g p)
born_at-weighs g p (Some F) row_open is = omega arith
born_at-weighs g p (Some F) (row_expanded first count) is = absurd is
born_at-weighs g p (Some F) (row_late reason) is = absurd is
born_at-weighs g p (Some F) (row_cites q) is = absurd is
born_at-weighs g p (Some F) (row_shut why) is = absurd is
born_at-weighs g p None row_open is = absurd is
born_at-weighs g p None (row_expanded first count) is = absurd is
born_at-weighs g p None (row_late reason) is = absurd is
born_at-weighs g p None (row_cites q) is = absurd is
born_at-weighs g p None (row_shut why) is = refl

pub born-weighs : (P : Project) (g : ℕ → ℕ) (p : ℕ) (more : List TreeNode) (rows : List Row) → AllZip (IsRowFor P) more rows → total (λ w. g w.place) (born p more) ≡ over (λ k r. if_open (says_row r) (g k)) p rows
born-weighs P g p [] [] z = refl
born-weighs P g p [] (r ∷ rows) z = absurd z
born-weighs P g p (node ∷ more) [] z = absurd z
born-weighs P g p (node ∷ more) (r ∷ rows) z =
    let own = born_at-weighs g p node.front (says_row r) z.0.says in
    let ih = born-weighs P g (p + 1) more rows z.1 in
    let both = total-append (λ (w : Waiting). g w.place) (born_at p node.front) (born (p + 1) more) in
    omega arith
