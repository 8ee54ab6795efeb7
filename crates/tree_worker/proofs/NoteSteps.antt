-- One note more.
use Rattle.std.proofs.Common.{◌≡◌, ℕ, zero, suc, ◌<◌, ◌≤◌, ◌⊎◌, inl, inr, refl, sym, subst, ◌∙◌, arith, List, [], ◌∷◌, ◌++◌, length, Some}
use Rattle.std.specs.Prelude.{slice_get}
use Rattle.std.proofs.lemmas.Option.{slice_get_within}
use Rattle.once_cell.specs.declared.race.note.Note.{Note}
use Rattle.precedence_tree.specs.declared.base.Base.{Base}
use Rattle.shared_rows.specs.Rows.{RowsState, IsNoteOf}
use Rattle.tree_worker.specs.Worker.{IsOwnNote, AreOwnNotes}

-- an item of a list with one more is one of the list, or the new one
pushed-cases : {X : Type 0} (xs : List X) (y x : X) (i : ℕ) → slice_get (xs ++ y ∷ []) i ≡ Some x → (slice_get xs i ≡ Some x) ⊎ ((i ≡ length xs) × (y ≡ x))
pushed-cases [] y x zero e = inr (refl, cc)
pushed-cases [] y x (suc i) e = absurd cc
pushed-cases (z ∷ zs) y x zero e = inl e
pushed-cases (z ∷ zs) y x (suc i) e = elim (pushed-cases zs y x i e) [
  | inl h ↦ inl h
  | inr h ↦ inr ((let n = h.0 in omega arith), h.1)
]

pushed-old : {X : Type 0} (xs : List X) (y : X) (i : ℕ) → i < length xs → slice_get (xs ++ y ∷ []) i ≡ slice_get xs i
pushed-old [] y i l = absurd (omega arith)
pushed-old (z ∷ zs) y zero l = refl
pushed-old (z ∷ zs) y (suc i) l = pushed-old zs y i (omega arith)

pushed-new : {X : Type 0} (xs : List X) (y : X) (i : ℕ) → i ≡ length xs → slice_get (xs ++ y ∷ []) i ≡ Some y
pushed-new [] y zero e = refl
pushed-new [] y (suc i) e = absurd (omega arith)
pushed-new (z ∷ zs) y zero e = absurd (omega arith)
pushed-new (z ∷ zs) y (suc i) e = pushed-new zs y i (omega arith)

-- a record more leaves what the notes of the first ones know
pub notes-kept : (rows : RowsState) (worker : ℕ) (records : List Base) (notes : List (Note Base)) (base : Base) → length notes ≤ length records → AreOwnNotes rows worker records notes →
    AreOwnNotes rows worker (records ++ base ∷ []) notes
notes-kept rows worker records notes base few own i note at =
    let within = slice_get_within notes i note at in
    let o = own i note at in
    record { cell = o.cell; known = o.known ∙ sym (pushed-old records base i (omega arith)) }

-- a record more and its note
pub notes-more : (rows : RowsState) (worker : ℕ) (records : List Base) (notes : List (Note Base)) (base : Base) (more : Note Base) → length notes ≡ length records → IsNoteOf rows worker (length notes) more →
    more.known ≡ Some base → AreOwnNotes rows worker records notes → AreOwnNotes rows worker (records ++ base ∷ []) (notes ++ more ∷ [])
notes-more rows worker records notes base more size cell known own i note at =
    elim (pushed-cases notes more note i at) [
      | inl old ↦ notes-kept rows worker records notes base (omega arith) own i note old
      | inr new ↦ subst (IsOwnNote rows worker (records ++ base ∷ []) i) new.1 (record {
        cell = subst (λ (k : ℕ). IsNoteOf rows worker k more) (sym new.0) cell;
        known = known ∙ sym (pushed-new records base i (new.0 ∙ size));
      })
    ]
