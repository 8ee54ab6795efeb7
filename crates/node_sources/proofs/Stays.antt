-- Sources that stay seated, whatever nodes they take and give.
use Rattle.std.proofs.Common.{◌≡◌, ◌∙◌, List, [], ◌∷◌, refl, ap, sym, subst, map}
use Rattle.std.specs.List.{AllZip}
use Rattle.rcpsp_model.specs.Project.{Project}
use Rattle.search_log.specs.Weights.{Each}
use Rattle.node_sources.specs.Source.{SourceState, IsSourceOf}
use Rattle.node_sources.specs.Seats.{Seat, seat_of, AreSeats, Stays, AreSeated}

pub stays-itself : (s : SourceState) → Stays s s
stays-itself s = record { seat = refl; nodes = λ P is. is }

pub stays-on : (s t u : SourceState) → Stays s t → Stays t u → Stays s u
stays-on s t u a b = record { seat = b.seat ∙ a.seat; nodes = λ P is. b.nodes P (a.nodes P is) }

same-seats : (ss ts : List SourceState) → AllZip Stays ss ts → map seat_of ts ≡ map seat_of ss
same-seats [] [] z = refl
same-seats [] (t ∷ ts) z = absurd z
same-seats (s ∷ ss) [] z = absurd z
same-seats (s ∷ ss) (t ∷ ts) z = ap (λ (x : Seat). x ∷ map seat_of ts) z.0.seat ∙ ap (λ (xs : List Seat). seat_of s ∷ xs) (same-seats ss ts z.1)

-- sources that step side by side stay seated
pub seated-still : (ss ts : List SourceState) → AllZip Stays ss ts → AreSeated ss → AreSeated ts
seated-still ss ts z seated = subst AreSeats (sym (same-seats ss ts z)) seated

pub sources-still : (P : Project) (ss ts : List SourceState) → AllZip Stays ss ts → Each (IsSourceOf P) ss → Each (IsSourceOf P) ts
sources-still P [] [] z each = tt
sources-still P [] (t ∷ ts) z each = absurd z
sources-still P (s ∷ ss) [] z each = absurd z
sources-still P (s ∷ ss) (t ∷ ts) z each = (z.0.nodes P each.0, sources-still P ss ts z.1 each.1)
