-- The least start, by the active jobs.
use Rattle.std.proofs.Common.{◌≡◌, ℕ, ◌+◌, ◌-◌, ◌<◌, ◌≤◌, max, inl, inr, arith, sym, subst, List}
use Rattle.std.specs.Prelude.{◌↔◌}
use Rattle.std.proofs.lemmas.Bool.{cases_eq}
use Rattle.rcpsp_model.specs.declared.parts.Entry.{Entry}
use Rattle.rcpsp_model.specs.Project.{Project, request, duration, capacity, renewables, IsRenewable}
use Rattle.rcpsp_model.specs.Schedule.{calm}
use Rattle.rcpsp_model.specs.Chain.{IsLeast}
use Rattle.rcpsp_model.specs.Tree.{last_start, IsFront, Fits, CanStart}
use Rattle.rcpsp_model.specs.Bounds.{ready}
use Rattle.rcpsp_model.proofs.Calendars.{cap_law, whole_law}
use Rattle.rcpsp_model.proofs.Fronts.{can_start-from}
use Rattle.precedence_tree.specs.declared.active.Active.{Active}
use Rattle.precedence_tree.specs.Active.{AreActive, load_at}
use Rattle.precedence_tree.specs.Starts.{HasRoomAt, FitsBeside, IsNextTry}
use Rattle.precedence_tree.proofs.Ordered.{load-falls}
use Rattle.precedence_tree.proofs.Actives.{usage-active}

-- Were all capacities whole.

-- at the period there is room on the resources below n
abbrev pub HasRoomBelow : Project → List Active → ℕ → ℕ → ℕ → ℕ → Type 0
HasRoomBelow P xs j m n t = (k : ℕ) → IsRenewable P k → k < n → load_at P xs k t + request P j m k ≤ capacity P k

-- the periods from the start on are those from the ready time on at which there is room on the resources below n
abbrev pub StartsAt : Project → List Active → ℕ → ℕ → ℕ → ℕ → ℕ → Type 0
StartsAt P xs j m ready n start = (t : ℕ) → (start ≤ t) ↔ ((ready ≤ t) × HasRoomBelow P xs j m n t)

pub starts-ready : (P : Project) (xs : List Active) (j m ready : ℕ) → StartsAt P xs j m ready 1 ready
starts-ready P xs j m ready t = (λ h. (h, λ k r low. absurd (let one = r.0 in omega arith)), λ h. h.0)

-- one resource more
pub starts-more : (P : Project) (xs : List Active) (j m ready n start free next room : ℕ) → IsRenewable P n → request P j m n ≤ capacity P n → room ≡ capacity P n - request P j m n →
    ((t : ℕ) → (free ≤ t) ↔ (load_at P xs n t ≤ room)) → next ≡ max start free → StartsAt P xs j m ready n start → StartsAt P xs j m ready (n + 1) next
starts-more P xs j m ready n start free next room r le is frees now starts t =
    let both = starts t in
    let own = frees t in (
      λ h.
          let old = both.0 (omega arith) in
          let fits = own.0 (omega arith) in (
            old.0,
            λ k k_is low. elim (cases_eq k n) [
              | inl e ↦ subst (λ (i : ℕ). load_at P xs i t + request P j m i ≤ capacity P i) (sym e) (let here : load_at P xs n t + request P j m n ≤ capacity P n = omega arith in here)
              | inr ne ↦ old.1 k k_is (omega arith)
            ],
          ),
      λ h.
          let one = h.1 n r (omega arith) in
          let low = own.1 (omega arith) in
          let others = both.1 (h.0, λ k k_is below. h.1 k k_is (omega arith)) in
          omega arith,
    )

-- and then all resources
pub starts-all : (P : Project) (xs : List Active) (j m ready n start : ℕ) → n ≡ renewables P + 1 → StartsAt P xs j m ready n start → (t : ℕ) → (start ≤ t) ↔ ((ready ≤ t) × HasRoomAt P xs j m t)
starts-all P xs j m ready n start all starts t =
    let both = starts t in (
      λ h. let own = both.0 h in (own.0, λ k r. own.1 k r (let high = r.1 in omega arith)),
      λ h. both.1 (h.0, λ k r low. h.1 k r),
    )

-- With the calendar.

-- there is room later too, since the active jobs take less and less
pub room-later : (P : Project) (xs : List Active) (j m t u : ℕ) → t ≤ u → HasRoomAt P xs j m t → HasRoomAt P xs j m u
room-later P xs j m t u later room k r = let here = room k r in let falls = load-falls P xs k t u later in omega arith

-- where a job that takes time fits, there is room
pub fits-room : (P : Project) (xs : List Active) (j m t : ℕ) → 0 < duration P j m → FitsBeside P xs j m t → HasRoomAt P xs j m t
fits-room P xs j m t some fits k r = let here = fits k r t (omega arith) (omega arith) in let most = cap_law P k t in omega arith

-- and where there is room it fits, once all capacities are whole
pub room-fits : (P : Project) (xs : List Active) (j m t : ℕ) → calm P ≤ t → HasRoomAt P xs j m t → FitsBeside P xs j m t
room-fits P xs j m t calm room k r u low high =
    let here = room-later P xs j m t u low room k r in
    let whole = whole_law P k u (omega arith) in
    omega arith

-- from the last start on, a job fits beside the front where it fits beside the active jobs
fits-front : (P : Project) (F : List Entry) (xs : List Active) (j m t : ℕ) → IsFront P F → AreActive P F xs → last_start F ≤ t → FitsBeside P xs j m t → Fits P F j m t
fits-front P F xs j m t f are from fits k u r low high =
    let here = fits k r u low high in
    let takes = usage-active P F xs k u f are (omega arith) in
    omega arith

front-fits : (P : Project) (F : List Entry) (xs : List Active) (j m t : ℕ) → IsFront P F → AreActive P F xs → last_start F ≤ t → Fits P F j m t → FitsBeside P xs j m t
front-fits P F xs j m t f are from fits k r u low high =
    let here = fits k u r low high in
    let takes = usage-active P F xs k u f are (omega arith) in
    omega arith

-- a start from which on there is room, and no start before it fits
pub record IsTried (P : Project) (xs : List Active) (j m ready start : ℕ) : Type 0 where
  pub after : ready ≤ start
  pub room : HasRoomAt P xs j m start
  pub least : (t : ℕ) → ready ≤ t → FitsBeside P xs j m t → start ≤ t

-- the first one is the least by the capacities
pub tried-first : (P : Project) (xs : List Active) (j m ready start : ℕ) → 0 < duration P j m → ((t : ℕ) → (start ≤ t) ↔ ((ready ≤ t) × HasRoomAt P xs j m t)) → IsTried P xs j m ready start
tried-first P xs j m ready start some starts =
    let own = (starts start).0 (omega arith) in
    record { after = own.0; room = own.1; least = λ t from fits. (starts t).1 (from, fits-room P xs j m t some fits) }

pub tried-next : (P : Project) (xs : List Active) (j m ready start next : ℕ) → IsTried P xs j m ready start → IsNextTry (FitsBeside P xs j m) start next → IsTried P xs j m ready next
tried-next P xs j m ready start next tried is = record {
  after = let a = tried.after in let l = is.later in omega arith;
  room = room-later P xs j m start next (let l = is.later in omega arith) tried.room;
  least = λ t from fits. is.least t (tried.least t from fits) fits;
}

-- one that fits is the least start
pub tried-least : (P : Project) (F : List Entry) (xs : List Active) (j m start : ℕ) → IsFront P F → AreActive P F xs → IsTried P xs j m (ready P F j) start → FitsBeside P xs j m start → IsLeast (CanStart P F j m) start
tried-least P F xs j m start f are tried fits = can_start-from P F j m start (record {
  attained = (tried.after, fits-front P F xs j m start f are (let a = tried.after in omega arith) fits);
  least = λ t h. tried.least t h.0 (front-fits P F xs j m t f are (let r = h.0 in omega arith) h.1);
})

-- and so is one after the calendar
pub tried-calm : (P : Project) (F : List Entry) (xs : List Active) (j m start : ℕ) → IsFront P F → AreActive P F xs → IsTried P xs j m (ready P F j) start → calm P ≤ start → IsLeast (CanStart P F j m) start
tried-calm P F xs j m start f are tried after = tried-least P F xs j m start f are tried (room-fits P xs j m start after tried.room)

-- a job that takes no time starts when it is ready
pub start-ready : (P : Project) (F : List Entry) (j m start : ℕ) → duration P j m ≡ 0 → start ≡ ready P F j → IsLeast (CanStart P F j m) start
start-ready P F j m start none is = can_start-from P F j m start (record {
  attained = (omega arith, λ k t r low high. absurd (omega arith));
  least = λ t h. let r = h.0 in omega arith;
})
