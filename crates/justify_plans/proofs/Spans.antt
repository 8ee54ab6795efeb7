-- Spans of periods in which nothing changes, and searches that go from span to span.
use Rattle.std.proofs.Common.{◌≡◌, ℕ, ◌+◌, ◌-◌, ◌<◌, ◌≤◌, inl, inr, arith, sym, ap, subst, ◌∙◌, List, length, cond, eqb}
use Rattle.std.proofs.lemmas.Bool.{cases_lt}
use Rattle.rcpsp_model.specs.declared.parts.Entry.{Entry}
use Rattle.rcpsp_model.specs.declared.parts.Placing.{Placing}
use Rattle.rcpsp_model.specs.Project.{Project, IsJob, IsRenewable, duration, job_count}
use Rattle.rcpsp_model.specs.Schedule.{entries, finish, usage}
use Rattle.rcpsp_model.specs.Chain.{IsLeast, IsGreatest}
use Rattle.rcpsp_model.proofs.Lists.{total-same}
use Rattle.rcpsp_model.proofs.Usage.{load, load-active, load-before, load-after}
use Rattle.project_net.proofs.FeasibleParts.{entry-same, entry-job}
use Rattle.justify_plans.specs.Placings.{others}
use Rattle.justify_plans.specs.Room.{HasRoomAt, IsOutside, IsQuiet, IsSteady, FitsBy, FitsFrom}
use Rattle.justify_plans.proofs.JobByJob.{load_beside, usage-others}

-- ---- spans

-- an entry takes the same all along
load-same : (P : Project) (k from until t : ℕ) (e : Entry) → IsOutside from until e.start → IsOutside from until (finish P e) → from ≤ t → t < until → load P k t e ≡ load P k from e
load-same P k from until t e (inr late) finish low high = let a = load-before P k t e (omega arith) in let b = load-before P k from e (omega arith) in omega arith
load-same P k from until t e (inl begun) (inl over) low high = let a = load-after P k t e (omega arith) in let b = load-after P k from e over in omega arith
load-same P k from until t e (inl begun) (inr on) low high = let a = load-active P k t e (omega arith) (omega arith) in let b = load-active P k from e begun (omega arith) in omega arith

-- a span in which neither what the jobs take nor what there is changes
pub record IsSpan (P : Project) (s : List Placing) (from until : ℕ) : Type 0 where
  pub quiet : (i : ℕ) → IsJob P i → IsQuiet P s from until i
  pub steady : (k : ℕ) → IsRenewable P k → IsSteady P from until k

usage-same : (P : Project) (s : List Placing) (from until j k t : ℕ) → length s ≡ job_count P → IsSpan P s from until → from ≤ t → t < until → usage P (others s j) k t ≡ usage P (others s j) k from
usage-same P s from until j k t whole span low high =
    usage-others P s j k t
    ∙ total-same (load_beside P j k t) (load_beside P j k from) (entries s) (λ e i.
    let quiet = span.quiet e.job (entry-job P s e whole i) in
    ap (λ (n : ℕ). cond (eqb e.job j) 0 n)
    (load-same P k from until t e
    (subst (λ (x : Entry). IsOutside from until x.start) (entry-same s e i) quiet.start)
    (subst (λ (x : Entry). IsOutside from until (finish P x)) (entry-same s e i) quiet.finish) low high))
    ∙ sym (usage-others P s j k from)

-- so there is room in all its periods or in none
pub room-along : (P : Project) (s : List Placing) (from until j m t : ℕ) → length s ≡ job_count P → IsSpan P s from until → from ≤ t → t < until → HasRoomAt P (others s j) j m from → HasRoomAt P (others s j) j m t
room-along P s from until j m t whole span low high room k r =
    let a = usage-same P s from until j k t whole span low high in
    let b = span.steady k r t low high in
    let c = room k r in
    omega arith

pub room-back : (P : Project) (s : List Placing) (from until j m t : ℕ) → length s ≡ job_count P → IsSpan P s from until → from ≤ t → t < until → HasRoomAt P (others s j) j m t → HasRoomAt P (others s j) j m from
room-back P s from until j m t whole span low high room k r =
    let a = usage-same P s from until j k t whole span low high in
    let b = span.steady k r t low high in
    let c = room k r in
    omega arith

-- ---- the search for the greatest start

-- there is room in the span in hand, each start that is looked for is done by its finish
pub record IsLateSpan (P : Project) (es : List Entry) (j m until begin finish : ℕ) : Type 0 where
  pub order : begin ≤ finish
  pub within : finish ≤ until
  pub room : (u : ℕ) → begin ≤ u → u < finish → HasRoomAt P es j m u
  pub all : (t : ℕ) → FitsBy P es until j m t → t + duration P j m ≤ finish

pub late-found : (P : Project) (es : List Entry) (j m until begin finish start : ℕ) → IsLateSpan P es j m until begin finish → begin + duration P j m ≤ finish → start ≡ finish - duration P j m →
    IsGreatest (FitsBy P es until j m) start
late-found P es j m until begin finish start span enough is =
    let within = span.within in record {
      attained = record { by = omega arith; fits = λ k u r low high. span.room u (omega arith) (omega arith) k r };
      greatest = λ t f. let le = span.all t f in omega arith;
    }

-- the span grows where there is room before it
pub late-room : (P : Project) (s : List Placing) (j m until before begin finish : ℕ) → length s ≡ job_count P → before < begin → IsSpan P s before begin → HasRoomAt P (others s j) j m before →
    IsLateSpan P (others s j) j m until begin finish → IsLateSpan P (others s j) j m until before finish
late-room P s j m until before begin finish whole some quiet room span =
    let order = span.order in record {
      order = omega arith;
      within = span.within;
      room = λ u low high. elim (cases_lt u begin) [
        | inl early ↦ room-along P s before begin j m u whole quiet low early room
        | inr old ↦ span.room u old high
      ];
      all = span.all;
    }

-- and begins anew where there is none
pub late-full : (P : Project) (s : List Placing) (j m until before begin finish : ℕ) → length s ≡ job_count P → before < begin → IsSpan P s before begin → (HasRoomAt P (others s j) j m before → ⊥) →
    finish < begin + duration P j m → IsLateSpan P (others s j) j m until begin finish → IsLateSpan P (others s j) j m until before before
late-full P s j m until before begin finish whole some quiet full short span =
    let order = span.order in let within = span.within in record {
      order = omega arith;
      within = omega arith;
      room = λ u low high. absurd (omega arith);
      all = λ t f.
          let le = span.all t f in
          elim (cases_lt before (t + duration P j m)) [
            | inr done ↦ done
            | inl on ↦ absurd (elim (cases_lt t before) [
              | inl early ↦ full (λ k r. f.fits k before r (omega arith) on)
              | inr late ↦ full (room-back P s before begin j m t whole quiet late (omega arith) (λ k r. f.fits k t r (omega arith) (omega arith)))
            ])
          ];
    }

-- ---- the search for the least start

pub record IsEarlySpan (P : Project) (es : List Entry) (j m from start end : ℕ) : Type 0 where
  pub order : start ≤ end
  pub after : from ≤ start
  pub room : (u : ℕ) → start ≤ u → u < end → HasRoomAt P es j m u
  pub all : (t : ℕ) → FitsFrom P es from j m t → start ≤ t

pub early-found : (P : Project) (es : List Entry) (j m from start end : ℕ) → IsEarlySpan P es j m from start end → start + duration P j m ≤ end → IsLeast (FitsFrom P es from j m) start
early-found P es j m from start end span enough = record {
  attained = record { after = span.after; fits = λ k u r low high. span.room u low (omega arith) k r };
  least = λ t f. span.all t f;
}

pub early-room : (P : Project) (s : List Placing) (j m from start end next : ℕ) → length s ≡ job_count P → end < next → IsSpan P s end next → HasRoomAt P (others s j) j m end →
    IsEarlySpan P (others s j) j m from start end → IsEarlySpan P (others s j) j m from start next
early-room P s j m from start end next whole some quiet room span =
    let order = span.order in record {
      order = omega arith;
      after = span.after;
      room = λ u low high. elim (cases_lt u end) [
        | inl old ↦ span.room u low old
        | inr new ↦ room-along P s end next j m u whole quiet new high room
      ];
      all = span.all;
    }

pub early-full : (P : Project) (s : List Placing) (j m from start end next : ℕ) → length s ≡ job_count P → end < next → IsSpan P s end next → (HasRoomAt P (others s j) j m end → ⊥) →
    end < start + duration P j m → IsEarlySpan P (others s j) j m from start end → IsEarlySpan P (others s j) j m from next next
early-full P s j m from start end next whole some quiet full short span =
    let order = span.order in let after = span.after in record {
      order = omega arith;
      after = omega arith;
      room = λ u low high. absurd (omega arith);
      all = λ t f.
          let le = span.all t f in
          elim (cases_lt t next) [
            | inr late ↦ late
            | inl early ↦ absurd (elim (cases_lt t end) [
              | inl begun ↦ full (λ k r. f.fits k end r (omega arith) (omega arith))
              | inr new ↦ full (room-back P s end next j m t whole quiet new early (λ k r. f.fits k t r (omega arith) (omega arith)))
            ])
          ];
    }
