-- Profiles: what is in use by their rows, where a job fits, and one entry more.
use Rattle.std.proofs.Common.{◌≡◌, ℕ, ◌+◌, ◌-◌, ◌*◌, ◌/◌, ◌%◌, ◌<◌, ◌≤◌, max, inl, inr, arith, sym, ap, subst, ◌∙◌, List, [], ◌∷◌, ◌++◌, length, get_or, Option, Some, None, cond, div-add-mod', div-lt_iff_lt-mul, mod-lt}
use Rattle.std.specs.Prelude.{IfNone, All, Contains}
use Rattle.std.proofs.lemmas.Bool.{cases_lt}
use Rattle.std.proofs.lemmas.List.{get_or_past}
use Rattle.std.proofs.lemmas.List.Elements.{All-push, All-weaker, All-get_or, All-from_get_or, All-contains, Contains-get_or, Contains-append_left, Contains-push}
use Rattle.rcpsp_model.specs.declared.parts.Entry.{Entry}
use Rattle.rcpsp_model.specs.Project.{Project, IsRenewable, IsWithinLimits, request, capacity, mode_of}
use Rattle.rcpsp_model.specs.Schedule.{usage, finish, end_of, calm, is_active, IsOf, AreOf, KeepsCapacities}
use Rattle.rcpsp_model.specs.Modes.{IsExecutable}
use Rattle.rcpsp_model.specs.Tree.{Fits}
use Rattle.rcpsp_model.proofs.Fronts.{usage-push, keeps-push, fits-past_end, duration-limit}
use Rattle.rcpsp_model.proofs.Lists.{In-All, total-le}
use Rattle.rcpsp_model.proofs.Usage.{load, usage-total, load-active, load-after, end-le}
use Rattle.rcpsp_model.proofs.Calendars.{cap_law}
use Rattle.profiles.specs.declared.profile.Profile.TheInside.{Inside}
use Rattle.profiles.specs.declared.steps.Steps.{Steps}
use Rattle.profiles.specs.Steps.{IsStepped, HasSteps}
use Rattle.profiles.specs.Adding.{IsAdded, between}
use Rattle.profiles.specs.Placed.{Placed, IsTimeOf, AreTimes, IsProfileOf}
use Rattle.profiles.specs.Room.{IsGap}

-- what contracts see of the fields
abbrev pub seen : Inside → Placed
seen i = record { entries = i.entries.items; spare = i.spare; times = i.steps.times.items; levels = i.steps.levels.items; width = i.steps.width }

-- the rows have what is in use
pub usage-steps : (P : Project) (v : Placed) (i : Inside) (k place : ℕ) → seen i ≡ v → IsProfileOf P v → IsRenewable P k → place ≡ k - 1 → HasSteps (usage P v.entries k) i.steps place
usage-steps P v i k place e h r same =
    subst (λ (p : ℕ). HasSteps (usage P v.entries k) i.steps p) (sym same)
    (subst (λ (w : Placed). IsProfileOf P w → HasSteps (usage P w.entries k) i.steps (k - 1)) e (λ (g : IsProfileOf P (seen i)). g.levels k r) h)

pub if-none : {A B : Type 0} (o : Option ℕ) → (A → B) → IfNone o A → IfNone o B
if-none None f h = f h
if-none (Some x) f h = h

-- from the last start on usage falls
load-falls : (P : Project) (k s u : ℕ) (e : Entry) → e.start ≤ s → s ≤ u → load P k u e ≤ load P k s e
load-falls P k s u e before le =
    elim (cases_lt u (finish P e)) [
      | inl active ↦ let a = load-active P k u e (omega arith) active in let b = load-active P k s e before (omega arith) in omega arith
      | inr over ↦ let a = load-after P k u e over in omega arith
    ]

pub usage-falls : (P : Project) (es : List Entry) (k s u : ℕ) → All (λ e. e.start ≤ s) es → s ≤ u → usage P es k u ≤ usage P es k s
usage-falls P es k s u last le =
    let a = usage-total P es k u in
    let b = usage-total P es k s in
    let c = total-le (load P k u) (load P k s) es (λ e i. load-falls P k s u e (In-All (λ (x : Entry). x.start ≤ s) es last e i) le) in
    omega arith

-- there is never more than 1,000,000 of a resource, so no more is in use

capacity-limit : (P : Project) → IsWithinLimits P → (k : ℕ) → IsRenewable P k → capacity P k ≤ 1000000
unfolding capacity
capacity-limit P w k r = All-get_or (λ (c : ℕ). c ≤ 1000000) P.capacities (k - 1) 0 (let low = r.0 in let high = r.1 in omega arith) w.capacities

pub usage-limit : (P : Project) → IsWithinLimits P → (es : List Entry) → KeepsCapacities P es → (k t : ℕ) → IsRenewable P k → usage P es k t ≤ 1000000
usage-limit P w es keeps k t r = let a = keeps k t r in let b = cap_law P k t in let c = capacity-limit P w k r in omega arith

pub levels-limit : (P : Project) → IsWithinLimits P → (v : Placed) → IsProfileOf P v → (q : ℕ) → get_or v.levels q 0 ≤ 1000000
levels-limit P w v h q =
    let size = h.size in
    elim (cases_lt q (length v.levels)) [
      | inl within ↦ elim (cases_lt 0 v.width) [
        | inl some ↦
            let row = (div-lt_iff_lt-mul {k = v.width} {x = q} {y = length v.times} some).1 (omega arith) in
            let place = mod-lt q {m = v.width} some in
            let wide = h.width in
            let r : IsRenewable P (q % v.width + 1) = (omega arith, omega arith) in
            let t : ℕ = get_or v.times (q / v.width) 0 in
            let is = (h.levels (q % v.width + 1) r).within (q / v.width) (get_or v.times (q / v.width) 0) row (omega arith) (λ more. h.times.rising (q / v.width) (q / v.width + 1) (omega arith) more) in
            let same = ap (λ (n : ℕ). get_or v.levels n 0) (let y = div-add-mod' q v.width in let z : q / v.width * v.width + (q % v.width + 1 - 1) ≡ q = omega arith in z) in
            let le = usage-limit P w v.entries h.capacities (q % v.width + 1) (get_or v.times (q / v.width) 0) r in
            omega arith
        | inr none ↦
            let z : v.width ≡ 0 = omega arith in
            let y = ap (λ (n : ℕ). length v.times * n) z in absurd (omega arith)
      ]
      | inr past ↦ let z = get_or_past v.levels q 0 past in omega arith
    ]

-- no start of a gap is at or past the last finish and the calm, where the mode can run
pub gap-end : (P : Project) (es : List Entry) (j m at end floor : ℕ) → IsGap P es j m at end → IsExecutable P j m → at ≤ max floor (max (end_of P es) (calm P)) → end ≤ max floor (max (end_of P es) (calm P))
gap-end P es j m at end floor gap can le =
    elim (cases_lt (max floor (max (end_of P es) (calm P))) end) [
      | inl past ↦ absurd (gap.none (max floor (max (end_of P es) (calm P))) le past (fits-past_end P es j m (max floor (max (end_of P es) (calm P))) can (omega arith) (omega arith)))
      | inr within ↦ within
    ]

pub end-limit : (P : Project) → IsWithinLimits P → (es : List Entry) → AreOf P es → end_of P es ≤ 1000009999
end-limit P w es of = end-le P es 1000009999 (λ e i.
    let own = In-All (IsOf P) es of e i in
    let a = own.start in
    let b = duration-limit P w e.job e.mode own.job own.mode in omega arith)

-- One entry more.

stepped-same : (f g : ℕ → ℕ) (times levels : List ℕ) (width place : ℕ) → ((t : ℕ) → f t ≡ g t) → IsStepped f times levels width place → IsStepped g times levels width place
stepped-same f g times levels width place same s = record {
  before = λ t none. sym (same t) ∙ s.before t none;
  within = λ i t within come next. sym (same t) ∙ s.within i t within come next;
}

request-read : (P : Project) (j m k : ℕ) (requests : List ℕ) → requests ≡ (mode_of P j m).requests → get_or requests (k - 1) 0 ≡ request P j m k
unfolding request
request-read P j m k requests e = ap (λ (rs : List ℕ). get_or rs (k - 1) 0) e

usage-added : (P : Project) (es : List Entry) (e : Entry) (k r t : ℕ) → r ≡ request P e.job e.mode k → usage P es k t + between e.start (finish P e) r t ≡ usage P (es ++ e ∷ []) k t
usage-added P es e k r t same =
    let push = usage-push P es e k t in
    let own : between e.start (finish P e) r t ≡ load P k t e = ap (λ (n : ℕ). cond (is_active P t e) n 0) same in
    omega arith

kept-contains : (old new : List ℕ) → ((i : ℕ) → i < length old → (j : ℕ) × (j < length new) × (get_or new j 0 ≡ get_or old i 0)) → (t : ℕ) → Contains old t → Contains new t
kept-contains old new kept t c =
    All-contains (Contains new) old t (All-from_get_or (Contains new) old 0 (λ i lt. let k = kept i lt in subst (Contains new) k.2 (Contains-get_or new k.0 0 k.1))) c

found-contains : (xs : List ℕ) (t : ℕ) → (j : ℕ) × (j < length xs) × (get_or xs j 0 ≡ t) → Contains xs t
found-contains xs t k = subst (Contains xs) k.2 (Contains-get_or xs k.0 0 k.1)

times-added : (P : Project) (es : List Entry) (e : Entry) (old new : Steps) (requests : List ℕ) → AreTimes P es old.times.items → IsAdded old new e.start (finish P e) requests → AreTimes P (es ++ e ∷ []) new.times.items
times-added P es e old new requests h a =
    let still = kept-contains old.times.items new.times.items a.kept in
    record {
      rising = a.order.rising;
      starts = All-push (λ (x : Entry). Contains new.times.items x.start) es e
          (All-weaker (λ (x : Entry). Contains old.times.items x.start) (λ (x : Entry). Contains new.times.items x.start) (λ x. still x.start) es h.starts) (found-contains new.times.items e.start a.first);
      finishes = All-push (λ (x : Entry). Contains new.times.items (finish P x)) es e
          (All-weaker (λ (x : Entry). Contains old.times.items (finish P x)) (λ (x : Entry). Contains new.times.items (finish P x)) (λ x. still (finish P x)) es h.finishes) (found-contains new.times.items (finish P e) a.last);
      only = All-from_get_or (λ (t : ℕ). (x : Entry) × Contains (es ++ e ∷ []) x × IsTimeOf P x t) new.times.items 0 (λ j lt. elim (a.only j lt) [
        | inl k ↦
            let own = All-get_or (λ (t : ℕ). (x : Entry) × Contains es x × IsTimeOf P x t) old.times.items k.0 0 k.1 h.only in
            (own.0, Contains-append_left es (e ∷ []) own.0 own.1, subst (IsTimeOf P own.0) k.2 own.2)
        | inr p ↦ elim p [
          | inl start ↦ (e, Contains-push es e, inl start)
          | inr last ↦ (e, Contains-push es e, inr last)
        ]
      ]);
    }

pub profile-placed : (P : Project) (before after : Inside) (e : Entry) (requests : List ℕ) → IsProfileOf P (seen before) → IsOf P e → Fits P before.entries.items e.job e.mode e.start →
    after.entries.items ≡ before.entries.items ++ e ∷ [] → IsAdded before.steps after.steps e.start (finish P e) requests → requests ≡ (mode_of P e.job e.mode).requests → IsProfileOf P (seen after)
profile-placed P before after e requests h own fits pushed a same =
    let es : List Entry = before.entries.items in
    let wide = h.width in
    record {
      entries = subst (AreOf P) (sym pushed) (All-push (IsOf P) es e h.entries own);
      capacities = subst (KeepsCapacities P) (sym pushed) (keeps-push P es e h.capacities fits);
      times = subst (λ (l : List Entry). AreTimes P l after.steps.times.items) (sym pushed) (times-added P es e before.steps after.steps requests h.times a);
      width = a.width ∙ h.width;
      size = a.order.size;
      levels = λ k r. subst (λ (l : List Entry). HasSteps (usage P l k) after.steps (k - 1)) (sym pushed)
          (stepped-same (λ t. usage P es k t + between e.start (finish P e) (get_or requests (k - 1) 0) t) (usage P (es ++ e ∷ []) k) after.steps.times.items after.steps.levels.items after.steps.width (k - 1)
          (λ t. usage-added P es e k (get_or requests (k - 1) 0) t (request-read P e.job e.mode k requests same))
          (a.stepped (usage P es k) (k - 1) (let low = r.0 in let high = r.1 in omega arith) (h.levels k r)));
    }
