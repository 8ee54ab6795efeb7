-- The work of the jobs by rising latest finish, one job further.
use Rattle.std.proofs.Common.{◌≡◌, ℕ, ◌+◌, ◌-◌, ◌<◌, ◌≤◌, inl, inr, arith, refl, sym, ap, subst, ◌∙◌, List, [], ◌∷◌, ◌++◌, length, get_or, take, length-take, map, Bool, true, false, cond}
use Rattle.std.specs.Prelude.{All, sum_by, nat_le}
use Rattle.std.proofs.lemmas.Bool.{cases_lt, cases_Bool, and_from, and_left, and_right, le-leb, lt-leb}
use Rattle.std.proofs.lemmas.List.{map-append, length-map, take_all, get_or-map, get_or-take}
use Rattle.std.proofs.lemmas.List.Sums.{sum_by_more, sum_by-cons, sum_by-take-le}
use Rattle.std.proofs.lemmas.List.Elements.{All-map, All-get_or, All-from_get_or}
use Rattle.std.proofs.lemmas.List.Sorted.{sum_by-IsPermutation, All-permutation, length_permutation}
use Rattle.rcpsp_model.specs.Project.{Project, job_count, jobs, numbers_from, IsJob}
use Rattle.rcpsp_model.specs.Modes.{least_work}
use Rattle.rcpsp_model.specs.Bounds.{supply}
use Rattle.rcpsp_model.proofs.Lists.{In-All, All-from_In, total-le, sum_by-total, sum_by-filter}
use Rattle.rcpsp_model.proofs.LeastModes.{numbers-range}
use Rattle.project_net.proofs.Appended.{numbers-more, length-numbers}
use Rattle.window_refuter.specs.declared.window.Window.{Window}
use Rattle.window_refuter.specs.declared.interval.Due.{Due}
use Rattle.window_refuter.specs.Windows.{es_of, lf_of, is_within, work_within, NoneIsEmpty}
use Rattle.window_refuter.specs.Dues.{due_of, AreByFinish, HoldsWithin}
use Rattle.window_refuter.proofs.Supplies.{supply-within}

pub dues-next : (ws : List Window) (n : ℕ) → map (due_of ws) (numbers_from 1 (n + 1)) ≡ map (due_of ws) (numbers_from 1 n) ++ due_of ws (n + 1) ∷ []
dues-next ws n =
    let e : 1 + n ≡ n + 1 = omega arith in
    ap (map (due_of ws)) (numbers-more 1 n) ∙ map-append (due_of ws) (numbers_from 1 n) ((1 + n) ∷ []) ∙ ap (λ (j : ℕ). map (due_of ws) (numbers_from 1 n) ++ due_of ws j ∷ []) e

-- a job of the list, with its latest finish
pub record IsDue (P : Project) (ws : List Window) (d : Due) : Type 0 where
  pub job : IsJob P d.job
  pub finish : d.latest_finish ≡ lf_of ws d.job

sum-dues : (ws : List Window) (g : ℕ → ℕ) (js : List ℕ) → sum_by (λ (d : Due). g d.job) (map (due_of ws) js) ≡ sum_by g js
sum-dues ws g [] = refl
sum-dues ws g (j ∷ js) =
    sum_by-cons (λ (d : Due). g d.job) (due_of ws j) (map (due_of ws) js) ∙ ap (λ n. g j + n) (sum-dues ws g js) ∙ sym (sum_by-cons g j js)

-- no job
abbrev pub no_due : Due
no_due = record { job = 0; latest_finish = 0 }

-- the work of a job that starts no earlier than a, and of one that has to run within the periods from a up to b
abbrev pub late_work_of : Project → List Window → ℕ → ℕ → Due → ℕ
late_work_of P ws k a d = cond (nat_le a (es_of ws d.job)) (least_work P d.job k) 0

abbrev pub inner_work_of : Project → List Window → ℕ → ℕ → ℕ → Due → ℕ
inner_work_of P ws k a b d = cond (is_within ws a b d.job) (least_work P d.job k) 0

-- the first jobs of the list: the work of those that start no earlier than a, and that no periods from a on lack for them
pub record IsHeldUpTo (P : Project) (ws : List Window) (dues : List Due) (k a m work : ℕ) : Type 0 where
  pub work_ : work ≡ sum_by (late_work_of P ws k a) (take m dues)
  pub held : (b : ℕ) → a ≤ b → sum_by (inner_work_of P ws k a b) (take m dues) ≤ supply P k a (b - a)

module _ (P : Project) (ws : List Window) (dues : List Due) (by : AreByFinish P ws dues) where
  pub all-dues : All (IsDue P ws) dues
  all-dues = All-permutation (IsDue P ws) (map (due_of ws) (jobs P)) dues by.jobs
      (All-map (IsDue P ws) (due_of ws) (jobs P) (All-from_In (λ (j : ℕ). IsDue P ws (due_of ws j)) (jobs P) (λ j i.
      let range = numbers-range 1 (job_count P) j i in record { job = (range.0, let high = range.1 in omega arith); finish = refl })))

  pub due-at : (m : ℕ) (d : Due) → m < length dues → IsDue P ws (get_or dues m d)
  due-at m d within = All-get_or (IsDue P ws) dues m d within all-dues

  pub length-dues : length dues ≡ job_count P
  length-dues = length_permutation _ _ by.jobs ∙ length-map (jobs P) (due_of ws) ∙ length-numbers 1 (job_count P)

  -- a sum over the jobs is one over the list
  all-sum : (g : ℕ → ℕ) → sum_by (λ (d : Due). g d.job) dues ≡ sum_by g (jobs P)
  all-sum g = sum_by-IsPermutation (λ (d : Due). g d.job) _ _ by.jobs ∙ sum-dues ws g (jobs P)

  module _ (k a : ℕ) where
    abbrev late_work : Due → ℕ
    late_work = late_work_of P ws k a

    abbrev inner_work : ℕ → Due → ℕ
    inner_work = inner_work_of P ws k a

    work-sum : (b : ℕ) → sum_by (inner_work b) dues ≡ work_within P ws k a b
    work-sum b =
        let g : ℕ → ℕ = λ j. cond (is_within ws a b j) (least_work P j k) 0 in
        all-sum g ∙ sum_by-total g (jobs P) ∙ sym (sum_by-filter (λ (j : ℕ). least_work P j k) (is_within ws a b) (jobs P))

    pub held-none : IsHeldUpTo P ws dues k a 0 0
    held-none = record { work_ = refl; held = λ b h. omega arith }

    inner-late : (b : ℕ) (d : Due) → inner_work b d ≤ late_work d
    inner-late b d = elim (cases_Bool (nat_le a (es_of ws d.job))) [
      | inl late ↦
          let one = ap (λ (x : Bool). cond x (least_work P d.job k) 0) late in
          elim (cases_Bool (is_within ws a b d.job)) [
            | inl inside ↦ let two = ap (λ (x : Bool). cond x (least_work P d.job k) 0) inside in omega arith
            | inr out ↦ let two = ap (λ (x : Bool). cond x (least_work P d.job k) 0) out in omega arith
          ]
      | inr early ↦
          let out : is_within ws a b d.job ≡ false = and_left (nat_le a (es_of ws d.job)) (nat_le (lf_of ws d.job) b) early in
          let two = ap (λ (x : Bool). cond x (least_work P d.job k) 0) out in omega arith
    ]

    -- a job that has to be over after b isn't within
    inner-after : (b : ℕ) (d : Due) → b < lf_of ws d.job → inner_work b d ≡ 0
    inner-after b d after =
        let out : is_within ws a b d.job ≡ false = and_right (nat_le a (es_of ws d.job)) (nat_le (lf_of ws d.job) b) (lt-leb (lf_of ws d.job) b after) in
        ap (λ (x : Bool). cond x (least_work P d.job k) 0) out

    -- a job that may start earlier
    pub held-skip : (m work : ℕ) (d : Due) → m < length dues → es_of ws (get_or dues m d).job < a → IsHeldUpTo P ws dues k a m work → IsHeldUpTo P ws dues k a (m + 1) work
    held-skip m work d within early h =
        let due = get_or dues m d in
        let none : late_work due ≡ 0 = ap (λ (x : Bool). cond x (least_work P due.job k) 0) (lt-leb a (es_of ws due.job) early) in
        record {
          work_ = let more = sum_by_more late_work dues m d within in let old = h.work_ in omega arith;
          held = λ b low.
              let more = sum_by_more (inner_work b) dues m d within in
              let le = inner-late b due in
              let old = h.held b low in
              omega arith;
        }

    sums-le : (f g : Due → ℕ) (xs : List Due) → ((d : Due) → f d ≤ g d) → sum_by f xs ≤ sum_by g xs
    sums-le f g xs le = let one = sum_by-total f xs in let two = sum_by-total g xs in let three = total-le f g xs (λ d i. le d) in omega arith

    module _ (m work : ℕ) (d : Due) (within : m < length dues) (late : a ≤ es_of ws (get_or dues m d).job) (h : IsHeldUpTo P ws dues k a m work) where
      abbrev due : Due
      due = get_or dues m d

      abbrev now : ℕ
      now = work + least_work P due.job k

      now-sum : now ≡ sum_by late_work (take (m + 1) dues)
      now-sum =
          let more = sum_by_more late_work dues m d within in
          let own : late_work due ≡ least_work P due.job k = ap (λ (x : Bool). cond x (least_work P due.job k) 0) (le-leb a (es_of ws due.job) late) in
          let old = h.work_ in
          omega arith

      -- the periods up to its latest finish hold it
      pub held-next : a ≤ due.latest_finish → now ≤ supply P k a (due.latest_finish - a) → IsHeldUpTo P ws dues k a (m + 1) now
      held-next forwards enough = record {
        work_ = now-sum;
        held = λ b low. elim (cases_lt b due.latest_finish) [
          | inl before ↦
              let more = sum_by_more (inner_work b) dues m d within in
              let finish = (due-at m d within).finish in
              let none = inner-after b due (omega arith) in
              let old = h.held b low in
              omega arith
          | inr after ↦
              let sum = now-sum in
              let le = sums-le (inner_work b) late_work (take (m + 1) dues) (inner-late b) in
              let wide = supply-within P k a b a due.latest_finish (omega arith) forwards after in
              omega arith
        ];
      }

      -- all these are over by then
      early : All (λ (x : Due). IsDue P ws x × (x.latest_finish ≤ due.latest_finish)) (take (m + 1) dues)
      early = All-from_get_or (λ (x : Due). IsDue P ws x × (x.latest_finish ≤ due.latest_finish)) (take (m + 1) dues) d (λ i inside.
          let size = length-take (m + 1) dues in
          let below : i < m + 1 = omega arith in
          subst (λ (x : Due). IsDue P ws x × (x.latest_finish ≤ due.latest_finish)) (sym (get_or-take (m + 1) dues i d below)) (due-at i d (omega arith), by.sorted i m d (omega arith) within))

      late-inner : (x : Due) → IsDue P ws x × (x.latest_finish ≤ due.latest_finish) → late_work x ≤ inner_work due.latest_finish x
      late-inner x own = elim (cases_Bool (nat_le a (es_of ws x.job))) [
        | inr out ↦ let none = ap (λ (p : Bool). cond p (least_work P x.job k) 0) out in omega arith
        | inl in_ ↦
            let finish = own.0.finish in let soon = own.1 in
            let inside : is_within ws a due.latest_finish x.job ≡ true = and_from _ _ in_ (le-leb (lf_of ws x.job) due.latest_finish (omega arith)) in
            let one = ap (λ (p : Bool). cond p (least_work P x.job k) 0) in_ in
            let two = ap (λ (p : Bool). cond p (least_work P x.job k) 0) inside in
            omega arith
      ]

      -- they don't: so these periods are overfull
      pub now-within : now ≤ work_within P ws k a due.latest_finish
      now-within =
          let sum = now-sum in
          let one = sum_by-total late_work (take (m + 1) dues) in
          let two = sum_by-total (inner_work due.latest_finish) (take (m + 1) dues) in
          let three = total-le late_work (inner_work due.latest_finish) (take (m + 1) dues) (λ x i. late-inner x (In-All (λ (y : Due). IsDue P ws y × (y.latest_finish ≤ due.latest_finish)) (take (m + 1) dues) early x i)) in
          let four = sum_by-take-le (inner_work due.latest_finish) dues (m + 1) in
          let five = work-sum due.latest_finish in
          omega arith

    -- all jobs
    pub held-all : (m work : ℕ) → length dues ≤ m → IsHeldUpTo P ws dues k a m work → (b : ℕ) → a ≤ b → HoldsWithin P ws k a b
    held-all m work past h b low =
        let whole = ap (sum_by (inner_work b)) (take_all m dues past) in
        let sum = work-sum b in
        let old = h.held b low in
        omega arith

-- a job that starts no earlier than a is over no earlier either
pub due-after : (P : Project) (ws : List Window) (d : Due) (a : ℕ) → IsDue P ws d → NoneIsEmpty P ws → a ≤ es_of ws d.job → a ≤ d.latest_finish
due-after P ws d a own none late = let room = none d.job own.job in let finish = own.finish in omega arith

-- what there is before its latest finish
pub supply-at : (P : Project) (k m : ℕ) (dues : List Due) (supplies : List ℕ) → supplies ≡ map (λ d. supply P k 0 d.latest_finish) dues → m < length dues → get_or supplies m 0 ≡ supply P k 0 (get_or dues m no_due).latest_finish
supply-at P k m dues supplies same within = ap (λ (xs : List ℕ). get_or xs m 0) same ∙ get_or-map (λ (d : Due). supply P k 0 d.latest_finish) dues m no_due 0 within
