-- A step that is allowed in windows narrows those inside them too, or has nothing to narrow there: what refutes windows
-- refutes those inside them.
use Rattle.std.proofs.Common.{◌≡◌, ℕ, ◌+◌, ◌<◌, ◌≤◌, ◌⊎◌, inl, inr, arith, refl, ap, ◌∙◌, max, min, List, [], ◌∷◌, length, Bool, true, false, cond}
use Rattle.std.proofs.lemmas.Bool.{cases_lt, cases_Bool, and_parts, and_from, leb-true, le-leb}
use Rattle.rcpsp_model.specs.Project.{Project, job_count, jobs, IsAcyclic, IsJob}
use Rattle.rcpsp_model.specs.Modes.{least_work}
use Rattle.rcpsp_model.proofs.Lists.{total-le, total-zero, sum_by-filter}
use Rattle.rcpsp_model.proofs.LeastModes.{numbers-range}
use Rattle.rcpsp_model.proofs.Numbers.{least_below, both_decided, le_decided, lt_decided}
use Rattle.window_refuter.specs.declared.window.Window.{Window}
use Rattle.window_refuter.specs.declared.step.BoundStep.{BoundStep}
use Rattle.window_refuter.specs.declared.step.BoundStep.TheVariants.{Head, Tail, Disjoint, Work, Empty}
use Rattle.window_refuter.specs.Windows.{es_of, lf_of, earliest_finish, latest_start, is_within, work_within, IsEmptyWindow, NoneIsEmpty, LiesInside}
use Rattle.window_refuter.specs.Steps.{IsOverfull, with_start, with_finish, RefutesFrom}
use Rattle.window_refuter.specs.Laws.{InsideLaw}
use Rattle.window_refuter.proofs.WindowLimits.{with_start-es, with_start-lf, with_start-own, with_finish-es, with_finish-lf, with_finish-own, length-with_start, length-with_finish}
use Rattle.window_refuter.proofs.Supplies.{supply-within}

-- the windows of all jobs
abbrev AreOfAll : Project → List Window → Type 0
AreOfAll P ws = length ws ≡ job_count P

-- Windows inside others, after a change of one job's window.
module _ (P : Project) (V W : List Window) (inside : LiesInside P V W) where
  -- where only the outer window changes, and not beyond the inner one
  start-outer : (j t : ℕ) → IsJob P j → t ≤ es_of V j → LiesInside P V (with_start W j t)
  start-outer j t job low = record {
    starts = λ x other. let old = inside.starts x other in elim (with_start-es W j t x job.0 other.0) [
      | inl own ↦ let same = ap (es_of V) own.0 in let new = own.1 in omega arith
      | inr kept ↦ omega arith
    ];
    finishes = λ x other. let old = inside.finishes x other in let kept = with_start-lf W j t x in omega arith;
  }

  finish-outer : (j t : ℕ) → IsJob P j → lf_of V j ≤ t → LiesInside P V (with_finish W j t)
  finish-outer j t job high = record {
    starts = λ x other. let old = inside.starts x other in let kept = with_finish-es W j t x in omega arith;
    finishes = λ x other. let old = inside.finishes x other in elim (with_finish-lf W j t x job.0 other.0) [
      | inl own ↦ let same = ap (lf_of V) own.0 in let new = own.1 in omega arith
      | inr kept ↦ omega arith
    ];
  }

  -- where both change
  start-both : (j t u : ℕ) → AreOfAll P V → IsJob P j → u ≤ t → es_of V j ≤ t → LiesInside P (with_start V j t) (with_start W j u)
  start-both j t u size job low up = record {
    starts = λ x other. let old = inside.starts x other in
        let own = with_start-own V j t (let a = job.0 in let b = job.1 in omega arith) in
        elim (with_start-es W j u x job.0 other.0) [
          | inl new ↦ let same = ap (es_of (with_start V j t)) new.0 in let is = new.1 in omega arith
          | inr kept ↦ elim (with_start-es V j t x job.0 other.0) [
            | inl here ↦ let same = ap (es_of V) here.0 in let is = here.1 in omega arith
            | inr still ↦ omega arith
          ]
        ];
    finishes = λ x other. let old = inside.finishes x other in let one = with_start-lf V j t x in let two = with_start-lf W j u x in omega arith;
  }

  finish-both : (j t u : ℕ) → AreOfAll P V → IsJob P j → t ≤ u → t ≤ lf_of V j → LiesInside P (with_finish V j t) (with_finish W j u)
  finish-both j t u size job low up = record {
    starts = λ x other. let old = inside.starts x other in let one = with_finish-es V j t x in let two = with_finish-es W j u x in omega arith;
    finishes = λ x other. let old = inside.finishes x other in
        let own = with_finish-own V j t (let a = job.0 in let b = job.1 in omega arith) in
        elim (with_finish-lf W j u x job.0 other.0) [
          | inl new ↦ let same = ap (lf_of (with_finish V j t)) new.0 in let is = new.1 in omega arith
          | inr kept ↦ elim (with_finish-lf V j t x job.0 other.0) [
            | inl here ↦ let same = ap (lf_of V) here.0 in let is = here.1 in omega arith
            | inr still ↦ omega arith
          ]
        ];
  }

-- the windows end by U
abbrev EndBy : Project → ℕ → List Window → Type 0
EndBy P U ws = (j : ℕ) → IsJob P j → lf_of ws j ≤ U

-- steps refute the windows up to U
abbrev AreRefuted : Project → ℕ → List Window → Type 0
AreRefuted P U ws = (others : List BoundStep) × RefutesFrom P U ws others

-- no window is empty, or one is
some_empty : (P : Project) (ws : List Window) → NoneIsEmpty P ws ⊎ ((j : ℕ) × IsJob P j × IsEmptyWindow P ws j)
some_empty P ws = elim (least_below (λ j. IsJob P j × IsEmptyWindow P ws j) (λ j. both_decided (both_decided (le_decided 1 j) (le_decided j (job_count P))) (lt_decided (lf_of ws j) (earliest_finish P ws j))) (job_count P + 1)) [
  | inl found ↦ inr (found.0, found.2.attained.0, found.2.attained.1)
  | inr none ↦ inl (λ j job. elim (cases_lt (lf_of ws j) (earliest_finish P ws j)) [
    | inl empty ↦ absurd (none j (let high = job.1 in omega arith) (job, empty))
    | inr room ↦ room
  ])
]

module _ (P : Project) (U : ℕ) (V W : List Window) (size : AreOfAll P V) (inside : LiesInside P V W) (by_end : EndBy P U V) (none : NoneIsEmpty P V) where
  -- what has to run within some periods by the outer windows has to by the inner ones
  within-inner : (a b x : ℕ) → IsJob P x → is_within W a b x ≡ true → is_within V a (min b U) x ≡ true
  within-inner a b x job h =
      let parts = and_parts _ _ h in
      let low = leb-true a (es_of W x) parts.0 in
      let high = leb-true (lf_of W x) b parts.1 in
      let start = inside.starts x job in
      let finish = inside.finishes x job in
      let end = by_end x job in
      and_from _ _ (le-leb a (es_of V x) (omega arith)) (le-leb (lf_of V x) (min b U) (omega arith))

  cond-true : (p q : Bool) (n : ℕ) → (p ≡ true → q ≡ true) → cond p n 0 ≤ cond q n 0
  cond-true true q n h = let both = ap (λ (b : Bool). cond b n 0) (h refl) in omega arith
  cond-true false q n h = omega arith

  work-inner : (k a b : ℕ) → work_within P W k a b ≤ work_within P V k a (min b U)
  work-inner k a b =
      let f : ℕ → ℕ = λ j. least_work P j k in
      let one = sum_by-filter f (is_within W a b) (jobs P) in
      let two = sum_by-filter f (is_within V a (min b U)) (jobs P) in
      let le = total-le (λ (j : ℕ). cond (is_within W a b j) (least_work P j k) 0) (λ (j : ℕ). cond (is_within V a (min b U) j) (least_work P j k) 0) (jobs P) (λ x i.
      let range = numbers-range 1 (job_count P) x i in
      cond-true (is_within W a b x) (is_within V a (min b U) x) (least_work P x k) (within-inner a b x (range.0, let high = range.1 in omega arith))) in
      omega arith

  -- where the end is before them, none has to
  work-none : (k a b : ℕ) → U < a → work_within P W k a b ≡ 0
  work-none k a b past =
      let one = sum_by-filter (λ (j : ℕ). least_work P j k) (is_within W a b) (jobs P) in
      one ∙ total-zero (λ (j : ℕ). cond (is_within W a b j) (least_work P j k) 0) (jobs P) (λ x i. elim (cases_Bool (is_within W a b x)) [
        | inr out ↦ ap (λ (p : Bool). cond p (least_work P x k) 0) out
        | inl in_ ↦
            let range = numbers-range 1 (job_count P) x i in
            let job : IsJob P x = (range.0, let high = range.1 in omega arith) in
            let low = leb-true a (es_of W x) (and_parts _ _ in_).0 in
            let start = inside.starts x job in
            let end = by_end x job in
            let room = none x job in
            absurd (omega arith)
      ])

  overfull-inner : (T k a b : ℕ) → IsOverfull P T W k a b → IsOverfull P U V k a (min b U)
  overfull-inner T k a b over = elim (cases_lt U a) [
    | inl past ↦ let zero_ = work-none k a b past in let exceeds = over.exceeds in absurd (omega arith)
    | inr soon ↦
        let forwards = over.forwards in
        let exceeds = over.exceeds in
        let more = work-inner k a b in
        let less = supply-within P k a b a (min b U) (omega arith) (omega arith) (omega arith) in
        record { renewable = over.renewable; forwards = omega arith; by_end = omega arith; exceeds = omega arith }
  ]

  full-inner : (T k a b : ℕ) → IsOverfull P T W k a b → AreRefuted P U V
  full-inner T k a b over = (Work k a (min b U) ∷ [], ((none, overfull-inner T k a b over), refl))

-- the steps, wherever they refute windows, are followed by steps that refute the windows inside them
abbrev AreFollowed : Project → ℕ → ℕ → List BoundStep → Type 0
AreFollowed P T U steps = (V W : List Window) → AreOfAll P V → EndBy P U V → LiesInside P V W → RefutesFrom P T W steps → AreRefuted P U V

-- one step more
at : (P : Project) (T U : ℕ) (V W : List Window) (step : BoundStep) (steps : List BoundStep) → IsAcyclic P → AreOfAll P V → LiesInside P V W → EndBy P U V → AreFollowed P T U steps → RefutesFrom P T W (step ∷ steps) → NoneIsEmpty P V → AreRefuted P U V
at P T U V W (Head i j) steps acyclic size inside by_end rest q none =
    let are = acyclic.jobs i j q.0.1.before in
    let start = inside.starts i are.0 in
    elim (cases_lt (es_of V j) (earliest_finish P V i)) [
      | inl raises ↦
          let more = rest (with_start V j (earliest_finish P V i)) (with_start W j (earliest_finish P W i)) (length-with_start V j (earliest_finish P V i) ∙ size) (λ x job. let kept = with_start-lf V j (earliest_finish P V i) x in let end = by_end x job in omega arith)
          (start-both P V W inside j (earliest_finish P V i) (earliest_finish P W i) size are.1 (omega arith) (omega arith)) q.1 in
          (Head i j ∷ more.0, ((none, record { before = q.0.1.before; raises = raises }), more.1))
      | inr already ↦ rest V (with_start W j (earliest_finish P W i)) size by_end (start-outer P V W inside j (earliest_finish P W i) are.1 (omega arith)) q.1
    ]
at P T U V W (Tail i j) steps acyclic size inside by_end rest q none =
    let are = acyclic.jobs i j q.0.1.before in
    let finish = inside.finishes j are.1 in
    elim (cases_lt (latest_start P V j) (lf_of V i)) [
      | inl lowers ↦
          let more = rest (with_finish V i (latest_start P V j)) (with_finish W i (latest_start P W j)) (length-with_finish V i (latest_start P V j) ∙ size)
          (λ x job. let end = by_end x job in elim (with_finish-lf V i (latest_start P V j) x are.0.0 job.0) [
            | inl own ↦ let is = own.1 in let last = by_end j are.1 in omega arith
            | inr kept ↦ omega arith
          ])
          (finish-both P V W inside i (latest_start P V j) (latest_start P W j) size are.0 (omega arith) (omega arith)) q.1 in
          (Tail i j ∷ more.0, ((none, record { before = q.0.1.before; lowers = lowers }), more.1))
      | inr already ↦ rest V (with_finish W i (latest_start P W j)) size by_end (finish-outer P V W inside i (latest_start P W j) are.0 (omega arith)) q.1
    ]
at P T U V W (Disjoint i j k) steps acyclic size inside by_end rest q none =
    let o = q.0.1 in
    let c = o.conflict in
    let si = inside.starts i c.first in
    let sj = inside.starts j c.second in
    let fi = inside.finishes i c.first in
    let fj = inside.finishes j c.second in
    let room = o.no_room in
    let tv = max (es_of V j) (earliest_finish P V i) in
    let tw = max (es_of W j) (earliest_finish P W i) in
    let uv = min (lf_of V i) (latest_start P V j) in
    let uw = min (lf_of W i) (latest_start P W j) in
    let take : ((es_of V j < earliest_finish P V i) ⊎ (latest_start P V j < lf_of V i)) → AreRefuted P U V = λ changes.
    let mid = with_start V j tv in
    let size1 = length-with_start V j tv ∙ size in
    let lf1 = with_start-lf V j tv i in
    let one = start-both P V W inside j tv tw size c.second (omega arith) (omega arith) in
    let both = finish-both P mid (with_start W j tw) one i uv uw size1 c.first (omega arith) (omega arith) in
    let more = rest (with_finish mid i uv) (with_finish (with_start W j tw) i uw) (length-with_finish mid i uv ∙ size1)
    (λ x job. let end = by_end x job in let lf = with_start-lf V j tv x in elim (with_finish-lf mid i uv x c.first.0 job.0) [
      | inl own ↦ let is = own.1 in let last = by_end i c.first in omega arith
      | inr kept ↦ omega arith
    ]) both q.1 in
    (Disjoint i j k ∷ more.0, ((none, record { conflict = c; no_room = omega arith; changes = changes }), more.1)) in
    elim (cases_lt (es_of V j) (earliest_finish P V i)) [
      | inl raises ↦ take (inl raises)
      | inr no_raise ↦ elim (cases_lt (latest_start P V j) (lf_of V i)) [
        | inl lowers ↦ take (inr lowers)
        | inr no_lower ↦
            let one = start-outer P V W inside j tw c.second (omega arith) in
            rest V (with_finish (with_start W j tw) i uw) size by_end (finish-outer P V (with_start W j tw) one i uw c.first (omega arith)) q.1
      ]
    ]
at P T U V W (Work k a b) steps acyclic size inside by_end rest q none = full-inner P U V W size inside by_end none T k a b q.0.1
at P T U V W (Empty j) steps acyclic size inside by_end rest q none =
    let start = inside.starts j q.0.0 in
    let finish = inside.finishes j q.0.0 in
    let empty = q.0.1 in
    let room = none j q.0.0 in
    absurd (omega arith)

go : (P : Project) (T U : ℕ) (V W : List Window) (steps : List BoundStep) → IsAcyclic P → AreOfAll P V → LiesInside P V W → EndBy P U V → RefutesFrom P T W steps → AreRefuted P U V
go P T U V W [] acyclic size inside by_end r = absurd r
go P T U V W (step ∷ steps) acyclic size inside by_end r = elim (some_empty P V) [
  | inr found ↦ (Empty found.0 ∷ [], ((found.1, found.2), refl))
  | inl none ↦ at P T U V W step steps acyclic size inside by_end (λ X Y s e i q. go P T U X Y steps acyclic s i e q) r none
]

pub inside_law : InsideLaw
inside_law P T U V W steps acyclic size inside by_end r = go P T U V W steps acyclic size inside by_end r
