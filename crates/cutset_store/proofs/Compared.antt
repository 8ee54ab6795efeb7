-- Two fronts compared by their active jobs.
use Rattle.std.proofs.Common.{◌≡◌, ℕ, ◌+◌, ◌-◌, ◌<◌, ◌≤◌, ◌⊎◌, inl, inr, arith, sym, ap, subst, ◌∙◌, true, false, Bool, cond, ltb, List, [], ◌∷◌, length, get_or, take, drop}
use Rattle.std.specs.Prelude.{All, Option, Some, None, sum_by, slice_index, ◌↔◌}
use Rattle.std.proofs.lemmas.Bool.{cases_Bool, cases_eq, cases_lt, lt-ltb, le-ltb}
use Rattle.std.proofs.lemmas.List.Elements.{All-from_get_or, Contains-get_or}
use Rattle.std.proofs.lemmas.List.Sums.{sum_by_more, sum_by-cons}
use Rattle.std.proofs.lemmas.List.{get_or-take, get_or_default, length-take, drop_all}
use Rattle.std.proofs.Math.Seq.{take-length}
use Rattle.rcpsp_model.specs.declared.parts.Entry.{Entry}
use Rattle.rcpsp_model.specs.Project.{Project, Before, is_before, job_count, IsAcyclic, IsWithinLimits, IsNonrenewable}
use Rattle.rcpsp_model.specs.Schedule.{finish, used, end_of}
use Rattle.rcpsp_model.specs.Tree.{has_job, last_start, IsFront}
use Rattle.rcpsp_model.specs.Dominance.{Dominates}
use Rattle.rcpsp_model.proofs.Lists.{In, In-All, All-from_In, In-from_Contains, Contains-from_In, sum_by-total, sum_by-filter}
use Rattle.rcpsp_model.proofs.Numbers.{least_below, lt_decided, some_decided, true_decided}
use Rattle.rcpsp_model.proofs.Entries.{has_job-In, entry_of, same_entry}
use Rattle.rcpsp_model.proofs.Completed.{front-distinct}
use Rattle.rcpsp_model.proofs.Sound.{front-sound}
use Rattle.precedence_tree.specs.declared.active.Active.{Active}
use Rattle.precedence_tree.specs.declared.base.Base.{Base}
use Rattle.precedence_tree.specs.Active.{IsActive, AreActive, AreByFinish, IsNamed, load_at}
use Rattle.precedence_tree.specs.Base.{IsBaseOf}
use Rattle.precedence_tree.specs.Node.{joined}
use Rattle.precedence_tree.proofs.Ordered.{no_active, asks, takes, load-le, load-ge, load-falls, later-from}
use Rattle.precedence_tree.proofs.Actives.{front-starts, active-has, active-named, usage-active}
use Rattle.precedence_tree.proofs.Parts.{newest-all, older-all, active-few, older-few}
use Rattle.cutset_store.specs.declared.facts.RecordFacts.{RecordFacts}
use Rattle.cutset_store.specs.declared.facts.NodeFacts.{NodeFacts}
use Rattle.cutset_store.specs.Facts.{AreOfRecord, AreOfFront}
use Rattle.cutset_store.specs.Parts.{HasFinish, InTime, HoldsUpNone, TakesNoMoreOf, TakesNoMore, Beats, AreJobs, AreOrderly, AreComparable}

-- Loads.

load-sum : (P : Project) (xs : List Active) (k t : ℕ) → load_at P xs k t ≡ sum_by (takes P k t) xs
load-sum P xs k t = sum_by-filter (asks P k) (λ (a : Active). ltb t a.finish) xs ∙ sym (sum_by-total (takes P k t) xs)

pub load-later : (P : Project) (xs : List Active) (k t i : ℕ) → i < length xs → t < (get_or xs i no_active).finish → load_at P (take (i + 1) xs) k t ≡ load_at P (take i xs) k t + asks P k (get_or xs i no_active)
load-later P xs k t i within on =
    let a = load-sum P (take (i + 1) xs) k t in
    let b = load-sum P (take i xs) k t in
    let more = sum_by_more (takes P k t) xs i no_active within in
    let own : takes P k t (get_or xs i no_active) ≡ asks P k (get_or xs i no_active) = ap (λ (c : Bool). cond c (asks P k (get_or xs i no_active)) 0) (lt-ltb t _ on) in
    omega arith

pub load-done : (P : Project) (xs : List Active) (k t i : ℕ) → i < length xs → (get_or xs i no_active).finish ≤ t → load_at P (take (i + 1) xs) k t ≡ load_at P (take i xs) k t
load-done P xs k t i within done =
    let a = load-sum P (take (i + 1) xs) k t in
    let b = load-sum P (take i xs) k t in
    let more = sum_by_more (takes P k t) xs i no_active within in
    let own : takes P k t (get_or xs i no_active) ≡ 0 = ap (λ (c : Bool). cond c (asks P k (get_or xs i no_active)) 0) (le-ltb t _ done) in
    omega arith

pub load-whole : (P : Project) (xs : List Active) (k t n : ℕ) → n ≡ length xs → load_at P (take n xs) k t ≡ load_at P xs k t
load-whole P xs k t n all = ap (λ (ys : List Active). load_at P ys k t) (ap (λ i. take i xs) all ∙ take-length xs)

pub load-joined : (P : Project) (o : Option Active) (xs : List Active) (k t : ℕ) → load_at P (joined o xs) k t ≡ load_at P (joined o []) k t + load_at P xs k t
load-joined P None xs k t = omega arith
load-joined P (Some a) xs k t =
    let whole = load-sum P (a ∷ xs) k t in
    let one = load-sum P (a ∷ []) k t in
    let rest = load-sum P xs k t in
    let cons = sum_by-cons (takes P k t) a xs in
    let alone = sum_by-cons (takes P k t) a [] in
    omega arith

-- Usage: what jobs take is compared in the last period of each of them.

-- from the index on they take no more than the others in the last period of each
abbrev pub CheckedFrom : Project → List Active → List Active → ℕ → ℕ → Type 0
CheckedFrom P xs ys k n = (i : ℕ) → n ≤ i → i < length xs → sum_by (asks P k) (drop i xs) ≤ load_at P ys k ((get_or xs i no_active).finish - 1)

-- each check is implied
pub no_more-checks : (P : Project) (xs ys : List Active) (k last i : ℕ) → AreByFinish xs → TakesNoMoreOf P xs ys last k → i < length xs → last < (get_or xs i no_active).finish →
    sum_by (asks P k) (drop i xs) ≤ load_at P ys k ((get_or xs i no_active).finish - 1)
no_more-checks P xs ys k last i order no_more within on =
    let t = (get_or xs i no_active).finish - 1 in
    let ge = load-ge P xs k t i (later-from xs i t order within (omega arith)) in
    let le = no_more t (omega arith) in
    omega arith

-- and together they are enough
pub checks-no_more : (P : Project) (xs ys : List Active) (k last : ℕ) → ((i : ℕ) → i < length xs → last < (get_or xs i no_active).finish → sum_by (asks P k) (drop i xs) ≤ load_at P ys k ((get_or xs i no_active).finish - 1)) →
    TakesNoMoreOf P xs ys last k
checks-no_more P xs ys k last checks t from = elim (least_below (λ i. t < (get_or xs i no_active).finish) (λ i. lt_decided t (get_or xs i no_active).finish) (length xs)) [
  | inl first ↦
      let n = first.0 in
      let within = first.1 in
      let on = first.2.attained in
      let le = load-le P xs k t n (done n (omega arith) (λ i low. elim (cases_lt t (get_or xs i no_active).finish) [ inl later ↦ absurd (let at = first.2.least i later in omega arith) | inr by ↦ by ])) in
      let check = checks n within (omega arith) in
      let falls = load-falls P ys k t ((get_or xs n no_active).finish - 1) (omega arith) in
      omega arith
  | inr none ↦
      let le = load-le P xs k t (length xs) (done (length xs) (omega arith) (λ i low. elim (cases_lt t (get_or xs i no_active).finish) [ inl later ↦ absurd (none i low later) | inr by ↦ by ])) in
      let nothing : sum_by (asks P k) (drop (length xs) xs) ≡ 0 = ap (λ (zs : List Active). sum_by (asks P k) zs) (drop_all (length xs) xs (omega arith)) in
      omega arith
]
  where
    done : (n : ℕ) → n ≤ length xs → ((i : ℕ) → i < n → (get_or xs i no_active).finish ≤ t) → All (λ (a : Active). a.finish ≤ t) (take n xs)
    done n within each = All-from_get_or (λ (a : Active). a.finish ≤ t) (take n xs) no_active (λ i low.
        let size = length-take n xs in
        let at : (get_or (take n xs) i no_active).finish ≡ (get_or xs i no_active).finish = ap (λ (a : Active). a.finish) (get_or-take n xs i no_active (omega arith)) in
        let le = each i (omega arith) in
        omega arith)

-- one check more, from the end
pub checked-more : (P : Project) (xs ys : List Active) (k n m : ℕ) → n ≡ m + 1 → sum_by (asks P k) (drop m xs) ≤ load_at P ys k ((get_or xs m no_active).finish - 1) → CheckedFrom P xs ys k n → CheckedFrom P xs ys k m
checked-more P xs ys k n m next here so_far i low high = elim (cases_eq i m) [
  | inl e ↦ subst (λ j. sum_by (asks P k) (drop j xs) ≤ load_at P ys k ((get_or xs j no_active).finish - 1)) (sym e) here
  | inr ne ↦ so_far i (omega arith) high
]

-- where one is done by the period, those before it are too
pub checked-rest : (P : Project) (xs ys : List Active) (k last n m : ℕ) → n ≡ m + 1 → AreByFinish xs → m < length xs → (get_or xs m no_active).finish ≤ last → CheckedFrom P xs ys k n → TakesNoMoreOf P xs ys last k
checked-rest P xs ys k last n m next order within done so_far = checks-no_more P xs ys k last (λ i low on. elim (cases_lt m i) [
  | inl after ↦ so_far i (omega arith) low
  | inr before ↦ absurd (elim (cases_eq i m) [
    | inl e ↦ let same : (get_or xs i no_active).finish ≡ (get_or xs m no_active).finish = ap (λ j. (get_or xs j no_active).finish) e in omega arith
    | inr ne ↦ let le = order i m no_active (omega arith) within in omega arith
  ])
])

-- Finishes.

pub has-at : (ys : List Active) (i j f : ℕ) → i < length ys → (get_or ys i no_active).entry.job ≡ j → f ≤ (get_or ys i no_active).finish → HasFinish ys j f
has-at ys i j f within job late = (get_or ys i no_active, Contains-get_or ys i no_active within, job, late)

pub has-none : (ys : List Active) (n j f : ℕ) → length ys ≤ n → ((i : ℕ) → i < n → (get_or ys i no_active).entry.job ≡ j → f ≤ (get_or ys i no_active).finish → ⊥) → HasFinish ys j f → ⊥
has-none ys n j f all none has =
    let at : get_or ys has.1.0 no_active ≡ has.0 = get_or_default ys has.1.0 no_active has.0 has.1.1 ∙ has.1.2 in
    none has.1.0 (let low = has.1.1 in omega arith) (ap (λ (a : Active). a.entry.job) at ∙ has.2) (let same : (get_or ys has.1.0 no_active).finish ≡ has.0.finish = ap (λ (a : Active). a.finish) at in let late = has.3 in omega arith)

pub has-joined : (o : Option Active) (ys : List Active) (j f : ℕ) → HasFinish (joined o []) j f ⊎ HasFinish ys j f → HasFinish (joined o ys) j f
has-joined None ys j f (inl h) = absurd (let low : h.1.0 < 0 = h.1.1 in omega arith)
has-joined None ys j f (inr h) = h
has-joined (Some a) ys j f (inl h) = (h.0, Contains-from_In (a ∷ ys) h.0 (elim (In-from_Contains (a ∷ []) h.0 h.1) [ inl e ↦ inl e | inr i ↦ absurd i ]), h.2, h.3)
has-joined (Some a) ys j f (inr h) = (h.0, Contains-from_In (a ∷ ys) h.0 (inr (In-from_Contains ys h.0 h.1)), h.2, h.3)

pub joined-has : (o : Option Active) (ys : List Active) (j f : ℕ) → HasFinish (joined o ys) j f → HasFinish (joined o []) j f ⊎ HasFinish ys j f
joined-has None ys j f h = inr h
joined-has (Some a) ys j f h = elim (In-from_Contains (a ∷ ys) h.0 h.1) [
  | inl e ↦ inl (h.0, Contains-from_In (a ∷ []) h.0 (inl e), h.2, h.3)
  | inr i ↦ inr (h.0, Contains-from_In ys h.0 i, h.2, h.3)
]

-- Dominance by its parts.

-- some job waits for this one, or none does
some-after : (P : Project) → IsAcyclic P → (i : ℕ) → ((j : ℕ) × Before P i j) ⊎ ((j : ℕ) → Before P i j → ⊥)
some-after P a i = elim (some_decided (λ j. is_before P i j ≡ true) (λ j. true_decided (is_before P i j)) (job_count P + 1)) [
  | inl some ↦ inl (some.0, some.2)
  | inr none ↦ inr (λ j b. none (j, (let high = (a.jobs i j b).1.1 in omega arith), b))
]

-- an entry that finishes after the last start, among the active jobs
active-of : (P : Project) (F : List Entry) (ys : List Active) (e : Entry) → IsFront P F → AreActive P F ys → In F e → last_start F < finish P e → (a : Active) × In ys a × (a.entry ≡ e) × (a.finish ≡ finish P e)
active-of P F ys e f are there later =
    let has = active-has P F ys e f are there later in
    let act : IsActive P F has.0 = In-All (IsActive P F) ys are.each has.0 has.1 in
    (has.0, has.1, has.2, act.finish ∙ ap (finish P) has.2)

-- one that finishes late is among them, and late there
has-late : (P : Project) (F : List Entry) (ys : List Active) (e : Entry) (j n : ℕ) → IsFront P F → AreActive P F ys → In F e → e.job ≡ j → n ≤ finish P e → last_start F < n → HasFinish ys j n
has-late P F ys e j n f are there job late later =
    let has = active-of P F ys e f are there (omega arith) in
    (has.0, Contains-from_In ys has.0 has.1, ap (λ (x : Entry). x.job) has.2 ∙ job, (let same = has.3 in omega arith))

-- what is compared of a record and a front of the same jobs
record ComparesWith (P : Project) (b : Base) (F : List Entry) (ys : List Active) : Type 0 where
  last : last_start b.front ≤ last_start F
  end : b.end ≤ end_of P F
  needs : (l : ℕ) → IsNonrenewable P l → slice_index b.needs.used (l - 1) ≤ used P F l
  finishes : HoldsUpNone P b.active ys (last_start F)
  usage : TakesNoMore P b.active ys (last_start F)

-- no job that waits for an active one is placed
unplaced-after : (P : Project) → IsAcyclic P → (F : List Entry) → IsFront P F → (a : Active) → IsActive P F a → (s : ℕ) → Before P a.entry.job s → has_job F s ≡ false
unplaced-after P acyclic F f a act s b = elim (cases_Bool (has_job F s)) [
  | inl has ↦
      let e = entry_of F s has in
      let done = (front-sound P acyclic F f).done a.entry e.0 (In-from_Contains F a.entry act.placed) e.1 (subst (λ (i : ℕ). Before P a.entry.job i) (sym e.2) b) in
      let starts = front-starts P F f e.0 e.1 in
      let same = act.finish in
      let later = act.later in
      absurd (omega arith)
  | inr none ↦ none
]

compares-dominates : (P : Project) → IsAcyclic P → (b : Base) (F : List Entry) (ys : List Active) → IsBaseOf P b → IsFront P F → AreActive P F ys → ((j : ℕ) → has_job b.front j ≡ has_job F j) → ComparesWith P b F ys → Dominates P b.front F
compares-dominates P acyclic b F ys base f are jobs c = record {
  jobs = jobs;
  last = c.last;
  end = let le = c.end in let is = base.end in omega arith;
  needs = λ l r. let le = c.needs l r in let is = base.needs.used l r in omega arith;
  usage = λ k t r from.
      let last = c.last in
      let mine = usage-active P b.front b.active k t base.front base.active (omega arith) in
      let theirs = usage-active P F ys k t f are from in
      let le = c.usage k r t from in
      omega arith;
  finishes = λ x y j in_a in_b job before lacks. elim (cases_lt (last_start F) (finish P x)) [
    | inl on ↦
        let last = c.last in
        let has = active-of P b.front b.active x base.front base.active (In-from_Contains b.front x in_a) (omega arith) in
        let is = has.3 in
        elim (In-All (InTime P ys (last_start F)) b.active c.finishes has.0 has.1) [
          | inl done ↦ absurd (omega arith)
          | inr other ↦ elim other [
            | inl alone ↦ absurd (alone j (subst (λ (e : Entry). Before P e.job j) (sym has.2) before))
            | inr late ↦
                let act = In-All (IsActive P F) ys are.each late.0 (In-from_Contains ys late.0 late.1) in
                let one : late.0.entry ≡ y = same_entry F (front-distinct P F f) late.0.entry y (In-from_Contains F late.0.entry act.placed) (In-from_Contains F y in_b) (late.2 ∙ ap (λ (e : Entry). e.job) has.2 ∙ job) in
                let ends = act.finish ∙ ap (finish P) one in
                let le = late.3 in
                omega arith
          ]
        ]
    | inr done ↦ omega arith
  ];
}

dominates-compares : (P : Project) → IsAcyclic P → (b : Base) (F : List Entry) (ys : List Active) → IsBaseOf P b → IsFront P F → AreActive P F ys → Dominates P b.front F → ComparesWith P b F ys
dominates-compares P acyclic b F ys base f are d = record {
  last = d.last;
  end = let le = d.end in let is = base.end in omega arith;
  needs = λ l r. let le = d.needs l r in let is = base.needs.used l r in omega arith;
  finishes = All-from_In (InTime P ys (last_start F)) b.active (λ a i.
      let act = In-All (IsActive P b.front) b.active base.active.each a i in
      in_time a act);
  usage = λ k r t from.
      let last = d.last in
      let mine = usage-active P b.front b.active k t base.front base.active (omega arith) in
      let theirs = usage-active P F ys k t f are from in
      let le = d.usage k t r from in
      omega arith;
}
  where
    -- where a job waits for an active one that isn't done, that one is active in F, and done no earlier
    in_time : (a : Active) → IsActive P b.front a → InTime P ys (last_start F) a
    in_time a act = elim (cases_lt (last_start F) a.finish) [
      | inl on ↦ elim (some-after P acyclic a.entry.job) [
        | inl waits ↦
            let there = In-from_Contains b.front a.entry act.placed in
            let own = entry_of F a.entry.job (sym (d.jobs a.entry.job) ∙ has_job-In b.front a.entry there) in
            let le = d.finishes a.entry own.0 waits.0 act.placed (Contains-from_In F own.0 own.1) (sym own.2) waits.1 (unplaced-after P acyclic b.front base.front a act waits.0 waits.1) in
            let same = act.finish in
            inr (inr (has-late P F ys own.0 a.entry.job a.finish f are own.1 own.2 (let late : a.finish ≤ finish P own.0 = omega arith in late) on))
        | inr alone ↦ inr (inl alone)
      ]
      | inr done ↦ inl done
    ]

-- What the calls decide, by the facts of both.

holds-to : (P : Project) (xs zs ys : List Active) (m n : ℕ) → xs ≡ zs → m ≡ n → HoldsUpNone P xs ys m → HoldsUpNone P zs ys n
holds-to P xs zs ys m n e f h = subst (λ (ws : List Active). HoldsUpNone P ws ys n) e (subst (HoldsUpNone P xs ys) f h)

takes-to : (P : Project) (xs zs ys : List Active) (m n : ℕ) → xs ≡ zs → m ≡ n → TakesNoMore P xs ys m → TakesNoMore P zs ys n
takes-to P xs zs ys m n e f h = subst (λ (ws : List Active). TakesNoMore P ws ys n) e (subst (TakesNoMore P xs ys) f h)

-- a record beats a node of the same jobs exactly where its front dominates
pub beats-exactly : (P : Project) → IsAcyclic P → (b : Base) (F : List Entry) (x : RecordFacts) (y : NodeFacts) → IsBaseOf P b → IsFront P F → AreOfRecord P b x → AreOfFront P F y → ((j : ℕ) → has_job b.front j ≡ has_job F j) →
    Beats P x y ↔ Dominates P b.front F
beats-exactly P acyclic b F x y base f of_x of_y jobs = (
  λ h. compares-dominates P acyclic b F ys base f of_y.active jobs (record {
    last = let le = h.last in let mine = of_x.last in let theirs = of_y.last in omega arith;
    end = let le = h.end in let mine = of_x.end in let theirs = of_y.end in omega arith;
    needs = λ l r. let le = h.needs l r in let mine = of_x.used l r in let theirs = of_y.used l r in omega arith;
    finishes = holds-to P x.active.now b.active ys y.last (last_start F) of_x.active of_y.last h.finishes;
    usage = takes-to P x.active.now b.active ys y.last (last_start F) of_x.active of_y.last h.usage;
  }),
  λ d.
      let c = dominates-compares P acyclic b F ys base f of_y.active d in
      record {
        last = let le = c.last in let mine = of_x.last in let theirs = of_y.last in omega arith;
        end = let le = c.end in let mine = of_x.end in let theirs = of_y.end in omega arith;
        needs = λ l r. let le = c.needs l r in let mine = of_x.used l r in let theirs = of_y.used l r in omega arith;
        finishes = holds-to P b.active x.active.now ys (last_start F) y.last (sym of_x.active) (sym of_y.last) c.finishes;
        usage = takes-to P b.active x.active.now ys (last_start F) y.last (sym of_x.active) (sym of_y.last) c.usage;
      },
)
  where
    ys : List Active
    ys = joined y.newest y.older.now

-- the active jobs of a front can be compared
orderly : (P : Project) → IsWithinLimits P → (b : Base) → IsBaseOf P b → AreOrderly P b.active
orderly P limits b base = record {
  jobs = record { named = active-named P b.front b.active base.front base.active; few = active-few P b.front b.active limits base.front base.active };
  order = base.order;
}

-- with those of another
pub comparable-orderly : (P : Project) → IsWithinLimits P → (b : Base) (F : List Entry) (x : RecordFacts) (y : NodeFacts) → AreOrderly P x.active.now → IsFront P F → AreOfRecord P b x → AreOfFront P F y → AreComparable P x y
comparable-orderly P limits b F x y are f of_x of_y = record {
  wide = of_x.wide;
  active = are.jobs;
  order = are.order;
  newest = newest-all (IsNamed P) y.newest y.older.now (active-named P F (joined y.newest y.older.now) f of_y.active);
  older = record {
    named = older-all (IsNamed P) y.newest y.older.now (active-named P F (joined y.newest y.older.now) f of_y.active);
    few = older-few y.newest y.older.now (active-few P F (joined y.newest y.older.now) limits f of_y.active);
  };
}

-- and so can those of a record
pub orderly-record : (P : Project) → IsWithinLimits P → (b : Base) (x : RecordFacts) → IsBaseOf P b → AreOfRecord P b x → AreOrderly P x.active.now
orderly-record P limits b x base of_x = subst (AreOrderly P) (sym of_x.active) (orderly P limits b base)

pub comparable : (P : Project) → IsWithinLimits P → (b : Base) (F : List Entry) (x : RecordFacts) (y : NodeFacts) → IsBaseOf P b → IsFront P F → AreOfRecord P b x → AreOfFront P F y → AreComparable P x y
comparable P limits b F x y base f of_x of_y = comparable-orderly P limits b F x y (orderly-record P limits b x base of_x) f of_x of_y
