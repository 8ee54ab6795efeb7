-- Lists that weigh the same, however their items are weighed, have the same items.
use Rattle.std.proofs.Common.{◌≡◌, ℕ, ◌<◌, ◌⊎◌, inl, inr, refl, ap, ◌∙◌, arith, List, [], ◌∷◌}
use Rattle.std.proofs.lemmas.Bool.{cases_eq}
use Rattle.rcpsp_model.specs.declared.parts.Entry.{Entry}
use Rattle.rcpsp_model.proofs.Lists.{In}
use Rattle.rcpsp_model.proofs.Numbers.{Decided}
use Rattle.search_log.specs.Weights.{total}
use Rattle.search_log.specs.Stands.{Waiting}

-- What can be told apart.

both : {A B C : Type 0} → Decided A → Decided B → (A → B → C) → (C → A) → (C → B) → Decided C
both (inl a) (inl b) f g h = inl (f a b)
both (inl a) (inr n) f g h = inr (λ c. n (h c))
both (inr n) d f g h = inr (λ c. n (g c))

same-entry : (x y : Entry) → x.job ≡ y.job → x.mode ≡ y.mode → x.start ≡ y.start → x ≡ y
same-entry x y a b c =
    let job : x ≡ record x { job = y.job } = ap (λ (j : ℕ). record x { job = j }) a in
    let mode : record x { job = y.job } ≡ record y { start = x.start } = ap (λ (m : ℕ). record y { mode = m; start = x.start }) b in
    let start : record y { start = x.start } ≡ y = ap (λ (t : ℕ). record y { start = t }) c in
    job ∙ (mode ∙ start)

entry_decided : (x y : Entry) → Decided (x ≡ y)
entry_decided x y =
    both {B = (x.mode ≡ y.mode) × (x.start ≡ y.start)} (cases_eq x.job y.job) (both (cases_eq x.mode y.mode) (cases_eq x.start y.start) (λ b c. (b, c)) (λ p. p.0) (λ p. p.1)) (λ a p. same-entry x y a p.0 p.1) (λ e. ap (λ (z : Entry). z.job) e)
    (λ e. (ap (λ (z : Entry). z.mode) e, ap (λ (z : Entry). z.start) e))

front_decided : (xs ys : List Entry) → Decided (xs ≡ ys)
front_decided [] [] = inl refl
front_decided [] (y ∷ ys) = inr (λ e. cc)
front_decided (x ∷ xs) [] = inr (λ e. cc)
front_decided (x ∷ xs) (y ∷ ys) = both (entry_decided x y) (front_decided xs ys) (λ a b. cc) (λ e. cc) (λ e. cc)

same-waiting : (x y : Waiting) → x.place ≡ y.place → x.front ≡ y.front → x ≡ y
same-waiting x y a b =
    let place : x ≡ record x { place = y.place } = ap (λ (p : ℕ). record x { place = p }) a in
    let front : record x { place = y.place } ≡ y = ap (λ (F : List Entry). record y { front = F }) b in
    place ∙ front

waiting_decided : (x y : Waiting) → Decided (x ≡ y)
waiting_decided x y = both (cases_eq x.place y.place) (front_decided x.front y.front) (same-waiting x y) (λ e. ap (λ (z : Waiting). z.place) e) (λ e. ap (λ (z : Waiting). z.front) e)

-- Weights.

abbrev mark : {A : Type 0} → Decided A → ℕ
mark (inl a) = 1
mark (inr n) = 0

mark-one : {A : Type 0} (d : Decided A) → A → mark d ≡ 1
mark-one (inl a) x = refl
mark-one (inr n) x = absurd (n x)

marked : {A : Type 0} (d : Decided A) → A ⊎ (mark d ≡ 0)
marked (inl a) = inl a
marked (inr n) = inr refl

weighs-some : {X : Type 0} (same : (x y : X) → Decided (x ≡ y)) (xs : List X) (x : X) → In xs x → 0 < total (λ y. mark (same y x)) xs
weighs-some same [] x i = absurd i
weighs-some same (y ∷ ys) x (inl e) = let one = mark-one (same y x) e in omega arith
weighs-some same (y ∷ ys) x (inr i) = let ih = weighs-some same ys x i in omega arith

In-marked : {X : Type 0} (same : (x y : X) → Decided (x ≡ y)) (xs : List X) (x : X) → 0 < total (λ y. mark (same y x)) xs → In xs x
In-marked same [] x l = absurd (omega arith)
In-marked same (y ∷ ys) x l = elim (marked (same y x)) [ inl e ↦ inl e | inr none ↦ inr (In-marked same ys x (omega arith)) ]

pub same-items : (xs ys : List Waiting) → ((weight : Waiting → ℕ) → total weight xs ≡ total weight ys) → (x : Waiting) → In xs x → In ys x
same-items xs ys e x i = In-marked waiting_decided ys x (let own = e (λ y. mark (waiting_decided y x)) in let some = weighs-some waiting_decided xs x i in omega arith)
