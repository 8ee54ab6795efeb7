-- Where an item of a list lies in its blocks. A block is seen by a function that gives its items.
use Rattle.std.proofs.Common.{◌≡◌, ℕ, zero, suc, ◌+◌, ◌-◌, ◌*◌, ◌/◌, ◌%◌, ◌<◌, ◌≤◌, inl, inr, refl, sym, ap, subst, ◌∙◌, arith, List, [], ◌∷◌, ◌++◌, length, length-append, length-set, map, append_assoc, All}
use Rattle.std.specs.Prelude.{slice_index_or, slice_set}
use Rattle.std.proofs.Math.Nat.{mod-lt, div-add-mod}
use Rattle.std.proofs.lemmas.Bool.{cases_lt}
use Rattle.std.proofs.lemmas.List.{length-map, map-append, append-nil, get_or_append_left, get_or-append_right, set-append_left, set-append_right}
use Rattle.std.proofs.lemmas.List.Elements.{All-get_or, All-push}
use Rattle.search_log.specs.Blocks.{joined, AreFilled, AreBlocks}

-- there are as many items as are told
pub length-joined : {X : Type 0} (size n : ℕ) (bs : List (List X)) → AreFilled size n bs → length (joined bs) ≡ n
length-joined size n [] f = sym f
length-joined size n (b ∷ bs) f =
    let ih = length-joined size (n - size) bs f.1 in
    let all = length-append b (joined bs) in
    let own = f.0 in
    omega arith

joined-none : {X : Type 0} (size n : ℕ) (bs : List (List X)) → n ≡ 0 → AreFilled size n bs → joined bs ≡ []
joined-none size n [] e f = refl
joined-none size n ([] ∷ bs) e f = joined-none size (n - size) bs (omega arith) f.1
joined-none size n ((x ∷ b) ∷ bs) e f = absurd (let own = f.0 in omega arith)

-- The item p lies in block i at the place j.
pub record LiesIn {V X : Type 0} (items : V → List X) (vs : List V) (v0 : V) (i j p : ℕ) : Type 0 where
  pub block : i < length vs
  pub within : j < length (items (slice_index_or vs i v0))
  pub is : (d : X) → slice_index_or (joined (map items vs)) p d ≡ slice_index_or (items (slice_index_or vs i v0)) j d

pub lies-in : {V X : Type 0} (items : V → List X) (n : ℕ) (vs : List V) (v0 : V) (i j p : ℕ) → AreFilled 4096 n (map items vs) → 4096 * i + j ≡ p → j < 4096 → p < n → LiesIn items vs v0 i j p
lies-in items n [] v0 i j p f e l w = absurd (omega arith)
lies-in items n (v ∷ vs) v0 zero j p f e l w =
    let own = f.0 in
    let same : p ≡ j = omega arith in
    record {
      block = omega arith;
      within = omega arith;
      is = λ d. get_or_append_left (items v) (joined (map items vs)) d p (omega arith) ∙ ap (λ (k : ℕ). slice_index_or (items v) k d) same;
    }
lies-in items n (v ∷ vs) v0 (suc i) j p f e l w =
    let own = f.0 in
    let r = lies-in items (n - 4096) vs v0 i j (p - 4096) f.1 (omega arith) l (omega arith) in
    let block = r.block in
    record {
      block = omega arith;
      within = r.within;
      is = λ d. get_or-append_right (items v) (joined (map items vs)) 4096 p d (omega arith) (omega arith) ∙ r.is d;
    }

pub lies-in_place : {V X : Type 0} (items : V → List X) (n : ℕ) (vs : List V) (v0 : V) (p : ℕ) → AreFilled 4096 n (map items vs) → p < n → LiesIn items vs v0 (p / 4096) (p % 4096) p
lies-in_place items n vs v0 p f w = lies-in items n vs v0 (p / 4096) (p % 4096) p f (div-add-mod p 4096) (mod-lt p (omega arith)) w

-- An item is put in its block.
pub record IsPut {X : Type 0} (n : ℕ) (old new : List (List X)) (p : ℕ) (x : X) : Type 0 where
  pub filled : AreFilled 4096 n new
  pub items : joined new ≡ slice_set (joined old) p x

put-in : {V X : Type 0} (items : V → List X) (n : ℕ) (vs : List V) (v0 new : V) (i j p : ℕ) (x : X) → AreFilled 4096 n (map items vs) → 4096 * i + j ≡ p → j < 4096 → p < n →
    items new ≡ slice_set (items (slice_index_or vs i v0)) j x → IsPut n (map items vs) (map items (slice_set vs i new)) p x
put-in items n [] v0 new i j p x f e l w put = absurd (let own = f in omega arith)
put-in items n (v ∷ vs) v0 new zero j p x f e l w put =
    let own = f.0 in
    let same : j ≡ p = omega arith in
    let len = ap length put ∙ length-set (items v) j x in
    record {
      filled = (omega arith, f.1);
      items = ap (λ ys. ys ++ joined (map items vs)) (put ∙ ap (λ (k : ℕ). slice_set (items v) k x) same) ∙ sym (set-append_left (items v) (joined (map items vs)) p x (omega arith));
    }
put-in items n (v ∷ vs) v0 new (suc i) j p x f e l w put =
    let own = f.0 in
    let r = put-in items (n - 4096) vs v0 new i j (p - 4096) x f.1 (omega arith) l (omega arith) put in
    record {
      filled = (f.0, r.filled);
      items = ap (λ ys. items v ++ ys) r.items ∙ sym (set-append_right (items v) (joined (map items vs)) 4096 p x (omega arith) (omega arith));
    }

pub put-in_place : {V X : Type 0} (items : V → List X) (n : ℕ) (vs : List V) (v0 new : V) (p : ℕ) (x : X) → AreFilled 4096 n (map items vs) → p < n →
    items new ≡ slice_set (items (slice_index_or vs (p / 4096) v0)) (p % 4096) x → IsPut n (map items vs) (map items (slice_set vs (p / 4096) new)) p x
put-in_place items n vs v0 new p x f w put = put-in items n vs v0 new (p / 4096) (p % 4096) p x f (div-add-mod p 4096) (mod-lt p (omega arith)) w put

-- An item is appended in the block that has room.
pub record IsAppended {X : Type 0} (n : ℕ) (old new : List (List X)) (x : X) : Type 0 where
  pub filled : AreFilled 4096 (n + 1) new
  pub items : joined new ≡ joined old ++ x ∷ []

filled-along : {X : Type 0} (m n : ℕ) (bs : List (List X)) → m ≡ n → AreFilled 4096 m bs → AreFilled 4096 n bs
filled-along m n bs e f = subst (λ (k : ℕ). AreFilled 4096 k bs) e f

append-in : {V X : Type 0} (items : V → List X) (n : ℕ) (vs : List V) (v0 new : V) (i j : ℕ) (x : X) → AreFilled 4096 n (map items vs) → 4096 * i + j ≡ n → j < 4096 → n < 4096 * length vs →
    items new ≡ items (slice_index_or vs i v0) ++ x ∷ [] → IsAppended n (map items vs) (map items (slice_set vs i new)) x
append-in items n [] v0 new i j x f e l w put = absurd (omega arith)
append-in items n (v ∷ vs) v0 new zero j x f e l w put =
    let own = f.0 in
    let len = ap length put ∙ length-append (items v) (x ∷ []) in
    let none = joined-none 4096 (n - 4096) (map items vs) (omega arith) f.1 in
    let old = ap (λ ys. items v ++ ys) none ∙ append-nil (items v) in
    record {
      filled = (omega arith, filled-along (n - 4096) (n + 1 - 4096) (map items vs) (omega arith) f.1);
      items = ap (λ ys. items new ++ ys) none ∙ (append-nil (items new) ∙ (put ∙ ap (λ ys. ys ++ x ∷ []) (sym old)));
    }
append-in items n (v ∷ vs) v0 new (suc i) j x f e l w put =
    let own = f.0 in
    let r = append-in items (n - 4096) vs v0 new i j x f.1 (omega arith) l (omega arith) put in
    record {
      filled = (omega arith, filled-along (n - 4096 + 1) (n + 1 - 4096) (map items (slice_set vs i new)) (omega arith) r.filled);
      items = ap (λ ys. items v ++ ys) r.items ∙ sym (append_assoc (items v) (joined (map items vs)) (x ∷ []));
    }

pub append-in_place : {V X : Type 0} (items : V → List X) (n : ℕ) (vs : List V) (v0 new : V) (x : X) → AreFilled 4096 n (map items vs) → n < 4096 * length vs →
    items new ≡ items (slice_index_or vs (n / 4096) v0) ++ x ∷ [] → IsAppended n (map items vs) (map items (slice_set vs (n / 4096) new)) x
append-in_place items n vs v0 new x f w put = append-in items n vs v0 new (n / 4096) (n % 4096) x f (div-add-mod n 4096) (mod-lt n (omega arith)) w put

pub block-within : (n m : ℕ) → n < 4096 * m → n / 4096 < m
block-within n m l = let a = div-add-mod n 4096 in omega arith

-- A block without an item is opened where all are full.
pub record IsOpened {X : Type 0} (n : ℕ) (old : List (List X)) : Type 0 where
  pub filled : AreFilled 4096 n (old ++ [] ∷ [])
  pub items : joined (old ++ [] ∷ []) ≡ joined old

pub opened : {X : Type 0} (n : ℕ) (bs : List (List X)) → n ≡ 4096 * length bs → AreFilled 4096 n bs → IsOpened n bs
opened n [] e f = record { filled = (omega arith, omega arith); items = refl }
opened n (b ∷ bs) e f =
    let r = opened (n - 4096) bs (omega arith) f.1 in
    record { filled = (f.0, r.filled); items = ap (λ ys. b ++ ys) r.items }

-- the blocks have room for all their items
pub filled-room : {X : Type 0} (n : ℕ) (bs : List (List X)) → AreFilled 4096 n bs → n ≤ 4096 * length bs
filled-room n [] f = omega arith
filled-room n (b ∷ bs) f = let r = filled-room (n - 4096) bs f.1 in omega arith

pub in-blocks : {V X : Type 0} (items : V → List X) (n : ℕ) (vs : List V) (p : ℕ) → AreFilled 4096 n (map items vs) → p < n → p / 4096 < length vs
in-blocks items n vs p f w =
    let room = filled-room n (map items vs) f in
    let same = length-map vs items in
    block-within p (length vs) (omega arith)

-- the number of items, where the blocks are seen as one list
pub length-view : {X : Type 0} (n : ℕ) (bs : List (List X)) (xs : List X) → AreFilled 4096 n bs → joined bs ≡ xs → n ≡ length xs
length-view n bs xs f e = sym (length-joined 4096 n bs f) ∙ ap length e

-- where the block of the next item isn't there, all are full
pub all-full : (n m : ℕ) → n ≤ 4096 * m → n / 4096 ≡ m → n ≡ 4096 * m
all-full n m l e =
    let a = div-add-mod n 4096 in
    let b : 4096 * (n / 4096) ≡ 4096 * m = ap (λ (x : ℕ). 4096 * x) e in
    omega arith

pub has-room : (n m : ℕ) → n ≤ 4096 * m → (n / 4096 ≡ m → ⊥) → n < 4096 * m
has-room n m l d =
    elim (cases_lt n (4096 * m)) [
      | inl less ↦ less
      | inr full ↦ absurd (d (let a = div-add-mod n 4096 in let b = mod-lt n {m = 4096} (omega arith) in omega arith))
    ]

pub record IsReopened {X : Type 0} (n : ℕ) (old new : List (List X)) : Type 0 where
  pub filled : AreFilled 4096 n new
  pub items : joined new ≡ joined old

pub reopened : {V X : Type 0} (items : V → List X) (n : ℕ) (vs ws : List V) (v : V) → ws ≡ vs ++ v ∷ [] → items v ≡ [] → n / 4096 ≡ length vs → AreFilled 4096 n (map items vs) → IsReopened n (map items vs) (map items ws)
reopened {X = X} items n vs ws v e none d f =
    let same = length-map vs items in
    let room = filled-room n (map items vs) f in
    let full = all-full n (length vs) (omega arith) d in
    let r = opened n (map items vs) (omega arith) f in
    let shape : map items ws ≡ map items vs ++ [] ∷ [] = ap (map items) e ∙ (map-append items vs (v ∷ []) ∙ ap (λ (b : List X). map items vs ++ b ∷ []) none) in
    record {
      filled = subst (λ (bs : List (List X)). AreFilled 4096 n bs) (sym shape) r.filled;
      items = ap joined shape ∙ r.items;
    }

pub room-left : {V X : Type 0} (items : V → List X) (n : ℕ) (vs : List V) → AreFilled 4096 n (map items vs) → (n / 4096 ≡ length vs → ⊥) → n < 4096 * length vs
room-left items n vs f d =
    let same = length-map vs items in
    let room = filled-room n (map items vs) f in
    has-room n (length vs) (omega arith) d

-- the block of the next item has those behind the full ones
next-block : {V X : Type 0} (items : V → List X) (n : ℕ) (vs : List V) (v0 : V) (i j : ℕ) → AreFilled 4096 n (map items vs) → 4096 * i + j ≡ n → j < 4096 → n < 4096 * length vs → length (items (slice_index_or vs i v0)) ≡ j
next-block items n [] v0 i j f e l w = absurd (omega arith)
next-block items n (v ∷ vs) v0 zero j f e l w = let own = f.0 in omega arith
next-block items n (v ∷ vs) v0 (suc i) j f e l w = next-block items (n - 4096) vs v0 i j f.1 (omega arith) l (omega arith)

pub next-room : {V X : Type 0} (items : V → List X) (room : V → ℕ) (n : ℕ) (vs : List V) (v0 : V) → AreBlocks items room n vs → n < 4096 * length vs →
    length (items (slice_index_or vs (n / 4096) v0)) < room (slice_index_or vs (n / 4096) v0)
next-room items room n vs v0 b w =
    let small = mod-lt n {m = 4096} (omega arith) in
    let own = next-block items n vs v0 (n / 4096) (n % 4096) b.filled (div-add-mod n 4096) small w in
    let roomy = All-get_or (λ v. 4096 ≤ room v) vs (n / 4096) v0 (block-within n (length vs) w) b.roomy in
    omega arith

pub none-over : {V X : Type 0} (items : V → List X) (n : ℕ) (vs : List V) → AreFilled 4096 n (map items vs) → n / 4096 ≡ length vs → n % 4096 ≡ 0
none-over items n vs f d =
    let same = length-map vs items in
    let room = filled-room n (map items vs) f in
    let full = all-full n (length vs) (omega arith) d in
    let parts = div-add-mod n 4096 in
    let whole : 4096 * (n / 4096) ≡ 4096 * length vs = ap (λ (x : ℕ). 4096 * x) d in
    omega arith

pub roomy-more : {V : Type 0} (room : V → ℕ) (vs ws : List V) (v : V) → ws ≡ vs ++ v ∷ [] → All (λ w. 4096 ≤ room w) vs → 4096 ≤ room v → All (λ w. 4096 ≤ room w) ws
roomy-more room vs ws v e all own = subst (All (λ w. 4096 ≤ room w)) (sym e) (All-push (λ w. 4096 ≤ room w) vs v all own)
