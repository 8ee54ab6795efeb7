-- Citations: a number is found by halves, and what is kept of a line is its front again.
use Rattle.std.proofs.Common.{◌≡◌, ℕ, zero, suc, ◌+◌, ◌<◌, ◌≤◌, inl, inr, arith, refl, sym, ap, subst, ◌∙◌, List, [], ◌∷◌, length, drop, Bool, Option, Some, None, get_or}
use Rattle.std.specs.Prelude.{slice_get, slice_index, ◌↔◌, IsTrue}
use Rattle.std.specs.List.{AllZip}
use Rattle.std.proofs.lemmas.Bool.{cases_lt}
use Rattle.rcpsp_model.specs.declared.parts.Child.{Child}
use Rattle.rcpsp_model.specs.declared.parts.Child.TheVariants as children
use Rattle.rcpsp_model.specs.declared.parts.Entry.{Entry}
use Rattle.rcpsp_model.specs.declared.parts.Shut.{Shut as Why}
use Rattle.rcpsp_model.specs.Project.{Project}
use Rattle.rcpsp_model.specs.Tree.{IsChild}
use Rattle.rcpsp_model.specs.Dominance.{Dominates}
use Rattle.rcpsp_model.proofs.ChildLists.{child-one}
use Rattle.rcpsp_model.proofs.Decided.{shut-not_placed}
use Rattle.precedence_tree.specs.Node.{NodeState}
use Rattle.precedence_tree.specs.Children.{child_front}
use Rattle.log_checker.specs.declared.choices.Turn.{Turn}
use Rattle.log_checker.specs.declared.walk.Grown.{Grown}
use Rattle.log_checker.specs.declared.walk.Citing.{Citing}
use Rattle.log_checker.specs.Walk.{Citation, IsKeptAs}
use Rattle.log_checker.specs.Citations.{IsServedBy, IsFirstBad, numbers_of, Ascends, IsChildOf}

-- Numbers by halves.

size-numbers : (grown : List Grown) → length (numbers_of grown) ≡ length grown
size-numbers [] = refl
size-numbers (g ∷ grown) = ap suc (size-numbers grown)

pub number-at : (grown : List Grown) (i : ℕ) (g : Grown) → i < length grown → g ≡ get_or grown i g → slice_index (numbers_of grown) i ≡ g.line
number-at [] i g low e = absurd (omega arith)
number-at (x ∷ grown) zero g low e = ap (λ (y : Grown). y.line) (sym e)
number-at (x ∷ grown) (suc i) g low e = number-at grown i g (omega arith) e

pub less-before : (grown : List Grown) (n middle line : ℕ) (g : Grown) → middle < length grown → g ≡ get_or grown middle g → g.line < line → Ascends (numbers_of grown) → (i : ℕ) → i < middle + 1 → slice_index (numbers_of grown) i < line
less-before grown n middle line g within e low asc i before =
    let own = number-at grown middle g within e in
    let size = size-numbers grown in
    elim (cases_lt i middle) [
      | inl less ↦ let up = asc i middle less (omega arith) in omega arith
      | inr same ↦ let at : i ≡ middle = omega arith in let here = ap (slice_index (numbers_of grown)) at in omega arith
    ]

pub greater-behind : (grown : List Grown) (middle line : ℕ) (g : Grown) → middle < length grown → g ≡ get_or grown middle g → line ≤ g.line → (g.line ≡ line → ⊥) → Ascends (numbers_of grown) →
    (i : ℕ) → middle ≤ i → i < length grown → line < slice_index (numbers_of grown) i
greater-behind grown middle line g within e high other asc i behind top =
    let own = number-at grown middle g within e in
    let size = size-numbers grown in
    let more : line < g.line = elim (cases_lt line g.line) [ inl y ↦ y | inr n ↦ absurd (other (omega arith)) ] in
    elim (cases_lt middle i) [
      | inl less ↦ let up = asc middle i less (omega arith) in omega arith
      | inr same ↦ let at : i ≡ middle = omega arith in let here = ap (slice_index (numbers_of grown)) at in omega arith
    ]

-- What is kept of a citing line is its front again.

pub made-shut : (P : Project) (F G : List Entry) (turn : Turn) (i n : ℕ) (why : Why) (d : Child NodeState) → IsChild P F turn.job turn.mode (child_front d) → d ≡ children.Shut i n why → IsChildOf P F turn G → ⊥
made-shut P F G turn i n why d is e of =
    let shut = subst (λ (x : Child NodeState). IsChild P F turn.job turn.mode (child_front x)) e is in shut-not_placed P F turn.job turn.mode of.start why shut.2 of.placed

same-front : (G H : List Entry) → children.Placed G ≡ children.Placed H → G ≡ H
same-front G H e = cc

pub made-front : (P : Project) (F G : List Entry) (turn : Turn) (node : NodeState) (d : Child NodeState) → IsChild P F turn.job turn.mode (child_front d) → d ≡ children.Placed node → IsChildOf P F turn G → node.front ≡ G
made-front P F G turn node d is e of =
    let placed = subst (λ (x : Child NodeState). IsChild P F turn.job turn.mode (child_front x)) e is in
    same-front node.front G (child-one P F turn.job turn.mode (children.Placed node.front) (children.Placed G) placed (of.start, of.front, of.placed))

-- An item of a list, by its place.
pub get-item : {X : Type 0} (xs : List X) (i : ℕ) (x : X) → i < length xs → x ≡ get_or xs i x → slice_get xs i ≡ Some x
get-item [] i x low e = absurd (omega arith)
get-item (y ∷ xs) zero x low e = ap (λ z. Some z) (sym e)
get-item (y ∷ xs) (suc i) x low e = get-item xs i x (omega arith) e

pub get-within : {X : Type 0} (xs : List X) (i : ℕ) (x : X) → slice_get xs i ≡ Some x → i < length xs
get-within [] i x e = absurd (cc)
get-within (y ∷ xs) zero x e = omega arith
get-within (y ∷ xs) (suc i) x e = let low = get-within xs i x e in omega arith

some-same : {X : Type 0} (x y : X) → Some x ≡ Some y → x ≡ y
some-same x y e = cc

pub get-same : {X : Type 0} (xs : List X) (i : ℕ) (x y : X) → slice_get xs i ≡ Some x → y ≡ get_or xs i y → y ≡ x
get-same [] i x y e f = absurd (cc)
get-same (z ∷ xs) zero x y e f = f ∙ some-same z x e
get-same (z ∷ xs) (suc i) x y e f = get-same xs i x y e f

number-of : (grown : List Grown) (i : ℕ) (g : Grown) → slice_get grown i ≡ Some g → slice_index (numbers_of grown) i ≡ g.line
number-of [] i g e = absurd (cc)
number-of (x ∷ grown) zero g e = ap (λ (y : Grown). y.line) (some-same x g e)
number-of (x ∷ grown) (suc i) g e = number-of grown i g e

-- where numbers ascend, one place has a number
one-place : (xs : List ℕ) (i k : ℕ) → Ascends xs → i < length xs → k < length xs → slice_index xs i ≡ slice_index xs k → i ≡ k
one-place xs i k asc a b e = elim (cases_lt i k) [
  | inl less ↦ let up = asc i k less b in absurd (omega arith)
  | inr more ↦ elim (cases_lt k i) [ inl less ↦ let up = asc k i less a in absurd (omega arith) | inr same ↦ omega arith ]
]

-- an item that is there is the same whatever stands for none
pub get-default : {X : Type 0} (xs : List X) (i : ℕ) (d : X) → i < length xs → get_or xs i d ≡ get_or xs i (get_or xs i d)
get-default [] i d low = absurd (omega arith)
get-default (x ∷ xs) zero d low = refl
get-default (x ∷ xs) (suc i) d low = get-default xs i d (omega arith)

-- Whether a line is served.

pub child-of : (P : Project) (grown : List Grown) (c : Citation) (k : Citing) (parent : Grown) → IsKeptAs P grown c k → parent ≡ get_or grown k.parent parent → IsChildOf P parent.front.front k.turn c.front
child-of P grown c k parent is e =
    let same = get-same grown k.parent is.place.own parent is.place.at e in
    let front : is.parent ≡ parent.front.front = sym is.place.front ∙ ap (λ (g : Grown). g.front.front) (sym same) in
    subst (λ (F : List Entry). IsChildOf P F k.turn c.front) front (record { start = is.start; front = is.front; placed = is.placed })

pub served-some : (P : Project) (grown : List Grown) (c : Citation) (k : Citing) (place : ℕ) (cited : Grown) (b : Bool) → IsKeptAs P grown c k → Ascends (numbers_of grown) → place < length grown → cited ≡ get_or grown place cited →
    slice_index (numbers_of grown) place ≡ k.cited → IsTrue b ↔ Dominates P cited.front.front c.front → IsTrue b ↔ IsServedBy P grown c
served-some P grown c k place cited b is asc within own number exactly = (
  λ t. record { place = place; own = cited; at = get-item grown place cited within own; line = sym (number-at grown place cited within own) ∙ number ∙ is.cited; dominates = exactly.0 t },
  λ s.
      let size = size-numbers grown in
      let there = get-within grown s.place s.own s.at in
      let same : s.place ≡ place = one-place (numbers_of grown) s.place place asc (omega arith) (omega arith) (number-of grown s.place s.own s.at ∙ s.line ∙ sym is.cited ∙ sym number) in
      let item = get-same grown place s.own cited (subst (λ (i : ℕ). slice_get grown i ≡ Some s.own) same s.at) own in
      exactly.1 (subst (λ (g : Grown). Dominates P g.front.front c.front) (sym item) s.dominates),
)

pub served-none : (P : Project) (grown : List Grown) (c : Citation) (k : Citing) → IsKeptAs P grown c k → ((i : ℕ) → i < length grown → slice_index (numbers_of grown) i ≡ k.cited → ⊥) → IsServedBy P grown c → ⊥
served-none P grown c k is none s = none s.place (get-within grown s.place s.own s.at) (number-of grown s.place s.own s.at ∙ s.line ∙ sym is.cited)

-- The first that isn't served.

first-here : (P : Project) (grown : List Grown) (cs : List Citation) (ks : List Citing) (i : ℕ) (k : Citing) → AllZip (IsKeptAs P grown) cs ks → i < length ks → k ≡ get_or ks i k →
    (c : Citation) × IsKeptAs P grown c k × (drop i cs ≡ c ∷ drop (suc i) cs)
first-here P grown [] [] i k z low e = absurd (omega arith)
first-here P grown [] (x ∷ ks) i k z low e = absurd z
first-here P grown (c ∷ cs) [] i k z low e = absurd z
first-here P grown (c ∷ cs) (x ∷ ks) zero k z low e = (c, subst (IsKeptAs P grown c) (sym e) z.0, refl)
first-here P grown (c ∷ cs) (x ∷ ks) (suc i) k z low e = first-here P grown cs ks i k z.1 (omega arith) e

pub first-bad : (P : Project) (grown : List Grown) (cs : List Citation) (ks : List Citing) (i : ℕ) (k : Citing) → AllZip (IsKeptAs P grown) cs ks → i < length ks → k ≡ get_or ks i k →
    ((c : Citation) → IsKeptAs P grown c k → IsServedBy P grown c → ⊥) → IsFirstBad P grown (drop i cs) (Some k.line)
first-bad P grown cs ks i k z low e none =
    let f = first-here P grown cs ks i k z low e in
    subst (λ (xs : List Citation). IsFirstBad P grown xs (Some k.line)) (sym f.2) (inl (none f.0 f.1, ap (λ (n : ℕ). Some n) f.1.line))

pub first-more : (P : Project) (grown : List Grown) (cs : List Citation) (ks : List Citing) (i : ℕ) (k : Citing) (n : Option ℕ) → AllZip (IsKeptAs P grown) cs ks → i < length ks → k ≡ get_or ks i k →
    ((c : Citation) → IsKeptAs P grown c k → IsServedBy P grown c) → IsFirstBad P grown (drop (i + 1) cs) n → IsFirstBad P grown (drop i cs) n
first-more P grown cs ks i k n z low e served rest =
    let f = first-here P grown cs ks i k z low e in
    let up : i + 1 ≡ suc i = omega arith in
    subst (λ (xs : List Citation). IsFirstBad P grown xs n) (sym f.2) (inr (served f.0 f.1, subst (λ (j : ℕ). IsFirstBad P grown (drop j cs) n) up rest))

pub first-none : (P : Project) (grown : List Grown) (cs : List Citation) (ks : List Citing) (i : ℕ) → AllZip (IsKeptAs P grown) cs ks → length ks ≤ i → IsFirstBad P grown (drop i cs) None
first-none P grown [] [] zero z low = refl
first-none P grown [] [] (suc i) z low = refl
first-none P grown [] (x ∷ ks) i z low = absurd z
first-none P grown (c ∷ cs) [] i z low = absurd z
first-none P grown (c ∷ cs) (x ∷ ks) zero z low = absurd (omega arith)
first-none P grown (c ∷ cs) (x ∷ ks) (suc i) z low = first-none P grown cs ks i z.1 (omega arith)
