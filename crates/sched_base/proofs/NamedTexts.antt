-- Texts by name, looked for from the front.
use Rattle.std.proofs.Common.{◌≡◌, ℕ, ◌+◌, ◌<◌, Bool, true, false, cond, refl, ◌||◌, sym, ap, ◌∙◌, arith, List, [], ◌∷◌, length, drop, map, get_or}
use Rattle.std.proofs.lemmas.List.{drop_more, length-map, get_or-map}
use Rattle.std.specs.Str.{bytes_eq}
use Rattle.sched_base.specs.Outside.{text_under}
use Rattle.sched_base.specs.Memory.{has_text}

-- no text has the name, so what stands under it is the empty text
pub no_text : (texts : List (List ℕ × List ℕ)) (name : List ℕ) → has_text texts name ≡ false → text_under texts name ≡ []
no_text [] name none = refl
no_text (text ∷ more) name none = at (bytes_eq text.0 name) none (no_text more name)
  where
    at : (b : Bool) → b || has_text more name ≡ false → (has_text more name ≡ false → text_under more name ≡ []) → cond b text.1 (text_under more name) ≡ []
    at true none rest = absurd (cc)
    at false none rest = rest none

module _ {X : Type 0} (text : X → List ℕ × List ℕ) (xs : List X) (place : ℕ) (d : X) (within : place < length xs) where
  -- the texts from a place on begin with the one at it
  front : drop place (map text xs) ≡ text (get_or xs place d) ∷ drop (place + 1) (map text xs)
  front =
      drop_more (map text xs) place (text d) (omega (arith, length-map xs text)) ∙ ap (λ t. t ∷ drop (place + 1) (map text xs)) (get_or-map text xs place d (text d) within)

  -- the text at a place has the name
  pub text_here : (name : List ℕ) → bytes_eq (text (get_or xs place d)).0 name ≡ true → has_text (drop place (map text xs)) name ≡ true
  text_here name same = ap (λ ts. has_text ts name) front ∙ ap (λ b. b || has_text (drop (place + 1) (map text xs)) name) same

  -- the text at a place has another name
  pub text_after : (name : List ℕ) → bytes_eq (text (get_or xs place d)).0 name ≡ false →
      (text_under (drop (place + 1) (map text xs)) name ≡ text_under (drop place (map text xs)) name) × (has_text (drop (place + 1) (map text xs)) name ≡ has_text (drop place (map text xs)) name)
  text_after name other = (
    sym (ap (λ ts. text_under ts name) front ∙ ap (λ b. cond b (text (get_or xs place d)).1 (text_under (drop (place + 1) (map text xs)) name)) other),
    sym (ap (λ ts. has_text ts name) front ∙ ap (λ b. b || has_text (drop (place + 1) (map text xs)) name) other),
  )
