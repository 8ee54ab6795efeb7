-- Numbers up to a cap.
use Rattle.std.proofs.Common.{◌≡◌, ℕ, ◌+◌, ◌-◌, ◌*◌, ◌<◌, List, length, take, get_or, min, arith, ap, ◌∙◌, sym}
use Rattle.std.proofs.lemmas.List.Sums.{fold_more}
use Rattle.psplib_lex.specs.Number.{digits_value}

capped_step : (x e cap : ℕ) → min (10 * min x cap + e) cap ≡ min (10 * x + e) cap
capped_step x e cap = omega arith

-- one digit more
pub capped_more : (digits : List ℕ) (i value cap : ℕ) → i < length digits → value ≡ min (digits_value (take i digits)) cap → min (10 * value + (get_or digits i 0 - 0x30)) cap ≡ min (digits_value (take (i + 1) digits)) cap
capped_more digits i value cap h e =
    ap (λ (v : ℕ). min (10 * v + (get_or digits i 0 - 0x30)) cap) e ∙ capped_step (digits_value (take i digits)) _ cap ∙ ap (λ (n : ℕ). min n cap) (sym (fold_more (λ n digit. 10 * n + (digit - 0x30)) 0 digits i 0 h))
