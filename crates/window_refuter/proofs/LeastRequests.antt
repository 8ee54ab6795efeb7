-- The least request over the first modes of a job, one mode further.
use Rattle.std.proofs.Common.{◌≡◌, ℕ, ◌+◌, ◌-◌, ◌<◌, ◌≤◌, min, arith, refl, ap, ◌∙◌, List, [], ◌∷◌, ◌++◌, length, get_or, take, length-take}
use Rattle.std.specs.Prelude.{slice_index}
use Rattle.std.proofs.lemmas.List.{take_more, take_all}
use Rattle.rcpsp_model.specs.declared.parts.Mode.{Mode}
use Rattle.rcpsp_model.specs.Project.{Project, modes_of, mode_of, no_mode, request}
use Rattle.rcpsp_model.specs.Chain.{least_over}
use Rattle.window_refuter.specs.Windows.{least_request}

-- what a mode asks of a renewable resource
abbrev pub request_of : ℕ → Mode → ℕ
request_of k m = slice_index m.requests (k - 1)

least_over-push : (f : Mode → ℕ) (x : Mode) (ms : List Mode) (m : Mode) → least_over f ((x ∷ ms) ++ m ∷ []) ≡ min (least_over f (x ∷ ms)) (f m)
least_over-push f x [] m = refl
least_over-push f x (y ∷ ms) m = let ih = least_over-push f y ms m in omega arith

least_over-last : (f : Mode → ℕ) (ms : List Mode) (m : Mode) → 1 ≤ length ms → least_over f (ms ++ m ∷ []) ≡ min (least_over f ms) (f m)
least_over-last f [] m h = absurd (let z : 1 ≤ 0 = h in omega arith)
least_over-last f (x ∷ ms) m h = least_over-push f x ms m

least_over-first : (f : Mode → ℕ) (ms : List Mode) → 1 ≤ length ms → least_over f (take 1 ms) ≡ f (get_or ms (1 - 1) no_mode)
least_over-first f [] h = absurd (let z : 1 ≤ 0 = h in omega arith)
least_over-first f (m ∷ ms) h = refl

pub least_request-one : (P : Project) (j k : ℕ) → 1 ≤ length (modes_of P j) → least_over (request_of k) (take 1 (modes_of P j)) ≡ request P j 1 k
unfolding request mode_of
least_request-one P j k h = least_over-first (request_of k) (modes_of P j) h

pub least_request-more : (P : Project) (j k i : ℕ) → 1 ≤ i → i < length (modes_of P j) →
    least_over (request_of k) (take (i + 1) (modes_of P j)) ≡ min (least_over (request_of k) (take i (modes_of P j))) (request P j (i + 1) k)
unfolding request mode_of
least_request-more P j k i low high =
    ap (least_over (request_of k)) (take_more (modes_of P j) i no_mode high)
    ∙ least_over-last (request_of k) (take i (modes_of P j)) (get_or (modes_of P j) i no_mode) (let t = length-take i (modes_of P j) in omega arith)
    ∙ ap (λ n. min (least_over (request_of k) (take i (modes_of P j))) (request_of k (get_or (modes_of P j) n no_mode))) (let e : i ≡ i + 1 - 1 = omega arith in e)

pub least_request-all : (P : Project) (j k i : ℕ) → length (modes_of P j) ≤ i → least_over (request_of k) (take i (modes_of P j)) ≡ least_request P j k
unfolding least_request
least_request-all P j k i h = ap (least_over (request_of k)) (take_all i (modes_of P j) h)
