-- How many rows a table has.
use Rattle.std.proofs.Common.{◌≡◌, ℕ, ◌+◌, ◌*◌, ◌<◌, ◌≤◌, ap, arith, List, [], ◌∷◌, length, map, Option, Some, None}
use Rattle.std.proofs.lemmas.List.{length-map}
use Rattle.rcpsp_model.specs.declared.parts.Entry.{Entry}
use Rattle.rcpsp_model.specs.declared.parts.Verdict.{Verdict}
use Rattle.rcpsp_model.specs.Project.{Project, IsWithinLimits, numbers_from}
use Rattle.rcpsp_model.specs.Tree.{Choice, choices}
use Rattle.log_truth.specs.Log.{by_choice, child_branches}
use Rattle.log_truth.proofs.FewLines.{few_choices}
use Rattle.search_log.specs.Weights.{total, over}
use Rattle.search_log.specs.Fates.{RowSaying, row_open, row_expanded, row_late, row_cites, row_shut}
use Rattle.search_log.specs.Table.{says_at, children_of}
use Rattle.search_log.specs.Stands.{TreeNode, branch_at, place_front, Suits, one_expanded}
use Rattle.search_log.specs.Laws.{RoomLaw}
use Rattle.search_log.proofs.Sums.{total-one, over-one}
use Rattle.search_log.proofs.PassedPlaces.{below-rows}
use Rattle.search_log.proofs.ToldLogs.{places-expanded}

few-children : (P : Project) (v : Verdict) (ns : List TreeNode) (o : Option (List Entry)) (s : RowSaying) → IsWithinLimits P → Suits P v ns o s → total (λ q. 1) (children_of s) ≤ 512 * one_expanded s
few-children P v ns (Some F) (row_expanded first count) w is =
    let a = total-one (numbers_from first count) in
    let b = length-map (numbers_from first count) (branch_at ns) in
    let c : length (map (branch_at ns) (numbers_from first count)) ≡ length (child_branches P F) = ap length is.children in
    let d = length-map (choices P F) (λ (x : Choice). by_choice F x) in
    let e = few_choices P F w in
    omega arith
few-children P v ns (Some F) row_open w is = omega arith
few-children P v ns (Some F) (row_late reason) w is = omega arith
few-children P v ns (Some F) (row_cites q) w is = omega arith
few-children P v ns (Some F) (row_shut why) w is = absurd is
few-children P v ns None row_open w is = absurd is
few-children P v ns None (row_expanded first count) w is = absurd is
few-children P v ns None (row_late reason) w is = absurd is
few-children P v ns None (row_cites q) w is = absurd is
few-children P v ns None (row_shut why) w is = omega arith

-- where each place weighs little in the one way, all do together
over-le : {X : Type 0} (f g : ℕ → ℕ) (m k : ℕ) (xs : List X) → ((p : ℕ) → k ≤ p → p < k + length xs → f p ≤ m * g p) → over (λ p x. f p) k xs ≤ m * over (λ p x. g p) k xs
over-le f g m k [] l = omega arith
over-le f g m k (x ∷ xs) l =
    let own = l k (omega arith) (omega arith) in
    let ih = over-le f g m (k + 1) xs (λ p a b. l p (omega arith) (omega arith)) in
    omega arith

pub room_law : RoomLaw
room_law P v T ns ws w s =
    let a = s.account (λ q. 1) in
    let b = over-one 0 T in
    let c = below-rows T (λ q. 1) in
    let d = places-expanded T in
    let e = over-le (λ p. total (λ q. 1) (children_of (says_at T p))) (λ p. one_expanded (says_at T p)) 512 0 T (λ p l m. few-children P v ns (place_front ns p) (says_at T p) w (s.rows p (omega arith)).says) in
    omega arith
