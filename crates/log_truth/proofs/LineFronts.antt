-- The front of a line: that of a placed child is the longer front, and a shut child has none.
use Rattle.std.proofs.Common.{◌≡◌, ℕ, inl, inr, refl, sym, ap, subst, List, [], ◌∷◌, ◌++◌, Bool, true, false, Option, Some, None}
use Rattle.rcpsp_model.specs.declared.parts.Entry.{Entry}
use Rattle.rcpsp_model.specs.Project.{Project}
use Rattle.rcpsp_model.specs.Tree.{Choice, choices, entry_at, IsFront, IsPlacedChild, CanStart}
use Rattle.rcpsp_model.proofs.Lists.{In, In-from_Contains}
use Rattle.rcpsp_model.proofs.Numbers.{least-one}
use Rattle.rcpsp_model.proofs.RootAndLeaves.{front-push}
use Rattle.rcpsp_model.proofs.Choices.{choice-In, In-map}
use Rattle.rcpsp_model.proofs.Decided.{shut-not_placed}
use Rattle.proof_log.specs.declared.report.LogLine.{LogLine}
use Rattle.log_truth.specs.Fates.{Saying, says_expanded, says_late, says_dominated, says_shut, shuts}
use Rattle.log_truth.specs.Log.{Branch, at_root, by_choice, says, is_expanded, extended_by, root_front, front_at, child_branches, expanded_branches, below, IsShutSaying, IsChildSaying, IsLineAt, IsTreeLog, LogNode, front_of, nodes}
use Rattle.log_truth.specs.Laws.{NodeFrontLaw}
use Rattle.log_truth.proofs.JoinedLogs.{node-line, below-stands, each-branch, below-is}

-- A child that is said to be shut isn't placed.
pub shut_saying-not_placed : (P : Project) (F : List Entry) (c : Choice) (s : Saying) (t : ℕ) → IsShutSaying P F c s → IsPlacedChild P F (entry_at c.job c.mode t) → ⊥
shut_saying-not_placed P F c (says_shut why) t is placed = shut-not_placed P F c.job c.mode t why is placed
shut_saying-not_placed P F c says_expanded t is placed = is
shut_saying-not_placed P F c (says_late r) t is placed = is
shut_saying-not_placed P F c (says_dominated i) t is placed = is

-- The front of a child's line.
child-front : (P : Project) (F G : List Entry) (c : Choice) (start : Option ℕ) (s : Saying) → IsChildSaying P F c start s → extended_by F c start ≡ Some G →
    (t : ℕ) × (F ++ entry_at c.job c.mode t ∷ [] ≡ G) × IsPlacedChild P F (entry_at c.job c.mode t)
child-front P F G c None s is e = absurd (cc)
child-front P F G c (Some t) s is e = (t, cc, is.0)

-- where a child is placed, its line has its front
placed-front : (P : Project) (F : List Entry) (c : Choice) (t : ℕ) (start : Option ℕ) (s : Saying) → IsPlacedChild P F (entry_at c.job c.mode t) → IsChildSaying P F c start s →
    extended_by F c start ≡ Some (F ++ entry_at c.job c.mode t ∷ [])
placed-front P F c t None s placed is = absurd (shut_saying-not_placed P F c s t is placed)
placed-front P F c t (Some u) s placed is =
    let same = least-one (CanStart P F c.job c.mode) u t is.0.follows.start placed.follows.start in
    ap (λ (i : ℕ). Some (F ++ entry_at c.job c.mode i ∷ [])) same

-- a root that isn't shut has the empty front
pub root_front-is : (b : Bool) (G : List Entry) → root_front b ≡ Some G → [] ≡ G
root_front-is true G e = absurd (cc)
root_front-is false G e = cc

-- each line that isn't shut has a front
child-open : (P : Project) (F : List Entry) (c : Choice) (start : Option ℕ) (s : Saying) → IsChildSaying P F c start s → shuts s ≡ false → (G : List Entry) × (extended_by F c start ≡ Some G)
child-open P F c (Some t) s is o = (F ++ entry_at c.job c.mode t ∷ [], refl)
child-open P F c None (says_shut why) is o = absurd (cc)
child-open P F c None says_expanded is o = absurd is
child-open P F c None (says_late r) is o = absurd is
child-open P F c None (says_dominated i) is o = absurd is

pub line-open : (P : Project) (b : Branch) (l : LogLine) → IsLineAt P b l → shuts (says l) ≡ false → (G : List Entry) × (front_at b l ≡ Some G)
line-open P at_root l is o = ([], ap root_front o)
line-open P (by_choice F c) l is o = child-open P F c l.start (says l) is.fate o

-- a branch of the tree: it comes of a front and one of its choices
abbrev pub IsBranch : Project → Branch → Type 0
IsBranch P at_root = Unit {0}
IsBranch P (by_choice F c) = IsFront P F × In (choices P F) c

-- what is wanted first
pub root-branch : (P : Project) (b : Branch) → In (at_root ∷ []) b → IsBranch P b
root-branch P b (inl e) = subst (IsBranch P) e tt
root-branch P b (inr no_) = absurd no_

pub line-front : (P : Project) (b : Branch) (l : LogLine) (G : List Entry) → IsBranch P b → IsLineAt P b l → front_at b l ≡ Some G → IsFront P G
line-front P at_root l G on is e = subst (IsFront P) (root_front-is (shuts (says l)) G e) tt
line-front P (by_choice F c) l G on is e =
    let x = child-front P F G c l.start (says l) is.fate e in subst (IsFront P) x.1 (front-push P F (entry_at c.job c.mode x.0) on.0 x.2.follows)

-- the branches below a line are branches of the tree
pub below-branch : (P : Project) (b c : Branch) (l : LogLine) → IsBranch P b → IsLineAt P b l → In (below P b l) c → IsBranch P c
unfolding below
below-branch P b c l on is i =
    let x = below-is P (is_expanded l) (front_at b l) c i in
    let here : IsBranch P (by_choice x.front x.choice) = (line-front P b l x.front on is x.is_its, x.chosen) in
    subst (IsBranch P) x.branch here

pub node-front : (P : Project) (lines : List LogLine) → IsTreeLog P lines → (n : LogNode) (F : List Entry) → In (nodes P lines) n → front_of n ≡ Some F → IsFront P F
node-front P lines log n F i e =
    line-front P n.branch n.line F (each-branch P (IsBranch P) (λ b c l on is under. below-branch P b c l on is under) (at_root ∷ []) lines log (root-branch P) n i)
    (node-line P (at_root ∷ []) lines log n i) e

pub node_front_law : NodeFrontLaw
node_front_law P lines n F log c e = node-front P lines log n F (In-from_Contains (nodes P lines) n c) e

-- The placed children of an expanded line have lines.
pub child-node : (P : Project) (lines : List LogLine) → IsTreeLog P lines → (n : LogNode) (F : List Entry) (e : Entry) → In (nodes P lines) n → front_of n ≡ Some F → is_expanded n.line ≡ true →
    IsPlacedChild P F e → (m : LogNode) × In (nodes P lines) m × (front_of m ≡ Some (F ++ e ∷ []))
unfolding below
child-node P lines log n F e i front expanded placed =
    let c : Choice = record { job = e.job; mode = e.mode } in
    let here : In (child_branches P F) (by_choice F c) = In-map (λ x. by_choice F x) (choices P F) c (choice-In P F e.job e.mode placed.follows.eligible placed.follows.mode) in
    let moved : In (expanded_branches P true (front_of n)) (by_choice F c) = subst (λ (o : Option (List Entry)). In (expanded_branches P true o) (by_choice F c)) (sym front) here in
    let under : In (below P n.branch n.line) (by_choice F c) = subst (λ (x : Bool). In (expanded_branches P x (front_of n)) (by_choice F c)) (sym expanded) moved in
    let s = below-stands P (at_root ∷ []) lines log n (by_choice F c) i under in
    let line : IsLineAt P (by_choice F c) s.node.line = subst (λ (b : Branch). IsLineAt P b s.node.line) s.branch (node-line P (at_root ∷ []) lines log s.node s.member) in
    let own : front_at (by_choice F c) s.node.line ≡ Some (F ++ e ∷ []) = placed-front P F c e.start s.node.line.start (says s.node.line) placed line.fate in
    (s.node, s.member, subst (λ (b : Branch). front_at b s.node.line ≡ Some (F ++ e ∷ [])) (sym s.branch) own)
