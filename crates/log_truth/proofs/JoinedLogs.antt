-- Logs one after another, the node of each branch that is wanted, and what goes down the tree.
use Rattle.std.proofs.Common.{◌≡◌, inl, inr, refl, sym, ap, ◌∙◌, subst, append_assoc, List, [], ◌∷◌, ◌++◌, Bool, true, false, Option, Some, None}
use Rattle.std.proofs.lemmas.List.{append-nil}
use Rattle.rcpsp_model.specs.declared.parts.Entry.{Entry}
use Rattle.rcpsp_model.specs.Project.{Project}
use Rattle.rcpsp_model.specs.Tree.{Choice, choices}
use Rattle.rcpsp_model.proofs.Lists.{In, In-append}
use Rattle.rcpsp_model.proofs.Choices.{In-left, In-right, map-In}
use Rattle.proof_log.specs.declared.report.LogLine.{LogLine}
use Rattle.log_truth.specs.Log.{Branch, by_choice, front_at, expanded_branches, below, IsLineAt, AreLogs, LogNode, nodes_from}
use Rattle.log_truth.specs.Laws.{AreJoined, JoinedLaw, AloneLaw, BelowLaw}

logs-append : (P : Project) (first others : List Branch) (own rest : List LogLine) → AreLogs P first own → AreLogs P others rest → AreLogs P (first ++ others) (own ++ rest)
logs-append P first others [] rest a b = subst (λ (bs : List Branch). AreLogs P (bs ++ others) rest) (sym a) b
logs-append P [] others (l ∷ own) rest a b = absurd a
logs-append P (x ∷ first) others (l ∷ own) rest a b =
    (a.0, subst (λ (bs : List Branch). AreLogs P bs (own ++ rest)) (append_assoc (below P x l) first others) (logs-append P (below P x l ++ first) others own rest a.1 b))

-- the lines of the first logs, and those of the others
record IsCut (P : Project) (first others : List Branch) (lines : List LogLine) : Type 0 where
  own : List LogLine
  rest : List LogLine
  whole : lines ≡ own ++ rest
  of_first : AreLogs P first own
  of_others : AreLogs P others rest

logs-cut : (P : Project) (first others : List Branch) (lines : List LogLine) → AreLogs P (first ++ others) lines → IsCut P first others lines
logs-cut P [] others lines a = record { own = []; rest = lines; whole = refl; of_first = refl; of_others = a }
logs-cut P (x ∷ first) others [] a = absurd (cc)
logs-cut P (x ∷ first) others (l ∷ ls) a =
    let moved : AreLogs P ((below P x l ++ first) ++ others) ls = subst (λ (bs : List Branch). AreLogs P bs ls) (sym (append_assoc (below P x l) first others)) a.1 in
    let c = logs-cut P (below P x l ++ first) others ls moved in
    record { own = l ∷ c.own; rest = c.rest; whole = ap (λ (ms : List LogLine). l ∷ ms) c.whole; of_first = (a.0, c.of_first); of_others = c.of_others }

logs-joined : (P : Project) (bs : List Branch) (lines : List LogLine) → AreLogs P bs lines → AreJoined P bs lines
logs-joined P [] [] a = refl
logs-joined P [] (l ∷ ls) a = absurd a
logs-joined P (b ∷ bs) lines a = let c = logs-cut P (b ∷ []) bs lines a in (c.own, c.rest, c.whole, c.of_first, logs-joined P bs c.rest c.of_others)

joined-logs : (P : Project) (bs : List Branch) (lines : List LogLine) → AreJoined P bs lines → AreLogs P bs lines
joined-logs P [] lines e = subst (λ (ls : List LogLine). AreLogs P [] ls) (sym e) refl
joined-logs P (b ∷ bs) lines (own, rest, e, first, others) =
    subst (λ (ls : List LogLine). AreLogs P (b ∷ bs) ls) (sym e) (logs-append P (b ∷ []) bs own rest first (joined-logs P bs rest others))

pub joined_law : JoinedLaw
joined_law P b l ls = (
  λ a. (a.0, logs-joined P (below P b l) ls (subst (λ (bs : List Branch). AreLogs P bs ls) (append-nil (below P b l)) a.1)),
  λ j. (j.0, subst (λ (bs : List Branch). AreLogs P bs ls) (sym (append-nil (below P b l))) (joined-logs P (below P b l) ls j.1)),
)

pub alone_law : AloneLaw
unfolding below
alone_law P b l ls no_ a =
    let rest = ((joined_law P b l ls).0 a).1 in
    subst (λ (x : Bool). AreJoined P (expanded_branches P x (front_at b l)) ls) no_ rest

pub below_law : BelowLaw
unfolding below
below_law P b l = record {
  expanded = λ F yes_ front. ap (λ (x : Bool). expanded_branches P x (front_at b l)) yes_ ∙ ap (expanded_branches P true) front;
  other = λ no_. ap (λ (x : Bool). expanded_branches P x (front_at b l)) no_;
}

-- A node's line is that of its branch.
pub node-line : (P : Project) (bs : List Branch) (lines : List LogLine) → AreLogs P bs lines → (n : LogNode) → In (nodes_from P bs lines) n → IsLineAt P n.branch n.line
node-line P bs [] a n i = absurd i
node-line P [] (l ∷ ls) a n i = absurd a
node-line P (b ∷ bs) (l ∷ ls) a n (inl e) = subst (λ (x : LogNode). IsLineAt P x.branch x.line) e a.0
node-line P (b ∷ bs) (l ∷ ls) a n (inr i) = node-line P (below P b l ++ bs) ls a.1 n i

-- a node on the branch
pub record StandsAt (ns : List LogNode) (b : Branch) : Type 0 where
  pub node : LogNode
  pub member : In ns node
  pub branch : node.branch ≡ b

stands-later : {ns : List LogNode} {b : Branch} (n : LogNode) → StandsAt ns b → StandsAt (n ∷ ns) b
stands-later n s = record { node = s.node; member = inr s.member; branch = s.branch }

-- Each branch whose log is wanted has a node.
pub wanted-stands : (P : Project) (bs : List Branch) (lines : List LogLine) → AreLogs P bs lines → (b : Branch) → In bs b → StandsAt (nodes_from P bs lines) b
wanted-stands P bs [] a b i = absurd (subst (λ (x : List Branch). In x b) a i)
wanted-stands P [] (l ∷ ls) a b i = absurd a
wanted-stands P (c ∷ bs) (l ∷ ls) a b (inl e) = record { node = record { branch = c; line = l }; member = inl refl; branch = e }
wanted-stands P (c ∷ bs) (l ∷ ls) a b (inr i) = stands-later _ (wanted-stands P (below P c l ++ bs) ls a.1 b (In-right (below P c l) bs b i))

-- And so has each branch below a node.
pub below-stands : (P : Project) (bs : List Branch) (lines : List LogLine) → AreLogs P bs lines → (n : LogNode) (b : Branch) → In (nodes_from P bs lines) n → In (below P n.branch n.line) b →
    StandsAt (nodes_from P bs lines) b
below-stands P bs [] a n b i under = absurd i
below-stands P [] (l ∷ ls) a n b i under = absurd a
below-stands P (c ∷ bs) (l ∷ ls) a n b (inl e) under =
    let own : In (below P c l) b = subst (λ (x : LogNode). In (below P x.branch x.line) b) (sym e) under in
    stands-later _ (wanted-stands P (below P c l ++ bs) ls a.1 b (In-left (below P c l) bs b own))
below-stands P (c ∷ bs) (l ∷ ls) a n b (inr i) under = stands-later _ (below-stands P (below P c l ++ bs) ls a.1 n b i under)

-- What the first branches have, and goes on from a branch to those below it, the branch of each node has.
pub each-branch : (P : Project) (Q : Branch → Type 0) → ((b c : Branch) (l : LogLine) → Q b → IsLineAt P b l → In (below P b l) c → Q c) →
    (bs : List Branch) (lines : List LogLine) → AreLogs P bs lines → ((b : Branch) → In bs b → Q b) → (n : LogNode) → In (nodes_from P bs lines) n → Q n.branch
each-branch P Q go bs [] a q n i = absurd i
each-branch P Q go [] (l ∷ ls) a q n i = absurd a
each-branch P Q go (b ∷ bs) (l ∷ ls) a q n (inl e) = subst (λ (x : LogNode). Q x.branch) e (q b (inl refl))
each-branch P Q go (b ∷ bs) (l ∷ ls) a q n (inr i) =
    each-branch P Q go (below P b l ++ bs) ls a.1
    (λ x (j : In (below P b l ++ bs) x). elim (In-append (below P b l) bs x j) [ inl under ↦ go b x l (q b (inl refl)) a.0 under | inr r ↦ q x (inr r) ])
    n i

-- what stands below a line
pub record StandsBelow (P : Project) (o : Option (List Entry)) (b : Branch) : Type 0 where
  pub front : List Entry
  pub is_its : o ≡ Some front
  pub choice : Choice
  pub chosen : In (choices P front) choice
  pub branch : by_choice front choice ≡ b

pub below-is : (P : Project) (x : Bool) (o : Option (List Entry)) (b : Branch) → In (expanded_branches P x o) b → StandsBelow P o b
below-is P true (Some F) b i = let r = map-In (λ c. by_choice F c) (choices P F) b i in record { front = F; is_its = refl; choice = r.0; chosen = r.1; branch = r.2 }
below-is P true None b i = absurd i
below-is P false o b i = absurd i
