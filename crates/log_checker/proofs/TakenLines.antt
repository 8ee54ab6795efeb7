-- One line of a log: what the machine keeps stands for it too, or the reason is its fault's.
use Rattle.std.proofs.Common.{◌≡◌, ℕ, ◌+◌, inl, inr, arith, refl, sym, ap, subst, ◌∙◌, append_assoc, List, [], ◌∷◌, ◌++◌, length, length-append, map, Bool, cond, Option, Some, None, Vec, Global}
use Rattle.std.specs.Prelude.{All, vec_len}
use Rattle.std.specs.List.{AllZip}
use Rattle.std.proofs.lemmas.List.{append-nil, map-append}
use Rattle.rcpsp_model.specs.declared.parts.Entry.{Entry}
use Rattle.rcpsp_model.specs.declared.parts.Verdict.{Verdict}
use Rattle.rcpsp_model.specs.Project.{Project, IsWithinLimits}
use Rattle.rcpsp_model.specs.Tree.{Choice}
use Rattle.rcpsp_model.proofs.Lists.{In, In-All, All-from_In, In-append, In-push_old, In-push_new}
use Rattle.precedence_tree.specs.Base.{IsBaseOf}
use Rattle.proof_log.specs.declared.report.LogLine.{LogLine}
use Rattle.log_truth.specs.Fates.{saying, expands, shuts}
use Rattle.log_truth.specs.Log.{Branch, at_root, by_choice, says, is_expanded, expanded_branches, front_at, below, nodes}
use Rattle.log_truth.specs.Holds.{expanded_in}
use Rattle.log_truth.specs.Refusal.{IsGood, HasFault, expanded_by, Wants}
use Rattle.log_truth.proofs.LineFronts.{root_front-is}
use Rattle.log_checker.specs.declared.said.SaidFate.{SaidFate}
use Rattle.log_checker.specs.declared.said.SaidFate.TheVariants.{Expanded, Leaf, TailBound, WorkBound, Budget, Capacity, Worse, Cutset, Left}
use Rattle.log_checker.specs.declared.choices.Turn.{Turn}
use Rattle.log_checker.specs.declared.reason.Reason.{Reason}
use Rattle.log_checker.specs.declared.reason.Reason.TheVariants.{LinesLeft}
use Rattle.log_checker.specs.declared.walk.Root.{Root}
use Rattle.log_checker.specs.declared.walk.Root.TheVariants.{Wanted, Came}
use Rattle.log_checker.specs.declared.walk.Grown.{Grown}
use Rattle.log_checker.specs.declared.walk.OpenFront.{OpenFront}
use Rattle.log_checker.specs.declared.walk.Citing.{Citing}
use Rattle.log_checker.specs.declared.walk.Walk.{Walk}
use Rattle.log_checker.specs.Said.{fate_said}
use Rattle.log_checker.specs.Judged.{choice_at}
use Rattle.log_checker.specs.Choices.{choices_from, IsNextChoice}
use Rattle.log_checker.specs.Walk.{branches_by, wanted_below, wanted_root, wanted_of, mark_at, mark_of, Citation, citation_at, citations_from, IsOpenFront, IsCiting, IsSound, IsKeptAs, AreKept, IsLeastLeft, Stands, IsTaken, opened, Changes, Advances, next_number, citing_by, root_by, IsTakenChild, child_broken, child_shut, child_open, IsTakenRoot, root_broken, root_shut, root_open}
use Rattle.log_checker.proofs.WantedBranches.{wanted-opened, wanted-first, stands-next, room, complete-from}
use Rattle.log_checker.proofs.LineSteps.{Leaves, leaves, left-other, shuts-expands, shuts-left, child-none, root-none, below-none, mark-none, citation-none, at-more, child-zip, kept-child, root-first, put_back, root-came, wanted-root_by, empty-is, root-kept, none-kept}

-- two lists of changes, one after the other
joined : {X : Type 0} (a b c xs ys : List X) → b ≡ a ++ xs → c ≡ b ++ ys → c ≡ a ++ (xs ++ ys)
joined {X} a b c xs ys e f = f ∙ ap (λ (zs : List X). zs ++ ys) e ∙ append_assoc a xs ys

same_after : {X : Type 0} (a b c xs : List X) → b ≡ a ++ xs → c ≡ b ++ [] → c ≡ a ++ xs
same_after a b c xs e f = f ∙ append-nil b ∙ e

same_before : {X : Type 0} (a b c xs : List X) → b ≡ a ++ [] → c ≡ b ++ xs → c ≡ a ++ xs
same_before {X} a b c xs e f = f ∙ ap (λ (zs : List X). zs ++ xs) (e ∙ append-nil a)

-- the walk before a front was taken off its path
abbrev with_path : Walk → Vec OpenFront Global → Walk
with_path w V = record w { path = V }

-- A child's line.
module _ (P : Project) (v : Verdict) (w : Walk) (V : Vec OpenFront Global) (parent : OpenFront) (limits : IsWithinLimits P) (path : V.items ≡ w.path.items ++ parent ∷ []) (open_front : IsOpenFront P w.grown.items parent)
    (ls : List LogLine) (s : Stands P v (with_path w V) ls) where
  abbrev left : List Choice
  left = choices_from P parent.front.front parent.next.job (parent.next.mode + 1)

  abbrev rest : List Branch
  rest = (branches_by parent.front.front (choices_from P parent.front.front parent.next.job (parent.next.mode + 1)) ++ wanted_below P w.path.items) ++ wanted_root w.root

  pub child-first : wanted_of P (with_path w V) ≡ by_choice parent.front.front (choice_at parent.next.job parent.next.mode) ∷ ((branches_by parent.front.front (choices_from P parent.front.front parent.next.job (parent.next.mode + 1)) ++ wanted_below P w.path.items) ++ wanted_root w.root)
  child-first = ap (λ (os : List OpenFront). wanted_below P os ++ wanted_root w.root) path ∙ ap (λ (bs : List Branch). bs ++ wanted_root w.root) (wanted-first P w.path.items parent open_front.turn)

  number : next_number w.lines ≡ w.lines + 1
  number = let few = room P v (with_path w V) ls limits s in omega arith

  good-at : (l : LogLine) → IsGood P v (length w.grown.items) (by_choice parent.front.front (choice_at parent.next.job parent.next.mode)) l → IsGood P v (expanded_in ls) (by_choice parent.front.front (choice_at parent.next.job parent.next.mode)) l
  good-at l g = subst (λ (k : ℕ). IsGood P v k (by_choice parent.front.front (choice_at parent.next.job parent.next.mode)) l) s.few g

  pub child-shut : (l : LogLine) (new : Walk) → IsGood P v (length w.grown.items) (by_choice parent.front.front (choice_at parent.next.job parent.next.mode)) l →
      front_at (by_choice parent.front.front (choice_at parent.next.job parent.next.mode)) l ≡ None → Advances P w new parent → Stands P v new (ls ++ l ∷ [])
  unfolding below
  child-shut l new g none a =
      let b = by_choice parent.front.front (choice_at parent.next.job parent.next.mode) in
      let shut = child-none P parent.front.front (choice_at parent.next.job parent.next.mode) (says l) l.start g.started none in
      let off = shuts-expands (says l) shut in
      let c = a.changes in
      stands-next P v (with_path w V) new ls b l rest s child-first (good-at l g) (record {
        wanted =
            ap (λ (os : List OpenFront). wanted_below P os ++ wanted_root new.root) c.path
            ∙ ap (λ (r : Root). wanted_below P (w.path.items ++ opened parent.front parent.place a.next) ++ wanted_root r) c.root_is
            ∙ ap (λ (bs : List Branch). bs ++ wanted_root w.root) (wanted-opened P w.path.items parent.front parent.place left a.next a.is_next)
            ∙ sym (ap (λ (bs : List Branch). bs ++ rest) (below-none P (is_expanded l) (front_at b l) none));
        count = c.lines_is ∙ number;
        few = ap (λ (gs : List Grown). length gs) (c.grown_is ∙ append-nil w.grown.items) ∙ (let zero : expanded_by l ≡ 0 = ap (λ (x : Bool). cond x 1 0) off in omega arith);
        marks = ap (map mark_of) (c.grown_is ∙ append-nil w.grown.items) ∙ sym (append-nil (map mark_of w.grown.items)) ∙ sym (ap (λ ms. map mark_of w.grown.items ++ ms) (mark-none (w.lines + 1) (is_expanded l) (front_at b l) none));
        kept =
            put_back P w.root w.grown.items new.root new.grown.items new.citing.items [] [] w.citing.items (citations_from 1 (nodes P ls)) (citation_at (w.lines + 1) (says l) (front_at b l)) c.root_is c.grown_is c.citing_is
            (kept-child P w.root w.grown.items [] w.citing.items [] (citations_from 1 (nodes P ls)) (citation_at (w.lines + 1) (says l) (front_at b l)) parent.place parent.front.front open_front.place s.kept
            (subst (λ cs. AllZip (IsKeptAs P (w.grown.items ++ [])) cs []) (sym (citation-none (w.lines + 1) (says l) (front_at b l) none)) tt));
        left_over = λ is. subst (IsLeastLeft (ls ++ l ∷ [])) (sym c.least_is) (left-other ls l w.least (λ n f. shuts-left l.fate n shut f) is);
      })

  pub child-open : (l : LogLine) (fate : SaidFate) (G : List Entry) (next cites new : Walk) → l.fate ≡ fate_said fate → IsGood P v (length w.grown.items) (by_choice parent.front.front (choice_at parent.next.job parent.next.mode)) l →
      front_at (by_choice parent.front.front (choice_at parent.next.job parent.next.mode)) l ≡ Some G → Advances P w next parent →
      Changes next cites next.root next.lines [] [] (citing_by next.lines parent.place parent.next fate) next.least → Leaves P cites new G fate → Stands P v new (ls ++ l ∷ [])
  unfolding below
  child-open l fate G next cites new same g front a ci lv =
      let b = by_choice parent.front.front (choice_at parent.next.job parent.next.mode) in
      let c = a.changes in
      let k = lv.changes in
      let said : is_expanded l ≡ expands (saying (fate_said fate)) = ap (λ f. expands (saying f)) same in
      let lines : cites.lines ≡ w.lines + 1 = ci.lines_is ∙ c.lines_is ∙ number in
      let fronts = joined w.path.items cites.path.items new.path.items (opened parent.front parent.place a.next) lv.fronts (same_after w.path.items next.path.items cites.path.items (opened parent.front parent.place a.next) c.path ci.path) k.path in
      let root : new.root ≡ w.root = k.root_is ∙ ci.root_is ∙ c.root_is in
      let grown = same_before w.grown.items cites.grown.items new.grown.items lv.grown (same_after w.grown.items next.grown.items cites.grown.items [] c.grown_is ci.grown_is) k.grown_is in
      let citing = same_after w.citing.items cites.citing.items new.citing.items (citing_by next.lines parent.place parent.next fate)
      (same_before w.citing.items next.citing.items cites.citing.items (citing_by next.lines parent.place parent.next fate) c.citing_is ci.citing_is) k.citing_is in
      let least : cites.least ≡ w.least = ci.least_is ∙ c.least_is in
      stands-next P v (with_path w V) new ls b l rest s child-first (good-at l g) (record {
        wanted =
            ap (λ (os : List OpenFront). wanted_below P os ++ wanted_root new.root) fronts
            ∙ ap (λ (r : Root). wanted_below P (w.path.items ++ (opened parent.front parent.place a.next ++ lv.fronts)) ++ wanted_root r) root
            ∙ ap (λ (os : List OpenFront). wanted_below P os ++ wanted_root w.root) (sym (append_assoc w.path.items (opened parent.front parent.place a.next) lv.fronts))
            ∙ ap (λ (bs : List Branch). bs ++ wanted_root w.root) (lv.wanted (w.path.items ++ opened parent.front parent.place a.next))
            ∙ ap (λ (bs : List Branch). (expanded_branches P (expands (saying (fate_said fate))) (Some G) ++ bs) ++ wanted_root w.root) (wanted-opened P w.path.items parent.front parent.place left a.next a.is_next)
            ∙ append_assoc (expanded_branches P (expands (saying (fate_said fate))) (Some G)) (branches_by parent.front.front left ++ wanted_below P w.path.items) (wanted_root w.root)
            ∙ sym (ap (λ (x : Bool). expanded_branches P x (front_at b l) ++ rest) said ∙ ap (λ (o : Option (List Entry)). expanded_branches P (expands (saying (fate_said fate))) o ++ rest) front);
        count = k.lines_is ∙ lines;
        few = ap (λ (gs : List Grown). length gs) grown ∙ length-append w.grown.items lv.grown ∙ ap (λ (n : ℕ). length w.grown.items + n) (lv.few ∙ sym (ap (λ (x : Bool). cond x 1 0) said));
        marks = ap (map mark_of) grown ∙ map-append mark_of w.grown.items lv.grown
            ∙ ap (λ ms. map mark_of w.grown.items ++ ms) (lv.marks ∙ ap (λ (i : ℕ). mark_at i (expands (saying (fate_said fate))) (Some G)) lines ∙ sym (ap (λ (x : Bool). mark_at (w.lines + 1) x (front_at b l)) said ∙ ap (λ (o : Option (List Entry)). mark_at (w.lines + 1) (expands (saying (fate_said fate))) o) front));
        kept =
            put_back P w.root w.grown.items new.root new.grown.items new.citing.items lv.grown (citing_by next.lines parent.place parent.next fate) w.citing.items (citations_from 1 (nodes P ls)) (citation_at (w.lines + 1) (says l) (front_at b l)) root grown citing
            (kept-child P w.root w.grown.items lv.grown w.citing.items (citing_by next.lines parent.place parent.next fate) (citations_from 1 (nodes P ls)) (citation_at (w.lines + 1) (says l) (front_at b l)) parent.place parent.front.front open_front.place s.kept
            (child-zip P parent.front.front (w.grown.items ++ lv.grown) (w.lines + 1) next.lines parent.place parent.next fate l (sym (c.lines_is ∙ number)) (at-more w.grown.items lv.grown parent.place parent.front.front open_front.place) same g.started));
        left_over = λ is. subst (IsLeastLeft (ls ++ l ∷ [])) (sym k.least_is) (lv.left_over ls l same (subst (IsLeastLeft ls) (sym least) is));
      })

-- Whatever the lines, what is kept stays of the project.

sound-from : (P : Project) (w : Walk) → ((g : Grown) → In w.grown.items g → IsBaseOf P g.front) → ((o : OpenFront) → In w.path.items o → IsOpenFront P w.grown.items o) → ((c : Citing) → In w.citing.items c → IsCiting P w.grown.items c) → IsSound P w
sound-from P w bases path citing = record {
  bases = All-from_In (λ g. IsBaseOf P g.front) w.grown.items bases;
  path = All-from_In (IsOpenFront P w.grown.items) w.path.items path;
  citing = All-from_In (IsCiting P w.grown.items) w.citing.items citing;
}

open-more : (P : Project) (xs ys : List Grown) (o : OpenFront) → IsOpenFront P xs o → IsOpenFront P (xs ++ ys) o
open-more P xs ys o is = record { base = is.base; turn = is.turn; place = at-more xs ys o.place o.front.front is.place }

citing-more : (P : Project) (xs ys : List Grown) (c : Citing) → IsCiting P xs c → IsCiting P (xs ++ ys) c
citing-more P xs ys c is = record { parent = is.parent; place = at-more xs ys c.parent is.parent is.place; turn = is.turn }

-- lists that are kept, with what they gain
grown-sound : (P : Project) (old new : Walk) (xs : List Grown) (fronts : List OpenFront) (cs : List Citing) → IsSound P old → new.grown.items ≡ old.grown.items ++ xs → new.path.items ≡ old.path.items ++ fronts → new.citing.items ≡ old.citing.items ++ cs →
    ((g : Grown) → In xs g → IsBaseOf P g.front) → ((o : OpenFront) → In fronts o → IsOpenFront P (old.grown.items ++ xs) o) → ((c : Citing) → In cs c → IsCiting P (old.grown.items ++ xs) c) → IsSound P new
grown-sound P old new xs fronts cs s g p c bases path citing =
    sound-from P new
    (λ x i. elim (In-append old.grown.items xs x (subst (λ (zs : List Grown). In zs x) g i)) [ inl j ↦ In-All (λ y. IsBaseOf P y.front) old.grown.items s.bases x j | inr j ↦ bases x j ])
    (λ o i. subst (λ (zs : List Grown). IsOpenFront P zs o) (sym g) (elim (In-append old.path.items fronts o (subst (λ (zs : List OpenFront). In zs o) p i)) [
      | inl j ↦ open-more P old.grown.items xs o (In-All (IsOpenFront P old.grown.items) old.path.items s.path o j)
      | inr j ↦ path o j
    ]))
    (λ k i. subst (λ (zs : List Grown). IsCiting P zs k) (sym g) (elim (In-append old.citing.items cs k (subst (λ (zs : List Citing). In zs k) c i)) [
      | inl j ↦ citing-more P old.grown.items xs k (In-All (IsCiting P old.grown.items) old.citing.items s.citing k j)
      | inr j ↦ citing k j
    ]))

-- a walk whose path was shortened by its last front
pub popped-sound : (P : Project) (w : Walk) (V : Vec OpenFront Global) (parent : OpenFront) → V.items ≡ w.path.items ++ parent ∷ [] → IsSound P (with_path w V) → IsSound P w × IsOpenFront P w.grown.items parent
popped-sound P w V parent e s =
    let each : (o : OpenFront) → In (w.path.items ++ parent ∷ []) o → IsOpenFront P w.grown.items o = λ o i. In-All (IsOpenFront P w.grown.items) V.items s.path o (subst (λ (zs : List OpenFront). In zs o) (sym e) i) in (
      record { bases = s.bases; path = All-from_In (IsOpenFront P w.grown.items) w.path.items (λ o i. each o (In-push_old w.path.items parent o i)); citing = s.citing },
      each parent (In-push_new w.path.items parent),
    )

opened-parent : (P : Project) (grown : List Grown) (parent : OpenFront) (cs : List Choice) (next : Option Turn) → IsOpenFront P grown parent → IsNextChoice P parent.front.front cs next → (o : OpenFront) → In (opened parent.front parent.place next) o → IsOpenFront P grown o
opened-parent P grown parent cs None is n o i = absurd i
opened-parent P grown parent cs (Some t) is n o (inl e) =
    let own : IsOpenFront P grown (record { front = parent.front; place = parent.place; next = t }) = record { base = is.base; turn = n.1; place = is.place } in subst (IsOpenFront P grown) e own
opened-parent P grown parent cs (Some t) is n o (inr no_) = absurd no_

cited-child : (P : Project) (grown : List Grown) (parent : OpenFront) (line : ℕ) (fate : SaidFate) → IsOpenFront P grown parent → (c : Citing) → In (citing_by line parent.place parent.next fate) c → IsCiting P grown c
cited-child P grown parent line (Cutset i) is c (inl e) =
    let own : IsCiting P grown (record { line = line; cited = i; parent = parent.place; turn = parent.next }) = record { parent = parent.front.front; place = is.place; turn = is.turn } in subst (IsCiting P grown) e own
cited-child P grown parent line (Cutset i) is c (inr no_) = absurd no_
cited-child P grown parent line Expanded is c i = absurd i
cited-child P grown parent line Leaf is c i = absurd i
cited-child P grown parent line TailBound is c i = absurd i
cited-child P grown parent line (WorkBound k) is c i = absurd i
cited-child P grown parent line (Budget l) is c i = absurd i
cited-child P grown parent line (Capacity k) is c i = absurd i
cited-child P grown parent line (Worse m) is c i = absurd i
cited-child P grown parent line (Left b) is c i = absurd i

advance-sound : (P : Project) (w new : Walk) (parent : OpenFront) → IsSound P w → IsOpenFront P w.grown.items parent → Advances P w new parent → IsSound P new
advance-sound P w new parent s is a =
    let c = a.changes in
    grown-sound P w new [] (opened parent.front parent.place a.next) [] s c.grown_is c.path c.citing_is (λ g i. absurd i)
    (λ o i. open-more P w.grown.items [] o (opened-parent P w.grown.items parent (choices_from P parent.front.front parent.next.job (parent.next.mode + 1)) a.next is a.is_next o i)) (λ k i. absurd i)

parent-kept : (P : Project) (w next : Walk) (parent : OpenFront) → IsOpenFront P w.grown.items parent → next.grown.items ≡ w.grown.items ++ [] → IsOpenFront P next.grown.items parent
parent-kept P w next parent is e = subst (λ (gs : List Grown). IsOpenFront P gs parent) (sym (e ∙ append-nil w.grown.items)) is

cite-sound : (P : Project) (next cites : Walk) (parent : OpenFront) (fate : SaidFate) → IsSound P next → IsOpenFront P next.grown.items parent → Changes next cites next.root next.lines [] [] (citing_by next.lines parent.place parent.next fate) next.least → IsSound P cites
cite-sound P next cites parent fate s is c =
    grown-sound P next cites [] [] (citing_by next.lines parent.place parent.next fate) s c.grown_is c.path c.citing_is (λ g i. absurd i) (λ o i. absurd i)
    (λ k i. citing-more P next.grown.items [] k (cited-child P next.grown.items parent next.lines fate is k i))

keep-sound : (P : Project) (old new : Walk) (F : List Entry) (fate : SaidFate) → IsSound P old → Leaves P old new F fate → IsSound P new
keep-sound P old new F fate s lv =
    let c = lv.changes in grown-sound P old new lv.grown lv.fronts [] s c.grown_is c.path c.citing_is lv.bases lv.path (λ k i. absurd i)

pub child-sound : (P : Project) (v : Verdict) (w : Walk) (parent : OpenFront) (l : LogLine) (fate : SaidFate) (r : Option Reason) (new : Walk) → IsSound P w → IsOpenFront P w.grown.items parent → IsTakenChild P v w parent l fate r new → r ≡ None → IsSound P new
child-sound P v w parent l fate _ _ s is (child_broken reason new j) e = absurd (cc)
child-sound P v w parent l fate _ _ s is (child_shut new j a) e = advance-sound P w new parent s is a
child-sound P v w parent l fate _ _ s is (child_open node next cites new j a ci k) e =
    keep-sound P cites new node.front fate (cite-sound P next cites parent fate (advance-sound P w next parent s is a) (parent-kept P w next parent is a.changes.grown_is) ci) (leaves P cites new node.front fate k)

pub root-sound : (P : Project) (v : Verdict) (w : Walk) (l : LogLine) (fate : SaidFate) (r : Option Reason) (new : Walk) → IsSound P w → IsTakenRoot P v w l fate r new → r ≡ None → IsSound P new
root-sound P v w l fate _ _ s (root_broken reason new j) e = absurd (cc)
root-sound P v w l fate _ _ s (root_shut new j c) e = grown-sound P w new [] [] [] s c.grown_is c.path c.citing_is (λ g i. absurd i) (λ o i. absurd i) (λ k i. absurd i)
root-sound P v w l fate _ _ s (root_open node begun new j c k) e =
    keep-sound P begun new node.front fate (grown-sound P w begun [] [] [] s c.grown_is c.path c.citing_is (λ g i. absurd i) (λ o i. absurd i) (λ k i. absurd i)) (leaves P begun new node.front fate k)

-- A child's line, taken.
pub taken-child : (P : Project) (v : Verdict) (w : Walk) (V : Vec OpenFront Global) (parent : OpenFront) (l : LogLine) (fate : SaidFate) (r : Option Reason) (new : Walk) → IsWithinLimits P → V.items ≡ w.path.items ++ parent ∷ [] →
    IsOpenFront P w.grown.items parent → l.fate ≡ fate_said fate → IsTakenChild P v w parent l fate r new → (ls : List LogLine) → Stands P v (with_path w V) ls → IsTaken P v ls (wanted_of P (with_path w V)) l r new
taken-child P v w V parent l fate _ _ limits e is same (child_broken reason new j) ls s =
    subst (λ (bs : List Branch). IsTaken P v ls bs l (Some reason) new) (sym (child-first P v w V parent limits e is ls s))
    (j.0, subst (λ (k : ℕ). HasFault P v k (by_choice parent.front.front (choice_at parent.next.job parent.next.mode)) l j.0) s.few j.1, j.2)
taken-child P v w V parent l fate _ _ limits e is same (child_shut new j a) ls s =
    subst (λ (bs : List Branch). IsTaken P v ls bs l None new) (sym (child-first P v w V parent limits e is ls s))
    (subst (λ (k : ℕ). IsGood P v k (by_choice parent.front.front (choice_at parent.next.job parent.next.mode)) l) s.few j.0, child-shut P v w V parent limits e is ls s l new j.0 j.1 a)
taken-child P v w V parent l fate _ _ limits e is same (child_open node next cites new j a ci k) ls s =
    subst (λ (bs : List Branch). IsTaken P v ls bs l None new) (sym (child-first P v w V parent limits e is ls s)) (
      subst (λ (n : ℕ). IsGood P v n (by_choice parent.front.front (choice_at parent.next.job parent.next.mode)) l) s.few j.0,
      child-open P v w V parent limits e is ls s l fate node.front next cites new same j.0 j.1 a ci (leaves P cites new node.front fate k),
    )

-- The root's line.
module _ (P : Project) (v : Verdict) (w : Walk) (wanted : w.root ≡ Wanted) (path : w.path.items ≡ []) (s : Stands P v w []) where
  pub first : wanted_of P w ≡ at_root ∷ []
  first = ap (λ (os : List OpenFront). wanted_below P os ++ wanted_root w.root) path ∙ ap wanted_root wanted

  lines_none : w.lines ≡ 0
  lines_none = s.count

  grown_none : w.grown.items ≡ []
  grown_none = empty-is w.grown.items s.few

  citing_none : w.citing.items ≡ []
  citing_none = none-kept P w.grown.items w.citing.items (subst (λ (r : Root). AreKept P r w.grown.items w.citing.items []) wanted s.kept)

  pub root-shut : (l : LogLine) (fate : SaidFate) (new : Walk) → l.fate ≡ fate_said fate → IsGood P v 0 at_root l → front_at at_root l ≡ None → Changes w new (root_by fate) (next_number w.lines) [] [] [] w.least → Stands P v new (l ∷ [])
  unfolding below lines_none grown_none citing_none
  root-shut l fate new same g none c =
      let shut = root-none (shuts (says l)) none in
      let off = shuts-expands (says l) shut in
      let came = root-came fate (ap (λ f. shuts (saying f)) (sym same) ∙ shut) in
      let zero = lines_none in
      stands-next P v w new [] at_root l [] s first g (record {
        wanted =
            ap (λ (os : List OpenFront). wanted_below P os ++ wanted_root new.root) (c.path ∙ append-nil w.path.items ∙ path) ∙ ap wanted_root (c.root_is ∙ came)
            ∙ sym (ap (λ (bs : List Branch). bs ++ []) (below-none P (is_expanded l) (front_at at_root l) none));
        count = c.lines_is ∙ (let z = zero in omega arith);
        few = ap (λ (gs : List Grown). length gs) (c.grown_is ∙ append-nil w.grown.items) ∙ (let n : expanded_by l ≡ 0 = ap (λ (x : Bool). cond x 1 0) off in omega arith);
        marks = ap (map mark_of) (c.grown_is ∙ append-nil w.grown.items) ∙ sym (append-nil (map mark_of w.grown.items)) ∙ sym (ap (λ ms. map mark_of w.grown.items ++ ms) (mark-none (w.lines + 1) (is_expanded l) (front_at at_root l) none));
        kept =
            put_back P Came w.grown.items new.root new.grown.items new.citing.items [] [] w.citing.items [] (citation_at (w.lines + 1) (says l) (front_at at_root l)) (c.root_is ∙ came) c.grown_is c.citing_is
            (subst (λ (cs : List Citation). AllZip (IsKeptAs P (w.grown.items ++ [])) cs (w.citing.items ++ [])) (sym (citation-none (w.lines + 1) (says l) (front_at at_root l) none))
            (subst (λ (ks : List Citing). AllZip (IsKeptAs P (w.grown.items ++ [])) [] ks) (sym (append-nil w.citing.items ∙ citing_none)) tt));
        left_over = λ is. subst (IsLeastLeft (l ∷ [])) (sym c.least_is) (left-other [] l w.least (λ n f. shuts-left l.fate n shut f) is);
      })

  pub root-open : (l : LogLine) (fate : SaidFate) (G : List Entry) (begun new : Walk) → l.fate ≡ fate_said fate → IsGood P v 0 at_root l → front_at at_root l ≡ Some G → Changes w begun (root_by fate) (next_number w.lines) [] [] [] w.least →
      Leaves P begun new G fate → Stands P v new (l ∷ [])
  unfolding below lines_none grown_none citing_none
  root-open l fate G begun new same g front c lv =
      let k = lv.changes in
      let said : is_expanded l ≡ expands (saying (fate_said fate)) = ap (λ f. expands (saying f)) same in
      let zero = lines_none in
      let one : begun.lines ≡ w.lines + 1 = c.lines_is ∙ (let z = zero in omega arith) in
      let first_line : 1 ≡ w.lines + 1 = (let z = zero in omega arith) in
      let root : new.root ≡ root_by fate = k.root_is ∙ c.root_is in
      let grown = same_before w.grown.items begun.grown.items new.grown.items lv.grown c.grown_is k.grown_is in
      let citing = same_before w.citing.items begun.citing.items new.citing.items [] c.citing_is k.citing_is in
      let fronts = same_before w.path.items begun.path.items new.path.items lv.fronts c.path k.path in
      let empty = root_front-is (shuts (says l)) G front in
      stands-next P v w new [] at_root l [] s first g (record {
        wanted =
            ap (λ (os : List OpenFront). wanted_below P os ++ wanted_root new.root) fronts ∙ ap (λ (r : Root). wanted_below P (w.path.items ++ lv.fronts) ++ wanted_root r) root
            ∙ ap (λ (bs : List Branch). wanted_below P (w.path.items ++ lv.fronts) ++ bs) (wanted-root_by fate)
            ∙ ap (λ (bs : List Branch). bs ++ []) (lv.wanted w.path.items ∙ ap (λ (os : List OpenFront). expanded_branches P (expands (saying (fate_said fate))) (Some G) ++ wanted_below P os) path ∙ append-nil (expanded_branches P (expands (saying (fate_said fate))) (Some G)))
            ∙ sym (ap (λ (x : Bool). expanded_branches P x (front_at at_root l) ++ []) said ∙ ap (λ (o : Option (List Entry)). expanded_branches P (expands (saying (fate_said fate))) o ++ []) front);
        count = k.lines_is ∙ one;
        few = ap (λ (gs : List Grown). length gs) grown ∙ length-append w.grown.items lv.grown ∙ ap (λ (n : ℕ). length w.grown.items + n) (lv.few ∙ sym (ap (λ (x : Bool). cond x 1 0) said));
        marks = ap (map mark_of) grown ∙ map-append mark_of w.grown.items lv.grown
            ∙ ap (λ ms. map mark_of w.grown.items ++ ms) (lv.marks ∙ ap (λ (i : ℕ). mark_at i (expands (saying (fate_said fate))) (Some G)) one ∙ sym (ap (λ (x : Bool). mark_at (w.lines + 1) x (front_at at_root l)) said ∙ ap (λ (o : Option (List Entry)). mark_at (w.lines + 1) (expands (saying (fate_said fate))) o) front));
        kept =
            subst (λ (n : ℕ). AreKept P new.root new.grown.items new.citing.items (citation_at n (says l) (front_at at_root l))) first_line
            (subst (λ f. AreKept P new.root new.grown.items new.citing.items (citation_at 1 (saying f) (front_at at_root l))) (sym same)
            (subst (λ (o : Option (List Entry)). AreKept P new.root new.grown.items new.citing.items (citation_at 1 (saying (fate_said fate)) o)) (sym (front ∙ ap (λ (H : List Entry). Some H) (sym empty)))
            (subst (λ (r : Root). AreKept P r new.grown.items new.citing.items (citation_at 1 (saying (fate_said fate)) (Some []))) (sym root)
            (subst (λ (gs : List Grown). AreKept P (root_by fate) gs new.citing.items (citation_at 1 (saying (fate_said fate)) (Some []))) (sym (grown ∙ ap (λ (gs : List Grown). gs ++ lv.grown) grown_none))
            (subst (λ (ks : List Citing). AreKept P (root_by fate) lv.grown ks (citation_at 1 (saying (fate_said fate)) (Some []))) (sym (citing ∙ append-nil w.citing.items ∙ citing_none)) (root-kept P fate lv.grown lv.few))))));
        left_over = λ is. subst (IsLeastLeft (l ∷ [])) (sym k.least_is) (lv.left_over [] l same (subst (IsLeastLeft []) (sym c.least_is) is));
      })

taken-first : (P : Project) (v : Verdict) (w : Walk) (l : LogLine) (fate : SaidFate) (r : Option Reason) (new : Walk) → w.root ≡ Wanted → w.path.items ≡ [] → l.fate ≡ fate_said fate → IsTakenRoot P v w l fate r new → Stands P v w [] →
    IsTaken P v [] (wanted_of P w) l r new
taken-first P v w l fate _ _ wanted path same (root_broken reason new j) s =
    subst (λ (bs : List Branch). IsTaken P v [] bs l (Some reason) new) (sym (first P v w wanted path s)) (j.0, subst (λ (k : ℕ). HasFault P v k at_root l j.0) s.few j.1, j.2)
taken-first P v w l fate _ _ wanted path same (root_shut new j c) s =
    let good = subst (λ (k : ℕ). IsGood P v k at_root l) s.few j.0 in
    subst (λ (bs : List Branch). IsTaken P v [] bs l None new) (sym (first P v w wanted path s)) (good, root-shut P v w wanted path s l fate new same good j.1 c)
taken-first P v w l fate _ _ wanted path same (root_open node begun new j c k) s =
    let good = subst (λ (n : ℕ). IsGood P v n at_root l) s.few j.0 in
    subst (λ (bs : List Branch). IsTaken P v [] bs l None new) (sym (first P v w wanted path s)) (good, root-open P v w wanted path s l fate node.front begun new same good j.1 c (leaves P begun new node.front fate k))

pub taken-root : (P : Project) (v : Verdict) (w : Walk) (l : LogLine) (fate : SaidFate) (r : Option Reason) (new : Walk) → w.root ≡ Wanted → w.path.items ≡ [] → l.fate ≡ fate_said fate → IsTakenRoot P v w l fate r new →
    (ls : List LogLine) → Stands P v w ls → IsTaken P v ls (wanted_of P w) l r new
taken-root P v w l fate r new wanted path same t ls s =
    let before : wanted_of P w ≡ at_root ∷ [] = ap (λ (os : List OpenFront). wanted_below P os ++ wanted_root w.root) path ∙ ap wanted_root wanted in
    let none = root-first P v ls [] (subst (Wants P v ls) before s.wanted) in
    subst (λ (xs : List LogLine). IsTaken P v xs (wanted_of P w) l r new) (sym none) (taken-first P v w l fate r new wanted path same t (subst (Stands P v w) none s))

-- nothing is wanted
pub taken-left : (P : Project) (v : Verdict) (w : Walk) (l : LogLine) (new : Walk) → (w.root ≡ Wanted → ⊥) → w.path.items ≡ [] → (ls : List LogLine) → IsTaken P v ls (wanted_of P w) l (Some LinesLeft) new
taken-left P v w l new came path ls = subst (λ (bs : List Branch). IsTaken P v ls bs l (Some LinesLeft) new) (sym (complete-from P w.path.items w.root path came)) refl

-- a walk whose path was empty
pub emptied-sound : (P : Project) (w : Walk) (V : Vec OpenFront Global) → w.path.items ≡ [] → IsSound P (with_path w V) → IsSound P w
emptied-sound P w V none s = record { bases = s.bases; path = subst (λ (os : List OpenFront). All (IsOpenFront P w.grown.items) os) (sym none) (λ k o low. absurd (omega arith)); citing = s.citing }

emptied-stands : (P : Project) (v : Verdict) (w : Walk) (V : Vec OpenFront Global) (ls : List LogLine) → V.items ≡ w.path.items → Stands P v (with_path w V) ls → Stands P v w ls
emptied-stands P v w V ls e s = record {
  wanted = subst (λ (os : List OpenFront). Wants P v ls (wanted_below P os ++ wanted_root w.root)) e s.wanted;
  count = s.count;
  few = s.few;
  marks = s.marks;
  kept = s.kept;
  left = s.left;
}

pub taken-only : (P : Project) (v : Verdict) (w : Walk) (V : Vec OpenFront Global) (l : LogLine) (fate : SaidFate) (r : Option Reason) (new : Walk) → w.root ≡ Wanted → V.items ≡ [] → w.path.items ≡ [] → l.fate ≡ fate_said fate → IsTakenRoot P v w l fate r new →
    (ls : List LogLine) → Stands P v (with_path w V) ls → IsTaken P v ls (wanted_of P (with_path w V)) l r new
taken-only P v w V l fate r new wanted none path same t ls s =
    let e : V.items ≡ w.path.items = none ∙ sym path in
    subst (λ (os : List OpenFront). IsTaken P v ls (wanted_below P os ++ wanted_root w.root) l r new) (sym e) (taken-root P v w l fate r new wanted path same t ls (emptied-stands P v w V ls e s))

pub nothing : (V : Vec OpenFront Global) → vec_len V ≡ 0 → V.items ≡ []
nothing V e = let own = V.ok.0 in empty-is V.items (omega arith)
