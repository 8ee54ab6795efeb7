-- What a line leaves of the machine: the cases of its fate.
use Rattle.std.proofs.Common.{◌≡◌, ℕ, zero, suc, ◌+◌, min, inl, inr, arith, refl, sym, ap, subst, ◌∙◌, List, [], ◌∷◌, ◌++◌, length, map, Bool, true, false, cond, Option, Some, None}
use Rattle.std.specs.Prelude.{slice_get, ◌⊎◌, Result, Ok, Err, IfOk}
use Rattle.std.specs.List.{AllZip}
use Rattle.std.proofs.lemmas.List.{append-nil, map-append}
use Rattle.std.proofs.lemmas.Bool.{cases_lt}
use Rattle.sched_base.specs.declared.fate.Fate.{Fate}
use Rattle.sched_base.specs.declared.fate.Fate.TheVariants as fates
use Rattle.rcpsp_model.specs.declared.parts.Entry.{Entry}
use Rattle.rcpsp_model.specs.declared.parts.Verdict.{Verdict}
use Rattle.rcpsp_model.specs.Project.{Project}
use Rattle.rcpsp_model.specs.Tree.{Choice}
use Rattle.rcpsp_model.proofs.Lists.{In, In-from_Contains, Contains-from_In, In-push, In-push_old, In-push_new}
use Rattle.rcpsp_model.proofs.Choices.{zip-append}
use Rattle.precedence_tree.specs.Base.{IsBaseOf}
use Rattle.proof_log.specs.declared.report.LogLine.{LogLine}
use Rattle.log_truth.specs.Fates.{Saying, says_expanded, says_late, says_dominated, says_shut, saying, expands, shuts}
use Rattle.log_truth.specs.Log.{Branch, at_root, by_choice, extended_by, root_front, expanded_branches, below, is_expanded, front_at, says}
use Rattle.log_truth.specs.Holds.{IsLeftNumber}
use Rattle.log_truth.specs.Refusal.{IsChildStart, expanded_by, WantsFrom, Wants}
use Rattle.log_truth.proofs.JoinedLogs.{below-is}
use Rattle.rcpsp_model.proofs.Lists.{In-append}
use Rattle.log_checker.specs.declared.choices.Turn.{Turn}
use Rattle.log_checker.specs.declared.said.SaidFate.{SaidFate}
use Rattle.log_checker.specs.declared.said.SaidFate.TheVariants.{Expanded, Leaf, TailBound, WorkBound, Budget, Capacity, Worse, Cutset, Left}
use Rattle.log_checker.specs.declared.walk.Root.{Root}
use Rattle.log_checker.specs.declared.walk.Root.TheVariants.{Wanted, Came, Cites}
use Rattle.log_checker.specs.declared.walk.Grown.{Grown}
use Rattle.log_checker.specs.declared.walk.OpenFront.{OpenFront}
use Rattle.log_checker.specs.declared.walk.Citing.{Citing}
use Rattle.log_checker.specs.declared.walk.Walk.{Walk}
use Rattle.log_checker.specs.Said.{fate_said}
use Rattle.log_checker.specs.Judged.{choice_at}
use Rattle.log_checker.specs.Choices.{choices_above, IsNextChoice}
use Rattle.log_checker.specs.Walk.{branches_by, wanted_below, wanted_root, Mark, mark_at, Citation, citation_at, IsGrownAt, IsOpenFront, mark_of, IsKeptAs, AreKept, IsLeastLeft, opened, Changes, lesser_of, Keeps, KeepsLine, citing_by, root_by}
use Rattle.log_checker.proofs.LeftChoices.{choices-above}
use Rattle.log_checker.proofs.WantedBranches.{wanted-opened}

-- The least number of a line that was left.

fates-push : (ls : List LogLine) (l : LogLine) → map (λ (x : LogLine). x.fate) (ls ++ l ∷ []) ≡ map (λ (x : LogLine). x.fate) ls ++ l.fate ∷ []
fates-push ls l = map-append (λ (x : LogLine). x.fate) ls (l ∷ [])

number-more : (ls : List LogLine) (l : LogLine) (b : ℕ) → IsLeftNumber ls b → IsLeftNumber (ls ++ l ∷ []) b
number-more ls l b is =
    Contains-from_In (map (λ (x : LogLine). x.fate) (ls ++ l ∷ [])) (fates.Left b)
    (subst (λ (xs : List Fate). In xs (fates.Left b)) (sym (fates-push ls l)) (In-push_old (map (λ (x : LogLine). x.fate) ls) l.fate (fates.Left b) (In-from_Contains _ (fates.Left b) is)))

number-new : (ls : List LogLine) (l : LogLine) (b : ℕ) → l.fate ≡ fates.Left b → IsLeftNumber (ls ++ l ∷ []) b
number-new ls l b e =
    Contains-from_In (map (λ (x : LogLine). x.fate) (ls ++ l ∷ [])) (fates.Left b)
    (subst (λ (xs : List Fate). In xs (fates.Left b)) (sym (fates-push ls l)) (subst (λ (f : Fate). In (map (λ (x : LogLine). x.fate) ls ++ l.fate ∷ []) f) e (In-push_new (map (λ (x : LogLine). x.fate) ls) l.fate)))

number-old : (ls : List LogLine) (l : LogLine) (b : ℕ) → IsLeftNumber (ls ++ l ∷ []) b → IsLeftNumber ls b ⊎ (l.fate ≡ fates.Left b)
number-old ls l b is =
    elim (In-push (map (λ (x : LogLine). x.fate) ls) l.fate (fates.Left b) (subst (λ (xs : List Fate). In xs (fates.Left b)) (fates-push ls l) (In-from_Contains _ (fates.Left b) is))) [
      | inl old ↦ inl (Contains-from_In (map (λ (x : LogLine). x.fate) ls) (fates.Left b) old)
      | inr new ↦ inr new
    ]

pub left-other : (ls : List LogLine) (l : LogLine) (o : Option ℕ) → ((b : ℕ) → l.fate ≡ fates.Left b → ⊥) → IsLeastLeft ls o → IsLeastLeft (ls ++ l ∷ []) o
left-other ls l None no_ is = λ b h. elim (number-old ls l b h) [ inl old ↦ is b old | inr new ↦ no_ b new ]
left-other ls l (Some a) no_ is = record {
  attained = number-more ls l a is.attained;
  least = λ u h. elim (number-old ls l u h) [ inl old ↦ is.least u old | inr new ↦ absurd (no_ u new) ];
}

same-left : (a b : ℕ) → fates.Left a ≡ fates.Left b → a ≡ b
same-left a b e = cc

pub left-new : (ls : List LogLine) (l : LogLine) (o : Option ℕ) (b : ℕ) → l.fate ≡ fates.Left b → IsLeastLeft ls o → IsLeastLeft (ls ++ l ∷ []) (Some (lesser_of o b))
left-new ls l None b e is = record {
  attained = number-new ls l b e;
  least = λ u h. elim (number-old ls l u h) [ inl old ↦ absurd (is u old) | inr new ↦ let same = same-left b u (sym e ∙ new) in omega arith ];
}
left-new ls l (Some a) b e is = record {
  attained = elim (cases_lt a b) [
    | inl low ↦ let same : min a b ≡ a = omega arith in subst (IsLeftNumber (ls ++ l ∷ [])) (sym same) (number-more ls l a is.attained)
    | inr high ↦ let same : min a b ≡ b = omega arith in subst (IsLeftNumber (ls ++ l ∷ [])) (sym same) (number-new ls l b e)
  ];
  least = λ u h. elim (number-old ls l u h) [ inl old ↦ let le = is.least u old in omega arith | inr new ↦ let same = same-left b u (sym e ∙ new) in omega arith ];
}

-- What a line of a fate leaves.

pub record Leaves (P : Project) (old new : Walk) (F : List Entry) (fate : SaidFate) : Type 0 where
  pub fronts : List OpenFront
  pub grown : List Grown
  pub least : Option ℕ
  pub changes : Changes old new old.root old.lines fronts grown [] least
  pub wanted : (path : List OpenFront) → wanted_below P (path ++ fronts) ≡ expanded_branches P (expands (saying (fate_said fate))) (Some F) ++ wanted_below P path
  pub bases : (g : Grown) → In grown g → IsBaseOf P g.front
  pub path : (o : OpenFront) → In fronts o → IsOpenFront P (old.grown.items ++ grown) o
  pub few : length grown ≡ cond (expands (saying (fate_said fate))) 1 0
  pub marks : map mark_of grown ≡ mark_at old.lines (expands (saying (fate_said fate))) (Some F)
  pub left_over : (ls : List LogLine) (l : LogLine) → l.fate ≡ fate_said fate → IsLeastLeft ls old.least → IsLeastLeft (ls ++ l ∷ []) least

-- an item at the end has the place after those before it
get-last : {X : Type 0} (xs : List X) (x : X) → slice_get (xs ++ x ∷ []) (length xs) ≡ Some x
get-last [] x = refl
get-last (y ∷ xs) x = get-last xs x

-- the fronts that are put on the path are open
opened-fronts : (P : Project) (grown : List Grown) (g : Grown) (left : List Choice) (next : Option Turn) → IsNextChoice P g.front.front left next → IsBaseOf P g.front →
    (o : OpenFront) → In (opened g.front (length grown) next) o → IsOpenFront P (grown ++ g ∷ []) o
opened-fronts P grown g left None is known o i = absurd i
opened-fronts P grown g left (Some t) is known o (inl e) =
    let own : IsOpenFront P (grown ++ g ∷ []) (record { front = g.front; place = length grown; next = t }) = record { base = known; turn = is.1; place = record { own = g; at = get-last grown g; front = refl } } in
    subst (IsOpenFront P (grown ++ g ∷ [])) e own
opened-fronts P grown g left (Some t) is known o (inr no_) = absurd no_

kept-other : (P : Project) (old new : Walk) (F : List Entry) (fate : SaidFate) → expands (saying (fate_said fate)) ≡ false → ((b : ℕ) → fate_said fate ≡ fates.Left b → ⊥) → Keeps old new → Leaves P old new F fate
kept-other P old new F fate e no_ k = record {
  fronts = [];
  grown = [];
  least = old.least;
  changes = k;
  wanted = λ path. ap (wanted_below P) (append-nil path) ∙ sym (ap (λ (x : Bool). expanded_branches P x (Some F) ++ wanted_below P path) e);
  bases = λ g i. absurd i;
  path = λ o i. absurd i;
  few = sym (ap (λ (x : Bool). cond x 1 0) e);
  marks = sym (ap (λ (x : Bool). mark_at old.lines x (Some F)) e);
  left_over = λ ls l same is. left-other ls l old.least (λ b f. no_ b (sym same ∙ f)) is;
}

pub leaves : (P : Project) (old new : Walk) (F : List Entry) (fate : SaidFate) → KeepsLine P old new F fate → Leaves P old new F fate
leaves P old new F Expanded k = record {
  fronts = opened k.base (length old.grown.items) k.next;
  grown = record { line = old.lines; front = k.base } ∷ [];
  least = old.least;
  changes = k.changes;
  wanted = λ path.
      wanted-opened P path k.base (length old.grown.items) (choices_above P F 0) k.next (subst (λ (G : List Entry). IsNextChoice P G (choices_above P F 0) k.next) (sym k.front) k.is_next)
      ∙ ap (λ (G : List Entry). branches_by G (choices_above P F 0) ++ wanted_below P path) k.front
      ∙ ap (λ (cs : List Choice). branches_by F cs ++ wanted_below P path) (sym (choices-above P F));
  bases = λ g i. elim i [ inl e ↦ subst (λ (x : Grown). IsBaseOf P x.front) e k.known | inr no_ ↦ absurd no_ ];
  path = opened-fronts P old.grown.items (record { line = old.lines; front = k.base }) (choices_above P F 0) k.next (subst (λ (G : List Entry). IsNextChoice P G (choices_above P F 0) k.next) (sym k.front) k.is_next) k.known;
  few = refl;
  marks = ap (λ (G : List Entry). let m : Mark = record { line = old.lines; front = G } in m ∷ []) k.front;
  left_over = λ ls l same is. left-other ls l old.least (λ b f. let bad : fates.Expanded ≡ fates.Left b = sym same ∙ f in cc) is;
}
leaves P old new F (Left b) k = record {
  fronts = [];
  grown = [];
  least = Some (lesser_of old.least b);
  changes = k;
  wanted = λ path. ap (wanted_below P) (append-nil path);
  bases = λ g i. absurd i;
  path = λ o i. absurd i;
  few = refl;
  marks = refl;
  left_over = λ ls l same is. left-new ls l old.least b same is;
}
leaves P old new F Leaf k = kept-other P old new F Leaf refl (λ b f. cc) k
leaves P old new F TailBound k = kept-other P old new F TailBound refl (λ b f. cc) k
leaves P old new F (WorkBound r) k = kept-other P old new F (WorkBound r) refl (λ b f. cc) k
leaves P old new F (Budget r) k = kept-other P old new F (Budget r) refl (λ b f. cc) k
leaves P old new F (Capacity r) k = kept-other P old new F (Capacity r) refl (λ b f. cc) k
leaves P old new F (Worse m) k = kept-other P old new F (Worse m) refl (λ b f. cc) k
leaves P old new F (Cutset i) k = kept-other P old new F (Cutset i) refl (λ b f. cc) k

-- Lines that have no front.

pub shuts-expands : (s : Saying) → shuts s ≡ true → expands s ≡ false
shuts-expands (says_shut why) e = refl
shuts-expands says_expanded e = absurd (cc)
shuts-expands (says_late r) e = refl
shuts-expands (says_dominated i) e = refl

pub shuts-left : (f : Fate) (b : ℕ) → shuts (saying f) ≡ true → f ≡ fates.Left b → ⊥
shuts-left f b e same = let bad : false ≡ true = sym (ap (λ (x : Fate). shuts (saying x)) same) ∙ e in cc

pub child-none : (P : Project) (F : List Entry) (c : Choice) (s : Saying) (start : Option ℕ) → IsChildStart P F c s start → extended_by F c start ≡ None → shuts s ≡ true
child-none P F c s None started e = started
child-none P F c s (Some t) started e = absurd (cc)

pub root-none : (b : Bool) → root_front b ≡ None → b ≡ true
root-none true e = refl
root-none false e = absurd (cc)

pub below-none : (P : Project) (b : Bool) (o : Option (List Entry)) → o ≡ None → expanded_branches P b o ≡ []
below-none P true None e = refl
below-none P true (Some F) e = absurd (cc)
below-none P false o e = refl

pub mark-none : (i : ℕ) (b : Bool) (o : Option (List Entry)) → o ≡ None → mark_at i b o ≡ []
mark-none i true None e = refl
mark-none i true (Some F) e = absurd (cc)
mark-none i false o e = refl

pub citation-none : (i : ℕ) (s : Saying) (o : Option (List Entry)) → o ≡ None → citation_at i s o ≡ []
citation-none i (says_dominated c) None e = refl
citation-none i (says_dominated c) (Some F) e = absurd (cc)
citation-none i says_expanded o e = refl
citation-none i (says_late r) o e = refl
citation-none i (says_shut why) o e = refl

-- Citations.

get-more : {X : Type 0} (xs ys : List X) (i : ℕ) (x : X) → slice_get xs i ≡ Some x → slice_get (xs ++ ys) i ≡ Some x
get-more [] ys i x e = absurd (cc)
get-more (y ∷ xs) ys zero x e = e
get-more (y ∷ xs) ys (suc i) x e = get-more xs ys i x e

pub at-more : (xs ys : List Grown) (place : ℕ) (F : List Entry) → IsGrownAt xs place F → IsGrownAt (xs ++ ys) place F
at-more xs ys place F is = record { own = is.own; at = get-more xs ys place is.own is.at; front = is.front }

kept-more : (P : Project) (xs ys : List Grown) (cs : List Citation) (ks : List Citing) → AllZip (IsKeptAs P xs) cs ks → AllZip (IsKeptAs P (xs ++ ys)) cs ks
kept-more P xs ys [] [] z = tt
kept-more P xs ys [] (k ∷ ks) z = z
kept-more P xs ys (c ∷ cs) [] z = z
kept-more P xs ys (c ∷ cs) (k ∷ ks) z =
    let own = z.0 in
    (record { line = own.line; cited = own.cited; parent = own.parent; place = at-more xs ys k.parent own.parent own.place; start = own.start; front = own.front; placed = own.placed }, kept-more P xs ys cs ks z.1)

-- a child's citation is kept
pub child-citation : (P : Project) (F : List Entry) (grown : List Grown) (i parent : ℕ) (turn : Turn) (fate : SaidFate) (start : Option ℕ) → IsGrownAt grown parent F → IsChildStart P F (choice_at turn.job turn.mode) (saying (fate_said fate)) start →
    AllZip (IsKeptAs P grown) (citation_at i (saying (fate_said fate)) (extended_by F (choice_at turn.job turn.mode) start)) (citing_by i parent turn fate)
child-citation P F grown i parent turn (Cutset c) (Some t) at started =
    (record { line = refl; cited = refl; parent = F; place = at; start = t; front = refl; placed = started }, tt)
child-citation P F grown i parent turn (Cutset c) None at started = absurd (cc)
child-citation P F grown i parent turn Expanded start at started = tt
child-citation P F grown i parent turn Leaf start at started = tt
child-citation P F grown i parent turn TailBound start at started = tt
child-citation P F grown i parent turn (WorkBound k) start at started = tt
child-citation P F grown i parent turn (Budget l) start at started = tt
child-citation P F grown i parent turn (Capacity k) start at started = tt
child-citation P F grown i parent turn (Worse m) start at started = tt
child-citation P F grown i parent turn (Left b) start at started = tt

-- beside the citations before it
pub kept-child : (P : Project) (root : Root) (xs ys : List Grown) (ks more : List Citing) (cs new : List Citation) (parent : ℕ) (F : List Entry) → IsGrownAt xs parent F → AreKept P root xs ks cs → AllZip (IsKeptAs P (xs ++ ys)) new more →
    AreKept P root (xs ++ ys) (ks ++ more) (cs ++ new)
kept-child P Wanted xs ys ks more cs new parent F at k z = zip-append (IsKeptAs P (xs ++ ys)) cs new ks more (kept-more P xs ys cs ks k) z
kept-child P Came xs ys ks more cs new parent F at k z = zip-append (IsKeptAs P (xs ++ ys)) cs new ks more (kept-more P xs ys cs ks k) z
kept-child P Cites xs ys ks more cs new parent F at k z =
    let none : slice_get [] parent ≡ Some at.own = ap (λ (gs : List Grown). slice_get gs parent) (sym k.0) ∙ at.at in absurd (cc)

-- The root is wanted before the first line alone.

is_root : Branch → Bool
is_root at_root = true
is_root (by_choice F c) = false

no_root-below : (P : Project) (c : Branch) (l : LogLine) (bs : List Branch) → ((x : Branch) → In (c ∷ bs) x → is_root x ≡ false) → (x : Branch) → In (below P c l ++ bs) x → is_root x ≡ false
unfolding below is_root
no_root-below P c l bs none x j = elim (In-append (below P c l) bs x j) [
  | inl low ↦ let s = below-is P (is_expanded l) (front_at c l) x low in ap is_root (sym s.branch)
  | inr rest ↦ none x (inr rest)
]

no_root-wants : (P : Project) (v : Verdict) (bs : List Branch) (k : ℕ) (ls : List LogLine) (wanted : List Branch) → ((b : Branch) → In bs b → is_root b ≡ false) → WantsFrom P v bs k ls wanted → (b : Branch) → In wanted b → is_root b ≡ false
no_root-wants P v bs k [] wanted none w b i = none b (subst (λ (xs : List Branch). In xs b) (sym w) i)
no_root-wants P v [] k (l ∷ ls) wanted none w b i = absurd w
no_root-wants P v (c ∷ bs) k (l ∷ ls) wanted none w b i = no_root-wants P v (below P c l ++ bs) (k + expanded_by l) ls wanted (no_root-below P c l bs none) w.1 b i

pub root-first : (P : Project) (v : Verdict) (ls : List LogLine) (rest : List Branch) → Wants P v ls (at_root ∷ rest) → ls ≡ []
unfolding below is_root
root-first P v [] rest w = refl
root-first P v (l ∷ ls) rest w =
    let all = no_root-wants P v (below P at_root l ++ []) (0 + expanded_by l) ls (at_root ∷ rest)
    (λ x j. elim (In-append (below P at_root l) [] x j) [ inl low ↦ let s = below-is P (is_expanded l) (front_at at_root l) x low in ap is_root (sym s.branch) | inr no_ ↦ absurd no_ ]) w.1 in
    let bad : true ≡ false = all at_root (inl refl) in cc

-- what is kept, by the lists after the step
pub put_back : (P : Project) (root : Root) (xs : List Grown) (new_root : Root) (new_grown : List Grown) (new_citing : List Citing) (ys : List Grown) (more : List Citing) (ks : List Citing) (cs new : List Citation) →
    new_root ≡ root → new_grown ≡ xs ++ ys → new_citing ≡ ks ++ more → AreKept P root (xs ++ ys) (ks ++ more) (cs ++ new) → AreKept P new_root new_grown new_citing (cs ++ new)
put_back P root xs new_root new_grown new_citing ys more ks cs new r g c k =
    subst (λ (x : Root). AreKept P x new_grown new_citing (cs ++ new)) (sym r)
    (subst (λ (gs : List Grown). AreKept P root gs new_citing (cs ++ new)) (sym g)
    (subst (λ (zs : List Citing). AreKept P root (xs ++ ys) zs (cs ++ new)) (sym c) k))

-- a child's citation, by its line
pub child-zip : (P : Project) (F : List Entry) (grown : List Grown) (i n parent : ℕ) (turn : Turn) (fate : SaidFate) (l : LogLine) → i ≡ n → IsGrownAt grown parent F → l.fate ≡ fate_said fate →
    IsChildStart P F (choice_at turn.job turn.mode) (says l) l.start → AllZip (IsKeptAs P grown) (citation_at i (says l) (front_at (by_choice F (choice_at turn.job turn.mode)) l)) (citing_by n parent turn fate)
child-zip P F grown i n parent turn fate l e at same started =
    let c = choice_at turn.job turn.mode in
    subst (λ (m : ℕ). AllZip (IsKeptAs P grown) (citation_at i (says l) (front_at (by_choice F c) l)) (citing_by m parent turn fate)) e
    (subst (λ (f : Fate). AllZip (IsKeptAs P grown) (citation_at i (saying f) (extended_by F c l.start)) (citing_by i parent turn fate)) (sym same)
    (child-citation P F grown i parent turn fate l.start at (subst (λ (f : Fate). IsChildStart P F c (saying f) l.start) same started)))

-- The root's line leaves its own citation alone.

pub root-came : (fate : SaidFate) → shuts (saying (fate_said fate)) ≡ true → root_by fate ≡ Came
root-came (Cutset i) e = absurd (cc)
root-came Expanded e = refl
root-came Leaf e = refl
root-came TailBound e = refl
root-came (WorkBound k) e = refl
root-came (Budget l) e = refl
root-came (Capacity k) e = refl
root-came (Worse m) e = refl
root-came (Left b) e = refl

pub wanted-root_by : (fate : SaidFate) → wanted_root (root_by fate) ≡ []
wanted-root_by (Cutset i) = refl
wanted-root_by Expanded = refl
wanted-root_by Leaf = refl
wanted-root_by TailBound = refl
wanted-root_by (WorkBound k) = refl
wanted-root_by (Budget l) = refl
wanted-root_by (Capacity k) = refl
wanted-root_by (Worse m) = refl
wanted-root_by (Left b) = refl

pub empty-is : {X : Type 0} (xs : List X) → length xs ≡ 0 → xs ≡ []
empty-is [] e = refl
empty-is (x ∷ xs) e = absurd (cc)

pub root-kept : (P : Project) (fate : SaidFate) (grown : List Grown) → length grown ≡ cond (expands (saying (fate_said fate))) 1 0 → AreKept P (root_by fate) grown [] (citation_at 1 (saying (fate_said fate)) (Some []))
root-kept P (Cutset i) grown e = (empty-is grown e, (i, refl))
root-kept P Expanded grown e = tt
root-kept P Leaf grown e = tt
root-kept P TailBound grown e = tt
root-kept P (WorkBound k) grown e = tt
root-kept P (Budget l) grown e = tt
root-kept P (Capacity k) grown e = tt
root-kept P (Worse m) grown e = tt
root-kept P (Left b) grown e = tt

pub none-kept : (P : Project) (grown : List Grown) (ks : List Citing) → AllZip (IsKeptAs P grown) [] ks → ks ≡ []
none-kept P grown [] z = refl
none-kept P grown (k ∷ ks) z = absurd z

-- What a call says of an answer that is Ok.

pub ok-at : {A E : Type 0} (Q : A → Type 0) (r : Result A E) (x : A) → IfOk r Q → r ≡ Ok x → Q x
ok-at Q r x q e = subst (λ y. IfOk y Q) e q

pub ok-map : {A E : Type 0} (Q R : A → Type 0) (r : Result A E) → IfOk r Q → ((x : A) → Q x → R x) → IfOk r R
ok-map Q R (Ok x) q f = f x q
ok-map Q R (Err e) q f = tt
