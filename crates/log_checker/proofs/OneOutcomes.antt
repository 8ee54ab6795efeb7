-- One outcome at most: a line leads to one thing, and so a text is accepted as one verdict or refused for one reason.
use Rattle.std.proofs.Common.{◌≡◌, ℕ, ◌+◌, ◌⊎◌, inl, inr, arith, refl, sym, ap, subst, ◌∙◌, List, [], ◌∷◌, ◌++◌, length, Bool, true, false, cond, Option, Some, None}
use Rattle.std.specs.Prelude.{◌==◌, Ok, Err}
use Rattle.std.specs.List.{AllByRecursion}
use Rattle.std.proofs.lemmas.Bool.Decides.{nat_tests}
use Rattle.std.proofs.lemmas.List.Elements.{recursion_from_All}
use Rattle.sched_base.specs.declared.fate.Fate.{Fate}
use Rattle.sched_base.specs.declared.fate.Fate.TheVariants as fates
use Rattle.rcpsp_model.specs.declared.parts.Verdict.{Verdict}
use Rattle.rcpsp_model.specs.Project.{Project}
use Rattle.proof_log.specs.declared.line.LogWords.{LogWords}
use Rattle.proof_log.specs.declared.line.ReportLine.{ReportLine}
use Rattle.proof_log.specs.declared.line.ReportLine.TheVariants as texts
use Rattle.proof_log.specs.declared.report.LogLine.{LogLine}
use Rattle.proof_log.specs.Report.{letter_of, fate_number}
use Rattle.proof_log.specs.Text.{from_one, log_words}
use Rattle.proof_log.specs.Reading.{words_in, line_in}
use Rattle.proof_log.proofs.LinesAgain.{text_again}
use Rattle.log_truth.specs.Log.{Branch, at_root, below, LogNode, nodes}
use Rattle.log_truth.specs.Holds.{IsServed, AreServed, HasLower, expanded_in}
use Rattle.log_truth.specs.Refusal.{Fault, Breaks, HasFault, expanded_by, WantsFrom, IsFirstUnserved}
use Rattle.log_truth.proofs.OneRefusal.{good-no_fault, unserved-one}
use Rattle.log_checker.specs.declared.reason.Reason.{Reason}
use Rattle.log_checker.specs.declared.stage.Stage.{Stage}
use Rattle.log_checker.specs.declared.stage.Stage.TheVariants as stages
use Rattle.log_checker.specs.Reasons.{reason_of}
use Rattle.log_checker.specs.Progress.{Progress, Outcome, Unless, start, is_ended, IsJobStep, IsJudgedStep, IsWordsStep, IsWantedStep, IsLineStep, IsReadAs, IsStep}
use Rattle.log_checker.specs.Refusal.{rest_of, whole_lines, Leads, IsFirst, IsEarly, behind_end, too_long, lines_before, AfterLog, unserved, not_least, AtEnd, IsQuiet, IsRefusal}
use Rattle.log_checker.specs.Checker.{IsAcceptedAs}
use Rattle.log_checker.specs.Laws.{OneOutcomeLaw}

-- A line of the log has one list of words, and they are those of no other.

-- the fate with a letter and a number, found by trying
fate_by : ℕ → ℕ → Fate
fate_by letter number =
    cond (letter == 69) fates.Expanded (cond (letter == 76) fates.Leaf (cond (letter == 84) fates.TailBound (cond (letter == 87) (fates.WorkBound number) (cond (letter == 78) (fates.Budget number)
    (cond (letter == 88) (fates.Capacity number) (cond (letter == 77) (fates.Worse number) (cond (letter == 67) (fates.Cutset number) (fates.Left number))))))))

fate-back : (f : Fate) → fate_by (letter_of f) (fate_number f) ≡ f
unfolding fate_by
fate-back fates.Expanded = refl
fate-back fates.Leaf = refl
fate-back fates.TailBound = refl
fate-back (fates.WorkBound n) = refl
fate-back (fates.Budget n) = refl
fate-back (fates.Capacity n) = refl
fate-back (fates.Worse n) = refl
fate-back (fates.Cutset n) = refl
fate-back (fates.Left n) = refl

number_by : Option ℕ → ℕ
number_by None = 0
number_by (Some n) = n

number-back : (n : ℕ) → number_by (from_one n) ≡ n
unfolding number_by
number-back n = at_ (n == 0) (λ e. grind (arith, nat_tests))
  where
    at_ : (b : Bool) → (b ≡ true → n ≡ 0) → number_by (cond b None (Some n)) ≡ n
    at_ true e = sym (e refl)
    at_ false e = refl

pub line_by : LogWords → LogLine
line_by w = record { job = number_by w.job; mode = number_by w.mode; start = w.start; fate = fate_by w.letter w.number }

pub line-back : (l : LogLine) → line_by (log_words l) ≡ l
unfolding line_by
line-back l =
    ap (λ (j : ℕ). let x : LogLine = record { job = j; mode = number_by (from_one l.mode); start = l.start; fate = fate_by (letter_of l.fate) (fate_number l.fate) } in x) (number-back l.job)
    ∙ ap (λ (m : ℕ). let x : LogLine = record { job = l.job; mode = m; start = l.start; fate = fate_by (letter_of l.fate) (fate_number l.fate) } in x) (number-back l.mode)
    ∙ ap (λ (f : Fate). let x : LogLine = record { job = l.job; mode = l.mode; start = l.start; fate = f } in x) (fate-back l.fate)

line-one : (a b : LogLine) → log_words a ≡ log_words b → a ≡ b
line-one a b e = sym (line-back a) ∙ ap line_by e ∙ line-back b

-- Rules in order: one outcome.

unless-one : {Rule Left Right : Type 0} {own : Reason} {a b : Outcome} → Unless Rule own a Left → Unless Rule own b Right → (Left → Right → a ≡ b) → a ≡ b
unless-one (inl x) (inl y) next = x.1 ∙ sym y.1
unless-one (inl x) (inr y) next = absurd (x.0 y.0)
unless-one (inr x) (inl y) next = absurd (y.0 x.0)
unless-one (inr x) (inr y) next = next x.1 y.1

breaks-one : {Rule Left Right : Type 0} {own a b : Fault} → Breaks Rule own a Left → Breaks Rule own b Right → (Left → Right → a ≡ b) → a ≡ b
breaks-one (inl x) (inl y) next = x.1 ∙ sym y.1
breaks-one (inl x) (inr y) next = absurd (x.0 y.0)
breaks-one (inr x) (inl y) next = absurd (y.0 x.0)
breaks-one (inr x) (inr y) next = next x.1 y.1

fault-one : (P : Project) (v : Verdict) (k : ℕ) (b : Branch) (l : LogLine) (x y : Fault) → HasFault P v k b l x → HasFault P v k b l y → x ≡ y
fault-one P v k b l x y f g =
    breaks-one f g (λ f g. breaks-one f g (λ f g. breaks-one f g (λ f g. breaks-one f g (λ f g. breaks-one f g (λ none g. absurd none)))))

wants-one : (P : Project) (v : Verdict) (bs : List Branch) (k : ℕ) (ls : List LogLine) (x y : List Branch) → WantsFrom P v bs k ls x → WantsFrom P v bs k ls y → x ≡ y
wants-one P v bs k [] x y a b = sym a ∙ b
wants-one P v [] k (l ∷ ls) x y a b = absurd a
wants-one P v (c ∷ bs) k (l ∷ ls) x y a b = wants-one P v (below P c l ++ bs) (k + expanded_by l) ls x y a.1 b.1

-- A line.

read-one : (bytes : List ℕ) (x y : Option ReportLine) → IsReadAs bytes x → IsReadAs bytes y → x ≡ y
read-one bytes None None a b = refl
read-one bytes None (Some l) a b = absurd (a l b.0 b.1)
read-one bytes (Some l) None a b = absurd (b l a.0 a.1)
read-one bytes (Some l) (Some m) a b = sym (text_again l a.0) ∙ ap (λ (w : List ℕ). line_in (words_in w)) (sym a.1 ∙ b.1) ∙ text_again m b.0

judged-one : (P : Project) (p : Progress) (v : Verdict) (b : Branch) (l : LogLine) (x y : Outcome) → IsJudgedStep P p v b l x → IsJudgedStep P p v b l y → x ≡ y
judged-one P p v b l x y (inl f) (inl g) = f.2 ∙ ap (λ (z : Fault). let out : Outcome = Err (reason_of z) in out) (fault-one P v (expanded_in p.lines) b l f.0 g.0 f.1 g.1) ∙ sym g.2
judged-one P p v b l x y (inl f) (inr g) = absurd (good-no_fault P v (expanded_in p.lines) b l f.0 g.0 f.1)
judged-one P p v b l x y (inr f) (inl g) = absurd (good-no_fault P v (expanded_in p.lines) b l g.0 f.0 g.1)
judged-one P p v b l x y (inr f) (inr g) = f.1 ∙ sym g.1

words-one : (P : Project) (p : Progress) (v : Verdict) (b : Branch) (w : LogWords) (x y : Outcome) → IsWordsStep P p v b w x → IsWordsStep P p v b w y → x ≡ y
words-one P p v b w x y (inl f) (inl g) = f.1 ∙ sym g.1
words-one P p v b w x y (inl f) (inr g) = absurd (f.0 g.0 g.1)
words-one P p v b w x y (inr f) (inl g) = absurd (g.0 f.0 f.1)
words-one P p v b w x y (inr f) (inr g) =
    judged-one P p v b g.0 x y (subst (λ (l : LogLine). IsJudgedStep P p v b l x) (line-one f.0 g.0 (f.1 ∙ sym g.1)) f.2) g.2

wanted-one : (P : Project) (p : Progress) (v : Verdict) (bs : List Branch) (o : Option ReportLine) (x y : Outcome) → IsWantedStep P p v bs o x → IsWantedStep P p v bs o y → x ≡ y
wanted-one P p v [] o x y f g = f ∙ sym g
wanted-one P p v (b ∷ bs) (Some (texts.Log words)) x y f g = words-one P p v b words x y f g
wanted-one P p v (b ∷ bs) _ x y f g = f ∙ sym g

job-one : (P : Project) (p : Progress) (v : Verdict) (o : Option ReportLine) (x y : Outcome) → IsJobStep P p v o x → IsJobStep P p v o y → x ≡ y
job-one P p v (Some (texts.Job j m s)) x y f g = unless-one f g (λ f g. unless-one f g (λ f g. unless-one f g (λ f g. f ∙ sym g)))
job-one P p v _ x y f g = f ∙ sym g

stage-one : (P : Project) (p : Progress) (s : Stage) (o : Option ReportLine) (x y : Outcome) → IsLineStep P p s o x → IsLineStep P p s o y → x ≡ y
stage-one P p (stages.Job v) o x y f g = job-one P p v o x y f g
stage-one P p (stages.Line v) o x y f g =
    wanted-one P p v g.0 o x y (subst (λ (bs : List Branch). IsWantedStep P p v bs o x) (wants-one P v (at_root ∷ []) 0 p.lines f.0 g.0 f.1 g.1) f.2) g.2
stage-one P p stages.Title o x y f g = f ∙ sym g
stage-one P p stages.Kind o x y f g = f ∙ sym g
stage-one P p (stages.Duration k) o x y f g = f ∙ sym g
stage-one P p (stages.Lower k d) o x y f g = f ∙ sym g
stage-one P p (stages.Flag v) o x y f g = f ∙ sym g
stage-one P p (stages.Ended v) o x y f g = f ∙ sym g

-- a line leads to one outcome
pub step-one : (P : Project) (p : Progress) (w : List ℕ) (x y : Outcome) → IsStep P p w x → IsStep P p w y → x ≡ y
step-one P p w x y f g = unless-one f.outcome g.outcome (λ f g. unless-one f g (λ f g.
    stage-one P p p.stage g.0 x y (subst (λ (o : Option ReportLine). IsLineStep P p p.stage o x) (read-one w f.0 g.0 f.1 g.1) f.2) g.2))

ok-one : (P : Project) (p q r : Progress) (w : List ℕ) → IsStep P p w (Ok q) → IsStep P p w (Ok r) → q ≡ r
ok-one P p q r w f g = let e = step-one P p w (Ok q) (Ok r) f g in cc

err-one : (P : Project) (p : Progress) (w : List ℕ) (r s : Reason) → IsStep P p w (Err r) → IsStep P p w (Err s) → r ≡ s
err-one P p w r s f g = let e = step-one P p w (Err r) (Err s) f g in cc

not-both : (P : Project) (p q : Progress) (w : List ℕ) (r : Reason) → IsStep P p w (Ok q) → IsStep P p w (Err r) → ⊥
not-both P p q w r f g = let e = step-one P p w (Ok q) (Err r) f g in absurd (cc)

-- Lines, one after another.

leads-one : (P : Project) (p q r : Progress) (ls : List (List ℕ)) → Leads P p ls q → Leads P p ls r → q ≡ r
leads-one P p q r [] f g = sym f ∙ g
leads-one P p q r (l ∷ ls) f g = leads-one P g.0 q r ls (subst (λ (x : Progress). Leads P x ls q) (ok-one P p f.0 g.0 l f.1 g.1) f.2) g.2

first-one : (P : Project) (B : Progress → ℕ → ℕ → Reason → Type 0) → ((p : Progress) (i m n : ℕ) (r s : Reason) → B p i m r → B p i n s → (m ≡ n) × (r ≡ s)) →
    (p : Progress) (i : ℕ) (ls : List (List ℕ)) (m n : ℕ) (r s : Reason) → IsFirst P B p i ls m r → IsFirst P B p i ls n s → (m ≡ n) × (r ≡ s)
first-one P B one p i [] m n r s f g = one p i m n r s f g
first-one P B one p i (l ∷ ls) m n r s (inl f) (inl g) = (f.0 ∙ sym g.0, err-one P p l r s f.1 g.1)
first-one P B one p i (l ∷ ls) m n r s (inl f) (inr g) = absurd (not-both P p g.0 l r g.1 f.1)
first-one P B one p i (l ∷ ls) m n r s (inr f) (inl g) = absurd (not-both P p f.0 l s f.1 g.1)
first-one P B one p i (l ∷ ls) m n r s (inr f) (inr g) =
    first-one P B one g.0 (i + 1) ls m n r s (subst (λ (x : Progress). IsFirst P B x (i + 1) ls m r) (ok-one P p f.0 g.0 l f.1 g.1) f.2) g.2

-- where lines lead on, what comes behind them is broken first
pub first-behind : (P : Project) (B : Progress → ℕ → ℕ → Reason → Type 0) (p q : Progress) (i : ℕ) (ls : List (List ℕ)) (n : ℕ) (r : Reason) → Leads P p ls q → IsFirst P B p i ls n r → (j : ℕ) × B q j n r
first-behind P B p q i [] n r f g = (i, subst (λ (x : Progress). B x i n r) f g)
first-behind P B p q i (l ∷ ls) n r f (inl g) = absurd (not-both P p f.0 l r f.1 g.1)
first-behind P B p q i (l ∷ ls) n r f (inr g) = first-behind P B f.0 q (i + 1) ls n r f.2 (subst (λ (x : Progress). IsFirst P B x (i + 1) ls n r) (ok-one P p g.0 f.0 l g.1 f.1) g.2)

-- Behind the lines.

early-one : (p : Progress) (rest : List ℕ) (r s : Reason) → IsEarly p rest r → IsEarly p rest s → r ≡ s
early-one p rest _ _ (behind_end e some) (behind_end d more) = refl
early-one p rest _ _ (behind_end e some) (too_long off long) = let bad : true ≡ false = sym e ∙ off in absurd (cc)
early-one p rest _ _ (too_long off long) (behind_end e some) = let bad : true ≡ false = sym e ∙ off in absurd (cc)
early-one p rest _ _ (too_long off long) (too_long o more) = refl

served-none : (P : Project) (all : List LogNode) (i : ℕ) (ns : List LogNode) (n : ℕ) → AllByRecursion (IsServed P all) ns → IsFirstUnserved P all i ns n → ⊥
served-none P all i [] n s f = f
served-none P all i (x ∷ ns) n s (inl f) = f.1 s.0
served-none P all i (x ∷ ns) n s (inr f) = served-none P all (i + 1) ns n s.1 f.1

are-served : (P : Project) (ls : List LogLine) (n : ℕ) → AreServed P ls → IsFirstUnserved P (nodes P ls) 1 (nodes P ls) n → ⊥
are-served P ls n s f = served-none P (nodes P ls) 1 (nodes P ls) n (recursion_from_All (IsServed P (nodes P ls)) (nodes P ls) s) f

after-one : (P : Project) (v : Verdict) (p : Progress) (m n : ℕ) (r s : Reason) → AfterLog P v p m r → AfterLog P v p n s → (m ≡ n) × (r ≡ s)
after-one P v p _ _ _ _ (unserved m u) (unserved n t) = (ap (λ (k : ℕ). lines_before p + k) (unserved-one P (nodes P p.lines) 1 (nodes P p.lines) m n u t), refl)
after-one P v p _ _ _ _ (unserved m u) (not_least served no_) = absurd (are-served P p.lines m served u)
after-one P v p _ _ _ _ (not_least served no_) (unserved n t) = absurd (are-served P p.lines n served t)
after-one P v p _ _ _ _ (not_least served no_) (not_least s n) = (refl, refl)

end-one : (P : Project) (p : Progress) (x : Stage) (i m n : ℕ) (r s : Reason) → AtEnd P p x i m r → AtEnd P p x i n s → (m ≡ n) × (r ≡ s)
end-one P p (stages.Ended v) i m n r s f g = after-one P v p m n r s f g
end-one P p stages.Title i m n r s f g = (f.0 ∙ sym g.0, f.1 ∙ sym g.1)
end-one P p stages.Kind i m n r s f g = (f.0 ∙ sym g.0, f.1 ∙ sym g.1)
end-one P p (stages.Duration k) i m n r s f g = (f.0 ∙ sym g.0, f.1 ∙ sym g.1)
end-one P p (stages.Lower k d) i m n r s f g = (f.0 ∙ sym g.0, f.1 ∙ sym g.1)
end-one P p (stages.Job v) i m n r s f g = (f.0 ∙ sym g.0, f.1 ∙ sym g.1)
end-one P p (stages.Flag v) i m n r s f g = (f.0 ∙ sym g.0, f.1 ∙ sym g.1)
end-one P p (stages.Line v) i m n r s f g = (f.0 ∙ sym g.0, f.1 ∙ sym g.1)

abbrev Last : Project → List ℕ → Progress → ℕ → ℕ → Reason → Type 0
Last P rest p i k r = ((k ≡ i) × IsEarly p rest r) ⊎ (IsQuiet p rest × AtEnd P p p.stage i k r)

last-one : (P : Project) (rest : List ℕ) (p : Progress) (i m n : ℕ) (r s : Reason) → Last P rest p i m r → Last P rest p i n s → (m ≡ n) × (r ≡ s)
last-one P rest p i m n r s (inl f) (inl g) = (f.0 ∙ sym g.0, early-one p rest r s f.1 g.1)
last-one P rest p i m n r s (inl f) (inr g) = absurd (g.0 r f.1)
last-one P rest p i m n r s (inr f) (inl g) = absurd (f.0 s g.1)
last-one P rest p i m n r s (inr f) (inr g) = end-one P p p.stage i m n r s f.1 g.1

-- Texts.

accepted-one : (P : Project) (bytes : List ℕ) (v w : Verdict) → IsAcceptedAs P bytes v → IsAcceptedAs P bytes w → v ≡ w
accepted-one P bytes v w f g =
    let same = leads-one P start f.progress g.progress (whole_lines bytes) f.leads g.leads in
    let e : stages.Ended v ≡ stages.Ended w = sym f.ended ∙ ap (λ (p : Progress). p.stage) same ∙ g.ended in cc

none-early : (p : Progress) (v : Verdict) (rest : List ℕ) (r : Reason) → p.stage ≡ stages.Ended v → rest ≡ [] → IsEarly p rest r → ⊥
none-early p v rest _ e all (behind_end is some) = let none = ap (λ (l : List ℕ). length l) all in omega arith
none-early p v rest _ e all (too_long off long) = let bad : true ≡ false = sym (ap is_ended e) ∙ off in absurd (cc)

none-after : (P : Project) (v : Verdict) (p : Progress) (n : ℕ) (r : Reason) → AreServed P p.lines → HasLower v p.lines → AfterLog P v p n r → ⊥
none-after P v p _ _ served lower (unserved m u) = are-served P p.lines m served u
none-after P v p _ _ served lower (not_least s no_) = no_ lower

none-last : (P : Project) (rest : List ℕ) (p : Progress) (v : Verdict) (i n : ℕ) (r : Reason) → p.stage ≡ stages.Ended v → rest ≡ [] → AreServed P p.lines → HasLower v p.lines → Last P rest p i n r → ⊥
none-last P rest p v i n r e all served lower (inl f) = none-early p v rest r e all f.1
none-last P rest p v i n r e all served lower (inr f) = none-after P v p n r served lower (subst (λ (s : Stage). AtEnd P p s i n r) e f.1)

accepted-unrefused : (P : Project) (bytes : List ℕ) (v : Verdict) (n : ℕ) (r : Reason) → IsAcceptedAs P bytes v → IsRefusal P bytes n r → ⊥
accepted-unrefused P bytes v n r f g =
    let behind = first-behind P (Last P (rest_of bytes)) start f.progress 1 (whole_lines bytes) n r f.leads g in
    none-last P (rest_of bytes) f.progress v behind.0 n r f.ended f.all f.served f.lower behind.1

pub one_outcome_law : OneOutcomeLaw
one_outcome_law P bytes = record {
  verdict = λ v w f g. accepted-one P bytes v w f g;
  unrefused = λ v n r f g. accepted-unrefused P bytes v n r f g;
  refusal = λ m n r s f g. first-one P (Last P (rest_of bytes)) (last-one P (rest_of bytes)) start 1 (whole_lines bytes) m n r s f g;
}
