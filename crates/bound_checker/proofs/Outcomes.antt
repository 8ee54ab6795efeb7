-- A text has one outcome.
use Rattle.std.proofs.Common.{◌≡◌, ℕ, ◌+◌, ◌∙◌, arith, refl, sym, ap, subst, Bool, true, false, List, [], ◌∷◌, ◌++◌, length, length-append, append_assoc, map}
use Rattle.std.specs.Prelude.{Ok, Err, Result}
use Rattle.std.specs.List.{list_any}
use Rattle.std.proofs.lemmas.List.{append-nil}
use Rattle.rcpsp_model.specs.Project.{Project, IsProject}
use Rattle.proof_log.specs.Lines.{ReaderState}
use Rattle.window_refuter.specs.declared.step.BoundStep.{BoundStep}
use Rattle.window_refuter.specs.declared.line.BoundLine.{BoundLine}
use Rattle.window_refuter.specs.declared.line.BoundLine.TheVariants.{Title, Bound, Step, End}
use Rattle.window_refuter.specs.Windows.{TimeWindows}
use Rattle.window_refuter.specs.Text.{line_text}
use Rattle.window_refuter.proofs.Bounded.{shows-sound}
use Rattle.bound_checker.specs.declared.checker.BoundRefusal.{BoundRefusal}
use Rattle.bound_checker.specs.declared.course.Course.{Course}
use Rattle.bound_checker.specs.declared.stage.Stage.{Stage}
use Rattle.bound_checker.specs.declared.stage.Stage.TheVariants as stages
use Rattle.bound_checker.specs.Text.{text_of, bound_lines}
use Rattle.bound_checker.specs.Beginning.{IsBeginning}
use Rattle.bound_checker.specs.Judged.{AcceptsBound, NoneFollows, IsFault, IsBoundRefusal, is_end, IsShown, whole, too_long, behind_end, IsBroken}
use Rattle.bound_checker.specs.Stages.{IsAt, is_ended}
use Rattle.bound_checker.specs.Checker.{held, Runs, IsFed, IsJudgement}
use Rattle.bound_checker.specs.Laws.{StaysLaw, BrokenLaw, OneOutcomeLaw, SoundLaw}
use Rattle.bound_checker.proofs.LineEnds.{no_cut, cut_again, cut_long, none_left}
use Rattle.bound_checker.proofs.LineTexts.{text_short, text_no_end, GoesOn, Compared, alike, first_longer, second_longer, compare}
use Rattle.bound_checker.proofs.Beginnings.{are-lines, is-line, front-line, none-behind, bound-begins, at-begins}

-- the lines don't go on where none follows
goes-not : (P : Project) (xs ys : List BoundLine) (r s : List ℕ) → IsBeginning P xs → NoneFollows P ys s → GoesOn xs ys r s → ⊥
goes-not P xs ys r s begins none g = none g.line (text_of g.more ++ r) g.rest (front-line P ys g.line g.more (subst (IsBeginning P) g.longer begins))

empty : (xs : List ℕ) → [] ≡ xs → length xs ≡ 0
empty xs e = sym (ap (λ (ys : List ℕ). length ys) e)

same_bound : (b c : ℕ) (xs ys : List BoundLine) → ◌≡◌ {A = List BoundLine} (Title ∷ Bound b ∷ xs) (Title ∷ Bound c ∷ ys) → b ≡ c
same_bound b c xs ys e = cc

module _ (P : Project) (is : IsProject P) (bytes : List ℕ) where
  pub one-line : (m n : ℕ) → IsFault P bytes m → IsFault P bytes n → m ≡ n
  one-line m n f g = by (compare f.before g.before f.rest g.rest (are-lines P f.before is f.begins) (are-lines P g.before is g.begins) (sym f.cut ∙ g.cut))
    where
      by : Compared f.before g.before f.rest g.rest → m ≡ n
      by (alike same rest) = f.place ∙ ap (λ (ls : List BoundLine). length ls + 1) same ∙ sym g.place
      by (first_longer o) = absurd (goes-not P f.before g.before f.rest g.rest f.begins g.none o)
      by (second_longer o) = absurd (goes-not P g.before f.before g.rest f.rest g.begins f.none o)

  all-text : (b : ℕ) (a : AcceptsBound P bytes b) → bytes ≡ text_of (bound_lines b a.steps) ++ []
  all-text b a = a.text ∙ sym (append-nil (text_of (bound_lines b a.steps)))

  begins : (b : ℕ) (a : AcceptsBound P bytes b) → IsBeginning P (bound_lines b a.steps)
  begins b a = bound-begins P b a.steps a.most a.shows

  -- where none follows in an accepted text, all of it stands before
  accepted-fault : (b n : ℕ) (a : AcceptsBound P bytes b) (f : IsFault P bytes n) → (bound_lines b a.steps ≡ f.before) × ([] ≡ f.rest)
  accepted-fault b n a f = by (compare (bound_lines b a.steps) f.before [] f.rest (are-lines P (bound_lines b a.steps) is (begins b a)) (are-lines P f.before is f.begins) (sym (all-text b a) ∙ f.cut))
    where
      by : Compared (bound_lines b a.steps) f.before [] f.rest → (bound_lines b a.steps ≡ f.before) × ([] ≡ f.rest)
      by (alike same rest) = (same, rest)
      by (first_longer o) = absurd (goes-not P (bound_lines b a.steps) f.before [] f.rest (begins b a) f.none o)
      by (second_longer o) = absurd (none_left (line_text o.line) (text_of o.more ++ f.rest) o.rest)

  pub broken-refused : (n : ℕ) → IsBroken P bytes n → IsBoundRefusal P bytes n
  broken-refused n h = record { fault = h.fault; unaccepted = λ b a. by (accepted-fault b n a h.fault).1 h.shown }
    where
      by : [] ≡ h.fault.rest → IsShown h.fault.before h.fault.rest → ⊥
      by none (whole l m e) = none_left l m (none ∙ e)
      by none (too_long long) = let size = empty h.fault.rest none in omega arith
      by none (behind_end e some) = let size = empty h.fault.rest none in omega arith

  pub one-bound : (b c : ℕ) → AcceptsBound P bytes b → AcceptsBound P bytes c → b ≡ c
  one-bound b c x y = by (compare (bound_lines b x.steps) (bound_lines c y.steps) [] [] (are-lines P (bound_lines b x.steps) is (begins b x)) (are-lines P (bound_lines c y.steps) is (begins c y)) (sym (all-text b x) ∙ all-text c y))
    where
      by : Compared (bound_lines b x.steps) (bound_lines c y.steps) [] [] → b ≡ c
      by (alike same rest) = same_bound b c (map Step x.steps ++ End ∷ []) (map Step y.steps ++ End ∷ []) same
      by (first_longer o) = absurd (none_left (line_text o.line) (text_of o.more ++ []) o.rest)
      by (second_longer o) = absurd (none_left (line_text o.line) (text_of o.more ++ []) o.rest)

  pub stays : (more : List ℕ) (n : ℕ) → IsBroken P bytes n → IsBroken P (bytes ++ more) n
  stays more n h = record {
    fault = record {
      before = f.before;
      rest = f.rest ++ more;
      place = f.place;
      cut = ap (λ (xs : List ℕ). xs ++ more) f.cut ∙ append_assoc (text_of f.before) f.rest more;
      begins = f.begins;
      none = λ line m e b. none h.shown line m e b;
    };
    shown = shows h.shown;
  }
    where
      f : IsFault P bytes n
      f = h.fault

      none : IsShown f.before f.rest → (line : BoundLine) (m : List ℕ) → f.rest ++ more ≡ line_text line ++ 10 ∷ m → IsBeginning P (f.before ++ line ∷ []) → ⊥
      none (whole l k e) line m same b =
          let own = cut_again (line_text line) l k more m (text_no_end line (is-line P f.before line is b)) (ap (λ (xs : List ℕ). xs ++ more) (sym e) ∙ same) in
          f.none line own.0 (e ∙ own.1) b
      none (too_long long) line m same b =
          let short = text_short line (is-line P f.before line is b) in
          let own = cut_long (line_text line) f.rest more m (omega arith) same in
          f.none line own.0 own.1 b
      none (behind_end e some) line m same b = none-behind P f.before line e b

      shows : IsShown f.before f.rest → IsShown f.before (f.rest ++ more)
      shows (whole l k e) = whole l (k ++ more) (ap (λ (xs : List ℕ). xs ++ more) e ∙ append_assoc l (10 ∷ k) more)
      shows (too_long long) = too_long (let size = length-append f.rest more in omega arith)
      shows (behind_end e some) = behind_end e (let size = length-append f.rest more in omega arith)

-- The laws.

pub stays_law : StaysLaw
stays_law P bytes more n is h = stays P is bytes more n h

pub broken_law : BrokenLaw
broken_law P bytes n is h = broken-refused P is bytes n h

pub one_outcome_law : OneOutcomeLaw
one_outcome_law P bytes is = record {
  bound = one-bound P is bytes;
  unrefused = λ b n a r. r.unaccepted b a;
  line = λ m n r s. one-line P is bytes m n r.fault s.fault;
}

pub sound_law : SoundLaw
sound_law P bytes b is a = shows-sound P b a.steps is.acyclic a.shows

-- What is judged.

none-ends : (steps : List BoundStep) → list_any is_end (map Step steps) ≡ false
none-ends [] = refl
none-ends (step ∷ steps) = none-ends steps

one-ends : (steps : List BoundStep) → list_any is_end (map Step steps ++ End ∷ []) ≡ true
one-ends [] = refl
one-ends (step ∷ steps) = one-ends steps

-- before the last line has come it isn't among the lines
at-open : (P : Project) (stage : Stage) (W : TimeWindows) (lines : List BoundLine) → IsAt P stage W lines → is_ended stage ≡ false → list_any is_end lines ≡ false
at-open P stages.Title W lines at h = ap (list_any is_end) at
at-open P stages.Bound W lines at h = ap (list_any is_end) at
at-open P stages.Step W lines at h = ap (list_any is_end) at.lines_are ∙ none-ends at.steps
at-open P (stages.End b) W lines at h = ap (list_any is_end) at.lines_are ∙ none-ends at.steps
at-open P (stages.Ended b) W lines at h = absurd (cc)

-- behind it it is
pub at-ended : (P : Project) (stage : Stage) (W : TimeWindows) (lines : List BoundLine) → IsAt P stage W lines → is_ended stage ≡ true → list_any is_end lines ≡ true
at-ended P stages.Title W lines at h = absurd (cc)
at-ended P stages.Bound W lines at h = absurd (cc)
at-ended P stages.Step W lines at h = absurd (cc)
at-ended P (stages.End b) W lines at h = absurd (cc)
at-ended P (stages.Ended b) W lines at h = ap (list_any is_end) at.lines_are ∙ one-ends at.steps

pub not_both : (x : Bool) → x ≡ true → x ≡ false → ⊥
not_both x t f = cc

at-closed : (P : Project) (stage : Stage) (W : TimeWindows) (lines : List BoundLine) → IsAt P stage W lines → list_any is_end lines ≡ true → is_ended stage ≡ true
at-closed P stages.Title W lines at h = absurd (not_both (list_any is_end lines) h (at-open P stages.Title W lines at refl))
at-closed P stages.Bound W lines at h = absurd (not_both (list_any is_end lines) h (at-open P stages.Bound W lines at refl))
at-closed P stages.Step W lines at h = absurd (not_both (list_any is_end lines) h (at-open P stages.Step W lines at refl))
at-closed P (stages.End b) W lines at h = absurd (not_both (list_any is_end lines) h (at-open P (stages.End b) W lines at refl))
at-closed P (stages.Ended b) W lines at h = refl

module _ (P : Project) (is : IsProject P) (bytes : List ℕ) (reader : ReaderState) (course : Course) (r : Runs P reader course bytes) where
  lines-begin : IsBeginning P r.lines
  lines-begin = at-begins P course.stage course.windows r.lines r.at

  -- lines that may stand there, and a line in hand that shows nothing
  pub runs-unbroken : (n : ℕ) → IsBroken P bytes n → ⊥
  runs-unbroken n h = by (compare r.lines h.fault.before (held reader) h.fault.rest (are-lines P r.lines is lines-begin) (are-lines P h.fault.before is h.fault.begins) (sym r.text ∙ h.fault.cut))
    where
      quiet : r.lines ≡ h.fault.before → held reader ≡ h.fault.rest → IsShown h.fault.before h.fault.rest → ⊥
      quiet same rest (whole l m e) = no_cut (held reader) l m r.no_end (rest ∙ e)
      quiet same rest (too_long long) = let size = ap (λ (xs : List ℕ). length xs) rest in let short = r.short in omega arith
      quiet same rest (behind_end e some) =
          let bare = r.bare (at-closed P course.stage course.windows r.lines r.at (ap (list_any is_end) same ∙ e)) in
          let size = ap (λ (xs : List ℕ). length xs) rest in
          let none = ap (λ (xs : List ℕ). length xs) bare in
          omega arith

      by : Compared r.lines h.fault.before (held reader) h.fault.rest → ⊥
      by (alike same rest) = quiet same rest h.shown
      by (first_longer o) = goes-not P r.lines h.fault.before (held reader) h.fault.rest lines-begin h.fault.none o
      by (second_longer o) = no_cut (held reader) (line_text o.line) (text_of o.more ++ h.fault.rest) r.no_end o.rest

  runs-fault : (n : ℕ) → n ≡ length r.lines + 1 → IsFault P bytes n
  runs-fault n e = record {
    before = r.lines;
    rest = held reader;
    place = e;
    cut = r.text;
    begins = lines-begin;
    none = λ line more same b. no_cut (held reader) (line_text line) more r.no_end same;
  }

  pub runs-refused : is_ended course.stage ≡ false → IsBoundRefusal P bytes course.number
  unfolding runs-fault
  runs-refused open_stage = record {
    fault = runs-fault course.number r.number_is;
    unaccepted = λ b a.
        let same = (accepted-fault P is bytes b course.number a (runs-fault course.number r.number_is)).0 in
        not_both (list_any is_end r.lines) (ap (list_any is_end) (sym same) ∙ one-ends a.steps) (at-open P course.stage course.windows r.lines r.at open_stage);
  }

  pub runs-accepted : (b : ℕ) → course.stage ≡ stages.Ended b → AcceptsBound P bytes b
  runs-accepted b e =
      let own = subst (λ (s : Stage). IsAt P s course.windows r.lines) e r.at in
      let none = r.bare (ap is_ended e) in
      record {
        steps = own.steps;
        text = r.text ∙ ap (λ (xs : List ℕ). text_of r.lines ++ xs) none ∙ append-nil (text_of r.lines) ∙ ap text_of own.lines_are;
        most = own.most;
        shows = own.shows;
      }

  pub runs-fed : IsFed P bytes (Ok tt)
  runs-fed = record { unbroken = (λ ok. runs-unbroken, λ none. refl); broken = λ s. (λ e. absurd (cc), λ b. absurd (runs-unbroken s.line b)) }

same-ok : (b c : ℕ) → ◌≡◌ {A = Result ℕ BoundRefusal} (Ok b) (Ok c) → b ≡ c
same-ok b c e = cc

same-err : {X : Type 0} (x y : BoundRefusal) → ◌≡◌ {A = Result X BoundRefusal} (Err x) (Err y) → x ≡ y
same-err x y e = cc

err-same : {X : Type 0} (x y : BoundRefusal) → x.line ≡ y.line → ◌≡◌ {A = Result X BoundRefusal} (Err x) (Err y)
err-same {X} x y e = ap of e
  where
    of : ℕ → Result X BoundRefusal
    of n = Err (record { line = n })

module _ (P : Project) (is : IsProject P) (bytes : List ℕ) where
  pub accepted-judged : (b : ℕ) → AcceptsBound P bytes b → IsJudgement P bytes (Ok b)
  accepted-judged b a = record {
    accepted = λ c. (λ e. subst (AcceptsBound P bytes) (same-ok b c e) a, λ x. ap (λ (n : ℕ). Ok n) (one-bound P is bytes b c a x));
    refused = λ s. (λ e. absurd (cc), λ x. absurd (x.unaccepted b a));
    sound = λ c x. sound_law P bytes c is x;
  }

  pub refused-judged : (x : BoundRefusal) → IsBoundRefusal P bytes x.line → IsJudgement P bytes (Err x)
  refused-judged x h = record {
    accepted = λ c. (λ e. absurd (cc), λ a. absurd (h.unaccepted c a));
    refused = λ y. (λ e. subst (λ (z : BoundRefusal). IsBoundRefusal P bytes z.line) (same-err x y e) h, λ k. err-same x y (one-line P is bytes x.line y.line h.fault k.fault));
    sound = λ c a. sound_law P bytes c is a;
  }

  pub broken-fed : (x : BoundRefusal) → IsBroken P bytes x.line → IsFed P bytes (Err x)
  broken-fed x h = record {
    unbroken = (λ ok. absurd (cc), λ none. absurd (none x.line h));
    broken = λ y. (λ e. subst (λ (z : BoundRefusal). IsBroken P bytes z.line) (same-err x y e) h, λ k. err-same x y (one-line P is bytes x.line y.line h.fault k.fault));
  }
