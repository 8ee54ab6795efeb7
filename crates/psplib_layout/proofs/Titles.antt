-- Lines that are read one by one.
use Rattle.std.proofs.Common.{◌≡◌, ℕ, Bool, true, false, cond, List, [], ◌∷◌, ◌++◌, Option, Some, None, Ok, refl, ap, subst, ◌∙◌}
use Rattle.psplib_lex.specs.Line.{Line}
use Rattle.psplib_lex.specs.Number.{word_value}
use Rattle.psplib_layout.specs.declared.rule.Rule.{Rule}
use Rattle.psplib_layout.specs.Rule.{Keeps}
use Rattle.psplib_layout.specs.declared.fault.Fault.TheVariants.{MissingPart}
use Rattle.psplib_layout.specs.Reading.{◌>>=◌, refusal}
use Rattle.psplib_layout.specs.Title.{has_title, header_value, valued, titled, keyed, has_colon, colon_line, skipped_to, any_line, no_more}
use Rattle.psplib_layout.specs.Header.{HasTitle, NoneHasTitle, HasValue, HasColon}
use Rattle.psplib_layout.proofs.Steps.{bind_ok, ok_is}
use Rattle.psplib_layout.proofs.Taking.{judged_some, keeps_judged}

pub record TitledFound (key : List ℕ) (lines : List Line) (x : Line × List Line) : Type 0 where
  pub lines_are : lines ≡ x.0 ∷ x.1
  pub titled : HasTitle key x.0

pub titled_found : (end : ℕ) (key : List ℕ) (lines : List Line) (x : Line × List Line) → titled end key lines ≡ Ok x → TitledFound key lines x
titled_found end key [] x e = absurd cc
titled_found end key (l ∷ ls) x e = go (has_title key l) refl e
  where
    go : (t : Bool) → has_title key l ≡ t → cond t (Ok (l, ls)) (refusal MissingPart l.number) ≡ Ok x → TitledFound key (l ∷ ls) x
    go true t f =
        let found : TitledFound key (l ∷ ls) (l, ls) = record { lines_are = refl; titled = t } in
        subst (TitledFound key (l ∷ ls)) (ok_is (l, ls) x f) found
    go false t f = absurd cc

pub titled_again : (end : ℕ) (key : List ℕ) (line : Line) (rest : List Line) → HasTitle key line → titled end key (line ∷ rest) ≡ Ok (line, rest)
titled_again end key line rest h = rw h refl

record ValuedFound (rule : Rule) (value : Option (Option (List ℕ))) (n : ℕ) : Type 0 where
  word : List ℕ
  is : value ≡ Some (Some word)
  number : word_value word ≡ Some n
  keeps : Keeps rule n

valued_found : (rule : Rule) (line : ℕ) (value : Option (Option (List ℕ))) (n : ℕ) → valued rule line value ≡ Ok n → ValuedFound rule value n
valued_found rule line None n e = absurd cc
valued_found rule line (Some None) n e = absurd cc
valued_found rule line (Some (Some word)) n e =
    let j = judged_some rule line n (word_value word) e in
    record { word = word; is = refl; number = j.0; keeps = j.1 }

-- a header line was read
pub record KeyedFound (key : List ℕ) (rule : Rule) (lines : List Line) (x : ℕ × List Line) : Type 0 where
  pub line : Line
  pub lines_are : lines ≡ line ∷ x.1
  pub value : HasValue key line x.0
  pub keeps : Keeps rule x.0

pub keyed_found : (end : ℕ) (key : List ℕ) (rule : Rule) (lines : List Line) (x : ℕ × List Line) → keyed end key rule lines ≡ Ok x → KeyedFound key rule lines x
unfolding keyed
keyed_found end key rule lines x e =
    let a = bind_ok (titled end key lines) (λ l. valued rule l.0.number (header_value l.0.words) >>= λ n. Ok (n, l.1)) x e in
    let b = bind_ok (valued rule a.0.0.number (header_value a.0.0.words)) (λ n. Ok (n, a.0.1)) x a.2 in
    let t = titled_found end key lines a.0 a.1 in
    let v = valued_found rule a.0.0.number (header_value a.0.0.words) b.0 b.1 in
    let found : KeyedFound key rule lines (b.0, a.0.1) = record { line = a.0.0; lines_are = t.lines_are; value = record { titled = t.titled; word = v.word; value = v.is; number = v.number }; keeps = v.keeps } in
    subst (KeyedFound key rule lines) (ok_is (b.0, a.0.1) x b.2) found

pub keyed_again : (end : ℕ) (key : List ℕ) (rule : Rule) (line : Line) (rest : List Line) (n : ℕ) → HasValue key line n → Keeps rule n → keyed end key rule (line ∷ rest) ≡ Ok (n, rest)
unfolding keyed
keyed_again end key rule line rest n v k = rw (v.titled, v.value, v.number, keeps_judged rule line.number n k) refl

pub record ColonFound (key : List ℕ) (lines rest : List Line) : Type 0 where
  pub line : Line
  pub lines_are : lines ≡ line ∷ rest
  pub colon : HasColon key line

record HasColonFound (value : Option (Option (List ℕ))) (more rest : List Line) : Type 0 where
  behind : Option (List ℕ)
  is : value ≡ Some behind
  same : more ≡ rest

has_colon_found : (line : ℕ) (value : Option (Option (List ℕ))) (more rest : List Line) → has_colon line value more ≡ Ok rest → HasColonFound value more rest
has_colon_found line None more rest e = absurd cc
has_colon_found line (Some behind) more rest e = record { behind = behind; is = refl; same = ok_is more rest e }

pub colon_found : (end : ℕ) (key : List ℕ) (lines rest : List Line) → colon_line end key lines ≡ Ok rest → ColonFound key lines rest
unfolding colon_line
colon_found end key lines rest e =
    let a = bind_ok (titled end key lines) (λ l. has_colon l.0.number (header_value l.0.words) l.1) rest e in
    let t = titled_found end key lines a.0 a.1 in
    let c = has_colon_found a.0.0.number (header_value a.0.0.words) a.0.1 rest a.2 in
    record { line = a.0.0; lines_are = t.lines_are ∙ ap (λ (ls : List Line). a.0.0 ∷ ls) c.same; colon = record { titled = t.titled; behind = c.behind; colon = c.is } }

pub colon_again : (end : ℕ) (key : List ℕ) (line : Line) (rest : List Line) → HasColon key line → colon_line end key (line ∷ rest) ≡ Ok rest
unfolding colon_line
colon_again end key line rest h = rw (h.titled, h.colon) refl

-- the lines up to the first that has the title were passed over
pub record SkippedFound (key : List ℕ) (lines rest : List Line) : Type 0 where
  pub unread : List Line
  pub title : Line
  pub more : List Line
  pub lines_are : lines ≡ unread ++ (title ∷ more)
  pub rest_is : rest ≡ title ∷ more
  pub none : NoneHasTitle key unread
  pub titled : HasTitle key title

pub skipped_found : (end : ℕ) (key : List ℕ) (lines rest : List Line) → skipped_to end key lines ≡ Ok rest → SkippedFound key lines rest
skipped_found end key [] rest e = absurd cc
skipped_found end key (l ∷ ls) rest e = go (has_title key l) refl (skipped_found end key ls rest) e
  where
    go : (t : Bool) → has_title key l ≡ t → (skipped_to end key ls ≡ Ok rest → SkippedFound key ls rest) → cond t (Ok (l ∷ ls)) (skipped_to end key ls) ≡ Ok rest → SkippedFound key (l ∷ ls) rest
    go true t later f =
        let same : l ∷ ls ≡ rest = ok_is (l ∷ ls) rest f in
        subst (SkippedFound key (l ∷ ls)) same (record { unread = []; title = l; more = ls; lines_are = refl; rest_is = refl; none = tt; titled = t })
    go false t later f =
        let s = later f in
        record { unread = l ∷ s.unread; title = s.title; more = s.more; lines_are = ap (λ (xs : List Line). l ∷ xs) s.lines_are; rest_is = s.rest_is; none = (t, s.none); titled = s.titled }

pub skipped_again : (end : ℕ) (key : List ℕ) (unread : List Line) (title : Line) (more : List Line) → NoneHasTitle key unread → HasTitle key title → skipped_to end key (unread ++ (title ∷ more)) ≡ Ok (title ∷ more)
skipped_again end key [] title more n h = rw h refl
skipped_again end key (l ∷ ls) title more n h = rw n.0 (skipped_again end key ls title more n.1 h)

pub record AnyFound (lines rest : List Line) : Type 0 where
  pub line : Line
  pub lines_are : lines ≡ line ∷ rest

pub any_found : (end : ℕ) (lines rest : List Line) → any_line end lines ≡ Ok rest → AnyFound lines rest
any_found end [] rest e = absurd cc
any_found end (l ∷ ls) rest e = record { line = l; lines_are = ap (λ (xs : List Line). l ∷ xs) (ok_is ls rest e) }

pub nothing_left : (lines more : List Line) → no_more lines ≡ Ok more → lines ≡ []
nothing_left [] more e = refl
nothing_left (l ∷ ls) more e = absurd cc
