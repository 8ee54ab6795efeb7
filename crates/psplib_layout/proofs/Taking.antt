-- Words that are taken one after the other, and what they stand for.
use Rattle.std.proofs.Common.{◌≡◌, ℕ, ◌≤◌, Bool, true, false, cond, ltb, List, [], ◌∷◌, ◌++◌, length, Option, Some, None, Result, Ok, refl, sym, ap, subst, ◌∙◌, arith}
use Rattle.std.proofs.lemmas.Bool.{ltb-false, le-ltb}
use Rattle.psplib_lex.specs.Line.{Line}
use Rattle.psplib_layout.specs.declared.fault.Refusal.{Refusal}
use Rattle.psplib_layout.specs.declared.rule.Rule.{Rule}
use Rattle.psplib_lex.specs.Number.{word_value}
use Rattle.psplib_layout.specs.FirstFault.{Takes}
use Rattle.psplib_layout.proofs.Steps.{bind_ok, ok_is}
use Rattle.psplib_layout.specs.Rule.{Keeps, lesser}
use Rattle.psplib_layout.specs.Wanted.{Wanted, give, number, Stands}
use Rattle.psplib_layout.specs.Reading.{◌>>=◌, Word, next_word, judged, number_in, read_wanted, line_end, refusal}
use Rattle.psplib_layout.specs.Part.{Spells, words_in, HaveWords}
use Rattle.std.proofs.lemmas.List.Concat.{flat_map-cons}

abbrev pub kept_as : Rule → ℕ → ℕ → Result ℕ Refusal
kept_as rule line n = judged rule line (Some n)

judged_keeps : (rule : Rule) (line n m : ℕ) → kept_as rule line n ≡ Ok m → (n ≡ m) × Keeps rule m
judged_keeps rule line n m e = go (ltb n rule.least) (ltb rule.most n) refl refl e
  where
    go : (low high : Bool) → ltb n rule.least ≡ low → ltb rule.most n ≡ high → cond low (refusal (lesser rule n) line) (cond high (refusal rule.above line) (Ok n)) ≡ Ok m → (n ≡ m) × Keeps rule m
    go true high a b f = absurd cc
    go false true a b f = absurd cc
    go false false a b f =
        let same : n ≡ m = cc in
        (same, rw (← same) (ltb-false _ _ a, ltb-false _ _ b))

pub keeps_judged : (rule : Rule) (line n : ℕ) → Keeps rule n → kept_as rule line n ≡ Ok n
keeps_judged rule line n k = rw (le-ltb n rule.least k.0, le-ltb rule.most n k.1) refl

pub judged_some : (rule : Rule) (line m : ℕ) (o : Option ℕ) → judged rule line o ≡ Ok m → (o ≡ Some m) × Keeps rule m
judged_some rule line m None e = absurd cc
judged_some rule line m (Some n) e = let k = judged_keeps rule line n m e in (ap Some k.0, k.1)

-- What is read stands for what was wanted.
pub record Found {A : Type 0} (end : ℕ) (w : Wanted A) (lines : List Line) (y : A) (rest : List Line) : Type 0 where
  pub numbers : List ℕ
  pub words : List (List ℕ)
  pub stands : Stands w numbers y
  pub spelled : Spells words numbers
  pub taken : Takes end lines words rest

pub wanted_found : {A : Type 0} (end : ℕ) (w : Wanted A) (lines : List Line) (y : A) (rest : List Line) → read_wanted end w lines ≡ Ok (y, rest) → Found end w lines y rest
unfolding number_in
wanted_found {A = A} end (give x) lines y rest e =
    let both = ok_is (x, lines) (y, rest) e in
    let same : x ≡ y = ap (λ (p : A × List Line). p.0) both in
    let left : lines ≡ rest = ap (λ (p : A × List Line). p.1) both in
    record { numbers = []; words = []; stands = same; spelled = refl; taken = left }
wanted_found end (number rule next) lines y rest e =
    let a = bind_ok (number_in end rule lines) (λ x. read_wanted end (next x.0) x.1) (y, rest) e in
    let b = bind_ok (next_word end lines) (λ w. judged rule w.0.line (word_value w.0.bytes) >>= λ n. Ok (n, w.1)) a.0 a.1 in
    let c = bind_ok (judged rule b.0.0.line (word_value b.0.0.bytes)) (λ n. Ok (n, b.0.1)) a.0 b.2 in
    let k = judged_some rule b.0.0.line c.0 (word_value b.0.0.bytes) c.1 in
    let n-is : c.0 ≡ a.0.0 = cc in
    let rest-is : b.0.1 ≡ a.0.1 = cc in
    let more = wanted_found end (next a.0.0) a.0.1 y rest a.2 in
    record {
      numbers = a.0.0 ∷ more.numbers;
      words = b.0.0.bytes ∷ more.words;
      stands = (rw (← n-is) k.1, more.stands);
      spelled = rw (k.0, n-is, more.spelled) refl;
      taken = (b.0.0.line, a.0.1, rw (← rest-is) b.1, more.taken);
    }

-- What stands for what is wanted is read.
pub wanted_again : {A : Type 0} (end : ℕ) (w : Wanted A) (lines rest : List Line) (numbers : List ℕ) (words : List (List ℕ)) (y : A) → Stands w numbers y → Spells words numbers → Takes end lines words rest → read_wanted end w lines ≡ Ok (y, rest)
unfolding number_in
wanted_again {A = A} end (give x) lines rest [] [] y st sp t = rw (st, t) refl
wanted_again end (give x) lines rest [] (u ∷ us) y st sp t = absurd cc
wanted_again end (give x) lines rest (n ∷ ns) us y st sp t = absurd st
wanted_again end (number rule next) lines rest [] us y st sp t = absurd st
wanted_again end (number rule next) lines rest (n ∷ ns) [] y st sp t = absurd cc
wanted_again end (number rule next) lines rest (n ∷ ns) (u ∷ us) y st sp t =
    let first : word_value u ≡ Some n = cc in
    let later : Spells us ns = cc in
    rw (t.2, first, keeps_judged rule t.0 n st.0) (wanted_again end (next n) t.1 rest ns us y st.1 later t.3)

-- ---- the lines of the words that were taken

-- the lines that were taken whole, behind the one in hand
pub record Front (lines : List Line) (words taken : List (List ℕ)) (more : List Line) : Type 0 where
  pub front : List Line
  pub lines_are : lines ≡ front ++ more
  pub words_are : words ++ words_in front ≡ taken

abbrev pub line : ℕ → List (List ℕ) → Line
line n ws = record { number = n; words = ws }

abbrev FrontOf : ℕ → List Line → Type 0
FrontOf end ls = (n : ℕ) (ws us : List (List ℕ)) (rest more : List Line) → Takes end (line n ws ∷ ls) us rest → line_end rest ≡ Ok more → Front ls ws us more

-- no word is left of the line in hand
front_next : (end : ℕ) (ls : List Line) → ((l : Line) (later : List Line) → ls ≡ l ∷ later → FrontOf end later) → (n : ℕ) (us : List (List ℕ)) (rest more : List Line) → Takes end (line n [] ∷ ls) us rest → line_end rest ≡ Ok more → Front ls [] us more
front_next end ls later n [] rest more t e =
    let whole : ls ≡ more = ok_is ls more (rw (← t) at e) in
    record { front = []; lines_are = whole; words_are = refl }
front_next end [] later n (u ∷ us) rest more t e = absurd cc
front_next end (l ∷ ls) later n (u ∷ us) rest more t e =
    let f = later l ls refl l.number l.words (u ∷ us) rest more t e in
    record { front = l ∷ f.front; lines_are = ap (λ (xs : List Line). l ∷ xs) f.lines_are; words_are = rw flat_map-cons f.words_are }

front_here : (end : ℕ) (ls : List Line) → ((l : Line) (later : List Line) → ls ≡ l ∷ later → FrontOf end later) → FrontOf end ls
front_here end ls later n [] us rest more t e = front_next end ls later n us rest more t e
front_here end ls later n (w ∷ ws) [] rest more t e = absurd (let f : line_end (line n (w ∷ ws) ∷ ls) ≡ Ok more = ap line_end t ∙ e in cc)
front_here end ls later n (w ∷ ws) (u ∷ us) rest more t e =
    let both = ok_is (record { line = n; bytes = w }, line n ws ∷ ls) (record { line = t.0; bytes = u }, t.1) t.2 in
    let word : w ≡ u = ap (λ (p : Word × List Line). p.0.bytes) both in
    let after : line n ws ∷ ls ≡ t.1 = ap (λ (p : Word × List Line). p.1) both in
    let f = front_here end ls later n ws us rest more (subst (λ (ls : List Line). Takes end ls us rest) (sym after) t.3) e in
    record { front = f.front; lines_are = f.lines_are; words_are = ap (λ (x : List ℕ). x ∷ ws ++ words_in f.front) word ∙ ap (λ (xs : List (List ℕ)). u ∷ xs) f.words_are }

pub front_of : (end : ℕ) (ls : List Line) → FrontOf end ls
front_of end [] = front_here end [] (λ l later e. absurd cc)
front_of end (k ∷ ks) = front_here end (k ∷ ks) (λ l later e. let same : ks ≡ later = cc in subst (FrontOf end) same (front_of end ks))

-- ---- and back: the words of whole lines are taken

pub record Behind (end : ℕ) (lines : List Line) (words : List (List ℕ)) (more : List Line) : Type 0 where
  pub rest : List Line
  pub taken : Takes end lines words rest
  pub ended : line_end rest ≡ Ok more

behind_words : (end n : ℕ) (ws us : List (List ℕ)) (ls more : List Line) → Behind end (line n [] ∷ ls) us more → Behind end (line n ws ∷ ls) (ws ++ us) more
behind_words end n [] us ls more b = b
behind_words end n (w ∷ ws) us ls more b =
    let c = behind_words end n ws us ls more b in
    record { rest = c.rest; taken = (n, line n ws ∷ ls, refl, c.taken); ended = c.ended }

behind_line : (end n : ℕ) (l : Line) (us : List (List ℕ)) (ls more : List Line) → 1 ≤ length l.words → Behind end (l ∷ ls) (l.words ++ us) more → Behind end (line n [] ∷ l ∷ ls) (l.words ++ us) more
behind_line end n l us ls more some b = go l.words refl some b
  where
    go : (ws : List (List ℕ)) → l.words ≡ ws → 1 ≤ length ws → Behind end (line l.number ws ∷ ls) (ws ++ us) more → Behind end (line n [] ∷ line l.number ws ∷ ls) (ws ++ us) more
    go [] e h b = absurd (omega arith)
    go (w ∷ ws) e h b = record { rest = b.rest; taken = b.taken; ended = b.ended }

pub behind : (end : ℕ) (l : Line) (front more : List Line) → HaveWords front → Behind end (l ∷ front ++ more) (l.words ++ words_in front) more
behind end l [] more h = behind_words end l.number l.words [] more more (record { rest = line l.number [] ∷ more; taken = refl; ended = refl })
behind end l (k ∷ ks) more h =
    rw flat_map-cons (behind_words end l.number l.words (k.words ++ words_in ks) (k ∷ ks ++ more) more (behind_line end l.number k (words_in ks) (ks ++ more) more h.0 (behind end k ks more h.1)))
