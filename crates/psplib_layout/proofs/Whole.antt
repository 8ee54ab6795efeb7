-- A part is read exactly where the lines have one.
use Rattle.std.proofs.Common.{◌≡◌, ℕ, ◌≤◌, List, [], ◌∷◌, ◌++◌, length, map, Ok, refl, sym, ap, subst, ◌∙◌, arith}
use Rattle.std.proofs.lemmas.List.Concat.{flat_map-cons}
use Rattle.psplib_lex.specs.Line.{Line}
use Rattle.psplib_lex.specs.Number.{word_value}
use Rattle.psplib_layout.specs.Wanted.{Wanted, Stands}
use Rattle.psplib_layout.specs.Reading.{◌>>=◌, read_wanted, line_end}
use Rattle.psplib_layout.specs.Part.{HasPart, Spells, words_in, part_in, HaveWords}
use Rattle.psplib_layout.specs.FirstFault.{Takes}
use Rattle.psplib_layout.proofs.Steps.{bind_ok, ok_is}
use Rattle.psplib_layout.proofs.Taking.{wanted_found, wanted_again, front_of, behind}

-- the lines that were taken whole
record Taken (lines : List Line) (words : List (List ℕ)) (more : List Line) : Type 0 where
  part : List Line
  lines_are : lines ≡ part ++ more
  words_are : words_in part ≡ words

taken_of : (end : ℕ) (lines : List Line) (words : List (List ℕ)) (rest more : List Line) → Takes end lines words rest → line_end rest ≡ Ok more → Taken lines words more
taken_of end [] [] rest more t e =
    let none : [] ≡ more = ok_is [] more (ap line_end t ∙ e) in
    record { part = []; lines_are = none; words_are = refl }
taken_of end [] (w ∷ ws) rest more t e = absurd (let f = t.2 in cc)
taken_of end (l ∷ ls) words rest more t e =
    let f = front_of end ls l.number l.words words rest more t e in
    record { part = l ∷ f.front; lines_are = ap (λ (xs : List Line). l ∷ xs) f.lines_are; words_are = flat_map-cons (λ (k : Line). k.words) l f.front ∙ f.words_are }

-- what was read of a part
pub record PartFound {A : Type 0} (wanted : Wanted A) (lines : List Line) (x : A) (rest : List Line) : Type 0 where
  pub numbers : List ℕ
  pub part : HasPart numbers lines rest
  pub stands : Stands wanted numbers x

pub part_found : {A : Type 0} (end : ℕ) (wanted : Wanted A) (lines : List Line) (x : A) (rest : List Line) → part_in end wanted lines ≡ Ok (x, rest) → PartFound wanted lines x rest
unfolding part_in
part_found {A} end wanted lines x rest e =
    let a = bind_ok (read_wanted end wanted lines) (λ y. line_end y.1 >>= λ more. Ok (y.0, more)) (x, rest) e in
    let b = bind_ok (line_end a.0.1) (λ more. Ok (a.0.0, more)) (x, rest) a.2 in
    let both = ok_is (a.0.0, b.0) (x, rest) b.2 in
    let f = wanted_found end wanted lines a.0.0 a.0.1 a.1 in
    let t = taken_of end lines f.words a.0.1 b.0 f.taken b.1 in
    let spelled : Spells (words_in t.part) f.numbers = ap (map word_value) t.words_are ∙ f.spelled in
    let found : PartFound wanted lines a.0.0 b.0 = record { numbers = f.numbers; part = record { part = t.part; lines_are = t.lines_are; spelled = spelled }; stands = f.stands } in
    subst (λ (y : A × List Line). PartFound wanted lines y.0 y.1) both found

words_front : (xs ys : List Line) → HaveWords (xs ++ ys) → HaveWords xs
words_front [] ys h = tt
words_front (x ∷ xs) ys h = (h.0, words_front xs ys h.1)

pub words_back : (xs ys : List Line) → HaveWords (xs ++ ys) → HaveWords ys
words_back [] ys h = h
words_back (x ∷ xs) ys h = words_back xs ys h.1

both_read : {A : Type 0} (end : ℕ) (wanted : Wanted A) (lines mid rest : List Line) (x : A) → read_wanted end wanted lines ≡ Ok (x, mid) → line_end mid ≡ Ok rest → part_in end wanted lines ≡ Ok (x, rest)
unfolding part_in
both_read end wanted lines mid rest x e f = rw (e, f) refl

-- at least one number is wanted, so the part has a line
pub part_again : {A : Type 0} (end : ℕ) (wanted : Wanted A) (lines : List Line) (x : A) (rest : List Line) (numbers : List ℕ) → 1 ≤ length numbers → HaveWords lines → HasPart numbers lines rest → Stands wanted numbers x → part_in end wanted lines ≡ Ok (x, rest)
part_again {A} end wanted lines x rest numbers some words p stands = go p.part numbers some p.lines_are p.spelled stands
  where
    go : (part : List Line) (ns : List ℕ) → 1 ≤ length ns → lines ≡ part ++ rest → Spells (words_in part) ns → Stands wanted ns x → part_in end wanted lines ≡ Ok (x, rest)
    go part [] h e s st = absurd (omega arith)
    go [] (n ∷ ns) h e s st = absurd cc
    go (k ∷ ks) (n ∷ ns) h e s st =
        let w = words_front (k ∷ ks) rest (subst HaveWords e words) in
        let b = behind end k ks rest w.1 in
        let spelled : Spells (k.words ++ words_in ks) (n ∷ ns) = ap (map word_value) (sym (flat_map-cons (λ (j : Line). j.words) k ks)) ∙ s in
        let read = wanted_again end wanted (k ∷ ks ++ rest) b.rest (n ∷ ns) (k.words ++ words_in ks) x st spelled b.taken in
        rw e (both_read end wanted (k ∷ ks ++ rest) b.rest rest x read b.ended)
