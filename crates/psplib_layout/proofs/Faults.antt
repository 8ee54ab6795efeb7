-- A reading fails with the first fault.
use Rattle.std.proofs.Common.{◌≡◌, ℕ, List, [], ◌∷◌, Some, Result, Ok, Err, refl, ap, subst, ◌∙◌}
use Rattle.psplib_lex.specs.Line.{Line}
use Rattle.psplib_layout.specs.declared.fault.Refusal.{Refusal}
use Rattle.psplib_layout.specs.declared.rule.Rule.{Rule}
use Rattle.psplib_lex.specs.Number.{word_value}
use Rattle.psplib_layout.specs.Rule.{Keeps}
use Rattle.psplib_layout.specs.Wanted.{Wanted, give, number}
use Rattle.psplib_layout.specs.Reading.{◌>>=◌, next_word, judged, number_in, read_wanted}
use Rattle.psplib_layout.specs.Part.{Spells}
use Rattle.psplib_layout.specs.FirstFault.{Takes, Leaves, FirstFault}
use Rattle.psplib_layout.proofs.Steps.{bind_ok}
use Rattle.psplib_layout.proofs.Taking.{judged_some, keeps_judged}

-- what number_in read
pub record Taken (end : ℕ) (rule : Rule) (lines : List Line) (x : ℕ × List Line) : Type 0 where
  pub line : ℕ
  pub word : List ℕ
  pub next : next_word end lines ≡ Ok (record { line = line; bytes = word }, x.1)
  pub is : word_value word ≡ Some x.0
  pub keeps : Keeps rule x.0

pub number_taken : (end : ℕ) (rule : Rule) (lines : List Line) (x : ℕ × List Line) → number_in end rule lines ≡ Ok x → Taken end rule lines x
unfolding number_in
number_taken end rule lines x e =
    let b = bind_ok (next_word end lines) (λ w. judged rule w.0.line (word_value w.0.bytes) >>= λ n. Ok (n, w.1)) x e in
    let c = bind_ok (judged rule b.0.0.line (word_value b.0.0.bytes)) (λ n. Ok (n, b.0.1)) x b.2 in
    let k = judged_some rule b.0.0.line c.0 (word_value b.0.0.bytes) c.1 in
    let n-is : c.0 ≡ x.0 = cc in
    let rest-is : b.0.1 ≡ x.1 = cc in
    record { line = b.0.0.line; word = b.0.0.bytes; next = b.1 ∙ ap (λ (ls : List Line). Ok (b.0.0, ls)) rest-is; is = k.0 ∙ ap Some n-is; keeps = subst (Keeps rule) n-is k.1 }

pub fault_found : {A : Type 0} (end : ℕ) (w : Wanted A) (lines : List Line) (fault : Refusal) → read_wanted end w lines ≡ Err fault → FirstFault end w lines fault
fault_found end (give x) lines fault e = absurd cc
fault_found {A = A} end (number rule next) lines fault e = go (number_in end rule lines) refl (λ n ls h. fault_found end (next n) ls fault h) e
  where
    go : (r : Result (ℕ × List Line) Refusal) → number_in end rule lines ≡ r → ((n : ℕ) (ls : List Line) → read_wanted end (next n) ls ≡ Err fault → FirstFault end (next n) ls fault) → (r >>= λ x. read_wanted end (next x.0) x.1) ≡ Err fault → FirstFault {A = A} end (number rule next) lines fault
    go (Err f) h later k =
        let same : f ≡ fault = cc in
        record { numbers = []; words = []; rule = rule; next = next; before = refl; spelled = refl; left = lines; taken = refl; breaks = subst (λ (g : Refusal). number_in end rule lines ≡ Err g) same h }
    go (Ok x) h later k =
        let t = number_taken end rule lines x h in
        let f = later x.0 x.1 k in
        record {
          numbers = x.0 ∷ f.numbers;
          words = t.word ∷ f.words;
          rule = f.rule;
          next = f.next;
          before = (t.keeps, f.before);
          spelled = rw (t.is, f.spelled) refl;
          left = f.left;
          taken = (t.line, x.1, t.next, f.taken);
          breaks = f.breaks;
        }

fault_after : {A : Type 0} (end : ℕ) (w later : Wanted A) (lines left : List Line) (numbers : List ℕ) (words : List (List ℕ)) (fault : Refusal) → Leaves w numbers later → Spells words numbers → Takes end lines words left → read_wanted end later left ≡ Err fault → read_wanted end w lines ≡ Err fault
unfolding number_in
fault_after {A = A} end w later lines left [] [] fault l s t e = rw (l, t) e
fault_after end w later lines left [] (u ∷ us) fault l s t e = absurd cc
fault_after end w later lines left (n ∷ ns) [] fault l s t e = absurd cc
fault_after end (give x) later lines left (n ∷ ns) (u ∷ us) fault l s t e = absurd l
fault_after end (number rule next) later lines left (n ∷ ns) (u ∷ us) fault l s t e =
    let first : word_value u ≡ Some n = cc in
    let others : Spells us ns = cc in
    rw (t.2, first, keeps_judged rule t.0 n l.0) (fault_after end (next n) later t.1 left ns us fault l.1 others t.3 e)

pub fault_again : {A : Type 0} (end : ℕ) (w : Wanted A) (lines : List Line) (fault : Refusal) → FirstFault end w lines fault → read_wanted end w lines ≡ Err fault
fault_again end w lines fault f =
    let here : read_wanted end (number f.rule f.next) f.left ≡ Err fault = rw f.breaks refl in
    fault_after end w (number f.rule f.next) lines f.left f.numbers f.words fault f.before f.spelled f.taken here
