-- The content of a text is read exactly where it has one, and there is one alone.
use Rattle.std.proofs.Common.{◌≡◌, ℕ, ◌≤◌, ◌<◌, Bool, true, false, cond, ltb, List, length, Ok, Err, sym, ap, ◌∙◌, refl}
use Rattle.std.proofs.lemmas.Bool.{ltb-false, le-ltb, lt-ltb}
use Rattle.std.proofs.lemmas.List.Elements.{recursion_from_All}
use Rattle.rcpsp_model.specs.Project.{Project}
use Rattle.psplib_lex.specs.declared.lexer.TheConstants.{MOST_BYTES}
use Rattle.psplib_lex.specs.Line.{Line, lines_of}
use Rattle.psplib_lex.proofs.Kept.{have_words}
use Rattle.psplib_layout.specs.declared.fault.Fault.TheVariants.{TextTooLong}
use Rattle.psplib_layout.specs.declared.fault.Refusal.{Refusal}
use Rattle.psplib_layout.specs.declared.fault.ReadError.{ReadError}
use Rattle.psplib_layout.specs.declared.fault.ReadError.TheVariants as errors
use Rattle.psplib_layout.specs.Place.{IsRefused}
use Rattle.psplib_layout.specs.Reading.{refusal}
use Rattle.psplib_layout.specs.Part.{HaveWords}
use Rattle.psplib_layout.specs.Layout.{Content, layout_in}
use Rattle.psplib_layout.specs.Text.{HasContent, Reads, content_in, end_line, IsRefusedAsLong}
use Rattle.psplib_layout.proofs.Steps.{ok_is}
use Rattle.psplib_layout.proofs.PartsRead.{layout_found, layout_again}

pub lines_have_words : (text : List ℕ) → HaveWords (lines_of text)
lines_have_words text = recursion_from_All (λ (line : Line). 1 ≤ length line.words) (lines_of text) (have_words text)

pub content_found : (text : List ℕ) (content : Content) → content_in text ≡ Ok content → HasContent text content
unfolding content_in
content_found text content e = go (ltb MOST_BYTES (length text)) refl e
  where
    go : (long : Bool) → ltb MOST_BYTES (length text) ≡ long → cond long (refusal TextTooLong 0) (layout_in (end_line text) (lines_of text)) ≡ Ok content → HasContent text content
    go true l f = absurd cc
    go false l f = record { few_bytes = ltb-false _ _ l; layout = layout_found (end_line text) (lines_of text) content f }

pub content_again : (text : List ℕ) (content : Content) → HasContent text content → content_in text ≡ Ok content
unfolding content_in
content_again text content h = rw (le-ltb MOST_BYTES (length text) h.few_bytes) (layout_again (end_line text) (lines_of text) content (lines_have_words text) h.layout)

pub one_content : (text : List ℕ) (a b : Content) → HasContent text a → HasContent text b → a ≡ b
one_content text a b h k = ok_is a b (sym (content_again text a h) ∙ content_again text b k)

pub one_project : (text : List ℕ) (P Q : Project) → Reads text P → Reads text Q → P ≡ Q
one_project text P Q h k =
    let same = one_content text h.content k.content h.has_content k.has_content in
    cc

pub long_text : (text : List ℕ) → MOST_BYTES < length text → content_in text ≡ refusal TextTooLong 0
unfolding content_in
long_text text h = rw (lt-ltb MOST_BYTES (length text) h) refl

pub short_text : (text : List ℕ) (lines : List Line) (end : ℕ) → length text ≤ MOST_BYTES → lines ≡ lines_of text → end ≡ end_line text → layout_in end lines ≡ content_in text
unfolding content_in
short_text text lines end few l e = rw (le-ltb MOST_BYTES (length text) few, l, e) refl

pub refused_as_long : (text : List ℕ) (e : ReadError) → IsRefusedAsLong text e → IsRefused e (content_in text)
refused_as_long text errors.NoMemory h = tt
refused_as_long text (errors.Refused f) h = long_text text h.0 ∙ ap (λ (g : Refusal). Err g) (sym h.1)
