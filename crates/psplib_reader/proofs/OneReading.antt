-- A text is one project or has one first refusal, and never both.
use Rattle.std.proofs.Common.{◌≡◌, ℕ, ◌⊎◌, inl, inr, arith, refl, sym, ap, subst, ◌∙◌, List, Result, Ok, Err}
use Rattle.std.specs.Prelude.{IfOk}
use Rattle.rcpsp_model.specs.Project.{Project, IsAcyclic}
use Rattle.rcpsp_model.specs.Chain.{IsLeast, IsOnCycle}
use Rattle.rcpsp_model.proofs.Numbers.{least-one}
use Rattle.psplib_lex.specs.Line.{lines_of}
use Rattle.psplib_layout.specs.declared.content.Content.{Content}
use Rattle.psplib_layout.specs.declared.fault.Fault.{Fault}
use Rattle.psplib_layout.specs.declared.fault.Fault.TheVariants.{Cycle}
use Rattle.psplib_layout.specs.declared.fault.Refusal.{Refusal}
use Rattle.psplib_layout.specs.declared.fault.ReadError.{ReadError}
use Rattle.psplib_layout.specs.declared.fault.ReadError.TheVariants as errors
use Rattle.psplib_layout.specs.Layout.{project_of}
use Rattle.psplib_layout.specs.Text.{HasContent, Reads, IsProjectText, HasCycle, IsFirstRefusal, content_in, end_line, job_line_in, row_line}
use Rattle.psplib_layout.proofs.Limits.{limits_of, project_limits}
use Rattle.psplib_layout.proofs.OneContent.{content_found, content_again, one_content, one_project}
use Rattle.psplib_layout.proofs.JobLines.{job_line_is}
use Rattle.project_net.proofs.FirstFaults.{leads-rises}
use Rattle.psplib_reader.proofs.CycleCases.{acyclic_or_cycle}

-- ---- one or the other

read_as : (text : List ℕ) (content : Content) → HasContent text content → IsAcyclic (project_of content) → Reads text (project_of content)
read_as text content h a = record { content = content; has_content = h; described = refl; acyclic = a }

refused_for : (text : List ℕ) (content : Content) (h : HasContent text content) (job : ℕ) → IsLeast (IsOnCycle (project_of content)) job → HasCycle text (record { fault = Cycle; line = row_line h.layout.precedence.behind content.rows job })
refused_for text content h job lowest = record {
  content = content;
  has_content = h;
  job = job;
  lowest = lowest;
  fault_is = refl;
  line_is = job_line_is (end_line text) text content h job;
}

by_content : (text : List ℕ) (content : Content) → HasContent text content → IsProjectText text ⊎ ((f : Refusal) × IsFirstRefusal text f)
by_content text content h = elim (acyclic_or_cycle (project_of content) (project_limits content (limits_of (lines_of text) content h.layout))) [
  | inl acyclic ↦ inl (project_of content, read_as text content h acyclic)
  | inr cycle ↦ inr (_, inr (refused_for text content h cycle.0 cycle.1))
]

pub read_or_refused : (text : List ℕ) → IsProjectText text ⊎ ((f : Refusal) × IsFirstRefusal text f)
read_or_refused text = go (content_in text) refl
  where
    go : (r : Result Content Refusal) → content_in text ≡ r → IsProjectText text ⊎ ((f : Refusal) × IsFirstRefusal text f)
    go (Ok content) e = by_content text content (content_found text content e)
    go (Err f) e = inr (f, inl e)

-- ---- never both

content_not_refused : (text : List ℕ) (content : Content) (f : Refusal) → HasContent text content → content_in text ≡ Err f → ⊥
content_not_refused text content f h e = let clash : Err f ≡ Ok content = sym e ∙ content_again text content h in cc

acyclic_has_no_cycle : (P : Project) (job : ℕ) → IsAcyclic P → IsOnCycle P job → ⊥
acyclic_has_no_cycle P job a cycle = let up = leads-rises P a cycle in omega arith

-- the project that the text is read as is the one that its content describes
acyclic_content : (text : List ℕ) (P : Project) (content : Content) → Reads text P → HasContent text content → IsAcyclic (project_of content)
acyclic_content text P content r h = subst (λ (c : Content). IsAcyclic (project_of c)) (one_content text r.content content r.has_content h) (subst IsAcyclic (sym r.described) r.acyclic)

pub never_both : (text : List ℕ) (P : Project) (f : Refusal) → Reads text P → IsFirstRefusal text f → ⊥
never_both text P f r (inl refused) = content_not_refused text r.content f r.has_content refused
never_both text P f r (inr cycle) = acyclic_has_no_cycle (project_of cycle.content) cycle.job (acyclic_content text P cycle.content r cycle.has_content) cycle.lowest.attained

-- ---- one refusal

same_error : (text : List ℕ) (f g : Refusal) → content_in text ≡ Err f → content_in text ≡ Err g → f ≡ g
same_error text f g a b = let same : Err f ≡ Err g = sym a ∙ b in cc

same_line : (text : List ℕ) (f g : Refusal) (x : HasCycle text f) (y : HasCycle text g) → x.content ≡ y.content → x.job ≡ y.job → f.line ≡ g.line
same_line text f g x y content job =
    let same : Ok f.line ≡ Ok g.line =
    sym x.line_is
    ∙ ap (λ (c : Content). job_line_in (end_line text) (lines_of text) c.rows x.job) content
    ∙ ap (λ (j : ℕ). job_line_in (end_line text) (lines_of text) y.content.rows j) job
    ∙ y.line_is in
    cc

same_parts : (f g : Refusal) → f.fault ≡ g.fault → f.line ≡ g.line → f ≡ g
same_parts f g fault line =
    ap (λ (x : Fault). (let r : Refusal = record { fault = x; line = f.line } in r)) fault
    ∙ ap (λ (n : ℕ). (let r : Refusal = record { fault = g.fault; line = n } in r)) line

same_cycle : (text : List ℕ) (f g : Refusal) → HasCycle text f → HasCycle text g → f ≡ g
same_cycle text f g x y =
    let content = one_content text x.content y.content x.has_content y.has_content in
    let job = least-one (IsOnCycle (project_of y.content)) x.job y.job (subst (λ (c : Content). IsLeast (IsOnCycle (project_of c)) x.job) content x.lowest) y.lowest in
    same_parts f g (x.fault_is ∙ sym y.fault_is) (same_line text f g x y content job)

pub one_refusal : (text : List ℕ) (f g : Refusal) → IsFirstRefusal text f → IsFirstRefusal text g → f ≡ g
one_refusal text f g (inl a) (inl b) = same_error text f g a b
one_refusal text f g (inl a) (inr y) = absurd (content_not_refused text y.content f y.has_content a)
one_refusal text f g (inr x) (inl b) = absurd (content_not_refused text x.content g x.has_content b)
one_refusal text f g (inr x) (inr y) = same_cycle text f g x y

-- ---- what a reading gives that is right where it isn't for want of memory

abbrev AreFirst : List ℕ → Result Project ReadError → Type 0
AreFirst text r = (f : Refusal) → r ≡ Err (errors.Refused f) → IsFirstRefusal text f

pub read_exactly : (text : List ℕ) (r : Result Project ReadError) → IfOk r (λ p. Reads text p) → AreFirst text r → (P : Project) → Reads text P → (r ≡ Ok P) ⊎ (r ≡ Err errors.NoMemory)
read_exactly text (Ok Q) ok refused P reads = let same = one_project text Q P ok reads in inl (ap Ok same)
read_exactly text (Err errors.NoMemory) ok refused P reads = inr refl
read_exactly text (Err (errors.Refused f)) ok refused P reads = absurd (never_both text P f reads (refused f refl))

pub refused_exactly : (text : List ℕ) (r : Result Project ReadError) → IfOk r (λ p. Reads text p) → AreFirst text r → (f : Refusal) → IsFirstRefusal text f → (r ≡ Err (errors.Refused f)) ⊎ (r ≡ Err errors.NoMemory)
refused_exactly text (Ok P) ok refused f first = absurd (never_both text P f ok first)
refused_exactly text (Err errors.NoMemory) ok refused f first = inr refl
refused_exactly text (Err (errors.Refused g)) ok refused f first = let same = one_refusal text g f (refused g refl) first in inl (ap (λ (h : Refusal). Err (errors.Refused h)) same)
