-- A text whose project has a cycle is refused for it.
use Rattle.std.proofs.Common.{◌≡◌, ℕ, ◌≤◌, inl, List, length, Result, Ok, Err, refl, sym, ap, subst, ◌∙◌, arith}
use Rattle.std.specs.Prelude.{IfOk}
use Rattle.psplib_lex.specs.declared.lexer.TheConstants.{MOST_BYTES}
use Rattle.psplib_lex.specs.Line.{Line, lines_of}
use Rattle.rcpsp_model.specs.Project.{Project, IsAcyclic}
use Rattle.rcpsp_model.specs.Chain.{IsLeast, IsOnCycle}
use Rattle.psplib_layout.specs.declared.content.Content.{Content}
use Rattle.psplib_layout.specs.declared.fault.Fault.TheVariants.{Cycle}
use Rattle.psplib_layout.specs.declared.fault.Refusal.{Refusal}
use Rattle.psplib_layout.specs.declared.fault.ReadError.{ReadError}
use Rattle.psplib_layout.specs.declared.fault.ReadError.TheVariants as errors
use Rattle.psplib_layout.specs.Place.{IsRefused}
use Rattle.psplib_layout.specs.Layout.{IsWithinContentLimits, layout_in, project_of as described}
use Rattle.psplib_layout.specs.Text.{HasContent, Reads, HasCycle, IsFirstRefusal, content_in, end_line, job_line_in, row_line}
use Rattle.psplib_layout.proofs.Limits.{project_limits}
use Rattle.psplib_layout.proofs.OneContent.{content_found, short_text}
use Rattle.psplib_layout.proofs.JobLines.{job_line_is}
use Rattle.project_net.specs.declared.draft.Draft.{Draft}
use Rattle.project_net.specs.declared.draft.BuildRefusal.{BuildRefusal}
use Rattle.project_net.specs.declared.draft.BuildRefusal.TheVariants as faults
use Rattle.project_net.specs.Draft.{project_of}
use Rattle.project_net.specs.Refusal.{IsRefusal, IsSound}
use Rattle.project_net.proofs.Cycles.{leads-from-job}
use Rattle.psplib_reader.specs.Line.{line_in}
use Rattle.psplib_reader.proofs.DraftLimits.{described_count}

-- the lowest job on a cycle, by the refusal of the draft
pub lowest_by : (draft : Draft) (refusal : BuildRefusal) (job : ℕ) → refusal ≡ faults.Cycle job → IsRefusal draft refusal → IsLeast (IsOnCycle (project_of draft)) job
lowest_by draft refusal job e r = let h : IsRefusal draft (faults.Cycle job) = subst (λ (f : BuildRefusal). IsRefusal draft f) e r in h.1

-- it is one of the jobs of the content
pub job_is : (content : Content) (draft : Draft) (job : ℕ) → IsWithinContentLimits content → project_of draft ≡ described content → IsLeast (IsOnCycle (project_of draft)) job → (1 ≤ job) × (job ≤ content.header.jobs)
job_is content draft job h same lowest =
    let l : IsLeast (IsOnCycle (described content)) job = subst (λ (P : Project). IsLeast (IsOnCycle P) job) same lowest in
    let j = leads-from-job (described content) (project_limits content h) l.attained in
    let low = j.0 in
    let high = j.1 in
    let count = described_count content h in
    (low, omega arith)

-- ---- a text whose lines are the layout

pub record IsRead (text : List ℕ) (lines : List Line) (end : ℕ) (content : Content) : Type 0 where
  pub few_bytes : length text ≤ MOST_BYTES
  pub lines_are : lines ≡ lines_of text
  pub end_is : end ≡ end_line text
  pub layout : layout_in end lines ≡ Ok content

content_is : (text : List ℕ) (lines : List Line) (end : ℕ) (content : Content) → IsRead text lines end content → HasContent text content
content_is text lines end content r = content_found text content (sym (short_text text lines end r.few_bytes r.lines_are r.end_is) ∙ r.layout)

pub within_read : (lines : List Line) (end : ℕ) (content : Content) (job : ℕ) → layout_in end lines ≡ Ok content → job ≤ content.header.jobs → IfOk (layout_in end lines) (λ content. job ≤ content.header.jobs)
within_read lines end content job e h = rw e h

line_at : (text : List ℕ) (lines : List Line) (end : ℕ) (content : Content) (job : ℕ) → IsRead text lines end content → line_in end lines job ≡ job_line_in (end_line text) (lines_of text) content.rows job
unfolding line_in
line_at text lines end content job r =
    let first : line_in end lines job ≡ job_line_in end lines content.rows job = rw r.layout refl in
    first ∙ ap (λ (ls : List Line). job_line_in end ls content.rows job) r.lines_are ∙ ap (λ (n : ℕ). job_line_in n (lines_of text) content.rows job) r.end_is

pub reads_from : (text : List ℕ) (lines : List Line) (end : ℕ) (content : Content) (draft : Draft) (P : Project) → IsRead text lines end content → project_of draft ≡ described content → IsSound draft → P ≡ project_of draft → Reads text P
reads_from text lines end content draft P r same sound e = record {
  content = content;
  has_content = content_is text lines end content r;
  described = sym same ∙ sym e;
  acyclic = subst IsAcyclic (sym e) sound.acyclic;
}

pub cycle_first : (text : List ℕ) (lines : List Line) (end : ℕ) (content : Content) (draft : Draft) (job line : ℕ) → IsRead text lines end content → project_of draft ≡ described content → IsLeast (IsOnCycle (project_of draft)) job → line_in end lines job ≡ Ok line → HasCycle text (record { fault = Cycle; line = line })
cycle_first text lines end content draft job line r same lowest e = record {
  content = content;
  has_content = content_is text lines end content r;
  job = job;
  lowest = subst (λ (P : Project). IsLeast (IsOnCycle P) job) same lowest;
  fault_is = refl;
  line_is = sym (line_at text lines end content job r) ∙ e;
}

-- the line of a job is never refused
pub line_is_read : (text : List ℕ) (lines : List Line) (end : ℕ) (content : Content) (job : ℕ) (e : ReadError) (f : Refusal) → IsRead text lines end content → IsRefused e (line_in end lines job) → e ≡ errors.Refused f → ⊥
line_is_read text lines end content job errors.NoMemory f r refused same = cc
line_is_read text lines end content job (errors.Refused g) f r refused same =
    let h = content_is text lines end content r in
    let known = line_at text lines end content job r ∙ job_line_is (end_line text) text content h job in
    let clash : Err g ≡ Ok (row_line h.layout.precedence.behind content.rows job) = sym refused ∙ known in
    cc

-- ---- what is refused

-- a reading that is refused as the content is has the first refusal of the text
pub refused_first : (text : List ℕ) (e : ReadError) (f : Refusal) → IsRefused e (content_in text) → e ≡ errors.Refused f → IsFirstRefusal text f
refused_first text errors.NoMemory f r same = absurd cc
refused_first text (errors.Refused g) f r same = let e : g ≡ f = cc in inl (subst (λ (h : Refusal). content_in text ≡ Err h) e r)

-- what the exit of a `?` gives back
pub exit_is : {A : Type 0} (r : Result A ReadError) (e y : ReadError) (f : Refusal) → r ≡ Err y → y ≡ e → r ≡ Err (errors.Refused f) → e ≡ errors.Refused f
exit_is r e y f a b c = let same : Err y ≡ Err (errors.Refused f) = sym a ∙ c in cc
