-- The header is read exactly where the lines have one.
use Rattle.std.proofs.Common.{◌≡◌, ℕ, ◌≤◌, List, ◌∷◌, ◌++◌, Ok, codes, refl, sym, ap, subst, ◌∙◌, arith}
use Rattle.psplib_lex.specs.Line.{Line}
use Rattle.psplib_layout.specs.declared.fault.Fault.TheVariants.{NotOneProject, DoublyConstrained}
use Rattle.psplib_layout.specs.Rule.{exactly, between, up_to}
use Rattle.psplib_layout.specs.Reading.{◌>>=◌}
use Rattle.psplib_layout.specs.Title.{titled, keyed, colon_line, skipped_to}
use Rattle.psplib_layout.specs.Header.{Header, HasTitle, NoneHasTitle, HasValue, HasColon, ReadsHeader, job_count_in, counts_in, resources_in, header_in}
use Rattle.psplib_layout.proofs.Steps.{bind_ok, ok_is}
use Rattle.psplib_layout.proofs.Titles.{titled_found, keyed_found, keyed_again, colon_found, colon_again, skipped_found, skipped_again}

-- the first four header lines
record JobCount (lines : List Line) (x : ℕ × List Line) : Type 0 where
  unread : List Line
  projects : Line
  jobs : Line
  horizon : Line
  lines_are : lines ≡ unread ++ (projects ∷ jobs ∷ horizon ∷ x.1)
  first : NoneHasTitle (codes "projects") unread
  one_project : HasValue (codes "projects") projects 1
  job_count : HasValue (codes "jobs") jobs x.0
  some_job : 1 ≤ x.0
  few_jobs : x.0 ≤ 128
  horizon_is : HasColon (codes "horizon") horizon

job_count_found : (end : ℕ) (lines : List Line) (x : ℕ × List Line) → job_count_in end lines ≡ Ok x → JobCount lines x
unfolding job_count_in
job_count_found end lines x e =
    let a = bind_ok (skipped_to end (codes "projects") lines) (λ head. keyed end (codes "projects") (exactly 1 NotOneProject) head >>= λ p. keyed end (codes "jobs") (between 1 128) p.1 >>= λ j. colon_line end (codes "horizon") j.1 >>= λ h. Ok (j.0, h)) x e in
    let b = bind_ok (keyed end (codes "projects") (exactly 1 NotOneProject) a.0) (λ p. keyed end (codes "jobs") (between 1 128) p.1 >>= λ j. colon_line end (codes "horizon") j.1 >>= λ h. Ok (j.0, h)) x a.2 in
    let c = bind_ok (keyed end (codes "jobs") (between 1 128) b.0.1) (λ j. colon_line end (codes "horizon") j.1 >>= λ h. Ok (j.0, h)) x b.2 in
    let d = bind_ok (colon_line end (codes "horizon") c.0.1) (λ h. Ok (c.0.0, h)) x c.2 in
    let s = skipped_found end (codes "projects") lines a.0 a.1 in
    let p = keyed_found end (codes "projects") (exactly 1 NotOneProject) a.0 b.0 b.1 in
    let j = keyed_found end (codes "jobs") (between 1 128) b.0.1 c.0 c.1 in
    let h = colon_found end (codes "horizon") c.0.1 d.0 d.1 in
    let one : b.0.0 ≡ 1 = omega (arith, p.keeps) in
    let found : JobCount lines (c.0.0, d.0) = record {
      unread = s.unread;
      projects = p.line;
      jobs = j.line;
      horizon = h.line;
      lines_are = s.lines_are ∙ ap (λ (ls : List Line). s.unread ++ ls) (sym s.rest_is ∙ p.lines_are ∙ ap (λ (ls : List Line). p.line ∷ ls) (j.lines_are ∙ ap (λ (ls : List Line). j.line ∷ ls) h.lines_are));
      first = s.none;
      one_project = subst (HasValue (codes "projects") p.line) one p.value;
      job_count = j.value;
      some_job = j.keeps.0;
      few_jobs = j.keeps.1;
      horizon_is = h.colon;
    } in
    subst (JobCount lines) (ok_is (c.0.0, d.0) x d.2) found

job_count_again : (end : ℕ) (lines : List Line) (x : ℕ × List Line) → JobCount lines x → job_count_in end lines ≡ Ok x
unfolding job_count_in
job_count_again end lines x r =
    rw (r.lines_are, skipped_again end (codes "projects") r.unread r.projects (r.jobs ∷ r.horizon ∷ x.1) r.first r.one_project.titled, keyed_again end (codes "projects") (exactly 1 NotOneProject) r.projects (r.jobs ∷ r.horizon ∷ x.1) 1 r.one_project (omega arith, omega arith), keyed_again end (codes "jobs") (between 1 128) r.jobs (r.horizon ∷ x.1) x.0 r.job_count (r.some_job, r.few_jobs), colon_again end (codes "horizon") r.horizon x.1 r.horizon_is) refl

-- the next three
record Counts (lines : List Line) (x : (ℕ × ℕ) × List Line) : Type 0 where
  resources : Line
  renewables : Line
  nonrenewables : Line
  lines_are : lines ≡ resources ∷ renewables ∷ nonrenewables ∷ x.1
  resources_is : HasTitle (codes "RESOURCES") resources
  renewable_count : HasValue (codes "-renewable") renewables x.0.0
  few_renewables : x.0.0 ≤ 16
  nonrenewable_count : HasValue (codes "-nonrenewable") nonrenewables x.0.1
  few_nonrenewables : x.0.1 ≤ 16

counts_found : (end : ℕ) (lines : List Line) (x : (ℕ × ℕ) × List Line) → counts_in end lines ≡ Ok x → Counts lines x
unfolding counts_in
counts_found end lines x e =
    let a = bind_ok (titled end (codes "RESOURCES") lines) (λ t. keyed end (codes "-renewable") (up_to 16) t.1 >>= λ r. keyed end (codes "-nonrenewable") (up_to 16) r.1 >>= λ n. Ok ((r.0, n.0), n.1)) x e in
    let b = bind_ok (keyed end (codes "-renewable") (up_to 16) a.0.1) (λ r. keyed end (codes "-nonrenewable") (up_to 16) r.1 >>= λ n. Ok ((r.0, n.0), n.1)) x a.2 in
    let c = bind_ok (keyed end (codes "-nonrenewable") (up_to 16) b.0.1) (λ n. Ok ((b.0.0, n.0), n.1)) x b.2 in
    let t = titled_found end (codes "RESOURCES") lines a.0 a.1 in
    let r = keyed_found end (codes "-renewable") (up_to 16) a.0.1 b.0 b.1 in
    let n = keyed_found end (codes "-nonrenewable") (up_to 16) b.0.1 c.0 c.1 in
    let found : Counts lines ((b.0.0, c.0.0), c.0.1) = record {
      resources = a.0.0;
      renewables = r.line;
      nonrenewables = n.line;
      lines_are = t.lines_are ∙ ap (λ (ls : List Line). a.0.0 ∷ ls) (r.lines_are ∙ ap (λ (ls : List Line). r.line ∷ ls) n.lines_are);
      resources_is = t.titled;
      renewable_count = r.value;
      few_renewables = r.keeps.1;
      nonrenewable_count = n.value;
      few_nonrenewables = n.keeps.1;
    } in
    subst (Counts lines) (ok_is ((b.0.0, c.0.0), c.0.1) x c.2) found

counts_again : (end : ℕ) (lines : List Line) (x : (ℕ × ℕ) × List Line) → Counts lines x → counts_in end lines ≡ Ok x
unfolding counts_in
counts_again end lines x r =
    rw (r.lines_are, r.resources_is, keyed_again end (codes "-renewable") (up_to 16) r.renewables (r.nonrenewables ∷ x.1) x.0.0 r.renewable_count (omega arith, r.few_renewables), keyed_again end (codes "-nonrenewable") (up_to 16) r.nonrenewables x.1 x.0.1 r.nonrenewable_count (omega arith, r.few_nonrenewables)) refl

-- the last two
record Resources (lines : List Line) (x : (ℕ × ℕ) × List Line) : Type 0 where
  behind : List Line
  counts : Counts lines (x.0, behind)
  doubly_constrained : Line
  information : Line
  behind_is : behind ≡ doubly_constrained ∷ information ∷ x.1
  none_doubly_constrained : HasValue (codes "-doublyconstrained") doubly_constrained 0
  information_is : HasTitle (codes "PROJECTINFORMATION:") information

resources_found : (end : ℕ) (lines : List Line) (x : (ℕ × ℕ) × List Line) → resources_in end lines ≡ Ok x → Resources lines x
unfolding resources_in
resources_found end lines x e =
    let a = bind_ok (counts_in end lines) (λ k. keyed end (codes "-doublyconstrained") (exactly 0 DoublyConstrained) k.1 >>= λ d. titled end (codes "PROJECTINFORMATION:") d.1 >>= λ i. Ok (k.0, i.1)) x e in
    let b = bind_ok (keyed end (codes "-doublyconstrained") (exactly 0 DoublyConstrained) a.0.1) (λ d. titled end (codes "PROJECTINFORMATION:") d.1 >>= λ i. Ok (a.0.0, i.1)) x a.2 in
    let c = bind_ok (titled end (codes "PROJECTINFORMATION:") b.0.1) (λ i. Ok (a.0.0, i.1)) x b.2 in
    let k = counts_found end lines a.0 a.1 in
    let d = keyed_found end (codes "-doublyconstrained") (exactly 0 DoublyConstrained) a.0.1 b.0 b.1 in
    let i = titled_found end (codes "PROJECTINFORMATION:") b.0.1 c.0 c.1 in
    let none : b.0.0 ≡ 0 = omega (arith, d.keeps) in
    let found : Resources lines (a.0.0, c.0.1) = record {
      behind = a.0.1;
      counts = k;
      doubly_constrained = d.line;
      information = c.0.0;
      behind_is = d.lines_are ∙ ap (λ (ls : List Line). d.line ∷ ls) i.lines_are;
      none_doubly_constrained = subst (HasValue (codes "-doublyconstrained") d.line) none d.value;
      information_is = i.titled;
    } in
    subst (Resources lines) (ok_is (a.0.0, c.0.1) x c.2) found

resources_again : (end : ℕ) (lines : List Line) (x : (ℕ × ℕ) × List Line) → Resources lines x → resources_in end lines ≡ Ok x
unfolding resources_in
resources_again end lines x r =
    rw (counts_again end lines (x.0, r.behind) r.counts, r.behind_is, keyed_again end (codes "-doublyconstrained") (exactly 0 DoublyConstrained) r.doubly_constrained (r.information ∷ x.1) 0 r.none_doubly_constrained (omega arith, omega arith), r.information_is) refl

pub header_found : (end : ℕ) (lines rest : List Line) (header : Header) → header_in end lines ≡ Ok (header, rest) → ReadsHeader lines header rest
unfolding header_in
header_found end lines rest header e =
    let a = bind_ok (job_count_in end lines) (λ j. resources_in end j.1 >>= λ r. Ok (record { jobs = j.0; renewables = r.0.0; nonrenewables = r.0.1 }, r.1)) (header, rest) e in
    let b = bind_ok (resources_in end a.0.1) (λ r. Ok (record { jobs = a.0.0; renewables = r.0.0; nonrenewables = r.0.1 }, r.1)) (header, rest) a.2 in
    let j = job_count_found end lines a.0 a.1 in
    let r = resources_found end a.0.1 b.0 b.1 in
    let read : Header = record { jobs = a.0.0; renewables = b.0.0.0; nonrenewables = b.0.0.1 } in
    let found : ReadsHeader lines read b.0.1 = record {
      unread = j.unread;
      projects = j.projects;
      jobs = j.jobs;
      horizon = j.horizon;
      resources = r.counts.resources;
      renewables = r.counts.renewables;
      nonrenewables = r.counts.nonrenewables;
      doubly_constrained = r.doubly_constrained;
      information = r.information;
      lines_are = j.lines_are ∙ ap (λ (ls : List Line). j.unread ++ (j.projects ∷ j.jobs ∷ j.horizon ∷ ls)) (r.counts.lines_are ∙ ap (λ (ls : List Line). r.counts.resources ∷ r.counts.renewables ∷ r.counts.nonrenewables ∷ ls) r.behind_is);
      first = j.first;
      one_project = j.one_project;
      job_count = j.job_count;
      some_job = j.some_job;
      few_jobs = j.few_jobs;
      horizon_is = j.horizon_is;
      resources_is = r.counts.resources_is;
      renewable_count = r.counts.renewable_count;
      few_renewables = r.counts.few_renewables;
      nonrenewable_count = r.counts.nonrenewable_count;
      few_nonrenewables = r.counts.few_nonrenewables;
      none_doubly_constrained = r.none_doubly_constrained;
      information_is = r.information_is;
    } in
    subst (λ (x : Header × List Line). ReadsHeader lines x.0 x.1) (ok_is (read, b.0.1) (header, rest) b.2) found

pub header_again : (end : ℕ) (lines rest : List Line) (header : Header) → ReadsHeader lines header rest → header_in end lines ≡ Ok (header, rest)
unfolding header_in
header_again end lines rest header h =
    let behind = h.doubly_constrained ∷ h.information ∷ rest in
    let second = h.resources ∷ h.renewables ∷ h.nonrenewables ∷ behind in
    let j : JobCount lines (header.jobs, second) = record { unread = h.unread; projects = h.projects; jobs = h.jobs; horizon = h.horizon; lines_are = h.lines_are; first = h.first; one_project = h.one_project; job_count = h.job_count; some_job = h.some_job; few_jobs = h.few_jobs; horizon_is = h.horizon_is } in
    let k : Counts second ((header.renewables, header.nonrenewables), behind) = record { resources = h.resources; renewables = h.renewables; nonrenewables = h.nonrenewables; lines_are = refl; resources_is = h.resources_is; renewable_count = h.renewable_count; few_renewables = h.few_renewables; nonrenewable_count = h.nonrenewable_count; few_nonrenewables = h.few_nonrenewables } in
    let r : Resources second ((header.renewables, header.nonrenewables), rest) = record { behind = behind; counts = k; doubly_constrained = h.doubly_constrained; information = h.information; behind_is = refl; none_doubly_constrained = h.none_doubly_constrained; information_is = h.information_is } in
    rw (job_count_again end lines (header.jobs, second) j, resources_again end second ((header.renewables, header.nonrenewables), rest) r) refl
