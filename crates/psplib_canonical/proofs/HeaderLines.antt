-- The header of a canonical text.
use Rattle.std.proofs.Common.{◌≡◌, ℕ, ◌-◌, ◌^◌, ◌<◌, true, false, List, [], ◌∷◌, ◌++◌, length, replicate, codes, refl, sym, ap, ◌∙◌, arith, append_assoc}
use Rattle.std.specs.List.{concat}
use Rattle.std.specs.Fmt.{decimal}
use Rattle.psplib_lex.specs.Line.{Line, words_of, line_from}
use Rattle.psplib_lex.specs.Number.{word_value}
use Rattle.psplib_layout.specs.Title.{begins_with, header_value}
use Rattle.psplib_layout.specs.Header.{ReadsHeader, HasTitle, HasValue, HasColon}
use Rattle.rcpsp_model.specs.Project.{Project, IsWithinLimits, job_count, renewables, nonrenewables}
use Rattle.project_net.specs.Canonical.{keyed, stars, spaced, horizon, title_lines, resource_lines, information_lines}
use Rattle.psplib_canonical.proofs.Words.{words_of-append, words_of-word, word_value-decimal, decimal-word}
use Rattle.psplib_canonical.proofs.Kept.{keep, kept, keep_line, skip}
use Rattle.psplib_canonical.proofs.Rows.{keeps}
use Rattle.psplib_canonical.proofs.ContentOf.{header_of}

-- a header line up to the blank before its value
abbrev front : List ℕ → List ℕ
front key = key ++ (replicate (30 - length key) 0x20 ++ (0x3A ∷ 0x20 ∷ []))

-- the words of a header line
words_of-keyed : (key value : List ℕ) → words_of (keyed key value) ≡ words_of (front key) ++ words_of value
unfolding keyed
words_of-keyed key value =
    let blanks : List ℕ = replicate (30 - length key) 0x20 in
    let cut : key ++ (blanks ++ (0x3A ∷ 0x20 ∷ 0x20 ∷ value)) ≡ front key ++ 0x20 ∷ value =
    ap (λ (bs : List ℕ). key ++ bs) (sym (append_assoc blanks (0x3A ∷ 0x20 ∷ []) (0x20 ∷ value)))
    ∙ sym (append_assoc key (blanks ++ (0x3A ∷ 0x20 ∷ [])) (0x20 ∷ value)) in
    ap words_of cut ∙ words_of-append (front key) value

number_words : (key : List ℕ) (n : ℕ) → n < 2 ^ 64 → words_of (keyed key (decimal n)) ≡ words_of (front key) ++ decimal n ∷ []
number_words key n h = words_of-keyed key (decimal n) ∙ ap (λ (ws : List (List ℕ)). words_of (front key) ++ ws) (words_of-word (decimal n) (decimal-word n h))

-- a number, and a letter behind it
counted_words : (key : List ℕ) (n letter : ℕ) → n < 2 ^ 64 → words_of (keyed key (decimal n ++ 0x20 ∷ 0x20 ∷ 0x20 ∷ letter ∷ [])) ≡ words_of (front key) ++ decimal n ∷ words_of (0x20 ∷ 0x20 ∷ letter ∷ [])
counted_words key n letter h =
    words_of-keyed key (decimal n ++ 0x20 ∷ 0x20 ∷ 0x20 ∷ letter ∷ [])
    ∙ ap (λ (ws : List (List ℕ)). words_of (front key) ++ ws) (words_of-append (decimal n) (0x20 ∷ 0x20 ∷ letter ∷ []) ∙ ap (λ (ws : List (List ℕ)). ws ++ words_of (0x20 ∷ 0x20 ∷ letter ∷ [])) (words_of-word (decimal n) (decimal-word n h)))

-- ---- which lines are kept

stars_rule : keep stars ≡ false
unfolding stars words_of
stars_rule = refl

basedata_kept : keep (keyed (codes "file with basedata") (codes "-")) ≡ true
unfolding keyed words_of
basedata_kept = refl

seed_kept : keep (keyed (codes "initial value random generator") (codes "0")) ≡ true
unfolding keyed words_of
seed_kept = refl

projects_kept : keep (keyed (codes "projects") (codes "1")) ≡ true
unfolding keyed words_of
projects_kept = refl

jobs_kept : (value : List ℕ) → keep (keyed (codes "jobs (incl. supersource/sink )") value) ≡ true
unfolding words_of
jobs_kept value = ap keeps (words_of-keyed (codes "jobs (incl. supersource/sink )") value)

horizon_kept : (value : List ℕ) → keep (keyed (codes "horizon") value) ≡ true
unfolding words_of
horizon_kept value = ap keeps (words_of-keyed (codes "horizon") value)

resources_kept : keep (codes "RESOURCES") ≡ true
unfolding words_of
resources_kept = refl

renewable_kept : (value : List ℕ) → keep (keyed (codes "  - renewable") value) ≡ true
unfolding words_of
renewable_kept value = ap keeps (words_of-keyed (codes "  - renewable") value)

nonrenewable_kept : (value : List ℕ) → keep (keyed (codes "  - nonrenewable") value) ≡ true
unfolding words_of
nonrenewable_kept value = ap keeps (words_of-keyed (codes "  - nonrenewable") value)

doubly_kept : keep (keyed (codes "  - doubly constrained") (codes "0   D")) ≡ true
unfolding keyed words_of
doubly_kept = refl

information_kept : keep (codes "PROJECT INFORMATION:") ≡ true
unfolding words_of
information_kept = refl

pub columns_kept : keep (codes "pronr.  #jobs rel.date duedate tardcost  MPM-Time") ≡ true
unfolding words_of
columns_kept = refl

abbrev pub counts_line : Project → List ℕ
counts_line P = spaced (codes "1" ∷ decimal (job_count P) ∷ codes "0" ∷ codes "0" ∷ codes "0" ∷ codes "0" ∷ [])

pub counts_kept : (P : Project) → keep (counts_line P) ≡ true
unfolding words_of
counts_kept P = refl

-- ---- what the lines say

jobs_value : (n : ℕ) → n < 2 ^ 64 → HasValue (codes "jobs") (line_from 6 (keyed (codes "jobs (incl. supersource/sink )") (decimal n))) n
unfolding words_of
jobs_value n h =
    let words = number_words (codes "jobs (incl. supersource/sink )") n h in
    record { titled = ap (λ (ws : List (List ℕ)). begins_with (codes "jobs") (concat ws)) words; word = decimal n; value = ap header_value words; number = word_value-decimal n h }

horizon_colon : (value : List ℕ) → HasColon (codes "horizon") (line_from 7 (keyed (codes "horizon") value))
unfolding words_of
horizon_colon value =
    let words = words_of-keyed (codes "horizon") value in
    record { titled = ap (λ (ws : List (List ℕ)). begins_with (codes "horizon") (concat ws)) words; behind = _; colon = ap header_value words }

renewable_value : (n : ℕ) → n < 2 ^ 64 → HasValue (codes "-renewable") (line_from 9 (keyed (codes "  - renewable") (decimal n ++ codes "   R"))) n
unfolding words_of
renewable_value n h =
    let words = counted_words (codes "  - renewable") n 0x52 h in
    record { titled = ap (λ (ws : List (List ℕ)). begins_with (codes "-renewable") (concat ws)) words; word = decimal n; value = ap header_value words; number = word_value-decimal n h }

nonrenewable_value : (n : ℕ) → n < 2 ^ 64 → HasValue (codes "-nonrenewable") (line_from 10 (keyed (codes "  - nonrenewable") (decimal n ++ codes "   N"))) n
unfolding words_of
nonrenewable_value n h =
    let words = counted_words (codes "  - nonrenewable") n 0x4E h in
    record { titled = ap (λ (ws : List (List ℕ)). begins_with (codes "-nonrenewable") (concat ws)) words; word = decimal n; value = ap header_value words; number = word_value-decimal n h }

projects_value : HasValue (codes "projects") (line_from 5 (keyed (codes "projects") (codes "1"))) 1
unfolding keyed words_of word_value
projects_value = record { titled = refl; word = codes "1"; value = refl; number = refl }

doubly_value : HasValue (codes "-doublyconstrained") (line_from 11 (keyed (codes "  - doubly constrained") (codes "0   D"))) 0
unfolding keyed words_of word_value
doubly_value = record { titled = refl; word = codes "0"; value = refl; number = refl }

resources_title : HasTitle (codes "RESOURCES") (line_from 8 (codes "RESOURCES"))
unfolding words_of
resources_title = refl

information_title : HasTitle (codes "PROJECTINFORMATION:") (line_from 13 (codes "PROJECT INFORMATION:"))
unfolding words_of
information_title = refl

basedata_other : begins_with (codes "projects") (concat (words_of (keyed (codes "file with basedata") (codes "-")))) ≡ false
unfolding keyed words_of
basedata_other = refl

seed_other : begins_with (codes "projects") (concat (words_of (keyed (codes "initial value random generator") (codes "0")))) ≡ false
unfolding keyed words_of
seed_other = refl

-- ---- the header

-- the lines behind the header: two that aren't read, and then the precedence part
abbrev pub behind_header : Project → List (List ℕ) → List Line
behind_header P rest = line_from 14 (codes "pronr.  #jobs rel.date duedate tardcost  MPM-Time") ∷ line_from 15 (counts_line P) ∷ kept 17 rest

module _ (P : Project) (limits : IsWithinLimits P) (rest : List (List ℕ)) where
  lines_are : kept 1 (title_lines P ++ (resource_lines P ++ (information_lines P ++ rest))) ≡
      (line_from 2 (keyed (codes "file with basedata") (codes "-")) ∷ line_from 3 (keyed (codes "initial value random generator") (codes "0")) ∷ []) ++
      (line_from 5 (keyed (codes "projects") (codes "1"))
      ∷ line_from 6 (keyed (codes "jobs (incl. supersource/sink )") (decimal (job_count P)))
      ∷ line_from 7 (keyed (codes "horizon") (decimal (horizon P)))
      ∷ line_from 8 (codes "RESOURCES")
      ∷ line_from 9 (keyed (codes "  - renewable") (decimal (renewables P) ++ codes "   R"))
      ∷ line_from 10 (keyed (codes "  - nonrenewable") (decimal (nonrenewables P) ++ codes "   N"))
      ∷ line_from 11 (keyed (codes "  - doubly constrained") (codes "0   D"))
      ∷ line_from 13 (codes "PROJECT INFORMATION:")
      ∷ behind_header P rest)
  unfolding title_lines resource_lines information_lines
  lines_are =
      skip 1 _ _ _ stars_rule
      (keep_line 2 _ _ _ basedata_kept
      (keep_line 3 _ _ _ seed_kept
      (skip 4 _ _ _ stars_rule
      (keep_line 5 _ _ _ projects_kept
      (keep_line 6 _ _ _ (jobs_kept (decimal (job_count P)))
      (keep_line 7 _ _ _ (horizon_kept (decimal (horizon P)))
      (keep_line 8 _ _ _ resources_kept
      (keep_line 9 _ _ _ (renewable_kept (decimal (renewables P) ++ codes "   R"))
      (keep_line 10 _ _ _ (nonrenewable_kept (decimal (nonrenewables P) ++ codes "   N"))
      (keep_line 11 _ _ _ doubly_kept
      (skip 12 _ _ _ stars_rule
      (keep_line 13 _ _ _ information_kept
      (keep_line 14 _ _ _ columns_kept
      (keep_line 15 _ _ _ (counts_kept P)
      (skip 16 _ _ _ stars_rule refl)))))))))))))))

  pub reads_header : ReadsHeader (kept 1 (title_lines P ++ (resource_lines P ++ (information_lines P ++ rest)))) (header_of P) (behind_header P rest)
  unfolding job_count
  reads_header =
      let few = limits.few_jobs in let R = limits.few_renewables in let N = limits.few_nonrenewables in
      record {
        unread = line_from 2 (keyed (codes "file with basedata") (codes "-")) ∷ line_from 3 (keyed (codes "initial value random generator") (codes "0")) ∷ [];
        projects = _;
        jobs = _;
        horizon = _;
        resources = _;
        renewables = _;
        nonrenewables = _;
        doubly_constrained = _;
        information = _;
        lines_are = lines_are;
        first = (basedata_other, (seed_other, tt));
        one_project = projects_value;
        job_count = jobs_value (length P.activities) (omega arith);
        some_job = limits.some_job;
        few_jobs = limits.few_jobs;
        horizon_is = horizon_colon (decimal (horizon P));
        resources_is = resources_title;
        renewable_count = renewable_value (length P.capacities) (omega arith);
        few_renewables = R;
        nonrenewable_count = nonrenewable_value (length P.budgets) (omega arith);
        few_nonrenewables = N;
        none_doubly_constrained = doubly_value;
        information_is = information_title;
      }
