-- The jobs of a draft, and the project that they are.
use Rattle.std.proofs.Common.{◌≡◌, ℕ, zero, suc, ◌+◌, ◌<◌, List, [], ◌∷◌, ◌++◌, length, get_or, map, filter, refl, sym, ap, ◌∙◌, arith}
use Rattle.std.specs.List.{range_with_len}
use Rattle.std.proofs.lemmas.List.{length_push}
use Rattle.rcpsp_model.specs.declared.parts.Mode.{Mode}
use Rattle.rcpsp_model.specs.Project.{Activity, numbers_from}
use Rattle.psplib_layout.specs.declared.content.JobRow.{JobRow}
use Rattle.psplib_layout.specs.Layout.{activities_of}
use Rattle.project_net.specs.declared.draft.DraftJob.{DraftJob}
use Rattle.rcpsp_model.specs.Rank.{is_among}
use Rattle.project_net.specs.Draft.{activity_of}
use Rattle.psplib_reader.specs.Drafted.{drafted}

pub drafted_none : (rows : List JobRow) → drafted rows [] ≡ []
drafted_none [] = refl
drafted_none (row ∷ rows) = refl

-- one row more
drafted_push : (rows : List JobRow) (modes : List (List Mode)) (ms : List Mode) (row : JobRow) → length modes < length rows → row ≡ get_or rows (length modes) row → drafted rows (modes ++ ms ∷ []) ≡ drafted rows modes ++ record { modes = ms; successors = row.successors } ∷ []
drafted_push [] modes ms row h e = absurd (omega arith)
drafted_push (r ∷ rows) [] ms row h e =
    ap (λ (jobs : List DraftJob). (let job : DraftJob = record { modes = ms; successors = r.successors } in job) ∷ jobs) (drafted_none rows)
    ∙ ap (λ (x : JobRow). (let job : DraftJob = record { modes = ms; successors = x.successors } in job) ∷ []) (sym e)
drafted_push (r ∷ rows) (m ∷ modes) ms row h e =
    ap (λ (jobs : List DraftJob). (let job : DraftJob = record { modes = m; successors = r.successors } in job) ∷ jobs) (drafted_push rows modes ms row (omega arith) e)

pub drafted_more : (rows : List JobRow) (modes : List (List Mode)) (ms : List Mode) (row : JobRow) (successors : List ℕ) (at : ℕ) (items more : List DraftJob) →
    length modes < length rows → at ≡ length modes → row ≡ get_or rows at row → successors ≡ row.successors → items ≡ drafted rows modes → more ≡ items ++ record { modes = ms; successors = successors } ∷ [] →
    more ≡ drafted rows (modes ++ ms ∷ [])
drafted_more rows modes ms row successors at items more h a r s i m =
    m
    ∙ ap (λ (jobs : List DraftJob). jobs ++ (let job : DraftJob = record { modes = ms; successors = successors } in job) ∷ []) i
    ∙ ap (λ (js : List ℕ). drafted rows modes ++ (let job : DraftJob = record { modes = ms; successors = js } in job) ∷ []) s
    ∙ sym (drafted_push rows modes ms row h (r ∙ ap (λ (k : ℕ). get_or rows k row) a))

pub length_more : (modes : List (List Mode)) (ms : List Mode) (job : DraftJob) (items more : List DraftJob) → length items ≡ length modes → more ≡ items ++ job ∷ [] → length more ≡ length (modes ++ ms ∷ [])
length_more modes ms job items more e m = omega (arith, ap length m, length_push items job, length_push modes ms)

numbers_same : (i n : ℕ) → range_with_len i n ≡ numbers_from i n
numbers_same i zero = refl
numbers_same i (suc n) = ap (λ (xs : List ℕ). i ∷ xs) (numbers_same (i + 1) n)

pub activities_same : (n : ℕ) (rows : List JobRow) (modes : List (List Mode)) → map (activity_of n) (drafted rows modes) ≡ activities_of n rows modes
activities_same n [] modes = refl
activities_same n (row ∷ rows) [] = refl
activities_same n (row ∷ rows) (ms ∷ more) =
    ap (λ (xs : List ℕ). (let a : Activity = record { modes = ms; successors = filter (is_among row.successors) xs } in a) ∷ map (activity_of n) (drafted rows more)) (numbers_same 1 n)
    ∙ ap (λ (as' : List Activity). (let a : Activity = record { modes = ms; successors = filter (is_among row.successors) (numbers_from 1 n) } in a) ∷ as') (activities_same n rows more)
