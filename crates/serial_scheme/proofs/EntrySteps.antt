-- When the predecessors of a job are done, one entry further.
use Rattle.std.proofs.Common.{◌≡◌, ℕ, ◌+◌, ◌<◌, max, arith, ap, ◌∙◌, List, [], ◌∷◌, ◌++◌, length, get_or, take, cond, Bool, true, false}
use Rattle.std.specs.Prelude.{filter}
use Rattle.std.specs.Ordering.{nat_cmp, ord_max}
use Rattle.std.proofs.lemmas.Bool.Decides.{nat_tests}
use Rattle.std.proofs.lemmas.List.{append-nil}
use Rattle.std.proofs.lemmas.List.Elements.{filter_more}
use Rattle.rcpsp_model.specs.declared.parts.Entry.{Entry}
use Rattle.rcpsp_model.specs.Project.{Project, is_before}
use Rattle.rcpsp_model.specs.Schedule.{finish, end_of}
use Rattle.rcpsp_model.proofs.Fronts.{end-push}
use Rattle.serial_scheme.specs.Priority.{done_at}

end-filter_more : (P : Project) (p : Entry → Bool) (es : List Entry) (i : ℕ) (d : Entry) → i < length es →
    end_of P (filter p (take (i + 1) es)) ≡ cond (p (get_or es i d)) (max (end_of P (filter p (take i es))) (finish P (get_or es i d))) (end_of P (filter p (take i es)))
end-filter_more P p es i d l =
    let e = get_or es i d in
    let old = filter p (take i es) in
    ap (end_of P) (filter_more p es i d l) ∙
    elim (p e) as (λ b. end_of P (old ++ cond b (e ∷ []) []) ≡ cond b (max (end_of P old) (finish P e)) (end_of P old)) [
      | true ↦ end-push P old e
      | false ↦ ap (end_of P) (append-nil old)
    ]

-- when the predecessors are done, one entry further
pub done-more : (P : Project) (es : List Entry) (j i : ℕ) (d : Entry) → i < length es → is_before P (get_or es i d).job j ≡ true →
    done_at P (take (i + 1) es) j ≡ max (done_at P (take i es) j) (finish P (get_or es i d))
done-more P es j i d l b =
    let old = done_at P (take i es) j in
    end-filter_more P (λ e. is_before P e.job j) es i d l ∙ ap (λ x. cond x (max old (finish P (get_or es i d))) old) b

pub done-same : (P : Project) (es : List Entry) (j i : ℕ) (d : Entry) → i < length es → is_before P (get_or es i d).job j ≡ false → done_at P (take (i + 1) es) j ≡ done_at P (take i es) j
done-same P es j i d l b =
    let old = done_at P (take i es) j in
    end-filter_more P (λ e. is_before P e.job j) es i d l ∙ ap (λ x. cond x (max old (finish P (get_or es i d))) old) b

pub max_is : (a b : ℕ) → ord_max nat_cmp a b ≡ max a b
max_is a b = grind (arith, nat_tests)
