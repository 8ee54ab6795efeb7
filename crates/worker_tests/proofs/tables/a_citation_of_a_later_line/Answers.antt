use Rattle.std.proofs.Common.{◌≡◌, refl, sym, ap, subst, ◌∙◌, List, ◌∷◌}
use Rattle.search_log.specs.declared.row.Row.{Row}
use Rattle.search_log.specs.Table.{IsWhole}
use Rattle.search_log.specs.Examples.{twins_rows}
use Rattle.search_log.proofs.TablesComputed.{worked_tables}
use Rattle.worker_tests.proofs.tables.a_citation_of_a_later_line.Goals as goal

then : {x y : Row} {xs ys : List Row} → x ≡ y → xs ≡ ys → x ∷ xs ≡ y ∷ ys
then {x = x} {y = y} {xs = xs} {ys = ys} e f = ap (λ (z : Row). z ∷ xs) e ∙ ap (λ (zs : List Row). y ∷ zs) f

pub log_of-requires-clause-whole : goal.log_of-requires-clause-whole
log_of-requires-clause-whole g c =
    let same : c.in_ok-table.table.rows ≡ twins_rows =
    c.in_ok-table.ensures.rows
    ∙ then refl (then c.row.ensures (then c.row-2.ensures (then c.row-3.ensures (then c.row-4.ensures
    (then c.row-5.ensures (then c.row-6.ensures (then c.row-7.ensures (then c.row-8.ensures (then c.row-9.ensures refl)))))))))
    in
    subst IsWhole (sym same) worked_tables.whole_twins
