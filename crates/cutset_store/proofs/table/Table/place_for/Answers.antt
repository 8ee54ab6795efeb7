use Rattle.std.proofs.Common.{◌≡◌, refl, ap, sym, subst, ◌∙◌, arith, List, ◌∷◌, [], ◌++◌, length}
use Rattle.std.specs.Prelude.{Some, unwrap_or, nat_eq}
use Rattle.std.specs.HashMap.{get}
use Rattle.cutset_store.specs.Line.{LineState}
use Rattle.cutset_store.specs.Table.{AreFound}
use Rattle.cutset_store.proofs.Tables.{found-same, gives-same, was-there, absent, found-push}
use Rattle.cutset_store.proofs.table.Table.place_for.Goals as goal

pub returns-then-has_line_at-clause-found : goal.returns-then-has_line_at-clause-found
returns-then-has_line_at-clause-found c = c.requires.all c.args.set.0 c.in-At.place (c.has_line_at.ensures.0 c.if-has_line_at.true)

pub returns-in_err-place-clause-table : goal.returns-in_err-place-clause-table
returns-in_err-place-clause-table c =
    let old = c.args.self.now in
    let new = c.place_or_next.new.places in
    subst (AreFound new) (sym c.reserve.ensures.items) (found-same old.places new old.lines.items (gives-same old.places new c.args.set.0 c.in_err-place.ensures.err c.in_err-place.ensures.others) c.requires)

pub returns-then-place-next-clause-table : goal.returns-then-place-next-clause-table
returns-then-place-next-clause-table c =
    let old = c.args.self.now in
    let new = c.place_or_next.new.places in
    subst (AreFound new) (sym c.reserve.ensures.items) (found-same old.places new old.lines.items (gives-same old.places new c.args.set.0 (c.in_ok-place.ensures.here ∙ was-there _ c.len-next.result c.in_ok-place.place c.in_ok-place.ensures.ok c.if-place-next.true) c.in_ok-place.ensures.others) c.requires)

pub returns-clause-table : goal.returns-clause-table
returns-clause-table c =
    let old = c.args.self.now in
    let new = c.place_or_next.new.places in
    let size = ap (λ (ls : List LineState). length ls) c.reserve.ensures.items in
    let next : c.len-next.result ≡ length old.lines.items = let at = c.len-next.ensures in let all = c.reserve.new.self.ok.0 in omega arith in
    let gone = absent old.places old.lines.items c.args.set.0 c.in_ok-place.place (get nat_eq old.places c.args.set.0) c.requires refl (c.in_ok-place.ensures.ok ∙ ap (unwrap_or (get nat_eq old.places c.args.set.0)) next) (let high = c.if-place-next.false in omega arith) in
    subst (AreFound new) (sym (c.push_reserved.ensures.items ∙ ap (λ (ls : List LineState). ls ++ c.new.result ∷ []) c.reserve.ensures.items ∙ ap (λ (l : LineState). old.lines.items ++ l ∷ []) c.new.ensures))
    (found-push old.places new old.lines.items c.args.set c.requires gone.0 (c.in_ok-place.ensures.here ∙ ap Some gone.1) c.in_ok-place.ensures.others)
