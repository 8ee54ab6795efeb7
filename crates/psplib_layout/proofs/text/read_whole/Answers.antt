use Rattle.std.proofs.Common.{subst}
use Rattle.std.proofs.lemmas.Result.{err_from_is_err_and}
use Rattle.psplib_layout.specs.Place.{Gives}
use Rattle.psplib_layout.proofs.OneContent.{short_text, refused_as_long}
use Rattle.psplib_layout.proofs.text.read_whole.Goals as goal

pub returns-in_err-source : goal.returns-in_err-source
returns-in_err-source c =
    let p = err_from_is_err_and c.from_residual.result c.from_residual.ensures.1 in
    rw (p.1, p.2) (refused_as_long c.args.text.now c.in_err-source.field-0.0 c.in_err-source.ensures.long)

pub returns : goal.returns
returns c =
    let s = c.in_ok-source in
    subst (Gives (λ content. content) c.content.result) (short_text c.args.text.now s.source.words s.source.end s.ensures.short s.ensures.lines s.ensures.end) c.content.ensures.exact
