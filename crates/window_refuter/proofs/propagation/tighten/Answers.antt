use Rattle.window_refuter.proofs.Narrowed.{taken-true, taken-narrowed, taken-within, taken-tightened}
use Rattle.window_refuter.proofs.propagation.tighten.Goals as goal

pub check-requires-clause-starts : goal.check-requires-clause-starts
check-requires-clause-starts c =
    let P = c.args.project.now in
    let t = taken-true P c.args.windows.now c.narrow.new.windows c.args.step c.narrow.result c.if-not-narrow.false c.narrow.ensures in
    let w = taken-within P c.args.end c.args.windows.now c.narrow.new.windows c.args.step c.known.ensures.acyclic c.requires.soon c.requires.size c.requires.within c.requires.none_empty t.0 t.1 in
    w.starts

pub returns-clause-within : goal.returns-clause-within
returns-clause-within c =
    let P = c.args.project.now in
    let t = taken-true P c.args.windows.now c.narrow.new.windows c.args.step c.narrow.result c.if-not-narrow.false c.narrow.ensures in
    taken-within P c.args.end c.args.windows.now c.narrow.new.windows c.args.step c.known.ensures.acyclic c.requires.soon c.requires.size c.requires.within c.requires.none_empty t.0 t.1

pub returns-clause-narrowed : goal.returns-clause-narrowed
returns-clause-narrowed c =
    let P = c.args.project.now in
    let t = taken-true P c.args.windows.now c.narrow.new.windows c.args.step c.narrow.result c.if-not-narrow.false c.narrow.ensures in
    taken-narrowed P c.args.end c.args.windows.now c.narrow.new.windows c.args.step c.known.ensures.acyclic c.requires.soon c.requires.size c.requires.within c.requires.none_empty t.0 t.1 c.args.steps.now.items c.push.new.self.items c.in_ok-push.ensures.items

pub returns-clause-tightened : goal.returns-clause-tightened
returns-clause-tightened c =
    let P = c.args.project.now in
    let t = taken-true P c.args.windows.now c.narrow.new.windows c.args.step c.narrow.result c.if-not-narrow.false c.narrow.ensures in
    taken-tightened P c.args.end c.args.windows.now c.narrow.new.windows c.args.step c.known.ensures.acyclic c.requires.soon c.requires.size c.requires.within c.requires.none_empty t.0 t.1 c.check.result c.check.ensures
