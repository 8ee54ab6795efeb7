use Rattle.std.proofs.Common.{arith}
use Rattle.search_rounds.specs.Round.{IsRecordOf}
use Rattle.search_rounds.proofs.FilledSums.{zip-length}
use Rattle.search_rounds.proofs.TablesAfter.{known-bases}
use Rattle.search_rounds.proofs.NextRounds.{rooms}
use Rattle.search_rounds.proofs.going.Search.next_terms.Goals as goal

pub overflow_cast-number : goal.overflow_cast-number
overflow_cast-number c =
    let g = c.requires.goes.1 in
    let few = rooms c.args.project.now c.requires.goes.0 c.args.nodes c.args.self.now c.known.ensures.limits c.requires.few g in
    let rounds = g.rounds in
    let len = c.len.ensures in
    omega arith

pub overflow_add-number : goal.overflow_add-number
overflow_add-number c =
    let g = c.requires.goes.1 in
    let few = rooms c.args.project.now c.requires.goes.0 c.args.nodes c.args.self.now c.known.ensures.limits c.requires.few g in
    let rounds = g.rounds in
    let len = c.len.ensures in
    omega arith

pub returns-clause-records : goal.returns-clause-records
returns-clause-records c =
    let s = c.args.self.now in
    let g = c.requires.goes.1 in
    known-bases c.args.project.now s.table.rows g.tree s.records.places s.records.index g.records.each

pub returns-clause-places : goal.returns-clause-places
returns-clause-places c =
    let s = c.args.self.now in
    let g = c.requires.goes.1 in
    zip-length (IsRecordOf c.args.project.now s.table.rows g.tree) s.records.places s.records.index g.records.each

pub returns-clause-room : goal.returns-clause-room
returns-clause-room c = rooms c.args.project.now c.requires.goes.0 c.args.nodes c.args.self.now c.known.ensures.limits c.requires.few c.requires.goes.1
