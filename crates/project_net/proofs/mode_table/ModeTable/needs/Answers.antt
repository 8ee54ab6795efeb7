use Rattle.std.proofs.Common.{ℕ, ◌*◌, ◌<◌, arith, ap, sym, ◌∙◌, List, length, take, drop}
use Rattle.std.specs.List.{slice_index_or}
use Rattle.rcpsp_model.specs.Project.{no_mode}
use Rattle.project_net.specs.Flat.{ModeList}
use Rattle.project_net.proofs.FlatModes.{length-modes_in, needs-modes_in, row-le}
use Rattle.project_net.proofs.mode_table.ModeTable.needs.Goals as goal

pub row-requires : goal.row-requires
row-requires c =
    let t = c.self.inside in
    let e = length-modes_in t.renewables t.nonrenewables t.durations.items t.requests.items t.needs.items in
    let h = rw (← c.self.view_is) at c.requires in
    let le = row-le t.nonrenewables c.args.place (length t.durations.items) (omega arith) in
    let all = c.self.invariant.all_needs in
    let same = ap (λ (l : List ℕ). length l) c.as_slice.ensures.value in
    omega arith

pub returns : goal.returns
returns c =
    let t = c.self.inside in
    let e = length-modes_in t.renewables t.nonrenewables t.durations.items t.requests.items t.needs.items in
    let h = rw (← c.self.view_is) at c.requires in
    let lt : c.args.place < length t.durations.items = omega arith in
    c.row.ensures
    ∙ ap (λ (l : List ℕ). take t.nonrenewables (drop (c.args.place * t.nonrenewables) l)) c.as_slice.ensures.value
    ∙ sym (needs-modes_in t.renewables t.nonrenewables t.durations.items t.requests.items t.needs.items c.args.place lt)
    ∙ ap (λ (l : ModeList). (slice_index_or l.modes c.args.place no_mode).needs) c.self.view_is
