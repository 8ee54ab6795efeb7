use Rattle.std.proofs.Common.{ℕ, ◌-◌, arith, ap, List, length, get_or}
use Rattle.project_net.proofs.FlatFacts.{opened-fields}
use Rattle.project_net.proofs.ModePlaces.{first-places}
use Rattle.project_net.proofs.network.Network.place.Goals as goal

pub mode_place-requires-clause-high : goal.mode_place-requires-clause-high
mode_place-requires-clause-high c =
    let o = opened-fields c.args.self.now c.self.inside c.self.view_is c.self.invariant in
    let low = c.requires.job.0 in let high = c.requires.job.1 in let jobs = o.jobs in let all = o.agrees.all_places in
    let same = ap (λ (l : List ℕ). length l) c.as_slice.ensures.value in
    omega arith

pub returns : goal.returns
returns c =
    let o = opened-fields c.args.self.now c.self.inside c.self.view_is c.self.invariant in
    let low = c.requires.job.0 in let high = c.requires.job.1 in
    let same = ap (λ (l : List ℕ). get_or l (c.args.job - 1) 0) c.as_slice.ensures.value in
    let first = first-places c.args.self.now c.self.inside.places.items o.agrees.first o.modes (c.args.job - 1) (omega arith) in
    let is = c.mode_place.ensures in
    omega arith
