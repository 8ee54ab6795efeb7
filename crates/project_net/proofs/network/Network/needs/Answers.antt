use Rattle.std.proofs.Common.{ℕ, ◌+◌, ◌-◌, ◌≤◌, arith, ap, ◌∙◌, List, length, get_or}
use Rattle.std.proofs.lemmas.List.Elements.{All-same}
use Rattle.rcpsp_model.specs.declared.parts.Mode.{Mode}
use Rattle.rcpsp_model.specs.Project.{mode_of}
use Rattle.project_net.proofs.FlatFacts.{opened-fields, place-within, place-holds}
use Rattle.project_net.proofs.Limits.{mode-limits}
use Rattle.project_net.proofs.network.Network.needs.Goals as goal

pub mode_place-requires-clause-high : goal.mode_place-requires-clause-high
mode_place-requires-clause-high c =
    let o = opened-fields c.args.self.now c.self.inside c.self.view_is c.self.invariant in
    let low = c.requires.job.0 in let high = c.requires.job.1 in let jobs = o.jobs in let all = o.agrees.all_places in
    let same = ap (λ (l : List ℕ). length l) c.as_slice.ensures.value in
    omega arith

pub needs-requires : goal.needs-requires
needs-requires c =
    let o = opened-fields c.args.self.now c.self.inside c.self.view_is c.self.invariant in
    let first = ap (λ (l : List ℕ). get_or l (c.args.job - 1) 0 + (c.args.mode - 1)) c.as_slice.ensures.value in
    place-within c.args.job c.args.mode c.mode_place.result o c.requires.job c.requires.mode (c.mode_place.ensures ∙ first)

pub returns-clause-value : goal.returns-clause-value
returns-clause-value c =
    let o = opened-fields c.args.self.now c.self.inside c.self.view_is c.self.invariant in
    let first = ap (λ (l : List ℕ). get_or l (c.args.job - 1) 0 + (c.args.mode - 1)) c.as_slice.ensures.value in
    c.needs.ensures ∙ ap (λ (m : Mode). m.needs) (place-holds c.args.job c.args.mode c.mode_place.result o c.requires.job c.requires.mode (c.mode_place.ensures ∙ first))

pub returns-clause-size : goal.returns-clause-size
returns-clause-size c =
    let o = opened-fields c.args.self.now c.self.inside c.self.view_is c.self.invariant in
    ap (λ (l : List ℕ). length l) (returns-clause-value c) ∙ (mode-limits c.args.self.now c.args.job c.args.mode o.agrees.limits c.requires.job c.requires.mode).all_needs

pub returns-clause-limit : goal.returns-clause-limit
returns-clause-limit c =
    let o = opened-fields c.args.self.now c.self.inside c.self.view_is c.self.invariant in
    All-same (λ (n : ℕ). n ≤ 1000000) c.needs.result.now (mode_of c.args.self.now c.args.job c.args.mode).needs (returns-clause-value c)
    (mode-limits c.args.self.now c.args.job c.args.mode o.agrees.limits c.requires.job c.requires.mode).needs
