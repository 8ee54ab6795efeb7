use Rattle.std.proofs.Common.{◌≤◌, arith}
use Rattle.std.proofs.lemmas.Bool.{false≢true}
use Rattle.std.proofs.lemmas.List.Elements.{All-weaker}
use Rattle.rcpsp_model.specs.declared.parts.Entry.{Entry}
use Rattle.rcpsp_model.specs.Schedule.{usage}
use Rattle.profiles.proofs.Shortages.{within-here, falls-more, short-begin}
use Rattle.profiles.proofs.Profiles.{usage-falls}
use Rattle.profiles.proofs.profile.Profile.has_room_from_last.Goals as goal

pub returns-then-from-usage : goal.returns-then-from-usage
returns-then-from-usage c = (
  λ no. absurd (false≢true no),
  λ room. absurd (
      let P = c.args.project.now in
      let k = c.args.resource in
      let s = c.stretches-stretches.result.now in
      let w = within-here P k s c.args.from c.args.until c.place_at-first.result c.loop-place.place c.cut_from-stretch.result.begin c.stretches-stretches.ensures
      (omega arith) (omega arith) c.place_at-first.ensures.next c.cut_from-stretch.ensures.begin (let f = c.from.ensures in omega arith) (omega arith) (omega arith) in
      let is = c.cut_from-stretch.ensures.capacity in
      let used = c.usage-usage.ensures in
      short-begin (usage P c.args.self.now.entries k) P k s c.args.request c.args.from c.args.until c.loop-place.place c.cut_from-stretch.result.begin _ _ c.stretches-stretches.ensures w (omega arith) room
      ),
)

pub loop-place-preserved : goal.loop-place-preserved
loop-place-preserved c = λ t low high next.
    let P = c.args.project.now in
    let k = c.args.resource in
    let s = c.stretches-stretches.result.now in
    let w = within-here P k s c.args.from c.args.until c.place_at-first.result c.loop-place.place c.cut_from-stretch.result.begin c.stretches-stretches.ensures
    (omega arith) (omega arith) c.place_at-first.ensures.next c.cut_from-stretch.ensures.begin (let f = c.from.ensures in omega arith) (omega arith) (omega arith) in
    let is = c.cut_from-stretch.ensures.capacity in
    let used = c.usage-usage.ensures in
    falls-more (usage P c.args.self.now.entries k) P k s c.args.request c.args.from c.args.until c.loop-place.place c.cut_from-stretch.result.begin _ _ c.stretches-stretches.ensures w
    (λ u le. usage-falls P c.args.self.now.entries k c.cut_from-stretch.result.begin u (All-weaker (λ (e : Entry). e.start ≤ c.args.from) (λ (e : Entry). e.start ≤ c.cut_from-stretch.result.begin) (λ e h. let b = c.cut_from-stretch.ensures.begin in omega arith) c.args.self.now.entries c.requires.last) le)
    (omega arith) t low high (λ before. c.loop-place.invariant t low high (λ more. before)) next
