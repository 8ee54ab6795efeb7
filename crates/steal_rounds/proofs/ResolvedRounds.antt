-- A part at its end, once its live citations are resolved, is a round.
use Rattle.std.proofs.Common.{◌≡◌, ℕ, refl, ◌∙◌, arith, List, [], ◌∷◌, length}
use Rattle.std.proofs.Common.{length-set}
use Rattle.search_log.specs.declared.row.Fill.{Fill}
use Rattle.search_log.specs.Stands.{IsAtPlace}
use Rattle.round_shares.specs.Part.{Beginning, BeginsOn}
use Rattle.steal_rounds.specs.Cited.{with_cited, cited_rows}
use Rattle.steal_rounds.specs.Ended.{resolved_part, resolved_progress}
use Rattle.steal_rounds.proofs.PartLaws.{ResolvedRoundLaw}
use Rattle.steal_rounds.proofs.WiderParts.{begins-on, in_order-each}
use Rattle.steal_rounds.proofs.CitedRecords.{resolve_law}
use Rattle.steal_rounds.proofs.RoundIs.{round-is}

length-resolved : (fills : List Fill) (live places : List ℕ) → length (cited_rows fills live places) ≡ length fills
length-resolved fills [] places = refl
length-resolved fills (i ∷ live) [] = refl
length-resolved fills (i ∷ live) (q ∷ places) = length-resolved (with_cited fills i q) live places ∙ length-set fills i _

pub resolved-round : ResolvedRoundLaw
resolved-round P workers b frontier left at s places best plan crew dealt is rows others ended nodes ns st or ar =
    let c : Beginning = record b { dealt = frontier } in
    let k = begins-on P c ns st ar in
    let begins : BeginsOn b ns = record { size = k.size; dealt = in_order-each (IsAtPlace ns) frontier b.dealt dealt k.dealt; records = k.records } in
    let len = length-resolved s.fills s.live places in
    let moves = ended.moves in
    round-is P workers b frontier left (resolved_progress at) (resolved_part s places) best plan crew dealt (resolve_law P b ns at s places begins rows is) refl others
    (record { soon = ended.soon; moves = omega arith; won = ended.won; few = ended.few; spent = ended.spent; some = ended.some; best_is = ended.best_is; seen = ended.seen; brings = ended.brings }) nodes ns st or ar
