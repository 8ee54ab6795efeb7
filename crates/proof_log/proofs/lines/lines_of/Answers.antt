use Rattle.std.proofs.Common.{◌∙◌, ◌++◌, ℕ, List, Vec, Global, sym, ap, map, flat_map}
use Rattle.std.proofs.lemmas.List.{append-nil, drop_all}
use Rattle.proof_log.specs.Lines.{lines_left}
use Rattle.proof_log.proofs.FedLines.{nothing_found}
use Rattle.proof_log.proofs.lines.lines_of.Goals as goal

pub returns : goal.returns
returns c =
    let found = map (λ (line : Vec ℕ Global). line.items) c.loop-piece.lines.items in
    sym (append-nil found)
    ∙ ap (λ (xs : List (List ℕ)). found ++ xs) (sym (nothing_found c.loop-piece.reader))
    ∙ ap (λ (pieces : List (Vec ℕ Global)). found ++ lines_left c.loop-piece.reader (flat_map (λ (piece : Vec ℕ Global). piece.items) pieces)) (sym (drop_all c.loop-piece.piece-index c.args.pieces.now c.loop-piece-test.false))
    ∙ c.loop-piece.invariant
