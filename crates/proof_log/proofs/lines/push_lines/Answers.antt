use Rattle.std.proofs.Common.{◌≡◌, inl, inr, ◌-◌, ◌+◌, ◌∙◌, ◌++◌, ◌∷◌, [], ℕ, List, Vec, Global, sym, ap, arith, map, drop, take, length, length-drop}
use Rattle.std.proofs.lemmas.List.{take_all, map-append}
use Rattle.proof_log.specs.Lines.{ReaderState, lines_left}
use Rattle.proof_log.proofs.FedLines.{some_taken, line_joins, piece_ends, nothing_left}
use Rattle.proof_log.proofs.lines.push_lines.Goals as goal

whole : (piece : List ℕ) (at : ℕ) → take (length piece - at) (drop at piece) ≡ drop at piece
whole piece at = take_all (length piece - at) (drop at piece) (omega (arith, length-drop at piece))

pub loop-lines-smaller : goal.loop-lines-smaller
loop-lines-smaller c =
    let piece = c.args.piece.now in
    let at = c.loop-lines.at in
    let f = c.feed-taken.ensures in
    let some = some_taken c.loop-lines.reader.last c.loop-lines.reader.line (take (length piece - at) (drop at piece)) (sym f.step ∙ c.in-Line.is) in
    omega (arith, f.taken, f.within, whole piece at, ap length (whole piece at), length-drop at piece)

pub loop-lines-preserved : goal.loop-lines-preserved
loop-lines-preserved c =
    let piece = c.args.piece.now in
    let at = c.loop-lines.at in
    let f = c.feed-taken.ensures in
    record {
      within = omega (arith, f.within, ap length (whole piece at), length-drop at piece);
      lines = λ more.
          let items = λ (line : Vec ℕ Global). line.items in
          let text : c.in_ok-from_slice-in-Line.field-0.items ≡ c.feed-taken.new.self.line = c.in_ok-from_slice-in-Line.ensures.items ∙ c.line.ensures in
          let last = ap (λ (r : ReaderState). r.last) f.after ∙ sym f.step ∙ c.in-Line.is in
          ap (λ (xs : List (Vec ℕ Global)). map items xs ++ lines_left c.feed-taken.new.self (drop (at + c.feed-taken.result.0) piece ++ more)) c.in_ok-push-in-Line.ensures.items
          ∙ ap (λ (xs : List (List ℕ)). xs ++ lines_left c.feed-taken.new.self (drop (at + c.feed-taken.result.0) piece ++ more))
          (map-append items c.loop-lines.lines.items (c.in_ok-from_slice-in-Line.field-0 ∷ []) ∙ ap (λ (line : List ℕ). map items c.loop-lines.lines.items ++ line ∷ []) text)
          ∙ line_joins c.loop-lines.reader c.feed-taken.new.self piece (take (length piece - at) (drop at piece)) at c.feed-taken.result.0 (whole piece at) f.short f.after f.taken last (map items c.loop-lines.lines.items) more
          ∙ c.loop-lines.invariant.lines more;
    }

pub returns-in-More : goal.returns-in-More
returns-in-More c more =
    let piece = c.args.piece.now in
    let at = c.loop-lines.at in
    let f = c.feed-taken.ensures in
    let last = ap (λ (r : ReaderState). r.last) f.after ∙ sym f.step in
    ap (λ (xs : List (List ℕ)). map (λ (line : Vec ℕ Global). line.items) c.loop-lines.lines.items ++ xs) (elim c.in-More.is [
      | inl goes_on ↦ piece_ends c.loop-lines.reader c.feed-taken.new.self piece (take (length piece - at) (drop at piece)) at c.feed-taken.result.0 (whole piece at) f.short f.after f.taken (last ∙ goes_on) more
      | inr long ↦ nothing_left c.loop-lines.reader c.feed-taken.new.self piece (take (length piece - at) (drop at piece)) at c.feed-taken.result.0 (whole piece at) f.short f.after f.taken (last ∙ long) more
    ])
    ∙ c.loop-lines.invariant.lines more
