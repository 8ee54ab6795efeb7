use Rattle.std.proofs.Common.{◌∙◌, ◌≡◌, ℕ, List, ap, sym, Option, Some, None}
use Rattle.std.specs.Prelude.{IfSome}
use Rattle.proof_log.specs.Reading.{words_in}
use Rattle.window_refuter.specs.declared.line.BoundLine.{BoundLine}
use Rattle.window_refuter.specs.Text.{IsLine, line_text}
use Rattle.window_refuter.specs.Reading.{line_in}
use Rattle.window_refuter.proofs.ReadLines.{text_again, text_found}
use Rattle.window_refuter.proofs.parsing.parse_bound_line.Goals as goal

found_in : (r : Option BoundLine) (bytes : List ℕ) → r ≡ line_in (words_in bytes) → IfSome r (λ line. IsLine line × (bytes ≡ line_text line))
found_in None bytes h = tt
found_in (Some line) bytes h = text_found bytes line (sym h)

pub returns-clause-found : goal.returns-clause-found
returns-clause-found c = found_in c.read_line.result c.args.bytes.now c.read_line.ensures

pub returns-clause-all : goal.returns-clause-all
returns-clause-all c line is same = c.read_line.ensures ∙ ap (λ (bytes : List ℕ). line_in (words_in bytes)) same ∙ text_again line is
