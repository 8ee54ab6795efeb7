use Rattle.std.proofs.Common.{arith, map, string_bytes}
use Rattle.std.proofs.lemmas.List.{length-map}
use Rattle.plan_words.proofs.CommandWords.{left_over}
use Rattle.plan_words.proofs.words.parse_end.Goals as goal

pub returns-in-len1-up-clause-fault : goal.returns-in-len1-up-clause-fault
returns-in-len1-up-clause-fault c = left_over (map string_bytes c.args.words.now) c.args.place (let n = length-map c.args.words.now string_bytes in let some = c.in-len1-up.len_at_least in omega arith)
