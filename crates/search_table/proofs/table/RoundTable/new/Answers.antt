use Rattle.std.proofs.Common.{◌+◌, ◌*◌, ◌≤◌, arith}
use Rattle.search_table.proofs.Ends.{opens}
use Rattle.search_table.proofs.table.RoundTable.new.Goals as goal

pub of_words-requires : goal.of_words-requires
of_words-requires c =
    let high = c.requires.high in let wide : 15 + 8 * c.args.workers ≤ 271 = omega arith in
    opens (record { start = c.args.best; quota = c.args.quota; workers = c.args.workers }) 271 c.requires.quota high wide
