use Rattle.std.proofs.Common.{◌∙◌}
use Rattle.std.proofs.lemmas.List.{take_all}
use Rattle.precedence_tree.proofs.Parts.{active-few}
use Rattle.cutset_store.proofs.facts.facts_of_row.Goals as goal

pub returns : goal.returns
returns c =
    let b = c.args.a.now in
    record {
      last = c.requires.row.last;
      end = c.requires.row.end;
      wide = c.used_of.ensures.wide;
      used = c.used_of.ensures.value;
      active = c.requires.row.active ∙ take_all 128 b.active (active-few c.args.project.now b.front b.active c.known.ensures.limits c.requires.record.front c.requires.record.active);
    }
