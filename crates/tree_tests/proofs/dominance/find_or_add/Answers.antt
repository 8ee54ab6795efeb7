use Rattle.std.proofs.Common.{◌≡◌, ℕ, sym, subst, List, [], ◌∷◌, ◌++◌}
use Rattle.std.specs.Prelude.{All, Result, Ok, Err, OnOk, OnErr}
use Rattle.std.proofs.lemmas.List.Elements.{All-push}
use Rattle.precedence_tree.specs.declared.base.Base.{Base}
use Rattle.precedence_tree.specs.Base.{IsBaseOf}
use Rattle.tree_tests.proofs.dominance.find_or_add.Goals as goal

-- each keeps a fact, where one that has it was appended or handed back
all-kept : (Q : Base → Type 0) (r : Result ℕ Base) (old new : List Base) (b : Base) → OnOk r (new ≡ old ++ b ∷ []) → OnErr r (new ≡ old) → All Q old → Q b → All Q new
all-kept Q (Ok place) old new b ok err all own = subst (All Q) (sym ok) (All-push Q old b all own)
all-kept Q (Err back) old new b ok err all own = subst (All Q) (sym err) all

pub returns : goal.returns
returns g c = all-kept (IsBaseOf c.args.project.now) c.add.result c.args.index.now c.add.new.self c.in_ok-record.record c.add.ensures.ok c.add.ensures.err c.requires.index c.in_ok-record.ensures.record
