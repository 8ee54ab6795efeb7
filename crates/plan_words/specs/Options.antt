-- What is known of options while their words are read.
use Rattle.std.specs.Prelude.{◌≡◌, ℕ, ◌≤◌, Bool, true, false, List, [], ◌∷◌, ◌++◌, if◌then◌else◌, codes}
use Rattle.plan_words.specs.Words.{Form, modes_form, workers_form, nodes_form, log_form, tries_form, number_behind, yes_behind}
use Rattle.plan_words.specs.declared.options.Options.{Options}

-- the option, where it is free
abbrev pub form_if : Bool → Form → List Form
form_if true form = form ∷ []
form_if false form = []

-- the options that words may still give
abbrev pub free_forms : Options → List Form
free_forms o = form_if o.modes.free modes_form ++ (form_if o.workers.free workers_form ++ (form_if o.nodes.free nodes_form ++ (form_if o.log.free log_form ++ form_if o.tries.free tries_form)))

-- the number of an option after these words, which still come
abbrev pub number_after : List ℕ → Bool → ℕ → List (List ℕ) → ℕ
number_after key free value words = if free then number_behind key value words else value

-- and the answer of one
abbrev pub flag_after : List ℕ → Bool → Bool → List (List ℕ) → Bool
flag_after key free value words = if free then yes_behind key value words else value

-- each number is within its limits
pub record AreWithin (o : Options) : Type 0 where
  pub some_modes : 1 ≤ o.modes.value
  pub few_modes : o.modes.value ≤ 4
  pub some_workers : 1 ≤ o.workers.value
  pub few_workers : o.workers.value ≤ 32
  pub few_nodes : o.nodes.value ≤ 100000
  pub few_tries : o.tries.value ≤ 1000000

-- the options after some words, of which these still come
pub record ComeTo (before after : Options) (words more : List (List ℕ)) : Type 0 where
  pub modes : number_after (codes "modes=") before.modes.free before.modes.value words ≡ number_after (codes "modes=") after.modes.free after.modes.value more
  pub workers : number_after (codes "workers=") before.workers.free before.workers.value words ≡ number_after (codes "workers=") after.workers.free after.workers.value more
  pub nodes : number_after (codes "nodes=") before.nodes.free before.nodes.value words ≡ number_after (codes "nodes=") after.nodes.free after.nodes.value more
  pub log : flag_after (codes "log=") before.log.free before.log.value words ≡ flag_after (codes "log=") after.log.free after.log.value more
  pub tries : number_after (codes "tries=") before.tries.free before.tries.value words ≡ number_after (codes "tries=") after.tries.free after.tries.value more
