use Rattle.node_deques.proofs.deque.NodeDeque.new.Given as goal

abbrev pub ghosts-agree_on : goal.ghosts-agree_on
ghosts-agree_on a = record { terms = record { project = a.project.now; from = a.from; to = a.to } }
