use Rattle.psplib_lex.specs.Line.{lines_of}
use Rattle.psplib_layout.proofs.Limits.{limits_of, project_limits}
use Rattle.psplib_layout.proofs.laws.contents_are_within_limits.Goals as goal

pub returns-clause-content : goal.returns-clause-content
returns-clause-content c text content h = limits_of (lines_of text) content h.layout

pub returns-clause-project : goal.returns-clause-project
returns-clause-project c content h = project_limits content h
