-- The canonical text of a project is read, and gives the project.
use Rattle.std.proofs.Common.{◌≡◌, ℕ, List, sym, subst, arith}
use Rattle.psplib_lex.specs.Line.{Line}
use Rattle.psplib_layout.specs.Layout.{ReadsLayout}
use Rattle.psplib_layout.specs.Text.{HasContent, Reads}
use Rattle.psplib_layout.proofs.OneContent.{one_project}
use Rattle.rcpsp_model.specs.Project.{Project, IsWithinLimits, IsProject}
use Rattle.project_net.specs.Canonical.{canonical, canonical_lines}
use Rattle.psplib_canonical.proofs.Kept.{lines_of-text_of, length-text_of}
use Rattle.psplib_canonical.proofs.ContentOf.{content_of, described}
use Rattle.psplib_canonical.proofs.Parts.{reads_layout}
use Rattle.psplib_canonical.proofs.Fit.{canonical_fit, few_lines}

has_content : (P : Project) → IsWithinLimits P → HasContent (canonical P) (content_of P)
unfolding canonical
has_content P w =
    let few = few_lines P w in
    let short = length-text_of (canonical_lines P) (canonical_fit P w) in
    record {
      few_bytes = omega arith;
      layout = subst (λ (ls : List Line). ReadsLayout ls (content_of P)) (sym (lines_of-text_of (canonical_lines P) (canonical_fit P w))) (reads_layout P w);
    }

pub reads : (P : Project) → IsProject P → Reads (canonical P) P
reads P p = record { content = content_of P; has_content = has_content P p.limits; described = described P p.limits; acyclic = p.acyclic }

pub differ : (P Q : Project) → IsProject P → IsProject Q → canonical P ≡ canonical Q → P ≡ Q
differ P Q p q e = one_project (canonical P) P Q (reads P p) (subst (λ (text : List ℕ). Reads text Q) (sym e) (reads Q q))
