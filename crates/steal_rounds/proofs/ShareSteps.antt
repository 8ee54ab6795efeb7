-- One visit more of a share.
use Rattle.std.proofs.Common.{◌≡◌, ℕ, ◌+◌, ◌≤◌, ◌⊎◌, inl, inr, sym, ap, subst, ◌∙◌, arith, List, [], ◌∷◌, ◌++◌, length, map, All}
use Rattle.std.specs.Prelude.{Contains}
use Rattle.std.specs.List.{AllZip}
use Rattle.rcpsp_model.specs.Project.{Project}
use Rattle.rcpsp_model.specs.Dominance.{Dominates}
use Rattle.cutset_store.specs.Index.{fronts_of}
use Rattle.search_log.specs.declared.row.Fill.{Fill}
use Rattle.search_log.specs.Weights.{total}
use Rattle.search_log.specs.Fates.{row_cites, row_saying}
use Rattle.search_log.specs.Stands.{TreeNode, one_expanded}
use Rattle.search_log.proofs.Sums.{Each-append}
use Rattle.tree_worker.specs.Worker.{Progress}
use Rattle.round_shares.specs.Part.{Beginning, PartState, Event, says_event, IsExpansion, IsEventOf, IsNoChildOf, IsCitedIn, IsCitedLive, IsMadeIn, HasRecord, IsOffered}
use Rattle.round_shares.specs.Share.{Handled, IsShare}
use Rattle.steal_rounds.proofs.EventSteps.{got-pushed, turns-push, cited-more, later-event, fills-push}
use Rattle.steal_rounds.proofs.ShareNodes.{HasNodes}

pub next_share : (P : Project) (b : Beginning) (h : Handled) (at now : Progress) (s t : PartState) (x : Event) (old : IsShare P b h at s) (more : List TreeNode) →
    t.fills ≡ s.fills ++ x.fill ∷ [] → now.pass.least_seen ≤ at.pass.least_seen → map (λ m. m.known.front) t.made ≡ fronts_of now.worker.expanded →
    total (λ f. one_expanded (row_saying f.fate)) t.fills ≡ length t.made → HasNodes P b h now t more (old.events ++ x ∷ []) → IsEventOf P b now.pass.least_seen x → x.fill.origin.turn ≡ length old.events + 1 →
    ((e : Event) → Contains old.events e → IsExpansion e → IsExpansion x → Dominates P e.front x.front → ⊥) → ((e : Event) (y : IsExpansion x) → Contains (old.events ++ x ∷ []) e → IsNoChildOf x y e.fill.place) →
    ((q : ℕ) → says_event x ≡ row_cites q → IsCitedIn P b old.events q x.front ⊎ Contains t.live (length old.events)) → ((i : ℕ) → Contains s.live i → Contains t.live i) →
    AllZip (IsCitedLive P (old.events ++ x ∷ [])) t.live now.worker.live → All (IsMadeIn P (old.events ++ x ∷ [])) t.made →
    ((e : Event) → Contains (old.events ++ x ∷ []) e → IsExpansion e → HasRecord t.made e) → All (IsOffered P b (old.events ++ x ∷ [])) now.pass.offers →
    IsShare P b h now t
next_share P b h at now s t x old more fills falls fronts expanded nodes event turn own before cites kept live made made_all offered =
    let start = old.falls in
    record {
      more = more;
      events = old.events ++ x ∷ [];
      fills = fills ∙ (ap (λ (fs : List Fill). fs ++ x.fill ∷ []) old.fills ∙ sym (fills-push old.events x));
      falls = omega arith;
      new = nodes.new;
      rows = nodes.rows;
      fronts = fronts;
      expanded = expanded;
      account = nodes.account;
      once = nodes.once;
      past = nodes.past;
      suits = nodes.suits;
      each = Each-append (IsEventOf P b now.pass.least_seen) old.events (x ∷ []) (later-event P b at.pass.least_seen now.pass.least_seen old.events falls old.each) (event, tt);
      turns = turns-push P old.events x old.turns turn own before;
      cites = λ i q e g says. elim (got-pushed old.events x e i g) [
        | inl there ↦ elim (old.cites i q e there says) [ inl c ↦ inl (cited-more P b old.events x q e.front c) | inr k ↦ inr (kept i k) ]
        | inr last ↦ elim (cites q (ap says_event last.1 ∙ says)) [
          | inl c ↦ inl (subst (λ (y : Event). IsCitedIn P b (old.events ++ x ∷ []) q y.front) last.1 (cited-more P b old.events x q x.front c))
          | inr k ↦ inr (subst (Contains t.live) (sym last.0) k)
        ]
      ];
      live = live;
      made = made;
      made_all = made_all;
      offered = offered;
    }
