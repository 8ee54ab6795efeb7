-- A share at its start.
use Rattle.std.proofs.Common.{◌≡◌, ◌<◌, ◌≤◌, inl, refl, sym, ap, subst, arith, List, [], ◌++◌, append-nil, ◌∙◌, All}
use Rattle.std.specs.List.{AllZip}
use Rattle.std.proofs.lemmas.List.Elements.{All-nil}
use Rattle.rcpsp_model.specs.Project.{Project}
use Rattle.rcpsp_model.proofs.Lists.{In-from_Contains}
use Rattle.cutset_store.specs.Index.{fronts_of}
use Rattle.search_log.specs.Weights.{Each}
use Rattle.search_log.specs.Stands.{Waiting}
use Rattle.search_log.proofs.Sums.{Each-weaker}
use Rattle.search_rounds.specs.declared.round.WaitingNode.{WaitingNode}
use Rattle.search_rounds.specs.Round.{waiting_of}
use Rattle.tree_worker.specs.Worker.{Progress}
use Rattle.round_shares.specs.Part.{Beginning, IsCitedLive, IsMadeIn, IsOffered}
use Rattle.round_shares.specs.Share.{room, first_place, IsPast, Handled, IsShare}
use Rattle.round_shares.specs.Crew.{IsFresh}
use Rattle.node_sources.specs.Source.{SourceState, given_by, taken_by}
use Rattle.steal_rounds.specs.Lists.{new_part}
use Rattle.steal_rounds.specs.Sources.{handled_by}

-- the places of these nodes are below those of the new rows of workers
abbrev pub AreBelowRoom : List Waiting → Type 0
AreBelowRoom ws = Each (λ w. w.place < room) ws

-- what was dealt to a worker, who took nothing out of deques and gave nothing to one
abbrev pub dealt_to : List WaitingNode → Handled
dealt_to dealt = record { got = waiting_of dealt; given = [] }

abbrev handles : List Waiting → List Waiting → Handled
handles got given = record { got = got; given = given }

pub handled-new : (dealt : List Waiting) (s : SourceState) → given_by s ≡ [] → taken_by s ≡ [] → handled_by dealt s ≡ record { got = dealt; given = [] }
handled-new dealt s given taken =
    ap (λ (ws : List WaitingNode). handles (dealt ++ waiting_of ws) (waiting_of (given_by s))) taken
    ∙ (ap (λ (ws : List WaitingNode). handles (dealt ++ []) (waiting_of ws)) given ∙ ap (λ (ws : List Waiting). handles ws []) (append-nil dealt))

-- what was dealt waits
pub begin-share : (P : Project) (b : Beginning) (at : Progress) (dealt : List WaitingNode) → IsFresh b at → 1 ≤ b.first_worker → AreBelowRoom (waiting_of dealt) → IsShare P b (dealt_to dealt) at (new_part dealt)
begin-share P b at dealt fresh some below = record {
  more = [];
  events = [];
  fills = refl;
  falls = fresh.seen;
  new = tt;
  rows = tt;
  fronts = sym (ap fronts_of fresh.expanded);
  expanded = refl;
  account = λ weight. refl;
  once = λ weight. omega arith;
  past = subst (Each (λ (w : Waiting). IsPast (first_place b.first_worker) 0 w.place)) (sym (append-nil (waiting_of dealt)))
      (Each-weaker (λ (w : Waiting). w.place < room) (λ (w : Waiting). IsPast (first_place b.first_worker) 0 w.place) (waiting_of dealt) (λ w l. inl (omega arith)) below);
  suits = tt;
  each = tt;
  turns = record {
    few = λ e c. absurd (In-from_Contains [] e c);
    one = λ e f c d. absurd (In-from_Contains [] e c);
    own = λ e f c d. absurd (In-from_Contains [] e c);
    before = λ e f x c d. absurd (In-from_Contains [] e c);
  };
  cites = λ i q e is. absurd cc;
  live = subst (AllZip (IsCitedLive P []) []) (sym fresh.live) tt;
  made = All-nil (IsMadeIn P []);
  made_all = λ e c. absurd (In-from_Contains [] e c);
  offered = subst (All (IsOffered P b [])) (sym fresh.offers) (All-nil (IsOffered P b []));
}
