-- One worker more is gathered, and at the end what is left.
use Rattle.std.proofs.Common.{◌≡◌, ℕ, ◌+◌, Bool, true, false, nat_lt, if◌then◌else◌, refl, sym, ap, subst, ◌∙◌, arith, List, [], ◌∷◌, ◌++◌, drop, length, length-append, append_assoc, append-nil, map, Option, Some, None, Result, Ok, Err}
use Rattle.std.specs.Prelude.{IfSome, OnOk}
use Rattle.std.proofs.lemmas.List.{length-map, map-append}
use Rattle.rcpsp_model.specs.declared.parts.Placing.{Placing}
use Rattle.rcpsp_model.specs.Project.{Project}
use Rattle.rcpsp_model.specs.Schedule.{end_of, entries}
use Rattle.search_rounds.specs.declared.round.WaitingNode.{WaitingNode}
use Rattle.tree_worker.specs.declared.live.LiveNote.{LiveNote}
use Rattle.node_sources.specs.Source.{SourceState}
use Rattle.node_sources.specs.Settled.{IsSettled}
use Rattle.steal_rounds.specs.declared.member.Member.{Member}
use Rattle.steal_rounds.specs.declared.gathering.Published.{Published}
use Rattle.steal_rounds.specs.declared.gathering.Whole.{Whole}
use Rattle.round_shares.specs.Part.{PartState}
use Rattle.round_shares.specs.Crew.{real_record, real_waiting, all_left, crew_part}
use Rattle.steal_rounds.specs.Lists.{new_part}
use Rattle.steal_rounds.specs.Whole.{whole_state, worked, source_of, all_lists, AddsLeft, better_plan, IsShort, all_cited, ArePublishedBy, best_plan, AddsMember}
use Rattle.steal_rounds.proofs.JoinedMembers.{joined_parts, joined-left, lists-left, joined-crew}

pub short-better : (P : Project) (p q : Option (List Placing)) → IfSome p (IsShort P) → IfSome q (IsShort P) → IfSome (better_plan P p q) (IsShort P)
short-better P None q a b = b
short-better P (Some s) None a b = a
short-better P (Some s) (Some t) a b = by (nat_lt (end_of P (entries t)) (end_of P (entries s))) refl
  where
    by : (less : Bool) → nat_lt (end_of P (entries t)) (end_of P (entries s)) ≡ less → IfSome (better_plan P (Some s) (Some t)) (IsShort P)
    by true e = subst (λ (z : Bool). IfSome (if z then Some t else Some s) (IsShort P)) (sym e) b
    by false e = subst (λ (z : Bool). IfSome (if z then Some t else Some s) (IsShort P)) (sym e) a

-- of the members that are left, the first was added
pub record Gathers (P : Project) (starts : List ℕ) (old new : Whole) (m : Member) (rest : List Member) : Type 0 where
  pub lists : joined_parts starts (whole_state new) rest ≡ joined_parts starts (whole_state old) (m ∷ rest)
  pub cited : new.cited.items ++ all_cited rest ≡ old.cited.items ++ all_cited (m ∷ rest)
  pub published : (ps : List Published) → ArePublishedBy (length new.made.items) rest ps → (more : List Published) × ArePublishedBy (length old.made.items) (m ∷ rest) more × (new.published.items ++ ps ≡ old.published.items ++ more)
  pub plan : best_plan P new.plan rest ≡ best_plan P old.plan (m ∷ rest)

pub gathers : (P : Project) (starts : List ℕ) (old new : Whole) (m : Member) (rest : List Member) → AddsMember P starts m old new → Gathers P starts old new m rest
gathers P starts old new m rest a = record {
  lists = ap (λ (s : PartState). joined_parts starts s rest) a.lists;
  cited = ap (λ (xs : List LiveNote). xs ++ all_cited rest) a.cited ∙ append_assoc old.cited.items m.worker.live (all_cited rest);
  published = λ ps are.
      let made : new.made.items ≡ old.made.items ++ map (real_record starts) m.part.made.items = ap (λ (s : PartState). s.made) a.lists in
      let count = ap length made in
      let la = length-append old.made.items (map (real_record starts) m.part.made.items) in
      let lm = length-map m.part.made.items (real_record starts) in
      let many : length new.made.items ≡ length old.made.items + length m.part.made.items = omega arith in
      (a.by ∷ ps, (a.is_by, subst (λ (n : ℕ). ArePublishedBy n rest ps) many are), ap (λ (xs : List Published). xs ++ ps) a.published ∙ append_assoc old.published.items (a.by ∷ []) ps);
  plan = ap (λ (p : Option (List Placing)). best_plan P p rest) a.plan;
}

-- a list that stays where its first item is taken has none
pub none-dropped : (ms rest : List Member) → ms ≡ rest → rest ≡ drop 1 ms → ms ≡ []
none-dropped [] rest a b = refl
none-dropped (m ∷ ms) rest a b = absurd (let e : length (m ∷ ms) ≡ length ms = ap length (a ∙ b) in omega arith)

-- What is left.

pub on-ok : {X E : Type 0} (r : Result X E) (Q R : Type 0) → (Q → R) → OnOk r Q → OnOk r R
on-ok (Ok x) Q R f q = f q
on-ok (Err e) Q R f q = tt

-- the lists, and then the rest
pub added-left : (starts : List ℕ) (before mid after xs ys : List WaitingNode) → mid ≡ before ++ map (real_waiting starts) xs → after ≡ mid ++ map (real_waiting starts) ys → after ≡ before ++ map (real_waiting starts) (xs ++ ys)
added-left starts before mid after xs ys a b =
    b ∙ (ap (λ (ws : List WaitingNode). ws ++ map (real_waiting starts) ys) a
    ∙ (append_assoc before (map (real_waiting starts) xs) (map (real_waiting starts) ys) ∙ ap (λ (ws : List WaitingNode). before ++ ws) (sym (map-append (real_waiting starts) xs ys))))

-- with what is left, the parts of all members are those of the crew
pub whole-all : (starts : List ℕ) (s : PartState) (left : List WaitingNode) (ms : List Member) (ss : List SourceState) → s ≡ joined_parts starts (new_part []) ms → ss ≡ map source_of ms → (a : AddsLeft starts ss s.left left) →
    IsSettled (map source_of ms) a.settled × (record s { left = left } ≡ crew_part starts (map worked ms) a.settled.rest)
whole-all starts s left ms ss e all a =
    let settled = subst (λ (xs : List SourceState). IsSettled xs a.settled) all a.is in
    let none : s.left ≡ [] = ap (λ (t : PartState). t.left) e ∙ joined-left starts (new_part []) ms in
    let lists : all_lists a.settled.lists.items ≡ all_left (map worked ms) = ap all_lists settled.lists ∙ lists-left ms in
    let is : left ≡ map (real_waiting starts) (all_left (map worked ms) ++ a.settled.rest) =
    a.left ∙ (ap (λ (ws : List WaitingNode). ws ++ map (real_waiting starts) (all_lists a.settled.lists.items ++ a.settled.rest)) none ∙ ap (λ (ws : List WaitingNode). map (real_waiting starts) (ws ++ a.settled.rest)) lists) in (
      settled,
      ap (λ (t : PartState). record t { left = left }) e ∙ (ap (λ (ws : List WaitingNode). record (joined_parts starts (new_part []) ms) { left = ws }) is ∙ joined-crew starts ms a.settled.rest),
    )

-- the sources that were kept are those of all members
pub sources-all : (ss : List SourceState) (rest first ms : List Member) → rest ≡ [] → ss ++ map source_of rest ≡ map source_of first → first ≡ ms → ss ≡ map source_of ms
sources-all ss rest first ms none kept all = sym (append-nil ss) ∙ (sym (ap (λ (xs : List Member). ss ++ map source_of xs) none) ∙ (kept ∙ ap (map source_of) all))
