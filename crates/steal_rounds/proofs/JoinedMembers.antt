-- What the members of a crew did, joined one after another, is what the crew did.
use Rattle.std.proofs.Common.{◌≡◌, ℕ, ◌+◌, refl, sym, ap, ◌∙◌, arith, List, [], ◌∷◌, ◌++◌, length, length-append, append_assoc, append-nil, map, Global}
use Rattle.std.specs.declared.vec.Vec.{Vec}
use Rattle.std.proofs.lemmas.List.{length-map, map-append}
use Rattle.rcpsp_model.specs.Project.{Project}
use Rattle.search_log.specs.declared.row.Fill.{Fill}
use Rattle.search_log.specs.Weights.{total}
use Rattle.search_log.specs.Stands.{Waiting}
use Rattle.search_log.proofs.Sums.{total-append}
use Rattle.search_rounds.specs.declared.round.NewRow.{NewRow}
use Rattle.search_rounds.specs.declared.round.PlacedRecord.{PlacedRecord}
use Rattle.search_rounds.specs.declared.round.WaitingNode.{WaitingNode}
use Rattle.search_rounds.specs.Round.{waiting_of}
use Rattle.tree_worker.specs.Worker.{Progress}
use Rattle.round_shares.specs.Part.{PartState}
use Rattle.node_sources.specs.declared.settling.Settled.{Settled}
use Rattle.node_sources.specs.Source.{given_by, taken_by}
use Rattle.node_sources.specs.Settled.{all_taken, IsSettled}
use Rattle.node_sources.specs.Settled as sources
use Rattle.round_shares.specs.Crew.{Worked, starts_from, real_fill, real_record, real_waiting, all_grown, all_fills, all_live, all_made, all_left, all_got, all_given, IsHandedOn, crew_part, joined_progress, crew_progress}
use Rattle.steal_rounds.specs.declared.member.Member.{Member}
use Rattle.steal_rounds.specs.declared.gathering.Whole.{Whole}
use Rattle.steal_rounds.specs.Lists.{part_state, new_part}
use Rattle.steal_rounds.specs.Dealt.{all_dealt}
use Rattle.steal_rounds.specs.Members.{progress_of}
use Rattle.steal_rounds.specs.Sources.{handled_by}
use Rattle.steal_rounds.specs.Whole.{whole_state, worked, joined_part, source_of, all_lists, IsWholeOf}
use Rattle.round_shares.proofs.CrewNodes.{waiting-append}
use Rattle.steal_rounds.proofs.SameParts.{same_part}

-- the lists of all members, joined to the lists s
abbrev pub joined_parts : List ℕ → PartState → List Member → PartState
joined_parts starts s [] = s
joined_parts starts s (m ∷ ms) = joined_parts starts (joined_part starts s (part_state m.part)) ms

-- those of workers, behind the lists s; what is left stays
abbrev behind : List ℕ → PartState → List Worked → PartState
behind starts s ws = record {
  grown = s.grown ++ all_grown ws;
  fills = s.fills ++ map (real_fill starts) (all_fills ws);
  live = s.live ++ all_live (length s.fills) ws;
  made = s.made ++ map (real_record starts) (all_made ws);
  left = s.left;
}

joined-behind : (starts : List ℕ) (s : PartState) (ms : List Member) → joined_parts starts s ms ≡ behind starts s (map worked ms)
joined-behind starts s [] =
    same_part s (behind starts s []) (sym (append-nil s.grown)) (sym (append-nil s.fills)) (sym (append-nil s.live)) (sym (append-nil s.made)) refl
joined-behind starts s (m ∷ ms) =
    let t = part_state m.part in
    let ws = map worked ms in
    let many : length (s.fills ++ map (real_fill starts) t.fills) ≡ length s.fills + length t.fills =
    length-append s.fills (map (real_fill starts) t.fills) ∙ ap (λ (n : ℕ). length s.fills + n) (length-map t.fills (real_fill starts)) in
    joined-behind starts (joined_part starts s t) ms
    ∙ same_part (behind starts (joined_part starts s t) ws) (behind starts s (map worked (m ∷ ms)))
    (append_assoc s.grown t.grown (all_grown ws))
    (append_assoc s.fills (map (real_fill starts) t.fills) (map (real_fill starts) (all_fills ws)) ∙ ap (λ (xs : List Fill). s.fills ++ xs) (sym (map-append (real_fill starts) t.fills (all_fills ws))))
    (append_assoc s.live (map (λ (i : ℕ). length s.fills + i) t.live) (all_live (length (s.fills ++ map (real_fill starts) t.fills)) ws)
    ∙ ap (λ (n : ℕ). s.live ++ (map (λ (i : ℕ). length s.fills + i) t.live ++ all_live n ws)) many)
    (append_assoc s.made (map (real_record starts) t.made) (map (real_record starts) (all_made ws)) ∙ ap (λ (xs : List PlacedRecord). s.made ++ xs) (sym (map-append (real_record starts) t.made (all_made ws))))
    refl

-- what was left before is left
pub joined-left : (starts : List ℕ) (s : PartState) (ms : List Member) → (joined_parts starts s ms).left ≡ s.left
joined-left starts s [] = refl
joined-left starts s (m ∷ ms) = joined-left starts (joined_part starts s (part_state m.part)) ms

-- and then what all have by themselves, and the rest
pub joined-crew : (starts : List ℕ) (ms : List Member) (rest : List WaitingNode) → record (joined_parts starts (new_part []) ms) { left = map (real_waiting starts) (all_left (map worked ms) ++ rest) } ≡ crew_part starts (map worked ms) rest
joined-crew starts ms rest = ap (λ (s : PartState). record s { left = map (real_waiting starts) (all_left (map worked ms) ++ rest) }) (joined-behind starts (new_part []) ms)

-- what the sources of all have by themselves
pub lists-left : (ms : List Member) → all_lists (map (λ s. s.list) (map source_of ms)) ≡ all_left (map worked ms)
lists-left [] = refl
lists-left (m ∷ ms) = ap (λ (ws : List WaitingNode). m.part.source.list ++ ws) (lists-left ms)

-- the places in the table of the first new row of each
abbrev pub starts_in : ℕ → List Member → List ℕ
starts_in table ms = starts_from table (map worked ms)

pub whole-joined : (P : Project) (table : ℕ) (ms : List Member) (whole : Whole) → IsWholeOf P table ms whole → whole_state whole ≡ record (joined_parts (starts_in table ms) (new_part []) ms) { left = whole.left.items }
whole-joined P table ms whole is =
    let starts = starts_in table ms in
    let crew = joined-crew starts ms is.settled.rest in
    let left : whole.left.items ≡ map (real_waiting starts) (all_left (map worked ms) ++ is.settled.rest) = ap (λ (s : PartState). s.left) is.lists in
    is.lists ∙ (sym crew ∙ ap (λ (ws : List WaitingNode). record (joined_parts starts (new_part []) ms) { left = ws }) (sym left))

-- What each was dealt.

-- each worker, with what it was dealt and what its source handled
abbrev pub crew_of : List (Vec WaitingNode Global) → List Member → List Worked
crew_of [] ms = []
crew_of (l ∷ lists) [] = []
crew_of (l ∷ lists) (m ∷ ms) = record (worked m) { handled = handled_by (waiting_of l.items) m.part.source } ∷ crew_of lists ms

-- the same lists
record AreAlike (ws vs : List Worked) : Type 0 where
  pub grown : all_grown ws ≡ all_grown vs
  pub fills : all_fills ws ≡ all_fills vs
  pub live : (n : ℕ) → all_live n ws ≡ all_live n vs
  pub made : all_made ws ≡ all_made vs
  pub left : all_left ws ≡ all_left vs
  pub starts : (p : ℕ) → starts_from p ws ≡ starts_from p vs

alike : (lists : List (Vec WaitingNode Global)) (ms : List Member) → length ms ≡ length lists → AreAlike (crew_of lists ms) (map worked ms)
alike [] [] e = record { grown = refl; fills = refl; live = λ n. refl; made = refl; left = refl; starts = λ p. refl }
alike [] (m ∷ ms) e = absurd (omega arith)
alike (l ∷ lists) [] e = absurd (omega arith)
alike (l ∷ lists) (m ∷ ms) e =
    let t = part_state m.part in
    let a = alike lists ms (omega arith) in
    record {
      grown = ap (λ (xs : List NewRow). t.grown ++ xs) a.grown;
      fills = ap (λ (xs : List Fill). t.fills ++ xs) a.fills;
      live = λ n. ap (λ (xs : List ℕ). map (λ (i : ℕ). n + i) t.live ++ xs) (a.live (n + length t.fills));
      made = ap (λ (xs : List PlacedRecord). t.made ++ xs) a.made;
      left = ap (λ (xs : List WaitingNode). t.left ++ xs) a.left;
      starts = λ p. ap (λ (ps : List ℕ). p ∷ ps) (a.starts (p + length t.grown));
    }

-- whatever each handled
pub crew-dealt : (table : ℕ) (lists : List (Vec WaitingNode Global)) (ms : List Member) (rest : List WaitingNode) → length ms ≡ length lists →
    crew_part (starts_from table (crew_of lists ms)) (crew_of lists ms) rest ≡ crew_part (starts_in table ms) (map worked ms) rest
crew-dealt table lists ms rest e =
    let a = alike lists ms e in
    let ws = crew_of lists ms in
    let vs = map worked ms in
    let s = a.starts table in
    same_part (crew_part (starts_from table ws) ws rest) (crew_part (starts_from table vs) vs rest) a.grown
    (ap (λ (ps : List ℕ). map (real_fill ps) (all_fills ws)) s ∙ ap (map (real_fill (starts_from table vs))) a.fills) (a.live 0)
    (ap (λ (ps : List ℕ). map (real_record ps) (all_made ws)) s ∙ ap (map (real_record (starts_from table vs))) a.made)
    (ap (λ (ps : List ℕ). map (real_waiting ps) (all_left ws ++ rest)) s ∙ ap (λ (xs : List WaitingNode). map (real_waiting (starts_from table vs)) (xs ++ rest)) a.left)

pub crew-many : (lists : List (Vec WaitingNode Global)) (ms : List Member) → length ms ≡ length lists → length (crew_of lists ms) ≡ length lists
crew-many [] ms e = refl
crew-many (l ∷ lists) [] e = absurd (omega arith)
crew-many (l ∷ lists) (m ∷ ms) e = let ih = crew-many lists ms (omega arith) in omega arith

-- what all have seen, done and cited
abbrev pub all_progress : Progress → List Member → Progress
all_progress at [] = at
all_progress at (m ∷ ms) = all_progress (joined_progress at (progress_of m)) ms

pub crew-progress : (at : Progress) (lists : List (Vec WaitingNode Global)) (ms : List Member) → length ms ≡ length lists → crew_progress at (crew_of lists ms) ≡ all_progress at ms
crew-progress at [] [] e = refl
crew-progress at [] (m ∷ ms) e = absurd (omega arith)
crew-progress at (l ∷ lists) [] e = absurd (omega arith)
crew-progress at (l ∷ lists) (m ∷ ms) e = crew-progress (joined_progress at (progress_of m)) lists ms (omega arith)

waiting-both : (weight : Waiting → ℕ) (xs ys : List WaitingNode) → total weight (waiting_of (xs ++ ys)) ≡ total weight (waiting_of xs) + total weight (waiting_of ys)
waiting-both weight xs ys = ap (total weight) (waiting-append xs ys) ∙ total-append weight (waiting_of xs) (waiting_of ys)

crew-got : (weight : Waiting → ℕ) (lists : List (Vec WaitingNode Global)) (ms : List Member) → length ms ≡ length lists →
    total weight (all_got (crew_of lists ms)) ≡ total weight (waiting_of (all_dealt lists)) + total weight (waiting_of (all_taken (map source_of ms)))
crew-got weight [] [] e = refl
crew-got weight [] (m ∷ ms) e = absurd (omega arith)
crew-got weight (l ∷ lists) [] e = absurd (omega arith)
crew-got weight (l ∷ lists) (m ∷ ms) e =
    let taken = taken_by m.part.source in
    let ih = crew-got weight lists ms (omega arith) in
    let a = total-append weight (waiting_of l.items ++ waiting_of taken) (all_got (crew_of lists ms)) in
    let b = total-append weight (waiting_of l.items) (waiting_of taken) in
    let c = waiting-both weight l.items (all_dealt lists) in
    let d = waiting-both weight taken (all_taken (map source_of ms)) in
    omega arith

crew-given : (weight : Waiting → ℕ) (lists : List (Vec WaitingNode Global)) (ms : List Member) → length ms ≡ length lists → total weight (all_given (crew_of lists ms)) ≡ total weight (waiting_of (sources.all_given (map source_of ms)))
crew-given weight [] [] e = refl
crew-given weight [] (m ∷ ms) e = absurd (omega arith)
crew-given weight (l ∷ lists) [] e = absurd (omega arith)
crew-given weight (l ∷ lists) (m ∷ ms) e =
    let given = given_by m.part.source in
    let ih = crew-given weight lists ms (omega arith) in
    let a = total-append weight (waiting_of given) (all_given (crew_of lists ms)) in
    let b = waiting-both weight given (sources.all_given (map source_of ms)) in
    omega arith

-- each node that was dealt or given away came to one of them, or nobody took it
pub crew-handed : (lists : List (Vec WaitingNode Global)) (ms : List Member) (settled : Settled) → length ms ≡ length lists → IsSettled (map source_of ms) settled → IsHandedOn (all_dealt lists) (crew_of lists ms) settled.rest
crew-handed lists ms settled e is weight =
    let a = crew-got weight lists ms e in
    let b = crew-given weight lists ms e in
    let c = is.once weight in
    omega arith
