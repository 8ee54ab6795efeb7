-- The rule at the start of a round, and what it gives at its end.
use Rattle.std.proofs.Common.{◌≡◌, ℕ, zero, suc, ◌+◌, ◌*◌, ◌<◌, ◌≤◌, true≢false, List, [], ◌∷◌, length, get_or, take, replicate, min, sym, refl, ap, ◌∙◌, inl, subst, arith}
use Rattle.std.proofs.lemmas.List.{get_or-take, length-take-le, get_or-replicate, length-replicate}
use mathlib.Core.Option.{some, some-injective, some-ne-none}
use lib.ListN.{get_elem?}
use Rattle.atomic_table.specs.Table.{opening, Final, Seen}
use Rattle.search_table.specs.declared.view.PassView.{PassView}
use Rattle.search_table.specs.declared.view.RoundTerms.{RoundTerms}
use Rattle.search_table.specs.Lists.{least}
use Rattle.search_table.specs.Counts.{made_by, seen_of}
use Rattle.search_table.specs.Views.{first_view}
use Rattle.search_table.specs.Passes.{At, IsLive, total}
use Rattle.search_table.specs.Rule.{won_of, refused_of, passes_of, AreOf, IsOfRound, KeepsRound}
use Rattle.search_table.specs.BetweenSteps.{count_in, HoldsBetweenSteps}
use Rattle.search_table.proofs.Totals.{total-one}
use Rattle.search_table.proofs.LeastOffers.{least_offer-one}
use Rattle.search_table.proofs.SplitWorkers.{nothing_once}
use Rattle.search_table.proofs.CountSteps.{KeepsCounts-first, seen-made}

-- a list of one view has that view alone
only : (x : PassView) (i : ℕ) (v : PassView) → At (x ∷ []) i v → (i ≡ 0) × (x ≡ v)
only x zero v e = (refl, some-injective x v e)
only x (suc i) v e = absurd (some-ne-none v (sym e))

round_opens : (k : RoundTerms) → k.quota ≤ 4096 → k.workers ≤ 32 → KeepsRound k k.start 0 (first_view k ∷ [])
round_opens k q n = let x : PassView = first_view k in record {
  limits = (q, n);
  best = record { least_of_all = omega arith; seen = λ i v e _. let is : k.start ≡ v.least_seen = ap (λ (u : PassView). u.least_seen) (only x i v e).1 in omega arith };
  tickets = record { drawn = refl; won = omega arith; refused = λ i v e. subst (λ (u : PassView). u.refused ≤ u.passes) (only x i v e).1 (omega arith) };
  numbers = record {
    passes = omega arith;
    apart = λ i j u v iu jv _ _ _. (only x i u iu).0 ∙ sym (only x j v jv).0;
    first = λ i v e _ _. subst (λ (u : PassView). AreOf k.workers u.split_off (x ∷ [])) (only x i v e).1 record {
      all = refl;
      once = nothing_once;
      in_range = λ _ h. absurd (true≢false (sym h));
      known = λ j u ju _. inl (ap (λ (y : PassView). y.number) (sym (only x j u ju).1));
    };
  };
  each = λ i v e. subst (IsOfRound k) (only x i v e).1 record { terms_of = λ _. refl; spent = λ none. absurd (omega arith) };
}

-- the words at the start: the best, and then zeros
abbrev row : RoundTerms → ℕ → List ℕ
row k more = k.start ∷ replicate more 0

abbrev pub first_words : RoundTerms → ℕ → List ℕ
first_words k more = take (16 + 8 * k.workers) (row k more)

length-row : (k : RoundTerms) (more : ℕ) → length (row k more) ≡ 1 + more
length-row k more = let zeros : List ℕ = replicate more 0 in let long : length zeros ≡ more = length-replicate more 0 in omega arith

first_words-zero : (k : RoundTerms) (more i : ℕ) → 15 + 8 * k.workers ≤ more → i < 15 + 8 * k.workers → get_or (first_words k more) (1 + i) 0 ≡ 0
first_words-zero k more i wide low = get_or-take (16 + 8 * k.workers) (row k more) (1 + i) 0 (omega arith) ∙ by_place (1 + i) (omega arith) (omega arith)
  where
    by_place : (j : ℕ) → 1 ≤ j → j < 16 + 8 * k.workers → get_or (row k more) j 0 ≡ 0
    by_place zero pos l = absurd (omega arith)
    by_place (suc j) pos l = get_or-replicate more j 0 0 (omega arith)

pub opens : (k : RoundTerms) (more : ℕ) → k.quota ≤ 4096 → k.workers ≤ 32 → 15 + 8 * k.workers ≤ more → HoldsBetweenSteps k (opening (first_words k more) [] (first_view k))
opens k more q n wide =
    let ws : List ℕ = first_words k more in let long = length-row k more in
    let best : get_or ws 0 0 ≡ k.start = get_or-take (16 + 8 * k.workers) (row k more) 0 0 (omega arith) in
    let tickets : get_or ws 8 0 ≡ 0 = first_words-zero k more 7 wide (omega arith) in record {
      words = length-take-le (16 + 8 * k.workers) (row k more) (omega arith);
      round = subst (λ (z : ℕ × ℕ). KeepsRound k z.0 z.1 (first_view k ∷ [])) (λ i. (sym best i, sym tickets i)) (round_opens k q n);
      counts = KeepsCounts-first k (count_in ws) (λ worker is. let high = is.high in let at : 8 + 8 * worker ≡ 1 + (7 + 8 * worker) = omega arith in ap (λ (i : ℕ). get_or ws i 0) at ∙ first_words-zero k more (7 + 8 * worker) wide (omega arith));
    }

-- what the last words are, where the closing pass stands for all, and what it has seen
pub record Ending (b t : ℕ) (v : PassView) : Type 0 where
  pub best : b ≡ least v.terms.start v.offers
  pub seen : b ≤ v.least_seen
  pub tickets : t ≡ v.won + v.refused
  pub won : v.won ≡ min t v.terms.quota
  pub published : (worker : ℕ) → 1 ≤ worker → worker ≤ v.terms.workers → seen_of worker v ≤ made_by worker v

pub ends : (k : RoundTerms) (id : ℕ) (v : PassView) (ws : List ℕ) (xs : List (Unit {0})) → IsLive v → v.number ≡ 0 → v.passes ≡ 1 + length v.split_off → Final (Seen (HoldsBetweenSteps k) id v) ws xs
    → Ending (get_or ws 0 0) (get_or ws 8 0) v
ends k id v ws xs live zeroth all (s, (h, at), words, _, _) =
    let r = h.round in let of = (r.numbers.first id v at live zeroth).all in let mine : total passes_of s.views ≡ v.passes = omega arith in
    let is : v.terms ≡ k = (r.each id v at).terms_of live in let q : v.terms.quota ≡ k.quota = ap (λ (x : RoundTerms). x.quota) is in
    let n : v.terms.workers ≡ k.workers = ap (λ (x : RoundTerms). x.workers) is in
    let st : least v.terms.start v.offers ≡ least k.start v.offers = ap (λ (x : RoundTerms). least x.start v.offers) is in
    let o = least_offer-one k.start s.views id v at mine (λ j u e p. ((r.each j u e).spent p).1) in
    let w = total-one passes_of won_of s.views id v at mine (λ j u e p. ((r.each j u e).spent p).0) in
    let f = total-one passes_of refused_of s.views id v at mine (λ j u e p. let l = r.tickets.refused j u e in omega arith) in
    let best = r.best.least_of_all in let seen = r.best.seen id v at live in let drawn = r.tickets.drawn in let won = r.tickets.won in
    let w0 : get_or s.words 0 0 ≡ get_or ws 0 0 = ap (λ (l : List ℕ). get_or l 0 0) words in let w1 : get_or s.words 8 0 ≡ get_or ws 8 0 = ap (λ (l : List ℕ). get_or l 8 0) words in record {
      best = omega arith;
      seen = omega arith;
      tickets = omega arith;
      won = omega arith;
      published = λ worker low high. seen-made k.workers (count_in s.words) s.views id v h.counts at live mine worker record { low = low; high = omega arith };
    }

pub word_is : (xs : List ℕ) (i n : ℕ) → get_elem? xs i ≡ some n → get_or xs i 0 ≡ n
word_is [] i n e = absurd (some-ne-none n (sym e))
word_is (x ∷ xs) zero n e = some-injective x n e
word_is (x ∷ xs) (suc i) n e = word_is xs i n e
