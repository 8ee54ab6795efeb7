-- The passes stay numbered, whichever view changes, is split off or is joined away.
use Rattle.std.proofs.Common.{◌≡◌, ◌≢◌, ℕ, ◌+◌, ◌<◌, ◌≤◌, ◌⊎◌, true≢false, nat_eq, List, [], ◌∷◌, ◌++◌, length, set, sym, refl, ap, ◌∙◌, inl, inr, ⊎_elim, subst, arith, length-append}
use Rattle.std.specs.List.{list_any}
use Rattle.atomic_table.proofs.Lists.{at_set}
use Rattle.search_table.specs.declared.view.PassView.{PassView}
use Rattle.search_table.specs.Lists.{Has, Lacks}
use Rattle.search_table.specs.Views.{with_worker, worker_view, joint_view, spent_view}
use Rattle.search_table.specs.Passes.{At, IsLive, total}
use Rattle.search_table.specs.Rule.{passes_of, AreOf, AreNumbered}
use Rattle.search_table.proofs.Totals.{At-snoc, total-set, total-snoc}
use Rattle.search_table.proofs.SplitWorkers.{once_more, Has-before, Has-last, Has-snoc, length-le}

-- what a step on a word leaves of a view
pub record IsSamePass (v w : PassView) : Type 0 where
  pub number : w.number ≡ v.number
  pub passes : w.passes ≡ v.passes
  pub split_off : w.split_off ≡ v.split_off

-- a view after such a step, with what it was before
before : (vs : List PassView) (i : ℕ) (v w : PassView) → At vs i v → IsSamePass v w → (j : ℕ) (u : PassView) → At (set vs i w) j u → (old : PassView) × At vs j old × IsSamePass old u
before vs i v w e s j u at = ⊎_elim (λ (t : (j ≡ i) × (w ≡ u)). (v, subst (λ (n : ℕ). At vs n v) (sym t.0) e, subst (λ (y : PassView). IsSamePass v y) t.1 s))
    (λ (t : (j ≢ i) × At vs j u). (u, t.1, record { number = refl; passes = refl; split_off = refl })) (at_set vs i j w u at)

pub AreNumbered-set : (workers : ℕ) (vs : List PassView) (i : ℕ) (v w : PassView) → AreNumbered workers vs → At vs i v → IsSamePass v w → AreNumbered workers (set vs i w)
AreNumbered-set workers vs i v w r e s = let d = total-set passes_of vs i v w e in let sp = s.passes in let p = r.passes in record {
  passes = omega arith;
  apart = λ a c x y ax cy px py n.
      let o = before vs i v w e s a x ax in let q = before vs i v w e s c y cy in let p = o.2.passes in let p' = q.2.passes in
      r.apart a c o.0 q.0 o.1 q.1 (omega arith) (omega arith) (sym o.2.number ∙ n ∙ q.2.number);
  first = λ a x ax px z.
      let o = before vs i v w e s a x ax in let p = o.2.passes in let f = r.first a o.0 o.1 (omega arith) (sym o.2.number ∙ z) in let all = f.all in
      subst (λ (ws : List ℕ). AreOf workers ws (set vs i w)) (sym o.2.split_off) record {
        all = omega arith;
        once = f.once;
        in_range = f.in_range;
        known = λ j u ju pu. let q = before vs i v w e s j u ju in let p' = q.2.passes in
            subst (λ (n : ℕ). (n ≡ 0) ⊎ Has o.0.split_off n) (sym q.2.number) (f.known j q.0 q.1 (omega arith));
      };
}

-- a view of before a split, but perhaps for the workers split off
record Stood (vs : List PassView) (j : ℕ) (u : PassView) : Type 0 where
  old : PassView
  here : At vs j old
  number : u.number ≡ old.number
  passes : u.passes ≡ old.passes

abbrev IsNew : List PassView → PassView → ℕ → PassView → Type 0
IsNew mid right j u = (j ≡ length mid) × (right ≡ u)

-- after a split a view stood there before, or is the new one
stood_or_new : (vs : List PassView) (i : ℕ) (v left right : PassView) → At vs i v → left.number ≡ v.number → left.passes ≡ v.passes → (j : ℕ) (u : PassView) → At (set vs i left ++ right ∷ []) j u
    → Stood vs j u ⊎ IsNew (set vs i left) right j u
stood_or_new vs i v left right at n p j u e = ⊎_elim
    (λ (a : At (set vs i left) j u). inl (⊎_elim
    (λ (y : (j ≡ i) × (left ≡ u)). record {
      old = v;
      here = subst (λ (m : ℕ). At vs m v) (sym y.0) at;
      number = ap (λ (o : PassView). o.number) (sym y.1) ∙ n;
      passes = ap (λ (o : PassView). o.passes) (sym y.1) ∙ p;
    })
    (λ (y : (j ≢ i) × At vs j u). record { old = u; here = y.1; number = refl; passes = refl }) (at_set vs i j left u a)))
    (λ c. inr c) (At-snoc (set vs i left) right j u e)

-- before a split no pass that is there has the number of the worker
not_there : (workers worker : ℕ) (vs : List PassView) (split_off : List ℕ) → AreOf workers split_off vs → 0 < worker → Lacks split_off worker
    → (j : ℕ) (u : PassView) → Stood vs j u → IsLive u → u.number ≢ worker
not_there workers worker vs split_off of pos out j u s live n = let p = s.passes in ⊎_elim
    (λ (z : s.old.number ≡ 0). let m = s.number in absurd (omega arith))
    (λ (z : Has split_off s.old.number). true≢false (sym z ∙ ap (λ (m : ℕ). list_any (nat_eq m) split_off) (sym s.number ∙ n) ∙ out)) (of.known j s.old s.here (omega arith))

split_apart : (workers worker : ℕ) (vs : List PassView) (i : ℕ) (v : PassView) → AreNumbered workers vs → At vs i v → IsLive v → v.number ≡ 0 → 0 < worker → Lacks v.split_off worker
    → (a c : ℕ) (x y : PassView) → At (set vs i (with_worker worker v) ++ worker_view worker v ∷ []) a x → At (set vs i (with_worker worker v) ++ worker_view worker v ∷ []) c y
    → IsLive x → IsLive y → x.number ≡ y.number → a ≡ c
split_apart workers worker vs i v r at live zeroth pos out a c x y ax cy px py n =
    let left : PassView = with_worker worker v in let right : PassView = worker_view worker v in let mid : List PassView = set vs i left in let of = r.first i v at live zeroth in ⊎_elim
    (λ (s : Stood vs a x). ⊎_elim
    (λ (q : Stood vs c y). let p = s.passes in let p' = q.passes in r.apart a c s.old q.old s.here q.here (omega arith) (omega arith) (sym s.number ∙ n ∙ q.number))
    (λ (q : IsNew mid right c y). absurd (not_there workers worker vs v.split_off of pos out a x s px (n ∙ ap (λ (o : PassView). o.number) (sym q.1)))) (stood_or_new vs i v left right at refl refl c y cy))
    (λ (s : IsNew mid right a x). ⊎_elim
    (λ (q : Stood vs c y). absurd (not_there workers worker vs v.split_off of pos out c y q py (sym n ∙ ap (λ (o : PassView). o.number) (sym s.1))))
    (λ (q : IsNew mid right c y). s.0 ∙ sym q.0) (stood_or_new vs i v left right at refl refl c y cy)) (stood_or_new vs i v left right at refl refl a x ax)

pub AreNumbered-split : (workers worker : ℕ) (vs : List PassView) (i : ℕ) (v : PassView) → AreNumbered workers vs → At vs i v → IsLive v → v.number ≡ 0 → 0 < worker → worker ≤ workers → Lacks v.split_off worker
    → AreNumbered workers (set vs i (with_worker worker v) ++ worker_view worker v ∷ [])
AreNumbered-split workers worker vs i v r at live zeroth pos most out =
    let left : PassView = with_worker worker v in let right : PassView = worker_view worker v in let mid : List PassView = set vs i left in let new : List PassView = mid ++ right ∷ [] in
    let of = r.first i v at live zeroth in let once = once_more v.split_off worker of.once out in
    let in_range : (x : ℕ) → Has left.split_off x → (0 < x) × (x ≤ workers) = λ x h. ⊎_elim (λ (y : Has v.split_off x). of.in_range x y) (λ (y : x ≡ worker). (omega arith, omega arith)) (Has-snoc v.split_off worker x h) in
    let room = length-le workers left.split_off once in_range in let longer = length-append v.split_off (worker ∷ []) in
    let p = total-set passes_of vs i v left at in let q = total-snoc passes_of mid right in let o = of.all in
    let all : total passes_of new ≡ 1 + length left.split_off = omega arith in
    let known : (j : ℕ) (u : PassView) → At new j u → IsLive u → (u.number ≡ 0) ⊎ Has left.split_off u.number = λ j u e l. ⊎_elim
    (λ (s : Stood vs j u). let sp = s.passes in subst (λ (n : ℕ). (n ≡ 0) ⊎ Has left.split_off n) (sym s.number) (⊎_elim (λ (z : s.old.number ≡ 0). inl z)
    (λ (z : Has v.split_off s.old.number). inr (Has-before v.split_off worker s.old.number z)) (of.known j s.old s.here (omega arith))))
    (λ (s : IsNew mid right j u). inr (subst (λ (z : PassView). Has left.split_off z.number) s.1 (Has-last v.split_off worker))) (stood_or_new vs i v left right at refl refl j u e) in record {
      passes = omega arith;
      apart = split_apart workers worker vs i v r at live zeroth pos out;
      first = λ a x e l z. ⊎_elim
          (λ (y : At mid a x). ⊎_elim
          (λ (g : (a ≡ i) × (left ≡ x)). subst (λ (o : PassView). AreOf workers o.split_off new) g.1 record { all = all; once = once; in_range = in_range; known = known })
          (λ (g : (a ≢ i) × At vs a x). absurd (g.0 (r.apart a i x v g.1 at l live (z ∙ sym zeroth)))) (at_set vs i a left x y))
          (λ (y : (a ≡ length mid) × (right ≡ x)). let n : worker ≡ x.number = ap (λ (o : PassView). o.number) y.1 in absurd (omega arith)) (At-snoc mid right a x e);
    }

-- a view that is there after a join was there before, with the same number and the same workers split off
record Stays (vs : List PassView) (j : ℕ) (u : PassView) : Type 0 where
  old : PassView
  here : At vs j old
  live : IsLive old
  number : u.number ≡ old.number
  split_off : u.split_off ≡ old.split_off

stays : (vs : List PassView) (i o : ℕ) (v both : PassView) → At vs i v → IsLive v → both.number ≡ v.number → both.split_off ≡ v.split_off
    → (j : ℕ) (u : PassView) → At (set (set vs i both) o spent_view) j u → IsLive u → Stays vs j u
stays vs i o v both at live n g j u e p = ⊎_elim
    (λ (x : (j ≡ o) × (spent_view ≡ u)). let z : 0 ≡ u.passes = ap passes_of x.1 in absurd (omega arith))
    (λ (x : (j ≢ o) × At (set vs i both) j u). ⊎_elim
    (λ (y : (j ≡ i) × (both ≡ u)). record {
      old = v;
      here = subst (λ (m : ℕ). At vs m v) (sym y.0) at;
      live = live;
      number = ap (λ (o : PassView). o.number) (sym y.1) ∙ n;
      split_off = ap (λ (o : PassView). o.split_off) (sym y.1) ∙ g;
    })
    (λ (y : (j ≢ i) × At vs j u). record { old = u; here = y.1; live = p; number = refl; split_off = refl }) (at_set vs i j both u x.1))
    (at_set (set vs i both) o j spent_view u e)

pub AreNumbered-join : (workers : ℕ) (vs : List PassView) (i o : ℕ) (v w : PassView) → AreNumbered workers vs → At vs i v → At (set vs i (joint_view v w)) o w → IsLive v
    → AreNumbered workers (set (set vs i (joint_view v w)) o spent_view)
AreNumbered-join workers vs i o v w r at there live =
    let both : PassView = joint_view v w in let mid : List PassView = set vs i both in let new : List PassView = set mid o spent_view in
    let p = total-set passes_of vs i v both at in let q = total-set passes_of mid o w spent_view there in let most = r.passes in
    let was : (j : ℕ) (u : PassView) → At new j u → IsLive u → Stays vs j u = λ j u e l. stays vs i o v both at live refl refl j u e l in record {
      passes = omega arith;
      apart = λ a c x y ax cy px py n. let s = was a x ax px in let t = was c y cy py in r.apart a c s.old t.old s.here t.here s.live t.live (sym s.number ∙ n ∙ t.number);
      first = λ a x e l z. let s = was a x e l in let of = r.first a s.old s.here s.live (sym s.number ∙ z) in let all = of.all in
          subst (λ (ws : List ℕ). AreOf workers ws new) (sym s.split_off) record {
            all = omega arith;
            once = of.once;
            in_range = of.in_range;
            known = λ j u ju pu. let t = was j u ju pu in subst (λ (n : ℕ). (n ≡ 0) ⊎ Has s.old.split_off n) (sym t.number) (of.known j t.old t.here t.live);
          };
    }
