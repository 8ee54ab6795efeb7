-- What the fate of a fill says, with its places in the table.
use Rattle.std.proofs.Common.{◌≡◌, ℕ, refl, ap, ◌∙◌, List}
use Rattle.log_truth.specs.Fates.{Reason}
use Rattle.search_log.specs.declared.row.RowFate.{RowFate}
use Rattle.search_log.specs.declared.row.RowFate.TheVariants.{Open, Expanded, Leaf, TailBound, WorkBound, Cited, Left, Shut}
use Rattle.search_log.specs.Fates.{row_expanded, row_late, row_cites, row_saying}
use Rattle.search_log.specs.Stands.{IsClosed, one_expanded}
use Rattle.round_shares.specs.Crew.{real_place, real_fate}

pub expanded-real : (starts : List ℕ) (fate : RowFate) (first count : ℕ) → row_saying fate ≡ row_expanded first count → row_saying (real_fate starts fate) ≡ row_expanded (real_place starts first) count
expanded-real starts Open first count e = absurd cc
expanded-real starts (Expanded c f) first count e =
    let a : f ≡ first = cc in
    let b : c ≡ count = cc in
    ap (λ (k : ℕ). row_expanded (real_place starts k) c) a ∙ ap (λ (k : ℕ). row_expanded (real_place starts first) k) b
expanded-real starts Leaf first count e = absurd cc
expanded-real starts TailBound first count e = absurd cc
expanded-real starts (WorkBound k) first count e = absurd cc
expanded-real starts (Cited q) first count e = absurd cc
expanded-real starts (Left b) first count e = absurd cc
expanded-real starts (Shut why) first count e = absurd cc

pub expanded-unreal : (starts : List ℕ) (fate : RowFate) (first count : ℕ) → row_saying (real_fate starts fate) ≡ row_expanded first count → (k : ℕ) × (row_saying fate ≡ row_expanded k count) × (real_place starts k ≡ first)
expanded-unreal starts Open first count e = absurd cc
expanded-unreal starts (Expanded c f) first count e =
    let b : c ≡ count = cc in
    let a : real_place starts f ≡ first = cc in
    (f, ap (λ (k : ℕ). row_expanded f k) b, a)
expanded-unreal starts Leaf first count e = absurd cc
expanded-unreal starts TailBound first count e = absurd cc
expanded-unreal starts (WorkBound k) first count e = absurd cc
expanded-unreal starts (Cited q) first count e = absurd cc
expanded-unreal starts (Left b) first count e = absurd cc
expanded-unreal starts (Shut why) first count e = absurd cc

pub cites-real : (starts : List ℕ) (fate : RowFate) (q : ℕ) → row_saying fate ≡ row_cites q → row_saying (real_fate starts fate) ≡ row_cites (real_place starts q)
cites-real starts Open q e = absurd cc
cites-real starts (Expanded c f) q e = absurd cc
cites-real starts Leaf q e = absurd cc
cites-real starts TailBound q e = absurd cc
cites-real starts (WorkBound k) q e = absurd cc
cites-real starts (Cited p) q e = let a : p ≡ q = cc in ap (λ (k : ℕ). row_cites (real_place starts k)) a
cites-real starts (Left b) q e = absurd cc
cites-real starts (Shut why) q e = absurd cc

pub cites-unreal : (starts : List ℕ) (fate : RowFate) (q : ℕ) → row_saying (real_fate starts fate) ≡ row_cites q → (k : ℕ) × (row_saying fate ≡ row_cites k) × (real_place starts k ≡ q)
cites-unreal starts Open q e = absurd cc
cites-unreal starts (Expanded c f) q e = absurd cc
cites-unreal starts Leaf q e = absurd cc
cites-unreal starts TailBound q e = absurd cc
cites-unreal starts (WorkBound k) q e = absurd cc
cites-unreal starts (Cited p) q e = (p, refl, let a : real_place starts p ≡ q = cc in a)
cites-unreal starts (Left b) q e = absurd cc
cites-unreal starts (Shut why) q e = absurd cc

pub late-real : (starts : List ℕ) (fate : RowFate) (reason : Reason) → row_saying fate ≡ row_late reason → row_saying (real_fate starts fate) ≡ row_late reason
late-real starts Open reason e = absurd cc
late-real starts (Expanded c f) reason e = absurd cc
late-real starts Leaf reason e = e
late-real starts TailBound reason e = e
late-real starts (WorkBound k) reason e = e
late-real starts (Cited q) reason e = absurd cc
late-real starts (Left b) reason e = e
late-real starts (Shut why) reason e = absurd cc

pub late-unreal : (starts : List ℕ) (fate : RowFate) (reason : Reason) → row_saying (real_fate starts fate) ≡ row_late reason → row_saying fate ≡ row_late reason
late-unreal starts Open reason e = absurd cc
late-unreal starts (Expanded c f) reason e = absurd cc
late-unreal starts Leaf reason e = e
late-unreal starts TailBound reason e = e
late-unreal starts (WorkBound k) reason e = e
late-unreal starts (Cited q) reason e = absurd cc
late-unreal starts (Left b) reason e = e
late-unreal starts (Shut why) reason e = absurd cc

pub closed-real : (starts : List ℕ) (fate : RowFate) → IsClosed (row_saying fate) → IsClosed (row_saying (real_fate starts fate))
closed-real starts Open c = c
closed-real starts (Expanded count first) c = tt
closed-real starts Leaf c = tt
closed-real starts TailBound c = tt
closed-real starts (WorkBound k) c = tt
closed-real starts (Cited q) c = tt
closed-real starts (Left b) c = tt
closed-real starts (Shut why) c = tt

pub one-real : (starts : List ℕ) (fate : RowFate) → one_expanded (row_saying (real_fate starts fate)) ≡ one_expanded (row_saying fate)
one-real starts Open = refl
one-real starts (Expanded count first) = refl
one-real starts Leaf = refl
one-real starts TailBound = refl
one-real starts (WorkBound k) = refl
one-real starts (Cited q) = refl
one-real starts (Left b) = refl
one-real starts (Shut why) = refl
