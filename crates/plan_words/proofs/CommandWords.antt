-- Words are one command at most.
use Rattle.std.proofs.Common.{◌≡◌, ℕ, ◌≤◌, List, [], ◌∷◌, length, None, Some, inl, inr, refl, subst, arith, codes, true, false, IsTrue}
use Rattle.std.proofs.lemmas.Slice.Eq.{bytes_eq-Decides}
use Rattle.std.specs.Str.{bytes_eq}
use Rattle.plan_words.specs.Words.{first_bad, bad_word, word_at, IsSolve, IsCheck, IsShow, IsPlan, IsBound, IsVerify, IsOnProject, IsMake, IsTrial, IsMade}

-- the first word isn't two texts
pub not_both : (words : List (List ℕ)) (one other : List ℕ) → bytes_eq one other ≡ false → IsTrue (bytes_eq (word_at words 0) one) → IsTrue (bytes_eq (word_at words 0) other) → ⊥
not_both words one other differ first second =
    let same : bytes_eq one other ≡ true = subst (λ w. IsTrue (bytes_eq w other)) ((bytes_eq-Decides (word_at words 0) one).0 first) second in
    cc

-- words that are left over
pub left_over : (words : List (List ℕ)) (place : ℕ) → 1 ≤ length words → first_bad [] [] words place ≡ Some place
left_over [] place some = absurd (omega arith)
left_over (word ∷ words) place some = refl

pub on_project_stands : (words : List (List ℕ)) → IsOnProject words → bad_word words ≡ None
on_project_stands words (inl solve) = solve.0
on_project_stands words (inr (inl check)) = check.0
on_project_stands words (inr (inr (inl show))) = show.0
on_project_stands words (inr (inr (inr (inl plan)))) = plan.0
on_project_stands words (inr (inr (inr (inr (inl bound))))) = bound.0
on_project_stands words (inr (inr (inr (inr (inr verify))))) = verify.0

pub bad_is_none : (words : List (List ℕ)) (place : ℕ) → bad_word words ≡ Some place → bad_word words ≡ None → ⊥
bad_is_none words place some none = cc

-- what is made isn't read
pub not_made : (words : List (List ℕ)) → IsOnProject words → IsMake words → ⊥
not_made words (inl solve) make = not_both words (codes "solve") (codes "make") refl solve.1 make.1
not_made words (inr (inl check)) make = not_both words (codes "check") (codes "make") refl check.1 make.1
not_made words (inr (inr (inl show))) make = not_both words (codes "show") (codes "make") refl show.1 make.1
not_made words (inr (inr (inr (inl plan)))) make = not_both words (codes "plan") (codes "make") refl plan.1 make.1
not_made words (inr (inr (inr (inr (inl bound))))) make = not_both words (codes "bound") (codes "make") refl bound.1 make.1
not_made words (inr (inr (inr (inr (inr verify))))) make = not_both words (codes "verify") (codes "make") refl verify.1 make.1

-- what is solved isn't shown
pub not_shown : (words : List (List ℕ)) → IsSolve words → IsShow words → ⊥
not_shown words solve show = not_both words (codes "solve") (codes "show") refl solve.1 show.1

-- what is judged is neither solved nor shown
pub not_solved : (words : List (List ℕ)) → IsCheck words → IsSolve words → ⊥
not_solved words check solve = not_both words (codes "check") (codes "solve") refl check.1 solve.1

pub judged_not_shown : (words : List (List ℕ)) → IsCheck words → IsShow words → ⊥
judged_not_shown words check show = not_both words (codes "check") (codes "show") refl check.1 show.1

-- what is planned is neither solved, nor judged, nor shown
pub planned_not_solved : (words : List (List ℕ)) → IsPlan words → IsSolve words → ⊥
planned_not_solved words plan solve = not_both words (codes "plan") (codes "solve") refl plan.1 solve.1

pub planned_not_judged : (words : List (List ℕ)) → IsPlan words → IsCheck words → ⊥
planned_not_judged words plan check = not_both words (codes "plan") (codes "check") refl plan.1 check.1

pub planned_not_shown : (words : List (List ℕ)) → IsPlan words → IsShow words → ⊥
planned_not_shown words plan show = not_both words (codes "plan") (codes "show") refl plan.1 show.1

-- of what a bound is asked, it is neither solved, nor judged, nor shown, nor planned
pub bound_not_solved : (words : List (List ℕ)) → IsBound words → IsSolve words → ⊥
bound_not_solved words bound solve = not_both words (codes "bound") (codes "solve") refl bound.1 solve.1

pub bound_not_judged : (words : List (List ℕ)) → IsBound words → IsCheck words → ⊥
bound_not_judged words bound check = not_both words (codes "bound") (codes "check") refl bound.1 check.1

pub bound_not_shown : (words : List (List ℕ)) → IsBound words → IsShow words → ⊥
bound_not_shown words bound show = not_both words (codes "bound") (codes "show") refl bound.1 show.1

pub bound_not_planned : (words : List (List ℕ)) → IsBound words → IsPlan words → ⊥
bound_not_planned words bound plan = not_both words (codes "bound") (codes "plan") refl bound.1 plan.1

-- and where a bound is judged, no report is, and none of these
pub verified_not_solved : (words : List (List ℕ)) → IsVerify words → IsSolve words → ⊥
verified_not_solved words verify solve = not_both words (codes "verify") (codes "solve") refl verify.1 solve.1

pub verified_not_judged : (words : List (List ℕ)) → IsVerify words → IsCheck words → ⊥
verified_not_judged words verify check = not_both words (codes "verify") (codes "check") refl verify.1 check.1

pub verified_not_shown : (words : List (List ℕ)) → IsVerify words → IsShow words → ⊥
verified_not_shown words verify show = not_both words (codes "verify") (codes "show") refl verify.1 show.1

pub verified_not_planned : (words : List (List ℕ)) → IsVerify words → IsPlan words → ⊥
verified_not_planned words verify plan = not_both words (codes "verify") (codes "plan") refl verify.1 plan.1

pub verified_not_bound : (words : List (List ℕ)) → IsVerify words → IsBound words → ⊥
verified_not_bound words verify bound = not_both words (codes "verify") (codes "bound") refl verify.1 bound.1

-- what is tried is neither read nor printed
pub not_tried : (words : List (List ℕ)) → IsOnProject words → IsTrial words → ⊥
not_tried words (inl solve) trial = not_both words (codes "solve") (codes "trial") refl solve.1 trial.1
not_tried words (inr (inl check)) trial = not_both words (codes "check") (codes "trial") refl check.1 trial.1
not_tried words (inr (inr (inl show))) trial = not_both words (codes "show") (codes "trial") refl show.1 trial.1
not_tried words (inr (inr (inr (inl plan)))) trial = not_both words (codes "plan") (codes "trial") refl plan.1 trial.1
not_tried words (inr (inr (inr (inr (inl bound))))) trial = not_both words (codes "bound") (codes "trial") refl bound.1 trial.1
not_tried words (inr (inr (inr (inr (inr verify))))) trial = not_both words (codes "verify") (codes "trial") refl verify.1 trial.1

pub make_not_tried : (words : List (List ℕ)) → IsMake words → IsTrial words → ⊥
make_not_tried words make trial = not_both words (codes "make") (codes "trial") refl make.1 trial.1

pub made_stands : (words : List (List ℕ)) → IsMade words → bad_word words ≡ None
made_stands words (inl make) = make.0
made_stands words (inr trial) = trial.0

pub read_not_made : (words : List (List ℕ)) → IsOnProject words → IsMade words → ⊥
read_not_made words on (inl make) = not_made words on make
read_not_made words on (inr trial) = not_tried words on trial
