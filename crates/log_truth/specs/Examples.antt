-- Worked logs, at which the definitions can be seen at work. What is said of them here is proved.
use Rattle.std.specs.Prelude.{◌≡◌, ℕ, Some, None, Option, List, [], ◌∷◌, ◌++◌, map, All}
use Rattle.sched_base.specs.declared.fate.Fate.{Fate}
use Rattle.sched_base.specs.declared.fate.Fate.TheVariants.{Expanded, Leaf, TailBound, WorkBound, Budget, Capacity, Worse, Cutset, Left}
use Rattle.rcpsp_model.specs.declared.parts.Mode.{Mode}
use Rattle.rcpsp_model.specs.declared.parts.Placing.{Placing}
use Rattle.rcpsp_model.specs.declared.parts.Verdict.{Verdict}
use Rattle.rcpsp_model.specs.declared.parts.Verdict.TheVariants.{Optimal, Infeasible, Limit}
use Rattle.rcpsp_model.specs.declared.parts.Entry.{Entry}
use Rattle.rcpsp_model.specs.Project.{Project}
use Rattle.rcpsp_model.specs.Tree.{entry_at, IsLeaf}
use Rattle.rcpsp_model.specs.Dominance.{Dominates}
use Rattle.rcpsp_model.specs.Claim.{Claim}
use Rattle.rcpsp_model.specs.Examples.{at, using, activity, two_in_turn, after_a_break, zero_lengths, short_or_cheap, needs_differ}
use Rattle.proof_log.specs.declared.report.LogLine.{LogLine}
use Rattle.proof_log.specs.declared.report.Report.{Report}
use Rattle.log_truth.specs.Fates.{late_left}
use Rattle.log_truth.specs.Log.{at_root, IsTreeLog, nodes, front_of}
use Rattle.log_truth.specs.Holds.{Suffices, IsAllowed, AreServed, HasLower, most_expanded, Holds}
use Rattle.log_truth.specs.Refusal.{HasFault, IsRefusal, wrong_child, wrong_fate, too_many, surplus, missing, bad_citation, bad_lower}

-- the line of the root, of a placed child and of a shut one
abbrev pub root_line : Fate → LogLine
root_line fate = record { job = 0; mode = 0; start = None; fate = fate }

abbrev pub line : ℕ → ℕ → ℕ → Fate → LogLine
line j m t fate = record { job = j; mode = m; start = Some t; fate = fate }

abbrev pub shut_line : ℕ → ℕ → Fate → LogLine
shut_line j m fate = record { job = j; mode = m; start = None; fate = fate }

abbrev pub reported : Verdict → Option (List Placing) → List LogLine → Report
reported verdict best lines = record { verdict = verdict; best = best; log = Some lines }

-- Jobs 2 and 3 can't run side by side, and each of the two orders ends at 5.
abbrev pub in_turn_plan : Option (List Placing)
in_turn_plan = Some (at 1 0 ∷ at 1 0 ∷ at 1 3 ∷ at 1 5 ∷ [])

abbrev pub in_turn_log : List LogLine
in_turn_log =
    root_line Expanded
    ∷ line 1 1 0 Expanded
    ∷ line 2 1 0 Expanded
    ∷ line 3 1 3 TailBound
    ∷ line 3 1 0 Expanded
    ∷ line 2 1 2 TailBound ∷ []

-- the search ended after three expanded lines
abbrev pub after_three : List LogLine
after_three =
    root_line Expanded
    ∷ line 1 1 0 Expanded
    ∷ line 2 1 0 Expanded
    ∷ line 3 1 3 TailBound
    ∷ line 3 1 0 (Left 4) ∷ []

-- the last line left out
abbrev pub cut_off : List LogLine
cut_off =
    root_line Expanded
    ∷ line 1 1 0 Expanded
    ∷ line 2 1 0 Expanded
    ∷ line 3 1 3 TailBound
    ∷ line 3 1 0 Expanded ∷ []

-- the last line expanded, with no line below it
abbrev pub open_end : List LogLine
open_end =
    root_line Expanded
    ∷ line 1 1 0 Expanded
    ∷ line 2 1 0 Expanded
    ∷ line 3 1 3 TailBound
    ∷ line 3 1 0 Expanded
    ∷ line 2 1 2 Expanded ∷ []

pub record InTurn : Type 0 where
  pub optimal : Holds two_in_turn (reported (Optimal 5) in_turn_plan in_turn_log)
  pub limit_3 : Holds two_in_turn (reported (Limit (Some 5) 4) in_turn_plan after_three)
  pub limit_0 : Holds two_in_turn (reported (Limit (Some 5) 4) in_turn_plan (root_line (Left 4) ∷ []))
  pub one_line_less : Holds two_in_turn (reported (Optimal 5) in_turn_plan cut_off) → ⊥
  pub a_child_less : Holds two_in_turn (reported (Optimal 5) in_turn_plan open_end) → ⊥
  pub too_short : Holds two_in_turn (reported (Optimal 4) in_turn_plan in_turn_log) → ⊥

-- The same jobs, where there is only one unit of the resource in periods 0 and 1: each order ends at 7.
abbrev pub break_plan : Option (List Placing)
break_plan = Some (at 1 0 ∷ at 1 2 ∷ at 1 5 ∷ at 1 7 ∷ [])

abbrev pub break_log : List LogLine
break_log =
    root_line Expanded
    ∷ line 1 1 0 Expanded
    ∷ line 2 1 2 Expanded
    ∷ line 3 1 5 TailBound
    ∷ line 3 1 2 Expanded
    ∷ line 2 1 4 TailBound ∷ []

pub record AfterABreak : Type 0 where
  pub optimal : Holds after_a_break (reported (Optimal 7) break_plan break_log)
  -- 10 units of work are left, and the first four periods supply 8
  pub limit_0 : Holds after_a_break (reported (Limit (Some 7) 5) break_plan (root_line (Left 5) ∷ []))

-- A log of each other letter.

-- job 2 asks for more than there is: nothing is feasible
abbrev pub asks_too_much : Project
asks_too_much = record two_in_turn {
  activities =
      activity (using 0 0 ∷ []) (2 ∷ 3 ∷ [])
      ∷ activity (using 3 5 ∷ []) (4 ∷ [])
      ∷ activity (using 2 2 ∷ []) (4 ∷ [])
      ∷ activity (using 0 0 ∷ []) [] ∷ [];
}

abbrev pub too_much_log : List LogLine
too_much_log =
    root_line Expanded
    ∷ line 1 1 0 Expanded
    ∷ shut_line 2 1 (Capacity 1)
    ∷ line 3 1 0 Expanded
    ∷ shut_line 2 1 (Capacity 1) ∷ []

-- job 2 has a second mode, which takes longer and no less
abbrev pub second_mode : Project
second_mode = record two_in_turn {
  activities =
      activity (using 0 0 ∷ []) (2 ∷ 3 ∷ [])
      ∷ activity (using 3 2 ∷ using 4 2 ∷ []) (4 ∷ [])
      ∷ activity (using 2 2 ∷ []) (4 ∷ [])
      ∷ activity (using 0 0 ∷ []) [] ∷ [];
}

abbrev pub second_mode_log : List LogLine
second_mode_log =
    root_line Expanded
    ∷ line 1 1 0 Expanded
    ∷ line 2 1 0 Expanded
    ∷ line 3 1 3 TailBound
    ∷ shut_line 2 2 (Worse 1)
    ∷ line 3 1 0 Expanded
    ∷ line 2 1 2 TailBound
    ∷ shut_line 2 2 (Worse 1) ∷ []

-- three jobs one after another, for want of a second unit: the work tells it at once
abbrev pub one_unit : Project
one_unit = record {
  activities =
      activity (using 0 0 ∷ []) (2 ∷ 3 ∷ 4 ∷ [])
      ∷ activity (using 2 1 ∷ []) (5 ∷ [])
      ∷ activity (using 2 1 ∷ []) (5 ∷ [])
      ∷ activity (using 2 1 ∷ []) (5 ∷ [])
      ∷ activity (using 0 0 ∷ []) [] ∷ [];
  capacities = 1 ∷ [];
  budgets = [];
  calendar = [];
}

-- two jobs that each spend either of two budgets, and each budget pays for one of them
abbrev pub spending : List ℕ → Mode
spending needs = record { duration = 1; requests = []; needs = needs }

abbrev pub two_budgets : Project
two_budgets = record {
  activities =
      activity (spending (3 ∷ 0 ∷ []) ∷ spending (0 ∷ 3 ∷ []) ∷ []) []
      ∷ activity (spending (3 ∷ 0 ∷ []) ∷ spending (0 ∷ 3 ∷ []) ∷ []) [] ∷ [];
  capacities = [];
  budgets = 3 ∷ 3 ∷ [];
  calendar = [];
}

abbrev pub two_budgets_log : List LogLine
two_budgets_log =
    root_line Expanded
    ∷ line 1 1 0 Expanded
    ∷ shut_line 2 1 (Budget 1)
    ∷ line 2 2 0 Leaf
    ∷ line 1 2 0 TailBound
    ∷ line 2 1 0 TailBound
    ∷ line 2 2 0 TailBound ∷ []

abbrev pub short_or_cheap_log : List LogLine
short_or_cheap_log =
    root_line Expanded
    ∷ line 1 1 0 Expanded
    ∷ line 2 1 0 Expanded
    ∷ shut_line 3 1 (Budget 1)
    ∷ line 3 2 0 TailBound
    ∷ line 2 2 0 TailBound
    ∷ line 3 1 0 Expanded
    ∷ shut_line 2 1 (Budget 1)
    ∷ line 2 2 0 TailBound
    ∷ line 3 2 0 TailBound ∷ []

-- a budget that pays for no schedule
abbrev pub too_poor : Project
too_poor = record short_or_cheap { budgets = 1 ∷ [] }

pub record Letters : Type 0 where
  pub capacity : Holds asks_too_much (reported Infeasible None too_much_log)
  pub worse : Holds second_mode (reported (Optimal 5) in_turn_plan second_mode_log)
  pub work : Holds one_unit (reported (Optimal 6) (Some (at 1 0 ∷ at 1 0 ∷ at 1 2 ∷ at 1 4 ∷ at 1 6 ∷ [])) (root_line (WorkBound 1) ∷ []))
  pub budget : Holds short_or_cheap (reported (Optimal 4) (Some (at 1 0 ∷ at 2 0 ∷ at 2 0 ∷ at 1 4 ∷ [])) short_or_cheap_log)
  pub leaf : Holds two_budgets (reported (Optimal 1) (Some (at 1 0 ∷ at 2 0 ∷ [])) two_budgets_log)
  -- without a schedule
  pub left : Holds two_budgets (reported (Limit None 1) None (root_line (Left 1) ∷ []))
  -- the root's gap
  pub gap : Holds too_poor (reported Infeasible None (root_line (Budget 1) ∷ []))

-- Citations.

-- jobs that take no time: each order of them leads to a front that one before it dominates
abbrev pub zero_lengths_log : List LogLine
zero_lengths_log =
    root_line Expanded
    ∷ line 3 1 0 Expanded
    ∷ line 2 1 0 Expanded
    ∷ line 1 1 0 Expanded
    ∷ line 4 1 0 Expanded
    ∷ line 5 1 3 Leaf
    ∷ line 5 1 0 Expanded
    ∷ line 4 1 2 Leaf
    ∷ line 5 1 0 Expanded
    ∷ line 1 1 0 (Cutset 7)
    ∷ line 5 1 0 Expanded
    ∷ line 2 1 0 (Cutset 9)
    ∷ line 5 1 0 Expanded
    ∷ line 3 1 0 (Cutset 11) ∷ []

-- twins: jobs 2 and 3 have the same mode and the same successors
abbrev pub twins : Project
twins = record {
  activities =
      activity (using 0 0 ∷ []) (2 ∷ 3 ∷ [])
      ∷ activity (using 1 1 ∷ []) (4 ∷ 5 ∷ [])
      ∷ activity (using 1 1 ∷ []) (4 ∷ 5 ∷ [])
      ∷ activity (using 3 2 ∷ []) (6 ∷ [])
      ∷ activity (using 2 2 ∷ []) (6 ∷ [])
      ∷ activity (using 0 0 ∷ []) [] ∷ [];
  capacities = 3 ∷ [];
  budgets = [];
  calendar = [];
}

abbrev pub twins_plan : Option (List Placing)
twins_plan = Some (at 1 0 ∷ at 1 0 ∷ at 1 0 ∷ at 1 1 ∷ at 1 4 ∷ at 1 6 ∷ [])

-- line 10 cites line 4
abbrev pub twins_log : List LogLine
twins_log =
    root_line Expanded
    ∷ line 1 1 0 Expanded
    ∷ line 2 1 0 Expanded
    ∷ line 3 1 0 Expanded
    ∷ line 4 1 1 Expanded
    ∷ line 5 1 4 TailBound
    ∷ line 5 1 1 Expanded
    ∷ line 4 1 3 TailBound
    ∷ line 3 1 0 Expanded
    ∷ line 2 1 0 (Cutset 4) ∷ []

-- line 4 cites line 6, which comes later
abbrev pub twins_later : List LogLine
twins_later =
    root_line Expanded
    ∷ line 1 1 0 Expanded
    ∷ line 2 1 0 Expanded
    ∷ line 3 1 0 (Cutset 6)
    ∷ line 3 1 0 Expanded
    ∷ line 2 1 0 Expanded
    ∷ line 4 1 1 Expanded
    ∷ line 5 1 4 TailBound
    ∷ line 5 1 1 Expanded
    ∷ line 4 1 3 TailBound ∷ []

-- job 2 has a mode that needs more and one that asks for more: lines 16 and 17 cite each the line of their own mode
abbrev pub needs_up_to : LogLine → List LogLine
needs_up_to last =
    root_line Expanded
    ∷ line 1 1 0 Expanded
    ∷ line 2 1 0 Expanded
    ∷ line 3 1 0 Expanded
    ∷ line 4 1 1 Expanded
    ∷ line 5 1 4 TailBound
    ∷ line 5 1 1 Expanded
    ∷ line 4 1 3 TailBound
    ∷ line 2 2 0 Expanded
    ∷ line 3 1 0 Expanded
    ∷ line 4 1 1 Expanded
    ∷ line 5 1 4 TailBound
    ∷ line 5 1 1 Expanded
    ∷ line 4 1 3 TailBound
    ∷ line 3 1 0 Expanded
    ∷ line 2 1 0 (Cutset 4)
    ∷ last ∷ []

pub record Citations : Type 0 where
  pub zero_lengths : Holds zero_lengths (reported (Optimal 5) (Some (at 1 0 ∷ at 1 0 ∷ at 1 0 ∷ at 1 0 ∷ at 1 3 ∷ [])) zero_lengths_log)
  pub earlier : Holds twins (reported (Optimal 6) twins_plan twins_log)
  pub later : Holds twins (reported (Optimal 6) twins_plan twins_later)
  pub by_mode : Holds needs_differ (reported (Optimal 6) twins_plan (needs_up_to (line 2 2 0 (Cutset 10))))

-- What is claimed would be false where one point of a log that holds were left out. All its other points hold here.

-- a number on trust: 6 isn't the lower bound of the empty front
pub record NumberOnTrust : Type 0 where
  pub log : IsTreeLog two_in_turn (root_line (Left 6) ∷ [])
  pub inner : IsLeaf two_in_turn [] → ⊥
  pub suffices : Suffices (Limit None 6) (late_left 6) 6
  pub served : AreServed two_in_turn (root_line (Left 6) ∷ [])
  pub lower : HasLower (Limit None 6) (root_line (Left 6) ∷ [])
  pub false_claim : Claim two_in_turn (Limit None 6) None → ⊥

-- citations of any line: lines 4 and 6 cite each other, and each front dominates the other, but neither line is expanded
abbrev pub closing_each_other : List LogLine
closing_each_other =
    root_line Expanded
    ∷ line 1 1 0 Expanded
    ∷ line 2 1 0 Expanded
    ∷ line 3 1 0 (Cutset 6)
    ∷ line 3 1 0 Expanded
    ∷ line 2 1 0 (Cutset 4) ∷ []

abbrev pub two_then_three : List Entry
two_then_three = entry_at 1 1 0 ∷ entry_at 2 1 0 ∷ entry_at 3 1 0 ∷ []

abbrev pub three_then_two : List Entry
three_then_two = entry_at 1 1 0 ∷ entry_at 3 1 0 ∷ entry_at 2 1 0 ∷ []

pub record CitationOfAny : Type 0 where
  pub log : IsTreeLog twins closing_each_other
  pub allowed : All (λ node. IsAllowed twins Infeasible node.branch node.line) (nodes twins closing_each_other)
  pub fronts : (map front_of (nodes twins closing_each_other)
      ≡ Some [] ∷ Some (entry_at 1 1 0 ∷ []) ∷ Some (entry_at 1 1 0 ∷ entry_at 2 1 0 ∷ []) ∷ Some two_then_three ∷ Some (entry_at 1 1 0 ∷ entry_at 3 1 0 ∷ []) ∷ Some three_then_two ∷ [])
  pub dominated : Dominates twins two_then_three three_then_two × Dominates twins three_then_two two_then_three
  pub false_claim : Claim twins Infeasible None → ⊥

-- a child left out: the root is expanded, and no line follows
pub record ChildLeftOut : Type 0 where
  pub allowed : All (λ node. IsAllowed twins Infeasible node.branch node.line) (nodes twins (root_line Expanded ∷ []))
  pub served : AreServed twins (root_line Expanded ∷ [])
  pub false_claim : Claim twins Infeasible None → ⊥

-- What is wrong first with a log, by the number of the line.

-- an expanded line in place of one at its bound: job 4 is wanted behind it
abbrev pub expanded_at_the_bound : List LogLine
expanded_at_the_bound =
    root_line Expanded
    ∷ line 1 1 0 Expanded
    ∷ line 2 1 0 Expanded
    ∷ line 3 1 3 Expanded
    ∷ line 3 1 0 Expanded
    ∷ line 2 1 2 TailBound ∷ []

-- the least start of job 3 is 3
abbrev pub started_too_early : List LogLine
started_too_early = root_line Expanded ∷ line 1 1 0 Expanded ∷ line 2 1 0 Expanded ∷ line 3 1 2 TailBound ∷ []

-- job 2 asks for more than there is
abbrev pub not_said_to_be_shut : List LogLine
not_said_to_be_shut = root_line Expanded ∷ line 1 1 0 Expanded ∷ line 2 1 0 Expanded ∷ []

-- the tail bound of job 1 alone is 3
abbrev pub closed_too_early : List LogLine
closed_too_early = root_line Expanded ∷ line 1 1 0 TailBound ∷ []

abbrev pub cites_itself : List LogLine
cites_itself =
    root_line Expanded
    ∷ line 1 1 0 Expanded
    ∷ line 2 1 0 Expanded
    ∷ line 3 1 0 Expanded
    ∷ line 4 1 1 Expanded
    ∷ line 5 1 4 TailBound
    ∷ line 5 1 1 Expanded
    ∷ line 4 1 3 TailBound
    ∷ line 3 1 0 Expanded
    ∷ line 2 1 0 (Cutset 10) ∷ []

pub record Refusals : Type 0 where
  pub child : IsRefusal two_in_turn (Optimal 5) expanded_at_the_bound 5 wrong_child
  pub shut : IsRefusal asks_too_much Infeasible not_said_to_be_shut 3 wrong_fate
  pub start : IsRefusal two_in_turn (Optimal 5) started_too_early 4 wrong_child
  pub fate : IsRefusal two_in_turn (Optimal 5) closed_too_early 2 wrong_fate
  -- one line more than may be expanded
  pub many : HasFault two_in_turn (Optimal 5) most_expanded at_root (root_line Expanded) too_many
  pub ends : IsRefusal two_in_turn (Optimal 5) cut_off 6 missing
  pub more : IsRefusal two_in_turn (Optimal 5) (in_turn_log ++ root_line Expanded ∷ []) 7 surplus
  pub citation : IsRefusal twins (Optimal 6) cites_itself 10 bad_citation
  -- the front of line 4 has used more of the budget
  pub dominance : IsRefusal needs_differ (Optimal 6) (needs_up_to (line 2 2 0 (Cutset 4))) 17 bad_citation
  -- the one number is 4
  pub lower : IsRefusal two_in_turn (Limit (Some 5) 3) after_three 0 bad_lower
