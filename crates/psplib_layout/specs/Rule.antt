-- Rules that a number keeps.
use Rattle.std.specs.Prelude.{ℕ, ◌≤◌, nat_lt, if◌then◌else◌}
use Rattle.psplib_layout.specs.declared.fault.Fault.{Fault}
use Rattle.psplib_layout.specs.declared.fault.Fault.TheVariants.{OutOfLimit, CalendarOrder}
use Rattle.psplib_layout.specs.declared.rule.Rule.{Rule}

-- the number is within the limits of the rule
abbrev pub Keeps : Rule → ℕ → Type 0
Keeps rule n = (rule.least ≤ n) × (n ≤ rule.most)

-- the fault of a number that is less than the least
abbrev pub lesser : Rule → ℕ → Fault
lesser rule n = if nat_lt n rule.floor then rule.above else rule.below

-- this number alone
abbrev pub exactly : ℕ → Fault → Rule
exactly n fault = record { least = n; most = n; floor = 0; below = fault; above = fault }

-- the numbers from one up to another
abbrev pub between : ℕ → ℕ → Rule
between least most = record { least = least; most = most; floor = 0; below = OutOfLimit; above = OutOfLimit }

-- the numbers from 0 up to one
abbrev pub up_to : ℕ → Rule
up_to most = between 0 most

-- the numbers from one up to another, of which the order of the calendar's rows leaves those from the least on
abbrev pub ordered : ℕ → ℕ → ℕ → Rule
ordered floor least most = record { least = least; most = most; floor = floor; below = CalendarOrder; above = OutOfLimit }
