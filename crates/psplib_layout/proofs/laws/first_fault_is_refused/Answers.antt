use Rattle.psplib_layout.specs.Precedence.{all_rows}
use Rattle.psplib_layout.specs.Requests.{all_modes}
use Rattle.psplib_layout.specs.Availabilities.{all_amounts}
use Rattle.psplib_layout.specs.Calendar.{whole_calendar}
use Rattle.psplib_layout.proofs.Faults.{fault_found, fault_again}
use Rattle.psplib_layout.proofs.laws.first_fault_is_refused.Goals as goal

pub returns-clause-rows : goal.returns-clause-rows
returns-clause-rows c end jobs lines f = (fault_found end (all_rows jobs) lines f, fault_again end (all_rows jobs) lines f)

pub returns-clause-modes : goal.returns-clause-modes
returns-clause-modes c end R N job counts lines f = (fault_found end (all_modes R N job counts) lines f, fault_again end (all_modes R N job counts) lines f)

pub returns-clause-amounts : goal.returns-clause-amounts
returns-clause-amounts c end R N lines f = (fault_found end (all_amounts R N) lines f, fault_again end (all_amounts R N) lines f)

pub returns-clause-calendar : goal.returns-clause-calendar
returns-clause-calendar c end capacities lines f = (fault_found end (whole_calendar capacities) lines f, fault_again end (whole_calendar capacities) lines f)
