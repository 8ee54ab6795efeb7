use Rattle.psplib_layout.proofs.PartsRead.{calendar_found_in, calendar_again_in}
use Rattle.psplib_layout.proofs.laws.calendar_is_read.Goals as goal

pub returns : goal.returns
returns c end capacities lines rows words = (calendar_found_in end capacities lines rows, calendar_again_in end capacities lines rows words)
