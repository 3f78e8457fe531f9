-- What a railway that passes its checks of trains and steps is. Assumes nothing.
use Rattle.std.specs.Prelude.{◌≡◌, ◌≤◌, List, length, None, cond, nat_lt, Option}
use Rattle.graph.specs.Faults.{Fault, fault}
use Rattle.trains.specs.declared.train.Train.{Train}
use Rattle.trains.specs.declared.train.Step.{Step}
use Rattle.trains.specs.Railway.{timetable_case, steps_of, trains_fault}

-- trains that pass their checks, with as many steps as they ask for
pub record Sound (ts : List Train) (ss : List Step) : Type 0 where
  pub few : length ts ≤ 12
  pub trains : trains_fault 0 ts ≡ None
  pub long : length ss ≡ steps_of ts

-- the check of the number of pairs
abbrev pub pairs_fault : List Train → List Step → Option Fault
pairs_fault ts ss = cond (nat_lt 60 (length (timetable_case ts ss).pairs)) (fault 3 21 60) None
