-- What each fault is in numbers. Assumes nothing.
use Rattle.std.specs.Prelude.{Option, Result}
use Rattle.graph.specs.Faults.{Fault, told_by}
use Rattle.messages.specs.Named.{of_message}
use Rattle.search.specs.declared.faults.PlannerFault.{PlannerFault}
use Rattle.search.specs.declared.faults.PlannerFault.TheVariants.{Finished, Budget, Places, NoPair, NoArm, Held, NotHeld}
use Rattle.search.specs.declared.faults.PlanMessageFault.{PlanMessageFault}
use Rattle.search.specs.declared.faults.PlanMessageFault.TheVariants as carried

-- the layer, cause and place of a planner's fault: layer 4, the planner
abbrev pub of_planner : PlannerFault → Fault
of_planner Finished = record { layer = 4; cause = 9; place = 0 }
of_planner Budget = record { layer = 4; cause = 10; place = 0 }
of_planner (Places n) = record { layer = 4; cause = 11; place = n }
of_planner (NoPair i) = record { layer = 4; cause = 12; place = i }
of_planner (NoArm i) = record { layer = 4; cause = 13; place = i }
of_planner (Held i) = record { layer = 4; cause = 14; place = i }
of_planner (NotHeld i) = record { layer = 4; cause = 15; place = i }

-- the layer, cause and place of the fault that is carried
abbrev pub of_plan_message : PlanMessageFault → Fault
of_plan_message (carried.Message f) = of_message f
of_plan_message (carried.Planner f) = of_planner f

-- the fault that a call answers, if it does
abbrev pub planner_told : {A : Type 0} → Result A PlannerFault → Option Fault
planner_told = told_by of_planner
