-- What a check answers. Assumes nothing.
use Rattle.std.specs.Prelude.{Bool, true, false, Some, None, Option, Result}
use Rattle.graph.specs.Faults.{Fault, told_by}
use Rattle.messages.specs.declared.faults.CaseFault.{CaseFault}
use Rattle.messages.specs.declared.faults.MessageFault.{MessageFault}
use Rattle.messages.specs.Named.{of_case, of_message}

-- the fault that a check of a case answers, if it does
abbrev pub case_told : {T : Type 0} → Result T CaseFault → Option Fault
case_told = told_by of_case

-- the fault that a check of a message answers, if it does
abbrev pub message_told : {T : Type 0} → Result T MessageFault → Option Fault
message_told = told_by of_message

-- a fault that was found, if one was
abbrev pub case_found : Option CaseFault → Option Fault
case_found None = None
case_found (Some f) = Some (of_case f)

-- whether a check finds no fault
abbrev pub passes : Option Fault → Bool
passes None = true
passes (Some f) = false
