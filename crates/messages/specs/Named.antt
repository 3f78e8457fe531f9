-- What each fault is in numbers. Assumes nothing.
use Rattle.graph.specs.Faults.{Fault}
use Rattle.messages.specs.declared.faults.CaseFault.{CaseFault}
use Rattle.messages.specs.declared.faults.CaseFault.TheVariants as case
use Rattle.messages.specs.declared.faults.MessageFault.{MessageFault}
use Rattle.messages.specs.declared.faults.MessageFault.TheVariants as message

-- the layer, cause and place of a case's fault: layer 2, the case
abbrev pub of_case : CaseFault → Fault
of_case case.Events = record { layer = 2; cause = 3; place = 0 }
of_case case.TooManyFixedArcs = record { layer = 2; cause = 3; place = 1 }
of_case case.TooManyPairs = record { layer = 2; cause = 3; place = 2 }
of_case (case.UnknownEvent k) = record { layer = 2; cause = 5; place = k }
of_case (case.SameEvent k) = record { layer = 2; cause = 6; place = k }
of_case (case.Weight k) = record { layer = 2; cause = 7; place = k }
of_case (case.Mark k) = record { layer = 2; cause = 8; place = k }

-- the layer, cause and place of a message's fault: layer 1, the message, or those of the case's fault that it carries
abbrev pub of_message : MessageFault → Fault
of_message (message.Short n) = record { layer = 1; cause = 1; place = n }
of_message message.Version = record { layer = 1; cause = 2; place = 4 }
of_message message.Events = record { layer = 1; cause = 3; place = 5 }
of_message message.TooManyFixedArcs = record { layer = 1; cause = 3; place = 7 }
of_message message.TooManyPairs = record { layer = 1; cause = 3; place = 9 }
of_message message.Length = record { layer = 1; cause = 4; place = 0 }
of_message (message.NoRoom n) = record { layer = 1; cause = 16; place = n }
of_message (message.Case f) = of_case f
