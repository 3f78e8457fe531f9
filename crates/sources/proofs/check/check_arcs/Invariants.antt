use Rattle.std.proofs.Common.{◌≡◌}
use Rattle.messages.specs.Message.{arcs_fault}
use Rattle.sources.specs.Records.{listed_by}
use Rattle.sources.proofs.Arcs.{fixed_left, pairs_left, sides_left}
use Rattle.sources.proofs.check.check_arcs.Given as goal

abbrev pub invariant-loop-at : goal.invariant-loop-at
invariant-loop-at g l = let c = listed_by g.A.Record.value g.P.Record.value l.records in fixed_left c l.at ≡ arcs_fault c

abbrev pub invariant-loop-side : goal.invariant-loop-side
invariant-loop-side g l = let c = listed_by g.A.Record.value g.P.Record.value l.records in sides_left c l.at l.side ≡ arcs_fault c

abbrev pub invariant-loop-at-2 : goal.invariant-loop-at-2
invariant-loop-at-2 g l = let c = listed_by g.A.Record.value g.P.Record.value l.records in pairs_left c l.at ≡ arcs_fault c
