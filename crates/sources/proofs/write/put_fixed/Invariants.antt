use Rattle.std.proofs.Common.{◌≡◌, take}
use Rattle.messages.specs.Message.{arcs_bytes}
use Rattle.sources.specs.Written.{put_at}
use Rattle.sources.proofs.write.put_fixed.Given as goal

abbrev pub invariant-loop-number : goal.invariant-loop-number
invariant-loop-number g l = l.out ≡ put_at l.initial.out 10 (arcs_bytes (take l.number (g.S.CaseSource.means l.source).fixed))
