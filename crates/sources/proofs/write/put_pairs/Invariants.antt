use Rattle.std.proofs.Common.{◌≡◌, take}
use Rattle.messages.specs.Message.{pairs_bytes}
use Rattle.sources.specs.Written.{put_at}
use Rattle.sources.proofs.write.put_pairs.Given as goal

abbrev pub invariant-loop-pair : goal.invariant-loop-pair
invariant-loop-pair g l = l.out ≡ put_at l.initial.out l.from (pairs_bytes (take l.pair (g.S.CaseSource.means l.source).pairs))
