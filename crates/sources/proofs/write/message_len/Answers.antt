use Rattle.std.proofs.Common.{arith}
use Rattle.messages.proofs.Messages.{message_length}
use Rattle.sources.proofs.write.message_len.Goals as goal

pub returns : goal.returns
returns g c = omega (arith, message_length (g.S.CaseSource.means c.args.source.now))
