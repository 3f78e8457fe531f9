use Rattle.messages.proofs.Messages.{takes_limits}
use Rattle.sources.specs.Lists.{listed}
use Rattle.sources.proofs.listed.Checked+Arc+Pair.read.Goals as goal

pub returns-clause-law : goal.returns-clause-law
returns-clause-law c = takes_limits (listed c.args.end c.args.fixed.now c.args.pairs.now)
