use Rattle.sources.proofs.Reading.{arm_read}
use Rattle.sources.proofs.checked.CheckedCaseSource.arm.Goals as goal

pub returns : goal.returns
returns g c = arm_read g.A.Record.value g.P.Record.value c.args.self.now.records c.args.pair c.args.arm _ c.read.result _ c.in_ok-pair.ensures.lookup.3.0 c.in_ok-pair.ensures.lookup.1 c.read.ensures c.arm.ensures
