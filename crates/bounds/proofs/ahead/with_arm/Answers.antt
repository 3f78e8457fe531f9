use Rattle.std.proofs.Common.{arith}
use Rattle.bounds.proofs.Tried.{put_back}
use Rattle.bounds.proofs.ahead.with_arm.Goals as goal

pub returns : goal.returns
returns g c =
    put_back g.V.TimeMeasure.rank g.V.TimeMeasure.ranking (g.S.CaseSource.means c.args.source.now) c.args.arms.now c.ask.new.arms c.drop-trial.new.self.0 c.args.pair c.args.arm c.args.times.now c.ask.new.times c.ask.result
    c.requires.arm (omega arith) c.ask.ensures c.drop-trial.ensures
