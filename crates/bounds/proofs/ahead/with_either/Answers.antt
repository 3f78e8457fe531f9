use Rattle.std.proofs.Common.{refl}
use Rattle.bounds.specs.Bounds.{smaller, with_arm}
use Rattle.bounds.proofs.Asked.{asked_both}
use Rattle.bounds.proofs.ahead.with_either.Goals as goal

pub returns : goal.returns
returns g c =
    asked_both g.V.TimeMeasure.rank g.V.TimeMeasure.ranking (g.S.CaseSource.means c.args.source.now) smaller refl (with_arm c.args.pair 1) (with_arm c.args.pair 2)
    c.args.arms.now c.with_arm-first.new.arms c.with_arm-second.new.arms c.args.times.now c.with_arm-first.new.times c.with_arm-second.new.times c.with_arm-first.result c.with_arm-second.result c.earlier.result
    c.with_arm-first.auto.times c.earlier.ensures c.with_arm-first.ensures c.with_arm-second.ensures
