use Rattle.std.proofs.Common.{refl}
use Rattle.bounds.specs.Bounds.{larger}
use Rattle.bounds.proofs.Asked.{asked_both}
use Rattle.bounds.proofs.larger.LargerBound.ask.Goals as goal

pub returns : goal.returns
returns g c =
    asked_both g.V.TimeMeasure.rank g.V.TimeMeasure.ranking (g.S.CaseSource.means c.args.source.now) larger refl (g.A.Bound.meaning c.args.self.now.one) (g.B.Bound.meaning c.args.self.now.other)
    c.args.arms.now c.ask-one.new.arms c.ask-other.new.arms c.args.times.now c.ask-one.new.times c.ask-other.new.times c.ask-one.result c.ask-other.result c.later.result
    c.ask-one.auto.times c.later.ensures c.ask-one.ensures c.ask-other.ensures
