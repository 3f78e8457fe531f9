use Rattle.std.proofs.Common.{◌<◌, arith}
use Rattle.graph.proofs.Settling.{settle_more, settle_stop}
use Rattle.graph.proofs.times.Selection.settle.Goals as goal

pub returns-then-not-raise_round : goal.returns-then-not-raise_round
returns-then-not-raise_round g c =
    let m = (g.S.CaseSource.means c.args.self.now.source.now) in
    let h : c.loop-round._round < m.end = omega arith in
    let d = settle_stop g.V.TimeMeasure.ranking g.met.V.TimeMeasure.bounded m (g.met.S.CaseSource.within c.args.self.now.source.now) c.args.self.now.arms.now g.V.TimeMeasure.rank c.args.times.now c.loop-round.times c.raise_round.new.times c.loop-round._round h c.raise_round.ensures.raised (c.raise_round.ensures.same c.if-not-raise_round.true) c.loop-round.invariant in
    record { raised = d.shown; behind = d.behind }

pub loop-round-preserved : goal.loop-round-preserved
loop-round-preserved g c =
    let m = (g.S.CaseSource.means c.args.self.now.source.now) in
    let h : c.loop-round._round < m.end = omega arith in
    settle_more g.V.TimeMeasure.ranking g.met.V.TimeMeasure.bounded m (g.met.S.CaseSource.within c.args.self.now.source.now) c.args.self.now.arms.now g.V.TimeMeasure.rank c.args.times.now c.loop-round.times c.raise_round.new.times c.loop-round._round h c.raise_round.ensures.raised c.raise_round.ensures.behind c.loop-round.invariant
