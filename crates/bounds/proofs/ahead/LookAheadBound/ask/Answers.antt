use Rattle.std.proofs.Common.{◌<◌, length, arith}
use Rattle.bounds.specs.Bounds.{longest_path, look_ahead}
use Rattle.bounds.proofs.Asked.{asked_still, asked_after}
use Rattle.bounds.proofs.Tried.{trying_start, trying_more, trying_same, trying_all}
use Rattle.bounds.proofs.ahead.LookAheadBound.ask.Goals as goal
use Rattle.bounds.proofs.ahead.LookAheadBound.ask.Goals.{then-is_undecided, else-is_undecided}

pub loop-pair-init : goal.loop-pair-init
loop-pair-init g c =
    let m = (g.S.CaseSource.means c.args.source.now) in
    trying_start g.V.TimeMeasure.rank g.V.TimeMeasure.ranking m c.ask-best.new.arms c.ask-best.new.times c.ask-best.result
    (asked_still g.V.TimeMeasure.rank g.V.TimeMeasure.ranking m longest_path c.args.arms.now c.ask-best.new.arms c.args.times.now c.ask-best.new.times c.ask-best.result c.ask-best.auto.times c.ask-best.ensures)

pub loop-pair-preserved : goal.loop-pair-preserved
loop-pair-preserved g c =
    let m = (g.S.CaseSource.means c.args.source.now) in
    let l : c.loop-pair.pair < length m.pairs = omega arith in
    elim c.if-is_undecided.branch [
      | then-is_undecided w ↦
          rw (w.arms-is, w.times-is, w.best-is)
          (trying_more g.V.TimeMeasure.rank g.V.TimeMeasure.ranking m c.ask-best.new.arms c.ask-best.new.times c.loop-pair.arms c.loop-pair.times c.loop-pair.best c.loop-pair.pair l c.loop-pair.auto.times c.loop-pair.invariant
          c.is_undecided.result w.with_either-tried.new.arms w.with_either-tried.new.times w.with_either-tried.result w.later-best.result c.is_undecided.ensures w.if-is_undecided.true w.with_either-tried.ensures w.later-best.ensures)
      | else-is_undecided w ↦
          rw (w.arms-is, w.times-is, w.best-is)
          (trying_same g.V.TimeMeasure.rank g.V.TimeMeasure.ranking m c.ask-best.new.arms c.ask-best.new.times c.loop-pair.arms c.loop-pair.times c.loop-pair.best c.loop-pair.pair l c.loop-pair.auto.times c.loop-pair.invariant
          c.is_undecided.result c.is_undecided.ensures w.if-is_undecided.false)
    ]

pub returns : goal.returns
returns g c =
    let m = (g.S.CaseSource.means c.args.source.now) in
    asked_after g.V.TimeMeasure.rank g.V.TimeMeasure.ranking m longest_path look_ahead c.args.arms.now c.ask-best.new.arms c.loop-pair.arms c.args.times.now c.ask-best.new.times c.loop-pair.times c.ask-best.result c.loop-pair.best c.ask-best.auto.times c.ask-best.ensures
    (trying_all g.V.TimeMeasure.rank g.V.TimeMeasure.ranking m c.ask-best.new.arms c.ask-best.new.times c.loop-pair.arms c.loop-pair.times c.loop-pair.best c.loop-pair.pair (omega arith) c.loop-pair.invariant)
