use Rattle.std.proofs.Common.{◌<◌, not, eqb, length, get_or, sym, ap, ◌∙◌, arith}
use Rattle.graph.specs.Times.{kept_all}
use Rattle.graph.specs.Steps.{last_times, arcs_of}
use Rattle.graph.proofs.Settling.{looked_at_lem, zero_is, looked, unlooked, ready}
use Rattle.graph.proofs.times.Selection.are_least.Goals as goal

pub returns-then-not-is_below : goal.returns-then-not-is_below
returns-then-not-is_below g c s =
    let m = (g.S.CaseSource.means c.args.self.now.source.now) in
    let r = g.V.TimeMeasure.ranking in
    let arms = c.args.self.now.arms.now in
    let ts = last_times r m arms in
    let d = ready r g.met.V.TimeMeasure.bounded m (g.met.S.CaseSource.within c.args.self.now.source.now) arms m.end (omega arith) in
    let l : 0 < length ts = omega (arith, d.len) in
    let z = zero_is g.V.TimeMeasure.rank c.args.times.now ts c.zero.result c.index-times-0.result c.is_below.result s l c.zero.ensures c.index-times-0.is c.is_below.ensures in
    looked_at_lem r m arms c.all_kept.result (looked c.all_kept.result (eqb (get_or ts 0 0) 0) (kept_all r ts (arcs_of m arms)) (sym z ∙ ap not c.if-not-is_below.true) (c.all_kept.ensures ts d s))

pub returns-else-not-is_below : goal.returns-else-not-is_below
returns-else-not-is_below g c s =
    let m = (g.S.CaseSource.means c.args.self.now.source.now) in
    let r = g.V.TimeMeasure.ranking in
    let arms = c.args.self.now.arms.now in
    let ts = last_times r m arms in
    let d = ready r g.met.V.TimeMeasure.bounded m (g.met.S.CaseSource.within c.args.self.now.source.now) arms m.end (omega arith) in
    let l : 0 < length ts = omega (arith, d.len) in
    let z = zero_is g.V.TimeMeasure.rank c.args.times.now ts c.zero.result c.index-times-0.result c.is_below.result s l c.zero.ensures c.index-times-0.is c.is_below.ensures in
    looked_at_lem r m arms (not c.is_below.result) (unlooked (not c.is_below.result) (eqb (get_or ts 0 0) 0) (kept_all r ts (arcs_of m arms)) (ap not c.if-not-is_below.false) (sym z))
