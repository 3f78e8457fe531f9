use Rattle.std.proofs.Common.{◌+◌, [], ◌∷◌, ◌++◌, length, take, refl}
use Rattle.search.specs.Search.{plan_delay, bound_at}
use Rattle.planner.specs.Nodes.{node_of}
use Rattle.planner.specs.View.{plan_of}
use Rattle.planner.proofs.Looks.{bound_at_lem}
use Rattle.planner.proofs.Lowest.{lowering_more, lowering_past, lowering_as}
use Rattle.planner.proofs.walk.Problem.least_left.Goals as goal
use Rattle.planner.proofs.walk.Problem.least_left.Goals.{then-arm-eq1, else-arm-eq1}

pub loop-at-init : goal.loop-at-init
loop-at-init g c =
    let m = (g.S.CaseSource.means c.args.self.now.source.now) in
    let t = c.args.table.now in
    let n = length m.pairs in
    let x = node_of c.args.node in
    let b = g.B.Bound.meaning c.args.self.now.bound.now in
    record {
      so_far = c.earlier-least.ensures (plan_delay (plan_of g.V.TimeMeasure.rank n t.plan)) (bound_at m g.V.TimeMeasure.ranking b (take n t.holds.places) x) (c.plan_delay.ensures n)
          (bound_at_lem g.V.TimeMeasure.rank m g.V.TimeMeasure.ranking b t.holds.places x c.joined.result.places c.bound_of-found.result c.joined.ensures c.bound_of-found.ensures.answer);
      behind = refl;
    }

pub loop-at-preserved : goal.loop-at-preserved
loop-at-preserved g c =
    let rank = g.V.TimeMeasure.rank in
    let r = g.V.TimeMeasure.ranking in
    let m = (g.S.CaseSource.means c.args.self.now.source.now) in
    let b = g.B.Bound.meaning c.args.self.now.bound.now in
    let t = c.args.table.now in
    let hs = take (length m.pairs) t.holds.places in
    let x = node_of c.args.node in
    let d = plan_delay (plan_of rank (length m.pairs) t.plan) in
    let v = c.bound_of-found.new.times in
    let l = c.loop-at in
    elim c.if-arm-eq1.branch [
      | then-arm-eq1 w ↦
          lowering_as rank m r b hs x d v c.if-arm-eq1.times _ c.if-arm-eq1.least _ (l.at + 1) w.times-is w.least-is
          (lowering_more rank m r b hs x d v l.times w.bound_of-found-then-arm-eq1.new.times l.least w.earlier-least-then-arm-eq1.result w.bound_of-found-then-arm-eq1.result l.at
          c.loop-at-test.true w.if-arm-eq1.true
          (bound_at_lem rank m r b t.holds.places (take l.at x ++ (2 ∷ [])) w.joined-then-arm-eq1.result.places w.bound_of-found-then-arm-eq1.result (rw w.turned_at.ensures at w.joined-then-arm-eq1.ensures) w.bound_of-found-then-arm-eq1.ensures.answer)
          w.bound_of-found-then-arm-eq1.ensures.behind w.earlier-least-then-arm-eq1.ensures l.invariant)
      | else-arm-eq1 w ↦
          lowering_as rank m r b hs x d v c.if-arm-eq1.times _ c.if-arm-eq1.least _ (l.at + 1) w.times-is w.least-is
          (lowering_past rank m r b hs x d v l.times l.least l.at c.loop-at-test.true w.if-arm-eq1.false l.invariant)
    ]
