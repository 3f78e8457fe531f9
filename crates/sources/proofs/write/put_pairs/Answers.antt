use Rattle.std.proofs.Common.{arith}
use Rattle.graph.specs.Views.{arc_found}
use Rattle.sources.proofs.Writing.{pairs_step}
use Rattle.sources.proofs.write.put_pairs.Goals as goal

pub loop-pair-preserved : goal.loop-pair-preserved
loop-pair-preserved g c =
    pairs_step (g.S.CaseSource.means c.args.source.now).pairs c.args.out.now c.loop-pair.out c.put_arc.new.out c.put_arc-in-loop-pair.new.out c.args.from c.loop-pair.pair
    (arc_found c.arm.result) (arc_found c.arm-in-loop-pair.result) c.arm.ensures c.arm-in-loop-pair.ensures
    (omega (arith, c.pair_count-pair-end.ensures, c.loop-pair-test.true)) c.requires c.loop-pair.invariant c.put_arc.ensures c.put_arc-in-loop-pair.ensures
