use Rattle.std.proofs.Common.{arith}
use Rattle.graph.specs.Views.{arc_found}
use Rattle.sources.proofs.Writing.{fixed_step}
use Rattle.sources.proofs.write.put_fixed.Goals as goal

pub loop-number-preserved : goal.loop-number-preserved
loop-number-preserved g c =
    fixed_step (g.S.CaseSource.means c.args.source.now).fixed c.args.out.now c.loop-number.out c.put_arc.new.out c.loop-number.number (arc_found c.fixed_arc.result) c.fixed_arc.ensures
    (omega (arith, c.fixed_count-number-end.ensures, c.loop-number-test.true)) c.requires c.loop-number.invariant c.put_arc.ensures
