use Rattle.std.proofs.Common.{sym, ◌∙◌, arith}
use Rattle.sources.proofs.Arcs.{skip, stop, fixed_step, arm_step, sides_end}
use Rattle.sources.proofs.check.check_arcs.Goals as goal

pub loop-at-preserved : goal.loop-at-preserved
loop-at-preserved g c =
    skip _ _ _ _ (fixed_step g.A.Record.value g.P.Record.value c.args.records c.loop-at.at c.arc-item.result c.read.result (omega arith) c.arc-item.is c.read.ensures) c.in_default.ensures c.loop-at.invariant

pub returns-in-Err : goal.returns-in-Err
returns-in-Err g c =
    stop _ _ _ _ _ (fixed_step g.A.Record.value g.P.Record.value c.args.records c.loop-at.at c.arc-item.result c.read.result (omega arith) c.arc-item.is c.read.ensures) c.in-Err.ensures c.loop-at.invariant

pub loop-side-preserved : goal.loop-side-preserved
loop-side-preserved g c =
    skip _ _ _ _ (arm_step g.A.Record.value g.P.Record.value c.args.records c.loop-at-2.at c.loop-side.side c.pair-item.result c.read-in-loop-at-2.result _ (omega arith) c.pair-item.is c.read-in-loop-at-2.ensures (omega arith)) c.in_default-check_arc.ensures c.loop-side.invariant

pub returns-in-Err-check_arc : goal.returns-in-Err-check_arc
returns-in-Err-check_arc g c =
    stop _ _ _ _ _ (arm_step g.A.Record.value g.P.Record.value c.args.records c.loop-at-2.at c.loop-side.side c.pair-item.result c.read-in-loop-at-2.result _ (omega arith) c.pair-item.is c.read-in-loop-at-2.ensures (omega arith)) c.in-Err-check_arc.ensures c.loop-side.invariant

pub loop-at-2-preserved : goal.loop-at-2-preserved
loop-at-2-preserved g c =
    sym (sides_end g.A.Record.value g.P.Record.value c.args.records c.loop-at-2.at c.loop-side.side c.pair-item.result (omega arith) c.pair-item.is (omega arith)) ∙ c.loop-side.invariant
