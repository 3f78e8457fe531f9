use Rattle.std.proofs.Common.{sym, ◌∙◌}
use Rattle.graph.proofs.Placed.{place_arm}
use Rattle.graph.proofs.times.Selection.arm_at.Goals as goal

pub returns : goal.returns
returns g c =
    c.arm.ensures ∙ sym (place_arm (g.S.CaseSource.means c.args.self.now.source.now) c.args.self.now.arms.now c.args.at c.args.fixed c.requires.fixed c.requires.from)
