use Rattle.std.proofs.Common.{Some, sym, ap, ◌∙◌}
use Rattle.planner.specs.Nodes.{node_of, found}
use Rattle.planner.proofs.Joining.{after_none, after_last}
use Rattle.planner.proofs.node.Node.turned.Goals as goal

pub returns-in_err-at : goal.returns-in_err-at
returns-in_err-at c = ap found c.from_residual.ensures ∙ sym (after_none (node_of c.args.self) c.in_err-at.ensures)

pub returns : goal.returns
returns c = ap Some c.turned_at.ensures ∙ sym (after_last (node_of c.args.self) c.in_ok-at.at c.in_ok-at.ensures)
