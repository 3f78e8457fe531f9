use Rattle.std.proofs.Common.{ℕ, length, take, Some, ap, ◌∙◌, arith}
use Rattle.search.specs.Search.{free, moved_to}
use Rattle.planner.specs.Nodes.{node_of, next_of}
use Rattle.planner.specs.View.{table_of, plan_of}
use Rattle.planner.proofs.Joining.{take_joined}
use Rattle.planner.proofs.Moves.{length_node, branch_leaves, turn_leaves}
use Rattle.planner.proofs.Looks.{room_for_arm, cut_told, examined_cut, examined_branch, examined_full}
use Rattle.planner.proofs.walk.Problem.examine.Goals as goal

pub branched-requires : goal.branched-requires
branched-requires g c = room_for_arm _ (g.met.S.CaseSource.within c.args.self.now.source.now) c.args.table.now.holds c.pair_count.result c.args.node.depth c.free.result c.pair_count.ensures c.free.ensures c.if-node-free.true

pub go_on-requires : goal.go_on-requires
go_on-requires g c = turn_leaves c.args.node c.args.table.now.place.next c.turned.result c.requires.next c.turned.ensures

pub go_on-requires-then-node-free : goal.go_on-requires-then-node-free
go_on-requires-then-node-free g c = branch_leaves c.args.node c.args.table.now.place.next (Some c.branched.result) c.requires.next (room_for_arm _ (g.met.S.CaseSource.within c.args.self.now.source.now) c.args.table.now.holds c.pair_count.result c.args.node.depth c.free.result c.pair_count.ensures c.free.ensures c.if-node-free.true) (ap Some c.branched.ensures)

pub go_on-requires-else-node-free : goal.go_on-requires-else-node-free
go_on-requires-else-node-free g c = turn_leaves c.args.node c.look.new.table.place.next c.turned-else-node-free.result (ap (λ p. p.next) c.look.ensures.place ∙ c.requires.next) c.turned-else-node-free.ensures

pub returns-then-is_cut : goal.returns-then-is_cut
returns-then-is_cut g c =
    let m = (g.S.CaseSource.means c.args.self.now.source.now) in
    let r = g.V.TimeMeasure.ranking in
    let b = g.B.Bound.meaning c.args.self.now.bound.now in
    let t = c.args.table.now in
    let n = length m.pairs in
    let x = node_of c.args.node in
    let told = cut_told g.V.TimeMeasure.rank m r b t.holds.places x c.joined-arms.result.places t.plan c.bound_of-found.result c.is_cut.result c.is_cut.ensures c.joined-arms.ensures c.bound_of-found.ensures.answer in
    record {
      state = c.go_on.ensures n ∙ ap (moved_to (table_of g.V.TimeMeasure.rank n t) (plan_of g.V.TimeMeasure.rank n t.plan)) c.turned.ensures ∙ examined_cut m r b (table_of g.V.TimeMeasure.rank n t) x (ap next_of c.requires.next) (told ∙ c.if-is_cut.true);
      behind = c.bound_of-found.ensures.behind;
    }

pub returns-then-node-free : goal.returns-then-node-free
returns-then-node-free g c =
    let m = (g.S.CaseSource.means c.args.self.now.source.now) in
    let r = g.V.TimeMeasure.ranking in
    let b = g.B.Bound.meaning c.args.self.now.bound.now in
    let t = c.args.table.now in
    let n = length m.pairs in
    let x = node_of c.args.node in
    let told = cut_told g.V.TimeMeasure.rank m r b t.holds.places x c.joined-arms.result.places t.plan c.bound_of-found.result c.is_cut.result c.is_cut.ensures c.joined-arms.ensures c.bound_of-found.ensures.answer in
    let f = c.free.ensures ∙ ap (λ (k : ℕ). free (take k t.holds.places)) c.pair_count.ensures in
    record {
      state = c.go_on-then-node-free.ensures n ∙ ap (λ y. moved_to (table_of g.V.TimeMeasure.rank n t) (plan_of g.V.TimeMeasure.rank n t.plan) (Some y)) c.branched.ensures ∙ examined_branch m r b (table_of g.V.TimeMeasure.rank n t) x (ap next_of c.requires.next) (told ∙ c.if-is_cut.false) (omega (arith, length_node c.args.node, f));
      behind = c.bound_of-found.ensures.behind;
    }

pub returns-else-node-free : goal.returns-else-node-free
returns-else-node-free g c =
    let m = (g.S.CaseSource.means c.args.self.now.source.now) in
    let r = g.V.TimeMeasure.ranking in
    let b = g.B.Bound.meaning c.args.self.now.bound.now in
    let t = c.args.table.now in
    let n = length m.pairs in
    let x = node_of c.args.node in
    let told = cut_told g.V.TimeMeasure.rank m r b t.holds.places x c.joined-arms.result.places t.plan c.bound_of-found.result c.is_cut.result c.is_cut.ensures c.joined-arms.ensures c.bound_of-found.ensures.answer in
    let f = c.free.ensures ∙ ap (λ (k : ℕ). free (take k t.holds.places)) c.pair_count.ensures in
    record {
      state = c.go_on-else-node-free.ensures n ∙ ap (moved_to (table_of g.V.TimeMeasure.rank n c.look.new.table) (plan_of g.V.TimeMeasure.rank n c.look.new.table.plan)) c.turned-else-node-free.ensures ∙ examined_full m r b (table_of g.V.TimeMeasure.rank n t) x (ap next_of c.requires.next) (take n c.joined-arms.result.places) (table_of g.V.TimeMeasure.rank n c.look.new.table) (told ∙ c.if-is_cut.false) (omega (arith, length_node c.args.node, f))
          (ap (take n) c.joined-arms.ensures ∙ take_joined n t.holds.places x) c.look.ensures.stepped.state;
      behind = c.look.ensures.stepped.behind ∙ c.bound_of-found.ensures.behind;
    }
