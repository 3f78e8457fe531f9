-- Moves from node to node.
use Rattle.std.proofs.Common.{◌≡◌, ◌+◌, ◌<◌, ◌≤◌, [], ◌∷◌, ◌++◌, length, Some, Option, sym, subst, arith}
use Rattle.std.proofs.lemmas.List.{length-take-le}
use Rattle.search.specs.Search as Walk
use Rattle.search.specs.Search.{after}
use Rattle.search.specs.Room.{room_after}
use Rattle.search.proofs.Nodes.{room_after_lem, room_branch}
use Rattle.planner.specs.Nodes.{node_of, found}
use Rattle.planner.specs.declared.node.Node.{Node}

pub length_node : (x : Node) → length (node_of x) ≡ x.depth
length_node x = length-take-le x.depth x.arms.places (omega (arith, x.shallow, x.arms.sixty))

-- each move leaves less room
pub branch_leaves : (x : Node) (next y : Option Node) → next ≡ Some x → x.depth < 60 → found y ≡ Some (node_of x ++ (1 ∷ [])) → room_after 60 (found y) + 1 ≤ room_after 60 (found next)
branch_leaves x next y e l f =
    subst (λ (o : Option Node). room_after 60 (found y) + 1 ≤ room_after 60 (found o)) (sym e)
    (subst (λ (o : Option Walk.Node). room_after 60 o + 1 ≤ room_after 60 (Some (node_of x))) (sym f) (room_branch 60 (node_of x) (omega (arith, length_node x))))

pub turn_leaves : (x : Node) (next y : Option Node) → next ≡ Some x → found y ≡ after (node_of x) → room_after 60 (found y) + 1 ≤ room_after 60 (found next)
turn_leaves x next y e f =
    subst (λ (o : Option Node). room_after 60 (found y) + 1 ≤ room_after 60 (found o)) (sym e)
    (subst (λ (o : Option Walk.Node). room_after 60 o + 1 ≤ room_after 60 (Some (node_of x))) (sym f) (room_after_lem 60 (node_of x) (omega (arith, length_node x, x.shallow))))
