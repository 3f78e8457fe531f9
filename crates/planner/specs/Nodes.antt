-- The nodes that a planner's nodes stand for. Assumes nothing.
use Rattle.std.specs.Prelude.{◌≡◌, ℕ, ◌<◌, [], length, take, Some, None, Option, ◌≢◌, slice_index}
use Rattle.search.specs.Search as Walk
use Rattle.planner.specs.declared.node.Node.{Node}

-- the arms of a node: the first of its sixty places
abbrev pub node_of : Node → Walk.Node
node_of x = take x.depth x.arms.places

-- the node that there is
abbrev pub found : Option Node → Option Walk.Node
found None = None
found (Some x) = Some (node_of x)

-- the next node, with no arms where a search is finished
abbrev pub next_of : Option Node → Walk.Node
next_of None = []
next_of (Some x) = node_of x

-- no arm of a node is a first arm
abbrev pub LacksFirst : Walk.Node → Type 0
LacksFirst x = (k : ℕ) → k < length x → slice_index x k ≢ 1

-- the last first arm of a node is that at i
pub record LastFirst (x : Walk.Node) (i : ℕ) : Type 0 where
  pub within : i < length x
  pub here : slice_index x i ≡ 1
  pub none_after : (k : ℕ) → i < k → k < length x → slice_index x k ≢ 1
