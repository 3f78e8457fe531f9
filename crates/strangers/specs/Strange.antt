-- Two bounds that a stranger to the crate of bounds might write. Assumes nothing.
use Rattle.std.specs.Prelude.{ℕ, Bool, cond, not, pos, Some, ◌==◌, slice_index}
use Rattle.graph.specs.Graph.{Selection}
use Rattle.bounds.specs.Bounds.{Meaning, longest_path}

-- rank 0 for every selection
abbrev pub rank_zero : Meaning
rank_zero c s r = Some (pos 0)

-- whether an arm of pair i is selected
abbrev pub decided : Selection → ℕ → Bool
decided s i = not (slice_index s i == 0)

-- the longest path while pair i is undecided, and rank 0 from then on: it falls where the pair is decided
abbrev pub until_decided : ℕ → Meaning
until_decided i c s r = cond (decided s i) (Some (pos 0)) (longest_path c s r)
