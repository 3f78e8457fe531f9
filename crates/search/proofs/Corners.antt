-- A corner: once finished with no plan, the bound on show depends on how the budget was cut into searches.
use Rattle.std.proofs.Common.{◌≡◌, true, [], ◌∷◌, pos, None, refl}
use Rattle.graph.specs.Graph.{Case}
use Rattle.bounds.specs.Bounds.{longest_path, look_ahead}
use Rattle.search.specs.Search.{searched}
use Rattle.search.specs.Examples.{in_seconds, arc, shows, run}

-- the second pair has no arm that can be kept
abbrev no_plan : Case
no_plan = record {
  end = 2;
  fixed = arc 0 2 (pos 7) 0 ∷ arc 2 1 (pos 0) 0 ∷ [];
  pairs = record { first = arc 0 1 (pos 0) 0; second = arc 0 1 (pos 1) 0 } ∷ record { first = arc 1 2 (pos 1) 0; second = arc 1 2 (pos 2) 0 } ∷ [];
}

at_once : shows (run in_seconds 8 no_plan) None (pos 0) 7 true
at_once = (refl, refl, refl, refl)

in_two : shows (searched no_plan in_seconds longest_path 7 (run in_seconds 1 no_plan)) None (pos 7) 7 true
in_two = (refl, refl, refl, refl)

-- looking ahead sees it at the root
ahead : look_ahead no_plan (0 ∷ 0 ∷ []) in_seconds ≡ None
ahead = refl
