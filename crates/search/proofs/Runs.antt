-- What each call that is taken keeps holds after any calls, taken or refused.
use Rattle.std.proofs.Common.{◌≡◌, List, [], ◌∷◌, Some, None, Option, refl}
use Rattle.graph.specs.Faults.{Fault}
use Rattle.graph.specs.Graph.{Case, Ranking}
use Rattle.bounds.specs.Bounds.{Meaning}
use Rattle.search.specs.Search.{Planner}
use Rattle.search.specs.Sound.{Call, refusal, taken, unless_refused, called, called_all}

module _ (c : Case) (r : Ranking) (m : Meaning) (P : Planner → Type 0) (kept : (w : Planner) (x : Call) → P w → refusal c w x ≡ None → P (taken c r m w x)) where
  kept_unless : (w v : Planner) (o : Option Fault) → P w → (o ≡ None → P v) → P (unless_refused w v o)
  kept_unless w v None h f = f refl
  kept_unless w v (Some x) h f = h

  pub all_kept : (xs : List Call) (w : Planner) → P w → P (called_all c r m w xs)
  all_kept [] w h = h
  all_kept (x ∷ xs) w h = all_kept xs (called c r m w x) (kept_unless w (taken c r m w x) (refusal c w x) h (kept w x h))
