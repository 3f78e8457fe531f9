-- What calls leave in the times. Assumes nothing.
use Rattle.std.specs.Prelude.{◌≡◌, ℕ, ◌+◌, List, [], ◌∷◌, drop, ℤ, Some, None, Option}
use Rattle.graph.specs.Graph.{Case, Ranking}
use Rattle.graph.specs.Views.{Shows}
use Rattle.bounds.specs.Bounds.{Meaning}
use Rattle.search.specs.Search.{Planner, searched, plan_times}
use Rattle.search.specs.Sound.{Call, to_hold, to_release, to_search, refusal, unless_refused, called}

module _ (c : Case) (r : Ranking) (m : Meaning) where
  -- what the times show after a call that is taken, where they showed o before: a search shows its plan's least times, or zeros
  abbrev pub shown_taken : Option (List ℕ) → Planner → Call → Option (List ℕ)
  shown_taken o w (to_hold i a) = o
  shown_taken o w (to_release i) = o
  shown_taken o w (to_search k n) = Some (plan_times c r (searched c r m k w).plan)

  -- what the times show after calls: what the last search that was taken has left, or o where none was
  abbrev pub last_shown : Option (List ℕ) → Planner → List Call → Option (List ℕ)
  last_shown o w [] = o
  last_shown o w (x ∷ xs) = last_shown (unless_refused o (shown_taken o w x) (refusal c w x)) (called c r m w x) xs

-- the times after: as before where nothing was shown, else what was shown, and behind a place for each event as before
abbrev pub TimesLeft : {V : Type 0} → (V → ℤ) → Case → Option (List ℕ) → List V → List V → Type 0
TimesLeft rank c None before after = after ≡ before
TimesLeft rank c (Some ts) before after = Shows rank after ts × (drop (c.end + 1) after ≡ drop (c.end + 1) before)
