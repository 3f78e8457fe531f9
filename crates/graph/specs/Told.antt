-- What a call for least times answers and leaves. Assumes nothing.
use Rattle.std.specs.Prelude.{◌≡◌, ℕ, ◌+◌, ◌<◌, ◌≤◌, Bool, List, length, drop, replicate, ℤ, is_some, Some, None, Ok, Err, Option, Result}
use Rattle.graph.specs.Graph.{Case, Ranking, Selection}
use Rattle.graph.specs.Times.{least_times}
use Rattle.graph.specs.Views.{Shows}
use Rattle.graph.specs.declared.times.TooFewPlaces.{TooFewPlaces}

-- the times that there are, or zeros
abbrev pub times_or_zeros : Case → Option (List ℕ) → List ℕ
times_or_zeros c None = replicate (c.end + 1) 0
times_or_zeros c (Some ts) = ts

-- there is a place for each event, and these show zeros; nothing behind them changes
pub record Cleared {V : Type 0} (rank : V → ℤ) (c : Case) (before after : List V) : Type 0 where
  pub room : c.end < length before
  pub zeros : Shows rank after (replicate (c.end + 1) 0)
  pub behind : drop (c.end + 1) after ≡ drop (c.end + 1) before

-- there are fewer places: the fault says how many are needed, and nothing changes
pub record NotCleared {V : Type 0} (c : Case) (before after : List V) (fault : TooFewPlaces) : Type 0 where
  pub short : length before ≤ c.end
  pub named : fault ≡ record { needed = c.end + 1 }
  pub same : after ≡ before

-- what a call that sets times to zero answers and leaves
abbrev pub TimesCleared : {V : Type 0} → (V → ℤ) → Case → List V → List V → Result (Unit {0}) TooFewPlaces → Type 0
TimesCleared rank c before after (Ok x) = Cleared rank c before after
TimesCleared rank c before after (Err fault) = NotCleared c before after fault

-- with a place for each event, the answer says whether there are least times, and the places hold them, or zeros where there are none; nothing behind them changes;
-- with fewer places, the answer says how many are needed, and nothing changes
pub record TimesTold {V : Type 0} (rank : V → ℤ) (r : Ranking) (c : Case) (s : Selection) (before after : List V) (found : Result Bool TooFewPlaces) : Type 0 where
  pub answer : c.end < length before → found ≡ Ok (is_some (least_times r c s))
  pub times : c.end < length before → Shows rank after (times_or_zeros c (least_times r c s))
  pub behind : drop (c.end + 1) after ≡ drop (c.end + 1) before
  pub short : length before ≤ c.end → (found ≡ Err (record { needed = c.end + 1 })) × (after ≡ before)
