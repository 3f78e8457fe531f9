-- Which steps make a pair, and which timetables a railway can run by. Assumes nothing.
use Rattle.std.specs.Prelude.{◌≡◌, ℕ, ◌+◌, ◌<◌, max, ◌⊎◌, List, length, pos, neg_ℤ, Some, None}
use Rattle.std.specs.List.{AllByRecursion, slice_get}
use Rattle.graph.specs.Graph.{Pair, Ranking, Timetable, Keeps, KeepsCase}
use Rattle.trains.specs.declared.train.Train.{Train}
use Rattle.trains.specs.declared.train.Step.{Step}
use Rattle.trains.specs.Railway.{Trip, trips, last_event, unhindered, arc, met, railway_fault, railway_case}

-- the pair of a step of one train and a step of a later train that run through one section
pub record Meets (ts : List Trip) (p : Pair) : Type 0 where
  pub lower : ℕ
  pub other : ℕ
  pub in_order : lower < other
  pub trip : Trip
  pub trip_is : slice_get ts lower ≡ Some trip
  pub other_trip : Trip
  pub other_trip_is : slice_get ts other ≡ Some other_trip
  pub at : ℕ
  pub step : Step
  pub step_is : slice_get trip.steps at ≡ Some step
  pub other_at : ℕ
  pub other_step : Step
  pub other_step_is : slice_get other_trip.steps other_at ≡ Some other_step
  pub one_section : step.section ≡ other_step.section
  pub pair_is : met trip.kind other_trip.kind (trip.first + at) (other_trip.first + other_at) ≡ p

-- what a timetable w keeps of a trip, where the last event is n: the entry, the running time of each step, and the exit
pub record TripKept (r : Ranking) (w : Timetable) (n : ℕ) (t : Trip) : Type 0 where
  pub entry : Keeps r w (arc 0 t.first (pos t.entry) 0)
  pub running : (a : ℕ) (s : Step) → slice_get t.steps a ≡ Some s → Keeps r w (arc (t.first + a) (t.first + a + 1) (pos s.running) 0)
  pub exit : Keeps r w (arc (t.first + length t.steps) n (neg_ℤ (pos (max t.due (unhindered t)))) 0)

-- what a timetable w keeps of a railway: it starts at 0, each trip is kept, and one of two trains on a section goes first
pub record Runs (r : Ranking) (ts : List Train) (ss : List Step) (w : Timetable) : Type 0 where
  pub starts : w 0 ≡ 0
  pub each : AllByRecursion (TripKept r w (last_event 1 ts)) (trips 1 ts ss)
  pub apart : (p : Pair) → Meets (trips 1 ts ss) p → Keeps r w p.first ⊎ Keeps r w p.second

-- a timetable keeps the case of a railway that passes the check exactly where the railway can run by it
abbrev pub RunsLaw : List Train → List Step → Type 0
RunsLaw ts ss =
    railway_fault ts ss ≡ None → (r : Ranking) (w : Timetable) → (KeepsCase r (railway_case ts ss) w → Runs r ts ss w) × (Runs r ts ss w → KeepsCase r (railway_case ts ss) w)
