-- Least times. Assumes nothing.
use Rattle.std.specs.Prelude.{◌≡◌, ℕ, zero, suc, ◌+◌, ◌≤◌, max, Bool, true, cond, ◌&&◌, List, [], ◌∷◌, length, replicate, ℤ, pos, negsuc, ◌+ℤ◌, ◌≤ℤ◌, Some, None, Option, ◌==◌, int_le, slice_index, slice_set}
use Rattle.std.specs.List.{ContainsAt, AllByRecursion}
use Rattle.graph.specs.Graph.{Arc, Case, Ranking, Timetable, Selection, Keeps, arcs}

-- the smallest ranks that keep the fixed arcs and the selected arms
pub record Least (r : Ranking) (c : Case) (s : Selection) (t : Timetable) : Type 0 where
  pub starts : t 0 ≡ 0
  pub keeps : AllByRecursion (Keeps r t) (arcs c s)
  pub least : (u : Timetable) → u 0 ≡ 0 → AllByRecursion (Keeps r u) (arcs c s) → (v : ℕ) → v ≤ c.end → t v ≤ u v

-- a path along the fixed arcs and the selected arms, with the sum of its ranks; an arc of rank 0 leads from event 0 to each event
pub data Path (r : Ranking) (c : Case) (s : Selection) : ℕ → ℕ → ℤ → Type 0 where
  here : {v : ℕ} → v ≤ c.end → Path r c s v v (pos 0)
  along : {u v : ℕ} {z : ℤ} → Path r c s u v z → (a : Arc) → ContainsAt (arcs c s) a → a.from ≡ v → Path r c s u a.to (z +ℤ r a.weight a.mark)
  from_start : {u : ℕ} {z : ℤ} → Path r c s u 0 z → (v : ℕ) → v ≤ c.end → Path r c s u v z

-- no cycle sums above 0
abbrev pub NoCycle : Ranking → Case → Selection → Type 0
NoCycle r c s = (v : ℕ) (z : ℤ) → Path r c s v v z → z ≤ℤ pos 0

-- the least times are the lengths of the longest paths from event 0
abbrev pub Longest : Ranking → Case → Selection → Timetable → Type 0
Longest r c s t = (v : ℕ) → v ≤ c.end → Path r c s 0 v (pos (t v)) × ((z : ℤ) → Path r c s 0 v z → z ≤ℤ pos (t v))

-- a rank, and 0 in place of one below
abbrev pub floor : ℤ → ℕ
floor (pos n) = n
floor (negsuc n) = 0

-- the times with the arc's end raised as far as the arc asks
abbrev pub raised_by : Ranking → List ℕ → Arc → List ℕ
raised_by r ts a = slice_set ts a.to (max (slice_index ts a.to) (floor (pos (slice_index ts a.from) +ℤ r a.weight a.mark)))

-- raised along each arc once, in order
abbrev pub raised : Ranking → List ℕ → List Arc → List ℕ
raised r ts [] = ts
raised r ts (a ∷ es) = raised r (raised_by r ts a) es

-- so many times along all arcs
abbrev pub rounds : Ranking → List Arc → ℕ → List ℕ → List ℕ
rounds r es zero ts = ts
rounds r es (suc k) ts = rounds r es k (raised r ts es)

-- whether the times keep each arc
abbrev pub kept_all : Ranking → List ℕ → List Arc → Bool
kept_all r ts [] = true
kept_all r ts (a ∷ es) = int_le (pos (slice_index ts a.from) +ℤ r a.weight a.mark) (pos (slice_index ts a.to)) && kept_all r ts es

-- the times, if event 0 is still at 0 and each arc is kept
abbrev pub settled_times : Ranking → List Arc → List ℕ → Option (List ℕ)
settled_times r es ts = cond (slice_index ts 0 == 0 && kept_all r ts es) (Some ts) None

-- the least times of a selection, an entry for each event, or that there are none: from zeros, a round for each event after the first
abbrev pub least_times : Ranking → Case → Selection → Option (List ℕ)
least_times r c s = settled_times r (arcs c s) (rounds r (arcs c s) c.end (replicate (c.end + 1) 0))

-- the timetable of a list of times
abbrev pub time_of : List ℕ → Timetable
time_of ts v = slice_index ts v

-- no timetable keeps the fixed arcs and the selected arms
abbrev pub NoTimes : Ranking → Case → Selection → Type 0
NoTimes r c s = (u : Timetable) → u 0 ≡ 0 → AllByRecursion (Keeps r u) (arcs c s) → ⊥

-- the least times, or that there are none
abbrev pub AreLeast : Ranking → Case → Selection → Option (List ℕ) → Type 0
AreLeast r c s None = NoTimes r c s
AreLeast r c s (Some ts) = (length ts ≡ c.end + 1) × Least r c s (time_of ts)

-- a cycle that sums above 0
abbrev pub PositiveCycle : Ranking → Case → Selection → Type 0
PositiveCycle r c s = (v : ℕ) × (z : ℤ) × Path r c s v v z × (pos 1 ≤ℤ z)

-- what least times are: the smallest ranks that keep the arcs, the lengths of the longest paths from event 0; and then no cycle sums above 0
pub record Feasible (r : Ranking) (c : Case) (s : Selection) (ts : List ℕ) : Type 0 where
  pub one_each : length ts ≡ c.end + 1
  pub least : Least r c s (time_of ts)
  pub longest : Longest r c s (time_of ts)
  pub no_cycle : NoCycle r c s

-- why there are none: no timetable keeps the arcs, and some cycle sums above 0
pub record Infeasible (r : Ranking) (c : Case) (s : Selection) : Type 0 where
  pub no_timetable : NoTimes r c s
  pub cycle : PositiveCycle r c s

-- least times, or why there are none
abbrev pub TimesMean : Ranking → Case → Selection → Option (List ℕ) → Type 0
TimesMean r c s None = Infeasible r c s
TimesMean r c s (Some ts) = Feasible r c s ts

-- what is worked out are the least times, or there are none
abbrev pub TimesLaw : Ranking → Case → Selection → Type 0
TimesLaw r c s = TimesMean r c s (least_times r c s)
