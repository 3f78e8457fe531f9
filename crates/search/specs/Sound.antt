-- The calls of a planner, when they are refused, and what holds after any calls. Assumes nothing.
use Rattle.std.specs.Prelude.{◌≡◌, ℕ, ◌+◌, ◌-◌, ◌^◌, ◌<◌, ◌≤◌, true, cond, not, ◌||◌, ◌⊎◌, List, [], ◌∷◌, ◌++◌, length, pos, ◌≤ℤ◌, Some, None, Option, ◌==◌, ◌≢◌, nat_le, nat_lt, slice_index, slice_set}
use Rattle.graph.specs.Faults.{Fault, fault}
use Rattle.graph.specs.Graph.{Case, Ranking, IsRanking, Within, Timetable, Selection, KeepsCase, KeepsArms, delay}
use Rattle.graph.specs.Times.{Least, NoCycle}
use Rattle.bounds.specs.Bounds.{Meaning, LowerBound}
use Rattle.search.specs.Search.{Planner, Plan, fresh, opened, free, searched}

-- what a planner can be asked to do: hold an arm of a pair, release a pair, search with a budget and so many places for times
pub data Call : Type 0 where
  to_hold : ℕ → ℕ → Call
  to_release : ℕ → Call
  to_search : ℕ → ℕ → Call

-- the fault by which a call is refused, if it is
abbrev pub refusal : Case → Planner → Call → Option Fault
refusal c w (to_hold i a) =
    cond (nat_le (length c.pairs) i) (fault 4 12 i)
    (cond (not (a == 1 || a == 2)) (fault 4 13 i)
    (cond (not (slice_index w.holds i == 0)) (fault 4 14 i) None))
refusal c w (to_release i) =
    cond (nat_le (length c.pairs) i) (fault 4 12 i) (cond (slice_index w.holds i == 0) (fault 4 15 i) None)
refusal c w (to_search k n) =
    cond w.finished (fault 4 9 0)
    (cond (k == 0 || nat_lt 1000000 k) (fault 4 10 0) (cond (nat_le n c.end) (fault 4 11 n) None))

-- the arm held of pair i after a call that is taken, where b was held before
abbrev pub held_taken : ℕ → ℕ → Call → ℕ
held_taken i b (to_hold j a) = cond (j == i) a b
held_taken i b (to_release j) = cond (j == i) 0 b
held_taken i b (to_search k n) = b

-- the second, unless the call was refused: then the first
abbrev pub unless_refused : {A : Type 0} → A → A → Option Fault → A
unless_refused w v None = v
unless_refused w v (Some f) = w

module _ (c : Case) (r : Ranking) (m : Meaning) where
  -- the planner after a call that is taken
  abbrev pub taken : Planner → Call → Planner
  taken w (to_hold i a) = fresh (slice_set w.holds i a)
  taken w (to_release i) = fresh (slice_set w.holds i 0)
  taken w (to_search k n) = searched c r m k w

  -- the planner after a call, taken or refused
  abbrev pub called : Planner → Call → Planner
  called w x = unless_refused w (taken w x) (refusal c w x)

  -- the planner after calls, one after another
  abbrev pub called_all : Planner → List Call → Planner
  called_all w [] = w
  called_all w (x ∷ xs) = called_all (called w x) xs

  -- the nodes examined after a call that is taken, where there were s before: a hold or a release starts again
  abbrev pub tally_taken : ℕ → Planner → Call → ℕ
  tally_taken s w (to_hold i a) = 0
  tally_taken s w (to_release i) = 0
  tally_taken s w (to_search k n) = s + ((searched c r m k w).count - w.count)

  -- the sum of the nodes that searches answered since the opening, or the last hold or release that was taken
  abbrev pub tally : ℕ → Planner → List Call → ℕ
  tally s w [] = s
  tally s w (x ∷ xs) = tally (unless_refused s (tally_taken s w x) (refusal c w x)) (called w x) xs

  -- the arm held of pair i by the holds that were taken and not released after, where b was held before
  abbrev pub held_arm : ℕ → ℕ → Planner → List Call → ℕ
  held_arm i b w [] = b
  held_arm i b w (x ∷ xs) = held_arm i (unless_refused b (held_taken i b x) (refusal c w x)) (called w x) xs

  -- the planner that calls lead to from the opening
  abbrev pub reached : List Call → Planner
  reached xs = called_all (opened c) xs

-- one arm of each pair, the held arm where a pair is held, least times of that delay, and no cycle of positive sum
pub record PlanSound (c : Case) (r : Ranking) (hs : Selection) (p : Plan) : Type 0 where
  pub one_each : length p.arms ≡ length c.pairs
  pub one_arm : (i : ℕ) → i < length c.pairs → (slice_index p.arms i ≡ 1) ⊎ (slice_index p.arms i ≡ 2)
  pub keeps_held_arm : (i : ℕ) → i < length c.pairs → (slice_index hs i ≢ 0) → slice_index p.arms i ≡ slice_index hs i
  pub timed : (t : Timetable) × Least r c p.arms t × (pos (delay c t) ≡ p.delay)
  pub no_cycle : NoCycle r c p.arms

-- a plan on show is sound
abbrev pub OnShow : Case → Ranking → Selection → Option Plan → Type 0
OnShow c r hs None = Unit {0}
OnShow c r hs (Some p) = PlanSound c r hs p

-- with a plan, the delay d is not below the plan's; with none, there is no such delay
abbrev pub Unbeaten : Option Plan → ℕ → Type 0
Unbeaten None d = ⊥
Unbeaten (Some p) d = p.delay ≤ℤ pos d

-- the plan on show is sound; no timetable that keeps the case and the holds has a delay below the lower bound; when finished, each has at least
-- the plan's delay, and with no plan there is none; the count is at most the number of nodes, and a planner that shows that number is finished
pub record Sound (c : Case) (r : Ranking) (w : Planner) : Type 0 where
  pub plan : OnShow c r w.holds w.plan
  pub lower : (t : Timetable) → KeepsCase r c t → KeepsArms r c w.holds t → w.lower ≤ℤ pos (delay c t)
  pub best : w.finished ≡ true → (t : Timetable) → KeepsCase r c t → KeepsArms r c w.holds t → Unbeaten w.plan (delay c t)
  pub few : w.count ≤ 2 ^ (free w.holds + 1) - 1
  pub whole : w.count ≡ 2 ^ (free w.holds + 1) - 1 → w.finished ≡ true

-- a search with budget k that was taken finishes, or examines as many nodes as its budget says; finished with a plan, it shows the plan's delay as lower bound
pub record GoesOn (w v : Planner) (k : ℕ) : Type 0 where
  pub whole_budget : (v.finished ≡ true) ⊎ (v.count ≡ w.count + k)
  pub tight : (p : Plan) → v.finished ≡ true → v.plan ≡ Some p → v.lower ≡ p.delay

-- a budget that with the count so far reaches all nodes finishes; and the bound on show is not lowered
pub record GetsOn (w v : Planner) (k : ℕ) : Type 0 where
  pub finishes : 2 ^ (free w.holds + 1) - 1 ≤ w.count + k → v.finished ≡ true
  pub rises : w.lower ≤ℤ v.lower

-- what a taken call does from w to v: a search makes progress
abbrev pub Progress : Planner → Planner → Call → Type 0
Progress w v (to_hold i a) = Unit {0}
Progress w v (to_release i) = Unit {0}
Progress w v (to_search k n) = GoesOn w v k × GetsOn w v k

-- what holds of the planner w to which the calls xs led from the opening
pub record Lawful (c : Case) (r : Ranking) (m : Meaning) (xs : List Call) (w : Planner) : Type 0 where
  pub sound : Sound c r w
  -- the count is the sum of what searches answered since the opening, or the last hold or release taken
  pub counted : w.count ≡ tally c r m 0 (opened c) xs
  -- the holds on show are those taken since the opening and not released after
  pub held : (i : ℕ) → i < length c.pairs → slice_index w.holds i ≡ held_arm c r m i 0 (opened c) xs
  -- whenever there is a plan, the bound on show is at most its delay, and once finished equal to it
  pub below_plan : (p : Plan) → w.plan ≡ Some p → w.lower ≤ℤ p.delay
  pub tight : (p : Plan) → w.finished ≡ true → w.plan ≡ Some p → w.lower ≡ p.delay
  -- each search that was taken on the way has made progress
  pub progress : (ys : List Call) (x : Call) (zs : List Call) → xs ≡ ys ++ (x ∷ zs) → refusal c (reached c r m ys) x ≡ None → Progress (reached c r m ys) (called c r m (reached c r m ys) x) x

-- the laws over runs: over every case within the limits, every ranking and every lower bound, after any calls, taken or refused
abbrev pub AlwaysSound : Type 0
AlwaysSound = (c : Case) (r : Ranking) (m : Meaning) → Within c → IsRanking r → LowerBound m → (xs : List Call) → Lawful c r m xs (reached c r m xs)

-- what a search does with its budget k and with the bound on show
pub record WalkLaws : Type 0 where
  -- it finishes, or examines as many nodes as its budget says
  pub goes_on : (c : Case) (r : Ranking) (m : Meaning) (k : ℕ) (w : Planner) → ((searched c r m k w).finished ≡ true) ⊎ ((searched c r m k w).count ≡ w.count + k)
  -- a budget that reaches all nodes is enough, whatever the bound
  pub finishes : (c : Case) (r : Ranking) (m : Meaning) (xs : List Call) (k : ℕ) → 2 ^ (free (reached c r m xs).holds + 1) - 1 ≤ (reached c r m xs).count + k → (searched c r m k (reached c r m xs)).finished ≡ true
  -- once finished with a plan, the bound is the plan's delay
  pub tight : (c : Case) (r : Ranking) (m : Meaning) (k : ℕ) (w : Planner) (p : Plan) → (searched c r m k w).finished ≡ true → (searched c r m k w).plan ≡ Some p → (searched c r m k w).lower ≡ p.delay
  -- a search never lowers the bound
  pub rises : (c : Case) (r : Ranking) (m : Meaning) → Within c → IsRanking r → LowerBound m → (xs : List Call) (k : ℕ) → (reached c r m xs).lower ≤ℤ (searched c r m k (reached c r m xs)).lower

-- where there was a plan there is one still, with no larger delay
abbrev pub NoWorse : Option Plan → Option Plan → Type 0
NoWorse None q = Unit {0}
NoWorse (Some p) None = ⊥
NoWorse (Some p) (Some q) = q.delay ≤ℤ p.delay

-- equal in all but the bound on show
pub record Alike (v w : Planner) : Type 0 where
  pub holds : v.holds ≡ w.holds
  pub next : v.next ≡ w.next
  pub plan : v.plan ≡ w.plan
  pub count : v.count ≡ w.count
  pub finished : v.finished ≡ w.finished

-- what else a search leaves, and what searches in a row come to
pub record MoreWalkLaws : Type 0 where
  -- a search examines no more nodes than its budget says, and leaves the holds
  pub within_budget : (c : Case) (r : Ranking) (m : Meaning) (k : ℕ) (w : Planner) → (w.count ≤ (searched c r m k w).count) × ((searched c r m k w).count ≤ w.count + k)
  pub same_holds : (c : Case) (r : Ranking) (m : Meaning) (k : ℕ) (w : Planner) → (searched c r m k w).holds ≡ w.holds
  -- it never makes the plan worse
  pub no_worse : (c : Case) (r : Ranking) (m : Meaning) (k : ℕ) (w : Planner) → NoWorse w.plan (searched c r m k w).plan
  -- two searches in a row lead where one with both budgets leads, and show a bound that is no smaller
  pub adds_up : (c : Case) (r : Ranking) (m : Meaning) (j k : ℕ) (w : Planner) → Alike (searched c r m k (searched c r m j w)) (searched c r m (j + k) w)
  pub adds_up_bound : (c : Case) (r : Ranking) (m : Meaning) → Within c → IsRanking r → LowerBound m → (xs : List Call) (j k : ℕ) → (searched c r m (j + k) (reached c r m xs)).lower ≤ℤ (searched c r m k (searched c r m j (reached c r m xs))).lower
  -- whenever there is a plan, the bound on show is at most its delay, and once finished equal to it
  pub below_plan : (c : Case) (r : Ranking) (m : Meaning) → Within c → IsRanking r → LowerBound m → (xs : List Call) (p : Plan) → (reached c r m xs).plan ≡ Some p → (reached c r m xs).lower ≤ℤ p.delay
  pub stays_tight : (c : Case) (r : Ranking) (m : Meaning) (xs : List Call) (p : Plan) → (reached c r m xs).finished ≡ true → (reached c r m xs).plan ≡ Some p → (reached c r m xs).lower ≡ p.delay
