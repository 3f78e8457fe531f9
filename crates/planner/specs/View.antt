-- What a planner stands for, and what its calls leave. Assumes nothing.
use Rattle.std.specs.Prelude.{◌≡◌, ℕ, ◌+◌, Bool, true, false, List, [], ◌∷◌, ◌++◌, length, take, drop, ℤ, Some, None, Ok, Err, Option, Result, int_lt, is_none, slice_set}
use Rattle.graph.specs.Faults.{Fault}
use Rattle.graph.specs.Graph.{Case, Ranking}
use Rattle.graph.specs.Times.{least_times}
use Rattle.graph.specs.Views.{Shows}
use Rattle.bounds.specs.Bounds.{Meaning}
use Rattle.bounds.specs.Told.{RankIs}
use Rattle.search.specs.Search as Walk
use Rattle.search.specs.Search.{opened, fresh, after, better, plan_times}
use Rattle.search.specs.Sound.{Call, refusal, called, reached, GoesOn, GetsOn, Lawful}
use Rattle.search.specs.declared.faults.PlannerFault.{PlannerFault}
use Rattle.planner.specs.Nodes.{next_of}
use Rattle.planner.specs.declared.table.Table.{Table}
use Rattle.planner.specs.declared.table.Plan.{Plan}
use Rattle.planner.specs.declared.calls.Planner.{Planner}

-- the plan that is stored: of its sixty places, the first n stand for pairs
abbrev pub plan_of : {V : Type 0} → (V → ℤ) → ℕ → Option (Plan V) → Option Walk.Plan
plan_of rank n None = None
plan_of rank n (Some p) = Some (record { arms = take n p.arms.places; delay = rank p.delay })

-- the state that a table stands for: of its sixty places, the first n stand for pairs
abbrev pub table_of : {V : Type 0} → (V → ℤ) → ℕ → Table V → Walk.Planner
table_of rank n t = record { holds = take n t.holds.places; next = next_of t.place.next; plan = plan_of rank n t.plan; lower = rank t.lower; count = t.place.count; finished = is_none t.place.next }

-- the state that a planner stands for
abbrev pub view : {S V B : Type 0} → (S → Case) → (V → ℤ) → Planner S V B → Walk.Planner
view means rank p = table_of rank (length (means p.source).pairs) p.table

-- the state with another plan
abbrev pub replanned : Walk.Planner → Option Walk.Plan → Walk.Planner
replanned w p = record { holds = w.holds; next = w.next; plan = p; lower = w.lower; count = w.count; finished = w.finished }

-- whether a delay is smaller than the plan's, if there is one
abbrev pub betters : ℤ → Option Walk.Plan → Bool
betters z None = true
betters z (Some p) = int_lt z p.delay

-- the least of the plan's delay and the bounds of the nodes that are left
abbrev pub least_left : Case → Ranking → Meaning → List ℕ → Walk.Node → Option Walk.Plan → Option ℤ
least_left c r m hs x p = Walk.least_over c r m hs (x ∷ Walk.waiting x) (Walk.plan_delay p)

-- an answer of this rank, and the times behind a place for each event as they were
pub record Ranked {V : Type 0} (rank : V → ℤ) (c : Case) (z : Option ℤ) (times times' : List V) (found : Option V) : Type 0 where
  pub answer : RankIs rank found z
  pub behind : drop (c.end + 1) times' ≡ drop (c.end + 1) times

-- the plan once the full selection s was looked at
abbrev pub looked_at : Case → Ranking → List ℕ → Walk.Planner → Walk.Planner
looked_at c r s w = replanned w (better s c.end (least_times r c s) w.plan)

-- a step F from table to table, with the times behind a place for each event as they were
pub record Stepped {V : Type 0} (rank : V → ℤ) (c : Case) (F : Walk.Planner → Walk.Planner) (before after : Table V) (times times' : List V) : Type 0 where
  pub state : table_of rank (length c.pairs) after ≡ F (table_of rank (length c.pairs) before)
  pub behind : drop (c.end + 1) times' ≡ drop (c.end + 1) times

-- an arm is held, or none, and the search is open again
pub record Put {S V B : Type 0} (means : S → Case) (rank : V → ℤ) (before after : Planner S V B) (i a : ℕ) : Type 0 where
  pub state : view means rank after ≡ fresh (slice_set (view means rank before).holds i a)
  pub source : after.source ≡ before.source
  pub bound : after.bound ≡ before.bound

-- a planner over this source and bound, as it is opened
pub record Opened {S V B : Type 0} (means : S → Case) (rank : V → ℤ) (s : S) (b : B) (p : Planner S V B) : Type 0 where
  pub state : view means rank p ≡ opened (means s)
  pub source : p.source ≡ s
  pub bound : p.bound ≡ b

-- whether there is a plan
abbrev pub has_plan : Option Walk.Plan → Bool
has_plan None = false
has_plan (Some p) = true

-- the answer of a search: the nodes that it examined, the count, whether it is finished, whether there is a plan
abbrev pub Answer : Type 0
Answer = ℕ × ℕ × Bool × Bool

-- what a search that was taken answers, and leaves in the times: the plan's least times, or zeros, and the rest as it was
pub record Shown {V : Type 0} (rank : V → ℤ) (c : Case) (r : Ranking) (before after : Walk.Planner) (times times' : List V) (a : Answer) : Type 0 where
  pub nodes : after.count ≡ before.count + a.0
  pub count : a.1 ≡ after.count
  pub finished : a.2 ≡ after.finished
  pub planned : a.3 ≡ has_plan after.plan
  pub told : Shows rank times' (plan_times c r after.plan)
  pub behind : drop (c.end + 1) times' ≡ drop (c.end + 1) times

-- what a search answers and leaves in the times; refused, it writes none
abbrev pub Answered : {V : Type 0} → (V → ℤ) → Case → Ranking → Walk.Planner → Walk.Planner → List V → List V → Result Answer PlannerFault → Type 0
Answered rank c r before after times times' (Ok a) = Shown rank c r before after times times' a
Answered rank c r before after times times' (Err f) = times' ≡ times

-- a search with budget k that was taken makes progress, and more of it from a state that calls can reach
abbrev pub Advanced : Case → Ranking → Meaning → Walk.Planner → Walk.Planner → ℕ → Result Answer PlannerFault → Type 0
Advanced c r m before after k (Ok a) = GoesOn before after k × ((xs : List Call) → before ≡ reached c r m xs → GetsOn before after k)
Advanced c r m before after k (Err f) = Unit {0}

-- where the calls xs from the opening led to the planner before, the laws over runs hold of the planner after one more
abbrev pub StaysLawful : {S V B : Type 0} → (S → Case) → (V → ℤ) → Ranking → (B → Meaning) → Planner S V B → Planner S V B → Call → Type 0
StaysLawful means rank r meaning before after x =
    (xs : List Call) → view means rank before ≡ reached (means before.source) r (meaning before.bound) xs
    → Lawful (means before.source) r (meaning before.bound) (xs ++ (x ∷ [])) (view means rank after)

-- a call is made as it is defined: it is refused with the fault that is due, and then leaves the planner as it was, and else leads to the planner that it should;
-- and the laws over runs go on
pub record Made {S V B : Type 0} (means : S → Case) (rank : V → ℤ) (r : Ranking) (meaning : B → Meaning) (before after : Planner S V B) (x : Call) (o : Option Fault) : Type 0 where
  pub fault : o ≡ refusal (means before.source) (view means rank before) x
  pub state : view means rank after ≡ called (means before.source) r (meaning before.bound) (view means rank before) x
  pub source : after.source ≡ before.source
  pub bound : after.bound ≡ before.bound
  pub untouched : (f : Fault) → o ≡ Some f → after ≡ before
  pub lawful : StaysLawful means rank r meaning before after x

-- the arms of a plan
abbrev pub plan_arms : Option Walk.Plan → Option (List ℕ)
plan_arms None = None
plan_arms (Some p) = Some p.arms
