-- The depth-first branch and bound over the pairs. Assumes nothing.
use Rattle.std.specs.Prelude.{ℕ, zero, suc, ◌+◌, Bool, true, false, cond, not, List, [], ◌∷◌, ◌++◌, map, length, replicate, ℤ, pos, Some, None, Option, ◌==◌, int_lt, nat_lt, slice_index}
use Rattle.std.specs.Int.{int_max}
use Rattle.graph.specs.Graph.{Case, Ranking, Selection}
use Rattle.graph.specs.Times.{least_times}
use Rattle.graph.specs.Told.{times_or_zeros}
use Rattle.bounds.specs.Bounds.{Meaning, smaller}

-- arms for the first few pairs that are not held, in rising number
abbrev pub Node : Type 0
Node = List ℕ

-- a full selection and the rank of the delay of its least times
pub record Plan : Type 0 where
  pub arms : Selection
  pub delay : ℤ

-- held arms, 0 for a pair that is not held; the node to examine next; and what is on show
pub record Planner : Type 0 where
  pub holds : Selection
  pub next : Node
  pub plan : Option Plan
  pub lower : ℤ
  pub count : ℕ
  pub finished : Bool

-- nothing searched yet with these holds
abbrev pub fresh : Selection → Planner
fresh hs = record { holds = hs; next = []; plan = None; lower = pos 0; count = 0; finished = false }

-- a planner as it is opened: nothing held
abbrev pub opened : Case → Planner
opened c = fresh (replicate (length c.pairs) 0)

-- how many pairs are not held
abbrev pub free : Selection → ℕ
free [] = 0
free (h ∷ hs) = cond (h == 0) (1 + free hs) (free hs)

-- the holds, and a node's arms for the first few other pairs
abbrev pub joined : Selection → Node → Selection
joined [] x = []
joined (h ∷ hs) [] = h ∷ joined hs []
joined (h ∷ hs) (a ∷ x) = cond (h == 0) (a ∷ joined hs x) (h ∷ joined hs (a ∷ x))

-- arm a in front of the node that follows; with none, a first arm turns to the second, and a second arm is dropped
abbrev pub turned : ℕ → Option Node → Option Node
turned a (Some x) = Some (a ∷ x)
turned a None = cond (a == 1) (Some (2 ∷ [])) None

-- the node after x and all below it: trailing second arms dropped, the last arm turned from first to second
abbrev pub after : Node → Option Node
after [] = None
after (a ∷ x) = turned a (after x)

-- the nodes that come later: for each first arm, the list up to there with a second arm instead
abbrev pub waiting : Node → List Node
waiting [] = []
waiting (a ∷ x) = cond (a == 1) ((2 ∷ []) ∷ map (λ y. a ∷ y) (waiting x)) (map (λ y. a ∷ y) (waiting x))

-- whether a node with this bound is cut: the bound is none, or not below the plan's delay
abbrev pub cuts : Option ℤ → Option Plan → Bool
cuts None p = true
cuts (Some z) None = false
cuts (Some z) (Some p) = not (int_lt z p.delay)

-- the plan, once the full selection s with these least times was looked at; n is the last event
abbrev pub better : Selection → ℕ → Option (List ℕ) → Option Plan → Option Plan
better s n None p = p
better s n (Some ts) None = Some (record { arms = s; delay = pos (slice_index ts n) })
better s n (Some ts) (Some p) = cond (int_lt (pos (slice_index ts n)) p.delay) (Some (record { arms = s; delay = pos (slice_index ts n) })) (Some p)

-- one more node was examined: the plan is now p, and the next node is o; with none, the search is finished
abbrev pub moved_to : Planner → Option Plan → Option Node → Planner
moved_to w p None = record { holds = w.holds; next = []; plan = p; lower = w.lower; count = w.count + 1; finished = true }
moved_to w p (Some x) = record { holds = w.holds; next = x; plan = p; lower = w.lower; count = w.count + 1; finished = false }

-- the lower bound after a search that finished: the plan's delay, or as it was
abbrev pub settled : Option Plan → ℤ → ℤ
settled None z = z
settled (Some p) z = p.delay

-- the lower bound after one that did not: the least of what is left, where that is larger
abbrev pub raised_to : Option ℤ → ℤ → ℤ
raised_to None z = z
raised_to (Some y) z = int_max z y

-- the plan's delay, if there is a plan
abbrev pub plan_delay : Option Plan → Option ℤ
plan_delay None = None
plan_delay (Some p) = Some p.delay

-- the least times of the plan, if there is a plan
abbrev pub plan_least : Case → Ranking → Option Plan → Option (List ℕ)
plan_least c r None = None
plan_least c r (Some p) = least_times r c p.arms

-- what the times hold after a search, an entry for each event: the plan's least times, or zeros
abbrev pub plan_times : Case → Ranking → Option Plan → List ℕ
plan_times c r p = times_or_zeros c (plan_least c r p)

module _ (c : Case) (r : Ranking) (m : Meaning) where
  -- the bound of the holds and a node
  abbrev pub bound_at : Selection → Node → Option ℤ
  bound_at hs x = m c (joined hs x) r

  -- the next node examined: cut, branched on, or looked at as a full selection
  abbrev pub examined : Planner → Planner
  examined w =
      cond (cuts (bound_at w.holds w.next) w.plan)
      (moved_to w w.plan (after w.next))
      (cond (nat_lt (length w.next) (free w.holds))
      (moved_to w w.plan (Some (w.next ++ (1 ∷ []))))
      (moved_to w (better (joined w.holds w.next) c.end (least_times r c (joined w.holds w.next)) w.plan) (after w.next)))

  -- examines nodes until finished, k at the most
  abbrev pub walked : ℕ → Planner → Planner
  walked zero w = w
  walked (suc k) w = cond w.finished w (walked k (examined w))

  -- the least of b and the bounds of these nodes
  abbrev pub least_over : Selection → List Node → Option ℤ → Option ℤ
  least_over hs [] b = b
  least_over hs (x ∷ xs) b = least_over hs xs (smaller b (bound_at hs x))

  -- the lower bound on show after a search
  abbrev pub lower_after : Planner → ℤ
  lower_after w =
      cond w.finished
      (settled w.plan w.lower)
      (raised_to (least_over w.holds (w.next ∷ waiting w.next) (plan_delay w.plan)) w.lower)

  -- the planner with that lower bound
  abbrev pub shown : Planner → Planner
  shown w = record { holds = w.holds; next = w.next; plan = w.plan; lower = lower_after w; count = w.count; finished = w.finished }

  -- the planner after a search with budget k that is taken
  abbrev pub searched : ℕ → Planner → Planner
  searched k w = shown (walked k w)
