-- The case of a railway, and its check. Assumes nothing.
use Rattle.std.specs.Prelude.{ℕ, ◌+◌, max, Bool, cond, ◌||◌, List, [], ◌∷◌, ◌++◌, length, take, drop, ℤ, pos, neg_ℤ, None, Option, ◌==◌, nat_lt}
use Rattle.graph.specs.Faults.{Fault, fault, or_else}
use Rattle.graph.specs.Graph.{Arc, Pair, Case}
use Rattle.messages.specs.Message.{unless_faulty}
use Rattle.trains.specs.declared.kind.Kind.{Kind}
use Rattle.trains.specs.declared.train.Train.{Train}
use Rattle.trains.specs.declared.train.Step.{Step}
use Rattle.trains.specs.Kinds.{separation}

-- a train with its steps and its first event
pub record Trip : Type 0 where
  pub kind : Kind
  pub entry : ℕ
  pub due : ℕ
  pub steps : List Step
  pub first : ℕ

-- the trains from event e on, each with its own of the steps: one event for each step and one for the exit
abbrev pub trips : ℕ → List Train → List Step → List Trip
trips e [] ss = []
trips e (t ∷ ts) ss =
    record { kind = t.kind; entry = t.entry; due = t.due; steps = take t.steps ss; first = e } ∷ trips (e + t.steps + 1) ts (drop t.steps ss)

-- the event after those of all trains, of which the first has event e
abbrev pub last_event : ℕ → List Train → ℕ
last_event e [] = e
last_event e (t ∷ ts) = last_event (e + t.steps + 1) ts

-- the seconds of all steps together
abbrev pub running_sum : List Step → ℕ
running_sum [] = 0
running_sum (s ∷ ss) = s.running + running_sum ss

-- the second of the exit, were there no other train
abbrev pub unhindered : Trip → ℕ
unhindered t = t.entry + running_sum t.steps

-- an arc by its two events, weight and mark
abbrev pub arc : ℕ → ℕ → ℤ → ℕ → Arc
arc a b w m = record { from = a; to = b; weight = w; mark = m }

-- from each step to the next event, with the running time
abbrev pub runs : ℕ → List Step → List Arc
runs e [] = []
runs e (s ∷ ss) = arc e (e + 1) (pos s.running) 0 ∷ runs (e + 1) ss

-- from the start to the first event, along the steps, and from the exit to the end n
abbrev pub trip_arcs : ℕ → Trip → List Arc
trip_arcs n t =
    (arc 0 t.first (pos t.entry) 0 ∷ runs t.first t.steps)
    ++ (arc (t.first + length t.steps) n (neg_ℤ (pos (max t.due (unhindered t)))) 0 ∷ [])

-- the fixed arcs, train by train
abbrev pub all_arcs : ℕ → List Trip → List Arc
all_arcs n [] = []
all_arcs n (t ∷ ts) = trip_arcs n t ++ all_arcs n ts

-- the pair of two steps on one section, at events e and f, of trains of kinds g and h: the one goes first, or the other
abbrev pub met : Kind → Kind → ℕ → ℕ → Pair
met g h e f = record { first = arc (e + 1) f (pos (separation g h)) 1; second = arc (f + 1) e (pos (separation h g)) 1 }

-- the pair of a step s of trip t and a step q of trip u, if they run through one section
abbrev pub meeting : Trip → Trip → ℕ → Step → ℕ → Step → List Pair
meeting t u e s f q = cond (s.section == q.section) (met t.kind u.kind e f ∷ []) []

-- the pairs of a step with the steps of another trip from event f on
abbrev pub step_pairs : Trip → Trip → ℕ → Step → ℕ → List Step → List Pair
step_pairs t u e s f [] = []
step_pairs t u e s f (q ∷ qs) = meeting t u e s f q ++ step_pairs t u e s (f + 1) qs

-- the pairs of a trip's steps from event e on with those of another
abbrev pub trip_pairs : Trip → Trip → ℕ → List Step → List Pair
trip_pairs t u e [] = []
trip_pairs t u e (s ∷ ss) = step_pairs t u e s u.first u.steps ++ trip_pairs t u (e + 1) ss

-- the pairs of a trip with each of the others
abbrev pub pairs_with : Trip → List Trip → List Pair
pairs_with t [] = []
pairs_with t (u ∷ us) = trip_pairs t u t.first t.steps ++ pairs_with t us

-- the pairs by lower train, other train, the lower train's step and the other's
abbrev pub all_pairs : List Trip → List Pair
all_pairs [] = []
all_pairs (t ∷ ts) = pairs_with t ts ++ all_pairs ts

-- the case of the trains and their steps
abbrev pub timetable_case : List Train → List Step → Case
timetable_case ts ss = let n = last_event 1 ts in record { end = n; fixed = all_arcs n (trips 1 ts ss); pairs = all_pairs (trips 1 ts ss) }

-- how many steps the trains have together
abbrev pub steps_of : List Train → ℕ
steps_of [] = 0
steps_of (t ∷ ts) = t.steps + steps_of ts

-- whether a field of a train is past its limit
abbrev pub train_breaks : Train → Bool
train_breaks t = nat_lt 86400 t.entry || nat_lt 86400 t.due || t.steps == 0 || nat_lt 16 t.steps

-- whether a field of a step is past its limit
abbrev pub step_breaks : Step → Bool
step_breaks s = nat_lt 63 s.section || s.running == 0 || nat_lt 3600 s.running

-- the first train, counted from k, that breaks a limit
abbrev pub trains_fault : ℕ → List Train → Option Fault
trains_fault k [] = None
trains_fault k (t ∷ ts) = cond (train_breaks t) (fault 3 18 k) (trains_fault (k + 1) ts)

-- the first step, counted from k, that breaks a limit
abbrev pub steps_fault : ℕ → List Step → Option Fault
steps_fault k [] = None
steps_fault k (s ∷ ss) = cond (step_breaks s) (fault 3 20 k) (steps_fault (k + 1) ss)

-- the first check that fails: the number of trains, each train, the number of steps, each step, the number of pairs
abbrev pub railway_fault : List Train → List Step → Option Fault
railway_fault ts ss =
    or_else (cond (nat_lt 12 (length ts)) (fault 3 17 12) None)
    (or_else (trains_fault 0 ts)
    (or_else (cond (length ss == steps_of ts) None (fault 3 19 (length ss)))
    (or_else (steps_fault 0 ss) (cond (nat_lt 60 (length (timetable_case ts ss).pairs)) (fault 3 21 60) None))))

-- the case that a railway means: the empty case where the check refuses it
abbrev pub railway_case : List Train → List Step → Case
railway_case ts ss = unless_faulty (timetable_case ts ss) (railway_fault ts ss)
