-- The case of a railway is within the limits.
use Rattle.std.proofs.Common.{◌≡◌, ℕ, zero, suc, ◌+◌, ◌*◌, ◌<◌, ◌≤◌, max, true, false, cond, eqb, ltb, List, [], ◌∷◌, ◌++◌, length, get_or, take, drop, pos, neg_ℤ, None, sym, refl, ap, ◌∙◌, arith}
use Rattle.std.specs.List.{AllByRecursion}
use Rattle.std.proofs.lemmas.Bool.{ltb-false, ne_eqb, or_parts}
use Rattle.std.proofs.lemmas.Int.{ints}
use Rattle.std.proofs.lemmas.List.{length-append, length-take}
use Rattle.std.proofs.ByRecursion.{All-append, All-take, All-drop}
use Rattle.graph.specs.Faults.{fault, or_else}
use Rattle.graph.specs.Graph.{Pair, Within, ArcWithin}
use Rattle.trains.specs.declared.kind.Kind.{Kind}
use Rattle.trains.specs.declared.kind.Kind.TheVariants.{LoadedOre, EmptyOre, HotMetal, Staff, LightEngine}
use Rattle.trains.specs.declared.train.Train.{Train}
use Rattle.trains.specs.declared.train.Step.{Step}
use Rattle.trains.specs.Kinds.{kind_number, separations, separation}
use Rattle.trains.specs.Railway.{Trip, trips, last_event, running_sum, unhindered, arc, runs, trip_arcs, all_arcs, met, meeting, step_pairs, trip_pairs, pairs_with, all_pairs, timetable_case, trains_fault, steps_fault, railway_fault, railway_case}
use Rattle.trains.specs.Laws.{RailwayLaws}
use Rattle.trains.proofs.Runnings.{pairs_meet, meetings_paired, runs_law}
use Rattle.messages.proofs.Checks.{BothWithin, or_else_none, cond_none}
use Rattle.messages.proofs.Messages.{within_unless}

record TrainGood (t : Train) : Type 0 where
  entry : t.entry ≤ 86400
  due : t.due ≤ 86400
  steps : t.steps ≤ 16

record TripGood (n low : ℕ) (t : Trip) : Type 0 where
  late : low ≤ t.first
  start : 1 ≤ t.first
  room : t.first + length t.steps < n
  few : length t.steps ≤ 16
  entry : t.entry ≤ 86400
  due : t.due ≤ 86400
  steps : AllByRecursion (λ s. s.running ≤ 3600) t.steps

trains_good : (k : ℕ) (ts : List Train) → trains_fault k ts ≡ None → AllByRecursion TrainGood ts
trains_good k [] e = tt
trains_good k (t ∷ ts) e =
    let c = cond_none _ _ _ e in
    let p = or_parts _ _ c.0 in
    let q = or_parts _ _ p.0 in
    let r = or_parts _ _ q.0 in
    (record { entry = ltb-false _ _ r.0; due = ltb-false _ _ r.1; steps = ltb-false _ _ p.1 }, trains_good (k + 1) ts c.1)

steps_good : (k : ℕ) (ss : List Step) → steps_fault k ss ≡ None → AllByRecursion (λ s. s.running ≤ 3600) ss
steps_good k [] e = tt
steps_good k (s ∷ ss) e =
    let c = cond_none _ _ _ e in
    let p = or_parts _ _ c.0 in
    (ltb-false _ _ p.1, steps_good (k + 1) ss c.1)

last_above : (e : ℕ) (ts : List Train) → e ≤ last_event e ts
last_above e [] = omega arith
last_above e (t ∷ ts) = omega (arith, last_above (e + t.steps + 1) ts)

last_below : (e : ℕ) (ts : List Train) → AllByRecursion TrainGood ts → last_event e ts ≤ e + 17 * length ts
last_below e [] g = omega arith
last_below e (t ∷ ts) g = omega (arith, last_below (e + t.steps + 1) ts g.1, g.0.steps)

pub length_trips : (e : ℕ) (ts : List Train) (ss : List Step) → length (trips e ts ss) ≡ length ts
length_trips e [] ss = refl
length_trips e (t ∷ ts) ss = ap suc (length_trips (e + t.steps + 1) ts (drop t.steps ss))

trips_good : (n low e : ℕ) (ts : List Train) (ss : List Step) → low ≤ e → 1 ≤ e → last_event e ts ≤ n → AllByRecursion TrainGood ts → AllByRecursion (λ s. s.running ≤ 3600) ss → AllByRecursion (TripGood n low) (trips e ts ss)
trips_good n low e [] ss l p h g k = tt
trips_good n low e (t ∷ ts) ss l p h g k = (
  record {
    late = l;
    start = p;
    room = omega (arith, length-take t.steps ss, last_above (e + t.steps + 1) ts);
    few = omega (arith, length-take t.steps ss, g.0.steps);
    entry = g.0.entry;
    due = g.0.due;
    steps = All-take (λ s. s.running ≤ 3600) t.steps ss k;
  },
  trips_good n low (e + t.steps + 1) ts (drop t.steps ss) (omega arith) (omega arith) h g.1 (All-drop (λ s. s.running ≤ 3600) t.steps ss k),
)

-- fixed arcs

sum_below : (ss : List Step) → AllByRecursion (λ s. s.running ≤ 3600) ss → running_sum ss ≤ 3600 * length ss
sum_below [] k = omega arith
sum_below (s ∷ ss) k = omega (arith, sum_below ss k.1, k.0)

runs_within : (n e : ℕ) (ss : List Step) → e + length ss ≤ n → AllByRecursion (λ s. s.running ≤ 3600) ss → AllByRecursion (ArcWithin n) (runs e ss)
runs_within n e [] h k = tt
runs_within n e (s ∷ ss) h k = (
  record {
    from_known = omega arith;
    to_known = omega arith;
    apart = omega arith;
    not_below = omega (arith, ints);
    not_above = omega (arith, ints, k.0);
    marked = omega arith;
  },
  runs_within n (e + 1) ss (omega arith) k.1,
)

trip_within : (n low : ℕ) (t : Trip) → TripGood n low t → AllByRecursion (ArcWithin n) (trip_arcs n t)
trip_within n low t g = (
  record {
    from_known = omega arith;
    to_known = omega (arith, g.room);
    apart = omega (arith, g.start);
    not_below = omega (arith, ints);
    not_above = omega (arith, ints, g.entry);
    marked = omega arith;
  },
  All-append (ArcWithin n) (runs t.first t.steps) (arc (t.first + length t.steps) n (neg_ℤ (pos (max t.due (unhindered t)))) 0 ∷ [])
      (runs_within n t.first t.steps (omega (arith, g.room)) g.steps) (
        record {
          from_known = omega (arith, g.room);
          to_known = omega arith;
          apart = omega (arith, g.room);
          not_below = omega (arith, ints, g.due, g.entry, g.few, sum_below t.steps g.steps);
          not_above = omega (arith, ints);
          marked = omega arith;
        },
        tt,
      ),
)

all_within : (n low : ℕ) (ts : List Trip) → AllByRecursion (TripGood n low) ts → AllByRecursion (ArcWithin n) (all_arcs n ts)
all_within n low [] g = tt
all_within n low (t ∷ ts) g = All-append (ArcWithin n) (trip_arcs n t) (all_arcs n ts) (trip_within n low t g.0) (all_within n low ts g.1)

length_runs : (e : ℕ) (ss : List Step) → length (runs e ss) ≡ length ss
length_runs e [] = refl
length_runs e (s ∷ ss) = ap suc (length_runs (e + 1) ss)

few_arcs : (n low : ℕ) (ts : List Trip) → AllByRecursion (TripGood n low) ts → length (all_arcs n ts) ≤ 18 * length ts
few_arcs n low [] g = omega arith
few_arcs n low (t ∷ ts) g =
    let final = arc (t.first + length t.steps) n (neg_ℤ (pos (max t.due (unhindered t)))) 0 ∷ [] in
    omega (arith, length-append (trip_arcs n t) (all_arcs n ts), length-append (runs t.first t.steps) final, length_runs t.first t.steps, few_arcs n low ts g.1, g.0.few)

-- pairs

get_d_below : (xs : List ℕ) (k m : ℕ) → AllByRecursion (λ x. x ≤ m) xs → get_or xs k 0 ≤ m
get_d_below [] k m g = omega arith
get_d_below (x ∷ xs) zero m g = g.0
get_d_below (x ∷ xs) (suc k) m g = get_d_below xs k m g.1

-- the rule of the separation table, over the whole table
pub separations_small : AllByRecursion (λ x. x ≤ 240) separations
separations_small = omega arith

pub separation_small : (g f : Kind) → separation g f ≤ 240
separation_small g f = get_d_below separations (5 * kind_number g + kind_number f) 240 separations_small

both_append : (n : ℕ) (ps qs : List Pair) → BothWithin n ps → BothWithin n qs → BothWithin n (ps ++ qs)
both_append n ps qs v w =
    (All-append (λ p. ArcWithin n p.first) ps qs v.0 w.0, All-append (λ p. ArcWithin n p.second) ps qs v.1 w.1)

apart_within : (n a b m : ℕ) → a ≤ n → b ≤ n → (a ≡ b → ⊥) → m ≤ 1000000 → ArcWithin n (arc a b (pos m) 1)
apart_within n a b m ha hb ne hm =
    record { from_known = ha; to_known = hb; apart = ne; not_below = omega (arith, ints); not_above = omega (arith, ints); marked = omega arith }

meeting_within : (n : ℕ) (t u : Trip) (e : ℕ) (s : Step) (f : ℕ) (q : Step) → e + 1 < f → f + 1 ≤ n → BothWithin n (meeting t u e s f q)
meeting_within n t u e s f q h k =
    elim (eqb s.section q.section) as
    (λ b. BothWithin n (cond b (met t.kind u.kind e f ∷ []) [])) [
      | true ↦ (
        (apart_within n (e + 1) f (separation t.kind u.kind) (omega arith) (omega arith) (omega arith) (omega (arith, separation_small t.kind u.kind)), tt),
        (apart_within n (f + 1) e (separation u.kind t.kind) (omega arith) (omega arith) (omega arith) (omega (arith, separation_small u.kind t.kind)), tt),
      )
      | false ↦ (tt, tt)
    ]

steps_within : (n : ℕ) (t u : Trip) (e : ℕ) (s : Step) (f : ℕ) (qs : List Step) → e + 1 < f → f + length qs ≤ n → BothWithin n (step_pairs t u e s f qs)
steps_within n t u e s f [] h k = (tt, tt)
steps_within n t u e s f (q ∷ qs) h k =
    both_append n (meeting t u e s f q) (step_pairs t u e s (f + 1) qs) (meeting_within n t u e s f q h (omega arith)) (steps_within n t u e s (f + 1) qs (omega arith) (omega arith))

trips_within : (n : ℕ) (t u : Trip) (e : ℕ) (ss : List Step) → e + length ss < u.first → u.first + length u.steps ≤ n → BothWithin n (trip_pairs t u e ss)
trips_within n t u e [] h k = (tt, tt)
trips_within n t u e (s ∷ ss) h k =
    both_append n (step_pairs t u e s u.first u.steps) (trip_pairs t u (e + 1) ss) (steps_within n t u e s u.first u.steps (omega arith) k) (trips_within n t u (e + 1) ss (omega arith) k)

with_within : (n low : ℕ) (t : Trip) (us : List Trip) → t.first + length t.steps < low → AllByRecursion (TripGood n low) us → BothWithin n (pairs_with t us)
with_within n low t [] h g = (tt, tt)
with_within n low t (u ∷ us) h g =
    both_append n (trip_pairs t u t.first t.steps) (pairs_with t us)
    (trips_within n t u t.first t.steps (omega (arith, g.0.late)) (omega (arith, g.0.room)))
    (with_within n low t us h g.1)

pairs_within : (n e : ℕ) (ts : List Train) (ss : List Step) → 1 ≤ e → last_event e ts ≤ n → AllByRecursion TrainGood ts → AllByRecursion (λ s. s.running ≤ 3600) ss → BothWithin n (all_pairs (trips e ts ss))
pairs_within n e [] ss p h g k = (tt, tt)
pairs_within n e (t ∷ ts) ss p h g k =
    let e' = e + t.steps + 1 in
    let ss' = drop t.steps ss in
    let k' = All-drop (λ s. s.running ≤ 3600) t.steps ss k in
    let u : Trip = record { kind = t.kind; entry = t.entry; due = t.due; steps = take t.steps ss; first = e } in
    both_append n (pairs_with u (trips e' ts ss')) (all_pairs (trips e' ts ss'))
    (with_within n e' u (trips e' ts ss') (omega (arith, length-take t.steps ss)) (trips_good n e' e' ts ss' (omega arith) (omega arith) h g.1 k'))
    (pairs_within n e' ts ss' (omega arith) h g.1 k')

record Checked (ts : List Train) (ss : List Step) : Type 0 where
  few_trains : length ts ≤ 12
  trains : AllByRecursion TrainGood ts
  running : AllByRecursion (λ s. s.running ≤ 3600) ss
  few_pairs : length (timetable_case ts ss).pairs ≤ 60

checked : (ts : List Train) (ss : List Step) → railway_fault ts ss ≡ None → Checked ts ss
checked ts ss e =
    let a = or_else_none _ _ e in
    let b = or_else_none _ _ a.1 in
    let c = or_else_none _ _ b.1 in
    let d = or_else_none _ _ c.1 in
    record {
      few_trains = ltb-false _ _ (cond_none _ _ _ a.0).0;
      trains = trains_good 0 ts b.0;
      running = steps_good 0 ss d.0;
      few_pairs = ltb-false _ _ (cond_none _ _ _ d.1).0;
    }

timetable_within : (ts : List Train) (ss : List Step) → Checked ts ss → Within (timetable_case ts ss)
timetable_within ts ss c =
    let n = last_event 1 ts in
    let good = trips_good n 1 1 ts ss (omega arith) (omega arith) (omega arith) c.trains c.running in
    let p = pairs_within n 1 ts ss (omega arith) (omega arith) c.trains c.running in
    record {
      some_event = last_above 1 ts;
      few_events = omega (arith, last_below 1 ts c.trains, c.few_trains);
      few_fixed = omega (arith, few_arcs n 1 (trips 1 ts ss) good, length_trips 1 ts ss, c.few_trains);
      few_pairs = c.few_pairs;
      fixed_within = all_within n 1 (trips 1 ts ss) good;
      first_within = p.0;
      second_within = p.1;
    }

pub railway_within : (ts : List Train) (ss : List Step) → Within (railway_case ts ss)
railway_within ts ss = within_unless (timetable_case ts ss) (railway_fault ts ss) (λ e. timetable_within ts ss (checked ts ss e))

-- kinds

pub few_kinds : (k : Kind) → kind_number k ≤ 4
few_kinds LoadedOre = omega arith
few_kinds EmptyOre = omega arith
few_kinds HotMetal = omega arith
few_kinds Staff = omega arith
few_kinds LightEngine = omega arith

-- the kind of a number, which gives each kind back
kind_of : ℕ → Kind
kind_of n = cond (eqb n 0) LoadedOre (cond (eqb n 1) EmptyOre (cond (eqb n 2) HotMetal (cond (eqb n 3) Staff LightEngine)))

kind_back : (g : Kind) → kind_of (kind_number g) ≡ g
unfolding kind_of
kind_back LoadedOre = refl
kind_back EmptyOre = refl
kind_back HotMetal = refl
kind_back Staff = refl
kind_back LightEngine = refl

one_kind_each : (g h : Kind) → kind_number g ≡ kind_number h → g ≡ h
one_kind_each g h e = sym (kind_back g) ∙ (ap kind_of e ∙ kind_back h)

-- no trains

steps_alone : (s : Step) (ss : List Step) → railway_fault [] (s ∷ ss) ≡ fault 3 19 (length (s ∷ ss))
steps_alone s ss =
    ap
    (λ b. or_else (cond b None (fault 3 19 (length (s ∷ ss)))) (or_else (steps_fault 0 (s ∷ ss)) (cond (ltb 60 (length (timetable_case [] (s ∷ ss)).pairs)) (fault 3 21 60) None)))
    (ne_eqb (length (s ∷ ss)) 0 (omega arith))

pub railway_laws : RailwayLaws
railway_laws =
    record {
      within = railway_within;
      pairs_meet = pairs_meet;
      meetings_paired = meetings_paired;
      runs = runs_law;
      few_kinds = few_kinds;
      one_kind_each = one_kind_each;
      small_entries = separations_small;
      small = separation_small;
      no_trains = refl;
      no_trains_with_steps = steps_alone;
      engines_meet = refl;
      ore_meets_staff = refl;
    }
