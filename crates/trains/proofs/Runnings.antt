-- The pairs are those of two steps of different trains on one section, and of no others; and what keeps the case.
use Rattle.std.proofs.Common.{◌≡◌, ℕ, zero, suc, ◌+◌, ◌<◌, max, Bool, true, false, cond, eqb, ◌⊎◌, List, [], ◌∷◌, ◌++◌, length, pos, neg_ℤ, Some, None, sym, refl, subst, add-zero, arith}
use Rattle.std.specs.List.{ContainsAt, AllByRecursion, slice_get}
use Rattle.std.proofs.ByRecursion.{All-append, all-has, All-weaker, has_append_left, has_append_right}
use Rattle.std.proofs.lemmas.Bool.{cond-true, eqb-true, eq-eqb}
use Rattle.graph.specs.Graph.{Arc, Pair, Ranking, Timetable, Keeps, KeepsCase}
use Rattle.messages.proofs.Messages.{unless_none}
use Rattle.trains.specs.declared.train.Train.{Train}
use Rattle.trains.specs.declared.train.Step.{Step}
use Rattle.trains.specs.Running.{Meets, TripKept, Runs, RunsLaw}
use Rattle.trains.specs.Railway.{Trip, trips, last_event, unhindered, arc, runs, trip_arcs, all_arcs, met, meeting, step_pairs, trip_pairs, pairs_with, all_pairs, timetable_case, railway_fault, railway_case}

further : (f b : ℕ) → f + suc b ≡ f + 1 + b
further f b = omega arith

-- every pair is one of two such steps

module _ (P : Pair → Type 0) (t u : Trip) where
  one_meets : (e : ℕ) (s : Step) (f : ℕ) (q : Step) → (s.section ≡ q.section → P (met t.kind u.kind e f)) → AllByRecursion P (meeting t u e s f q)
  one_meets e s f q h = look (eqb s.section q.section) refl
    where
      look : (b : Bool) → eqb s.section q.section ≡ b → AllByRecursion P (cond b (met t.kind u.kind e f ∷ []) [])
      look true k = (h (eqb-true s.section q.section k), tt)
      look false k = tt

  steps_meet : (e : ℕ) (s : Step) (f : ℕ) (qs : List Step) → ((b : ℕ) (q : Step) → slice_get qs b ≡ Some q → s.section ≡ q.section → P (met t.kind u.kind e (f + b))) → AllByRecursion P (step_pairs t u e s f qs)
  steps_meet e s f [] h = tt
  steps_meet e s f (q ∷ qs) h =
      All-append P (meeting t u e s f q) (step_pairs t u e s (f + 1) qs) (one_meets e s f q (λ k. rw add-zero at (h 0 q refl k)))
      (steps_meet e s (f + 1) qs (λ b v i k. rw (further f b) at (h (suc b) v i k)))

  trips_meet : (e : ℕ) (ss : List Step) → ((a : ℕ) (s : Step) → slice_get ss a ≡ Some s → (b : ℕ) (q : Step) → slice_get u.steps b ≡ Some q → s.section ≡ q.section → P (met t.kind u.kind (e + a) (u.first + b))) → AllByRecursion P (trip_pairs t u e ss)
  trips_meet e [] h = tt
  trips_meet e (s ∷ ss) h =
      All-append P (step_pairs t u e s u.first u.steps) (trip_pairs t u (e + 1) ss)
      (steps_meet e s u.first u.steps (λ b q i k. rw add-zero at (h 0 s refl b q i k)))
      (trips_meet (e + 1) ss (λ a v i b q l k. rw (further e a) at (h (suc a) v i b q l k)))

with_meet : (P : Pair → Type 0) (t : Trip) (us : List Trip) → ((j : ℕ) (u : Trip) → slice_get us j ≡ Some u → AllByRecursion P (trip_pairs t u t.first t.steps)) → AllByRecursion P (pairs_with t us)
with_meet P t [] h = tt
with_meet P t (u ∷ us) h = All-append P (trip_pairs t u t.first t.steps) (pairs_with t us) (h 0 u refl) (with_meet P t us (λ j v i. h (suc j) v i))

all_meet : (P : Pair → Type 0) (ts : List Trip) → ((i j : ℕ) (t u : Trip) → i < j → slice_get ts i ≡ Some t → slice_get ts j ≡ Some u → AllByRecursion P (trip_pairs t u t.first t.steps)) → AllByRecursion P (all_pairs ts)
all_meet P [] h = tt
all_meet P (t ∷ ts) h =
    All-append P (pairs_with t ts) (all_pairs ts) (with_meet P t ts (λ j u k. h 0 (suc j) t u (omega arith) refl k))
    (all_meet P ts (λ i j v u l a b. h (suc i) (suc j) v u (omega arith) a b))

pub pairs_meet : (ts : List Trip) → AllByRecursion (Meets ts) (all_pairs ts)
pairs_meet ts =
    all_meet (Meets ts) ts
    (λ i j t u l x y. trips_meet (Meets ts) t u t.first t.steps
    (λ a s m b q n k. record {
      lower = i;
      other = j;
      in_order = l;
      trip = t;
      trip_is = x;
      other_trip = u;
      other_trip_is = y;
      at = a;
      step = s;
      step_is = m;
      other_at = b;
      other_step = q;
      other_step_is = n;
      one_section = k;
      pair_is = refl;
    }))

-- every two such steps have their pair

module _ (t u : Trip) where
  has_one : (e : ℕ) (s : Step) (f : ℕ) (q : Step) → s.section ≡ q.section → ContainsAt (meeting t u e s f q) (met t.kind u.kind e f)
  has_one e s f q k =
      subst (λ l. ContainsAt l (met t.kind u.kind e f))
      (sym (cond-true (eqb s.section q.section) (met t.kind u.kind e f ∷ []) [] (eq-eqb s.section q.section k)))
      (0, omega arith, λ d. refl)

  has_step : (e : ℕ) (s : Step) (f : ℕ) (qs : List Step) (b : ℕ) (q : Step) → slice_get qs b ≡ Some q → s.section ≡ q.section → ContainsAt (step_pairs t u e s f qs) (met t.kind u.kind e (f + b))
  has_step e s f [] b q i k = cc
  has_step e s f (v ∷ qs) zero q i k =
      has_append_left (meeting t u e s f v) (step_pairs t u e s (f + 1) qs) (met t.kind u.kind e (f + 0))
      (rw add-zero (has_one e s f v (cc)))
  has_step e s f (v ∷ qs) (suc b) q i k =
      has_append_right (meeting t u e s f v) (step_pairs t u e s (f + 1) qs) (met t.kind u.kind e (f + suc b))
      (rw (further f b) (has_step e s (f + 1) qs b q i k))

  has_trip : (e : ℕ) (ss : List Step) (a : ℕ) (s : Step) (b : ℕ) (q : Step) → slice_get ss a ≡ Some s → slice_get u.steps b ≡ Some q → s.section ≡ q.section → ContainsAt (trip_pairs t u e ss) (met t.kind u.kind (e + a) (u.first + b))
  has_trip e [] a s b q i l k = cc
  has_trip e (v ∷ ss) zero s b q i l k =
      has_append_left (step_pairs t u e v u.first u.steps) (trip_pairs t u (e + 1) ss) (met t.kind u.kind (e + 0) (u.first + b))
      (rw add-zero (has_step e v u.first u.steps b q l (cc)))
  has_trip e (v ∷ ss) (suc a) s b q i l k =
      has_append_right (step_pairs t u e v u.first u.steps) (trip_pairs t u (e + 1) ss) (met t.kind u.kind (e + suc a) (u.first + b))
      (rw (further e a) (has_trip (e + 1) ss a s b q i l k))

has_with : (t : Trip) (us : List Trip) (j : ℕ) (u : Trip) (p : Pair) → slice_get us j ≡ Some u → ContainsAt (trip_pairs t u t.first t.steps) p → ContainsAt (pairs_with t us) p
has_with t [] j u p i h = cc
has_with t (v ∷ us) zero u p i h =
    let same : u ≡ v = cc in has_append_left (trip_pairs t v t.first t.steps) (pairs_with t us) p (rw same at h)
has_with t (v ∷ us) (suc j) u p i h = has_append_right (trip_pairs t v t.first t.steps) (pairs_with t us) p (has_with t us j u p i h)

has_all : (ts : List Trip) (i j : ℕ) (t u : Trip) (p : Pair) → i < j → slice_get ts i ≡ Some t → slice_get ts j ≡ Some u → ContainsAt (trip_pairs t u t.first t.steps) p → ContainsAt (all_pairs ts) p
has_all [] i j t u p l x y h = cc
has_all (v ∷ ts) i zero t u p l x y h = absurd (omega arith)
has_all (v ∷ ts) zero (suc j) t u p l x y h =
    let same : t ≡ v = cc in has_append_left (pairs_with v ts) (all_pairs ts) p (has_with v ts j u p y (rw same at h))
has_all (v ∷ ts) (suc i) (suc j) t u p l x y h = has_append_right (pairs_with v ts) (all_pairs ts) p (has_all ts i j t u p (omega arith) x y h)

pub meetings_paired : (ts : List Trip) (p : Pair) → Meets ts p → ContainsAt (all_pairs ts) p
meetings_paired ts p m =
    has_all ts m.lower m.other m.trip m.other_trip p m.in_order m.trip_is m.other_trip_is
    (subst (λ x. ContainsAt (trip_pairs m.trip m.other_trip m.trip.first m.trip.steps) x) m.pair_is
    (has_trip m.trip m.other_trip m.trip.first m.trip.steps m.at m.step m.other_at m.other_step m.step_is m.other_step_is m.one_section))

-- what keeps the arcs of a trip, and what keeps the trip

all_front : {X : Type 0} (P : X → Type 0) (xs ys : List X) → AllByRecursion P (xs ++ ys) → AllByRecursion P xs
all_front P [] ys h = tt
all_front P (x ∷ xs) ys h = (h.0, all_front P xs ys h.1)

all_behind : {X : Type 0} (P : X → Type 0) (xs ys : List X) → AllByRecursion P (xs ++ ys) → AllByRecursion P ys
all_behind P [] ys h = h
all_behind P (x ∷ xs) ys h = all_behind P xs ys h.1

all_runs : (P : Arc → Type 0) (e : ℕ) (ss : List Step) → ((a : ℕ) (s : Step) → slice_get ss a ≡ Some s → P (arc (e + a) (e + a + 1) (pos s.running) 0)) → AllByRecursion P (runs e ss)
all_runs P e [] h = tt
all_runs P e (s ∷ ss) h = (
  rw add-zero at (h 0 s refl),
  all_runs P (e + 1) ss (λ a v i. rw (further e a) at (h (suc a) v i)),
)

runs_all : (P : Arc → Type 0) (e : ℕ) (ss : List Step) → AllByRecursion P (runs e ss) → (a : ℕ) (s : Step) → slice_get ss a ≡ Some s → P (arc (e + a) (e + a + 1) (pos s.running) 0)
runs_all P e [] h a s i = cc
runs_all P e (v ∷ ss) h zero s i =
    let same : v ≡ s = cc in rw add-zero (subst (λ (x : Step). P (arc e (e + 1) (pos x.running) 0)) same h.0)
runs_all P e (v ∷ ss) h (suc a) s i = rw (further e a) (runs_all P (e + 1) ss h.1 a s i)

module _ (r : Ranking) (w : Timetable) (n : ℕ) where
  trip_kept : (t : Trip) → AllByRecursion (Keeps r w) (trip_arcs n t) → TripKept r w n t
  trip_kept t h =
      let behind = all_behind (Keeps r w) (runs t.first t.steps) (arc (t.first + length t.steps) n (neg_ℤ (pos (max t.due (unhindered t)))) 0 ∷ []) h.1 in
      record {
        entry = h.0;
        running = runs_all (Keeps r w) t.first t.steps (all_front (Keeps r w) (runs t.first t.steps) (arc (t.first + length t.steps) n (neg_ℤ (pos (max t.due (unhindered t)))) 0 ∷ []) h.1);
        exit = behind.0;
      }

  kept_trip : (t : Trip) → TripKept r w n t → AllByRecursion (Keeps r w) (trip_arcs n t)
  kept_trip t k = (
    k.entry,
    All-append (Keeps r w) (runs t.first t.steps) (arc (t.first + length t.steps) n (neg_ℤ (pos (max t.due (unhindered t)))) 0 ∷ []) (all_runs (Keeps r w) t.first t.steps k.running) (k.exit, tt),
  )

  trips_kept : (ts : List Trip) → AllByRecursion (Keeps r w) (all_arcs n ts) → AllByRecursion (TripKept r w n) ts
  trips_kept [] h = tt
  trips_kept (t ∷ ts) h = (trip_kept t (all_front (Keeps r w) (trip_arcs n t) (all_arcs n ts) h), trips_kept ts (all_behind (Keeps r w) (trip_arcs n t) (all_arcs n ts) h))

  kept_trips : (ts : List Trip) → AllByRecursion (TripKept r w n) ts → AllByRecursion (Keeps r w) (all_arcs n ts)
  kept_trips [] k = tt
  kept_trips (t ∷ ts) k = All-append (Keeps r w) (trip_arcs n t) (all_arcs n ts) (kept_trip t k.0) (kept_trips ts k.1)

-- a timetable keeps the case of a railway exactly where the railway can run by it

module _ (r : Ranking) (ts : List Train) (ss : List Step) (w : Timetable) (passes : railway_fault ts ss ≡ None) where
  same : railway_case ts ss ≡ timetable_case ts ss
  same = unless_none (timetable_case ts ss) (railway_fault ts ss) passes

  kept_runs : KeepsCase r (railway_case ts ss) w → Runs r ts ss w
  kept_runs h =
      let k = subst (λ c. KeepsCase r c w) same h in
      record {
        starts = k.starts;
        each = trips_kept r w (last_event 1 ts) (trips 1 ts ss) k.keeps_fixed;
        apart = λ p m. all-has (λ q. Keeps r w q.first ⊎ Keeps r w q.second) (all_pairs (trips 1 ts ss)) p k.keeps_arm (meetings_paired (trips 1 ts ss) p m);
      }

  runs_kept : Runs r ts ss w → KeepsCase r (railway_case ts ss) w
  runs_kept k =
      let kept : KeepsCase r (timetable_case ts ss) w =
      record {
        starts = k.starts;
        keeps_fixed = kept_trips r w (last_event 1 ts) (trips 1 ts ss) k.each;
        keeps_arm = All-weaker (Meets (trips 1 ts ss)) (λ q. Keeps r w q.first ⊎ Keeps r w q.second) k.apart (all_pairs (trips 1 ts ss)) (pairs_meet (trips 1 ts ss));
      } in
      subst (λ c. KeepsCase r c w) (sym same) kept

pub runs_law : (ts : List Train) (ss : List Step) → RunsLaw ts ss
runs_law ts ss passes r w = (kept_runs r ts ss w passes, runs_kept r ts ss w passes)
