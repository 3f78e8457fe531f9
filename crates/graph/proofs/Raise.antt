-- Raising over arcs: it settles on the least times, or it finds a cycle that sums above 0. Assumes nothing.
use Rattle.std.proofs.Common.{◌≡◌, ℕ, zero, suc, ◌+◌, ◌<◌, ◌≤◌, max, Bool, true, false, cond, ◌&&◌, T, eqb, ◌≢◌, ◌⊎◌, List, [], ◌∷◌, length, get_or, set, replicate, ℤ, pos, negsuc, ◌+ℤ◌, ◌≤ℤ◌, ◌<ℤ◌, Some, None, Option, sym, refl, ap, ◌∙◌, subst, inl, inr, arith}
use lib.Signed.{le_z}
use Rattle.std.specs.List.{ContainsAt, AllByRecursion}
use Rattle.std.proofs.lemmas.List.{length-set, length-replicate, get_or-replicate, get_or-set_same, get_or-set_other, set-get_or}
use Rattle.std.proofs.ByRecursion.{All-append, all-has, All-weaker, all_has_itself}
use Rattle.std.proofs.lemmas.Int.{ints, by_lt_z}
use Rattle.std.proofs.lemmas.Bool.{cases_lt, cases_order, cases_eq, and_parts, and_from, eqb-true, eq-eqb, cond_both, both_ways}
use Rattle.graph.specs.Graph.{Arc, Pair, Case, Within, ArcWithin, Ranking, Timetable, Selection, Keeps, arcs, selected, chosen}
use Rattle.graph.specs.Times.{Least, Path, here, along, from_start, NoCycle, Longest, floor, raised_by, raised, rounds, kept_all, least_times, time_of, NoTimes, AreLeast, PositiveCycle, TimesMean, TimesLaw}

-- ---- a path under a timetable that keeps the arcs

pub walk : (r : Ranking) (c : Case) (s : Selection) (t : Timetable) → t 0 ≡ 0 → AllByRecursion (Keeps r t) (arcs c s) → {u v : ℕ} {z : ℤ} → Path r c s u v z → (pos (t u) +ℤ z) ≤ℤ pos (t v)
walk r c s t o k (here i) = omega (arith, ints)
walk r c s t o k (along p a h e) = omega (arith, ints, walk r c s t o k p, ap t e, all-has (Keeps r t) (arcs c s) a k h)
walk r c s t o k (from_start p v i) = omega (arith, ints, walk r c s t o k p, o)

pub no_cycle : (r : Ranking) (c : Case) (s : Selection) (t : Timetable) → t 0 ≡ 0 → AllByRecursion (Keeps r t) (arcs c s) → NoCycle r c s
no_cycle r c s t o k v z p = omega (arith, ints, walk r c s t o k p)

-- ---- numbers in order, from `low` to below `high`

abbrev Between : ℕ → ℕ → List ℕ → Type 0
Between low high [] = low ≤ high
Between low high (w ∷ ws) = (low ≤ w) × Between (suc w) high ws

few : (low high : ℕ) (ws : List ℕ) → Between low high ws → low + length ws ≤ high
few low high [] b = omega arith
few low high (w ∷ ws) b = omega (arith, few (suc w) high ws b.1)

abbrev Inserted : (ℕ → Type 0) → ℕ → ℕ → ℕ → Type 0
Inserted Q n low high = (ws : List ℕ) × Between low high ws × (suc n ≤ length ws) × AllByRecursion Q ws

insert : (P Q : ℕ → Type 0) → ((w : ℕ) → P w → Q w) → (v : ℕ) → Q v → (n low high : ℕ) (ws : List ℕ) → Between low high ws → n ≤ length ws → AllByRecursion P ws → low ≤ v → v < high → P v ⊎ Inserted Q n low high
insert P Q i v q n low high [] b l a h k = inr (v ∷ [], (h, k), omega arith, (q, tt))
insert P Q i v q n low high (w ∷ ws) b l a h k =
    elim (cases_order v w) [
      | inl e ↦ inl (subst P (sym e) a.0)
      | inr o ↦ elim o [
        | inl lt ↦ inr (v ∷ w ∷ ws, (h, (lt, b.1)), omega arith, (q, All-weaker P Q i (w ∷ ws) a))
        | inr gt ↦ elim (insert P Q i v q (length ws) (suc w) high ws b.1 (omega arith) a.1 gt k) [
          | inl p ↦ inl p
          | inr d ↦ inr (w ∷ d.0, (b.0, d.1), omega (arith, d.2), (i w a.0, d.3))
        ]
      ]
    ]

-- ---- the arcs of a selection

pub record Known (c : Case) (s : Selection) (a : Arc) : Type 0 where
  pub has : ContainsAt (arcs c s) a
  pub from_known : a.from ≤ c.end
  pub to_known : a.to ≤ c.end

chosen_within : (n k : ℕ) (p : Pair) → ArcWithin n p.first → ArcWithin n p.second → AllByRecursion (ArcWithin n) (chosen k p)
chosen_within n k p f g =
    cond_both (eqb k 1) (p.first ∷ []) (cond (eqb k 2) (p.second ∷ []) []) (AllByRecursion (ArcWithin n)) (λ e. (f, tt))
    (λ e. cond_both (eqb k 2) (p.second ∷ []) [] (AllByRecursion (ArcWithin n)) (λ e. (g, tt)) (λ e. tt))

selected_within : (n : ℕ) (s : Selection) (ps : List Pair) → AllByRecursion (λ p. ArcWithin n p.first) ps → AllByRecursion (λ p. ArcWithin n p.second) ps → AllByRecursion (ArcWithin n) (selected s ps)
selected_within n [] ps f g = tt
selected_within n (a ∷ s) [] f g = tt
selected_within n (a ∷ s) (p ∷ ps) f g = All-append (ArcWithin n) (chosen a p) (selected s ps) (chosen_within n a p f.0 g.0) (selected_within n s ps f.1 g.1)

both : {X : Type 0} (P Q R : X → Type 0) → ((x : X) → P x → Q x → R x) → (xs : List X) → AllByRecursion P xs → AllByRecursion Q xs → AllByRecursion R xs
both P Q R f [] a b = tt
both P Q R f (x ∷ xs) a b = (f x a.0 b.0, both P Q R f xs a.1 b.1)

all_known : (c : Case) (s : Selection) → Within c → AllByRecursion (Known c s) (arcs c s)
all_known c s w =
    both (ContainsAt (arcs c s)) (ArcWithin c.end) (Known c s) (λ a h i. record { has = h; from_known = i.from_known; to_known = i.to_known }) (arcs c s)
    (all_has_itself (arcs c s))
    (All-append (ArcWithin c.end) c.fixed (selected s c.pairs) w.fixed_within (selected_within c.end s c.pairs w.first_within w.second_within))

-- ---- what raising keeps: an entry for each event, each the length of a path from event 0

pub record Sound (r : Ranking) (c : Case) (s : Selection) (ts : List ℕ) : Type 0 where
  pub len : length ts ≡ c.end + 1
  pub paths : (v : ℕ) → v ≤ c.end → Path r c s 0 v (pos (get_or ts v 0))

sound_start : (r : Ranking) (c : Case) (s : Selection) → Sound r c s (replicate (c.end + 1) 0)
sound_start r c s = record {
  len = length-replicate (c.end + 1) 0;
  paths = λ v i. let P : ℕ → Type 0 = λ n. Path r c s 0 v (pos n) in subst P (sym (get_or-replicate (c.end + 1) v 0 0 (omega arith))) (from_start (here (omega arith)) v i);
}

-- the entry that an arc asks for
abbrev asked : Ranking → List ℕ → Arc → ℕ
asked r ts a = max (get_or ts a.to 0) (floor (pos (get_or ts a.from 0) +ℤ r a.weight a.mark))

floor_path : (r : Ranking) (c : Case) (s : Selection) (v m : ℕ) (z : ℤ) → Path r c s 0 v (pos m) → Path r c s 0 v z → Path r c s 0 v (pos (max m (floor z)))
floor_path r c s v m (pos n) p q =
    let P : ℕ → Type 0 = λ x. Path r c s 0 v (pos x) in
    elim (cases_lt m n) [ inl h ↦ let e : n ≡ max m n = omega arith in subst P e q | inr h ↦ let e : m ≡ max m n = omega arith in subst P e p ]
floor_path r c s v m (negsuc n) p q =
    let P : ℕ → Type 0 = λ x. Path r c s 0 v (pos x) in
    let e : m ≡ max m 0 = omega arith in subst P e p

floor_le : (m : ℕ) (z : ℤ) → z ≤ℤ pos m → max m (floor z) ≡ m
floor_le m (pos n) h = omega (arith, ints)
floor_le m (negsuc n) h = omega arith

floor_up : (m : ℕ) (z : ℤ) → z ≤ℤ pos (max m (floor z))
floor_up m (pos n) = omega (arith, ints)
floor_up m (negsuc n) = omega (arith, ints)

floor_of : (m : ℕ) (z : ℤ) → pos m <ℤ z → pos (max m (floor z)) ≤ℤ z
floor_of m (pos n) h = omega (arith, ints)
floor_of m (negsuc n) h = absurd (omega (arith, ints))

-- what stands at an event after a raise
raised_at : (r : Ranking) (ts : List ℕ) (a : Arc) → a.to < length ts → get_or (raised_by r ts a) a.to 0 ≡ asked r ts a
raised_at r ts a h = get_or-set_same ts a.to (asked r ts a) 0 h

raised_other : (r : Ranking) (ts : List ℕ) (a : Arc) (v : ℕ) → v ≢ a.to → get_or (raised_by r ts a) v 0 ≡ get_or ts v 0
raised_other r ts a v h = get_or-set_other ts a.to v (asked r ts a) 0 h

sound_by : (r : Ranking) (c : Case) (s : Selection) (ts : List ℕ) (a : Arc) → Known c s a → Sound r c s ts → Sound r c s (raised_by r ts a)
sound_by r c s ts a k d = record {
  len = length-set ts a.to (asked r ts a) ∙ d.len;
  paths = λ v i.
      elim (cases_eq v a.to) [
        | inl e ↦ subst (λ (x : ℕ). Path r c s 0 x (pos (get_or (raised_by r ts a) x 0))) (sym e)
            (subst (λ (x : ℕ). Path r c s 0 a.to (pos x)) (sym (raised_at r ts a (omega (arith, k.to_known, d.len))))
            (floor_path r c s a.to (get_or ts a.to 0) (pos (get_or ts a.from 0) +ℤ r a.weight a.mark)
            (d.paths a.to k.to_known) (along (d.paths a.from k.from_known) a k.has refl)))
        | inr n ↦ subst (λ (x : ℕ). Path r c s 0 v (pos x)) (sym (raised_other r ts a v n)) (d.paths v i)
      ];
}

-- what stands after the last round
abbrev last : Ranking → Case → Selection → List ℕ
last r c s = rounds r (arcs c s) c.end (replicate (c.end + 1) 0)

-- ---- a chain of events, each of which leads to `v` by enough for what stands there

abbrev Reaches : Ranking → Case → Selection → List ℕ → ℕ → ℕ → Type 0
Reaches r c s ts v w = (z : ℤ) × Path r c s w v z × (pos (get_or ts v 0) ≤ℤ (pos (get_or ts w 0) +ℤ z))

record Chain (r : Ranking) (c : Case) (s : Selection) (ts : List ℕ) (v n : ℕ) : Type 0 where
  events : List ℕ
  ordered : Between 0 (c.end + 1) events
  many : n ≤ length events
  reach : AllByRecursion (Reaches r c s ts v) events

-- kept, or its start is the end of a long chain
abbrev Open : Ranking → Case → Selection → ℕ → List ℕ → Arc → Type 0
Open r c s n ts a = Keeps r (time_of ts) a ⊎ Chain r c s ts a.from n

module _ (r : Ranking) (c : Case) (s : Selection) where
  chain_start : (ts : List ℕ) (v : ℕ) → v ≤ c.end → Chain r c s ts v 1
  chain_start ts v i = record {
    events = v ∷ [];
    ordered = (omega arith, omega arith);
    many = omega arith;
    reach = ((pos 0, here i, omega (arith, ints)), tt);
  }

  -- an arc that is not kept closes a cycle, or makes a chain longer
  extend : (ts us : List ℕ) (a : Arc) (n : ℕ) → Known c s a → pos (get_or ts a.to 0) <ℤ (pos (get_or ts a.from 0) +ℤ r a.weight a.mark) → Chain r c s ts a.from n
      → ((w : ℕ) → get_or ts w 0 ≤ get_or us w 0)
      → pos (get_or us a.to 0) ≤ℤ (pos (get_or ts a.from 0) +ℤ r a.weight a.mark)
      → PositiveCycle r c s ⊎ Chain r c s us a.to (suc n)
  extend ts us a n k f h up e =
      elim (insert (Reaches r c s ts a.from) (Reaches r c s us a.to)
      (λ w p. (p.0 +ℤ r a.weight a.mark, along p.1 a k.has refl, omega (arith, ints, p.2, e, up w)))
      a.to (pos 0, here k.to_known, omega (arith, ints)) n 0 (c.end + 1) h.events h.ordered h.many h.reach (omega arith) (omega (arith, k.to_known))) [
        | inl p ↦ inl (a.to, p.0 +ℤ r a.weight a.mark, along p.1 a k.has refl, omega (arith, ints, p.2, f))
        | inr d ↦ inr (record { events = d.0; ordered = d.1; many = d.2; reach = d.3 })
      ]

  -- what a raise by `b` leaves: no arc loses its chain, and `b` is kept or has a longer one
  Raised : ℕ → List ℕ → Arc → List ℕ → Type 0
  Raised n ts b us = ((m : ℕ) (a : Arc) → m ≤ suc n → Open r c s m ts a → Open r c s m us a) × Open r c s (suc n) us b

  weaker : (ts : List ℕ) (u v m n : ℕ) → u ≡ v → m ≤ n → Chain r c s ts v n → Chain r c s ts u m
  weaker ts u v m n e l h = subst (λ (x : ℕ). Chain r c s ts x m) (sym e) (record { events = h.events; ordered = h.ordered; many = omega (arith, h.many, l); reach = h.reach })

  lifted : (ts us : List ℕ) (v n : ℕ) → get_or us v 0 ≡ get_or ts v 0 → ((w : ℕ) → get_or ts w 0 ≤ get_or us w 0) → Chain r c s ts v n → Chain r c s us v n
  lifted ts us v n e up h = record {
    events = h.events;
    ordered = h.ordered;
    many = h.many;
    reach = All-weaker (Reaches r c s ts v) (Reaches r c s us v) (λ w p. (p.0, p.1, omega (arith, ints, p.2, e, up w))) h.events h.reach;
  }

  up_by : (ts : List ℕ) (b : Arc) → b.to < length ts → (w : ℕ) → get_or ts w 0 ≤ get_or (raised_by r ts b) w 0
  up_by ts b l w =
      elim (cases_eq w b.to) [
        | inl e ↦ subst (λ (x : ℕ). get_or ts x 0 ≤ get_or (raised_by r ts b) x 0) (sym e) (omega (arith, raised_at r ts b l))
        | inr n ↦ omega (arith, raised_other r ts b w n)
      ]

  -- after `v` alone was raised, and has a chain of n events
  after : (ts us : List ℕ) (v n : ℕ) → ((w : ℕ) → w ≢ v → get_or us w 0 ≡ get_or ts w 0) → ((w : ℕ) → get_or ts w 0 ≤ get_or us w 0) → Chain r c s us v n
      → (m : ℕ) (a : Arc) → m ≤ n → Open r c s m ts a → Open r c s m us a
  after ts us v n other up h m a l o =
      elim (cases_eq a.from v) [
        | inl e ↦ inr (weaker us a.from v m n e l h)
        | inr x ↦ elim o [
          | inl q ↦ inl (omega (arith, ints, q, other a.from x, up a.to))
          | inr g ↦ inr (lifted ts us a.from m (other a.from x) up g)
        ]
      ]

  raise : (ts : List ℕ) (n : ℕ) (b : Arc) → Known c s b → Sound r c s ts → Open r c s n ts b → PositiveCycle r c s ⊎ Raised n ts b (raised_by r ts b)
  unfolding Raised
  raise ts n b k d o =
      let z : ℤ = pos (get_or ts b.from 0) +ℤ r b.weight b.mark in
      let i : b.to < length ts = omega (arith, k.to_known, d.len) in
      by_lt_z (pos (get_or ts b.to 0)) z
      (λ f. elim o [
        | inl q ↦ absurd (omega (arith, ints, q, f))
        | inr h ↦ elim (extend ts (raised_by r ts b) b n k f h (up_by ts b i) (omega (arith, ints, raised_at r ts b i, floor_of (get_or ts b.to 0) z f))) [
          | inl p ↦ inl p
          | inr g ↦ inr (
            after ts (raised_by r ts b) b.to (suc n) (raised_other r ts b) (up_by ts b i) g,
            elim (cases_eq b.from b.to) [
              | inl e ↦ inr (weaker (raised_by r ts b) b.from b.to (suc n) (suc n) e (omega arith) g)
              | inr x ↦ inl (omega (arith, ints, raised_at r ts b i, raised_other r ts b b.from x, floor_up (get_or ts b.to 0) z))
            ],
          )
        ]
      ])
      (λ q. inr (subst (Raised n ts b) (sym (ap (set ts b.to) (floor_le (get_or ts b.to 0) z q) ∙ set-get_or ts b.to 0)) ((λ m a l o. o), inl q)))

  -- over all the arcs, once
  RaisedAll : ℕ → List ℕ → List Arc → List ℕ → Type 0
  RaisedAll n ts es us = ((m : ℕ) (a : Arc) → m ≤ suc n → Open r c s m ts a → Open r c s m us a) × AllByRecursion (Open r c s (suc n) us) es × Sound r c s us

  raise_all : (es : List Arc) (ts : List ℕ) (n : ℕ) → AllByRecursion (Known c s) es → Sound r c s ts → AllByRecursion (Open r c s n ts) es → PositiveCycle r c s ⊎ RaisedAll n ts es (raised r ts es)
  unfolding Raised RaisedAll
  raise_all [] ts n k d o = inr ((λ m a l q. q), tt, d)
  raise_all (b ∷ es) ts n k d o =
      elim (raise ts n b k.0 d o.0) [
        | inl p ↦ inl p
        | inr h ↦ elim (raise_all es (raised_by r ts b) n k.1 (sound_by r c s ts b k.0 d) (All-weaker (Open r c s n ts) (Open r c s n (raised_by r ts b)) (λ a q. h.0 n a (omega arith) q) es o.1)) [
          | inl p ↦ inl p
          | inr g ↦ inr ((λ m a l q. g.0 m a l (h.0 m a l q)), (g.0 (suc n) b (omega arith) h.1, g.1), g.2)
        ]
      ]

  -- k rounds
  raise_rounds : (k : ℕ) (es : List Arc) (ts : List ℕ) (n : ℕ) → AllByRecursion (Known c s) es → Sound r c s ts → AllByRecursion (Open r c s n ts) es
      → PositiveCycle r c s ⊎ ((m : ℕ) × (m ≡ n + k) × AllByRecursion (Open r c s m (rounds r es k ts)) es × Sound r c s (rounds r es k ts))
  unfolding RaisedAll
  raise_rounds zero es ts n k d o = inr (n, omega arith, o, d)
  raise_rounds (suc j) es ts n k d o =
      elim (raise_all es ts n k d o) [
        | inl p ↦ inl p
        | inr h ↦ elim (raise_rounds j es (raised r ts es) (suc n) k h.2 h.1) [
          | inl p ↦ inl p
          | inr g ↦ inr (g.0, omega (arith, g.1), g.2, g.3)
        ]
      ]

  -- a chain through all the events cannot grow
  settled : (es : List Arc) (ts : List ℕ) (m : ℕ) → m ≡ 1 + c.end → AllByRecursion (Known c s) es → AllByRecursion (Open r c s m ts) es → PositiveCycle r c s ⊎ AllByRecursion (Keeps r (time_of ts)) es
  settled [] ts m e k o = inr tt
  settled (a ∷ es) ts m e k o =
      elim (settled es ts m e k.1 o.1) [
        | inl p ↦ inl p
        | inr q ↦ elim o.0 [
          | inl w ↦ inr (w, q)
          | inr h ↦ by_lt_z (pos (get_or ts a.to 0)) (pos (get_or ts a.from 0) +ℤ r a.weight a.mark)
              (λ f. elim (extend ts ts a m k.0 f h (λ w. omega arith) (omega (arith, ints, f))) [
                | inl p ↦ inl p
                | inr g ↦ absurd (omega (arith, few 0 (c.end + 1) g.events g.ordered, g.many, e))
              ])
              (λ w. inr (w, q))
        ]
      ]

  record Ending : Type 0 where
    sound : Sound r c s (last r c s)
    starts : get_or (last r c s) 0 0 ≡ 0
    keeps : AllByRecursion (Keeps r (time_of (last r c s))) (arcs c s)

  zero_or_cycle : (n : ℕ) → Path r c s 0 0 (pos n) → PositiveCycle r c s ⊎ (n ≡ 0)
  zero_or_cycle zero p = inr refl
  zero_or_cycle (suc n) p = inl (0, pos (suc n), p, omega (arith, ints))

  ends : Within c → PositiveCycle r c s ⊎ Ending
  ends w =
      let k : AllByRecursion (Known c s) (arcs c s) = all_known c s w in
      elim (raise_rounds c.end (arcs c s) (replicate (c.end + 1) 0) 1 k (sound_start r c s)
      (All-weaker (Known c s) (Open r c s 1 (replicate (c.end + 1) 0)) (λ a h. inr (chain_start (replicate (c.end + 1) 0) a.from h.from_known)) (arcs c s) k)) [
        | inl p ↦ inl p
        | inr g ↦ elim (settled (arcs c s) (last r c s) g.0 g.1 k g.2) [
          | inl p ↦ inl p
          | inr q ↦ elim (zero_or_cycle (get_or (last r c s) 0 0) (g.3.paths 0 (omega arith))) [
            | inl p ↦ inl p
            | inr e ↦ inr (record { sound = g.3; starts = e; keeps = q })
          ]
        ]
      ]

-- ---- the look at the end

true_from : (b : Bool) → T b → b ≡ true
true_from true t = refl
true_from false t = absurd t

kept_from : (r : Ranking) (ts : List ℕ) (es : List Arc) → kept_all r ts es ≡ true → AllByRecursion (Keeps r (time_of ts)) es
kept_from r ts [] e = tt
kept_from r ts (a ∷ es) e =
    let p = and_parts (le_z (pos (get_or ts a.from 0) +ℤ r a.weight a.mark) (pos (get_or ts a.to 0))) (kept_all r ts es) e in
    (record { le = subst T (sym p.0) tt }, kept_from r ts es p.1)

kept_to : (r : Ranking) (ts : List ℕ) (es : List Arc) → AllByRecursion (Keeps r (time_of ts)) es → kept_all r ts es ≡ true
kept_to r ts [] k = refl
kept_to r ts (a ∷ es) k =
    and_from (le_z (pos (get_or ts a.from 0) +ℤ r a.weight a.mark) (pos (get_or ts a.to 0))) (kept_all r ts es)
    (true_from (le_z (pos (get_or ts a.from 0) +ℤ r a.weight a.mark) (pos (get_or ts a.to 0))) k.0.le) (kept_to r ts es k.1)

-- ---- the laws

module _ (r : Ranking) (c : Case) (s : Selection) where
  is_least : (ts : List ℕ) → Sound r c s ts → get_or ts 0 0 ≡ 0 → AllByRecursion (Keeps r (time_of ts)) (arcs c s) → Least r c s (time_of ts)
  is_least ts d o k = record {
    starts = o;
    keeps = k;
    least = λ u z q v i. omega (arith, ints, walk r c s u z q (d.paths v i), z);
  }

  no_positive : (t : Timetable) → t 0 ≡ 0 → AllByRecursion (Keeps r t) (arcs c s) → PositiveCycle r c s → ⊥
  no_positive t o k p = omega (arith, ints, no_cycle r c s t o k p.0 p.1 p.2, p.3)

  sound_rounds : (k : ℕ) (es : List Arc) (ts : List ℕ) → AllByRecursion (Known c s) es → Sound r c s ts → Sound r c s (rounds r es k ts)
  sound_rounds zero es ts h d = d
  sound_rounds (suc k) es ts h d = sound_rounds k es (raised r ts es) h (go es ts h d)
    where
      go : (es : List Arc) (ts : List ℕ) → AllByRecursion (Known c s) es → Sound r c s ts → Sound r c s (raised r ts es)
      go [] ts h d = d
      go (a ∷ es) ts h d = go es (raised_by r ts a) h.1 (sound_by r c s ts a h.0 d)

  look : (w : Within c) (b : Bool) → (eqb (get_or (last r c s) 0 0) 0 && kept_all r (last r c s) (arcs c s)) ≡ b
      → AreLeast r c s (cond b (Some (last r c s)) None)
  look w true e =
      let ts : List ℕ = last r c s in
      let d : Sound r c s ts = sound_rounds c.end (arcs c s) (replicate (c.end + 1) 0) (all_known c s w) (sound_start r c s) in
      let p = and_parts (eqb (get_or ts 0 0) 0) (kept_all r ts (arcs c s)) e in
      (d.len, is_least ts d (eqb-true (get_or ts 0 0) 0 p.0) (kept_from r ts (arcs c s) p.1))
  look w false e = λ u z q.
      let ts : List ℕ = last r c s in
      elim (ends r c s w) [
        | inl p ↦ no_positive u z q p
        | inr h ↦ both_ways (eqb (get_or ts 0 0) 0 && kept_all r ts (arcs c s)) e
            (and_from (eqb (get_or ts 0 0) 0) (kept_all r ts (arcs c s)) (eq-eqb (get_or ts 0 0) 0 h.starts) (kept_to r ts (arcs c s) h.keeps))
      ]

  pub longest : Within c → (t : Timetable) → Least r c s t → Longest r c s t
  longest w t l v i =
      let ts : List ℕ = last r c s in (
        elim (ends r c s w) [
          | inl p ↦ absurd (no_positive t l.starts l.keeps p)
          | inr h ↦
              let e : get_or ts v 0 ≡ t v = omega (arith, ints, (is_least ts h.sound h.starts h.keeps).least t l.starts l.keeps v i, l.least (time_of ts) h.starts h.keeps v i) in
              subst (λ (x : ℕ). Path r c s 0 v (pos x)) e (h.sound.paths v i)
        ],
        λ z p. omega (arith, ints, walk r c s t l.starts l.keeps p, l.starts),
      )

  pub cycle : Within c → NoTimes r c s → PositiveCycle r c s
  cycle w none =
      elim (ends r c s w) [
        | inl p ↦ p
        | inr h ↦ absurd (none (time_of (last r c s)) h.starts h.keeps)
      ]

  mean : (w : Within c) (o : Option (List ℕ)) → AreLeast r c s o → TimesMean r c s o
  mean w None none = record { no_timetable = none; cycle = cycle w none }
  mean w (Some ts) l = record {
    one_each = l.0;
    least = l.1;
    longest = longest w (time_of ts) l.1;
    no_cycle = no_cycle r c s (time_of ts) l.1.starts l.1.keeps;
  }

-- what is worked out are the least times
pub worked_out : (r : Ranking) (c : Case) (s : Selection) → Within c → AreLeast r c s (least_times r c s)
worked_out r c s w = look r c s w (eqb (get_or (last r c s) 0 0) 0 && kept_all r (last r c s) (arcs c s)) refl

pub times_laws : (r : Ranking) (c : Case) (s : Selection) → Within c → TimesLaw r c s
times_laws r c s w = mean r c s w (least_times r c s) (worked_out r c s w)
