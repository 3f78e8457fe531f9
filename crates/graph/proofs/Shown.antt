-- Values that show times, and what a raise does to both. Assumes nothing.
use Rattle.std.proofs.Common.{◌≡◌, ℕ, zero, suc, ◌+◌, ◌*◌, ◌^◌, ◌<◌, ◌≤◌, max, Bool, true, false, not, ◌&&◌, List, [], ◌∷◌, ◌++◌, length, get_or, set, replicate, ℤ, pos, negsuc, ◌+ℤ◌, ◌≤ℤ◌, sym, refl, ap, ◌∙◌, subst, add-one, arith, w32, to_z, of_z}
use lib.Signed.{lt_z, le_z}
use Rattle.std.specs.List.{AllByRecursion}
use Rattle.std.proofs.ByRecursion.{All-set, All-get_or, All-weaker}
use Rattle.std.proofs.lemmas.List.{length-set, set-get_or}
use Rattle.std.proofs.lemmas.Int.{ints}
use Rattle.std.proofs.lemmas.Bool.{ltb-true, ltb-false, false≢true}
use Rattle.graph.specs.Graph.{Arc, ArcWithin, Ranking, IsRanking}
use Rattle.graph.specs.Times.{floor, raised_by, raised, rounds, kept_all}
use Rattle.graph.specs.Views.{Shows, Summable}
use Rattle.graph.specs.Steps.{Raisable}

module _ {V : Type 0} (rank : V → ℤ) where
  pub shows_at : (vs : List V) (ts : List ℕ) (i : ℕ) (v : V) → Shows rank vs ts → i < length ts → v ≡ get_or vs i v → rank v ≡ pos (get_or ts i 0)
  shows_at vs [] i v s l e = absurd (omega arith)
  shows_at [] (t ∷ ts) i v s l e = absurd s
  shows_at (x ∷ vs) (t ∷ ts) zero v s l e = ap rank e ∙ s.0
  shows_at (x ∷ vs) (t ∷ ts) (suc i) v s l e = shows_at vs ts i v s.1 (omega arith) e

  pub shows_set : (vs : List V) (ts : List ℕ) (i : ℕ) (v : V) (t : ℕ) → Shows rank vs ts → rank v ≡ pos t → Shows rank (set vs i v) (set ts i t)
  shows_set vs [] i v u s e = tt
  shows_set [] (t ∷ ts) i v u s e = absurd s
  shows_set (x ∷ vs) (t ∷ ts) zero v u s e = (e, s.1)
  shows_set (x ∷ vs) (t ∷ ts) (suc i) v u s e = (s.0, shows_set vs ts i v u s.1 e)

  -- more values behind those that show the ranks
  pub shows_more : (vs : List V) (ts : List ℕ) (ws : List V) → Shows rank vs ts → Shows rank (vs ++ ws) ts
  shows_more vs [] ws s = tt
  shows_more [] (t ∷ ts) ws s = absurd s
  shows_more (v ∷ vs) (t ∷ ts) ws s = (s.0, shows_more vs ts ws s.1)

  pub shows_same : (vs : List V) (ts us : List ℕ) → length ts ≡ length us → Shows rank vs ts → Shows rank vs us → ts ≡ us
  shows_same vs [] [] l s q = refl
  shows_same vs [] (u ∷ us) l s q = absurd (omega arith)
  shows_same vs (t ∷ ts) [] l s q = absurd (omega arith)
  shows_same [] (t ∷ ts) (u ∷ us) l s q = absurd s
  shows_same (v ∷ vs) (t ∷ ts) (u ∷ us) l s q =
      let e : pos t ≡ pos u = sym s.0 ∙ q.0 in
      let f : t ≡ u = cc in
      let h : ts ≡ us = shows_same vs ts us (omega arith) s.1 q.1 in cc

floor_above : (m : ℕ) (z : ℤ) → lt_z (pos m) z ≡ true → z ≡ pos (max m (floor z))
floor_above m (pos n) e = ap pos (omega (arith, ltb-true m n e))
floor_above m (negsuc n) e = absurd (false≢true e)

floor_under : (m : ℕ) (z : ℤ) → lt_z (pos m) z ≡ false → max m (floor z) ≡ m
floor_under m (pos n) e = omega (arith, ltb-false m n e)
floor_under m (negsuc n) e = omega arith

-- ---- one arc

-- a weight within the limits, as it is handed on
passed : (z : ℤ) → negsuc 999999 ≤ℤ z → z ≤ℤ pos 1000000 → to_z w32 (of_z w32 z) ≡ z
passed z l h = omega (arith, ints)

-- the rank that an arc reaches, as the code works it out
module _ {V : Type 0} (rank : V → ℤ) (r : Ranking) (bounded : IsRanking r) (n : ℕ) (a : Arc) (vs : List V) (ts : List ℕ) (k : Raisable n a ts) (s : Shows rank vs ts) where
  pub reaches : (x w z : V) → x ≡ get_or vs a.from x → rank w ≡ r (to_z w32 (of_z w32 a.weight)) a.mark → (Summable (rank x) → Summable (rank w) → rank z ≡ rank x +ℤ rank w)
      → rank z ≡ pos (get_or ts a.from 0) +ℤ r a.weight a.mark
  reaches x w z e f₀ p =
      let b = k.within in
      let f : rank w ≡ r a.weight a.mark = f₀ ∙ ap (λ y. r y a.mark) (passed a.weight b.not_below b.not_above) in
      let h : rank x ≡ pos (get_or ts a.from 0) = shows_at rank vs ts a.from x s k.from_shown e in
      let l : get_or ts a.from 0 ≤ 2 ^ 59 = All-get_or (λ t. t ≤ 2 ^ 59) ts a.from 0 k.from_shown k.low in
      let lo = bounded.low a.weight a.mark b.not_below b.not_above b.marked in
      let hi = bounded.high a.weight a.mark b.not_below b.not_above b.marked in
      let q : rank z ≡ rank x +ℤ rank w = p (record { not_below = omega (arith, ints, h); not_above = omega (arith, ints, h) }) (record { not_below = omega (arith, ints, f, lo); not_above = omega (arith, ints, f, hi) }) in
      cc

  pub raised_up : (y z : V) → y ≡ get_or vs a.to y → rank z ≡ pos (get_or ts a.from 0) +ℤ r a.weight a.mark → lt_z (rank y) (rank z) ≡ true → Shows rank (set vs a.to z) (raised_by r ts a)
  raised_up y z e f u =
      let h : rank y ≡ pos (get_or ts a.to 0) = shows_at rank vs ts a.to y s k.to_shown e in
      shows_set rank vs ts a.to z _ s (f ∙ floor_above (get_or ts a.to 0) (pos (get_or ts a.from 0) +ℤ r a.weight a.mark) (sym (ap (λ x. lt_z x (pos (get_or ts a.from 0) +ℤ r a.weight a.mark)) h) ∙ (sym (ap (lt_z (rank y)) f) ∙ u)))

  pub raised_not : (y z : V) → y ≡ get_or vs a.to y → rank z ≡ pos (get_or ts a.from 0) +ℤ r a.weight a.mark → lt_z (rank y) (rank z) ≡ false → Shows rank vs (raised_by r ts a)
  raised_not y z e f u =
      let h : rank y ≡ pos (get_or ts a.to 0) = shows_at rank vs ts a.to y s k.to_shown e in
      let g : max (get_or ts a.to 0) (floor (pos (get_or ts a.from 0) +ℤ r a.weight a.mark)) ≡ get_or ts a.to 0 =
      floor_under (get_or ts a.to 0) (pos (get_or ts a.from 0) +ℤ r a.weight a.mark) (sym (ap (λ x. lt_z x (pos (get_or ts a.from 0) +ℤ r a.weight a.mark)) h) ∙ (sym (ap (lt_z (rank y)) f) ∙ u)) in
      subst (Shows rank vs) (sym (ap (set ts a.to) g ∙ set-get_or ts a.to 0)) s

  pub kept_is : (y z : V) → y ≡ get_or vs a.to y → rank z ≡ pos (get_or ts a.from 0) +ℤ r a.weight a.mark
      → not (lt_z (rank y) (rank z)) ≡ le_z (pos (get_or ts a.from 0) +ℤ r a.weight a.mark) (pos (get_or ts a.to 0))
  kept_is y z e f =
      let h : rank y ≡ pos (get_or ts a.to 0) = shows_at rank vs ts a.to y s k.to_shown e in
      rw (h, f) (not_under (pos (get_or ts a.to 0)) (pos (get_or ts a.from 0) +ℤ r a.weight a.mark))
    where
      not_under : (x y : ℤ) → not (lt_z x y) ≡ le_z y x
      not_under x y = grind (arith, ints)

-- ---- how far raises go

module _ (r : Ranking) (bounded : IsRanking r) where
  pub low_by : (b n : ℕ) (a : Arc) (ts : List ℕ) → ArcWithin n a → a.from < length ts → a.to < length ts → AllByRecursion (λ t. t ≤ b) ts → AllByRecursion (λ t. t ≤ b + 2 ^ 31) (raised_by r ts a)
  low_by b n a ts w f t l =
      let hi = bounded.high a.weight a.mark w.not_below w.not_above w.marked in
      All-set (λ t. t ≤ b + 2 ^ 31) ts a.to _
      (floored (get_or ts a.to 0) (pos (get_or ts a.from 0) +ℤ r a.weight a.mark) (omega (arith, All-get_or (λ t. t ≤ b) ts a.to 0 t l)) (omega (arith, ints, hi, All-get_or (λ t. t ≤ b) ts a.from 0 f l)))
      (All-weaker (λ t. t ≤ b) (λ t. t ≤ b + 2 ^ 31) (λ t h. omega arith) ts l)
    where
      floored : (m : ℕ) (z : ℤ) → m ≤ b + 2 ^ 31 → z ≤ℤ pos (b + 2 ^ 31) → max m (floor z) ≤ b + 2 ^ 31
      floored m (pos n) h k = omega (arith, ints)
      floored m (negsuc n) h k = omega arith

  pub length_raised : (ts : List ℕ) (es : List Arc) → length (raised r ts es) ≡ length ts
  length_raised ts [] = refl
  length_raised ts (a ∷ es) = length_raised (raised_by r ts a) es ∙ length-set ts a.to _

  -- at most k arcs, each within the limits
  pub low_raised : (n k b : ℕ) (ts : List ℕ) (es : List Arc) → length ts ≡ n + 1 → length es ≤ k → AllByRecursion (ArcWithin n) es → AllByRecursion (λ t. t ≤ b) ts → AllByRecursion (λ t. t ≤ b + k * 2 ^ 31) (raised r ts es)
  low_raised n k b ts [] e h w l = All-weaker (λ t. t ≤ b) (λ t. t ≤ b + k * 2 ^ 31) (λ t h. omega arith) ts l
  low_raised n zero b ts (a ∷ es) e h w l = absurd (omega arith)
  low_raised n (suc k) b ts (a ∷ es) e h w l =
      All-weaker (λ t. t ≤ (b + 2 ^ 31) + k * 2 ^ 31) (λ t. t ≤ b + suc k * 2 ^ 31) (λ t h. omega arith) _
      (low_raised n k (b + 2 ^ 31) (raised_by r ts a) es (length-set ts a.to _ ∙ e) (omega arith) w.1
      (low_by b n a ts w.0 (omega (arith, w.0.from_known)) (omega (arith, w.0.to_known)) l))

-- ---- lists of arcs and rounds

pub raised_append : (r : Ranking) (ts : List ℕ) (es fs : List Arc) → raised r ts (es ++ fs) ≡ raised r (raised r ts es) fs
raised_append r ts [] fs = refl
raised_append r ts (a ∷ es) fs = raised_append r (raised_by r ts a) es fs

pub rounds_more : (r : Ranking) (es : List Arc) (k : ℕ) (ts : List ℕ) → rounds r es (k + 1) ts ≡ raised r (rounds r es k ts) es
rounds_more r es zero ts = refl
rounds_more r es (suc k) ts = rw add-one (go k ts)
  where
    go : (k : ℕ) (ts : List ℕ) → rounds r es (suc (suc k)) ts ≡ raised r (rounds r es (suc k) ts) es
    go zero ts = refl
    go (suc k) ts = go k (raised r ts es)

pub rounds_still : (r : Ranking) (es : List Arc) (k : ℕ) (ts : List ℕ) → raised r ts es ≡ ts → rounds r es k ts ≡ ts
rounds_still r es zero ts e = refl
rounds_still r es (suc k) ts e = ap (rounds r es k) e ∙ rounds_still r es k ts e

pub rounds_add : (r : Ranking) (es : List Arc) (j k : ℕ) (ts : List ℕ) → rounds r es (j + k) ts ≡ rounds r es k (rounds r es j ts)
rounds_add r es zero k ts = let e : zero + k ≡ k = omega arith in ap (λ n. rounds r es n ts) e
rounds_add r es (suc j) k ts = let e : suc j + k ≡ suc (j + k) = omega arith in ap (λ n. rounds r es n ts) e ∙ rounds_add r es j k (raised r ts es)

pub kept_append : (r : Ranking) (ts : List ℕ) (es fs : List Arc) → kept_all r ts (es ++ fs) ≡ (kept_all r ts es && kept_all r ts fs)
kept_append r ts [] fs = refl
kept_append r ts (a ∷ es) fs =
    ap (λ b. le_z (pos (get_or ts a.from 0) +ℤ r a.weight a.mark) (pos (get_or ts a.to 0)) && b) (kept_append r ts es fs)
    ∙ sym (and_assoc (le_z (pos (get_or ts a.from 0) +ℤ r a.weight a.mark) (pos (get_or ts a.to 0))) (kept_all r ts es) (kept_all r ts fs))
  where
    and_assoc : (x y z : Bool) → ((x && y) && z) ≡ (x && (y && z))
    and_assoc true y z = refl
    and_assoc false y z = refl

pub shows_zeros_more : {V : Type 0} (rank : V → ℤ) (vs : List V) (i : ℕ) (v : V) → i < length vs → rank v ≡ pos 0 → Shows rank vs (replicate i 0) → Shows rank (set vs i v) (replicate (i + 1) 0)
shows_zeros_more rank vs i v l e s = rw add-one (go vs i l s)
  where
    go : (vs : List _) (i : ℕ) → i < length vs → Shows rank vs (replicate i 0) → Shows rank (set vs i v) (replicate (suc i) 0)
    go [] i l s = absurd (omega arith)
    go (x ∷ vs) zero l s = (e, tt)
    go (x ∷ vs) (suc i) l s = (s.0, go vs i (omega arith) s.1)
