-- Rounds under way, and what they end in.
use Rattle.std.proofs.Common.{◌≡◌, ℕ, zero, suc, ◌+◌, ◌-◌, ◌*◌, ◌^◌, ◌<◌, ◌≤◌, Bool, true, false, cond, not, ◌&&◌, eqb, List, length, get_or, drop, replicate, ℤ, pos, is_some as option_is_some, Some, None, sym, refl, ap, ◌∙◌, subst, arith}
use lib.Signed.{lt_z}
use Rattle.std.specs.List.{AllByRecursion}
use Rattle.std.proofs.ByRecursion.{All-weaker}
use Rattle.std.proofs.lemmas.List.{length-replicate}
use Rattle.std.proofs.lemmas.Bool.Decides.{nat_tests}
use Rattle.std.proofs.lemmas.Bool.{and_left, true≢false, false≢true}
use Rattle.graph.specs.Graph.{Case, Within, ArcWithin, Ranking, IsRanking, selection_of}
use Rattle.graph.specs.Times.{raised, rounds, kept_all, least_times}
use Rattle.graph.specs.Views.{Shows}
use Rattle.graph.specs.Told.{times_or_zeros}
use Rattle.graph.specs.Steps.{Ready, places, arcs_of, last_times}
use Rattle.graph.proofs.Shown.{shows_at, shows_same, low_raised, length_raised, rounds_more, rounds_still, rounds_add}
use Rattle.graph.proofs.Placed.{present_places, length_places, places_within, present_within, length_present}

-- after k rounds
pub record Settling {V : Type 0} (rank : V → ℤ) (r : Ranking) (c : Case) (s : List ℕ) (first now : List V) (k : ℕ) : Type 0 where
  pub shown : Shows rank now (rounds r (arcs_of c s) k (replicate (c.end + 1) 0))
  pub behind : drop (c.end + 1) now ≡ drop (c.end + 1) first

all_zero : (b n : ℕ) → AllByRecursion (λ t. t ≤ b) (replicate n 0)
all_zero b zero = tt
all_zero b (suc n) = (omega arith, all_zero b n)

module _ (r : Ranking) (bounded : IsRanking r) (c : Case) (w : Within c) (s : List ℕ) where
  arcs_within : AllByRecursion (ArcWithin c.end) (arcs_of c s)
  arcs_within = subst (AllByRecursion (ArcWithin c.end)) (present_places c s) (present_within c.end (places c s) (places_within c s w))

  few_arcs : length (arcs_of c s) ≤ 2108
  few_arcs = omega (arith, ap length (present_places c s), length_present (places c s), length_places c s, w.few_fixed, w.few_pairs)

  length_rounds : (k : ℕ) (ts : List ℕ) → length (rounds r (arcs_of c s) k ts) ≡ length ts
  length_rounds zero ts = refl
  length_rounds (suc k) ts = length_rounds k (raised r ts (arcs_of c s)) ∙ length_raised r bounded ts (arcs_of c s)

  low_rounds : (b k : ℕ) (ts : List ℕ) → length ts ≡ c.end + 1 → AllByRecursion (λ t. t ≤ b) ts → AllByRecursion (λ t. t ≤ b + k * (2108 * 2 ^ 31)) (rounds r (arcs_of c s) k ts)
  low_rounds b zero ts e l = All-weaker (λ t. t ≤ b) (λ t. t ≤ b + zero * (2108 * 2 ^ 31)) (λ t h. omega arith) ts l
  low_rounds b (suc k) ts e l =
      All-weaker (λ t. t ≤ (b + 2108 * 2 ^ 31) + k * (2108 * 2 ^ 31)) (λ t. t ≤ b + suc k * (2108 * 2 ^ 31)) (λ t h. omega arith) (rounds r (arcs_of c s) k (raised r ts (arcs_of c s)))
      (low_rounds (b + 2108 * 2 ^ 31) k (raised r ts (arcs_of c s)) (length_raised r bounded ts (arcs_of c s) ∙ e) (low_raised r bounded c.end 2108 b ts (arcs_of c s) e few_arcs arcs_within l))

  pub ready : (k : ℕ) → k ≤ c.end → Ready c.end (rounds r (arcs_of c s) k (replicate (c.end + 1) 0))
  ready k h = record {
    len = length_rounds k (replicate (c.end + 1) 0) ∙ length-replicate (c.end + 1) 0;
    low = All-weaker (λ t. t ≤ 0 + k * (2108 * 2 ^ 31)) (λ t. t ≤ 2 ^ 58) (λ t q. omega (arith, w.few_events)) (rounds r (arcs_of c s) k (replicate (c.end + 1) 0))
        (low_rounds 0 k (replicate (c.end + 1) 0) (length-replicate (c.end + 1) 0) (all_zero 0 (c.end + 1)));
  }

  module _ {V : Type 0} (rank : V → ℤ) (first : List V) where
    pub settle_start : Shows rank first (replicate (c.end + 1) 0) → Settling rank r c s first first 0
    settle_start h = record { shown = h; behind = refl }

    pub settle_more : (now next : List V) (k : ℕ) → k < c.end
        → ((ts : List ℕ) → Ready c.end ts → Shows rank now ts → Shows rank next (raised r ts (arcs_of c s)))
        → drop (c.end + 1) next ≡ drop (c.end + 1) now
        → Settling rank r c s first now k → Settling rank r c s first next (k + 1)
    settle_more now next k h up far d = record {
      shown = subst (Shows rank next) (sym (rounds_more r (arcs_of c s) k (replicate (c.end + 1) 0))) (up _ (ready k (omega arith)) d.shown);
      behind = far ∙ d.behind;
    }

    -- a round that changed nothing: the others would change nothing either
    pub settle_stop : (now next : List V) (k : ℕ) → k < c.end
        → ((ts : List ℕ) → Ready c.end ts → Shows rank now ts → Shows rank next (raised r ts (arcs_of c s)))
        → next ≡ now
        → Settling rank r c s first now k → Settling rank r c s first next c.end
    settle_stop now next k h up same d =
        let ts : List ℕ = rounds r (arcs_of c s) k (replicate (c.end + 1) 0) in
        let q : Shows rank now (raised r ts (arcs_of c s)) = subst (λ vs. Shows rank vs (raised r ts (arcs_of c s))) same (up ts (ready k (omega arith)) d.shown) in
        let e : raised r ts (arcs_of c s) ≡ ts = shows_same rank now (raised r ts (arcs_of c s)) ts (length_raised r bounded ts (arcs_of c s)) q d.shown in
        let n : k + (c.end - k) ≡ c.end = omega arith in
        let f : rounds r (arcs_of c s) c.end (replicate (c.end + 1) 0) ≡ ts =
        sym (ap (λ j. rounds r (arcs_of c s) j (replicate (c.end + 1) 0)) n) ∙ (rounds_add r (arcs_of c s) k (c.end - k) (replicate (c.end + 1) 0) ∙ rounds_still r (arcs_of c s) (c.end - k) ts e) in
        record { shown = subst (Shows rank next) (sym f) (subst (λ vs. Shows rank vs ts) (sym same) d.shown); behind = ap (drop (c.end + 1)) same ∙ d.behind }

    pub settle_all : (now : List V) (k : ℕ) → k ≡ c.end → Settling rank r c s first now k → Settling rank r c s first now c.end
    settle_all now k e d = subst (Settling rank r c s first now) e d

-- ---- the answer

is_some : (d : Bool) (ts : List ℕ) → option_is_some (cond d (Some ts) None) ≡ d
is_some true ts = refl
is_some false ts = refl

module _ (r : Ranking) (c : Case) (s : List ℕ) where
  pub looked_at_lem : (b : Bool) → b ≡ (eqb (get_or (last_times r c s) 0 0) 0 && kept_all r (last_times r c s) (arcs_of c s)) → b ≡ option_is_some (least_times r c (selection_of c.pairs s))
  looked_at_lem b e = e ∙ sym (is_some (eqb (get_or (last_times r c s) 0 0) 0 && kept_all r (last_times r c s) (arcs_of c s)) (last_times r c s))

  pub found_times : {V : Type 0} (rank : V → ℤ) (vs : List V) → Shows rank vs (last_times r c s) → option_is_some (least_times r c (selection_of c.pairs s)) ≡ true → Shows rank vs (times_or_zeros c (least_times r c (selection_of c.pairs s)))
  found_times rank vs h e = go (eqb (get_or (last_times r c s) 0 0) 0 && kept_all r (last_times r c s) (arcs_of c s)) e
    where
      go : (d : Bool) → option_is_some (cond d (Some (last_times r c s)) None) ≡ true → Shows rank vs (times_or_zeros c (cond d (Some (last_times r c s)) None))
      go true e = h
      go false e = absurd (false≢true e)

  pub no_times : {V : Type 0} (rank : V → ℤ) (vs : List V) → Shows rank vs (replicate (c.end + 1) 0) → option_is_some (least_times r c (selection_of c.pairs s)) ≡ false → Shows rank vs (times_or_zeros c (least_times r c (selection_of c.pairs s)))
  no_times rank vs h e = go (eqb (get_or (last_times r c s) 0 0) 0 && kept_all r (last_times r c s) (arcs_of c s)) e
    where
      go : (d : Bool) → option_is_some (cond d (Some (last_times r c s)) None) ≡ false → Shows rank vs (times_or_zeros c (cond d (Some (last_times r c s)) None))
      go true e = absurd (true≢false e)
      go false e = h

-- event 0 is at rank 0: what stands there is no later than zero
pub at_zero : (n : ℕ) → not (lt_z (pos 0) (pos n)) ≡ eqb n 0
at_zero n = grind (arith, nat_tests)

pub zero_is : {V : Type 0} (rank : V → ℤ) (vs : List V) (ts : List ℕ) (o x : V) (b : Bool) → Shows rank vs ts → 0 < length ts → rank o ≡ pos 0 → x ≡ get_or vs 0 x → b ≡ lt_z (rank o) (rank x) → not b ≡ eqb (get_or ts 0 0) 0
zero_is rank vs ts o x b s l e f g =
    let h : rank x ≡ pos (get_or ts 0 0) = shows_at rank vs ts 0 x s l f in
    ap not (g ∙ (ap (λ z. lt_z z (rank x)) e ∙ ap (lt_z (pos 0)) h)) ∙ at_zero (get_or ts 0 0)

pub looked : (b q k : Bool) → q ≡ true → b ≡ k → b ≡ (q && k)
looked b q k e f = f ∙ sym (ap (λ x. x && k) e)

pub unlooked : (b q k : Bool) → b ≡ false → q ≡ b → b ≡ (q && k)
unlooked b q k e f = e ∙ sym (and_left q k (f ∙ e))
