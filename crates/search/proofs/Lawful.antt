-- The laws over runs, put together.
use Rattle.std.proofs.Common.{◌≡◌, ℕ, ◌<◌, cond, eqb, ◌≢◌, List, [], ◌∷◌, length, get_or, set, Some, None, Option, sym, ap, ◌∙◌, subst, arith, get_or-set_other, get_or-set_same}
use Rattle.std.proofs.lemmas.List.{length-set, length-replicate, get_or-replicate}
use Rattle.std.proofs.lemmas.Bool.{cond_both, eqb-true, eqb-false}
use Rattle.graph.specs.Faults.{Fault}
use Rattle.graph.specs.Graph.{Case, Ranking, IsRanking, Within, Selection}
use Rattle.bounds.specs.Bounds.{Meaning, LowerBound}
use Rattle.search.specs.Search.{Planner, opened, searched}
use Rattle.search.specs.Sound.{Call, to_hold, to_release, to_search, refusal, held_taken, unless_refused, taken, called, called_all, held_arm, reached, GoesOn, GetsOn, Progress, AlwaysSound}
use Rattle.search.proofs.Calls.{sound_after}
use Rattle.search.proofs.Progress.{walked_holds}
use Rattle.search.proofs.Walks.{walk_laws}
use Rattle.search.proofs.Pieces.{more_walk_laws}

-- one place of a list that is written at another or the same
set_at : (hs : Selection) (j i a b : ℕ) → i < length hs → get_or hs i 0 ≡ b → get_or (set hs j a) i 0 ≡ cond (eqb j i) a b
set_at hs j i a b l e =
    cond_both (eqb j i) a b (λ (n : ℕ). get_or (set hs j a) i 0 ≡ n)
    (λ q. let f : j ≡ i = eqb-true j i q in subst (λ (k : ℕ). get_or (set hs k a) i 0 ≡ a) (sym f) (get_or-set_same hs i a 0 l))
    (λ q. let n : i ≢ j = λ f. eqb-false j i q (sym f) in get_or-set_other hs j i a 0 n ∙ e)

module _ (c : Case) (r : Ranking) (m : Meaning) where
  -- pair i of a planner's holds
  pub record Held (i b : ℕ) (w : Planner) : Type 0 where
    pub there : i < length w.holds
    pub arm : get_or w.holds i 0 ≡ b

  held_taken_lem : (i b : ℕ) (w : Planner) (x : Call) → Held i b w → Held i (held_taken i b x) (taken c r m w x)
  held_taken_lem i b w (to_hold j a) h = record { there = omega (arith, length-set w.holds j a, h.there); arm = set_at w.holds j i a b h.there h.arm }
  held_taken_lem i b w (to_release j) h = record { there = omega (arith, length-set w.holds j 0, h.there); arm = set_at w.holds j i 0 b h.there h.arm }
  held_taken_lem i b w (to_search k n) h =
      let e : (searched c r m k w).holds ≡ w.holds = walked_holds c r m k w in
      record { there = subst (λ (hs : Selection). i < length hs) (sym e) h.there; arm = ap (λ (hs : Selection). get_or hs i 0) e ∙ h.arm }

  held_unless : (i b b' : ℕ) (w v : Planner) (o : Option Fault) → Held i b w → Held i b' v → Held i (unless_refused b b' o) (unless_refused w v o)
  held_unless i b b' w v None h k = k
  held_unless i b b' w v (Some f) h k = h

  held_all : (i b : ℕ) (w : Planner) (xs : List Call) → Held i b w → Held i (held_arm c r m i b w xs) (called_all c r m w xs)
  held_all i b w [] h = h
  held_all i b w (x ∷ xs) h = held_all i (unless_refused b (held_taken i b x) (refusal c w x)) (called c r m w x) xs (held_unless i b (held_taken i b x) w (taken c r m w x) (refusal c w x) h (held_taken_lem i b w x h))

  held_opened : (i : ℕ) → i < length c.pairs → Held i 0 (opened c)
  held_opened i l = record { there = omega (arith, length-replicate {A = ℕ} (length c.pairs) 0); arm = get_or-replicate (length c.pairs) i 0 0 l }

  pub goes : (k : ℕ) (w : Planner) → GoesOn w (searched c r m k w) k
  goes k w = record { whole_budget = walk_laws.goes_on c r m k w; tight = walk_laws.tight c r m k w }

  pub gets : Within c → IsRanking r → LowerBound m → (xs : List Call) (k : ℕ) → GetsOn (reached c r m xs) (searched c r m k (reached c r m xs)) k
  gets i q l xs k = record { finishes = walk_laws.finishes c r m xs k; rises = walk_laws.rises c r m i q l xs k }

  taken_on : Within c → IsRanking r → LowerBound m → (xs : List Call) (x : Call) → Progress (reached c r m xs) (taken c r m (reached c r m xs) x) x
  taken_on i q l xs (to_hold j a) = tt
  taken_on i q l xs (to_release j) = tt
  taken_on i q l xs (to_search k n) = (goes k (reached c r m xs), gets i q l xs k)

  pub called_on : Within c → IsRanking r → LowerBound m → (xs : List Call) (x : Call) → refusal c (reached c r m xs) x ≡ None → Progress (reached c r m xs) (called c r m (reached c r m xs) x) x
  called_on i q l xs x e =
      subst (λ (o : Option Fault). Progress (reached c r m xs) (unless_refused (reached c r m xs) (taken c r m (reached c r m xs) x) o) x) (sym e) (taken_on i q l xs x)

pub always_sound : AlwaysSound
always_sound c r m i q l xs =
    record {
      sound = (sound_after c r m i q l xs).0;
      counted = (sound_after c r m i q l xs).1;
      held = λ j k. (held_all c r m j 0 (opened c) xs (held_opened c r m j k)).arm;
      below_plan = more_walk_laws.below_plan c r m i q l xs;
      tight = more_walk_laws.stays_tight c r m xs;
      progress = λ ys x zs e f. called_on c r m i q l ys x f;
    }
