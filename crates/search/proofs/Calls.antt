-- A planner is sound after any calls.
use Rattle.std.proofs.Common.{◌≡◌, ℕ, zero, suc, ◌≤◌, Bool, true, false, cond, not, ◌||◌, eqb, List, [], ◌∷◌, length, set, replicate, Some, None, Option, refl, ◌∙◌, inl, inr, arith}
use Rattle.std.specs.List.{AllByRecursion}
use Rattle.std.proofs.ByRecursion.{All-set}
use Rattle.std.proofs.lemmas.List.{length-set, length-replicate}
use Rattle.std.proofs.lemmas.Bool.{eqb-true, or_cases, not-false}
use Rattle.graph.specs.Faults.{Fault}
use Rattle.graph.specs.Graph.{Case, Ranking, IsRanking, Within, Selection, IsSelection}
use Rattle.bounds.specs.Bounds.{Meaning, LowerBound}
use Rattle.search.specs.Search.{Planner, opened}
use Rattle.search.specs.Sound.{Call, to_hold, to_release, to_search, refusal, taken, unless_refused, called, called_all, tally_taken, tally, Sound}
use Rattle.search.proofs.Runs.{all_kept}
use Rattle.search.proofs.Keeps.{Inv, Bounding, bounding, fresh_keeps, searched_keeps, sound_by_keeping}
use Rattle.search.proofs.Progress.{walked_counts}

no_fault : (b : Bool) (f : Fault) (o : Option Fault) → cond b (Some f) o ≡ None → (b ≡ false) × (o ≡ None)
no_fault true f o e = let z : ◌≡◌ {A = ℕ} 0 1 = cc in absurd (omega arith)
no_fault false f o e = (refl, e)

arm_of_lem : (a : ℕ) → not (eqb a 1 || eqb a 2) ≡ false → a ≤ 2
arm_of_lem a e = elim (or_cases (eqb a 1) (eqb a 2) (not-false (eqb a 1 || eqb a 2) e)) [ inl h ↦ omega (arith, eqb-true a 1 h) | inr h ↦ omega (arith, eqb-true a 2 h) ]

all_zero : (n : ℕ) → AllByRecursion (λ a. a ≤ 2) (replicate n 0)
all_zero zero = tt
all_zero (suc n) = (omega arith, all_zero n)

set_selection : (c : Case) (hs : Selection) (i a : ℕ) → a ≤ 2 → IsSelection c hs → IsSelection c (set hs i a)
set_selection c hs i a l s = record { one_each = length-set hs i a ∙ s.one_each; arms = All-set (λ b. b ≤ 2) hs i a l s.arms }

module _ (c : Case) (r : Ranking) (m : Meaning) (given : Bounding c r m) where
  taken_keeps : (w : Planner) (x : Call) → Inv c r w → refusal c w x ≡ None → Inv c r (taken c r m w x)
  taken_keeps w (to_hold i a) v e =
      fresh_keeps c r (set w.holds i a) (set_selection c w.holds i a (arm_of_lem a (no_fault _ _ _ (no_fault _ _ _ e).1).0) v.selection)
  taken_keeps w (to_release i) v e = fresh_keeps c r (set w.holds i 0) (set_selection c w.holds i 0 (omega arith) v.selection)
  taken_keeps w (to_search k n) v e = searched_keeps c r m given k w v

  taken_counts : (w : Planner) (x : Call) (s : ℕ) → w.count ≡ s → (taken c r m w x).count ≡ tally_taken c r m s w x
  taken_counts w (to_hold i a) s e = refl
  taken_counts w (to_release i) s e = refl
  taken_counts w (to_search k n) s e = omega (arith, walked_counts c r m k w)

  unless_counts : (w v : Planner) (o : Option Fault) (s s' : ℕ) → w.count ≡ s → v.count ≡ s' → (unless_refused w v o).count ≡ unless_refused s s' o
  unless_counts w v None s s' e f = f
  unless_counts w v (Some x) s s' e f = e

  pub all_keep : (xs : List Call) (w : Planner) → Inv c r w → Inv c r (called_all c r m w xs)
  all_keep = all_kept c r m (Inv c r) taken_keeps

  all_count : (xs : List Call) (w : Planner) (s : ℕ) → w.count ≡ s → (called_all c r m w xs).count ≡ tally c r m s w xs
  all_count [] w s e = e
  all_count (x ∷ xs) w s e =
      all_count xs (called c r m w x) (unless_refused s (tally_taken c r m s w x) (refusal c w x))
      (unless_counts w (taken c r m w x) (refusal c w x) s (tally_taken c r m s w x) e (taken_counts w x s e))

  pub opened_keeps : Inv c r (opened c)
  opened_keeps = fresh_keeps c r (replicate (length c.pairs) 0) (record { one_each = length-replicate (length c.pairs) 0; arms = all_zero (length c.pairs) })

-- a planner that calls lead to is sound, and its count is the tally
pub sound_after : (c : Case) (r : Ranking) (m : Meaning) → Within c → IsRanking r → LowerBound m → (xs : List Call) → Sound c r (called_all c r m (opened c) xs) × ((called_all c r m (opened c) xs).count ≡ tally c r m 0 (opened c) xs)
sound_after c r m within ranked lower xs =
    let g = bounding c r m within ranked lower in (
      sound_by_keeping c r (called_all c r m (opened c) xs) (all_keep c r m g xs (opened c) (opened_keeps c r m g)),
      all_count c r m g xs (opened c) 0 refl,
    )
