-- The two bounds are lower bounds, and whether a pair is decided can be read off the arms. Assumes nothing.
use Rattle.std.specs.Prelude.{◌≡◌, ℕ, zero, suc, ◌<◌, ◌≤◌, false, cond, not, ◌||◌, List, [], ◌∷◌, length, ◌==◌, nat_le, slice_index, refl}
use Rattle.std.proofs.Common.{ap, ◌∙◌, arith}
use Rattle.std.proofs.lemmas.Int.{ints}
use Rattle.std.proofs.lemmas.Bool.{cond_both}
use Rattle.std.proofs.lemmas.Bool.Decides.{nat_tests}
use Rattle.graph.specs.Graph.{Pair, selection_of, delay}
use Rattle.bounds.specs.Bounds.{AtMost, LowerBound, longest_path}
use Rattle.bounds.specs.Lower.{longest_lower}
use Rattle.bounds.proofs.Tried.{selection_at}
use Rattle.strangers.specs.Strange.{rank_zero, decided, until_decided}

pub zero_lower : LowerBound rank_zero
zero_lower c s r w i b t k a = omega (arith, ints)

pub until_lower : (n : ℕ) → LowerBound (until_decided n)
until_lower n c s r w i b t k a =
    cond_both (decided s n) (rank_zero c s r) (longest_path c s r) (λ x. AtMost x (delay c t)) (λ e. zero_lower c s r w i b t k a) (λ e. longest_lower c s r w i b t k a)

pub decided_at : (ps : List Pair) (s : List ℕ) (i : ℕ) → i < length ps → decided (selection_of ps s) i ≡ (slice_index s i == 1 || slice_index s i == 2)
decided_at ps s i l = ap (λ n. not (n == 0)) (selection_at ps s i l) ∙ either (slice_index s i)
  where
    either : (a : ℕ) → not (cond (nat_le a 2) a 0 == 0) ≡ (a == 1 || a == 2)
    either a = grind (arith, nat_tests)

pub decided_past : (ps : List Pair) (s : List ℕ) (i : ℕ) → length ps ≤ i → decided (selection_of ps s) i ≡ false
decided_past [] s i l = refl
decided_past (p ∷ ps) s zero l = absurd (omega arith)
decided_past (p ∷ ps) [] (suc i) l = decided_past ps [] i (omega arith)
decided_past (p ∷ ps) (a ∷ s) (suc i) l = decided_past ps s i (omega arith)
