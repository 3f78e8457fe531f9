-- The longest path and looking ahead are lower bounds, and so is the larger of two lower bounds. Assumes nothing.
use Rattle.std.specs.Prelude.{◌≡◌, ℕ, zero, suc, ◌+◌, ◌<◌, ◌≤◌, cond, ◌⊎◌, List, [], ◌∷◌, ◌++◌, length, ℤ, Some, None, Option, ◌==◌, slice_index, slice_set}
use Rattle.std.proofs.Common.{◌∙◌, inl, inr, arith}
use Rattle.std.specs.List.{AllByRecursion}
use Rattle.std.proofs.ByRecursion.{All-append, All-set}
use Rattle.std.proofs.lemmas.List.{length-set}
use Rattle.std.proofs.lemmas.Int.{ints, clamps}
use Rattle.std.proofs.lemmas.Bool.{cond_both}
use Rattle.graph.specs.Graph.{Arc, Pair, Case, Ranking, IsRanking, Within, Timetable, Selection, IsSelection, Keeps, KeepsCase, KeepsArms, chosen, selected, arcs, delay}
use Rattle.graph.specs.Times.{AreLeast, least_times}
use Rattle.graph.proofs.Raise.{worked_out}
use Rattle.bounds.specs.Bounds.{Meaning, AtMost, AtLeast, LowerBound, BoundsLaws, end_of, longest_path, larger, smaller, with_either, tried_from, look_ahead, larger_of}

-- ---- two answers

pub smaller_left : (x y : Option ℤ) (d : ℕ) → AtMost x d → AtMost (smaller x y) d
smaller_left None y d h = absurd h
smaller_left (Some x) None d h = h
smaller_left (Some x) (Some y) d h = omega (arith, ints, clamps)

pub smaller_right : (x y : Option ℤ) (d : ℕ) → AtMost y d → AtMost (smaller x y) d
smaller_right None y d h = h
smaller_right (Some x) None d h = absurd h
smaller_right (Some x) (Some y) d h = omega (arith, ints, clamps)

pub larger_both : (x y : Option ℤ) (d : ℕ) → AtMost x d → AtMost y d → AtMost (larger x y) d
larger_both None y d h k = absurd h
larger_both (Some x) None d h k = absurd k
larger_both (Some x) (Some y) d h k = omega (arith, ints, clamps)

at_least_same : (x : Option ℤ) → AtLeast x x
at_least_same None = tt
at_least_same (Some x) = omega (arith, ints)

at_least_larger : (x y z : Option ℤ) → AtLeast x z → AtLeast (larger x y) z
at_least_larger None y z h = tt
at_least_larger (Some x) None z h = tt
at_least_larger (Some x) (Some y) None h = h
at_least_larger (Some x) (Some y) (Some z) h = omega (arith, ints, clamps)

-- ---- the larger of two bounds

pub larger_lower : (m k : Meaning) → LowerBound m → LowerBound k → LowerBound (larger_of m k)
larger_lower m k f g c s r w i b t keeps arms = larger_both (m c s r) (k c s r) (delay c t) (f c s r w i b t keeps arms) (g c s r w i b t keeps arms)

-- ---- the longest path

pub longest_lower : LowerBound longest_path
longest_lower c s r w i b t k a = go (least_times r c s) (worked_out r c s w)
  where
    kept : AllByRecursion (Keeps r t) (arcs c s)
    kept = All-append (Keeps r t) c.fixed (selected s c.pairs) k.keeps_fixed a

    go : (o : Option (List ℕ)) → AreLeast r c s o → AtMost (end_of c.end o) (delay c t)
    go None none = none t k.starts kept
    go (Some ts) l = omega (arith, ints, l.1.least t k.starts kept c.end (omega arith))

-- ---- looking ahead

all_left : {X : Type 0} (P : X → Type 0) (xs ys : List X) → AllByRecursion P (xs ++ ys) → AllByRecursion P xs
all_left P [] ys h = tt
all_left P (x ∷ xs) ys h = (h.0, all_left P xs ys h.1)

all_right : {X : Type 0} (P : X → Type 0) (xs ys : List X) → AllByRecursion P (xs ++ ys) → AllByRecursion P ys
all_right P [] ys h = h
all_right P (x ∷ xs) ys h = all_right P xs ys h.1

-- what keeps the selected arms, and an arm of each pair, keeps them with one of the two arms of pair j in place of its own
either_kept : (K : Arc → Type 0) (ps : List Pair) (s : Selection) (j : ℕ) → length s ≡ length ps → AllByRecursion (λ p. K p.first ⊎ K p.second) ps → AllByRecursion K (selected s ps) → j < length ps
    → AllByRecursion K (selected (slice_set s j 1) ps) ⊎ AllByRecursion K (selected (slice_set s j 2) ps)
either_kept K [] s j e h k l = absurd (omega arith)
either_kept K (p ∷ ps) [] j e h k l = absurd (omega arith)
either_kept K (p ∷ ps) (a ∷ s) zero e h k l =
    let r : AllByRecursion K (selected s ps) = all_right K (chosen a p) (selected s ps) k in
    elim h.0 [ inl f ↦ inl (f, r) | inr f ↦ inr (f, r) ]
either_kept K (p ∷ ps) (a ∷ s) (suc j) e h k l =
    let q : AllByRecursion K (chosen a p) = all_left K (chosen a p) (selected s ps) k in
    elim (either_kept K ps s j (omega arith) h.1 (all_right K (chosen a p) (selected s ps) k) (omega arith)) [
      | inl f ↦ inl (All-append K (chosen a p) (selected (slice_set s j 1) ps) q f)
      | inr f ↦ inr (All-append K (chosen a p) (selected (slice_set s j 2) ps) q f)
    ]

module _ (c : Case) (s : Selection) (r : Ranking) (w : Within c) (i : IsSelection c s) (b : IsRanking r) (t : Timetable) (k : KeepsCase r c t) (a : KeepsArms r c s t) where
  one_set : (j x : ℕ) → x ≤ 2 → IsSelection c (slice_set s j x)
  one_set j x h = record { one_each = length-set s j x ∙ i.one_each; arms = All-set (λ y. y ≤ 2) s j x h i.arms }

  either_lower : (j : ℕ) → j < length c.pairs → AtMost (with_either j c s r) (delay c t)
  either_lower j l =
      elim (either_kept (Keeps r t) c.pairs s j i.one_each k.keeps_arm a l) [
        | inl f ↦ smaller_left (longest_path c (slice_set s j 1) r) (longest_path c (slice_set s j 2) r) (delay c t) (longest_lower c (slice_set s j 1) r w (one_set j 1 (omega arith)) b t k f)
        | inr f ↦ smaller_right (longest_path c (slice_set s j 1) r) (longest_path c (slice_set s j 2) r) (delay c t) (longest_lower c (slice_set s j 2) r w (one_set j 2 (omega arith)) b t k f)
      ]

  tried_lower : (ps : List Pair) (j : ℕ) (x : Option ℤ) → j + length ps ≡ length c.pairs → AtMost x (delay c t) → AtMost (tried_from c s r j ps x) (delay c t)
  tried_lower [] j x e h = h
  tried_lower (p ∷ ps) j x e h =
      tried_lower ps (j + 1) (cond (slice_index s j == 0) (larger x (with_either j c s r)) x) (omega arith)
      (cond_both (slice_index s j == 0) (larger x (with_either j c s r)) x (λ y. AtMost y (delay c t)) (λ q. larger_both x (with_either j c s r) (delay c t) h (either_lower j (omega arith))) (λ q. h))

pub ahead_lower : LowerBound look_ahead
ahead_lower c s r w i b t k a = tried_lower c s r w i b t k a c.pairs 0 (longest_path c s r) (omega arith) (longest_lower c s r w i b t k a)

tried_above : (c : Case) (s : Selection) (r : Ranking) (i : ℕ) (ps : List Pair) (b z : Option ℤ) → AtLeast b z → AtLeast (tried_from c s r i ps b) z
tried_above c s r i [] b z h = h
tried_above c s r i (p ∷ ps) b z h =
    tried_above c s r (i + 1) ps (cond (slice_index s i == 0) (larger b (with_either i c s r)) b) z
    (cond_both (slice_index s i == 0) (larger b (with_either i c s r)) b (λ x. AtLeast x z) (λ e. at_least_larger b (with_either i c s r) z h) (λ e. h))

pub ahead_above : (c : Case) (s : Selection) (r : Ranking) → AtLeast (look_ahead c s r) (longest_path c s r)
ahead_above c s r = tried_above c s r 0 c.pairs (longest_path c s r) (longest_path c s r) (at_least_same (longest_path c s r))

pub bounds_laws : BoundsLaws
bounds_laws = record { longest_path_law = longest_lower; look_ahead_law = ahead_lower; larger_of_law = larger_lower; look_ahead_above = ahead_above }
