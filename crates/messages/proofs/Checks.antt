-- A check that finds no fault, and the limits that it stands for.
use Rattle.std.proofs.Common.{◌≡◌, ℕ, ◌+◌, Bool, true, false, cond, List, [], ◌∷◌, ℤ, ◌≤ℤ◌, Some, None, Option, refl, ◌∙◌, arith}
use lib.Signed.{lt_z}
use Rattle.std.specs.List.{AllByRecursion}
use Rattle.std.proofs.lemmas.Bool.{ltb-false, eqb-false, le-ltb, ne_eqb, or_parts, or_from, cond-false}
use Rattle.std.proofs.lemmas.Int.{ints}
use Rattle.graph.specs.Faults.{Fault, or_else}
use Rattle.graph.specs.Graph.{Arc, Pair, Within, ArcWithin, empty_case}
use Rattle.messages.specs.Message.{arc_fault, fixed_fault, pairs_fault}

pub some_not_none : (f : Fault) → ◌≡◌ {A = Option Fault} (Some f) None → ⊥
some_not_none f e = let z : ◌≡◌ {A = ℕ} 0 1 = cc in omega arith

pub or_else_none : (x y : Option Fault) → or_else x y ≡ None → (x ≡ None) × (y ≡ None)
or_else_none None y e = (refl, e)
or_else_none (Some f) y e = absurd (some_not_none f e)

pub none_or_else : (x y : Option Fault) → x ≡ None → y ≡ None → or_else x y ≡ None
none_or_else None y e g = g
none_or_else (Some f) y e g = e

pub cond_none : (b : Bool) (f : Fault) (x : Option Fault) → cond b (Some f) x ≡ None → (b ≡ false) × (x ≡ None)
cond_none true f x e = absurd (some_not_none f e)
cond_none false f x e = (refl, e)

pub none_cond : (b : Bool) (f : Fault) (x : Option Fault) → b ≡ false → x ≡ None → cond b (Some f) x ≡ None
none_cond b f x e g = cond-false b (Some f) x e ∙ g

at_least : (a b : ℤ) → lt_z a b ≡ false → b ≤ℤ a
at_least a b e = grind (arith, ints)

not_less : (a b : ℤ) → b ≤ℤ a → lt_z a b ≡ false
not_less a b e = grind (arith, ints)

pub arc_within : (n k : ℕ) (a : Arc) → arc_fault n k a ≡ None → ArcWithin n a
arc_within n k a e =
    let s = cond_none _ _ _ e in
    let s' = or_parts _ _ s.0 in
    let t = cond_none _ _ _ s.1 in
    let u = cond_none _ _ _ t.1 in
    let u' = or_parts _ _ u.0 in
    let v = cond_none _ _ _ u.1 in
    record {
      from_known = ltb-false _ _ s'.0;
      to_known = ltb-false _ _ s'.1;
      apart = eqb-false _ _ t.0;
      not_below = at_least _ _ u'.0;
      not_above = at_least _ _ u'.1;
      marked = ltb-false _ _ v.0;
    }

pub within_arc : (n k : ℕ) (a : Arc) → ArcWithin n a → arc_fault n k a ≡ None
within_arc n k a w =
    none_cond _ _ _ (or_from _ _ (le-ltb _ _ w.from_known) (le-ltb _ _ w.to_known))
    (none_cond _ _ _ (ne_eqb _ _ w.apart)
    (none_cond _ _ _ (or_from _ _ (not_less _ _ w.not_below) (not_less _ _ w.not_above))
    (none_cond _ _ _ (le-ltb _ _ w.marked) refl)))

pub fixed_within : (n k : ℕ) (xs : List Arc) → fixed_fault n k xs ≡ None → AllByRecursion (ArcWithin n) xs
fixed_within n k [] e = tt
fixed_within n k (a ∷ xs) e =
    let s = or_else_none (arc_fault n k a) (fixed_fault n (k + 1) xs) e in
    (arc_within n k a s.0, fixed_within n (k + 1) xs s.1)

pub within_fixed : (n k : ℕ) (xs : List Arc) → AllByRecursion (ArcWithin n) xs → fixed_fault n k xs ≡ None
within_fixed n k [] w = refl
within_fixed n k (a ∷ xs) w = none_or_else (arc_fault n k a) (fixed_fault n (k + 1) xs) (within_arc n k a w.0) (within_fixed n (k + 1) xs w.1)

abbrev pub BothWithin : ℕ → List Pair → Type 0
BothWithin n ps = AllByRecursion (λ p. ArcWithin n p.first) ps × AllByRecursion (λ p. ArcWithin n p.second) ps

pub pairs_within : (n k : ℕ) (ps : List Pair) → pairs_fault n k ps ≡ None → BothWithin n ps
pairs_within n k [] e = (tt, tt)
pairs_within n k (p ∷ ps) e =
    let s = or_else_none (arc_fault n k p.first) (or_else (arc_fault n (k + 1) p.second) (pairs_fault n (k + 2) ps)) e in
    let t = or_else_none (arc_fault n (k + 1) p.second) (pairs_fault n (k + 2) ps) s.1 in
    let r = pairs_within n (k + 2) ps t.1 in
    ((arc_within n k p.first s.0, r.0), (arc_within n (k + 1) p.second t.0, r.1))

pub within_pairs : (n k : ℕ) (ps : List Pair) → BothWithin n ps → pairs_fault n k ps ≡ None
within_pairs n k [] w = refl
within_pairs n k (p ∷ ps) w =
    none_or_else (arc_fault n k p.first) (or_else (arc_fault n (k + 1) p.second) (pairs_fault n (k + 2) ps)) (within_arc n k p.first w.0.0)
    (none_or_else (arc_fault n (k + 1) p.second) (pairs_fault n (k + 2) ps) (within_arc n (k + 1) p.second w.1.0) (within_pairs n (k + 2) ps (w.0.1, w.1.1)))

pub empty_within : Within empty_case
empty_within =
    record {
      some_event = omega arith;
      few_events = omega arith;
      few_fixed = omega arith;
      few_pairs = omega arith;
      fixed_within = tt;
      first_within = tt;
      second_within = tt;
    }
