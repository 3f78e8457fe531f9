-- The places of a case, and the arcs that stand there. Assumes nothing.
use Rattle.std.proofs.Common.{◌≡◌, ℕ, zero, suc, ◌+◌, ◌-◌, ◌<◌, ◌≤◌, cond, eqb, leb, List, [], ◌∷◌, ◌++◌, map, length, get_or, take, Some, None, Option, sym, refl, ap, ◌∙◌, subst, append_assoc, arith}
use Rattle.std.specs.List.{AllByRecursion, slice_get}
use Rattle.std.proofs.ByRecursion.{All-append, All-get_or, All-map}
use Rattle.std.proofs.lemmas.List.{length-append, length-map, take_more, append-nil, get_or-append_right}
use Rattle.std.proofs.lemmas.Bool.{cond_both}
use Rattle.std.proofs.lemmas.Bool.Decides.{nat_tests}
use Rattle.graph.specs.Graph.{Arc, Pair, Case, Within, ArcWithin, selection_of, chosen, selected}
use Rattle.graph.specs.Views.{arm_of, arm_at}
use Rattle.graph.specs.Steps.{arms_of, places, arcs_of}

abbrev pub listed : Option Arc → List Arc
listed None = []
listed (Some a) = a ∷ []

-- the arcs that stand at places
abbrev pub present : List (Option Arc) → List Arc
present [] = []
present (o ∷ os) = listed o ++ present os

present_append : (os ps : List (Option Arc)) → present (os ++ ps) ≡ present os ++ present ps
present_append [] ps = refl
present_append (o ∷ os) ps = ap (λ l. listed o ++ l) (present_append os ps) ∙ sym (append_assoc (listed o) (present os) (present ps))

present_some : (es : List Arc) → present (map Some es) ≡ es
present_some [] = refl
present_some (a ∷ es) = ap (λ l. a ∷ l) (present_some es)

listed_arm : (a : ℕ) (p : Pair) → listed (arm_of a p) ≡ chosen (cond (leb a 2) a 0) p
listed_arm a p = grind (arith, nat_tests)

present_arms : (ps : List Pair) (s : List ℕ) → present (arms_of ps s) ≡ selected (selection_of ps s) ps
present_arms [] [] = refl
present_arms [] (a ∷ s) = refl
present_arms (p ∷ ps) [] = present_arms ps []
present_arms (p ∷ ps) (a ∷ s) = rw (listed_arm a p, present_arms ps s)

pub present_places : (c : Case) (s : List ℕ) → present (places c s) ≡ arcs_of c s
present_places c s = present_append (map Some c.fixed) (arms_of c.pairs s) ∙ rw (present_some c.fixed, present_arms c.pairs s)

pub present_more : (os : List (Option Arc)) (i : ℕ) → i < length os → present (take (i + 1) os) ≡ present (take i os) ++ listed (get_or os i None)
present_more os i h = ap present (take_more os i None h) ∙ (present_append (take i os) (get_or os i None ∷ []) ∙ ap (λ l. present (take i os) ++ l) (append-nil (listed (get_or os i None))))

length_arms : (ps : List Pair) (s : List ℕ) → length (arms_of ps s) ≡ length ps
length_arms [] s = refl
length_arms (p ∷ ps) [] = ap suc (length_arms ps [])
length_arms (p ∷ ps) (a ∷ s) = ap suc (length_arms ps s)

pub length_places : (c : Case) (s : List ℕ) → length (places c s) ≡ length c.fixed + length c.pairs
length_places c s = omega (arith, length-append (map Some c.fixed) (arms_of c.pairs s), length-map c.fixed Some, length_arms c.pairs s)

-- ---- what stands at one place

nth_some : (es : List Arc) (os : List (Option Arc)) (i : ℕ) → i < length es → get_or (map Some es ++ os) i None ≡ slice_get es i
nth_some [] os i h = absurd (omega arith)
nth_some (a ∷ es) os zero h = refl
nth_some (a ∷ es) os (suc i) h = nth_some es os i (omega arith)

pub place_fixed : (c : Case) (s : List ℕ) (i : ℕ) → i < length c.fixed → get_or (places c s) i None ≡ slice_get c.fixed i
place_fixed c s i h = nth_some c.fixed (arms_of c.pairs s) i h

arm_at_lem : (ps : List Pair) (s : List ℕ) (i : ℕ) → get_or (arms_of ps s) i None ≡ arm_at ps i (get_or s i 0)
arm_at_lem [] s i = refl
arm_at_lem (p ∷ ps) [] zero = refl
arm_at_lem (p ∷ ps) [] (suc i) = arm_at_lem ps [] i
arm_at_lem (p ∷ ps) (a ∷ s) zero = refl
arm_at_lem (p ∷ ps) (a ∷ s) (suc i) = arm_at_lem ps s i

pub place_arm : (c : Case) (s : List ℕ) (i n : ℕ) → n ≡ length c.fixed → n ≤ i → get_or (places c s) i None ≡ arm_at c.pairs (i - n) (get_or s (i - n) 0)
place_arm c s i n e h = get_or-append_right (map Some c.fixed) (arms_of c.pairs s) n i None (length-map c.fixed Some ∙ sym e) h ∙ arm_at_lem c.pairs s (i - n)

-- ---- the arcs are within the limits

abbrev pub WithinIf : ℕ → Option Arc → Type 0
WithinIf n None = Unit {0}
WithinIf n (Some a) = ArcWithin n a

arm_within : (n a : ℕ) (p : Pair) → ArcWithin n p.first → ArcWithin n p.second → WithinIf n (arm_of a p)
arm_within n a p f g =
    cond_both (eqb a 1) (Some p.first) (cond (eqb a 2) (Some p.second) None) (WithinIf n) (λ e. f)
    (λ e. cond_both (eqb a 2) (Some p.second) None (WithinIf n) (λ e. g) (λ e. tt))

arms_within : (n : ℕ) (ps : List Pair) (s : List ℕ) → AllByRecursion (λ p. ArcWithin n p.first) ps → AllByRecursion (λ p. ArcWithin n p.second) ps → AllByRecursion (WithinIf n) (arms_of ps s)
arms_within n [] s f g = tt
arms_within n (p ∷ ps) [] f g = (tt, arms_within n ps [] f.1 g.1)
arms_within n (p ∷ ps) (a ∷ s) f g = (arm_within n a p f.0 g.0, arms_within n ps s f.1 g.1)

pub places_within : (c : Case) (s : List ℕ) → Within c → AllByRecursion (WithinIf c.end) (places c s)
places_within c s w = All-append (WithinIf c.end) (map Some c.fixed) (arms_of c.pairs s) (All-map (WithinIf c.end) Some c.fixed w.fixed_within) (arms_within c.end c.pairs s w.first_within w.second_within)

pub place_within : (c : Case) (s : List ℕ) (i : ℕ) (a : Arc) → Within c → i < length c.fixed + length c.pairs → Some a ≡ get_or (places c s) i None → ArcWithin c.end a
place_within c s i a w h e = subst (WithinIf c.end) (sym e) (All-get_or (WithinIf c.end) (places c s) i None (omega (arith, length_places c s)) (places_within c s w))

pub present_within : (n : ℕ) (os : List (Option Arc)) → AllByRecursion (WithinIf n) os → AllByRecursion (ArcWithin n) (present os)
present_within n [] h = tt
present_within n (None ∷ os) h = present_within n os h.1
present_within n (Some a ∷ os) h = (h.0, present_within n os h.1)

pub length_present : (os : List (Option Arc)) → length (present os) ≤ length os
length_present [] = omega arith
length_present (None ∷ os) = omega (arith, length_present os)
length_present (Some a ∷ os) = omega (arith, length_present os)
