-- A check that goes through the arcs of a case one by one.
use Rattle.std.proofs.Common.{◌≡◌, ℕ, zero, suc, ◌+◌, ◌*◌, ◌<◌, cond, leb, List, [], ◌∷◌, map, length, drop, get_or, Some, None, Option, sym, refl, ap, ◌∙◌, arith}
use Rattle.std.proofs.Math.Seq.{drop-cons}
use Rattle.std.proofs.Math.Numerals.{add-one}
use Rattle.std.proofs.lemmas.List.{drop-map, length-map}
use Rattle.graph.specs.Faults.{Fault, or_else}
use Rattle.graph.specs.Graph.{Pair, Case}
use Rattle.graph.specs.Views.{arc_of, pair_of}
use Rattle.graph.specs.declared.arc.Arc.{Arc as ArcRecord}
use Rattle.graph.specs.declared.arc.Pair.{Pair as PairRecord}
use Rattle.messages.specs.Message.{arc_fault, fixed_fault, pairs_fault}
use Rattle.sources.specs.Records.{listed_by}
use Rattle.sources.specs.declared.records.Records.{Records}

-- a step of the check: an arc with no fault is passed over, and the first fault is the case's

pub skip : (f x y z : Option Fault) → x ≡ or_else f y → None ≡ f → x ≡ z → y ≡ z
skip f x y z e n h = ap (λ o. or_else o y) n ∙ (sym e ∙ h)

pub stop : (f x y z : Option Fault) (g : Fault) → x ≡ or_else f y → Some g ≡ f → x ≡ z → Some g ≡ z
stop f x y z g e s h = ap (λ o. or_else o y) s ∙ (sym e ∙ h)

or_else_assoc : (x y z : Option Fault) → or_else (or_else x y) z ≡ or_else x (or_else y z)
or_else_assoc None y z = refl
or_else_assoc (Some f) y z = refl

-- what the arcs from fixed arc k on are refused for
abbrev pub fixed_left : Case → ℕ → Option Fault
fixed_left c k = or_else (fixed_fault c.end k (drop k c.fixed)) (pairs_fault c.end (length c.fixed) c.pairs)

-- what the pairs from pair k on are refused for
abbrev pub pairs_left : Case → ℕ → Option Fault
pairs_left c k = pairs_fault c.end (length c.fixed + 2 * k) (drop k c.pairs)

abbrev pub from_side : ℕ → ℕ → ℕ → List Pair → Option Fault
from_side n j s [] = None
from_side n j s (p ∷ ps) = or_else (cond (leb s 0) (arc_fault n j p.first) None) (or_else (cond (leb s 1) (arc_fault n (j + 1) p.second) None) (pairs_fault n (j + 2) ps))

-- what the arms of pair k, from this side on, and what comes after them are refused for
abbrev pub sides_left : Case → ℕ → ℕ → Option Fault
sides_left c k s = from_side c.end (length c.fixed + 2 * k) s (drop k c.pairs)

side_step : (n j s : ℕ) (p : PairRecord) (d : ArcRecord) (ps : List Pair) → s < 2 → from_side n j s (pair_of p ∷ ps) ≡ or_else (arc_fault n (j + s) (arc_of (get_or (p.first ∷ p.second ∷ []) s d))) (from_side n j (s + 1) (pair_of p ∷ ps))
side_step n j zero p d ps h = let e : j ≡ j + 0 = omega arith in ap (λ i. or_else (arc_fault n i (arc_of p.first)) (from_side n j 1 (pair_of p ∷ ps))) e
side_step n j (suc zero) p d ps h = refl
side_step n j (suc (suc s)) p d ps h = absurd (omega arith)

-- the rest of a list from its element k on
mapped : {X Y : Type 0} (f : X → Y) (xs : List X) (k : ℕ) (x : X) → k < length xs → x ≡ get_or xs k x → drop k (map f xs) ≡ f x ∷ drop (k + 1) (map f xs)
mapped f xs k x h e =
    drop-map f k xs
    ∙ (ap (map f) (drop-cons xs k x h)
    ∙ ((λ j. f (sym e j) ∷ map f (drop (sym (add-one k) j) xs)) ∙ ap (λ l. f x ∷ l) (sym (drop-map f (k + 1) xs))))

module _ {A P : Type 0} (arc : A → ArcRecord) (pair : P → PairRecord) (r : Records A P) where
  pub fixed_step : (k : ℕ) (a : A) (x : ArcRecord) → k < length r.fixed.now → a ≡ get_or r.fixed.now k a → x ≡ arc a → fixed_left (listed_by arc pair r) k ≡ or_else (arc_fault r.end k (arc_of x)) (fixed_left (listed_by arc pair r) (k + 1))
  fixed_step k a x h e i =
      let c = listed_by arc pair r in
      let rest = pairs_fault c.end (length c.fixed) c.pairs in
      ap (λ l. or_else (fixed_fault r.end k l) rest) (mapped (λ b. arc_of (arc b)) r.fixed.now k a h e)
      ∙ (or_else_assoc (arc_fault r.end k (arc_of (arc a))) (fixed_fault r.end (k + 1) (drop (k + 1) c.fixed)) rest ∙ ap (λ y. or_else (arc_fault r.end k (arc_of y)) (fixed_left c (k + 1))) (sym i))

  pub arm_step : (k s : ℕ) (p : P) (x : PairRecord) (d : ArcRecord) → k < length r.pairs.now → p ≡ get_or r.pairs.now k p → x ≡ pair p → s < 2
      → sides_left (listed_by arc pair r) k s ≡ or_else (arc_fault r.end (length r.fixed.now + 2 * k + s) (arc_of (get_or (x.first ∷ x.second ∷ []) s d))) (sides_left (listed_by arc pair r) k (s + 1))
  arm_step k s p x d h e i l =
      let c = listed_by arc pair r in
      let whole : drop k c.pairs ≡ pair_of x ∷ drop (k + 1) c.pairs = mapped (λ b. pair_of (pair b)) r.pairs.now k p h e ∙ ap (λ y. pair_of y ∷ drop (k + 1) c.pairs) (sym i) in
      let n = length c.fixed + 2 * k in
      let same : n + s ≡ length r.fixed.now + 2 * k + s = omega (arith, length-map r.fixed.now (λ a. arc_of (arc a))) in
      ap (from_side r.end n s) whole
      ∙ (side_step r.end n s x d (drop (k + 1) c.pairs) l
      ∙ (λ j. or_else (arc_fault r.end (same j) (arc_of (get_or (x.first ∷ x.second ∷ []) s d))) (from_side r.end n (s + 1) (sym whole j))))

  pub sides_end : (k s : ℕ) (p : P) → k < length r.pairs.now → p ≡ get_or r.pairs.now k p → s ≡ 2 → sides_left (listed_by arc pair r) k s ≡ pairs_left (listed_by arc pair r) (k + 1)
  sides_end k s p h e t =
      let c = listed_by arc pair r in
      let n = length c.fixed + 2 * k in
      let next : n + 2 ≡ length c.fixed + 2 * (k + 1) = omega arith in
      (λ j. from_side r.end n (t j) (mapped (λ b. pair_of (pair b)) r.pairs.now k p h e j)) ∙ ap (λ j. pairs_fault r.end j (drop (k + 1) c.pairs)) next
