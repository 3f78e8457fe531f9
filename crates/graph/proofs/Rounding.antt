-- A round under way.
use Rattle.std.proofs.Common.{◌≡◌, ℕ, zero, suc, ◌+◌, ◌*◌, ◌^◌, ◌<◌, ◌≤◌, Bool, true, false, ◌&&◌, List, [], ◌∷◌, ◌++◌, length, get_or, take, drop, ℤ, pos, ◌+ℤ◌, Some, None, Option, sym, refl, ap, ◌∙◌, subst, arith}
use lib.Signed.{le_z}
use Rattle.std.proofs.ByRecursion.{All-take, All-weaker}
use Rattle.std.proofs.lemmas.List.{length-take, take_all, append-nil}
use Rattle.std.proofs.lemmas.Bool.{and_from, and_left, and_right}
use Rattle.graph.specs.Graph.{Arc, Case, Within, ArcWithin, Ranking, IsRanking}
use Rattle.graph.specs.Times.{raised, raised_by, kept_all}
use Rattle.graph.specs.Views.{Shows}
use Rattle.graph.specs.Steps.{Ready, Raisable, places, arcs_of}
use Rattle.graph.proofs.Shown.{raised_append, low_raised, length_raised, kept_append}
use Rattle.graph.proofs.Placed.{listed, present, present_more, present_places, length_places, place_within, places_within, present_within, length_present, WithinIf}

-- after the first i places
pub record Rounding {V : Type 0} (rank : V → ℤ) (r : Ranking) (c : Case) (s : List ℕ) (first now : List V) (changed : Bool) (i : ℕ) : Type 0 where
  pub raises : (ts : List ℕ) → Ready c.end ts → Shows rank first ts → Shows rank now (raised r ts (present (take i (places c s))))
  pub still : changed ≡ false → now ≡ first
  pub behind : drop (c.end + 1) now ≡ drop (c.end + 1) first

abbrev keeps : Ranking → List ℕ → Arc → Bool
keeps r ts a = le_z (pos (get_or ts a.from 0) +ℤ r a.weight a.mark) (pos (get_or ts a.to 0))

module _ (r : Ranking) (bounded : IsRanking r) (c : Case) (w : Within c) (s : List ℕ) where
  present_all : (i : ℕ) → length c.fixed + length c.pairs ≤ i → present (take i (places c s)) ≡ arcs_of c s
  present_all i h = ap present (take_all i (places c s) (omega (arith, length_places c s))) ∙ present_places c s

  -- each place on the way can be raised
  pub raisable : (ts : List ℕ) (i : ℕ) (a : Arc) → Ready c.end ts → i < length c.fixed + length c.pairs → Some a ≡ get_or (places c s) i None → Raisable c.end a (raised r ts (present (take i (places c s))))
  raisable ts i a d h e =
      let b : ArcWithin c.end a = place_within c s i a w h e in
      let os : List (Option Arc) = take i (places c s) in
      let l : length (present os) ≤ 2108 = omega (arith, length_present os, length-take i (places c s), length_places c s, w.few_fixed, w.few_pairs) in
      record {
        within = b;
        from_shown = omega (arith, length_raised r bounded ts (present os), d.len, b.from_known);
        to_shown = omega (arith, length_raised r bounded ts (present os), d.len, b.to_known);
        low = All-weaker (λ t. t ≤ 2 ^ 58 + 2108 * 2 ^ 31) (λ t. t ≤ 2 ^ 59) (λ t h. omega arith) (raised r ts (present os))
            (low_raised r bounded c.end 2108 (2 ^ 58) ts (present os) d.len l (present_within c.end os (All-take (WithinIf c.end) i (places c s) (places_within c s w))) d.low);
      }

  raised_more : (ts : List ℕ) (i : ℕ) (a : Arc) → i < length c.fixed + length c.pairs → Some a ≡ get_or (places c s) i None → raised r ts (present (take (i + 1) (places c s))) ≡ raised_by r (raised r ts (present (take i (places c s)))) a
  raised_more ts i a h e =
      ap (raised r ts) (present_more (places c s) i (omega (arith, length_places c s)) ∙ ap (λ o. present (take i (places c s)) ++ listed o) (sym e))
      ∙ raised_append r ts (present (take i (places c s))) (a ∷ [])

  skipped : (i : ℕ) → i < length c.fixed + length c.pairs → None ≡ get_or (places c s) i None → present (take (i + 1) (places c s)) ≡ present (take i (places c s))
  skipped i h e =
      present_more (places c s) i (omega (arith, length_places c s)) ∙ (ap (λ o. present (take i (places c s)) ++ listed o) (sym e) ∙ append-nil (present (take i (places c s))))

  module _ {V : Type 0} (rank : V → ℤ) (first : List V) where
    pub round_start : Rounding rank r c s first first false 0
    round_start = record { raises = λ ts d h. h; still = λ e. refl; behind = refl }

    pub round_skip : (now end : List V) (changed after : Bool) (i : ℕ) → i < length c.fixed + length c.pairs → None ≡ get_or (places c s) i None
        → end ≡ now
        → after ≡ changed
        → Rounding rank r c s first now changed i → Rounding rank r c s first end after (i + 1)
    round_skip now end changed after i h e m f k = record {
      raises = λ ts d q. subst (λ vs. Shows rank vs (raised r ts (present (take (i + 1) (places c s))))) (sym m) (subst (λ es. Shows rank now (raised r ts es)) (sym (skipped i h e)) (k.raises ts d q));
      still = λ z. m ∙ k.still (sym f ∙ z);
      behind = ap (drop (c.end + 1)) m ∙ k.behind;
    }

    pub round_raise : (now next end : List V) (changed after flag : Bool) (i : ℕ) (a : Arc) → i < length c.fixed + length c.pairs → Some a ≡ get_or (places c s) i None
        → ((n : ℕ) (ts : List ℕ) → Raisable n a ts → Shows rank now ts → Shows rank next (raised_by r ts a))
        → (flag ≡ false → next ≡ now)
        → ((n : ℕ) → a.to < n → drop n next ≡ drop n now)
        → end ≡ next
        → (after ≡ false → (changed ≡ false) × (flag ≡ false))
        → Rounding rank r c s first now changed i → Rounding rank r c s first end after (i + 1)
    round_raise now next end changed after flag i a h e up same far m f k = record {
      raises = λ ts d q. subst (λ vs. Shows rank vs (raised r ts (present (take (i + 1) (places c s))))) (sym m)
          (subst (Shows rank next) (sym (raised_more ts i a h e)) (up c.end (raised r ts (present (take i (places c s)))) (raisable ts i a d h e) (k.raises ts d q)));
      still = λ z. m ∙ (same (f z).1 ∙ k.still (f z).0);
      behind = ap (drop (c.end + 1)) m ∙ (far (c.end + 1) (omega (arith, (place_within c s i a w h e).to_known)) ∙ k.behind);
    }

    pub round_all : (now : List V) (changed : Bool) (i : ℕ) → length c.fixed + length c.pairs ≤ i → Rounding rank r c s first now changed i → (ts : List ℕ) → Ready c.end ts → Shows rank first ts → Shows rank now (raised r ts (arcs_of c s))
    round_all now changed i h k ts d q = subst (λ es. Shows rank now (raised r ts es)) (present_all i h) (k.raises ts d q)

  -- ---- the look at the end

  pub raisable_now : (ts : List ℕ) (i : ℕ) (a : Arc) → Ready c.end ts → i < length c.fixed + length c.pairs → Some a ≡ get_or (places c s) i None → Raisable c.end a ts
  raisable_now ts i a d h e =
      let b : ArcWithin c.end a = place_within c s i a w h e in
      record {
        within = b;
        from_shown = omega (arith, d.len, b.from_known);
        to_shown = omega (arith, d.len, b.to_known);
        low = All-weaker (λ t. t ≤ 2 ^ 58) (λ t. t ≤ 2 ^ 59) (λ t h. omega arith) ts d.low;
      }

  pub kept_skip : (ts : List ℕ) (i : ℕ) → i < length c.fixed + length c.pairs → None ≡ get_or (places c s) i None → kept_all r ts (present (take i (places c s))) ≡ true → kept_all r ts (present (take (i + 1) (places c s))) ≡ true
  kept_skip ts i h e k = ap (kept_all r ts) (skipped i h e) ∙ k

  pub kept_more : (ts : List ℕ) (i : ℕ) (a : Arc) → i < length c.fixed + length c.pairs → Some a ≡ get_or (places c s) i None → keeps r ts a ≡ true → kept_all r ts (present (take i (places c s))) ≡ true → kept_all r ts (present (take (i + 1) (places c s))) ≡ true
  kept_more ts i a h e q k =
      ap (kept_all r ts) (present_more (places c s) i (omega (arith, length_places c s)) ∙ ap (λ o. present (take i (places c s)) ++ listed o) (sym e))
      ∙ (kept_append r ts (present (take i (places c s))) (a ∷ []) ∙ and_from (kept_all r ts (present (take i (places c s)))) (keeps r ts a && true) k (and_from (keeps r ts a) true q refl))

  pub kept_all_lem : (ts : List ℕ) (i : ℕ) → length c.fixed + length c.pairs ≤ i → kept_all r ts (present (take i (places c s))) ≡ true → kept_all r ts (arcs_of c s) ≡ true
  kept_all_lem ts i h k = sym (ap (kept_all r ts) (present_all i h)) ∙ k

  pub kept_fails : (ts : List ℕ) (i : ℕ) (a : Arc) → i < length c.fixed + length c.pairs → Some a ≡ get_or (places c s) i None → keeps r ts a ≡ false → kept_all r ts (arcs_of c s) ≡ false
  kept_fails ts i a h e q = sym (ap (kept_all r ts) (present_places c s)) ∙ go (places c s) i (omega (arith, length_places c s)) e
    where
      go : (os : List (Option Arc)) (i : ℕ) → i < length os → Some a ≡ get_or os i None → kept_all r ts (present os) ≡ false
      go [] i h e = absurd (omega arith)
      go (None ∷ os) zero h e = let z : ◌≡◌ {A = ℕ} 0 1 = cc in absurd (omega arith)
      go (Some b ∷ os) zero h e =
          let f : b ≡ a = cc in
          and_left (keeps r ts b) (kept_all r ts (present os)) (ap (keeps r ts) f ∙ q)
      go (None ∷ os) (suc i) h e = go os i (omega arith) e
      go (Some b ∷ os) (suc i) h e = and_right (keeps r ts b) (kept_all r ts (present os)) (go os i (omega arith) e)
