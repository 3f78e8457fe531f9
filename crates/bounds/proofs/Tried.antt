-- Trials: an arm of a pair is tried and put back, and the loop over the pairs that are undecided. Assumes nothing.
use Rattle.std.proofs.Common.{◌≡◌, ℕ, zero, suc, ◌+◌, ◌<◌, ◌≤◌, Bool, true, false, cond, eqb, leb, List, [], ◌∷◌, length, get_or, drop, set, ℤ, pos, Option, sym, refl, ap, ◌∙◌, subst, arith}
use Rattle.std.proofs.lemmas.List.{set-set, set-get_or, at_drop_more, at_drop_all}
use Rattle.std.proofs.lemmas.Bool.{cond-true, cond-false, le-leb}
use Rattle.graph.specs.Graph.{Arc, Pair, Case, Ranking, Selection, selection_of}
use Rattle.bounds.specs.Bounds.{Meaning, longest_path, larger, with_arm, with_either, tried_from, look_ahead}
use Rattle.bounds.specs.Told.{RankIs, BoundTold}
use Rattle.bounds.proofs.Asked.{asked_both}

-- ---- a table of arms and its selection

selection_set : (ps : List Pair) (s : List ℕ) (i a : ℕ) → a ≤ 2 → i < length s → selection_of ps (set s i a) ≡ set (selection_of ps s) i a
selection_set [] s i a h l = refl
selection_set (p ∷ ps) [] i a h l = absurd (omega arith)
selection_set (p ∷ ps) (b ∷ s) zero a h l = ap (λ x. x ∷ selection_of ps s) (cond-true (leb a 2) a 0 (le-leb a 2 h))
selection_set (p ∷ ps) (b ∷ s) (suc i) a h l = ap (λ x. cond (leb b 2) b 0 ∷ x) (selection_set ps s i a h (omega arith))

pub selection_at : (ps : List Pair) (s : List ℕ) (i : ℕ) → i < length ps → get_or (selection_of ps s) i 0 ≡ cond (leb (get_or s i 0) 2) (get_or s i 0) 0
selection_at [] s i l = absurd (omega arith)
selection_at (p ∷ ps) [] zero l = refl
selection_at (p ∷ ps) [] (suc i) l = selection_at ps [] i (omega arith)
selection_at (p ∷ ps) (b ∷ s) zero l = refl
selection_at (p ∷ ps) (b ∷ s) (suc i) l = selection_at ps s i (omega arith)

-- ---- one trial

-- an arm set, a bound asked, and the arm put back
pub put_back : {V : Type 0} (rank : V → ℤ) (r : Ranking) (c : Case) (arms arms₁ arms₂ : List ℕ) (i a : ℕ) (before after : List V) (found : Option V) → a ≤ 2 → i < length arms
    → BoundTold rank r c longest_path (set arms i a) arms₁ before after found → arms₂ ≡ set arms₁ i (get_or arms i 0) → BoundTold rank r c (with_arm i a) arms arms₂ before after found
put_back rank r c arms arms₁ arms₂ i a before after found h l k e = record {
  answer = λ n. subst (λ (s : Selection). RankIs rank found (longest_path c s r)) (selection_set c.pairs arms i a h l) (k.answer n);
  same = e ∙ (ap (λ (z : List ℕ). set z i (get_or arms i 0)) k.same ∙ (set-set arms i a (get_or arms i 0) ∙ set-get_or arms i 0));
  behind = k.behind;
  short = k.short;
}

-- ---- the loop over the pairs

-- after the first i pairs: some bound was asked whose answer, with what is left to try, makes the whole
pub record Trying {V : Type 0} (rank : V → ℤ) (r : Ranking) (c : Case) (arms arms' : List ℕ) (before after : List V) (best : Option V) (i : ℕ) : Type 0 where
  pub so_far : Meaning
  pub told : BoundTold rank r c so_far arms arms' before after best
  pub left : tried_from c (selection_of c.pairs arms) r i (drop i c.pairs) (so_far c (selection_of c.pairs arms) r) ≡ look_ahead c (selection_of c.pairs arms) r

some_pair : Pair
some_pair = let a : Arc = record { from = 0; to = 0; weight = pos 0; mark = 0 } in record { first = a; second = a }

tried_step : (c : Case) (s : Selection) (r : Ranking) (i : ℕ) (x : Option ℤ) → i < length c.pairs
    → tried_from c s r i (drop i c.pairs) x ≡ tried_from c s r (i + 1) (drop (i + 1) c.pairs) (cond (eqb (get_or s i 0) 0) (larger x (with_either i c s r)) x)
tried_step c s r i x l = at_drop_more (λ ps. tried_from c s r i ps x) c.pairs i some_pair l

module _ {V : Type 0} (rank : V → ℤ) (r : Ranking) (c : Case) (arms : List ℕ) (before : List V) where
  pub trying_start : (best : Option V) → BoundTold rank r c longest_path arms arms before before best → Trying rank r c arms arms before before best 0
  trying_start best k = record { so_far = longest_path; told = k; left = refl }

  module _ (arms' : List ℕ) (after : List V) (best : Option V) (i : ℕ) (l : i < length c.pairs) (long : length after ≡ length before) (k : Trying rank r c arms arms' before after best i) where
    undecided : (b : Bool) → b ≡ eqb (cond (leb (get_or arms' i 0) 2) (get_or arms' i 0) 0) 0 → b ≡ eqb (get_or (selection_of c.pairs arms) i 0) 0
    undecided b e = e ∙ (ap (λ (s : List ℕ). eqb (cond (leb (get_or s i 0) 2) (get_or s i 0) 0) 0) k.told.same ∙ ap (λ n. eqb n 0) (sym (selection_at c.pairs arms i l)))

    -- an undecided pair was tried
    pub trying_more : (b : Bool) (arms'' : List ℕ) (times : List V) (found next : Option V)
        → b ≡ eqb (cond (leb (get_or arms' i 0) 2) (get_or arms' i 0) 0) 0 → b ≡ true
        → BoundTold rank r c (with_either i) arms' arms'' after times found
        → ((x y : Option ℤ) → RankIs rank best x → RankIs rank found y → RankIs rank next (larger x y))
        → Trying rank r c arms arms'' before times next (i + 1)
    trying_more b arms'' times found next e t told up =
        let s : Selection = selection_of c.pairs arms in
        let x : Option ℤ = k.so_far c s r in
        record {
          so_far = λ c s r. larger (k.so_far c s r) (with_either i c s r);
          told = asked_both rank r c larger refl k.so_far (with_either i) arms arms' arms'' before after times best found next long up k.told told;
          left = sym (tried_step c s r i x l ∙ ap (λ v. tried_from c s r (i + 1) (drop (i + 1) c.pairs) v) (cond-true (eqb (get_or s i 0) 0) (larger x (with_either i c s r)) x (sym (undecided b e) ∙ t))) ∙ k.left;
        }

    -- a decided pair was passed over
    pub trying_same : (b : Bool) → b ≡ eqb (cond (leb (get_or arms' i 0) 2) (get_or arms' i 0) 0) 0 → b ≡ false → Trying rank r c arms arms' before after best (i + 1)
    trying_same b e f =
        let s : Selection = selection_of c.pairs arms in
        let x : Option ℤ = k.so_far c s r in
        record {
          so_far = k.so_far;
          told = k.told;
          left = sym (tried_step c s r i x l ∙ ap (λ v. tried_from c s r (i + 1) (drop (i + 1) c.pairs) v) (cond-false (eqb (get_or s i 0) 0) (larger x (with_either i c s r)) x (sym (undecided b e) ∙ f))) ∙ k.left;
        }

  pub trying_all : (arms' : List ℕ) (after : List V) (best : Option V) (i : ℕ) → length c.pairs ≤ i → Trying rank r c arms arms' before after best i → BoundTold rank r c look_ahead arms arms' before after best
  trying_all arms' after best i l k =
      let s : Selection = selection_of c.pairs arms in
      let e : k.so_far c s r ≡ look_ahead c s r = sym (at_drop_all (λ ps. tried_from c s r i ps (k.so_far c s r)) c.pairs i l) ∙ k.left in
      record { answer = λ h. subst (RankIs rank best) e (k.told.answer h); same = k.told.same; behind = k.told.behind; short = k.told.short }
