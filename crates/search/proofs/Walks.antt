-- What a search does with its budget and with the bound on show.
use Rattle.std.proofs.Common.{◌≡◌, ℕ, zero, suc, ◌+◌, ◌-◌, ◌^◌, ◌<◌, ◌≤◌, true, false, eqb, ◌⊎◌, List, [], ◌∷◌, length, get_or, set, replicate, ℤ, pos, ◌≤ℤ◌, Some, None, Option, sym, refl, ◌∙◌, subst, inl, inr, arith}
use Rattle.std.specs.List.{AllByRecursion}
use Rattle.std.proofs.ByRecursion.{All-append}
use Rattle.std.proofs.lemmas.Int.{ints, clamps}
use Rattle.std.proofs.lemmas.Bool.{cond_both, eqb-true, eqb-false, false≢true}
use Rattle.graph.specs.Graph.{Arc, Pair, Case, Ranking, Timetable, Selection, Keeps, KeepsCase, KeepsArms, chosen, selected, delay}
use Rattle.graph.specs.Times.{Least}
use Rattle.bounds.specs.Bounds.{Meaning}
use Rattle.search.specs.Search.{Node, Plan, Planner, fresh, opened, free, waiting, moved_to, settled, raised_to, plan_delay, examined, walked, least_over, shown, searched}
use Rattle.search.specs.Sound.{Call, to_hold, to_release, to_search, refusal, taken, OnShow, reached, WalkLaws}
use Rattle.search.proofs.Nodes.{all_left, all_right}
use Rattle.search.proofs.Placed.{Placed, fresh_placed, searched_placed, enough}
use Rattle.search.proofs.Keeps.{Inv, Bounding, bounding, walked_keeps}
use Rattle.search.proofs.Runs.{all_kept}
use Rattle.search.proofs.Calls.{all_keep, opened_keeps}
use Rattle.search.proofs.Progress.{examined_by, searched_goes_on}

-- what holds of a fresh planner, and is kept by a search, holds after any calls
module _ (c : Case) (r : Ranking) (m : Meaning) (P : Planner → Type 0) (at_first : (hs : Selection) → P (fresh hs)) (kept : (k : ℕ) (w : Planner) → P w → P (searched c r m k w)) where
  by_taken : (w : Planner) (x : Call) → P w → refusal c w x ≡ None → P (taken c r m w x)
  by_taken w (to_hold i a) h e = at_first (set w.holds i a)
  by_taken w (to_release i) h e = at_first (set w.holds i 0)
  by_taken w (to_search k n) h e = kept k w h

  pub reached_by : (xs : List Call) → P (reached c r m xs)
  reached_by xs = all_kept c r m P by_taken xs (opened c) (at_first (replicate (length c.pairs) 0))

module _ (c : Case) (r : Ranking) (m : Meaning) where
  pub reached_finishes : (xs : List Call) (k : ℕ) → 2 ^ (free (reached c r m xs).holds + 1) - 1 ≤ (reached c r m xs).count + k → (searched c r m k (reached c r m xs)).finished ≡ true
  reached_finishes xs k l = enough c r m k (reached c r m xs) (reached_by c r m Placed fresh_placed (searched_placed c r m) xs) l

  -- the bound on show
  settled_tight : (o : Option Plan) (p : Plan) (z : ℤ) → o ≡ Some p → settled o z ≡ p.delay
  settled_tight o p z e = rw e

  pub searched_tight : (k : ℕ) (w : Planner) (p : Plan) → (searched c r m k w).finished ≡ true → (searched c r m k w).plan ≡ Some p → (searched c r m k w).lower ≡ p.delay
  searched_tight k w p e q =
      cond_both (walked c r m k w).finished _ _ (λ (z : ℤ). z ≡ p.delay)
      (λ f. settled_tight (walked c r m k w).plan p (walked c r m k w).lower q)
      (λ f. absurd (false≢true (sym f ∙ e)))

  moved_lower : (w : Planner) (p : Option Plan) (o : Option Node) → (moved_to w p o).lower ≡ w.lower
  moved_lower w p None = refl
  moved_lower w p (Some x) = refl

  examined_lower : (w : Planner) → (examined c r m w).lower ≡ w.lower
  examined_lower w = examined_by c r m (λ v. v.lower ≡ w.lower) w (moved_lower w)

  pub walked_lower : (k : ℕ) (w : Planner) → (walked c r m k w).lower ≡ w.lower
  walked_lower zero w = refl
  walked_lower (suc k) w = cond_both w.finished w (walked c r m k (examined c r m w)) (λ (v : Planner). v.lower ≡ w.lower) (λ e. refl) (λ e. walked_lower k (examined c r m w) ∙ examined_lower w)

-- the least times of a plan keep the case and the holds
module _ (K : Arc → Type 0) where
  arm_kept : (a : ℕ) (p : Pair) → (a ≡ 1) ⊎ (a ≡ 2) → AllByRecursion K (chosen a p) → K p.first ⊎ K p.second
  arm_kept a p (inl e) h = inl (subst (λ b. AllByRecursion K (chosen b p)) e h).0
  arm_kept a p (inr e) h = inr (subst (λ b. AllByRecursion K (chosen b p)) e h).0

  arms_kept : (ps : List Pair) (s : Selection) → length s ≡ length ps → ((i : ℕ) → i < length ps → (get_or s i 0 ≡ 1) ⊎ (get_or s i 0 ≡ 2)) → AllByRecursion K (selected s ps) → AllByRecursion (λ p. K p.first ⊎ K p.second) ps
  arms_kept [] s e f k = tt
  arms_kept (p ∷ ps) [] e f k = absurd (omega arith)
  arms_kept (p ∷ ps) (a ∷ s) e f k = (arm_kept a p (f 0 (omega arith)) (all_left K (chosen a p) (selected s ps) k), arms_kept ps s (omega arith) (λ i l. f (suc i) (omega arith)) (all_right K (chosen a p) (selected s ps) k))

  hold_kept : (h a : ℕ) (p : Pair) → ((h ≡ 0 → ⊥) → a ≡ h) → AllByRecursion K (chosen a p) → AllByRecursion K (chosen h p)
  hold_kept h a p f k =
      (elim (eqb h 0) as (λ b. eqb h 0 ≡ b → AllByRecursion K (chosen h p))
      [ true ↦ λ e. subst (λ b. AllByRecursion K (chosen b p)) (sym (eqb-true h 0 e)) tt | false ↦ λ e. subst (λ b. AllByRecursion K (chosen b p)) (f (eqb-false h 0 e)) k ]) refl

  holds_kept : (ps : List Pair) (hs s : Selection) → length s ≡ length ps → ((i : ℕ) → i < length ps → (get_or hs i 0 ≡ 0 → ⊥) → get_or s i 0 ≡ get_or hs i 0) → AllByRecursion K (selected s ps) → AllByRecursion K (selected hs ps)
  holds_kept [] [] s e f k = tt
  holds_kept [] (h ∷ hs) s e f k = tt
  holds_kept (p ∷ ps) [] s e f k = tt
  holds_kept (p ∷ ps) (h ∷ hs) [] e f k = absurd (omega arith)
  holds_kept (p ∷ ps) (h ∷ hs) (a ∷ s) e f k =
      All-append K (chosen h p) (selected hs ps)
      (hold_kept h a p (f 0 (omega arith)) (all_left K (chosen a p) (selected s ps) k))
      (holds_kept ps hs s (omega arith) (λ i l. f (suc i) (omega arith)) (all_right K (chosen a p) (selected s ps) k))

module _ (c : Case) (r : Ranking) where
  plan_keeps_case : (s : Selection) (t : Timetable) → length s ≡ length c.pairs → ((i : ℕ) → i < length c.pairs → (get_or s i 0 ≡ 1) ⊎ (get_or s i 0 ≡ 2)) → Least r c s t → KeepsCase r c t
  plan_keeps_case s t e f l =
      record {
        starts = l.starts;
        keeps_fixed = all_left (Keeps r t) c.fixed (selected s c.pairs) l.keeps;
        keeps_arm = arms_kept (Keeps r t) c.pairs s e f (all_right (Keeps r t) c.fixed (selected s c.pairs) l.keeps);
      }

  plan_keeps_holds : (hs s : Selection) (t : Timetable) → length s ≡ length c.pairs → ((i : ℕ) → i < length c.pairs → (get_or hs i 0 ≡ 0 → ⊥) → get_or s i 0 ≡ get_or hs i 0) → Least r c s t → KeepsArms r c hs t
  plan_keeps_holds hs s t e f l = holds_kept (Keeps r t) c.pairs hs s e f (all_right (Keeps r t) c.fixed (selected s c.pairs) l.keeps)

  -- a bound on all that keeps the holds is a bound on the plan
  pub below_settled : (hs : Selection) (o : Option Plan) (z : ℤ) → OnShow c r hs o → ((t : Timetable) → KeepsCase r c t → KeepsArms r c hs t → z ≤ℤ pos (delay c t)) → z ≤ℤ settled o z
  below_settled hs None z i f = omega (arith, ints)
  below_settled hs (Some p) z i f =
      let g : z ≤ℤ pos (delay c i.timed.0) = f i.timed.0 (plan_keeps_case p.arms i.timed.0 i.one_each i.one_arm i.timed.1) (plan_keeps_holds hs p.arms i.timed.0 i.one_each i.keeps_held_arm i.timed.1) in
      subst (λ (d : ℤ). z ≤ℤ d) i.timed.2 g

raised_above : (o : Option ℤ) (z : ℤ) → z ≤ℤ raised_to o z
raised_above None z = omega (arith, ints)
raised_above (Some y) z = omega (arith, ints, clamps)

module _ (c : Case) (r : Ranking) (m : Meaning) (given : Bounding c r m) where
  pub shown_rises : (w : Planner) → Inv c r w → w.lower ≤ℤ (shown c r m w).lower
  shown_rises w i =
      cond_both w.finished (settled w.plan w.lower) (raised_to (least_over c r m w.holds (w.next ∷ waiting w.next) (plan_delay w.plan)) w.lower) (λ z. w.lower ≤ℤ z)
      (λ e. below_settled c r w.holds w.plan w.lower i.plan i.lower)
      (λ e. raised_above (least_over c r m w.holds (w.next ∷ waiting w.next) (plan_delay w.plan)) w.lower)

  pub searched_rises : (k : ℕ) (w : Planner) → Inv c r w → w.lower ≤ℤ (searched c r m k w).lower
  searched_rises k w i = subst (λ z. z ≤ℤ (searched c r m k w).lower) (walked_lower c r m k w) (shown_rises (walked c r m k w) (walked_keeps c r m given k w i))

  pub reached_rises : (xs : List Call) (k : ℕ) → (reached c r m xs).lower ≤ℤ (searched c r m k (reached c r m xs)).lower
  reached_rises xs k = searched_rises k (reached c r m xs) (all_keep c r m given xs (opened c) (opened_keeps c r m given))

pub walk_laws : WalkLaws
walk_laws =
    record {
      goes_on = searched_goes_on;
      finishes = reached_finishes;
      tight = searched_tight;
      rises = λ c r m within ranked lower xs k. reached_rises c r m (bounding c r m within ranked lower) xs k;
    }
