-- More of what a search does: its count, its plan, and two searches in a row.
use Rattle.std.proofs.Common.{◌≡◌, ℕ, zero, suc, ◌+◌, true, false, cond, ltb, List, [], ◌∷◌, ◌++◌, length, get_or, ℤ, pos, ◌≤ℤ◌, Some, None, Option, sym, refl, ap, ◌∙◌, subst, zero-add, arith}
use lib.Signed.{lt_z}
use Rattle.std.proofs.lemmas.Int.{ints, clamps}
use Rattle.std.proofs.lemmas.Bool.{cond_both, false≢true}
use Rattle.graph.specs.Graph.{Case, Ranking, Selection}
use Rattle.graph.specs.Times.{least_times}
use Rattle.bounds.specs.Bounds.{Meaning}
use Rattle.search.specs.Search.{Node, Plan, Planner, opened, free, joined, after, waiting, cuts, better, moved_to, settled, raised_to, plan_delay, bound_at, examined, walked, least_over, lower_after, shown, searched}
use Rattle.search.specs.Sound.{Call, reached, NoWorse, Alike, MoreWalkLaws}
use Rattle.search.proofs.Keeps.{Inv, Bounding, bounding, walked_keeps}
use Rattle.search.proofs.Calls.{all_keep, opened_keeps}
use Rattle.search.proofs.Progress.{walked_holds, walked_done, walked_counts, walked_within}
use Rattle.search.proofs.Walks.{reached_by, below_settled, walked_lower, searched_tight, shown_rises}

-- a plan that is no worse
same_plan : (p : Option Plan) → NoWorse p p
same_plan None = tt
same_plan (Some p) = omega (arith, ints)

then_no_worse : (p q s : Option Plan) → NoWorse p q → NoWorse q s → NoWorse p s
then_no_worse None q s h k = tt
then_no_worse (Some p) None s h k = absurd h
then_no_worse (Some p) (Some q) None h k = k
then_no_worse (Some p) (Some q) (Some s) h k = omega (arith, ints)

better_no_worse : (s : Selection) (n : ℕ) (o : Option (List ℕ)) (p : Option Plan) → NoWorse p (better s n o p)
better_no_worse s n None p = same_plan p
better_no_worse s n (Some ts) None = tt
better_no_worse s n (Some ts) (Some p) =
    cond_both (lt_z (pos (get_or ts n 0)) p.delay) (Some (record { arms = s; delay = pos (get_or ts n 0) })) (Some p) (λ q. NoWorse (Some p) q) (λ e. grind (arith, ints)) (λ e. omega (arith, ints))

moved_plan : (w : Planner) (p : Option Plan) (o : Option Node) → (moved_to w p o).plan ≡ p
moved_plan w p None = refl
moved_plan w p (Some x) = refl

moved_no_worse : (w : Planner) (p : Option Plan) (o : Option Node) → NoWorse w.plan p → NoWorse w.plan (moved_to w p o).plan
moved_no_worse w p o h = subst (λ q. NoWorse w.plan q) (sym (moved_plan w p o)) h

-- the same planner with another bound on show
abbrev pub showing : ℤ → Planner → Planner
showing z w = record { holds = w.holds; next = w.next; plan = w.plan; lower = z; count = w.count; finished = w.finished }

moved_showing : (z : ℤ) (w : Planner) (p : Option Plan) (o : Option Node) → moved_to (showing z w) p o ≡ showing z (moved_to w p o)
moved_showing z w p None = refl
moved_showing z w p (Some x) = refl

settled_grows : (o : Option Plan) (x y : ℤ) → x ≤ℤ y → settled o x ≤ℤ settled o y
settled_grows None x y h = h
settled_grows (Some p) x y h = omega (arith, ints)

raised_grows : (o : Option ℤ) (x y : ℤ) → x ≤ℤ y → raised_to o x ≤ℤ raised_to o y
raised_grows None x y h = h
raised_grows (Some z) x y h = omega (arith, ints, clamps)

module _ (c : Case) (r : Ranking) (m : Meaning) where
  examined_no_worse : (w : Planner) → NoWorse w.plan (examined c r m w).plan
  examined_no_worse w =
      cond_both (cuts (bound_at c r m w.holds w.next) w.plan) _ _ (λ (v : Planner). NoWorse w.plan v.plan)
      (λ b. moved_no_worse w w.plan (after w.next) (same_plan w.plan))
      (λ b. cond_both (ltb (length w.next) (free w.holds)) _ _ (λ (v : Planner). NoWorse w.plan v.plan)
      (λ l. moved_no_worse w w.plan (Some (w.next ++ (1 ∷ []))) (same_plan w.plan))
      (λ l. moved_no_worse w (better (joined w.holds w.next) c.end (least_times r c (joined w.holds w.next)) w.plan) (after w.next)
      (better_no_worse (joined w.holds w.next) c.end (least_times r c (joined w.holds w.next)) w.plan)))

  walked_no_worse : (k : ℕ) (w : Planner) → NoWorse w.plan (walked c r m k w).plan
  walked_no_worse zero w = same_plan w.plan
  walked_no_worse (suc k) w =
      cond_both w.finished w (walked c r m k (examined c r m w)) (λ (v : Planner). NoWorse w.plan v.plan) (λ e. same_plan w.plan)
      (λ e. then_no_worse w.plan (examined c r m w).plan (walked c r m k (examined c r m w)).plan (examined_no_worse w) (walked_no_worse k (examined c r m w)))

  -- two walks in a row
  walked_adds : (j k : ℕ) (w : Planner) → walked c r m k (walked c r m j w) ≡ walked c r m (j + k) w
  walked_adds zero k w = ap (λ n. walked c r m n w) (sym (zero-add k))
  walked_adds (suc j) k w =
      let e : suc j + k ≡ suc (j + k) = omega arith in
      let h : walked c r m k (walked c r m (suc j) w) ≡ walked c r m (suc (j + k)) w =
      (elim w.finished as (λ b. w.finished ≡ b → walked c r m k (cond b w (walked c r m j (examined c r m w))) ≡ cond b w (walked c r m (j + k) (examined c r m w)))
      [ true ↦ λ f. walked_done c r m k w f | false ↦ λ f. walked_adds j k (examined c r m w) ]) refl in
      h ∙ ap (λ n. walked c r m n w) (sym e)

  examined_showing : (z : ℤ) (w : Planner) → examined c r m (showing z w) ≡ showing z (examined c r m w)
  examined_showing z w =
      elim (cuts (bound_at c r m w.holds w.next) w.plan)
      as (λ b. cond b (moved_to (showing z w) w.plan (after w.next)) (cond (ltb (length w.next) (free w.holds)) (moved_to (showing z w) w.plan (Some (w.next ++ (1 ∷ [])))) (moved_to (showing z w) (better (joined w.holds w.next) c.end (least_times r c (joined w.holds w.next)) w.plan) (after w.next)))
      ≡ showing z (cond b (moved_to w w.plan (after w.next)) (cond (ltb (length w.next) (free w.holds)) (moved_to w w.plan (Some (w.next ++ (1 ∷ [])))) (moved_to w (better (joined w.holds w.next) c.end (least_times r c (joined w.holds w.next)) w.plan) (after w.next))))) [
        | true ↦ moved_showing z w w.plan (after w.next)
        | false ↦ elim (ltb (length w.next) (free w.holds))
            as (λ b. cond b (moved_to (showing z w) w.plan (Some (w.next ++ (1 ∷ [])))) (moved_to (showing z w) (better (joined w.holds w.next) c.end (least_times r c (joined w.holds w.next)) w.plan) (after w.next))
            ≡ showing z (cond b (moved_to w w.plan (Some (w.next ++ (1 ∷ [])))) (moved_to w (better (joined w.holds w.next) c.end (least_times r c (joined w.holds w.next)) w.plan) (after w.next)))) [
              | true ↦ refl
              | false ↦ moved_showing z w (better (joined w.holds w.next) c.end (least_times r c (joined w.holds w.next)) w.plan) (after w.next)
            ]
      ]

  walked_showing : (z : ℤ) (k : ℕ) (w : Planner) → walked c r m k (showing z w) ≡ showing z (walked c r m k w)
  walked_showing z zero w = refl
  walked_showing z (suc k) w =
      elim w.finished as (λ b. cond b (showing z w) (walked c r m k (examined c r m (showing z w))) ≡ showing z (cond b w (walked c r m k (examined c r m w))))
      [ true ↦ refl | false ↦ ap (λ v. walked c r m k v) (examined_showing z w) ∙ walked_showing z k (examined c r m w) ]

  in_pieces : (j k : ℕ) (w : Planner) → walked c r m k (searched c r m j w) ≡ showing (lower_after c r m (walked c r m j w)) (walked c r m (j + k) w)
  in_pieces j k w = walked_showing (lower_after c r m (walked c r m j w)) k (walked c r m j w) ∙ ap (showing (lower_after c r m (walked c r m j w))) (walked_adds j k w)

  pub searched_adds : (j k : ℕ) (w : Planner) → Alike (searched c r m k (searched c r m j w)) (searched c r m (j + k) w)
  searched_adds j k w = subst (λ v. Alike (shown c r m v) (searched c r m (j + k) w)) (sym (in_pieces j k w)) (record { holds = refl; next = refl; plan = refl; count = refl; finished = refl })

  lower_grows : (z : ℤ) (w : Planner) → w.lower ≤ℤ z → lower_after c r m w ≤ℤ lower_after c r m (showing z w)
  lower_grows z w h =
      elim w.finished
      as (λ b. cond b (settled w.plan w.lower) (raised_to (least_over c r m w.holds (w.next ∷ waiting w.next) (plan_delay w.plan)) w.lower)
      ≤ℤ cond b (settled w.plan z) (raised_to (least_over c r m w.holds (w.next ∷ waiting w.next) (plan_delay w.plan)) z))
      [ true ↦ settled_grows w.plan w.lower z h | false ↦ raised_grows (least_over c r m w.holds (w.next ∷ waiting w.next) (plan_delay w.plan)) w.lower z h ]

  pub reached_tight : (xs : List Call) (p : Plan) → (reached c r m xs).finished ≡ true → (reached c r m xs).plan ≡ Some p → (reached c r m xs).lower ≡ p.delay
  reached_tight = reached_by c r m (λ w. (p : Plan) → w.finished ≡ true → w.plan ≡ Some p → w.lower ≡ p.delay) (λ hs p e q. absurd (false≢true e)) (λ k w h. searched_tight c r m k w)

module _ (c : Case) (r : Ranking) (m : Meaning) (given : Bounding c r m) where
  reached_keeps : (xs : List Call) → Inv c r (reached c r m xs)
  reached_keeps xs = all_keep c r m given xs (opened c) (opened_keeps c r m given)

  adds_bound : (j k : ℕ) (w : Planner) → Inv c r w → (searched c r m (j + k) w).lower ≤ℤ (searched c r m k (searched c r m j w)).lower
  adds_bound j k w i =
      let h : w.lower ≤ℤ lower_after c r m (walked c r m j w) = subst (λ z. z ≤ℤ lower_after c r m (walked c r m j w)) (walked_lower c r m j w) (shown_rises c r m given (walked c r m j w) (walked_keeps c r m given j w i)) in
      let g : (walked c r m (j + k) w).lower ≤ℤ lower_after c r m (walked c r m j w) = subst (λ z. z ≤ℤ lower_after c r m (walked c r m j w)) (sym (walked_lower c r m (j + k) w)) h in
      subst (λ v. lower_after c r m (walked c r m (j + k) w) ≤ℤ lower_after c r m v) (sym (in_pieces c r m j k w)) (lower_grows c r m (lower_after c r m (walked c r m j w)) (walked c r m (j + k) w) g)

  below : (xs : List Call) (p : Plan) → (reached c r m xs).plan ≡ Some p → (reached c r m xs).lower ≤ℤ p.delay
  below xs p e =
      let i : Inv c r (reached c r m xs) = reached_keeps xs in
      subst (λ o. (reached c r m xs).lower ≤ℤ settled o (reached c r m xs).lower) e (below_settled c r (reached c r m xs).holds (reached c r m xs).plan (reached c r m xs).lower i.plan i.lower)

pub more_walk_laws : MoreWalkLaws
more_walk_laws =
    record {
      within_budget = λ c r m k w. (walked_counts c r m k w, walked_within c r m k w);
      same_holds = walked_holds;
      no_worse = walked_no_worse;
      adds_up = searched_adds;
      adds_up_bound = λ c r m within ranked lower xs j k. let g = bounding c r m within ranked lower in adds_bound c r m g j k (reached c r m xs) (reached_keeps c r m g xs);
      below_plan = λ c r m within ranked lower xs p e. below c r m (bounding c r m within ranked lower) xs p e;
      stays_tight = reached_tight;
    }
