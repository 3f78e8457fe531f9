-- A search goes on: it examines as many nodes as its budget says, unless it finishes.
use Rattle.std.proofs.Common.{◌≡◌, ℕ, zero, suc, ◌+◌, ◌≤◌, true, ltb, ◌⊎◌, [], ◌∷◌, ◌++◌, length, Some, None, Option, refl, ◌∙◌, inl, inr, arith}
use Rattle.std.proofs.lemmas.Bool.{cond_both, cond-true}
use Rattle.graph.specs.Graph.{Case, Ranking}
use Rattle.graph.specs.Times.{least_times}
use Rattle.bounds.specs.Bounds.{Meaning}
use Rattle.search.specs.Search.{Node, Plan, Planner, free, joined, after, cuts, better, moved_to, bound_at, examined, walked, searched}

-- one node more, and the same holds
abbrev pub On : Planner → ℕ → Planner → Type 0
On w k v = (v.count ≡ w.count + k) × (v.holds ≡ w.holds)

moved_on : (w : Planner) (p : Option Plan) (o : Option Node) → On w 1 (moved_to w p o)
moved_on w p None = (refl, refl)
moved_on w p (Some x) = (refl, refl)

module _ (c : Case) (r : Ranking) (m : Meaning) where
  -- what holds of each move from w holds once a node was examined
  pub examined_by : (P : Planner → Type 0) (w : Planner) → ((p : Option Plan) (o : Option Node) → P (moved_to w p o)) → P (examined c r m w)
  examined_by P w f =
      cond_both (cuts (bound_at c r m w.holds w.next) w.plan) _ _ P
      (λ b. f w.plan (after w.next))
      (λ b. cond_both (ltb (length w.next) (free w.holds)) _ _ P
      (λ l. f w.plan (Some (w.next ++ (1 ∷ []))))
      (λ l. f (better (joined w.holds w.next) c.end (least_times r c (joined w.holds w.next)) w.plan) (after w.next)))

  pub examined_on : (w : Planner) → On w 1 (examined c r m w)
  examined_on w = examined_by (On w 1) w (moved_on w)

  -- once finished, a walk stays
  pub walked_done : (k : ℕ) (w : Planner) → w.finished ≡ true → walked c r m k w ≡ w
  walked_done zero w e = refl
  walked_done (suc k) w e = cond-true w.finished w (walked c r m k (examined c r m w)) e

  pub walked_holds : (k : ℕ) (w : Planner) → (walked c r m k w).holds ≡ w.holds
  walked_holds zero w = refl
  walked_holds (suc k) w = cond_both w.finished w (walked c r m k (examined c r m w)) (λ (v : Planner). v.holds ≡ w.holds) (λ e. refl) (λ e. walked_holds k (examined c r m w) ∙ (examined_on w).1)

  more : (k : ℕ) (w v u : Planner) → On w 1 v → (u.finished ≡ true) ⊎ (u.count ≡ v.count + k) → (u.finished ≡ true) ⊎ (u.count ≡ w.count + suc k)
  more k w v u o (inl h) = inl h
  more k w v u o (inr h) = inr (omega (arith, o.0))

  pub searched_goes_on : (k : ℕ) (w : Planner) → ((searched c r m k w).finished ≡ true) ⊎ ((searched c r m k w).count ≡ w.count + k)
  searched_goes_on zero w = inr (omega arith)
  searched_goes_on (suc k) w =
      cond_both w.finished w (walked c r m k (examined c r m w)) (λ (v : Planner). (v.finished ≡ true) ⊎ (v.count ≡ w.count + suc k)) (λ e. inl e)
      (λ e. more k w (examined c r m w) (walked c r m k (examined c r m w)) (examined_on w) (searched_goes_on k (examined c r m w)))

  -- the count rises by the budget at the most
  pub walked_counts : (n : ℕ) (w : Planner) → w.count ≤ (walked c r m n w).count
  walked_counts zero w = omega arith
  walked_counts (suc n) w = cond_both w.finished w (walked c r m n (examined c r m w)) (λ v. w.count ≤ v.count) (λ e. omega arith) (λ e. omega (arith, (examined_on w).0, walked_counts n (examined c r m w)))

  pub walked_within : (k : ℕ) (w : Planner) → (walked c r m k w).count ≤ w.count + k
  walked_within zero w = omega arith
  walked_within (suc k) w =
      cond_both w.finished w (walked c r m k (examined c r m w)) (λ (v : Planner). v.count ≤ w.count + suc k) (λ e. omega arith) (λ e. omega (arith, (examined_on w).0, walked_within k (examined c r m w)))
