-- A walk of many nodes.
use Rattle.std.proofs.Common.{◌≡◌, ℕ, zero, suc, ◌+◌, ◌≤◌, true, false, cond, List, length, take, drop, ℤ, is_none, Some, None, sym, refl, ap, ◌∙◌, arith}
use Rattle.std.proofs.lemmas.Bool.{cond-false, true≢false}
use Rattle.graph.specs.Graph.{Case, Ranking}
use Rattle.bounds.specs.Bounds.{Meaning}
use Rattle.search.specs.Search.{Planner, examined, walked, shown, lower_after}
use Rattle.search.proofs.Progress.{examined_on, walked_done}
use Rattle.planner.specs.Nodes.{next_of}
use Rattle.planner.specs.View.{table_of, plan_of, Stepped}
use Rattle.planner.specs.declared.table.Table.{Table}
use Rattle.planner.specs.declared.node.Node.{Node as Stands}

module _ (c : Case) (r : Ranking) (m : Meaning) where
  walked_more : (k : ℕ) (w : Planner) → (walked c r m k w).finished ≡ false → walked c r m (suc k) w ≡ examined c r m (walked c r m k w)
  walked_more zero w h = cond-false w.finished w (examined c r m w) h
  walked_more (suc k) w h =
      (elim w.finished as (λ b. w.finished ≡ b → (cond b w (walked c r m k (examined c r m w))).finished ≡ false → cond b w (walked c r m (suc k) (examined c r m w)) ≡ examined c r m (cond b w (walked c r m k (examined c r m w))))
      [ true ↦ λ e f. absurd (true≢false (sym e ∙ f)) | false ↦ λ e f. walked_more k (examined c r m w) f ]) refl h

  walked_still : (j k : ℕ) (w : Planner) → j ≤ k → (walked c r m j w).finished ≡ true → walked c r m j w ≡ walked c r m k w
  walked_still zero k w l h = sym (walked_done c r m k w h)
  walked_still (suc j) zero w l h = absurd (omega arith)
  walked_still (suc j) (suc k) w l h =
      (elim w.finished as (λ b. (cond b w (walked c r m j (examined c r m w))).finished ≡ true → cond b w (walked c r m j (examined c r m w)) ≡ cond b w (walked c r m k (examined c r m w)))
      [ true ↦ λ f. refl | false ↦ λ f. walked_still j k (examined c r m w) (omega arith) f ]) h

-- k nodes were walked from a table
pub record Walking {V : Type 0} (rank : V → ℤ) (c : Case) (r : Ranking) (m : Meaning) (from to : Table V) (before times : List V) (k : ℕ) : Type 0 where
  pub state : table_of rank (length c.pairs) to ≡ walked c r m k (table_of rank (length c.pairs) from)
  pub count : to.place.count ≡ from.place.count + k
  pub behind : drop (c.end + 1) times ≡ drop (c.end + 1) before

module _ {V : Type 0} (rank : V → ℤ) (c : Case) (r : Ranking) (m : Meaning) (from : Table V) (before : List V) where
  pub walking_more : (to to' : Table V) (x : Stands) (times times' : List V) (k : ℕ) → to.place.next ≡ Some x → Stepped rank c (examined c r m) to to' times times' → Walking rank c r m from to before times k → Walking rank c r m from to' before times' (k + 1)
  walking_more to to' x times times' k f s w =
      let n = length c.pairs in
      let o : (walked c r m k (table_of rank n from)).finished ≡ false = sym (ap (λ (v : Planner). v.finished) w.state) ∙ ap is_none f in
      let e : suc k ≡ k + 1 = omega arith in
      let p : to'.place.count ≡ to.place.count + 1 = ap (λ (v : Planner). v.count) s.state ∙ (examined_on c r m (table_of rank n to)).0 in
      record {
        state = s.state ∙ ap (examined c r m) w.state ∙ sym (walked_more c r m k (table_of rank n from) o) ∙ ap (λ (j : ℕ). walked c r m j (table_of rank n from)) e;
        count = omega (arith, w.count);
        behind = s.behind ∙ w.behind;
      }

  pub walking_stop : (to : Table V) (times : List V) (k b : ℕ) → k ≤ b → to.place.next ≡ None → Walking rank c r m from to before times k → Stepped rank c (walked c r m b) from to before times
  walking_stop to times k b l f w =
      let n = length c.pairs in
      record {
        state = w.state ∙ walked_still c r m k b (table_of rank n from) l (sym (ap (λ (v : Planner). v.finished) w.state) ∙ ap is_none f);
        behind = w.behind;
      }

-- the planner that is on show once its lower bound is set
pub shown_is : {V : Type 0} (rank : V → ℤ) (c : Case) (r : Ranking) (m : Meaning) (t : Table V) (v : V) (w : Planner) → table_of rank (length c.pairs) t ≡ w → rank v ≡ lower_after c r m (table_of rank (length c.pairs) t)
    → ◌≡◌ {A = Planner} (record { holds = take (length c.pairs) t.holds.places; next = next_of t.place.next; plan = plan_of rank (length c.pairs) t.plan; lower = rank v; count = t.place.count; finished = is_none t.place.next }) (shown c r m w)
shown_is rank c r m t v w s e =
    let p : ◌≡◌ {A = Planner} (record { holds = take (length c.pairs) t.holds.places; next = next_of t.place.next; plan = plan_of rank (length c.pairs) t.plan; lower = rank v; count = t.place.count; finished = is_none t.place.next }) (shown c r m (table_of rank (length c.pairs) t)) =
    λ j. record { holds = take (length c.pairs) t.holds.places; next = next_of t.place.next; plan = plan_of rank (length c.pairs) t.plan; lower = e j; count = t.place.count; finished = is_none t.place.next } in
    p ∙ ap (shown c r m) s
