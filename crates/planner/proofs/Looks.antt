-- One node looked at.
use Rattle.std.proofs.Common.{◌≡◌, ℕ, ◌<◌, ◌≤◌, Bool, true, false, ltb, List, [], ◌∷◌, ◌++◌, length, take, ℤ, Some, None, Option, sym, refl, ap, ◌∙◌, subst, arith}
use Rattle.std.proofs.lemmas.Bool.{cond-true, cond-false, lt-ltb, le-ltb}
use Rattle.graph.specs.Graph.{Case, Ranking, Within, selection_of}
use Rattle.graph.specs.Times.{least_times}
use Rattle.bounds.specs.Bounds.{Meaning}
use Rattle.search.specs.Search.{Planner, Plan, Node, moved_to, after, better, cuts, joined, free, bound_at, examined, plan_times}
use Rattle.graph.specs.Views.{Shows}
use Rattle.graph.specs.Told.{times_or_zeros}
use Rattle.bounds.specs.Told.{RankIs}
use Rattle.planner.specs.View.{plan_of, replanned, looked_at}
use Rattle.planner.specs.declared.table.Plan.{Plan as Stored}
use Rattle.planner.specs.declared.arms.Arms.{Arms}
use Rattle.planner.proofs.Joining.{free_few, take_joined, selection_small}

-- the first of the sixty arms are the selection of a case
pub selected : (c : Case) → Within c → (s : Arms) → selection_of c.pairs s.places ≡ take (length c.pairs) s.places
selected c i s = selection_small c.pairs s.places (omega (arith, i.few_pairs, s.sixty)) s.none_past_two

-- a node that leaves pairs free can take an arm more
pub room_for_arm : (c : Case) → Within c → (hs : Arms) (n d f : ℕ) → n ≡ length c.pairs → f ≡ free (take n hs.places) → d < f → d < 60
room_for_arm c i hs n d f e g l = omega (arith, i.few_pairs, free_few n hs.places (omega (arith, i.few_pairs, hs.sixty)))

-- the bound of the arms that holds and a node make
pub bound_at_lem : {V : Type 0} (rank : V → ℤ) (c : Case) (r : Ranking) (m : Meaning) (hs x arms : List ℕ) (found : Option V) → arms ≡ joined hs x → RankIs rank found (m c (take (length c.pairs) arms) r) → RankIs rank found (bound_at c r m (take (length c.pairs) hs) x)
bound_at_lem rank c r m hs x arms found e h = subst (λ (s : List ℕ). RankIs rank found (m c s r)) (ap (take (length c.pairs)) e ∙ take_joined (length c.pairs) hs x) h

-- whether it is cut
pub cut_told : {V : Type 0} (rank : V → ℤ) (c : Case) (r : Ranking) (m : Meaning) (hs x arms : List ℕ) (p : Option (Stored V)) (found : Option V) (b : Bool) → ((n : ℕ) (z : Option ℤ) → RankIs rank found z → b ≡ cuts z (plan_of rank n p)) → arms ≡ joined hs x → RankIs rank found (m c (take (length c.pairs) arms) r) → cuts (bound_at c r m (take (length c.pairs) hs) x) (plan_of rank (length c.pairs) p) ≡ b
cut_told rank c r m hs x arms p found b f e h = sym (f (length c.pairs) (bound_at c r m (take (length c.pairs) hs) x) (bound_at_lem rank c r m hs x arms found e h))

-- the times of a plan that is stored
pub plan_shown : {V : Type 0} (rank : V → ℤ) (r : Ranking) (c : Case) → Within c → (vs : List V) (o : Option (Stored V)) (p : Stored V) → o ≡ Some p → Shows rank vs (times_or_zeros c (least_times r c (selection_of c.pairs p.arms.places))) → Shows rank vs (plan_times c r (plan_of rank (length c.pairs) o))
plan_shown rank r c i vs o p e t =
    subst (λ (q : Option (Stored _)). Shows rank vs (plan_times c r (plan_of rank (length c.pairs) q))) (sym e)
    (subst (λ (s : List ℕ). Shows rank vs (times_or_zeros c (least_times r c s))) (selected c i p.arms) t)

replanned_moved : (w : Planner) (p : Option Plan) (o : Option Node) → moved_to (replanned w p) p o ≡ moved_to w p o
replanned_moved w p None = refl
replanned_moved w p (Some x) = refl

-- a node x, once its bound is known
module _ (c : Case) (r : Ranking) (m : Meaning) (w : Planner) (x : Node) (e : w.next ≡ x) where
  pub examined_cut : cuts (bound_at c r m w.holds x) w.plan ≡ true → moved_to w w.plan (after x) ≡ examined c r m w
  examined_cut = subst (λ (y : Node). cuts (bound_at c r m w.holds y) w.plan ≡ true → moved_to w w.plan (after y) ≡ examined c r m w) e (λ h. sym (cond-true (cuts (bound_at c r m w.holds w.next) w.plan) _ _ h))

  pub examined_branch : cuts (bound_at c r m w.holds x) w.plan ≡ false → length x < free w.holds → moved_to w w.plan (Some (x ++ (1 ∷ []))) ≡ examined c r m w
  examined_branch =
      subst (λ (y : Node). cuts (bound_at c r m w.holds y) w.plan ≡ false → length y < free w.holds → moved_to w w.plan (Some (y ++ (1 ∷ []))) ≡ examined c r m w) e
      (λ h l. sym (cond-false (cuts (bound_at c r m w.holds w.next) w.plan) _ _ h ∙ cond-true (ltb (length w.next) (free w.holds)) _ _ (lt-ltb (length w.next) (free w.holds) l)))

  -- v is the planner once the full selection s was looked at
  pub examined_full : (s : List ℕ) (v : Planner) → cuts (bound_at c r m w.holds x) w.plan ≡ false → free w.holds ≤ length x → s ≡ joined w.holds x → v ≡ looked_at c r s w → moved_to v v.plan (after x) ≡ examined c r m w
  examined_full s v h l p q =
      ap (λ (u : Planner). moved_to u u.plan (after x)) q
      ∙ replanned_moved w (better s c.end (least_times r c s) w.plan) (after x)
      ∙ ap (λ (t : List ℕ). moved_to w (better t c.end (least_times r c t) w.plan) (after x)) p
      ∙ (subst (λ (y : Node). cuts (bound_at c r m w.holds y) w.plan ≡ false → free w.holds ≤ length y → moved_to w (better (joined w.holds y) c.end (least_times r c (joined w.holds y)) w.plan) (after y) ≡ examined c r m w) e
      (λ h l. sym (cond-false (cuts (bound_at c r m w.holds w.next) w.plan) _ _ h ∙ cond-false (ltb (length w.next) (free w.holds)) _ _ (le-ltb (length w.next) (free w.holds) l)))) h l
