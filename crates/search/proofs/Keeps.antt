-- What a planner keeps while it searches.
use Rattle.std.proofs.Common.{◌≡◌, ℕ, zero, suc, ◌<◌, ◌≤◌, Bool, true, false, ltb, ◌⊎◌, List, [], ◌∷◌, ◌++◌, length, get_or, ℤ, pos, ◌≤ℤ◌, Some, None, Option, sym, refl, ◌∙◌, subst, inl, inr, arith}
use lib.Signed.{lt_z}
use Rattle.std.specs.List.{AllByRecursion}
use Rattle.std.proofs.ByRecursion.{All-append, All-get_or}
use Rattle.std.proofs.lemmas.Int.{ints, clamps}
use Rattle.std.proofs.lemmas.Bool.{cond_both, ltb-true, ltb-false, false≢true}
use Rattle.graph.specs.Graph.{Case, Ranking, IsRanking, Within, Timetable, Selection, IsSelection, Keeps, KeepsCase, KeepsArms, selected, arcs, delay}
use Rattle.graph.specs.Times.{AreLeast, Least, least_times, time_of}
use Rattle.graph.proofs.Raise.{no_cycle, worked_out}
use Rattle.bounds.specs.Bounds.{Meaning, LowerBound, AtMost, smaller}
use Rattle.search.specs.Search.{Node, Plan, Planner, fresh, free, joined, after, waiting, cuts, better, moved_to, settled, raised_to, plan_delay, bound_at, examined, walked, least_over, shown, searched}
use Rattle.search.specs.Sound.{PlanSound, OnShow, Unbeaten, Sound}
use Rattle.search.proofs.Nodes.{Any, AnyAfter, Armed, after_covers, still_waits, other_waits, size_is, waiting_armed, any_weaker, joined_none, length_joined, joined_small, joined_full, joined_held, branched}
use Rattle.search.proofs.Placed.{Placed, fresh_placed, onward, downward, shown_placed, whole}

-- the plan, a cut and a full node
pub unbeaten_by_cut : (o : Option ℤ) (p : Option Plan) (d : ℕ) → cuts o p ≡ true → AtMost o d → Unbeaten p d
unbeaten_by_cut None p d e h = absurd h
unbeaten_by_cut (Some z) None d e h = absurd (false≢true e)
unbeaten_by_cut (Some z) (Some p) d e h = grind (arith, ints)

pub better_keeps : (s : Selection) (n : ℕ) (o : Option (List ℕ)) (p : Option Plan) (d : ℕ) → Unbeaten p d → Unbeaten (better s n o p) d
better_keeps s n None p d h = h
better_keeps s n (Some ts) None d h = absurd h
better_keeps s n (Some ts) (Some p) d h =
    cond_both (lt_z (pos (get_or ts n 0)) p.delay) (Some (record { arms = s; delay = pos (get_or ts n 0) })) (Some p) (λ q. Unbeaten q d) (λ e. grind (arith, ints)) (λ e. h)

-- bounds on show
pub smaller_left : (x y : Option ℤ) (d : ℕ) → AtMost x d → AtMost (smaller x y) d
smaller_left None y d h = absurd h
smaller_left (Some x) None d h = h
smaller_left (Some x) (Some y) d h = omega (arith, ints, clamps)

pub smaller_right : (x y : Option ℤ) (d : ℕ) → AtMost y d → AtMost (smaller x y) d
smaller_right None y d h = h
smaller_right (Some x) None d h = absurd h
smaller_right (Some x) (Some y) d h = omega (arith, ints, clamps)

pub settled_sound : (p : Option Plan) (z : ℤ) (d : ℕ) → Unbeaten p d → settled p z ≤ℤ pos d
settled_sound None z d h = absurd h
settled_sound (Some p) z d h = omega (arith, ints)

pub raised_sound : (o : Option ℤ) (z : ℤ) (d : ℕ) → AtMost o d → z ≤ℤ pos d → raised_to o z ≤ℤ pos d
raised_sound None z d h k = k
raised_sound (Some y) z d h k = omega (arith, ints, clamps)

pub plan_delay_sound : (p : Option Plan) (d : ℕ) → Unbeaten p d → AtMost (plan_delay p) d
plan_delay_sound None d h = h
plan_delay_sound (Some p) d h = omega (arith, ints)

module _ (c : Case) (r : Ranking) (m : Meaning) (hs : Selection) (d : ℕ) where
  least_start : (xs : List Node) (b : Option ℤ) → AtMost b d → AtMost (least_over c r m hs xs b) d
  least_start [] b h = h
  least_start (x ∷ xs) b h = least_start xs (smaller b (bound_at c r m hs x)) (smaller_left b (bound_at c r m hs x) d h)

  least_any : (xs : List Node) (b : Option ℤ) → Any (λ y. AtMost (bound_at c r m hs y) d) xs → AtMost (least_over c r m hs xs b) d
  least_any [] b h = absurd h
  least_any (x ∷ xs) b (inl h) = least_start xs (smaller b (bound_at c r m hs x)) (smaller_right b (bound_at c r m hs x) d h)
  least_any (x ∷ xs) b (inr h) = least_any xs (smaller b (bound_at c r m hs x)) h

-- what is still to be looked at of the timetables that keep the holds
abbrev pub Cover : Case → Ranking → Bool → Option Plan → Selection → Node → Timetable → Type 0
Cover c r true p hs x t = Unbeaten p (delay c t)
Cover c r false p hs x t = Unbeaten p (delay c t) ⊎ Any (λ y. KeepsArms r c (joined hs y) t) (x ∷ waiting x)

pub record Inv (c : Case) (r : Ranking) (w : Planner) : Type 0 where
  pub selection : IsSelection c w.holds
  pub placed : Placed w
  pub plan : OnShow c r w.holds w.plan
  pub lower : (t : Timetable) → KeepsCase r c t → KeepsArms r c w.holds t → w.lower ≤ℤ pos (delay c t)
  pub cover : (t : Timetable) → KeepsCase r c t → KeepsArms r c w.holds t → Cover c r w.finished w.plan w.holds w.next t

pub joined_selection : (c : Case) (hs : Selection) (x : Node) → IsSelection c hs → Armed x → IsSelection c (joined hs x)
joined_selection c hs x s m = record { one_each = length_joined hs x ∙ s.one_each; arms = joined_small hs x s.arms m }

pub fresh_keeps : (c : Case) (r : Ranking) (hs : Selection) → IsSelection c hs → Inv c r (fresh hs)
fresh_keeps c r hs s =
    record {
      selection = s;
      placed = fresh_placed hs;
      plan = tt;
      lower = λ t k a. omega (arith, ints);
      cover = λ t k a. inr (inl (subst (λ s'. KeepsArms r c s' t) (sym (joined_none hs)) a));
    }

-- a Planner that has examined a node
pub moved_keeps : (c : Case) (r : Ranking) (w : Planner) (p : Option Plan) (o : Option Node) → Inv c r w → Placed (moved_to w p o) → OnShow c r w.holds p → ((t : Timetable) → KeepsCase r c t → KeepsArms r c w.holds t → Unbeaten p (delay c t) ⊎ AnyAfter (λ y. KeepsArms r c (joined w.holds y) t) o) → Inv c r (moved_to w p o)
moved_keeps c r w p None i m s f =
    record {
      selection = i.selection;
      placed = m;
      plan = s;
      lower = i.lower;
      cover = λ t k a. elim (f t k a) [ inl h ↦ h | inr h ↦ absurd h ];
    }
moved_keeps c r w p (Some x) i m s f =
    record {
      selection = i.selection;
      placed = m;
      plan = s;
      lower = i.lower;
      cover = f;
    }

module _ (c : Case) (r : Ranking) where
  planned : (hs : Selection) (x : Node) (ts : List ℕ) → IsSelection c hs → Armed x → free hs ≤ length x → Least r c (joined hs x) (time_of ts) → PlanSound c r hs (record { arms = joined hs x; delay = pos (get_or ts c.end 0) })
  planned hs x ts s m l a =
      record {
        one_each = length_joined hs x ∙ s.one_each;
        one_arm = λ i k. All-get_or (λ b. (b ≡ 1) ⊎ (b ≡ 2)) (joined hs x) i 0 (omega (arith, length_joined hs x, s.one_each)) (joined_full hs x s.arms m l);
        keeps_held_arm = λ i k n. joined_held hs x i n;
        timed = (time_of ts, a, refl);
        no_cycle = no_cycle r c (joined hs x) (time_of ts) a.starts a.keeps;
      }

  pub better_shown : (hs : Selection) (x : Node) (o : Option (List ℕ)) (p : Option Plan) → IsSelection c hs → Armed x → free hs ≤ length x → AreLeast r c (joined hs x) o → OnShow c r hs p → OnShow c r hs (better (joined hs x) c.end o p)
  better_shown hs x None p s m l a h = h
  better_shown hs x (Some ts) None s m l a h = planned hs x ts s m l a.1
  better_shown hs x (Some ts) (Some p) s m l a h =
      cond_both (lt_z (pos (get_or ts c.end 0)) p.delay) (Some (record { arms = joined hs x; delay = pos (get_or ts c.end 0) })) (Some p) (λ q. OnShow c r hs q) (λ e. planned hs x ts s m l a.1) (λ e. h)

  pub better_beats : (s : Selection) (o : Option (List ℕ)) (p : Option Plan) (t : Timetable) → AreLeast r c s o → t 0 ≡ 0 → AllByRecursion (Keeps r t) (arcs c s) → Unbeaten (better s c.end o p) (delay c t)
  better_beats s None p t a z k = absurd (a t z k)
  better_beats s (Some ts) None t a z k = let h : get_or ts c.end 0 ≤ t c.end = a.1.least t z k c.end (omega arith) in omega (arith, ints, h)
  better_beats s (Some ts) (Some p) t a z k =
      let h : get_or ts c.end 0 ≤ t c.end = a.1.least t z k c.end (omega arith) in
      cond_both (lt_z (pos (get_or ts c.end 0)) p.delay) (Some (record { arms = s; delay = pos (get_or ts c.end 0) })) (Some p) (λ q. Unbeaten q (delay c t)) (λ e. omega (arith, ints, h)) (λ e. grind (arith, ints, h))

-- no answer of a lower bound is too large, and least times are worked out
pub record Bounding (c : Case) (r : Ranking) (m : Meaning) : Type 0 where
  pub bounded : (s : Selection) → IsSelection c s → (t : Timetable) → KeepsCase r c t → KeepsArms r c s t → AtMost (m c s r) (delay c t)
  pub worked : (s : Selection) → AreLeast r c s (least_times r c s)

pub bounding : (c : Case) (r : Ranking) (m : Meaning) → Within c → IsRanking r → LowerBound m → Bounding c r m
bounding c r m within ranked lower = record { bounded = λ s i. lower c s r within i ranked; worked = λ s. worked_out r c s within }

module _ (c : Case) (r : Ranking) (m : Meaning) (given : Bounding c r m) where
  -- while not finished
  open_cover : (w : Planner) → w.finished ≡ false → Inv c r w → (t : Timetable) → KeepsCase r c t → KeepsArms r c w.holds t → Unbeaten w.plan (delay c t) ⊎ Any (λ y. KeepsArms r c (joined w.holds y) t) (w.next ∷ waiting w.next)
  open_cover w e i t k a = subst (λ f. Cover c r f w.plan w.holds w.next t) e (i.cover t k a)

  cut_keeps : (w : Planner) → w.finished ≡ false → Inv c r w → cuts (bound_at c r m w.holds w.next) w.plan ≡ true → Inv c r (moved_to w w.plan (after w.next))
  cut_keeps w e i b =
      moved_keeps c r w w.plan (after w.next) i (onward w w.plan e i.placed) i.plan
      (λ t k a.
      elim (open_cover w e i t k a) [
        | inl u ↦ inl u
        | inr (inl h) ↦ inl (unbeaten_by_cut (bound_at c r m w.holds w.next) w.plan (delay c t) b (given.bounded (joined w.holds w.next) (joined_selection c w.holds w.next i.selection i.placed.armed) t k h))
        | inr (inr h) ↦ inr (after_covers w.next (λ y. KeepsArms r c (joined w.holds y) t) h)
      ])

  branch_keeps : (w : Planner) → w.finished ≡ false → Inv c r w → length w.next < free w.holds → Inv c r (moved_to w w.plan (Some (w.next ++ (1 ∷ []))))
  branch_keeps w e i l =
      moved_keeps c r w w.plan (Some (w.next ++ (1 ∷ []))) i
      (downward w e i.placed l) i.plan
      (λ t k a.
      elim (open_cover w e i t k a) [
        | inl u ↦ inl u
        | inr (inl h) ↦ inr (elim (branched (Keeps r t) c.pairs w.holds w.next i.selection.one_each l k.keeps_arm h) [ inl g ↦ inl g | inr g ↦ inr (other_waits w.next (λ y. KeepsArms r c (joined w.holds y) t) g) ])
        | inr (inr h) ↦ inr (inr (still_waits w.next (λ y. KeepsArms r c (joined w.holds y) t) h))
      ])

  full_keeps : (w : Planner) → w.finished ≡ false → Inv c r w → free w.holds ≤ length w.next → Inv c r (moved_to w (better (joined w.holds w.next) c.end (least_times r c (joined w.holds w.next)) w.plan) (after w.next))
  full_keeps w e i l =
      moved_keeps c r w (better (joined w.holds w.next) c.end (least_times r c (joined w.holds w.next)) w.plan) (after w.next) i (onward w (better (joined w.holds w.next) c.end (least_times r c (joined w.holds w.next)) w.plan) e i.placed)
      (better_shown c r w.holds w.next (least_times r c (joined w.holds w.next)) w.plan i.selection i.placed.armed l (given.worked (joined w.holds w.next)) i.plan)
      (λ t k a.
      elim (open_cover w e i t k a) [
        | inl u ↦ inl (better_keeps (joined w.holds w.next) c.end (least_times r c (joined w.holds w.next)) w.plan (delay c t) u)
        | inr (inl h) ↦ inl (better_beats c r (joined w.holds w.next) (least_times r c (joined w.holds w.next)) w.plan t (given.worked (joined w.holds w.next)) k.starts (All-append (Keeps r t) c.fixed (selected (joined w.holds w.next) c.pairs) k.keeps_fixed h))
        | inr (inr h) ↦ inr (after_covers w.next (λ y. KeepsArms r c (joined w.holds y) t) h)
      ])

  pub examined_keeps : (w : Planner) → w.finished ≡ false → Inv c r w → Inv c r (examined c r m w)
  examined_keeps w e i =
      cond_both (cuts (bound_at c r m w.holds w.next) w.plan) _ _ (λ v. Inv c r v)
      (λ b. cut_keeps w e i b)
      (λ b. cond_both (ltb (length w.next) (free w.holds)) _ _ (λ v. Inv c r v)
      (λ l. branch_keeps w e i (ltb-true (length w.next) (free w.holds) l))
      (λ l. full_keeps w e i (ltb-false (length w.next) (free w.holds) l)))

  pub walked_keeps : (n : ℕ) (w : Planner) → Inv c r w → Inv c r (walked c r m n w)
  walked_keeps zero w i = i
  walked_keeps (suc n) w i = cond_both w.finished w (walked c r m n (examined c r m w)) (λ v. Inv c r v) (λ e. i) (λ e. walked_keeps n (examined c r m w) (examined_keeps w e i))

  open_lower : (w : Planner) → w.finished ≡ false → Inv c r w → (t : Timetable) → KeepsCase r c t → KeepsArms r c w.holds t → AtMost (least_over c r m w.holds (w.next ∷ waiting w.next) (plan_delay w.plan)) (delay c t)
  open_lower w e i t k a =
      elim (open_cover w e i t k a) [
        | inl u ↦ least_start c r m w.holds (delay c t) (w.next ∷ waiting w.next) (plan_delay w.plan) (plan_delay_sound w.plan (delay c t) u)
        | inr h ↦ least_any c r m w.holds (delay c t) (w.next ∷ waiting w.next) (plan_delay w.plan)
            (any_weaker Armed (λ y. KeepsArms r c (joined w.holds y) t) (λ y. AtMost (bound_at c r m w.holds y) (delay c t))
            (λ y g l. given.bounded (joined w.holds y) (joined_selection c w.holds y i.selection g) t k l)
            (w.next ∷ waiting w.next) (i.placed.armed, waiting_armed w.next i.placed.armed) h)
      ]

  shut_cover : (w : Planner) → w.finished ≡ true → Inv c r w → (t : Timetable) → KeepsCase r c t → KeepsArms r c w.holds t → Unbeaten w.plan (delay c t)
  shut_cover w e i t k a = subst (λ f. Cover c r f w.plan w.holds w.next t) e (i.cover t k a)

  pub shown_keeps : (w : Planner) → Inv c r w → Inv c r (shown c r m w)
  shown_keeps w i =
      record {
        selection = i.selection;
        placed = shown_placed c r m w i.placed;
        plan = i.plan;
        lower = λ t k a. cond_both w.finished (settled w.plan w.lower) (raised_to (least_over c r m w.holds (w.next ∷ waiting w.next) (plan_delay w.plan)) w.lower) (λ z. z ≤ℤ pos (delay c t))
            (λ e. settled_sound w.plan w.lower (delay c t) (shut_cover w e i t k a))
            (λ e. raised_sound (least_over c r m w.holds (w.next ∷ waiting w.next) (plan_delay w.plan)) w.lower (delay c t) (open_lower w e i t k a) (i.lower t k a));
        cover = i.cover;
      }

  pub searched_keeps : (n : ℕ) (w : Planner) → Inv c r w → Inv c r (searched c r m n w)
  searched_keeps n w i = shown_keeps (walked c r m n w) (walked_keeps n w i)

-- what a planner keeps says that it is sound
pub sound_by_keeping : (c : Case) (r : Ranking) (w : Planner) → Inv c r w → Sound c r w
sound_by_keeping c r w i =
    record {
      plan = i.plan;
      lower = i.lower;
      best = λ e t k a. subst (λ f. Cover c r f w.plan w.holds w.next t) e (i.cover t k a);
      few = omega (arith, size_is (free w.holds), i.placed.few);
      whole = λ e. whole w i.placed (omega arith);
    }
