-- Where a planner stands in the tree, whatever the bound.
use Rattle.std.proofs.Common.{◌≡◌, ℕ, zero, suc, ◌+◌, ◌-◌, ◌^◌, ◌<◌, ◌≤◌, true, false, ltb, ◌⊎◌, [], ◌∷◌, ◌++◌, length, Some, None, Option, refl, subst, inl, inr, arith}
use Rattle.std.proofs.ByRecursion.{All-push}
use Rattle.std.proofs.lemmas.List.{length_push}
use Rattle.std.proofs.lemmas.Bool.{cond_both, ltb-true}
use Rattle.graph.specs.Graph.{Case, Ranking, Selection}
use Rattle.graph.specs.Times.{least_times}
use Rattle.bounds.specs.Bounds.{Meaning}
use Rattle.search.specs.Search.{Node, Plan, Planner, fresh, free, joined, after, cuts, better, moved_to, bound_at, examined, walked, shown, searched}
use Rattle.search.specs.Room.{size, room, room_after, left}
use Rattle.search.proofs.Nodes.{Armed, Proper, size_is, room_none, room_some, room_after_lem, room_branch, proper_after}
use Rattle.search.proofs.Progress.{walked_holds, searched_goes_on}

-- where a planner stands in the tree, whatever the bound
pub record Placed (w : Planner) : Type 0 where
  pub armed : Armed w.next
  pub short : length w.next ≤ free w.holds
  pub few : w.count + left w.finished (room (free w.holds) w.next) ≤ size (free w.holds)

pub fresh_placed : (hs : Selection) → Placed (fresh hs)
fresh_placed hs = record { armed = tt; short = omega arith; few = omega (arith, room_none (free hs)) }

moved_placed : (w : Planner) (p : Option Plan) (o : Option Node) → Proper (free w.holds) o → w.count + 1 + room_after (free w.holds) o ≤ size (free w.holds) → Placed (moved_to w p o)
moved_placed w p None m l = record { armed = tt; short = omega arith; few = l }
moved_placed w p (Some x) m l = record { armed = m.0; short = m.1; few = l }

open_room : (w : Planner) → w.finished ≡ false → Placed w → w.count + room (free w.holds) w.next ≤ size (free w.holds)
open_room w e i = subst (λ f. w.count + left f (room (free w.holds) w.next) ≤ size (free w.holds)) e i.few

-- at the size of the tree a planner has finished
pub whole : (w : Planner) → Placed w → 2 ^ (free w.holds + 1) - 1 ≤ w.count → w.finished ≡ true
whole w i h =
    (elim w.finished as (λ f. w.count + left f (room (free w.holds) w.next) ≤ size (free w.holds) → f ≡ true)
    [ true ↦ λ l. refl | false ↦ λ l. absurd (omega (arith, size_is (free w.holds), room_some (free w.holds) w.next i.short)) ]) i.few

pub onward : (w : Planner) (p : Option Plan) → w.finished ≡ false → Placed w → Placed (moved_to w p (after w.next))
onward w p e i = moved_placed w p (after w.next) (proper_after (free w.holds) w.next i.armed i.short) (omega (arith, open_room w e i, room_after_lem (free w.holds) w.next i.short))

pub downward : (w : Planner) → w.finished ≡ false → Placed w → length w.next < free w.holds → Placed (moved_to w w.plan (Some (w.next ++ (1 ∷ []))))
downward w e i l =
    moved_placed w w.plan (Some (w.next ++ (1 ∷ []))) (All-push (λ a. (a ≡ 1) ⊎ (a ≡ 2)) w.next 1 i.armed (inl refl), omega (arith, length_push w.next 1))
    (omega (arith, open_room w e i, room_branch (free w.holds) w.next l))

module _ (c : Case) (r : Ranking) (m : Meaning) where
  examined_placed : (w : Planner) → w.finished ≡ false → Placed w → Placed (examined c r m w)
  examined_placed w e i =
      cond_both (cuts (bound_at c r m w.holds w.next) w.plan) _ _ (λ v. Placed v)
      (λ b. onward w w.plan e i)
      (λ b. cond_both (ltb (length w.next) (free w.holds)) _ _ (λ v. Placed v)
      (λ l. downward w e i (ltb-true (length w.next) (free w.holds) l))
      (λ l. onward w (better (joined w.holds w.next) c.end (least_times r c (joined w.holds w.next)) w.plan) e i))

  walked_placed : (k : ℕ) (w : Planner) → Placed w → Placed (walked c r m k w)
  walked_placed zero w i = i
  walked_placed (suc k) w i = cond_both w.finished w (walked c r m k (examined c r m w)) (λ v. Placed v) (λ e. i) (λ e. walked_placed k (examined c r m w) (examined_placed w e i))

  pub shown_placed : (w : Planner) → Placed w → Placed (shown c r m w)
  shown_placed w i = record { armed = i.armed; short = i.short; few = i.few }

  pub searched_placed : (k : ℕ) (w : Planner) → Placed w → Placed (searched c r m k w)
  searched_placed k w i = shown_placed (walked c r m k w) (walked_placed k w i)

  pub enough : (k : ℕ) (w : Planner) → Placed w → 2 ^ (free w.holds + 1) - 1 ≤ w.count + k → (searched c r m k w).finished ≡ true
  enough k w i l =
      elim (searched_goes_on c r m k w) [
        | inl h ↦ h
        | inr h ↦ whole (walked c r m k w) (walked_placed k w i) (rw (walked_holds c r m k w) (omega (arith, h)))
      ]
