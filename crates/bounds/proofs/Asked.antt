-- What a bound that was asked has told, and what two that were asked one after the other have told together. Assumes nothing.
use Rattle.std.proofs.Common.{◌≡◌, ℕ, true, List, length, get_or, ℤ, pos, is_some, Some, None, Option, sym, refl, ap, ◌∙◌, subst, arith}
use Rattle.graph.specs.Graph.{Case, Within, Ranking, Selection, selection_of}
use Rattle.graph.specs.Times.{AreLeast, least_times}
use Rattle.graph.specs.Told.{times_or_zeros}
use Rattle.graph.specs.Views.{Shows}
use Rattle.graph.proofs.Raise.{worked_out}
use Rattle.graph.proofs.Shown.{shows_at}
use Rattle.bounds.specs.Bounds.{Meaning, end_of, longest_path}
use Rattle.bounds.specs.Told.{RankIs, BoundTold}

-- the time read at the last event, where there are least times
pub longest_read : {V : Type 0} (rank : V → ℤ) (vs : List V) (r : Ranking) (c : Case) (s : Selection) (n : ℕ) (x : V) → Within c → true ≡ is_some (least_times r c s) → Shows rank vs (times_or_zeros c (least_times r c s)) → n ≡ c.end → x ≡ get_or vs n x
    → RankIs rank (Some x) (longest_path c s r)
longest_read rank vs r c s n x w b h e f = go (least_times r c s) (worked_out r c s w) b h
  where
    go : (o : Option (List ℕ)) → AreLeast r c s o → true ≡ is_some o → Shows rank vs (times_or_zeros c o) → RankIs rank (Some x) (end_of c.end o)
    go None l b h = let z : ◌≡◌ {A = ℕ} 0 1 = cc in absurd (omega arith)
    go (Some ts) l b h = shows_at rank vs ts n x h (omega (arith, l.0)) f ∙ ap (λ i. pos (get_or ts i 0)) e

module _ {V : Type 0} (rank : V → ℤ) (r : Ranking) (c : Case) where
  -- from where a call has left things, its answer stands
  pub asked_still : (m : Meaning) (arms arms₁ : List ℕ) (before mid : List V) (found : Option V) → length mid ≡ length before → BoundTold rank r c m arms arms₁ before mid found → BoundTold rank r c m arms₁ arms₁ mid mid found
  asked_still m arms arms₁ before mid found n k = record {
    answer = λ h. subst (λ (z : List ℕ). RankIs rank found (m c (selection_of c.pairs z) r)) (sym k.same) (k.answer (omega arith));
    same = refl;
    behind = refl;
    short = λ h. ((k.short (omega arith)).0, refl);
  }

  -- the second of two calls, from where the first began
  pub asked_after : (m k : Meaning) (arms arms₁ arms₂ : List ℕ) (before mid after : List V) (one other : Option V) → length mid ≡ length before
      → BoundTold rank r c m arms arms₁ before mid one → BoundTold rank r c k arms₁ arms₂ mid after other → BoundTold rank r c k arms arms₂ before after other
  asked_after m k arms arms₁ arms₂ before mid after one other n f s = record {
    answer = λ h. subst (λ (z : List ℕ). RankIs rank other (k c (selection_of c.pairs z) r)) f.same (s.answer (omega arith));
    same = s.same ∙ f.same;
    behind = s.behind ∙ f.behind;
    short = λ h. let e = s.short (omega arith) in (e.0, e.1 ∙ (f.short h).1);
  }

  -- two calls, and their answers taken together by an operation that leaves rank 0 as it is
  pub asked_both : (op : Option ℤ → Option ℤ → Option ℤ) → op (Some (pos 0)) (Some (pos 0)) ≡ Some (pos 0)
      → (m k : Meaning) (arms arms₁ arms₂ : List ℕ) (before mid after : List V) (one other found : Option V) → length mid ≡ length before
      → ((x y : Option ℤ) → RankIs rank one x → RankIs rank other y → RankIs rank found (op x y))
      → BoundTold rank r c m arms arms₁ before mid one → BoundTold rank r c k arms₁ arms₂ mid after other → BoundTold rank r c (λ c s r. op (m c s r) (k c s r)) arms arms₂ before after found
  asked_both op zeros m k arms arms₁ arms₂ before mid after one other found n up f s =
      let s' = asked_after m k arms arms₁ arms₂ before mid after one other n f s in
      record {
        answer = λ h. up (m c (selection_of c.pairs arms) r) (k c (selection_of c.pairs arms) r) (f.answer h) (s'.answer h);
        same = s'.same;
        behind = s'.behind;
        short = λ h. (subst (RankIs rank found) zeros (up (Some (pos 0)) (Some (pos 0)) (f.short h).0 (s'.short h).0), (s'.short h).1);
      }
