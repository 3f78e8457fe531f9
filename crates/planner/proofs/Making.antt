-- Calls, one after another.
use Rattle.std.proofs.Common.{◌≡◌, ℕ, ◌<◌, ◌≤◌, true, false, not, ◌||◌, eqb, ltb, leb, ◌⊎◌, List, [], ◌∷◌, ◌++◌, length, get_or, take, ℤ, Some, None, Option, sym, refl, ap, ◌∙◌, subst, inl, inr, arith}
use Rattle.std.proofs.lemmas.List.{get_or-take}
use Rattle.std.proofs.lemmas.Bool.{cond-true, cond-false, le-leb, lt-leb, eq-eqb, ne_eqb, lt-ltb, le-ltb, or_left, or_right, or_from}
use Rattle.graph.specs.Faults.{Fault, fault}
use Rattle.graph.specs.Graph.{Case, Ranking, IsRanking, Within}
use Rattle.bounds.specs.Bounds.{Meaning, LowerBound}
use Rattle.search.specs.Search as Search
use Rattle.search.specs.Search.{opened, searched}
use Rattle.search.specs.Sound.{Call, to_hold, to_release, to_search, refusal, taken, unless_refused, called, called_all, reached, GoesOn, GetsOn, Lawful}
use Rattle.search.proofs.Lawful.{goes, gets, always_sound}
use Rattle.planner.specs.View.{view, Made, StaysLawful}
use Rattle.planner.specs.declared.calls.Planner.{Planner}

pub called_push : (c : Case) (r : Ranking) (m : Meaning) (w : Search.Planner) (xs : List Call) (x : Call) → called_all c r m w (xs ++ (x ∷ [])) ≡ called c r m (called_all c r m w xs) x
called_push c r m w [] x = refl
called_push c r m w (y ∷ xs) x = called_push c r m (called c r m w y) xs x

run_lawful : (c : Case) (r : Ranking) (m : Meaning) → Within c → IsRanking r → LowerBound m → (v w : Search.Planner) (x : Call) → w ≡ called c r m v x → (xs : List Call) → v ≡ reached c r m xs → Lawful c r m (xs ++ (x ∷ [])) w
run_lawful c r m i k b v w x e xs f =
    let p : w ≡ reached c r m (xs ++ (x ∷ [])) = e ∙ ap (λ (u : Search.Planner). called c r m u x) f ∙ sym (called_push c r m (opened c) xs x) in
    subst (λ (u : Search.Planner). Lawful c r m (xs ++ (x ∷ [])) u) (sym p) (always_sound c r m i k b (xs ++ (x ∷ [])))

-- a search that was taken makes progress
pub advanced : (c : Case) (r : Ranking) (m : Meaning) → Within c → IsRanking r → LowerBound m → (k : ℕ) (v w : Search.Planner) → w ≡ searched c r m k v → GoesOn v w k × ((xs : List Call) → v ≡ reached c r m xs → GetsOn v w k)
advanced c r m i q b k v w e = (
  subst (λ (u : Search.Planner). GoesOn v u k) (sym e) (goes c r m k v),
  λ xs f.
      subst (λ (u : Search.Planner). GetsOn v u k) (sym e) (subst (λ (u : Search.Planner). GetsOn u (searched c r m k u) k) (sym f) (gets c r m i q b xs k)),
)

untouched_none : {A : Type 0} (x y : A) (f : Fault) → ◌≡◌ {A = Option Fault} None (Some f) → x ≡ y
untouched_none x y f e = let z : ◌≡◌ {A = ℕ} 0 1 = cc in absurd (omega arith)

module _ {S V B : Type 0} (means : S → Case) (within : (s : S) → Within (means s)) (rank : V → ℤ) (r : Ranking) (ranked : IsRanking r) (meaning : B → Meaning) (lower : (b : B) → LowerBound (meaning b)) where
  lawful : (p q : Planner S V B) (x : Call) → view means rank q ≡ called (means p.source) r (meaning p.bound) (view means rank p) x → StaysLawful means rank r meaning p q x
  lawful p q x e xs f = run_lawful (means p.source) r (meaning p.bound) (within p.source) ranked (lower p.bound) (view means rank p) (view means rank q) x e xs f

  pub refused : (p : Planner S V B) (x : Call) (f : Fault) → refusal (means p.source) (view means rank p) x ≡ Some f → Made means rank r meaning p p x (Some f)
  refused p x f e =
      let s : view means rank p ≡ called (means p.source) r (meaning p.bound) (view means rank p) x =
      ap (λ (o : Option Fault). unless_refused (view means rank p) (taken (means p.source) r (meaning p.bound) (view means rank p) x) o) (sym e) in
      record { fault = sym e; state = s; source = refl; bound = refl; untouched = λ h k. refl; lawful = lawful p p x s }

  pub accepted : (p q : Planner S V B) (x : Call) → refusal (means p.source) (view means rank p) x ≡ None → view means rank q ≡ taken (means p.source) r (meaning p.bound) (view means rank p) x → q.source ≡ p.source → q.bound ≡ p.bound → Made means rank r meaning p q x None
  accepted p q x e t a b =
      let s : view means rank q ≡ called (means p.source) r (meaning p.bound) (view means rank p) x =
      t ∙ ap (λ (o : Option Fault). unless_refused (view means rank p) (taken (means p.source) r (meaning p.bound) (view means rank p) x) o) (sym e) in
      record { fault = sym e; state = s; source = a; bound = b; untouched = λ f h. untouched_none q p f h; lawful = lawful p q x s }

-- which fault is due
module _ (c : Case) (w : Search.Planner) (hs : List ℕ) (i : ℕ) (e : w.holds ≡ take (length c.pairs) hs) where
  held_there : i < length c.pairs → get_or w.holds i 0 ≡ get_or hs i 0
  held_there l = ap (λ (s : List ℕ). get_or s i 0) e ∙ get_or-take (length c.pairs) hs i 0 l

  pub hold_no_pair : (a : ℕ) → length c.pairs ≤ i → refusal c w (to_hold i a) ≡ fault 4 12 i
  hold_no_pair a l = cond-true (leb (length c.pairs) i) _ _ (le-leb (length c.pairs) i l)

  pub hold_no_arm : (a : ℕ) → i < length c.pairs → (a ≡ 1 → ⊥) → (a ≡ 2 → ⊥) → refusal c w (to_hold i a) ≡ fault 4 13 i
  hold_no_arm a l p q = simp (lt-leb (length c.pairs) i l, ne_eqb a 1 p, ne_eqb a 2 q)

  arm_known : (a : ℕ) → (a ≡ 1) ⊎ (a ≡ 2) → not (eqb a 1 || eqb a 2) ≡ false
  arm_known a (inl p) = simp (eq-eqb a 1 p)
  arm_known a (inr p) = ap not (or_right (eqb a 1) (eqb a 2) (eq-eqb a 2 p))

  pub hold_held : (a : ℕ) → i < length c.pairs → (a ≡ 1) ⊎ (a ≡ 2) → (get_or hs i 0 ≡ 0 → ⊥) → refusal c w (to_hold i a) ≡ fault 4 14 i
  hold_held a l p q = simp (lt-leb (length c.pairs) i l, arm_known a p, held_there l, ne_eqb (get_or hs i 0) 0 q)

  pub hold_taken : (a : ℕ) → i < length c.pairs → (a ≡ 1) ⊎ (a ≡ 2) → get_or hs i 0 ≡ 0 → refusal c w (to_hold i a) ≡ None
  hold_taken a l p q = simp (lt-leb (length c.pairs) i l, arm_known a p, held_there l, eq-eqb (get_or hs i 0) 0 q)

  pub release_no_pair : length c.pairs ≤ i → refusal c w (to_release i) ≡ fault 4 12 i
  release_no_pair l = cond-true (leb (length c.pairs) i) _ _ (le-leb (length c.pairs) i l)

  pub release_not_held : i < length c.pairs → get_or hs i 0 ≡ 0 → refusal c w (to_release i) ≡ fault 4 15 i
  release_not_held l q = simp (lt-leb (length c.pairs) i l, held_there l, eq-eqb (get_or hs i 0) 0 q)

  pub release_taken : i < length c.pairs → (get_or hs i 0 ≡ 0 → ⊥) → refusal c w (to_release i) ≡ None
  release_taken l q = simp (lt-leb (length c.pairs) i l, held_there l, ne_eqb (get_or hs i 0) 0 q)

module _ (c : Case) (w : Search.Planner) (k n : ℕ) where
  pub search_finished : w.finished ≡ true → refusal c w (to_search k n) ≡ fault 4 9 0
  search_finished e = cond-true w.finished _ _ e

  budget_refused : (k ≡ 0) ⊎ (1000000 < k) → (eqb k 0 || ltb 1000000 k) ≡ true
  budget_refused (inl e) = or_left (eqb k 0) (ltb 1000000 k) (eq-eqb k 0 e)
  budget_refused (inr e) = or_right (eqb k 0) (ltb 1000000 k) (lt-ltb 1000000 k e)

  pub search_budget : w.finished ≡ false → (k ≡ 0) ⊎ (1000000 < k) → refusal c w (to_search k n) ≡ fault 4 10 0
  search_budget e b = cond-false w.finished _ _ e ∙ cond-true (eqb k 0 || ltb 1000000 k) _ _ (budget_refused b)

  budget_taken : (k ≡ 0 → ⊥) → k ≤ 1000000 → (eqb k 0 || ltb 1000000 k) ≡ false
  budget_taken z b = or_from (eqb k 0) (ltb 1000000 k) (ne_eqb k 0 z) (le-ltb 1000000 k b)

  pub search_places : w.finished ≡ false → (k ≡ 0 → ⊥) → k ≤ 1000000 → n ≤ c.end → refusal c w (to_search k n) ≡ fault 4 11 n
  search_places e z b l = cond-false w.finished _ _ e ∙ cond-false (eqb k 0 || ltb 1000000 k) _ _ (budget_taken z b) ∙ cond-true (leb n c.end) _ _ (le-leb n c.end l)

  pub search_taken : w.finished ≡ false → (k ≡ 0 → ⊥) → k ≤ 1000000 → c.end < n → refusal c w (to_search k n) ≡ None
  search_taken e z b l = cond-false w.finished _ _ e ∙ cond-false (eqb k 0 || ltb 1000000 k) _ _ (budget_taken z b) ∙ cond-false (leb n c.end) _ _ (lt-leb n c.end l)
