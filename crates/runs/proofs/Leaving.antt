-- The times that calls leave.
use Rattle.std.proofs.Common.{◌≡◌, ℕ, ◌+◌, ◌<◌, List, [], ◌∷◌, ◌++◌, length, get_or, take, drop, ℤ, Some, None, Option, sym, refl, ap, ◌∙◌, subst}
use Rattle.std.proofs.lemmas.List.{map_more}
use Rattle.graph.specs.Faults.{Fault}
use Rattle.graph.specs.Graph.{Case, Ranking}
use Rattle.bounds.specs.Bounds.{Meaning}
use Rattle.search.specs.Search as Search
use Rattle.search.specs.Search.{opened}
use Rattle.search.specs.Sound.{Call, to_hold, to_release, to_search, refusal, unless_refused, called, called_all, reached}
use Rattle.planner.specs.View.{view}
use Rattle.runs.specs.Requests.{call_of, calls_of}
use Rattle.runs.specs.Left.{shown_taken, last_shown, TimesLeft}
use Rattle.runs.specs.declared.requests.Request.{Request}
use Rattle.planner.specs.declared.calls.Planner.{Planner}
use Rattle.runs.proofs.Replaying.{Replayed}

module _ {V : Type 0} (rank : V → ℤ) (c : Case) (r : Ranking) (m : Meaning) where
  shown_push : (o : Option (List ℕ)) (w : Search.Planner) (xs : List Call) (x : Call) → last_shown c r m o w (xs ++ (x ∷ [])) ≡ unless_refused (last_shown c r m o w xs) (shown_taken c r m (last_shown c r m o w xs) (called_all c r m w xs) x) (refusal c (called_all c r m w xs) x)
  shown_push o w [] x = refl
  shown_push o w (y ∷ xs) x = shown_push (unless_refused o (shown_taken c r m o w y) (refusal c w y)) (called c r m w y) xs x

  left_behind : (o : Option (List ℕ)) (times times' : List V) → TimesLeft rank c o times times' → drop (c.end + 1) times' ≡ drop (c.end + 1) times
  left_behind None times times' h = ap (drop (c.end + 1)) h
  left_behind (Some ts) times times' h = h.1

  left_as : (o : Option (List ℕ)) (times mid times' : List V) → TimesLeft rank c o times mid → times' ≡ mid → TimesLeft rank c o times times'
  left_as o times mid times' h e = subst (λ (l : List V). TimesLeft rank c o times l) (sym e) h

  left_then : (f : Option Fault) (o : Option (List ℕ)) (w : Search.Planner) (x : Call) (times mid times' : List V) → TimesLeft rank c o times mid → TimesLeft rank c (unless_refused None (shown_taken c r m None w x) f) mid times' → TimesLeft rank c (unless_refused o (shown_taken c r m o w x) f) times times'
  left_then (Some f) o w x times mid times' h k = left_as o times mid times' h k
  left_then None o w (to_hold i a) times mid times' h k = left_as o times mid times' h k
  left_then None o w (to_release i) times mid times' h k = left_as o times mid times' h k
  left_then None o w (to_search j n) times mid times' h k = (k.0, k.1 ∙ left_behind o times mid h)

  pub left_more : (xs : List Call) (x : Call) (times mid times' : List V) → TimesLeft rank c (last_shown c r m None (opened c) xs) times mid → TimesLeft rank c (last_shown c r m None (reached c r m xs) (x ∷ [])) mid times' → TimesLeft rank c (last_shown c r m None (opened c) (xs ++ (x ∷ []))) times times'
  left_more xs x times mid times' h k =
      subst (λ (o : Option (List ℕ)). TimesLeft rank c o times times') (sym (shown_push None (opened c) xs x)) (left_then (refusal c (reached c r m xs) x) (last_shown c r m None (opened c) xs) (reached c r m xs) x times mid times' h k)

module _ {S V B : Type 0} (means : S → Case) (rank : V → ℤ) (r : Ranking) (meaning : B → Meaning) (s : S) (b : B) where
  pub left_step : (qs : List Request) (i n k : ℕ) (d : Request) (p : Planner S V B) (times mid times' : List V) → i < length qs → k ≡ n → Replayed means rank r meaning s b (calls_of n (take i qs)) p
      → TimesLeft rank (means p.source) (last_shown (means p.source) r (meaning p.bound) None (view means rank p) (call_of k (get_or qs i d) ∷ [])) mid times'
      → TimesLeft rank (means s) (last_shown (means s) r (meaning b) None (opened (means s)) (calls_of n (take i qs))) times mid
      → TimesLeft rank (means s) (last_shown (means s) r (meaning b) None (opened (means s)) (calls_of n (take (i + 1) qs))) times times'
  left_step qs i n k d p times mid times' l e h m o =
      let x = call_of n (get_or qs i d) in
      let xs = calls_of n (take i qs) in
      let m₁ : TimesLeft rank (means p.source) (last_shown (means p.source) r (meaning p.bound) None (view means rank p) (x ∷ [])) mid times' =
      subst (λ (j : ℕ). TimesLeft rank (means p.source) (last_shown (means p.source) r (meaning p.bound) None (view means rank p) (call_of j (get_or qs i d) ∷ [])) mid times') e m in
      let m₂ : TimesLeft rank (means s) (last_shown (means s) r (meaning p.bound) None (view means rank p) (x ∷ [])) mid times' =
      subst (λ (u : S). TimesLeft rank (means u) (last_shown (means u) r (meaning p.bound) None (view means rank p) (x ∷ [])) mid times') h.source m₁ in
      let m₃ : TimesLeft rank (means s) (last_shown (means s) r (meaning b) None (view means rank p) (x ∷ [])) mid times' =
      subst (λ (u : B). TimesLeft rank (means s) (last_shown (means s) r (meaning u) None (view means rank p) (x ∷ [])) mid times') h.bound m₂ in
      let m₄ : TimesLeft rank (means s) (last_shown (means s) r (meaning b) None (reached (means s) r (meaning b) xs) (x ∷ [])) mid times' =
      subst (λ (u : Search.Planner). TimesLeft rank (means s) (last_shown (means s) r (meaning b) None u (x ∷ [])) mid times') h.state m₃ in
      subst (λ (ys : List Call). TimesLeft rank (means s) (last_shown (means s) r (meaning b) None (opened (means s)) ys) times times') (sym (map_more (call_of n) qs i d l)) (left_more rank (means s) r (meaning b) xs x times mid times' o m₄)
