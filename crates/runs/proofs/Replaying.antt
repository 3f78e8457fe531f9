-- Requests, one after another.
use Rattle.std.proofs.Common.{◌≡◌, ℕ, ◌+◌, ◌<◌, ◌≤◌, List, [], ◌∷◌, ◌++◌, length, get_or, take, ℤ, Option, sym, ap, ◌∙◌, subst}
use Rattle.std.proofs.lemmas.List.{map_more, take_all}
use Rattle.graph.specs.Faults.{Fault}
use Rattle.graph.specs.Graph.{Case, Ranking, IsRanking, Within}
use Rattle.bounds.specs.Bounds.{Meaning, LowerBound}
use Rattle.search.specs.Search as Search
use Rattle.search.specs.Search.{opened}
use Rattle.search.specs.Sound.{Call, called, called_all, Lawful}
use Rattle.search.proofs.Lawful.{always_sound}
use Rattle.planner.specs.View.{view, Made}
use Rattle.planner.specs.declared.calls.Planner.{Planner}
use Rattle.planner.proofs.Making.{called_push}
use Rattle.runs.specs.Requests.{call_of, calls_of}
use Rattle.runs.specs.declared.requests.Request.{Request}

-- the planner q after a list of requests from the opening
pub record Replayed {S V B : Type 0} (means : S → Case) (rank : V → ℤ) (r : Ranking) (meaning : B → Meaning) (s : S) (b : B) (xs : List Call) (q : Planner S V B) : Type 0 where
  pub state : view means rank q ≡ called_all (means s) r (meaning b) (opened (means s)) xs
  pub source : q.source ≡ s
  pub bound : q.bound ≡ b

module _ {S V B : Type 0} (means : S → Case) (rank : V → ℤ) (r : Ranking) (meaning : B → Meaning) (s : S) (b : B) where
  pub replayed_more : (xs : List Call) (x : Call) (o : Option Fault) (p q : Planner S V B) → Made means rank r meaning p q x o → Replayed means rank r meaning s b xs p → Replayed means rank r meaning s b (xs ++ (x ∷ [])) q
  replayed_more xs x o p q d h = record {
    state = d.state
        ∙ ap (λ (u : S). called (means u) r (meaning p.bound) (view means rank p) x) h.source
        ∙ ap (λ (u : B). called (means s) r (meaning u) (view means rank p) x) h.bound
        ∙ ap (λ (w : Search.Planner). called (means s) r (meaning b) w x) h.state
        ∙ sym (called_push (means s) r (meaning b) (opened (means s)) xs x);
    source = d.source ∙ h.source;
    bound = d.bound ∙ h.bound;
  }

  pub replayed_as : (xs ys : List Call) (q : Planner S V B) → xs ≡ ys → Replayed means rank r meaning s b xs q → Replayed means rank r meaning s b ys q
  replayed_as xs ys q e h = subst (λ (zs : List Call). Replayed means rank r meaning s b zs q) e h

  pub replayed_lawful : (xs : List Call) (q : Planner S V B) → Within (means s) → IsRanking r → LowerBound (meaning b) → Replayed means rank r meaning s b xs q → Lawful (means s) r (meaning b) xs (view means rank q)
  replayed_lawful xs q i k l h = subst (λ (w : Search.Planner). Lawful (means s) r (meaning b) xs w) (sym h.state) (always_sound (means s) r (meaning b) i k l xs)

  pub replayed_step : (qs : List Request) (i n k : ℕ) (d : Request) (o : Option Fault) (p q : Planner S V B) → i < length qs → k ≡ n → Made means rank r meaning p q (call_of k (get_or qs i d)) o → Replayed means rank r meaning s b (calls_of n (take i qs)) p → Replayed means rank r meaning s b (calls_of n (take (i + 1) qs)) q
  replayed_step qs i n k d o p q l e m h =
      replayed_as (calls_of n (take i qs) ++ (call_of n (get_or qs i d) ∷ [])) (calls_of n (take (i + 1) qs)) q (sym (map_more (call_of n) qs i d l))
      (replayed_more (calls_of n (take i qs)) (call_of n (get_or qs i d)) o p q (subst (λ (j : ℕ). Made means rank r meaning p q (call_of j (get_or qs i d)) o) e m) h)

  pub replayed_all : (qs : List Request) (i n : ℕ) (u : S) (a : B) (q : Planner S V B) → length qs ≤ i → u ≡ s → a ≡ b → Replayed means rank r meaning u a (calls_of n (take i qs)) q → Replayed means rank r meaning s b (calls_of n qs) q
  replayed_all qs i n u a q l e f h =
      replayed_as (calls_of n (take i qs)) (calls_of n qs) q (ap (calls_of n) (take_all i qs l)) (subst (λ (v : S). Replayed means rank r meaning v b (calls_of n (take i qs)) q) e (subst (λ (v : B). Replayed means rank r meaning u v (calls_of n (take i qs)) q) f h))
