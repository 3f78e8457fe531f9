-- One search over a message.
use Rattle.std.proofs.Common.{◌≡◌, ℕ, List, [], ◌∷◌, length, ℤ, None, Option, sym, ap, ◌∙◌, subst}
use Rattle.graph.specs.Faults.{Fault}
use Rattle.graph.specs.Graph.{Case, Ranking}
use Rattle.bounds.specs.Bounds.{Meaning, longest_path}
use Rattle.messages.specs.Message.{message_case, message_fault}
use Rattle.search.specs.Search as Search
use Rattle.search.specs.Search.{opened}
use Rattle.search.specs.Sound.{Call, to_search, refusal, unless_refused, taken, called, Lawful}
use Rattle.planner.specs.View.{view, Answer, Shown, Opened, Made}
use Rattle.runs.specs.Message.{searched_once, Planned}
use Rattle.planner.specs.declared.calls.Planner.{Planner}

module _ {S V B : Type 0} (means : S → Case) (rank : V → ℤ) (r : Ranking) (meaning : B → Meaning) (s : S) (b : B) (bs : List ℕ) (h : means s ≡ message_case bs) (l : meaning b ≡ longest_path) (p : Planner S V B) (o : Opened means rank s b p) where
  case_is : means p.source ≡ message_case bs
  case_is = ap means o.source ∙ h

  meaning_is : meaning p.bound ≡ longest_path
  meaning_is = ap meaning o.bound ∙ l

  state_is : view means rank p ≡ opened (message_case bs)
  state_is = o.state ∙ ap opened h

  opened_is : view means rank p ≡ opened (means p.source)
  opened_is = state_is ∙ ap opened (sym case_is)

  pub refusal_is : (x : Call) → refusal (means p.source) (view means rank p) x ≡ refusal (message_case bs) (opened (message_case bs)) x
  refusal_is x = ap (λ (c : Case). refusal c (view means rank p) x) case_is ∙ ap (λ (w : Search.Planner). refusal (message_case bs) w x) state_is

  module _ (k : ℕ) (times : List V) (q : Planner S V B) (m : Made means rank r meaning p q (to_search k (length times)) None) where
    none_due : refusal (message_case bs) (opened (message_case bs)) (to_search k (length times)) ≡ None
    none_due = sym (refusal_is (to_search k (length times))) ∙ sym m.fault

    led_to : view means rank q ≡ searched_once (message_case bs) r k
    led_to =
        m.state
        ∙ ap (λ (c : Case). called c r (meaning p.bound) (view means rank p) (to_search k (length times))) case_is
        ∙ ap (λ (n : Meaning). called (message_case bs) r n (view means rank p) (to_search k (length times))) meaning_is
        ∙ ap (λ (w : Search.Planner). called (message_case bs) r longest_path w (to_search k (length times))) state_is
        ∙ ap (λ (f : Option Fault). unless_refused (opened (message_case bs)) (taken (message_case bs) r longest_path (opened (message_case bs)) (to_search k (length times))) f) none_due

    pub planned : (times' : List V) (a : Answer) → message_fault bs ≡ None → Shown rank (means p.source) r (view means rank p) (view means rank q) times times' a → Planned rank r bs k times times' a
    planned times' a e d = record {
      accepted = e;
      taken = none_due;
      shown = subst (λ (w : Search.Planner). Shown rank (message_case bs) r (opened (message_case bs)) w times times' a) led_to
          (subst (λ (w : Search.Planner). Shown rank (message_case bs) r w (view means rank q) times times' a) state_is (subst (λ (c : Case). Shown rank c r (view means rank p) (view means rank q) times times' a) case_is d));
      lawful = subst (λ (w : Search.Planner). Lawful (message_case bs) r longest_path (to_search k (length times) ∷ []) w) led_to
          (subst (λ (n : Meaning). Lawful (message_case bs) r n (to_search k (length times) ∷ []) (view means rank q)) meaning_is
          (subst (λ (c : Case). Lawful c r (meaning p.bound) (to_search k (length times) ∷ []) (view means rank q)) case_is (m.lawful [] opened_is)));
    }
