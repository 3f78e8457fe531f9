-- A vector whose elements a call has written. Assumes nothing.
use Rattle.std.proofs.Common.{◌≡◌, ℕ, ◌+◌, Bool, true, false, List, length, drop, ℤ, is_some, Some, None, Ok, vec_items, vec_len, Option, Result, Vec, sym, subst, arith}
use Rattle.std.specs.Vec.{with_items}
use Rattle.std.specs.Bool.{then_some}
use Rattle.std.specs.declared.alloc.Global.{Global}
use Rattle.std.proofs.lemmas.List.{take_at}
use Rattle.graph.specs.Graph.{Case, Ranking, Selection}
use Rattle.graph.specs.Times.{TimesMean}
use Rattle.graph.specs.Told.{times_or_zeros}
use Rattle.graph.specs.Views.{Shows}
use Rattle.graph.specs.declared.times.TooFewPlaces.{TooFewPlaces}
use Rattle.session.specs.Open.{TimesFound}

pub filled : {V : Type 0} (v : Vec V Global) (ws : List V) → length ws ≡ vec_len v → vec_items (with_items v ws) ≡ ws
filled v ws e = take_at ws (drop (length ws) (vec_items v)) (vec_len v) e

-- what a call for times answers, with a place for each event
module _ {V : Type 0} (rank : V → ℤ) (r : Ranking) (c : Case) (s : Selection) where
  pub times_found : (b : Bool) (o : Option (List ℕ)) → TimesMean r c s o → (v : Vec V Global) (ws : List V) → ◌≡◌ {A = Result Bool TooFewPlaces} (Ok b) (Ok (is_some o)) → vec_len v ≡ c.end + 1 → length ws ≡ vec_len v → Shows rank ws (times_or_zeros c o)
      → TimesFound rank o (then_some b (with_items v ws))
  times_found true (Some ts) m v ws e l k q = (omega (arith, m.one_each), subst (λ (xs : List V). Shows rank xs ts) (sym (filled v ws k)) q)
  times_found true None m v ws e l k q = cc e
  times_found false (Some ts) m v ws e l k q = cc e
  times_found false None m v ws e l k q = tt
