-- An arm as it is read from records.
use Rattle.std.proofs.Common.{◌≡◌, ℕ, ◌<◌, length, get_or, Option, sym, refl, ap, ◌∙◌}
use Rattle.std.specs.Option.{option_map}
use Rattle.std.proofs.lemmas.Option.{slice_get-map, slice_get_read}
use Rattle.graph.specs.Graph.{Arc}
use Rattle.graph.specs.Views.{pair_of, arm_of, arm_found, arm_at}
use Rattle.graph.specs.declared.arc.Arc.{Arc as ArcRecord}
use Rattle.graph.specs.declared.arc.Pair.{Pair as PairRecord}
use Rattle.sources.specs.Records.{listed_by}
use Rattle.sources.specs.declared.records.Records.{Records}

pub arm_read : {A P : Type 0} (arc : A → ArcRecord) (pair : P → PairRecord) (r : Records A P) (k a : ℕ) (p : P) (x : PairRecord) (o : Option Arc)
    → k < length r.pairs.now → p ≡ get_or r.pairs.now k p → x ≡ pair p → o ≡ arm_of a (pair_of x) → o ≡ arm_at (listed_by arc pair r).pairs k a
arm_read arc pair r k a p x o h i j l =
    let found = slice_get-map (λ b. pair_of (pair b)) r.pairs.now k ∙ ap (option_map (λ b. pair_of (pair b))) (slice_get_read r.pairs.now (length r.pairs.now) k p refl h i) in
    l ∙ (ap (λ y. arm_of a (pair_of y)) j ∙ ap (arm_found a) (sym found))
