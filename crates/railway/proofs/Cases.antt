-- The case of a railway that passes its check.
use Rattle.std.proofs.Common.{◌≡◌, ◌*◌, ◌≤◌, false, List, [], ◌∷◌, length, ap, arith}
use Rattle.std.proofs.lemmas.Bool.Decides.{nat_tests}
use Rattle.std.proofs.lemmas.List.{length-map, length-take}
use Rattle.std.specs.List.{list_any}
use Rattle.trains.specs.declared.train.Train.{Train}
use Rattle.trains.specs.declared.train.Step.{Step}
use Rattle.trains.specs.Railway.{trips, all_pairs, steps_of, train_breaks, timetable_case, railway_fault, railway_case}
use Rattle.graph.specs.Views.{pair_of}
use Rattle.graph.specs.declared.arc.Pair.{Pair as PairRecord}
use Rattle.railway.specs.declared.table.Table.{Table}
use Rattle.railway.specs.Sound.{pairs_fault}
use Rattle.railway.specs.Tables.{listed, pairs_in}

pub few_steps : (ts : List Train) → list_any train_breaks ts ≡ false → steps_of ts ≤ 16 * length ts
few_steps [] e = omega arith
few_steps (t ∷ ts) e = let h = few_steps ts in grind (arith, nat_tests)

pub read_case : (ts : List Train) (ss : List Step) (pairs : Table PairRecord 60) → railway_fault ts ss ≡ pairs_fault ts ss → pairs_in pairs ≡ all_pairs (trips 1 ts ss) → railway_case ts ss ≡ timetable_case ts ss
read_case ts ss pairs e listing =
    let few = pairs.few in
    let h : length (all_pairs (trips 1 ts ss)) ≤ 60 = omega (arith, ap length listing, length-map (listed pairs) pair_of, length-take pairs.len pairs.entries) in
    grind (arith, nat_tests)
