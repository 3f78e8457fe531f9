-- A table that is filled from the front of a list.
use Rattle.std.proofs.Common.{◌≡◌, ◌+◌, ◌<◌, List, ◌++◌, length, ap, arith}
use Rattle.std.proofs.lemmas.List.{length-append, length-map}
use Rattle.graph.specs.Graph.{Pair}
use Rattle.graph.specs.Views.{pair_of}
use Rattle.graph.specs.declared.arc.Pair.{Pair as PairRecord}
use Rattle.railway.specs.Tables.{listed, pairs_in}
use Rattle.railway.specs.declared.table.Table.{Table}

-- what is listed, with more than the table has room for, is the front of what was to be listed
pub too_many : (now was : Table PairRecord 60) (new left all : List Pair) → pairs_in now ++ (new ++ left) ≡ pairs_in was ++ all → 60 < length (listed now) + length new → 60 < length (listed was) + length all
too_many now was new left all e h =
    let l = ap length e in
    omega (arith, length-append (pairs_in now) (new ++ left), length-append new left, length-append (pairs_in was) all, length-map (listed now) pair_of, length-map (listed was) pair_of)
