-- A case as a message of bytes, big-endian. Assumes nothing.
use Rattle.std.specs.Prelude.{◌≡◌, ℕ, zero, suc, ◌+◌, ◌*◌, ◌/◌, ◌%◌, cond, not, ◌&&◌, ◌||◌, List, [], ◌∷◌, ◌++◌, length, pos, negsuc, Some, None, Option, ◌==◌, int_lt, nat_lt, slice_index, slice_index_or}
use Rattle.std.specs.Int.{w32}
use Rattle.std.proofs.Common.{to_z, of_z}
use Rattle.graph.specs.Faults.{Fault, fault, or_else}
use Rattle.graph.specs.Graph.{Arc, Pair, Case, Within, empty_case}

-- the first limit that an arc, with its number k, breaks
abbrev pub arc_fault : ℕ → ℕ → Arc → Option Fault
arc_fault n k a =
    cond (nat_lt n a.from || nat_lt n a.to) (fault 2 5 k)
    (cond (a.from == a.to) (fault 2 6 k)
    (cond (int_lt a.weight (negsuc 999999) || int_lt (pos 1000000) a.weight) (fault 2 7 k) (cond (nat_lt 1 a.mark) (fault 2 8 k) None)))

-- the first fault of fixed arcs, whose numbers run on from k
abbrev pub fixed_fault : ℕ → ℕ → List Arc → Option Fault
fixed_fault n k [] = None
fixed_fault n k (a ∷ xs) = or_else (arc_fault n k a) (fixed_fault n (k + 1) xs)

-- the first fault of the arms of pairs, whose numbers run on from k
abbrev pub pairs_fault : ℕ → ℕ → List Pair → Option Fault
pairs_fault n k [] = None
pairs_fault n k (p ∷ ps) = or_else (arc_fault n k p.first) (or_else (arc_fault n (k + 1) p.second) (pairs_fault n (k + 2) ps))

-- fixed arcs first, then each pair's arms
abbrev pub arcs_fault : Case → Option Fault
arcs_fault c = or_else (fixed_fault c.end 0 c.fixed) (pairs_fault c.end (length c.fixed) c.pairs)

-- the check of a case that is listed
abbrev pub listed_fault : Case → Option Fault
listed_fault c =
    cond (c.end == 0 || nat_lt 511 c.end) (fault 2 3 0)
    (cond (nat_lt 2048 (length c.fixed)) (fault 2 3 1) (cond (nat_lt 60 (length c.pairs)) (fault 2 3 2) (arcs_fault c)))

-- the number in two bytes from index i on
abbrev pub u16_at : List ℕ → ℕ → ℕ
u16_at bs i = 256 * slice_index bs i + slice_index bs (i + 1)

-- the number in four bytes from index i on
abbrev pub u32_at : List ℕ → ℕ → ℕ
u32_at bs i = 65536 * u16_at bs i + u16_at bs (i + 2)

-- an arc in nine bytes: from, to, weight in two's complement, mark
abbrev pub arc_at : List ℕ → ℕ → Arc
arc_at bs i = record { from = u16_at bs i; to = u16_at bs (i + 2); weight = to_z w32 (u32_at bs (i + 4)); mark = slice_index bs (i + 8) }

-- so many arcs, one after the other
abbrev pub arcs_at : List ℕ → ℕ → ℕ → List Arc
arcs_at bs i zero = []
arcs_at bs i (suc k) = arc_at bs i ∷ arcs_at bs (i + 9) k

-- so many pairs of two arms, one after the other
abbrev pub pairs_at : List ℕ → ℕ → ℕ → List Pair
pairs_at bs i zero = []
pairs_at bs i (suc k) = record { first = arc_at bs i; second = arc_at bs (i + 9) } ∷ pairs_at bs (i + 18) k

-- what a message lists: length of what follows, version, last event, fixed arcs, pairs, then the arcs and the arms
abbrev pub contents : List ℕ → Case
contents bs =
    let f = u16_at bs 7 in record { end = u16_at bs 5; fixed = arcs_at bs 10 f; pairs = pairs_at bs (10 + 9 * f) (slice_index bs 9) }

-- the check of a message: its length, version, counts and the lengths that these ask for, then each arc
abbrev pub message_fault : List ℕ → Option Fault
message_fault bs =
    let n = u16_at bs 5 in
    let f = u16_at bs 7 in
    let p = slice_index_or bs 9 0 in
    cond (nat_lt (length bs) 10) (fault 1 1 (length bs))
    (cond (not (slice_index bs 4 == 1)) (fault 1 2 4)
    (cond (n == 0 || nat_lt 511 n) (fault 1 3 5)
    (cond (nat_lt 2048 f) (fault 1 3 7)
    (cond (nat_lt 60 p) (fault 1 3 9)
    (cond (not (u32_at bs 0 == 6 + 9 * f + 18 * p && length bs == 10 + 9 * f + 18 * p)) (fault 1 4 0) (arcs_fault (contents bs)))))))

-- the empty case in the place of one that is refused
abbrev pub unless_faulty : Case → Option Fault → Case
unless_faulty c None = c
unless_faulty c (Some f) = empty_case

-- the case that a message means
abbrev pub message_case : List ℕ → Case
message_case bs = unless_faulty (contents bs) (message_fault bs)

-- a number in two bytes
abbrev pub u16_bytes : ℕ → List ℕ
u16_bytes n = n / 256 ∷ n % 256 ∷ []

-- a number in four bytes
abbrev pub u32_bytes : ℕ → List ℕ
u32_bytes n = u16_bytes (n / 65536) ++ u16_bytes (n % 65536)

-- an arc in nine bytes
abbrev pub arc_bytes : Arc → List ℕ
arc_bytes a = u16_bytes a.from ++ (u16_bytes a.to ++ (u32_bytes (of_z w32 a.weight) ++ (a.mark ∷ [])))

-- arcs, one after the other
abbrev pub arcs_bytes : List Arc → List ℕ
arcs_bytes [] = []
arcs_bytes (a ∷ xs) = arc_bytes a ++ arcs_bytes xs

-- the two arms of each pair, one after the other
abbrev pub pairs_bytes : List Pair → List ℕ
pairs_bytes [] = []
pairs_bytes (p ∷ ps) = arc_bytes p.first ++ (arc_bytes p.second ++ pairs_bytes ps)

-- a case as a message
abbrev pub message : Case → List ℕ
message c =
    let f = length c.fixed in
    let p = length c.pairs in
    u32_bytes (6 + 9 * f + 18 * p) ++ ((1 ∷ []) ++ (u16_bytes c.end ++ (u16_bytes f ++ ((p ∷ []) ++ (arcs_bytes c.fixed ++ pairs_bytes c.pairs)))))

-- what is written for a case is accepted, and reads back the same
pub record ReadsBack (c : Case) : Type 0 where
  pub accepted : message_fault (message c) ≡ None
  pub same : message_case (message c) ≡ c

-- the check of a listed case takes exactly those within the limits
pub record TakesLimits (c : Case) : Type 0 where
  pub taken_within : listed_fault c ≡ None → Within c
  pub within_taken : Within c → listed_fault c ≡ None

-- what a message means is within the limits, and an accepted message is written back byte for byte
pub record WritesBack (bs : List ℕ) : Type 0 where
  pub within : Within (message_case bs)
  pub same : message_fault bs ≡ None → message (message_case bs) ≡ bs
