-- A table that begins with a list and goes on with zeros. Assumes nothing.
use Rattle.std.proofs.Common.{◌≡◌, ℕ, ◌-◌, List, ◌++◌, length, drop, replicate, ap, ◌∙◌}
use borrow.Rule.Slice.PartMut.{post_of}
use Rattle.std.proofs.lemmas.List.{drop-replicate}

pub table_filled : (xs ys : List ℕ) (k : ℕ) → k ≡ length xs → ys ≡ xs → ys ++ post_of 0 k (replicate 60 0) ≡ xs ++ replicate (60 - length xs) 0
table_filled xs ys k e q = λ j. q j ++ (ap (λ n. drop n (replicate 60 0)) e ∙ drop-replicate (length xs) 60 0) j
