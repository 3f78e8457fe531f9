-- Two lists compared from the front. Assumes nothing.
use Rattle.std.proofs.Common.{◌≡◌, ℕ, zero, suc, ◌+◌, ◌==◌, true, false, min, List, [], ◌∷◌, length, None, Some, Option, subst, sym, refl, inl, inr, arith}
use Rattle.std.proofs.Math.Bool.{not}
use Rattle.std.specs.List.{zip, position_from}
use Rattle.std.proofs.lemmas.Bool.{cases_eq}
use Rattle.std.proofs.lemmas.Bool.Decides.{nat_tests}
use Rattle.hex_text.specs.Hex.{Differs}

-- where two lists differ first, as told of the rest of two rows from an index on; none where one is the front of the other
abbrev pub Told : ℕ → List ℕ → List ℕ → Option ℕ → Type 0
Told i xs ys None = (length xs ≡ length ys → xs ≡ ys) × ((k : ℕ) → k ≡ min (length xs) (length ys) → (length xs ≡ length ys → ⊥) → Differs xs ys (Some k))
Told i xs ys (Some k) = (j : ℕ) × (k ≡ i + j) × Differs xs ys (Some j)

abbrev pub first_unequal_from : ℕ → List ℕ → List ℕ → Option ℕ
first_unequal_from i xs ys = position_from (λ p. not (p.0 == p.1)) i (zip xs ys)

same_test : (x y : ℕ) → x ≡ y → not (x == y) ≡ false
same_test x y e = grind (arith, nat_tests)

other_test : (x y : ℕ) → (x ≡ y → ⊥) → not (x == y) ≡ true
other_test x y n = grind (arith, nat_tests)

module _ (x y : ℕ) (xs ys : List ℕ) (e : x ≡ y) where
  differs_more : (k : ℕ) → Differs xs ys (Some k) → Differs (x ∷ xs) (y ∷ ys) (Some (suc k))
  differs_more k d = ((λ j. e j ∷ d.0 j), d.1)

  end_more : ((k : ℕ) → k ≡ min (length xs) (length ys) → (length xs ≡ length ys → ⊥) → Differs xs ys (Some k)) → (k : ℕ) → k ≡ min (suc (length xs)) (suc (length ys)) → (suc (length xs) ≡ suc (length ys) → ⊥) → Differs (x ∷ xs) (y ∷ ys) (Some k)
  end_more m zero h n = absurd (omega arith)
  end_more m (suc k) h n = differs_more k (m k (omega arith) (λ z. n (omega arith)))

  told_more : (i : ℕ) (o : Option ℕ) → Told (i + 1) xs ys o → Told i (x ∷ xs) (y ∷ ys) o
  told_more i None m = ((λ h j. e j ∷ m.0 (omega (arith, h)) j), end_more m.1)
  told_more i (Some k) (j, h, m) = (suc j, omega (arith, h), differs_more j m)

one_empty : (y : ℕ) (ys : List ℕ) (k : ℕ) → k ≡ min 0 (suc (length ys)) → Differs [] (y ∷ ys) (Some k)
one_empty y ys zero h = (refl, λ z. cc)
one_empty y ys (suc k) h = absurd (omega arith)

other_empty : (x : ℕ) (xs : List ℕ) (k : ℕ) → k ≡ min (suc (length xs)) 0 → Differs (x ∷ xs) [] (Some k)
other_empty x xs zero h = (refl, λ z. cc)
other_empty x xs (suc k) h = absurd (omega arith)

some_same : (x y : ℕ) → Some x ≡ Some y → x ≡ y
some_same x y e = cc

pub told : (i : ℕ) (xs ys : List ℕ) → Told i xs ys (first_unequal_from i xs ys)
told i [] [] = (λ e. refl, λ k h n. absurd (n refl))
told i [] (y ∷ ys) = (λ e. absurd (omega arith), λ k h n. one_empty y ys k h)
told i (x ∷ xs) [] = (λ e. absurd (omega arith), λ k h n. other_empty x xs k h)
told i (x ∷ xs) (y ∷ ys) = elim (cases_eq x y) [
  | inl e ↦ rw (same_test x y e) (told_more x y xs ys e i (first_unequal_from (i + 1) xs ys) (told (i + 1) xs ys))
  | inr n ↦ rw (other_test x y n) (0, omega arith, (refl, λ z. n (some_same x y z)))
]

pub found : (xs ys : List ℕ) (o : Option ℕ) → o ≡ first_unequal_from 0 xs ys → Told 0 xs ys o
found xs ys o e = subst (Told 0 xs ys) (sym e) (told 0 xs ys)

pub found_at : (xs ys : List ℕ) (k : ℕ) → Some k ≡ first_unequal_from 0 xs ys → Differs xs ys (Some k)
found_at xs ys k e = let t = found xs ys (Some k) e in let q : t.0 ≡ k = omega (arith, t.1) in subst (λ (j : ℕ). Differs xs ys (Some j)) q t.2
