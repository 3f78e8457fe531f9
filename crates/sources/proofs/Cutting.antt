-- Bytes cut into the records of a message.
use Rattle.std.proofs.Common.{◌≡◌, ℕ, zero, suc, ◌+◌, ◌*◌, ◌/◌, ◌<◌, ◌≤◌, List, ◌∷◌, map, length, take, drop, get_or, sym, refl, ap, ◌∙◌, w32, to_z, arith}
use Rattle.std.specs.Simd.{first_chunks}
use Rattle.std.proofs.lemmas.Bool.{cond-false, le-ltb, eq-eqb, ne_eqb, or_from, and_from, not_from_true}
use Rattle.std.proofs.lemmas.List.{get_or-take, get_or-drop, drop-drop, length-drop}
use Rattle.graph.specs.Views.{arc_of, pair_of}
use Rattle.messages.proofs.Messages.{length_arcs, length_pairs}
use Rattle.messages.specs.Message.{u16_at, u32_at, arc_at, arcs_at, pairs_at, contents, arcs_fault, listed_fault, message_fault}
use Rattle.sources.specs.Head.{head_of}
use Rattle.sources.specs.Records.{arc_in, pair_in, listed_by}
use Rattle.sources.specs.declared.message.Head.{Head}
use Rattle.sources.specs.declared.records.Records.{Records}

byte_in : (bs : List ℕ) (i j k : ℕ) → j < 9 → i + j ≡ k → get_or (take 9 (drop i bs)) j 0 ≡ get_or bs k 0
byte_in bs i j k h e = get_or-take 9 (drop i bs) j 0 h ∙ (get_or-drop i bs j 0 ∙ ap (λ n. get_or bs n 0) e)

arc_cut : (bs : List ℕ) (i : ℕ) → arc_of (arc_in (take 9 (drop i bs))) ≡ arc_at bs i
arc_cut bs i =
    let b = byte_in bs i in
    let b0 = b 0 i (omega arith) (omega arith) in
    let b1 = b 1 (i + 1) (omega arith) refl in
    let b2 = b 2 (i + 2) (omega arith) refl in
    let b3 = b 3 (i + 2 + 1) (omega arith) (omega arith) in
    let b4 = b 4 (i + 4) (omega arith) refl in
    let b5 = b 5 (i + 4 + 1) (omega arith) (omega arith) in
    let b6 = b 6 (i + 4 + 2) (omega arith) (omega arith) in
    let b7 = b 7 (i + 4 + 2 + 1) (omega arith) (omega arith) in
    let b8 = b 8 (i + 8) (omega arith) refl in
    λ t. record {
      from = 256 * b0 t + b1 t;
      to = 256 * b2 t + b3 t;
      weight = to_z w32 (65536 * (256 * b4 t + b5 t) + (256 * b6 t + b7 t));
      mark = b8 t;
    }

pub arcs_cut : (bs : List ℕ) (i n : ℕ) → map (λ b. arc_of (arc_in b)) (first_chunks 9 n (drop i bs)) ≡ arcs_at bs i n
arcs_cut bs i zero = refl
arcs_cut bs i (suc n) = (λ t. arc_cut bs i t ∷ map (λ b. arc_of (arc_in b)) (first_chunks 9 n (drop-drop 9 i bs t))) ∙ ap (λ l. arc_at bs i ∷ l) (arcs_cut bs (i + 9) n)

pub pairs_cut : (bs : List ℕ) (i n : ℕ) → map (λ p. pair_of (pair_in p)) (first_chunks 2 n (first_chunks 9 (2 * n) (drop i bs))) ≡ pairs_at bs i n
pairs_cut bs i zero = refl
pairs_cut bs i (suc n) =
    let e : 2 * suc n ≡ suc (suc (2 * n)) = omega arith in
    let next : drop 9 (drop 9 (drop i bs)) ≡ drop (i + 18) bs = ap (drop 9) (drop-drop 9 i bs) ∙ (drop-drop 9 (i + 9) bs ∙ ap (λ k. drop k bs) (sums i)) in
    ap (λ k. map (λ p. pair_of (pair_in p)) (first_chunks 2 (suc n) (first_chunks 9 k (drop i bs)))) e
    ∙ ((λ t. record { first = arc_cut bs i t; second = (ap (λ l. arc_of (arc_in (take 9 l))) (drop-drop 9 i bs) ∙ arc_cut bs (i + 9)) t } ∷ map (λ p. pair_of (pair_in p)) (first_chunks 2 n (first_chunks 9 (2 * n) (next t))))
    ∙ ap (λ l. record { first = arc_at bs i; second = arc_at bs (i + 9) } ∷ l) (pairs_cut bs (i + 18) n))
  where
    sums : (i : ℕ) → i + 9 + 9 ≡ i + 18
    sums i = omega arith

pub take_chunks : {X : Type 0} (n k m : ℕ) (xs : List X) → take k (first_chunks n (k + m) xs) ≡ first_chunks n k xs
take_chunks n zero m xs = refl
take_chunks n (suc k) m xs = let e : suc k + m ≡ suc (k + m) = omega arith in ap (λ j. take (suc k) (first_chunks n j xs)) e ∙ ap (λ l. take n xs ∷ l) (take_chunks n k m (drop n xs))

pub drop_chunks : (k m i : ℕ) (bs : List ℕ) → drop k (first_chunks 9 (k + m) (drop i bs)) ≡ first_chunks 9 m (drop (i + 9 * k) bs)
drop_chunks zero m i bs = (λ t. first_chunks 9 (e m t) (drop (f i t) bs))
  where
    e : (m : ℕ) → 0 + m ≡ m
    e m = omega arith

    f : (i : ℕ) → i ≡ i + 9 * 0
    f i = omega arith
drop_chunks (suc k) m i bs =
    let e : suc k + m ≡ suc (k + m) = omega arith in
    let f : i + 9 + 9 * k ≡ i + 9 * suc k = omega arith in
    ap (λ j. drop (suc k) (first_chunks 9 j (drop i bs))) e ∙ (ap (λ l. drop k (first_chunks 9 (k + m) l)) (drop-drop 9 i bs) ∙ (drop_chunks k m (i + 9) bs ∙ ap (λ j. first_chunks 9 m (drop j bs)) f))

-- a message whose head is right

module _ (bs : List ℕ) (h : Head) (is : h ≡ head_of bs) where
  pub contents_cut : (arcs : List ℕ) (chunks arms : List (List ℕ)) (r : Records (List ℕ) (List (List ℕ))) → arcs ≡ drop 10 bs → length bs ≡ 4 + (6 + 9 * h.fixed + 18 * h.pairs)
      → chunks ≡ first_chunks 9 (length arcs / 9) arcs → length chunks ≡ length arcs / 9 → r.end ≡ h.end → r.fixed.now ≡ take h.fixed chunks → arms ≡ drop h.fixed chunks → length arms + h.fixed ≡ length chunks
      → r.pairs.now ≡ first_chunks 2 (length arms / 2) arms → listed_by arc_in pair_in r ≡ contents bs
  contents_cut arcs chunks arms r rest long cut count end fixed behind left pairs =
      let l : length arcs ≡ 9 * h.fixed + 18 * h.pairs = omega (arith, ap length rest, length-drop 10 bs) in
      let n : length arcs / 9 ≡ h.fixed + 2 * h.pairs = omega arith in
      let m : length arms / 2 ≡ h.pairs = omega arith in
      let all : chunks ≡ first_chunks 9 (h.fixed + 2 * h.pairs) (drop 10 bs) = cut ∙ (λ t. first_chunks 9 (n t) (rest t)) in
      let one : map (λ b. arc_of (arc_in b)) r.fixed.now ≡ arcs_at bs 10 h.fixed =
      ap (map (λ b. arc_of (arc_in b))) (fixed ∙ (ap (take h.fixed) all ∙ take_chunks 9 h.fixed (2 * h.pairs) (drop 10 bs))) ∙ arcs_cut bs 10 h.fixed in
      let two : map (λ p. pair_of (pair_in p)) r.pairs.now ≡ pairs_at bs (10 + 9 * h.fixed) h.pairs =
      ap (map (λ p. pair_of (pair_in p))) (pairs ∙ (λ t. first_chunks 2 (m t) ((behind ∙ (ap (drop h.fixed) all ∙ drop_chunks h.fixed (2 * h.pairs) 10 bs)) t))) ∙ pairs_cut bs (10 + 9 * h.fixed) h.pairs in
      (λ t. record { end = end t; fixed = one t; pairs = two t }) ∙ (λ t. record { end = (is t).end; fixed = arcs_at bs 10 (is t).fixed; pairs = pairs_at bs (10 + 9 * (is t).fixed) (is t).pairs })

  pub fault_listed : 10 ≤ length bs → h.version ≡ 1 → (h.end ≡ 0 → ⊥) → h.end ≤ 511 → h.fixed ≤ 2048 → h.pairs ≤ 60 → h.behind ≡ 6 + 9 * h.fixed + 18 * h.pairs → length bs ≡ 4 + (6 + 9 * h.fixed + 18 * h.pairs) → message_fault bs ≡ listed_fault (contents bs)
  fault_listed long version some few few_fixed few_pairs says has =
      let n = u16_at bs 5 in
      let f = u16_at bs 7 in
      let p = get_or bs 9 0 in
      let e : h.end ≡ n = ap (λ (x : Head). x.end) is in
      let g : h.fixed ≡ f = ap (λ (x : Head). x.fixed) is in
      let q : h.pairs ≡ p = ap (λ (x : Head). x.pairs) is in
      let v : get_or bs 4 0 ≡ 1 = sym (ap (λ (x : Head). x.version) is) ∙ version in
      let b : h.behind ≡ u32_at bs 0 = ap (λ (x : Head). x.behind) is in
      let ends = or_from _ _ (ne_eqb n 0 (λ z. some (e ∙ z))) (le-ltb 511 n (omega arith)) in
      let one : message_fault bs ≡ arcs_fault (contents bs) =
      cond-false _ _ _ (le-ltb (length bs) 10 long)
      ∙ (cond-false _ _ _ (not_from_true _ (eq-eqb (get_or bs 4 0) 1 v))
      ∙ (cond-false _ _ _ ends
      ∙ (cond-false _ _ _ (le-ltb 2048 f (omega arith))
      ∙ (cond-false _ _ _ (le-ltb 60 p (omega arith))
      ∙ cond-false _ _ _ (not_from_true _ (and_from _ _ (eq-eqb (u32_at bs 0) (6 + 9 * f + 18 * p) (omega arith)) (eq-eqb (length bs) (10 + 9 * f + 18 * p) (omega arith)))))))) in
      let two : listed_fault (contents bs) ≡ arcs_fault (contents bs) =
      cond-false _ _ _ ends
      ∙ (cond-false _ _ _ (le-ltb 2048 (length (contents bs).fixed) (omega (arith, length_arcs bs 10 f)))
      ∙ cond-false _ _ _ (le-ltb 60 (length (contents bs).pairs) (omega (arith, length_pairs bs (10 + 9 * f) p)))) in
      one ∙ sym two
