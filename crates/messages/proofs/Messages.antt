-- A case and its message.
use Rattle.std.proofs.Common.{◌≡◌, ℕ, zero, suc, ◌+◌, ◌*◌, ◌/◌, ◌%◌, ◌^◌, ◌<◌, ◌≤◌, false, eqb, List, [], ◌∷◌, ◌++◌, length, get_or, drop, ℤ, pos, negsuc, ◌≤ℤ◌, Some, None, Option, sym, refl, ap, ◌∙◌, arith, w32, SFits, to_z, of_z}
use Rattle.std.specs.List.{AllByRecursion}
use Rattle.std.proofs.lemmas.Bool.{ltb-false, eqb-true, eqb-false, le-ltb, eq-eqb, ne_eqb, or_parts, or_from, and_parts, and_from, not-false, not_from_true}
use Rattle.std.proofs.lemmas.Int.{ints, to_z-of_z, of_z-to_z}
use Rattle.std.proofs.lemmas.List.{get_or-drop, drop-drop, drop_more, drop_at, drop_all, length-append, append-nil}
use Rattle.std.proofs.ByRecursion.{All-append, All-get_or}
use Rattle.graph.specs.Faults.{Fault}
use Rattle.graph.specs.Graph.{Arc, Pair, Case, Within, ArcWithin}
use Rattle.messages.specs.Message.{fixed_fault, pairs_fault, arcs_fault, listed_fault, u16_at, u32_at, arc_at, arcs_at, pairs_at, contents, message_fault, unless_faulty, message_case, u16_bytes, u32_bytes, arc_bytes, arcs_bytes, pairs_bytes, message, ReadsBack, TakesLimits, WritesBack}
use Rattle.messages.proofs.Checks.{or_else_none, none_or_else, cond_none, none_cond, fixed_within, within_fixed, pairs_within, within_pairs, empty_within}

pub within_unless : (c : Case) (f : Option Fault) → (f ≡ None → Within c) → Within (unless_faulty c f)
within_unless c None w = w refl
within_unless c (Some f) w = empty_within

pub unless_none : (c : Case) (f : Option Fault) → f ≡ None → unless_faulty c f ≡ c
unless_none c f e = ap (unless_faulty c) e

pub record Read (bs : List ℕ) : Type 0 where
  pub long : 10 ≤ length bs
  pub version : get_or bs 4 0 ≡ 1
  pub some_event : 1 ≤ u16_at bs 5
  pub few_events : u16_at bs 5 ≤ 511
  pub few_fixed : u16_at bs 7 ≤ 2048
  pub few_pairs : get_or bs 9 0 ≤ 60
  pub says : u32_at bs 0 ≡ 6 + 9 * u16_at bs 7 + 18 * get_or bs 9 0
  pub has : length bs ≡ 10 + 9 * u16_at bs 7 + 18 * get_or bs 9 0
  pub arcs_checked : arcs_fault (contents bs) ≡ None

positive : (n : ℕ) → eqb n 0 ≡ false → 1 ≤ n
positive n e = omega (arith, eqb-false n 0 e)

pub read : (bs : List ℕ) → message_fault bs ≡ None → Read bs
read bs e =
    let a = cond_none _ _ _ e in
    let b = cond_none _ _ _ a.1 in
    let c = cond_none _ _ _ b.1 in
    let c' = or_parts _ _ c.0 in
    let d = cond_none _ _ _ c.1 in
    let f = cond_none _ _ _ d.1 in
    let g = cond_none _ _ _ f.1 in
    let g' = and_parts _ _ (not-false _ g.0) in
    record {
      long = ltb-false _ _ a.0;
      version = eqb-true _ _ (not-false _ b.0);
      some_event = positive _ c'.0;
      few_events = ltb-false _ _ c'.1;
      few_fixed = ltb-false _ _ d.0;
      few_pairs = ltb-false _ _ f.0;
      says = eqb-true _ _ g'.0;
      has = eqb-true _ _ g'.1;
      arcs_checked = g.1;
    }

pub fault_free : (bs : List ℕ) → Read bs → message_fault bs ≡ None
fault_free bs r =
    let n = u16_at bs 5 in
    let f = u16_at bs 7 in
    let p = get_or bs 9 0 in
    none_cond _ _ _ (le-ltb (length bs) 10 r.long)
    (none_cond _ _ _ (not_from_true _ (eq-eqb (get_or bs 4 0) 1 r.version))
    (none_cond _ _ _ (or_from _ _ (ne_eqb n 0 (omega (arith, r.some_event))) (le-ltb 511 n r.few_events))
    (none_cond _ _ _ (le-ltb 2048 f r.few_fixed)
    (none_cond _ _ _ (le-ltb 60 p r.few_pairs)
    (none_cond _ _ _ (not_from_true _ (and_from _ _ (eq-eqb (u32_at bs 0) (6 + 9 * f + 18 * p) r.says) (eq-eqb (length bs) (10 + 9 * f + 18 * p) r.has))) r.arcs_checked)))))

pub length_arcs : (bs : List ℕ) (i k : ℕ) → length (arcs_at bs i k) ≡ k
length_arcs bs i zero = refl
length_arcs bs i (suc k) = ap suc (length_arcs bs (i + 9) k)

pub length_pairs : (bs : List ℕ) (i k : ℕ) → length (pairs_at bs i k) ≡ k
length_pairs bs i zero = refl
length_pairs bs i (suc k) = ap suc (length_pairs bs (i + 18) k)

contents_within : (bs : List ℕ) → message_fault bs ≡ None → Within (contents bs)
contents_within bs e =
    let r = read bs e in
    let c = contents bs in
    let s = or_else_none (fixed_fault c.end 0 c.fixed) (pairs_fault c.end (length c.fixed) c.pairs) r.arcs_checked in
    let p = pairs_within c.end (length c.fixed) c.pairs s.1 in
    record {
      some_event = r.some_event;
      few_events = r.few_events;
      few_fixed = omega (arith, length_arcs bs 10 (u16_at bs 7));
      few_pairs = omega (arith, length_pairs bs (10 + 9 * u16_at bs 7) (get_or bs 9 0));
      fixed_within = fixed_within c.end 0 c.fixed s.0;
      first_within = p.0;
      second_within = p.1;
    }

pub accepted_within : (bs : List ℕ) → Within (message_case bs)
accepted_within bs = within_unless (contents bs) (message_fault bs) (contents_within bs)

-- the check of a listed case finds no fault exactly where the case is within the limits
pub listed_within : (c : Case) → listed_fault c ≡ None → Within c
listed_within c e =
    let a = cond_none _ _ _ e in
    let a' = or_parts _ _ a.0 in
    let b = cond_none _ _ _ a.1 in
    let d = cond_none _ _ _ b.1 in
    let s = or_else_none (fixed_fault c.end 0 c.fixed) (pairs_fault c.end (length c.fixed) c.pairs) d.1 in
    let p = pairs_within c.end (length c.fixed) c.pairs s.1 in
    record {
      some_event = positive _ a'.0;
      few_events = ltb-false _ _ a'.1;
      few_fixed = ltb-false _ _ b.0;
      few_pairs = ltb-false _ _ d.0;
      fixed_within = fixed_within c.end 0 c.fixed s.0;
      first_within = p.0;
      second_within = p.1;
    }

pub within_arcs : (c : Case) → Within c → arcs_fault c ≡ None
within_arcs c w =
    none_or_else
    (fixed_fault c.end 0 c.fixed)
    (pairs_fault c.end (length c.fixed) c.pairs)
    (within_fixed c.end 0 c.fixed w.fixed_within)
    (within_pairs c.end (length c.fixed) c.pairs (w.first_within, w.second_within))

pub within_listed : (c : Case) → Within c → listed_fault c ≡ None
within_listed c w =
    let some : c.end ≡ 0 → ⊥ = omega (arith, w.some_event) in
    none_cond
    _
    _
    _
    (or_from _ _ (ne_eqb _ _ some) (le-ltb _ _ w.few_events))
    (none_cond _ _ _ (le-ltb _ _ w.few_fixed) (none_cond _ _ _ (le-ltb _ _ w.few_pairs) (within_arcs c w)))

-- reading what was written

byte : (bs : List ℕ) (i j k : ℕ) → j ≡ i + k → get_or bs j 0 ≡ get_or (drop i bs) k 0
byte bs i j k e = ap (λ n. get_or bs n 0) e ∙ sym (get_or-drop i bs k 0)

past : (bs xs ys : List ℕ) (i k : ℕ) → drop i bs ≡ xs → drop k xs ≡ ys → drop (i + k) bs ≡ ys
past bs xs ys i k e g = sym (drop-drop k i bs) ∙ (ap (drop k) e ∙ g)

u16_reads : (n : ℕ) → 256 * (n / 256) + n % 256 ≡ n
u16_reads n = omega arith

u32_reads : (n : ℕ) → 65536 * (256 * (n / 65536 / 256) + n / 65536 % 256) + (256 * (n % 65536 / 256) + n % 65536 % 256) ≡ n
u32_reads n = omega (arith, u16_reads (n / 65536), u16_reads (n % 65536))

weight_fits : (z : ℤ) → negsuc 999999 ≤ℤ z → z ≤ℤ pos 1000000 → SFits w32 z
weight_fits (pos n) l h = record { sfits = omega (arith, ints) }
weight_fits (negsuc n) l h = record { sfits = omega (arith, ints) }

same_arc : (a b : Arc) → a.from ≡ b.from → a.to ≡ b.to → a.weight ≡ b.weight → a.mark ≡ b.mark → a ≡ b
same_arc a b f t w m = λ i. record { from = f i; to = t i; weight = w i; mark = m i }

module _ (n : ℕ) (bs rest : List ℕ) (i : ℕ) (a : Arc) (w : ArcWithin n a) (e : drop i bs ≡ arc_bytes a ++ rest) where
  at : (j k : ℕ) → j ≡ i + k → get_or bs j 0 ≡ get_or (arc_bytes a ++ rest) k 0
  at j k h = byte bs i j k h ∙ ap (λ xs. get_or xs k 0) e

  arc_reads : arc_at bs i ≡ a
  arc_reads =
      let b0 = at i 0 (omega arith) in
      let b1 = at (i + 1) 1 (omega arith) in
      let b2 = at (i + 2) 2 (omega arith) in
      let b3 = at (i + 2 + 1) 3 (omega arith) in
      let b4 = at (i + 4) 4 (omega arith) in
      let b5 = at (i + 4 + 1) 5 (omega arith) in
      let b6 = at (i + 4 + 2) 6 (omega arith) in
      let b7 = at (i + 4 + 2 + 1) 7 (omega arith) in
      let u : u32_at bs (i + 4) ≡ of_z w32 a.weight = omega (arith, u32_reads (of_z w32 a.weight)) in
      same_arc (arc_at bs i) a
      (omega arith)
      (omega arith)
      (ap (to_z w32) u ∙ to_z-of_z w32 a.weight (weight_fits a.weight w.not_below w.not_above))
      (at (i + 8) 8 (omega arith))

  arc_past : drop (i + 9) bs ≡ rest
  arc_past = past bs (arc_bytes a ++ rest) rest i 9 e refl

arcs_read : (n : ℕ) (bs rest : List ℕ) (i : ℕ) (xs : List Arc) → AllByRecursion (ArcWithin n) xs → drop i bs ≡ arcs_bytes xs ++ rest → arcs_at bs i (length xs) ≡ xs
arcs_read n bs rest i [] w e = refl
arcs_read n bs rest i (a ∷ xs) w e =
    let h = arc_reads n bs (arcs_bytes xs ++ rest) i a w.0 e in
    let t = arcs_read n bs rest (i + 9) xs w.1 (arc_past n bs (arcs_bytes xs ++ rest) i a w.0 e) in
    λ j. h j ∷ t j

pairs_read : (n : ℕ) (bs rest : List ℕ) (i : ℕ) (ps : List Pair) → AllByRecursion (λ p. ArcWithin n p.first) ps → AllByRecursion (λ p. ArcWithin n p.second) ps → drop i bs ≡ pairs_bytes ps ++ rest → pairs_at bs i (length ps) ≡ ps
pairs_read n bs rest i [] v w e = refl
pairs_read n bs rest i (p ∷ ps) v w e =
    let back = pairs_bytes ps ++ rest in
    let h = arc_reads n bs (arc_bytes p.second ++ back) i p.first v.0 e in
    let e' = arc_past n bs (arc_bytes p.second ++ back) i p.first v.0 e in
    let k = arc_reads n bs back (i + 9) p.second w.0 e' in
    let e'' : drop (i + 18) bs ≡ back = past bs (arc_bytes p.first ++ (arc_bytes p.second ++ back)) back i 18 e refl in
    let t = pairs_read n bs rest (i + 18) ps v.1 w.1 e'' in
    λ j. record { first = h j; second = k j } ∷ t j

pub length_arcs_bytes : (xs : List Arc) → length (arcs_bytes xs) ≡ 9 * length xs
length_arcs_bytes [] = refl
length_arcs_bytes (a ∷ xs) = omega (arith, length_arcs_bytes xs)

pub length_pairs_bytes : (ps : List Pair) → length (pairs_bytes ps) ≡ 18 * length ps
length_pairs_bytes [] = refl
length_pairs_bytes (p ∷ ps) = omega (arith, length_pairs_bytes ps)

pub message_length : (c : Case) → length (message c) ≡ 10 + 9 * length c.fixed + 18 * length c.pairs
message_length c = omega (arith, length-append (arcs_bytes c.fixed) (pairs_bytes c.pairs), length_arcs_bytes c.fixed, length_pairs_bytes c.pairs)

module _ (c : Case) (w : Within c) where
  reads_end : u16_at (message c) 5 ≡ c.end
  reads_end = u16_reads c.end

  reads_fixed : u16_at (message c) 7 ≡ length c.fixed
  reads_fixed = u16_reads (length c.fixed)

  reads_length : u32_at (message c) 0 ≡ 6 + 9 * length c.fixed + 18 * length c.pairs
  reads_length = u32_reads (6 + 9 * length c.fixed + 18 * length c.pairs)

  fixed_read : arcs_at (message c) 10 (length c.fixed) ≡ c.fixed
  fixed_read = arcs_read c.end (message c) (pairs_bytes c.pairs) 10 c.fixed w.fixed_within refl

  pairs_start : drop (10 + 9 * length c.fixed) (message c) ≡ pairs_bytes c.pairs ++ []
  pairs_start =
      past (message c) (arcs_bytes c.fixed ++ pairs_bytes c.pairs) (pairs_bytes c.pairs ++ []) 10 (9 * length c.fixed) refl
      (drop_at (arcs_bytes c.fixed) (pairs_bytes c.pairs) (9 * length c.fixed) (length_arcs_bytes c.fixed) ∙ sym (append-nil (pairs_bytes c.pairs)))

  pairs_read_back : pairs_at (message c) (10 + 9 * length c.fixed) (length c.pairs) ≡ c.pairs
  pairs_read_back = pairs_read c.end (message c) [] (10 + 9 * length c.fixed) c.pairs w.first_within w.second_within pairs_start

  contents_read : contents (message c) ≡ c
  contents_read =
      let x = ap (arcs_at (message c) 10) reads_fixed ∙ fixed_read in
      let y = ap (λ k. pairs_at (message c) (10 + 9 * k) (length c.pairs)) reads_fixed ∙ pairs_read_back in
      λ j. record { end = reads_end j; fixed = x j; pairs = y j }

  arcs_hold : arcs_fault (contents (message c)) ≡ None
  arcs_hold = ap arcs_fault contents_read ∙ within_arcs c w

  pub accepted : message_fault (message c) ≡ None
  accepted =
      fault_free (message c)
      (record {
        long = omega (arith, message_length c);
        version = refl;
        some_event = omega (arith, reads_end, w.some_event);
        few_events = omega (arith, reads_end, w.few_events);
        few_fixed = omega (arith, reads_fixed, w.few_fixed);
        few_pairs = w.few_pairs;
        says = omega (arith, reads_length, reads_fixed);
        has = omega (arith, message_length c, reads_fixed);
        arcs_checked = arcs_hold;
      })

  pub reads_back : message_case (message c) ≡ c
  reads_back = unless_none (contents (message c)) (message_fault (message c)) accepted ∙ contents_read

-- writing what was read

u16_first : (a b : ℕ) → b < 256 → (256 * a + b) / 256 ≡ a
u16_first a b h = omega arith

u16_second : (a b : ℕ) → b < 256 → (256 * a + b) % 256 ≡ b
u16_second a b h = omega arith

u16_writes : (a b : ℕ) → b < 256 → u16_bytes (256 * a + b) ≡ a ∷ b ∷ []
u16_writes a b h = λ j. u16_first a b h j ∷ u16_second a b h j ∷ []

u32_split : (x y : ℕ) → y < 65536 → u32_bytes (65536 * x + y) ≡ u16_bytes x ++ u16_bytes y
u32_split x y h =
    let f : (65536 * x + y) / 65536 ≡ x = omega arith in
    let g : (65536 * x + y) % 65536 ≡ y = omega arith in
    λ j. u16_bytes (f j) ++ u16_bytes (g j)

further : (i k : ℕ) → i + 9 * suc k ≡ i + 9 + 9 * k
further i k = omega arith

further_pair : (i k : ℕ) → i + 18 * suc k ≡ i + 18 + 18 * k
further_pair i k = omega arith

module _ (bs : List ℕ) (small : AllByRecursion (λ b. b < 256) bs) where
  below : (i : ℕ) → i < length bs → get_or bs i 0 < 256
  below i h = All-get_or (λ b. b < 256) bs i 0 h small

  -- the byte at place j, where j is i + 1
  next : (i j : ℕ) → i < length bs → i + 1 ≡ j → drop i bs ≡ get_or bs i 0 ∷ drop j bs
  next i j h e = drop_more bs i 0 h ∙ ap (λ k. get_or bs i 0 ∷ drop k bs) e

  u16_back : (i j : ℕ) → i + 2 ≤ length bs → i + 2 ≡ j → u16_bytes (u16_at bs i) ++ drop j bs ≡ drop i bs
  u16_back i j h e =
      ap (λ xs. xs ++ drop j bs) (u16_writes (get_or bs i 0) (get_or bs (i + 1) 0) (below (i + 1) (omega arith)))
      ∙ sym (next i (i + 1) (omega arith) refl ∙ ap (λ xs. get_or bs i 0 ∷ xs) (next (i + 1) j (omega arith) (omega arith)))

  u32_back : (i j : ℕ) → i + 4 ≤ length bs → i + 4 ≡ j → u32_bytes (u32_at bs i) ++ drop j bs ≡ drop i bs
  u32_back i j h e =
      let c = below (i + 2) (omega arith) in
      let d = below (i + 2 + 1) (omega arith) in
      ap (λ xs. xs ++ drop j bs) (u32_split (u16_at bs i) (u16_at bs (i + 2)) (omega arith))
      ∙ (ap (λ xs. u16_bytes (u16_at bs i) ++ xs) (u16_back (i + 2) j (omega arith) (omega arith)) ∙ u16_back i (i + 2) (omega arith) refl)

  u32_small : (i : ℕ) → i + 4 ≤ length bs → u32_at bs i < 2 ^ 32
  u32_small i h =
      let a = below i (omega arith) in
      let b = below (i + 1) (omega arith) in
      let c = below (i + 2) (omega arith) in
      let d = below (i + 2 + 1) (omega arith) in
      omega arith

  arc_back : (i j : ℕ) → i + 9 ≤ length bs → i + 9 ≡ j → arc_bytes (arc_at bs i) ++ drop j bs ≡ drop i bs
  arc_back i j h e =
      let front : List ℕ → List ℕ = λ xs. u16_bytes (u16_at bs i) ++ (u16_bytes (u16_at bs (i + 2)) ++ xs) in
      ap (λ n. front (u32_bytes n ++ (get_or bs (i + 8) 0 ∷ drop j bs))) (of_z-to_z w32 (u32_at bs (i + 4)) (u32_small (i + 4) (omega arith)))
      ∙ (ap (λ xs. front (u32_bytes (u32_at bs (i + 4)) ++ xs)) (sym (next (i + 8) j (omega arith) (omega arith)))
      ∙ (ap front (u32_back (i + 4) (i + 8) (omega arith) (omega arith))
      ∙ (ap (λ xs. u16_bytes (u16_at bs i) ++ xs) (u16_back (i + 2) (i + 4) (omega arith) (omega arith)) ∙ u16_back i (i + 2) (omega arith) refl)))

  arcs_back : (i k : ℕ) → i + 9 * k ≤ length bs → arcs_bytes (arcs_at bs i k) ++ drop (i + 9 * k) bs ≡ drop i bs
  arcs_back i zero h = ap (λ n. drop n bs) (omega arith)
  arcs_back i (suc k) h =
      ap (λ n. arc_bytes (arc_at bs i) ++ (arcs_bytes (arcs_at bs (i + 9) k) ++ drop n bs)) (further i k)
      ∙ (ap (λ xs. arc_bytes (arc_at bs i) ++ xs) (arcs_back (i + 9) k (omega arith)) ∙ arc_back i (i + 9) (omega arith) refl)

  pairs_back : (i k : ℕ) → i + 18 * k ≤ length bs → pairs_bytes (pairs_at bs i k) ++ drop (i + 18 * k) bs ≡ drop i bs
  pairs_back i zero h = ap (λ n. drop n bs) (omega arith)
  pairs_back i (suc k) h =
      ap (λ n. arc_bytes (arc_at bs i) ++ (arc_bytes (arc_at bs (i + 9)) ++ (pairs_bytes (pairs_at bs (i + 18) k) ++ drop n bs))) (further_pair i k)
      ∙ (ap (λ xs. arc_bytes (arc_at bs i) ++ (arc_bytes (arc_at bs (i + 9)) ++ xs)) (pairs_back (i + 18) k (omega arith))
      ∙ (ap (λ xs. arc_bytes (arc_at bs i) ++ xs) (arc_back (i + 9) (i + 18) (omega arith) (omega arith)) ∙ arc_back i (i + 9) (omega arith) refl))

  module _ (r : Read bs) where
    body_back : arcs_bytes (contents bs).fixed ++ pairs_bytes (contents bs).pairs ≡ drop 10 bs
    body_back =
        let f = u16_at bs 7 in
        let p = get_or bs 9 0 in
        let rest : drop (10 + 9 * f + 18 * p) bs ≡ [] = drop_all (10 + 9 * f + 18 * p) bs (omega (arith, r.has)) in
        let ps : pairs_bytes (contents bs).pairs ≡ drop (10 + 9 * f) bs =
        sym (append-nil (pairs_bytes (contents bs).pairs))
        ∙ (ap (λ xs. pairs_bytes (contents bs).pairs ++ xs) (sym rest) ∙ pairs_back (10 + 9 * f) p (omega (arith, r.has))) in
        ap (λ xs. arcs_bytes (contents bs).fixed ++ xs) ps ∙ arcs_back 10 f (omega (arith, r.has))

    contents_back : message (contents bs) ≡ bs
    contents_back =
        let f = length_arcs bs 10 (u16_at bs 7) in
        let p = length_pairs bs (10 + 9 * u16_at bs 7) (get_or bs 9 0) in
        let l : 6 + 9 * length (contents bs).fixed + 18 * length (contents bs).pairs ≡ u32_at bs 0 = omega (arith, f, p, r.says) in
        let v : ◌≡◌ {A = ℕ} 1 (get_or bs 4 0) = sym r.version in
        let long : 10 ≤ length bs = r.long in
        let n : List ℕ → List ℕ = λ xs. u16_bytes (u16_at bs 5) ++ xs in
        let same : message (contents bs) ≡ u32_bytes (u32_at bs 0) ++ (get_or bs 4 0 ∷ n (u16_bytes (u16_at bs 7) ++ (get_or bs 9 0 ∷ drop 10 bs))) =
        λ j. u32_bytes (l j) ++ (v j ∷ n (u16_bytes (f j) ++ (p j ∷ body_back j))) in
        same
        ∙ (ap (λ xs. u32_bytes (u32_at bs 0) ++ (get_or bs 4 0 ∷ n (u16_bytes (u16_at bs 7) ++ xs))) (sym (next 9 10 (omega arith) refl))
        ∙ (ap (λ xs. u32_bytes (u32_at bs 0) ++ (get_or bs 4 0 ∷ n xs)) (u16_back 7 9 (omega arith) refl)
        ∙ (ap (λ xs. u32_bytes (u32_at bs 0) ++ (get_or bs 4 0 ∷ xs)) (u16_back 5 7 (omega arith) refl)
        ∙ (ap (λ xs. u32_bytes (u32_at bs 0) ++ xs) (sym (next 4 5 (omega arith) refl)) ∙ u32_back 0 4 (omega arith) refl))))

pub writes_back : (bs : List ℕ) → AllByRecursion (λ b. b < 256) bs → message_fault bs ≡ None → message (message_case bs) ≡ bs
writes_back bs small e = ap message (unless_none (contents bs) (message_fault bs) e) ∙ contents_back bs small (read bs e)

-- what is written are bytes

bits_small : (z : ℤ) → negsuc 999999 ≤ℤ z → z ≤ℤ pos 1000000 → of_z w32 z < 2 ^ 32
bits_small (pos n) l h = omega (arith, ints)
bits_small (negsuc n) l h = omega arith

u16_small : (n : ℕ) → n < 65536 → AllByRecursion (λ b. b < 256) (u16_bytes n)
u16_small n h = omega arith

arc_small : (n : ℕ) (a : Arc) → n ≤ 511 → ArcWithin n a → AllByRecursion (λ b. b < 256) (arc_bytes a)
arc_small n a h w =
    let z = bits_small a.weight w.not_below w.not_above in
    let f = u16_small a.from (omega (arith, w.from_known)) in
    let t = u16_small a.to (omega (arith, w.to_known)) in
    let x = u16_small (of_z w32 a.weight / 65536) (omega arith) in
    let y = u16_small (of_z w32 a.weight % 65536) (omega arith) in
    (f.0, (f.1.0, (t.0, (t.1.0, (x.0, (x.1.0, (y.0, (y.1.0, (omega (arith, w.marked), tt)))))))))

arcs_small : (n : ℕ) (xs : List Arc) → n ≤ 511 → AllByRecursion (ArcWithin n) xs → AllByRecursion (λ b. b < 256) (arcs_bytes xs)
arcs_small n [] h w = tt
arcs_small n (a ∷ xs) h w = All-append (λ b. b < 256) (arc_bytes a) (arcs_bytes xs) (arc_small n a h w.0) (arcs_small n xs h w.1)

pairs_small : (n : ℕ) (ps : List Pair) → n ≤ 511 → AllByRecursion (λ p. ArcWithin n p.first) ps → AllByRecursion (λ p. ArcWithin n p.second) ps → AllByRecursion (λ b. b < 256) (pairs_bytes ps)
pairs_small n [] h v w = tt
pairs_small n (p ∷ ps) h v w =
    All-append (λ b. b < 256) (arc_bytes p.first) (arc_bytes p.second ++ pairs_bytes ps) (arc_small n p.first h v.0)
    (All-append (λ b. b < 256) (arc_bytes p.second) (pairs_bytes ps) (arc_small n p.second h w.0) (pairs_small n ps h v.1 w.1))

pub message_small : (c : Case) → Within c → AllByRecursion (λ b. b < 256) (message c)
message_small c w =
    let l = 6 + 9 * length c.fixed + 18 * length c.pairs in
    let few : l ≤ 19518 = omega (arith, w.few_fixed, w.few_pairs) in
    let x = u16_small (l / 65536) (omega arith) in
    let y = u16_small (l % 65536) (omega arith) in
    let n = u16_small c.end (omega (arith, w.few_events)) in
    let f = u16_small (length c.fixed) (omega (arith, w.few_fixed)) in
    let rest =
    All-append (λ b. b < 256) (arcs_bytes c.fixed) (pairs_bytes c.pairs)
    (arcs_small c.end c.fixed w.few_events w.fixed_within)
    (pairs_small c.end c.pairs w.few_events w.first_within w.second_within) in
    (x.0, (x.1.0, (y.0, (y.1.0, (omega arith, (n.0, (n.1.0, (f.0, (f.1.0, (omega (arith, w.few_pairs), rest))))))))))

pub reads_back_law : (c : Case) → Within c → ReadsBack c
reads_back_law c w = record { accepted = accepted c w; same = reads_back c w }

pub takes_limits : (c : Case) → TakesLimits c
takes_limits c = record { taken_within = listed_within c; within_taken = within_listed c }

pub writes_back_law : (bs : List ℕ) → AllByRecursion (λ b. b < 256) bs → WritesBack bs
writes_back_law bs small = record { within = accepted_within bs; same = writes_back bs small }
