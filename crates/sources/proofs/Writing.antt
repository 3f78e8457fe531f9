-- Writing pieces one after the other.
use Rattle.std.proofs.Common.{◌≡◌, ℕ, zero, suc, ◌+◌, ◌*◌, ◌<◌, ◌≤◌, List, [], ◌∷◌, ◌++◌, length, take, drop, Option, sym, refl, ap, ◌∙◌, arith}
use Rattle.std.specs.List.{slice_get}
use Rattle.std.proofs.lemmas.List.{append_assoc, append-nil, length-append, length-take-le, take_at, drop_at, drop-drop}
use Rattle.graph.specs.Graph.{Arc, Pair, Case}
use Rattle.messages.specs.Message.{arc_bytes, arcs_bytes, pairs_bytes, message}
use Rattle.graph.specs.Views.{arm_at}
use Rattle.messages.proofs.Messages.{length_arcs_bytes, length_pairs_bytes, message_length}
use Rattle.messages.specs.declared.faults.MessageFault.TheVariants.{NoRoom}
use Rattle.sources.specs.Written.{put_at, head_bytes, found_bytes, Taken, Refused}

pub put_more : (xs p q : List ℕ) (a b : ℕ) → a + length p ≡ b → b ≤ length xs → put_at (put_at xs a p) b q ≡ put_at xs a (p ++ q)
put_more xs p q a b e h =
    let A = take a xs in
    let D = drop (a + length p) xs in
    let l : length (A ++ p) ≡ b = length-append A p ∙ (ap (λ n. n + length p) (length-take-le a xs (omega arith)) ∙ e) in
    let w : put_at xs a p ≡ (A ++ p) ++ D = sym (append_assoc A p D) in
    let t : take b (put_at xs a p) ≡ A ++ p = ap (take b) w ∙ take_at (A ++ p) D b l in
    let d : drop (b + length q) (put_at xs a p) ≡ drop (a + length (p ++ q)) xs =
    sym (drop-drop (length q) b (put_at xs a p))
    ∙ (ap (drop (length q)) (ap (drop b) w ∙ drop_at (A ++ p) D b l)
    ∙ (drop-drop (length q) (a + length p) xs ∙ ap (λ n. drop n xs) (sums a (length p) (length q) (length (p ++ q)) (length-append p q)))) in
    (λ j. t j ++ (q ++ d j)) ∙ (append_assoc A p (q ++ drop (a + length (p ++ q)) xs) ∙ ap (λ l. A ++ l) (sym (append_assoc p q (drop (a + length (p ++ q)) xs))))
  where
    sums : (a m n k : ℕ) → k ≡ m + n → a + m + n ≡ a + k
    sums a m n k e = omega arith

-- one more arc

arcs_more : (xs : List Arc) (k : ℕ) → k < length xs → arcs_bytes (take (k + 1) xs) ≡ arcs_bytes (take k xs) ++ found_bytes (slice_get xs k)
arcs_more [] k h = absurd (omega arith)
arcs_more (a ∷ xs) zero h = append-nil (arc_bytes a)
arcs_more (a ∷ xs) (suc k) h =
    let e : suc k + 1 ≡ suc (k + 1) = omega arith in
    ap (λ n. arcs_bytes (take n (a ∷ xs))) e
    ∙ (ap (λ l. arc_bytes a ++ l) (arcs_more xs k (omega arith)) ∙ sym (append_assoc (arc_bytes a) (arcs_bytes (take k xs)) (found_bytes (slice_get xs k))))

pairs_more : (ps : List Pair) (k : ℕ) → k < length ps → pairs_bytes (take (k + 1) ps) ≡ pairs_bytes (take k ps) ++ (found_bytes (arm_at ps k 1) ++ found_bytes (arm_at ps k 2))
pairs_more [] k h = absurd (omega arith)
pairs_more (p ∷ ps) zero h = ap (λ l. arc_bytes p.first ++ l) (append-nil (arc_bytes p.second))
pairs_more (p ∷ ps) (suc k) h =
    let e : suc k + 1 ≡ suc (k + 1) = omega arith in
    let both = found_bytes (arm_at ps k 1) ++ found_bytes (arm_at ps k 2) in
    ap (λ n. pairs_bytes (take n (p ∷ ps))) e
    ∙ (ap (λ l. arc_bytes p.first ++ (arc_bytes p.second ++ l)) (pairs_more ps k (omega arith))
    ∙ (ap (λ l. arc_bytes p.first ++ l) (sym (append_assoc (arc_bytes p.second) (pairs_bytes (take k ps)) both)) ∙ sym (append_assoc (arc_bytes p.first) (arc_bytes p.second ++ pairs_bytes (take k ps)) both)))

length_front : (xs : List Arc) (k : ℕ) → k ≤ length xs → length (arcs_bytes (take k xs)) ≡ 9 * k
length_front xs k h = length_arcs_bytes (take k xs) ∙ ap (λ n. 9 * n) (length-take-le k xs h)

length_pairs_front : (ps : List Pair) (k : ℕ) → k ≤ length ps → length (pairs_bytes (take k ps)) ≡ 18 * k
length_pairs_front ps k h = length_pairs_bytes (take k ps) ∙ ap (λ n. 18 * n) (length-take-le k ps h)

pub fixed_step : (xs : List Arc) (before cur after : List ℕ) (k : ℕ) (o : Option Arc) → o ≡ slice_get xs k → k < length xs → 10 + 9 * length xs ≤ length before → cur ≡ put_at before 10 (arcs_bytes (take k xs)) → after ≡ put_at cur (10 + 9 * k) (found_bytes o) → after ≡ put_at before 10 (arcs_bytes (take (k + 1) xs))
fixed_step xs before cur after k o e h room inv new =
    new
    ∙ ((λ j. put_at (inv j) (10 + 9 * k) (found_bytes (e j)))
    ∙ (put_more before (arcs_bytes (take k xs)) (found_bytes (slice_get xs k)) 10 (10 + 9 * k) (ap (λ n. 10 + n) (length_front xs k (omega arith))) (omega arith)
    ∙ ap (put_at before 10) (sym (arcs_more xs k h))))

length_found : (ps : List Pair) (k : ℕ) → k < length ps → length (found_bytes (arm_at ps k 1)) ≡ 9
length_found [] k h = absurd (omega arith)
length_found (p ∷ ps) zero h = refl
length_found (p ∷ ps) (suc k) h = length_found ps k (omega arith)

pub pairs_step : (ps : List Pair) (before cur mid after : List ℕ) (b k : ℕ) (o q : Option Arc) → o ≡ arm_at ps k 1 → q ≡ arm_at ps k 2 → k < length ps → b + 18 * length ps ≤ length before → cur ≡ put_at before b (pairs_bytes (take k ps)) → mid ≡ put_at cur (b + 18 * k) (found_bytes o) → after ≡ put_at mid (b + 18 * k + 9) (found_bytes q) → after ≡ put_at before b (pairs_bytes (take (k + 1) ps))
pairs_step ps before cur mid after b k o q e f h room inv one two =
    let x = found_bytes (arm_at ps k 1) in
    let y = found_bytes (arm_at ps k 2) in
    let done = pairs_bytes (take k ps) in
    let l = length_pairs_front ps k (omega arith) in
    let l' : b + length (done ++ x) ≡ b + 18 * k + 9 = omega (arith, l, length_found ps k h, length-append done x) in
    let first : mid ≡ put_at before b (done ++ x) =
    one ∙ ((λ j. put_at (inv j) (b + 18 * k) (found_bytes (e j))) ∙ put_more before done x b (b + 18 * k) (ap (λ n. b + n) l) (omega arith)) in
    two
    ∙ ((λ j. put_at (first j) (b + 18 * k + 9) (found_bytes (f j)))
    ∙ (put_more before (done ++ x) y b (b + 18 * k + 9) l' (omega arith)
    ∙ ap (put_at before b) (append_assoc done x y ∙ sym (pairs_more ps k h))))

-- head, fixed arcs and pairs make the message
pub all_written : (c : Case) (before one two after : List ℕ) (n : ℕ) → n ≡ 10 + 9 * length c.fixed + 18 * length c.pairs → n ≤ length before → one ≡ put_at before 0 (head_bytes c.end (length c.fixed) (length c.pairs)) → two ≡ put_at one 10 (arcs_bytes c.fixed) → after ≡ put_at two (10 + 9 * length c.fixed) (pairs_bytes c.pairs) → after ≡ message c ++ drop n before
all_written c before one two after n size fits x y z =
    let h = head_bytes c.end (length c.fixed) (length c.pairs) in
    let fs = arcs_bytes c.fixed in
    let ps = pairs_bytes c.pairs in
    let l = length_arcs_bytes c.fixed in
    let first : two ≡ put_at before 0 (h ++ fs) = y ∙ ((λ j. put_at (x j) 10 fs) ∙ put_more before h fs 0 10 refl (omega arith)) in
    let l' : 0 + length (h ++ fs) ≡ 10 + 9 * length c.fixed = omega (arith, l, length-append h fs) in
    let whole : after ≡ put_at before 0 ((h ++ fs) ++ ps) = z ∙ ((λ j. put_at (first j) (10 + 9 * length c.fixed) ps) ∙ put_more before (h ++ fs) ps 0 (10 + 9 * length c.fixed) l' (omega arith)) in
    let k : 0 + length (message c) ≡ n = omega (arith, message_length c) in
    whole ∙ (ap (put_at before 0) (append_assoc h fs ps) ∙ ap (λ m. message c ++ drop m before) k)

-- as the code has it: e, f and p are the numbers in the head
module _ (c : Case) (before : List ℕ) (f p : ℕ) (fixed : f ≡ length c.fixed) (pairs : p ≡ length c.pairs) where
  pub is_taken : (n : ℕ) → n ≡ length (message c) → (one two after h : List ℕ) (e : ℕ) → e ≡ c.end → h ≡ head_bytes e f p → n ≤ length before → one ≡ put_at before 0 h → two ≡ put_at one 10 (arcs_bytes c.fixed) → after ≡ put_at two (10 + 9 * f) (pairs_bytes c.pairs) → Taken c before after n
  is_taken n whole one two after h e last heads fits x y z =
      let m : n ≡ 10 + 9 * length c.fixed + 18 * length c.pairs = omega (arith, message_length c) in
      let x' : one ≡ put_at before 0 (head_bytes c.end (length c.fixed) (length c.pairs)) = x ∙ ap (put_at before 0) (heads ∙ (λ j. head_bytes (last j) (fixed j) (pairs j))) in
      let z' : after ≡ put_at two (10 + 9 * length c.fixed) (pairs_bytes c.pairs) = z ∙ (λ j. put_at two (10 + 9 * fixed j) (pairs_bytes c.pairs)) in
      record { size = whole; fits = omega arith; front = all_written c before one two after n m fits x' y z' }

  pub is_refused : (n : ℕ) → n ≡ length (message c) → length before < n → Refused c before before (NoRoom n)
  is_refused n whole short = record { short = omega arith; named = λ j. record { layer = 1; cause = 16; place = whole j }; same = refl }
