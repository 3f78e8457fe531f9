-- Tables of arms, and nodes in them.
use Rattle.std.proofs.Common.{◌≡◌, ℕ, zero, suc, ◌+◌, ◌<◌, ◌≤◌, true, false, cond, eqb, leb, List, [], ◌∷◌, ◌++◌, length, get_or, take, drop, set, Some, None, sym, refl, ap, ◌∙◌, subst, arith}
use Rattle.std.proofs.lemmas.Bool.{cond-true, cond-false, and_parts, and_from, le-leb, leb-true, eq-eqb, ne_eqb}
use Rattle.std.proofs.lemmas.List.{length-take-le, length-set, take-append-drop, take-take, take_more, take_more_set, drop_more, drop-set-lt, append_assoc, append-nil, take_all, drop_all}
use Rattle.std.specs.List.{count_by}
use Rattle.std.proofs.lemmas.List.Sums.{count_by-le-length}
use Rattle.std.proofs.lemmas.List.Recursion.{is_count_by}
use Rattle.graph.specs.Graph.{Pair, selection_of}
use Rattle.search.specs.Search.{Node, turned, after, joined, free}
use Rattle.search.proofs.Nodes.{joined_none}
use Rattle.planner.specs.Small.{small}
use Rattle.planner.specs.Nodes.{LacksFirst, LastFirst}

-- no arm is past 2
pub small_set : (s : List ℕ) (i a : ℕ) → a ≤ 2 → small s ≡ true → small (set s i a) ≡ true
small_set [] i a l e = e
small_set (b ∷ s) zero a l e = and_from (leb a 2) (small s) (le-leb a 2 l) (and_parts (leb b 2) (small s) e).1
small_set (b ∷ s) (suc i) a l e = and_from (leb b 2) (small (set s i a)) (and_parts (leb b 2) (small s) e).0 (small_set s i a l (and_parts (leb b 2) (small s) e).1)

pub small_take : (n : ℕ) (s : List ℕ) → small s ≡ true → small (take n s) ≡ true
small_take zero s e = refl
small_take (suc n) [] e = refl
small_take (suc n) (a ∷ s) e = and_from (leb a 2) (small (take n s)) (and_parts (leb a 2) (small s) e).0 (small_take n s (and_parts (leb a 2) (small s) e).1)

pub selection_small : (ps : List Pair) (s : List ℕ) → length ps ≤ length s → small s ≡ true → selection_of ps s ≡ take (length ps) s
selection_small [] s l e = refl
selection_small (p ∷ ps) [] l e = absurd (omega arith)
selection_small (p ∷ ps) (a ∷ s) l e =
    let f = and_parts (leb a 2) (small s) e in
    let h : cond (leb a 2) a 0 ≡ a = cond-true (leb a 2) a 0 f.0 in
    let t : selection_of ps s ≡ take (length ps) s = selection_small ps s (omega arith) f.1 in
    λ j. h j ∷ t j

pub take_set : (n : ℕ) (s : List ℕ) (i a : ℕ) → take n (set s i a) ≡ set (take n s) i a
take_set zero s i a = refl
take_set (suc n) [] i a = refl
take_set (suc n) (b ∷ s) zero a = refl
take_set (suc n) (b ∷ s) (suc i) a = ap (λ t. b ∷ t) (take_set n s i a)

pub take_joined : (n : ℕ) (hs : List ℕ) (x : Node) → take n (joined hs x) ≡ joined (take n hs) x
take_joined zero hs x = refl
take_joined (suc n) [] x = refl
take_joined (suc n) (h ∷ hs) [] = ap (λ t. h ∷ t) (take_joined n hs [])
take_joined (suc n) (h ∷ hs) (a ∷ x) =
    elim (eqb h 0) as (λ b. take (suc n) (cond b (a ∷ joined hs x) (h ∷ joined hs (a ∷ x))) ≡ cond b (a ∷ joined (take n hs) x) (h ∷ joined (take n hs) (a ∷ x)))
    [ true ↦ ap (λ t. a ∷ t) (take_joined n hs x) | false ↦ ap (λ t. h ∷ t) (take_joined n hs (a ∷ x)) ]

-- the node after one: the last first arm is turned, and what lies behind is dropped
pub after_none : (x : Node) → LacksFirst x → after x ≡ None
after_none [] f = refl
after_none (a ∷ x) f = ap (turned a) (after_none x (λ k l. f (suc k) (omega arith))) ∙ cond-false (eqb a 1) (Some (2 ∷ [])) None (ne_eqb a 1 (f 0 (omega arith)))

pub after_last : (x : Node) (i : ℕ) → LastFirst x i → after x ≡ Some (take i x ++ (2 ∷ []))
after_last [] i p = absurd (omega arith)
after_last (a ∷ x) zero p = ap (turned a) (after_none x (λ k l. p.none_after (suc k) (omega arith) (omega arith))) ∙ cond-true (eqb a 1) (Some (2 ∷ [])) None (eq-eqb a 1 p.here)
after_last (a ∷ x) (suc i) p = ap (turned a) (after_last x i (record { within = omega arith; here = p.here; none_after = λ k l m. p.none_after (suc k) (omega arith) (omega arith) }))

-- a node up to a place, with another arm there
pub take_turned : (depth at a : ℕ) (s : List ℕ) → at < depth → depth ≤ length s → take (at + 1) (set s at a) ≡ take at (take depth s) ++ (a ∷ [])
take_turned depth at a s l k = take_more_set s at a (omega arith) ∙ ap (λ (t : List ℕ). t ++ (a ∷ [])) (sym (take-take at depth s (omega arith)))

-- joining holds and a node x, with places so far for the first pairs, and the node's arms that are left
pub record Joining (hs x places : List ℕ) (pair : ℕ) (rest : List ℕ) : Type 0 where
  pub whole : take pair places ++ joined (drop pair places) rest ≡ joined hs x
  pub len : length places ≡ length hs
  pub arms : small hs ≡ true → small x ≡ true → (small places ≡ true) × (small rest ≡ true)

joined_open : (h a : ℕ) (hs x : List ℕ) → h ≡ 0 → joined (h ∷ hs) (a ∷ x) ≡ a ∷ joined hs x
joined_open h a hs x e = cond-true (eqb h 0) (a ∷ joined hs x) (h ∷ joined hs (a ∷ x)) (eq-eqb h 0 e)

joined_held : (h : ℕ) (hs x : List ℕ) → (h ≡ 0 → ⊥) → joined (h ∷ hs) x ≡ h ∷ joined hs x
joined_held h hs [] e = refl
joined_held h hs (a ∷ x) e = cond-false (eqb h 0) (a ∷ joined hs x) (h ∷ joined hs (a ∷ x)) (ne_eqb h 0 e)

pub joining_put : (hs x places : List ℕ) (pair a : ℕ) (rest rest' : List ℕ) → pair < length places → get_or places pair 0 ≡ 0 → rest ≡ a ∷ rest' → Joining hs x places pair rest → Joining hs x (set places pair a) (pair + 1) rest'
joining_put hs x places pair a rest rest' l e f j =
    let p : take (pair + 1) (set places pair a) ++ joined (drop (pair + 1) (set places pair a)) rest' ≡ take pair places ++ (a ∷ joined (drop (pair + 1) places) rest') =
    ap (λ (t : List ℕ). t ++ joined (drop (pair + 1) (set places pair a)) rest') (take_more_set places pair a l)
    ∙ append_assoc (take pair places) (a ∷ []) (joined (drop (pair + 1) (set places pair a)) rest')
    ∙ ap (λ (t : List ℕ). take pair places ++ (a ∷ joined t rest')) (drop-set-lt (pair + 1) places pair a (omega arith)) in
    let q : joined (drop pair places) rest ≡ a ∷ joined (drop (pair + 1) places) rest' =
    ap (λ (t : List ℕ). joined t rest) (drop_more places pair 0 l)
    ∙ ap (λ (t : List ℕ). joined (get_or places pair 0 ∷ drop (pair + 1) places) t) f
    ∙ joined_open (get_or places pair 0) a (drop (pair + 1) places) rest' e in
    record {
      whole = p ∙ ap (λ (t : List ℕ). take pair places ++ t) (sym q) ∙ j.whole;
      len = length-set places pair a ∙ j.len;
      arms = λ u v.
          let w = and_parts (leb a 2) (small rest') (sym (ap small f) ∙ (j.arms u v).1) in
          (small_set places pair a (leb-true a 2 w.0) (j.arms u v).0, w.1);
    }

joining_keep : (hs x places : List ℕ) (pair : ℕ) (rest : List ℕ) → pair < length places → joined (get_or places pair 0 ∷ drop (pair + 1) places) rest ≡ get_or places pair 0 ∷ joined (drop (pair + 1) places) rest → Joining hs x places pair rest → Joining hs x places (pair + 1) rest
joining_keep hs x places pair rest l q j =
    let p : take (pair + 1) places ++ joined (drop (pair + 1) places) rest ≡ take pair places ++ (get_or places pair 0 ∷ joined (drop (pair + 1) places) rest) =
    ap (λ (t : List ℕ). t ++ joined (drop (pair + 1) places) rest) (take_more places pair 0 l)
    ∙ append_assoc (take pair places) (get_or places pair 0 ∷ []) (joined (drop (pair + 1) places) rest) in
    let d : joined (drop pair places) rest ≡ get_or places pair 0 ∷ joined (drop (pair + 1) places) rest = ap (λ (t : List ℕ). joined t rest) (drop_more places pair 0 l) ∙ q in
    record { whole = p ∙ ap (λ (t : List ℕ). take pair places ++ t) (sym d) ∙ j.whole; len = j.len; arms = j.arms }

pub joining_held : (hs x places : List ℕ) (pair : ℕ) (rest : List ℕ) → pair < length places → (get_or places pair 0 ≡ 0 → ⊥) → Joining hs x places pair rest → Joining hs x places (pair + 1) rest
joining_held hs x places pair rest l e j = joining_keep hs x places pair rest l (joined_held (get_or places pair 0) (drop (pair + 1) places) rest e) j

pub joining_past : (hs x places : List ℕ) (pair : ℕ) (rest : List ℕ) → pair < length places → rest ≡ [] → Joining hs x places pair rest → Joining hs x places (pair + 1) rest
joining_past hs x places pair rest l e j =
    joining_keep hs x places pair rest l (subst (λ (t : List ℕ). joined (get_or places pair 0 ∷ drop (pair + 1) places) t ≡ get_or places pair 0 ∷ joined (drop (pair + 1) places) t) (sym e) refl) j

pub joining_end : (hs x places : List ℕ) (pair : ℕ) (rest : List ℕ) → length places ≤ pair → Joining hs x places pair rest → places ≡ joined hs x
joining_end hs x places pair rest l j =
    sym (append-nil places) ∙ ap (λ (t : List ℕ). t ++ []) (sym (take_all pair places l)) ∙ ap (λ (t : List ℕ). take pair places ++ joined t rest) (sym (drop_all pair places l)) ∙ j.whole

pub joining_as : (hs x places places' : List ℕ) (pair : ℕ) (rest rest' : List ℕ) → places ≡ places' → rest ≡ rest' → Joining hs x places' pair rest' → Joining hs x places pair rest
joining_as hs x places places' pair rest rest' e f j = subst (λ (s : List ℕ). Joining hs x s pair rest) (sym e) (subst (λ (y : List ℕ). Joining hs x places' pair y) (sym f) j)

-- the pairs that are not held
pub free_counted : (s : List ℕ) → free s ≡ count_by (λ h. eqb h 0) s
free_counted = is_count_by free (λ h. eqb h 0) refl (λ h hs. refl)

pub free_few : (n : ℕ) (hs : List ℕ) → n ≤ length hs → free (take n hs) ≤ n
free_few n hs l = omega (arith, free_counted (take n hs), count_by-le-length (λ h. eqb h 0) (take n hs), length-take-le n hs l)

-- where no arm is left, the places are those of the whole already
pub joining_stop : (hs x places : List ℕ) (pair : ℕ) (rest : List ℕ) → rest ≡ [] → Joining hs x places pair rest → places ≡ joined hs x
joining_stop hs x places pair rest e j =
    let f : joined (drop pair places) rest ≡ drop pair places = ap (joined (drop pair places)) e ∙ joined_none (drop pair places) in
    sym (take-append-drop pair places) ∙ (ap (λ (t : List ℕ). take pair places ++ t) (sym f) ∙ j.whole)
