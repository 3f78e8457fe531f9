-- Nodes of the search: what waits after a node, how many nodes are left, and what a node joined to the holds keeps.
use Rattle.std.proofs.Common.{◌≡◌, ℕ, zero, suc, ◌+◌, ◌-◌, ◌^◌, ◌<◌, ◌≤◌, Bool, true, false, cond, eqb, ◌⊎◌, List, [], ◌∷◌, ◌++◌, map, length, get_or, Some, None, Option, refl, ap, inl, inr, arith, pow_pos}
use Rattle.std.specs.List.{AllByRecursion}
use Rattle.std.proofs.ByRecursion.{All-append, All-map, All-weaker}
use Rattle.std.proofs.lemmas.Bool.{cond_both, eqb-true, eqb-false}
use Rattle.graph.specs.Graph.{Arc, Pair, Selection, chosen, selected}
use Rattle.search.specs.Search.{Node, free, joined, turned, after, waiting}
use Rattle.search.specs.Room.{size, room, room_after}

-- some node of the list
abbrev pub Any : (Node → Type 0) → List Node → Type 0
Any P [] = ⊥
Any P (x ∷ xs) = P x ⊎ Any P xs

any_map : (P : Node → Type 0) (a : ℕ) (xs : List Node) → Any P (map (λ y. a ∷ y) xs) → Any (λ y. P (a ∷ y)) xs
any_map P a [] h = h
any_map P a (x ∷ xs) (inl h) = inl h
any_map P a (x ∷ xs) (inr h) = inr (any_map P a xs h)

any_unmap : (P : Node → Type 0) (a : ℕ) (xs : List Node) → Any (λ y. P (a ∷ y)) xs → Any P (map (λ y. a ∷ y) xs)
any_unmap P a [] h = h
any_unmap P a (x ∷ xs) (inl h) = inl h
any_unmap P a (x ∷ xs) (inr h) = inr (any_unmap P a xs h)

-- the next node, or one that waits after it
abbrev pub AnyAfter : (Node → Type 0) → Option Node → Type 0
AnyAfter P None = ⊥
AnyAfter P (Some y) = Any P (y ∷ waiting y)

after_turned : (P : Node → Type 0) (a : ℕ) (b : Bool) (ws : List Node) (o : Option Node) → (Any (λ y. P (a ∷ y)) ws → AnyAfter (λ y. P (a ∷ y)) o) → eqb a 1 ≡ b → Any P (cond b ((2 ∷ []) ∷ map (λ y. a ∷ y) ws) (map (λ y. a ∷ y) ws)) → AnyAfter P (turned a o)
after_turned P a true ws None f e (inl h) = rw e (inl h)
after_turned P a true ws None f e (inr h) = absurd (f (any_map P a ws h))
after_turned P a false ws None f e h = absurd (f (any_map P a ws h))
after_turned P a true ws (Some y) f e (inl h) = inr (rw e (inl h))
after_turned P a true ws (Some y) f e (inr h) = elim (f (any_map P a ws h)) [ inl k ↦ inl k | inr k ↦ inr (rw e (inr (any_unmap P a (waiting y) k))) ]
after_turned P a false ws (Some y) f e h = elim (f (any_map P a ws h)) [ inl k ↦ inl k | inr k ↦ inr (rw e (any_unmap P a (waiting y) k)) ]

-- what waits after x is the node after x, or waits after that
pub after_covers : (x : Node) (P : Node → Type 0) → Any P (waiting x) → AnyAfter P (after x)
after_covers [] P h = h
after_covers (a ∷ x) P h = after_turned P a (eqb a 1) (waiting x) (after x) (after_covers x (λ y. P (a ∷ y))) refl h

-- one arm more: what waited still waits, and the other arm does
waits_under : (P : Node → Type 0) (a : ℕ) (ws vs : List Node) (b : Bool) → (Any (λ y. P (a ∷ y)) ws → Any (λ y. P (a ∷ y)) vs) → Any P (cond b ((2 ∷ []) ∷ map (λ y. a ∷ y) ws) (map (λ y. a ∷ y) ws)) → Any P (cond b ((2 ∷ []) ∷ map (λ y. a ∷ y) vs) (map (λ y. a ∷ y) vs))
waits_under P a ws vs true f (inl h) = inl h
waits_under P a ws vs true f (inr h) = inr (any_unmap P a vs (f (any_map P a ws h)))
waits_under P a ws vs false f h = any_unmap P a vs (f (any_map P a ws h))

pub still_waits : (x : Node) (P : Node → Type 0) → Any P (waiting x) → Any P (waiting (x ++ (1 ∷ [])))
still_waits [] P h = absurd h
still_waits (a ∷ x) P h = waits_under P a (waiting x) (waiting (x ++ (1 ∷ []))) (eqb a 1) (still_waits x (λ y. P (a ∷ y))) h

waits_more : (P : Node → Type 0) (a : ℕ) (vs : List Node) (b : Bool) → Any (λ y. P (a ∷ y)) vs → Any P (cond b ((2 ∷ []) ∷ map (λ y. a ∷ y) vs) (map (λ y. a ∷ y) vs))
waits_more P a vs true h = inr (any_unmap P a vs h)
waits_more P a vs false h = any_unmap P a vs h

pub other_waits : (x : Node) (P : Node → Type 0) → P (x ++ (2 ∷ [])) → Any P (waiting (x ++ (1 ∷ [])))
other_waits [] P h = inl h
other_waits (a ∷ x) P h = waits_more P a (waiting (x ++ (1 ∷ []))) (eqb a 1) (other_waits x (λ y. P (a ∷ y)) h)

-- how many nodes are left
pub size_is : (q : ℕ) → size q ≡ 2 ^ (q + 1) - 1
unfolding size
size_is zero = refl
size_is (suc q) =
    let h : size q ≡ 2 ^ (q + 1) - 1 = size_is q in
    let e : suc q + 1 ≡ suc (q + 1) = omega arith in
    let p : 0 < 2 ^ (q + 1) = pow_pos (q + 1) in
    rw e (omega arith)

pub room_none : (q : ℕ) → room q [] ≡ size q
unfolding room
room_none q = refl

pub size_some : (q : ℕ) → 1 ≤ size q
unfolding size
size_some zero = omega arith
size_some (suc q) = omega arith

pub room_some : (q : ℕ) (x : Node) → length x ≤ q → 1 ≤ room q x
unfolding room
room_some q [] l = size_some q
room_some zero (a ∷ x) l = absurd (omega arith)
room_some (suc q) (a ∷ x) l = let h : 1 ≤ room q x = room_some q x (omega arith) in cond_both (eqb a 1) (room q x + size q) (room q x) (λ n. 1 ≤ n) (λ e. omega arith) (λ e. h)

room_turned : (q a : ℕ) (b : Bool) (x : Node) (o : Option Node) → room_after q o + 1 ≤ room q x → eqb a 1 ≡ b → room_after (suc q) (turned a o) + 1 ≤ cond b (room q x + size q) (room q x)
unfolding room
room_turned q a true x None h e = rw e (omega arith)
room_turned q a false x None h e = rw e h
room_turned q a true x (Some y) h e = rw e (omega arith)
room_turned q a false x (Some y) h e = rw e h

pub room_after_lem : (q : ℕ) (x : Node) → length x ≤ q → room_after q (after x) + 1 ≤ room q x
unfolding room
room_after_lem q [] l = size_some q
room_after_lem zero (a ∷ x) l = absurd (omega arith)
room_after_lem (suc q) (a ∷ x) l = room_turned q a (eqb a 1) x (after x) (room_after_lem q x (omega arith)) refl

pub room_branch : (q : ℕ) (x : Node) → length x < q → room q (x ++ (1 ∷ [])) + 1 ≤ room q x
unfolding room size
room_branch zero [] l = absurd (omega arith)
room_branch (suc q) [] l = omega arith
room_branch zero (a ∷ x) l = absurd (omega arith)
room_branch (suc q) (a ∷ x) l =
    let h : room q (x ++ (1 ∷ [])) + 1 ≤ room q x = room_branch q x (omega arith) in
    elim (eqb a 1) as (λ b. cond b (room q (x ++ (1 ∷ [])) + size q) (room q (x ++ (1 ∷ []))) + 1 ≤ cond b (room q x + size q) (room q x)) [ true ↦ omega arith | false ↦ h ]

-- the arms of a node
abbrev pub Armed : Node → Type 0
Armed x = AllByRecursion (λ a. (a ≡ 1) ⊎ (a ≡ 2)) x

-- a node that can be joined to holds with q pairs free
abbrev pub Proper : ℕ → Option Node → Type 0
Proper q None = Unit {0}
Proper q (Some y) = Armed y × (length y ≤ q)

proper_turned : (q a : ℕ) (b : Bool) (o : Option Node) → (a ≡ 1) ⊎ (a ≡ 2) → Proper q o → eqb a 1 ≡ b → Proper (suc q) (turned a o)
proper_turned q a true None m h e = rw e ((inr refl, tt), omega arith)
proper_turned q a false None m h e = rw e tt
proper_turned q a true (Some y) m h e = ((m, h.0), omega arith)
proper_turned q a false (Some y) m h e = ((m, h.0), omega arith)

pub proper_after : (q : ℕ) (x : Node) → Armed x → length x ≤ q → Proper q (after x)
proper_after q [] m l = tt
proper_after zero (a ∷ x) m l = absurd (omega arith)
proper_after (suc q) (a ∷ x) m l = proper_turned q a (eqb a 1) (after x) m.0 (proper_after q x m.1 (omega arith)) refl

-- holds and a node
pub joined_none : (hs : Selection) → joined hs [] ≡ hs
joined_none [] = refl
joined_none (h ∷ hs) = ap (λ s. h ∷ s) (joined_none hs)

pub length_joined : (hs : Selection) (x : Node) → length (joined hs x) ≡ length hs
length_joined [] x = refl
length_joined (h ∷ hs) [] = ap suc (length_joined hs [])
length_joined (h ∷ hs) (a ∷ x) =
    cond_both (eqb h 0) (a ∷ joined hs x) (h ∷ joined hs (a ∷ x)) (λ s. length s ≡ suc (length hs)) (λ e. ap suc (length_joined hs x)) (λ e. ap suc (length_joined hs (a ∷ x)))

arm_small : (a : ℕ) → (a ≡ 1) ⊎ (a ≡ 2) → a ≤ 2
arm_small a m = omega arith

pub joined_small : (hs : Selection) (x : Node) → AllByRecursion (λ a. a ≤ 2) hs → Armed x → AllByRecursion (λ a. a ≤ 2) (joined hs x)
joined_small [] x s m = tt
joined_small (h ∷ hs) [] s m = (s.0, joined_small hs [] s.1 m)
joined_small (h ∷ hs) (a ∷ x) s m =
    cond_both (eqb h 0) (a ∷ joined hs x) (h ∷ joined hs (a ∷ x)) (λ t. AllByRecursion (λ b. b ≤ 2) t)
    (λ e. (arm_small a m.0, joined_small hs x s.1 m.1))
    (λ e. (s.0, joined_small hs (a ∷ x) s.1 m))

-- a full node decides each pair
held_small : (h : ℕ) → h ≤ 2 → eqb h 0 ≡ false → (h ≡ 1) ⊎ (h ≡ 2)
held_small zero l e = absurd (eqb-false 0 0 e refl)
held_small (suc zero) l e = inl refl
held_small (suc (suc zero)) l e = inr refl
held_small (suc (suc (suc h))) l e = absurd (omega arith)

pub joined_full : (hs : Selection) (x : Node) → AllByRecursion (λ a. a ≤ 2) hs → Armed x → free hs ≤ length x → AllByRecursion (λ a. (a ≡ 1) ⊎ (a ≡ 2)) (joined hs x)
joined_full [] x s m l = tt
joined_full (h ∷ hs) [] s m l =
    (elim (eqb h 0) as (λ b. eqb h 0 ≡ b → cond b (1 + free hs) (free hs) ≤ 0 → AllByRecursion (λ a. (a ≡ 1) ⊎ (a ≡ 2)) (h ∷ joined hs []))
    [ true ↦ λ e k. absurd (omega arith) | false ↦ λ e k. (held_small h s.0 e, joined_full hs [] s.1 m k) ]) refl l
joined_full (h ∷ hs) (a ∷ x) s m l =
    (elim (eqb h 0) as (λ b. eqb h 0 ≡ b → cond b (1 + free hs) (free hs) ≤ suc (length x) → AllByRecursion (λ a. (a ≡ 1) ⊎ (a ≡ 2)) (cond b (a ∷ joined hs x) (h ∷ joined hs (a ∷ x))))
    [ true ↦ λ e k. (m.0, joined_full hs x s.1 m.1 (omega arith)) | false ↦ λ e k. (held_small h s.0 e, joined_full hs (a ∷ x) s.1 m k) ]) refl l

-- holds stay
pub joined_held : (hs : Selection) (x : Node) (i : ℕ) → (get_or hs i 0 ≡ 0 → ⊥) → get_or (joined hs x) i 0 ≡ get_or hs i 0
joined_held [] x i n = refl
joined_held (h ∷ hs) [] zero n = refl
joined_held (h ∷ hs) [] (suc i) n = joined_held hs [] i n
joined_held (h ∷ hs) (a ∷ x) zero n = cond_both (eqb h 0) (a ∷ joined hs x) (h ∷ joined hs (a ∷ x)) (λ t. get_or t 0 0 ≡ h) (λ e. absurd (n (eqb-true h 0 e))) (λ e. refl)
joined_held (h ∷ hs) (a ∷ x) (suc i) n =
    cond_both (eqb h 0) (a ∷ joined hs x) (h ∷ joined hs (a ∷ x)) (λ t. get_or t (suc i) 0 ≡ get_or hs i 0) (λ e. joined_held hs x i n) (λ e. joined_held hs (a ∷ x) i n)

-- parts of a list
pub all_left : (P : Arc → Type 0) (xs ys : List Arc) → AllByRecursion P (xs ++ ys) → AllByRecursion P xs
all_left P [] ys h = tt
all_left P (x ∷ xs) ys h = (h.0, all_left P xs ys h.1)

pub all_right : (P : Arc → Type 0) (xs ys : List Arc) → AllByRecursion P (xs ++ ys) → AllByRecursion P ys
all_right P [] ys h = h
all_right P (x ∷ xs) ys h = all_right P xs ys h.1

-- what keeps a node that is not full keeps one of its two branches
module _ (K : Arc → Type 0) where
  abbrev Arm : Pair → Type 0
  Arm p = K p.first ⊎ K p.second

  abbrev Branched : List Pair → Selection → Selection → Type 0
  Branched ps s s' = AllByRecursion K (selected s ps) ⊎ AllByRecursion K (selected s' ps)

  branched_under : (a : ℕ) (p : Pair) (ps : List Pair) (s s' : Selection) → AllByRecursion K (chosen a p) → Branched ps s s' → Branched (p ∷ ps) (a ∷ s) (a ∷ s')
  branched_under a p ps s s' k (inl h) = inl (All-append K (chosen a p) (selected s ps) k h)
  branched_under a p ps s s' k (inr h) = inr (All-append K (chosen a p) (selected s' ps) k h)

  branched_here : (p : Pair) (ps : List Pair) (s : Selection) → Arm p → AllByRecursion K (selected s ps) → Branched (p ∷ ps) (1 ∷ s) (2 ∷ s)
  branched_here p ps s (inl h) k = inl (h, k)
  branched_here p ps s (inr h) k = inr (h, k)

  pub branched : (ps : List Pair) (hs : Selection) (x : Node) → length hs ≡ length ps → length x < free hs → AllByRecursion Arm ps → AllByRecursion K (selected (joined hs x) ps) → Branched ps (joined hs (x ++ (1 ∷ []))) (joined hs (x ++ (2 ∷ [])))
  branched ps [] x e l m k = absurd (omega arith)
  branched [] (h ∷ hs) x e l m k = absurd (omega arith)
  branched (p ∷ ps) (h ∷ hs) [] e l m k =
      (elim (eqb h 0) as (λ b. 0 < cond b (1 + free hs) (free hs) → Branched (p ∷ ps) (cond b (1 ∷ joined hs []) (h ∷ joined hs (1 ∷ []))) (cond b (2 ∷ joined hs []) (h ∷ joined hs (2 ∷ [])))) [
        | true ↦ λ l'. branched_here p ps (joined hs []) m.0 (all_right K (chosen h p) (selected (joined hs []) ps) k)
        | false ↦ λ l'. branched_under h p ps (joined hs (1 ∷ [])) (joined hs (2 ∷ [])) (all_left K (chosen h p) (selected (joined hs []) ps) k) (branched ps hs [] (omega arith) l' m.1 (all_right K (chosen h p) (selected (joined hs []) ps) k))
      ]) l
  branched (p ∷ ps) (h ∷ hs) (a ∷ x) e l m k =
      (elim (eqb h 0) as (λ b. suc (length x) < cond b (1 + free hs) (free hs) → AllByRecursion K (selected (cond b (a ∷ joined hs x) (h ∷ joined hs (a ∷ x))) (p ∷ ps)) → Branched (p ∷ ps) (cond b (a ∷ joined hs (x ++ (1 ∷ []))) (h ∷ joined hs (a ∷ (x ++ (1 ∷ []))))) (cond b (a ∷ joined hs (x ++ (2 ∷ []))) (h ∷ joined hs (a ∷ (x ++ (2 ∷ [])))))) [
        | true ↦ λ l' k'. branched_under a p ps (joined hs (x ++ (1 ∷ []))) (joined hs (x ++ (2 ∷ []))) (all_left K (chosen a p) (selected (joined hs x) ps) k') (branched ps hs x (omega arith) (omega arith) m.1 (all_right K (chosen a p) (selected (joined hs x) ps) k'))
        | false ↦ λ l' k'. branched_under h p ps (joined hs (a ∷ (x ++ (1 ∷ [])))) (joined hs (a ∷ (x ++ (2 ∷ [])))) (all_left K (chosen h p) (selected (joined hs (a ∷ x)) ps) k') (branched ps hs (a ∷ x) (omega arith) l' m.1 (all_right K (chosen h p) (selected (joined hs (a ∷ x)) ps) k'))
      ]) l k

-- what waits after an armed node is armed
pub waiting_armed : (x : Node) → Armed x → AllByRecursion Armed (waiting x)
waiting_armed [] m = tt
waiting_armed (a ∷ x) m =
    let h : AllByRecursion Armed (map (λ y. a ∷ y) (waiting x)) = All-map Armed (λ y. a ∷ y) (waiting x) (All-weaker Armed (λ y. Armed (a ∷ y)) (λ y k. (m.0, k)) (waiting x) (waiting_armed x m.1)) in
    cond_both (eqb a 1) ((2 ∷ []) ∷ map (λ y. a ∷ y) (waiting x)) (map (λ y. a ∷ y) (waiting x)) (λ ws. AllByRecursion Armed ws) (λ e. ((inr refl, tt), h)) (λ e. h)

pub any_weaker : (A P Q : Node → Type 0) → ((y : Node) → A y → P y → Q y) → (xs : List Node) → AllByRecursion A xs → Any P xs → Any Q xs
any_weaker A P Q f [] a h = h
any_weaker A P Q f (x ∷ xs) a (inl h) = inl (f x a.0 h)
any_weaker A P Q f (x ∷ xs) a (inr h) = inr (any_weaker A P Q f xs a.1 h)
