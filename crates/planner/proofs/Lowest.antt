-- The lower bound after a search.
use Rattle.std.proofs.Common.{◌≡◌, ℕ, ◌+◌, ◌<◌, Bool, true, false, cond, eqb, List, [], ◌∷◌, ◌++◌, map, length, get_or, take, drop, ℤ, Option, sym, refl, ap, ◌∙◌, subst}
use Rattle.std.proofs.lemmas.List.{append-nil, map-append, take_more}
use Rattle.std.proofs.lemmas.Bool.{eq-eqb, ne_eqb}
use Rattle.graph.specs.Graph.{Case, Ranking, Selection}
use Rattle.bounds.specs.Bounds.{Meaning, smaller}
use Rattle.search.specs.Search.{Node, waiting, bound_at, least_over}
use Rattle.bounds.specs.Told.{RankIs}

alone : Bool → Node → List Node
alone true y = y ∷ []
alone false y = []

map_alone : (b : ℕ) (t : Bool) (y : Node) → map (λ z. b ∷ z) (alone t y) ≡ alone t (b ∷ y)
unfolding alone
map_alone b true y = refl
map_alone b false y = refl

waiting_first : (a : ℕ) (t : Bool) → cond t ((2 ∷ []) ∷ map (λ z. a ∷ z) (waiting [])) (map (λ z. a ∷ z) (waiting [])) ≡ alone t (2 ∷ [])
unfolding alone
waiting_first a true = refl
waiting_first a false = refl

waiting_push : (x : Node) (a : ℕ) → waiting (x ++ (a ∷ [])) ≡ waiting x ++ alone (eqb a 1) (x ++ (2 ∷ []))
waiting_push [] a = waiting_first a (eqb a 1)
waiting_push (b ∷ x) a =
    let h : map (λ z. b ∷ z) (waiting (x ++ (a ∷ []))) ≡ map (λ z. b ∷ z) (waiting x) ++ alone (eqb a 1) (b ∷ (x ++ (2 ∷ []))) =
    ap (map (λ z. b ∷ z)) (waiting_push x a) ∙ map-append (λ z. b ∷ z) (waiting x) (alone (eqb a 1) (x ++ (2 ∷ []))) ∙ ap (λ (u : List Node). map (λ z. b ∷ z) (waiting x) ++ u) (map_alone b (eqb a 1) (x ++ (2 ∷ []))) in
    elim (eqb b 1) as (λ t. cond t ((2 ∷ []) ∷ map (λ z. b ∷ z) (waiting (x ++ (a ∷ [])))) (map (λ z. b ∷ z) (waiting (x ++ (a ∷ [])))) ≡ cond t ((2 ∷ []) ∷ map (λ z. b ∷ z) (waiting x)) (map (λ z. b ∷ z) (waiting x)) ++ alone (eqb a 1) (b ∷ (x ++ (2 ∷ []))))
    [ true ↦ ap (λ (u : List Node). (2 ∷ []) ∷ u) h | false ↦ h ]

waiting_first_arm : (x : Node) (a : ℕ) → a ≡ 1 → waiting (x ++ (a ∷ [])) ≡ waiting x ++ ((x ++ (2 ∷ [])) ∷ [])
unfolding alone
waiting_first_arm x a e = waiting_push x a ∙ ap (λ (t : Bool). waiting x ++ alone t (x ++ (2 ∷ []))) (eq-eqb a 1 e)

waiting_other_arm : (x : Node) (a : ℕ) → (a ≡ 1 → ⊥) → waiting (x ++ (a ∷ [])) ≡ waiting x
unfolding alone
waiting_other_arm x a e = waiting_push x a ∙ ap (λ (t : Bool). waiting x ++ alone t (x ++ (2 ∷ []))) (ne_eqb a 1 e) ∙ append-nil (waiting x)

module _ (c : Case) (r : Ranking) (m : Meaning) (hs : Selection) where
  least_push : (xs : List Node) (y : Node) (b : Option ℤ) → least_over c r m hs (xs ++ (y ∷ [])) b ≡ smaller (least_over c r m hs xs b) (bound_at c r m hs y)
  least_push [] y b = refl
  least_push (x ∷ xs) y b = least_push xs y (smaller b (bound_at c r m hs x))

-- the least of b, the bound of the node x, and those that wait at its first places
pub record Lowering {V : Type 0} (rank : V → ℤ) (c : Case) (r : Ranking) (m : Meaning) (hs : Selection) (x : Node) (b : Option ℤ) (before times : List V) (least : Option V) (at : ℕ) : Type 0 where
  pub so_far : RankIs rank least (least_over c r m hs (x ∷ waiting (take at x)) b)
  pub behind : drop (c.end + 1) times ≡ drop (c.end + 1) before

module _ {V : Type 0} (rank : V → ℤ) (c : Case) (r : Ranking) (m : Meaning) (hs : Selection) (x : Node) (b : Option ℤ) (before : List V) where
  pub lowering_more : (times times' : List V) (least least' found : Option V) (at : ℕ) → at < length x → get_or x at 0 ≡ 1
      → RankIs rank found (bound_at c r m hs (take at x ++ (2 ∷ []))) → drop (c.end + 1) times' ≡ drop (c.end + 1) times
      → ((p q : Option ℤ) → RankIs rank least p → RankIs rank found q → RankIs rank least' (smaller p q))
      → Lowering rank c r m hs x b before times least at → Lowering rank c r m hs x b before times' least' (at + 1)
  lowering_more times times' least least' found at l e f d s o =
      let w : waiting (take (at + 1) x) ≡ waiting (take at x) ++ ((take at x ++ (2 ∷ [])) ∷ []) = ap waiting (take_more x at 0 l) ∙ waiting_first_arm (take at x) (get_or x at 0) e in
      let p : smaller (least_over c r m hs (x ∷ waiting (take at x)) b) (bound_at c r m hs (take at x ++ (2 ∷ []))) ≡ least_over c r m hs (x ∷ waiting (take (at + 1) x)) b =
      sym (least_push c r m hs (x ∷ waiting (take at x)) (take at x ++ (2 ∷ [])) b) ∙ ap (λ (u : List Node). least_over c r m hs (x ∷ u) b) (sym w) in
      record {
        so_far = subst (λ (z : Option ℤ). RankIs rank least' z) p (s (least_over c r m hs (x ∷ waiting (take at x)) b) (bound_at c r m hs (take at x ++ (2 ∷ []))) o.so_far f);
        behind = d ∙ o.behind;
      }

  pub lowering_past : (times : List V) (least : Option V) (at : ℕ) → at < length x → (get_or x at 0 ≡ 1 → ⊥) → Lowering rank c r m hs x b before times least at → Lowering rank c r m hs x b before times least (at + 1)
  lowering_past times least at l e o =
      let w : waiting (take (at + 1) x) ≡ waiting (take at x) = ap waiting (take_more x at 0 l) ∙ waiting_other_arm (take at x) (get_or x at 0) e in
      record { so_far = subst (λ (u : List Node). RankIs rank least (least_over c r m hs (x ∷ u) b)) (sym w) o.so_far; behind = o.behind }

  pub lowering_as : (times times' : List V) (least least' : Option V) (at : ℕ) → times ≡ times' → least ≡ least' → Lowering rank c r m hs x b before times' least' at → Lowering rank c r m hs x b before times least at
  lowering_as times times' least least' at e f o = record { so_far = subst (λ (z : Option V). RankIs rank z (least_over c r m hs (x ∷ waiting (take at x)) b)) (sym f) o.so_far; behind = ap (drop (c.end + 1)) e ∙ o.behind }
