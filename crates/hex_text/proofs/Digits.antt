-- Hexadecimal text, two digits at a time. Assumes nothing.
use Rattle.std.proofs.Common.{◌≡◌, ℕ, zero, suc, ◌+◌, ◌*◌, ◌/◌, ◌%◌, ◌<◌, List, [], ◌∷◌, ◌++◌, length, get_or, take, Some, None, Err, Option, sym, refl, ap, ◌∙◌, subst, arith}
use Rattle.std.specs.Prelude.{All, IsSome}
use Rattle.std.proofs.lemmas.List.{take_more, append_assoc}
use Rattle.std.proofs.lemmas.List.Elements.{All-append, All-cons, All-nil}
use Rattle.std.proofs.lemmas.Bool.Decides.{nat_tests}
use Rattle.hex_text.specs.Hex.{hex_value, hex_digit, hex_byte, hex_bytes, hex_text, HexRead, AfterDigits}
use Rattle.hex_text.specs.declared.text.HexFault.{HexFault}
use Rattle.hex_text.specs.declared.text.HexFault.TheVariants.{Digit}

never : {X : Type 0} (x : X) → ◌≡◌ {A = Option X} None (Some x) → ⊥
never x e = cc

-- ---- one byte more

byte_push : (a b : Option ℕ) (o p : Option (List ℕ)) (bs : List ℕ) (z : ℕ) → ((cs : List ℕ) → o ≡ Some cs → p ≡ Some (cs ++ (z ∷ []))) → hex_byte a b o ≡ Some bs → hex_byte a b p ≡ Some (bs ++ (z ∷ []))
byte_push None b o p bs z f e = absurd (never bs e)
byte_push (Some h) None o p bs z f e = absurd (never bs e)
byte_push (Some h) (Some l) None p bs z f e = absurd (never bs e)
byte_push (Some h) (Some l) (Some cs) p bs z f e =
    let q : (16 * h + l) ∷ cs ≡ bs = cc in
    ap (hex_byte (Some h) (Some l)) (f cs refl) ∙ ap (λ (l : List ℕ). Some (l ++ (z ∷ []))) q

pub hex_push : (xs bs : List ℕ) (h l u v : ℕ) → hex_bytes xs ≡ Some bs → hex_value h ≡ Some u → hex_value l ≡ Some v → hex_bytes (xs ++ (h ∷ l ∷ [])) ≡ Some (bs ++ ((16 * u + v) ∷ []))
hex_push [] bs h l u v e p q =
    let z : [] ≡ bs = cc in
    ap (λ a. hex_byte a (hex_value l) (Some [])) p ∙ (ap (λ b. hex_byte (Some u) b (Some [])) q ∙ ap (λ (l : List ℕ). Some (l ++ ((16 * u + v) ∷ []))) z)
hex_push (x ∷ []) bs h l u v e p q = absurd (never bs e)
hex_push (x ∷ y ∷ xs) bs h l u v e p q = byte_push (hex_value x) (hex_value y) (hex_bytes xs) (hex_bytes (xs ++ (h ∷ l ∷ []))) bs (16 * u + v) (λ cs k. hex_push xs cs h l u v k p q) e

take_two : (xs : List ℕ) (k : ℕ) → k + 1 < length xs → take (k + 2) xs ≡ take k xs ++ (get_or xs k 0 ∷ get_or xs (k + 1) 0 ∷ [])
take_two xs k h =
    let e : k + 2 ≡ (k + 1) + 1 = omega arith in
    ap (λ n. take n xs) e
    ∙ (take_more xs (k + 1) 0 h
    ∙ (ap (λ l. l ++ (get_or xs (k + 1) 0 ∷ [])) (take_more xs k 0 (omega arith)) ∙ append_assoc (take k xs) (get_or xs k 0 ∷ []) (get_or xs (k + 1) 0 ∷ [])))

-- after the digits of k bytes, those of one more
pub hex_more : (xs bs : List ℕ) (k u v : ℕ) → 2 * k + 1 < length xs → hex_bytes (take (2 * k) xs) ≡ Some bs → hex_value (get_or xs (2 * k) 0) ≡ Some u → hex_value (get_or xs (2 * k + 1) 0) ≡ Some v
    → hex_bytes (take (2 * (k + 1)) xs) ≡ Some (bs ++ ((16 * u + v) ∷ []))
hex_more xs bs k u v h e p q =
    let n : 2 * (k + 1) ≡ 2 * k + 2 = omega arith in
    ap (λ m. hex_bytes (take m xs)) n ∙ (ap hex_bytes (take_two xs (2 * k) h) ∙ hex_push (take (2 * k) xs) bs (get_or xs (2 * k) 0) (get_or xs (2 * k + 1) 0) u v e p q)

-- ---- a text that is none

byte_none : (a b : Option ℕ) → hex_byte a b None ≡ None
byte_none None b = refl
byte_none (Some h) None = refl
byte_none (Some h) (Some l) = refl

low_none : (a : Option ℕ) (o : Option (List ℕ)) → hex_byte a None o ≡ None
low_none None o = refl
low_none (Some h) o = refl

pub hex_bad : (t : List ℕ) (k : ℕ) → k < length t → hex_value (get_or t k 0) ≡ None → hex_bytes t ≡ None
hex_bad [] k h e = absurd (omega arith)
hex_bad (x ∷ []) k h e = refl
hex_bad (x ∷ y ∷ t) zero h e = ap (λ a. hex_byte a (hex_value y) (hex_bytes t)) e
hex_bad (x ∷ y ∷ t) (suc zero) h e = ap (λ b. hex_byte (hex_value x) b (hex_bytes t)) e ∙ low_none (hex_value x) (hex_bytes t)
hex_bad (x ∷ y ∷ t) (suc (suc k)) h e = ap (hex_byte (hex_value x) (hex_value y)) (hex_bad t k (omega arith) e) ∙ byte_none (hex_value x) (hex_value y)

pub hex_odd : (t : List ℕ) → length t % 2 ≡ 1 → hex_bytes t ≡ None
hex_odd [] e = absurd (omega arith)
hex_odd (x ∷ []) e = refl
hex_odd (x ∷ y ∷ t) e = ap (hex_byte (hex_value x) (hex_value y)) (hex_odd t (omega arith)) ∙ byte_none (hex_value x) (hex_value y)

-- the refusal of a text that has no digit at an index
pub read_bad : (t ds : List ℕ) (k : ℕ) (f : HexFault) → ds ≡ t → f ≡ Digit k → k < length ds → hex_value (get_or ds k 0) ≡ None → HexRead t (Err f)
read_bad t ds k f e d h n =
    subst (λ (g : HexFault). HexRead t (Err g)) (sym d)
    (subst (λ (s : List ℕ). (hex_bytes s ≡ None) × (hex_value (get_or s k 0) ≡ None) × (k < length s)) e (hex_bad ds k h n, n, h))

-- ---- the digits before one that is none

abbrev pub IsDigit : ℕ → Type 0
IsDigit c = IsSome (hex_value c)

is_digit : (c v : ℕ) → hex_value c ≡ Some v → IsDigit c
is_digit c v e = rw e refl

byte_digits : (h l : ℕ) (a b : Option ℕ) (o : Option (List ℕ)) (t bs : List ℕ) → hex_value h ≡ a → hex_value l ≡ b → ((cs : List ℕ) → o ≡ Some cs → All IsDigit t) → hex_byte a b o ≡ Some bs → All IsDigit (h ∷ l ∷ t)
byte_digits h l None b o t bs p q f e = absurd (never bs e)
byte_digits h l (Some u) None o t bs p q f e = absurd (never bs e)
byte_digits h l (Some u) (Some v) None t bs p q f e = absurd (never bs e)
byte_digits h l (Some u) (Some v) (Some cs) t bs p q f e = All-cons IsDigit h (l ∷ t) (is_digit h u p) (All-cons IsDigit l t (is_digit l v q) (f cs refl))

-- a text that writes bytes has digits alone
pub all_digits : (t bs : List ℕ) → hex_bytes t ≡ Some bs → All IsDigit t
all_digits [] bs e = All-nil IsDigit
all_digits (x ∷ []) bs e = absurd (never bs e)
all_digits (x ∷ y ∷ t) bs e = byte_digits x y (hex_value x) (hex_value y) (hex_bytes t) t bs refl refl (λ cs k. all_digits t cs k) e

-- one digit more
pub one_digit_more : (xs : List ℕ) (k v : ℕ) → k < length xs → All IsDigit (take k xs) → hex_value (get_or xs k 0) ≡ Some v → All IsDigit (take (k + 1) xs)
one_digit_more xs k v h a e =
    subst (All IsDigit) (sym (take_more xs k 0 h)) (All-append IsDigit (take k xs) (get_or xs k 0 ∷ []) a (All-cons IsDigit (get_or xs k 0) [] (is_digit (get_or xs k 0) v e) (All-nil IsDigit)))

-- the refusal at an index after digits
pub after_digits : (t ds : List ℕ) (k : ℕ) (f : HexFault) → ds ≡ t → f ≡ Digit k → All IsDigit (take k ds) → AfterDigits t f
after_digits t ds k f e d a =
    subst (AfterDigits t) (sym d) (subst (λ (s : List ℕ). All IsDigit (take k s)) e a)

-- ---- what is written

digit_value : (v : ℕ) → v < 16 → hex_value (hex_digit v) ≡ Some v
digit_value v h = grind (arith, nat_tests)

-- what is written reads back the same
pub hex_law : (bs : List ℕ) → ((i : ℕ) → get_or bs i 0 < 256) → hex_bytes (hex_text bs) ≡ Some bs
hex_law [] f = refl
hex_law (b ∷ bs) f =
    let h : b < 256 = f 0 in
    let e : 16 * (b / 16) + b % 16 ≡ b = omega arith in
    ap (λ o. hex_byte o (hex_value (hex_digit (b % 16))) (hex_bytes (hex_text bs))) (digit_value (b / 16) (omega arith))
    ∙ (ap (λ o. hex_byte (Some (b / 16)) o (hex_bytes (hex_text bs))) (digit_value (b % 16) (omega arith))
    ∙ (ap (hex_byte (Some (b / 16)) (Some (b % 16))) (hex_law bs (λ k. f (suc k))) ∙ ap (λ (n : ℕ). Some (n ∷ bs)) e))

text_append : (xs ys : List ℕ) → hex_text (xs ++ ys) ≡ hex_text xs ++ hex_text ys
text_append [] ys = refl
text_append (x ∷ xs) ys = ap (λ l. hex_digit (x / 16) ∷ hex_digit (x % 16) ∷ l) (text_append xs ys)

pub text_more : (xs : List ℕ) (k : ℕ) → k < length xs → hex_text (take (k + 1) xs) ≡ hex_text (take k xs) ++ (hex_digit (get_or xs k 0 / 16) ∷ hex_digit (get_or xs k 0 % 16) ∷ [])
text_more xs k h = ap hex_text (take_more xs k 0 h) ∙ text_append (take k xs) (get_or xs k 0 ∷ [])

pub digit_ascii : (d v : ℕ) → v < 16 → d ≡ hex_digit v → d < 128
digit_ascii d v h e = grind (arith, nat_tests)

-- one byte more is written, a digit at a time
pub written_more : (xs : List ℕ) (k d e : ℕ) (t u v x y : List ℕ) → k < length xs → t ≡ hex_text (take k xs) → u ≡ t ++ x → x ≡ d ∷ [] → v ≡ u ++ y → y ≡ e ∷ [] → d ≡ hex_digit (get_or xs k 0 / 16) → e ≡ hex_digit (get_or xs k 0 % 16) → v ≡ hex_text (take (k + 1) xs)
written_more xs k d e t u v x y h it iu ix iv iy id ie =
    let two : (t ++ (d ∷ [])) ++ (e ∷ []) ≡ t ++ (d ∷ e ∷ []) = append_assoc t (d ∷ []) (e ∷ []) in
    let more = text_more xs k h in cc
