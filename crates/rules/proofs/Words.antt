-- Laws of fields and words: what a store leaves, and that digits and numbers are inverse.
use mathlib.Core.Path.{◌≡◌, refl, sym, ap, ap₂, ◌∙◌}
use mathlib.Core.Logic.{◌≢◌, ◌⊎◌, inl, inr}
use mathlib.Core.List.{List, [], ◌∷◌, ◌++◌}
use Prim.Native.Nat.{ℕ, zero, suc, ◌+◌, ◌*◌, ◌/◌, ◌%◌, ◌^◌, ◌≤◌, ◌<◌}
use native.Mathlib.Nat.{mod-lt, zero-lt-suc, le_of_suc-le-suc, not-suc-le-zero, div-lt_iff_lt-mul, div-add-mod', pow-suc, add-zero, zero-add, add-suc, suc-add}
use native.Mathlib.Decide.{dec_lt}
use native.Mathlib.Omega.{arith}
use lib.Arith.{digits_lt}
use lib.Bits.{bit_xor, xor_block}
use lib.ListN.{length, take, drop, get_or, set, replicate, length-set}
use lib.Seq.{sets, length-sets, get_or-set_same, get_or-set_other, get_or-take, get_or-drop, ext_get_or, length-take-le}
use Rattle.rules.specs.Words.{Bytes, digits, field, number, put, word}

-- ---- numbers

pub number-cong : (k : ℕ) (f g : ℕ → ℕ) → ((i : ℕ) → i < k → f i ≡ g i) → number k f ≡ number k g
unfolding number
number-cong zero f g h = refl
number-cong (suc k) f g h =
    ap₂ (λ (x y : ℕ). x * 256 + y) (number-cong k (λ i. f (suc i)) (λ i. g (suc i)) (λ i l. h (suc i) (omega arith))) (h 0 (omega arith))

pub number-xor : (k : ℕ) (f g : ℕ → ℕ) → ((i : ℕ) → f i < 256) → ((i : ℕ) → g i < 256)
    → bit_xor (number k f) (number k g) ≡ number k (λ i. bit_xor (f i) (g i))
unfolding number
number-xor zero f g hf hg = refl
number-xor (suc k) f g hf hg =
    xor_block 8 (number k (λ i. f (suc i))) (number k (λ i. g (suc i))) (f 0) (g 0) (hf 0) (hg 0)
    ∙ ap (λ (x : ℕ). x * 256 + bit_xor (f 0) (g 0)) (number-xor k (λ i. f (suc i)) (λ i. g (suc i)) (λ i. hf (suc i)) (λ i. hg (suc i)))

pub number-zero : (k : ℕ) (f : ℕ → ℕ) → ((i : ℕ) → i < k → f i ≡ 0) → number k f ≡ 0
unfolding number
number-zero zero f h = refl
number-zero (suc k) f h = rw (number-zero k (λ i. f (suc i)) (λ i l. h (suc i) (omega arith)), h 0 (omega arith))

pub number-inj : (k : ℕ) (f g : ℕ → ℕ) → ((i : ℕ) → f i < 256) → ((i : ℕ) → g i < 256) → number k f ≡ number k g → (i : ℕ) → i < k → f i ≡ g i
unfolding number
number-inj zero f g hf hg e i l = absurd (not-suc-le-zero l)
number-inj (suc k) f g hf hg e zero l = let a = hf 0 in let b = hg 0 in omega arith
number-inj (suc k) f g hf hg e (suc i) l =
    number-inj k (λ j. f (suc j)) (λ j. g (suc j)) (λ j. hf (suc j)) (λ j. hg (suc j)) (let a = hf 0 in let b = hg 0 in omega arith) i (le_of_suc-le-suc l)

pub number_lt : (k : ℕ) (f : ℕ → ℕ) → ((i : ℕ) → f i < 256) → number k f < 256 ^ k
unfolding number
number_lt zero f h = zero-lt-suc 0
number_lt (suc k) f h = rw pow-suc (digits_lt (number_lt k (λ i. f (suc i)) (λ i. h (suc i))) (h 0))

pub number_digits : (k w : ℕ) → w < 256 ^ k → number k (λ i. get_or (digits k w) i 0) ≡ w
unfolding number digits
number_digits zero w h = omega arith
number_digits (suc k) w h =
    ap (λ (x : ℕ). x * 256 + w % 256) (number_digits k (w / 256) ((div-lt_iff_lt-mul (zero-lt-suc 255)).1 (rw pow-suc at h)))
    ∙ div-add-mod' w 256

pub length_digits : (k w : ℕ) → length (digits k w) ≡ k
unfolding digits
length_digits zero w = refl
length_digits (suc k) w = ap suc (length_digits k (w / 256))

pub digits-byte : (k w i : ℕ) → get_or (digits k w) i 0 < 256
unfolding digits
digits-byte zero w i = zero-lt-suc 255
digits-byte (suc k) w zero = mod-lt w (zero-lt-suc 255)
digits-byte (suc k) w (suc i) = digits-byte k (w / 256) i

-- ---- a run of stores

pub sets-before : (l : List ℕ) (i : ℕ) (vs : List ℕ) (j : ℕ) → j < i → get_or (sets l i vs) j 0 ≡ get_or l j 0
sets-before l i [] j h = refl
sets-before l i (v ∷ vs) j h = sets-before (set l i v) (suc i) vs j (omega arith) ∙ get_or-set_other l i j v 0 (omega arith)

pub sets-after : (l : List ℕ) (i : ℕ) (vs : List ℕ) (j : ℕ) → i + length vs ≤ j → get_or (sets l i vs) j 0 ≡ get_or l j 0
sets-after l i [] j h = refl
sets-after l i (v ∷ vs) j h = sets-after (set l i v) (suc i) vs j (omega arith) ∙ get_or-set_other l i j v 0 (omega arith)

pub sets-in : (l : List ℕ) (i : ℕ) (vs : List ℕ) (j : ℕ) → i + length vs ≤ length l → j < length vs → get_or (sets l i vs) (i + j) 0 ≡ get_or vs j 0
sets-in l i [] j h k = absurd (not-suc-le-zero k)
sets-in l i (v ∷ vs) zero h k =
    rw (add-zero i) (sets-before (set l i v) (suc i) vs i (omega arith) ∙ get_or-set_same l i v 0 (omega arith))
sets-in l i (v ∷ vs) (suc j) h k =
    rw (add-suc i j, ← suc-add i j) (sets-in (set l i v) (suc i) vs j (rw (length-set l i v) (omega arith)) (le_of_suc-le-suc k))

-- ---- load and store

pub length-put : (p : List ℕ) (a w : ℕ) → length (put p a w) ≡ length p
unfolding put
length-put p a w = length-sets p a (digits 8 w)

-- a byte outside the word stored is as before; one inside is the word's
pub put-out : (p : List ℕ) (a w i : ℕ) → (i < a) ⊎ (a + 8 ≤ i) → get_or (put p a w) i 0 ≡ get_or p i 0
unfolding put
put-out p a w i (inl h) = sets-before p a (digits 8 w) i h
put-out p a w i (inr h) = sets-after p a (digits 8 w) i (rw (length_digits 8 w) h)

pub put_in : (p : List ℕ) (a w i : ℕ) → a + 8 ≤ length p → i < 8 → get_or (put p a w) (a + i) 0 ≡ get_or (digits 8 w) i 0
unfolding put
put_in p a w i h l = sets-in p a (digits 8 w) i (rw (length_digits 8 w) h) (rw (length_digits 8 w) l)

pub word-cong : (p q : List ℕ) (a : ℕ) → ((i : ℕ) → i < 8 → get_or p (a + i) 0 ≡ get_or q (a + i) 0) → word p a ≡ word q a
unfolding word field
word-cong p q a h = number-cong 8 (λ i. get_or p (a + i) 0) (λ i. get_or q (a + i) 0) h

pub word-put : (p : List ℕ) (a w : ℕ) → a + 8 ≤ length p → w < 2 ^ 64 → word (put p a w) a ≡ w
unfolding word field
word-put p a w h l =
    number-cong 8 (λ i. get_or (put p a w) (a + i) 0) (λ i. get_or (digits 8 w) i 0) (λ i k. put_in p a w i h k) ∙ number_digits 8 w l

apart : (a b i : ℕ) → a % 8 ≡ 0 → b % 8 ≡ 0 → b ≢ a → i < 8 → (b + i < a) ⊎ (a + 8 ≤ b + i)
apart a b i ha hb n l = go (dec_lt b a) where
  go : Dec (b < a) → (b + i < a) ⊎ (a + 8 ≤ b + i)
  go (yes h) = inl (omega arith)
  go (no h) = inr (omega arith)

pub word-put-other : (p : List ℕ) (a w b : ℕ) → a % 8 ≡ 0 → b % 8 ≡ 0 → b ≢ a → word (put p a w) b ≡ word p b
word-put-other p a w b ha hb n = word-cong (put p a w) p b (λ i l. put-out p a w (b + i) (apart a b i ha hb n l))

pub word_lt : (p : List ℕ) (a : ℕ) → Bytes p → word p a < 2 ^ 64
unfolding word field
word_lt p a h = number_lt 8 (λ i. get_or p (a + i) 0) (λ i. h (a + i))

-- ---- stores keep bytes

pub bytes-set : (l : List ℕ) (i v : ℕ) → Bytes l → v < 256 → Bytes (set l i v)
bytes-set [] i v h k j = h j
bytes-set (x ∷ xs) zero v h k zero = k
bytes-set (x ∷ xs) zero v h k (suc j) = h (suc j)
bytes-set (x ∷ xs) (suc i) v h k zero = h 0
bytes-set (x ∷ xs) (suc i) v h k (suc j) = bytes-set xs i v (λ m. h (suc m)) k j

pub bytes-sets : (l : List ℕ) (i : ℕ) (vs : List ℕ) → Bytes l → Bytes vs → Bytes (sets l i vs)
bytes-sets l i [] h k = h
bytes-sets l i (v ∷ vs) h k = bytes-sets (set l i v) (suc i) vs (bytes-set l i v h (k 0)) (λ j. k (suc j))

pub bytes-put : (p : List ℕ) (a w : ℕ) → Bytes p → Bytes (put p a w)
unfolding put
bytes-put p a w h = bytes-sets p a (digits 8 w) h (λ i. digits-byte 8 w i)

pub bytes-append : (l m : List ℕ) → Bytes l → Bytes m → Bytes (l ++ m)
bytes-append [] m h k i = k i
bytes-append (x ∷ l) m h k zero = h 0
bytes-append (x ∷ l) m h k (suc i) = bytes-append l m (λ j. h (suc j)) k i

-- the parts of bytes
pub bytes_left : (l m : List ℕ) → Bytes (l ++ m) → Bytes l
bytes_left [] m h i = zero-lt-suc 255
bytes_left (x ∷ l) m h zero = h 0
bytes_left (x ∷ l) m h (suc i) = bytes_left l m (λ j. h (suc j)) i

pub bytes-right : (l m : List ℕ) → Bytes (l ++ m) → Bytes m
bytes-right [] m h i = h i
bytes-right (x ∷ l) m h i = bytes-right l m (λ j. h (suc j)) i

pub bytes_drop : (n : ℕ) (l : List ℕ) → Bytes l → Bytes (drop n l)
bytes_drop zero l h i = h i
bytes_drop (suc n) [] h i = h i
bytes_drop (suc n) (x ∷ l) h i = bytes_drop n l (λ j. h (suc j)) i

pub bytes_take : (n : ℕ) (l : List ℕ) → Bytes l → Bytes (take n l)
bytes_take zero l h i = zero-lt-suc 255
bytes_take (suc n) [] h i = h i
bytes_take (suc n) (x ∷ l) h zero = h 0
bytes_take (suc n) (x ∷ l) h (suc i) = bytes_take n l (λ j. h (suc j)) i

pub bytes-zeros : (n : ℕ) → Bytes (replicate n 0)
bytes-zeros zero i = zero-lt-suc 255
bytes-zeros (suc n) zero = zero-lt-suc 255
bytes-zeros (suc n) (suc i) = bytes-zeros n i

-- ---- fields

-- a field is that of the part that holds it
pub field-part : (k : ℕ) (p : List ℕ) (a : ℕ) → field k p a ≡ field k (take k (drop a p)) 0
unfolding field
field-part k p a =
    number-cong k (λ i. get_or p (a + i) 0) (λ i. get_or (take k (drop a p)) (0 + i) 0)
    (λ i h. sym (ap (λ (j : ℕ). get_or (take k (drop a p)) j 0) (zero-add i) ∙ get_or-take k (drop a p) i 0 h ∙ get_or-drop a p i 0))

pub field_lt : (k : ℕ) (p : List ℕ) (a : ℕ) → Bytes p → field k p a < 256 ^ k
unfolding field
field_lt k p a h = number_lt k (λ i. get_or p (a + i) 0) (λ i. h (a + i))

-- the digits of the word with which bytes begin
pub digits_number : (k : ℕ) (f : ℕ → ℕ) → ((i : ℕ) → f i < 256) → (i : ℕ) → i < k → get_or (digits k (number k f)) i 0 ≡ f i
unfolding digits number
digits_number zero f h i l = absurd (not-suc-le-zero l)
digits_number (suc k) f h zero l = let a = h 0 in omega arith
digits_number (suc k) f h (suc i) l =
    let a = h 0 in
    let e : (number k (λ j. f (suc j)) * 256 + f 0) / 256 ≡ number k (λ j. f (suc j)) = omega arith in
    ap (λ (x : ℕ). get_or (digits k x) i 0) e ∙ digits_number k (λ j. f (suc j)) (λ j. h (suc j)) i (le_of_suc-le-suc l)

pub digits-word : (ys : List ℕ) → Bytes ys → 8 ≤ length ys → digits 8 (word ys 0) ≡ take 8 ys
unfolding word field
digits-word ys h l =
    ext_get_or 0 (digits 8 (number 8 (λ i. get_or ys (0 + i) 0))) (take 8 ys) (length_digits 8 _ ∙ sym (length-take-le 8 ys l))
    (λ i k. let j : i < 8 = rw (length_digits 8 (number 8 (λ i. get_or ys (0 + i) 0))) at k in
    digits_number 8 (λ i. get_or ys (0 + i) 0) (λ i. h (0 + i)) i j ∙ ap (λ (m : ℕ). get_or ys m 0) (zero-add i) ∙ sym (get_or-take 8 ys i 0 j))
