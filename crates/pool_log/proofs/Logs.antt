-- The bytes of entries read are the bytes read from; a log judged, way out by way out. Assumes nothing.
use mathlib.Core.Path.{◌≡◌, refl, sym, ap, ap₂, ◌∙◌}
use mathlib.Core.Bool.{Bool, false, ◌&&◌}
use mathlib.Core.List.{List, ◌++◌, append_assoc}
use Prim.Native.Nat.{ℕ, zero, suc, ◌+◌, ◌*◌, ◌-◌, ◌/◌, ◌%◌, ◌<◌, ◌≤◌}
use native.Mathlib.Omega.{arith}
use lib.ListN.{length, take, drop, length-drop}
use lib.Dec.{eqb, leb}
use borrow.Author.Tests.{eq-eqb, ne_eqb, le-leb, lt-leb}
use Rattle.rules.specs.Words.{Bytes, digits, word}
use Rattle.rules.specs.Check.{check}
use Rattle.rules.specs.Shape.{Shape as PoolShape, log_a, log_b}
use Rattle.rules.specs.Staging.{entries_at, entry_bytes}
use Rattle.rules.specs.Seals.{unsealed}
use Rattle.rules.proofs.Parts.{take_more}
use Rattle.rules.proofs.Words.{bytes_drop, digits-word, field-part}
use Rattle.rules.proofs.Transaction.{entries-count}
use Rattle.powercut.specs.Log.{check_in, count_in, log_entries, mark_in, seal_of, valid}
use Rattle.words.specs.Loaded.{Loaded}
use Rattle.layout.specs.declared.Shape.{Shape}
use Rattle.layout.specs.Meaning.{shape_of}
use Rattle.pool_log.specs.Targets.{all_fit, check_of, read}
use Rattle.pool_log.proofs.Targets.{loaded_word}

-- ---- the check of entries

word-part : (p : List ℕ) (a : ℕ) → word p a ≡ word (drop a p) 0
unfolding word
word-part p a = field-part 8 p a ∙ sym (field-part 8 (drop a p) 0)

word_bytes : (p : List ℕ) → Bytes p → (a : ℕ) → a + 8 ≤ length p → digits 8 (word p a) ≡ take 8 (drop a p)
word_bytes p b a h = ap (digits 8) (word-part p a) ∙ digits-word (drop a p) (bytes_drop a p b) (rw (length-drop a p) (omega arith))

pub bytes_read : (p : List ℕ) → Bytes p → (a n : ℕ) → a + 16 * n ≤ length p → entry_bytes (entries_at p a n) ≡ take (16 * n) (drop a p)
bytes_read p b a zero h = refl
bytes_read p b a (suc n) h =
    let e : 16 * suc n ≡ 8 + (8 + 16 * n) = omega arith in
    let f : a + 8 + 8 ≡ a + 16 = omega arith in
    let r : take (16 * suc n) (drop a p) ≡ take 8 (drop a p) ++ (take 8 (drop (a + 8) p) ++ take (16 * n) (drop (a + 16) p)) =
    ap (λ (k : ℕ). take k (drop a p)) e ∙ take_more p a 8 (8 + 16 * n)
    ∙ ap (λ (l : List ℕ). take 8 (drop a p) ++ l) (take_more p (a + 8) 8 (16 * n) ∙ ap (λ (k : ℕ). take 8 (drop (a + 8) p) ++ take (16 * n) (drop k p)) f) in
    ap₂ ◌++◌ (ap₂ ◌++◌ (word_bytes p b a (omega arith)) (word_bytes p b (a + 8) (omega arith))) (bytes_read p b (a + 16) n (omega arith))
    ∙ append_assoc (take 8 (drop a p)) (take 8 (drop (a + 8) p)) (take (16 * n) (drop (a + 16) p)) ∙ sym r

-- of the part that the code takes
pub check-part : (p : List ℕ) → Bytes p → (a n r : ℕ) → a + 16 * n ≤ length p → r ≡ check (take (a + 16 * n - a) (drop a p)) → r ≡ check_of (read p a n)
unfolding check_of read
check-part p b a n r h e =
    let d : a + 16 * n - a ≡ 16 * n = omega arith in
    e ∙ ap (λ (j : ℕ). check (take j (drop a p))) d ∙ ap check (sym (bytes_read p b a n h))

-- ---- the seal

pub length-read : (p : List ℕ) (a n : ℕ) → length (read p a n) ≡ n
unfolding read
length-read p a n = entries-count p a n

pub seal-read : (p : List ℕ) (a n k : ℕ) → k ≡ check_of (read p a n) → (42268 * 65536 + n) * 4294967296 + k ≡ seal_of (read p a n)
unfolding seal_of check_of
seal-read p a n k e = rw (length-read p a n, ← e)

-- ---- a log judged; k is the check of its entries

module _ (sh : PoolShape) (p : List ℕ) (b w n : ℕ) (ew : Loaded 8 p b w) (en : n ≡ count_in w) where
  valid-is : valid sh p b ≡ (eqb (mark_in w) 42268 && (leb 1 n && (leb n 127 && (eqb (check_in w) (check_of (read p (b + 16) n)) && all_fit sh (read p (b + 16) n)))))
  unfolding valid log_entries check_of read all_fit
  valid-is = rw (← (loaded_word ew), ← en)

  pub valid-mark : (w / 4294967296 / 65536 ≡ 42268 → ⊥) → false ≡ valid sh p b
  unfolding mark_in
  valid-mark h = sym (valid-is ∙ rw (ne_eqb (mark_in w) 42268 h))

  module _ (m : w / 4294967296 / 65536 ≡ 42268) where
    pub valid-low : n < 1 → false ≡ valid sh p b
    unfolding mark_in
    valid-low l = sym (valid-is ∙ rw (eq-eqb (mark_in w) 42268 m, lt-leb 1 n l))

    pub valid-high : 1 ≤ n → 127 < n → false ≡ valid sh p b
    unfolding mark_in
    valid-high l u = sym (valid-is ∙ rw (eq-eqb (mark_in w) 42268 m, le-leb 1 n l, lt-leb n 127 u))

    pub valid-check : (k : ℕ) → 1 ≤ n → n ≤ 127 → k ≡ check_of (read p (b + 16) n) → (w % 4294967296 ≡ k → ⊥) → false ≡ valid sh p b
    unfolding mark_in check_in
    valid-check k l u e h = sym (valid-is ∙ rw (eq-eqb (mark_in w) 42268 m, le-leb 1 n l, le-leb n 127 u, ← e, ne_eqb (check_in w) k h))

    pub valid-rest : (k : ℕ) (r : Bool) → 1 ≤ n → n ≤ 127 → k ≡ check_of (read p (b + 16) n) → w % 4294967296 ≡ k → r ≡ all_fit sh (read p (b + 16) n) → r ≡ valid sh p b
    unfolding mark_in check_in
    valid-rest k r l u e h f = sym (valid-is ∙ rw (eq-eqb (mark_in w) 42268 m, le-leb 1 n l, le-leb n 127 u, ← e, eq-eqb (check_in w) k h) (sym f))

-- ---- both seals

module _ (s : Shape) (p : List ℕ) (m a : ℕ) (em : m ≡ log_a (shape_of s)) (ea : Loaded 8 p m a) where
  pub seal-first : (a ≡ 0 → ⊥) → false ≡ unsealed (shape_of s) p
  unfolding unsealed
  seal-first h = rw (← em, ← (loaded_word ea), ne_eqb a 0 h)

  pub seal-second : (n b : ℕ) → a ≡ 0 → n ≡ log_b (shape_of s) → Loaded 8 p n b → eqb b 0 ≡ unsealed (shape_of s) p
  unfolding unsealed
  seal-second n b h en eb = rw (← em, ← (loaded_word ea), eq-eqb a 0 h, ← en, ← (loaded_word eb))
