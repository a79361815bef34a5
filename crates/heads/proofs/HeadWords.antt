-- Laws of a head's words: its fields, the check over it, and what a right head of a free run and of an object is. Assumes nothing.
use Prim.Native.Nat.{ℕ, ◌+◌, ◌*◌, ◌/◌, ◌%◌, ◌^◌, ◌≤◌, ◌<◌}
use mathlib.Core.Path.{◌≡◌, refl, sym, ap, ap₂, ◌∙◌}
use mathlib.Core.Bool.{Bool, true, false}
use mathlib.Core.List.{List, [], ◌++◌, append-nil, append_assoc}
use native.Mathlib.Nat.{add_comm}
use native.Mathlib.Omega.{arith}
use lib.ListN.{length, take, drop}
use lib.Seq.{drop-drop, sets, take-add}
use lib.Dec.{eqb}
use borrow.Author.Tests.{eq-eqb, eqb-true}
use Rattle.rules.specs.Words.{digits, field, number, put}
use Rattle.rules.specs.Check.{check}
use Rattle.rules.specs.Runs.{cells_for, covered, free_head, free_ok, head_bytes, head_cells, head_check, head_kind, head_length, head_tag, object_ok}
use Rattle.rules.proofs.Words.{length_digits}
use Rattle.rules.proofs.Sets.{sets-append}
use Rattle.rules.proofs.Laid.{free-ok, free-says, object-ok, object-says}
use Rattle.sums.specs.Fed.{Fed, Started}
use Rattle.sums.proofs.Fed.{fed-append, fed-check}
use Rattle.stage.specs.Touched.{added}
use Rattle.stage.specs.View.{Reads, Staged, entries_of, part, seen}
use Rattle.heads.specs.HeadWords.{Checked, covered_by, head_of}
use Rattle.heads.proofs.Digits.{digits-join}

pub head-reads : {v : List ℕ} {at a b : ℕ} → Reads v at a → Reads v (at + 8) b → head_of a b ≡ part 16 at v
unfolding head_of part
head-reads {v} {at} p q = ap₂ (λ (x y : List ℕ). x ++ y) p.bytes (q.bytes ∙ ap (take 8) (sym (drop-drop 8 at v))) ∙ sym (take-add 8 8 (drop at v))

-- with no entries

pub none-staged : {p st : List ℕ} {n : ℕ} → Staged p st n → Staged p st 0
unfolding entries_of
none-staged s = record { room = omega arith; tidy = tt; words = s.words }

pub none-fresh : (st : List ℕ) (o : ℕ) → added o (entries_of st 0) ≡ 1
unfolding entries_of added
none-fresh st o = refl

pub head-alone : (p st : List ℕ) {at a b n : ℕ} → n ≡ 0 → Reads (seen p st 0) at a → Reads (seen p st 0) (at + 8) b → head_of a b ≡ part 16 at (seen p st n)
head-alone p st e f g = rw e (head-reads f g)

pub head-stored : (p : List ℕ) (at a b : ℕ) {p₁ p₂ : List ℕ} → p₁ ≡ put p at a → p₂ ≡ put p₁ (at + 8) b → p₂ ≡ sets p at (head_of a b)
unfolding head_of put
head-stored p at a b e f =
    f ∙ rw e (ap (λ (k : ℕ). sets (sets p at (digits 8 a)) (at + k) (digits 8 b)) (sym (length_digits 8 a)) ∙ sym (sets-append p at (digits 8 a) (digits 8 b)))

-- ---- fields

module _ (a b : ℕ) where
  pub head-kind : head_kind (head_of a b) ≡ a % 65536
  unfolding head_of digits field number
  head-kind = omega arith

  pub head-cells : head_cells (head_of a b) ≡ a / 65536 % 65536
  unfolding head_of digits field number
  head-cells = omega arith

  pub head-length : head_length (head_of a b) ≡ a / 4294967296 % 4294967296
  unfolding head_of digits field number
  head-length = omega arith

  pub head-check : head_check (head_of a b) ≡ b % 4294967296
  unfolding head_of digits field number
  head-check = omega arith

  pub head-tag : head_tag (head_of a b) ≡ b / 4294967296 % 4294967296
  unfolding head_of digits field number
  head-tag = omega arith

four : (b : ℕ) → b / 256 / 256 / 256 / 256 ≡ b / 4294967296
four b = omega arith

pub head-covered : (a b : ℕ) (body : List ℕ) → covered (head_of a b) body ≡ covered_by a (b / 4294967296) body
unfolding head_of covered_by digits
head-covered a b body = rw (← (four b))

-- ---- sums

pub sums-fed : (first t : ℕ) {a h b g l k : ℕ} → Started a h → Fed a h (digits 8 first) b g → Fed b g (digits 4 t) l k → Fed 1 0 (covered_by first t []) l k
unfolding covered_by
sums-fed first t s d e = rw (append-nil (digits 4 t), ← s.low-is, ← s.high_is) (fed-append d e)

pub covered-fed : (a t : ℕ) {l g l' g' : ℕ} {body : List ℕ} → Fed 1 0 (covered_by a t []) l g → Fed l g body l' g' → g' * 65536 + l' ≡ check (covered_by a t body)
unfolding covered_by
covered-fed a t {body = body} d e =
    fed-check (record { low-is = refl; high_is = refl }) (fed-append d e)
    ∙ ap check (append_assoc (digits 8 a) (digits 4 t ++ []) body ∙ ap (λ (x : List ℕ). digits 8 a ++ (x ++ body)) (append-nil (digits 4 t)))

-- ---- right heads

same : (x y : Bool) → (x ≡ true → y ≡ true) → (y ≡ true → x ≡ true) → x ≡ y
same true y f g = sym (f refl)
same false true f g = g refl
same false false f g = refl

no : (y : Bool) → (y ≡ true → ⊥) → false ≡ y
no true f = absurd (f refl)
no false f = refl

module _ (a b : ℕ) where
  pub free-empty : {n : ℕ} → n ≡ head_cells (head_of a b) → n ≡ 0 → false ≡ free_ok (head_of a b)
  free-empty e z = no (free_ok (head_of a b)) (λ t. omega (arith, (free-says (head_of a b) t).len))

  pub free_other : a < 2 ^ 64 → {n : ℕ} → n ≡ head_cells (head_of a b) → (a ≡ 1 + 65536 * n → ⊥) → false ≡ free_ok (head_of a b)
  free_other small e z =
      no (free_ok (head_of a b)) (λ t.
      let s = free-says (head_of a b) t in
      z (omega (arith, e, head-cells a b, head-kind a b, head-length a b, s.kind, s.blen)))

  pub free-same : a < 2 ^ 64 → b < 2 ^ 64 → {n f g : ℕ} → n ≡ head_cells (head_of a b) → (n ≡ 0 → ⊥) → a ≡ 1 + 65536 * n → Checked a 0 [] f g → eqb b g ≡ free_ok (head_of a b)
  free-same small l {n} {f} {g} e z p k =
      same (eqb b g) (free_ok (head_of a b))
      (λ t.
      let q : b ≡ check (covered_by a 0 []) = omega (arith, eqb-true b g t, k.second_is) in
      let d : b / 4294967296 ≡ 0 = omega (arith, k.check-small) in
      free-ok (head_of a b) (record {
        kind = omega (arith, head-kind a b);
        len = omega arith;
        blen = omega (arith, head-length a b, head-cells a b);
        tag = omega (arith, head-tag a b);
        chk = head-check a b ∙ (let y : b % 4294967296 ≡ b = omega (arith, k.check-small) in y ∙ q) ∙ ap check (sym (head-covered a b [] ∙ rw d));
      }))
      (λ t.
      let s = free-says (head_of a b) t in
      let d : b / 4294967296 ≡ 0 = omega (arith, head-tag a b, s.tag) in
      let c : head_check (head_of a b) ≡ check (covered_by a 0 []) = s.chk ∙ ap check (head-covered a b [] ∙ rw d) in
      eq-eqb b g (omega (arith, head-check a b, k.second_is)))

  pub object-outside : {m : ℕ} → m ≡ head_length (head_of a b) → (1 ≤ m → m ≤ 496 → ⊥) → false ≡ object_ok (head_of a b)
  object-outside e f = no (object_ok (head_of a b)) (λ t. let s = object-says (head_of a b) t in f (rw e s.some) (rw e s.most))

  pub object-same : a < 2 ^ 64 → {m f : ℕ} → m ≡ head_length (head_of a b) → 1 ≤ m → m ≤ 496 → f ≡ 2 + 65536 * cells_for m + 4294967296 * m → eqb a f ≡ object_ok (head_of a b)
  object-same small {m} {f} e g l k =
      let c : cells_for m ≤ 8 = unfold cells_for in (omega arith) in
      let q : cells_for (head_length (head_of a b)) ≡ cells_for m = ap cells_for (sym e) in
      same (eqb a f) (object_ok (head_of a b))
      (λ t.
      let y : a ≡ f = eqb-true a f t in
      object-ok (head_of a b) (record {
        kind = omega (arith, head-kind a b);
        some = omega arith;
        most = omega arith;
        len = omega (arith, head-cells a b, q);
      }))
      (λ t.
      let s = object-says (head_of a b) t in
      eq-eqb a f (omega (arith, head-kind a b, head-cells a b, head-length a b, s.kind, s.len, q)))

-- ---- heads that are made

pub head-made : {k n m t : ℕ} {body : List ℕ} {a b : ℕ} → k < 65536 → n < 65536 → m < 4294967296 → t < 4294967296 → Checked (k + 65536 * n + 4294967296 * m) t body a b
    → head_of a b ≡ head_bytes k n m t body
unfolding head_of head_bytes covered_by
head-made {k} {n} {m} {t} {body} {a} {b} hk hn hm ht c =
    let f : ℕ = k + 65536 * n + 4294967296 * m in
    let e : f ≡ k + 65536 * (n + 65536 * m) = omega arith in
    let p : digits 8 f ≡ digits 2 k ++ digits 2 n ++ digits 4 m =
    ap (digits 8) e ∙ digits-join 2 6 k (n + 65536 * m) hk ∙ ap (λ (x : List ℕ). digits 2 k ++ x) (digits-join 2 4 n m hn) ∙ sym (append_assoc (digits 2 k) (digits 2 n) (digits 4 m)) in
    let s : ℕ = check (digits 8 f ++ (digits 4 t ++ body)) in
    let q : digits 8 b ≡ digits 4 s ++ digits 4 t = ap (digits 8) (c.second_is ∙ add_comm (4294967296 * t) s) ∙ digits-join 4 4 s t c.check-small in
    ap₂ (λ (x y : List ℕ). x ++ y) (ap (digits 8) c.first-is ∙ p) (q ∙ ap (λ (x : List ℕ). digits 4 (check (x ++ (digits 4 t ++ body))) ++ digits 4 t) p)
    ∙ sym (append_assoc (digits 2 k ++ digits 2 n ++ digits 4 m) _ (digits 4 t))

pub free-made : {n a b : ℕ} → n < 65536 → Checked (1 + 65536 * n) 0 [] a b → head_of a b ≡ free_head n
unfolding free_head
free-made {n} h c = head-made (omega arith) h (omega arith) (omega arith) (let e : 1 + 65536 * n + 4294967296 * 0 ≡ 1 + 65536 * n = omega arith in rw e c)

pub object-made : {f t a b : ℕ} {body : List ℕ} → length body ≤ 496 → t < 2 ^ 32 → f ≡ 2 + 65536 * cells_for (length body) + 4294967296 * length body → Checked f t body a b
    → head_of a b ≡ head_bytes 2 (cells_for (length body)) (length body) t body
object-made h l e c = head-made (omega arith) (unfold cells_for in (omega arith)) (omega arith) l (rw e at c)

pub checked-fed : (first t : ℕ) {l g l' g' v : ℕ} {body : List ℕ} → Fed 1 0 (covered_by first (4294967296 * t / 4294967296) []) l g → Fed l g body l' g' → v ≡ g' * 65536 + l'
    → Checked first t body first (4294967296 * t + v)
checked-fed first t {l} {g} {l'} {g'} {v} {body} d e q =
    let z : 4294967296 * t / 4294967296 ≡ t = omega arith in
    let y : v ≡ check (covered_by first t body) = q ∙ covered-fed first t (rw z at d) e in
    let k : v < 4294967296 = omega (arith, e.below.low-lt, e.below.high_lt) in
    record { first-is = refl; second_is = rw y; check-small = rw (← y) k }
