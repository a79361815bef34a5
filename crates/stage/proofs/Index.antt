-- The index of entries: filled (`chained-start`, `chained-step`), and asked for a target (`chase-start`, `chase-step`, `chase-hit`, `chase-end`).
-- Assumes nothing.
use Prim.Native.Nat.{ℕ, zero, suc, ◌+◌, ◌-◌, ◌*◌, ◌≤◌, ◌<◌}
use mathlib.Core.Path.{◌≡◌, refl, sym, ap, ◌∙◌}
use mathlib.Core.List.{List}
use native.Mathlib.Omega.{arith}
use lib.ListN.{length, get_or, replicate, set, length-set}
use lib.Seq.{get_or-set_same, get_or-set_other}
use lib.Dec.{eqb, ltb}
use borrow.Author.Tests.{eqb-true, eqb-false, eq-eqb, ne_eqb, ltb-true, ltb-false}
use Rattle.rules.specs.Words.{word}
use Rattle.rules.specs.Staging.{Fresh, Tidy, entries_at}
use Rattle.rules.proofs.Bool.{split}
use Rattle.words.specs.Loaded.{Loaded}
use Rattle.stage.specs.View.{entries_of}
use Rattle.stage.specs.Touched.{Slot, slot}
use Rattle.stage.specs.Index.{Blank, Chained, Indexed, Last, mark_at, mark_count, mark_of}

-- ---- filled, entry by entry

get_d-zeros : (n k : ℕ) → ◌≡◌ {A = ℕ} (get_or (replicate n 0) k 0) 0
get_d-zeros zero k = refl
get_d-zeros (suc n) zero = refl
get_d-zeros (suc n) (suc k) = get_d-zeros n k

pub blank-zeros : Blank (replicate 384 0)
blank-zeros = record { long = refl; zero = get_d-zeros 384 }

pub indexed-none : (ix st : List ℕ) → Indexed ix st 0
indexed-none ix st = record { chained = λ h. absurd (omega arith) }

last_none : (st : List ℕ) (k p : ℕ) → p ≡ 0 → Last st 0 k p
last_none st k p e = record { le = omega arith; marked = λ h. absurd (omega arith); rest = λ j a b m. omega arith }

pub chained-start : {ix : List ℕ} (st : List ℕ) → Blank ix → Chained ix st 0
chained-start {ix} st b =
    record { long = b.long; few = omega arith; last = λ k h. last_none st k (get_or ix k 0) (b.zero k); prior = λ e h. absurd (omega arith) }

-- entry n has another mark
last-other : {st : List ℕ} {n k p : ℕ} → Last st n k p → (mark_at st n ≡ k → ⊥) → Last st (n + 1) k p
last-other {st} {n} {k} {p} l d =
    record {
      le = let h = l.le in omega arith;
      marked = l.marked;
      rest = λ j a b m. split (eqb j n) (λ e. d (rw (eqb-true j n e) at m)) (λ e. let f = eqb-false j n e in l.rest j a (omega arith) m);
    }

last-here : (st : List ℕ) (n k : ℕ) → mark_at st n ≡ k → Last st (n + 1) k (n + 1)
last-here st n k e =
    let s : n + 1 - 1 ≡ n = omega arith in
    record { le = omega arith; marked = λ h. rw s e; rest = λ j a b m. omega arith }

module _ {ix st : List ℕ} {n t k : ℕ} (c : Chained ix st n) (f : n < 127) (l : Loaded 8 st (16 * n) t) (q : k ≡ mark_of t) (h : k < mark_count) where
  abbrev ix₁ : List ℕ
  ix₁ = set ix (mark_count + n) (get_or ix k 0)

  abbrev ix₂ : List ℕ
  ix₂ = set ix₁ k (n + 1)

  mark-here : mark_at st n ≡ k
  unfolding mark_at word
  mark-here = ap mark_of (sym l.value) ∙ sym q

  long₁ : length ix₁ ≡ 384
  long₁ = length-set ix (mark_count + n) (get_or ix k 0) ∙ c.long

  below : (j : ℕ) → j < mark_count → (j ≡ k → ⊥) → get_or ix₂ j 0 ≡ get_or ix j 0
  below j b d = get_or-set_other ix₁ k j (n + 1) 0 d ∙ get_or-set_other ix (mark_count + n) j (get_or ix k 0) 0 (λ e. omega arith)

  behind : (e : ℕ) → get_or ix₂ (mark_count + e) 0 ≡ get_or ix₁ (mark_count + e) 0
  behind e = get_or-set_other ix₁ k (mark_count + e) (n + 1) 0 (λ x. omega arith)

  last-next : (j : ℕ) → j < mark_count → Last st (n + 1) j (get_or ix₂ j 0)
  last-next j b =
      split (eqb j k)
      (λ e. let x = eqb-true j k e in let z = long₁ in rw (x, get_or-set_same ix₁ k (n + 1) 0 (omega arith)) (last-here st n k mark-here))
      (λ e. let x = eqb-false j k e in rw (below j b x) (last-other (c.last j b) (λ m. x (sym m ∙ mark-here))))

  prior-next : (e : ℕ) → e < n + 1 → Last st e (mark_at st e) (get_or ix₂ (mark_count + e) 0)
  prior-next e b =
      split (eqb e n)
      (λ y. let x = eqb-true e n y in let z = c.long in rw (behind e, x, get_or-set_same ix (mark_count + n) (get_or ix k 0) 0 (omega arith), mark-here) (c.last k h))
      (λ y.
      let x = eqb-false e n y in
      rw (behind e, get_or-set_other ix (mark_count + n) (mark_count + e) (get_or ix k 0) 0 (λ z. x (omega arith))) (c.prior e (omega arith)))

  pub chained-step : Chained (set (set ix (mark_count + n) (get_or ix k 0)) k (n + 1)) st (n + 1)
  chained-step = record { long = length-set ix₁ k (n + 1) ∙ long₁; few = omega arith; last = last-next; prior = prior-next }

-- ---- the place of an entry

-- none of the first n entries has the target o from number p on; entry p - 1 has its mark
pub record Chase (st : List ℕ) (n o p : ℕ) : Type 0 where
  pub le : p ≤ n
  pub marked : 0 < p → mark_at st (p - 1) ≡ mark_of o
  pub rest : (j : ℕ) → p ≤ j → j < n → word st (16 * j) ≡ o → ⊥

pub chase-start : {ix st : List ℕ} {n o k p : ℕ} → Indexed ix st n → 0 < n → k ≡ mark_of o → k < mark_count → p ≡ get_or ix k 0 → Chase st n o p
unfolding mark_at
chase-start {ix} {st} {n} {o} {k} i h q b e =
    let l = (i.chained h).last k b in
    record { le = rw e l.le; marked = λ x. rw (e, ← q) (l.marked (rw e at x)); rest = λ j a x m. l.rest j (rw e at a) x (ap mark_of m ∙ sym q) }

pub chase-step : {ix st : List ℕ} {n o p t r : ℕ} → Indexed ix st n → Chase st n o p → 0 < p → Loaded 8 st (16 * (p - 1)) t → (t ≡ o → ⊥) → r ≡ get_or ix (mark_count + (p - 1)) 0 → (Chase st n o r) × (r < p)
unfolding mark_at word
chase-step {ix} {st} {n} {o} {p} {t} {r} i c h w d e =
    let b = c.le in
    let l = (i.chained (omega arith)).prior (p - 1) (omega arith) in
    let m = c.marked h in
    let u : r ≤ p - 1 = rw e l.le in (
      record {
        le = omega arith;
        marked = λ x. rw e (l.marked (rw e at x)) ∙ m;
        rest = λ j a x y.
            split (ltb j (p - 1))
            (λ z. l.rest j (rw e at a) (ltb-true j (p - 1) z) (ap mark_of y ∙ sym m))
            (λ z.
            let v = ltb-false j (p - 1) z in
            split (eqb j (p - 1))
            (λ g. d (w.value ∙ ap (λ (k : ℕ). word st (16 * k)) (sym (eqb-true j (p - 1) g)) ∙ y))
            (λ g. let k = eqb-false j (p - 1) g in c.rest j (omega arith) x y));
      },
      omega arith,
    )

fresh-apart : (n : ℕ) (st : List ℕ) (a o e : ℕ) → Fresh o (entries_at st a n) → e < n → word st (a + 16 * e) ≡ o → ⊥
fresh-apart zero st a o e f h q = omega arith
fresh-apart (suc n) st a o zero f h q = f.0 (ap (word st) (omega arith) ∙ q)
fresh-apart (suc n) st a o (suc e) f h q = fresh-apart n st (a + 16) o e f.1 (omega arith) (ap (word st) (omega arith) ∙ q)

-- none is there twice
slot_at : (n : ℕ) (st : List ℕ) (a o e : ℕ) → Tidy (entries_at st a n) → e < n → word st (a + 16 * e) ≡ o → slot o (entries_at st a n) ≡ e
unfolding slot
slot_at zero st a o e t h q = absurd (omega arith)
slot_at (suc n) st a o zero t h q = rw (eq-eqb (word st a) o (ap (word st) (omega arith) ∙ q))
slot_at (suc n) st a o (suc e) t h q =
    let r : word st (a + 16 + 16 * e) ≡ o = ap (word st) (omega arith) ∙ q in
    let d : (word st a ≡ o → ⊥) = λ x. fresh-apart n st (a + 16) (word st a) e t.2 (omega arith) (r ∙ sym x) in
    rw (ne_eqb (word st a) o d) (ap suc (slot_at n st (a + 16) o e t.3 (omega arith) r))

slot-none : (n : ℕ) (st : List ℕ) (a o : ℕ) → ((j : ℕ) → j < n → word st (a + 16 * j) ≡ o → ⊥) → slot o (entries_at st a n) ≡ n
unfolding slot
slot-none zero st a o f = refl
slot-none (suc n) st a o f =
    rw (ne_eqb (word st a) o (λ x. f 0 (omega arith) (ap (word st) (omega arith) ∙ x)))
    (ap suc (slot-none n st (a + 16) o (λ j h q. f (suc j) (omega arith) (ap (word st) (omega arith) ∙ q))))

pub chase-hit : {st : List ℕ} {n o p t : ℕ} → Tidy (entries_of st n) → Chase st n o p → 0 < p → Loaded 8 st (16 * (p - 1)) t → t ≡ o → Slot st n o (p - 1)
unfolding entries_of word
chase-hit {st} {n} {o} {p} y c h w e =
    let b = c.le in
    record { place = sym (slot_at n st 0 o (p - 1) y (omega arith) (ap (word st) (omega arith) ∙ sym w.value ∙ e)); le = omega arith }

pub chase-end : {st : List ℕ} {n o p : ℕ} → Chase st n o p → p ≤ 0 → Slot st n o n
unfolding entries_of
chase-end {st} {n} {o} c h =
    record { place = sym (slot-none n st 0 o (λ j b q. c.rest j (omega arith) b (ap (word st) (omega arith) ∙ q))); le = omega arith }

pub slot-empty : (st : List ℕ) {n : ℕ} (o : ℕ) → n ≡ 0 → Slot st n o n
unfolding entries_of slot
slot-empty st o e = record { place = rw e; le = omega arith }
