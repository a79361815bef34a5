-- Allocate: the zone's walk comes to its end again, and the book has the new object.
use Prim.Native.Nat.{ℕ, zero, suc, ◌+◌, ◌-◌, ◌*◌, ◌^◌, ◌≤◌, ◌<◌}
use mathlib.Core.Path.{◌≡◌, refl, sym, ap, ap₂, ◌∙◌, subst}
use mathlib.Core.Bool.{true, false, and-false}
use mathlib.Core.Option.{some}
use mathlib.Core.List.{List, [], ◌∷◌, ◌++◌, append_assoc}
use native.Mathlib.Nat.{add-zero, zero-add}
use native.Mathlib.Omega.{arith}
use lib.ListN.{length, drop, length-append, length-drop, drop_of_length-le}
use lib.Seq.{sets, sets-eq}
use Rattle.rules.specs.Words.{Bytes}
use Rattle.rules.specs.Shape.{body_limit}
use Rattle.rules.specs.Runs.{Run, cell_count, cells_for, free, free_head, object, object_bytes}
use Rattle.rules.specs.Book.{Listed, book, enter}
use Rattle.rules.specs.Search.{Place, fit}
use Rattle.rules.proofs.Sets.{sets-mid}
use Rattle.rules.proofs.Laid.{Laid, Seg, ended_here, ends, laid-length, laid-starts, more, parts, splice}
use Rattle.rules.proofs.Segments.{cells-hold, seg-object}
use Rattle.rules.proofs.Book.{AllGood, book-append, enter-before, enter-past, good-append, good_left, good_right, size-append}
use Rattle.rules.proofs.Search.{fit_found}
use Rattle.rules.proofs.ZoneBytes.{alloc_bytes, put_free}
use Rattle.rules.proofs.Freed.{Change, laid-free, set_free}

-- the runs in place of a free run: the object, and what is left of it
unfoldable pub rest : ℕ → List Run
rest zero = []
rest (suc r) = free (suc r) ∷ []

module _ (c : ℕ) (P Q : List Run) (n t : ℕ) (b : List ℕ) (k : ℕ) (kb : cells_for (length b) ≡ k) (b1 : 1 ≤ length b) (b2 : length b ≤ body_limit) (ht : t < 2 ^ 32) (hb : Bytes b) where
  abbrev ob : Run
  ob = object k t b true

  abbrev obb : List ℕ
  obb = object_bytes t b

  seg : Seg ob (object_bytes t b)
  seg = subst (λ (x : ℕ). Seg (object x t b true) (object_bytes t b)) kb (seg-object t b ht hb b1 b2)

  -- the object's bytes over the front of the middle part
  set-object : (bs f m z : List ℕ) → bs ≡ f ++ (m ++ z) → length f ≡ 64 * cell_count P → length m ≡ 64 * n → k ≤ n
      → sets bs (64 * cell_count P) (object_bytes t b) ≡ f ++ ((object_bytes t b ++ drop (64 * k) m) ++ z)
  set-object bs f m z e lf lm h =
      let lo : length (object_bytes t b) ≡ 64 * k = seg.len in
      let y : 0 + length (object_bytes t b) ≤ length m = rw (lo, lm) (omega arith) in
      let q : sets m 0 (object_bytes t b) ≡ object_bytes t b ++ drop (64 * k) m = sets-eq (object_bytes t b) m 0 y ∙ rw (lo, zero-add (64 * k)) in
      rw (e, ← (add-zero (64 * cell_count P)), sets-mid f m z (64 * cell_count P) 0 (object_bytes t b) lf y, q)

  new-laid : (r : ℕ) (bs : List ℕ) → n ≡ k + r → length bs < 4194304 → Laid false (P ++ ((free n ∷ []) ++ Q)) bs
      → Laid false (P ++ ((ob ∷ rest r) ++ Q)) (put_free (sets bs (64 * cell_count P) obb) (cell_count P + k) r)
  unfolding rest put_free ends cell_count
  new-laid zero bs e s l =
      let p = parts false P (free n ∷ []) Q bs l in
      let lm : length p.mid ≡ 64 * n = laid-length p.laid-mid ∙ ap (λ (x : ℕ). 64 * x) (add-zero n) in
      rw (set-object bs p.front p.mid p.back p.cut (laid-length p.laid-front) lm (omega arith), drop_of_length-le p.mid {i = 64 * k} (omega arith))
      (splice false P (free n ∷ []) Q (ob ∷ []) bs (obb ++ []) p (more seg (and-false (ends false P)) ended_here refl) refl)
  new-laid (suc r) bs e s l =
      let p = parts false P (free n ∷ []) Q bs l in
      let lm : length p.mid ≡ 64 * n = laid-length p.laid-mid ∙ ap (λ (x : ℕ). 64 * x) (add-zero n) in
      let lf : length p.front ≡ 64 * cell_count P = laid-length p.laid-front in
      let lb : length bs ≡ length p.front + (length p.mid + length p.back) = ap length p.cut ∙ length-append p.front (p.mid ++ p.back) ∙ ap (λ (x : ℕ). length p.front + x) (length-append p.mid p.back) in
      let m : List ℕ = drop (64 * k) p.mid in
      let lr : length m ≡ 64 * suc r = length-drop (64 * k) p.mid ∙ omega arith in
      let lo : length obb ≡ 64 * k = seg.len in
      let e1 : sets bs (64 * cell_count P) obb ≡ p.front ++ obb ++ (m ++ p.back) =
      set-object bs p.front p.mid p.back p.cut lf lm (omega arith) ∙ simp append_assoc in
      let e2 : sets (sets bs (64 * cell_count P) obb) (64 * (cell_count P + k)) (free_head (suc r)) ≡ p.front ++ obb ++ (free_head (suc r) ++ drop 16 m ++ p.back) =
      set_free (sets bs (64 * cell_count P) obb) (p.front ++ obb) m p.back (suc r) (cell_count P + k) e1 (length-append p.front obb ∙ omega arith) lr (omega arith) in
      rw (e2, append_assoc p.front obb (free_head (suc r) ++ drop 16 m ++ p.back), ← (append_assoc obb (free_head (suc r) ++ drop 16 m) p.back))
      (splice false P (free n ∷ []) Q (ob ∷ rest (suc r)) bs (obb ++ (free_head (suc r) ++ drop 16 m)) p
      (more seg (and-false (ends false P)) (laid-free false (suc r) m refl lr (omega arith) (omega arith)) refl) (laid-starts p.laid-back))

  rest-book : (d r : ℕ) → book d (rest r ++ Q) ≡ book (d + r) Q
  unfolding rest book
  rest-book d zero = rw (add-zero d)
  rest-book d (suc r) = refl

  new-book : (r : ℕ) → n ≡ k + r → 1 ≤ n → book c (P ++ ((ob ∷ rest r) ++ Q)) ≡ enter (record { addr = c + cell_count P; tag = t; body = b }) (book c (P ++ ((free n ∷ []) ++ Q)))
  unfolding book
  new-book r e n1 =
      let x : Listed = record { addr = c + cell_count P; tag = t; body = b } in
      book-append c P (ob ∷ (rest r ++ Q))
      ∙ ap (λ (z : List Listed). book c P ++ (x ∷ z)) (rest-book (c + cell_count P + k) r ∙ ap (λ (d : ℕ). book d Q) (omega arith))
      ∙ sym (ap (λ (z : List Listed). enter x z) (book-append c P (free n ∷ Q)) ∙ enter-past P c x (book (c + cell_count P + n) Q) (omega arith)
      ∙ ap (λ (z : List Listed). book c P ++ z) (enter-before Q (c + cell_count P + n) x (omega arith)))

  new-good : (r : ℕ) → AllGood (P ++ ((free n ∷ []) ++ Q)) → AllGood (P ++ ((ob ∷ rest r) ++ Q))
  unfolding rest
  new-good zero h = good-append P (ob ∷ Q) (good_left P (free n ∷ Q) h) (refl, (good_right P (free n ∷ Q) h).1)
  new-good (suc r) h = good-append P (ob ∷ (free (suc r) ∷ Q)) (good_left P (free n ∷ Q) h) (refl, (refl, (good_right P (free n ∷ Q) h).1))

-- THE LAW OF ALLOCATE
pub allocated : (rs : List Run) (bs : List ℕ) (p : Place) (t : ℕ) (b : List ℕ) → Laid false rs bs → AllGood rs → length bs < 4194304 → 1 ≤ length b → length b ≤ body_limit → t < 2 ^ 32 → Bytes b
    → fit (cells_for (length b)) 0 rs ≡ some p
    → Change (alloc_bytes bs p t b) rs (λ d. enter (record { addr = d + p.cell; tag = t; body = b }))
unfolding alloc_bytes
allocated rs bs p t b l h s b1 b2 ht hb e =
    let x = fit_found (cells_for (length b)) 0 rs p e in
    go x.0.before x.0.behind x.0.cut x.0.here x.1
  where
    go : (P Q : List Run) → rs ≡ P ++ (free p.count ∷ Q) → 0 + cell_count P ≡ p.cell → cells_for (length b) ≤ p.count
        → Change (alloc_bytes bs p t b) rs (λ d. enter (record { addr = d + p.cell; tag = t; body = b }))
    go P Q cut here le =
        let k : ℕ = cells_for (length b) in
        let r : ℕ = p.count - k in
        let q : cell_count P ≡ p.cell = omega arith in
        rw (← q, cut)
        (record {
          runs = P ++ ((object k t b true ∷ rest r) ++ Q);
          laid = new-laid 0 P Q p.count t b k refl b1 b2 ht hb r bs (omega arith) s (rw cut at l);
          good = new-good 0 P Q p.count t b k refl b1 b2 ht hb r (rw cut at h);
          books = λ c A B x.
              ap (λ (l : List Run). book c l) (simp append_assoc)
              ∙ new-book c (A ++ P) (Q ++ B) p.count t b k refl b1 b2 ht hb r (omega arith) (omega (arith, cells-hold (length b)))
              ∙ ap₂ (λ (u : ℕ) (l : List Run). enter (record { addr = u; tag = t; body = b }) (book c l)) (rw (size-append A P) (omega arith)) (simp append_assoc);
        })
