-- The pool with all entries applied and its parity made right, `final_pool`, word by word: the targets, the parity words, all others. Of
-- one entry or more over a clean pool (`Setting`). Assumes nothing else.
use mathlib.Core.Path.{◌≡◌, refl, sym, ap, ◌∙◌, subst}
use mathlib.Core.Logic.{◌⊎◌, inl, inr}
use mathlib.Core.Bool.{true, false, not}
use mathlib.Core.List.{List, [], ◌∷◌}
use Prim.Native.Nat.{ℕ, suc, ◌%◌, ◌^◌, ◌≤◌, ◌<◌}
use native.Mathlib.Nat.{zero-lt-suc, le_refl}
use native.Mathlib.Omega.{arith}
use lib.Dec.{leb, ltb, eqb}
use borrow.Author.Tests.{eq-eqb, eqb-true, leb-true, ltb-true}
use lib.ListN.{length, get_or}
use Rattle.rules.specs.Words.{Bytes, word}
use Rattle.rules.specs.Shape.{InZones, Shape, entry_limit, log_a, log_b, parity_at, pool_size, row_at, zones_at}
use Rattle.rules.specs.Staging.{Store, good_target, good_targets, lay, none_at}
use Rattle.rules.specs.Parity.{parity_word}
use Rattle.rules.proofs.Bool.{and_split}
use Rattle.rules.proofs.Xor.{xor_to-cong, xor_to-lt}
use Rattle.rules.proofs.Words.{word_lt}
use Rattle.rules.proofs.Shape.{Good, InData, fits, row-data, row_in, row_of, row-row}
use Rattle.rules.proofs.Stores.{All, Covered, Distinct, Every, Fit, all-covered, all_map, bytes-lay, covered-fact, covered?, lay-every, lay-fact, lay-right, length-lay, right-all}

-- ---- the tests, as facts

none-uncovered : (a : ℕ) (l : List Store) → none_at a l ≡ true → Covered a l → ⊥
none-uncovered a [] t c = c
none-uncovered a (x ∷ xs) t (inl e) =
    let h = and_split (not (eqb a x.at)) (none_at a xs) t in
    let k : false ≡ true = rw (eq-eqb a x.at e) at h.0 in
    let z : ◌≡◌ {A = ℕ} 0 1 = cc in
    omega arith
none-uncovered a (x ∷ xs) t (inr c) = none-uncovered a xs (and_split (not (eqb a x.at)) (none_at a xs) t).1 c

module _ (sh : Shape) where
  target-data : (t : ℕ) → good_target sh t ≡ true → InData sh t
  target-data t h =
      let a = and_split (eqb (t % 8) 0) _ h in
      let b = and_split (leb (zones_at sh) t) _ a.1 in
      let c = and_split (ltb t (pool_size sh)) _ b.1 in
      record {
        inside = record { low = leb-true _ _ b.0; high = ltb-true _ _ c.0; even = eqb-true _ 0 a.0 };
        data-row = ltb-true _ _ c.1;
      }

  pub targets-data : (es : List Store) → good_targets sh es ≡ true → All (λ a w. InData sh a) es
  targets-data [] t = tt
  targets-data (e ∷ es) t =
      let a = and_split (good_target sh e.at) _ t in
      (target-data e.at a.0, targets-data es (and_split (none_at e.at es) _ a.1).1)

  -- a staged entry
  pub record Entry (a w : ℕ) : Type 0 where
    pub target : InData sh a
    pub small : w < 2 ^ 64

  pub targets-all : (es : List Store) → good_targets sh es ≡ true → ((i : ℕ) → (get_or es i (record { at = 0; val = 0 })).val < 2 ^ 64) → All Entry es
  targets-all es t h = go es (targets-data es t) h where
    go : (es : List Store) → All (λ a w. InData sh a) es → ((i : ℕ) → (get_or es i (record { at = 0; val = 0 })).val < 2 ^ 64) → All Entry es
    go [] d h = tt
    go (e ∷ es) d h = (record { target = d.0; small = h 0 }, go es d.1 (λ i. h (suc i)))

  pub targets-distinct : (es : List Store) → good_targets sh es ≡ true → Distinct es
  targets-distinct [] t = tt
  targets-distinct (e ∷ es) t =
      let b = and_split (none_at e.at es) _ (and_split (good_target sh e.at) _ t).1 in
      (none-uncovered e.at es b.0, targets-distinct es b.1)

  -- the parity words of the entries' places, from the pool p
  abbrev pub par_stores : List ℕ → List Store → List Store
  par_stores p [] = []
  par_stores p (e ∷ es) = record { at = parity_at sh e.at; val = parity_word sh p e.at } ∷ par_stores p es

  pub final_pool : List ℕ → List Store → List ℕ
  final_pool p es = lay (lay p es) (par_stores (lay p es) es)

  pub final-bytes : (p : List ℕ) (es : List Store) → Bytes p → Bytes (final_pool p es)
  unfolding final_pool
  final-bytes p es h = bytes-lay (lay p es) (par_stores (lay p es) es) (bytes-lay p es h)

  -- parity, word by word
  abbrev pub ParityW : List ℕ → Type 0
  ParityW p = (t : ℕ) → InZones sh t → word p (parity_at sh t) ≡ parity_word sh p t

-- what a run starts from: a clean pool and staged entries, at least one
pub record Setting (sh : Shape) (es : List Store) (p₀ : List ℕ) : Type 0 where
  pub good : Good sh
  pub length-is : length p₀ ≡ pool_size sh
  pub bytes : Bytes p₀
  pub seal_a : word p₀ (log_a sh) ≡ 0
  pub seal_b : word p₀ (log_b sh) ≡ 0
  pub right : ParityW sh p₀
  pub few : length es ≤ entry_limit
  pub some : 0 < length es
  pub entries : All (Entry sh) es
  pub distinct : Distinct es
  pub targets : good_targets sh es ≡ true

module _ (sh : Shape) (g : Good sh) where
  pub par-cong : (p q : List ℕ) (t : ℕ) → InZones sh t → ((a : ℕ) → InData sh a → word p a ≡ word q a) → parity_word sh p t ≡ parity_word sh q t
  unfolding parity_word
  par-cong p q t h e =
      xor_to-cong sh.rows (λ r. word p (row_at sh t r)) (λ r. word q (row_at sh t r)) (λ r l. e (row_at sh t r) (row-data sh g t r h l))

  pub par-small : (p : List ℕ) (t : ℕ) → Bytes p → parity_word sh p t < 2 ^ 64
  unfolding parity_word
  par-small p t h = xor_to-lt 64 sh.rows (λ r. word p (row_at sh t r)) (λ r l. word_lt p (row_at sh t r) h) (zero-lt-suc _)

  rows-cong : (p q : List ℕ) (t : ℕ) → ((k : ℕ) → k < sh.rows → word p (row_at sh t k) ≡ word q (row_at sh t k)) → parity_word sh p t ≡ parity_word sh q t
  unfolding parity_word
  rows-cong p q t h = xor_to-cong sh.rows (λ k. word p (row_at sh t k)) (λ k. word q (row_at sh t k)) h

  -- from each row of a column it is the same
  par-row : (p : List ℕ) (t r : ℕ) → r ≤ sh.rows → parity_word sh p (row_at sh t r) ≡ parity_word sh p t
  unfolding parity_word
  par-row p t r h = xor_to-cong sh.rows _ _ (λ k l. ap (word p) (row-row sh g t r k h))

  place-not-data : (t : ℕ) → InData sh (parity_at sh t) → ⊥
  place-not-data t h = let a = h.data-row in let e = row_of sh g t sh.rows (le_refl sh.rows) in omega arith

  pub zones-fit : (t w : ℕ) → InZones sh t → w < 2 ^ 64 → Fit (pool_size sh) t w
  zones-fit t w h k = record { even = h.even; inside = fits sh g t h.even h.high; small = k }

  pub entries_fit : (es : List Store) → All (Entry sh) es → All (Fit (pool_size sh)) es
  entries_fit es h = all_map {Q = Entry sh} {Q' = Fit (pool_size sh)} (λ a w e. zones-fit a w e.target.inside e.small) es h

  pars-fit : (p : List ℕ) (es : List Store) → Bytes p → All (Entry sh) es → All (Fit (pool_size sh)) (par_stores sh p es)
  pars-fit p [] b h = tt
  pars-fit p (e ∷ es) b h = (
    zones-fit (parity_at sh e.at) _ (row_in sh g e.at sh.rows h.0.target.inside (omega arith)) (par-small p e.at b),
    pars-fit p es b h.1,
  )

  pub pars-row : (a : ℕ) (p : List ℕ) (es : List Store) → Covered a (par_stores sh p es) → InData sh a → ⊥
  pars-row a p [] x h = elim x [ ]
  pars-row a p (e ∷ es) (inl i) h = place-not-data e.at (subst (InData sh) i h)
  pars-row a p (e ∷ es) (inr c) h = pars-row a p es c h

  pub pars-low : (p : List ℕ) (es : List Store) → All (Entry sh) es → All (λ a w. zones_at sh ≤ a) (par_stores sh p es)
  pars-low p [] h = tt
  pars-low p (e ∷ es) h = ((row_in sh g e.at sh.rows h.0.target.inside (le_refl sh.rows)).low, pars-low p es h.1)

  -- the places of the parity stores do not depend on the pool
  pub pars-cover : (a : ℕ) (p q : List ℕ) (es : List Store) → Covered a (par_stores sh p es) → Covered a (par_stores sh q es)
  pars-cover a p q [] x = elim x [ ]
  pars-cover a p q (e ∷ es) (inl i) = inl i
  pars-cover a p q (e ∷ es) (inr c) = inr (pars-cover a p q es c)

  target-par : (t : ℕ) (p : List ℕ) (es : List Store) → Covered t es → Covered (parity_at sh t) (par_stores sh p es)
  target-par t p [] x = elim x [ ]
  target-par t p (e ∷ es) (inl i) = inl (ap (parity_at sh) i)
  target-par t p (e ∷ es) (inr c) = inr (target-par t p es c)

module _ (sh : Shape) (es : List Store) (p₀ : List ℕ) (c : Setting sh es p₀) where
  abbrev p₁ : List ℕ
  p₁ = lay p₀ es

  l₁ : length p₁ ≡ pool_size sh
  l₁ = length-lay p₀ es ∙ c.length-is

  fit₁ : All (Fit (pool_size sh)) (par_stores sh p₁ es)
  fit₁ = pars-fit sh c.good p₁ es (bytes-lay p₀ es c.bytes) c.entries

  -- the parity stores leave the data rows alone
  final-data : (a : ℕ) → InData sh a → word (final_pool sh p₀ es) a ≡ word p₁ a
  unfolding final_pool
  final-data a h =
      lay-every (λ b w. InData sh b → w ≡ word p₁ b) p₁ (par_stores sh p₁ es) l₁ (λ b hb hn d. refl) fit₁ (go es) a
      h.inside.even (fits sh c.good a h.inside.even h.inside.high) h
    where
      go : (l : List Store) → All (λ b w. InData sh b → w ≡ word p₁ b) (par_stores sh p₁ l)
      go [] = tt
      go (e ∷ l) = ((λ d. absurd (place-not-data sh c.good e.at d)), go l)

  final-par : (t : ℕ) → InZones sh t → parity_word sh (final_pool sh p₀ es) t ≡ parity_word sh p₁ t
  final-par t h = par-cong sh c.good (final_pool sh p₀ es) p₁ t h final-data

  -- each target has its entry's word
  pub final-target : All (λ a w. word (final_pool sh p₀ es) a ≡ w) es
  final-target = go es c.entries (right-all p₁ es (lay-right p₀ es c.length-is (entries_fit sh c.good es c.entries) c.distinct) (entries_fit sh c.good es c.entries)) where
    go : (l : List Store) → All (Entry sh) l → All (λ a w. word p₁ a ≡ w) l → All (λ a w. word (final_pool sh p₀ es) a ≡ w) l
    go [] h e = tt
    go (x ∷ l) h e = (final-data x.at h.0.target ∙ e.0, go l h.1 e.1)

  -- every other word is as before
  first_else : Every (pool_size sh) (λ a w. Covered a es ⊎ (w ≡ word p₀ a)) p₁
  first_else =
      lay-every (λ a w. Covered a es ⊎ (w ≡ word p₀ a)) p₀ es c.length-is (λ a ha hn. inr refl) (entries_fit sh c.good es c.entries)
      (all_map {Q = λ a w. Covered a es} {Q' = λ a w. Covered a es ⊎ (w ≡ word p₀ a)} (λ a w c. inl c) es (all-covered es))

  abbrev pub added : List Store
  added = par_stores sh p₁ es

  pub final-else : Every (pool_size sh) (λ a w. Covered a es ⊎ (Covered a added ⊎ (w ≡ word p₀ a))) (final_pool sh p₀ es)
  unfolding final_pool
  final-else =
      lay-every (λ a w. Covered a es ⊎ (Covered a added ⊎ (w ≡ word p₀ a))) p₁ added l₁ (λ a ha hn. go a (first_else a ha hn)) fit₁
      (all_map {Q = λ a w. Covered a added} {Q' = λ a w. Covered a es ⊎ (Covered a added ⊎ (w ≡ word p₀ a))} (λ a w c. inr (inl c)) added (all-covered added))
    where
      go : (a : ℕ) → Covered a es ⊎ (word p₁ a ≡ word p₀ a) → Covered a es ⊎ (Covered a added ⊎ (word p₁ a ≡ word p₀ a))
      go a (inl c) = inl c
      go a (inr e) = inr (inr e)

  pub final-first : Every (pool_size sh) (λ a w. Covered a added ⊎ (w ≡ word p₁ a)) (final_pool sh p₀ es)
  unfolding final_pool
  final-first =
      lay-every (λ a w. Covered a added ⊎ (w ≡ word p₁ a)) p₁ added l₁ (λ a ha hn. inr refl) fit₁
      (all_map {Q = λ a w. Covered a added} {Q' = λ a w. Covered a added ⊎ (w ≡ word p₁ a)} (λ a w c. inl c) added (all-covered added))

  -- the parity words stored
  final-place : Every (pool_size sh) (λ a w. Covered a added → w ≡ parity_word sh p₁ a) (final_pool sh p₀ es)
  unfolding final_pool
  final-place =
      lay-fact (λ a w. Covered a added → w ≡ parity_word sh p₁ a) p₁ added l₁ (λ a ha hn. or a (covered? a added)) fit₁ (go es)
    where
      or : (a : ℕ) → Covered a added ⊎ (Covered a added → ⊥) → Covered a added ⊎ (Covered a added → word p₁ a ≡ parity_word sh p₁ a)
      or a (inl c) = inl c
      or a (inr c) = inr (λ d. absurd (c d))

      go : (l : List Store) → All (λ a w. Covered a added → w ≡ parity_word sh p₁ a) (par_stores sh p₁ l)
      go [] = tt
      go (e ∷ l) = ((λ _. sym (par-row sh c.good p₁ e.at sh.rows (le_refl sh.rows))), go l)

  covered-data : (a : ℕ) → Covered a es → InData sh a
  covered-data a d = covered-fact (InData sh) a es d (all_map {Q = Entry sh} {Q' = λ a w. InData sh a} (λ a w e. e.target) es c.entries)

  -- parity is right
  pub final-parity : ParityW sh (final_pool sh p₀ es)
  final-parity t h = go (covered? a added) (final-else a i.even (fits sh c.good a i.even i.high)) where
    a : ℕ
    a = parity_at sh t

    i : InZones sh a
    i = row_in sh c.good t sh.rows h (le_refl sh.rows)

    same : (Covered a added → ⊥) → (k : ℕ) → k < sh.rows → word p₀ (row_at sh t k) ≡ word p₁ (row_at sh t k)
    same n k l = pick (first_else (row_at sh t k) j.even (fits sh c.good _ j.even j.high)) where
      j : InZones sh (row_at sh t k)
      j = row_in sh c.good t k h (omega arith)

      pick : Covered (row_at sh t k) es ⊎ (word p₁ (row_at sh t k) ≡ word p₀ (row_at sh t k)) → word p₀ (row_at sh t k) ≡ word p₁ (row_at sh t k)
      pick (inl d) = absurd (n (subst (λ (b : ℕ). Covered b added) (row-row sh c.good t k sh.rows (omega arith)) (target-par sh c.good (row_at sh t k) p₁ es d)))
      pick (inr e) = sym e

    go : Covered a added ⊎ (Covered a added → ⊥) → Covered a es ⊎ (Covered a added ⊎ (word (final_pool sh p₀ es) a ≡ word p₀ a))
        → word (final_pool sh p₀ es) a ≡ parity_word sh (final_pool sh p₀ es) t
    go (inl d) _ =
        final-place a i.even (fits sh c.good a i.even i.high) d ∙ par-row sh c.good p₁ t sh.rows (le_refl sh.rows) ∙ sym (final-par t h)
    go (inr n) (inl d) = absurd (place-not-data sh c.good t (covered-data a d))
    go (inr n) (inr (inl d)) = absurd (n d)
    go (inr n) (inr (inr e)) = e ∙ c.right t h ∙ rows-cong sh c.good p₀ p₁ t (same n) ∙ sym (final-par t h)
