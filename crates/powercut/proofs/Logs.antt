-- The logs: where the stores of part 1 go, what is read back from them, the fields of the seal, and which log a recovery takes. Of at most
-- 127 entries with good targets. Assumes nothing else.
use mathlib.Core.Path.{◌≡◌, refl, ap, ◌∙◌}
use mathlib.Core.Logic.{◌⊎◌, inl, inr}
use mathlib.Core.Bool.{Bool, true, false, not, ◌&&◌}
use mathlib.Core.List.{List, [], ◌∷◌}
use Prim.Native.Nat.{ℕ, suc, ◌+◌, ◌*◌, ◌/◌, ◌%◌, ◌^◌, ◌≤◌, ◌<◌}
use native.Mathlib.Nat.{mul-mod_left}
use native.Mathlib.Omega.{arith}
use borrow.Author.Tests.{eq-eqb, eqb-true, le-leb, lt-ltb}
use lib.Dec.{leb, ltb, eqb}
use lib.Arith.{digits_div, digits_mod}
use lib.ListN.{length}
use Rattle.rules.specs.Words.{word}
use Rattle.rules.specs.Check.{check}
use Rattle.rules.specs.Shape.{Shape, entry_limit, entry_size, log_a, log_b, log_head, pool_size, zones_at}
use Rattle.rules.specs.Staging.{Store, entries_at, entry_bytes, good_targets}
use Rattle.rules.proofs.Bool.{and_split}
use Rattle.rules.proofs.Test.{not-not}
use Rattle.rules.proofs.Shape.{Good, page-eq, size-eq}
use Rattle.rules.proofs.Stores.{All, Covered, Distinct, Fit, all_map, covered-fact}
use Rattle.rules.proofs.Check.{check-lt}
use Rattle.rules.proofs.Transaction.{entry-bytes}
use Rattle.powercut.specs.Log.{Log, check_in, count_in, from_a, from_b, log_at, log_entries, mark_in, seal_mark, seal_of, valid}
use Rattle.powercut.specs.Steps.{log_stores, nothing, remedy, replay}
use Rattle.powercut.proofs.FinalPool.{Entry}

-- ---- the places of part 1

module _ (sh : Shape) where
  -- a place past the first i entries of a log, and inside it
  abbrev pub Inner : ℕ → ℕ → Type 0
  Inner i a = ((log_a sh + log_head + entry_size * i ≤ a) × (a < log_b sh)) ⊎ ((log_b sh + log_head + entry_size * i ≤ a) × (a < zones_at sh))

module _ (sh : Shape) (g : Good sh) where
  inner-later : (i a : ℕ) → Inner sh (suc i) a → Inner sh i a
  inner-later i a (inl h) = inl (omega arith)
  inner-later i a (inr h) = inr (omega arith)

  pub log-inner : (i : ℕ) (es : List Store) → i + length es ≤ entry_limit → All (λ a w. Inner sh i a) (log_stores sh i es)
  log-inner i [] h = tt
  log-inner i (e ∷ es) h =
      let k = g.page-min in (
        inl (omega arith),
        (
          inl (omega arith),
          (
            inr (omega arith),
            (
              inr (omega arith),
              all_map {Q = λ a w. Inner sh (suc i) a} {Q' = λ a w. Inner sh i a} (λ a w. inner-later i a) (log_stores sh (suc i) es) (log-inner (suc i) es (omega arith)),
            ),
          ),
        ),
      )

  logs-below : log_a sh < zones_at sh × zones_at sh ≤ pool_size sh
  logs-below = let k = g.page-min in let e = size-eq sh g in omega arith

  -- a place that many pages and words on
  pub even-at : (m k a : ℕ) → a ≡ m * sh.page + 8 * k → a % 8 ≡ 0
  even-at m k a e =
      ap (λ (y : ℕ). y % 8) (e ∙ ap (λ (y : ℕ). m * y + 8 * k) (page-eq sh g) ∙ units (sh.page / 8))
      ∙ mul-mod_left (m * (sh.page / 8) + k) 8
    where
      units : (u : ℕ) → m * (u * 8) + 8 * k ≡ (m * u + k) * 8
      units u = omega arith

  pub log-fit : (i : ℕ) (es : List Store) → i + length es ≤ entry_limit → All (Entry sh) es → All (Fit (pool_size sh)) (log_stores sh i es)
  log-fit i [] h k = tt
  log-fit i (e ∷ es) h k =
      let m = g.page-min in let z = logs-below in let t = k.0.target.inside.high in let y = g.limit in let v = k.0.small in (
        record { even = even-at 2 (2 + 2 * i) _ (omega arith); inside = omega arith; small = omega arith },
        (
          record { even = even-at 2 (3 + 2 * i) _ (omega arith); inside = omega arith; small = v },
          (
            record { even = even-at 10 (2 + 2 * i) _ (omega arith); inside = omega arith; small = omega arith },
            (
              record { even = even-at 10 (3 + 2 * i) _ (omega arith); inside = omega arith; small = v },
              log-fit (suc i) es (omega arith) k.1,
            ),
          ),
        ),
      )

  -- no place is stored twice
  pub log-distinct : (i : ℕ) (es : List Store) → i + length es ≤ entry_limit → Distinct (log_stores sh i es)
  log-distinct i [] h = tt
  log-distinct i (e ∷ es) h = (
    neither (λ x. omega arith) (neither (λ x. omega arith) (neither (λ x. omega arith) (λ c. go1 (later _ c)))),
    (
      neither (λ x. omega arith) (neither (λ x. omega arith) (λ c. go2 (later _ c))),
      (
        neither (λ x. omega arith) (λ c. go3 (later _ c)),
        (
          (λ c. go4 (later _ c)),
          log-distinct (suc i) es (omega arith),
        ),
      ),
    ),
  )
    where
      neither : {A B : Type 0} → (A → ⊥) → (B → ⊥) → A ⊎ B → ⊥
      neither f k (inl a) = f a
      neither f k (inr b) = k b

      m : 256 ≤ sh.page
      m = g.page-min

      later : (a : ℕ) → Covered a (log_stores sh (suc i) es) → Inner sh (suc i) a
      later a c = covered-fact (Inner sh (suc i)) a (log_stores sh (suc i) es) c (log-inner (suc i) es (omega arith))

      go1 : Inner sh (suc i) (log_a sh + log_head + entry_size * i) → ⊥
      go1 (inl x) = omega arith
      go1 (inr x) = omega (arith, m)

      go2 : Inner sh (suc i) (log_a sh + (log_head + 8) + entry_size * i) → ⊥
      go2 (inl x) = omega arith
      go2 (inr x) = omega (arith, m)

      go3 : Inner sh (suc i) (log_b sh + log_head + entry_size * i) → ⊥
      go3 (inl x) = omega (arith, m)
      go3 (inr x) = omega arith

      go4 : Inner sh (suc i) (log_b sh + (log_head + 8) + entry_size * i) → ⊥
      go4 (inl x) = omega (arith, m)
      go4 (inr x) = omega arith

  -- what is stored in part 1 reads back as the entries, from either log
  pub log-reads : (l : Log) (p : List ℕ) (i : ℕ) (es : List Store) → All (λ a w. word p a ≡ w) (log_stores sh i es) → (a : ℕ)
      → a ≡ log_at sh l + log_head + entry_size * i → entries_at p a (length es) ≡ es
  log-reads l p i [] h a e = refl
  log-reads l p i (x ∷ es) h a e =
      let k = at-log l in
      let v : word p (a + 8) ≡ x.val = ap (word p) (omega arith) ∙ k.1 in
      λ j. record { at = (ap (word p) e ∙ k.0) j; val = v j } ∷ log-reads l p (suc i) es h.1.1.1.1 (a + entry_size) (omega arith) j
    where
      at-log : (l : Log)
          → (word p (log_at sh l + log_head + entry_size * i) ≡ x.at) × (word p (log_at sh l + (log_head + 8) + entry_size * i) ≡ x.val)
      at-log from_a = (h.0, h.1.0)
      at-log from_b = (h.1.1.0, h.1.1.1.0)

module _ (sh : Shape) (l : Log) (g : Good sh) where
  -- where a log lies: at a word, between the headers and the zones
  pub record Place (b : ℕ) : Type 0 where
    pub whole : b % 8 ≡ 0
    pub from : log_a sh ≤ b
    pub to : b + 8 * sh.page ≤ zones_at sh

  pub place : Place (log_at sh l)
  place = go l where
    go : (k : Log) → Place (log_at sh k)
    go from_a = record { whole = even-at sh g 2 0 (log_a sh) (omega arith); from = omega arith; to = omega arith }
    go from_b = record { whole = even-at sh g 10 0 (log_b sh) (omega arith); from = omega arith; to = omega arith }

  pub even-log : log_at sh l % 8 ≡ 0
  even-log = place.whole

  pub in-log : log_at sh l + 8 ≤ pool_size sh
  in-log = let k = place.to in let m = g.page-min in let e = size-eq sh g in omega arith

-- ---- the seal

entries-check : (es : List Store) → check (entry_bytes es) < 2 ^ 32
entries-check es = check-lt (entry_bytes es) (entry-bytes es)

module _ (es : List Store) (few : length es ≤ entry_limit) where
  pub seal-lt : seal_of es < 2 ^ 64
  unfolding seal_of
  seal-lt = let c = entries-check es in omega arith

  seal-high : seal_of es / 2 ^ 32 ≡ seal_mark * 2 ^ 16 + length es
  unfolding seal_of
  seal-high = digits_div (seal_mark * 2 ^ 16 + length es) (entries-check es)

  pub seal-mark : mark_in (seal_of es) ≡ seal_mark
  unfolding mark_in
  seal-mark = rw seal-high (let h = few in digits_div seal_mark {m = 2 ^ 16} (omega arith))

  pub seal-count : count_in (seal_of es) ≡ length es
  unfolding count_in
  seal-count = rw seal-high (let h = few in digits_mod seal_mark {m = 2 ^ 16} (omega arith))

  pub seal-check : check_in (seal_of es) ≡ check (entry_bytes es)
  unfolding check_in seal_of
  seal-check = digits_mod (seal_mark * 2 ^ 16 + length es) (entries-check es)

-- ---- which log is valid

-- and good targets
pub log-targets : (sh : Shape) (p : List ℕ) (b : ℕ) → valid sh p b ≡ true → good_targets sh (entries_at p (b + log_head) (count_in (word p b))) ≡ true
unfolding valid log_entries
log-targets sh p b v =
    let m = and_split (eqb (mark_in (word p b)) seal_mark) _ v in
    let o = and_split (leb 1 (count_in (word p b))) _ m.1 in
    let q = and_split (leb (count_in (word p b)) entry_limit) _ o.1 in
    (and_split (eqb (check_in (word p b)) (check (entry_bytes (entries_at p (b + log_head) (count_in (word p b)))))) _ q.1).1

-- a log that is judged, up to place m, and not lost: the answer v to whether it is valid, and its count
pub judged-kept : (k m : ℕ) (v : Bool) (c n : ℕ) → (ltb k m && not (v && eqb c n)) ≡ false → k < m → (v ≡ true) × (c ≡ n)
judged-kept k m v c n e l =
    let f : not (v && eqb c n) ≡ false = rw (lt-ltb k m l) at e in
    let a = and_split v (eqb c n) (not-not (v && eqb c n) f) in
    (a.0, eqb-true c n a.1)

pub not_valid : (sh : Shape) (p : List ℕ) (b : ℕ) → word p b ≡ 0 → valid sh p b ≡ false
unfolding valid log_entries mark_in
not_valid sh p b e = rw e

pub remedy-nothing : (sh : Shape) (p : List ℕ) → word p (log_a sh) ≡ 0 → word p (log_b sh) ≡ 0 → remedy sh p ≡ nothing
unfolding remedy
remedy-nothing sh p a b = rw (not_valid sh p (log_a sh) a, not_valid sh p (log_b sh) b, a, b)

module _ (sh : Shape) (es : List Store) (few : length es ≤ entry_limit) (pos : 0 < length es) (good : good_targets sh es ≡ true) where
  pub valid-sealed : (p : List ℕ) (b : ℕ) → word p b ≡ seal_of es → entries_at p (b + log_head) (length es) ≡ es → valid sh p b ≡ true
  unfolding valid log_entries
  valid-sealed p b e r =
      rw (
        e,
        seal-mark es few,
        seal-count es few,
        seal-check es few,
        r,
        le-leb 1 (length es) pos,
        le-leb (length es) entry_limit few,
        eq-eqb (check (entry_bytes es)) (check (entry_bytes es)) refl,
        good,
      )

  pub remedy-A : (p : List ℕ) → word p (log_a sh) ≡ seal_of es → entries_at p (log_a sh + log_head) (length es) ≡ es → remedy sh p ≡ replay from_a (length es)
  unfolding remedy
  remedy-A p e r = rw (valid-sealed p (log_a sh) e r, e, seal-count es few)

  pub remedy-B : (p : List ℕ) → word p (log_a sh) ≡ 0 → word p (log_b sh) ≡ seal_of es → entries_at p (log_b sh + log_head) (length es) ≡ es
      → remedy sh p ≡ replay from_b (length es)
  unfolding remedy
  remedy-B p z e r = rw (not_valid sh p (log_a sh) z, valid-sealed p (log_b sh) e r, e, seal-count es few)
