-- A transaction's record judged, way out by way out; and what a caller knows of one that passed. Assumes nothing.
use Prim.Native.Nat.{ℕ, zero, suc, ◌+◌, ◌*◌, ◌≤◌, ◌<◌}
use mathlib.Core.Path.{◌≡◌, refl, sym, ap, ◌∙◌}
use mathlib.Core.Bool.{Bool, true, false, not, ◌||◌}
use mathlib.Core.Option.{none, some}
use mathlib.Core.List.{List, [], ◌∷◌, ◌++◌}
use native.Mathlib.Omega.{arith}
use lib.Dec.{ltb}
use lib.ListN.{length}
use borrow.Author.Tests.{eq-eqb, le-ltb, lt-ltb, ltb-false, ne_eqb}
use Rattle.rules.specs.Words.{Bytes}
use Rattle.rules.specs.Shape.{Shape as PoolShape, entry_limit, staging_size}
use Rattle.rules.specs.Test.{Test, first, when}
use Rattle.rules.specs.Header.{id_in, id_test, open_tests, shape_in}
use Rattle.rules.specs.Seals.{unsealed}
use Rattle.rules.specs.Staging.{Phase, closed, commit_length, committing, entries_at, good_targets, impossible, is_live, live, past_commit}
use Rattle.rules.specs.Answer.{Given}
use Rattle.rules.specs.Calls.{live_tests, record_tests}
use Rattle.rules.proofs.Header.{range-good}
use Rattle.rules.proofs.Test.{Passed, first-left, first-passed, first-right, not-not, passed-right}
use Rattle.layout.specs.Meaning.{Shaped, good, opened}
use Rattle.layout.proofs.Opening.{open-good, open-passed, open-shaped}
use Rattle.pool_log.specs.Targets.{all_fit, read}
use Rattle.pool_log.proofs.Targets.{all-fit-is}
use Rattle.stage.proofs.Seen.{staged-good}
use Rattle.answers.specs.Planned.{Judged}
use Rattle.record.specs.declared.Phase as Code
use Rattle.record.specs.declared.Phase.TheVariants.{Closed, Committing, Open}
use Rattle.record.specs.Meaning.{phase_of}
use Rattle.rules.proofs.Bool.{or-false}

-- ---- the number of steps

pub steps-none : (n : ℕ) → n ≡ 0 → 0 ≡ commit_length n
unfolding commit_length
steps-none zero e = refl
steps-none (suc n) e = absurd (omega arith)

pub steps-some : (n : ℕ) → (n ≡ 0 → ⊥) → 6 * n + 9 ≡ commit_length n
unfolding commit_length
steps-some zero e = absurd (e refl)
steps-some (suc n) e = refl

-- ---- the phase

pub live_else : (f : Code.Phase) → (f ≡ Open → ⊥) → false ≡ is_live (phase_of f)
unfolding is_live
live_else Open h = absurd (h refl)
live_else (Committing k) h = refl
live_else Closed h = refl

-- none but an open phase is live
pub live-only : (f : Phase) → is_live f ≡ true → f ≡ live
unfolding is_live
live-only live e = refl
live-only (committing k) e = absurd (let z : ◌≡◌ {A = ℕ} 0 1 = cc in omega arith)
live-only closed e = absurd (let z : ◌≡◌ {A = ℕ} 0 1 = cc in omega arith)

-- ---- the record

module _ (sh : PoolShape) (st : List ℕ) (n : ℕ) (f : Phase) where
  pub impossible_many : entry_limit < n → false ≡ not (impossible sh st n f)
  unfolding impossible
  impossible_many h = rw (lt-ltb entry_limit n h)

  module _ {x : Bool} (h : n ≤ entry_limit) (p : x ≡ past_commit n f) where
    pub impossible_past : x ≡ true → false ≡ not (impossible sh st n f)
    unfolding impossible
    impossible_past y = rw (le-ltb entry_limit n h, ← p, y)

    pub possible_fits : {y : Bool} → x ≡ false → y ≡ all_fit sh (read st 0 n) → y ≡ not (impossible sh st n f)
    unfolding impossible
    possible_fits {y} w q = rw (le-ltb entry_limit n h, ← p, w, ← (all-fit-is st 0 n sh), ← q) (twice y)
      where
        twice : (b : Bool) → b ≡ not (not b)
        twice true = refl
        twice false = refl

-- ---- 9, 10, 11, on a pool that opens

module _ (g : Given) where
  abbrev impossible_in : PoolShape → Bool
  impossible_in sh = impossible sh g.staging g.txn.count g.txn.phase

  module _ {sh : PoolShape} (e : opened g.pool ≡ good sh) where
    abbrev behind : List Test
    behind = when (ltb (length g.staging) staging_size) 9 ∷ when (impossible_in (shape_in g.pool)) 10 ∷ id_test g.txn.id g.pool ∷ []

    opening : first (record_tests g) ≡ first behind
    unfolding record_tests
    opening = first-right (open_tests g.pool) behind (open-passed g.pool sh e)

    pub judge-short : length g.staging < staging_size → some 9 ≡ first (record_tests g)
    unfolding first
    judge-short h = rw (opening, lt-ltb (length g.staging) staging_size h)

    module _ {x : Bool} (h : staging_size ≤ length g.staging) (q : x ≡ not (impossible_in sh)) where
      flip : {b : Bool} → x ≡ b → impossible_in (shape_in g.pool) ≡ not b
      flip y = ap impossible_in (sym (open-good g.pool sh e).2) ∙ other (sym q ∙ y)
        where
          other : {a b : Bool} → not a ≡ b → a ≡ not b
          other {a = true} e = rw (← e)
          other {a = false} e = rw (← e)

      pub judge-bad : x ≡ false → some 10 ≡ first (record_tests g)
      unfolding first
      judge-bad y = rw (opening, le-ltb (length g.staging) staging_size h, flip y)

      module _ {d : ℕ} (y : x ≡ true) (i : d ≡ id_in g.pool) where
        pub judge-other : (g.txn.id ≡ d → ⊥) → some 11 ≡ first (record_tests g)
        unfolding first
        judge-other n = rw (opening, le-ltb (length g.staging) staging_size h, flip y, ne_eqb g.txn.id (id_in g.pool) (λ z. n (z ∙ sym i)))

        pub judge-good : g.txn.id ≡ d → none ≡ first (record_tests g)
        unfolding first
        judge-good z = rw (opening, le-ltb (length g.staging) staging_size h, flip y, eq-eqb g.txn.id (id_in g.pool) (z ∙ i))

-- ---- what a caller knows of a record that passed

module _ (g : Given) {sh : PoolShape} (o : opened g.pool ≡ good sh) (e : first (record_tests g) ≡ none) where
  pub record-passed : Passed (record_tests g)
  record-passed = first-passed (record_tests g) e

  pub record-shaped : Shaped g.pool sh
  record-shaped = open-shaped g.pool sh o

  pub record-shape : sh ≡ shape_in g.pool
  record-shape = (open-good g.pool sh o).2

  tests : (ltb (length g.staging) staging_size ≡ false) × (impossible_in g (shape_in g.pool) ≡ false)
  unfolding record_tests
  tests = let h = passed-right (open_tests g.pool) _ record-passed in (h.0, h.1.0)

  pub record-room : staging_size ≤ length g.staging
  record-room = ltb-false (length g.staging) staging_size tests.0

  possible : impossible_in g sh ≡ false
  possible = ap (impossible_in g) record-shape ∙ tests.1

  -- count at most 127, place within its list, targets that fit
  pub record-possible : (g.txn.count ≤ entry_limit) × (past_commit g.txn.count g.txn.phase ≡ false) × (good_targets sh (entries_at g.staging 0 g.txn.count) ≡ true)
  unfolding impossible
  record-possible =
      let a = or-false (ltb entry_limit g.txn.count) (past_commit g.txn.count g.txn.phase || not (good_targets sh (entries_at g.staging 0 g.txn.count))) possible in
      let b = or-false (past_commit g.txn.count g.txn.phase) (not (good_targets sh (entries_at g.staging 0 g.txn.count))) a.1 in
      (ltb-false entry_limit g.txn.count a.0, b.0, not-not (good_targets sh (entries_at g.staging 0 g.txn.count)) b.1)

  pub record-judged : Bytes g.staging → Judged sh g.pool g.staging g.txn.count
  record-judged b =
      let k = record-possible in
      let r = record-room in
      let h : 16 * g.txn.count ≤ length g.staging = omega (arith, k.0) in
      record { shaped = record-shaped; staged = staged-good sh g.pool g.staging g.txn.count b k.2 record-shaped.size (range-good sh record-shaped.range.paged record-shaped.range.ranged) h; few = k.0; room = r }

  -- ---- then 29, 21

  judged : first (record_tests g ++ live_tests g) ≡ first (live_tests g)
  judged = first-right (record_tests g) (live_tests g) record-passed

  module _ {x : Bool} (q : x ≡ is_live g.txn.phase) where
    pub ready-closed : x ≡ false → some 29 ≡ first (record_tests g ++ live_tests g)
    unfolding first live_tests
    ready-closed y = rw (judged, ← q, y)

    module _ {y : Bool} (w : x ≡ true) (r : y ≡ unsealed sh g.pool) where
      pub ready-sealed : y ≡ false → some 21 ≡ first (record_tests g ++ live_tests g)
      unfolding first live_tests
      ready-sealed u = rw (judged, ← q, w, ← record-shape, ← r, u)

      pub ready-good : y ≡ true → none ≡ first (record_tests g ++ live_tests g)
      unfolding first live_tests
      ready-good u = rw (judged, ← q, w, ← record-shape, ← r, u)

pub ready_refused : (g : Given) {k : ℕ} → some k ≡ first (record_tests g) → some k ≡ first (record_tests g ++ live_tests g)
ready_refused g {k} e = sym (first-left (record_tests g) (live_tests g) k (sym e))
