-- What a run begins with, a sound pool, staging memory and typed calls (`Input`): what the calls leave, and what a pool with the headers of
-- the start is. Assumes nothing else.
use mathlib.Core.Path.{◌≡◌, sym, subst}
use mathlib.Core.Bool.{true}
use mathlib.Core.List.{List, [], ◌∷◌}
use Prim.Native.Nat.{ℕ, zero, suc, ◌^◌, ◌≤◌, ◌<◌}
use native.Mathlib.Omega.{arith}
use lib.Dec.{eqb, lit<}
use lib.ListN.{length, get_or}
use borrow.Author.Tests.{eqb-true}
use Rattle.rules.specs.Words.{word}
use Rattle.rules.specs.Shape.{Shape, entry_limit, log_a, log_b}
use Rattle.rules.specs.Header.{id_in, open_tests, shape_in}
use Rattle.rules.specs.Seals.{unsealed}
use Rattle.rules.specs.Staging.{Store, Tidy, good_targets, live}
use Rattle.rules.specs.Plan.{Call}
use Rattle.rules.specs.Calls.{AllTyped, begun, entries_in}
use Rattle.rules.specs.Sound.{Sound, book_of}
use Rattle.rules.proofs.Bool.{and_split}
use Rattle.rules.proofs.Test.{Passed}
use Rattle.rules.proofs.Shape.{Good}
use Rattle.rules.proofs.Held.{Held}
use Rattle.rules.proofs.Header.{SameHeaders, id_same, page-is, same-headers, shape_same, sound-good, sound-long, sound-opens, tests_same}
use Rattle.rules.proofs.Transaction.{Kept, calls-kept, calls-pool, entries-count, targets-good}
use Rattle.rules.proofs.Sound.{begun_kept, sound-fits}
use Rattle.powercut.specs.WholeRun.{entries, made}
use Rattle.powercut.specs.Claim.{new}
use Rattle.powercut.proofs.StepRun.{Clean, Entries}

tidy-vals : (es : List Store) → Tidy es → (i : ℕ) → (get_or es i (record { at = 0; val = 0 })).val < 2 ^ 64
tidy-vals [] t i = lit< tt
tidy-vals (e ∷ es) t zero = t.1
tidy-vals (e ∷ es) t (suc i) = tidy-vals es t.3 i

-- what a run begins with: a sound pool, staging memory and calls with typed arguments
pub record Input : Type 0 where
  pub pool : List ℕ
  pub staging : List ℕ
  pub ks : List Call
  pub sound : Sound pool
  pub typed : AllTyped ks

module _ (inp : Input) where
  abbrev pool : List ℕ
  pool = inp.pool

  abbrev staging : List ℕ
  staging = inp.staging

  abbrev ks : List Call
  ks = inp.ks

  abbrev sound : Sound pool
  sound = inp.sound

  abbrev sh : Shape
  sh = shape_in pool

  abbrev es : List Store
  es = entries pool staging ks

  abbrev held-staging : List ℕ
  held-staging = (made pool staging ks).left.staging

  pub good : Good sh
  good = sound-good pool sound

  -- ---- what the calls leave

  pub left-pool : (made pool staging ks).left.pool ≡ pool
  unfolding made begun
  left-pool = (calls-pool ks (begun pool staging)).0

  pub left-staging : length held-staging ≡ length staging
  unfolding made begun
  left-staging = (calls-pool ks (begun pool staging)).1

  pub kept : Kept (made pool staging ks).left (new pool staging ks)
  unfolding made begun
  kept = calls-kept ks (begun pool staging) (book_of pool) good (sound-fits pool sound) sound.length-is inp.typed (begun_kept pool staging sound)

  pub live-is : (made pool staging ks).left.txn.phase ≡ live
  live-is = kept.live-is

  pub held : Held sh pool es (new pool staging ks)
  unfolding entries
  held = subst (λ (p : List ℕ). Held (shape_in p) p (entries_in (made pool staging ks).left) (new pool staging ks)) left-pool kept.held

  pub count-is : (made pool staging ks).left.txn.count ≡ length es
  unfolding entries entries_in
  count-is = sym (entries-count held-staging 0 (made pool staging ks).left.txn.count)

  pub few : length es ≤ entry_limit
  few = let a = count-is in let b = kept.few in omega arith

  pub targets : good_targets sh es ≡ true
  targets = targets-good sh pool good (sound-fits pool sound) sound.length-is es held.tidy held.inside

  pub clean : Clean sh pool
  unfolding unsealed
  clean =
      let a = and_split (eqb (word pool (log_a sh)) 0) (eqb (word pool (log_b sh)) 0) sound.seals in
      record { length-is = sound.length-is; bytes = sound.bytes; seal_a = eqb-true _ 0 a.0; seal_b = eqb-true _ 0 a.1; right = sound.parity }

  pub entries-good : Entries sh es
  entries-good = record { few = few; good = targets; vals = tidy-vals es held.tidy }

  -- ---- a pool with the headers of the start opens, with its shape and its id

  abbrev pub HeadersKept : List ℕ → Type 0
  HeadersKept p = (length p ≡ length pool) × ((i : ℕ) → i < log_a sh → get_or p i 0 ≡ get_or pool i 0)

  pub same_head : (p : List ℕ) → HeadersKept p → SameHeaders p pool
  same_head p h =
      same-headers p pool h.0 (let k = sound-long pool sound in let e = h.0 in omega arith) (λ i l. h.1 i (let k = page-is pool sound in omega arith))

  pub shape_is : (p : List ℕ) → HeadersKept p → shape_in p ≡ sh
  shape_is p h = shape_same p pool (same_head p h)

  pub id-is : (p : List ℕ) → HeadersKept p → id_in p ≡ id_in pool
  id-is p h = id_same p pool (same_head p h)

  pub opens : (p : List ℕ) → HeadersKept p → Passed (open_tests p)
  opens p h = subst Passed (sym (tests_same p pool (same_head p h))) (sound-opens pool sound)
