-- The ways out of a call that stages words. Assumes nothing.
use Prim.Native.Nat.{ℕ, ◌*◌, ◌≤◌, ◌<◌}
use mathlib.Core.Path.{◌≡◌, sym, ap, ◌∙◌}
use mathlib.Core.Option.{none, some}
use mathlib.Core.List.{List, [], ◌∷◌, ◌++◌}
use native.Mathlib.Nat.{zero-add}
use lib.ListN.{length, take, drop, take-append-drop}
use lib.Seq.{sets, length-take-le}
use borrow.Author.Tests.{le-ltb, lt-ltb}
use Rattle.rules.specs.Words.{Bytes}
use Rattle.rules.specs.Shape.{Shape, entry_limit}
use Rattle.rules.specs.Test.{first}
use Rattle.rules.specs.Staging.{Store, entries_at, entry_bytes}
use Rattle.rules.specs.Answer.{Answer, refused}
use Rattle.rules.specs.Plan.{Call, Plan, plan}
use Rattle.rules.proofs.Sets.{sets-front}
use Rattle.rules.proofs.Test.{first-left, first-passed, first-right}
use Rattle.stage.specs.View.{entries_of, seen}
use Rattle.stage.specs.Touched.{Grown}
use Rattle.stage.proofs.Entries.{length-entries}
use Rattle.answers.specs.Planned.{conclude_staged, many_test, planned, stage_entries}
use Rattle.pool_log.proofs.Logs.{bytes_read}

-- staging memory that holds the entries, and beyond them what it held
pub stored_bytes : {st st' : List ℕ} {n m : ℕ} {es : List Store} → Bytes st' → 16 * m ≤ length st' → Grown st n st' m → entries_of st' m ≡ es
    → sets st 0 (entry_bytes es) ≡ st'
unfolding entries_of
stored_bytes {st} {st'} {n} {m} b h g e =
    let t : entry_bytes (entries_at st' 0 m) ≡ take (16 * m) st' = bytes_read st' b 0 m (rw (zero-add (16 * m)) h) in
    let l : length (take (16 * m) st) ≡ length (take (16 * m) st') = length-take-le (16 * m) st (rw (← g.long) h) ∙ sym (length-take-le (16 * m) st' h) in
    rw (← e, t)
    (ap (λ (x : List ℕ). sets x 0 (take (16 * m) st')) (sym (take-append-drop (16 * m) st))
    ∙ sets-front (take (16 * m) st) (drop (16 * m) st) (take (16 * m) st') l
    ∙ ap (λ (x : List ℕ). take (16 * m) st' ++ x) (sym g.rest) ∙ take-append-drop (16 * m) st')

-- ---- 27, or the words staged

module _ (st : List ℕ) (n : ℕ) (a : Answer) (es : List Store) where
  pub stage-many : entry_limit < length es → record { answer = refused 27; staging = st; count = n } ≡ stage_entries st n a es
  unfolding stage_entries many_test conclude_staged first
  stage-many l = rw (lt-ltb entry_limit (length es) l)

  pub stage-stored : {st' : List ℕ} {m : ℕ} → Bytes st' → 16 * m ≤ length st' → m ≤ entry_limit → Grown st n st' m → entries_of st' m ≡ es
      → record { answer = a; staging = st'; count = m } ≡ stage_entries st n a es
  unfolding stage_entries many_test conclude_staged first
  stage-stored {st'} {m} b r l g e =
      let c : length es ≡ m = ap length (sym e) ∙ length-entries st' m in
      let t : length es ≤ entry_limit = rw c l in
      rw (le-ltb entry_limit (length es) t, c, stored_bytes b r g e)

-- ---- the call's own tests first

module _ (s : Shape) (pool st : List ℕ) (n : ℕ) (k : Call) where
  abbrev p : Plan
  p = plan s (seen pool st n) (entries_of st n) k

  pub planned-refused : (i : ℕ) → first p.tests ≡ some i → record { answer = refused i; staging = st; count = n } ≡ planned s pool st n k
  unfolding planned conclude_staged
  planned-refused i e = rw (first-left p.tests (many_test p.entries ∷ []) i e)

  pub planned-passed : first p.tests ≡ none → stage_entries st n p.answer p.entries ≡ planned s pool st n k
  unfolding planned stage_entries
  planned-passed h = rw (first-right p.tests (many_test p.entries ∷ []) (first-passed p.tests h))
