-- The ways out of a recovery's start: what is to be done, and the reply. Assumes nothing.
use Prim.Native.Nat.{ℕ, ◌*◌, ◌≤◌}
use mathlib.Core.Path.{◌≡◌, refl}
use mathlib.Core.Bool.{Bool, true, false}
use mathlib.Core.List.{List}
use native.Mathlib.Omega.{arith}
use lib.ListN.{length}
use borrow.Author.Tests.{eq-eqb, ne_eqb}
use Rattle.rules.specs.Shape.{log_a, log_b, page_size}
use Rattle.rules.specs.Header.{id_in, open_tests}
use Rattle.rules.proofs.Test.{passed_first}
use Rattle.powercut.specs.Log.{count_in, valid}
use Rattle.powercut.specs.Steps.{remedy}
use Rattle.powercut.specs.Recovery.{conclude_recovery, recovery_start, start_recovery}
use Rattle.words.specs.Loaded.{Loaded}
use Rattle.layout.specs.declared.Shape.{Shape}
use Rattle.layout.specs.declared.opened.Pool.{Pool}
use Rattle.layout.specs.Meaning.{good, opened, refused as unopened, shape_of}
use Rattle.refusals.specs.declared.Refusal.{Refusal}
use Rattle.refusals.specs.Number.{number_of}
use Rattle.layout.proofs.Opening.{open-good, open-passed, open-refused, pool-shaped, shaped-room}
use Rattle.pool_log.proofs.Targets.{loaded_word}
use Rattle.recovery.specs.declared.Remedy.{Remedy}
use Rattle.recovery.specs.declared.Remedy.TheVariants.{Clear, Neither, Nothing, Replay}
use Rattle.recovery.specs.declared.Log.TheVariants.{A, B}
use Rattle.recovery.specs.declared.Reply.{Reply}
use Rattle.recovery.specs.Meaning.{after_of, remedy_of}
use Rattle.recovery.specs.Advanced.{begun, refused_start}

-- both header pages are there
pub headers-room : (p : Pool) → 2 * page_size ≤ length p.bytes.now
headers-room p = let e = p.shape.paged in let r = shaped-room p.bytes.now p.shape (pool-shaped p) in omega arith

-- ---- what is to be done

-- a and b: the words where the logs begin, at m and n
module _ (s : Shape) (p : List ℕ) (m n a b : ℕ) (em : m ≡ log_a (shape_of s)) (en : n ≡ log_b (shape_of s)) (la : Loaded 8 p m a) (lb : Loaded 8 p n b) (x : Bool) (ex : x ≡ valid (shape_of s) p m) where
  pub find-a : (k : ℕ) → x ≡ true → k ≡ count_in a → remedy_of (Replay A k) ≡ remedy (shape_of s) p
  unfolding remedy
  find-a k h f = rw (← em, ← ex, h, f, loaded_word la)

  module _ (hx : x ≡ false) (y : Bool) (ey : y ≡ valid (shape_of s) p n) where
    pub find-b : (k : ℕ) → y ≡ true → k ≡ count_in b → remedy_of (Replay B k) ≡ remedy (shape_of s) p
    unfolding remedy
    find-b k h f = rw (← em, ← en, ← ex, hx, ← ey, h, f, loaded_word lb)

    module _ (hy : y ≡ false) where
      pub find-nothing : a ≡ 0 → b ≡ 0 → remedy_of Nothing ≡ remedy (shape_of s) p
      unfolding remedy
      find-nothing ha hb = rw (← em, ← en, ← ex, hx, ← ey, hy, ← (loaded_word la), eq-eqb a 0 ha, ← (loaded_word lb), eq-eqb b 0 hb)

      pub find_only_b : a ≡ 0 → (b ≡ 0 → ⊥) → remedy_of Clear ≡ remedy (shape_of s) p
      unfolding remedy
      find_only_b ha hb = rw (← em, ← en, ← ex, hx, ← ey, hy, ← (loaded_word la), eq-eqb a 0 ha, ← (loaded_word lb), ne_eqb b 0 hb)

      pub find_only_a : (a ≡ 0 → ⊥) → b ≡ 0 → remedy_of Clear ≡ remedy (shape_of s) p
      unfolding remedy
      find_only_a ha hb = rw (← em, ← en, ← ex, hx, ← ey, hy, ← (loaded_word la), ne_eqb a 0 ha, ← (loaded_word lb), eq-eqb b 0 hb)

      pub find-neither : (a ≡ 0 → ⊥) → (b ≡ 0 → ⊥) → remedy_of Neither ≡ remedy (shape_of s) p
      unfolding remedy
      find-neither ha hb = rw (← em, ← en, ← ex, hx, ← ey, hy, ← (loaded_word la), ne_eqb a 0 ha, ← (loaded_word lb), ne_eqb b 0 hb)

-- ---- the reply

begun-start : (p : List ℕ) (w : Remedy) → after_of (begun (id_in p) w) p ≡ start_recovery p (remedy_of w)
unfolding start_recovery
begun-start p (Replay l n) = refl
begun-start p Clear = refl
begun-start p Nothing = refl
begun-start p Neither = refl

module _ (p : List ℕ) where
  pub start-refused : (x : Refusal) (r : Reply) → opened p ≡ unopened (number_of x) → r ≡ refused_start x → after_of r p ≡ recovery_start p
  unfolding recovery_start conclude_recovery
  start-refused x r e f = rw (open-refused p (number_of x) e, f)

  pub start-begun : (s : Shape) (i : ℕ) (w : Remedy) (r : Reply) → opened p ≡ good (shape_of s) → i ≡ id_in p → remedy_of w ≡ remedy (shape_of s) p → r ≡ begun i w
      → after_of r p ≡ recovery_start p
  unfolding recovery_start conclude_recovery
  start-begun s i w r e d f g = rw (passed_first (open_tests p) (open-passed p (shape_of s) e), ← (open-good p (shape_of s) e).2, ← f, g, d) (begun-start p w)
