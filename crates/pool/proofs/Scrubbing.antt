-- The ways out of scrub. Assumes nothing.
use Prim.Native.Nat.{ℕ}
use mathlib.Core.Path.{◌≡◌}
use mathlib.Core.List.{List}
use Rattle.rules.specs.Test.{first}
use Rattle.rules.specs.Header.{shape_in}
use Rattle.rules.specs.Seals.{read_tests}
use Rattle.rules.specs.Scrub.{conclude_scrub, counts, refused, scrub}
use Rattle.layout.specs.declared.Shape.{Shape}
use Rattle.layout.specs.Meaning.{answer, good, refused as unopened, shape_of}
use Rattle.layout.proofs.Opening.{answer-refused, open-good}
use Rattle.pool_log.proofs.Opening.{read_none, read_opened}
use Rattle.scrub.specs.Counted.{Counted}

module _ (p : List ℕ) where
  pub scrub-refused : (n : ℕ) → answer (first (read_tests p)) (shape_in p) ≡ unopened n → refused n ≡ scrub p
  unfolding scrub conclude_scrub
  scrub-refused n e = rw (answer-refused (first (read_tests p)) (shape_in p) n e)

  pub scrub-counted : (s : Shape) {o d b c : ℕ} → answer (first (read_tests p)) (shape_in p) ≡ good (shape_of s) → Counted (shape_of s) p o d b c → counts o d b c ≡ scrub p
  unfolding scrub conclude_scrub
  scrub-counted s e h =
      rw (read_none p e, ← (open-good p (shape_of s) (read_opened p e)).2, h.objects, h.damaged, h.broken, h.columns)
