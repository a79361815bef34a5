-- The object at an address, way out by way out. Assumes nothing.
use Prim.Native.Nat.{ℕ, ◌+◌, ◌-◌}
use mathlib.Core.Path.{◌≡◌, refl, ◌∙◌}
use mathlib.Core.List.{List, []}
use native.Mathlib.Nat.{add-sub_cancel_left}
use lib.ListN.{take, drop}
use Rattle.rules.specs.Test.{first}
use Rattle.rules.specs.Header.{shape_in}
use Rattle.rules.specs.Seals.{read_tests}
use Rattle.rules.specs.Zones.{object_tests}
use Rattle.rules.specs.Look.{Look, conclude_look, look, look_tests, part, refused, seen}
use Rattle.rules.proofs.Test.{first-left, first-passed, first-right}
use Rattle.layout.specs.declared.Shape.{Shape}
use Rattle.layout.specs.Meaning.{answer, good, refused as unopened, shape_of}
use Rattle.layout.proofs.Opening.{answer-refused, open-good}
use Rattle.pool_log.proofs.Opening.{read_none, read_opened}
use Rattle.std.specs.Prelude.{Result, Ok, Err}
use Rattle.refusals.specs.declared.Refusal.{Refusal}
use Rattle.refusals.specs.Number.{number_or_0}
use Rattle.zones.specs.declared.Body.{Body}
use Rattle.zones.specs.Body.{look_in, look_of}
use Rattle.pool.specs.Meaning.{refusal_of}

-- ---- the object at an address of a pool opened for reading

module _ (p : List ℕ) where
  pub look-found : (s : Shape) {x : Look} (a : ℕ) → answer (first (read_tests p)) (shape_in p) ≡ good (shape_of s) → x ≡ look_in (shape_of s) p a → x ≡ look p a
  unfolding look look_tests look_in
  look-found s a e h =
      rw (first-right (read_tests p) (object_tests (shape_in p) p a) (first-passed (read_tests p) (read_none p e))) (rw (open-good p (shape_of s) (read_opened p e)).2 at h)

  pub look-refused : (n a : ℕ) → answer (first (read_tests p)) (shape_in p) ≡ unopened n → refused n ≡ look p a
  unfolding look look_tests conclude_look
  look-refused n a e =
      rw (first-left (read_tests p) (object_tests (shape_in p) p a) n (answer-refused (first (read_tests p)) (shape_in p) n e))

-- ---- what a body found, or a refusal, tells of the look x: one of look's, or of a caller's above

pub look_told : (r : Result Body Refusal) → number_or_0 r ≡ refusal_of (look_of r)
unfolding refusal_of
look_told (Ok b) = refl
look_told (Err x) = refl

pub look_bytes : (x : Look) (p : List ℕ) (at n : ℕ) → part at n ≡ x → take (at + n - at) (drop at p) ≡ seen p x
unfolding seen
look_bytes x p at n e = rw (← e, add-sub_cancel_left at n)

pub look-empty : (x : Look) (p : List ℕ) (n : ℕ) → refused n ≡ x → [] ≡ seen p x
unfolding seen
look-empty x p n e = rw (← e)

pub look-same : {x : Look} {at n i m : ℕ} → part at n ≡ x → x ≡ part i m → at ≡ i
look-same e h = let z = e ∙ h in cc

pub look-other : {x : Look} {n i m : ℕ} → refused n ≡ x → x ≡ part i m → ⊥
look-other e h = let z = e ∙ h in cc
