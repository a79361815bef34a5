-- The ways out of header mending. Assumes nothing.
use Prim.Native.Nat.{ℕ, ◌-◌, ◌*◌}
use mathlib.Core.Path.{◌≡◌, ap, ◌∙◌}
use mathlib.Core.Bool.{Bool, true, false}
use mathlib.Core.List.{List}
use native.Mathlib.Omega.{arith}
use lib.ListN.{take, drop}
use lib.Seq.{sets}
use Rattle.rules.specs.Shape.{page_size}
use Rattle.rules.specs.Header.{header_ok, open_tests, page_at, valid_header}
use Rattle.rules.specs.Answer.{conclude_pool}
use Rattle.rules.specs.Mend.{mend_header, mended}
use Rattle.rules.proofs.Test.{passed_first}
use Rattle.layout.specs.declared.Shape.{Shape}
use Rattle.layout.specs.Meaning.{good, opened, refused, shape_of}
use Rattle.layout.proofs.Opening.{open-passed, open-refused}
use Rattle.refusals.specs.declared.Refusal.{Refusal}
use Rattle.refusals.specs.Number.{number_of}
use Rattle.std.proofs.Common.{Ok, Err}
use Rattle.pool.specs.Meaning.{changed}

-- pages of n bytes, as the code takes them: from 0 up to n, and from n up to m
module _ (p : List ℕ) (n m : ℕ) (e : n ≡ page_size) (f : m ≡ 2 * n) where
  first-page : take n (drop 0 p) ≡ page_at p 0
  unfolding page_at
  first-page = ap (λ (x : ℕ). take x (drop 0 p)) e

  copy-page : take n (drop n p) ≡ page_at p page_size
  unfolding page_at
  copy-page = ap (λ (x : ℕ). take x (drop x p)) e

  -- a part of n bytes
  part-is : (at w : ℕ) → w ≡ n → take w (drop at p) ≡ take n (drop at p)
  part-is at w h = ap (λ (x : ℕ). take x (drop at p)) h

  -- both headers are valid; the copy is not; the header is not
  module _ (a : Bool) (ea : a ≡ header_ok (take (n - 0) (drop 0 p))) where
    header_is : a ≡ header_ok (page_at p 0)
    header_is = ea ∙ ap header_ok (part-is 0 (n - 0) (omega arith) ∙ first-page)

    module _ (b : Bool) (eb : b ≡ header_ok (take (m - n) (drop n p))) where
      copy_is : b ≡ header_ok (page_at p page_size)
      copy_is = eb ∙ ap header_ok (part-is n (m - n) (omega arith) ∙ copy-page)

      pub mended-both : a ≡ true → b ≡ true → p ≡ mended p
      unfolding mended valid_header
      mended-both t u = rw (← header_is, t, ← copy_is, u)

      pub mended-copy : (q : List ℕ) → a ≡ true → b ≡ false → q ≡ sets p n (take n (drop 0 p)) → q ≡ mended p
      unfolding mended valid_header
      mended-copy q t u s = rw (← header_is, t, ← copy_is, u) (s ∙ rw (first-page, e))

    pub mended-first : (q : List ℕ) → a ≡ false → q ≡ sets p 0 (take n (drop n p)) → q ≡ mended p
    unfolding mended valid_header
    mended-first q t s = rw (← header_is, t) (s ∙ ap (sets p 0) copy-page)

module _ (p : List ℕ) where
  pub mend-refused : (x : Refusal) → opened p ≡ refused (number_of x) → changed (Err x) p ≡ mend_header p
  unfolding mend_header conclude_pool
  mend-refused x e = rw (open-refused p (number_of x) e)

  pub mend-taken : (s : Shape) (q : List ℕ) → opened p ≡ good (shape_of s) → q ≡ mended p → changed (Ok tt) q ≡ mend_header p
  unfolding mend_header conclude_pool
  mend-taken s q e m = rw (passed_first (open_tests p) (open-passed p (shape_of s) e), m)
