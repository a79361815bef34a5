-- The body of the object at an address. Assumes nothing.
use Prim.Native.Nat.{ℕ, ◌+◌, ◌*◌, ◌^◌, ◌≤◌, ◌<◌}
use mathlib.Core.Path.{◌≡◌, subst}
use mathlib.Core.Option.{some}
use mathlib.Core.List.{List}
use native.Mathlib.Omega.{arith}
use lib.ListN.{length}
use Rattle.std.specs.Prelude.{Ok, Err}
use Rattle.rules.specs.Shape.{zone_cells}
use Rattle.rules.specs.Test.{first}
use Rattle.rules.specs.Zones.{head_at, object_tests}
use Rattle.rules.specs.Look.{conclude_look, part, refused}
use Rattle.refusals.specs.Number.{number_of}
use Rattle.refusals.specs.declared.Refusal.{Refusal}
use Rattle.layout.specs.declared.Shape.{Shape}
use Rattle.layout.specs.declared.opened.Pool.{Pool}
use Rattle.layout.specs.Meaning.{shape_of}
use Rattle.layout.proofs.Range.{size-bounds}
use Rattle.stage.specs.Seen.{Alone, seen_by}
use Rattle.stage.specs.declared.View.{View}
use Rattle.objects.specs.declared.Object.{Object}
use Rattle.zones.specs.Found.{NamedAt, NamesAt}
use Rattle.zones.proofs.NamedAt.{named-below, named_end, named-length}
use Rattle.zones.specs.Body.{look_in}

-- z: the shape that its zones have
module _ (q : Pool) {z : Shape} (w : z ≡ q.shape) {v : View} (k : Alone q.bytes.now v) (a : ℕ) where
  abbrev s : Shape
  s = q.shape

  abbrev p : List ℕ
  p = q.bytes.now

  pub body_refused : (r : Refusal) → NamesAt (shape_of z) (seen_by v) a (Err r) → refused (number_of r) ≡ look_in (shape_of s) p a
  unfolding look_in conclude_look
  body_refused r e = let e' : first (object_tests (shape_of s) p a) ≡ some (number_of r) = rw k.shows at (subst (λ (x : Shape). NamesAt (shape_of x) (seen_by v) a (Err r)) w e) in rw e'

  module _ (o : Object) (e : NamesAt (shape_of z) (seen_by v) a (Ok o)) where
    named : NamedAt (shape_of s) p a o.cells o.length o.tag
    named = rw k.shows at (subst (λ (x : Shape). NamesAt (shape_of x) (seen_by v) a (Ok o)) w e)

    pub body_below : a < s.zones * zone_cells (shape_of s)
    body_below = named-below named

    module _ {h : ℕ} (y : h ≡ head_at (shape_of s) a) where
      pub body-within : h + 16 + o.length ≤ length p
      body-within = rw y (named_end named)

      pub body-low : h + 16 + o.length < 2 ^ 64
      body-low = omega (arith, body-within, q.sized, size-bounds s)

      pub body-found : part (h + 16) o.length ≡ look_in (shape_of s) p a
      unfolding look_in conclude_look
      body-found = rw (y, named.passed, named-length named)
