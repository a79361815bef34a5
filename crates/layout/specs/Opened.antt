-- What a pool opened means in 01's terms. Assumes nothing.
use Rattle.std.specs.Prelude.{Result, Ok, Err}
use Rattle.refusals.specs.declared.Refusal.{Refusal}
use Rattle.refusals.specs.Number.{number_of}
use Rattle.layout.specs.declared.opened.Pool.{Pool}
use Rattle.layout.specs.Meaning.{Checked, good, refused, shape_of}

-- The pool's shape, or the refusal's number.
abbrev pub opened_of : Result Pool Refusal → Checked
opened_of (Ok p) = good (shape_of p.shape)
opened_of (Err r) = refused (number_of r)
