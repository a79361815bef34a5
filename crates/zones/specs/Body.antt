-- What the code's bodies mean in 01's terms, and look in a pool of a known shape. Assumes nothing.
use Rattle.std.specs.Prelude.{ℕ, ◌+◌, ◌≤◌, List, length, Result, Ok, Err}
use Rattle.rules.specs.Shape.{Shape, head_size}
use Rattle.rules.specs.Test.{first}
use Rattle.rules.specs.Zones.{body_of, head_at, object_tests, run_there}
use Rattle.rules.specs.Look.{Look, conclude_look, part, refused}
use Rattle.refusals.specs.Number.{number_of}
use Rattle.refusals.specs.declared.Refusal.{Refusal}
use Rattle.zones.specs.declared.Body.{Body}

abbrev pub look_of : Result Body Refusal → Look
look_of (Ok b) = part b.at b.length
look_of (Err r) = refused (number_of r)

-- A body lies in the pool.
abbrev pub Within : List ℕ → Result Body Refusal → Type 0
Within p (Ok b) = b.at + b.length ≤ length p
Within p (Err r) = Unit {0}

-- The object at address a of a pool of the shape s, by the tests 5, 23, 24, 25.
unfoldable pub look_in : Shape → List ℕ → ℕ → Look
look_in s p a = conclude_look (first (object_tests s p a)) (head_at s a + head_size) (length (body_of (run_there s p a)))
