-- Look (01, "Transactions"): the object's body as a part of the lent pool, committed bytes only; or the refusal. Assumes nothing.
use Rattle.std.specs.Prelude.{ℕ, ◌+◌, List, [], ◌++◌, length, take, drop}
use Rattle.std.proofs.Math.Option.{Option, none, some}
use Rattle.rules.specs.Shape.{head_size}
use Rattle.rules.specs.Test.{Test, first}
use Rattle.rules.specs.Header.{shape_in}
use Rattle.rules.specs.Zones.{body_of, head_at, object_tests, run_there}
use Rattle.rules.specs.Seals.{read_tests}

-- A part of the pool: its place and length; or the number that the companion answers.
pub data Look : Type 0 where
  part : ℕ → ℕ → Look
  refused : ℕ → Look

unfoldable pub look_tests : List ℕ → ℕ → List Test
look_tests p a = read_tests p ++ object_tests (shape_in p) p a

unfoldable pub conclude_look : Option ℕ → ℕ → ℕ → Look
conclude_look none at n = part at n
conclude_look (some r) at n = refused r

unfoldable pub look : List ℕ → ℕ → Look
look p a = conclude_look (first (look_tests p a)) (head_at (shape_in p) a + head_size) (length (body_of (run_there (shape_in p) p a)))

-- The bytes of the part. An empty part means refused.
unfoldable pub seen : List ℕ → Look → List ℕ
seen p (part at n) = take n (drop at p)
seen p (refused n) = []
