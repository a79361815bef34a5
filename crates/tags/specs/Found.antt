-- What the look-up by tag finds (A.1): at a run, in a zone, and in a pool of a known shape. Assumes nothing.
use Rattle.std.specs.Prelude.{ℕ, Bool, false, not, cond, List, [], ◌∷◌, eqb, leb, Option as Maybe, Some, None, Result, Ok, Err}
use Rattle.std.proofs.Math.Option.{Option, none, some, or_else}
use Rattle.rules.specs.Shape.{Shape}
use Rattle.rules.specs.Test.{first, when}
use Rattle.rules.specs.Runs.{Walk, head_tag}
use Rattle.rules.specs.Book.{book}
use Rattle.rules.specs.Zones.{pool_book, walk_in}
use Rattle.rules.specs.Scrub.{all_to}
use Rattle.rules.specs.Tag.{LookUp, absent, at, conclude_look_up, first_tagged, found, refused}
use Rattle.refusals.specs.Number.{number_of}
use Rattle.refusals.specs.declared.Refusal.{Refusal}
use Rattle.stage.specs.View.{part}

abbrev pub hit_of : Result (Maybe ℕ) Refusal → LookUp
hit_of (Ok (Some a)) = at a
hit_of (Ok None) = absent
hit_of (Err r) = refused (number_of r)

-- The look-up in a pool of the shape s, by the test 23.
unfoldable pub look_up_in : Shape → List ℕ → ℕ → ℕ → LookUp
look_up_in s p t from =
    conclude_look_up (first (when (not (all_to s.zones (λ z. (walk_in s p z).whole))) 23 ∷ [])) (found (first_tagged t from (pool_book s p)))

-- An address, or none.
abbrev pub slot_of : Maybe ℕ → Option ℕ
slot_of None = none
slot_of (Some a) = some a

-- The run at byte a, free or not, is an object with the tag t.
unfoldable pub tagged_at : List ℕ → ℕ → Bool → ℕ → Bool
tagged_at v a free t = cond free false (eqb (head_tag (part 16 a v)) t)

-- The address a, if its object has the tag and a is at or above `from`.
unfoldable pub hit_if : Bool → ℕ → ℕ → Option ℕ
hit_if tagged a from = cond tagged (cond (leb from a) (some a) none) none

-- The hit h, or the first in a zone with the walk w, whose first cell has the address b; or 23 the zone is broken.
unfoldable pub hits_from : ℕ → ℕ → Option ℕ → ℕ → Walk → Result (Option ℕ) ℕ
hits_from t from h b w = cond w.whole (Ok (or_else h (first_tagged t from (book b w.runs)))) (Err 23)

abbrev pub hits_of : Result (Maybe ℕ) Refusal → Result (Option ℕ) ℕ
hits_of (Ok h) = Ok (slot_of h)
hits_of (Err r) = Err (number_of r)
