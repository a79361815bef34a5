-- That entries are tidy is a fact: it has one proof at most.
use Rattle.std.specs.Prelude.{ℕ, List, [], ◌∷◌}
use Rattle.std.specs.Coded.{Unit-prop}
use Rattle.std.proofs.Props.{props}
use Rattle.rules.specs.Staging.{Fresh, Store, Tidy}

Fresh-prop : (o : ℕ) (xs : List Store) → IsProp (Fresh o xs)
Fresh-prop o [] = Unit-prop
Fresh-prop o (x ∷ xs) = Prim.hlevel (props, Fresh-prop o xs)

pub Tidy-prop : (xs : List Store) → IsProp (Tidy xs)
Tidy-prop [] = Unit-prop
Tidy-prop (x ∷ xs) = Prim.hlevel (props, Fresh-prop x.at xs, Tidy-prop xs)
