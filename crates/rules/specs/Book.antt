-- The book (01, "Commit, cut, recovery"): each object's address, tag and body, ascending by address. 01's book is a directory of objects.
-- Assumes nothing.
use Rattle.std.specs.Prelude.{ℕ, ◌+◌, cond, List, [], ◌∷◌, ltb, eqb}
use Rattle.std.proofs.Math.Option.{Option, none, some}
use Rattle.std.proofs.lemmas.List.Edits.{sets}
use Rattle.rules.specs.Runs.{Run, free, object}

pub record Listed : Type 0 where
  pub addr : ℕ
  pub tag : ℕ
  pub body : List ℕ

-- The objects among runs of which the first begins at cell address c.
unfoldable pub book : ℕ → List Run → List Listed
book c [] = []
book c (free n ∷ rs) = book (c + n) rs
book c (object n t b g ∷ rs) = record { addr = c; tag = t; body = b } ∷ book (c + n) rs

-- An object entered, before the first with a higher address.
unfoldable pub enter : Listed → List Listed → List Listed
enter e [] = e ∷ []
enter e (x ∷ xs) = cond (ltb e.addr x.addr) (e ∷ x ∷ xs) (x ∷ enter e xs)

-- The object named struck out.
unfoldable pub strike : ℕ → List Listed → List Listed
strike a [] = []
strike a (x ∷ xs) = cond (eqb x.addr a) xs (x ∷ strike a xs)

-- The bytes ys laid over the body of the object named, from byte o on.
unfoldable pub overwrite : ℕ → ℕ → List ℕ → List Listed → List Listed
overwrite a o ys [] = []
overwrite a o ys (x ∷ xs) =
    cond (eqb x.addr a) (record { addr = x.addr; tag = x.tag; body = sets x.body o ys } ∷ xs) (x ∷ overwrite a o ys xs)

-- The object with an address.
unfoldable pub find : ℕ → List Listed → Option Listed
find a [] = none
find a (x ∷ xs) = cond (eqb x.addr a) (some x) (find a xs)
