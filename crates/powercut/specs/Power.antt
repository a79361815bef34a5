-- Power and cuts (01, "Commit, cut, recovery"): which stores have reached memory. 01's cut is a power failure. Assumes nothing.
use Rattle.std.specs.Prelude.{Bool, false, ◌&&◌, ◌||◌, List, [], ◌∷◌, ◌++◌, ℕ, eqb}
use Rattle.rules.specs.Shape.{Shape, log_a, log_b}
use Rattle.rules.specs.Staging.{Store, lay}
use Rattle.powercut.specs.Log.{seal_of}
use Rattle.powercut.specs.Steps.{Step, barrier, parity, store, parity_store}

-- What the last barrier passed or an earlier cut left; the stores made since, in order; whether a seal of the commit has reached memory.
pub record State : Type 0 where
  pub base : List ℕ
  pub pend : List Store
  pub reached : Bool

-- The pool as the next call meets it.
abbrev pub view : State → List ℕ
view s = lay s.base s.pend

module _ (sh : Shape) (es : List Store) where
  -- A store of the seal of the commit of these entries.
  unfoldable pub is_seal : Store → Bool
  is_seal x = (eqb x.at (log_a sh) || eqb x.at (log_b sh)) && eqb x.val (seal_of es)

  abbrev pub any_seal : List Store → Bool
  any_seal [] = false
  any_seal (x ∷ xs) = is_seal x || any_seal xs

  -- Of the stores since the last barrier or cut, `kept` reach memory and the others are lost.
  unfoldable pub keep : State → List Store → State
  keep s kept = record { base = lay s.base kept; pend = []; reached = s.reached || any_seal kept }

  abbrev pub stored : State → Store → State
  stored s x = record { base = s.base; pend = s.pend ++ (x ∷ []); reached = s.reached }

  -- A step made: a store is pending until a barrier or a cut.
  unfoldable pub act : Step → State → State
  act (store x) s = stored s x
  act (parity e) s = stored s (parity_store sh (view s) e)
  act barrier s = keep s s.pend
