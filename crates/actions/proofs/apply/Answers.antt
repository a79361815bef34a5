-- `actions::apply` meets its contract. Assumes nothing.
use mathlib.Core.Path.{subst, ap, sym, ◌∙◌}
use lib.ListN.{length}
use Rattle.actions.specs.Actions.{Inside, applied}
use Rattle.actions.proofs.apply.Goals as goal

pub store64-requires : goal.store64-requires
store64-requires c = subst (λ x. Inside x (length c.args.pool.now)) c.in-Store.is c.requires

pub returns-in-Store : goal.returns-in-Store
returns-in-Store c = c.store64.ensures ∙ ap (λ x. applied x c.args.pool.now) (sym c.in-Store.is)
