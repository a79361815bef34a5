-- `setups::recall` meets its contract. Assumes nothing.
use Prim.Native.Nat.{ℕ, ◌+◌}
use mathlib.Core.Path.{ap, ◌∙◌}
use native.Mathlib.Nat.{add_comm}
use native.Mathlib.Omega.{arith}
use Rattle.pool.proofs.Looking.{look_bytes, look-empty, look-other, look-same}
use Rattle.setups.proofs.recall.Goals as goal

pub overflow_add-result : goal.overflow_add-result
overflow_add-result c = omega (arith, c.in-Ok.ensures.1)

pub slice_bounds-result-end : goal.slice_bounds-result-end
slice_bounds-result-end c = omega (arith, c.in-Ok.ensures.1)

pub returns-in-Err : goal.returns-in-Err
returns-in-Err c =
    let e = c.in-Err.ensures.0 in
    (look-empty _ _ _ e, λ at n h. absurd (look-other e h))

pub returns-in-Ok : goal.returns-in-Ok
returns-in-Ok c =
    let s = c.args.pool in
    let e = c.in-Ok.ensures.0 in (
      look_bytes _ _ _ _ e,
      λ at n h. ap (λ (o : ℕ). (s.ref_ptr.0, o)) (add_comm _ s.ref_ptr.1 ∙ ap (λ (o : ℕ). s.ref_ptr.1 + o) (look-same e h)),
    )
