-- `pages::store` meets its contract. Assumes nothing.
use native.Mathlib.Omega.{arith}
use Rattle.pages.proofs.Storing.{put_mid-sets}
use Rattle.pages.proofs.store.Goals as goal

pub returns : goal.returns
returns c =
    let a = c.args in
    rw (c.copy_from_slice.ensures.after) (put_mid-sets a.s.now a.at _ a.part.now c.requires (omega arith))
