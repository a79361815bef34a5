-- `actions::parts::commit_part` meets its contract. Assumes nothing.
use Prim.Native.Nat.{◌+◌, ◌*◌, ◌-◌}
use mathlib.Core.Path.{refl}
use native.Mathlib.Omega.{arith}
use Rattle.layout.specs.Meaning.{shape_of}
use Rattle.layout.proofs.Range.{in_range, shape-good}
use Rattle.powercut.proofs.Parts.{redo-high}
use Rattle.actions.proofs.PartMade.{commit-by-log, commit-by-redo, commit-by-seals, ready-kept}
use Rattle.actions.proofs.parts.commit_part.Goals as goal

pub returns-then-k-n : goal.returns-then-k-n
returns-then-k-n c = commit-by-log (shape_of c.args.s) _ _ _ c.requires.1 (omega arith) c.log_part.ensures

pub seal_part-requires : goal.seal_part-requires
seal_part-requires c = (record { range = in_range c.args.s; size = c.requires.0.whole }, omega arith)

pub returns-then-k-n-2 : goal.returns-then-k-n-2
returns-then-k-n-2 c = commit-by-seals (shape_of c.args.s) _ _ _ c.requires.1 _ (omega arith) (omega arith) c.seal-w.ensures c.seal_part.ensures

pub redo_part-requires : goal.redo_part-requires
redo_part-requires c = (ready-kept c.requires.0 refl (omega arith), (let g = (shape-good c.args.s).page-min in let f = c.requires.0.few in omega arith), omega arith)

pub overflow_add-result-3 : goal.overflow_add-result-3
overflow_add-result-3 c = let w = redo-high c.args.n (c.args.k - (4 * c.args.n + 4)) in let e = c.redo_part.ensures.number in omega arith

pub returns : goal.returns
returns c = commit-by-redo (shape_of c.args.s) _ _ _ c.requires.1 (omega arith) (omega arith) (omega arith) c.redo_part.ensures
