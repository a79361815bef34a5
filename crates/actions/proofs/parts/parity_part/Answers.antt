-- `actions::parts::parity_part` meets its contract. Assumes nothing.
use mathlib.Core.Path.{◌∙◌}
use native.Mathlib.Omega.{arith}
use Rattle.actions.proofs.PartMade.{parity-end, parity-next, parity-ready}
use Rattle.actions.proofs.Replaying.{parity-kept, target-kept, untouched-first, untouched-lent}
use borrow.Author.Rules.{rules}
use Rattle.actions.proofs.parts.parity_part.Goals as goal

pub loop-i-init : goal.loop-i-init
loop-i-init g c = (search rules, untouched-first _ _, search rules)

pub load64-t-requires : goal.load64-t-requires
load64-t-requires g c = let l = c.loop-i in let u = untouched-lent c.bytes.ensures (g.met.E.Entries.kept c.args.src.now _ _ _ l.invariant.1) in omega (arith, c.requires.0.held, u.length-is, c.loop-i-test.true)

pub parity_action-action-requires : goal.parity_action-action-requires
parity_action-action-requires g c =
    let l = c.loop-i in
    let t = c.loop-i-test.true in
    let u = untouched-lent c.bytes.ensures (g.met.E.Entries.kept c.args.src.now _ _ _ l.invariant.1) in
    (parity-ready c.args.s _ _ _ _ _ c.requires.0 l.invariant.2 t (target-kept _ _ u t c.load64-t.ensures), l.invariant.1.length-is ∙ c.requires.0.whole)

pub loop-i-preserved : goal.loop-i-preserved
loop-i-preserved g c =
    let l = c.loop-i in
    let t = c.loop-i-test.true in
    let u = untouched-lent c.bytes.ensures (g.met.E.Entries.kept c.args.src.now _ _ _ l.invariant.1) in
    let w = target-kept _ _ u t c.load64-t.ensures in
    let x = c.parity_action-action.ensures in
    let p = c.apply in (
      search rules,
      parity-kept c.args.s _ _ c.requires.1 l.invariant.1 p.ensures (parity-ready c.args.s _ _ _ _ _ c.requires.0 l.invariant.2 t w) x,
      parity-next c.args.s _ _ _ _ _ c.requires.0 l.invariant.2 t w x p.ensures p.auto.pool,
    )

pub returns : goal.returns
returns g c = parity-end c.args.s _ _ _ _ _ c.requires.0 c.loop-i.invariant.2 (omega arith)
