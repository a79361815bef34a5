-- `actions::parts::data_part` meets its contract. Assumes nothing.
use native.Mathlib.Omega.{arith}
use Rattle.layout.specs.Meaning.{shape_of}
use Rattle.actions.proofs.PartMade.{along-start, data-end, data-inside, data-next}
use Rattle.actions.proofs.Replaying.{data-kept, entry_kept, untouched-first, untouched-lent}
use borrow.Author.Rules.{rules}
use Rattle.actions.proofs.parts.data_part.Goals as goal

pub loop-i-init : goal.loop-i-init
loop-i-init g c = (search rules, untouched-first _ _, λ sh. along-start (search rules))

pub data_action-action-requires : goal.data_action-action-requires
data_action-action-requires g c = let l = c.loop-i in let u = untouched-lent c.bytes.ensures (g.met.E.Entries.kept c.args.src.now _ _ _ l.invariant.1) in omega (arith, c.requires.0.held, u.length-is, c.loop-i-test.true)

pub apply-requires : goal.apply-requires
apply-requires g c =
    let l = c.loop-i in
    let t = c.loop-i-test.true in
    let u = untouched-lent c.bytes.ensures (g.met.E.Entries.kept c.args.src.now _ _ _ l.invariant.1) in
    data-inside c.args.s _ _ _ _ _ c.requires.0 (l.invariant.2 (shape_of c.args.s)) t (entry_kept _ _ u t c.data_action-action.ensures)

pub loop-i-preserved : goal.loop-i-preserved
loop-i-preserved g c =
    let l = c.loop-i in
    let t = c.loop-i-test.true in
    let u = untouched-lent c.bytes.ensures (g.met.E.Entries.kept c.args.src.now _ _ _ l.invariant.1) in
    let x = entry_kept _ _ u t c.data_action-action.ensures in
    let p = c.apply in
    (search rules, data-kept c.args.s _ _ c.requires.1 l.invariant.1 p.ensures c.requires.0 (l.invariant.2 (shape_of c.args.s)).from t x, λ sh. data-next sh _ _ _ (l.invariant.2 sh) t x p.ensures p.auto.pool)

pub returns : goal.returns
returns g c = data-end (shape_of c.args.s) _ _ _ (c.loop-i.invariant.2 (shape_of c.args.s)) (omega arith)
