-- `actions::parts::seal_part` meets its contract. Assumes nothing.
use Rattle.std.proofs.Common.{ℕ, refl, ap, ◌∙◌}
use native.Mathlib.Omega.{arith}
use Rattle.rules.specs.Words.{put}
use Rattle.layout.specs.Meaning.{shape_of}
use Rattle.layout.proofs.Opening.{shaped-room}
use Rattle.layout.proofs.Range.{shape-good}
use Rattle.actions.proofs.PartMade.{seals-made}
use Rattle.actions.proofs.parts.seal_part.Goals as goal
use Rattle.actions.proofs.parts.seal_part.Goals.{then-j-eq0, else-j-eq0}

pub store64-requires : goal.store64-requires
store64-requires c = let g = shaped-room c.args.pool.now c.args.s c.requires.0 in let m = (shape-good c.args.s).page-min in omega arith

pub store64-requires-then-j-lt2 : goal.store64-requires-then-j-lt2
store64-requires-then-j-lt2 c = let g = shaped-room c.args.pool.now c.args.s c.requires.0 in let m = (shape-good c.args.s).page-min in let k = c.if-j-eq0.auto.pool in omega arith

pub returns-then-j-lt2 : goal.returns-then-j-lt2
returns-then-j-lt2 c =
    let made = seals-made (shape_of c.args.s) c.args.w c.args.j c.args.pool.now c.if-j-eq0.pool c.store64-then-j-lt2.new.s c.requires.1 in
    let last = c.store64-then-j-lt2.ensures ∙ ap (λ (b : ℕ). put c.if-j-eq0.pool b c.args.w) c.log_b.ensures in
    elim c.if-j-eq0.branch [
      | then-j-eq0 w ↦ made (λ e. w.pool-is ∙ w.store64.ensures ∙ ap (λ (b : ℕ). put c.args.pool.now b c.args.w) w.log_a.ensures) (λ f. absurd (f w.if-j-eq0.true)) (λ l. last) (λ l. absurd (omega arith))
      | else-j-eq0 w ↦ made (λ e. absurd (w.if-j-eq0.false e)) (λ f. w.pool-is) (λ l. last) (λ l. absurd (omega arith))
    ]

pub returns-else-j-lt2 : goal.returns-else-j-lt2
returns-else-j-lt2 c =
    let made = seals-made (shape_of c.args.s) c.args.w c.args.j c.args.pool.now c.if-j-eq0.pool c.if-j-eq0.pool c.requires.1 in
    elim c.if-j-eq0.branch [
      | then-j-eq0 w ↦ made (λ e. w.pool-is ∙ w.store64.ensures ∙ ap (λ (b : ℕ). put c.args.pool.now b c.args.w) w.log_a.ensures) (λ f. absurd (f w.if-j-eq0.true)) (λ l. absurd (omega arith)) (λ l. refl)
      | else-j-eq0 w ↦ made (λ e. absurd (w.if-j-eq0.false e)) (λ f. w.pool-is) (λ l. absurd (omega arith)) (λ l. refl)
    ]
