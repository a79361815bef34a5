-- REQUIREMENT 2, proved: an uncut commit leaves exactly the staged bytes, and look reads the new book's bodies back (`commits-exactly`).
-- Assumes nothing.
use mathlib.Core.Path.{◌≡◌, sym, ap, ◌∙◌, subst}
use mathlib.Core.Option.{none, some}
use mathlib.Core.List.{List}
use Prim.Native.Nat.{ℕ}
use native.Mathlib.Omega.{arith}
use lib.ListN.{length}
use lib.Seq.{take_all}
use Rattle.rules.specs.Shape.{Shape}
use Rattle.rules.specs.Header.{shape_in}
use Rattle.rules.specs.Book.{Listed, find}
use Rattle.rules.specs.Staging.{Phase, Store, closed}
use Rattle.rules.proofs.Sound.{look-listed, look-unlisted}
use Rattle.powercut.specs.Steps.{Step, commit_steps, steps_made}
use Rattle.powercut.specs.Power.{view}
use Rattle.powercut.specs.WholeRun.{entries}
use Rattle.powercut.specs.Claim.{Commits}
use Rattle.powercut.proofs.StepPool.{uncut-view}
use Rattle.powercut.proofs.RunInput.{Input}
use Rattle.powercut.proofs.RunMatches.{CommitMatches, claim, run-matches}
use Rattle.powercut.proofs.PowerCut.{power-cut}

pub commits-exactly : Commits
commits-exactly pool staging ks sound typed t s r e =
    let inp : Input = record { pool = pool; staging = staging; ks = ks; sound = sound; typed = typed } in
    let sh : Shape = shape_in pool in
    let es : List Store = entries pool staging ks in
    let c : CommitMatches inp closed s = subst (λ (f : Phase). CommitMatches inp f s) e (run-matches inp r).1 in
    let end = (power-cut pool staging ks sound typed).uncut t s r e in
    record {
      bytes = uncut-view sh es pool c ∙ ap (λ (l : List Step). steps_made sh l pool) (take_all (length (commit_steps sh es)) (commit_steps sh es) (omega arith));
      data-rows = ((claim inp).uncut s c).same;
      listed = λ a x q. (look-listed (view s) end.sound a x (ap (find a) end.books ∙ q)).1;
      unlisted = λ a q at n l. none-some (look-unlisted (view s) end.sound a at n l).0 (sym (look-unlisted (view s) end.sound a at n l).1 ∙ ap (find a) end.books ∙ q);
    }
  where
    none-some : (x : Listed) → some x ≡ none → ⊥
    none-some x e = let z : ◌≡◌ {A = ℕ} 0 1 = cc in omega arith
