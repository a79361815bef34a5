-- Laws of a commit made call after call. Assumes nothing.
use Prim.Native.Nat.{ℕ, zero, suc, ◌≤◌}
use mathlib.Core.Path.{◌≡◌, refl, sym, ap, ◌∙◌}
use mathlib.Core.Bool.{Bool, true, false}
use native.Mathlib.Omega.{arith}
use Rattle.rules.specs.Answer.{After, Answer, Given, is_refused}
use Rattle.rules.proofs.Bool.{split}
use Rattle.powercut.specs.Commit.{commit_on, commit_start}
use Rattle.saving.specs.Saving.{calls_from, committed, is_done, is_end}

-- Done ends a commit, and so does a refusal.
pub done-ends : (a : Answer) → is_done a ≡ true → is_end a ≡ true
unfolding is_end
done-ends a h = rw h

pub refused-ends : (a : Answer) → is_refused a ≡ true → is_end a ≡ true
unfolding is_end
refused-ends a h = split (is_done a) (λ e. rw e) (λ e. rw (e, h))

-- An answer that ends the commit stays.
pub calls-end : (f : Given → After) (n : ℕ) (x : After) {b : Bool} → b ≡ is_end x.answer → b ≡ true → calls_from f n x ≡ x
unfolding calls_from
calls-end f zero x e h = refl
calls-end f (suc n) x e h = rw (sym e ∙ h)

-- No calls are left.
pub calls-none : (f : Given → After) (n : ℕ) (x : After) → n ≤ 0 → calls_from f n x ≡ x
unfolding calls_from
calls-none f zero x h = refl
calls-none f (suc n) x h = absurd (omega arith)

-- One call more.
pub calls-next : (f : Given → After) (n : ℕ) (x : After) → is_end x.answer ≡ false → calls_from f (suc n) x ≡ calls_from f n (f x.left)
unfolding calls_from
calls-next f n x h = rw h

pub calls-on : (f : Given → After) (n m : ℕ) (x y : After) {b : Bool} → n ≡ suc m → b ≡ is_end x.answer → b ≡ false → y ≡ f x.left → calls_from f m y ≡ calls_from f n x
calls-on f n m x y l e h q = rw (l, q) (sym (calls-next f m x (sym e ∙ h)))

-- The start, then the calls: five.
pub run-made : (g : Given) {x y : After} → x ≡ commit_start g → y ≡ calls_from commit_on 5 x → y ≡ committed g
unfolding committed
run-made g e q = q ∙ ap (calls_from commit_on 5) e
