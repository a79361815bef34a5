-- A save is refused and changes nothing, or leaves its one call made on a fresh transaction. Assumes nothing.
use Prim.Native.Nat.{ℕ}
use mathlib.Core.Path.{◌≡◌, refl, sym, ap, ◌∙◌}
use mathlib.Core.Bool.{true, false}
use mathlib.Core.Option.{Option, none, some}
use mathlib.Core.List.{List, [], ◌∷◌}
use native.Mathlib.Omega.{arith}
use Rattle.rules.specs.Test.{first}
use Rattle.rules.specs.Answer.{After, is_refused}
use Rattle.rules.specs.Plan.{Call}
use Rattle.rules.specs.Calls.{Calls, begun, call, calls}
use Rattle.rules.proofs.Bool.{split}
use Rattle.rules.proofs.Test.{Passed, first-passed}
use Rattle.powercut.specs.WholeRun.{made}
use Rattle.setups.specs.Setups.{conclude_save, save_call, save_tests, saved, unsaved}
use Rattle.setups.specs.Table.{SaveRefused, SaveStaged}

module _ (pool staging : List ℕ) (x : After) where
  conclude-refused : (o : Option ℕ) → is_refused (conclude_save pool staging o x).answer ≡ true → conclude_save pool staging o x ≡ unsaved pool staging (conclude_save pool staging o x).answer
  unfolding conclude_save unsaved
  conclude-refused none h = split (is_refused x.answer) (λ r. rw r) (λ f. absurd (let g = rw f at h in let z : ◌≡◌ {A = ℕ} 0 1 = cc in omega arith))
  conclude-refused (some m) h = refl

  conclude-accepted : (o : Option ℕ) → is_refused (conclude_save pool staging o x).answer ≡ false → (o ≡ none) × (conclude_save pool staging o x ≡ x)
  unfolding conclude_save unsaved is_refused
  conclude-accepted none h = split (is_refused x.answer) (λ r. absurd (let g = rw r at h in let z : ◌≡◌ {A = ℕ} 0 1 = cc in omega arith)) (λ f. (refl, rw f))
  conclude-accepted (some m) h = absurd (let z : ◌≡◌ {A = ℕ} 0 1 = cc in omega arith)

-- REQUIREMENT 1
pub save-refused : SaveRefused
unfolding saved
save-refused pool staging n body = conclude-refused pool staging (call (begun pool staging) (save_call pool n body)) (first (save_tests pool staging n body))

-- the tests are passed, and the call is what is left
pub save-passed : (pool staging : List ℕ) (n : ℕ) (body : List ℕ) → is_refused (saved pool staging n body).answer ≡ false
    → Passed (save_tests pool staging n body) × (saved pool staging n body ≡ call (begun pool staging) (save_call pool n body))
unfolding saved
save-passed pool staging n body h =
    let i = conclude-accepted pool staging (call (begun pool staging) (save_call pool n body)) (first (save_tests pool staging n body)) h in
    (first-passed (save_tests pool staging n body) i.0, i.1)

made_one : (pool staging : List ℕ) (k : Call) → made pool staging (k ∷ []) ≡ record { answers = (call (begun pool staging) k).answer ∷ []; left = (call (begun pool staging) k).left }
unfolding made calls
made_one pool staging k = refl

-- THE TRANSACTION HANDED BACK
pub save-staged : SaveStaged
save-staged pool staging n body h =
    let e = (save-passed pool staging n body h).1 in
    let m = made_one pool staging (save_call pool n body) in
    (ap (λ (c : Calls). c.left) m ∙ sym (ap (λ (x : After). x.left) e), ap (λ (c : Calls). c.answers) m ∙ sym (ap (λ (x : After). x.answer ∷ []) e))
