-- Laws of sums: `sum_to`, over the numbers below another; `sum_runs`, over runs. Assumes nothing.
use Prim.Native.Nat.{ℕ, zero, suc, ◌+◌, ◌*◌, ◌≤◌, ◌<◌}
use mathlib.Core.Path.{◌≡◌, refl, sym, ap₂}
use mathlib.Core.Bool.{Bool, cond}
use mathlib.Core.List.{List, [], ◌∷◌, ◌++◌}
use native.Mathlib.Nat.{add-suc, add-zero, suc-mul, zero-mul}
use native.Mathlib.Decide.{dec_lt}
use native.Mathlib.Omega.{arith}
use Rattle.rules.specs.Runs.{Run}
use Rattle.rules.specs.Scrub.{count_runs, sum_to}
use Rattle.rules.specs.Scan.{sum_runs}

pub zero-sum : (n : ℕ) (f : ℕ → ℕ) → ((i : ℕ) → i < n → f i ≡ 0) → sum_to n f ≡ 0
unfolding sum_to
zero-sum zero f h = refl
zero-sum (suc n) f h = rw (zero-sum n f (λ i l. h i (omega arith)), h n (omega arith))

pub sum-le : (n b : ℕ) (f : ℕ → ℕ) → ((i : ℕ) → f i ≤ b) → sum_to n f ≤ n * b
unfolding sum_to
sum-le zero b f h = omega arith
sum-le (suc n) b f h = omega (arith, sum-le n b f h, h n)

pub sum_same : (n k : ℕ) (f : ℕ → ℕ) → ((i : ℕ) → i < n → f i ≡ k) → sum_to n f ≡ n * k
unfolding sum_to
sum_same zero k f h = sym (zero-mul k)
sum_same (suc n) k f h = let i = sum_same n k f (λ i l. h i (omega arith)) in omega (arith, i, h n (omega arith), suc-mul n k)

-- at most one is not 0
pub sum_one : (n b : ℕ) (f : ℕ → ℕ) → ((i : ℕ) → f i ≤ b) → ((i j : ℕ) → 0 < f i → 0 < f j → i ≡ j) → sum_to n f ≤ b
unfolding sum_to
sum_one zero b f h u = omega arith
sum_one (suc n) b f h u = go (sum_one n b f h u) (dec_lt 0 (f n))
  where
    go : sum_to n f ≤ b → Dec (0 < f n) → sum_to n f + f n ≤ b
    go ih (no k) = omega arith
    go ih (yes k) = omega (arith, h n, zero-sum n f (λ i l. other i l (dec_lt 0 (f i)))) where
      other : (i : ℕ) → i < n → Dec (0 < f i) → f i ≡ 0
      other i l (yes j) = absurd (let e = u i n j k in omega arith)
      other i l (no j) = omega arith

pub sum-cong : (n : ℕ) (f g : ℕ → ℕ) → ((i : ℕ) → i < n → f i ≡ g i) → sum_to n f ≡ sum_to n g
unfolding sum_to
sum-cong zero f g h = refl
sum-cong (suc n) f g h = ap₂ ◌+◌ (sum-cong n f g (λ i l. h i (omega arith))) (h n (omega arith))

pub sum-add : (m n : ℕ) (f : ℕ → ℕ) → sum_to (m + n) f ≡ sum_to m f + sum_to n (λ i. f (m + i))
unfolding sum_to
sum-add m zero f = rw (add-zero m) (omega arith)
sum-add m (suc n) f = rw (add-suc m n) (omega (arith, sum-add m n f))

-- m times n, one after another
pub sum-mul : (m n : ℕ) (f : ℕ → ℕ) → sum_to (m * n) f ≡ sum_to m (λ i. sum_to n (λ j. f (i * n + j)))
unfolding sum_to
sum-mul zero n f = rw (zero-mul n)
sum-mul (suc m) n f = rw (suc-mul m n, sum-add (m * n) n f, sum-mul m n f)

sum-plus : (n : ℕ) (f g : ℕ → ℕ) → sum_to n (λ i. f i + g i) ≡ sum_to n f + sum_to n g
unfolding sum_to
sum-plus zero f g = refl
sum-plus (suc n) f g = omega (arith, sum-plus n f g)

pub sum-swap : (m n : ℕ) (f : ℕ → ℕ → ℕ) → sum_to m (λ i. sum_to n (f i)) ≡ sum_to n (λ j. sum_to m (λ i. f i j))
unfolding sum_to
sum-swap zero n f = sym (zero-sum n (λ j. 0) (λ i l. refl))
sum-swap (suc m) n f = rw (sum-swap m n f) (sym (sum-plus n (λ j. sum_to m (λ i. f i j)) (f m)))

-- ---- over runs

pub sum-append : (f : Run → ℕ) (a b : List Run) → sum_runs f (a ++ b) ≡ sum_runs f a + sum_runs f b
unfolding sum_runs
sum-append f [] b = omega arith
sum-append f (r ∷ a) b = rw (sum-append f a b) (omega arith)

-- a count is a sum of ones
pub count-sum : (f : Run → Bool) (rs : List Run) → count_runs f rs ≡ sum_runs (λ r. cond (f r) 1 0) rs
unfolding count_runs sum_runs
count-sum f [] = refl
count-sum f (r ∷ rs) = rw (count-sum f rs)
