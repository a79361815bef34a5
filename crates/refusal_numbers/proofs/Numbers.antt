-- A refusal among a list of tests, and what a call concludes from it. Assumes nothing.
use Prim.Native.Nat.{ℕ, ◌≤◌}
use mathlib.Core.Path.{◌≡◌, sym, ap, ◌∙◌}
use mathlib.Core.Bool.{Bool, true, false, ◌&&◌}
use mathlib.Core.Option.{Option, none, some}
use mathlib.Core.List.{List, [], ◌∷◌, ◌++◌}
use native.Mathlib.Omega.{arith}
use lib.Dec.{leb}
use borrow.Author.Tests.{leb-true}
use Rattle.refusals.specs.Listed.{is_listed}
use Rattle.rules.specs.Test.{Test, first, when}
use Rattle.rules.specs.Answer.{Answer, After, Given, conclude, conclude_pool, is_refused, refused}
use Rattle.rules.proofs.Bool.{and_split, split}
use Rattle.refusal_numbers.specs.Listed.{ListedNumber}

-- a listed number is 1 to 33
pub listed-range : (n : ℕ) → is_listed n ≡ true → (1 ≤ n) × (n ≤ 33)
unfolding is_listed
listed-range n h =
    split (leb 1 n && leb n 11) (λ e. let r = between 1 11 n e in (r.0, omega (arith, r.1)))
    (λ e. split (leb 21 n && leb n 29) (λ f. let r = between 21 29 n f in (omega (arith, r.0), omega (arith, r.1)))
    (λ f. let r = between 31 33 n (rw (e, f) at h) in (omega (arith, r.0), r.1)))
  where
    between : (lo hi n : ℕ) → (leb lo n && leb n hi) ≡ true → (lo ≤ n) × (n ≤ hi)
    between lo hi n e = let p = and_split (leb lo n) (leb n hi) e in (leb-true lo n p.0, leb-true n hi p.1)

-- each test has a listed number
abbrev pub AllListed : List Test → Type 0
AllListed [] = Unit {0}
AllListed (when b n ∷ ts) = (is_listed n ≡ true) × AllListed ts

pub listed-join : (ts us : List Test) → AllListed ts → AllListed us → AllListed (ts ++ us)
listed-join [] us p q = q
listed-join (when b n ∷ ts) us p q = (p.0, listed-join ts us p.1 q)

pub first-listed : (ts : List Test) → AllListed ts → ListedNumber some (first ts)
unfolding first
first-listed [] p n e = cc
first-listed (when true m ∷ ts) p n e = let h : is_listed m ≡ true = p.0 in cc
first-listed (when false m ∷ ts) p n e = first-listed ts p.1 n e

pub accepted-listed : (a : Answer) → is_refused a ≡ false → ListedNumber refused a
unfolding is_refused
accepted-listed a f n e = let h : ◌≡◌ {A = Bool} false true = sym f ∙ ap is_refused e in cc

pub conclude-listed : (g : Given) (o : Option ℕ) (a : After) → ListedNumber some o → ListedNumber refused a.answer → ListedNumber refused (conclude g o a).answer
unfolding conclude
conclude-listed g none a h k = k
conclude-listed g (some m) a h k = λ n e. h n cc

pub conclude-pool-listed : (p : List ℕ) (o : Option ℕ) (q : List ℕ) → ListedNumber some o → ListedNumber refused (conclude_pool p o q).answer
unfolding conclude_pool
conclude-pool-listed p none q h n e = cc
conclude-pool-listed p (some m) q h n e = h n cc
