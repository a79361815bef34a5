-- Bytes stored one by one: of the bytes vs, the first i are stored in l from place a on. Assumes nothing.
use Prim.Native.Nat.{ℕ, ◌+◌, ◌≤◌, ◌<◌}
use mathlib.Core.Path.{◌≡◌, refl, sym, ap, ◌∙◌}
use mathlib.Core.List.{List, [], ◌∷◌}
use native.Mathlib.Numerals.{add-one}
use native.Mathlib.Omega.{arith}
use lib.ListN.{length, take, get_or, set, length-set}
use lib.Seq.{sets, length-take-le, take-suc, take_all}
use Rattle.rules.proofs.Sets.{sets-append}

pub record Storing (l : List ℕ) (a : ℕ) (vs : List ℕ) (l' : List ℕ) (i : ℕ) : Type 0 where
  pub le : i ≤ length vs
  pub same_length : length l' ≡ length l
  pub now-is : l' ≡ sets l a (take i vs)

pub storing-start : (l : List ℕ) (a : ℕ) (vs : List ℕ) → Storing l a vs l 0
storing-start l a vs = record { le = omega arith; same_length = refl; now-is = refl }

pub storing-step : {l : List ℕ} {a : ℕ} {vs l' : List ℕ} {i j v : ℕ} → Storing l a vs l' i → i < length vs → j ≡ a + i → v ≡ get_or vs i 0
    → Storing l a vs (set l' j v) (i + 1)
storing-step {l} {a} {vs} {l'} {i} {j} {v} f h e b =
    record {
      le = omega arith;
      same_length = length-set l' j v ∙ f.same_length;
      now-is =
          rw (f.now-is, e, b, add-one, take-suc vs i 0 h)
          (sym (sets-append l a (take i vs) (get_or vs i 0 ∷ []) ∙ ap (λ (k : ℕ). set (sets l a (take i vs)) (a + k) (get_or vs i 0)) (length-take-le i vs f.le)));
    }

pub storing-end : {l : List ℕ} {a : ℕ} {vs l' : List ℕ} {i : ℕ} → Storing l a vs l' i → length vs ≤ i → l' ≡ sets l a vs
storing-end {l} {a} {vs} {l'} {i} f h = f.now-is ∙ ap (sets l a) (take_all i vs h)
