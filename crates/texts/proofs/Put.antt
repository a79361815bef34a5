-- Text put piece by piece. Assumes nothing.
use Prim.Native.Nat.{ℕ, ◌+◌, ◌≤◌}
use mathlib.Core.Path.{◌≡◌, refl, sym, ap, ◌∙◌}
use mathlib.Core.List.{List, [], ◌++◌}
use native.Mathlib.Nat.{add-zero}
use native.Mathlib.Omega.{arith}
use lib.ListN.{length, length-append}
use lib.Seq.{sets, length-sets}
use Rattle.rules.proofs.Sets.{sets-append}
use Rattle.texts.specs.Put.{Put}

-- a text, then another one
pub put_then : {j k : ℕ} {l : List ℕ} {a : ℕ} {t l' : List ℕ} {r : ℕ} {u l'' : List ℕ} {r' : ℕ} → Put j l a t l' r → Put k l' r u l'' r' → Put (j + k) l a (t ++ u) l'' r'
put_then {l = l} {a} {t} {u = u} p q =
    record {
      stored = q.stored ∙ rw (p.stored, p.ends) (sym (sets-append l a t u));
      ends = rw (length-append t u) (omega (arith, p.ends, q.ends));
      most = omega (arith, p.most, q.most);
    }

pub put_as : {j k : ℕ} {l : List ℕ} {a : ℕ} {t u l' : List ℕ} {r : ℕ} → Put j l a t l' r → t ≡ u → j ≤ k → Put k l a u l' r
put_as {l = l} {a} p e h = record { stored = p.stored ∙ ap (sets l a) e; ends = p.ends ∙ ap (λ (x : List ℕ). a + length x) e; most = omega (arith, p.most) }

pub put-length : {k : ℕ} {l : List ℕ} {a : ℕ} {t l' : List ℕ} {r : ℕ} → Put k l a t l' r → length l' ≡ length l
put-length {l = l} {a} {t} p = ap length p.stored ∙ length-sets l a t

-- of a whole text for l from a on, the rest is to be put into l' from r on
pub record Putting (l : List ℕ) (a : ℕ) (whole l' : List ℕ) (r : ℕ) (rest : List ℕ) : Type 0 where
  pub stores : sets l' r rest ≡ sets l a whole
  pub ends : r + length rest ≡ a + length whole
  pub same_length : length l' ≡ length l

pub putting-start : (l : List ℕ) (a : ℕ) (whole : List ℕ) → Putting l a whole l a whole
putting-start l a whole = record { stores = refl; ends = refl; same_length = refl }

pub putting-step : {l : List ℕ} {a : ℕ} {whole l' : List ℕ} {r : ℕ} {t u : List ℕ} {k : ℕ} {l'' : List ℕ} {r' : ℕ} → Putting l a whole l' r (t ++ u) → Put k l' r t l'' r' → Putting l a whole l'' r' u
putting-step {l} {a} {whole} {l'} {r} {t} {u} f p =
    record {
      stores = rw (p.stored, p.ends) (sym (sets-append l' r t u)) ∙ f.stores;
      ends = omega (arith, p.ends, f.ends, length-append t u);
      same_length = put-length p ∙ f.same_length;
    }

pub putting-end : {l : List ℕ} {a : ℕ} {whole l' : List ℕ} {r : ℕ} {k : ℕ} → Putting l a whole l' r [] → r ≤ a + k → Put k l a whole l' r
putting-end f h = record { stored = f.stores; ends = sym (add-zero _) ∙ f.ends; most = h }
