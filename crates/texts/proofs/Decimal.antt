-- A number put in decimal: its last digit after the others. Assumes nothing.
use Prim.Native.Nat.{ℕ, ◌+◌, ◌/◌, ◌%◌, ◌≤◌, ◌<◌}
use mathlib.Core.Path.{◌≡◌, sym, ap, ◌∙◌}
use mathlib.Core.List.{[], ◌∷◌, ◌++◌}
use native.Mathlib.Omega.{arith}
use Rattle.rules.specs.Scan.{decimal}
use Rattle.rules.proofs.Scan.{decimal-length, decimal-more, decimal-one}
use Rattle.texts.specs.declared.Text.{Text}
use Rattle.texts.specs.Adds.{Adds}
use Rattle.texts.proofs.Adds.{adds_as, adds_then}

pub number-one : {t : Text} {n d : ℕ} {t' : Text} → n < 10 → d ≡ 48 + n → Adds 1 t (d ∷ []) t' → Adds 10 t (decimal n) t'
number-one {n = n} h e p = adds_as p (ap (λ (x : ℕ). x ∷ []) e ∙ sym (decimal-one n h)) (omega arith)

pub number_more : {t : Text} {n d : ℕ} {t' t'' : Text} → 10 ≤ n → n < 10000000000 → Adds 10 t (decimal (n / 10)) t' → d ≡ 48 + n % 10 → Adds 1 t' (d ∷ []) t''
    → Adds 10 t (decimal n) t''
number_more {n = n} {d} h k p e q =
    let f : decimal (n / 10) ++ (d ∷ []) ≡ decimal n = ap (λ (x : ℕ). decimal (n / 10) ++ (x ∷ [])) e ∙ sym (decimal-more n h) in
    let i = adds_as {k = 11} (adds_then p q) f (omega arith) in
    record { put = record { stored = i.put.stored; ends = i.put.ends; most = omega (arith, i.put.ends, decimal-length 9 n k) }; buffer = i.buffer }
