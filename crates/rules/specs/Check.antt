-- The check (01, "The pool's bytes"): two sums modulo 65521, of whole bytes and brought up to date. Assumes nothing.
use Rattle.std.specs.Prelude.{ℕ, suc, ◌+◌, ◌-◌, ◌*◌, ◌/◌, ◌%◌, List, [], ◌∷◌, length, ℤ, pos, negsuc, ◌-ℤ◌, ◌*ℤ◌}

abbrev pub modulus : ℕ
modulus = 65521

-- Each sum is kept below 65521 by a remainder.
unfoldable pub reduced : ℕ → ℕ
reduced x = x % modulus

-- The low sum, a so far, adds each byte.
unfoldable pub low : ℕ → List ℕ → ℕ
low a [] = a
low a (b ∷ bs) = low (reduced (a + b)) bs

-- The high sum, h so far, adds the new low sum after each byte.
unfoldable pub high : ℕ → ℕ → List ℕ → ℕ
high a h [] = h
high a h (b ∷ bs) = high (reduced (a + b)) (reduced (h + reduced (a + b))) bs

-- The low sum starts at 1, the high one at 0. The check is high × 65536 + low.
unfoldable pub check : List ℕ → ℕ
check bs = high 1 0 bs * 65536 + low 1 bs

-- ---- The sums without their reduction: of the bytes, and of each byte times its distance from the end.

unfoldable pub total : List ℕ → ℕ
total [] = 0
total (b ∷ bs) = b + total bs

unfoldable pub weighted : List ℕ → ℕ
weighted [] = 0
weighted (b ∷ bs) = suc (length bs) * b + weighted bs

-- ---- One byte changes from u to v, with n bytes from it to the end: the low sum moves by v − u and the high one by n × (v − u).

-- Either difference may fall below zero before it is reduced into 0 to 65520.
abbrev pub residue : ℤ → ℕ
residue (pos x) = x % modulus
residue (negsuc x) = modulus - 1 - x % modulus

-- A sum moved by n × (v − u).
abbrev pub moved : ℕ → ℕ → ℕ → ℕ → ℕ
moved sum n u v = (sum + residue ((pos v -ℤ pos u) *ℤ pos n)) % modulus

unfoldable pub updated : ℕ → ℕ → ℕ → ℕ → ℕ
updated chk n u v = moved (chk / 65536) n u v * 65536 + moved (chk % 65536) 1 u v
