-- Worked values of the definitions of specs/Scribble on the small pool of proofs/BenchRun, log A at 512 and log B at 2560: of the two steps by
-- which a seal reaches memory, a barrier and a cut, at the moments where stores at the seals are pending. Each is computed, and this file is
-- checked early: a slip in a definition meets a value here before any proof. Assumes nothing.
use mathlib.Core.Path.{◌≡◌, refl, ◌∙◌}
use mathlib.Core.Logic.{inl, inr}
use mathlib.Core.Bool.{Bool, true, false}
use mathlib.Core.List.{List, [], ◌∷◌, Sublistᴰ}
use Prim.Native.Nat.{ℕ}
use native.Mathlib.Omega.{arith}
use lib.ListN.{get_or}
use Rattle.rules.specs.Words.{Bytes, put, word}
use Rattle.rules.specs.Staging.{Store, committing, lay}
use Rattle.rules.proofs.Words.{bytes-put, length-put, put-out, word-put-other}
use Rattle.powercut.specs.Log.{from_a, from_b, seal_of}
use Rattle.powercut.specs.Steps.{Step, barrier, log_stores, store}
use Rattle.powercut.specs.Power.{State}
use Rattle.powercut.specs.WholeRun.{Run, cut, entries, holding}
use Rattle.powercut.specs.Scribble.{Overwritten, is_seal_in, other, passes_seal_in, reached_in}
use Rattle.powercut.proofs.BenchRun.{ks, opened, pool, sh, staging, txn}

abbrev es : List Store
es = entries pool staging ks

abbrev at : ℕ → ℕ → Store
at a w = record { at = a; val = w }

-- The entries are in both logs, and w is stored at both seals.
abbrev sealing : ℕ → State
sealing w = record { base = lay pool (log_stores sh 0 es); pend = at 512 w ∷ at 2560 w ∷ []; reached = false }

-- What a step tells of A and of B: a barrier, with both seals pending, with both clears, with the seals of another commit; and a store, which
-- tells nothing.
abbrev both : Step → State → Bool × Bool
both x s = (passes_seal_in sh es from_a x s, passes_seal_in sh es from_b x s)

pub steps : (both barrier (sealing (seal_of es)) ≡ (true, true)) × (both barrier (sealing 0) ≡ (false, false)) × (both barrier (sealing (seal_of [])) ≡ (false, false))
    × (both (store (at 512 (seal_of es))) (sealing (seal_of es)) ≡ (false, false))
unfolding opened is_seal_in
steps = (refl, refl, refl, refl)

-- What a cut tells, of a run up to step 11 that has told nothing yet: it keeps both seals, A's, B's or none.
module _ (run : Run pool staging ks (holding (txn (committing 11))) (sealing (seal_of es))) (n_a : reached_in pool staging ks from_a run ≡ false) (n_b : reached_in pool staging ks from_b run ≡ false) where
  abbrev told : {kept : List Store} → Sublistᴰ kept (at 512 (seal_of es) ∷ at 2560 (seal_of es) ∷ []) → Bool × Bool
  told k = (reached_in pool staging ks from_a (cut run k), reached_in pool staging ks from_b (cut run k))

  pub cuts : (told (Sublistᴰ.cons-cons refl (Sublistᴰ.cons-cons refl Sublistᴰ.slnil)) ≡ (true, true)) × (told (Sublistᴰ.cons-cons refl (Sublistᴰ.cons Sublistᴰ.slnil)) ≡ (true, false))
      × (told (Sublistᴰ.cons (Sublistᴰ.cons-cons refl Sublistᴰ.slnil)) ≡ (false, true)) × (told (Sublistᴰ.cons (Sublistᴰ.cons Sublistᴰ.slnil)) ≡ (false, false))
  unfolding opened is_seal_in reached_in
  cuts = (rw (n_a, n_b), rw (n_a, n_b), rw (n_a, n_b), rw (n_a, n_b))

-- And of a run that has told of both, as with both seals cleared at its end: it tells of both, whatever it keeps.
pub cleared : {s : State} {kept : List Store} (run : Run pool staging ks (holding (txn (committing 20))) s) (k : Sublistᴰ kept s.pend) → reached_in pool staging ks from_a run ≡ true
    → reached_in pool staging ks from_b run ≡ true → (reached_in pool staging ks from_a (cut run k) ≡ true) × (reached_in pool staging ks from_b (cut run k) ≡ true)
unfolding reached_in
cleared run k a b = (rw a, rw b)

-- The other log of each.
pub others : (other from_a ≡ from_b) × (other from_b ≡ from_a)
unfolding other
others = (refl, refl)

-- Log A overwritten: the bytes before and behind it stay; its last word may be any.
pub bytes-stay : (p q : List ℕ) → Overwritten sh from_a p q → (get_or q 511 0 ≡ get_or p 511 0) × (get_or q 2560 0 ≡ get_or p 2560 0)
bytes-stay p q o = (o.outside 511 (inl (omega arith)), o.outside 2560 (inr (omega arith)))

pub last_word : (p : List ℕ) (w : ℕ) → Bytes p → word p 512 ≡ 0 → Overwritten sh from_a p (put p 2552 w)
last_word p w b z = record {
  size = length-put p 2552 w;
  bytes = bytes-put p 2552 w b;
  outside = λ i o. put-out p 2552 w i (elim o [ inl h ↦ inl (omega arith) | inr h ↦ inr (omega arith) ]);
  lost = inl (word-put-other p 2552 w 512 refl refl (λ e. omega arith) ∙ z);
}
