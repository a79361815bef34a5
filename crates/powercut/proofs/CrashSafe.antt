-- Lists of steps along which a fact I, of the number of steps left and the state, holds before each step and at the end, where F holds too
-- (`CrashSafe`). One lemma, `phase`, takes a part of the list up to its barrier: each store of the part has a fact Q, and I holds wherever
-- the pending stores have Q. Assumes nothing.
use mathlib.Core.Path.{◌≡◌, refl, sym, ap, subst}
use mathlib.Core.Bool.{Bool, ◌||◌}
use mathlib.Core.List.{List, [], ◌∷◌, ◌++◌, map, append-nil, append_assoc}
use Prim.Native.Nat.{ℕ, suc, ◌≤◌, ◌<◌}
use native.Mathlib.Omega.{arith}
use lib.ListN.{length, get_or, drop}
use lib.Seq.{drop-cons, drop-length}
use Rattle.rules.specs.Shape.{Shape, parity_at}
use Rattle.rules.specs.Staging.{Store, lay}
use Rattle.rules.specs.Parity.{parity_word}
use Rattle.rules.proofs.Stores.{All, Fact, all_append}
use Rattle.powercut.specs.Steps.{Step, barrier, parity, store}
use Rattle.powercut.specs.Power.{State, act, any_seal, keep}

abbrev pub st : List ℕ → List Store → Bool → State
st p d r = record { base = p; pend = d; reached = r }

module _ (sh : Shape) (es : List Store) where
  abbrev pub CrashSafe : (I : ℕ → State → Type 0) (F : State → Type 0) → List Step → State → Type 0
  CrashSafe I F [] s = I 0 s × F s
  CrashSafe I F (x ∷ xs) s = I (suc (length xs)) s × CrashSafe I F xs (act sh es x s)

  pub safe-map : (I J : ℕ → State → Type 0) (F : State → Type 0) → ((n : ℕ) (s : State) → I n s → J n s) → (l : List Step) (s : State)
      → CrashSafe I F l s → CrashSafe J F l s
  safe-map I J F f [] s h = (f 0 s h.0, h.1)
  safe-map I J F f (x ∷ xs) s h = (f (suc (length xs)) s h.0, safe-map I J F f xs (act sh es x s) h.1)

  pub safe-now : (I : ℕ → State → Type 0) (F : State → Type 0) (l : List Step) (s : State) → CrashSafe I F l s → I (length l) s
  safe-now I F [] s h = h.0
  safe-now I F (x ∷ xs) s h = h.0

  -- step number k of a list
  pub safe-step : (I : ℕ → State → Type 0) (F : State → Type 0) (l : List Step) (k : ℕ) (s : State) → k < length l → CrashSafe I F (drop k l) s
      → CrashSafe I F (drop (suc k) l) (act sh es (get_or l k barrier) s)
  safe-step I F l k s h t = (subst (λ (m : List Step). CrashSafe I F m s) (drop-cons l k barrier h) t).1

  pub safe-end : (I : ℕ → State → Type 0) (F : State → Type 0) (l : List Step) (s : State) → CrashSafe I F (drop (length l) l) s → F s
  safe-end I F l s t = (subst (λ (m : List Step). CrashSafe I F m s) (drop-length l) t).1

  -- steps that make the stores `m`, wherever what pends has Q
  abbrev pub Makes : Fact → List ℕ → Bool → List Step → List Store → Type 0
  Makes Q p r [] [] = Unit {0}
  Makes Q p r [] (y ∷ m) = ⊥
  Makes Q p r (x ∷ l) [] = ⊥
  Makes Q p r (x ∷ l) (y ∷ m) = ((d : List Store) → All Q d → act sh es x (st p d r) ≡ st p (d ++ (y ∷ [])) r) × Makes Q p r l m

  pub makes-stores : (Q : Fact) (p : List ℕ) (r : Bool) (m : List Store) → Makes Q p r (map store m) m
  unfolding act
  makes-stores Q p r [] = tt
  makes-stores Q p r (y ∷ m) = ((λ d h. refl), makes-stores Q p r m)

  pub parity-acts : (p : List ℕ) (r : Bool) (e : Store) (d : List Store) (v : ℕ) → parity_word sh (lay p d) e.at ≡ v
      → act sh es (parity e) (st p d r) ≡ st p (d ++ (record { at = parity_at sh e.at; val = v } ∷ [])) r
  unfolding act
  parity-acts p r e d v h = ap (λ (x : ℕ). st p (d ++ (record { at = parity_at sh e.at; val = x } ∷ [])) r) h

  pub phase : (I : ℕ → State → Type 0) (F : State → Type 0) (Q : Fact) (p : List ℕ) (r : Bool) (rest : List Step) (n : ℕ)
      → ((l : List Step) → length l ≤ n → (d : List Store) → All Q d → I (length (l ++ barrier ∷ rest)) (st p d r))
      → (l : List Step) (m d : List Store) → length l ≤ n → Makes Q p r l m → All Q d → All Q m
      → CrashSafe I F rest (st (lay p (d ++ m)) [] (r || any_seal sh es (d ++ m))) → CrashSafe I F (l ++ barrier ∷ rest) (st p d r)
  unfolding act keep
  phase I F Q p r rest n i [] [] d hn k hd hm t =
      (i [] hn d hd, subst (λ (e : List Store). CrashSafe I F rest (st (lay p e) [] (r || any_seal sh es e))) (append-nil d) t)
  phase I F Q p r rest n i [] (y ∷ m) d hn k hd hm t = elim k [ ]
  phase I F Q p r rest n i (x ∷ l) [] d hn k hd hm t = elim k [ ]
  phase I F Q p r rest n i (x ∷ l) (y ∷ m) d hn k hd hm t = (
    i (x ∷ l) hn d hd,
    subst (λ (s : State). CrashSafe I F (l ++ barrier ∷ rest) s) (sym (k.0 d hd))
        (phase I F Q p r rest n i l m (d ++ (y ∷ [])) (omega arith) k.1 (all_append Q d (y ∷ []) hd (hm.0, tt)) hm.1
        (subst (λ (e : List Store). CrashSafe I F rest (st (lay p e) [] (r || any_seal sh es e))) (sym (append_assoc d (y ∷ []) m)) t)),
  )
