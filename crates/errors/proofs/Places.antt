-- The code's queue: its ten places, and what each function writes into them. Assumes nothing.
use Prim.Native.Nat.{ℕ, suc, ◌+◌, ◌-◌, ◌≤◌, ◌<◌}
use mathlib.Core.Path.{◌≡◌, refl, ap, ◌∙◌}
use mathlib.Core.Bool.{true}
use mathlib.Core.List.{List, [], ◌∷◌, ◌++◌, append-nil}
use native.Mathlib.Omega.{arith}
use lib.ListN.{length, drop, get_or, replicate, set, take, drop_of_length-le, length-append}
use lib.Seq.{append_snoc, length-take-le, set-append_seam, set_split, take-append_seam, take-length}
use Rattle.std.proofs.lemmas.List.{length-replicate, replicate_more}
use Rattle.std.proofs.Common.{append_assoc}
use Rattle.errors.specs.Errors.{Queue, all_errors, behind_oldest, entered, fit, is_error, judged, oldest, queue_limit}
use Rattle.errors.specs.Meaning.{queue_in, queue_out}
use Rattle.errors.specs.declared.Queue as Code
use Rattle.errors.proofs.Errors.{all_first, entered-full, entered-room, fit-join, fit-judged, fit-split, judged-fit}

-- ---- what the code's queue means

pub queue-in-fit : (j : Code.Queue) → fit (queue_in j) ≡ true
unfolding queue_in
queue-in-fit j = judged-fit j.count j.errors

pub queue-in-out : (q : Queue) → fit q ≡ true → queue_in (queue_out q) ≡ q
unfolding queue_in queue_out
queue-in-out q f =
    let t = take-append_seam q (replicate (10 - length q) 0) in
    fit-judged (length q) (q ++ replicate (10 - length q) 0) (omega (arith, length-append q (replicate (10 - length q) 0))) (rw t f) ∙ t

-- ---- its places: zeros behind the errors

unfoldable pub places : Queue → List ℕ
places q = q ++ replicate (queue_limit - length q) 0

zeros-less : (n : ℕ) → n < 10 → ◌≡◌ {A = List ℕ} (replicate (10 - n) 0) (0 ∷ replicate (10 - (n + 1)) 0)
zeros-less n h = let e : 10 - n ≡ suc (10 - (n + 1)) = omega arith in rw e

-- an error written behind the others
places-set : (q : Queue) (e : ℕ) → length q < 10 → set (places q) (length q) e ≡ places (q ++ (e ∷ []))
unfolding places
places-set q e h = rw (length-append q (e ∷ []), zeros-less (length q) h, append_snoc) (set-append_seam q 0 _ e)

-- a full queue has no zeros; an error written over its newest
places-full : (q : Queue) → length q ≡ 10 → places q ≡ q
unfolding places
places-full q h = rw h (append-nil q)

places-last : (q : Queue) (e : ℕ) → length q ≡ 10 → set (places q) 9 e ≡ places (take 9 q ++ (e ∷ []))
places-last q e h =
    let l : length (take 9 q ++ (e ∷ [])) ≡ 10 = omega (arith, length-append (take 9 q) (e ∷ []), length-take-le 9 q (omega arith)) in
    rw (places-full q h, places-full (take 9 q ++ (e ∷ [])) l, set_split q 9 e (omega arith), drop_of_length-le q {i = 10} (omega arith))

-- ---- a queue handed in

-- the n places given are errors, and the others zeros
pub judged_places : (given : List ℕ) (n : ℕ) → n ≤ 10 → length given ≡ 10 → all_errors (take n given) ≡ true
    → ◌≡◌ {A = Code.Queue} (record { errors = take n given ++ replicate (10 - n) 0; count = n }) (queue_out (judged n given))
unfolding queue_out
judged_places given n h l a =
    let k : length (take n given) ≡ n = length-take-le n given (omega arith) in
    rw (fit-judged n given (omega arith) (fit-join (take n given) (omega arith) a), k)

-- ---- a further error, written into the queue j

module _ (e : ℕ) (q : Queue) (j : Code.Queue) (h : j ≡ queue_out q) where
  pub entered-behind : j.count < 10 → ◌≡◌ {A = Code.Queue} (record { errors = set j.errors j.count e; count = j.count + 1 }) (queue_out (entered e q))
  unfolding queue_out places
  entered-behind k =
      let r : length q < 10 = rw h at k in
      rw (h, entered-room e q r, places-set q e r, length-append q (e ∷ []))

  pub entered-lost : {o : ℕ} → o ≡ 350 → fit q ≡ true → 10 ≤ j.count → ◌≡◌ {A = Code.Queue} (record { errors = set j.errors 9 o; count = j.count }) (queue_out (entered e q))
  unfolding queue_out places
  entered-lost i f k =
      let r : 10 ≤ length q = rw h at k in
      let l : length q ≡ 10 = omega (arith, (fit-split q f).0) in
      let n : length q ≡ length (take 9 q ++ (350 ∷ [])) = omega (arith, length-append (take 9 q) (350 ∷ []), length-take-le 9 q (omega arith)) in
      rw (i, h, entered-full e q r, places-last q 350 l, n)

-- ---- the oldest error taken out

-- nothing waits
pub taken_none : (q : Queue) (j : Code.Queue) → j ≡ queue_out q → j.count ≡ 0 → (0 ≡ oldest q) × (j ≡ queue_out (behind_oldest q))
unfolding queue_out oldest behind_oldest
taken_none [] j h k = (refl, h)
taken_none (e ∷ q) j h k = absurd (let z : suc (length q) ≡ 0 = rw h at k in omega arith)

-- an oldest error stands first, and is one of the six
pub taken_first : (q : Queue) (j : Code.Queue) → fit q ≡ true → j ≡ queue_out q → (j.count ≡ 0 → ⊥) → (get_or j.errors 0 0 ≡ oldest q) × (is_error (get_or j.errors 0 0) ≡ true)
unfolding queue_out oldest
taken_first [] j f h k = absurd (k (ap (λ (x : Code.Queue). x.count) h))
taken_first (e ∷ q) j f h k = rw h (refl, (all_first e q (fit-split (e ∷ q) f).1).0)

-- the others move down by a place, and a zero stands behind them
pub taken-behind : (q : Queue) (j : Code.Queue) → fit q ≡ true → j ≡ queue_out q → (j.count ≡ 0 → ⊥)
    → ◌≡◌ {A = Code.Queue} (record { errors = take 9 (drop 1 j.errors) ++ (0 ∷ []); count = j.count - 1 }) (queue_out (behind_oldest q))
unfolding queue_out behind_oldest
taken-behind [] j f h k = absurd (k (ap (λ (x : Code.Queue). x.count) h))
taken-behind (e ∷ q) j f h k =
    let l : length q < 10 = omega (arith, (fit-split (e ∷ q) f).0) in
    let zeros : List ℕ = replicate (10 - suc (length q)) 0 in
    let n : length (q ++ zeros) ≡ 9 = omega (arith, length-append q zeros, length-replicate {A = ℕ} (10 - suc (length q)) 0) in
    let t : take 9 (q ++ zeros) ≡ q ++ zeros = rw n at (take-length (q ++ zeros)) in
    let m : 10 - suc (length q) + 1 ≡ 10 - length q = omega arith in
    let c : suc (length q) - 1 ≡ length q = omega arith in
    rw (h, c, t, append_assoc, replicate_more {X = ℕ} (10 - suc (length q)) 0, m)
