-- The sums over a part of a staged view, word by word, and an object's check. Assumes nothing.
use Prim.Native.Nat.{ℕ, ◌+◌, ◌-◌, ◌*◌, ◌/◌, ◌≤◌}
use mathlib.Core.Path.{◌≡◌, sym, ap, ◌∙◌}
use mathlib.Core.List.{List, [], ◌++◌}
use native.Mathlib.Nat.{add-sub_cancel_left}
use native.Mathlib.Omega.{arith}
use lib.ListN.{take, drop}
use lib.Seq.{drop-drop, take-add, take-take}
use Rattle.rules.specs.Words.{digits}
use Rattle.rules.specs.Check.{check, high, low}
use Rattle.rules.specs.Runs.{covered}
use Rattle.sums.specs.Fed.{Below, Fed}
use Rattle.sums.proofs.Fed.{high-append, low-append}
use Rattle.stage.specs.View.{Reads, part}
use Rattle.stage.specs.Seen.{seen_by}
use Rattle.stage.specs.declared.View.{View}
use Rattle.stage.proofs.Seen.{seen_none}
use Rattle.heads.specs.HeadWords.{covered_by, head_of}
use Rattle.heads.proofs.Digits.{take-digits}
use Rattle.heads.proofs.HeadWords.{covered-fed, head-covered}

-- the sums l and g, with m bytes from place p on to go
pub record Feeding (a h : ℕ) (v : List ℕ) (from n l g p m : ℕ) : Type 0 where
  pub low-is : low l (part m p v) ≡ low a (part n from v)
  pub high_is : high l g (part m p v) ≡ high a h (part n from v)
  pub below : Below l g

pub feeding-start : {a h : ℕ} (v : List ℕ) (from n : ℕ) {p m : ℕ} → Below a h → p ≡ from → m ≡ n → Feeding a h v from n a h p m
feeding-start v from n b e f = record { low-is = rw (e, f); high_is = rw (e, f); below = b }

part-split : (k m p : ℕ) (v : List ℕ) → k ≤ m → part m p v ≡ part k p v ++ part (m - k) (p + k) v
unfolding part
part-split k m p v h =
    let e : m ≡ k + (m - k) = omega arith in
    ap (λ (x : ℕ). take x (drop p v)) e ∙ take-add k (m - k) (drop p v) ∙ ap (λ (x : List ℕ). take k (drop p v) ++ take (m - k) x) (drop-drop k p v)

reads-part : {v : List ℕ} {p w : ℕ} (k : ℕ) → k ≤ 8 → Reads v p w → digits k w ≡ part k p v
unfolding part
reads-part {v} {p} {w} k h r = sym (take-digits k 8 w h) ∙ ap (take k) r.bytes ∙ take-take k 8 (drop p v) h

-- the first k bytes of the word at place p; q and j tell what is left behind them
pub feeding-step : {a h : ℕ} {v : List ℕ} {from n l g p m w l' g' : ℕ} (k : ℕ) {q j : ℕ} → k ≤ 8 → q ≡ p + k → m ≡ j + k → Feeding a h v from n l g p m → Reads v p w → Fed l g (digits k w) l' g'
    → Feeding a h v from n l' g' q j
feeding-step {a} {h} {v} {from} {n} {l} {g} {p} {m} {w} {l'} {g'} k {q} {j} e x y f r d =
    let xs : List ℕ = part k p v in
    let rest : List ℕ = part (m - k) (p + k) v in
    let s : part m p v ≡ xs ++ rest = part-split k m p v (omega arith) in
    let i : j ≡ m - k = omega arith in
    let t : Fed l g xs l' g' = rw (reads-part k e r) at d in
    record {
      low-is = rw (x, i, t.low-is) (sym (low-append l xs rest) ∙ ap (low l) (sym s) ∙ f.low-is);
      high_is = rw (x, i, t.low-is, t.high_is) (sym (high-append l g xs rest) ∙ ap (high l g) (sym s) ∙ f.high_is);
      below = d.below;
    }

pub feeding-end : {a h : ℕ} {v : List ℕ} {from n l g p m : ℕ} → Feeding a h v from n l g p m → m ≡ 0 → Fed a h (part n from v) l g
unfolding part low high
feeding-end {v = v} {p = p} f e = record { low-is = rw e at f.low-is; high_is = rw e at f.high_is; below = f.below }

-- with no entries the bytes are the pool's own
pub fed-pool : {a h : ℕ} (v : View) (from n : ℕ) {l g : ℕ} → v.count ≡ 0 → Fed a h (take (from + n - from) (drop from v.pool.now)) l g → Fed a h (part n from (seen_by v)) l g
fed-pool v from n e f = rw (e, seen_none v.pool.now v.staging.now) (unfold part in (rw (add-sub_cancel_left from n) at f))

-- the check of an object, by the head's sums and its body's
pub check-fed : (a b : ℕ) {l g l' g' y : ℕ} {body : List ℕ} → Fed 1 0 (covered_by a (b / 4294967296) []) l g → Fed l g body l' g' → y ≡ g' * 65536 + l' → y ≡ check (covered (head_of a b) body)
check-fed a b {body = body} d f q = rw (q, covered-fed a (b / 4294967296) d f, head-covered a b body)
