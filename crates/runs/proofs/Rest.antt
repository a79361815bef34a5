-- The walk over a zone, one run further on: what is met at a cell by its head, and how the walk goes on, breaks and ends.
-- Assumes nothing.
use Prim.Native.Nat.{ℕ, suc, ◌+◌, ◌-◌, ◌*◌, ◌≤◌, ◌<◌}
use mathlib.Core.Path.{◌≡◌, refl, sym, ap, ◌∙◌}
use mathlib.Core.Bool.{Bool, true, false}
use mathlib.Core.List.{List, [], ◌∷◌}
use native.Mathlib.Nat.{sub-zero}
use Rattle.std.specs.Prelude.{Some, None}
use native.Mathlib.Omega.{arith}
use lib.ListN.{length, take, drop, length-drop}
use lib.Seq.{drop-drop, length-take-le, take-take}
use borrow.Author.Tests.{le-leb, lt-leb}
use Rattle.rules.specs.Runs.{Next, Walk, broken, cells, check_run, ended, fits, free, free_ok, head_cells, is_free, next_run, object_ok, onward, read_run, run, run_of, walk, zone_walk}
use Rattle.rules.proofs.Bool.{split}
use Rattle.rules.proofs.Laid.{read-says, says-cells, step_end, step-inv, walk-fuel}
use Rattle.stage.specs.View.{part}
use Rattle.stage.specs.Seen.{Within, seen_by}
use Rattle.stage.specs.declared.View.{View}
use Rattle.stage.proofs.Views.{length-by, within-same}
use Rattle.runs.specs.Rest.{Meets, Passed, Zoned, met, rest_of, walk_of, walk_on}
use Rattle.runs.specs.declared.Run.{Run as MetRun}
use Rattle.runs.specs.declared.Zone.{Zone}
use Rattle.rules.proofs.Sets.{drop-take}

pub zoned-seen : (z : Zone) → Zoned (seen_by z.view) z.from z.cells
zoned-seen z = record { even = z.zoned.even; inside = rw (length-by z.view) z.zoned.inside }

-- ---- a zone's rest

module _ (v : List ℕ) (from n : ℕ) where
  rest-start : rest_of v from n 0 ≡ part (64 * n) from v
  unfolding rest_of
  rest-start = rw (sub-zero n) (ap (λ (x : ℕ). part (64 * n) x v) (omega arith))

  pub rest-length : (c : ℕ) → Zoned v from n → length (rest_of v from n c) ≡ 64 * (n - c)
  unfolding rest_of part
  rest-length c z = length-take-le (64 * (n - c)) (drop (from + 64 * c) v) (rw (length-drop (from + 64 * c) v) (omega (arith, z.inside)))

  rest-drop : (c m : ℕ) → c + m ≤ n → drop (64 * m) (rest_of v from n c) ≡ rest_of v from n (c + m)
  unfolding rest_of part
  rest-drop c m h =
      let e : 64 * (n - c) ≡ 64 * m + 64 * (n - (c + m)) = omega arith in
      let f : from + 64 * c + 64 * m ≡ from + 64 * (c + m) = omega arith in
      rw e (drop-take (64 * m) (64 * (n - (c + m))) (drop (from + 64 * c) v) ∙ ap (take (64 * (n - (c + m)))) (drop-drop (64 * m) (from + 64 * c) v ∙ ap (λ (x : ℕ). drop x v) f))

  pub rest-head : (c : ℕ) → c < n → take 16 (rest_of v from n c) ≡ part 16 (from + 64 * c) v
  unfolding rest_of part
  rest-head c h = take-take 16 (64 * (n - c)) (drop (from + 64 * c) v) (omega arith)

-- ---- the walk in a view for the zone alone

pub walk-within : {v r : View} {from n : ℕ} → Within v from (64 * n) r → Zoned v.pool.now from n → walk_of (seen_by r) from n ≡ walk_of (seen_by v) from n
unfolding walk_of
walk-within w z = ap zone_walk (within-same w z.even z.inside)

-- ---- what is met, by the head

next-is : (a : Bool) (bs h : List ℕ) → take 16 bs ≡ h → 1 ≤ length bs → next_run a bs ≡ check_run a bs (run_of h (drop 16 bs))
unfolding next_run read_run
next-is a [] h e l = absurd (omega arith)
next-is a (b ∷ bs) h e l = ap (λ (x : List ℕ). check_run a (b ∷ bs) (run_of x (drop 16 (b ∷ bs)))) e

module _ (a : Bool) (bs h : List ℕ) (rest : ℕ) (e : take 16 bs ≡ h) (l : length bs ≡ 64 * rest) (k : 1 ≤ rest) where
  next-free : head_cells h ≤ rest → free_ok h ≡ true → a ≡ false → next_run a bs ≡ run (free (head_cells h))
  unfolding run_of check_run fits
  next-free m p q = next-is a bs h e (omega arith) ∙ rw (p, q, le-leb (64 * head_cells h) (length bs) (omega arith))

  next-object : head_cells h ≤ rest → free_ok h ≡ false → object_ok h ≡ true
      → (c : ℕ) → met c (next_run a bs) ≡ Some (record { cell = c; cells = head_cells h; free = false })
  unfolding run_of check_run fits
  next-object m p q c =
      let f = next-is a bs h e (omega arith) in
      let u = le-leb (64 * head_cells h) (length bs) (omega arith) in
      split a (λ y. rw (f, p, q, y, u)) (λ y. rw (f, p, q, y, u))

  next-after : head_cells h ≤ rest → free_ok h ≡ true → a ≡ true → next_run a bs ≡ broken
  unfolding run_of check_run fits
  next-after m p q = next-is a bs h e (omega arith) ∙ rw (p, q, le-leb (64 * head_cells h) (length bs) (omega arith))

  next-none : free_ok h ≡ false → object_ok h ≡ false → next_run a bs ≡ broken
  unfolding run_of check_run
  next-none p q = next-is a bs h e (omega arith) ∙ rw (p, q)

  next-long : rest < head_cells h → next_run a bs ≡ broken
  unfolding run_of check_run fits
  next-long m =
      let f = next-is a bs h e (omega arith) in
      let y = lt-leb (64 * head_cells h) (length bs) (omega arith) in
      split (free_ok h) (λ p. f ∙ rw (p, y)) (λ p. split (object_ok h) (λ q. f ∙ rw (p, q, y)) (λ q. f ∙ rw (p, q)))

module _ {v : List ℕ} {from n c : ℕ} {a : Bool} (z : Zoned v from n) (b : c < n) (h : List ℕ) (e : h ≡ part 16 (from + 64 * c) v) {m : ℕ} (q : m ≡ head_cells h) where
  pub meets-long : n - c < m → Meets v from n c a None
  meets-long k =
      let y = next-long a (rest_of v from n c) h (n - c) (rest-head v from n c b ∙ sym e) (rest-length v from n c z) (omega arith) (rw (← q) k) in
      record { is = rw y }

  pub meets-after : m ≤ n - c → {x : Bool} → x ≡ free_ok h → x ≡ true → a ≡ true → Meets v from n c a None
  meets-after k r p i =
      let y = next-after a (rest_of v from n c) h (n - c) (rest-head v from n c b ∙ sym e) (rest-length v from n c z) (omega arith) (rw (← q) k) (sym r ∙ p) i in
      record { is = rw y }

  pub meets-free : m ≤ n - c → {x : Bool} → x ≡ free_ok h → x ≡ true → a ≡ false → Meets v from n c a (Some (record { cell = c; cells = m; free = true }))
  meets-free k r p i =
      let y = next-free a (rest_of v from n c) h (n - c) (rest-head v from n c b ∙ sym e) (rest-length v from n c z) (omega arith) (rw (← q) k) (sym r ∙ p) i in
      record { is = rw (y, q) }

  pub meets-object : m ≤ n - c → {x y : Bool} → x ≡ free_ok h → x ≡ false → y ≡ object_ok h → y ≡ true → Meets v from n c a (Some (record { cell = c; cells = m; free = false }))
  meets-object k r p s i =
      let y = next-object a (rest_of v from n c) h (n - c) (rest-head v from n c b ∙ sym e) (rest-length v from n c z) (omega arith) (rw (← q) k) (sym r ∙ p) (sym s ∙ i) c in
      record { is = rw (y, q) }

  pub meets-none : {x y : Bool} → x ≡ free_ok h → x ≡ false → y ≡ object_ok h → y ≡ false → Meets v from n c a None
  meets-none r p s i =
      let y = next-none a (rest_of v from n c) h (n - c) (rest-head v from n c b ∙ sym e) (rest-length v from n c z) (omega arith) (sym r ∙ p) (sym s ∙ i) in
      record { is = rw y }

-- ---- the walk from here on

pub walk_start : (v : List ℕ) (from n : ℕ) → walk_on false (rest_of v from n 0) ≡ walk_of v from n
unfolding walk_on walk_of zone_walk
walk_start v from n = rw (rest-start v from n)

walk-nil : (a : Bool) (bs : List ℕ) → length bs ≡ 0 → walk_on a bs ≡ record { runs = []; whole = true }
unfolding walk_on walk next_run onward
walk-nil a [] h = refl
walk-nil a (b ∷ bs) h = absurd (omega arith)

pub walk_end : {v : List ℕ} {from n : ℕ} (c : ℕ) (a : Bool) → Zoned v from n → n ≤ c → walk_on a (rest_of v from n c) ≡ record { runs = []; whole = true }
walk_end {v} {from} {n} c a z h = walk-nil a (rest_of v from n c) (rw (rest-length v from n c z) (omega arith))

walk-stop : (a : Bool) (bs : List ℕ) (c : ℕ) → None ≡ met c (next_run a bs) → 1 ≤ length bs → walk_on a bs ≡ record { runs = []; whole = false }
unfolding walk_on walk
walk-stop a bs c e h = go (next_run a bs) refl e
  where
    go : (x : Next) → next_run a bs ≡ x → None ≡ met c x → walk (suc (length bs)) a bs ≡ record { runs = []; whole = false }
    go ended p e = absurd (let q : length bs ≡ 0 = ap length (step_end a bs p) in omega arith)
    go broken p e = unfold onward in (rw (p, walk))
    go (run r) p e = cc

pub walk-broken : {v : List ℕ} {from n c : ℕ} {a : Bool} → Zoned v from n → c < n → Meets v from n c a None
    → walk_on a (rest_of v from n c) ≡ record { runs = []; whole = false }
walk-broken {v} {from} {n} {c} {a} z h e = walk-stop a (rest_of v from n c) c e.is (rw (rest-length v from n c z) (omega arith))

-- a run is passed
pub walk-passed : {v : List ℕ} {from n c : ℕ} {a : Bool} {r : MetRun} → Zoned v from n → c < n → Meets v from n c a (Some r) → Passed v from n c a r.cells r.free
unfolding walk_on walk
walk-passed {v} {from} {n} {c} {a} {r = m} z h e = go (next_run a (rest_of v from n c)) refl e.is
  where
    go : (x : Next) → next_run a (rest_of v from n c) ≡ x → Some m ≡ met c x → Passed v from n c a m.cells m.free
    go ended p e = cc
    go broken p e = cc
    go (run r) p q = unfold onward in (
        let s : m ≡ record { cell = c; cells = cells r; free = is_free r } = cc in
        let e : m.cells ≡ cells r = ap (λ (x : MetRun). x.cells) s in
        let g : m.free ≡ is_free r = ap (λ (x : MetRun). x.free) s in
        let l : length (rest_of v from n c) ≡ 64 * (n - c) = rest-length v from n c z in
        let i = step-inv a (rest_of v from n c) r p in
        let k : 1 ≤ m.cells = let y = (says-cells (read-says (rest_of v from n c) r i.0)).0 in omega (arith, y, e) in
        let b : c + m.cells ≤ n = let j = rw (← e) at i.1 in omega (arith, j, k) in
        let t : length (rest_of v from n (c + m.cells)) ≡ 64 * (n - (c + m.cells)) = rest-length v from n (c + m.cells) z in
        let w : walk (length (rest_of v from n c)) (is_free r) (drop (64 * cells r) (rest_of v from n c)) ≡ walk_on m.free (rest_of v from n (c + m.cells)) =
        rw (← e, ← g, rest-drop v from n c m.cells b)
        (walk-fuel (length (rest_of v from n c)) (suc (length (rest_of v from n (c + m.cells)))) m.free (rest_of v from n (c + m.cells)) (omega (arith, k)) (omega arith)) in
        record {
          within = b;
          some = k;
          that = r;
          cells_is = sym e;
          free-is = sym g;
          next = p;
          runs = rw (p, walk) (ap (λ (x : Walk). r ∷ x.runs) w);
          whole = rw (p, walk) (ap (λ (x : Walk). x.whole) w);
        }
        )

-- a run that is met at cell c begins there
pub meets-cell : {v : List ℕ} {from n c : ℕ} {a : Bool} {m : MetRun} → Meets v from n c a (Some m) → m.cell ≡ c
meets-cell {v} {from} {n} {c} {a} {m} e = go (next_run a (rest_of v from n c)) e.is
  where
    go : (x : Next) → Some m ≡ met c x → m.cell ≡ c
    go ended q = cc
    go broken q = cc
    go (run r) q = let s : m ≡ record { cell = c; cells = cells r; free = is_free r } = cc in ap (λ (x : MetRun). x.cell) s
