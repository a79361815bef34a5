-- Each call that no test refuses keeps what holds of a transaction (`Held`); its arguments and its answer say what the book becomes.
use Prim.Native.Nat.{ℕ, zero, suc, ◌+◌, ◌-◌, ◌*◌, ◌/◌, ◌%◌, ◌^◌, ◌≤◌, ◌<◌}
use mathlib.Core.Path.{◌≡◌, refl, sym, ap, ap₂, ◌∙◌, subst}
use mathlib.Core.Bool.{true, false}
use mathlib.Core.Option.{Option, none, some}
use mathlib.Core.List.{List, [], ◌∷◌}
use native.Mathlib.Nat.{add_assoc, div-lt_iff_lt-mul, div-add-mod'}
use native.Mathlib.Omega.{arith}
use lib.ListN.{length, take, drop, length-drop}
use lib.Seq.{sets, length-sets, length-take-le, drop-drop}
use lib.Dec.{leb}
use borrow.Author.Tests.{leb-true, ltb-true, lt-ltb}
use Rattle.rules.specs.Words.{Bytes}
use Rattle.rules.specs.Shape.{Shape, body_limit, zone_at, zone_cells}
use Rattle.rules.specs.Header.{within}
use Rattle.rules.specs.Runs.{Run, Walk, cell_count, cells_for, check_word, free, free_head, object, object_bytes}
use Rattle.rules.specs.Book.{Listed, enter, overwrite, strike}
use Rattle.rules.specs.Search.{Place, fit, joined, run_at}
use Rattle.rules.specs.Zones.{body_of, head_at, is_damaged, is_object, object_tests, run_there, walk_in, zone_data}
use Rattle.rules.specs.Staging.{Store, Tidy, lay, touch_range, touch_words}
use Rattle.rules.specs.Plan.{Call, Fit, allocate, failed, fit_address, fit_in, fit_test, fitted, joined_at, plan, release, search, touch_free, touch_joined, touch_object, touch_write, write}
use Rattle.rules.specs.Calls.{Typed}
use Rattle.rules.specs.NewBook.{new_book, on_address, on_taken}
use Rattle.rules.proofs.Bool.{and_split, split}
use Rattle.rules.proofs.Test.{Passed, not-not, passed-left, passed-right}
use Rattle.rules.proofs.Words.{bytes_drop, bytes_take}
use Rattle.rules.proofs.Sets.{part-take, sets-comm}
use Rattle.rules.proofs.Stores.{bytes-lay}
use Rattle.rules.proofs.Segments.{check_word-bytes, free_bytes_lem, length-check_word, length-free_head, object-bytes, seg-object}
use Rattle.rules.proofs.Book.{laid-pos}
use Rattle.rules.proofs.Search.{fit-bound, joined-bound, run-bound, run-pos}
use Rattle.rules.proofs.ZoneBytes.{alloc_bytes, free_bytes, put_free, write_bytes}
use Rattle.rules.proofs.Freed.{freed}
use Rattle.rules.proofs.Allocated.{allocated}
use Rattle.rules.proofs.Written.{body-bound, written}
use Rattle.rules.proofs.Staging.{lay-range, lay-words}
use Rattle.rules.proofs.Zones.{Fits, Inside, Only, inside-range, inside-words, only_same, only-sets, zone-in, zone-length}
use Rattle.rules.proofs.Held.{At, Held, at-zone, view-fits}

-- ---- the object named

-- a good object begins at the address
pub record Named (s : Shape) (v : List ℕ) (a : ℕ) : Type 0 where
  pub below : a < s.zones * zone_cells s
  pub whole : (walk_in s v (a / zone_cells s)).whole ≡ true
  pub cells : ℕ
  pub tag : ℕ
  pub body : List ℕ
  pub found : run_there s v a ≡ some (object cells tag body true)

run-named : (x : Option Run) → is_object x ≡ true → is_damaged x ≡ false → (n t : ℕ) × (b : List ℕ) × (x ≡ some (object n t b true))
unfolding is_object is_damaged
run-named none p q = absurd (let z : ◌≡◌ {A = ℕ} 0 1 = cc in omega arith)
run-named (some (free n)) p q = absurd (let z : ◌≡◌ {A = ℕ} 0 1 = cc in omega arith)
run-named (some (object n t b true)) p q = (n, t, b, refl)
run-named (some (object n t b false)) p q = absurd (let z : ◌≡◌ {A = ℕ} 0 1 = cc in omega arith)

pub object-named : (s : Shape) (v : List ℕ) (a : ℕ) → Passed (object_tests s v a) → Named s v a
unfolding object_tests
object-named s v a p =
    let i = run-named (run_there s v a) (not-not _ p.1.1.0) p.1.1.1.0 in
    record {
      below = ltb-true a (s.zones * zone_cells s) (not-not _ p.0);
      whole = not-not _ p.1.0;
      cells = i.0;
      tag = i.1;
      body = i.2;
      found = i.3;
    }

pub named-object : (s : Shape) (v : List ℕ) (a : ℕ) → Named s v a → Passed (object_tests s v a)
unfolding object_tests is_object is_damaged
named-object s v a n = (rw (lt-ltb a (s.zones * zone_cells s) n.below), (rw n.whole, (rw n.found, (rw n.found, tt))))

-- a zone in which a free run fits
pub search-inv : (s : Shape) (v : List ℕ) (k z n y : ℕ) (p : Place) → search s v k z n ≡ fitted y p
    → (y < z + n) × ((walk_in s v y).whole ≡ true) × (fit k 0 (walk_in s v y).runs ≡ some p)
unfolding search
search-inv s v k z zero y p e = absurd (let z : ◌≡◌ {A = ℕ} 0 1 = cc in omega arith)
search-inv s v k z (suc n) y p e =
    split (walk_in s v z).whole
    (λ w. here (λ e. search-inv s v k (suc z) n y p e) w (fit k 0 (walk_in s v z).runs) refl (rw w at e))
    (λ w. absurd (let e' : failed 23 ≡ fitted y p = rw w at e in let z : ◌≡◌ {A = ℕ} 0 1 = cc in omega arith))
  where
    here : (search s v k (suc z) n ≡ fitted y p → (y < suc z + n) × ((walk_in s v y).whole ≡ true) × (fit k 0 (walk_in s v y).runs ≡ some p)) → (walk_in s v z).whole ≡ true → (o : Option Place)
        → fit k 0 (walk_in s v z).runs ≡ o → fit_in z o (search s v k (suc z) n) ≡ fitted y p → (y < z + suc n) × ((walk_in s v y).whole ≡ true) × (fit k 0 (walk_in s v y).runs ≡ some p)
    here ih w (some q) f e = unfold fit_in in (
        let ey : z ≡ y = cc in
        let eq : q ≡ p = cc in
        (omega arith, ap (λ (x : ℕ). (walk_in s v x).whole) (sym ey) ∙ w, ap (λ (x : ℕ). fit k 0 (walk_in s v x).runs) (sym ey) ∙ f ∙ ap (λ (x : Place). some x) eq)
        )
    here ih w none f e = unfold fit_in in (let i = ih e in (omega (arith, i.0), i.1, i.2))

module _ (s : Shape) (pool : List ℕ) (es : List Store) (bk : List Listed) (fp : Fits s pool) (h : Held s pool es bk) where
  abbrev v : List ℕ
  v = lay pool es

  fv : Fits s v
  fv = view-fits s pool es fp

  -- a zone's length
  short : (z : ℕ) → z < s.zones → length (zone_data s v z) < 4194304
  short z lt = omega (arith, zone-length s v z fv lt, fp.short)

  zone-bytes : (z : ℕ) → Bytes (zone_data s v z)
  unfolding zone_data
  zone-bytes z = bytes_take (64 * zone_cells s) (drop (zone_at s z) v) (bytes_drop (zone_at s z) v fv.bytes)

  -- the zone and the cell of an address
  zone-lt : (a : ℕ) → a < s.zones * zone_cells s → a / zone_cells s < s.zones
  zone-lt a k = (div-lt_iff_lt-mul fp.cell).1 k

  aligned : (z o : ℕ) → o % 8 ≡ 0 → (zone_at s z + o) % 8 ≡ 0
  aligned z o p = omega (arith, fp.even z)

  -- the head of the object at cell c of zone z
  head_in : (z c : ℕ) → 64 * c + 16 ≤ 64 * zone_cells s → take 16 (drop (zone_at s z + 64 * c) v) ≡ take 16 (drop (64 * c) (zone_data s v z))
  unfolding zone_data
  head_in z c k = ap (λ (l : List ℕ). take 16 l) (sym (drop-drop (64 * c) (zone_at s z) v)) ∙ sym (part-take (64 * c) 16 (64 * zone_cells s) (drop (zone_at s z) v) k)

  -- whole words stored into zone z at byte o
  store : (z m o : ℕ) (ys : List ℕ) (ws : List Store) (bs : List ℕ) → Bytes ys → z < s.zones → Tidy ws → Inside s ws → o % 8 ≡ 0 → length ys ≡ 8 * m → o + length ys ≤ 64 * zone_cells s
      → Only s v (lay pool ws) z bs
      → Only s v (lay pool (touch_words m (zone_at s z + o) ys ws)) z (sets bs o ys) × Tidy (touch_words m (zone_at s z + o) ys ws) × Inside s (touch_words m (zone_at s z + o) ys ws)
  store z m o ys ws bs hy lt t n p l k i =
      let w = lay-words m (zone_at s z + o) ys ws pool t (aligned z o p) l hy in
      (rw w.0 (only-sets s v (lay pool ws) z bs o ys fv lt k i), w.1, inside-words s z m (zone_at s z + o) ys ws lt (omega arith) (omega arith) n)

  -- ---- free

  release-at : (z c n t : ℕ) (b : List ℕ) (j : Place) → z < s.zones → (x : At s pool es bk z) → run_at c 0 x.runs ≡ some (object n t b true) → j ≡ joined c 0 0 x.runs
      → Held s pool (touch_words 2 (zone_at s z + 64 * j.cell) (free_head j.count) es) (strike (z * zone_cells s + c) bk)
  unfolding free_bytes
  release-at z c n t b j lt x f q =
      let k : (j.cell + j.count ≤ cell_count x.runs) × (n ≤ j.count) = rw q (joined-bound c x.runs (object n t b true) f) in
      let n1 : 1 ≤ n = run-pos c x.runs (object n t b true) (laid-pos x.laid) f in
      let o = store z 2 (64 * j.cell) (free_head j.count) es (zone_data s v z) (free_bytes_lem j.count) lt h.tidy h.inside (omega arith) (length-free_head j.count)
      (rw (length-free_head j.count) (omega (arith, x.count, k))) (only_same s v z) in
      x.next (free_bytes (zone_data s v z) j) (touch_words 2 (zone_at s z + 64 * j.cell) (free_head j.count) es) (λ d. strike (d + c))
      (rw q (freed c x.runs (zone_data s v z) n t b true x.laid x.good (short z lt) f)) o.0 o.1 o.2

  -- the object's run, in the zone of the staged view
  pub found_in : (a : ℕ) (n : Named s v a) (x : At s pool es bk (a / zone_cells s)) → run_at (a % zone_cells s) 0 x.runs ≡ some (object n.cells n.tag n.body true)
  unfolding run_there
  found_in a n x = sym (ap (λ (w : Walk). run_at (a % zone_cells s) 0 w.runs) x.whole) ∙ n.found

  release-kept : (a : ℕ) → Named s v a → Held s pool (touch_joined s (a / zone_cells s) (joined_at s v a) es) (strike a bk)
  unfolding touch_joined joined_at
  release-kept a n =
      let lt : a / zone_cells s < s.zones = zone-lt a n.below in
      let x = at-zone s pool es bk (a / zone_cells s) fp h lt in
      let q : a / zone_cells s * zone_cells s + a % zone_cells s ≡ a = div-add-mod' a (zone_cells s) in
      rw q at (release-at (a / zone_cells s) (a % zone_cells s) n.cells n.tag n.body (joined (a % zone_cells s) 0 0 (walk_in s v (a / zone_cells s)).runs) lt x (found_in a n x)
      (ap (λ (w : Walk). joined (a % zone_cells s) 0 0 w.runs) x.whole))

  -- ---- write

  -- a word, and the words that hold a range behind it
  stored : (z p q : ℕ) (w xs : List ℕ) → Bytes w → Bytes xs → z < s.zones → p % 8 ≡ 0 → length w ≡ 8 → p + 8 ≤ q → q + length xs ≤ 64 * zone_cells s
      → (new : List Store) → new ≡ touch_range (zone_at s z + q) (length xs) (sets (sets v (zone_at s z + p) w) (zone_at s z + q) xs) (touch_words 1 (zone_at s z + p) w es)
      → Only s v (lay pool new) z (sets (sets (zone_data s v z) p w) q xs) × Tidy new × Inside s new
  stored z p q w xs hw hx lt p8 lw k1 k2 new en =
      let i = store z 1 p w es (zone_data s v z) hw lt h.tidy h.inside p8 lw (omega arith) (only_same s v z) in
      let es1 : List Store = touch_words 1 (zone_at s z + p) w es in
      let e1 : lay pool es1 ≡ sets v (zone_at s z + p) w = (lay-words 1 (zone_at s z + p) w es pool h.tidy (aligned z p p8) lw hw).0 in
      let l1 : length (lay pool es1) ≡ length v = ap length e1 ∙ length-sets v (zone_at s z + p) w in
      let r = lay-range (zone_at s z + q) xs es1 pool i.1 (omega (arith, zone-in s v z fv lt, l1)) (rw l1 fv.words) (bytes-lay pool es1 fp.bytes) hx in
      let e2 : lay pool new ≡ sets (lay pool es1) (zone_at s z + q) xs =
      ap (λ (l : List Store). lay pool l) en ∙ ap (λ (u : List ℕ). lay pool (touch_range (zone_at s z + q) (length xs) (sets u (zone_at s z + q) xs) es1)) (sym e1) ∙ r.0 in (
        rw e2 (only-sets s v (lay pool es1) z (sets (zone_data s v z) p w) q xs fv lt k2 i.0),
        rw en (rw (← e1) r.1),
        rw en (inside-range s z (zone_at s z + q) (length xs) _ es1 lt (omega arith) (omega arith) (fp.even z) i.2),
      )

  write-at : (z c n t : ℕ) (b : List ℕ) (o : ℕ) (xs : List ℕ) → Bytes xs → z < s.zones → (x : At s pool es bk z) → run_at c 0 x.runs ≡ some (object n t b true) → o + length xs ≤ length b
      → Held s pool (touch_write v (zone_at s z + 64 * c) b o xs es) (overwrite (z * zone_cells s + c) o xs bk)
  unfolding touch_write write_bytes
  write-at z c n t b o xs hx lt x f k =
      let H : ℕ = zone_at s z + 64 * c in
      let zb : List ℕ = zone_data s v z in
      let nb : c + n ≤ cell_count x.runs = run-bound c x.runs (object n t b true) f in
      let bb : 16 + length b ≤ 64 * n = body-bound c x.runs zb n t b true x.laid f in
      let w : List ℕ = check_word (take 16 (drop H v)) (sets b o xs) in
      let eh : take 16 (drop H v) ≡ take 16 (drop (64 * c) zb) = head_in z c (omega (arith, x.count)) in
      let l16 : length (take 16 (drop H v)) ≡ 16 = length-take-le 16 (drop H v) (rw (length-drop H v) (omega (arith, x.count, zone-in s v z fv lt))) in
      let lw : length w ≡ 8 = length-check_word (take 16 (drop H v)) (sets b o xs) (omega arith) in
      let g = stored z (64 * c + 8) (64 * c + (16 + o)) w xs (check_word-bytes (take 16 (drop H v)) (sets b o xs) (bytes_take 16 (drop H v) (bytes_drop H v fv.bytes))) hx lt (omega arith) lw (omega arith) (omega (arith, x.count)) (touch_write v H b o xs es)
      (ap₂ (λ (p q : ℕ). touch_range q (length xs) (sets (sets v p w) q xs) (touch_words 1 p w es)) (add_assoc (zone_at s z) (64 * c) 8) (add_assoc (zone_at s z) (64 * c) (16 + o))) in
      let e : sets (sets zb (64 * c + 8) w) (64 * c + (16 + o)) xs ≡ write_bytes zb c b o xs =
      sets-comm zb (64 * c + 8) (64 * c + (16 + o)) w xs (omega arith)
      ∙ ap (λ (l : List ℕ). sets (sets zb (64 * c + (16 + o)) xs) (64 * c + 8) (check_word l (sets b o xs))) eh in
      x.next (write_bytes zb c b o xs) (touch_write v H b o xs es) (λ d. overwrite (d + c) o xs)
      (written c x.runs zb n t b true o xs x.laid x.good f k (zone-bytes z) hx) (subst (λ (l : List ℕ). Only s v (lay pool (touch_write v H b o xs es)) z l) e g.0) g.1 g.2

  write_kept : (a o : ℕ) (xs : List ℕ) → Bytes xs → (n : Named s v a) → o + length xs ≤ length n.body → Held s pool (touch_write v (head_at s a) n.body o xs es) (overwrite a o xs bk)
  unfolding head_at
  write_kept a o xs hx n k =
      let lt : a / zone_cells s < s.zones = zone-lt a n.below in
      let x = at-zone s pool es bk (a / zone_cells s) fp h lt in
      let q : a / zone_cells s * zone_cells s + a % zone_cells s ≡ a = div-add-mod' a (zone_cells s) in
      rw q at (write-at (a / zone_cells s) (a % zone_cells s) n.cells n.tag n.body o xs hx lt x (found_in a n x) k)

  -- ---- allocate

  -- the head of a free run, if there is one
  free-stored : (z c r : ℕ) (ws : List Store) (bs : List ℕ) → z < s.zones → Tidy ws → Inside s ws → c + r ≤ zone_cells s → Only s v (lay pool ws) z bs
      → Only s v (lay pool (touch_free (zone_at s z + 64 * c) r ws)) z (put_free bs c r) × Tidy (touch_free (zone_at s z + 64 * c) r ws) × Inside s (touch_free (zone_at s z + 64 * c) r ws)
  unfolding touch_free put_free
  free-stored z c zero ws bs lt t n k i = (i, t, n)
  free-stored z c (suc r) ws bs lt t n k i =
      store z 2 (64 * c) (free_head (suc r)) ws bs (free_bytes_lem (suc r)) lt t n (omega arith) (length-free_head (suc r)) (rw (length-free_head (suc r)) (omega arith)) i

  allocate-at : (z : ℕ) (p : Place) (t : ℕ) (b : List ℕ) → z < s.zones → (x : At s pool es bk z) → 1 ≤ length b → length b ≤ body_limit → t < 2 ^ 32 → Bytes b → fit (cells_for (length b)) 0 x.runs ≡ some p
      → Held s pool (touch_object s (fitted z p) t b es) (enter (record { addr = z * zone_cells s + p.cell; tag = t; body = b }) bk)
  unfolding touch_object alloc_bytes
  allocate-at z p t b lt x b1 b2 ht hb f =
      let k : ℕ = cells_for (length b) in
      let zb : List ℕ = zone_data s v z in
      let bd = fit-bound k x.runs p f in
      let lo : length (object_bytes t b) ≡ 64 * k = (seg-object t b ht hb b1 b2).len in
      let i = store z (8 * k) (64 * p.cell) (object_bytes t b) es zb (object-bytes t b hb) lt h.tidy h.inside (omega arith) (omega arith) (omega (arith, x.count, bd)) (only_same s v z) in
      let j = free-stored z (p.cell + k) (p.count - k) (touch_words (8 * k) (zone_at s z + 64 * p.cell) (object_bytes t b) es) (sets zb (64 * p.cell) (object_bytes t b)) lt i.1 i.2
      (omega (arith, x.count, bd)) i.0 in
      x.next (alloc_bytes zb p t b) (touch_object s (fitted z p) t b es) (λ d. enter (record { addr = d + p.cell; tag = t; body = b }))
      (allocated x.runs zb p t b x.laid x.good (short z lt) b1 b2 ht hb f) j.0 j.1 j.2

  allocate-kept : (t : ℕ) (b : List ℕ) (f : Fit) → f ≡ search s v (cells_for (length b)) 0 s.zones → t < 2 ^ 32 → Bytes b → within 1 (length b) body_limit ≡ true → Passed (fit_test f ∷ [])
      → Held s pool (touch_object s f t b es) (enter (record { addr = fit_address s f; tag = t; body = b }) bk)
  unfolding fit_test within fit_address
  allocate-kept t b (failed n) e ht hb w p = absurd (let z : ◌≡◌ {A = ℕ} 0 1 = cc p.0 in omega arith)
  allocate-kept t b (fitted z p) e ht hb w q =
      let i = search-inv s v (cells_for (length b)) 0 s.zones z p (sym e) in
      let j = and_split (leb 1 (length b)) (leb (length b) body_limit) w in
      let lt : z < s.zones = omega (arith, i.0) in
      let x = at-zone s pool es bk z fp h lt in
      allocate-at z p t b lt x (leb-true 1 (length b) j.0) (leb-true (length b) body_limit j.1) ht hb (sym (ap (λ (w : Walk). fit (cells_for (length b)) 0 w.runs) x.whole) ∙ i.2)

  -- ONE CALL
  pub plan-kept : (k : Call) → Typed k → Passed (plan s v es k).tests → Held s pool (plan s v es k).entries (new_book k (plan s v es k).answer bk)
  unfolding plan new_book on_address on_taken body_of
  plan-kept (allocate t b) f p = allocate-kept t b (search s v (cells_for (length b)) 0 s.zones) refl f.0 f.1 (not-not _ p.0) p.1
  plan-kept (write a o xs) f p =
      let n = object-named s v a (passed-left (object_tests s v a) _ p) in
      let e : body_of (run_there s v a) ≡ n.body = ap body_of n.found in
      let r = and_split (leb 1 (length xs)) (leb (o + length xs) (length (body_of (run_there s v a)))) (not-not _ (passed-right (object_tests s v a) _ p).0) in
      rw e (write_kept a o xs f n (rw e at (leb-true (o + length xs) (length (body_of (run_there s v a))) r.1)))
  plan-kept (release a) f p = release-kept a (object-named s v a p)
