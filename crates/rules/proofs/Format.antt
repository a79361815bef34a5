-- FORMAT MAKES A SOUND POOL, with an empty book (`fresh-sound`).
use Prim.Native.Nat.{ℕ, zero, suc, ◌+◌, ◌-◌, ◌*◌, ◌^◌, ◌≤◌, ◌<◌}
use mathlib.Core.Path.{◌≡◌, refl, sym, ap, ap₂, ◌∙◌, subst}
use mathlib.Core.Logic.{◌≢◌}
use mathlib.Core.Bool.{true, false, not, ◌&&◌, ◌||◌}
use mathlib.Core.Option.{Option, none, some}
use mathlib.Core.List.{List, [], ◌∷◌, ◌++◌}
use native.Mathlib.Nat.{mul-le-mul_right, zero-lt-suc, not-suc-le-zero, le_of_suc-le-suc, mul-le-mul}
use native.Mathlib.Omega.{arith}
use lib.Bits.{bit_xor, xor_self, xor_zero_l, xor_zero_r}
use lib.Dec.{leb, ltb, eqb, lit<}
use lib.ListN.{length, take, drop, get_or, replicate, length-append, length-replicate, get_or-append}
use lib.Seq.{ext_get_or, get_or-append-add, get_or-take, get_or-drop, take_at, drop_at}
use borrow.Author.Tests.{leb-true, eq-eqb, ne_eqb, eqb-false}
use Rattle.rules.specs.Words.{Bytes, digits, field, number, word}
use Rattle.rules.specs.Check.{check}
use Rattle.rules.specs.Shape.{Shape, byte_at, log_a, log_b, pool_size, row_size, zone_at, zone_cells, zone_size, zones_at}
use Rattle.rules.specs.Test.{Test, first, when}
use Rattle.rules.specs.Header.{header_bytes, header_front, header_id, header_ok, header_shape, in_range, letters, page_at, same, shape_in, valid_header, within}
use Rattle.rules.specs.Runs.{free, free_head}
use Rattle.rules.specs.Book.{book}
use Rattle.rules.specs.Zones.{all_good, book_from, good_from, pool_book, walk_in, zone_data}
use Rattle.rules.specs.Seals.{unsealed}
use Rattle.rules.specs.Answer.{conclude_pool, is_refused}
use Rattle.rules.specs.Parity.{Parity, xor_to}
use Rattle.rules.specs.Sound.{Sound, book_of}
use Rattle.rules.specs.Format.{format_tests, formatted, fresh_pool, fresh_zone, fresh_zones}
use Rattle.rules.proofs.Freed.{laid-free}
use Rattle.rules.proofs.Bool.{and-join, and_split, or-false}
use Rattle.rules.proofs.Test.{first-passed, not-not}
use Rattle.rules.proofs.Xor.{xor_to-cong}
use Rattle.rules.proofs.Words.{bytes-append, bytes-zeros, digits-byte, number_digits, number-zero}
use Rattle.rules.proofs.Shape.{Good, size-eq, zone-cells}
use Rattle.rules.proofs.Check.{check-lt}
use Rattle.rules.proofs.Laid.{Laid, laid-zone}
use Rattle.rules.proofs.Segments.{free_bytes_lem, length-free_head}
use Rattle.rules.proofs.Zones.{Fits, good-fits, zone-length}
use Rattle.rules.proofs.Header.{range-good, same_refl}
use Rattle.rules.proofs.Examples.{bench, bench_pool}
use Rattle.rules.proofs.Zeros.{then-zeros, zeros-at}

past_end : (l : List ℕ) (i : ℕ) → length l ≤ i → ◌≡◌ {A = ℕ} (get_or l i 0) 0
past_end [] i h = refl
past_end (x ∷ l) zero h = absurd (not-suc-le-zero h)
past_end (x ∷ l) (suc i) h = past_end l i (le_of_suc-le-suc h)

drop-zeros : (k n : ℕ) → drop k (replicate {A = ℕ} n 0) ≡ replicate (n - k) 0
drop-zeros zero n = ap (λ (m : ℕ). replicate m 0) {x = n} {y = n - 0} (omega arith)
drop-zeros (suc k) zero = ap (λ (m : ℕ). replicate m 0) {x = 0} {y = 0 - suc k} (omega arith)
drop-zeros (suc k) (suc n) = drop-zeros k n ∙ ap (λ (m : ℕ). replicate m 0) {x = n - k} {y = suc n - suc k} (omega arith)

bytes-cons : (x : ℕ) (l : List ℕ) → x < 256 → Bytes l → Bytes (x ∷ l)
bytes-cons x l h k zero = h
bytes-cons x l h k (suc i) = k i

-- ---- a fresh zone of n cells is one free run
pub fresh-laid : (n : ℕ) → 1 ≤ n → n < 65536 → Laid false (free n ∷ []) (free_head n ++ drop 16 (replicate (64 * n) 0))
fresh-laid n h s = laid-free false n (replicate (64 * n) 0) refl (length-replicate {A = ℕ} (64 * n) 0) h s

-- ---- the length of a fresh zone, and of n of them

module _ (sh : Shape) (g : Good sh) where
  pub row-head : 16 ≤ row_size sh
  row-head = let m = mul-le-mul g.cols-pos g.page-min in omega arith

  pub data_head : 16 ≤ 64 * zone_cells sh
  data_head = let m = mul-le-mul g.rows-pos row-head in omega (arith, zone-cells sh g)

  pub zone-size : zone_size sh ≡ 64 * zone_cells sh + row_size sh
  zone-size = omega (arith, zone-cells sh g)

  pub length-zone : length (fresh_zone sh) ≡ zone_size sh
  unfolding fresh_zone
  length-zone =
      let F : List ℕ = free_head (zone_cells sh) in
      let d = data_head in
      let r = row-head in
      let e = zone-size in
      length-append (F ++ replicate (64 * zone_cells sh - 16) 0) (F ++ replicate (row_size sh - 16) 0)
      ∙ rw (
        length-append F (replicate (64 * zone_cells sh - 16) 0),
        length-append F (replicate (row_size sh - 16) 0),
        length-free_head (zone_cells sh),
        length-replicate {A = ℕ} (64 * zone_cells sh - 16) 0,
        length-replicate {A = ℕ} (row_size sh - 16) 0,
      ) (omega arith)

  pub length-zones : (n : ℕ) → length (fresh_zones sh n) ≡ n * zone_size sh
  unfolding fresh_zones
  length-zones zero = omega arith
  length-zones (suc n) = length-append (fresh_zone sh) (fresh_zones sh n) ∙ rw (length-zone, length-zones n) (omega arith)

module _ (sh : Shape) (id : ℕ) (pg : sh.page ≡ 256) (ok : in_range sh ≡ true) (id-not : id ≢ 0) (id-lt : id < 2 ^ 64) where
  g : Good sh
  g = range-good sh pg ok

  ranges : (sh.rows < 256) × (sh.cols < 256) × (sh.zones < 256)
  unfolding in_range within
  ranges =
      let a = and_split (leb 1 sh.rows && leb sh.rows 15) _ ok in
      let b = and_split (leb 1 sh.cols && leb sh.cols 64) _ a.1 in
      let r = leb-true sh.rows 15 (and_split (leb 1 sh.rows) (leb sh.rows 15) a.0).1 in
      let c = leb-true sh.cols 64 (and_split (leb 1 sh.cols) (leb sh.cols 64) b.0).1 in
      let z = leb-true sh.zones 16 (and_split (leb 1 sh.zones) (leb sh.zones 16) b.1).1 in
      (omega arith, omega arith, omega arith)

  -- ---- the header

  H : List ℕ
  H = header_bytes sh id

  front_bytes : Bytes (header_front sh id)
  unfolding header_front
  front_bytes =
      bytes-append letters (sh.rows ∷ sh.cols ∷ sh.zones ∷ 1 ∷ digits 8 id)
      (bytes-cons 0x53 (0x47 ∷ 0x50 ∷ 0x4C ∷ []) (omega arith) (bytes-cons 0x47 (0x50 ∷ 0x4C ∷ []) (omega arith) (bytes-cons 0x50 (0x4C ∷ []) (omega arith) (bytes-cons 0x4C [] (omega arith) (λ i. zero-lt-suc 255)))))
      (bytes-cons sh.rows (sh.cols ∷ sh.zones ∷ 1 ∷ digits 8 id) ranges.0 (bytes-cons sh.cols (sh.zones ∷ 1 ∷ digits 8 id) ranges.1
      (bytes-cons sh.zones (1 ∷ digits 8 id) ranges.2 (bytes-cons 1 (digits 8 id) (omega arith) (digits-byte 8 id)))))

  header-bytes : Bytes H
  unfolding H header_bytes
  header-bytes =
      bytes-append (header_front sh id) (digits 4 (check (header_front sh id)) ++ replicate 236 0) front_bytes
      (bytes-append (digits 4 (check (header_front sh id))) (replicate 236 0) (digits-byte 4 (check (header_front sh id))) (bytes-zeros 236))

  length-H : length H ≡ 256
  unfolding H header_bytes header_front digits
  length-H = refl

  shape-H : header_shape H ≡ sh
  unfolding header_shape H header_bytes header_front digits
  shape-H = λ i. record { page = sym pg i; rows = sh.rows; cols = sh.cols; zones = sh.zones }

  id-H : header_id H ≡ id
  unfolding header_id field number H header_bytes header_front digits
  id-H = number_digits 8 id id-lt

  check-H : field 4 H 16 ≡ check (header_front sh id)
  unfolding field number H header_bytes header_front digits
  check-H = number_digits 4 (check (header_front sh id)) (check-lt (header_front sh id) front_bytes)

  front-H : take 16 H ≡ header_front sh id
  unfolding H header_bytes header_front digits
  front-H = refl

  letters-H : take 4 H ≡ letters
  unfolding H header_bytes header_front
  letters-H = refl

  version-H : get_or H 7 0 ≡ 1
  unfolding H header_bytes header_front
  version-H = refl

  rest-H : drop 20 H ≡ replicate 236 0
  unfolding H header_bytes header_front digits
  rest-H = refl

  header_ok_lem : header_ok H ≡ true
  unfolding header_ok
  header_ok_lem =
      and-join _ _ (ap (λ (l : List ℕ). same l letters) letters-H ∙ same_refl letters) (and-join _ _ (ap in_range shape-H ∙ ok)
      (and-join _ _ (eq-eqb (get_or H 7 0) 1 version-H) (and-join _ _ (ap not (ne_eqb (header_id H) 0 (λ e. id-not (sym id-H ∙ e))))
      (and-join _ _ (eq-eqb _ _ (check-H ∙ ap check (sym front-H))) (ap (λ (l : List ℕ). same l (replicate 236 0)) rest-H ∙ same_refl (replicate 236 0))))))

  -- ---- the zones

  N : ℕ
  N = zone_cells sh

  -- at least one cell, and rows longer than a head
  sizes : (1 ≤ N) × (N < 65536) × (256 ≤ row_size sh) × (sh.rows * row_size sh ≡ 64 * N) × (row_size sh ≤ sh.rows * row_size sh)
  unfolding N
  sizes =
      let a = mul-le-mul_right sh.page g.cols-pos in
      let b = mul-le-mul_right (row_size sh) g.rows-pos in
      let c = zone-cells sh g in
      let d = g.page-min in
      (omega arith, g.runs, omega arith, c, omega arith)

  data-part : List ℕ
  data-part = free_head N ++ replicate (64 * N - 16) 0

  parity-part : List ℕ
  parity-part = free_head N ++ replicate (row_size sh - 16) 0

  length-data : length data-part ≡ 64 * N
  unfolding data-part
  length-data = length-append (free_head N) (replicate (64 * N - 16) 0) ∙ rw (length-free_head N, length-replicate {A = ℕ} (64 * N - 16) 0) (let k = sizes.0 in omega arith)

  length-parity : length parity-part ≡ row_size sh
  unfolding parity-part
  length-parity = length-append (free_head N) (replicate (row_size sh - 16) 0) ∙ rw (length-free_head N, length-replicate {A = ℕ} (row_size sh - 16) 0) (let k = sizes.2 in omega arith)

  zone-is : fresh_zone sh ≡ data-part ++ parity-part
  unfolding fresh_zone data-part parity-part N
  zone-is = refl

  -- byte j of zone z
  zones-at : (n z j : ℕ) → z < n → j < zone_size sh → get_or (fresh_zones sh n) (z * zone_size sh + j) 0 ≡ get_or (fresh_zone sh) j 0
  unfolding fresh_zones
  zones-at zero z j h k = absurd (not-suc-le-zero h)
  zones-at (suc n) zero j h k =
      ap (λ (i : ℕ). get_or (fresh_zone sh ++ fresh_zones sh n) i 0) {x = 0 * zone_size sh + j} {y = j} (omega arith)
      ∙ get_or-append (fresh_zone sh) (fresh_zones sh n) 0 j (rw (length-zone sh g) k)
  zones-at (suc n) (suc z) j h k =
      ap (λ (i : ℕ). get_or (fresh_zone sh ++ fresh_zones sh n) i 0) {x = suc z * zone_size sh + j} {y = length (fresh_zone sh) + (z * zone_size sh + j)} (let e = length-zone sh g in omega arith)
      ∙ get_or-append-add (fresh_zone sh) (fresh_zones sh n) (z * zone_size sh + j) 0 ∙ zones-at n z j (le_of_suc-le-suc h) k

  zone-bytes : Bytes (fresh_zone sh)
  zone-bytes = subst Bytes (sym zone-is) (bytes-append data-part parity-part
      (unfold data-part in (bytes-append (free_head N) (replicate (64 * N - 16) 0) (free_bytes_lem N) (bytes-zeros (64 * N - 16))))
      (unfold parity-part in (bytes-append (free_head N) (replicate (row_size sh - 16) 0) (free_bytes_lem N) (bytes-zeros (row_size sh - 16)))))

  zones-bytes : (n : ℕ) → Bytes (fresh_zones sh n)
  unfolding fresh_zones
  zones-bytes zero i = zero-lt-suc 255
  zones-bytes (suc n) i = bytes-append (fresh_zone sh) (fresh_zones sh n) zone-bytes (zones-bytes n) i

  -- a byte of a data row, and of the parity row: the head stands in the first row and in the parity row
  data-at : (j : ℕ) → j < 64 * N → get_or (fresh_zone sh) j 0 ≡ get_or (free_head N) j 0
  data-at j h =
      ap (λ (l : List ℕ). get_or l j 0) zone-is ∙ get_or-append data-part parity-part 0 j (rw length-data h)
      ∙ unfold data-part in (then-zeros (free_head N) (64 * N - 16) j)

  parity-at : (o : ℕ) → get_or (fresh_zone sh) (64 * N + o) 0 ≡ get_or (free_head N) o 0
  parity-at o =
      ap (λ (l : List ℕ). get_or l (64 * N + o) 0) zone-is
      ∙ ap (λ (k : ℕ). get_or (data-part ++ parity-part) (k + o) 0) (sym length-data)
      ∙ get_or-append-add data-part parity-part o 0
      ∙ unfold parity-part in (then-zeros (free_head N) (row_size sh - 16) o)

  -- ---- the pool

  P : List ℕ
  P = fresh_pool sh id

  pool-is : P ≡ H ++ (H ++ (replicate (16 * sh.page) 0 ++ fresh_zones sh sh.zones))
  unfolding P fresh_pool H
  pool-is = refl

  pages : (page_at P 0 ≡ H) × (page_at P 256 ≡ H)
  unfolding page_at
  pages = (
    ap (λ (l : List ℕ). take 256 l) pool-is ∙ take_at H (H ++ (replicate (16 * sh.page) 0 ++ fresh_zones sh sh.zones)) 256 length-H,
    ap (λ (l : List ℕ). take 256 (drop 256 l)) pool-is
        ∙ ap (λ (l : List ℕ). take 256 l) (drop_at H (H ++ (replicate (16 * sh.page) 0 ++ fresh_zones sh sh.zones)) 256 length-H)
        ∙ take_at H (replicate (16 * sh.page) 0 ++ fresh_zones sh sh.zones) 256 length-H,
  )

  valid : (valid_header P 0 ≡ true) × (valid_header P 256 ≡ true)
  unfolding valid_header
  valid = (ap header_ok pages.0 ∙ header_ok_lem, ap header_ok pages.1 ∙ header_ok_lem)

  shape_is : shape_in P ≡ sh
  unfolding shape_in
  shape_is = rw valid.0 (ap header_shape pages.0 ∙ shape-H)

  length-P : length P ≡ pool_size sh
  length-P =
      ap length pool-is ∙ length-append H _ ∙ ap (λ (n : ℕ). length H + n) (length-append H _ ∙ ap (λ (n : ℕ). length H + n)
      (length-append (replicate (16 * sh.page) 0) (fresh_zones sh sh.zones) ∙ ap₂ (λ (a b : ℕ). a + b) (length-replicate {A = ℕ} (16 * sh.page) 0) (length-zones sh g sh.zones)))
      ∙ (let a = length-H in let e = size-eq sh g in omega arith)

  bytes-P : Bytes P
  bytes-P = subst Bytes (sym pool-is) (bytes-append H (H ++ (replicate (16 * sh.page) 0 ++ fresh_zones sh sh.zones)) header-bytes
      (bytes-append H (replicate (16 * sh.page) 0 ++ fresh_zones sh sh.zones) header-bytes
      (bytes-append (replicate (16 * sh.page) 0) (fresh_zones sh sh.zones) (bytes-zeros (16 * sh.page)) (zones-bytes sh.zones))))

  -- behind the headers
  behind : (i : ℕ) → get_or P (512 + i) 0 ≡ get_or (replicate (16 * sh.page) 0 ++ fresh_zones sh sh.zones) i 0
  behind i =
      ap (λ (l : List ℕ). get_or l (512 + i) 0) pool-is
      ∙ ap (λ (k : ℕ). get_or (H ++ (H ++ (replicate (16 * sh.page) 0 ++ fresh_zones sh sh.zones))) k 0) {x = 512 + i} {y = length H + (length H + i)} (let a = length-H in omega arith)
      ∙ get_or-append-add H (H ++ (replicate (16 * sh.page) 0 ++ fresh_zones sh sh.zones)) (length H + i) 0
      ∙ get_or-append-add H (replicate (16 * sh.page) 0 ++ fresh_zones sh sh.zones) i 0

  logs-zero : (i : ℕ) → i < 16 * sh.page → ◌≡◌ {A = ℕ} (get_or P (512 + i) 0) 0
  logs-zero i h =
      behind i ∙ get_or-append (replicate (16 * sh.page) 0) (fresh_zones sh sh.zones) 0 i (rw (length-replicate {A = ℕ} (16 * sh.page) 0) h) ∙ zeros-at (16 * sh.page) i

  seal-zero : (a b : ℕ) → a ≡ 512 + b → b + 8 ≤ 16 * sh.page → word P a ≡ 0
  unfolding word field
  seal-zero a b e h = number-zero 8 (λ i. get_or P (a + i) 0) (λ i l. ap (λ (k : ℕ). get_or P k 0) {x = a + i} {y = 512 + (b + i)} (omega arith) ∙ logs-zero (b + i) (omega arith))

  pool-at : (z j : ℕ) → z < sh.zones → j < zone_size sh → get_or P (zone_at sh z + j) 0 ≡ get_or (fresh_zone sh) j 0
  unfolding zone_at
  pool-at z j h k =
      ap (λ (i : ℕ). get_or P i 0) {x = zones_at sh + z * zone_size sh + j} {y = 512 + (16 * sh.page + (z * zone_size sh + j))} (omega arith)
      ∙ behind (16 * sh.page + (z * zone_size sh + j))
      ∙ ap (λ (n : ℕ). get_or (replicate (16 * sh.page) 0 ++ fresh_zones sh sh.zones) (n + (z * zone_size sh + j)) 0) (sym (length-replicate {A = ℕ} (16 * sh.page) 0))
      ∙ get_or-append-add (replicate (16 * sh.page) 0) (fresh_zones sh sh.zones) (z * zone_size sh + j) 0
      ∙ zones-at sh.zones z j h k

  fits : Fits sh P
  fits = good-fits sh P g length-P bytes-P

  zone-data : (z : ℕ) → z < sh.zones → zone_data sh P z ≡ data-part
  unfolding data-part N
  zone-data z h =
      ext_get_or 0 (zone_data sh P z) data-part (zone-length sh P z fits h ∙ sym length-data)
      (λ i m. let j : i < 64 * N = rw (zone-length sh P z fits h) at m in
      at_byte i j ∙ pool-at z i h (let k = sizes.3 in omega arith) ∙ data-at i j ∙ sym (then-zeros (free_head N) (64 * N - 16) i))
    where
      at_byte : (i : ℕ) → i < 64 * zone_cells sh → get_or (zone_data sh P z) i 0 ≡ get_or P (zone_at sh z + i) 0
      at_byte i j = unfold zone_data in (get_or-take (64 * zone_cells sh) (drop (zone_at sh z) P) i 0 j ∙ get_or-drop (zone_at sh z) P i 0)

  zone-walk : (z : ℕ) → z < sh.zones → walk_in sh P z ≡ record { runs = free N ∷ []; whole = true }
  unfolding walk_in data-part
  zone-walk z h =
      laid-zone (free N ∷ []) (zone_data sh P z) (subst (λ (l : List ℕ). Laid false (free N ∷ []) l) (ap (λ (l : List ℕ). free_head N ++ l) (drop-zeros 16 (64 * N)) ∙ sym (zone-data z h))
      (fresh-laid N sizes.0 sizes.1))

  walks : (n z : ℕ) → z + n ≤ sh.zones → (good_from sh P z n ≡ true) × (book_from sh P z n ≡ [])
  unfolding good_from book_from all_good book
  walks zero z h = (refl, refl)
  walks (suc n) z h =
      let i = walks n (suc z) (omega arith) in
      let w = zone-walk z (omega arith) in
      (rw w i.0, rw w i.1)

  -- ---- parity

  head-only : (n o : ℕ) → o < row_size sh → n < sh.rows → xor_to (suc n) (λ r. get_or (fresh_zone sh) (r * row_size sh + o) 0) ≡ get_or (free_head N) o 0
  unfolding xor_to
  head-only zero o h k =
      xor_zero_l (get_or (fresh_zone sh) (0 * row_size sh + o) 0)
      ∙ ap (λ (j : ℕ). get_or (fresh_zone sh) j 0) {x = 0 * row_size sh + o} {y = o} (omega arith) ∙ data-at o (let a = sizes.3 in let b = sizes.4 in omega arith)
  head-only (suc n) o h k =
      ap₂ bit_xor (head-only n o h (omega arith)) (data-at (suc n * row_size sh + o) (let m = mul-le-mul_right (row_size sh) k in let a = sizes.3 in omega arith)
      ∙ past_end (free_head N) (suc n * row_size sh + o) (rw (length-free_head N) (let b = sizes.2 in omega arith)))
      ∙ xor_zero_r (get_or (free_head N) o 0)

  column : (z o : ℕ) → z < sh.zones → o < row_size sh → xor_to (suc sh.rows) (λ r. get_or (fresh_zone sh) (r * row_size sh + o) 0) ≡ 0
  unfolding xor_to
  column z o hz ho =
      ap₂ bit_xor (ap (λ (n : ℕ). xor_to n (λ r. get_or (fresh_zone sh) (r * row_size sh + o) 0)) {x = sh.rows} {y = suc (sh.rows - 1)} (let k = g.rows-pos in omega arith)
      ∙ head-only (sh.rows - 1) o ho (let k = g.rows-pos in omega arith))
      (ap (λ (j : ℕ). get_or (fresh_zone sh) (j + o) 0) sizes.3 ∙ parity-at o)
      ∙ xor_self (get_or (free_head N) o 0)

  parity : Parity sh P
  parity z o hz ho =
      xor_to-cong (suc sh.rows) (λ r. get_or P (byte_at sh z r o) 0) (λ r. get_or (fresh_zone sh) (r * row_size sh + o) 0)
      (λ r h. ap (λ (i : ℕ). get_or P i 0) (place r) ∙ pool-at z (r * row_size sh + o) hz (let m = mul-le-mul_right (row_size sh) h in omega arith))
      ∙ column z o hz ho
    where
      place : (r : ℕ) → byte_at sh z r o ≡ zone_at sh z + (r * row_size sh + o)
      place r = unfold byte_at zone_at in (omega arith)

  -- A FRESH POOL IS SOUND, AND ITS BOOK EMPTY
  pub fresh-sound : Sound (fresh_pool sh id) × (book_of (fresh_pool sh id) ≡ [])
  unfolding P unsealed book_of pool_book
  fresh-sound =
      let w = walks sh.zones 0 (omega arith) in
      let a : word P (log_a sh) ≡ 0 = seal-zero (log_a sh) 0 (omega arith) (omega arith) in
      let b : word P (log_b sh) ≡ 0 = seal-zero (log_b sh) (8 * 256) (omega arith) (omega arith) in (
        record {
          bytes = bytes-P;
          header = valid.0;
          copy = valid.1;
          equal = pages.0 ∙ sym pages.1;
          length-is = length-P ∙ ap pool_size (sym shape_is);
          seals = rw (shape_is, eq-eqb (word P (log_a sh)) 0 a, eq-eqb (word P (log_b sh)) 0 b);
          zones = rw shape_is w.0;
          parity = subst (λ (x : Shape). Parity x P) (sym shape_is) parity;
        },
        rw shape_is w.1,
      )

-- FORMAT THAT IS NOT REFUSED
pub format-sound : (p : List ℕ) (R C Z id : ℕ) → id < 2 ^ 64 → is_refused (formatted p R C Z id).answer ≡ false
    → Sound (formatted p R C Z id).pool × (book_of (formatted p R C Z id).pool ≡ [])
unfolding formatted format_tests
format-sound p R C Z id l f = go (first ts) refl f
  where
    sh : Shape
    sh = record { page = 256; rows = R; cols = C; zones = Z }

    ts : List Test
    ts = when (not (in_range sh) || eqb id 0) 1 ∷ when (ltb (length p) 512 || not (eqb (length p) (pool_size sh))) 2 ∷ []

    go : (r : Option ℕ) → first ts ≡ r → is_refused (conclude_pool p r (fresh_pool sh id)).answer ≡ false
        → Sound (conclude_pool p r (fresh_pool sh id)).pool × (book_of (conclude_pool p r (fresh_pool sh id)).pool ≡ [])
    go (some n) e f = absurd (unfold conclude_pool is_refused in (let z : ◌≡◌ {A = ℕ} 0 1 = cc in omega arith))
    go none e f =
        let o = or-false (not (in_range sh)) (eqb id 0) (first-passed ts e).0 in
        unfold conclude_pool in (fresh-sound sh id refl (not-not (in_range sh) o.0) (eqb-false id 0 o.1) l)

-- So the claims' premise can be met: the fresh bench pool is sound.
pub bench-sound : Sound bench_pool
unfolding in_range within
bench-sound = (fresh-sound bench 1 refl refl (λ e. omega arith) (lit< tt)).0
