-- A fresh pool as stores over zeros: both headers, then in each zone the head of one free run and the same in the parity row. Assumes nothing.
use Prim.Native.Nat.{ℕ, zero, suc, ◌+◌, ◌-◌, ◌*◌, ◌≤◌, ◌<◌}
use mathlib.Core.Path.{◌≡◌, refl, sym, ap, ◌∙◌}
use mathlib.Core.List.{List, ◌++◌, append_assoc, append-nil}
use native.Mathlib.Numerals.{add-one}
use native.Mathlib.Nat.{add-zero, zero-add, mul-le-mul_right, suc-mul, zero-mul}
use native.Mathlib.Omega.{arith}
use lib.ListN.{length, replicate, length-append, length-replicate, replicate-append-replicate, take}
use lib.Seq.{sets, length-sets, length-take-le}
use Rattle.rules.specs.Shape.{Shape, page_size, pool_size, row_size, shape, zone_at, zone_cells, zones_at, zone_size}
use Rattle.rules.specs.Words.{digits}
use Rattle.rules.specs.Check.{check}
use Rattle.rules.specs.Header.{header_bytes, header_front}
use Rattle.rules.specs.Runs.{free_head}
use Rattle.rules.proofs.Words.{length_digits}
use Rattle.rules.proofs.Numbers.{less}
use Rattle.pages.proofs.Header.{header-on-zeros}
use Rattle.rules.specs.Format.{fresh_pool, fresh_zone, fresh_zones}
use Rattle.pool.specs.Fill.{heads_from}
use Rattle.rules.proofs.Sets.{sets-front, sets-left, sets-mid, sets-right, sets-all}
use Rattle.rules.proofs.Shape.{Good, size-eq, zone-end}
use Rattle.rules.proofs.Segments.{length-free_head}
use Rattle.rules.proofs.Format.{row-head, data_head, zone-size, length-zones}

abbrev zeros : ℕ → List ℕ
zeros n = replicate n 0

zeros-add : (m n : ℕ) → zeros (m + n) ≡ zeros m ++ zeros n
zeros-add m n = sym (replicate-append-replicate m n 0)

-- a head at the front of zeros
head-zeros : (n m : ℕ) → 16 ≤ m → sets (zeros m) 0 (free_head n) ≡ free_head n ++ zeros (m - 16)
head-zeros n m h =
    let e : m ≡ 16 + (m - 16) = omega arith in
    ap (λ (k : ℕ). sets (zeros k) 0 (free_head n)) e ∙ ap (λ (l : List ℕ). sets l 0 (free_head n)) (zeros-add 16 (m - 16))
    ∙ sets-front (zeros 16) (zeros (m - 16)) (free_head n) (sym (length-free_head n))

-- ---- the headers

length-header : (sh : Shape) (id : ℕ) → length (header_bytes sh id) ≡ page_size
unfolding header_bytes header_front
length-header sh id =
    length-append (header_front sh id) (digits 4 (check (header_front sh id)) ++ zeros (page_size - 20))
    ∙ rw (length-append (digits 4 (check (header_front sh id))) (zeros (page_size - 20)), length_digits 4 (check (header_front sh id)), length_digits 8 id)

module _ (sh : Shape) (id : ℕ) where
  -- 20 bytes on a page of zeros are the header
  header-zeros : sets (zeros page_size) 0 (take 20 (header_bytes sh id)) ≡ header_bytes sh id
  header-zeros = header-on-zeros (zeros page_size) 0 sh id (omega arith) refl ∙ sets-all (zeros page_size) (header_bytes sh id) (sym (length-header sh id))

  length-start : length (take 20 (header_bytes sh id)) ≡ 20
  length-start = length-take-le 20 (header_bytes sh id) (rw (length-header sh id) (omega arith))

  -- both headers in front of any bytes
  pub headers-zeros : (t : List ℕ) → sets (sets (zeros (page_size + page_size) ++ t) 0 (take 20 (header_bytes sh id))) page_size (take 20 (header_bytes sh id)) ≡ header_bytes sh id ++ (header_bytes sh id ++ t)
  headers-zeros t =
      let h : List ℕ = take 20 (header_bytes sh id) in
      let e : sets (zeros (page_size + page_size) ++ t) 0 h ≡ header_bytes sh id ++ (zeros page_size ++ t) =
      ap (λ (x : List ℕ). sets x 0 h) (append_assoc (zeros page_size) (zeros page_size) t) ∙ sets-left (zeros page_size) (zeros page_size ++ t) 0 h (rw length-start (omega arith))
      ∙ ap (λ (x : List ℕ). x ++ (zeros page_size ++ t)) header-zeros in
      ap (λ (x : List ℕ). sets x page_size h) e
      ∙ sets-mid (header_bytes sh id) (zeros page_size) t page_size 0 h (length-header sh id) (rw length-start (omega arith))
      ∙ ap (λ (x : List ℕ). header_bytes sh id ++ (x ++ t)) header-zeros

-- ---- the zones

module _ (sh : Shape) (g : Good sh) where
  -- one zone
  zone-zeros : sets (sets (zeros (zone_size sh)) 0 (free_head (zone_cells sh))) (64 * zone_cells sh) (free_head (zone_cells sh)) ≡ fresh_zone sh
  unfolding fresh_zone
  zone-zeros =
      let N : ℕ = zone_cells sh in
      let F : List ℕ = free_head N in
      let l : 16 ≡ length F = sym (length-free_head N) in
      let e : zeros (zone_size sh) ≡ zeros (64 * N) ++ zeros (row_size sh) = ap zeros (zone-size sh g) ∙ zeros-add (64 * N) (row_size sh) in
      let d : sets (zeros (zone_size sh)) 0 F ≡ (F ++ zeros (64 * N - 16)) ++ zeros (row_size sh) =
      ap (λ (x : List ℕ). sets x 0 F) e ∙ sets-left (zeros (64 * N)) (zeros (row_size sh)) 0 F (rw (length-replicate {A = ℕ} (64 * N) 0) (let k = data_head sh g in omega arith))
      ∙ ap (λ (x : List ℕ). x ++ zeros (row_size sh)) (head-zeros N (64 * N) (data_head sh g)) in
      let n : length (F ++ zeros (64 * N - 16)) ≡ 64 * N = length-append F (zeros (64 * N - 16)) ∙ rw (length-replicate {A = ℕ} (64 * N - 16) 0) (let k = data_head sh g in omega arith) in
      ap (λ (x : List ℕ). sets x (64 * N) F) d
      ∙ ap (λ (i : ℕ). sets ((F ++ zeros (64 * N - 16)) ++ zeros (row_size sh)) i F) (sym n ∙ sym (add-zero (length (F ++ zeros (64 * N - 16)))))
      ∙ sets-right (F ++ zeros (64 * N - 16)) (zeros (row_size sh)) 0 F
      ∙ ap (λ (x : List ℕ). (F ++ zeros (64 * N - 16)) ++ x) (head-zeros N (row_size sh) (row-head sh g))

  fresh-snoc : (n : ℕ) → fresh_zones sh n ++ fresh_zone sh ≡ fresh_zones sh (suc n)
  unfolding fresh_zones
  fresh-snoc zero = sym (append-nil (fresh_zone sh))
  fresh-snoc (suc n) = append_assoc (fresh_zone sh) (fresh_zones sh n) (fresh_zone sh) ∙ ap (λ (l : List ℕ). fresh_zone sh ++ l) (fresh-snoc n)

  -- a pool of which the front and the first z zones are made
  abbrev pub begun_zones : List ℕ → ℕ → List ℕ
  begun_zones front z = front ++ (fresh_zones sh z ++ zeros ((sh.zones - z) * zone_size sh))

  -- ONE MORE ZONE
  pub next-zone : (front : List ℕ) (z : ℕ) → length front ≡ zones_at sh → z < sh.zones
      → sets (sets (begun_zones front z) (zone_at sh z) (free_head (zone_cells sh))) (zone_at sh z + 64 * zone_cells sh) (free_head (zone_cells sh)) ≡ begun_zones front (suc z)
  unfolding zone_at
  next-zone front z l h =
      let F : List ℕ = free_head (zone_cells sh) in
      let A : List ℕ = front ++ fresh_zones sh z in
      let T : List ℕ = zeros ((sh.zones - suc z) * zone_size sh) in
      let m : (sh.zones - z) * zone_size sh ≡ zone_size sh + (sh.zones - suc z) * zone_size sh =
      ap (λ (k : ℕ). k * zone_size sh) {x = sh.zones - z} {y = suc (sh.zones - suc z)} (omega arith) ∙ suc-mul (sh.zones - suc z) (zone_size sh) ∙ omega arith in
      let e : begun_zones front z ≡ A ++ (zeros (zone_size sh) ++ T) =
      sym (append_assoc front (fresh_zones sh z) (zeros ((sh.zones - z) * zone_size sh)))
      ∙ ap (λ (x : List ℕ). A ++ x) (ap zeros m ∙ zeros-add (zone_size sh) ((sh.zones - suc z) * zone_size sh)) in
      let n : length A ≡ zone_at sh z = length-append front (fresh_zones sh z) ∙ rw (l, length-zones sh g z) in
      let q : 16 ≡ length F = sym (length-free_head (zone_cells sh)) in
      rw e (
      ap (λ (x : List ℕ). sets x (zone_at sh z + 64 * zone_cells sh) F)
      (ap (λ (i : ℕ). sets (A ++ (zeros (zone_size sh) ++ T)) i F) (sym (add-zero (zone_at sh z)))
      ∙ sets-mid A (zeros (zone_size sh)) T (zone_at sh z) 0 F n (rw (length-replicate {A = ℕ} (zone_size sh) 0) (let k = zone-size sh g in let d = data_head sh g in omega arith)))
      ∙ sets-mid A (sets (zeros (zone_size sh)) 0 F) T (zone_at sh z) (64 * zone_cells sh) F n
      (rw (length-sets (zeros (zone_size sh)) 0 F, length-replicate {A = ℕ} (zone_size sh) 0) (let k = zone-size sh g in let d = row-head sh g in omega arith))
      ∙ ap (λ (x : List ℕ). A ++ (x ++ T)) zone-zeros
      ∙ append_assoc front (fresh_zones sh z) (fresh_zone sh ++ T)
      ∙ ap (λ (x : List ℕ). front ++ x) (sym (append_assoc (fresh_zones sh z) (fresh_zone sh) T) ∙ ap (λ (x : List ℕ). x ++ T) (fresh-snoc z))
      )

  -- all of them
  pub zones-begun : (front : List ℕ) → begun_zones front sh.zones ≡ front ++ fresh_zones sh sh.zones
  zones-begun front = ap (λ (x : List ℕ). front ++ x) (ap (λ (n : ℕ). fresh_zones sh sh.zones ++ zeros n) (ap (λ (k : ℕ). k * zone_size sh) {x = sh.zones - sh.zones} {y = 0} (omega arith) ∙ zero-mul (zone_size sh)) ∙ append-nil (fresh_zones sh sh.zones))

  -- the heads of the zones from z on
  heads-begun : (front : List ℕ) → length front ≡ zones_at sh → (n z : ℕ) → z + n ≡ sh.zones → heads_from sh z n (begun_zones front z) ≡ begun_zones front sh.zones
  unfolding heads_from
  heads-begun front l zero z e = ap (begun_zones front) (sym (add-zero z) ∙ e)
  heads-begun front l (suc n) z e = ap (heads_from sh (suc z) n) (next-zone front z l (omega arith)) ∙ heads-begun front l n (suc z) (omega arith)

  -- A FRESH POOL: zeros, both headers, the heads
  pub fresh-stored : (id : ℕ) (p p₁ p₂ p₃ p₄ : List ℕ) → sh.page ≡ page_size → length p ≡ pool_size sh → p₁ ≡ zeros (length p) → p₂ ≡ sets p₁ 0 (take 20 (header_bytes (shape sh.rows sh.cols sh.zones) id))
      → p₃ ≡ sets p₂ sh.page (take 20 (header_bytes (shape sh.rows sh.cols sh.zones) id)) → p₄ ≡ heads_from sh 0 sh.zones p₃ → p₄ ≡ fresh_pool sh id
  unfolding fresh_pool fresh_zones
  fresh-stored id p p₁ p₂ p₃ p₄ page l e₁ e₂ e₃ e₄ =
      let H : List ℕ = header_bytes sh id in
      let same : header_bytes (shape sh.rows sh.cols sh.zones) id ≡ H = (unfold header_bytes header_front in refl) in
      let stored : p₂ ≡ sets p₁ 0 (take 20 H) = e₂ ∙ ap (λ (x : List ℕ). sets p₁ 0 (take 20 x)) same in
      let stored-copy : p₃ ≡ sets p₂ page_size (take 20 H) = e₃ ∙ ap (λ (x : List ℕ). sets p₂ sh.page (take 20 x)) same ∙ ap (λ (k : ℕ). sets p₂ k (take 20 H)) page in
      let Z : ℕ = sh.zones * zone_size sh in
      let front : List ℕ = H ++ (H ++ zeros (16 * sh.page)) in
      let n : length p ≡ page_size + page_size + (16 * sh.page + Z) = l ∙ size-eq sh g ∙ omega arith in
      let a : p₁ ≡ zeros (page_size + page_size) ++ (zeros (16 * sh.page) ++ zeros Z) = e₁ ∙ ap zeros n ∙ zeros-add (page_size + page_size) (16 * sh.page + Z) ∙ ap (λ (x : List ℕ). zeros (page_size + page_size) ++ x) (zeros-add (16 * sh.page) Z) in
      let b : p₃ ≡ H ++ (H ++ (zeros (16 * sh.page) ++ zeros Z)) =
      stored-copy ∙ ap (λ (x : List ℕ). sets x page_size (take 20 H)) (stored ∙ ap (λ (x : List ℕ). sets x 0 (take 20 H)) a) ∙ headers-zeros sh id (zeros (16 * sh.page) ++ zeros Z) in
      let c : p₃ ≡ begun_zones front 0 =
      b ∙ ap (λ (x : List ℕ). H ++ x) (sym (append_assoc H (zeros (16 * sh.page)) (zeros Z))) ∙ sym (append_assoc H (H ++ zeros (16 * sh.page)) (zeros Z))
      ∙ ap (λ (k : ℕ). front ++ zeros (k * zone_size sh)) {x = sh.zones} {y = sh.zones - 0} (omega arith) in
      let m : length front ≡ zones_at sh =
      length-append H (H ++ zeros (16 * sh.page)) ∙ rw (length-append H (zeros (16 * sh.page)), length-header sh id, length-replicate {A = ℕ} (16 * sh.page) 0) (omega arith) in
      e₄ ∙ ap (heads_from sh 0 sh.zones) c ∙ heads-begun front m sh.zones 0 (zero-add sh.zones) ∙ zones-begun front
      ∙ append_assoc H (H ++ zeros (16 * sh.page)) (fresh_zones sh sh.zones) ∙ ap (λ (x : List ℕ). H ++ x) (append_assoc H (zeros (16 * sh.page)) (fresh_zones sh sh.zones))

-- ---- the loop over the zones

-- the heads of the zones before z are stored
pub record Filling (sh : Shape) (p₀ p : List ℕ) (z : ℕ) : Type 0 where
  pub le : z ≤ sh.zones
  pub length-is : length p ≡ pool_size sh
  pub rest : heads_from sh z (sh.zones - z) p ≡ heads_from sh 0 sh.zones p₀

pub filling_step : {sh : Shape} {p₀ p p₁ p₂ : List ℕ} {head : List ℕ} {z at cells : ℕ} → Filling sh p₀ p z → z < sh.zones → at ≡ zone_at sh z → cells ≡ zone_cells sh
    → head ≡ free_head cells → p₁ ≡ sets p at head → p₂ ≡ sets p₁ (at + 64 * cells) head → Filling sh p₀ p₂ (z + 1)
unfolding heads_from
filling_step {sh} {p₀} {p} {p₁} {p₂} {z = z} f h a c w e₁ e₂ =
    let F : List ℕ = free_head (zone_cells sh) in
    let e : p₂ ≡ sets (sets p (zone_at sh z) F) (zone_at sh z + 64 * zone_cells sh) F = e₂ ∙ rw (e₁, w, a, c) in
    record {
      le = omega arith;
      length-is = ap length e ∙ length-sets (sets p (zone_at sh z) F) (zone_at sh z + 64 * zone_cells sh) F ∙ length-sets p (zone_at sh z) F ∙ f.length-is;
      rest = rw (add-one z, e) (sym (ap (λ (k : ℕ). heads_from sh z k p) (less sh.zones z h ∙ ap (λ (k : ℕ). suc (sh.zones - k)) (add-one z))) ∙ f.rest);
    }

pub filling-end : {sh : Shape} {p₀ p : List ℕ} {z : ℕ} → Filling sh p₀ p z → sh.zones ≤ z → p ≡ heads_from sh 0 sh.zones p₀
unfolding heads_from
filling-end {sh} {p₀} {p} {z} f h = sym (ap (λ (k : ℕ). heads_from sh z k p) {x = sh.zones - z} {y = 0} (omega arith)) ∙ f.rest

-- both heads lie in the pool
pub zone-room : (sh : Shape) → Good sh → (z : ℕ) → z < sh.zones → zone_at sh z + 64 * zone_cells sh + 16 ≤ pool_size sh
unfolding zone_at
zone-room sh g z h = let e = zone-end sh g in let m = mul-le-mul_right (zone_size sh) h in let k = row-head sh g in let q = zone-size sh g in omega arith
