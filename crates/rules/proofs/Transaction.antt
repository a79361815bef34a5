-- A call on a transaction: a refusal leaves all as given (requirement 1), and any list of calls keeps what holds of the transaction.
use Prim.Native.Nat.{ℕ, zero, suc, ◌+◌, ◌-◌, ◌*◌, ◌%◌, ◌^◌, ◌≤◌, ◌<◌}
use mathlib.Core.Path.{◌≡◌, refl, sym, ap, ap₂, ◌∙◌, subst}
use mathlib.Core.Bool.{true, false}
use mathlib.Core.Option.{Option, none, some}
use mathlib.Core.List.{List, [], ◌∷◌, ◌++◌}
use native.Mathlib.Omega.{arith}
use lib.ListN.{length, length-append}
use lib.Seq.{sets, length-sets}
use borrow.Author.Tests.{le-leb, lt-ltb, eq-eqb, ne_eqb, ltb-false}
use Rattle.rules.specs.Words.{Bytes, digits, put, word}
use Rattle.rules.specs.Shape.{Shape, entry_limit, pool_size, row, staging_size, zone_at, zones_at}
use Rattle.rules.specs.Test.{first}
use Rattle.rules.specs.Header.{id_in, open_tests, shape_in}
use Rattle.rules.specs.Book.{Listed}
use Rattle.rules.specs.Staging.{Fresh, Store, Tidy, entries_at, entry_bytes, good_target, good_targets, lay, live, none_at}
use Rattle.rules.specs.Answer.{After, Given, conclude, is_refused, refused}
use Rattle.rules.specs.Plan.{Call, Plan, allocate, plan, release, write}
use Rattle.rules.specs.Calls.{AllTyped, Typed, call, call_tests, calls, entries_in, live_tests, record_tests, staged}
use Rattle.rules.specs.NewBook.{new_book, new_books, on_address, on_taken}
use Rattle.rules.proofs.Test.{Passed, first-passed, passed-left, passed-right}
use Rattle.rules.proofs.Words.{bytes-append, digits-byte, length_digits, length-put, sets-before, word-cong, word-put, word-put-other}
use Rattle.rules.proofs.Sets.{sets-append}
use Rattle.rules.proofs.Shape.{Good, row-in-zone, zone-low}
use Rattle.rules.proofs.Zones.{Fits, InZone, Inside, zone-in}
use Rattle.rules.proofs.Held.{Held}
use Rattle.rules.proofs.Calls.{plan-kept}

-- ---- refusals

pub conclude-refused : (g : Given) (r : Option ℕ) (a : After) → is_refused a.answer ≡ false → is_refused (conclude g r a).answer ≡ true → (conclude g r a).left ≡ g
unfolding conclude is_refused
conclude-refused g none a f e = absurd (let z : ◌≡◌ {A = ℕ} 0 1 = cc in omega arith)
conclude-refused g (some n) a f e = refl

plan-fine : (s : Shape) (v : List ℕ) (es : List Store) (k : Call) → is_refused (plan s v es k).answer ≡ false
unfolding plan is_refused
plan-fine s v es (allocate t b) = refl
plan-fine s v es (write a o xs) = refl
plan-fine s v es (release a) = refl

-- A REFUSED CALL LEAVES POOL, STAGING AND RECORD AS GIVEN
pub call-refused : (g : Given) (k : Call) → is_refused (call g k).answer ≡ true → (call g k).left ≡ g
unfolding call
call-refused g k e = conclude-refused g _ _ (plan-fine (shape_in g.pool) (lay g.pool (entries_in g)) (entries_in g) k) e

refused-book : (k : Call) (n : ℕ) (bk : List Listed) → new_book k (refused n) bk ≡ bk
unfolding new_book on_address on_taken
refused-book (allocate t b) n bk = refl
refused-book (write a o xs) n bk = refl
refused-book (release a) n bk = refl

-- ---- entries in memory

abbrev pub Small : List Store → Type 0
Small [] = Unit {0}
Small (e ∷ es) = (e.at < 2 ^ 64) × (e.val < 2 ^ 64) × Small es

pub length-entry_bytes : (es : List Store) → length (entry_bytes es) ≡ 16 * length es
length-entry_bytes [] = refl
length-entry_bytes (e ∷ es) =
    length-append (digits 8 e.at ++ digits 8 e.val) (entry_bytes es)
    ∙ rw (length-append (digits 8 e.at) (digits 8 e.val), length_digits 8 e.at, length_digits 8 e.val, length-entry_bytes es) (omega arith)

pub entry-bytes : (es : List Store) → Bytes (entry_bytes es)
entry-bytes [] i = omega arith
entry-bytes (e ∷ es) i =
    bytes-append (digits 8 e.at ++ digits 8 e.val) (entry_bytes es) (bytes-append (digits 8 e.at) (digits 8 e.val) (digits-byte 8 e.at) (digits-byte 8 e.val)) (entry-bytes es) i

pub entries-count : (p : List ℕ) (a n : ℕ) → length (entries_at p a n) ≡ n
entries-count p a zero = refl
entries-count p a (suc n) = ap suc (entries-count p (a + 16) n)

-- entries stored are read back
pub entries-stored : (es : List Store) (st : List ℕ) (a : ℕ) → a % 8 ≡ 0 → a + 16 * length es ≤ length st → Small es
    → entries_at (sets st a (entry_bytes es)) a (length es) ≡ es
entries-stored [] st a p h s = refl
entries-stored (e ∷ es) st a p h s =
    let st₁ : List ℕ = put st a e.at in
    let st₂ : List ℕ = put st₁ (a + 8) e.val in
    let q : sets st a (entry_bytes (e ∷ es)) ≡ sets st₂ (a + 16) (entry_bytes es) = split in
    let l₁ : length st₁ ≡ length st = length-put st a e.at in
    let l₂ : length st₂ ≡ length st = length-put st₁ (a + 8) e.val ∙ l₁ in
    let w₁ : word (sets st₂ (a + 16) (entry_bytes es)) a ≡ e.at =
    word-cong (sets st₂ (a + 16) (entry_bytes es)) st₂ a (λ i k. sets-before st₂ (a + 16) (entry_bytes es) (a + i) (omega arith))
    ∙ word-put-other st₁ (a + 8) e.val a (omega arith) p (λ x. omega arith) ∙ word-put st a e.at (omega arith) s.0 in
    let w₂ : word (sets st₂ (a + 16) (entry_bytes es)) (a + 8) ≡ e.val =
    word-cong (sets st₂ (a + 16) (entry_bytes es)) st₂ (a + 8) (λ i k. sets-before st₂ (a + 16) (entry_bytes es) (a + 8 + i) (omega arith))
    ∙ word-put st₁ (a + 8) e.val (omega arith) s.1 in
    let r : entries_at (sets st₂ (a + 16) (entry_bytes es)) (a + 16) (length es) ≡ es = entries-stored es st₂ (a + 16) (omega arith) (omega arith) s.2 in
    ap (λ (m : List ℕ). entries_at m a (suc (length es))) q ∙ (λ i. record { at = w₁ i; val = w₂ i } ∷ r i)
  where
    split : sets st a (entry_bytes (e ∷ es)) ≡ sets (put (put st a e.at) (a + 8) e.val) (a + 16) (entry_bytes es)
    split = unfold put in (
        sets-append st a (digits 8 e.at ++ digits 8 e.val) (entry_bytes es)
        ∙ ap₂ (λ (m : List ℕ) (n : ℕ). sets m (a + n) (entry_bytes es))
        (sets-append st a (digits 8 e.at) (digits 8 e.val) ∙ ap (λ (n : ℕ). sets (sets st a (digits 8 e.at)) (a + n) (digits 8 e.val)) (length_digits 8 e.at))
        (length-append (digits 8 e.at) (digits 8 e.val) ∙ rw (length_digits 8 e.at, length_digits 8 e.val))
        )

-- ---- targets

module _ (s : Shape) (pool : List ℕ) (g : Good s) (fp : Fits s pool) (len : length pool ≡ pool_size s) where
  pub inside-small : (es : List Store) → Tidy es → Inside s es → Small es
  inside-small [] t i = tt
  inside-small (e ∷ es) t i =
      let l = zone-in s pool i.0.zone fp i.0.lt in
      (let a = i.0.upto in let b = g.limit in omega arith, t.1, inside-small es t.3 i.1)

  none-fresh : (a : ℕ) (es : List Store) → Fresh a es → none_at a es ≡ true
  none-fresh a [] f = refl
  none-fresh a (e ∷ es) f = rw (ne_eqb a e.at (λ x. f.0 (sym x))) (none-fresh a es f.1)

  target-good : (t : ℕ) → t % 8 ≡ 0 → InZone s t → good_target s t ≡ true
  target-good t e i =
      let z : ℕ = i.zone in
      let a : t ≡ zone_at s z + (t - zone_at s z) = (let k = i.from in omega arith) in
      let r : row s t < s.rows = rw a (row-in-zone s g z (t - zone_at s z) (let k = i.from in let m = i.upto in omega arith)) in
      let l = zone-in s pool z fp i.lt in
      rw (
        eq-eqb (t % 8) 0 e,
        le-leb (zones_at s) t (let k = zone-low s g z in let m = i.from in omega arith),
        lt-ltb t (pool_size s) (let m = i.upto in omega arith),
        lt-ltb (row s t) s.rows r,
      )

  pub targets-good : (es : List Store) → Tidy es → Inside s es → good_targets s es ≡ true
  targets-good [] t i = refl
  targets-good (e ∷ es) t i = rw (target-good e.at t.0 i.0, none-fresh e.at es t.2, targets-good es t.3 i.1)

-- ---- calls

-- what holds of an open transaction whose staged book is bk
pub record Kept (g : Given) (bk : List Listed) : Type 0 where
  pub id-is : g.txn.id ≡ id_in g.pool
  pub live-is : g.txn.phase ≡ live
  pub few : g.txn.count ≤ entry_limit
  pub held : Held (shape_in g.pool) g.pool (entries_in g) bk

module _ (g : Given) (bk : List Listed) (good : Good (shape_in g.pool)) (fp : Fits (shape_in g.pool) g.pool) (len : length g.pool ≡ pool_size (shape_in g.pool))
    (h : Kept g bk) where
  staged-kept : (es : List Store) (bk' : List Listed) → length es ≤ entry_limit → staging_size ≤ length g.staging → Held (shape_in g.pool) g.pool es bk' → Kept (staged g es) bk'
  unfolding staged entries_in
  staged-kept es bk' f l k =
      let e : entries_at (sets g.staging 0 (entry_bytes es)) 0 (length es) ≡ es =
      entries-stored es g.staging 0 refl (omega arith) (inside-small (shape_in g.pool) g.pool good fp len es k.tidy k.inside) in
      record { id-is = h.id-is; live-is = refl; few = f; held = rw e k }

  -- ONE CALL, TAKEN OR REFUSED
  pub call_kept : (k : Call) → Typed k → Kept (call g k).left (new_book k (call g k).answer bk)
  unfolding call
  call_kept k f = go (first (call_tests g p)) refl
    where
      p : Plan
      p = plan (shape_in g.pool) (lay g.pool (entries_in g)) (entries_in g) k

      after : After
      after = record { answer = p.answer; left = staged g p.entries }

      taken-kept : Passed (call_tests g p) → Kept (staged g p.entries) (new_book k p.answer bk)
      taken-kept q = unfold call_tests record_tests in (
          let a = passed-right (open_tests g.pool) _ (passed-left (record_tests g) _ q) in
          let b = passed-right (live_tests g) _ (passed-right (record_tests g) _ q) in
          let c = passed-right p.tests _ b in
          staged-kept p.entries (new_book k p.answer bk) (ltb-false entry_limit (length p.entries) c.0) (ltb-false (length g.staging) staging_size a.0)
          (plan-kept (shape_in g.pool) g.pool (entries_in g) bk fp h.held k f (passed-left p.tests _ b))
          )

      go : (r : Option ℕ) → first (call_tests g p) ≡ r → Kept (conclude g r after).left (new_book k (conclude g r after).answer bk)
      go none e = unfold conclude in (taken-kept (first-passed (call_tests g p) e))
      go (some n) e = unfold conclude in (rw (refused-book k n bk) h)

-- the pool, and how long the staging memory is, stay
call-pool : (g : Given) (k : Call) → ((call g k).left.pool ≡ g.pool) × (length (call g k).left.staging ≡ length g.staging)
unfolding call
call-pool g k = go (first (call_tests g p))
  where
    p : Plan
    p = plan (shape_in g.pool) (lay g.pool (entries_in g)) (entries_in g) k

    go : (r : Option ℕ)
        → ((conclude g r (record { answer = p.answer; left = staged g p.entries })).left.pool ≡ g.pool)
        × (length (conclude g r (record { answer = p.answer; left = staged g p.entries })).left.staging ≡ length g.staging)
    go none = unfold conclude staged in (refl, length-sets g.staging 0 (entry_bytes p.entries))
    go (some n) = unfold conclude in (refl, refl)

pub calls-pool : (ks : List Call) (g : Given) → ((calls g ks).left.pool ≡ g.pool) × (length (calls g ks).left.staging ≡ length g.staging)
unfolding calls
calls-pool [] g = (refl, refl)
calls-pool (k ∷ ks) g =
    let a = calls-pool ks (call g k).left in
    let b = call-pool g k in
    (a.0 ∙ b.0, a.1 ∙ b.1)

-- with staging memory under 2,032 bytes every call is refused
short-call : (g : Given) (k : Call) (bk : List Listed) → length g.staging < staging_size → (new_book k (call g k).answer bk ≡ bk) × ((call g k).left ≡ g)
unfolding call
short-call g k bk l = go (first (call_tests g p)) refl
  where
    p : Plan
    p = plan (shape_in g.pool) (lay g.pool (entries_in g)) (entries_in g) k

    go : (r : Option ℕ) → first (call_tests g p) ≡ r
        → (new_book k (conclude g r (record { answer = p.answer; left = staged g p.entries })).answer bk ≡ bk)
        × ((conclude g r (record { answer = p.answer; left = staged g p.entries })).left ≡ g)
    go none e = absurd (unfold call_tests record_tests in (
        let a = passed-right (open_tests g.pool) _ (passed-left (record_tests g) _ (first-passed (call_tests g p) e)) in
        omega (arith, ltb-false (length g.staging) staging_size a.0)
        ))
    go (some n) e = unfold conclude in (refused-book k n bk, refl)

pub calls-short : (ks : List Call) (g : Given) (bk : List Listed) → length g.staging < staging_size → new_books ks (calls g ks).answers bk ≡ bk
unfolding calls new_books
calls-short [] g bk l = refl
calls-short (k ∷ ks) g bk l =
    let i = short-call g k bk l in
    rw (i.0, i.1) (calls-short ks g bk l)

-- ANY LIST OF CALLS: the staged book is the one that the calls' arguments and answers give
pub calls-kept : (ks : List Call) (g : Given) (bk : List Listed) → Good (shape_in g.pool) → Fits (shape_in g.pool) g.pool → length g.pool ≡ pool_size (shape_in g.pool)
    → AllTyped ks → Kept g bk → Kept (calls g ks).left (new_books ks (calls g ks).answers bk)
unfolding calls new_books
calls-kept [] g bk good fp len f h = h
calls-kept (k ∷ ks) g bk good fp len f h =
    let e : g.pool ≡ (call g k).left.pool = sym (call-pool g k).0 in
    calls-kept ks (call g k).left (new_book k (call g k).answer bk)
    (subst (λ (p : List ℕ). Good (shape_in p)) e good) (subst (λ (p : List ℕ). Fits (shape_in p) p) e fp) (subst (λ (p : List ℕ). length p ≡ pool_size (shape_in p)) e len)
    f.1 (call_kept g bk good fp len h k f.0)
