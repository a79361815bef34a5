-- Sound pools: what is needed to be sound again, reading back (requirement 2), and repair (requirement 3's last sentence).
use Prim.Native.Nat.{ℕ, zero, suc, ◌+◌, ◌*◌, ◌≤◌, ◌<◌}
use mathlib.Core.Path.{◌≡◌, refl, sym, ap, ◌∙◌, subst}
use mathlib.Core.Bool.{true, false}
use mathlib.Core.Option.{Option, none, some}
use mathlib.Core.List.{List, [], ◌∷◌}
use native.Mathlib.Omega.{arith}
use lib.Count.{ones}
use lib.Dec.{ltb}
use lib.ListN.{length, drop, get_or}
use lib.Seq.{ext_get_or, get_or-take, get_or-drop}
use borrow.Author.Tests.{eq-eqb, ltb-false, lt-leb}
use Rattle.rules.specs.Words.{Bytes, word}
use Rattle.rules.specs.Shape.{Shape, log_a, log_b, pool_size, row, zone_at, zone_cells, zones_at}
use Rattle.rules.specs.Test.{first}
use Rattle.rules.specs.Header.{header_ok, id_in, open_tests, shape_in, valid_header}
use Rattle.rules.specs.Book.{Listed, find}
use Rattle.rules.specs.Zones.{body_of, good_from, head_at, pool_book, run_there, zone_data}
use Rattle.rules.specs.Seals.{read_tests, unsealed}
use Rattle.rules.specs.Staging.{fresh}
use Rattle.rules.specs.Answer.{taken}
use Rattle.rules.specs.Calls.{begun, conclude_start, entries_in, transaction_start}
use Rattle.rules.specs.Parity.{Parity}
use Rattle.rules.specs.Sound.{Sound, book_of}
use Rattle.rules.specs.Look.{conclude_look, look, look_tests, part, seen}
use Rattle.rules.specs.Repair.{Loss, altered, any_two, conclude_repair, differences, repair, repair_tests, repaired}
use Rattle.rules.proofs.Bool.{or-false}
use Rattle.rules.proofs.Test.{Passed, first-passed, passed_first, passed-join, passed-right}
use Rattle.rules.proofs.Shape.{Good, row-in-zone, size-eq, zone-low}
use Rattle.rules.proofs.Repair.{restores}
use Rattle.rules.proofs.Zones.{Fits, good-fits, zone-in, zone-length}
use Rattle.rules.proofs.Held.{Held}
use Rattle.rules.proofs.Calls.{Named, named-object, object-named}
use Rattle.rules.proofs.StagedBook.{held_start, same-book, same-zones}
use Rattle.rules.proofs.Look.{body-there, book-object, object-book}
use Rattle.rules.proofs.Header.{SameHeaders, front-headers, front_reads, shape_same, sound-good, sound-opens}
use Rattle.rules.proofs.Transaction.{Kept}

-- ---- a fresh transaction over a sound pool

pub sound-fits : (p : List ℕ) → Sound p → Fits (shape_in p) p
sound-fits p s = good-fits (shape_in p) p (sound-good p s) s.length-is s.bytes

-- 2, 3, 4, 2 and 21 do not apply
pub sound-reads : (p : List ℕ) → Sound p → Passed (read_tests p)
unfolding read_tests
sound-reads p s = passed-join (open_tests p) _ (sound-opens p s) (rw s.seals, tt)

-- a transaction is begun on it
pub begun-is : (p : List ℕ) → Sound p → transaction_start p ≡ record { answer = taken; txn = fresh (id_in p) }
unfolding transaction_start conclude_start
begun-is p s = rw (passed_first (read_tests p) (sound-reads p s))

pub begun_kept : (p staging : List ℕ) → Sound p → Kept (begun p staging) (book_of p)
unfolding begun entries_in book_of
begun_kept p staging s =
    rw (begun-is p s)
    (record { id-is = refl; live-is = refl; few = omega arith; held = held_start (shape_in p) p (sound-fits p s) s.zones })

-- ---- sound again

-- the data bytes of zones, byte by byte
pub zone-same : (s : Shape) (v w : List ℕ) → Good s → Fits s v → Fits s w → length v ≡ pool_size s
    → ((i : ℕ) → zones_at s ≤ i → i < pool_size s → row s i < s.rows → get_or w i 0 ≡ get_or v i 0) → (z : ℕ) → z < s.zones → zone_data s w z ≡ zone_data s v z
zone-same s v w g fv fw len h z lt =
    ext_get_or 0 (zone_data s w z) (zone_data s v z) (zone-length s w z fw lt ∙ sym (zone-length s v z fv lt))
    (λ i m. let j : i < 64 * zone_cells s = rw (zone-length s w z fw lt) at m in at_byte w i j ∙ h (zone_at s z + i) (let k = zone-low s g z in omega arith)
    (let k = zone-in s v z fv lt in omega arith) (row-in-zone s g z i j) ∙ sym (at_byte v i j))
  where
    at_byte : (u : List ℕ) (i : ℕ) → i < 64 * zone_cells s → get_or (zone_data s u z) i 0 ≡ get_or u (zone_at s z + i) 0
    at_byte u i j = unfold zone_data in (get_or-take (64 * zone_cells s) (drop (zone_at s z) u) i 0 j ∙ get_or-drop (zone_at s z) u i 0)

-- p with its headers is sound; q has its header pages and length, zero seals, right parity, and the data rows of v, which are good
pub sound-again : (p q v : List ℕ) (bk : List Listed) → Sound p → Bytes q → SameHeaders q p → word q (log_a (shape_in p)) ≡ 0 → word q (log_b (shape_in p)) ≡ 0 → Parity (shape_in p) q
    → Bytes v → length v ≡ length p
    → ((i : ℕ) → zones_at (shape_in p) ≤ i → i < pool_size (shape_in p) → row (shape_in p) i < (shape_in p).rows → get_or q i 0 ≡ get_or v i 0)
    → good_from (shape_in p) v 0 (shape_in p).zones ≡ true → pool_book (shape_in p) v ≡ bk → Sound q × (book_of q ≡ bk)
unfolding book_of unsealed
sound-again p q v bk s hb h a b par hv lv rows good books =
    let e : shape_in q ≡ shape_in p = shape_same q p h in
    let lq : length q ≡ pool_size (shape_in p) = h.length-is ∙ s.length-is in
    let g = sound-good p s in
    let fq = good-fits (shape_in p) q g lq hb in
    let fv = good-fits (shape_in p) v g (lv ∙ s.length-is) hv in
    let z = zone-same (shape_in p) v q g fv fq (lv ∙ s.length-is) rows in (
      record {
        bytes = hb;
        header = unfold valid_header in (ap header_ok h.header ∙ s.header);
        copy = unfold valid_header in (ap header_ok h.copy ∙ s.copy);
        equal = h.header ∙ s.equal ∙ sym h.copy;
        length-is = lq ∙ ap pool_size (sym e);
        seals = rw (e, eq-eqb (word q (log_a (shape_in p))) 0 a, eq-eqb (word q (log_b (shape_in p))) 0 b);
        zones = rw e ((same-zones (shape_in p) v q 0 (shape_in p).zones (λ y k. z y (omega arith))).1 ∙ good);
        parity = subst (λ (x : Shape). Parity x q) (sym e) par;
      },
      ap (λ (x : Shape). pool_book x q) e ∙ same-book (shape_in p) v q z ∙ books,
    )

-- ---- reading back

module _ (p : List ℕ) (s : Sound p) (a : ℕ) where
  held : Held (shape_in p) p [] (book_of p)
  unfolding book_of
  held = held_start (shape_in p) p (sound-fits p s) s.zones

  look-passed : Named (shape_in p) p a → first (look_tests p a) ≡ none
  unfolding look_tests
  look-passed n = passed_first _ (passed-join (read_tests p) _ (sound-reads p s) (named-object (shape_in p) p a n))

  -- LOOK GIVES BACK EXACTLY THE BOOK'S BODY of an address that is in the book
  pub look-listed : (e : Listed) → find a (book_of p) ≡ some e
      → (look p a ≡ part (head_at (shape_in p) a + 16) (length e.body)) × (seen p (look p a) ≡ e.body)
  unfolding look conclude_look seen body_of
  look-listed e q =
      let i = book-object (shape_in p) p [] (book_of p) (sound-fits p s) held a e q in
      let n = i.0 in
      let b : body_of (run_there (shape_in p) p a) ≡ e.body = ap body_of n.found ∙ i.2 in
      let l : look p a ≡ part (head_at (shape_in p) a + 16) (length e.body) = rw (look-passed n, b) in
      (l, ap (seen p) l ∙ rw (← i.2) (body-there (shape_in p) p [] (book_of p) (sound-fits p s) held a n))

  -- and refuses any other address
  pub look-unlisted : (at n : ℕ) → look p a ≡ part at n → (e : Listed) × (find a (book_of p) ≡ some e)
  unfolding look look_tests
  look-unlisted at n q = go (first (look_tests p a)) refl q
    where
      go : (r : Option ℕ) → first (look_tests p a) ≡ r → conclude_look r (head_at (shape_in p) a + 16) (length (body_of (run_there (shape_in p) p a))) ≡ part at n → (e : Listed) × (find a (book_of p) ≡ some e)
      go none e q =
          let x = object-named (shape_in p) p a (passed-right (read_tests p) _ (first-passed (look_tests p a) e)) in
          (_, object-book (shape_in p) p [] (book_of p) (sound-fits p s) held a x)
      go (some m) e q = absurd (unfold conclude_look in (let z : ◌≡◌ {A = ℕ} 0 1 = cc in omega arith))

-- ---- repair

ones-zero : ones 0 ≤ 1
unfolding ones
ones-zero = omega arith

pub single-bits : (ms : List ℕ) → any_two ms ≡ false → (k : ℕ) → ones (get_or ms k 0) ≤ 1
unfolding any_two
single-bits [] e k = ones-zero
single-bits (m ∷ ms) e zero = ltb-false 1 (ones m) (or-false (ltb 1 (ones m)) (any_two ms) e).0
single-bits (m ∷ ms) e (suc k) = single-bits ms (or-false (ltb 1 (ones m)) (any_two ms) e).1 k

module _ (p q ms : List ℕ) (s : Sound p) (l : Loss p q ms) where
  -- bytes before the zones are never lost
  front : (i : ℕ) → i < zones_at (shape_in p) → get_or q i 0 ≡ get_or p i 0
  front i h = l.others i (let e = size-eq (shape_in p) (sound-good p s) in let k = s.length-is in omega arith) (rw (lt-leb (zones_at (shape_in p)) i h))

  -- REPAIR RESTORES EVERY BYTE, and answers how many it altered
  pub repair-restores : repair q ms ≡ record { answer = altered (differences q p); pool = p }
  unfolding repair repair_tests conclude_repair
  repair-restores =
      let g = sound-good p s in
      let e : shape_in q ≡ shape_in p = shape_same q p (front-headers p q g s.length-is l.length-is front) in
      let t : first (repair_tests q ms) ≡ none =
      passed_first _ (passed-join (read_tests q) _ (rw (front_reads p q g s.length-is l.length-is front) (sound-reads p s))
      (rw (e, eq-eqb (length ms) ((shape_in p).zones * (shape_in p).cols) l.masks, l.rows), (l.single, tt))) in
      let r : repaired (shape_in q) ms q ≡ p =
      ap (λ (x : Shape). repaired x ms q) e
      ∙ restores (shape_in p) g ms p q s.length-is (l.length-is ∙ s.length-is) s.parity (single-bits ms l.single)
      (λ i h. l.others i (rw s.length-is h)) in
      rw (t, r)
