-- The look-up by tag: a sound pool passes its tests (`sound-looks-up`); in any pool that passes them, a damaged one too, an address that it
-- gives is that of an object with the tag (`found-there`), so that look can only meet 25 there (`look-found`). Assumes nothing.
use Prim.Native.Nat.{ℕ, zero, suc, ◌+◌, ◌*◌, ◌/◌, ◌≤◌, ◌<◌}
use mathlib.Core.Path.{◌≡◌, refl, sym, ◌∙◌, subst₂}
use mathlib.Core.Bool.{Bool, true, not}
use mathlib.Core.Option.{Option, none, some, or_else}
use mathlib.Core.List.{List, [], ◌∷◌}
use native.Mathlib.Nat.{zero-add}
use native.Mathlib.Omega.{arith}
use lib.Dec.{ltb}
use lib.Arith.{digits_div, digits_lt, digits_mod}
use borrow.Author.Tests.{lt-ltb}
use Rattle.rules.specs.Words.{Bytes}
use Rattle.rules.specs.Shape.{Shape, zone_cells}
use Rattle.rules.specs.Test.{first, when}
use Rattle.rules.specs.Header.{open_tests, shape_in}
use Rattle.rules.specs.Runs.{Run, cell_count, object}
use Rattle.rules.specs.Book.{book}
use Rattle.rules.specs.Search.{run_at}
use Rattle.rules.specs.Zones.{book_from, is_damaged, is_object, object_tests, pool_book, run_there, walk_in}
use Rattle.rules.specs.Seals.{read_tests}
use Rattle.rules.specs.Sound.{Sound, book_of}
use Rattle.rules.specs.Look.{look_tests}
use Rattle.rules.specs.Tag.{first_from, first_tagged, look_up_tests, whole_test, with_tag}
use Rattle.rules.proofs.Test.{Passed, first-passed, first-right, not-not, passed-join, passed-left, passed-right}
use Rattle.rules.proofs.Laid.{laid-length}
use Rattle.rules.proofs.Book.{laid-pos}
use Rattle.rules.proofs.Search.{run-bound, run-pos}
use Rattle.rules.proofs.Written.{find-run}
use Rattle.rules.proofs.Zones.{Fits, good-fits, zone-length}
use Rattle.rules.proofs.StagedBook.{whole-laid}
use Rattle.rules.proofs.Header.{passed-good, passed_length}
use Rattle.rules.proofs.Sound.{sound-reads}
use Rattle.rules.proofs.Scrub.{all_true, from-scrub, true-all}
use Rattle.rules.proofs.Ascending.{book-ascends}
use Rattle.rules.proofs.Tag.{first-append, first_found}

-- NO LOOK-UP IN A SOUND POOL IS REFUSED
pub sound-looks-up : (p : List ℕ) → Sound p → Passed (look_up_tests p)
unfolding look_up_tests whole_test
sound-looks-up p s =
    let z = (from-scrub (shape_in p) p (shape_in p).zones 0 s.zones).0 in
    passed-join (read_tests p) _ (sound-reads p s)
    (rw (true-all (shape_in p).zones (λ y. (walk_in (shape_in p) p y).whole) (λ y l. z y (omega arith) (omega arith))), tt)

-- ---- an object with a tag, good or damaged

-- it begins at the address
pub record Tagged (s : Shape) (v : List ℕ) (t a : ℕ) : Type 0 where
  pub below : a < s.zones * zone_cells s
  pub whole : (walk_in s v (a / zone_cells s)).whole ≡ true
  pub cells : ℕ
  pub body : List ℕ
  pub good : Bool
  pub found : run_there s v a ≡ some (object cells t body good)

module _ (s : Shape) (v : List ℕ) (f : Fits s v) (whole : (z : ℕ) → z < s.zones → (walk_in s v z).whole ≡ true) where
  -- at cell c of zone z
  cell-tagged : (z c n t : ℕ) (b : List ℕ) (g : Bool) → z < s.zones → c < zone_cells s → run_at c 0 (walk_in s v z).runs ≡ some (object n t b g) → Tagged s v t (z * zone_cells s + c)
  unfolding run_there
  cell-tagged z c n t b g lt k r = record {
    below = digits_lt lt k;
    whole = rw (digits_div z k) (whole z lt);
    cells = n;
    body = b;
    good = g;
    found = rw (digits_div z k, digits_mod z k) r;
  }

  zone-tagged : (z t from a : ℕ) → z < s.zones → first_tagged t from (book (z * zone_cells s) (walk_in s v z).runs) ≡ some a → Tagged s v t a
  zone-tagged z t from a lt q =
      let rs : List Run = (walk_in s v z).runs in
      let l = whole-laid s v z (whole z lt) in
      let e : 64 * cell_count rs ≡ 64 * zone_cells s = sym (laid-length l) ∙ zone-length s v z f lt in
      let i = first_found t from a (z * zone_cells s) (book (z * zone_cells s) rs) q (book-ascends rs (z * zone_cells s) (laid-pos l)) in
      let k = find-run rs (z * zone_cells s) 0 a i.entry (laid-pos l) i.listed in
      let o : Run = object k.1 i.entry.tag i.entry.body k.2 in
      let r : run_at k.0 0 rs ≡ some o = rw (zero-add k.0) at k.5 in
      let h : k.0 < zone_cells s = omega (arith, run-bound k.0 rs o r, run-pos k.0 rs o (laid-pos l) r) in
      subst₂ (Tagged s v) i.tagged k.3 (cell-tagged z k.0 k.1 i.entry.tag i.entry.body k.2 lt h r)

  zones-tagged : (z n t from a : ℕ) → z + n ≤ s.zones → first_tagged t from (book_from s v z n) ≡ some a → Tagged s v t a
  unfolding book_from first_tagged with_tag first_from
  zones-tagged z zero t from a h q = absurd (let z : ◌≡◌ {A = ℕ} 0 1 = cc in omega arith)
  zones-tagged z (suc n) t from a h q =
      go (first_tagged t from (book (z * zone_cells s) (walk_in s v z).runs)) refl (λ e. zones-tagged (suc z) n t from a (omega arith) e)
      (sym (first-append t from (book (z * zone_cells s) (walk_in s v z).runs) (book_from s v (suc z) n)) ∙ q)
    where
      go : (o : Option ℕ) → first_tagged t from (book (z * zone_cells s) (walk_in s v z).runs) ≡ o → (first_tagged t from (book_from s v (suc z) n) ≡ some a → Tagged s v t a)
          → or_else o (first_tagged t from (book_from s v (suc z) n)) ≡ some a → Tagged s v t a
      go none e ih q = ih (unfold or_else in q)
      go (some b) e ih q = zone-tagged z t from a (omega arith) (e ∙ (unfold or_else in q))

-- ---- behind a look-up that is not refused

module _ (p : List ℕ) (bytes : Bytes p) (q : first (look_up_tests p) ≡ none) where
  reads : Passed (read_tests p)
  unfolding look_up_tests
  reads = passed-left (read_tests p) _ (first-passed (look_up_tests p) q)

  all_whole : (z : ℕ) → z < (shape_in p).zones → (walk_in (shape_in p) p z).whole ≡ true
  unfolding look_up_tests whole_test
  all_whole = all_true (shape_in p).zones (λ z. (walk_in (shape_in p) p z).whole) (not-not _ (passed-right (read_tests p) _ (first-passed (look_up_tests p) q)).0)

  fits : Fits (shape_in p) p
  unfolding read_tests
  fits = let o = passed-left (open_tests p) _ reads in good-fits (shape_in p) p (passed-good p o) (passed_length p o) bytes

  -- THE ADDRESS FOUND IS THAT OF AN OBJECT WITH THE TAG
  pub found-there : (t from a : ℕ) → first_tagged t from (book_of p) ≡ some a → Tagged (shape_in p) p t a
  unfolding book_of pool_book
  found-there t from a e = zones-tagged (shape_in p) p fits all_whole 0 (shape_in p).zones t from a (omega arith) e

  -- LOOK CAN ONLY MEET 25 THERE
  pub look-found : (t from a : ℕ) → first_tagged t from (book_of p) ≡ some a → first (look_tests p a) ≡ first (when (is_damaged (run_there (shape_in p) p a)) 25 ∷ [])
  unfolding look_tests object_tests is_object
  look-found t from a e =
      let n = found-there t from a e in
      let s : Shape = shape_in p in
      first-right (read_tests p) _ reads
      ∙ first-right (when (not (ltb a (s.zones * zone_cells s))) 5 ∷ when (not (walk_in s p (a / zone_cells s)).whole) 23 ∷ when (not (is_object (run_there s p a))) 24 ∷ []) _
      (rw (lt-ltb a (s.zones * zone_cells s) n.below), (rw n.whole, (rw n.found, tt)))
