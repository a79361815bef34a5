-- The words that a write touches: room for them, how many entries stand there then, and what they are. Assumes nothing.
use Prim.Native.Nat.{ℕ, ◌+◌, ◌*◌, ◌/◌, ◌%◌, ◌^◌, ◌≤◌, ◌<◌}
use mathlib.Core.Path.{◌≡◌, sym, ap, ap₂, ◌∙◌}
use mathlib.Core.List.{List}
use native.Mathlib.Omega.{arith}
use lib.ListN.{length, take, drop}
use lib.Seq.{sets}
use Rattle.rules.specs.Words.{digits, put}
use Rattle.rules.specs.Shape.{entry_limit, staging_size}
use Rattle.rules.specs.Runs.{check_word}
use Rattle.rules.specs.Staging.{Store, touch, touch_range, touch_words, word_count, word_from}
use Rattle.rules.specs.Plan.{touch_write}
use Rattle.rules.proofs.Staging.{tidy-touch}
use Rattle.stage.specs.View.{Staged, entries_of, part, seen}
use Rattle.stage.specs.Touched.{Room, Touched, missing}
use Rattle.stage.proofs.Counted.{fresh-first}
use Rattle.stage.proofs.Entries.{length-entries}
use Rattle.stage.proofs.Touched.{digits-read, grown-twice, length-words, missing-words, room-count}
use Rattle.stage.proofs.Seen.{length_seen}
use Rattle.overwrite.specs.Range.{RangeFresh, RangeRoom, RangeTouched}
use Rattle.overwrite.proofs.Ranging.{seen-touched}
use Rattle.write.specs.declared.Change.{Change}
use Rattle.write.specs.declared.Fresh.{Fresh}
use Rattle.write.specs.Writing.{Changes, Checked, Unstaged, Written, added_by}
use mathlib.Core.Bool.{true}
use lib.Dec.{eqb}
use borrow.Author.Tests.{eqb-true}

-- the words of the range lie behind the check's
range-behind : (h o : ℕ) → h % 8 ≡ 0 → h + 8 + 8 * 1 ≤ word_from (h + (16 + o))
unfolding word_from
range-behind h o e = omega arith

pub length-write : (v : List ℕ) (h : ℕ) (b : List ℕ) (o : ℕ) (xs : List ℕ) (es : List Store) → h % 8 ≡ 0 → length (touch_write v h b o xs es) ≡ length es + added_by h o (length xs) es
unfolding touch_write touch_range added_by
length-write v h b o xs es e =
    let w : List ℕ = check_word (take 16 (drop h v)) (sets b o xs) in
    let p : ℕ = h + (16 + o) in
    let k : ℕ = word_count p (length xs) in
    let c = length-words 1 (h + 8) w es in
    let d = missing-words 1 (h + 8) w es k (word_from p) (range-behind h o e) in
    length-words k (word_from p) (take (8 * k) (drop (word_from p) (sets (sets v (h + 8) w) p xs))) (touch_words 1 (h + 8) w es) ∙ omega arith

-- ---- the words that have no entry yet, counted: a of the check's, b of the range's

module _ (st : List ℕ) (n : ℕ) (c : Change) {a b : ℕ} (e : a ≡ missing 1 (c.head + 8) (entries_of st n))
    (f : b ≡ missing (((c.head + (16 + c.at)) % 8 + length c.bytes.now + 7) / 8) ((c.head + (16 + c.at)) / 8 * 8) (entries_of st n)) where
  pub counted : a + b ≡ added_by c.head c.at (length c.bytes.now) (entries_of st n)
  unfolding added_by word_count word_from
  counted = ap₂ ◌+◌ e f

  fresh_range : b ≡ ((c.head + (16 + c.at)) % 8 + length c.bytes.now + 7) / 8 → RangeFresh st n (c.head + (16 + c.at)) (length c.bytes.now)
  unfolding word_count word_from
  fresh_range q = record { all = sym f ∙ q }

  pub counted-fits : n + (a + b) ≤ entry_limit → Unstaged st n c (record { check = eqb a 1; range = eqb b (((c.head + (16 + c.at)) % 8 + length c.bytes.now + 7) / 8) })
  counted-fits l = record {
    room = rw (← counted) l;
    check = λ t. fresh-first 0 (c.head + 8) (entries_of st n) (sym e ∙ eqb-true a 1 t);
    range = λ t. fresh_range (eqb-true b _ t);
  }

-- ---- the words touched

module _ {pool st : List ℕ} {n : ℕ} (c : Change) {f : Fresh} (s : Staged pool st n) (g : Changes (seen pool st n) c) (u : Unstaged st n c f) (room : staging_size ≤ length st) where
  -- the range's place, and its words
  abbrev p : ℕ
  p = c.head + (16 + c.at)

  abbrev k : ℕ
  k = word_count p (length c.bytes.now)

  pub check-room : Room st n 1 (c.head + 8)
  unfolding added_by
  check-room = record { held = omega (arith, u.room) }

  -- the word that holds the check is touched
  module _ {st' : List ℕ} {n' w : ℕ} (l : w < 2 ^ 64) (t : Touched st n (c.head + 8) w st' n') where
    check-entries : entries_of st' n' ≡ touch_words 1 (c.head + 8) (digits 8 w) (entries_of st n)
    unfolding touch_words
    check-entries = t.entries ∙ ap (λ (x : ℕ). touch (c.head + 8) x (entries_of st n)) (sym (digits-read w l))

    check-count : n' ≡ n + missing 1 (c.head + 8) (entries_of st n)
    check-count = sym (length-entries st' n') ∙ ap length check-entries ∙ length-words 1 (c.head + 8) (digits 8 w) (entries_of st n) ∙ ap (λ (x : ℕ). x + missing 1 (c.head + 8) (entries_of st n)) (length-entries st n)

    range-missing : missing k (word_from p) (entries_of st' n') ≡ missing k (word_from p) (entries_of st n)
    range-missing = ap (missing k (word_from p)) check-entries ∙ missing-words 1 (c.head + 8) (digits 8 w) (entries_of st n) k (word_from p) (range-behind c.head c.at g.even)

    range-room : Room st' n' k (word_from p)
    unfolding added_by
    range-room = let a = check-count in let b = range-missing in record { held = rw t.grown.long (omega (arith, u.room)) }

    -- then those that hold the range can be
    pub range-ready : Staged pool st' n' × RangeRoom pool st' n' p (length c.bytes.now)
    range-ready =
        let e = length_seen pool st n in (
          record { room = room-count range-room; tidy = rw t.entries (tidy-touch (entries_of st n) (c.head + 8) w s.tidy (omega (arith, g.even)) l); words = s.words },
          record { some = g.some; inside = omega (arith, g.inside, g.within); room = range-room },
        )

    -- and have no entries still
    pub range-fresh : f.range ≡ true → RangeFresh st' n' p (length c.bytes.now)
    range-fresh y = record { all = range-missing ∙ (u.range y).all }

    pub write_done : {st'' : List ℕ} {n'' : ℕ} → Checked (seen pool st n) c w → RangeTouched pool st' n' p c.bytes.now st'' n'' → Written (seen pool st n) st n c st'' n''
    unfolding touch_write part put
    write_done e r =
        let z : seen pool st' n' ≡ sets (seen pool st n) (c.head + 8) (digits 8 w) = seen-touched pool s.tidy (omega (arith, g.even)) t in
        record {
          entries = r.entries ∙ rw (z, check-entries, e);
          grown = grown-twice t.grown r.grown;
        }

pub write-count : {v st : List ℕ} {n : ℕ} {c : Change} {st' : List ℕ} {n' : ℕ} → c.head % 8 ≡ 0 → Written v st n c st' n' → n' ≡ n + added_by c.head c.at (length c.bytes.now) (entries_of st n)
write-count {v} {st} {n} {c} {st'} {n'} e w =
    sym (length-entries st' n') ∙ ap length w.entries ∙ length-write v c.head (part c.length (c.head + 16) v) c.at c.bytes.now (entries_of st n) e
    ∙ ap (λ (x : ℕ). x + added_by c.head c.at (length c.bytes.now) (entries_of st n)) (length-entries st n)
