-- The ways out of a write: its own tests, 27, and the words staged. Assumes nothing.
use Prim.Native.Nat.{ℕ, ◌+◌, ◌/◌, ◌%◌, ◌≤◌, ◌<◌}
use mathlib.Core.Path.{◌≡◌, sym, ap, ◌∙◌}
use mathlib.Core.Bool.{Bool, true, false, not, ◌&&◌}
use mathlib.Core.Option.{some}
use mathlib.Core.List.{List}
use native.Mathlib.Omega.{arith}
use lib.ListN.{length}
use lib.Dec.{leb}
use borrow.Author.Tests.{leb-true, not-false}
use Rattle.rules.specs.Words.{Bytes}
use Rattle.rules.specs.Shape.{Shape, entry_limit, staging_size, zone_cells}
use Rattle.rules.specs.Test.{first}
use Rattle.rules.specs.Staging.{Store}
use Rattle.rules.specs.Zones.{body_of, head_at, object_tests, run_there}
use Rattle.rules.specs.Answer.{refused, taken}
use Rattle.rules.specs.Plan.{plan, touch_write, write}
use Rattle.rules.proofs.Bool.{and_split}
use Rattle.rules.proofs.Test.{first-left, first-passed, first-right}
use Rattle.rules.proofs.Shape.{zone-even}
use Rattle.layout.specs.declared.Shape.{Shape as CodeShape}
use Rattle.layout.specs.Meaning.{shape_of}
use Rattle.layout.proofs.Range.{shape-good}
use Rattle.stage.specs.View.{entries_of, part, seen}
use Rattle.stage.proofs.Entries.{length-entries}
use Rattle.answers.specs.Planned.{Left, planned, stage_entries}
use Rattle.answers.proofs.Planned.{planned-passed, planned-refused, stage-many, stage-stored}
use Rattle.zones.specs.Found.{NamedAt}
use Rattle.write.specs.declared.Change.{Change}
use Rattle.write.specs.Writing.{Range, Written, added_by}
use Rattle.write.proofs.Right.{object-right}
use Rattle.write.proofs.Words.{length-write, write-count}
use Rattle.zones.proofs.NamedAt.{named-body, named_end, named-length}

-- ---- the call's own tests

pub head-even : (s : CodeShape) (a : ℕ) → head_at (shape_of s) a % 8 ≡ 0
unfolding head_at
head-even s a = omega (arith, zone-even (shape_of s) (shape-good s) (a / zone_cells (shape_of s)))

module _ (s : Shape) (pool st : List ℕ) (n a o : ℕ) (xs : List ℕ) where
  -- 5, 23, 24, 25
  pub write-refused : {i : ℕ} → first (object_tests s (seen pool st n) a) ≡ some i → record { answer = refused i; staging = st; count = n } ≡ planned s pool st n (write a o xs)
  unfolding plan
  write-refused {i} f = planned-refused s pool st n (write a o xs) i (first-left (object_tests s (seen pool st n) a) _ i f)

  module _ {k m t : ℕ} (d : NamedAt s (seen pool st n) a k m t) {x : Bool} (f : x ≡ not (leb 1 (length xs) && leb (o + length xs) m)) where
    range-test : not (leb 1 (length xs) && leb (o + length xs) (length (body_of (run_there s (seen pool st n) a)))) ≡ x
    range-test = rw (named-length d) (sym f)

    -- 7
    pub write-outside : x ≡ true → record { answer = refused 7; staging = st; count = n } ≡ planned s pool st n (write a o xs)
    unfolding plan first
    write-outside y =
        planned-refused s pool st n (write a o xs) 7
        (first-right (object_tests s (seen pool st n) a) _ (first-passed (object_tests s (seen pool st n) a) d.passed) ∙ rw (range-test ∙ y))

    module _ (y : x ≡ false) where
      pub write-passed : {h : ℕ} {z : Left} → h ≡ head_at s a → z ≡ stage_entries st n taken (touch_write (seen pool st n) h (part m (h + 16) (seen pool st n)) o xs (entries_of st n))
          → z ≡ planned s pool st n (write a o xs)
      unfolding plan first
      write-passed w z =
          (rw w at z)
          ∙ ap (λ (b : List ℕ). stage_entries st n taken (touch_write (seen pool st n) (head_at s a) b o xs (entries_of st n))) (sym (named-body d))
          ∙ planned-passed s pool st n (write a o xs)
          (first-right (object_tests s (seen pool st n) a) _ (first-passed (object_tests s (seen pool st n) a) d.passed) ∙ rw (range-test ∙ y))

      pub write-range : {h : ℕ} → h ≡ head_at s a → 1 ≤ zone_cells s → head_at s a % 8 ≡ 0 → Range (seen pool st n) h m o (length xs)
      write-range w c even =
          let z = and_split (leb 1 (length xs)) (leb (o + length xs) m) (not-false (leb 1 (length xs) && leb (o + length xs) m) (sym f ∙ y)) in
          rw w (record {
            even = even;
            inside = named_end d;
            most = d.object.most;
            right = unfold part in (object-right s (seen pool st n) a c d.passed (unfold part in d.object.is));
            some = leb-true 1 (length xs) z.0;
            within = leb-true (o + length xs) m z.1;
          })

-- ---- 27, or the words staged

module _ (v st : List ℕ) (n : ℕ) (c : Change) (e : c.head % 8 ≡ 0) where
  abbrev entries : List Store
  entries = touch_write v c.head (part c.length (c.head + 16) v) c.at c.bytes.now (entries_of st n)

  abbrev more : ℕ
  more = added_by c.head c.at (length c.bytes.now) (entries_of st n)

  pub write-many : {r : ℕ} → r ≡ 27 → entry_limit < n + more → record { answer = refused r; staging = st; count = n } ≡ stage_entries st n taken entries
  write-many q l =
      let w = length-write v c.head (part c.length (c.head + 16) v) c.at c.bytes.now (entries_of st n) e in
      rw q (stage-many st n taken entries (omega (arith, length-entries st n)))

  pub write-stored : {st' : List ℕ} {n' : ℕ} → Bytes st' → staging_size ≤ length st → n + more ≤ entry_limit → Written v st n c st' n'
      → record { answer = taken; staging = st'; count = n' } ≡ stage_entries st n taken entries
  write-stored b k f w =
      let d = write-count e w in
      stage-stored st n taken entries b (rw w.grown.long (omega arith)) (omega arith) w.grown w.entries
