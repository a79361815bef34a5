-- Lines printed one by one: the line so far, and the loop over the cells of the run that comes next. Assumes nothing.
use Prim.Native.Nat.{ℕ, suc, ◌+◌, ◌-◌, ◌≤◌, ◌<◌}
use mathlib.Core.Path.{◌≡◌, refl, sym, ap, ◌∙◌}
use mathlib.Core.Bool.{Bool, true, false}
use mathlib.Core.List.{List, [], ◌++◌, flat_map}
use native.Mathlib.Numerals.{add-one}
use native.Mathlib.Omega.{arith}
use lib.ListN.{length, take, drop, length-append}
use lib.Seq.{length-take-le, sets-eq, take_at, take-take}
use Rattle.rules.specs.Words.{ascii}
use Rattle.rules.specs.Scan.{decimal}
use Rattle.rules.proofs.Scan.{decimal-length}
use Rattle.rules.proofs.Sets.{take-sets}
use Rattle.texts.specs.declared.Text.{Text}
use Rattle.texts.specs.Put.{Put, between_text}
use Rattle.texts.specs.Adds.{Adds, held}
use Rattle.texts.proofs.Put.{put-length}
use Rattle.texts.proofs.Adds.{Adding, adding-end, adding-start, adding-step, adds_as, adds_then}
use Rattle.arrangements.specs.Arrangements.{cells, free, is_free, lengths, object}
use Rattle.arrangements.specs.Listing.{extent_text}
use Rattle.arrangements.specs.Lined.{Kept, Printed, Room, extent, next_lines, rest_lines}
use Rattle.arrangements.proofs.Lines.{rest-after, rest_both, rest-none}

-- a text has its own length
adds-text : {k : ℕ} {o : Text} {t u : List ℕ} {o' : Text} → Adds k o t o' → t ≡ u → Adds (length u) o u o'
adds-text {k} p e =
    let q = adds_as {k = k} p e (omega arith) in
    record { put = record { stored = q.put.stored; ends = q.put.ends; most = omega (arith, q.put.ends) }; buffer = q.buffer }

-- ---- a run behind the line so far

module _ {l : Text} {k : ℕ} {l' : Text} where
  -- its word has at most 9 bytes, and a number below 10 one digit
  extent-adds : (w : List ℕ) {t : List ℕ} → length w ≤ 9 → k < 10 → between_text w k (ascii ")") ≡ t → Adds (length w + 10 + 1) l (between_text w k (ascii ")")) l' → Adds 11 l t l'
  unfolding between_text
  extent-adds w n h e p =
      let d = length-append w (decimal k ++ ascii ")") ∙ ap (λ (m : ℕ). length w + m) (length-append (decimal k) (ascii ")")) in
      let q = adds-text p e in
      record { put = record { stored = q.put.stored; ends = q.put.ends; most = omega (arith, p.put.ends, d, decimal-length 0 k h) }; buffer = q.buffer }

  pub free-adds : {f : Bool} → f ≡ true → k < 10 → Adds 18 l (between_text (ascii " (free ") k (ascii ")")) l' → Adds 11 l (extent_text (extent f k)) l'
  unfolding between_text extent_text
  free-adds e h p = extent-adds (ascii " (free ") (omega arith) h (rw e) p

  pub object-adds : {f : Bool} → f ≡ false → k < 10 → Adds 20 l (between_text (ascii " (object ") k (ascii ")")) l' → Adds 11 l (extent_text (extent f k)) l'
  unfolding between_text extent_text
  object-adds e h p = extent-adds (ascii " (object ") (omega arith) h (rw e) p

-- the line so far is longer by a text that was put behind it
pub front-put : {k : ℕ} {l : List ℕ} {a : ℕ} {t l' : List ℕ} {r : ℕ} → Put k l a t l' r → a + k ≤ length l → take r l' ≡ take a l ++ t
front-put {k} {l} {a} {t} p h =
    let fit : a + length t ≤ length l = omega (arith, p.ends, p.most) in
    rw (p.stored, p.ends, sets-eq t l a fit)
    (take_at (take a l ++ t) (drop (a + length t) l) (a + length t) (length-append (take a l) t ∙ rw (length-take-le a l (omega arith))))

-- ---- a line, whole

pub line-adds : (line : Text) {l : List ℕ} {o o₁ o₂ : Text} → l ≡ held line → Adds (length l) o l o₁ → Adds 2 o₁ (ascii ")\n") o₂ → line.at ≤ length line.out.now
    → Adds (line.at + 2) o (held line ++ ascii ")\n") o₂
line-adds line e p q h = adds_as (adds_then p q) (rw e) (rw (e, length-take-le line.at line.out.now h) (omega arith))

-- ---- the loop over the cells of the next run, which is free (f) or an object

extent-is : (f : Bool) (k : ℕ) → (is_free (extent f k) ≡ f) × (cells (extent f k) ≡ k)
extent-is true k = (refl, refl)
extent-is false k = (refl, refl)

-- the lines with a next run of k cells or more: those of k cells, then the others
next-step : (p : List ℕ) (m : ℕ) (f : Bool) (k : ℕ) → k ≤ m
    → next_lines p m (lengths (extent f) k (suc m - k)) ≡ rest_lines (p ++ extent_text (extent f k)) f (m - k) ++ next_lines p m (lengths (extent f) (k + 1) (suc m - (k + 1)))
unfolding next_lines flat_map lengths
next-step p m f k h =
    let e : suc m - k ≡ suc (suc m - (k + 1)) = omega arith in
    let x = extent-is f k in
    rw (e, add-one, x.0, x.1)

-- the lines with a next run of fewer than k cells are printed
pub record Printing (line : Text) (m : ℕ) (f : Bool) (out line' out' : Text) (k : ℕ) : Type 0 where
  pub some : 1 ≤ k
  pub kept : Kept line line'
  pub adding : Adding out (next_lines (held line) m (lengths (extent f) 1 m)) out' (next_lines (held line) m (lengths (extent f) k (suc m - k)))

kept-start : (line : Text) → Kept line line
kept-start line = record { text = refl; place = refl; size = refl }

pub printing-start : (line : Text) (m : ℕ) (f : Bool) (out : Text) → Printing line m f out line out 1
printing-start line m f out =
    let e : suc m - 1 ≡ m = omega arith in
    record { some = omega arith; kept = kept-start line; adding = rw e (adding-start out _) }

module _ {line : Text} {m : ℕ} {f : Bool} {out line' out' : Text} {k : ℕ} (s : Printing line m f out line' out' k) where
  module _ (room : Room line m out.at (next_lines (held line) m (lengths (extent f) 1 m))) (h : k < m + 1) {line'' : Text} (run : Adds 11 line' (extent_text (extent f k)) line'') where
    abbrev lines : List ℕ
    lines = rest_lines (held line'') f (m - k)

    split : next_lines (held line) m (lengths (extent f) k (suc m - k)) ≡ lines ++ next_lines (held line) m (lengths (extent f) (k + 1) (suc m - (k + 1)))
    split =
        next-step (held line) m f k (omega arith)
        ∙ ap (λ (p : List ℕ). rest_lines p f (m - k) ++ next_lines (held line) m (lengths (extent f) (k + 1) (suc m - (k + 1))))
        (sym (front-put run.put (omega (arith, room.size, room.runs, s.kept.size, s.kept.place, s.some)) ∙ ap (λ (p : List ℕ). p ++ extent_text (extent f k)) s.kept.text))

    pub printing-room : Room line'' (m - k) out'.at lines
    printing-room =
        record {
          size = put-length run.put ∙ s.kept.size ∙ room.size;
          runs = omega (arith, room.runs, run.put.most, s.kept.place, s.some);
          text = omega (arith, room.text, s.adding.putting.ends, ap length split ∙ length-append lines _);
        }

    -- the line is cut to where the run began
    pub printing-step : {line₃ out'' : Text} → Printed line'' line₃ out' lines out'' → {b : ℕ} {line₄ : Text} → b ≡ line.at → line₄.at ≡ b → line₄.out ≡ line₃.out
        → Printing line m f out line₄ out'' (k + 1)
    printing-step {line₃} q {line₄ = line₄} e place buffer =
        let a : ℕ = line.at in
        let before : a ≤ line''.at = omega (arith, run.put.ends, s.kept.place) in
        let at : line₄.at ≡ a = place ∙ e in
        let text₃ : take line''.at line₃.out.now ≡ take line''.at line''.out.now = rw q.kept.place at q.kept.text in
        let text' : take a line'.out.now ≡ take a line.out.now = rw s.kept.place at s.kept.text in
        record {
          some = omega arith;
          kept =
              record {
                text =
                    rw (at, buffer)
                    (
                    sym (take-take a line''.at line₃.out.now before) ∙ ap (take a) text₃ ∙ take-take a line''.at line''.out.now before
                    ∙ ap (take a) run.put.stored ∙ take-sets a line'.out.now line'.at (extent_text (extent f k)) (omega (arith, s.kept.place)) ∙ text'
                    );
                place = at;
                size = rw buffer (q.kept.size ∙ put-length run.put ∙ s.kept.size);
              };
          adding = adding-step (rw split at s.adding) q.adds;
        }

  pub printing-end : m + 1 ≤ k → Printed line line' out (next_lines (held line) m (lengths (extent f) 1 m)) out'
  unfolding lengths next_lines flat_map
  printing-end h =
      let e : suc m - k ≡ 0 = omega arith in
      let p : Adding out (next_lines (held line) m (lengths (extent f) 1 m)) out' [] = rw e at s.adding in
      record { kept = s.kept; adds = adding-end p (omega (arith, p.putting.ends)) }

-- ---- no cell left; behind a free run; and else

module _ {line : Text} {m b : ℕ} (f : Bool) (room : Room line m b (rest_lines (held line) f m)) where
  module _ (e : m ≡ 0) where
    line-is : held line ++ ascii ")\n" ≡ rest_lines (held line) f m
    line-is = rest-none (held line) f ∙ ap (rest_lines (held line) f) (sym e)

    pub line-room : (line.at ≤ length line.out.now) × (b + line.at + 2 < 4294967296)
    line-room =
        let n : length (held line ++ ascii ")\n") ≡ line.at + 2 = length-append (held line) (ascii ")\n") ∙ rw (length-take-le line.at line.out.now (omega (arith, room.size, room.runs))) in
        (omega (arith, room.size, room.runs), omega (arith, room.text, ap length line-is))

    pub line-printed : {out out' : Text} → Adds (line.at + 2) out (held line ++ ascii ")\n") out' → Printed line line out (rest_lines (held line) f m) out'
    line-printed p = record { kept = kept-start line; adds = adds-text p line-is }

  module _ (h : m ≡ 0 → ⊥) where
    pub after-room : f ≡ true → Room line m b (next_lines (held line) m (lengths object 1 m))
    after-room e = record { size = room.size; runs = room.runs; text = rw (rest-after (held line) m h, ← e) room.text }

    pub after-printed : f ≡ true → {line' out out' : Text} → Printed line line' out (next_lines (held line) m (lengths object 1 m)) out'
        → Printed line line' out (rest_lines (held line) f m) out'
    after-printed e p = record { kept = p.kept; adds = adds-text p.adds (rw e (rest-after (held line) m h)) }

    module _ (e : f ≡ false) where
      abbrev frees : List ℕ
      frees = next_lines (held line) m (lengths free 1 m)

      both_is : frees ++ next_lines (held line) m (lengths object 1 m) ≡ rest_lines (held line) f m
      both_is = rw e (rest_both (held line) m h)

      both-length : length frees + length (next_lines (held line) m (lengths object 1 m)) ≡ length (rest_lines (held line) f m)
      both-length = sym (length-append frees _) ∙ ap length both_is

      pub free-room : Room line m b frees
      free-room = record { size = room.size; runs = room.runs; text = omega (arith, room.text, both-length) }

      module _ {line₁ out out₁ : Text} (p : Printed line line₁ out frees out₁) where
        pub object-room : out.at ≡ b → Room line₁ m out₁.at (next_lines (held line₁) m (lengths object 1 m))
        object-room k =
            record {
              size = p.kept.size ∙ room.size;
              runs = omega (arith, room.runs, p.kept.place);
              text = rw p.kept.text (omega (arith, room.text, both-length, p.adds.put.ends));
            }

        pub both-printed : {line₂ out₂ : Text} → Printed line₁ line₂ out₁ (next_lines (held line₁) m (lengths object 1 m)) out₂
            → Printed line line₂ out (rest_lines (held line) f m) out₂
        both-printed q =
            record {
              kept = record { text = q.kept.text ∙ p.kept.text; place = q.kept.place ∙ p.kept.place; size = q.kept.size ∙ p.kept.size };
              adds = adds-text (adds_then p.adds (rw p.kept.text at q.adds)) both_is;
            }
