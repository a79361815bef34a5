-- The ways out of the listing, and how long its text is. Assumes nothing.
use Prim.Native.Nat.{ℕ, ◌≤◌}
use mathlib.Core.Path.{◌≡◌, refl, ap, ◌∙◌}
use mathlib.Core.Option.{none, some}
use mathlib.Core.Bool.{true, false}
use mathlib.Core.List.{List, flat_map}
use native.Mathlib.Omega.{arith}
use lib.Dec.{leb}
use lib.ListN.{length, length-replicate, replicate}
use borrow.Author.Tests.{leb-true}
use Rattle.rules.specs.Words.{ascii}
use Rattle.rules.specs.Scrub.{all_to}
use Rattle.rules.specs.Scan.{decimal, decimal_to}
use Rattle.rules.proofs.Scrub.{all_true}
use Rattle.texts.specs.declared.Text.{Text}
use Rattle.texts.specs.Adds.{Adds, held}
use Rattle.texts.proofs.Put.{put-length}
use Rattle.texts.proofs.Adds.{adds_as}
use Rattle.arrangements.specs.Arrangements.{arrangements, arrangements_to, lengths, next_extents}
use Rattle.arrangements.specs.Listing.{asked, extent_text, listing, zone_line, zones_listing}
use Rattle.arrangements.specs.Lined.{Printed, Room, rest_lines}
use Rattle.arrangements.proofs.Printing.{front-put}

-- the longest text is that of 8 cells
all_short : all_to 9 (λ n. leb (length (rest_lines (ascii "(zone") false n)) 99555) ≡ true
unfolding all_to rest_lines arrangements_to next_extents lengths flat_map extent_text decimal decimal_to
all_short = refl

-- a line that begins with (zone
module _ {start line : Text} (empty : start.out.now ≡ replicate 93 0) (front : start.at ≡ 0) (begun : Adds 5 start (ascii "(zone") line) (n : ℕ) (h : n ≤ 8) where
  zone-held : held line ≡ ascii "(zone"
  zone-held = front-put begun.put (rw (empty, front) (omega (arith, length-replicate {A = ℕ} 93 0))) ∙ rw front

  text-most : length (rest_lines (held line) false n) ≤ 99555
  text-most = rw zone-held (leb-true _ _ (all_true 9 (λ n. leb (length (rest_lines (ascii "(zone") false n)) 99555) all_short n (omega arith)))

  pub text-room : {b : ℕ} → b ≡ 0 → Room line n b (rest_lines (held line) false n)
  text-room e =
      record {
        size = put-length begun.put ∙ rw empty (length-replicate {A = ℕ} 93 0);
        runs = omega (arith, front, begun.put.most);
        text = omega (arith, text-most);
      }

  pub text-listed : (s : List ℕ) → some n ≡ asked s → {line' out out' : Text} → Printed line line' out (rest_lines (held line) false n) out' → Adds 99555 out (zones_listing s) out'
  unfolding zones_listing rest_lines listing arrangements zone_line
  text-listed s e p = adds_as p.adds (rw zone-held (ap listing e)) text-most

-- ---- the ways out

pub text-refused : (s : List ℕ) {out out' : Text} → none ≡ asked s → Adds 13 out (ascii "(refused 42)\n") out' → Adds 99555 out (zones_listing s) out'
unfolding zones_listing listing
text-refused s e p = adds_as p (ap listing e) (omega arith)
