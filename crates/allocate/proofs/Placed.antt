-- The words of an object and of the remainder's head, touched. Assumes nothing.
use Prim.Native.Nat.{ℕ, zero, suc, ◌+◌, ◌-◌, ◌*◌, ◌≤◌, ◌<◌}
use mathlib.Core.Path.{◌≡◌, refl, sym, ap, ◌∙◌}
use mathlib.Core.List.{List, ◌++◌}
use native.Mathlib.Omega.{arith}
use lib.ListN.{length, replicate, length-append}
use Rattle.rules.specs.Words.{Bytes, digits}
use Rattle.rules.specs.Shape.{entry_limit, staging_size}
use Rattle.rules.specs.Runs.{cells_for, free_head, head_bytes, object_bytes}
use Rattle.rules.specs.Staging.{Store, touch_words}
use Rattle.rules.specs.Answer.{Answer, refused}
use Rattle.rules.specs.Plan.{touch_free}
use Rattle.rules.proofs.Words.{length_digits}
use Rattle.heads.specs.HeadWords.{head_of}
use Rattle.stage.specs.View.{entries_of}
use Rattle.stage.specs.Touched.{Room, TouchedWords, missing}
use Rattle.stage.proofs.Counted.{missing-append}
use Rattle.stage.proofs.Entries.{length-entries}
use Rattle.stage.proofs.Touched.{grown-twice, length-words, missing-words, touched_none}
use Rattle.answers.specs.Planned.{stage_entries}
use Rattle.answers.proofs.Planned.{stage-many, stage-stored}
use lib.Dec.{eqb}
use borrow.Author.Tests.{eqb-true}
use mathlib.Core.Bool.{true}
use Rattle.allocate.specs.declared.Fresh.{Fresh}
use Rattle.allocate.specs.Placed.{Placed, Unstaged, free_words, place_object, unstaged}
use Rattle.allocate.proofs.Body.{touch-zeros}
use Rattle.allocate.proofs.Rows.{fresh-after, room-behind, room-part, touched-append}

-- ---- the object: its head, then its body and zeros

pub cells-some : {k : ℕ} (m : ℕ) → k ≡ cells_for m → 1 ≤ k
unfolding cells_for
cells-some m e = omega arith

touched-zeros : {st st' : List ℕ} {n m k o : ℕ} {ys : List ℕ} (z : ℕ) → TouchedWords st n k o ys st' m → TouchedWords st n k o (ys ++ replicate z 0) st' m
touched-zeros {st} {n = n} {k = k} {o} {ys} z t = record { entries = t.entries ∙ sym (touch-zeros k o ys z (entries_of st n)); grown = t.grown; most = t.most }

pub touched-object : {st st' st'' : List ℕ} {n n' n'' o k : ℕ} {body : List ℕ} (t a b : ℕ) → head_of a b ≡ head_bytes 2 (cells_for (length body)) (length body) t body → k ≡ cells_for (length body)
    → TouchedWords st n 2 o (digits 8 a ++ digits 8 b) st' n' → TouchedWords st' n' (8 * k - 2) (o + 16) body st'' n''
    → TouchedWords st n (8 * cells_for (length body)) o (object_bytes t body) st'' n''
unfolding head_of object_bytes
touched-object {k = k} {body = body} t a b e f s u =
    let c : 8 * cells_for (length body) ≡ 2 + (8 * k - 2) = omega (arith, cells-some (length body) f) in
    let l : length (digits 8 a ++ digits 8 b) ≡ 16 = rw (length-append (digits 8 a) (digits 8 b), length_digits 8 a, length_digits 8 b) in
    rw (c, ← e) (touched-append l s refl (touched-zeros (64 * cells_for (length body) - (16 + length body)) u))

-- ---- the remainder's head

pub free-some : (n : ℕ) → 0 < n → 2 ≡ free_words n
unfolding free_words
free-some zero h = absurd (omega arith)
free-some (suc n) h = refl

pub free-none : (n : ℕ) → n ≤ 0 → 0 ≡ free_words n
unfolding free_words
free-none zero h = refl
free-none (suc n) h = absurd (omega arith)

pub touched-free : {st st' : List ℕ} {k m o n : ℕ} (a b : ℕ) → 0 < n → head_of a b ≡ free_head n → TouchedWords st k 2 o (digits 8 a ++ digits 8 b) st' m → TouchedWords st k (free_words n) o (free_head n) st' m
unfolding head_of
touched-free {n = n} a b h e t = rw (← (free-some n h), ← e) t

pub touched-left : (st : List ℕ) (k o : ℕ) {n : ℕ} → n ≤ 0 → TouchedWords st k (free_words n) o (free_head n) st k
touched-left st k o {n} h = rw (← (free-none n h)) (touched_none st k o (free_head n))

touch-free : (o n : ℕ) (es : List Store) → touch_free o n es ≡ touch_words (free_words n) o (free_head n) es
unfolding touch_free free_words
touch-free o zero es = unfold touch_words in refl
touch-free o (suc n) es = refl

-- ---- the object and the remainder's head: c cells, f words of the head, x words that have no entry yet

length-placed : (o left t : ℕ) (b : List ℕ) (es : List Store) → length (place_object o left t b es) ≡ length es + missing (8 * cells_for (length b) + free_words left) o es
unfolding place_object
length-placed o left t b es =
    let k : ℕ = cells_for (length b) in
    let p : o + 64 * k ≡ o + 8 * (8 * k) = omega arith in
    let us : List Store = touch_words (8 * k) o (object_bytes t b) es in
    let r : length (touch_free (o + 64 * k) left us) ≡ length us + missing (free_words left) (o + 8 * (8 * k)) us = rw (touch-free (o + 64 * k) left us, p) (length-words (free_words left) (o + 8 * (8 * k)) (free_head left) us) in
    omega (arith, r, length-words (8 * k) o (object_bytes t b) es, missing-words (8 * k) o (object_bytes t b) es (free_words left) (o + 8 * (8 * k)) (omega arith), missing-append (8 * k) (free_words left) o es)

-- ---- counted in three parts: h of the head, b of the other words of c cells, r of the f words of the remainder's head

missing-parts : (o : ℕ) (es : List Store) (c f : ℕ) {h b r : ℕ} → 1 ≤ c → h ≡ missing 2 o es → b ≡ missing (8 * c - 2) (o + 16) es → r ≡ missing f (o + 64 * c) es → h + (b + r) ≡ missing (8 * c + f) o es
missing-parts o es c f l p q e =
    let k : 8 * c + f ≡ 2 + (8 * c - 2 + f) = omega arith in
    let j : o + 16 + 8 * (8 * c - 2) ≡ o + 64 * c = omega arith in
    rw (k, missing-append 2 (8 * c - 2 + f) o es, missing-append (8 * c - 2) f (o + 16) es, j, p, q, e)

module _ (st : List ℕ) (n o left m : ℕ) {c f h b r : ℕ} (e : c ≡ cells_for m) (g : f ≡ free_words left) (p : h ≡ missing 2 o (entries_of st n))
    (q : b ≡ missing (8 * c - 2) (o + 16) (entries_of st n)) (s : r ≡ missing f (o + 64 * c) (entries_of st n)) where
  pub counted : h + (b + r) ≡ unstaged st n o left m
  unfolding unstaged
  counted = rw (← e, ← g) (missing-parts o (entries_of st n) c f (cells-some m e) p q s)

  pub counted-fits : n + (h + (b + r)) ≤ entry_limit → Unstaged st n o left m (record { head = eqb h 2; body = eqb b (8 * c - 2); rest = eqb r f })
  counted-fits l = record {
    room = rw (← counted) l;
    head = λ t. sym p ∙ eqb-true h 2 t;
    body = λ t. rw (← e) (sym q ∙ eqb-true b (8 * c - 2) t);
    rest = λ t. rw (← e, ← g) (sym s ∙ eqb-true r f t);
  }

-- ---- and touched

module _ {st : List ℕ} {n o left m c : ℕ} {f : Fresh} (u : Unstaged st n o left m f) (l : staging_size ≤ length st) (e : c ≡ cells_for m) where
  room : Room st n (8 * cells_for m + free_words left) o
  unfolding unstaged
  room = record { held = omega (arith, u.room) }

  parts : 8 * cells_for m ≡ 2 + (8 * c - 2)
  parts = omega (arith, cells-some m e)

  room-object : Room st n (2 + (8 * c - 2)) o
  room-object = rw parts at (room-part (8 * cells_for m) (free_words left) room)

  pub room-head : Room st n 2 o
  room-head = room-part 2 (8 * c - 2) room-object

  module _ {st' : List ℕ} {n' : ℕ} {ys : List ℕ} (t : TouchedWords st n 2 o ys st' n') where
    pub room-body : Room st' n' (8 * c - 2) (o + 16)
    room-body = room-behind room-object t refl

    pub fresh-body : f.body ≡ true → missing (8 * c - 2) (o + 16) (entries_of st' n') ≡ 8 * c - 2
    fresh-body y = fresh-after (8 * c - 2) (o + 16) (rw e (u.body y)) t (omega arith)

-- all words of the object's cells
module _ {st : List ℕ} {n o left c : ℕ} {f : Fresh} (t : ℕ) (body : List ℕ) (u : Unstaged st n o left (length body) f) (l : staging_size ≤ length st) (e : c ≡ cells_for (length body))
    {st' : List ℕ} {n' : ℕ} (w : TouchedWords st n (8 * cells_for (length body)) o (object_bytes t body) st' n') where
  next : o + 64 * c ≡ o + 8 * (8 * cells_for (length body))
  next = rw e (omega arith)

  pub room-rest : Room st' n' (free_words left) (o + 64 * c)
  room-rest = room-behind (room u l e) w next

  pub fresh-rest : f.rest ≡ true → missing (free_words left) (o + 64 * c) (entries_of st' n') ≡ free_words left
  fresh-rest y = fresh-after (free_words left) (o + 64 * c) (rw e (u.rest y)) w (rw e (omega arith))

  pub placed : {st'' : List ℕ} {n'' : ℕ} → TouchedWords st' n' (free_words left) (o + 64 * c) (free_head left) st'' n'' → Placed st n o left t body st'' n''
  unfolding place_object
  placed v = record {
    entries = v.entries ∙ rw (w.entries, e) (sym (touch-free (o + 64 * cells_for (length body)) left _));
    grown = grown-twice w.grown v.grown;
  }

-- ---- and what the call leaves then

module _ (st : List ℕ) (n o left t : ℕ) (b : List ℕ) (a : Answer) where
  count : length (place_object o left t b (entries_of st n)) ≡ n + unstaged st n o left (length b)
  unfolding unstaged
  count = length-placed o left t b (entries_of st n) ∙ rw (length-entries st n)

  pub place-many : {r : ℕ} → r ≡ 27 → entry_limit < n + unstaged st n o left (length b) → record { answer = refused r; staging = st; count = n } ≡ stage_entries st n a (place_object o left t b (entries_of st n))
  place-many e h = rw e (stage-many st n a (place_object o left t b (entries_of st n)) (rw count h))

  pub place-stored : {f : Fresh} {st' : List ℕ} {m : ℕ} → Unstaged st n o left (length b) f → staging_size ≤ length st → Bytes st' → Placed st n o left t b st' m
      → record { answer = a; staging = st'; count = m } ≡ stage_entries st n a (place_object o left t b (entries_of st n))
  place-stored {st' = st'} {m} u l w p =
      let r : m ≡ n + unstaged st n o left (length b) = sym (length-entries st' m) ∙ ap length p.entries ∙ count in
      let k = u.room in
      stage-stored st n a (place_object o left t b (entries_of st n)) w (rw p.grown.long (omega arith)) (omega arith) p.grown p.entries
