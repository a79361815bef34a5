-- The bytes that are written are the runs that are meant: a free head before any bytes, a new object, an object written into.
use Prim.Native.Nat.{ℕ, ◌+◌, ◌-◌, ◌*◌, ◌^◌, ◌≤◌, ◌<◌}
use mathlib.Core.Path.{◌≡◌, refl, sym, ap, ap₂, ◌∙◌}
use mathlib.Core.Bool.{Bool, true}
use mathlib.Core.Option.{some}
use mathlib.Core.List.{List, [], ◌++◌, append-nil}
use native.Mathlib.Omega.{arith}
use lib.ListN.{length, take, drop, get_or, replicate, drop_of_length-le, length-append, length-take, length-drop, take-append-drop, length-replicate, get_or-eq_default}
use lib.Seq.{drop-drop, take_all, take_at, drop_at, length-take-le, sets, sets-eq, length-sets}
use Rattle.rules.specs.Words.{Bytes, digits, field, number}
use Rattle.rules.specs.Check.{check}
use Rattle.rules.specs.Shape.{body_limit}
use Rattle.rules.specs.Runs.{Run, cells_for, check_word, covered, free, free_head, free_ok, good_in, head_bytes, head_cells, head_check, head_kind, head_length, head_tag, object, object_bytes, read_run, run_of}
use Rattle.rules.proofs.Words.{bytes-append, bytes_drop, bytes_left, bytes-right, bytes-sets, bytes_take, bytes-zeros, digits-byte, field-part, length_digits, number_digits}
use Rattle.rules.proofs.Sets.{part-take, sets-left, sets-mid}
use Rattle.rules.proofs.Check.{check-lt}
use Rattle.rules.proofs.Zeros.{then-zeros}
use Rattle.rules.proofs.Good.{good-is, good-written}
use Rattle.rules.proofs.Laid.{ObjectSays, Says, Seg, free-ok, object-ok, read-says, says-free, says-object, seg-cells}

-- a body and its head lie in its cells
pub cells-hold : (m : ℕ) → (16 + m ≤ 64 * cells_for m) × (1 ≤ cells_for m)
unfolding cells_for
cells-hold m = omega arith

-- the bytes that a check covers are bytes
pub covered-bytes : (h b : List ℕ) → Bytes h → Bytes b → Bytes (covered h b)
covered-bytes h b p q = bytes-append (take 8 h) (take 4 (drop 12 h) ++ b) (bytes_take 8 h p) (bytes-append (take 4 (drop 12 h)) b (bytes_take 4 (drop 12 h) (bytes_drop 12 h p)) q)

-- ---- reading a head that was made

module _ (k n m t : ℕ) (body : List ℕ) where
  head-length : length (head_bytes k n m t body) ≡ 16
  unfolding head_bytes digits
  head-length = refl

  made-check : ℕ
  made-check = check (digits 2 k ++ digits 2 n ++ digits 4 m ++ (digits 4 t ++ body))

  pub head_bytes_lem : Bytes (head_bytes k n m t body)
  unfolding head_bytes made-check
  head_bytes_lem =
      bytes-append (digits 2 k ++ digits 2 n ++ digits 4 m ++ digits 4 made-check) (digits 4 t)
      (bytes-append (digits 2 k ++ digits 2 n ++ digits 4 m) (digits 4 made-check)
      (bytes-append (digits 2 k ++ digits 2 n) (digits 4 m) (bytes-append (digits 2 k) (digits 2 n) (digits-byte 2 k) (digits-byte 2 n)) (digits-byte 4 m))
      (digits-byte 4 made-check))
      (digits-byte 4 t)

  head-kind : k < 256 ^ 2 → head_kind (head_bytes k n m t body) ≡ k
  unfolding head_bytes digits field number
  head-kind h = number_digits 2 k h

  head-len : n < 256 ^ 2 → head_cells (head_bytes k n m t body) ≡ n
  unfolding head_bytes digits field number
  head-len h = number_digits 2 n h

  head-blen : m < 256 ^ 4 → head_length (head_bytes k n m t body) ≡ m
  unfolding head_bytes digits field number
  head-blen h = number_digits 4 m h

  head-tag : t < 256 ^ 4 → head_tag (head_bytes k n m t body) ≡ t
  unfolding head_bytes digits field number
  head-tag h = number_digits 4 t h

  head-covered : Bytes body → check (covered (head_bytes k n m t body) body) < 256 ^ 4
  head-covered h = check-lt (covered (head_bytes k n m t body) body) (covered-bytes (head_bytes k n m t body) body head_bytes_lem h)

  head-chk : Bytes body → head_check (head_bytes k n m t body) ≡ check (covered (head_bytes k n m t body) body)
  unfolding head_bytes digits field number
  head-chk h = number_digits 4 (check (covered (head_bytes k n m t body) body)) (head-covered h)

nil-bytes : Bytes []
nil-bytes i = omega arith

pub free_bytes_lem : (n : ℕ) → Bytes (free_head n)
unfolding free_head
free_bytes_lem n = head_bytes_lem 1 n 0 0 []

pub length-free_head : (n : ℕ) → length (free_head n) ≡ 16
unfolding free_head
length-free_head n = head-length 1 n 0 0 []

-- a free head before any bytes
pub seg-free : (n : ℕ) (rest : List ℕ) → 1 ≤ n → n < 65536 → 16 + length rest ≡ 64 * n → Seg (free n) (free_head n ++ rest)
unfolding free_head read_run run_of
seg-free n rest p s e =
    let h : List ℕ = head_bytes 1 n 0 0 [] in
    let ok : free_ok h ≡ true = free-ok h (record { kind = head-kind 1 n 0 0 [] (omega arith); len = rw (head-len 1 n 0 0 [] s) p; blen = head-blen 1 n 0 0 [] (omega arith); tag = head-tag 1 n 0 0 [] (omega arith); chk = head-chk 1 n 0 0 [] nil-bytes }) in
    record {
      read = rw (take_at h rest 16 (head-length 1 n 0 0 []), ok, head-len 1 n 0 0 [] s);
      len = length-append h rest ∙ rw (head-length 1 n 0 0 []) e;
    }

-- the head of a good object
run-object : (h rest b : List ℕ) (n t : ℕ) → ObjectSays h → head_cells h ≡ n → head_tag h ≡ t → take (head_length h) rest ≡ b → good_in h rest ≡ true
    → run_of h rest ≡ some (object n t b true)
unfolding run_of free_ok
run-object h rest b n t s en et eb eg = rw (s.kind, object-ok h s, en, et, eb, eg)

-- a new object
pub seg-object : (t : ℕ) (b : List ℕ) → t < 2 ^ 32 → Bytes b → 1 ≤ length b → length b ≤ body_limit → Seg (object (cells_for (length b)) t b true) (object_bytes t b)
unfolding object_bytes read_run
seg-object t b ht hb p q =
    let n : ℕ = cells_for (length b) in
    let m : ℕ = length b in
    let h : List ℕ = head_bytes 2 n m t b in
    let z : List ℕ = replicate (64 * n - (16 + m)) 0 in
    let em : head_length h ≡ m = head-blen 2 n m t b (omega arith) in
    let en : head_cells h ≡ n = head-len 2 n m t b (unfold cells_for in (omega arith)) in
    let eb : take (head_length h) (b ++ z) ≡ b = rw em (take_at b z m refl) in
    let past : (i : ℕ) → head_length h ≤ i → 16 + i < 64 * head_cells h → get_or (b ++ z) i 0 ≡ 0 =
    λ i l k. then-zeros b (64 * n - (16 + m)) i ∙ get_or-eq_default b 0 (omega arith) in
    record {
      read = rw (take_at h (b ++ z) 16 (head-length 2 n m t b), drop_at h (b ++ z) 16 (head-length 2 n m t b))
          (run-object h (b ++ z) b n t
          (record { kind = head-kind 2 n m t b (omega arith); some = rw em p; most = rw em q; len = en ∙ ap cells_for (sym em) })
          en (head-tag 2 n m t b ht) eb ((good-is h (b ++ z)).1 (record { chk = rw eb (head-chk 2 n m t b hb); zero = past })));
      len = length-append h (b ++ z) ∙ rw (head-length 2 n m t b, length-append b z, length-replicate {A = ℕ} (64 * n - (16 + m)) 0) (omega (arith, cells-hold m));
    }

-- ---- an object that is written into

-- the head's fields but the check and the tag stand in its first 8 bytes
pub same-front : (h k : List ℕ) → take 8 h ≡ take 8 k → ObjectSays k → (ObjectSays h) × (head_cells h ≡ head_cells k) × (head_length h ≡ head_length k)
same-front h k e s =
    let f : (n a : ℕ) → a + n ≤ 8 → field n h a ≡ field n k a = λ n a l.
    field-part n h a
    ∙ ap (λ (x : List ℕ). field n x 0) (sym (part-take a n 8 h l) ∙ ap (λ (x : List ℕ). take n (drop a x)) e ∙ part-take a n 8 k l)
    ∙ sym (field-part n k a) in
    let a : head_kind h ≡ head_kind k = f 2 0 (omega arith) in
    let b : head_cells h ≡ head_cells k = f 2 2 (omega arith) in
    let c : head_length h ≡ head_length k = f 4 4 (omega arith) in
    (record { kind = a ∙ s.kind; some = rw c s.some; most = rw c s.most; len = b ∙ s.len ∙ ap cells_for (sym c) }, b, c)

-- what an object's bytes are
pub record ObjectSeg (n t : ℕ) (b s : List ℕ) : Type 0 where
  pub pad : List ℕ
  pub rest : drop 16 s ≡ b ++ pad
  pub cut : s ≡ take 16 s ++ (b ++ pad)
  pub says : ObjectSays (take 16 s)
  pub len : head_cells (take 16 s) ≡ n
  pub tag : head_tag (take 16 s) ≡ t
  pub blen : head_length (take 16 s) ≡ length b
  pub long : 16 + length b ≤ length s

says-inv : {h rest : List ℕ} {r : Run} → Says h rest r → (n t : ℕ) (b : List ℕ) (g : Bool) → r ≡ object n t b g
    → (ObjectSays h) × (head_cells h ≡ n) × (head_tag h ≡ t) × (take (head_length h) rest ≡ b) × (good_in h rest ≡ g)
says-inv (says-free s) n t b g e = absurd (let z : ◌≡◌ {A = ℕ} 0 1 = cc in omega arith)
says-inv (says-object s) n t b g e = (s, cc, cc, cc, cc)

-- whether it is good
pub seg-good : {n t : ℕ} {b : List ℕ} {g : Bool} {s : List ℕ} → Seg (object n t b g) s → good_in (take 16 s) (drop 16 s) ≡ g
seg-good {n} {t} {b} {g} {s} q = (says-inv (read-says s (object n t b g) q.read) n t b g refl).4

pub seg-inv : (n t : ℕ) (b : List ℕ) (g : Bool) (s : List ℕ) → Seg (object n t b g) s → ObjectSeg n t b s
unfolding cells_for
seg-inv n t b g s q =
    let i = says-inv (read-says s (object n t b g) q.read) n t b g refl in
    let m : ℕ = head_length (take 16 s) in
    let k : 16 + m ≤ length s = omega (arith, seg-cells q, q.len) in
    let eb : m ≡ length b = sym (ap length (sym i.3) ∙ length-take-le m (drop 16 s) (rw (length-drop 16 s) (omega arith))) in
    let r : drop 16 s ≡ b ++ drop m (drop 16 s) = sym (take-append-drop m (drop 16 s)) ∙ ap (λ (x : List ℕ). x ++ drop m (drop 16 s)) i.3 in
    record {
      pad = drop m (drop 16 s);
      rest = r;
      cut = sym (take-append-drop 16 s) ∙ ap (λ (x : List ℕ). take 16 s ++ x) r;
      says = i.0;
      len = i.1;
      tag = i.2;
      blen = eb;
      long = omega arith;
    }

-- a good one has the right check
pub seg-right : {n t : ℕ} {b s : List ℕ} → Seg (object n t b true) s → head_check (take 16 s) ≡ check (covered (take 16 s) b)
seg-right {n} {t} {b} {s} q =
    let i = seg-inv n t b true s q in
    ((good-is (take 16 s) (drop 16 s)).0 (seg-good q)).chk ∙ ap (λ (x : List ℕ). check (covered (take 16 s) x)) (rw (i.rest, i.blen) (take_at b i.pad (length b) refl))

pub length-check_word : (h b : List ℕ) → 16 ≤ length h → length (check_word h b) ≡ 8
unfolding check_word
length-check_word h b k =
    length-append (digits 4 (check (covered h b))) (take 4 (drop 12 h)) ∙ rw (length_digits 4 (check (covered h b)), length-take 4 (drop 12 h), length-drop 12 h) (omega arith)

field-digits : (w : ℕ) → w < 256 ^ 4 → field 4 (digits 4 w) 0 ≡ w
unfolding field digits number
field-digits w h = number_digits 4 w h

pub check_word-bytes : (h b : List ℕ) → Bytes h → Bytes (check_word h b)
unfolding check_word
check_word-bytes h b p = bytes-append (digits 4 (check (covered h b))) (take 4 (drop 12 h)) (digits-byte 4 (check (covered h b))) (bytes_take 4 (drop 12 h) (bytes_drop 12 h p))

pub object-bytes : (t : ℕ) (b : List ℕ) → Bytes b → Bytes (object_bytes t b)
unfolding object_bytes
object-bytes t b p =
    bytes-append (head_bytes 2 (cells_for (length b)) (length b) t b) (b ++ replicate (64 * cells_for (length b) - (16 + length b)) 0) (head_bytes_lem 2 (cells_for (length b)) (length b) t b) (bytes-append b (replicate (64 * cells_for (length b) - (16 + length b)) 0) p (bytes-zeros (64 * cells_for (length b) - (16 + length b))))

-- a head with bytes 8 to 15 made anew
module _ (h b : List ℕ) (eh : length h ≡ 16) where
  head-again : List ℕ
  head-again = take 8 h ++ check_word h b

  again-eq : sets h 8 (check_word h b) ≡ head-again
  unfolding head-again
  again-eq =
      sets-eq (check_word h b) h 8 (rw (length-check_word h b (omega arith)) (omega arith))
      ∙ rw (length-check_word h b (omega arith)) (rw (drop_of_length-le h {i = 16} (omega arith)) (append-nil (take 8 h ++ check_word h b)))

  l8 : length (take 8 h) ≡ 8
  l8 = length-take-le 8 h (omega arith)

  again-length : length head-again ≡ 16
  unfolding head-again
  again-length = length-append (take 8 h) (check_word h b) ∙ rw (l8, length-check_word h b (omega arith))

  again-front : take 8 head-again ≡ take 8 h
  unfolding head-again
  again-front = take_at (take 8 h) (check_word h b) 8 l8

  again-back : drop 8 head-again ≡ check_word h b
  unfolding head-again
  again-back = drop_at (take 8 h) (check_word h b) 8 l8

  again-chk : Bytes h → Bytes b → head_check head-again ≡ check (covered h b)
  unfolding check_word
  again-chk p q =
      field-part 4 head-again 8
      ∙ ap (λ (x : List ℕ). field 4 x 0) (ap (λ (x : List ℕ). take 4 x) again-back ∙ take_at (digits 4 (check (covered h b))) (take 4 (drop 12 h)) 4 (length_digits 4 _))
      ∙ field-digits (check (covered h b)) (check-lt (covered h b) (covered-bytes h b p q))

  again-tag : take 4 (drop 12 head-again) ≡ take 4 (drop 12 h)
  unfolding check_word
  again-tag =
      ap (λ (x : List ℕ). take 4 x)
      (sym (drop-drop 4 8 head-again) ∙ ap (λ (x : List ℕ). drop 4 x) again-back ∙ drop_at (digits 4 (check (covered h b))) (take 4 (drop 12 h)) 4 (length_digits 4 _))
      ∙ take_all 4 (take 4 (drop 12 h)) (rw (length-take 4 (drop 12 h)) (omega arith))

pub seg-write : (n t : ℕ) (b s : List ℕ) → Seg (object n t b true) s → (o : ℕ) (xs : List ℕ) → o + length xs ≤ length b → Bytes s → Bytes xs
    → Seg (object n t (sets b o xs) true) (sets (sets s (16 + o) xs) 8 (check_word (take 16 s) (sets b o xs)))
unfolding read_run
seg-write n t b s q o xs fit hs hx =
    let i = seg-inv n t b true s q in
    let h : List ℕ = take 16 s in
    let eh : length h ≡ 16 = length-take-le 16 s (omega (arith, i.long)) in
    let c : List ℕ = sets b o xs in
    let w : List ℕ = check_word h c in
    let k : List ℕ = head-again h c eh in
    let e1 : sets s (16 + o) xs ≡ h ++ (c ++ i.pad) = ap (λ (x : List ℕ). sets x (16 + o) xs) i.cut ∙ sets-mid h b i.pad 16 o xs eh fit in
    let e2 : sets (sets s (16 + o) xs) 8 w ≡ k ++ (c ++ i.pad) =
    ap (λ (x : List ℕ). sets x 8 w) e1 ∙ sets-left h (c ++ i.pad) 8 w (rw (length-check_word h c (omega arith), eh) (omega arith))
    ∙ ap (λ (x : List ℕ). x ++ (c ++ i.pad)) (again-eq h c eh) in
    let hh : Bytes h = bytes_take 16 s hs in
    let hb : Bytes b = bytes_left b i.pad (bytes-right h (b ++ i.pad) (rw i.cut at hs)) in
    let hc : Bytes c = bytes-sets b o xs hb hx in
    let f = same-front k h (again-front h c eh) i.says in
    let read-k : run_of k (c ++ i.pad) ≡ some (object n t c true) =
    run-object k (c ++ i.pad) c n t f.0 (f.1 ∙ i.len) (field-part 4 k 12 ∙ ap (λ (x : List ℕ). field 4 x 0) (again-tag h c eh) ∙ sym (field-part 4 h 12) ∙ i.tag)
    (rw (f.2 ∙ i.blen) (take_at c i.pad (length b) (length-sets b o xs)))
    (good-written h k b c i.pad f.1 f.2 i.blen (length-sets b o xs) (rw i.rest at (seg-good q))
    (again-chk h c eh hh hc ∙ sym (ap₂ (λ (x y : List ℕ). check (x ++ (y ++ c))) (again-front h c eh) (again-tag h c eh)))) in
    record {
      read = rw (e2, take_at k (c ++ i.pad) 16 (again-length h c eh), drop_at k (c ++ i.pad) 16 (again-length h c eh)) read-k;
      len = length-sets (sets s (16 + o) xs) 8 w ∙ length-sets s (16 + o) xs ∙ q.len;
    }
