-- Every line has one reading; what each test in turn makes of it. Assumes nothing.
use Prim.Native.Nat.{ℕ, ◌≤◌, ◌<◌}
use mathlib.Core.Path.{◌≡◌, refl, sym, ap, ◌∙◌, subst}
use mathlib.Core.Logic.{◌≢◌, ◌⊎◌, inl, inr, ⊎_elim}
use mathlib.Core.Bool.{Bool, true, false, cond, ◌||◌}
use mathlib.Core.List.{List, [], ◌∷◌, ◌++◌, append-nil}
use native.Mathlib.Omega.{arith}
use lib.ListN.{length, take, drop, length-append, take-append-drop}
use lib.Seq.{take_at, drop_at}
use lib.Dec.{eqb, ltb, eqb-suc-zero}
use borrow.Author.Tests.{eq-eqb, eqb-true, le-ltb, lt-ltb, ltb-false, ltb-true, ne_eqb}
use Rattle.rules.specs.Words.{ascii}
use Rattle.rules.specs.Header.{within}
use Rattle.rules.proofs.Bool.{split}
use Rattle.errors.specs.Errors.{is_error, undefined_header}
use Rattle.lines.specs.Line.{Command, Form, OneReading, Reads, Spells, Stands, Verb, above, all_digits, alone, ask, asks, begins, blank, command, empty, fault, formed, good, header, is_query, last_number, line_limit, long, nothing, numbered, other, parameter, query, rcl, reading, recall, sav, save, spells, stands, unfilled, untyped, value}
use Rattle.lines.proofs.Numbers.{numbered-above, numbered-good, numbered-untyped}
use Rattle.lines.proofs.Words.{or_right, or_split, spells-append, spells-is, spells-length, spells-mark, spells-parts, spells-true, stands-is, stands-other}

-- ---- The tests in turn.

pub command-empty : (l : List ℕ) → length l ≡ 0 → command l ≡ nothing
unfolding command
command-empty l e = rw (eq-eqb (length l) 0 e)

module _ (l : List ℕ) (z : length l ≢ 0) where
  pub command-save : begins (header sav) l ≡ true → command l ≡ parameter sav (drop 4 l)
  unfolding command
  command-save s = rw (ne_eqb (length l) 0 z, s)

  pub command-recall : begins (header sav) l ≡ false → begins (header rcl) l ≡ true → command l ≡ parameter rcl (drop 4 l)
  unfolding command
  command-recall s r = rw (ne_eqb (length l) 0 z, s, r)

  pub command-query : begins (header sav) l ≡ false → begins (header rcl) l ≡ false → is_query l ≡ true → command l ≡ query
  unfolding command
  command-query s r q = rw (ne_eqb (length l) 0 z, s, r, q)

  pub command-other : begins (header sav) l ≡ false → begins (header rcl) l ≡ false → is_query l ≡ false → command l ≡ fault undefined_header
  unfolding command
  command-other s r q = rw (ne_eqb (length l) 0 z, s, r, q)

pub reading-long : (l : List ℕ) → line_limit < length l → reading l ≡ fault undefined_header
unfolding reading
reading-long l h = rw (lt-ltb line_limit (length l) h)

pub reading-short : (l : List ℕ) → length l ≤ line_limit → reading l ≡ command l
unfolding reading
reading-short l h = rw (le-ltb line_limit (length l) h)

-- ---- A line that begins with a header.

begins-header : (v : Verb) (w n : List ℕ) → Spells (header v) w → begins (header v) (w ++ n) ≡ true
unfolding begins
begins-header v w n s = rw (take_at w n (length (header v)) (spells-length (header v) w s)) (spells-is (header v) w s)

-- The two headers differ in their second letters.
begins-other : (w n : List ℕ) → Spells (header rcl) w → begins (header sav) (w ++ n) ≡ false
unfolding begins spells stands within
begins-other [] n s = absurd s
begins-other (a ∷ []) n s = absurd s.1
begins-other (a ∷ b ∷ w) n s = rw (stands-is 42 a s.0, stands-other 82 83 b refl refl s.1.0)

header-command : (v : Verb) (w n : List ℕ) → Spells (header v) w → command (w ++ n) ≡ parameter v n
header-command sav w n s =
    let e = spells-length (header sav) w s in
    command-save (w ++ n) (rw (length-append w n) (omega arith)) (begins-header sav w n s) ∙ ap (parameter sav) (drop_at w n 4 e)
header-command rcl w n s =
    let e = spells-length (header rcl) w s in
    command-recall (w ++ n) (rw (length-append w n) (omega arith)) (begins-other w n s) (begins-header rcl w n s) ∙ ap (parameter rcl) (drop_at w n 4 e)

-- ---- The query.

abbrev First : List ℕ → Type 0
First s = Spells (ascii "SYST") s ⊎ Spells (ascii "SYSTEM") s

abbrev Second : List ℕ → Type 0
Second e = Spells (ascii "ERR") e ⊎ Spells (ascii "ERROR") e

-- Two words, or what stands for them, as a query.
abbrev asked : List ℕ → List ℕ → List ℕ
asked s e = s ++ (ascii ":" ++ (e ++ ascii "?"))

asked_is : (u v s e : List ℕ) → Spells u s → Spells v e → spells (asked u v) (asked s e) ≡ true
asked_is u v s e p q =
    let m : Spells (ascii "?") (ascii "?") = (inl refl, tt) in
    let c : Spells (ascii ":") (ascii ":") = (inl refl, tt) in
    spells-is (asked u v) (asked s e)
    (spells-append u (ascii ":" ++ (v ++ ascii "?")) s (ascii ":" ++ (e ++ ascii "?")) p
    (spells-append (ascii ":") (v ++ ascii "?") (ascii ":") (e ++ ascii "?") c (spells-append v (ascii "?") e (ascii "?") q m)))

query-is : (s e : List ℕ) → First s → Second e → is_query (asked s e) ≡ true
unfolding is_query
query-is s e (inl p) (inl q) = rw (asked_is (ascii "SYST") (ascii "ERR") s e p q)
query-is s e (inl p) (inr q) = simp (asked_is (ascii "SYST") (ascii "ERROR") s e p q, or_right)
query-is s e (inr p) (inl q) = simp (asked_is (ascii "SYSTEM") (ascii "ERR") s e p q, or_right)
query-is s e (inr p) (inr q) = simp (asked_is (ascii "SYSTEM") (ascii "ERROR") s e p q, or_right)

-- No header begins with an S.
begins-none : (v : Verb) (b : ℕ) (l : List ℕ) → Stands 83 b → begins (header v) (b ∷ l) ≡ false
unfolding begins spells stands within
begins-none sav b l s = rw (stands-other 83 42 b refl refl s)
begins-none rcl b l s = rw (stands-other 83 42 b refl refl s)

asked-command : (s e : List ℕ) → First s → Second e → command (asked s e) ≡ query
asked-command [] e p q = ⊎_elim (λ h. absurd h) (λ h. absurd h) p
asked-command (b ∷ s) e p q =
    let h : Stands 83 b = ⊎_elim (λ h. h.0) (λ h. h.0) p in
    command-query (asked (b ∷ s) e) (omega arith) (begins-none sav b (asked s e) h) (begins-none rcl b (asked s e) h) (query-is (b ∷ s) e p q)

-- ---- A form's command is the line's, and it is never an undefined header.

form-reads : {l : List ℕ} {c : Command} → Form l c → c ≡ command l
unfolding command parameter numbered
form-reads empty = refl
form-reads (alone v w s) = sym (rw append-nil at (header-command v w [] s))
form-reads (unfilled v w s) = sym (header-command v w (blank ∷ []) s)
form-reads (untyped v w n s e) = sym (header-command v w (blank ∷ n) s ∙ numbered-untyped v n e)
form-reads (above v w n s e h) = sym (header-command v w (blank ∷ n) s ∙ numbered-above v n e (omega arith))
form-reads (good v w d n s e h) = sym (header-command v w (blank ∷ d ∷ n) s ∙ numbered-good v (d ∷ n) (omega arith) e (omega arith))
form-reads (ask s e p q) = sym (asked-command s e p q)

abbrev undefined : Command → Bool
undefined nothing = false
undefined (save n) = false
undefined (recall n) = false
undefined query = false
undefined (fault e) = eqb e undefined_header

form-defined : {l : List ℕ} {c : Command} → Form l c → undefined c ≡ false
form-defined empty = refl
form-defined (alone v w s) = refl
form-defined (unfilled v w s) = refl
form-defined (untyped v w n s e) = refl
form-defined (above v w n s e h) = refl
form-defined (good sav w d n s e h) = refl
form-defined (good rcl w d n s e h) = refl
form-defined (ask s e p q) = refl

-- ---- A line has a form, or its command is an undefined header.

abbrev Formed : List ℕ → Command → Type 0
Formed l c = Form l c ⊎ (c ≡ fault undefined_header)

choose : (P : Command → Type 0) (b : Bool) {x y : Command} → (b ≡ true → P x) → (b ≡ false → P y) → P (cond b x y)
choose P true f g = f refl
choose P false f g = g refl

module _ (v : Verb) (w : List ℕ) (s : Spells (header v) w) where
  numbered-formed : (n : List ℕ) → Form (w ++ (blank ∷ n)) (numbered v n)
  unfolding numbered
  numbered-formed [] = unfilled v w s
  numbered-formed (d ∷ n) =
      choose (Form (w ++ (blank ∷ d ∷ n))) (all_digits (d ∷ n))
      (λ e. choose (Form (w ++ (blank ∷ d ∷ n))) (ltb last_number (value (d ∷ n))) (λ t. above v w (d ∷ n) s e (omega (arith, ltb-true))) (λ t. good v w d n s e (omega (arith, ltb-false))))
      (λ e. untyped v w (d ∷ n) s e)

  parameter-formed : (n : List ℕ) → Formed (w ++ n) (parameter v n)
  unfolding parameter
  parameter-formed [] = inl (rw append-nil (alone v w s))
  parameter-formed (b ∷ n) =
      choose (Formed (w ++ (b ∷ n))) (eqb b blank)
      (λ t. rw (eqb-true b blank t) (inl (numbered-formed n)))
      (λ t. inr refl)

header-formed : (v : Verb) (l : List ℕ) → spells (header v) (take 4 l) ≡ true → Formed l (parameter v (drop 4 l))
header-formed v l e = subst (λ (k : List ℕ). Formed k (parameter v (drop 4 l))) (take-append-drop 4 l) (parameter-formed v (take 4 l) (spells-true (header v) (take 4 l) e) (drop 4 l))

query-formed : (u v : List ℕ) → ((s : List ℕ) → Spells u s → First s) → ((e : List ℕ) → Spells v e → Second e) → (l : List ℕ) → spells (asked u v) l ≡ true → Form l query
unfolding within
query-formed u v f g l t =
    let p = spells-parts u (ascii ":" ++ (v ++ ascii "?")) l (spells-true (asked u v) l t) in
    let q = spells-parts (ascii ":") (v ++ ascii "?") p.back p.second in
    let r = spells-parts v (ascii "?") q.back q.second in
    rw (p.joined, q.joined, spells-mark 58 q.front refl q.first, r.joined, spells-mark 63 r.back refl r.second)
    (ask p.front r.front (f p.front p.first) (g r.front r.first))

query-found : (l : List ℕ) → is_query l ≡ true → Form l query
unfolding is_query
query-found l e =
    ⊎_elim (query-formed (ascii "SYST") (ascii "ERR") (λ s p. inl p) (λ e p. inl p) l)
    (λ f. ⊎_elim (query-formed (ascii "SYST") (ascii "ERROR") (λ s p. inl p) (λ e p. inr p) l)
    (λ g. ⊎_elim (query-formed (ascii "SYSTEM") (ascii "ERR") (λ s p. inr p) (λ e p. inl p) l)
    (query-formed (ascii "SYSTEM") (ascii "ERROR") (λ s p. inr p) (λ e p. inr p) l)
    (or_split (spells (ascii "SYSTEM:ERR?") l) (spells (ascii "SYSTEM:ERROR?") l) g))
    (or_split (spells (ascii "SYST:ERROR?") l) (spells (ascii "SYSTEM:ERR?") l || spells (ascii "SYSTEM:ERROR?") l) f))
    (or_split (spells (ascii "SYST:ERR?") l) (spells (ascii "SYST:ERROR?") l || (spells (ascii "SYSTEM:ERR?") l || spells (ascii "SYSTEM:ERROR?") l)) e)

command-formed : (l : List ℕ) → Formed l (command l)
unfolding command begins
command-formed [] = inl empty
command-formed (b ∷ l) =
    let P = Formed (b ∷ l) in
    rw (eqb-suc-zero (length l))
    (choose P (begins (header sav) (b ∷ l)) (header-formed sav (b ∷ l)) λ _.
    choose P (begins (header rcl) (b ∷ l)) (header-formed rcl (b ∷ l)) λ _.
    choose P (is_query (b ∷ l)) (λ t. inl (query-found (b ∷ l) t)) λ _. inr refl)

-- ---- One reading.

reads-command : (l : List ℕ) → length l ≤ line_limit → Reads l (command l)
reads-command l h =
    ⊎_elim (formed h)
    (λ e. rw e (other h (λ c f. let z : true ≡ false = ap undefined (sym (form-reads f ∙ e)) ∙ form-defined f in let y : ◌≡◌ {A = ℕ} 0 1 = cc in omega arith)))
    (command-formed l)

only-reading : (l : List ℕ) (c : Command) → Reads l c → c ≡ reading l
only-reading l c (long h) = sym (reading-long l h)
only-reading l c (formed h f) = form-reads f ∙ sym (reading-short l h)
only-reading l c (other h f) = ⊎_elim (λ g. absurd (f (command l) g)) (λ e. sym (reading-short l h ∙ e)) (command-formed l)

pub one-reading : OneReading
one-reading =
    record {
      reads = λ l. split (ltb line_limit (length l)) (λ t. let h = ltb-true line_limit (length l) t in rw (reading-long l h) (long h)) (λ t. let h = ltb-false line_limit (length l) t in rw (reading-short l h) (reads-command l h));
      only = only-reading;
    }

-- ---- A number read is at most 9.

abbrev number_in : Command → ℕ
number_in nothing = 0
number_in (save n) = n
number_in (recall n) = n
number_in query = 0
number_in (fault e) = 0

number-asked : (v : Verb) (n : ℕ) → number_in (asks v n) ≡ n
number-asked sav n = refl
number-asked rcl n = refl

form-number : {l : List ℕ} {c : Command} → Form l c → number_in c ≤ last_number
form-number empty = omega arith
form-number (alone v w s) = omega arith
form-number (unfilled v w s) = omega arith
form-number (untyped v w n s e) = omega arith
form-number (above v w n s e h) = omega arith
form-number (good v w d n s e h) = rw (number-asked v (value (d ∷ n))) h
form-number (ask s e p q) = omega arith

reads-number : (l : List ℕ) {c : Command} → Reads l c → number_in c ≤ last_number
reads-number l (long h) = omega arith
reads-number l (formed h f) = form-number f
reads-number l (other h f) = omega arith

pub reading-number : (v : Verb) (l : List ℕ) (n : ℕ) → reading l ≡ asks v n → n ≤ last_number
reading-number v l n e = rw (number-asked v n) at (reads-number l (rw e at (one-reading.reads l)))

-- ---- A line that is an error is one of the six.

abbrev known : Command → Bool
known nothing = true
known (save n) = true
known (recall n) = true
known query = true
known (fault e) = is_error e

form-known : {l : List ℕ} {c : Command} → Form l c → known c ≡ true
unfolding is_error
form-known empty = refl
form-known (alone v w s) = refl
form-known (unfilled v w s) = refl
form-known (untyped v w n s e) = refl
form-known (above v w n s e h) = refl
form-known (good sav w d n s e h) = refl
form-known (good rcl w d n s e h) = refl
form-known (ask s e p q) = refl

reads_known : {l : List ℕ} {c : Command} → Reads l c → known c ≡ true
unfolding is_error
reads_known (long h) = refl
reads_known (formed h f) = form-known f
reads_known (other h f) = refl

pub reading-error : (l : List ℕ) (e : ℕ) → reading l ≡ fault e → is_error e ≡ true
reading-error l e i = rw i at (reads_known (one-reading.reads l))
