-- A transaction begun with some staging memory: the ways out. Assumes nothing.
use Prim.Native.Nat.{ℕ, ◌≤◌, ◌<◌}
use mathlib.Core.Path.{◌≡◌, refl, sym, ap, ◌∙◌, subst}
use mathlib.Core.Bool.{Bool, true, false, not, ◌||◌, cond}
use mathlib.Core.Option.{Option, none, some}
use mathlib.Core.List.{List, [], ◌∷◌, ◌++◌}
use native.Mathlib.Omega.{arith}
use lib.Dec.{eqb, ltb}
use borrow.Author.Tests.{le-ltb, lt-ltb, ne_eqb}
use Rattle.rules.specs.Shape.{staging_size}
use Rattle.rules.specs.Test.{Test, first, when}
use Rattle.rules.specs.Header.{id_in, open_tests, shape_in}
use Rattle.rules.specs.Seals.{read_tests, seal_test, unsealed}
use Rattle.rules.specs.Staging.{fresh}
use Rattle.rules.specs.Answer.{Answer, is_refused, refused, taken}
use Rattle.rules.specs.Calls.{TransactionStart, conclude_start, transaction_start}
use Rattle.rules.proofs.Bool.{split}
use Rattle.rules.proofs.Test.{first-left, first-passed, first-right}
use Rattle.std.proofs.Common.{is_ok, Result, Ok, Err, MatchResult}
use Rattle.std.specs.Result.{IsOkAnd}
use Rattle.refusals.specs.declared.Refusal.{Refusal}
use Rattle.refusals.specs.declared.Refusal.TheVariants as R
use Rattle.refusals.specs.Listed.{is_listed}
use Rattle.refusals.specs.Number.{number_of}
use Rattle.refusals.proofs.Cases.{listed_own}
use Rattle.answers.specs.declared.Answer.TheVariants.{Refused}
use Rattle.answers.specs.Meaning.{answer_of, value_of}
use Rattle.transaction.specs.declared.Transaction.{Transaction}
use Rattle.transaction.specs.declared.Reply.{Reply}
use Rattle.transaction.specs.Meaning.{start_of}
use Rattle.setups.specs.Found.{Accepted, begun_in, begun_of, refused_start, room_tests}

-- ---- tests

-- a test that does not apply, behind others
pub first-skip : (ts us : List Test) (b : Bool) (n : ℕ) → b ≡ false → first (ts ++ (when b n ∷ us)) ≡ first (ts ++ us)
unfolding first
first-skip [] us b n e = rw e
first-skip (when c m ∷ ts) us b n e = ap (λ (o : Option ℕ). cond c (some m) o) (first-skip ts us b n e)

-- the numbers of a list of tests are at most k, and so is the one given
abbrev AtMost : ℕ → List Test → Type 0
AtMost k [] = Unit {0}
AtMost k (when b n ∷ ts) = (n ≤ k) × AtMost k ts

first-most : (k : ℕ) (ts : List Test) (m : ℕ) → AtMost k ts → first ts ≡ some m → m ≤ k
unfolding first
first-most k [] m h e = absurd (let z : ◌≡◌ {A = ℕ} 0 1 = cc in omega arith)
first-most k (when true n ∷ ts) m h e = let z : n ≡ m = cc in omega (arith, h.0)
first-most k (when false n ∷ ts) m h e = first-most k ts m h.1 e

open-most : (p : List ℕ) (m : ℕ) → first (open_tests p) ≡ some m → m ≤ 4
unfolding open_tests
open-most p m e = first-most 4 (open_tests p) m (omega arith, (omega arith, (omega arith, (omega arith, tt)))) e

-- ---- what the beginning r hands back, or its refusal m

module _ (p : List ℕ) (r : Reply) (e : start_of r ≡ transaction_start p) where
  refused-start : (o : Option ℕ) → first (read_tests p) ≡ o → (x : Refusal) → r.answer ≡ Refused x → refused_start (number_of x) ≡ transaction_start p
  unfolding transaction_start conclude_start
  refused-start none q x h =
      let i : start_of r ≡ record { answer = taken; txn = fresh (id_in p) } = e ∙ rw q in
      let k : refused (number_of x) ≡ taken = ap answer_of (sym h) ∙ ap (λ (s : TransactionStart). s.answer) i in
      absurd (let z : ◌≡◌ {A = ℕ} 0 1 = cc in omega arith)
  refused-start (some n) q x h =
      let i : start_of r ≡ refused_start n = e ∙ rw q in
      let k : refused (number_of x) ≡ refused n = ap answer_of (sym h) ∙ ap (λ (s : TransactionStart). s.answer) i in
      rw q (ap refused_start {x = number_of x} {y = n} cc)

  taken-start : (o : Option ℕ) → first (read_tests p) ≡ o → is_refused (answer_of r.answer) ≡ false → begun_of (Ok r.transaction) ≡ transaction_start p
  unfolding transaction_start conclude_start is_refused
  taken-start none q f =
      let i : start_of r ≡ record { answer = taken; txn = fresh (id_in p) } = e ∙ rw q in
      rw q (ap (λ (s : TransactionStart). record { answer = taken; txn = s.txn }) i)
  taken-start (some n) q f =
      let i : start_of r ≡ refused_start n = e ∙ rw q in
      let k : true ≡ false = sym (ap (λ (s : TransactionStart). is_refused s.answer) i) ∙ f in
      absurd (let z : ◌≡◌ {A = ℕ} 0 1 = cc in omega arith)

  begun-taken : {m : Result Reply Refusal} (b : Reply) → Accepted r m → m ≡ Ok b → begun_of (Ok b.transaction) ≡ transaction_start p
  begun-taken b a q =
      let i = subst (Accepted r) q a in
      ap (λ (x : Reply). begun_of (Ok x.transaction)) i.0 ∙ taken-start (first (read_tests p)) refl i.1

  pub begun-refused : {m : Result Reply Refusal} (x : Refusal) → Accepted r m → m ≡ Err x → begun_of (Err x) ≡ transaction_start p
  begun-refused x a q = refused-start (first (read_tests p)) refl x (subst (Accepted r) q a)

  -- the transaction that it hands back, or the refusal
  pub begun-handed : {Q : Reply → Transaction → Type 0} (m : Result Reply Refusal) (n : Result Transaction Refusal) → Accepted r m → MatchResult m (λ b. IsOkAnd n (Q b)) (λ x. n ≡ Err x)
      → ((b : Reply) (t : Transaction) → Q b t → t ≡ b.transaction) → begun_of n ≡ transaction_start p
  begun-handed (Ok b) (Ok t) a h f = ap (λ (x : Transaction). begun_of (Ok x)) (f b t h) ∙ begun-taken b a refl
  begun-handed (Ok b) (Err x) a h f = absurd h
  begun-handed (Err x) n a h f = ap begun_of h ∙ begun-refused x a refl

-- ---- the ways out

-- Whether a beginning that answers so met a pool that opens: it is taken, or refused with 21.
unfoldable opens_with : Answer → Bool
opens_with a = not (is_refused a) || eqb (value_of a) 21

module _ (p : List ℕ) (room : ℕ) {x : TransactionStart} (e : x ≡ transaction_start p) where
  pub begun-room : staging_size ≤ room → x ≡ begun_in p room
  unfolding begun_in room_tests transaction_start read_tests
  begun-room h = e ∙ ap (λ (o : Option ℕ). conclude_start o (fresh (id_in p))) (sym (first-skip (open_tests p) (seal_test p ∷ []) (ltb room staging_size) 9 (le-ltb room staging_size h)))

  -- with less staging memory: 9 where the pool opens, since the beginning is taken or refused with 21, else its own refusal
  short : room < staging_size → (o : Option ℕ) → first (open_tests p) ≡ o → begun_in p room ≡ cond (opens_with x.answer) (refused_start 9) x
  unfolding begun_in transaction_start conclude_start opens_with is_refused first
  short h (some m) q =
      let a : first (room_tests p room) ≡ some m = (unfold room_tests in (first-left (open_tests p) _ m q)) in
      let b : first (read_tests p) ≡ some m = (unfold read_tests in (first-left (open_tests p) (seal_test p ∷ []) m q)) in
      rw (e, a, b, ne_eqb m 21 (λ z. let k = open-most p m q in omega arith))
  short h none q =
      let a : first (room_tests p room) ≡ some 9 = (unfold room_tests first in (first-right (open_tests p) _ (first-passed (open_tests p) q) ∙ rw (lt-ltb room staging_size h))) in
      let b : first (read_tests p) ≡ first (seal_test p ∷ []) = (unfold read_tests in (first-right (open_tests p) (seal_test p ∷ []) (first-passed (open_tests p) q))) in
      split (unsealed (shape_in p) p) (λ u. rw (e, a, b, u)) (λ u. rw (e, a, b, u))

  stops : room < staging_size → opens_with x.answer ≡ true → refused_start 9 ≡ begun_in p room
  stops h f = sym (short h (first (open_tests p)) refl ∙ rw f)

  goes-out : room < staging_size → opens_with x.answer ≡ false → x ≡ begun_in p room
  goes-out h f = sym (short h (first (open_tests p)) refl ∙ rw f)

-- 21 is no other refusal's number
only-sealed : (x : Refusal) → (x ≡ R.Sealed → ⊥) → number_of x ≡ 21 → ⊥
unfolding is_listed
only-sealed x h e = h (listed_own R.Sealed x refl e)

module _ (p : List ℕ) (room : ℕ) (h : room < staging_size) where
  pub begun-short : (r : Reply) → start_of r ≡ transaction_start p → (m : Result Reply Refusal) → Accepted r m → is_ok m ≡ true → refused_start 9 ≡ begun_in p room
  unfolding opens_with is_refused
  begun-short r e (Ok b) a i = stops p room (begun-taken p r e b a refl) h refl
  begun-short r e (Err x) a i = cc i

  pub begun-sealed : begun_of (Err R.Sealed) ≡ transaction_start p → refused_start 9 ≡ begun_in p room
  unfolding opens_with is_refused
  begun-sealed e = stops p room e h refl

  pub begun-unopened : (x : Refusal) → (x ≡ R.Sealed → ⊥) → begun_of (Err x) ≡ transaction_start p → begun_of (Err x) ≡ begun_in p room
  unfolding opens_with is_refused
  begun-unopened x n e = goes-out p room e h (ne_eqb (number_of x) 21 (only-sealed x n))
