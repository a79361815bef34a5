-- The ways out of the calls on a transaction. Assumes nothing.
use Prim.Native.Nat.{ℕ, zero, suc, ◌≤◌}
use mathlib.Core.Path.{◌≡◌, refl, sym, ap, ◌∙◌}
use mathlib.Core.Option.{Option, none, some}
use mathlib.Core.List.{List, [], ◌∷◌, ◌++◌, append_assoc, append-nil}
use native.Mathlib.Omega.{arith}
use lib.ListN.{length}
use borrow.Author.Tests.{ne_eqb}
use Rattle.std.proofs.Common.{Result, Ok, Err}
use Rattle.rules.specs.Shape.{Shape as PoolShape}
use Rattle.rules.specs.Words.{Bytes}
use Rattle.rules.specs.Test.{Test, first}
use Rattle.rules.specs.Header.{id_in, open_tests, shape_in}
use Rattle.rules.specs.Seals.{read_tests}
use Rattle.rules.specs.Staging.{fresh, is_live, live, unusable, with_phase}
use Rattle.rules.specs.Answer.{After, Given, conclude}
use Rattle.rules.specs.Plan.{Call, Plan, plan}
use Rattle.rules.specs.Calls.{call, call_tests, conclude_start, entries_in, live_tests, record_tests, staged, transaction_start}
use Rattle.rules.proofs.Test.{Passed, first-left, first-passed, first-right, not-not, passed_first, passed-left, passed-right}
use Rattle.powercut.specs.Commit.{commit_on, commit_start, commit_step, commit_tests, start_answer, start_phase}
use Rattle.powercut.proofs.CommitOn.{commit-advances}
use Rattle.layout.specs.declared.Shape.{Shape}
use Rattle.layout.specs.Meaning.{answer, good, opened, refused, shape_of}
use Rattle.layout.proofs.Opening.{answer-good, answer-opened, answer-refused, open-good, open-long, open-refused, passed-open}
use Rattle.refusals.specs.declared.Refusal.{Refusal}
use Rattle.refusals.specs.Number.{number_of}
use Rattle.stage.specs.View.{entries_of, seen}
use Rattle.answers.specs.declared.Answer.TheVariants.{Taken}
use Rattle.answers.specs.declared.Staged.{Staged}
use Rattle.answers.specs.Planned.{Judged, Left, conclude_staged, left_of, many_test, planned}
use Rattle.record.specs.declared.Record.{Record}
use Rattle.record.specs.Meaning.{given, record_of}
use Rattle.record.proofs.Judging.{live-only, record-judged}
use Rattle.commit.specs.declared.Stepped.{Stepped}
use Rattle.commit.specs.Stepped as Commit
use Rattle.commit.specs.Stepped.{started_with}
use Rattle.transaction.specs.declared.Reply.{Reply}
use Rattle.transaction.specs.Meaning.{after_of, refused_back, staged_back, start_of, stepped_back}

-- ---- the beginning

module _ (p : List ℕ) where
  pub begin-long : (s : Shape) → answer (first (read_tests p)) (shape_in p) ≡ good (shape_of s) → 512 ≤ length p
  unfolding read_tests
  begin-long s d = open-long p (shape_of s) (answer-opened p _ d)

  pub begin-taken : (s : Shape) {i : ℕ} (t : Record) → answer (first (read_tests p)) (shape_in p) ≡ good (shape_of s) → i ≡ id_in p → record_of t ≡ fresh i
      → start_of (record { answer = Taken; transaction = record { txn = t } }) ≡ transaction_start p
  unfolding transaction_start conclude_start
  begin-taken s t d e q = rw ((answer-good (first (read_tests p)) (shape_in p) (shape_of s) d).0, q, e)

  pub begin-refused : (x : Refusal) {t : Record} {r : Reply} → answer (first (read_tests p)) (shape_in p) ≡ refused (number_of x) → record_of t ≡ unusable → r ≡ refused_back t x → start_of r ≡ transaction_start p
  unfolding transaction_start conclude_start
  begin-refused x d q h = rw (answer-refused (first (read_tests p)) (shape_in p) (number_of x) d, h, q)

-- ---- a call

-- A call that leaves y meets the tests ts first, then us; it leaves x where all pass.
pub record Meets (g : Given) (ts us : List Test) (x y : After) : Type 0 where
  pub concluded : y ≡ conclude g (first (ts ++ us)) x

-- ---- what each call meets

module _ (g : Given) where
  abbrev front : List Test
  front = record_tests g ++ live_tests g

  abbrev pl : Call → Plan
  pl k = plan (shape_in g.pool) (seen g.pool g.staging g.txn.count) (entries_of g.staging g.txn.count) k

  pub call-meets : (k : Call) → Meets g front ((pl k).tests ++ (many_test (pl k).entries ∷ [])) (record { answer = (pl k).answer; left = staged g (pl k).entries }) (call g k)
  unfolding call call_tests entries_in seen entries_of many_test
  call-meets k = record { concluded = rw append_assoc }

  abbrev begun : After
  begun = record { answer = start_answer g.txn.count; left = record { pool = g.pool; staging = g.staging; txn = with_phase g.txn (start_phase g.txn.count) } }

  pub start-meets : Meets g front [] begun (commit_start g)
  unfolding commit_start
  start-meets = record { concluded = rw append-nil }

  pub step-meets : (us : List Test) × (x : After) × Meets g (record_tests g) us x (commit_step g)
  unfolding commit_step commit_tests
  step-meets = (_, _, record { concluded = refl })

  -- a call up to the next barrier is refused as its first step is
  pub advance-meets : (us : List Test) × (x : After) × Meets g (record_tests g) us x (commit_on g)
  unfolding commit_tests
  advance-meets = (_, commit_on g, record { concluded = told (first (commit_tests g)) refl })
    where
      told : (o : Option ℕ) → first (commit_tests g) ≡ o → commit_on g ≡ conclude g o (commit_on g)
      told none e = unfold conclude in refl
      told (some i) e = unfold conclude commit_step in (commit-advances g).refuses i (rw e)

-- ---- the record judged, on a pool of the shape s: the tests of the record, then us

module _ (g : Given) (ts us : List Test) (q : ts ≡ record_tests g ++ us) where
  -- refused by the pool, or by the record
  pub pool-refused : (n : ℕ) → opened g.pool ≡ refused n → refused n ≡ answer (first ts) (shape_in g.pool)
  unfolding answer record_tests
  pool-refused n e =
      rw (q, first-left (record_tests g) us n (first-left (open_tests g.pool) _ n (open-refused g.pool n e)))

  pub record-refused : (n : ℕ) → some n ≡ first ts → refused n ≡ answer (first ts) (shape_in g.pool)
  unfolding answer
  record-refused n e = rw (← e)

  pub record-good : (s : Shape) → opened g.pool ≡ good (shape_of s) → none ≡ first ts → good (shape_of s) ≡ answer (first ts) (shape_in g.pool)
  unfolding answer
  record-good s e h = rw (← h, (open-good g.pool (shape_of s) e).2)

  -- passed
  module _ (s : Shape) (e : answer (first ts) (shape_in g.pool) ≡ good (shape_of s)) where
    passed : Passed (record_tests g ++ us)
    passed = first-passed (record_tests g ++ us) (ap first (sym q) ∙ (answer-good (first ts) (shape_in g.pool) (shape_of s) e).0)

    same-shape : shape_in g.pool ≡ shape_of s
    same-shape = (answer-good (first ts) (shape_in g.pool) (shape_of s) e).1

    recorded : Passed (record_tests g)
    recorded = passed-left (record_tests g) us passed

    pub record-passed : first (record_tests g) ≡ none
    record-passed = passed_first (record_tests g) recorded

    pub pool-opened : opened g.pool ≡ good (shape_of s)
    unfolding record_tests
    pool-opened = passed-open g.pool (passed-left (open_tests g.pool) _ recorded) ∙ ap good same-shape

-- the same of the pool as it was opened
module _ {p q : List ℕ} (b : q ≡ p) (st : List ℕ) (t : Record) {o : Option ℕ} where
  pub judged_same : o ≡ first (record_tests (given q st t)) → o ≡ first (record_tests (given p st t))
  judged_same e = rw b at e

  pub ready_same : o ≡ first (record_tests (given q st t) ++ live_tests (given q st t)) → o ≡ first (record_tests (given p st t) ++ live_tests (given p st t))
  ready_same e = rw b at e

-- the record is open
is_open : (g : Given) → Passed (live_tests g) → g.txn.phase ≡ live
unfolding live_tests
is_open g h = live-only g.txn.phase (not-not (is_live g.txn.phase) h.0)

-- ---- the two ways out: refused by the first tests, or done by the part below

module _ (p st : List ℕ) (t : Record) where
  abbrev g : Given
  g = given p st t

  pub refused-back : {ts us : List Test} {x y : After} → Meets g ts us x y → (r : Refusal) → first ts ≡ some (number_of r) → after_of (refused_back t r) p st ≡ y
  unfolding conclude
  refused-back {ts} {us} m r e = rw (m.concluded, first-left ts us (number_of r) e)

  module _ (s : Shape) (e : answer (first (front g)) (shape_in p) ≡ good (shape_of s)) where
    -- w: the pool as it was opened
    pub call-judged : {w : List ℕ} → w ≡ p → Bytes st → Judged (shape_of s) w st t.count
    call-judged b k = rw b (record-judged g (pool-opened g (front g) (live_tests g) refl s e) (record-passed g (front g) (live_tests g) refl s e) k)

    done_below : {us : List Test} {x y z : After} → Meets g (front g) us x y → z ≡ conclude g (first us) x → z ≡ y
    done_below {us} m q = q ∙ rw (m.concluded, first-right (front g) us (passed g (front g) (live_tests g) refl s e))

    pub staged-back : {w : List ℕ} → w ≡ p → (k : Call) {st' : List ℕ} (r : Result Staged Refusal) → left_of t.count r st' ≡ planned (shape_of s) w st t.count k → after_of (staged_back t r) p st' ≡ call g k
    unfolding planned
    staged-back b k {st'} r q =
        done_below (call-meets g k)
        (told r ∙ ap left ((rw b at q) ∙ ap (λ (z : PoolShape). planned z p st t.count k) (sym (same-shape g (front g) (live_tests g) refl s e))) ∙ both _ (pl g k))
      where
        left : Left → After
        left l = record { answer = l.answer; left = given p l.staging (record { id = t.id; count = l.count; phase = t.phase }) }

        told : (r : Result Staged Refusal) → after_of (staged_back t r) p st' ≡ left (left_of t.count r st')
        told (Ok x) = refl
        told (Err x) = refl

        both : (o : Option ℕ) (l : Plan) → left (conclude_staged st t.count o l.answer l.entries) ≡ conclude g o (record { answer = l.answer; left = staged g l.entries })
        both none l = unfold conclude_staged conclude staged in rw (is_open g (passed-right (record_tests g) (live_tests g) (passed g (front g) (live_tests g) refl s e)))
        both (some i) l = unfold conclude_staged conclude in refl

    pub started-back : (x : Stepped) → x ≡ started_with t → after_of (stepped_back t (Ok x)) p st ≡ commit_start g
    started-back x q = done_below (start-meets g) (rw q (both t.count refl))
      where
        both : (n : ℕ) → t.count ≡ n → after_of (stepped_back t (Ok (started_with t))) p st ≡ conclude g (first []) (begun g)
        both zero i = unfold started_with start_answer start_phase conclude first in rw i
        both (suc n) i = unfold started_with start_answer start_phase conclude first in rw (i, ne_eqb (suc n) 0 (λ e. omega arith))

pub stepped-back : (t : Record) (r : Result Stepped Refusal) {q st : List ℕ} {y : After} → Commit.after_of t r q st ≡ y → after_of (stepped_back t r) q st ≡ y
stepped-back t (Ok x) e = e
stepped-back t (Err x) e = e
