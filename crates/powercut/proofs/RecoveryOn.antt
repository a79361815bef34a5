-- A recovery up to the next barrier (`recovery-advances`), for all inputs: only its first step can be refused, since each store of a part
-- leaves what the next step is judged by, the headers and, while data or parity is stored, the log. Assumes nothing.
use mathlib.Core.Path.{◌≡◌, refl, sym, ap, ap₂, ◌∙◌, subst}
use mathlib.Core.Logic.{◌⊎◌, inl, inr}
use mathlib.Core.Bool.{true, false}
use mathlib.Core.Option.{Option, none, some}
use mathlib.Core.List.{List, [], ◌∷◌, ◌++◌, map}
use Prim.Native.Nat.{ℕ, zero, suc, ◌+◌, ◌-◌, ◌*◌, ◌≤◌, ◌<◌}
use native.Mathlib.Nat.{not-suc-le-zero}
use native.Mathlib.Omega.{arith}
use lib.ListN.{length, get_or}
use borrow.Author.Tests.{le-ltb, lt-ltb, ltb-false, ne_eqb}
use Rattle.rules.specs.Words.{word}
use Rattle.rules.specs.Shape.{Shape, entry_limit, entry_size, log_a, log_b, log_head, zones_at}
use Rattle.rules.specs.Test.{first}
use Rattle.rules.specs.Header.{id_in, open_tests, shape_in}
use Rattle.rules.specs.Staging.{Store, entries_at, good_targets}
use Rattle.rules.specs.Answer.{is_refused, refused}
use Rattle.rules.proofs.Bool.{split}
use Rattle.rules.proofs.Test.{Passed, first-passed, passed_first}
use Rattle.rules.proofs.Shape.{Good}
use Rattle.rules.proofs.Words.{put-out}
use Rattle.rules.proofs.Header.{SameHeaders, id_same, passed-good, shape_same, tests_same}
use Rattle.rules.proofs.Transaction.{entries-count}
use Rattle.powercut.specs.Log.{Log, count_in, from_a, from_b, log_at, log_entries, valid}
use Rattle.powercut.specs.Steps.{Remedy, Step, barrier, clear, neither, nothing, recovery_steps, redo, replay, seals, step_pool, steps_made, store}
use Rattle.powercut.specs.Commit.{is_stored, step_answer}
use Rattle.powercut.specs.Recovery.{Progress, Recovery, RecoveryAfter, conclude_recovery, count_above, done_steps, finished, is_recovering, log_lost, next_progress, recovering, recovery_list, recovery_more, recovery_next, recovery_on, recovery_step, recovery_tests, with_progress}
use Rattle.powercut.specs.WholeRun.{Accepted}
use Rattle.powercut.specs.Requirements.{KeepsRecovery}
use Rattle.powercut.specs.Advance.{RecoveryAdvances, between, recovery_barrier, recovery_made, redo_barrier}
use Rattle.powercut.proofs.StepCount.{redo-tail, replay-count}
use Rattle.powercut.proofs.Logs.{judged-kept, log-targets}
use Rattle.powercut.proofs.Answers.{Possible, accepted-again, again-none, again-passed, again-possible, answer-not-refused, done-is, log-past, log-there, progress-on}
use Rattle.powercut.proofs.Refusals.{recovery-step-refused, refused-is}
use Rattle.powercut.proofs.Between.{made-here, made-next}
use Rattle.powercut.proofs.Parts.{RedoPart, clears, data-words, answer-barrier, answer-stored, is_store, parity-words, redo-ends, redo-high, redo-low, redo-part, redo-stays, redo-store}
use Rattle.powercut.proofs.Untouched.{Untouched, clear-from, entries-same, entries-untouched, headers-untouched, redo-from, redo-in-zones, step-untouched, word-untouched}

-- ---- the part of a step

pub record Part (xs : List Step) (w : Remedy) (k : ℕ) : Type 0 where
  pub low : k ≤ recovery_barrier w k
  pub high : recovery_barrier w k < length xs
  stays : k < recovery_barrier w k → recovery_barrier w (suc k) ≡ recovery_barrier w k
  stores : k < recovery_barrier w k → is_store (get_or xs k barrier) ≡ true
  ends : get_or xs (recovery_barrier w k) barrier ≡ barrier

pub part_of : (sh : Shape) (p : List ℕ) (w : Remedy) (k : ℕ) → k < length (recovery_steps sh p w) → Part (recovery_steps sh p w) w k
unfolding recovery_steps recovery_barrier
part_of sh p (replay l n) k h =
    let c = replay-count sh p l n in
    let es : List Store = entries_at p (log_at sh l + log_head) n in
    let m : length es ≡ n = entries-count p (log_at sh l + log_head) n in
    record {
      low = redo-low n k (omega arith);
      high = let e = redo-high n k in omega arith;
      stays = redo-stays n k;
      stores = λ i. redo-store sh es k (rw m i);
      ends = ap (λ (j : ℕ). get_or (redo sh es) (redo_barrier j k) barrier) (sym m) ∙ redo-ends sh es k;
    }
part_of sh p clear k h = record { low = omega arith; high = omega arith; stays = λ i. refl; stores = seal k; ends = refl }
  where
    seal : (k : ℕ) → k < 2 → is_store (get_or (map store (seals sh 0) ++ barrier ∷ []) k barrier) ≡ true
    seal zero i = refl
    seal (suc zero) i = refl
    seal (suc (suc k)) i = absurd (omega arith)
part_of sh p nothing k h = absurd (not-suc-le-zero h)
part_of sh p neither k h = absurd (not-suc-le-zero h)

-- ---- what a store of the part leaves

-- q is left by step k of the part, and meets the same list; its log is not lost
record Kept (sh : Shape) (q p : List ℕ) (w : Remedy) (k : ℕ) : Type 0 where
  front : Untouched (log_a sh) q p
  list : recovery_steps sh q w ≡ recovery_steps sh p w
  log : log_lost sh q w (suc k) ≡ false

-- the entries of a log stay where its seal is cleared
module _ (sh : Shape) (g : Good sh) (p : List ℕ) (l : Log) (n : ℕ) (f : n ≤ entry_limit) where
  entries-cleared : (a : ℕ) → (a ≡ log_a sh) ⊎ (a ≡ log_b sh) → entries_at (step_pool sh (store (record { at = a; val = 0 })) p) (log_at sh l + log_head) n ≡ entries_at p (log_at sh l + log_head) n
  entries-cleared a e =
      entries-same _ p (log_at sh l + log_head) (log_at sh l + log_head) n (λ i h. put-out p a 0 (log_at sh l + log_head + i) (away l e i h))
    where
      away : (l : Log) → (a ≡ log_a sh) ⊎ (a ≡ log_b sh) → (i : ℕ) → i < entry_size * n → (log_at sh l + log_head + i < a) ⊎ (a + 8 ≤ log_at sh l + log_head + i)
      away from_a (inl e) i h = inr (omega arith)
      away from_a (inr e) i h = let m = g.page-min in inl (omega arith)
      away from_b (inl e) i h = inr (omega arith)
      away from_b (inr e) i h = inr (omega arith)

  abbrev next : ℕ → Step
  next k = get_or (recovery_steps sh p (replay l n)) k barrier

  -- a seal is cleared: the log is not judged
  seal-keeps : (a k : ℕ) → (a ≡ log_a sh) ⊎ (a ≡ log_b sh) → log_a sh ≤ a → 2 * n + 2 ≤ k → Kept sh (step_pool sh (store (record { at = a; val = 0 })) p) p (replay l n) k
  unfolding recovery_steps
  seal-keeps a k e h i = record {
    front = step-untouched sh (log_a sh) (store (record { at = a; val = 0 })) p h;
    list = ap (redo sh) (entries-cleared a e);
    log = log-past sh _ l n (suc k) (le-ltb (suc k) (2 * n + 2) (omega arith));
  }

  clears-keep : (k : ℕ) → 2 * n + 1 < k → k < 2 * n + 4 → Kept sh (step_pool sh (next k) p) p (replay l n) k
  unfolding recovery_steps
  clears-keep k i h = go (k - (2 * n + 2)) (omega arith)
    where
      es : List Store
      es = entries_at p (log_at sh l + log_head) n

      tail : (j : ℕ) → k ≡ 2 * n + 2 + j → next k ≡ get_or (store (record { at = log_a sh; val = 0 }) ∷ store (record { at = log_b sh; val = 0 }) ∷ barrier ∷ []) j barrier
      tail j e =
          ap (λ (i : ℕ). get_or (redo sh es) i barrier) (let c = entries-count p (log_at sh l + log_head) n in omega arith) ∙ redo-tail sh es (suc j)

      go : (j : ℕ) → k ≡ 2 * n + 2 + j → Kept sh (step_pool sh (next k) p) p (replay l n) k
      go zero e = rw (tail 0 e) (seal-keeps (log_a sh) k (inl refl) (omega arith) (omega arith))
      go (suc zero) e = rw (tail 1 e) (seal-keeps (log_b sh) k (inr refl) (omega arith) (omega arith))
      go (suc (suc j)) e = absurd (omega arith)

  -- data or parity is stored: the log stays
  words-keep : (k : ℕ) → k < 2 * n + 1 → log_lost sh p (replay l n) k ≡ false → Kept sh (step_pool sh (next k) p) p (replay l n) k
  unfolding recovery_steps log_lost
  words-keep k i e =
      record {
        front = step-untouched sh (log_a sh) (next k) p (redo-from sh g (entries_at p (b + log_head) n) targets k);
        list = ap (redo sh) same_entries;
        log = log-there sh (step_pool sh (next k) p) l n (suc k) (lt-ltb (suc k) (2 * n + 2) (omega arith)) same-valid (ap count_in same_word ∙ kept.1);
      }
    where
      b : ℕ
      b = log_at sh l

      q : List ℕ
      q = step_pool sh (next k) p

      kept : (valid sh p (log_at sh l) ≡ true) × (count_in (word p (log_at sh l)) ≡ n)
      kept = judged-kept k (2 * n + 2) (valid sh p (log_at sh l)) (count_in (word p (log_at sh l))) n e (omega arith)

      targets : good_targets sh (entries_at p (b + log_head) n) ≡ true
      targets = rw kept.1 at (log-targets sh p (log_at sh l) kept.0)

      stays : Untouched (zones_at sh) q p
      stays = step-untouched sh (zones_at sh) (next k) p (redo-in-zones sh g (entries_at p (b + log_head) n) targets k (let c = entries-count p (b + log_head) n in omega arith))

      room : (l : Log) → log_at sh l + log_head + entry_size * n ≤ zones_at sh
      room from_a = let m = g.page-min in omega arith
      room from_b = let m = g.page-min in omega arith

      same_word : word q b ≡ word p b
      same_word = word-untouched (zones_at sh) q p stays b (let h = room l in omega arith)

      same_entries : entries_at q (b + log_head) n ≡ entries_at p (b + log_head) n
      same_entries = entries-untouched (zones_at sh) q p stays (b + log_head) n (let h = room l in omega arith)

      same-valid : valid sh q b ≡ true
      same-valid = unfold valid log_entries in (rw (same_word, kept.1, same_entries) (rw kept.1 at kept.0))

-- EACH STORE OF A PART keeps what the next step is judged by
store_keeps : (sh : Shape) (g : Good sh) (p : List ℕ) (w : Remedy) (k : ℕ) → count_above w ≡ false → log_lost sh p w k ≡ false → k < recovery_barrier w k
    → Kept sh (step_pool sh (get_or (recovery_steps sh p w) k barrier) p) p w k
unfolding recovery_steps recovery_barrier count_above log_lost
store_keeps sh g p (replay l n) k f e h = go (redo-part n k)
  where
    few : n ≤ entry_limit
    few = ltb-false entry_limit n f

    go : RedoPart n k (redo_barrier n k) → Kept sh (step_pool sh (get_or (recovery_steps sh p (replay l n)) k barrier) p) p (replay l n) k
    go (data-words a b) = words-keep sh g p l n few k (omega arith) e
    go (parity-words a c b) = words-keep sh g p l n few k (omega arith) e
    go (clears a b) = clears-keep sh g p l n few k a (omega arith)
store_keeps sh g p clear k f e h = record { front = step-untouched sh (log_a sh) (get_or (recovery_steps sh p clear) k barrier) p (clear-from sh k); list = refl; log = refl }
store_keeps sh g p nothing k f e h = absurd (not-suc-le-zero h)
store_keeps sh g p neither k f e h = absurd (not-suc-le-zero h)

-- ---- the steps of a part, one after the other

more-stops : (m : ℕ) (x : RecoveryAfter) → is_stored x.answer ≡ false → recovery_more m x ≡ x
unfolding recovery_more
more-stops zero x e = refl
more-stops (suc m) x e = rw e

more-goes : (m : ℕ) (x : RecoveryAfter) → is_stored x.answer ≡ true → recovery_more (suc m) x ≡ recovery_more m (recovery_step x.pool x.recovery)
unfolding recovery_more
more-goes m x e = rw e

module _ (r : Recovery) where
  abbrev w : Remedy
  w = r.work

  abbrev at : ℕ → Recovery
  at k = with_progress r (recovering k)

  -- with k steps made, the next one is not refused
  record Going (p : List ℕ) (k : ℕ) : Type 0 where
    opens : Passed (open_tests p)
    possible : Possible (shape_in p) p w k
    id : r.id ≡ id_in p

  step_is : (p : List ℕ) (k : ℕ) → Going p k → recovery_step p (at k) ≡ record {
    answer = step_answer k (length (recovery_list p (at k))) (get_or (recovery_list p (at k)) k barrier);
    pool = step_pool (shape_in p) (get_or (recovery_list p (at k)) k barrier) p;
    recovery = with_progress r (next_progress k (length (recovery_list p (at k))));
  }
  unfolding recovery_step conclude_recovery recovery_next recovery_list done_steps
  step_is p k h = rw (passed_first _ (again-passed p (at k) k h.opens refl h.possible.count h.possible.place h.possible.log h.id))

  -- after a store the next step is possible, of the same list
  record After (q p : List ℕ) (k : ℕ) : Type 0 where
    going : Going q (suc k)
    shape : shape_in q ≡ shape_in p
    list : recovery_list q (at (suc k)) ≡ recovery_list p (at k)

  after : (p : List ℕ) (k : ℕ) → Going p k → k < recovery_barrier w k → After (step_pool (shape_in p) (get_or (recovery_list p (at k)) k barrier) p) p k
  unfolding recovery_list
  after p k h i =
      record {
        going = record {
          opens = subst Passed (sym (tests_same q p heads)) h.opens;
          possible = record {
            count = h.possible.count;
            place = let e = (part_of sh p w k h.possible.place).high in rw same-list (omega arith);
            log = ap (λ (x : Shape). log_lost x q w (suc k)) same_shape ∙ kept.log;
          };
          id = h.id ∙ sym (id_same q p heads);
        };
        shape = same_shape;
        list = same-list;
      }
    where
      sh : Shape
      sh = shape_in p

      q : List ℕ
      q = step_pool sh (get_or (recovery_steps sh p w) k barrier) p

      kept : Kept sh q p w k
      kept = store_keeps sh (passed-good p h.opens) p w k h.possible.count h.possible.log i

      heads : SameHeaders q p
      heads = headers-untouched p q h.opens kept.front

      same_shape : shape_in q ≡ sh
      same_shape = shape_same q p heads

      same-list : recovery_steps (shape_in q) q w ≡ recovery_steps sh p w
      same-list = ap (λ (x : Shape). recovery_steps x q w) same_shape ∙ kept.list

  -- the steps of the list xs up to its barrier b made, which leave the pool q
  abbrev left : ℕ → List Step → List ℕ → RecoveryAfter
  left b xs q = record { answer = step_answer b (length xs) barrier; pool = q; recovery = with_progress r (next_progress b (length xs)) }

  module _ (p : List ℕ) (k : ℕ) (h : Going p k) where
    abbrev sh : Shape
    sh = shape_in p

    abbrev xs : List Step
    xs = recovery_list p (at k)

    abbrev q : List ℕ
    q = step_pool sh (get_or xs k barrier) p

    place : k < length xs
    unfolding recovery_list
    place = h.possible.place

    part : Part xs w k
    unfolding recovery_list
    part = part_of sh p w k place

    -- the barrier itself
    ends : (m : ℕ) → k ≡ recovery_barrier w k → recovery_more m (recovery_step p (at k)) ≡ recovery_made p (at k) k k
    unfolding recovery_made
    ends m e =
        let x : get_or xs k barrier ≡ barrier = ap (λ (i : ℕ). get_or xs i barrier) e ∙ part.ends in
        more-stops m (recovery_step p (at k)) (ap (λ (y : RecoveryAfter). is_stored y.answer) (step_is p k h) ∙ ap (λ (y : Step). is_stored (step_answer k (length xs) y)) x ∙ answer-barrier k (length xs))
        ∙ step_is p k h
        ∙ ap₂ (λ (y : Step) (z : List ℕ). record { answer = step_answer k (length xs) y; pool = z; recovery = with_progress r (next_progress k (length xs)) }) x
        (sym (made-next sh k (suc k) xs p (omega arith) place ∙ made-here sh (suc k) xs q))

    module _ (i : k < recovery_barrier w k) where
      -- a store before it
      more : suc k < length xs
      more = let b = part.high in omega arith

      on : (m : ℕ) → recovery_more (suc m) (recovery_step p (at k)) ≡ recovery_more m (recovery_step q (at (suc k)))
      on m =
          more-goes m (recovery_step p (at k)) (ap (λ (y : RecoveryAfter). is_stored y.answer) (step_is p k h) ∙ answer-stored k (length xs) (get_or xs k barrier) more (part.stores i))
          ∙ ap (λ (y : RecoveryAfter). recovery_more m (recovery_step y.pool y.recovery)) (step_is p k h)
          ∙ ap (λ (f : Progress). recovery_more m (recovery_step q (with_progress r f))) (progress-on k (length xs) (ne_eqb (suc k) (length xs) (let l = more in λ e. omega arith)))

      made-on : recovery_made q (at (suc k)) (suc k) (recovery_barrier w (suc k)) ≡ recovery_made p (at k) k (recovery_barrier w k)
      unfolding recovery_made
      made-on =
          let b : ℕ = recovery_barrier w k in
          let a = after p k h i in
          ap (recovery_made q (at (suc k)) (suc k)) (part.stays i)
          ∙ ap₂ (λ (s : Shape) (ys : List Step). left b ys (steps_made s (between (suc k) (suc b) ys) q)) a.shape a.list
          ∙ ap (left b xs) (sym (made-next sh k (suc b) xs p (omega arith) place))

  goes : (d : ℕ) (p : List ℕ) (k m : ℕ) → Going p k → k + d ≡ recovery_barrier w k → d ≤ m → recovery_more m (recovery_step p (at k)) ≡ recovery_made p (at k) k (recovery_barrier w k)
  goes zero p k m h e l = let i : k ≡ recovery_barrier w k = omega arith in ends p k h m i ∙ ap (recovery_made p (at k) k) i
  goes (suc d) p k zero h e l = absurd (omega arith)
  goes (suc d) p k (suc m) h e l =
      let i : k < recovery_barrier w k = omega arith in
      let s = (part p k h).stays i in
      on p k h i m ∙ goes d (q p k h) (suc k) m (after p k h i).going (omega arith) (omega arith) ∙ made-on p k h i

  makes-part : (p : List ℕ) (k : ℕ) → Accepted (recovery_step p (at k)).answer → recovery_on p (at k) ≡ recovery_made p (at k) k (recovery_barrier w k)
  unfolding recovery_on done_steps
  makes-part p k a =
      let g = again-possible p (at k) (again-none p (at k) a) in
      let h : Going p k = record { opens = g.0; possible = g.2; id = g.3 } in
      let c = part p k h in
      goes (recovery_barrier w k - k) p k (length (recovery_list p (at k)) - suc k) h (omega arith) (omega arith)

-- A RECOVERY UP TO THE NEXT BARRIER
pub recovery-advances : (p : List ℕ) (r : Recovery) → RecoveryAdvances p r
unfolding recovery_on is_refused is_stored
recovery-advances p r = record { refuses = refuses; makes = makes }
  where
    refuses : (n : ℕ) → (recovery_step p r).answer ≡ refused n → recovery_on p r ≡ record { answer = refused n; pool = p; recovery = r }
    refuses n e =
        let h = recovery-step-refused p r (ap is_refused e) in
        more-stops (length (recovery_list p r) - suc (done_steps r.phase)) (recovery_step p r) (ap is_stored e)
        ∙ λ i. record { answer = e i; pool = h.0 i; recovery = h.1 i }

    makes : (k : ℕ) → r.phase ≡ recovering k → Accepted (recovery_step p r).answer → recovery_on p r ≡ recovery_made p r k (recovery_barrier r.work k)
    makes k e =
        subst (λ (f : Progress). Accepted (recovery_step p (with_progress r f)).answer
        → recovery_on p (with_progress r f) ≡ recovery_made p (with_progress r f) k (recovery_barrier r.work k)) (sym e) (makes-part r p k)

-- ---- accepted and refused calls

pub recovery-place : (p : List ℕ) (r : Recovery) → Accepted (recovery_step p r).answer → (k : ℕ) × (r.phase ≡ recovering k)
recovery-place p r f = go r.phase (again-possible p r (again-none p r f)).1
  where
    go : (x : Progress) → is_recovering x ≡ true → (k : ℕ) × (x ≡ recovering k)
    go (recovering k) h = (k, refl)
    go finished h = unfold is_recovering in (0, cc)

made-accepted : (p : List ℕ) (r : Recovery) (k e : ℕ) → Accepted (recovery_made p r k e).answer
unfolding recovery_made
made-accepted p r k e = answer-not-refused e (length (recovery_list p r)) barrier

-- the call is accepted where its first step is
pub recovery-on-accepted : (p : List ℕ) (r : Recovery) → Accepted (recovery_on p r).answer → Accepted (recovery_step p r).answer
unfolding is_refused
recovery-on-accepted p r f = split (is_refused (recovery_step p r).answer)
    (λ h. let w = refused-is (recovery_step p r).answer h in
    let e = ap (λ (x : RecoveryAfter). is_refused x.answer) ((recovery-advances p r).refuses w.0 w.1) in
    let z : ◌≡◌ {A = ℕ} 0 1 = cc in
    absurd (omega arith))
    (λ h. h)

-- a refused call leaves pool and record as given
pub recovery-on-refused : (p : List ℕ) (r : Recovery) → KeepsRecovery p r (recovery_on p r)
recovery-on-refused p r x = split (is_refused (recovery_step p r).answer)
    (λ h. let w = refused-is (recovery_step p r).answer h in
    let e = (recovery-advances p r).refuses w.0 w.1 in
    (ap (λ (y : RecoveryAfter). y.pool) e, ap (λ (y : RecoveryAfter). y.recovery) e))
    (λ f. let w = recovery-place p r f in
    let a = ap (λ (y : RecoveryAfter). is_refused y.answer) ((recovery-advances p r).makes w.0 w.1 f) in
    let b = made-accepted p r w.0 (recovery_barrier r.work w.0) in
    let z : ◌≡◌ {A = ℕ} 0 1 = cc in
    absurd (omega arith))

-- THE SAME AS ONE EQUATION: the tests of a step, then all steps of the part
pub recovery-on : (p : List ℕ) (r : Recovery)
    → recovery_on p r ≡ conclude_recovery p r (first (recovery_tests p r)) (recovery_made p r (done_steps r.phase) (recovery_barrier r.work (done_steps r.phase)))
recovery-on p r = go (first (recovery_tests p r)) refl
  where
    left : ℕ → RecoveryAfter
    left k = recovery_made p r k (recovery_barrier r.work k)

    go : (o : Option ℕ) → first (recovery_tests p r) ≡ o → recovery_on p r ≡ conclude_recovery p r o (left (done_steps r.phase))
    go (some n) e = unfold conclude_recovery in (recovery-advances p r).refuses n (unfold recovery_step conclude_recovery in rw e)
    go none e =
        let a = (accepted-again p r (first-passed (recovery_tests p r) e)).0 in
        let w = recovery-place p r a in
        unfold conclude_recovery in (recovery-advances p r).makes w.0 w.1 a ∙ ap left (sym (done-is r.phase w.0 w.1))
