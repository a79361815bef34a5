-- REQUIREMENT 3, proved: `power-cut`. Assumes nothing.
use mathlib.Core.Path.{◌≡◌, refl, sym, ap, ◌∙◌, subst}
use mathlib.Core.Logic.{◌⊎◌, inl, inr, ⊎_elim}
use mathlib.Core.Bool.{Bool, true, false, not, ◌&&◌}
use mathlib.Core.List.{List, []}
use Prim.Native.Nat.{ℕ, zero, suc, ◌+◌, ◌*◌, ◌≤◌, ◌<◌}
use native.Mathlib.Omega.{arith}
use lib.Dec.{eqb}
use lib.ListN.{length}
use borrow.Author.Tests.{eq-eqb, eqb-true, ne_eqb, le-ltb, lt-leb}
use Rattle.rules.specs.Words.{Bytes}
use Rattle.rules.specs.Shape.{Shape, entry_limit, staging_size}
use Rattle.rules.specs.Header.{id_in, open_tests, shape_in}
use Rattle.rules.specs.Zones.{good_from, pool_book}
use Rattle.rules.specs.Seals.{unsealed}
use Rattle.rules.specs.Staging.{Phase, Store, Transaction, closed, commit_length, committing, entries_at, is_live, live, past_commit}
use Rattle.rules.specs.Answer.{Given, is_refused}
use Rattle.rules.specs.Plan.{Call}
use Rattle.rules.specs.Calls.{entries_in, live_tests, record_tests, begun, transaction_start}
use Rattle.rules.specs.Sound.{Sound, book_of}
use Rattle.rules.proofs.Test.{Passed, passed-join}
use Rattle.rules.proofs.Stores.{bytes-lay, length-lay}
use Rattle.rules.proofs.StagedBook.{held-end}
use Rattle.rules.proofs.Sound.{begun-is, repair-restores, sound-again, sound-fits}
use Rattle.powercut.specs.Log.{Log}
use Rattle.powercut.specs.Steps.{Remedy, nothing, recovery_steps, remedy, replay, step_pool, steps_made}
use Rattle.powercut.specs.Power.{State, act, view}
use Rattle.powercut.specs.Commit.{commit_list, commit_next, commit_start, commit_step, commit_tests, is_committing, next_phase, place_in, start_phase}
use Rattle.powercut.specs.Recovery.{Progress, Recovery, finished, recovering, recovery_list, recovery_next, recovery_start, recovery_step, start_recovery}
use Rattle.powercut.specs.WholeRun.{Accepted, Holds, Makes, Run, at_first, cut_off, entries, holding, made, meets, resuming}
use Rattle.powercut.specs.Claim.{End, EndsIn, PowerCut, StepTaken, new, old_or_new, staged_or_old}
use Rattle.powercut.specs.Scribble.{Taken}
use Rattle.powercut.proofs.StepRun.{StepRun, Ended, Position, at_commit}
use Rattle.powercut.proofs.StepCount.{nothing-count, replay-count}
use Rattle.powercut.proofs.StepPool.{uncut-view, view-act}
use Rattle.powercut.proofs.Answers.{accepted-start, accepted-step, not-impossible, phase-end, phase-on, place_is, start_left, start_none, step_left}
use Rattle.powercut.proofs.RunInput.{HeadersKept, Input, count-is, few, held, id-is, left-staging, live-is, opens, same_head, shape_is, targets}
use Rattle.powercut.proofs.RunMatches.{CommitMatches, RecoveryMatches, claim, commit-some, entries-met, front_kept, list-met, run-matches, some-step-run, step-run-resuming, steps-length}
use Rattle.powercut.proofs.Resuming.{ends, ends-here, ends-onward, restart, restarts as phases, taken}
use Rattle.rules.proofs.Bool.{split}
use Rattle.rules.proofs.Transaction.{calls-short}

start-zero : start_phase 0 ≡ closed
unfolding start_phase
start-zero = refl

start-some : (n : ℕ) → start_phase (suc n) ≡ committing 0
unfolding start_phase
start-some n = refl

length_none : {n : ℕ} → 0 ≡ n → 0 ≡ commit_length n
unfolding commit_length
length_none e = ap commit_length e

length_some : (m : ℕ) {n : ℕ} → suc m ≡ n → 6 * n + 9 ≡ commit_length n
unfolding commit_length
length_some m e = subst (λ (n : ℕ). 6 * n + 9 ≡ commit_length n) e refl

module _ (inp : Input) where
  abbrev pool : List ℕ
  pool = inp.pool

  abbrev staging : List ℕ
  staging = inp.staging

  abbrev ks : List Call
  ks = inp.ks

  abbrev sound : Sound pool
  sound = inp.sound

  abbrev sh : Shape
  sh = shape_in pool

  abbrev es : List Store
  es = entries pool staging ks

  abbrev met : State → Transaction → Given
  met = meets pool staging ks

  -- ---- the ends

  staged-good : (b : Bool) → Bytes (staged_or_old b pool es) × (length (staged_or_old b pool es) ≡ length pool)
      × (good_from sh (staged_or_old b pool es) 0 sh.zones ≡ true) × (pool_book sh (staged_or_old b pool es) ≡ old_or_new pool staging ks b)
  staged-good true =
      let h = held-end sh pool es (new pool staging ks) (sound-fits pool sound) (held inp) in
      (bytes-lay pool es sound.bytes, length-lay pool es, h.0, h.1)
  staged-good false = (sound.bytes, refl, sound.zones, unfold book_of in refl)

  pub ended-end : (s : State) (b : Bool) → HeadersKept inp (view s) → Ended sh pool es s b → End pool staging ks s b
  unfolding unsealed
  ended-end s b h e =
      let v = staged-good b in
      let r = sound-again pool (view s) (staged_or_old b pool es) (old_or_new pool staging ks b) sound e.clean.bytes (same_head inp (view s) h)
      e.clean.seal_a e.clean.seal_b e.clean.right v.0 v.1 e.same v.2 v.3 in
      record {
        behind = e.behind;
        sound = r.0;
        books = r.1;
        repairs = λ q ms l. repair-restores (view s) q ms r.0 l;
        size = h.0;
        headers = h.1;
        data-rows = e.same;
        seals = rw (e.clean.seal_a, e.clean.seal_b);
        parity = e.clean.right;
      }

  begins : Accepted (transaction_start pool).answer
  unfolding is_refused
  begins = rw (begun-is pool sound)

  uncut : (t : Transaction) (s : State) → Run pool staging ks (holding t) s → t.phase ≡ closed → End pool staging ks s true
  uncut t s r e =
      let c : CommitMatches inp closed s = subst (λ (f : Phase). CommitMatches inp f s) e (run-matches inp r).1 in
      ended-end s true (front_kept inp c) ((claim inp).uncut s c)

  recovered : (r : Recovery) (s : State) → Run pool staging ks (resuming r) s → r.phase ≡ finished → End pool staging ks s s.reached
  recovered r s u e =
      let c : RecoveryMatches inp r.work finished s = subst (λ (f : Progress). RecoveryMatches inp r.work f s) e (run-matches inp u).0 in
      ended-end s s.reached (front_kept inp c) ((claim inp).recovered s r.work _ c refl)

  -- every call is refused with too little staging memory
  short : length staging < staging_size → new pool staging ks ≡ book_of pool
  unfolding made begun
  short l = calls-short ks (begun pool staging) (book_of pool) l

  -- ---- no refusal

  record-passed : (t : Transaction) (s : State) {f : Position} → StepRun sh es pool f s → t.count ≡ length es → staging_size ≤ length (made pool staging ks).left.staging → past_commit t.count t.phase ≡ false
      → t.id ≡ id_in pool → Passed (record_tests (met s t))
  unfolding record_tests
  record-passed t s c n l p i =
      let e : entries_at (made pool staging ks).left.staging 0 t.count ≡ es = unfold entries_in in (entries-met inp s t n) in
      let k : t.count ≤ entry_limit = (let a = few inp in omega arith) in
      passed-join (open_tests (view s)) _ (opens inp (view s) (front_kept inp c))
      (le-ltb (length (made pool staging ks).left.staging) staging_size l, (not-impossible sh (shape_in (view s)) es (made pool staging ks).left.staging t.count t.phase (shape_is inp (view s) (front_kept inp c)) e k p (targets inp), (rw (eq-eqb t.id (id_in (view s)) (i ∙ sym (id-is inp (view s) (front_kept inp c)))), tt)))

  sealed-not : (s : State) (f : Position) → StepRun sh es pool f s → view s ≡ pool → unsealed (shape_in (view s)) (view s) ≡ true
  sealed-not s f c e = ap (λ (p : List ℕ). unsealed (shape_in p) p) e ∙ sound.seals

  starts : (t : Transaction) (s : State) → Run pool staging ks (holding t) s → t.phase ≡ live → staging_size ≤ length staging → Accepted (commit_start (met s t)).answer
  unfolding live_tests is_live past_commit
  starts t s r e l =
      let h = run-matches inp r in
      let i : s ≡ record { base = pool; pend = []; reached = false } = subst (λ (f : Phase). CommitMatches inp f s) e h.1 in
      let c = (some-step-run inp t.phase s h.1).1 in
      accepted-start (met s t) (passed-join (record_tests (met s t)) (live_tests (met s t))
      (record-passed t s c h.0 (let a = left-staging inp in omega arith) (rw e) h.2)
      (rw e, (rw (sealed-not s _ c (ap view i)), tt)))

  steps : (t : Transaction) (s : State) (k : ℕ) → Run pool staging ks (holding t) s → t.phase ≡ committing k
      → StepTaken pool staging ks (commit_step (met s t)).answer (commit_step (met s t)).left.pool s (commit_next (met s t)) k (commit_list (met s t)) (6 * length es + 9)
  steps t s k r e =
      let h = run-matches inp r in
      let c : CommitMatches inp (committing k) s = subst (λ (f : Phase). CommitMatches inp f s) e h.1 in
      let m = list-met inp s t c.2 h.0 in
      let n = steps-length inp in
      let past : past_commit t.count t.phase ≡ false = past-not t.count t.phase k e (subst (λ (j : ℕ). k < j) (n ∙ ap commit_length (sym h.0)) c.0) in
      let a = accepted-step (met s t) (tests-passed c (record-passed t s c.2 h.0 c.1 past h.2)) in
      record {
        accepted = a.0;
        leaves = a.1 ∙ ap (λ (x : Shape). step_pool x (commit_next (met s t)) (view s)) (shape_is inp (view s) (front_kept inp c.2)) ∙ sym (view-act sh es (commit_next (met s t)) s);
        inside = rw m c.0;
        count = ap length m ∙ n ∙ (commit-some (length es) k (subst (λ (j : ℕ). k < j) n c.0)).1;
      }
    where
      past-not : (n : ℕ) (f : Phase) (k : ℕ) → f ≡ committing k → k < commit_length n → past_commit n f ≡ false
      past-not n f k e l = unfold past_commit in (rw e (lt-leb (commit_length n) k l))

      first-sealed : (j : ℕ) → StepRun sh es pool (at_commit j) s → (eqb j 0 && not (unsealed (shape_in (view s)) (view s))) ≡ false
      first-sealed zero c = rw (sealed-not s (at_commit 0) c (unfold steps_made in (uncut-view sh es pool c)))
      first-sealed (suc j) c = rw (ne_eqb (suc j) 0 (λ x. omega arith))

      tests-passed : CommitMatches inp (committing k) s → Passed (record_tests (met s t)) → Passed (commit_tests (met s t))
      tests-passed c p = unfold commit_tests is_committing place_in in
          (passed-join (record_tests (met s t)) _ p (rw e, (rw e (first-sealed k c.2), tt)))

  -- a recovery that has steps follows a seal that has reached memory
  pub restarted : (s : State) → Run pool staging ks cut_off s
      → Accepted (recovery_start (view s)).answer
      × (((recovery_start (view s)).recovery.phase ≡ finished) ⊎ (((recovery_start (view s)).recovery.phase ≡ recovering 0) × (s.reached ≡ true)))
  restarted s r =
      let c = run-matches inp r in
      let a = restart inp (StepRun sh es pool) (step-run-resuming inp) s c in
      let p = phases inp (StepRun sh es pool) (step-run-resuming inp) s c in
      (a.0, ⊎_elim (λ e. inl (ap (λ (x : Recovery). x.phase) a.1 ∙ over e)) (λ h. ⊎_elim inl (λ k. inr (k, h)) p.1) ((claim inp).sealed s c))
    where
      over : {q : Remedy} → q ≡ nothing → (start_recovery (view s) q).recovery.phase ≡ finished
      over e = unfold start_recovery in (ap (λ (q : Remedy). (start_recovery (view s) q).recovery.phase) e)

  restarts : (s : State) → Run pool staging ks cut_off s
      → Accepted (recovery_start (view s)).answer × (((recovery_start (view s)).recovery.phase ≡ finished) ⊎ ((recovery_start (view s)).recovery.phase ≡ recovering 0))
  restarts s r = phases inp (StepRun sh es pool) (step-run-resuming inp) s (run-matches inp r)

  -- a recovery that has a step to make replays a log with all entries
  pub running-replay : (q : Remedy) (s : State) (k : ℕ) → RecoveryMatches inp q (recovering k) s → (l : Log) × (q ≡ replay l (length es))
  running-replay q s k c = go ((claim inp).remedies s q k c.1)
    where
      go : (q ≡ nothing) ⊎ ((l : Log) × (q ≡ replay l (length es))) → (l : Log) × (q ≡ replay l (length es))
      go (inl i) = absurd (let l = c.0 in let n = ap (λ (x : Remedy). length (recovery_steps sh (view s) x)) i ∙ nothing-count sh (view s) in omega arith)
      go (inr i) = i

  replay-steps : (s : State) {q : Remedy} (l : Log) → q ≡ replay l (length es) → length (recovery_steps sh (view s) q) ≡ 2 * length es + 5
  replay-steps s l e = ap (λ (x : Remedy). length (recovery_steps sh (view s) x)) e ∙ replay-count sh (view s) l (length es)

  resumes : (r : Recovery) (s : State) (k : ℕ) → Run pool staging ks (resuming r) s → r.phase ≡ recovering k
      → StepTaken pool staging ks (recovery_step (view s) r).answer (recovery_step (view s) r).pool s (recovery_next (view s) r) k (recovery_list (view s) r) (2 * length es + 5)
  resumes r s k u e =
      let h = run-matches inp u in
      let w = running-replay r.work s k (subst (λ (f : Progress). RecoveryMatches inp r.work f s) e h.0) in
      subst (Taken pool staging ks r s k) (replay-steps s w.0 w.1) (taken inp (StepRun sh es pool) (step-run-resuming inp) r s k h e)

  -- ---- the ends are reached

  abbrev Ends : ℕ → Holds → State → Type 0
  Ends = EndsIn pool staging ks

  recovers : (s : State) → Run pool staging ks cut_off s → Ends 1 cut_off s ⊎ Ends (suc (2 * length es + 5)) cut_off s
  recovers s u = ⊎_elim (λ e. inl (in_all (ap (λ (x : Remedy). length (recovery_steps sh (view s) x)) e ∙ nothing-count sh (view s)))) (λ w. inr (in_all (replay-steps s w.0 w.1)))
      ((claim inp).remedies s (remedy sh (view s)) 0 ((step-run-resuming inp).found s (run-matches inp u)))
    where
      in_all : {n : ℕ} → length (recovery_steps sh (view s) (remedy sh (view s))) ≡ n → Ends (suc n) cut_off s
      in_all e = subst (λ (j : ℕ). Ends (suc j) cut_off s) e (ends inp (StepRun sh es pool) (step-run-resuming inp) s (run-matches inp u))

  commit-on : (m k : ℕ) (t : Transaction) (s : State) → Run pool staging ks (holding t) s → t.phase ≡ committing k → k + m ≡ 6 * length es + 9 → Ends m (holding t) s
  commit-on zero k t s u e q = let i = steps t s k u e in absurd (let a = i.inside in let b = i.count in omega arith)
  commit-on (suc m) k t s u e q =
      let i = steps t s k u e in
      let n : ℕ = length (commit_list (met s t)) in
      let t₁ : Transaction = (commit_step (met s t)).left.txn in
      let c : Makes pool staging ks (holding t) s (holding t₁) (act sh es (commit_next (met s t)) s) = Makes.step i.accepted in
      let f : t₁.phase ≡ next_phase k n =
      ap (λ (x : Transaction). x.phase) (step_left (met s t) i.accepted) ∙ ap (λ (j : ℕ). next_phase j n) (place_is t.phase k e) in
      ends-onward inp c (split (eqb (suc k) n)
      (λ d. last (let a = eqb-true (suc k) n d in let b = i.count in omega arith) (ends-here inp (f ∙ phase-end k n d)))
      (λ d. commit-on m (suc k) t₁ _ (Run.next u c) (f ∙ phase-on k n d) (omega arith)))
    where
      last : {h : Holds} {x : State} → 0 ≡ m → Ends 0 h x → Ends m h x
      last {h} {x} = subst (λ (j : ℕ). Ends j h x)

  commits : staging_size ≤ length staging → Ends (suc (commit_length (length es))) (holding (made pool staging ks).left.txn) (at_first pool staging ks)
  commits l = ends-onward inp c (go (made pool staging ks).left.txn.count refl)
    where
      t : Transaction
      t = (made pool staging ks).left.txn

      s : State
      s = at_first pool staging ks

      c : Makes pool staging ks (holding t) s (holding (commit_start (met s t)).left.txn) s
      c = Makes.commit (starts t s Run.begin (live-is inp) l)

      phase : (n : ℕ) → (made pool staging ks).left.txn.count ≡ n → (commit_start (met s t)).left.txn.phase ≡ start_phase n
      phase n e = ap (λ (x : Transaction). x.phase) (start_left (met s t) (start_none (met s t) (starts t s Run.begin (live-is inp) l))) ∙ ap start_phase e

      go : (n : ℕ) → (made pool staging ks).left.txn.count ≡ n → Ends (commit_length (length es)) (holding (commit_start (met s t)).left.txn) s
      go zero e = subst (λ (j : ℕ). Ends j (holding (commit_start (met s t)).left.txn) s) (length_none (sym e ∙ count-is inp)) (ends-here inp (phase 0 e ∙ start-zero))
      go (suc n) e = subst (λ (j : ℕ). Ends j (holding (commit_start (met s t)).left.txn) s) (length_some n (sym e ∙ count-is inp))
          (commit-on (6 * length es + 9) 0 (commit_start (met s t)).left.txn s (Run.next Run.begin c) (phase (suc n) e ∙ start-some n) (omega arith))

-- THE CLAIM
pub power-cut : PowerCut
power-cut pool staging ks sound typed =
    let inp : Input = record { pool = pool; staging = staging; ks = ks; sound = sound; typed = typed } in record {
      begins = begins inp;
      uncut = uncut inp;
      recovered = recovered inp;
      short = short inp;
      starts = starts inp;
      steps = steps inp;
      restarts = restarts inp;
      resumes = resumes inp;
      commits = commits inp;
      recovers = recovers inp;
    }
