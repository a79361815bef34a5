-- Laws of a recovery made call after call: on every pool it ends within three calls (`recovery-ends`), and after a cut of a run it is done, at an
-- end of requirement 3 (`cut-recovered`). Assumes nothing.
use Prim.Native.Nat.{ℕ, zero, suc, ◌<◌, ◌≤◌}
use mathlib.Core.Path.{◌≡◌, refl, sym, ap, ◌∙◌, subst}
use mathlib.Core.Logic.{◌⊎◌, inl, inr, ⊎_elim}
use mathlib.Core.Bool.{Bool, true, false}
use mathlib.Core.List.{List, [], ◌∷◌}
use native.Mathlib.Omega.{arith}
use lib.Dec.{eqb}
use lib.ListN.{length}
use borrow.Author.Tests.{eqb-false}
use Rattle.rules.specs.Header.{shape_in}
use Rattle.rules.specs.Answer.{is_refused}
use Rattle.rules.specs.Plan.{Call}
use Rattle.rules.specs.Calls.{AllTyped}
use Rattle.rules.specs.Sound.{Sound}
use Rattle.rules.proofs.Bool.{split}
use Rattle.powercut.specs.Steps.{Remedy, Step, barrier, clear, neither, nothing, remedy, replay}
use Rattle.powercut.specs.Power.{State, view}
use Rattle.powercut.specs.Commit.{step_answer}
use Rattle.powercut.specs.Recovery.{Recovery, RecoveryAfter, conclude_recovery, finished, next_progress, recovering, recovery_list, recovery_on, recovery_start, start_recovery}
use Rattle.powercut.specs.Advance.{acts, in_recovery, number_in, recovery_barrier, recovery_made}
use Rattle.powercut.specs.WholeRun.{Accepted, Makes, Run, cut_off, entries, resuming}
use Rattle.powercut.specs.Claim.{End}
use Rattle.powercut.proofs.StepPool.{reached-act}
use Rattle.powercut.proofs.Answers.{again-inside, again-none, done-is, progress-end, progress-on, recover-none}
use Rattle.powercut.proofs.PowerCut.{power-cut, restarted}
use Rattle.powercut.proofs.Refusals.{recovery-start-pool}
use Rattle.powercut.proofs.RecoveryOn.{recovery-advances, recovery-on-accepted}
use Rattle.powercut.proofs.RunOn.{advance-runs, recovery-runs}
use Rattle.saving.specs.Saving.{is_done, is_end}
use Rattle.saving.specs.Recovering.{AfterCut, Recovers, recovered, recovery_from}
use Rattle.saving.proofs.Saving.{done-ends, refused-ends}
use Rattle.saving.proofs.Uncut.{answer-last, answer-on}
use Rattle.saving.proofs.Calls.{recovery-fewer, recovery-first, recovery-some, recovery_calls}

-- ---- call after call

-- An answer that ends the recovery stays.
recovery-stays : (n : ℕ) (x : RecoveryAfter) → is_end x.answer ≡ true → recovery_from n x ≡ x
unfolding recovery_from
recovery-stays zero x h = refl
recovery-stays (suc n) x h = rw h

-- One call more.
recovery-next : (n : ℕ) (x : RecoveryAfter) → is_end x.answer ≡ false → recovery_from (suc n) x ≡ recovery_from n (recovery_on x.pool x.recovery)
unfolding recovery_from
recovery-next n x h = rw h

-- more calls follow, at most m
record Going (m : ℕ) (x : RecoveryAfter) : Type 0 where
  place : ℕ
  phase : x.recovery.phase ≡ recovering place
  goes : is_end x.answer ≡ false
  calls : recovery_calls x.recovery.work place ≤ m

-- the recovery is done
record Over (x : RecoveryAfter) : Type 0 where
  phase : x.recovery.phase ≡ finished
  over : is_done x.answer ≡ true

-- a start that is not refused
start-on : (p : List ℕ) → Accepted (recovery_start p).answer → Over (recovery_start p) ⊎ Going 3 (recovery_start p)
unfolding recovery_start conclude_recovery
start-on p f = rw (recover-none p f) (go (remedy (shape_in p) p) (rw (recover-none p f) at f))
  where
    go : (q : Remedy) → Accepted (start_recovery p q).answer → Over (start_recovery p q) ⊎ Going 3 (start_recovery p q)
    go (replay l n) f = unfold start_recovery is_end is_done is_refused in (inr (record { place = 0; phase = refl; goes = refl; calls = recovery-first (replay l n) }))
    go clear f = unfold start_recovery is_end is_done is_refused in (inr (record { place = 0; phase = refl; goes = refl; calls = recovery-first clear }))
    go nothing f = unfold start_recovery is_done in (inl (record { phase = refl; over = refl }))
    go neither f = absurd (unfold start_recovery is_refused in (let z : ◌≡◌ {A = ℕ} 0 1 = cc in omega arith))

-- a call that is not refused
advance-on : (p : List ℕ) (r : Recovery) (m k : ℕ) → r.phase ≡ recovering k → recovery_calls r.work k ≤ suc m → Accepted (recovery_on p r).answer → Over (recovery_on p r) ⊎ Going m (recovery_on p r)
unfolding is_done recovery_made recovery_list
advance-on p r m k e l f =
    let b : ℕ = recovery_barrier r.work k in
    let n : ℕ = length (recovery_list p r) in
    let y : RecoveryAfter = recovery_on p r in
    let q : y ≡ recovery_made p r k b = (recovery-advances p r).makes k e (recovery-on-accepted p r f) in
    let i : y.recovery.phase ≡ next_progress b n = ap (λ (x : RecoveryAfter). x.recovery.phase) q in
    let j : y.answer ≡ step_answer b n barrier = ap (λ (x : RecoveryAfter). x.answer) q in
    let w : y.recovery.work ≡ r.work = ap (λ (x : RecoveryAfter). x.recovery.work) q in
    let inside : k < n = let h = (again-inside p r (again-none p r (recovery-on-accepted p r f))).0 in let j = done-is r.phase k e in omega arith in
    split (eqb (suc b) n)
    (λ d. inl (record { phase = i ∙ progress-end b n d; over = ap is_done (j ∙ answer-last b n barrier d) }))
    (λ d. inr (record {
      place = suc b;
      phase = i ∙ progress-on b n d;
      goes = ap is_end j ∙ answer-on b n barrier d;
      calls = rw w (let z = recovery-fewer (shape_in p) p r.work k inside (eqb-false (suc b) n d) in omega arith);
    }))

-- ---- every pool

ends-or : (m : ℕ) (x : RecoveryAfter) → (Accepted x.answer → Over x ⊎ Going m x) → (Going m x → is_end (recovery_from m x).answer ≡ true) → is_end (recovery_from m x).answer ≡ true
ends-or m x w g = split (is_refused x.answer) (λ h. stop (refused-ends x.answer h)) (λ f. ⊎_elim (λ o. stop (done-ends x.answer o.over)) g (w f))
  where
    stop : is_end x.answer ≡ true → is_end (recovery_from m x).answer ≡ true
    stop h = ap (λ (z : RecoveryAfter). is_end z.answer) (recovery-stays m x h) ∙ h

ends-from : (m : ℕ) (x : RecoveryAfter) → Going m x → is_end (recovery_from m x).answer ≡ true
ends-from zero x w = absurd (let s = recovery-some x.recovery.work w.place in let l = w.calls in omega arith)
ends-from (suc m) x w =
    ap (λ (z : RecoveryAfter). is_end z.answer) (recovery-next m x w.goes)
    ∙ ends-or m (recovery_on x.pool x.recovery) (advance-on x.pool x.recovery m w.place w.phase w.calls) (λ v. ends-from m (recovery_on x.pool x.recovery) v)

recovery-ends : (p : List ℕ) → is_end (recovered p).answer ≡ true
unfolding recovered
recovery-ends p = ends-or 3 (recovery_start p) (start-on p) (λ v. ends-from 3 (recovery_start p) v)

-- ---- the pool that a cut of a run left

module _ (pool staging : List ℕ) (ks : List Call) (sound : Sound pool) (typed : AllTyped ks) (s : State) (cut : Run pool staging ks cut_off s) where
  -- what a call answers and leaves belongs to the run; it is over, or at most m calls follow and a seal has reached memory
  record Along (m : ℕ) (x : RecoveryAfter) : Type 0 where
    state : State
    run : Run pool staging ks (resuming x.recovery) state
    left : view state ≡ x.pool
    reached : state.reached ≡ s.reached
    place : Over x ⊎ ((s.reached ≡ true) × Going m x)

  start-along : Along 3 (recovery_start (view s))
  start-along =
      let i = restarted (record { pool = pool; staging = staging; ks = ks; sound = sound; typed = typed }) s cut in
      record {
        state = s;
        run = Run.next cut (Makes.recover i.0);
        left = sym (recovery-start-pool (view s));
        reached = refl;
        place = ⊎_elim inl (λ g. ⊎_elim (λ e. absurd (let p = g.phase in let z : ◌≡◌ {A = ℕ} 0 1 = cc in omega arith)) (λ h. inr (h.1, g)) i.1) (start-on (view s) i.0);
      }

  acts-reached : (xs : List Step) (u : State) → u.reached ≡ true → (acts pool staging ks xs u).reached ≡ true
  unfolding acts
  acts-reached [] u h = h
  acts-reached (x ∷ xs) u h = acts-reached xs _ (reached-act (shape_in pool) (entries pool staging ks) x u h)

  advance-along : (m : ℕ) (x : RecoveryAfter) → Along (suc m) x → s.reached ≡ true → Going (suc m) x → Along m (recovery_on x.pool x.recovery)
  advance-along m x a h g =
      let r : Recovery = x.recovery in
      let c = advance-runs pool staging ks sound typed in
      let f : Accepted (recovery_on (view a.state) r).answer = c.recovers r a.state g.place a.run g.phase in
      subst (λ (p : List ℕ). Along m (recovery_on p r)) a.left (record {
        state = in_recovery pool staging ks r a.state (number_in (recovery_on (view a.state) r).answer);
        run = recovery-runs (record { pool = pool; staging = staging; ks = ks; sound = sound; typed = typed }) r a.state a.run f;
        left = sym (c.recovery-leaves r a.state a.run f);
        reached = acts-reached _ a.state (a.reached ∙ h) ∙ sym h;
        place = ⊎_elim inl (λ v. inr (h, v)) (advance-on (view a.state) r m g.place g.phase g.calls f);
      })

  along-from : (n : ℕ) (x : RecoveryAfter) → Along n x → (m : ℕ) × Along m (recovery_from n x)
  along-from zero x a = (0, unfold recovery_from in a)
  along-from (suc n) x a = ⊎_elim
      (λ o. (suc n, subst (Along (suc n)) (sym (recovery-stays (suc n) x (done-ends x.answer o.over))) a))
      (λ w. let v = along-from n (recovery_on x.pool x.recovery) (advance-along n x a w.0 w.1) in (v.0, subst (Along v.0) (sym (recovery-next n x w.1.goes)) v.1)) a.place

  cut-recovered : AfterCut pool staging ks s (recovered (view s))
  cut-recovered = ⊎_elim
      (λ o. record {
        over = o.over;
        state = a.1.state;
        run = a.1.run;
        left = a.1.left;
        end = subst (End pool staging ks a.1.state) a.1.reached ((power-cut pool staging ks sound typed).recovered x.recovery a.1.state a.1.run o.phase);
      })
      (λ w. absurd (let e = recovery-ends (view s) in let f = w.1.goes in let z : ◌≡◌ {A = ℕ} 0 1 = cc in omega arith))
      a.1.place
    where
      x : RecoveryAfter
      x = recovered (view s)

      a : (m : ℕ) × Along m x
      a = unfold recovered in (along-from 3 (recovery_start (view s)) start-along)

-- ---- the ways out

pub recover-on : (n m : ℕ) (x y : RecoveryAfter) {b : Bool} → n ≡ suc m → b ≡ is_end x.answer → b ≡ false → y ≡ recovery_on x.pool x.recovery → recovery_from m y ≡ recovery_from n x
recover-on n m x y l e h q = rw (l, q) (sym (recovery-next m x (sym e ∙ h)))

module _ (p : List ℕ) (x : RecoveryAfter) where
  pub recover-begun : x ≡ recovery_start p → recovery_from 3 x ≡ recovered p
  unfolding recovered
  recover-begun e = ap (recovery_from 3) e

  recovers : x ≡ recovered p → Recovers p x
  recovers e = record {
    exact = e;
    ends = ap (λ (z : RecoveryAfter). is_end z.answer) e ∙ recovery-ends p;
    after-cut = λ pool staging ks sound typed s u v. subst (AfterCut pool staging ks s) (ap (recovered) v ∙ sym e) (cut-recovered pool staging ks sound typed s u);
  }

  pub recover-end : (n : ℕ) {b : Bool} → b ≡ is_end x.answer → b ≡ true → recovery_from n x ≡ recovered p → Recovers p x
  recover-end n e h q = recovers (sym (recovery-stays n x (sym e ∙ h)) ∙ q)

  pub recover-last : (n : ℕ) → n ≤ 0 → recovery_from n x ≡ recovered p → Recovers p x
  unfolding recovery_from
  recover-last zero l q = recovers q
  recover-last (suc n) l q = absurd (omega arith)
