-- Recoveries, over any fact of the place reached and the state that holds at a cut and that starts, steps and cuts of recoveries keep
-- (`Resuming`): each starts, meets no refusal, and ends if it is not cut. Of a sound pool and typed calls (`Input`). Assumes nothing else.
use mathlib.Core.Path.{◌≡◌, refl, sym, ap, ap₂, ◌∙◌, subst}
use mathlib.Core.Logic.{◌≢◌, ◌⊎◌, inl, inr}
use mathlib.Core.Bool.{Bool, true, false}
use mathlib.Core.List.{List, Sublistᴰ}
use Prim.Native.Nat.{ℕ, zero, suc, ◌+◌, ◌*◌, ◌<◌}
use native.Mathlib.Omega.{arith}
use lib.Dec.{eqb, ltb}
use lib.ListN.{length, get_or}
use borrow.Author.Tests.{eqb-true, eqb-false, ltb-true}
use Rattle.rules.specs.Words.{word}
use Rattle.rules.specs.Shape.{Shape}
use Rattle.rules.specs.Header.{id_in, open_tests, shape_in}
use Rattle.rules.specs.Staging.{Store}
use Rattle.rules.specs.Plan.{Call}
use Rattle.rules.proofs.Bool.{split}
use Rattle.rules.proofs.Test.{first-passed, not-not, passed-right}
use Rattle.powercut.specs.Log.{Log, count_in, log_at, valid}
use Rattle.powercut.specs.Steps.{Remedy, Step, barrier, clear, neither, nothing, recovery_steps, remedy, replay, step_pool}
use Rattle.powercut.specs.Power.{State, act, keep, view}
use Rattle.powercut.specs.Recovery.{Progress, Recovery, count_above, finished, is_recovering, log_lost, next_progress, recovering, recovery_list, recovery_next, recovery_start, recovery_step, recovery_tests, start_recovery, with_progress}
use Rattle.powercut.specs.WholeRun.{Accepted, Holds, Makes, Uncut, cut_off, entries, holding, resuming}
use Rattle.powercut.specs.Claim.{End, EndsIn, Over}
use Rattle.powercut.specs.Scribble.{Recoveries, Resumed, Taken}
use Rattle.powercut.proofs.StepRun.{Position, at_cut, at_recovery}
use Rattle.powercut.proofs.StepCount.{clear-count, nothing-count, recovery-length, replay-count}
use Rattle.powercut.proofs.StepPool.{view-act}
use Rattle.powercut.proofs.Answers.{accepted-again, accepted-recovery, again-left, again-next, again-none, again-passed, count_small, done-is, list-is, log-past, log-there, progress-end, progress-on}
use Rattle.powercut.proofs.RunInput.{HeadersKept, Input, few, id-is, opens, shape_is}

module _ (inp : Input) where
  abbrev pool : List ℕ
  pool = inp.pool

  abbrev staging : List ℕ
  staging = inp.staging

  abbrev ks : List Call
  ks = inp.ks

  abbrev sh : Shape
  sh = shape_in pool

  abbrev es : List Store
  es = entries pool staging ks

  -- ---- the ends are reached

  abbrev Ends : ℕ → Holds → State → Type 0
  Ends = EndsIn pool staging ks

  pub ends-here : {h : Holds} {s : State} → Over h → Ends 0 h s
  ends-here {h} {s} o = record { holds = h; state = s; way = Uncut.here; over = o }

  pub ends-onward : {m : ℕ} {h h' : Holds} {s s' : State} → Makes pool staging ks h s h' s' → Ends m h' s' → Ends (suc m) h s
  ends-onward f w = record { holds = w.holds; state = w.state; way = Uncut.onward f w.way; over = w.over }

  -- what a recovery does: nothing, the clearing of both seals, or the replay of a log with all entries
  abbrev pub Works : Remedy → Type 0
  Works q = (q ≡ nothing) ⊎ ((q ≡ clear) ⊎ ((l : Log) × (q ≡ replay l (length es))))

  works-not : {q : Remedy} → Works q → q ≢ neither
  works-not (inl i) e = let z : ◌≡◌ {A = ℕ} 0 1 = cc in omega arith
  works-not (inr (inl i)) e = let z : ◌≡◌ {A = ℕ} 0 1 = cc in omega arith
  works-not (inr (inr (l, i))) e = let z : ◌≡◌ {A = ℕ} 0 1 = cc in omega arith

  -- it has no steps, 3 or 2n + 5
  works-count : (p : List ℕ) (q : Remedy) → Works q
      → (length (recovery_steps sh p q) ≡ 0) ⊎ ((length (recovery_steps sh p q) ≡ 3) ⊎ (length (recovery_steps sh p q) ≡ 2 * length es + 5))
  works-count p q (inl i) = inl (rw i (nothing-count sh p))
  works-count p q (inr (inl i)) = inr (inl (rw i (clear-count sh p)))
  works-count p q (inr (inr (l, i))) = inr (inr (rw i (replay-count sh p l (length es))))

  pub record Resuming (P : Position → State → Type 0) : Type 0 where
    -- the headers are those of the start
    pub front : (f : Position) (s : State) → P f s → HeadersKept inp (view s)
    -- a recovery is found at a cut, goes on step by step, and may be cut again
    pub found : (s : State) → P at_cut s → P (at_recovery (remedy sh (view s)) 0) s
    pub again : (q : Remedy) (k : ℕ) (s : State) → P (at_recovery q k) s → k < length (recovery_steps sh (view s) q)
        → P (at_recovery q (suc k)) (act sh es (get_or (recovery_steps sh (view s) q) k barrier) s)
    pub cuts : (q : Remedy) (k : ℕ) (s : State) (kept : List Store) → P (at_recovery q k) s → Sublistᴰ kept s.pend → P at_cut (keep sh es s kept)
    pub works : (q : Remedy) (k : ℕ) (s : State) → P (at_recovery q k) s → Works q
    -- while a replay stores data or parity, its log is valid with its count
    pub log-kept : (l : Log) (n k : ℕ) (s : State) → P (at_recovery (replay l n) k) s → k < 2 * n + 2
        → (valid sh (view s) (log_at sh l) ≡ true) × (count_in (word (view s) (log_at sh l)) ≡ n)

  module _ (P : Position → State → Type 0) where
    -- what is held, and the fact of the place that it says
    abbrev pub RecoveryIn : Remedy → Progress → State → Type 0
    RecoveryIn q (recovering k) s = (k < length (recovery_steps sh (view s) q)) × P (at_recovery q k) s
    RecoveryIn q finished s = P (at_recovery q (length (recovery_steps sh (view s) q))) s

    abbrev pub MatchesIn : Holds → State → Type 0
    MatchesIn (holding t) s = ⊥
    MatchesIn cut_off s = P at_cut s
    MatchesIn (resuming r) s = RecoveryIn r.work r.phase s × (r.id ≡ id_in pool)

    module _ (R : Resuming P) where
      -- ---- what the calls leave

      -- a recovery starts at every cut, with the remedy that the pool asks for
      pub restart : (s : State) → P at_cut s
          → Accepted (recovery_start (view s)).answer × ((recovery_start (view s)).recovery ≡ (start_recovery (view s) (remedy sh (view s))).recovery)
      restart s c =
          let h = R.front at_cut s c in
          let x : remedy (shape_in (view s)) (view s) ≡ remedy sh (view s) = ap (λ (y : Shape). remedy y (view s)) (shape_is inp (view s) h) in
          let a = accepted-recovery (view s) (opens inp (view s) h) (λ e. works-not (R.works _ 0 s (R.found s c)) (sym x ∙ e)) in
          (a.0, a.1 ∙ ap (λ (q : Remedy). (start_recovery (view s) q).recovery) x)

      pub recover-matches : (s : State) → P at_cut s → MatchesIn (resuming (recovery_start (view s)).recovery) s
      recover-matches s c = subst (λ (r : Recovery). MatchesIn (resuming r) s) (sym (restart s c).1) (go (remedy sh (view s)) (R.found s c))
        where
          id : id_in (view s) ≡ id_in pool
          id = id-is inp (view s) (R.front at_cut s c)

          go : (q : Remedy) → P (at_recovery q 0) s → MatchesIn (resuming (start_recovery (view s) q).recovery) s
          go (replay l n) b = unfold start_recovery in (((let k = replay-count sh (view s) l n in omega arith), b), id)
          go clear b = unfold start_recovery in (((let k = clear-count sh (view s) in omega arith), b), id)
          go nothing b = unfold start_recovery in (subst (λ (k : ℕ). P (at_recovery nothing k) s) (sym (nothing-count sh (view s))) b, id)
          go neither b = absurd (works-not (R.works neither 0 s b) refl)

      -- a step of a recovery
      next-matches : (q : Remedy) (k n : ℕ) (x : State) → n ≡ length (recovery_steps sh (view x) q) → k < n → P (at_recovery q (suc k)) x → RecoveryIn q (next_progress k n) x
      unfolding next_progress
      next-matches q k n x e l c =
          split (eqb (suc k) n)
          (λ i. rw i (subst (λ (m : ℕ). P (at_recovery q m) x) (eqb-true (suc k) n i ∙ e) c))
          (λ i. rw i (let m = eqb-false (suc k) n i in omega arith, c))

      pub again-matches : (r : Recovery) (s : State) → MatchesIn (resuming r) s → Accepted (recovery_step (view s) r).answer
          → MatchesIn (resuming (recovery_step (view s) r).recovery) (act sh es (recovery_next (view s) r) s)
      again-matches r s h f = go r.phase refl h.0
        where
          on : is_recovering r.phase ≡ true
          on = unfold recovery_tests in (not-not (is_recovering r.phase) (passed-right (open_tests (view s)) _ (first-passed (recovery_tests (view s) r) (again-none (view s) r f))).1.1.0)

          go : (p : Progress) → r.phase ≡ p → RecoveryIn r.work p s → MatchesIn (resuming (recovery_step (view s) r).recovery) (act sh es (recovery_next (view s) r) s)
          go finished e c = absurd (unfold is_recovering in (let z : ◌≡◌ {A = ℕ} 0 1 = cc (on, ap is_recovering e) in omega arith))
          go (recovering k) e c =
              let q : Remedy = r.work in
              let m : recovery_list (view s) r ≡ recovery_steps sh (view s) q = list-is (view s) r sh (shape_is inp (view s) (R.front _ s c.1)) in
              let x : recovery_next (view s) r ≡ get_or (recovery_steps sh (view s) q) k barrier =
              again-next (view s) r k (recovery_steps sh (view s) q) e m in
              let n : (recovery_step (view s) r).recovery ≡ with_progress r (next_progress k (length (recovery_steps sh (view s) q))) =
              again-left (view s) r f ∙ ap₂ (λ (j : ℕ) (l : List Step). with_progress r (next_progress j (length l))) (done-is r.phase k e) m in
              let s' : State = act sh es (get_or (recovery_steps sh (view s) q) k barrier) s in
              subst (λ (y : Recovery). MatchesIn (resuming y) (act sh es (recovery_next (view s) r) s)) (sym n) (
                subst (λ (y : Step). RecoveryIn q (next_progress k (length (recovery_steps sh (view s) q))) (act sh es y s)) (sym x)
                    (next-matches q k (length (recovery_steps sh (view s) q)) s' (recovery-length sh (view s) (view s') q) c.0 (R.again q k s c.1 c.0)),
                h.1,
              )

      pub cut-matches : (r : Recovery) (s : State) (kept : List Store) → MatchesIn (resuming r) s → Sublistᴰ kept s.pend → P at_cut (keep sh es s kept)
      cut-matches r s kept h t = go r.phase h.0
        where
          go : (f : Progress) → RecoveryIn r.work f s → P at_cut (keep sh es s kept)
          go (recovering k) b = R.cuts r.work k s kept b.1 t
          go finished b = R.cuts r.work _ s kept b t

      -- ---- no refusal

      pub restarts : (s : State) → P at_cut s
          → Accepted (recovery_start (view s)).answer
          × (((recovery_start (view s)).recovery.phase ≡ finished) ⊎ ((recovery_start (view s)).recovery.phase ≡ recovering 0))
      restarts s c =
          let a = restart s c in
          (a.0, subst (λ (x : Recovery). (x.phase ≡ finished) ⊎ (x.phase ≡ recovering 0)) (sym a.1) (phases (remedy sh (view s))))
        where
          phases : (q : Remedy) → ((start_recovery (view s) q).recovery.phase ≡ finished) ⊎ ((start_recovery (view s) q).recovery.phase ≡ recovering 0)
          phases (replay l n) = inr (unfold start_recovery in refl)
          phases clear = inr (unfold start_recovery in refl)
          phases nothing = inl (unfold start_recovery in refl)
          phases neither = inl (unfold start_recovery in refl)

      -- a recovery that works is possible at every place of its list
      possible : (q : Remedy) (k : ℕ) (s : State) → P (at_recovery q k) s → Works q → (count_above q ≡ false) × (log_lost sh (view s) q k ≡ false)
      possible q k s b (inl i) = unfold count_above log_lost in (rw i (refl, refl))
      possible q k s b (inr (inl i)) = unfold count_above log_lost in (rw i (refl, refl))
      possible q k s b (inr (inr (l, i))) =
          subst (λ (w : Remedy). (count_above w ≡ false) × (log_lost sh (view s) w k ≡ false)) (sym i) (
            count_small n l (few inp),
            split (ltb k (2 * n + 2))
                (λ j. let h = R.log-kept l n k s (subst (λ (w : Remedy). P (at_recovery w k) s) i b) (ltb-true k (2 * n + 2) j) in log-there sh (view s) l n k j h.0 h.1)
                (log-past sh (view s) l n k),
          )
        where
          n : ℕ
          n = length es

      pub taken : (r : Recovery) (s : State) (k : ℕ) → MatchesIn (resuming r) s → r.phase ≡ recovering k
          → Taken pool staging ks r s k (length (recovery_steps sh (view s) r.work))
      taken r s k h e =
          let c : RecoveryIn r.work (recovering k) s = subst (λ (f : Progress). RecoveryIn r.work f s) e h.0 in
          let w = R.front _ s c.1 in
          let x = shape_is inp (view s) w in
          let m = list-is (view s) r sh x in
          let i = possible r.work k s c.1 (R.works _ k s c.1) in
          let a = accepted-again (view s) r (again-passed (view s) r k (opens inp (view s) w) e i.0 (rw m c.0)
          (ap (λ (y : Shape). log_lost y (view s) r.work k) x ∙ i.1) (h.1 ∙ sym (id-is inp (view s) w))) in
          record {
            accepted = a.0;
            leaves = a.1 ∙ ap (λ (y : Shape). step_pool y (recovery_next (view s) r) (view s)) x ∙ sym (view-act sh es (recovery_next (view s) r) s);
            inside = rw m c.0;
            count = ap length m;
          }

      -- it clears both seals, in 3 steps, or replays a log, in 2n + 5
      pub resumes : (r : Recovery) (s : State) (k : ℕ) → MatchesIn (resuming r) s → r.phase ≡ recovering k
          → Taken pool staging ks r s k 3 ⊎ Taken pool staging ks r s k (2 * length es + 5)
      resumes r s k h e = go (works-count (view s) r.work (R.works r.work k s c.1))
        where
          m : ℕ
          m = length (recovery_steps sh (view s) r.work)

          c : RecoveryIn r.work (recovering k) s
          c = subst (λ (f : Progress). RecoveryIn r.work f s) e h.0

          go : (m ≡ 0) ⊎ ((m ≡ 3) ⊎ (m ≡ 2 * length es + 5)) → Taken pool staging ks r s k 3 ⊎ Taken pool staging ks r s k (2 * length es + 5)
          go (inl i) = absurd (let l = c.0 in omega arith)
          go (inr (inl i)) = inl (subst (Taken pool staging ks r s k) i (taken r s k h e))
          go (inr (inr i)) = inr (subst (Taken pool staging ks r s k) i (taken r s k h e))

      -- so one that is not cut ends
      recover-on : (m k : ℕ) (r : Recovery) (s : State) → MatchesIn (resuming r) s → r.phase ≡ recovering k
          → k + m ≡ length (recovery_steps sh (view s) r.work) → Ends m (resuming r) s
      recover-on zero k r s h e q = let i = taken r s k h e in absurd (let a = i.inside in let b = i.count in omega arith)
      recover-on (suc m) k r s h e q =
          let i = taken r s k h e in
          let n : ℕ = length (recovery_list (view s) r) in
          let r₁ : Recovery = (recovery_step (view s) r).recovery in
          let s₁ : State = act sh es (recovery_next (view s) r) s in
          let w : r₁ ≡ with_progress r (next_progress k n) =
          again-left (view s) r i.accepted ∙ ap (λ (j : ℕ). with_progress r (next_progress j n)) (done-is r.phase k e) in
          let f : r₁.phase ≡ next_progress k n = ap (λ (x : Recovery). x.phase) w in
          let g : length (recovery_steps sh (view s₁) r₁.work) ≡ length (recovery_steps sh (view s) r.work) =
          ap (λ (x : Recovery). length (recovery_steps sh (view s₁) x.work)) w ∙ recovery-length sh (view s₁) (view s) r.work in
          ends-onward (Makes.again i.accepted) (split (eqb (suc k) n)
          (λ d. last (let a = eqb-true (suc k) n d in let b = i.count in omega arith) (ends-here (f ∙ progress-end k n d)))
          (λ d. recover-on m (suc k) r₁ s₁ (again-matches r s h i.accepted) (f ∙ progress-on k n d) (omega arith)))
        where
          last : {h : Holds} {x : State} → 0 ≡ m → Ends 0 h x → Ends m h x
          last {h} {x} = subst (λ (j : ℕ). Ends j h x)

      pub ends : (s : State) → P at_cut s → Ends (suc (length (recovery_steps sh (view s) (remedy sh (view s))))) cut_off s
      ends s c = ends-onward (Makes.recover (restart s c).0) (go (remedy sh (view s)) (restart s c).1)
        where
          r : Recovery
          r = (recovery_start (view s)).recovery

          steps : (q : Remedy) → r.work ≡ q → r.phase ≡ recovering 0 → Ends (length (recovery_steps sh (view s) q)) (resuming r) s
          steps q w f =
              let e = ap (λ (x : Remedy). length (recovery_steps sh (view s) x)) w in
              recover-on (length (recovery_steps sh (view s) q)) 0 r s (recover-matches s c) f (omega arith)

          go : (q : Remedy) → r ≡ (start_recovery (view s) q).recovery → Ends (length (recovery_steps sh (view s) q)) (resuming r) s
          go (replay l n) i = unfold start_recovery in (steps (replay l n) (ap (λ (x : Recovery). x.work) i) (ap (λ (x : Recovery). x.phase) i))
          go clear i = unfold start_recovery in (steps clear (ap (λ (x : Recovery). x.work) i) (ap (λ (x : Recovery). x.phase) i))
          go nothing i = unfold start_recovery recovery_steps in (ends-here (ap (λ (x : Recovery). x.phase) i))
          go neither i = unfold start_recovery recovery_steps in (ends-here (ap (λ (x : Recovery). x.phase) i))

      pub recovers : (s : State) → P at_cut s → Ends 1 cut_off s ⊎ (Ends 4 cut_off s ⊎ Ends (suc (2 * length es + 5)) cut_off s)
      recovers s c = go (works-count (view s) (remedy sh (view s)) (R.works (remedy sh (view s)) 0 s (R.found s c)))
        where
          m : ℕ
          m = length (recovery_steps sh (view s) (remedy sh (view s)))

          in_all : {n : ℕ} → m ≡ n → Ends (suc n) cut_off s
          in_all e = subst (λ (j : ℕ). Ends (suc j) cut_off s) e (ends s c)

          go : (m ≡ 0) ⊎ ((m ≡ 3) ⊎ (m ≡ 2 * length es + 5)) → Ends 1 cut_off s ⊎ (Ends 4 cut_off s ⊎ Ends (suc (2 * length es + 5)) cut_off s)
          go (inl e) = inl (in_all e)
          go (inr (inl e)) = inr (inl (in_all e))
          go (inr (inr e)) = inr (inr (in_all e))

      -- ---- recoveries from a power-off state

      pub resumed-matches : (s₀ : State) → P at_cut s₀ → {h : Holds} {s : State} → Resumed pool staging ks s₀ h s → MatchesIn h s
      resumed-matches s₀ c Resumed.begin = c
      resumed-matches s₀ c (Resumed.next r m) = makes m (resumed-matches s₀ c r)
        where
          makes : {s s' : State} {h h' : Holds} → Makes pool staging ks h s h' s' → MatchesIn h s → MatchesIn h' s'
          makes (Makes.commit f) b = absurd b
          makes (Makes.step f) b = absurd b
          makes (Makes.recover {s} f) b = recover-matches s b
          makes (Makes.again {r} {s} f) b = again-matches r s b f
      resumed-matches s₀ c (Resumed.cut_again {r = q} {s} {kept} r t) = cut-matches q s kept (resumed-matches s₀ c r) t

      -- THEY RECOVER: what is left to show is that each end is one
      pub all-recover : (s₀ : State) (is_new : Bool) → P at_cut s₀
          → ((q : Remedy) (k : ℕ) (s : State) → P (at_recovery q k) s → k ≡ length (recovery_steps sh (view s) q) → End pool staging ks s is_new)
          → Recoveries pool staging ks s₀ is_new
      all-recover s₀ is_new c f = record {
        recovered = λ r s u e. f r.work _ s (subst (λ (p : Progress). RecoveryIn r.work p s) e (resumed-matches s₀ c u).0) refl;
        restarts = λ s u. restarts s (resumed-matches s₀ c u);
        resumes = λ r s k u e. resumes r s k (resumed-matches s₀ c u) e;
        recovers = λ s u. recovers s (resumed-matches s₀ c u);
      }
