-- Recoveries by step numbers over a pool with one log lost: what holds at every moment. Of a shape with a page of whole words (`Good`), and,
-- where all is to be new, of one entry or more over a clean pool (`Setting`). Assumes nothing else.
use mathlib.Core.Path.{◌≡◌, refl, sym, ap, ◌∙◌, subst}
use mathlib.Core.Logic.{◌⊎◌, inl, inr}
use mathlib.Core.Bool.{Bool, true, false, ◌||◌}
use mathlib.Core.List.Sublistᴰ
use mathlib.Core.List.{List, [], ◌∷◌, ◌++◌, map, Sublistᴰ}
use Prim.Native.Nat.{ℕ, suc, ◌+◌, ◌*◌, ◌%◌, ◌<◌}
use native.Mathlib.Nat.{zero-lt-suc, le_refl}
use native.Mathlib.Decide.{ℕ_discrete}
use native.Mathlib.Omega.{arith}
use borrow.Author.Tests.{ne_eqb}
use lib.ListN.{length, get_or, drop, length-drop}
use Rattle.rules.specs.Words.{Bytes, word, put}
use Rattle.rules.specs.Shape.{Shape, entry_size, log_a, log_b, log_head, pool_size}
use Rattle.rules.specs.Staging.{Store, entries_at, lay}
use Rattle.rules.proofs.Words.{length-put, word-put, word-put-other}
use Rattle.rules.proofs.Shape.{Good}
use Rattle.rules.proofs.Stores.{All, Fact, all-sub, bytes-lay, length-lay}
use Rattle.powercut.specs.Log.{Log, count_in, from_a, from_b, log_at, seal_of, valid}
use Rattle.powercut.specs.Steps.{Remedy, Step, barrier, clear, neither, nothing, parity, recovery_steps, redo, remedy, replay, seals, store}
use Rattle.powercut.specs.Power.{State, act, any_seal, keep, view}
use Rattle.powercut.specs.Scribble.{other}
use Rattle.powercut.proofs.StepRun.{Position, at_commit, at_cut, at_recovery}
use Rattle.powercut.proofs.FinalPool.{Setting}
use Rattle.powercut.proofs.Logs.{even-log, in-log, log-reads, not_valid, remedy-nothing, seal-count, valid-sealed}
use Rattle.powercut.proofs.CrashSafe.{CrashSafe, makes-stores, phase, safe-end, safe-now, safe-step, st}
use Rattle.powercut.proofs.Redo.{AfterCut, CleanAt, CutLog, Done, Facts, Is, Outside, ReplayAt, SealPair, Source, With, clean-seal, lay-with, new, redo-crash-safe}
use Rattle.powercut.proofs.StepCount.{redo-count}
use Rattle.powercut.proofs.StepPool.{reached-act, view-act}
use Rattle.powercut.proofs.Alike.{Alike, Off, RedoStore, RedoStep, SameOff, alike-act, alike-cut, clear-steps, lay-lost, lift, lost-act, off-headers, off-other, off-zones, redo-steps, same_word, views}
use Rattle.powercut.proofs.Untouched.{entries-same, words, words-redo}

-- each log is l or the other one
both-logs : (P : Log → Type 0) (l : Log) → P l → P (other l) → (x : Log) → P x
unfolding other
both-logs P from_a h k from_a = h
both-logs P from_a h k from_b = k
both-logs P from_b h k from_a = k
both-logs P from_b h k from_b = h

-- ---- which log a recovery takes, with log l lost

remedy-other : (sh : Shape) (l : Log) (p : List ℕ) (n : ℕ) → valid sh p (log_at sh l) ≡ false → valid sh p (log_at sh (other l)) ≡ true
    → count_in (word p (log_at sh (other l))) ≡ n → remedy sh p ≡ replay (other l) n
unfolding remedy other
remedy-other sh from_a p n v o e = rw (v, o, e)
remedy-other sh from_b p n v o e = rw (o, e)

remedy-clear : (sh : Shape) (l : Log) (p : List ℕ) → valid sh p (log_at sh l) ≡ false → (word p (log_at sh l) ≡ 0 → ⊥)
    → word p (log_at sh (other l)) ≡ 0 → remedy sh p ≡ clear
unfolding remedy other
remedy-clear sh from_a p v w z = rw (v, not_valid sh p (log_b sh) z, ne_eqb _ 0 w, z)
remedy-clear sh from_b p v w z = rw (not_valid sh p (log_a sh) z, v, ne_eqb _ 0 w, z)

module _ (sh : Shape) (es : List Store) where
  -- ---- facts along a list of steps

  -- two facts at the end give a third
  safe-both : (I : ℕ → State → Type 0) (F F' G : State → Type 0) → ((s : State) → F s → F' s → G s) → (xs : List Step) (s : State)
      → CrashSafe sh es I F xs s → CrashSafe sh es (λ n s. Unit {0}) F' xs s → CrashSafe sh es I G xs s
  safe-both I F F' G f [] s h k = (h.0, f s h.1 k.1)
  safe-both I F F' G f (x ∷ xs) s h k = (h.0, safe-both I F F' G f xs (act sh es x s) h.1 k.1)

  length-act : (x : Step) (s : State) → length (act sh es x s).base ≡ length s.base
  unfolding act keep
  length-act (store x) s = refl
  length-act (parity e) s = refl
  length-act barrier s = length-lay s.base s.pend

  -- after the clears and their barrier the seal of log l is zero, whatever came before
  module _ (l : Log) (g : Good sh) where
    cleared : (p : List ℕ) → length p ≡ pool_size sh → word (put (put p (log_a sh) 0) (log_b sh) 0) (log_at sh l) ≡ 0
    cleared p e = go l where
      apart : log_a sh ≡ log_b sh → ⊥
      apart i = let m = g.page-min in omega arith

      go : (x : Log) → word (put (put p (log_a sh) 0) (log_b sh) 0) (log_at sh x) ≡ 0
      go from_a =
          word-put-other (put p (log_a sh) 0) (log_b sh) 0 (log_a sh) (even-log sh from_b g) (even-log sh from_a g) apart
          ∙ word-put p (log_a sh) 0 (rw e (in-log sh from_a g)) (zero-lt-suc _)
      go from_b = word-put (put p (log_a sh) 0) (log_b sh) 0 (rw (length-put p (log_a sh) 0 ∙ e) (in-log sh from_b g)) (zero-lt-suc _)

    ends-cleared : (xs : List Step) (s : State) → length s.base ≡ pool_size sh
        → CrashSafe sh es (λ n s. Unit {0}) (λ s. word s.base (log_at sh l) ≡ 0) (xs ++ (map store (seals sh 0) ++ barrier ∷ [])) s
    unfolding act keep
    ends-cleared [] s e = (tt, (tt, (tt, (tt, ap (λ (p : List ℕ). word p (log_at sh l)) made ∙ cleared (view s) (length-lay s.base s.pend ∙ e))))) where
      zero-at : Log → Step
      zero-at x = store (record { at = log_at sh x; val = 0 })

      made : view (act sh es (zero-at from_b) (act sh es (zero-at from_a) s)) ≡ put (put (view s) (log_a sh) 0) (log_b sh) 0
      made = view-act sh es (zero-at from_b) (act sh es (zero-at from_a) s) ∙ ap (λ (p : List ℕ). put p (log_b sh) 0) (view-act sh es (zero-at from_a) s)
    ends-cleared (x ∷ xs) s e = (tt, ends-cleared xs (act sh es x s) (length-act x s ∙ e))

    ends-redo : (s : State) → length s.base ≡ pool_size sh → CrashSafe sh es (λ n s. Unit {0}) (λ s. word s.base (log_at sh l) ≡ 0) (redo sh es) s
    ends-redo s e =
        subst (λ (xs : List Step). CrashSafe sh es (λ n s. Unit {0}) (λ s. word s.base (log_at sh l) ≡ 0) xs s) (sym (words-redo sh es))
        (ends-cleared (words sh es) s e)

module _ (sh : Shape) (es : List Store) (p₀ : List ℕ) (l : Log) (b : Bool) where
  -- a pool that a cut may leave, but for log l: there is one that differs from it in log l alone, has no seal there, and is all new, all old or
  -- to be replayed, as b says
  pub record Spared (p : List ℕ) : Type 0 where
    pub counterpart : List ℕ
    pub same : SameOff sh l p counterpart
    pub after : AfterCut sh es p₀ counterpart b
    pub zero : word counterpart (log_at sh l) ≡ 0

  -- and log l is lost
  pub record Scribbled (p : List ℕ) : Type 0 where
    pub spared : Spared p
    pub bytes : Bytes p
    pub lost : valid sh p (log_at sh l) ≡ false

  -- what a recovery does then, and its steps
  abbrev pub Known : Remedy → Type 0
  Known (replay x n) = (b ≡ true) × (x ≡ other l) × (n ≡ length es)
  Known clear = Unit {0}
  Known nothing = Unit {0}
  Known neither = ⊥

  abbrev pub list_of : Remedy → List Step
  list_of (replay x n) = redo sh es
  list_of clear = map store (seals sh 0) ++ barrier ∷ []
  list_of nothing = []
  list_of neither = []

  -- the log that is replayed holds the entries, and until the last three steps its seal
  abbrev pub LogKept : Remedy → ℕ → State → Type 0
  LogKept (replay x n) m s = (entries_at (view s) (log_at sh x + log_head) (length es) ≡ es) × (3 < m → word (view s) (log_at sh x) ≡ seal_of es)
  LogKept clear m s = Unit {0}
  LogKept nothing m s = Unit {0}
  LogKept neither m s = Unit {0}

  -- with m steps left: whatever a cut keeps
  abbrev pub ScribbledCut : Remedy → ℕ → State → Type 0
  ScribbledCut w m s = ((kept : List Store) → Sublistᴰ kept s.pend → Scribbled (lay s.base kept)) × LogKept w m s

  abbrev pub ScribbledDone : State → Type 0
  ScribbledDone s = (s.pend ≡ []) × CleanAt sh es p₀ s.base b

  abbrev pub ScribbledInv : Position → State → Type 0
  ScribbledInv (at_commit k) s = ⊥
  ScribbledInv at_cut s = (s.pend ≡ []) × Scribbled s.base
  ScribbledInv (at_recovery w k) s = Known w × CrashSafe sh es (ScribbledCut w) ScribbledDone (drop k (list_of w)) s

  module _ (g : Good sh) (c : b ≡ true → Setting sh es p₀) where
    -- ---- pools that differ in log l alone

    word-other : (p q : List ℕ) → SameOff sh l p q → word p (log_at sh (other l)) ≡ word q (log_at sh (other l))
    word-other p q h = same_word sh l g p q h (log_at sh (other l)) (λ i k. off-other sh l g i (omega arith))

    -- the second is clean: then the first has no seal in the other log, and is clean if it has none in log l
    clean-other : (p q : List ℕ) → SameOff sh l p q → CleanAt sh es p₀ q b → word p (log_at sh (other l)) ≡ 0
    clean-other p q h k = word-other p q h ∙ clean-seal sh es p₀ g q b k (other l)

    clean-same : (p q : List ℕ) → SameOff sh l p q → Bytes p → CleanAt sh es p₀ q b → word p (log_at sh l) ≡ 0 → CleanAt sh es p₀ p b
    clean-same p q h y k z = record {
      length-is = h.size ∙ k.length-is;
      bytes = y;
      every = λ a ha hn. record {
        sa = λ e. ap (word p) e ∙ zeros from_a;
        sb = λ e. ap (word p) e ∙ zeros from_b;
        log = tt;
        out = λ o. same_word sh l g p q h a (outer a ha o) ∙ (k.every a ha hn).out o;
      };
    }
      where
        zeros : (x : Log) → word p (log_at sh x) ≡ 0
        zeros = both-logs (λ x. word p (log_at sh x) ≡ 0) l z (clean-other p q h k)

        outer : (a : ℕ) → a % 8 ≡ 0 → Outside sh a → (i : ℕ) → i < 8 → Off sh l (a + i)
        outer a ha (inl o) i k = off-headers sh l g (a + i) (before (log_a sh) (even-log sh from_a g) o) where
          before : (m : ℕ) → m % 8 ≡ 0 → a < m → a + i < m
          before m e o = omega arith
        outer a ha (inr o) i k = off-zones sh l g (a + i) (omega arith)

    -- ---- the same steps on both

    -- the pools differ in log l alone, which is lost in the first; the second has a seal reached, as a replay asks
    abbrev Beside : State → State → Type 0
    Beside s s' = Alike sh l s s' × (valid sh s.base (log_at sh l) ≡ false) × (s'.reached ≡ true)

    beside : (s : State) → s.pend ≡ [] → (h : Scribbled s.base) → length h.spared.counterpart ≡ pool_size sh → Beside s (st h.spared.counterpart [] true)
    beside s e h n = (
      record {
        pend = e;
        pool = h.spared.same;
        length-is = h.spared.same.size ∙ n;
        bytes = h.bytes;
        zero = h.spared.zero;
        stores = subst (All (RedoStore sh)) (sym e) tt;
      },
      h.lost,
      refl,
    )

    beside-act : (x : Step) → RedoStep sh x → (s s' : State) → Beside s s' → Beside (act sh es x s) (act sh es x s')
    beside-act x q s s' (a, v, r) = (alike-act sh l g es x q s s' a, lost-act sh l g es x s s' a v, reached-act sh es x s' r)

    -- what a cut may leave of the first is what it may leave of the second, but for log l
    beside-cut : (s s' : State) → Beside s s' → ((kept : List Store) → Sublistᴰ kept s'.pend → AfterCut sh es p₀ (lay s'.base kept) b)
        → (kept : List Store) → Sublistᴰ kept s.pend → Scribbled (lay s.base kept)
    beside-cut s s' (a, v, r) h kept t =
        let k = alike-cut sh l g s s' a kept t in
        record {
          spared = record {
            counterpart = lay s'.base kept;
            same = k.0;
            after = h kept (subst (λ (d : List Store). Sublistᴰ kept d) a.pend t);
            zero = k.1;
          };
          bytes = bytes-lay s.base kept a.bytes;
          lost = lay-lost sh l g s.base kept a.length-is (all-sub (RedoStore sh) t a.stores) v;
        }

    -- at the end of the steps the first pool is clean but for its seal in log l
    abbrev Nearly : State → Type 0
    Nearly s = (s.pend ≡ []) × Bytes s.base × ((q : List ℕ) × SameOff sh l s.base q × CleanAt sh es p₀ q b)

    nearly-done : (s : State) → Nearly s → word s.base (log_at sh l) ≡ 0 → ScribbledDone s
    nearly-done s (e, y, (q, h, k)) z = (e, clean-same s.base q h y k z)

    beside-done : (s s' : State) → Beside s s' → (s'.pend ≡ []) × CleanAt sh es p₀ s'.base b → Nearly s
    beside-done s s' (a, v, r) (e, k) = (a.pend ∙ e, a.bytes, (s'.base, a.pool, k))

    -- ---- the clears

    -- on a clean pool they change no fact
    abbrev CleanFacts : Fact
    CleanFacts = Facts sh (Is 0) (Is 0) (λ a w. Unit {0}) (λ a w. w ≡ word (new sh es p₀ b) a)

    clears : All (With sh CleanFacts) (seals sh 0)
    clears = (one from_a, (one from_b, tt)) where
      inside : (x : Log) → Outside sh (log_at sh x) → ⊥
      inside from_a (inl o) = omega arith
      inside from_a (inr o) = let m = g.page-min in omega arith
      inside from_b (inl o) = omega arith
      inside from_b (inr o) = let m = g.page-min in omega arith

      one : (x : Log) → With sh CleanFacts (log_at sh x) 0
      one x = (
        record { even = even-log sh x g; inside = in-log sh x g; small = zero-lt-suc _ },
        record { sa = λ e. refl; sb = λ e. refl; log = tt; out = λ o. absurd (inside x o) },
      )

    clean-lay : (q : List ℕ) → CleanAt sh es p₀ q b → (d : List Store) → All (With sh CleanFacts) d → CleanAt sh es p₀ (lay q d) b
    clean-lay q h d w =
        record { length-is = length-lay q d ∙ h.length-is; bytes = bytes-lay q d h.bytes; every = lay-with sh CleanFacts q d h.length-is h.every w }

    abbrev CleanCut : ℕ → State → Type 0
    CleanCut n s = (kept : List Store) → Sublistᴰ kept s.pend → CleanAt sh es p₀ (lay s.base kept) b

    clear-clean : (q : List ℕ) → CleanAt sh es p₀ q b
        → CrashSafe sh es CleanCut ScribbledDone (map store (seals sh 0) ++ barrier ∷ []) (st q [] true)
    clear-clean q h =
        phase sh es CleanCut ScribbledDone (With sh CleanFacts) q true [] 2 (λ xs hn d w kept t. clean-lay q h kept (all-sub (With sh CleanFacts) t w))
        (map store (seals sh 0)) (seals sh 0) [] (le_refl 2) (makes-stores sh es (With sh CleanFacts) q true (seals sh 0)) tt clears
        ((λ kept t. subst (λ (d : List Store). CleanAt sh es p₀ (lay (lay q (seals sh 0)) d) b) (sym (Sublistᴰ.eq-nil t)) after), (refl, after))
      where
        after : CleanAt sh es p₀ (lay q (seals sh 0)) b
        after = clean-lay q h (seals sh 0) clears

    clear-safe : (s : State) → s.pend ≡ [] → (h : Scribbled s.base) → CleanAt sh es p₀ h.spared.counterpart b
        → CrashSafe sh es (ScribbledCut clear) ScribbledDone (map store (seals sh 0) ++ barrier ∷ []) s
    clear-safe s e h k =
        safe-both sh es (ScribbledCut clear) Nearly (λ s. word s.base (log_at sh l) ≡ 0) ScribbledDone nearly-done (map store (seals sh 0) ++ barrier ∷ []) s
        (lift sh es Beside beside-act (ScribbledCut clear) CleanCut Nearly ScribbledDone
        (λ n s s' r i. (beside-cut s s' r (λ kept t. inl (i kept t)), tt)) beside-done (map store (seals sh 0) ++ barrier ∷ []) (clear-steps sh g) s
        (st h.spared.counterpart [] true) (beside s e h k.length-is) (clear-clean h.spared.counterpart k))
        (ends-cleared sh es l g [] s (h.spared.same.size ∙ k.length-is))

    -- ---- the replay of the other log

    -- the log replayed is outside log l, so both hold the same there
    beside-log : b ≡ true → (n : ℕ) (s s' : State) → Beside s s' → CutLog sh es p₀ (log_at sh (other l)) n s' → ScribbledCut (replay (other l) (length es)) n s
    beside-log y n s s' (a, v, r) (i, hold, seal) = (
      beside-cut s s' (a, v, r) (λ kept t. subst (AfterCut sh es p₀ (lay s'.base kept)) (ap (λ (x : Bool). x || any_seal sh es kept) r ∙ sym y) (i kept t)),
      (
        entries-same (view s) (view s') at at (length es) (λ i k. same.same (at + i) (away i k))
            ∙ log-reads sh g (other l) (view s') 0 es hold at (omega arith),
        λ k. word-other (view s) (view s') same ∙ seal k,
      ),
    )
      where
        at : ℕ
        at = log_at sh (other l) + log_head

        same : SameOff sh l (view s) (view s')
        same = views sh l g s s' a

        away : (i : ℕ) → i < entry_size * length es → Off sh l (at + i)
        away i k = subst (Off sh l) (omega arith) (off-other sh l g (log_head + i) (let m = (c y).few in omega arith))

    -- with no seal in log l, the other log is the sealed one
    source : (q : List ℕ) (h : ReplayAt sh es p₀ q) → word q (log_at sh l) ≡ 0 → Source sh es p₀ h.pair.v_a h.pair.v_b (log_at sh (other l))
    unfolding other
    source q h z = go l z where
      v : SealPair sh es p₀
      v = h.pair

      go : (x : Log) → word q (log_at sh x) ≡ 0 → Source sh es p₀ v.v_a v.v_b (log_at sh (other x))
      go from_a z = inr (refl, which v.kind v.other) where
        none : v.v_a ≡ 0
        none = sym ((h.every (log_a sh) (even-log sh from_a g) (in-log sh from_a g)).sa refl) ∙ z

        which : (v.v_a ≡ seal_of es) ⊎ ((v.v_a ≡ 0) × (v.v_b ≡ seal_of es)) → (v.v_b ≡ 0) ⊎ (v.v_b ≡ seal_of es) → v.v_b ≡ seal_of es
        which (inl e) (inl o) = o ∙ sym none ∙ e
        which (inl e) (inr o) = o
        which (inr e) o = e.1
      go from_b z = inl (refl, which v.kind) where
        none : v.v_b ≡ 0
        none = sym ((h.every (log_b sh) (even-log sh from_b g) (in-log sh from_b g)).sb refl) ∙ z

        which : (v.v_a ≡ seal_of es) ⊎ ((v.v_a ≡ 0) × (v.v_b ≡ seal_of es)) → v.v_a ≡ seal_of es
        which (inl e) = e
        which (inr e) = e.0 ∙ sym none ∙ e.1

    redo-safe : (s : State) → s.pend ≡ [] → (h : Scribbled s.base) → b ≡ true → ReplayAt sh es p₀ h.spared.counterpart
        → CrashSafe sh es (ScribbledCut (replay (other l) (length es))) ScribbledDone (redo sh es) s
    redo-safe s e h y k =
        safe-both sh es I Nearly (λ s. word s.base (log_at sh l) ≡ 0) ScribbledDone nearly-done (redo sh es) s
        (lift sh es Beside beside-act I (CutLog sh es p₀ (log_at sh (other l))) Nearly (Done sh es p₀) (beside-log y) done (redo sh es)
        (redo-steps sh g es (c y).entries) s (st h.spared.counterpart [] true) (beside s e h k.length-is)
        (redo-crash-safe sh es p₀ (c y) h.spared.counterpart k (log_at sh (other l)) (source h.spared.counterpart k h.spared.zero)))
        (ends-redo sh es l g s (h.spared.same.size ∙ k.length-is))
      where
        I : ℕ → State → Type 0
        I = ScribbledCut (replay (other l) (length es))

        done : (s s' : State) → Beside s s' → Done sh es p₀ s' → Nearly s
        done s s' r (e, k, t) = beside-done s s' r (e, subst (CleanAt sh es p₀ s'.base) (t ∙ sym y) k)

    -- ---- what holds at every moment

    now : (w : Remedy) (k : ℕ) (s : State) → ScribbledInv (at_recovery w k) s → ScribbledCut w (length (drop k (list_of w))) s
    now w k s h = safe-now sh es (ScribbledCut w) ScribbledDone (drop k (list_of w)) s h.1

    pub scribbled-steps : (w : Remedy) (k : ℕ) (s : State) → ScribbledInv (at_recovery w k) s → recovery_steps sh (view s) w ≡ list_of w
    unfolding recovery_steps
    scribbled-steps (replay x n) k s h = ap (redo sh) (ap (entries_at (view s) (log_at sh x + log_head)) h.0.2 ∙ (now (replay x n) k s h).1.0)
    scribbled-steps clear k s h = refl
    scribbled-steps nothing k s h = refl
    scribbled-steps neither k s h = refl

    pub scribbled-again : (w : Remedy) (k : ℕ) (s : State) → ScribbledInv (at_recovery w k) s → k < length (recovery_steps sh (view s) w)
        → ScribbledInv (at_recovery w (suc k)) (act sh es (get_or (recovery_steps sh (view s) w) k barrier) s)
    scribbled-again w k s h i =
        let e = scribbled-steps w k s h in (
          h.0,
          subst (λ (m : List Step). CrashSafe sh es (ScribbledCut w) ScribbledDone (drop (suc k) (list_of w)) (act sh es (get_or m k barrier) s)) (sym e)
              (safe-step sh es (ScribbledCut w) ScribbledDone (list_of w) k s (subst (λ (m : List Step). k < length m) e i) h.1),
        )

    pub scribbled-cut : (w : Remedy) (k : ℕ) (s : State) (kept : List Store) → ScribbledInv (at_recovery w k) s → Sublistᴰ kept s.pend
        → ScribbledInv at_cut (keep sh es s kept)
    unfolding keep
    scribbled-cut w k s kept h t = (refl, (now w k s h).0 kept t)

    -- the pool met is one that a cut may leave: with all pending stores kept
    pub scribbled-view : (f : Position) (s : State) → ScribbledInv f s → Scribbled (view s)
    scribbled-view (at_commit k) s h = absurd h
    scribbled-view at_cut s h = subst (λ (d : List Store). Scribbled (lay s.base d)) (sym h.0) h.1
    scribbled-view (at_recovery w k) s h = (now w k s h).0 s.pend (Sublistᴰ.refl s.pend)

    pub scribbled-done : (w : Remedy) (k : ℕ) (s : State) → ScribbledInv (at_recovery w k) s → k ≡ length (recovery_steps sh (view s) w)
        → ScribbledDone s
    scribbled-done w k s h e =
        safe-end sh es (ScribbledCut w) ScribbledDone (list_of w) s
        (subst (λ (m : ℕ). CrashSafe sh es (ScribbledCut w) ScribbledDone (drop m (list_of w)) s) (e ∙ ap length (scribbled-steps w k s h)) h.1)

    pub scribbled-work : (w : Remedy) (k : ℕ) (s : State) → ScribbledInv (at_recovery w k) s
        → (w ≡ nothing) ⊎ ((w ≡ clear) ⊎ ((x : Log) × (w ≡ replay x (length es))))
    scribbled-work (replay x n) k s h = inr (inr (x, ap (replay x) h.0.2))
    scribbled-work clear k s h = inr (inl refl)
    scribbled-work nothing k s h = inl refl
    scribbled-work neither k s h = absurd h.0

    -- while a recovery stores data or parity, its log is valid with its count: refusal 10 is not met
    pub scribbled-log : (x : Log) (n k : ℕ) (s : State) → ScribbledInv (at_recovery (replay x n) k) s → k < 2 * n + 2
        → (valid sh (view s) (log_at sh x) ≡ true) × (count_in (word (view s) (log_at sh x)) ≡ n)
    scribbled-log x n k s h i = (valid-sealed sh es t.few t.some t.targets (view s) (log_at sh x) sealed held.1.0, ap count_in sealed ∙ seal-count es t.few ∙ sym h.0.2) where
      t : Setting sh es p₀
      t = c h.0.0

      held : ScribbledCut (replay x n) (length (drop k (redo sh es))) s
      held = now (replay x n) k s h

      sealed : word (view s) (log_at sh x) ≡ seal_of es
      sealed = held.1.1 (let e = length-drop k (redo sh es) in let m = redo-count sh es in let z = h.0.2 in omega arith)

    -- what a recovery finds
    found : (s : State) → s.pend ≡ [] → (h : Scribbled s.base) → (w : Remedy) × (remedy sh s.base ≡ w) × ScribbledInv (at_recovery w 0) s
    found s e h = go h.spared.after where
      p : List ℕ
      p = s.base

      go : AfterCut sh es p₀ h.spared.counterpart b → (w : Remedy) × (remedy sh p ≡ w) × ScribbledInv (at_recovery w 0) s
      go (inl k) = which (ℕ_discrete (word p (log_at sh l)) 0) where
        none : word p (log_at sh (other l)) ≡ 0
        none = clean-other p h.spared.counterpart h.spared.same k

        which : Dec (word p (log_at sh l) ≡ 0) → (w : Remedy) × (remedy sh p ≡ w) × ScribbledInv (at_recovery w 0) s
        which (yes z) =
            let both = both-logs (λ x. word p (log_at sh x) ≡ 0) l z none in
            (nothing, remedy-nothing sh p (both from_a) (both from_b), (tt, (((clear-safe s e h k).0.0, tt), (e, clean-same p h.spared.counterpart h.spared.same h.bytes k z))))
        which (no z) = (clear, remedy-clear sh l p h.lost z none, (tt, clear-safe s e h k))
      go (inr (y, k)) = (replay (other l) (length es), remedy-other sh l p (length es) h.lost valid-other.0 valid-other.1, inv) where
        inv : ScribbledInv (at_recovery (replay (other l) (length es)) 0) s
        inv = ((y, refl, refl), redo-safe s e h y k)

        valid-other : (valid sh p (log_at sh (other l)) ≡ true) × (count_in (word p (log_at sh (other l))) ≡ length es)
        valid-other = subst (λ (d : List Store). (valid sh (lay p d) (log_at sh (other l)) ≡ true) × (count_in (word (lay p d) (log_at sh (other l))) ≡ length es)) e
            (scribbled-log (other l) (length es) 0 s inv (omega arith))

    pub scribbled-found : (s : State) → ScribbledInv at_cut s → ScribbledInv (at_recovery (remedy sh (view s)) 0) s
    scribbled-found s (e, h) =
        let f = found s e h in
        subst (λ (w : Remedy). ScribbledInv (at_recovery w 0) s) (sym (ap (λ (d : List Store). remedy sh (lay s.base d)) e ∙ f.1)) f.2
