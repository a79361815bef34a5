-- Parts 3 to 5, in a commit or in a recovery: from a pool with a sealed log they are crash-safe, and end in the new pool. Of one entry or
-- more over a clean pool (`Setting`). Assumes nothing else.
use mathlib.Core.Path.{◌≡◌, refl, sym, ap, ◌∙◌, subst}
use mathlib.Core.Logic.{◌⊎◌, inl, inr}
use mathlib.Core.Bool.{Bool, true, false, ◌||◌}
use mathlib.Core.List.Sublistᴰ
use mathlib.Core.List.{List, [], ◌∷◌, ◌++◌, map, Sublistᴰ}
use Prim.Native.Nat.{ℕ, ◌+◌, ◌*◌, ◌%◌, ◌≤◌, ◌<◌}
use native.Mathlib.Nat.{zero-lt-suc, le_refl, not-suc-le-zero}
use native.Mathlib.Decide.{ℕ_discrete}
use native.Mathlib.Omega.{arith}
use lib.ListN.{length, length-append}
use Rattle.rules.specs.Words.{Bytes, word}
use Rattle.rules.specs.Shape.{Shape, log_a, log_b, parity_at, pool_size, zones_at}
use Rattle.rules.specs.Staging.{Store, lay}
use Rattle.rules.specs.Parity.{parity_word}
use Rattle.rules.proofs.Shape.{Good, InData, fits, row_in, size-eq}
use Rattle.rules.proofs.Stores.{All, Covered, Every, Fact, Fit, Right, all-covered, all_map, all-sub, bytes-lay, covered-fact, covered?, lay-every, lay-fact, length-lay, right-all, uncovered-right}
use Rattle.powercut.specs.Log.{Log, from_a, from_b, log_at, seal_of}
use Rattle.powercut.specs.Steps.{Step, barrier, log_stores, parity, redo, seals, store}
use Rattle.powercut.specs.Power.{State, any_seal, view}
use Rattle.powercut.proofs.FinalPool.{Entry, ParityW, Setting, entries_fit, final-bytes, final-parity, final-target, final_pool, par-cong, par-small, par_stores, pars-cover, pars-row, zones-fit}
use Rattle.powercut.proofs.Logs.{Inner, even-log, in-log, log-fit, log-inner}
use Rattle.powercut.proofs.CrashSafe.{Makes, CrashSafe, makes-stores, parity-acts, phase, st}

abbrev pub Outside : Shape → ℕ → Type 0
Outside sh a = (a < log_a sh) ⊎ (zones_at sh ≤ a)

-- a fact by the kind of place: seal A, seal B, the logs' words, the words outside the logs
pub record Facts (sh : Shape) (SA SB : ℕ → Type 0) (L O : Fact) (a w : ℕ) : Type 0 where
  pub sa : a ≡ log_a sh → SA w
  pub sb : a ≡ log_b sh → SB w
  pub log : L a w
  pub out : Outside sh a → O a w

abbrev pub Is : ℕ → ℕ → Type 0
Is v w = w ≡ v

module _ (sh : Shape) (es : List Store) (p₀ : List ℕ) where
  abbrev pub new : Bool → List ℕ
  new true = final_pool sh p₀ es
  new false = p₀

  abbrev pub logs : List Store
  logs = log_stores sh 0 es

  abbrev pub pars : List Store
  pars = par_stores sh (lay p₀ es) es

  -- outside the logs: as new; as new but for parity places of targets; as new but for these and the targets
  abbrev pub New : Fact
  New a w = w ≡ word (final_pool sh p₀ es) a

  abbrev pub Data : Fact
  Data a w = Covered a pars ⊎ New a w

  abbrev pub Redo : Fact
  Redo a w = Covered a es ⊎ Data a w

  abbrev pub Sealed : (v_a v_b : ℕ) → Fact → Fact
  Sealed v_a v_b O = Facts sh (Is v_a) (Is v_b) (Right logs) O

  -- both seals zero, all old or all new outside the logs
  pub record CleanAt (p : List ℕ) (r : Bool) : Type 0 where
    pub length-is : length p ≡ pool_size sh
    pub bytes : Bytes p
    pub every : Every (pool_size sh) (Facts sh (Is 0) (Is 0) (λ a w. Unit {0}) (λ a w. w ≡ word (new r) a)) p

  -- the words in the places of the seals: A's is the commit's, or B's, and else zero
  pub record SealPair : Type 0 where
    pub v_a : ℕ
    pub v_b : ℕ
    pub kind : (v_a ≡ seal_of es) ⊎ ((v_a ≡ 0) × (v_b ≡ seal_of es))
    pub other : (v_b ≡ 0) ⊎ (v_b ≡ seal_of es)

  -- a log is sealed, both hold the entries, all is new outside but for what parts 3 and 4 store
  pub record ReplayAt (p : List ℕ) : Type 0 where
    pub length-is : length p ≡ pool_size sh
    pub bytes : Bytes p
    pub pair : SealPair
    pub every : Every (pool_size sh) (Sealed pair.v_a pair.v_b Redo) p

  abbrev pub AfterCut : List ℕ → Bool → Type 0
  AfterCut p r = CleanAt p r ⊎ ((r ≡ true) × ReplayAt p)

  -- whatever a cut keeps
  abbrev pub Cut : ℕ → State → Type 0
  Cut n s = (kept : List Store) → Sublistᴰ kept s.pend → AfterCut (lay s.base kept) (s.reached || any_seal sh es kept)

  -- and the logs hold the entries; until the parts' last three steps, the clears and their barrier, log b is sealed
  abbrev pub CutLog : ℕ → ℕ → State → Type 0
  CutLog b n s = Cut n s × All (λ a w. word (view s) a ≡ w) logs × (3 < n → word (view s) b ≡ seal_of es)

  -- b is a sealed log
  abbrev pub Source : (v_a v_b b : ℕ) → Type 0
  Source v_a v_b b = ((b ≡ log_a sh) × (v_a ≡ seal_of es)) ⊎ ((b ≡ log_b sh) × (v_b ≡ seal_of es))

  abbrev pub Done : State → Type 0
  Done s = (s.pend ≡ []) × CleanAt s.base s.reached × (s.reached ≡ true)

-- either seal of a clean pool is zero
pub clean-seal : (sh : Shape) (es : List Store) (p₀ : List ℕ) → Good sh → (p : List ℕ) (r : Bool) → CleanAt sh es p₀ p r → (l : Log) → word p (log_at sh l) ≡ 0
clean-seal sh es p₀ g p r h from_a = (h.every (log_a sh) (even-log sh from_a g) (in-log sh from_a g)).sa refl
clean-seal sh es p₀ g p r h from_b = (h.every (log_b sh) (even-log sh from_b g) (in-log sh from_b g)).sb refl

-- a fact, with that the store can be made
abbrev pub With : Shape → Fact → Fact
With sh Q a w = Fit (pool_size sh) a w × Q a w

pub lay-with : (sh : Shape) (Q : Fact) (p : List ℕ) (l : List Store) → length p ≡ pool_size sh → Every (pool_size sh) Q p → All (With sh Q) l → Every (pool_size sh) Q (lay p l)
lay-with sh Q p l e h w =
    lay-every Q p l e h (all_map {Q = With sh Q} {Q' = Fit (pool_size sh)} (λ a v x. x.0) l w) (all_map {Q = With sh Q} {Q' = Q} (λ a v x. x.1) l w)

facts-out : (sh : Shape) (SA SB : ℕ → Type 0) (L O O' : Fact) → ((a w : ℕ) → O a w → O' a w) → (a w : ℕ) → Facts sh SA SB L O a w → Facts sh SA SB L O' a w
facts-out sh SA SB L O O' f a w h = record { sa = h.sa; sb = h.sb; log = h.log; out = λ o. f a w (h.out o) }

module _ (sh : Shape) (es : List Store) (p₀ : List ℕ) (c : Setting sh es p₀) where
  below : (2 * sh.page < 10 * sh.page) × (10 * sh.page < zones_at sh) × (zones_at sh ≤ pool_size sh)
  below = let k = c.good.page-min in let e = size-eq sh c.good in omega arith

  pub even-A : log_a sh % 8 ≡ 0
  even-A = even-log sh from_a c.good

  pub even-B : log_b sh % 8 ≡ 0
  even-B = even-log sh from_b c.good

  pub in-A : log_a sh + 8 ≤ pool_size sh
  in-A = in-log sh from_a c.good

  pub in-B : log_b sh + 8 ≤ pool_size sh
  in-B = in-log sh from_b c.good

  pub logs-fit : All (Fit (pool_size sh)) (logs sh es p₀)
  logs-fit = log-fit sh c.good 0 es (let k = c.few in omega arith) c.entries

  pub logs-inner : All (λ a w. Inner sh 0 a) (logs sh es p₀)
  logs-inner = log-inner sh c.good 0 es (let k = c.few in omega arith)

  -- a place outside the logs' entries is not covered by part 1
  not-in-logs : (a : ℕ) → (Inner sh 0 a → ⊥) → (w : ℕ) → Right (logs sh es p₀) a w
  not-in-logs a h w = uncovered-right (logs sh es p₀) a w (λ k. h (covered-fact (Inner sh 0) a (logs sh es p₀) k logs-inner))

  -- a store outside the logs needs only its own fact
  zone-facts : (SA SB : ℕ → Type 0) (O : Fact) (a w : ℕ) → zones_at sh ≤ a → O a w → Facts sh SA SB (Right (logs sh es p₀)) O a w
  zone-facts SA SB O a w h o =
      record { sa = λ e. absurd (no e); sb = λ e. absurd (no' e); log = not-in-logs a inner w; out = λ _. o }
    where
      no : a ≡ log_a sh → ⊥
      no e = let k = below in omega arith

      no' : a ≡ log_b sh → ⊥
      no' e = let k = below in omega arith

      inner : Inner sh 0 a → ⊥
      inner (inl x) = let k = below in omega arith
      inner (inr x) = omega arith

  -- a seal's store: its place is outside nothing else
  pub seal-facts : (SA SB : ℕ → Type 0) (O : Fact) (a w : ℕ) → (a ≡ log_a sh) ⊎ (a ≡ log_b sh) → SA w → SB w → Facts sh SA SB (Right (logs sh es p₀)) O a w
  seal-facts SA SB O a w h x y = record { sa = λ e. x; sb = λ e. y; log = not-in-logs a (inner h) w; out = λ o. absurd (outer h o) } where
    inner : (a ≡ log_a sh) ⊎ (a ≡ log_b sh) → Inner sh 0 a → ⊥
    inner (inl e) (inl i) = omega arith
    inner (inl e) (inr i) = let k = below in omega arith
    inner (inr e) (inl i) = omega arith
    inner (inr e) (inr i) = omega arith

    outer : (a ≡ log_a sh) ⊎ (a ≡ log_b sh) → Outside sh a → ⊥
    outer (inl e) (inl i) = omega arith
    outer (inl e) (inr i) = let k = below in omega arith
    outer (inr e) (inl i) = let k = below in omega arith
    outer (inr e) (inr i) = let k = below in omega arith

  -- wherever the stores pending have a fact that is at least Redo's, a cut leaves a pool to replay, and the logs hold the entries
  module _ (p : List ℕ) (v : SealPair sh es p₀) (hl : length p ≡ pool_size sh) (hb : Bytes p) (b : ℕ) (src : Source sh es p₀ v.v_a v.v_b b) where
    abbrev v_a : ℕ
    v_a = v.v_a

    abbrev v_b : ℕ
    v_b = v.v_b

    redo-cut : (O : Fact) → ((a w : ℕ) → O a w → Redo sh es p₀ a w) → Every (pool_size sh) (Sealed sh es p₀ v_a v_b O) p
        → (n : ℕ) (d : List Store) → All (With sh (Sealed sh es p₀ v_a v_b O)) d → CutLog sh es p₀ b n (st p d true)
    redo-cut O f h n d w = (
      (λ kept s. inr (refl, replay kept (all-sub (With sh (Sealed sh es p₀ v_a v_b O)) s w))),
      right-all (lay p d) (logs sh es p₀) (λ a ha hn. (lay-with sh (Sealed sh es p₀ v_a v_b O) p d hl h w a ha hn).log) logs-fit,
      (λ _. held src),
    )
      where
        held : Source sh es p₀ v_a v_b b → word (lay p d) b ≡ seal_of es
        held (inl (e, v)) = (lay-with sh (Sealed sh es p₀ v_a v_b O) p d hl h w b (subst (λ (a : ℕ). a % 8 ≡ 0) (sym e) even-A) (subst (λ (a : ℕ). a + 8 ≤ pool_size sh) (sym e) in-A)).sa e ∙ v
        held (inr (e, v)) = (lay-with sh (Sealed sh es p₀ v_a v_b O) p d hl h w b (subst (λ (a : ℕ). a % 8 ≡ 0) (sym e) even-B) (subst (λ (a : ℕ). a + 8 ≤ pool_size sh) (sym e) in-B)).sb e ∙ v

        replay : (kept : List Store) → All (With sh (Sealed sh es p₀ v_a v_b O)) kept → ReplayAt sh es p₀ (lay p kept)
        replay kept w = record {
          length-is = length-lay p kept ∙ hl;
          bytes = bytes-lay p kept hb;
          pair = v;
          every = λ a ha hn. facts-out sh (Is v_a) (Is v_b) (Right (logs sh es p₀)) O (Redo sh es p₀) f a (word (lay p kept) a)
              (lay-with sh (Sealed sh es p₀ v_a v_b O) p kept hl h w a ha hn);
        }

    -- part 5: each seal is as it was or zero
    abbrev Clear : Fact
    Clear = Facts sh (λ w. (w ≡ 0) ⊎ (w ≡ v_a)) (λ w. (w ≡ 0) ⊎ (w ≡ v_b)) (Right (logs sh es p₀)) (New sh es p₀)

    clear-all : All (With sh Clear) (seals sh 0)
    clear-all = (
      (record { even = even-A; inside = in-A; small = zero-lt-suc _ }, seal-facts _ _ (New sh es p₀) (log_a sh) 0 (inl refl) (inl refl) (inl refl)),
      ((record { even = even-B; inside = in-B; small = zero-lt-suc _ }, seal-facts _ _ (New sh es p₀) (log_b sh) 0 (inr refl) (inl refl) (inl refl)), tt),
    )

    after-clear : (q : List ℕ) → length q ≡ pool_size sh → Bytes q → Every (pool_size sh) Clear q → AfterCut sh es p₀ q true
    after-clear q ql qb h = go (either v.kind ((h (log_a sh) even-A in-A).sa refl)) (either' v.other ((h (log_b sh) even-B in-B).sb refl)) where
      either : {w : ℕ} → (v_a ≡ seal_of es) ⊎ ((v_a ≡ 0) × (v_b ≡ seal_of es)) → (w ≡ 0) ⊎ (w ≡ v_a) → (w ≡ 0) ⊎ (w ≡ seal_of es)
      either k (inl e) = inl e
      either (inl k) (inr e) = inr (e ∙ k)
      either (inr k) (inr e) = inl (e ∙ k.0)

      either' : {w : ℕ} → (v_b ≡ 0) ⊎ (v_b ≡ seal_of es) → (w ≡ 0) ⊎ (w ≡ v_b) → (w ≡ 0) ⊎ (w ≡ seal_of es)
      either' k (inl e) = inl e
      either' (inl k) (inr e) = inl (e ∙ k)
      either' (inr k) (inr e) = inr (e ∙ k)

      again : (word q (log_a sh) ≡ seal_of es) ⊎ ((word q (log_a sh) ≡ 0) × (word q (log_b sh) ≡ seal_of es))
          → (word q (log_b sh) ≡ 0) ⊎ (word q (log_b sh) ≡ seal_of es) → ReplayAt sh es p₀ q
      again k o = record {
        length-is = ql;
        bytes = qb;
        pair = record { v_a = word q (log_a sh); v_b = word q (log_b sh); kind = k; other = o };
        every = λ a ha hn. record
            { sa = λ e. ap (word q) e; sb = λ e. ap (word q) e; log = (h a ha hn).log; out = λ o. inr (inr ((h a ha hn).out o)) };
      }

      go : (word q (log_a sh) ≡ 0) ⊎ (word q (log_a sh) ≡ seal_of es) → (word q (log_b sh) ≡ 0) ⊎ (word q (log_b sh) ≡ seal_of es) → AfterCut sh es p₀ q true
      go (inr a) b = inr (refl, again (inl a) b)
      go (inl a) (inr b) = inr (refl, again (inr (a, b)) (inr b))
      go (inl a) (inl b) = inl (record {
        length-is = ql;
        bytes = qb;
        every = λ x hx hn. record { sa = λ e. ap (word q) e ∙ a; sb = λ e. ap (word q) e ∙ b; log = tt; out = (h x hx hn).out };
      })

    clear-crash-safe : Every (pool_size sh) (Sealed sh es p₀ v_a v_b (New sh es p₀)) p
        → CrashSafe sh es (CutLog sh es p₀ b) (Done sh es p₀) (map store (seals sh 0) ++ barrier ∷ []) (st p [] true)
    clear-crash-safe h =
        phase sh es (CutLog sh es p₀ b) (Done sh es p₀) (With sh Clear) p true [] 2 (λ l hn d w. (cuts d w, intact d w, λ k. absurd (past l hn k)))
        (map store (seals sh 0)) (seals sh 0) [] (le_refl 2) (makes-stores sh es (With sh Clear) p true (seals sh 0)) tt clear-all
        (((λ kept s. subst (λ (l : List Store). AfterCut sh es p₀ (lay q l) true) (sym (Sublistᴰ.eq-nil s)) (inl clean)), intact (seals sh 0) clear-all, λ k. absurd (not-suc-le-zero k)), (refl, clean, refl))
      where
        past : (l : List Step) → length l ≤ 2 → 3 < length (l ++ barrier ∷ []) → ⊥
        past l h k = let e = length-append l (barrier ∷ []) in omega arith

        h' : Every (pool_size sh) Clear p
        h' a ha hn = record { sa = λ e. inr ((h a ha hn).sa e); sb = λ e. inr ((h a ha hn).sb e); log = (h a ha hn).log; out = (h a ha hn).out }

        cuts : (d : List Store) → All (With sh Clear) d → (kept : List Store) → Sublistᴰ kept d → AfterCut sh es p₀ (lay p kept) true
        cuts d w kept s = after-clear (lay p kept) (length-lay p kept ∙ hl) (bytes-lay p kept hb) (lay-with sh Clear p kept hl h' (all-sub (With sh Clear) s w))

        intact : (d : List Store) → All (With sh Clear) d → All (λ a w. word (lay p d) a ≡ w) (logs sh es p₀)
        intact d w = right-all (lay p d) (logs sh es p₀) (λ a ha hn. (lay-with sh Clear p d hl h' w a ha hn).log) logs-fit

        q : List ℕ
        q = lay p (seals sh 0)

        clean : CleanAt sh es p₀ q true
        clean = record {
          length-is = length-lay p (seals sh 0) ∙ hl;
          bytes = bytes-lay p (seals sh 0) hb;
          every = lay-fact (Facts sh (Is 0) (Is 0) (λ a w. Unit {0}) (New sh es p₀)) p (seals sh 0) hl
              (λ a ha hn. or a (ℕ_discrete a (log_a sh)) (ℕ_discrete a (log_b sh)) (h a ha hn))
              (all_map {Q = With sh Clear} {Q' = Fit (pool_size sh)} (λ a w x. x.0) (seals sh 0) clear-all)
              (plain (seal-facts (Is 0) (Is 0) (New sh es p₀) (log_a sh) 0 (inl refl) refl refl), (plain (seal-facts (Is 0) (Is 0) (New sh es p₀) (log_b sh) 0 (inr refl) refl refl), tt));
        }
          where
            plain : {a w : ℕ} → Facts sh (Is 0) (Is 0) (Right (logs sh es p₀)) (New sh es p₀) a w → Facts sh (Is 0) (Is 0) (λ a w. Unit {0}) (New sh es p₀) a w
            plain f = record { sa = f.sa; sb = f.sb; log = tt; out = f.out }

            or : (a : ℕ) → Dec (a ≡ log_a sh) → Dec (a ≡ log_b sh) → Sealed sh es p₀ v_a v_b (New sh es p₀) a (word p a)
                → Covered a (seals sh 0) ⊎ Facts sh (Is 0) (Is 0) (λ a w. Unit {0}) (New sh es p₀) a (word p a)
            or a (yes e) d k = inl (inl e)
            or a (no e) (yes i) k = inl (inr (inl i))
            or a (no e) (no i) k = inr (record { sa = λ x. absurd (e x); sb = λ x. absurd (i x); log = tt; out = k.out })

  -- the parity stores of parts 4: their words are the new pool's
  abbrev N : List ℕ
  N = final_pool sh p₀ es

  abbrev new_pars : List Store
  new_pars = par_stores sh N es

  N-bytes : Bytes N
  N-bytes = final-bytes sh p₀ es c.bytes

  N-right : ParityW sh N
  N-right = final-parity sh es p₀ c

  par-all : (v_a v_b : ℕ) (O : Fact) (l : List Store) → All (Entry sh) l → All O (par_stores sh N l) → All (With sh (Sealed sh es p₀ v_a v_b O)) (par_stores sh N l)
  par-all v_a v_b O [] h k = tt
  par-all v_a v_b O (e ∷ l) h k =
      let i = row_in sh c.good e.at sh.rows h.0.target.inside (le_refl sh.rows) in (
        (
          zones-fit sh c.good (parity_at sh e.at) (parity_word sh N e.at) i (par-small sh c.good N e.at N-bytes),
          zone-facts (Is v_a) (Is v_b) O (parity_at sh e.at) (parity_word sh N e.at) i.low k.0,
        ),
        par-all v_a v_b O l h.1 k.1,
      )

  par-new : (l : List Store) → All (Entry sh) l → All (New sh es p₀) (par_stores sh N l)
  par-new [] h = tt
  par-new (e ∷ l) h = (sym (N-right e.at h.0.target.inside), par-new l h.1)

  par-data : All (Data sh es p₀) new_pars
  par-data =
      all_map {Q = λ a w. Covered a new_pars} {Q' = Data sh es p₀} (λ a w k. inl (pars-cover sh c.good a N (lay p₀ es) es k)) new_pars (all-covered new_pars)

  module _ (p : List ℕ) (v : SealPair sh es p₀) (hl : length p ≡ pool_size sh) (hb : Bytes p) (b : ℕ) (src : Source sh es p₀ v.v_a v.v_b b) where
    -- part 4
    parity-crash-safe : Every (pool_size sh) (Sealed sh es p₀ v.v_a v.v_b (Data sh es p₀)) p
        → CrashSafe sh es (CutLog sh es p₀ b) (Done sh es p₀) (map parity es ++ barrier ∷ (map store (seals sh 0) ++ barrier ∷ [])) (st p [] true)
    parity-crash-safe h =
        phase sh es (CutLog sh es p₀ b) (Done sh es p₀) (With sh Q) p true (map store (seals sh 0) ++ barrier ∷ []) (length (map parity es))
        (λ l hn. redo-cut p v hl hb b src (Data sh es p₀) (λ a w k. inr k) h (length (l ++ barrier ∷ (map store (seals sh 0) ++ barrier ∷ []))))
        (map parity es) new_pars [] (le_refl _) (like es c.entries) tt (par-all v.v_a v.v_b (Data sh es p₀) es c.entries par-data)
        (clear-crash-safe (lay p new_pars) v (length-lay p new_pars ∙ hl) (bytes-lay p new_pars hb) b src after)
      where
        Q : Fact
        Q = Sealed sh es p₀ v.v_a v.v_b (Data sh es p₀)

        data-word : (d : List Store) → All (With sh Q) d → (a : ℕ) → InData sh a → word (lay p d) a ≡ word N a
        data-word d w a i = pick ((lay-with sh Q p d hl h w a i.inside.even (fits sh c.good a i.inside.even i.inside.high)).out (inr i.inside.low)) where
          pick : Data sh es p₀ a (word (lay p d) a) → word (lay p d) a ≡ word N a
          pick (inl k) = absurd (pars-row sh c.good a (lay p₀ es) es k i)
          pick (inr e) = e

        like : (l : List Store) → All (Entry sh) l → Makes sh es (With sh Q) p true (map parity l) (par_stores sh N l)
        like [] k = tt
        like (e ∷ l) k = (
          (λ d w. parity-acts sh es p true e d (parity_word sh N e.at) (par-cong sh c.good (lay p d) N e.at k.0.target.inside (data-word d w))),
          like l k.1,
        )

        after : Every (pool_size sh) (Sealed sh es p₀ v.v_a v.v_b (New sh es p₀)) (lay p new_pars)
        after = lay-fact (Sealed sh es p₀ v.v_a v.v_b (New sh es p₀)) p new_pars hl (λ a ha hn. or a (covered? a new_pars) (h a ha hn))
            (all_map {Q = With sh (Sealed sh es p₀ v.v_a v.v_b (New sh es p₀))} {Q' = Fit (pool_size sh)} (λ a w x. x.0) new_pars new-all)
            (all_map {Q = With sh (Sealed sh es p₀ v.v_a v.v_b (New sh es p₀))} {Q' = Sealed sh es p₀ v.v_a v.v_b (New sh es p₀)} (λ a w x. x.1) new_pars new-all)
          where
            new-all : All (With sh (Sealed sh es p₀ v.v_a v.v_b (New sh es p₀))) new_pars
            new-all = par-all v.v_a v.v_b (New sh es p₀) es c.entries (par-new es c.entries)

            or : (a : ℕ) → Covered a new_pars ⊎ (Covered a new_pars → ⊥) → Q a (word p a) → Covered a new_pars ⊎ Sealed sh es p₀ v.v_a v.v_b (New sh es p₀) a (word p a)
            or a (inl k) f = inl k
            or a (inr k) f = inr (record { sa = f.sa; sb = f.sb; log = f.log; out = λ o. pick (f.out o) }) where
              pick : Data sh es p₀ a (word p a) → New sh es p₀ a (word p a)
              pick (inl x) = absurd (k (pars-cover sh c.good a (lay p₀ es) N es x))
              pick (inr e) = e

  -- part 3
  entry-all : (v_a v_b : ℕ) (O : Fact) (l : List Store) → All (Entry sh) l → All O l → All (With sh (Sealed sh es p₀ v_a v_b O)) l
  entry-all v_a v_b O [] h k = tt
  entry-all v_a v_b O (e ∷ l) h k =
      let i = h.0.target.inside in
      ((zones-fit sh c.good e.at e.val i h.0.small, zone-facts (Is v_a) (Is v_b) O e.at e.val i.low k.0), entry-all v_a v_b O l h.1 k.1)

  entry-redo : All (Redo sh es p₀) es
  entry-redo = all_map {Q = λ a w. Covered a es} {Q' = Redo sh es p₀} (λ a w k. inl k) es (all-covered es)

  entry-data : All (Data sh es p₀) es
  entry-data =
      all_map {Q = λ a w. word N a ≡ w} {Q' = Data sh es p₀} (λ a w e. inr (sym e)) es
      (final-target sh es p₀ c)

  pub redo-crash-safe : (p : List ℕ) (h : ReplayAt sh es p₀ p) (b : ℕ) → Source sh es p₀ h.pair.v_a h.pair.v_b b → CrashSafe sh es (CutLog sh es p₀ b) (Done sh es p₀) (redo sh es) (st p [] true)
  unfolding redo
  redo-crash-safe p h b src =
      phase sh es (CutLog sh es p₀ b) (Done sh es p₀) (With sh Q) p true (map parity es ++ barrier ∷ (map store (seals sh 0) ++ barrier ∷ [])) (length (map store es))
      (λ l hn. redo-cut p h.pair h.length-is h.bytes b src (Redo sh es p₀) (λ a w k. k) h.every
      (length (l ++ barrier ∷ (map parity es ++ barrier ∷ (map store (seals sh 0) ++ barrier ∷ [])))))
      (map store es) es [] (le_refl _) (makes-stores sh es (With sh Q) p true es) tt (entry-all h.pair.v_a h.pair.v_b (Redo sh es p₀) es c.entries entry-redo)
      (parity-crash-safe (lay p es) h.pair (length-lay p es ∙ h.length-is) (bytes-lay p es h.bytes) b src after)
    where
      Q : Fact
      Q = Sealed sh es p₀ h.pair.v_a h.pair.v_b (Redo sh es p₀)

      D : Fact
      D = Sealed sh es p₀ h.pair.v_a h.pair.v_b (Data sh es p₀)

      after : Every (pool_size sh) D (lay p es)
      after = lay-fact D p es h.length-is (λ a ha hn. or a (covered? a es) (h.every a ha hn)) (entries_fit sh c.good es c.entries)
          (all_map {Q = With sh D} {Q' = D} (λ a w x. x.1) es (entry-all h.pair.v_a h.pair.v_b (Data sh es p₀) es c.entries entry-data))
        where
          or : (a : ℕ) → Covered a es ⊎ (Covered a es → ⊥) → Q a (word p a) → Covered a es ⊎ D a (word p a)
          or a (inl k) f = inl k
          or a (inr k) f = inr (record { sa = f.sa; sb = f.sb; log = f.log; out = λ o. pick (f.out o) }) where
            pick : Redo sh es p₀ a (word p a) → Data sh es p₀ a (word p a)
            pick (inl x) = absurd (k x)
            pick (inr e) = e
