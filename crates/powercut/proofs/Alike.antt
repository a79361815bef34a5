-- Two pools that differ in one log alone, and the steps that are made on both: the stores are the same, and the log that was lost stays lost.
-- Of a shape with a page of whole words (`Good`). Assumes nothing else.
use mathlib.Core.Path.{◌≡◌, refl, sym, ap, ap₂, ◌∙◌, subst}
use mathlib.Core.Logic.{◌⊎◌, inl, inr}
use mathlib.Core.Bool.{false}
use mathlib.Core.List.Sublistᴰ
use mathlib.Core.List.{List, [], ◌∷◌, ◌++◌, map, Sublistᴰ}
use Prim.Native.Nat.{ℕ, ◌+◌, ◌-◌, ◌*◌, ◌≤◌, ◌<◌}
use native.Mathlib.Nat.{le_refl, zero-lt-suc}
use native.Mathlib.Decide.{dec_lt}
use native.Mathlib.Omega.{arith}
use lib.Dec.{leb}
use borrow.Author.Tests.{leb-true}
use lib.ListN.{length, get_or}
use Rattle.rules.specs.Words.{Bytes, put, word}
use Rattle.rules.specs.Shape.{InZones, Shape, entry_limit, log_a, log_b, log_head, parity_at, pool_size, zones_at}
use Rattle.rules.specs.Staging.{Store, entries_at, lay}
use Rattle.rules.specs.Parity.{parity_word}
use Rattle.rules.proofs.Bool.{split}
use Rattle.rules.proofs.Words.{length-put, put_in, put-out, word-cong, word-put}
use Rattle.rules.proofs.Shape.{Good, row_in}
use Rattle.rules.proofs.Stores.{All, Fact, Fit, all_append, all_map, all-sub, bytes-lay, lay-every, length-lay}
use Rattle.powercut.specs.Log.{Log, count_in, from_a, from_b, log_at, log_entries, valid}
use Rattle.powercut.specs.Steps.{Step, barrier, parity, redo, seals, store}
use Rattle.powercut.specs.Power.{State, act, keep, stored, view}
use Rattle.powercut.specs.Scribble.{other}
use Rattle.powercut.proofs.FinalPool.{Entry, par-cong, par-small, zones-fit}
use Rattle.powercut.proofs.Logs.{even-log, in-log, not_valid, place}
use Rattle.powercut.proofs.CrashSafe.{CrashSafe}
use Rattle.powercut.proofs.Untouched.{Each, each_append, entries-same}

-- whether a log is valid hangs on its first 2,048 bytes alone: what stands before its entries, and 127 of these
pub valid_same : (sh : Shape) (p q : List ℕ) (a : ℕ) → ((i : ℕ) → i < 2048 → get_or p (a + i) 0 ≡ get_or q (a + i) 0) → valid sh p a ≡ valid sh q a
unfolding valid log_entries
valid_same sh p q a h =
    let w = word-cong p q a (λ i k. h i (omega arith)) in
    split (leb (count_in (word q a)) entry_limit) (λ t. rw (w, same (leb-true _ _ t))) (λ t. rw (w, t))
  where
    same : count_in (word q a) ≤ entry_limit → entries_at p (a + log_head) (count_in (word q a)) ≡ entries_at q (a + log_head) (count_in (word q a))
    same k = entries-same p q (a + log_head) (a + log_head) (count_in (word q a))
        (λ i m. subst (λ (j : ℕ). get_or p j 0 ≡ get_or q j 0) {x = a + (log_head + i)} (omega arith) (h (log_head + i) (omega arith)))

module _ (sh : Shape) where
  -- a store into the zones, or a zero into the place of a seal
  abbrev pub RedoStore : Fact
  RedoStore a w = Fit (pool_size sh) a w × ((zones_at sh ≤ a) ⊎ (((a ≡ log_a sh) ⊎ (a ≡ log_b sh)) × (w ≡ 0)))

  abbrev pub RedoStep : Step → Type 0
  RedoStep (store x) = RedoStore x.at x.val
  RedoStep (parity e) = InZones sh e.at
  RedoStep barrier = Unit {0}

  abbrev pub RedoSteps : List Step → Type 0
  RedoSteps = Each RedoStep

  redo-fit : (xs : List Store) → All RedoStore xs → All (Fit (pool_size sh)) xs
  redo-fit xs h = all_map {Q = RedoStore} {Q' = Fit (pool_size sh)} (λ a w k. k.0) xs h

module _ (sh : Shape) (l : Log) where
  -- a place outside log l
  abbrev pub Off : ℕ → Type 0
  Off i = (i < log_at sh l) ⊎ (log_at sh l + 8 * sh.page ≤ i)

  -- the pools differ in log l alone
  pub record SameOff (p q : List ℕ) : Type 0 where
    pub size : length p ≡ length q
    pub same : (i : ℕ) → Off i → get_or p i 0 ≡ get_or q i 0

  -- the same stores are pending, the pools differ in log l alone, and in the second one its seal is zero
  pub record Alike (s s' : State) : Type 0 where
    pub pend : s.pend ≡ s'.pend
    pub pool : SameOff s.base s'.base
    pub length-is : length s.base ≡ pool_size sh
    pub bytes : Bytes s.base
    pub zero : word s'.base (log_at sh l) ≡ 0
    pub stores : All (RedoStore sh) s.pend

module _ (sh : Shape) (l : Log) (g : Good sh) where
  -- zones, headers and the other log are outside it
  pub off-zones : (i : ℕ) → zones_at sh ≤ i → Off sh l i
  off-zones i h = inr (let k = (place sh l g).to in omega arith)

  pub off-headers : (i : ℕ) → i < log_a sh → Off sh l i
  off-headers i h = inl (let k = (place sh l g).from in omega arith)

  pub off-other : (i : ℕ) → i < 2048 → Off sh l (log_at sh (other l) + i)
  unfolding other
  off-other i h = go l where
    go : (k : Log) → Off sh k (log_at sh (other k) + i)
    go from_a = inr (let m = g.page-min in omega arith)
    go from_b = inl (let m = g.page-min in omega arith)

  pub same_word : (p q : List ℕ) → SameOff sh l p q → (a : ℕ) → ((i : ℕ) → i < 8 → Off sh l (a + i)) → word p a ≡ word q a
  same_word p q h a o = word-cong p q a (λ i k. h.same (a + i) (o i k))

  pub same-lay : (p q : List ℕ) (xs : List Store) → SameOff sh l p q → length p ≡ pool_size sh → All (Fit (pool_size sh)) xs → SameOff sh l (lay p xs) (lay q xs)
  same-lay p q [] h e f = h
  same-lay p q (x ∷ xs) h e f =
      same-lay (put p x.at x.val) (put q x.at x.val) xs after (length-put p x.at x.val ∙ e) f.1
    where
      inside : x.at + 8 ≤ length p
      inside = rw e f.0.inside

      after : SameOff sh l (put p x.at x.val) (put q x.at x.val)
      after = record { size = length-put p _ _ ∙ h.size ∙ sym (length-put q _ _); same = λ i o. go i o (dec_lt i x.at) (dec_lt i (x.at + 8)) } where
        out : (i : ℕ) → Off sh l i → (i < x.at) ⊎ (x.at + 8 ≤ i) → get_or (put p x.at x.val) i 0 ≡ get_or (put q x.at x.val) i 0
        out i o k = put-out p x.at x.val i k ∙ h.same i o ∙ sym (put-out q x.at x.val i k)

        within : (j : ℕ) → j < 8 → get_or (put p x.at x.val) (x.at + j) 0 ≡ get_or (put q x.at x.val) (x.at + j) 0
        within j k = put_in p x.at x.val j inside k ∙ sym (put_in q x.at x.val j (rw (← h.size) inside) k)

        go : (i : ℕ) → Off sh l i → Dec (i < x.at) → Dec (i < x.at + 8) → get_or (put p x.at x.val) i 0 ≡ get_or (put q x.at x.val) i 0
        go i o (yes k) d = out i o (inl k)
        go i o (no k) (no m) = out i o (inr (omega arith))
        go i o (no k) (yes m) =
            subst (λ (j : ℕ). get_or (put p x.at x.val) j 0 ≡ get_or (put q x.at x.val) j 0) {x = x.at + (i - x.at)} (omega arith) (within (i - x.at) (omega arith))

  -- such a store clears the seal, or lies before or behind the log's words
  beside : (a w : ℕ) → RedoStore sh a w → ((a ≡ log_at sh l) × (w ≡ 0)) ⊎ ((log_at sh l + 2048 ≤ a) ⊎ (a + 8 ≤ log_at sh l))
  beside a w (f, inl k) = inr (inl (let t = (place sh l g).to in let m = g.page-min in omega arith))
  beside a w (f, inr (k, z)) = go l k where
    go : (b : Log) → (a ≡ log_a sh) ⊎ (a ≡ log_b sh) → ((a ≡ log_at sh b) × (w ≡ 0)) ⊎ ((log_at sh b + 2048 ≤ a) ⊎ (a + 8 ≤ log_at sh b))
    go from_a (inl i) = inl (i, z)
    go from_a (inr i) = inr (inl (let m = g.page-min in omega arith))
    go from_b (inl i) = inr (inr (let m = g.page-min in omega arith))
    go from_b (inr i) = inl (i, z)

  -- such stores leave a zero seal zero, and a lost log lost
  pub lay-zero : (p : List ℕ) (xs : List Store) → length p ≡ pool_size sh → All (RedoStore sh) xs → word p (log_at sh l) ≡ 0 → word (lay p xs) (log_at sh l) ≡ 0
  lay-zero p xs e h z =
      lay-every (λ a w. a ≡ log_at sh l → w ≡ 0) p xs e (λ a ha hn i. ap (word p) i ∙ z) (redo-fit sh xs h)
      (all_map {Q = RedoStore sh} {Q' = λ a w. a ≡ log_at sh l → w ≡ 0} seal-zero xs h) (log_at sh l) (even-log sh l g) (in-log sh l g) refl
    where
      seal-zero : (a w : ℕ) → RedoStore sh a w → a ≡ log_at sh l → w ≡ 0
      seal-zero a w (f, inl k) i = absurd (let t = (place sh l g).to in let m = g.page-min in omega arith)
      seal-zero a w (f, inr k) i = k.1

  pub lay-lost : (p : List ℕ) (xs : List Store) → length p ≡ pool_size sh → All (RedoStore sh) xs → valid sh p (log_at sh l) ≡ false → valid sh (lay p xs) (log_at sh l) ≡ false
  lay-lost p [] e h v = v
  lay-lost p (x ∷ xs) e h v = lay-lost (put p x.at x.val) xs (length-put p x.at x.val ∙ e) h.1 (after (beside x.at x.val h.0)) where
    after : ((x.at ≡ log_at sh l) × (x.val ≡ 0)) ⊎ ((log_at sh l + 2048 ≤ x.at) ⊎ (x.at + 8 ≤ log_at sh l)) → valid sh (put p x.at x.val) (log_at sh l) ≡ false
    after (inl (i, z)) =
        not_valid sh _ (log_at sh l) (ap (word (put p x.at x.val)) (sym i) ∙ word-put p x.at x.val (rw e h.0.0.inside) h.0.0.small ∙ z)
    after (inr k) = valid_same sh _ p (log_at sh l) (λ i m. put-out p x.at x.val (log_at sh l + i) (out i m k)) ∙ v where
      out : (i : ℕ) → i < 2048 → (log_at sh l + 2048 ≤ x.at) ⊎ (x.at + 8 ≤ log_at sh l) → (log_at sh l + i < x.at) ⊎ (x.at + 8 ≤ log_at sh l + i)
      out i m (inl n) = inl (omega arith)
      out i m (inr n) = inr (omega arith)

  -- a cut keeps the same of both
  pub alike-cut : (s s' : State) → Alike sh l s s' → (kept : List Store) → Sublistᴰ kept s.pend
      → SameOff sh l (lay s.base kept) (lay s'.base kept) × (word (lay s'.base kept) (log_at sh l) ≡ 0)
  alike-cut s s' a kept t =
      let k = all-sub (RedoStore sh) t a.stores in
      (same-lay s.base s'.base kept a.pool a.length-is (redo-fit sh kept k), lay-zero s'.base kept (sym a.pool.size ∙ a.length-is) k a.zero)

  -- so the pools that the next call meets differ in log l alone
  pub views : (s s' : State) → Alike sh l s s' → SameOff sh l (view s) (view s')
  views s s' a = subst (λ (ys : List Store). SameOff sh l (view s) (lay s'.base ys)) a.pend (alike-cut s s' a s.pend (Sublistᴰ.refl s.pend)).0

  module _ (es : List Store) where
    -- one more store pending on both
    added : (s s' : State) → Alike sh l s s' → (x y : Store) → x ≡ y → RedoStore sh x.at x.val → Alike sh l (stored sh es s x) (stored sh es s' y)
    added s s' a x y e h = record {
      pend = ap₂ (λ (xs : List Store) (z : Store). xs ++ (z ∷ [])) a.pend e;
      pool = a.pool;
      length-is = a.length-is;
      bytes = a.bytes;
      zero = a.zero;
      stores = all_append (RedoStore sh) s.pend (x ∷ []) a.stores (h, tt);
    }

    -- a step is the same on both, and leaves a lost log lost
    pub alike-act : (x : Step) → RedoStep sh x → (s s' : State) → Alike sh l s s' → Alike sh l (act sh es x s) (act sh es x s')
    unfolding act keep
    alike-act (store x) h s s' a = added s s' a x x refl h
    alike-act (parity e) h s s' a = added s s' a _ _ (ap (λ (w : ℕ). record { at = parity_at sh e.at; val = w }) same) fits where
      same : parity_word sh (view s) e.at ≡ parity_word sh (view s') e.at
      same = par-cong sh g (view s) (view s') e.at h
          (λ b i. same_word (view s) (view s') (views s s' a) b (λ j k. off-zones (b + j) (let m = i.inside.low in omega arith)))

      fits : RedoStore sh (parity_at sh e.at) (parity_word sh (view s) e.at)
      fits =
          let i = row_in sh g e.at sh.rows h (le_refl sh.rows) in
          (zones-fit sh g (parity_at sh e.at) _ i (par-small sh g (view s) e.at (bytes-lay s.base s.pend a.bytes)), inl i.low)
    alike-act barrier h s s' a = record {
      pend = refl;
      pool = views s s' a;
      length-is = length-lay s.base s.pend ∙ a.length-is;
      bytes = bytes-lay s.base s.pend a.bytes;
      zero = subst (λ (ys : List Store). word (lay s'.base ys) (log_at sh l) ≡ 0) a.pend (alike-cut s s' a s.pend (Sublistᴰ.refl s.pend)).1;
      stores = tt;
    }

    pub lost-act : (x : Step) (s s' : State) → Alike sh l s s' → valid sh s.base (log_at sh l) ≡ false → valid sh (act sh es x s).base (log_at sh l) ≡ false
    unfolding act keep
    lost-act (store x) s s' a v = v
    lost-act (parity e) s s' a v = v
    lost-act barrier s s' a v = lay-lost s.base s.pend a.length-is a.stores v

-- the steps of a recovery are such: clears of the seals; data and parity, then the clears
module _ (sh : Shape) (g : Good sh) where
  pub clear-steps : RedoSteps sh (map store (seals sh 0) ++ barrier ∷ [])
  clear-steps = ((fit from_a, inr (inl refl, refl)), ((fit from_b, inr (inr refl, refl)), (tt, tt))) where
    fit : (l : Log) → Fit (pool_size sh) (log_at sh l) 0
    fit l = record { even = even-log sh l g; inside = in-log sh l g; small = zero-lt-suc _ }

  pub redo-steps : (es : List Store) → All (Entry sh) es → RedoSteps sh (redo sh es)
  unfolding redo
  redo-steps es h = each_append (RedoStep sh) (map store es) _ (stores es h) (tt, each_append (RedoStep sh) (map parity es) _ (parities es h) (tt, clear-steps)) where
    stores : (l : List Store) → All (Entry sh) l → RedoSteps sh (map store l)
    stores [] h = tt
    stores (e ∷ l) h = let i = h.0.target.inside in ((zones-fit sh g e.at e.val i h.0.small, inl i.low), stores l h.1)

    parities : (l : List Store) → All (Entry sh) l → RedoSteps sh (map parity l)
    parities [] h = tt
    parities (e ∷ l) h = (h.0.target.inside, parities l h.1)

-- what holds along a list of steps on the second state holds on the first, by a relation R that the steps keep
pub lift : (sh : Shape) (es : List Store) (R : State → State → Type 0)
    → ((x : Step) → RedoStep sh x → (s s' : State) → R s s' → R (act sh es x s) (act sh es x s'))
    → (I I' : ℕ → State → Type 0) (F F' : State → Type 0) → ((n : ℕ) (s s' : State) → R s s' → I' n s' → I n s) → ((s s' : State) → R s s' → F' s' → F s)
    → (xs : List Step) → RedoSteps sh xs → (s s' : State) → R s s' → CrashSafe sh es I' F' xs s' → CrashSafe sh es I F xs s
lift sh es R k I I' F F' f e [] q s s' r h = (f 0 s s' r h.0, e s s' r h.1)
lift sh es R k I I' F F' f e (x ∷ xs) q s s' r h =
    (f _ s s' r h.0, lift sh es R k I I' F F' f e xs q.1 (act sh es x s) (act sh es x s') (k x q.0 s s' r) h.1)
