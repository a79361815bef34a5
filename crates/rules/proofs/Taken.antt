-- When a call is taken, over a sound pool and an open transaction: the first tests are passed; then a write inside a listed body and a free of a
-- listed object are taken, and an allocate where a run is free, if at most 127 words come of it. The first call never meets that limit.
use Prim.Native.Nat.{ℕ, zero, suc, ◌+◌, ◌*◌, ◌/◌, ◌%◌, ◌≤◌}
use mathlib.Core.Path.{◌≡◌, refl, sym, ap, ◌∙◌}
use mathlib.Core.Logic.{◌⊎◌, inl, inr}
use mathlib.Core.Bool.{Bool, true, false, not, ◌||◌}
use mathlib.Core.Option.{Option, none, some}
use mathlib.Core.List.{List, [], ◌∷◌, ◌++◌, append_assoc}
use native.Mathlib.Nat.{div-lt_iff_lt-mul}
use native.Mathlib.Omega.{arith}
use lib.ListN.{length, drop}
use lib.Dec.{leb, ltb, eqb}
use borrow.Author.Tests.{eq-eqb, le-leb, le-ltb, lt-leb, ltb-false}
use Rattle.rules.specs.Words.{word}
use Rattle.rules.specs.Shape.{Shape, body_limit, entry_limit, staging_size, zone_cells}
use Rattle.rules.specs.Test.{Test, first, when}
use Rattle.rules.specs.Header.{id_in, open_tests, shape_in, within}
use Rattle.rules.specs.Runs.{Run, cells_for, free, object}
use Rattle.rules.specs.Book.{Listed, find}
use Rattle.rules.specs.Search.{Place, any_free, fit, free_cells, run_at}
use Rattle.rules.specs.Zones.{all_good, body_of, good_from, head_at, object_tests, run_there, runs_from, walk_in}
use Rattle.rules.specs.Staging.{Store, impossible, is_live, lay, past_commit, touch, touch_range, touch_words, word_count}
use Rattle.rules.specs.Answer.{After, Given, address, conclude, refused, taken}
use Rattle.rules.specs.Plan.{Call, Fit, Plan, allocate, failed, fit_address, fit_in, fit_test, fitted, plan, release, search, touch_free, touch_joined, touch_object, touch_write, write}
use Rattle.rules.specs.Calls.{AllTyped, Typed, begun, call, call_tests, calls, entries_in, live_tests, record_tests, staged}
use Rattle.rules.specs.NewBook.{new_book, new_books}
use Rattle.rules.specs.Sound.{Sound, book_of}
use Rattle.rules.proofs.Bool.{and_split, or-false, split}
use Rattle.rules.proofs.Test.{Passed, first-right, passed_first, passed-join}
use Rattle.rules.proofs.Laid.{Laid, parts}
use Rattle.rules.proofs.Segments.{cells-hold, seg-inv}
use Rattle.rules.proofs.Search.{run-found}
use Rattle.rules.proofs.Written.{laid_one}
use Rattle.rules.proofs.Zones.{Fits}
use Rattle.rules.proofs.Held.{at-zone}
use Rattle.rules.proofs.Calls.{found_in, named-object}
use Rattle.rules.proofs.StagedBook.{held-end}
use Rattle.rules.proofs.Look.{book-object}
use Rattle.rules.proofs.Header.{sound-good, sound-opens}
use Rattle.rules.proofs.Transaction.{Kept, calls-kept, calls-pool, targets-good}
use Rattle.rules.proofs.Sound.{begun-is, begun_kept, sound-fits}

-- ---- a search in zones that are whole

any_append : (k : ℕ) (xs ys : List Run) → any_free k (xs ++ ys) ≡ (any_free k xs || any_free k ys)
unfolding any_free
any_append k [] ys = refl
any_append k (r ∷ xs) ys = split (leb k (free_cells r)) (λ e. rw e) (λ e. rw e (any_append k xs ys))

none-fits : (k c : ℕ) (rs : List Run) → 1 ≤ k → fit k c rs ≡ none → any_free k rs ≡ false
unfolding any_free fit
none-fits k c [] h e = refl
none-fits k c (free n ∷ rs) h e =
    split (leb k n) (λ l. absurd (let e' : some (record { cell = c; count = n }) ≡ none = rw l at e in let z : ◌≡◌ {A = ℕ} 0 1 = cc in omega arith))
    (λ l. rw l (none-fits k (c + n) rs h (rw l at e)))
none-fits k c (object n t b g ∷ rs) h e = rw (lt-leb k 0 h) (none-fits k (c + n) rs h e)

fits-none : (k c : ℕ) (rs : List Run) → any_free k rs ≡ false → fit k c rs ≡ none
unfolding any_free fit
fits-none k c [] e = refl
fits-none k c (free n ∷ rs) e = let i = or-false (leb k n) (any_free k rs) e in rw i.0 (fits-none k (c + n) rs i.1)
fits-none k c (object n t b g ∷ rs) e = fits-none k (c + n) rs (or-false (leb k 0) (any_free k rs) e).1

-- WHERE A RUN IS FREE AND LONG ENOUGH, ONE IS FOUND; else 26
pub search-room : (s : Shape) (v : List ℕ) (k z n : ℕ) → 1 ≤ k → good_from s v z n ≡ true → any_free k (runs_from s v z n) ≡ true
    → (y : ℕ) × (p : Place) × (search s v k z n ≡ fitted y p)
unfolding search good_from runs_from any_free
search-room s v k z zero h g e = absurd (let z : ◌≡◌ {A = ℕ} 0 1 = cc in omega arith)
search-room s v k z (suc n) h g e =
    let a = and_split (walk_in s v z).whole _ g in
    let b = and_split (all_good (walk_in s v z).runs) (good_from s v (suc z) n) a.1 in
    go (λ e. search-room s v k (suc z) n h b.1 e) a.0 (fit k 0 (walk_in s v z).runs) refl (rw (any_append k (walk_in s v z).runs (runs_from s v (suc z) n)) at e)
  where
    go : (any_free k (runs_from s v (suc z) n) ≡ true → (y : ℕ) × (p : Place) × (search s v k (suc z) n ≡ fitted y p)) → (walk_in s v z).whole ≡ true
        → (o : Option Place) → fit k 0 (walk_in s v z).runs ≡ o → (any_free k (walk_in s v z).runs || any_free k (runs_from s v (suc z) n)) ≡ true
        → (y : ℕ) × (p : Place) × (search s v k z (suc n) ≡ fitted y p)
    go ih w (some p) f e = (z, p, unfold search fit_in in (rw (w, f)))
    go ih w none f e = let i = ih (rw (none-fits k 0 (walk_in s v z).runs h f) at e) in (i.0, i.1, unfold search fit_in in (rw (w, f) i.2))

pub search-full : (s : Shape) (v : List ℕ) (k z n : ℕ) → good_from s v z n ≡ true → any_free k (runs_from s v z n) ≡ false → search s v k z n ≡ failed 26
unfolding search good_from runs_from fit_in
search-full s v k z zero g e = refl
search-full s v k z (suc n) g e =
    let a = and_split (walk_in s v z).whole _ g in
    let b = and_split (all_good (walk_in s v z).runs) (good_from s v (suc z) n) a.1 in
    let f = or-false (any_free k (walk_in s v z).runs) (any_free k (runs_from s v (suc z) n)) (rw (any_append k (walk_in s v z).runs (runs_from s v (suc z) n)) at e) in
    rw (a.0, fits-none k 0 (walk_in s v z).runs f.0) (search-full s v k (suc z) n b.1 f.1)

-- ---- how many words a call touches

pub length-touch : (o w : ℕ) (es : List Store) → length (touch o w es) ≤ suc (length es)
unfolding touch
length-touch o w [] = omega arith
length-touch o w (x ∷ xs) = split (eqb x.at o) (λ e. rw e (omega arith)) (λ e. rw e (omega (arith, length-touch o w xs)))

pub length-touch_words : (n o : ℕ) (ys : List ℕ) (es : List Store) → length (touch_words n o ys es) ≤ n + length es
unfolding touch_words
length-touch_words zero o ys es = omega arith
length-touch_words (suc n) o ys es = omega (arith, length-touch_words n (o + 8) (drop 8 ys) (touch o (word ys 0) es), length-touch o (word ys 0) es)

-- words touched after others
in-turn : (m n c : ℕ) {a b : ℕ} → a ≤ m + b → b ≤ n + c → a ≤ n + m + c
in-turn m n c p q = omega arith

length-free : (o n : ℕ) (es : List Store) → length (touch_free o n es) ≤ 2 + length es
unfolding touch_free
length-free o zero es = omega arith
length-free o (suc n) es = length-touch_words 2 o _ es

length-object : (s : Shape) (f : Fit) (t : ℕ) (b : List ℕ) (es : List Store) → length (touch_object s f t b es) ≤ 8 * cells_for (length b) + 2 + length es
unfolding touch_object
length-object s (failed n) t b es = omega arith
length-object s (fitted z p) t b es = in-turn _ _ _ (length-free _ _ _) (length-touch_words _ _ _ es)

module _ (s : Shape) (v : List ℕ) (es : List Store) where
  pub write-words : (a o : ℕ) (xs : List ℕ) → length (plan s v es (write a o xs)).entries ≤ 1 + word_count (head_at s a + (16 + o)) (length xs) + length es
  unfolding plan touch_write touch_range
  write-words a o xs = in-turn _ _ _ (length-touch_words _ _ _ _) (length-touch_words 1 _ _ es)

  pub allocate-words : (t : ℕ) (b : List ℕ) → length (plan s v es (allocate t b)).entries ≤ 8 * cells_for (length b) + 2 + length es
  unfolding plan
  allocate-words t b = length-object s (search s v (cells_for (length b)) 0 s.zones) t b es

  pub free-words : (a : ℕ) → length (plan s v es (release a)).entries ≤ 2 + length es
  unfolding plan touch_joined
  free-words a = length-touch_words 2 _ _ es

-- ---- a body's limit

body-limit : (a : ℕ) (rs : List Run) (bs : List ℕ) (n t : ℕ) (b : List ℕ) (g : Bool) → Laid false rs bs → run_at a 0 rs ≡ some (object n t b g) → length b ≤ body_limit
body-limit a rs bs n t b g l e =
    let f = (run-found a 0 0 rs (object n t b g) e).0 in
    let p = parts false f.before (object n t b g ∷ []) f.behind bs (rw f.cut at l) in
    let i = seg-inv n t b g p.mid (laid_one p.laid-mid) in
    omega (arith, i.says.most, i.blen)

-- ---- an open transaction over a sound pool

-- its staged book is bk, and there is enough staging memory
pub record Opened (g : Given) (bk : List Listed) : Type 0 where
  pub sound : Sound g.pool
  pub room : staging_size ≤ length g.staging
  pub kept : Kept g bk

pub begun-open : (p staging : List ℕ) → Sound p → staging_size ≤ length staging → Opened (begun p staging) (book_of p)
unfolding begun
begun-open p staging s l = record { sound = s; room = l; kept = begun_kept p staging s }

pub calls-open : (ks : List Call) (g : Given) (bk : List Listed) → AllTyped ks → Opened g bk → Opened (calls g ks).left (new_books ks (calls g ks).answers bk)
calls-open ks g bk t o =
    let p = calls-pool ks g in
    record {
      sound = rw p.0 o.sound;
      room = rw p.1 o.room;
      kept = calls-kept ks g bk (sound-good g.pool o.sound) (sound-fits g.pool o.sound) o.sound.length-is t o.kept;
    }

pub call-open : (k : Call) (g : Given) (bk : List Listed) → Typed k → Opened g bk → Opened (call g k).left (new_book k (call g k).answer bk)
unfolding calls new_books
call-open k g bk t o = calls-open (k ∷ []) g bk (t, tt) o

-- what a call stages, if no test applies; its own tests, with 27
abbrev pub plan_in : Given → Call → Plan
plan_in g k = plan (shape_in g.pool) (lay g.pool (entries_in g)) (entries_in g) k

abbrev own_tests : Plan → List Test
own_tests p = p.tests ++ (when (ltb entry_limit (length p.entries)) 27 ∷ [])

module _ (g : Given) (bk : List Listed) (o : Opened g bk) where
  abbrev s : Shape
  s = shape_in g.pool

  abbrev v : List ℕ
  v = lay g.pool (entries_in g)

  fp : Fits s g.pool
  fp = sound-fits g.pool o.sound

  -- ---- the tests before a plan's own

  possible : impossible s g.staging g.txn.count g.txn.phase ≡ false
  unfolding impossible past_commit entries_in
  possible =
      let h = o.kept.held in
      rw (le-ltb entry_limit g.txn.count o.kept.few, o.kept.live-is)
      (ap not (targets-good s g.pool (sound-good g.pool o.sound) fp o.sound.length-is (entries_in g) h.tidy h.inside))

  pub first_passes : Passed (record_tests g ++ live_tests g)
  unfolding record_tests live_tests is_live
  first_passes =
      passed-join (record_tests g) (live_tests g)
      (passed-join (open_tests g.pool) _ (sound-opens g.pool o.sound)
      (le-ltb (length g.staging) staging_size o.room, (possible, (rw (eq-eqb g.txn.id (id_in g.pool) o.kept.id-is), tt))))
      (rw o.kept.live-is, (rw o.sound.seals, tt))

  -- so a call answers by its own tests and 27
  own_first : (p : Plan) → first (call_tests g p) ≡ first (own_tests p)
  unfolding call_tests
  own_first p = ap first (sym (append_assoc (record_tests g) (live_tests g) (own_tests p))) ∙ first-right (record_tests g ++ live_tests g) (own_tests p) first_passes

  pub call-passed : (k : Call) → Passed (plan_in g k).tests → length (plan_in g k).entries ≤ entry_limit
      → call g k ≡ record { answer = (plan_in g k).answer; left = staged g (plan_in g k).entries }
  unfolding call conclude
  call-passed k p l =
      rw (own_first (plan_in g k) ∙ passed_first (own_tests (plan_in g k)) (passed-join (plan_in g k).tests _ p (le-ltb entry_limit (length (plan_in g k).entries) l, tt)))

  call-stopped : (k : Call) (n : ℕ) → first (own_tests (plan_in g k)) ≡ some n → (call g k).answer ≡ refused n
  unfolding call conclude
  call-stopped k n e = rw (own_first (plan_in g k) ∙ e)

  call-many : (k : Call) → Passed (plan_in g k).tests → ltb entry_limit (length (plan_in g k).entries) ≡ true → (call g k).answer ≡ refused 27
  unfolding first
  call-many k p e = call-stopped k 27 (first-right (plan_in g k).tests _ p ∙ rw e)

  -- ---- write and free

  -- an address of the staged book
  named : (a : ℕ) (e : Listed) → find a bk ≡ some e → Passed (object_tests s v a) × (body_of (run_there s v a) ≡ e.body)
  unfolding body_of
  named a e q =
      let i = book-object s g.pool (entries_in g) bk fp o.kept.held a e q in
      (named-object s v a i.0, ap body_of i.0.found ∙ i.2)

  pub write-taken : (a n : ℕ) (xs : List ℕ) (e : Listed) → find a bk ≡ some e → 1 ≤ length xs → n + length xs ≤ length e.body
      → length (plan_in g (write a n xs)).entries ≤ entry_limit → (call g (write a n xs)).answer ≡ taken
  unfolding plan
  write-taken a n xs e q l h w =
      let i = named a e q in
      ap (λ (x : After). x.answer) (call-passed (write a n xs)
      (passed-join (object_tests s v a) _ i.0 (rw (i.1, le-leb 1 (length xs) l, le-leb (n + length xs) (length e.body) h), tt)) w)

  pub free-taken : (a : ℕ) (e : Listed) → find a bk ≡ some e → length (plan_in g (release a)).entries ≤ entry_limit → (call g (release a)).answer ≡ taken
  unfolding plan
  free-taken a e q w = ap (λ (x : After). x.answer) (call-passed (release a) (named a e q).0 w)

  -- ---- allocate

  module _ (t : ℕ) (b : List ℕ) (b1 : 1 ≤ length b) (b2 : length b ≤ body_limit) where
    abbrev found : Fit
    found = search s v (cells_for (length b)) 0 s.zones

    size-fine : within 1 (length b) body_limit ≡ true
    unfolding within
    size-fine = rw (le-leb 1 (length b) b1, le-leb (length b) body_limit b2)

    fit-passes : (z : ℕ) (p : Place) → found ≡ fitted z p → Passed (plan_in g (allocate t b)).tests
    unfolding plan fit_test
    fit-passes z p f = (rw size-fine, rw f (refl, tt))

    pub allocate-fits : (z : ℕ) (p : Place) → found ≡ fitted z p → length (plan_in g (allocate t b)).entries ≤ entry_limit
        → (call g (allocate t b)).answer ≡ address (z * zone_cells s + p.cell)
    unfolding plan fit_address
    allocate-fits z p f w = ap (λ (x : After). x.answer) (call-passed (allocate t b) (fit-passes z p f) w) ∙ rw f

    pub allocate-full : found ≡ failed 26 → (call g (allocate t b)).answer ≡ refused 26
    unfolding plan fit_test first
    allocate-full f = call-stopped (allocate t b) 26 (rw (size-fine, f))

    -- no zone of the staged view is broken, so that 23 does not come
    pub allocate-answers : ((a : ℕ) × ((call g (allocate t b)).answer ≡ address a)) ⊎ (((call g (allocate t b)).answer ≡ refused 26) ⊎ ((call g (allocate t b)).answer ≡ refused 27))
    allocate-answers =
        let k : ℕ = cells_for (length b) in
        let good = (held-end s g.pool (entries_in g) bk fp o.kept.held).0 in
        split (any_free k (runs_from s v 0 s.zones))
        (λ e. let i = search-room s v k 0 s.zones (cells-hold (length b)).1 good e in
        split (ltb entry_limit (length (plan_in g (allocate t b)).entries))
        (λ m. inr (inr (call-many (allocate t b) (fit-passes i.0 i.1 i.2) m)))
        (λ m. inl (_, allocate-fits i.0 i.1 i.2 (ltb-false entry_limit (length (plan_in g (allocate t b)).entries) m))))
        (λ e. inr (inl (allocate-full (search-full s v k 0 s.zones good e))))

  -- ---- a listed body

  pub listed-limit : (a : ℕ) (e : Listed) → find a bk ≡ some e → length e.body ≤ body_limit
  listed-limit a e q =
      let i = book-object s g.pool (entries_in g) bk fp o.kept.held a e q in
      let x = at-zone s g.pool (entries_in g) bk (a / zone_cells s) fp o.kept.held ((div-lt_iff_lt-mul fp.cell).1 i.0.below) in
      rw (← i.2) (body-limit (a % zone_cells s) x.runs _ i.0.cells i.0.tag i.0.body true x.laid (found_in s g.pool (entries_in g) bk fp o.kept.held a i.0 x))

-- ---- a fresh transaction: its first call never meets 27

module _ (p staging : List ℕ) (sp : Sound p) where
  pub begun-entries : entries_in (begun p staging) ≡ []
  unfolding begun entries_in
  begun-entries = rw (begun-is p sp)

  pub begun-plan : (k : Call) → plan_in (begun p staging) k ≡ plan (shape_in p) p [] k
  unfolding begun
  begun-plan k = rw begun-entries

  pub write-begun : (a o : ℕ) (xs : List ℕ) → length xs ≤ body_limit → length (plan_in (begun p staging) (write a o xs)).entries ≤ 64
  unfolding word_count
  write-begun a o xs h = rw (begun-plan (write a o xs)) (omega (arith, write-words (shape_in p) p [] a o xs))

  pub allocate-begun : (t : ℕ) (b : List ℕ) → length b ≤ body_limit → length (plan_in (begun p staging) (allocate t b)).entries ≤ 66
  unfolding cells_for
  allocate-begun t b h = rw (begun-plan (allocate t b)) (omega (arith, allocate-words (shape_in p) p [] t b))

  pub free-begun : (a : ℕ) → length (plan_in (begun p staging) (release a)).entries ≤ 2
  free-begun a = rw (begun-plan (release a)) (free-words (shape_in p) p [] a)

  module _ (room : staging_size ≤ length staging) where
    opened : Opened (begun p staging) (book_of p)
    opened = begun-open p staging sp room

    pub begun-writes : (a o : ℕ) (xs : List ℕ) (e : Listed) → find a (book_of p) ≡ some e → 1 ≤ length xs → o + length xs ≤ length e.body
        → (call (begun p staging) (write a o xs)).answer ≡ taken
    begun-writes a o xs e q l h =
        let m = listed-limit (begun p staging) (book_of p) opened a e q in
        write-taken (begun p staging) (book_of p) opened a o xs e q l h (let w = write-begun a o xs (omega arith) in omega arith)

    pub begun-frees : (a : ℕ) (e : Listed) → find a (book_of p) ≡ some e → (call (begun p staging) (release a)).answer ≡ taken
    begun-frees a e q = free-taken (begun p staging) (book_of p) opened a e q (let w = free-begun a in omega arith)

    module _ (t : ℕ) (b : List ℕ) (b1 : 1 ≤ length b) (b2 : length b ≤ body_limit) where
      same-search : search (shape_in (begun p staging).pool) (lay (begun p staging).pool (entries_in (begun p staging))) (cells_for (length b)) 0 (shape_in (begun p staging).pool).zones
          ≡ search (shape_in p) p (cells_for (length b)) 0 (shape_in p).zones
      unfolding begun
      same-search = rw begun-entries

      pub begun-allocates : (z : ℕ) (c : Place) → search (shape_in p) p (cells_for (length b)) 0 (shape_in p).zones ≡ fitted z c
          → (call (begun p staging) (allocate t b)).answer ≡ address (z * zone_cells (shape_in p) + c.cell)
      unfolding begun
      begun-allocates z c f =
          allocate-fits (begun p staging) (book_of p) opened t b b1 b2 z c (same-search ∙ f) (let w = allocate-begun t b b2 in omega arith)

      pub begun-full : search (shape_in p) p (cells_for (length b)) 0 (shape_in p).zones ≡ failed 26 → (call (begun p staging) (allocate t b)).answer ≡ refused 26
      begun-full f = allocate-full (begun p staging) (book_of p) opened t b b1 b2 (same-search ∙ f)
