-- Saving and recalling a set-up: the ways out. Assumes nothing.
use Prim.Native.Nat.{ℕ, ◌+◌, ◌≤◌, ◌<◌}
use mathlib.Core.Path.{◌≡◌, refl, sym, ap, ◌∙◌}
use mathlib.Core.Bool.{true, false}
use mathlib.Core.Option.{Option, none, some}
use mathlib.Core.List.{List, [], ◌∷◌, ◌++◌, append_assoc, append-nil}
use native.Mathlib.Omega.{arith}
use lib.ListN.{length}
use lib.Dec.{ltb}
use borrow.Author.Tests.{eq-eqb, le-ltb, lt-ltb, ne_eqb}
use Rattle.rules.specs.Shape.{head_size, staging_size}
use Rattle.rules.specs.Test.{Test, first, when}
use Rattle.rules.specs.Header.{id_in, open_tests, shape_in}
use Rattle.rules.specs.Zones.{head_at}
use Rattle.rules.specs.Seals.{read_tests, seal_test}
use Rattle.rules.specs.Staging.{fresh}
use Rattle.rules.specs.Staging as Stage
use Rattle.rules.specs.Answer.{After, Given, is_refused, refused, taken}
use Rattle.rules.specs.Plan.{Call, allocate, write}
use Rattle.rules.specs.Calls.{TransactionStart, begun, call, conclude_start, transaction_start}
use Rattle.rules.specs.Look as Looking
use Rattle.rules.specs.Look.{conclude_look}
use Rattle.rules.specs.Tag.{look_up_tests, whole_test}
use Rattle.rules.proofs.Test.{first-left, first-passed, first-right, passed_first, passed-join, passed-left, passed-right}
use Rattle.rules.proofs.Transaction.{call-refused}
use Rattle.setups.specs.Setups.{absent_test, body_at, conclude_save, found_tests, last_setup, number_test, recall_tests, recalled, save_call, save_call_at, save_tests, saved, setup_at, setup_size, setup_tag, size_test, unsaved}
use Rattle.setups.specs.Found.{Accepted, absent, at, begun_in, begun_of, conclude_spot, refusal, refused_start, room_tests, saved_of, spot, spot_at}
use Rattle.std.proofs.Common.{Result, Ok, Err}
use Rattle.refusals.specs.declared.Refusal.{Refusal}
use Rattle.refusals.specs.Number.{number_of}
use Rattle.answers.specs.Meaning.{answer_of}
use Rattle.transaction.specs.declared.Transaction.{Transaction}
use Rattle.transaction.specs.declared.Reply.{Reply}
use Rattle.transaction.specs.Meaning.{after_of, given_of, transaction_of}
use Rattle.setups.proofs.Beginning.{first-skip}

-- ---- what was found, of the tests r and the object o

spot-refused : (p : List ℕ) (r o : Option ℕ) (m : ℕ) → conclude_spot r (spot_at p o) ≡ refusal m → r ≡ some m
unfolding conclude_spot spot_at
spot-refused p (some k) o m e = cc
spot-refused p none none m e = absurd (let z : ◌≡◌ {A = ℕ} 0 1 = cc in omega arith)
spot-refused p none (some a) m e = absurd (let z : ◌≡◌ {A = ℕ} 0 1 = cc in omega arith)

spot-absent : (p : List ℕ) (r o : Option ℕ) → conclude_spot r (spot_at p o) ≡ absent → (r ≡ none) × (o ≡ none)
unfolding conclude_spot spot_at
spot-absent p (some k) o e = absurd (let z : ◌≡◌ {A = ℕ} 0 1 = cc in omega arith)
spot-absent p none none e = (refl, refl)
spot-absent p none (some a) e = absurd (let z : ◌≡◌ {A = ℕ} 0 1 = cc in omega arith)

spot-at : (p : List ℕ) (r o : Option ℕ) (a j : ℕ) → conclude_spot r (spot_at p o) ≡ at a j → (r ≡ none) × (o ≡ some a) × (head_at (shape_in p) a + head_size ≡ j)
unfolding conclude_spot spot_at
spot-at p (some k) o a j e = absurd (let z : ◌≡◌ {A = ℕ} 0 1 = cc in omega arith)
spot-at p none none a j e = absurd (let z : ◌≡◌ {A = ℕ} 0 1 = cc in omega arith)
spot-at p none (some b) a j e = let z : b ≡ a = cc in (refl, ap some z, ap (λ (x : ℕ). head_at (shape_in p) x + head_size) (sym z) ∙ cc)

-- the tests by which set-up n is found
module _ (p : List ℕ) (n : ℕ) where
  abbrev pub find_tests : List Test
  find_tests = look_up_tests p ++ found_tests p (setup_at p n)

  find-refused : (m : ℕ) → spot p (setup_tag n) ≡ refusal m → first find_tests ≡ some m
  unfolding spot setup_at
  find-refused m e = spot-refused p (first find_tests) (setup_at p n) m e

  find_absent : spot p (setup_tag n) ≡ absent → (first find_tests ≡ none) × (setup_at p n ≡ none)
  unfolding spot setup_at
  find_absent e = spot-absent p (first find_tests) (setup_at p n) e

  find_at : (a j : ℕ) → spot p (setup_tag n) ≡ at a j → (first find_tests ≡ none) × (setup_at p n ≡ some a) × (head_at (shape_in p) a + head_size ≡ j)
  unfolding spot setup_at
  find_at a j e = spot-at p (first find_tests) (setup_at p n) a j e

  -- ---- recalling

  pub recall-number : last_setup < n → Looking.refused 32 ≡ recalled p n
  unfolding recalled recall_tests number_test conclude_look first
  recall-number h = rw (lt-ltb last_setup n h)

  module _ (h : n ≤ last_setup) where
    -- 31 stands between the look-up's tests and those of the object found
    recall-first : first (recall_tests p n) ≡ first (look_up_tests p ++ (absent_test (setup_at p n) ∷ found_tests p (setup_at p n)))
    unfolding recall_tests number_test first
    recall-first = rw (le-ltb last_setup n h)

    absent-between : (o : Option ℕ) (m : ℕ) → first (look_up_tests p ++ found_tests p o) ≡ some m → first (look_up_tests p ++ (absent_test o ∷ found_tests p o)) ≡ some m
    unfolding absent_test found_tests
    absent-between none m e = first-left (look_up_tests p) _ m (sym (ap first (append-nil (look_up_tests p))) ∙ e)
    absent-between (some a) m e = first-skip (look_up_tests p) (found_tests p (some a)) false 31 refl ∙ e

    pub recall-refused : (m : ℕ) → spot p (setup_tag n) ≡ refusal m → Looking.refused m ≡ recalled p n
    unfolding recalled conclude_look
    recall-refused m e = rw (recall-first ∙ absent-between (setup_at p n) m (find-refused m e))

    pub recall-absent : spot p (setup_tag n) ≡ absent → Looking.refused 31 ≡ recalled p n
    unfolding recalled conclude_look
    recall-absent e =
        let i = find_absent e in
        let q : first (look_up_tests p ++ (absent_test (setup_at p n) ∷ found_tests p (setup_at p n))) ≡ some 31 =
        first-right (look_up_tests p) _ (passed-left (look_up_tests p) _ (first-passed find_tests i.0)) ∙ (unfold absent_test first in (rw i.1)) in
        rw (recall-first ∙ q)

    pub recall-found : (a j : ℕ) → spot p (setup_tag n) ≡ at a j → Looking.part j setup_size ≡ recalled p n
    unfolding recalled conclude_look body_at
    recall-found a j e =
        let i = find_at a j e in
        let q : first (look_up_tests p ++ (absent_test (setup_at p n) ∷ found_tests p (setup_at p n))) ≡ first find_tests =
        (unfold absent_test in (rw i.1 (first-skip (look_up_tests p) (found_tests p (some a)) false 31 refl))) in
        rw (recall-first ∙ q ∙ i.0, i.1, i.2)

-- ---- saving

-- a call k on a transaction begun hands back r, with staging memory st; or its refusal
concluded : (p staging : List ℕ) (k : Call) (r : Reply) {st : List ℕ} (m : Result Reply Refusal) → Accepted r m → after_of r p st ≡ call (begun p staging) k
    → saved_of m p st ≡ conclude_save p staging none (call (begun p staging) k)
unfolding conclude_save
concluded p staging k r {st} (Ok x) a i = ap (λ (y : Reply). after_of y p st) a.0 ∙ rw (← i, a.1)
concluded p staging k r {st} (Err x) a i =
    let q : (call (begun p staging) k).answer ≡ refused (number_of x) = sym (ap (λ (y : After). y.answer) i) ∙ ap answer_of a in
    let f : is_refused (call (begun p staging) k).answer ≡ true = ap is_refused q ∙ (unfold is_refused in refl) in
    let b : (begun p staging).staging ≡ staging = (unfold begun in refl) in
    let s : st ≡ staging = ap (λ (y : After). y.left.staging) i ∙ ap (λ (g : Given). g.staging) (call-refused (begun p staging) k f) ∙ b in
    rw (f, q, s)

module _ (p staging : List ℕ) (n : ℕ) (body : List ℕ) where
  -- refused by the tests
  stopped : {m : ℕ} → first (save_tests p staging n body) ≡ some m → unsaved p staging (refused m) ≡ saved p staging n body
  unfolding saved conclude_save
  stopped q = rw q

  pub save-number : last_setup < n → unsaved p staging (refused 32) ≡ saved p staging n body
  save-number h = stopped (unfold save_tests number_test first in (rw (lt-ltb last_setup n h)))

  pub save-size : n ≤ last_setup → (length body ≡ setup_size → ⊥) → unsaved p staging (refused 33) ≡ saved p staging n body
  save-size h l = stopped (unfold save_tests number_test size_test first in (rw (le-ltb last_setup n h, ne_eqb (length body) setup_size l)))

  module _ (h : n ≤ last_setup) (l : length body ≡ setup_size) where
    save-first : first (save_tests p staging n body) ≡ first (room_tests p (length staging) ++ (whole_test p ∷ found_tests p (setup_at p n)))
    unfolding save_tests number_test size_test room_tests first
    save-first =
        rw (le-ltb last_setup n h, eq-eqb (length body) setup_size l)
        (ap first (sym (append_assoc (open_tests p) (when (ltb (length staging) staging_size) 9 ∷ seal_test p ∷ []) (whole_test p ∷ found_tests p (setup_at p n)))))

    begin-refused : (o : Option ℕ) → first (room_tests p (length staging)) ≡ o → {m : ℕ} → refused_start m ≡ begun_in p (length staging) → unsaved p staging (refused m) ≡ saved p staging n body
    unfolding begun_in conclude_start
    begin-refused (some k) q {m} e =
        let i : refused_start m ≡ refused_start k = e ∙ rw q in
        let j : refused m ≡ refused k = ap (λ (x : TransactionStart). x.answer) i in
        let z : m ≡ k = cc in
        stopped (save-first ∙ first-left (room_tests p (length staging)) _ m (q ∙ ap some (sym z)))
    begin-refused none q {m} e =
        let i : refused_start m ≡ record { answer = taken; txn = fresh (id_in p) } = e ∙ rw q in
        let j : refused m ≡ taken = ap (λ (x : TransactionStart). x.answer) i in
        absurd (let z : ◌≡◌ {A = ℕ} 0 1 = cc in omega arith)

    pub save-unbegun : (x : Refusal) → begun_of (Err x) ≡ begun_in p (length staging) → unsaved p staging (refused (number_of x)) ≡ saved p staging n body
    save-unbegun x e = begin-refused (first (room_tests p (length staging))) refl e

    -- t is what the beginning hands back
    module _ (t : Transaction) (e : begun_of (Ok t) ≡ begun_in p (length staging)) where
      begin-passed : (o : Option ℕ) → first (room_tests p (length staging)) ≡ o → (first (room_tests p (length staging)) ≡ none) × (transaction_of t ≡ fresh (id_in p))
      unfolding begun_in conclude_start
      begin-passed (some m) q =
          let i : begun_of (Ok t) ≡ refused_start m = e ∙ rw q in
          let j : taken ≡ refused m = ap (λ (x : TransactionStart). x.answer) i in
          absurd (let z : ◌≡◌ {A = ℕ} 0 1 = cc in omega arith)
      begin-passed none q =
          let i : begun_of (Ok t) ≡ record { answer = taken; txn = fresh (id_in p) } = e ∙ rw q in
          (q, ap (λ (x : TransactionStart). x.txn) i)

      room-passed : (first (room_tests p (length staging)) ≡ none) × (transaction_of t ≡ fresh (id_in p))
      room-passed = begin-passed (first (room_tests p (length staging))) refl

      reads : first (read_tests p) ≡ none
      unfolding read_tests room_tests
      reads =
          let i = first-passed (room_tests p (length staging)) room-passed.0 in
          passed_first (open_tests p ++ (seal_test p ∷ [])) (passed-join (open_tests p) (seal_test p ∷ []) (passed-left (open_tests p) _ i) (passed-right (open_tests p) _ i).1)

      -- it is a fresh one
      begun-given : given_of t p staging ≡ begun p staging
      unfolding begun transaction_start conclude_start
      begun-given = rw reads (ap (λ (x : Stage.Transaction). record { pool = p; staging = staging; txn = x }) room-passed.1)

      -- what is left of a save's tests are those by which the set-up is found
      save-finds : first (save_tests p staging n body) ≡ first (find_tests p n)
      unfolding look_up_tests
      save-finds =
          save-first ∙ first-right (room_tests p (length staging)) _ (first-passed (room_tests p (length staging)) room-passed.0)
          ∙ sym (ap first (append_assoc (read_tests p) (whole_test p ∷ []) (found_tests p (setup_at p n))) ∙ first-right (read_tests p) _ (first-passed (read_tests p) reads))

      pub save-spot-refused : (x : Refusal) → spot p (setup_tag n) ≡ refusal (number_of x) → unsaved p staging (refused (number_of x)) ≡ saved p staging n body
      save-spot-refused x q = stopped (save-finds ∙ find-refused p n (number_of x) q)

      -- the call k hands back r, with staging memory st; or its refusal: m
      module _ (r : Reply) {st : List ℕ} (m : Result Reply Refusal) (a : Accepted r m) where
        given-fresh : (k : Call) → after_of r p st ≡ call (given_of t p staging) k → after_of r p st ≡ call (begun p staging) k
        given-fresh k c = c ∙ ap (λ (g : Given). call g k) begun-given

        pub save-anew : spot p (setup_tag n) ≡ absent → after_of r p st ≡ call (given_of t p staging) (allocate (setup_tag n) body) → saved_of m p st ≡ saved p staging n body
        unfolding saved save_call save_call_at
        save-anew q c = let i = find_absent p n q in concluded p staging (allocate (setup_tag n) body) r m a (given-fresh (allocate (setup_tag n) body) c) ∙ rw (save-finds ∙ i.0, i.1)

        pub save-over : (o j : ℕ) → spot p (setup_tag n) ≡ at o j → after_of r p st ≡ call (given_of t p staging) (write o 0 body) → saved_of m p st ≡ saved p staging n body
        unfolding saved save_call save_call_at
        save-over o j q c = let i = find_at p n o j q in concluded p staging (write o 0 body) r m a (given-fresh (write o 0 body) c) ∙ rw (save-finds ∙ i.0, i.1)
