-- On a sound pool, with staging memory of 2,032 bytes, a commit after any calls ends within five calls, each up to the next barrier, and the
-- book of the pool left is the new one (`commit-ends`). Assumes nothing.
use Prim.Native.Nat.{ℕ, zero, suc, ◌+◌, ◌*◌, ◌≤◌, ◌<◌}
use mathlib.Core.Path.{◌≡◌, refl, sym, ap, ap₂, ◌∙◌, subst}
use mathlib.Core.Logic.{◌⊎◌, inl, inr, ⊎_elim}
use mathlib.Core.Bool.{true, false}
use mathlib.Core.List.{List}
use native.Mathlib.Omega.{arith}
use lib.Dec.{eqb}
use lib.ListN.{length}
use borrow.Author.Tests.{eqb-false}
use Rattle.rules.specs.Shape.{staging_size}
use Rattle.rules.specs.Header.{shape_in}
use Rattle.rules.specs.Staging.{Transaction, closed, commit_length, committing, entries_at}
use Rattle.rules.specs.Answer.{After, Given, done, is_refused}
use Rattle.rules.specs.Plan.{Call}
use Rattle.rules.specs.Calls.{AllTyped, begun, entries_in}
use Rattle.rules.specs.Sound.{Sound, book_of}
use Rattle.rules.proofs.Bool.{split}
use Rattle.rules.proofs.Transaction.{calls-pool, entries-count}
use Rattle.powercut.specs.Steps.{Step, barrier, parity, store}
use Rattle.powercut.specs.Power.{State, view}
use Rattle.powercut.specs.Commit.{commit_list, commit_on, commit_start, made_answer, next_phase, start_answer, start_phase, step_answer}
use Rattle.powercut.specs.Advance.{RunOn, commit_barrier, commit_made, in_commit, number_in}
use Rattle.powercut.specs.WholeRun.{Accepted, Makes, Run, at_first, holding, made, meets}
use Rattle.powercut.specs.Claim.{new}
use Rattle.powercut.proofs.Answers.{concluded, phase-end, phase-on, start_left, start_none}
use Rattle.powercut.proofs.RunInput.{Input, live-is}
use Rattle.powercut.proofs.RunMatches.{list_length}
use Rattle.powercut.proofs.PowerCut.{power-cut}
use Rattle.powercut.proofs.Parts.{commit-high}
use Rattle.powercut.proofs.CommitOn.{commit-advances, commit-on-accepted}
use Rattle.powercut.proofs.RunOn.{advance-runs}
use Rattle.saving.specs.Saving.{calls_from, committed, is_done, is_end}
use Rattle.saving.proofs.Saving.{calls-end, calls-next, done-ends}
use Rattle.saving.proofs.Calls.{commit-fewer, commit-first, commit-some, commit_calls}

-- ---- answers

start-answer : (g : Given) → Accepted (commit_start g).answer → (commit_start g).answer ≡ start_answer g.txn.count
unfolding commit_start
start-answer g f = ap (λ (x : After). x.answer) (concluded g _ _ f)

start-given : (g : Given) → Accepted (commit_start g).answer → (commit_start g).left ≡ record { pool = g.pool; staging = g.staging; txn = (commit_start g).left.txn }
unfolding commit_start
start-given g f = let e = concluded g _ _ f in rw e

pub answer-last : (k n : ℕ) (x : Step) → eqb (suc k) n ≡ true → step_answer k n x ≡ done n
unfolding step_answer
answer-last k n x e = rw e

pub answer-on : (k n : ℕ) (x : Step) → eqb (suc k) n ≡ false → is_end (step_answer k n x) ≡ false
unfolding step_answer is_end is_done is_refused made_answer
answer-on k n x e = rw e (on x)
  where
    on : (x : Step) → is_end (made_answer (suc k) x) ≡ false
    on (store y) = refl
    on (parity y) = refl
    on barrier = refl

given_is : (g : Given) (p q : List ℕ) → g.pool ≡ p → g.staging ≡ q → g ≡ record { pool = p; staging = q; txn = g.txn }
given_is g p q e f = ap₂ (λ (x y : List ℕ). record { pool = x; staging = y; txn = g.txn }) e f

-- how many steps the list of a commit with a step has
list_count : (g : Given) (k : ℕ) → k < length (commit_list g) → length (commit_list g) ≡ 6 * g.txn.count + 9
unfolding commit_list entries_in commit_length
list_count g k l = let c = list_length (shape_in g.pool) (entries_at g.staging 0 g.txn.count) ∙ ap commit_length (entries-count g.staging 0 g.txn.count) in go g.txn.count c (omega arith)
  where
    go : (n : ℕ) → length (commit_list g) ≡ commit_length n → 0 < length (commit_list g) → length (commit_list g) ≡ 6 * n + 9
    go zero e h = absurd (omega arith)
    go (suc n) e h = e

-- ---- the commit

module _ (pool staging : List ℕ) (ks : List Call) (sound : Sound pool) (typed : AllTyped ks) where
  -- what a call answers and leaves belongs to a run
  record Along (x : After) : Type 0 where
    s : State
    run : RunOn pool staging ks (holding x.left.txn) s
    met : x.left ≡ meets pool staging ks s x.left.txn

  -- more calls follow, at most m
  record Going (m : ℕ) (x : After) : Type 0 where
    along : Along x
    place : ℕ
    phase : x.left.txn.phase ≡ committing place
    goes : is_end x.answer ≡ false
    calls : commit_calls x.left.txn.count place ≤ m

  -- the commit is done
  record Over (x : After) : Type 0 where
    along : Along x
    phase : x.left.txn.phase ≡ closed
    last : (k : ℕ) × (x.answer ≡ done k)

  advance-on : (m k : ℕ) (t : Transaction) (s : State) → RunOn pool staging ks (holding t) s → t.phase ≡ committing k → commit_calls t.count k ≤ suc m
      → Over (commit_on (meets pool staging ks s t)) ⊎ Going m (commit_on (meets pool staging ks s t))
  unfolding commit_made
  advance-on m k t s r e l =
      let g : Given = meets pool staging ks s t in
      let c = advance-runs pool staging ks sound typed in
      let u = c.runs r in
      let f : Accepted (commit_on g).answer = c.commits t s k u e in
      let b : ℕ = commit_barrier t.count k in
      let n : ℕ = length (commit_list g) in
      let y : After = commit_on g in
      let q : y ≡ commit_made g k b = (commit-advances g).makes k e (commit-on-accepted g f) in
      let a : Along y = record { s = in_commit pool staging ks t s (number_in y.answer); run = RunOn.on r f; met = c.commit-leaves t s u f } in
      let i : y.left.txn.phase ≡ next_phase b n = ap (λ (x : After). x.left.txn.phase) q in
      let j : y.answer ≡ step_answer b n barrier = ap (λ (x : After). x.answer) q in
      let w : y.left.txn.count ≡ t.count = ap (λ (x : After). x.left.txn.count) q in
      let v = (power-cut pool staging ks sound typed).steps t s k u e in
      split (eqb (suc b) n)
      (λ d. inl (record { along = a; phase = i ∙ phase-end b n d; last = (n, j ∙ answer-last b n barrier d) }))
      (λ d. inr (record {
        along = a;
        place = suc b;
        phase = i ∙ phase-on b n d;
        goes = ap is_end j ∙ answer-on b n barrier d;
        calls = rw w (let z = commit-fewer t.count k (let o = list_count g k v.inside in let h = commit-high t.count k in let x = eqb-false (suc b) n d in omega arith) in omega arith);
      }))

  advance-of : (m : ℕ) (x : After) → Going (suc m) x → Over (commit_on x.left) ⊎ Going m (commit_on x.left)
  advance-of m x w =
      subst (λ (g : Given). Over (commit_on g) ⊎ Going m (commit_on g)) (sym w.along.met) (advance-on m w.place x.left.txn w.along.s w.along.run w.phase w.calls)

  over-stays : (n : ℕ) (x : After) → Over x → Over (calls_from commit_on n x)
  unfolding is_done
  over-stays n x o = subst Over (sym (calls-end commit_on n x refl (done-ends x.answer (ap is_done o.last.1)))) o

  goes_on : (n : ℕ) (x : After) → Going n x → Over (calls_from commit_on n x)
  goes_on zero x w = absurd (let s = commit-some x.left.txn.count w.place in let l = w.calls in omega arith)
  goes_on (suc n) x w =
      subst Over (sym (calls-next commit_on n x w.goes))
      (⊎_elim (λ o. over-stays n (commit_on x.left) o) (λ v. goes_on n (commit_on x.left) v) (advance-of n x w))

  -- ---- its start

  abbrev t₀ : Transaction
  t₀ = (made pool staging ks).left.txn

  abbrev s₀ : State
  s₀ = at_first pool staging ks

  abbrev g₀ : Given
  g₀ = meets pool staging ks s₀ t₀

  given-first : (made pool staging ks).left ≡ g₀
  given-first = given_is (made pool staging ks).left pool (made pool staging ks).left.staging (unfold made begun in (calls-pool ks (begun pool staging)).0) refl

  abbrev input : Input
  input = record { pool = pool; staging = staging; ks = ks; sound = sound; typed = typed }

  along-start : Accepted (commit_start g₀).answer → Along (commit_start g₀)
  along-start f = record { s = s₀; run = RunOn.next RunOn.begin (Makes.commit f); met = start-given g₀ f }

  phase-start : Accepted (commit_start g₀).answer → (n : ℕ) → t₀.count ≡ n → (commit_start g₀).left.txn.phase ≡ start_phase n
  phase-start f n e = ap (λ (x : Transaction). x.phase) (start_left g₀ (start_none g₀ f)) ∙ ap start_phase e

  begins : Accepted (commit_start g₀).answer → (n : ℕ) → t₀.count ≡ n → Over (commit_start g₀) ⊎ Going 5 (commit_start g₀)
  unfolding start_answer start_phase is_end is_done is_refused
  begins f zero e = inl (record { along = along-start f; phase = phase-start f 0 e; last = (0, start-answer g₀ f ∙ ap start_answer e) })
  begins f (suc n) e = inr (record { along = along-start f; place = 0; phase = phase-start f (suc n) e; goes = ap is_end (start-answer g₀ f ∙ ap start_answer e); calls = let c = commit-first (commit_start g₀).left.txn.count in omega arith })

  -- THE COMMIT'S END: it is done, the pool is sound, and its book is the new one.
  abbrev pub Ended : After → Type 0
  Ended y = ((k : ℕ) × (y.answer ≡ done k)) × Sound y.left.pool × (book_of y.left.pool ≡ new pool staging ks)

  over-new : (y : After) → Over y → Ended y
  over-new y o =
      let e = (power-cut pool staging ks sound typed).uncut y.left.txn o.along.s ((advance-runs pool staging ks sound typed).runs o.along.run) o.phase in
      let p : view o.along.s ≡ y.left.pool = sym (ap (λ (g : Given). g.pool) o.along.met) in
      (o.last, subst Sound p e.sound, subst (λ (q : List ℕ). book_of q ≡ new pool staging ks) p e.books)

  module _ (room : staging_size ≤ length staging) where
    started-ends : Over (calls_from commit_on 5 (commit_start g₀))
    started-ends =
        let f = (power-cut pool staging ks sound typed).starts t₀ s₀ Run.begin (live-is input) room in
        ⊎_elim (λ o. over-stays 5 (commit_start g₀) o) (λ w. goes_on 5 (commit_start g₀) w) (begins f t₀.count refl)

    pub commit-ends : Ended (committed (made pool staging ks).left)
    unfolding committed
    commit-ends = subst (λ (g : Given). Ended (calls_from commit_on 5 (commit_start g))) (sym given-first) (over-new (calls_from commit_on 5 (commit_start g₀)) started-ends)
