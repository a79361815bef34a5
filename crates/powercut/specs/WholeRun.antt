-- A whole run (01, "Requirement 3 is one claim about a whole run"): a fresh transaction over a pool with every earlier store behind a barrier or a
-- cut; any list of calls, taken or refused; the commit's start and steps, until done or a cut; after a cut, recoveries, each started anew.
-- Each call and step gets the pool as the one before it, or the cut, left it and the record last handed back.
use Rattle.std.specs.Prelude.{◌≡◌, false, ℕ, suc}
use mathlib.Core.List.{List, [], Sublistᴰ}
use Rattle.rules.specs.Header.{shape_in}
use Rattle.rules.specs.Staging.{Store, Transaction}
use Rattle.rules.specs.Answer.{Answer, Given, is_refused}
use Rattle.rules.specs.Plan.{Call}
use Rattle.rules.specs.Calls.{Calls, begun, calls, entries_in}
use Rattle.powercut.specs.Power.{State, act, keep, view}
use Rattle.powercut.specs.Commit.{commit_next, commit_start, commit_step}
use Rattle.powercut.specs.Recovery.{Recovery, recovery_next, recovery_start, recovery_step}

-- Not a refusal.
abbrev pub Accepted : Answer → Type 0
Accepted a = is_refused a ≡ false

-- What the caller holds: the transaction, nothing (the power was cut), or a recovery.
pub data Holds : Type 0 where
  holding : Transaction → Holds
  cut_off : Holds
  resuming : Recovery → Holds

module _ (pool staging : List ℕ) (ks : List Call) where
  -- The calls made, the entries that they staged, and what a commit's call is given.
  unfoldable pub made : Calls
  made = calls (begun pool staging) ks

  unfoldable pub entries : List Store
  entries = entries_in made.left

  abbrev pub meets : State → Transaction → Given
  meets s t = record { pool = view s; staging = made.left.staging; txn = t }

  -- A call that is not refused, and what it leaves: the commit's start and a step of it, the start of a recovery and a step of it.
  pub data Makes : Holds → State → Holds → State → Type 0 where
    commit : {t : Transaction} {s : State} → Accepted (commit_start (meets s t)).answer → Makes (holding t) s (holding (commit_start (meets s t)).left.txn) s
    step : {t : Transaction} {s : State} → Accepted (commit_step (meets s t)).answer
        → Makes (holding t) s (holding (commit_step (meets s t)).left.txn) (act (shape_in pool) entries (commit_next (meets s t)) s)
    recover : {s : State} → Accepted (recovery_start (view s)).answer → Makes cut_off s (resuming (recovery_start (view s)).recovery) s
    again : {r : Recovery} {s : State} → Accepted (recovery_step (view s) r).answer
        → Makes (resuming r) s (resuming (recovery_step (view s) r).recovery) (act (shape_in pool) entries (recovery_next (view s) r) s)

  -- The calls are made, and every store is behind a barrier or a cut.
  abbrev pub at_first : State
  at_first = record { base = pool; pend = []; reached = false }

  -- A run: from there, call after call, and cuts.
  pub data Run : Holds → State → Type 0 where
    begin : Run (holding made.left.txn) at_first
    next : {h h' : Holds} {s s' : State} → Run h s → Makes h s h' s' → Run h' s'
    cut : {t : Transaction} {s : State} {kept : List Store} → Run (holding t) s → Sublistᴰ kept s.pend → Run cut_off (keep (shape_in pool) entries s kept)
    cut_again : {r : Recovery} {s : State} {kept : List Store} → Run (resuming r) s → Sublistᴰ kept s.pend → Run cut_off (keep (shape_in pool) entries s kept)

  -- The uncut way on from what is held and a state: n calls, one after the other. Each is a `next` of a run that comes to that state.
  pub data Uncut : ℕ → Holds → State → Holds → State → Type 0 where
    here : {h : Holds} {s : State} → Uncut 0 h s h s
    onward : {n : ℕ} {h h' h'' : Holds} {s s' s'' : State} → Makes h s h' s' → Uncut n h' s' h'' s'' → Uncut (suc n) h s h'' s''
