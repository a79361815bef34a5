-- The steps of a commit and of a recovery (01, "Commit, cut, recovery"): each makes one aligned 8-byte store or is one barrier. 01's barrier
-- is a persist barrier. Assumes nothing.
use Rattle.std.specs.Prelude.{◌&&◌, ◌||◌, cond, List, [], ◌∷◌, ◌++◌, map, ℕ, suc, ◌+◌, ◌*◌, eqb}
use Rattle.rules.specs.Words.{word}
use Rattle.rules.specs.Shape.{Shape, log_a, log_b, parity_at, log_head, entry_size}
use Rattle.rules.specs.Staging.{Store, entries_at, lay}
use Rattle.rules.specs.Parity.{parity_word}
use Rattle.powercut.specs.Log.{Log, count_in, from_a, from_b, log_at, seal_of, valid}

-- A store; the parity word at an entry's place, worked out from the pool then met; a barrier.
pub data Step : Type 0 where
  store : Store → Step
  parity : Store → Step
  barrier : Step

-- The store of the parity word at an entry's place, as the exclusive or of all data rows of the pool p.
abbrev pub parity_store : Shape → List ℕ → Store → Store
parity_store sh p e = record { at = parity_at sh e.at; val = parity_word sh p e.at }

-- What a step does to the pool's bytes.
abbrev pub step_pool : Shape → Step → List ℕ → List ℕ
step_pool sh (store x) p = lay p (x ∷ [])
step_pool sh (parity e) p = lay p (parity_store sh p e ∷ [])
step_pool sh barrier p = p

-- Steps one after the other, none lost.
unfoldable pub steps_made : Shape → List Step → List ℕ → List ℕ
steps_made sh [] p = p
steps_made sh (x ∷ xs) p = steps_made sh xs (step_pool sh x p)

-- What a recovery does: replay a log with its count, clear both seals, nothing, or (22) nothing can be done.
pub data Remedy : Type 0 where
  replay : Log → ℕ → Remedy
  clear : Remedy
  nothing : Remedy
  neither : Remedy

module _ (sh : Shape) where
  -- Part 1, each entry in turn: its two words in A, then in B; i entries stand before.
  abbrev pub log_stores : ℕ → List Store → List Store
  log_stores i [] = []
  log_stores i (e ∷ es) =
      record { at = log_a sh + log_head + entry_size * i; val = e.at } ∷ record { at = log_a sh + (log_head + 8) + entry_size * i; val = e.val }
      ∷ record { at = log_b sh + log_head + entry_size * i; val = e.at } ∷ record { at = log_b sh + (log_head + 8) + entry_size * i; val = e.val } ∷ log_stores (suc i) es

  -- Both seals, A then B.
  abbrev pub seals : ℕ → List Store
  seals w = record { at = log_a sh; val = w } ∷ record { at = log_b sh; val = w } ∷ []

  -- Parts 3 to 5: the data words in order; for each entry the parity word at its place; both seals cleared; a barrier after each part.
  unfoldable pub redo : List Store → List Step
  redo es = map store es ++ barrier ∷ (map parity es ++ barrier ∷ (map store (seals 0) ++ barrier ∷ []))

  -- Parts 1 to 5. An empty transaction is done in none.
  unfoldable pub commit_steps : List Store → List Step
  commit_steps [] = []
  commit_steps (e ∷ es) =
      map store (log_stores 0 (e ∷ es)) ++ barrier ∷ (map store (seals (seal_of (e ∷ es))) ++ barrier ∷ redo (e ∷ es))

  -- Recovery replays A if valid, else B if valid. If neither is valid and a seal is zero, it clears both, or does nothing if both are zero.
  unfoldable pub remedy : List ℕ → Remedy
  remedy p =
      cond (valid sh p (log_a sh)) (replay from_a (count_in (word p (log_a sh))))
      (cond (valid sh p (log_b sh)) (replay from_b (count_in (word p (log_b sh))))
      (cond (eqb (word p (log_a sh)) 0 && eqb (word p (log_b sh)) 0) nothing
      (cond (eqb (word p (log_a sh)) 0 || eqb (word p (log_b sh)) 0) clear neither)))

  -- A replay reads its entries from the log at every step.
  unfoldable pub recovery_steps : List ℕ → Remedy → List Step
  recovery_steps p (replay l n) = redo (entries_at p (log_at sh l + log_head) n)
  recovery_steps p clear = map store (seals 0) ++ barrier ∷ []
  recovery_steps p nothing = []
  recovery_steps p neither = []
