-- What allocate, write and free do once a transaction is judged (01, "Transactions"): the tests of the call, then 27, then the words staged.
-- Assumes nothing.
use Rattle.std.specs.Prelude.{ℕ, ◌≤◌, List, [], ◌∷◌, ◌++◌, length, ltb, Result, Ok, Err}
use Rattle.std.proofs.Math.Option.{Option, none, some}
use Rattle.std.proofs.lemmas.List.Edits.{sets}
use Rattle.rules.specs.Shape.{Shape, entry_limit, staging_size}
use Rattle.rules.specs.Test.{Test, first, when}
use Rattle.rules.specs.Staging.{Store, entry_bytes}
use Rattle.rules.specs.Answer.{Answer, refused}
use Rattle.rules.specs.Plan.{Call, Plan, plan}
use Rattle.layout.specs.Meaning.{Shaped}
use Rattle.stage.specs.View.{Staged, entries_of, seen}
use Rattle.refusals.specs.declared.Refusal.{Refusal}
use Rattle.refusals.specs.Number.{number_of}
use Rattle.answers.specs.declared.Staged.{Staged as StagedBy}
use Rattle.answers.specs.Meaning.{answer_of}

-- The pool, staging memory with n entries, and the shape have passed what a transaction's calls meet first.
pub record Judged (s : Shape) (pool staging : List ℕ) (n : ℕ) : Type 0 where
  pub shaped : Shaped pool s
  pub staged : Staged pool staging n
  pub few : n ≤ entry_limit
  pub room : staging_size ≤ length staging

-- The answer, staging memory and the number of entries afterwards.
pub record Left : Type 0 where
  pub answer : Answer
  pub staging : List ℕ
  pub count : ℕ

-- What a call on n entries leaves: a call that is refused, as many entries as before.
abbrev pub left_of : ℕ → Result StagedBy Refusal → List ℕ → Left
left_of n (Ok r) staging = record { answer = answer_of r.answer; staging = staging; count = r.count }
left_of n (Err r) staging = record { answer = refused (number_of r); staging = staging; count = n }

-- 27 more than 127 distinct words touched; else the entries es are stored into staging memory, and the answer is a.
unfoldable pub conclude_staged : List ℕ → ℕ → Option ℕ → Answer → List Store → Left
conclude_staged staging n none a es = record { answer = a; staging = sets staging 0 (entry_bytes es); count = length es }
conclude_staged staging n (some k) a es = record { answer = refused k; staging = staging; count = n }

unfoldable pub many_test : List Store → Test
many_test es = when (ltb entry_limit (length es)) 27

unfoldable pub stage_entries : List ℕ → ℕ → Answer → List Store → Left
stage_entries staging n a es = conclude_staged staging n (first (many_test es ∷ [])) a es

-- A call on n entries of staging memory: its own tests come before 27.
unfoldable pub planned : Shape → List ℕ → List ℕ → ℕ → Call → Left
planned s pool staging n k =
    let p : Plan = plan s (seen pool staging n) (entries_of staging n) k in
    conclude_staged staging n (first (p.tests ++ (many_test p.entries ∷ []))) p.answer p.entries
