-- Set-ups 0 to 9 behind *SAV and *RCL (A.1): saving one and recalling one, by the pool's calls. Assumes nothing.
use Rattle.std.specs.Prelude.{ℕ, ◌+◌, true, false, not, cond, List, [], ◌∷◌, ◌++◌, length, ltb, eqb}
use Rattle.std.proofs.Math.Option.{Option, none, some}
use Rattle.rules.specs.Shape.{head_size, staging_size}
use Rattle.rules.specs.Test.{Test, first, when}
use Rattle.rules.specs.Header.{open_tests, shape_in}
use Rattle.rules.specs.Zones.{body_of, head_at, is_damaged, run_there}
use Rattle.rules.specs.Seals.{seal_test}
use Rattle.rules.specs.Staging.{unusable}
use Rattle.rules.specs.Answer.{After, Answer, is_refused, refused}
use Rattle.rules.specs.Plan.{Call, allocate, write}
use Rattle.rules.specs.Calls.{begun, call}
use Rattle.rules.specs.Sound.{book_of}
use Rattle.rules.specs.Look.{Look, conclude_look}
use Rattle.rules.specs.Tag.{first_tagged, look_up_tests, whole_test}

-- Set-up n, n 0 to 9, is the object with tag 100 + n, the lowest address if several, body 120 bytes.
abbrev pub setup_tag : ℕ → ℕ
setup_tag n = 100 + n

abbrev pub setup_size : ℕ
setup_size = 120

abbrev pub last_setup : ℕ
last_setup = 9

-- Where it is, if any object has its tag.
unfoldable pub setup_at : List ℕ → ℕ → Option ℕ
setup_at pool n = first_tagged (setup_tag n) 0 (book_of pool)

-- ---- The refusals.

-- 32 number above 9.
unfoldable pub number_test : ℕ → Test
number_test n = when (ltb last_setup n) 32

-- 33 body not 120 bytes.
unfoldable pub size_test : List ℕ → Test
size_test body = when (not (eqb (length body) setup_size)) 33

-- 31 no object has its tag.
unfoldable pub absent_test : Option ℕ → Test
absent_test none = when true 31
absent_test (some a) = when false 31

-- The object found: 25 it is damaged; 33 its body is not 120 bytes.
unfoldable pub found_tests : List ℕ → Option ℕ → List Test
found_tests pool none = []
found_tests pool (some a) = when (is_damaged (run_there (shape_in pool) pool a)) 25 ∷ size_test (body_of (run_there (shape_in pool) pool a)) ∷ []

-- ---- Saving allocates it or writes it whole, in one transaction.

-- 32, 33 given, 2, 3, 4, 2, 9, 21, 23, 25, 33 found; 26 comes of the call.
unfoldable pub save_tests : List ℕ → List ℕ → ℕ → List ℕ → List Test
save_tests pool staging n body =
    number_test n ∷ size_test body
    ∷ (open_tests pool ++ (when (ltb (length staging) staging_size) 9 ∷ seal_test pool ∷ whole_test pool ∷ found_tests pool (setup_at pool n)))

-- The one call: allocate it where there is none, else write it from byte 0 on.
unfoldable pub save_call_at : Option ℕ → ℕ → List ℕ → Call
save_call_at none n body = allocate (setup_tag n) body
save_call_at (some a) n body = write a 0 body

unfoldable pub save_call : List ℕ → ℕ → List ℕ → Call
save_call pool n body = save_call_at (setup_at pool n) n body

-- A refused save leaves pool and staging, and hands back a record that no call takes.
unfoldable pub unsaved : List ℕ → List ℕ → Answer → After
unsaved pool staging a = record { answer = a; left = record { pool = pool; staging = staging; txn = unusable } }

unfoldable pub conclude_save : List ℕ → List ℕ → Option ℕ → After → After
conclude_save pool staging none x = cond (is_refused x.answer) (unsaved pool staging x.answer) x
conclude_save pool staging (some m) x = unsaved pool staging (refused m)

-- A transaction begun, with the one call staged; commit and steps stay with the caller.
unfoldable pub saved : List ℕ → List ℕ → ℕ → List ℕ → After
saved pool staging n body = conclude_save pool staging (first (save_tests pool staging n body)) (call (begun pool staging) (save_call pool n body))

-- ---- Recalling gives its bytes, as a part of the lent pool.

-- 32, 2, 3, 4, 2, 21, 23, 31, 25, 33 found.
unfoldable pub recall_tests : List ℕ → ℕ → List Test
recall_tests pool n = number_test n ∷ (look_up_tests pool ++ (absent_test (setup_at pool n) ∷ found_tests pool (setup_at pool n)))

-- Where the body of the object found lies.
unfoldable pub body_at : List ℕ → Option ℕ → ℕ
body_at pool none = 0
body_at pool (some a) = head_at (shape_in pool) a + head_size

unfoldable pub recalled : List ℕ → ℕ → Look
recalled pool n = conclude_look (first (recall_tests pool n)) (body_at pool (setup_at pool n)) setup_size
