-- REQUIREMENTS 1 AND 2, proved: each gathers the laws that stand (`requirement-1`, `requirement-2`). Assumes nothing.
use Prim.Native.Nat.{ℕ}
use mathlib.Core.Path.{◌≡◌, refl, sym, subst}
use mathlib.Core.Bool.{true, false}
use mathlib.Core.Option.{Option, none, some}
use mathlib.Core.List.{List}
use native.Mathlib.Omega.{arith}
use Rattle.rules.specs.Test.{first}
use Rattle.rules.specs.Header.{open_tests, shape_in}
use Rattle.rules.specs.Answer.{conclude_pool, is_refused}
use Rattle.rules.specs.Plan.{allocate, release, write}
use Rattle.rules.specs.Mend.{mend_header, mended}
use Rattle.rules.specs.Scrub.{broken_zones, conclude_scrub, counts, damaged_met, objects_met, scrub, wrong_columns}
use Rattle.rules.specs.Format.{formatted}
use Rattle.rules.specs.Parity.{Parity}
use Rattle.rules.specs.Seals.{read_tests}
use Rattle.rules.specs.Zones.{good_from}
use Rattle.rules.proofs.Test.{first-passed, passed-left}
use Rattle.rules.proofs.Check.{check-sums, check-updated}
use Rattle.rules.proofs.Header.{passed-good}
use Rattle.rules.proofs.Refusals.{pool-kept, repair-kept}
use Rattle.rules.proofs.Transaction.{call-refused}
use Rattle.rules.proofs.StagedBook.{held-end}
use Rattle.rules.proofs.Sound.{look-listed, look-unlisted, repair-restores, sound-fits}
use Rattle.rules.proofs.Mend.{mended-headers, mended-rest}
use Rattle.rules.proofs.Format.{format-sound}
use Rattle.rules.proofs.Scrub.{scrub-good, scrub-parity, sound-scrub}
use Rattle.powercut.specs.WholeRun.{entries}
use Rattle.powercut.specs.Claim.{new}
use Rattle.powercut.specs.Requirements.{KeepsPool, Mended, Requirement1, Requirement2}
use Rattle.powercut.proofs.Refusals.{recovery-start-pool, recovery-step-refused, start-refused, step-refused}
use Rattle.powercut.proofs.CommitOn.{commit-on-refused}
use Rattle.powercut.proofs.RecoveryOn.{recovery-on-refused}
use Rattle.powercut.proofs.RunInput.{held}
use Rattle.powercut.proofs.Committed.{commits-exactly}

format-kept : (p : List ℕ) (R C Z id : ℕ) → KeepsPool p (formatted p R C Z id)
unfolding formatted
format-kept p R C Z id = pool-kept p _ _

mend-kept : (p : List ℕ) → KeepsPool p (mend_header p)
unfolding mend_header
mend-kept p = pool-kept p _ _

-- REQUIREMENT 1
pub requirement-1 : Requirement1
requirement-1 = record {
  formats = format-kept;
  mends = mend-kept;
  repairs = repair-kept;
  allocates = λ g tag body. call-refused g (allocate tag body);
  writes = λ g a at bytes. call-refused g (write a at bytes);
  frees = λ g a. call-refused g (release a);
  starts = start-refused;
  steps = step-refused;
  advances = commit-on-refused;
  restarts = λ p e. recovery-start-pool p;
  resumes = recovery-step-refused;
  readvances = recovery-on-refused;
}

-- a call on the pool alone that is not refused passes its tests
pool-taken : (p : List ℕ) (r : Option ℕ) (new : List ℕ) → is_refused (conclude_pool p r new).answer ≡ false → (r ≡ none) × ((conclude_pool p r new).pool ≡ new)
unfolding conclude_pool is_refused
pool-taken p none new f = (refl, refl)
pool-taken p (some n) new f = absurd (let z : ◌≡◌ {A = ℕ} 0 1 = cc in omega arith)

mends : (p : List ℕ) → is_refused (mend_header p).answer ≡ false → Mended p (mend_header p).pool
unfolding mend_header
mends p f =
    let t = pool-taken p (first (open_tests p)) (mended p) f in
    let o = first-passed (open_tests p) t.0 in
    let h = mended-headers p o in
    subst (Mended p) (sym t.1) (record { header = h.0; copy = h.1; equal = h.2; rest = mended-rest p o })

-- scrub's three zeros
counts-told : (r : Option ℕ) (a b c d n : ℕ) → conclude_scrub r (counts a b c d) ≡ counts n 0 0 0 → (r ≡ none) × (b ≡ 0) × (c ≡ 0) × (d ≡ 0)
unfolding conclude_scrub
counts-told none a b c d n e = (refl, cc, cc, cc)
counts-told (some m) a b c d n e = absurd (let z : ◌≡◌ {A = ℕ} 0 1 = cc in omega arith)

scrubbed : (p : List ℕ) (n : ℕ) → scrub p ≡ counts n 0 0 0 → (good_from (shape_in p) p 0 (shape_in p).zones ≡ true) × Parity (shape_in p) p
unfolding scrub read_tests
scrubbed p n e =
    let t = counts-told (first (read_tests p)) (objects_met (shape_in p) p) (damaged_met (shape_in p) p) (broken_zones (shape_in p) p) (wrong_columns (shape_in p) p) n e in
    let g = passed-good p (passed-left (open_tests p) _ (first-passed (read_tests p) t.0)) in
    (scrub-good (shape_in p) p t.2 t.1, scrub-parity (shape_in p) p g t.3)

-- REQUIREMENT 2
pub requirement-2 : Requirement2
requirement-2 = record {
  commits = commits-exactly;
  listed = look-listed;
  unlisted = look-unlisted;
  staged = λ pool staging ks sound typed. held-end (shape_in pool) pool (entries pool staging ks) (new pool staging ks) (sound-fits pool sound)
      (held (record { pool = pool; staging = staging; ks = ks; sound = sound; typed = typed }));
  repairs = repair-restores;
  formats = format-sound;
  mends = mends;
  checks = check-sums;
  updates = check-updated;
  scrubs = sound-scrub;
  scrubbed = scrubbed;
}
