-- What each command leaves, as the code makes it. Assumes nothing.
use Prim.Native.Nat.{ℕ}
use mathlib.Core.Path.{◌≡◌, sym, ap, ◌∙◌}
use mathlib.Core.Bool.{true, false}
use mathlib.Core.List.{List}
use lib.ListN.{length}
use lib.Seq.{sets}
use Rattle.rules.specs.Answer.{After, is_refused}
use Rattle.rules.specs.Look.{Look, part, refused}
use Rattle.setups.specs.Setups.{saved, unsaved}
use Rattle.setups.proofs.Saved.{save-refused}
use Rattle.lines.specs.Line.{Command, reading}
use Rattle.std.specs.Prelude.{Result, Err}
use Rattle.errors.specs.declared.Queue as Code
use Rattle.errors.specs.declared.Error.{Error}
use Rattle.errors.specs.declared.Error.TheVariants.{Execution}
use Rattle.errors.specs.Errors.{Queue, behind_oldest, entered, execution_error, line, oldest}
use Rattle.errors.specs.Meaning.{queue_in, queue_out}
use Rattle.errors.proofs.Errors.{behind-fit}
use Rattle.errors.proofs.Places.{queue-in-fit, queue-in-out}
use Rattle.commands.specs.Obey as Obey
use Rattle.commands.specs.Obey.{Obeyed, after_recall, after_save, answered, carried_out, failed, obeyed, printed, recalled, saving}
use Rattle.commands.specs.Meaning.{Handed, handed, left_by}
use Rattle.commands.specs.declared.Done.{Done}
use Rattle.commands.proofs.Obeying.{save-fails, save-stages}

-- x is what saving leaves
module _ (w : Queue) (pool staging : List ℕ) (n : ℕ) (setup : List ℕ) {x : After} (s : x ≡ saved pool staging n setup) (out : List ℕ) where
  pub save-refused-leaves : is_refused x.answer ≡ true → failed w x.left.staging out execution_error ≡ after_save w staging out (saved pool staging n setup)
  unfolding unsaved
  save-refused-leaves t =
      let y : is_refused (saved pool staging n setup).answer ≡ true = ap (λ (z : After). is_refused z.answer) (sym s) ∙ t in
      let e : x.left.staging ≡ staging = ap (λ (z : After). z.left.staging) (s ∙ save-refused pool staging n setup y) in
      rw (e, save-fails w staging out (saved pool staging n setup) y)

  -- r is the error that is still to be entered
  pub save-error-leaves : is_refused x.answer ≡ true → {r : Result Done Error} → r ≡ Err Execution → left_by r w x.left.staging out ≡ after_save w staging out (saved pool staging n setup)
  unfolding left_by
  save-error-leaves t i = rw i (save-refused-leaves t)

  pub save-staged-leaves : is_refused x.answer ≡ false → ◌≡◌ {A = Obeyed} (record { queue = w; done = saving x.left.txn; staging = x.left.staging; out = out }) (after_save w staging out (saved pool staging n setup))
  save-staged-leaves f = rw (← s, save-stages w staging out x f)

-- y is what recalling gives
module _ (w : Queue) {y : Look} (staging out : List ℕ) where
  pub recall-refused-leaves : {m : ℕ} → refused m ≡ y → failed w staging out execution_error ≡ after_recall w staging out y
  unfolding after_recall
  recall-refused-leaves e = rw (← e)

  pub recall-leaves : {at n : ℕ} → part at n ≡ y → ◌≡◌ {A = Obeyed} (record { queue = w; done = recalled at n; staging = staging; out = out }) (after_recall w staging out y)
  unfolding after_recall
  recall-leaves e = rw (← e)

-- the oldest error of the queue q has the number e, and k is the queue without it
pub ask-leaves : (q : Code.Queue) {k : Code.Queue} (e : ℕ) {n : ℕ} (out : List ℕ) {out' : List ℕ} → e ≡ oldest (queue_in q) → k ≡ queue_out (behind_oldest (queue_in q)) → n ≡ length (line e) → out' ≡ sets out 0 (line e)
    → (staging : List ℕ) → ◌≡◌ {A = Obeyed} (record { queue = queue_in k; done = printed n; staging = staging; out = out' }) (answered (queue_in q) staging out)
unfolding answered
ask-leaves q e out i h l o staging = rw (h, queue-in-out (behind_oldest (queue_in q)) (behind-fit (queue_in q) (queue-in-fit q)), l, o, i)

-- the same of what is handed back
pub ask-hands : (q : Queue) (e : ℕ) {n : ℕ} (staging out : List ℕ) {out' : List ℕ} → e ≡ oldest q → n ≡ length (line e) → out' ≡ sets out 0 (line e)
    → {k : Code.Queue} → k ≡ queue_out (behind_oldest q) → ◌≡◌ {A = Handed} (k, printed n, staging, out') (handed (answered q staging out))
unfolding answered
ask-hands q e staging out i l o h = rw (h, l, o, i)

-- c is the command that the line reads as
pub command-leaves : (l setup : List ℕ) (w : Queue) (pool staging out : List ℕ) {c : Command} → c ≡ reading l
    → {y : Obeyed} → y ≡ carried_out c setup w pool staging out → y ≡ obeyed l setup w pool staging out
unfolding obeyed
command-leaves l setup w pool staging out i h = h ∙ rw (← i)

pub command-hands : (l setup : List ℕ) (w : Queue) (pool staging out : List ℕ) {c : Command} → c ≡ reading l
    → {y : Obeyed} → y ≡ carried_out c setup w pool staging out → handed y ≡ handed (obeyed l setup w pool staging out)
command-hands l setup w pool staging out i h = ap handed (command-leaves l setup w pool staging out i h)

-- the error n is entered
pub failed-hands : (w : Queue) (staging out : List ℕ) {n m : ℕ} {h : Handed} → handed (failed w staging out m) ≡ h → n ≡ m
    → ◌≡◌ {A = Handed} (queue_out (entered n w), Obey.nothing, staging, out) h
unfolding failed
failed-hands w staging out e i = rw i e
