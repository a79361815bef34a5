-- What an obeyed line leaves: a fit queue, staging memory unless a save is answered, the buffer unless a line is printed. Assumes nothing.
use Prim.Native.Nat.{ℕ}
use mathlib.Core.Path.{◌≡◌, refl}
use mathlib.Core.Logic.{◌≢◌}
use mathlib.Core.Bool.{true, false}
use mathlib.Core.List.{List}
use Rattle.rules.specs.Staging.{Transaction}
use Rattle.rules.specs.Answer.{After, is_refused}
use Rattle.rules.specs.Look.{Look, part, refused}
use Rattle.rules.proofs.Bool.{split}
use Rattle.setups.specs.Setups.{recalled, saved}
use Rattle.lines.specs.Line.{Command, fault, nothing, query, reading, recall, save}
use Rattle.errors.specs.Errors.{Queue, execution_error, fit, is_error}
use Rattle.errors.proofs.Errors.{queue-order}
use Rattle.lines.proofs.Reading.{reading-error}
use Rattle.commands.specs.Obey.{ObeyLeaves, Obeyed, after_recall, after_save, answered, carried_out, failed, idle, obeyed, printed, saving}

-- ---- a save, by its answer

module _ (queue : Queue) (staging out : List ℕ) (x : After) where
  abbrev pub staged : Obeyed
  staged = record { queue = queue; done = saving x.left.txn; staging = x.left.staging; out = out }

  pub save-fails : is_refused x.answer ≡ true → after_save queue staging out x ≡ failed queue staging out execution_error
  unfolding after_save
  save-fails h = rw h

  pub save-stages : is_refused x.answer ≡ false → after_save queue staging out x ≡ staged
  unfolding after_save
  save-stages h = rw h

-- ---- what each command leaves

module _ (setup : List ℕ) (queue : Queue) (pool staging out : List ℕ) where
  recall-leaves : (x : Look) → ((after_recall queue staging out x).staging ≡ staging) × ((after_recall queue staging out x).out ≡ out)
  unfolding after_recall failed
  recall-leaves (part at n) = (refl, refl)
  recall-leaves (refused n) = (refl, refl)

  carried-staging : (c : Command) → ((t : Transaction) → (carried_out c setup queue pool staging out).done ≢ saving t) → (carried_out c setup queue pool staging out).staging ≡ staging
  unfolding carried_out idle failed answered
  carried-staging nothing h = refl
  carried-staging (save n) h =
      let x = saved pool staging n setup in
      split (is_refused x.answer) (λ r. rw (save-fails queue staging out x r)) (λ a. absurd (h x.left.txn (rw (save-stages queue staging out x a))))
  carried-staging (recall n) h = (recall-leaves (recalled pool n)).0
  carried-staging query h = refl
  carried-staging (fault e) h = refl

  carried-out : (c : Command) → ((n : ℕ) → (carried_out c setup queue pool staging out).done ≢ printed n) → (carried_out c setup queue pool staging out).out ≡ out
  unfolding carried_out idle failed answered
  carried-out nothing h = refl
  carried-out (save n) h =
      let x = saved pool staging n setup in
      split (is_refused x.answer) (λ r. rw (save-fails queue staging out x r)) (λ a. rw (save-stages queue staging out x a))
  carried-out (recall n) h = (recall-leaves (recalled pool n)).1
  carried-out query h = absurd (h _ refl)
  carried-out (fault e) h = refl

-- ---- the queue stays fit

module _ (l setup : List ℕ) (e : Queue) (q staging out : List ℕ) (f : fit e ≡ true) where
  failed-fit : (n : ℕ) → is_error n ≡ true → fit (failed e staging out n).queue ≡ true
  unfolding failed
  failed-fit n h = queue-order.enters n e h f

  save-fit : (x : After) → fit (after_save e staging out x).queue ≡ true
  save-fit x =
      split (is_refused x.answer) (λ r. rw (save-fails e staging out x r) (failed-fit execution_error (unfold is_error in refl))) (λ a. rw (save-stages e staging out x a) f)

  recall-fit : (x : Look) → fit (after_recall e staging out x).queue ≡ true
  unfolding after_recall
  recall-fit (part at n) = f
  recall-fit (refused n) = failed-fit execution_error (unfold is_error in refl)

  carried-fit : (c : Command) → reading l ≡ c → fit (carried_out c setup e q staging out).queue ≡ true
  unfolding carried_out idle answered
  carried-fit nothing i = f
  carried-fit (save n) i = save-fit (saved q staging n setup)
  carried-fit (recall n) i = recall-fit (recalled q n)
  carried-fit query i = queue-order.takes e f
  carried-fit (fault n) i = failed-fit n (reading-error l n i)

  obeyed-fit : fit (obeyed l setup e q staging out).queue ≡ true
  unfolding obeyed
  obeyed-fit = carried-fit (reading l) refl

-- WHAT AN OBEYED LINE LEAVES
pub obey-leaves : ObeyLeaves
unfolding obeyed
obey-leaves = record {
  fits = obeyed-fit;
  stagings = λ line setup queue pool staging out. carried-staging setup queue pool staging out (reading line);
  outs = λ line setup queue pool staging out. carried-out setup queue pool staging out (reading line);
}
