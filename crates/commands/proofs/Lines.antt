-- Command lines one after the other are a table of ten set-ups and a queue of errors: one law a line. Assumes nothing.
use Prim.Native.Nat.{ℕ}
use mathlib.Core.Path.{◌≡◌, refl, sym, ap, ◌∙◌}
use mathlib.Core.Bool.{true, false, cond}
use mathlib.Core.Option.{Option, none, some}
use mathlib.Core.List.{List, [], ◌∷◌}
use native.Mathlib.Omega.{arith}
use Rattle.rules.specs.Words.{Bytes}
use Rattle.rules.specs.Test.{first}
use Rattle.rules.specs.Staging.{Transaction}
use Rattle.rules.specs.Answer.{After, Answer, Given, address, done, is_refused, passed, refused, started, stored, taken}
use Rattle.rules.specs.Look.{seen}
use Rattle.rules.proofs.Bool.{split}
use Rattle.powercut.specs.WholeRun.{made}
use Rattle.setups.specs.Setups.{recalled, save_call, saved}
use Rattle.setups.specs.Table.{Bare, Recalls, Table, TableRun, is_empty, place, refusal_in, table_tests}
use Rattle.setups.specs.Table as Table
use Rattle.setups.proofs.Saved.{save-staged}
use Rattle.setups.proofs.Table.{ten-places}
use Rattle.setups.proofs.Answers.{save-answers}
use Rattle.errors.specs.Errors.{Queue, all_errors, execution_error, fit}
use Rattle.errors.proofs.Errors.{queue-order}
use Rattle.lines.specs.Line.{Command, fault, nothing, query, rcl, reading, recall, save}
use Rattle.lines.proofs.Reading.{reading-number}
use Rattle.commands.specs.Obey as Obey
use Rattle.commands.specs.Obey.{after_recall, after_save, answered, carried_out, failed, idle, obeyed, saving}
use Rattle.commands.specs.Lines.{LineRun, LinesAreTable, RecallsPlace, error_of, is_some, line, other, queue_after, renew, saves, start, with_error}
use Rattle.commands.proofs.Obeying.{obey-leaves, save-fails, save-stages}

refused-some : (a : Answer) → is_some (refusal_in a) ≡ is_refused a
unfolding is_some refusal_in is_refused
refused-some (address a) = refl
refused-some taken = refl
refused-some started = refl
refused-some (stored k) = refl
refused-some (passed k) = refl
refused-some (done k) = refl
refused-some (refused n) = refl

-- ---- one save, and one recall

module _ (e : Queue) (staging out : List ℕ) where
  -- o is the refusal that the table tells
  module _ (x : After) (o : Option ℕ) (h : refusal_in x.answer ≡ o) where
    some-refused : is_some o ≡ is_refused x.answer
    some-refused = ap is_some (sym h) ∙ refused-some x.answer

    save-queue : (after_save e staging out x).queue ≡ with_error (cond (is_some o) (some execution_error) none) e
    unfolding failed with_error
    save-queue =
        split (is_refused x.answer) (λ r. rw (some-refused, r, save-fails e staging out x r)) (λ a. rw (some-refused, a, save-stages e staging out x a))

    -- g is what its one call leaves
    save-done : (g : Given) → (is_refused x.answer ≡ false → g ≡ x.left)
        → ((after_save e staging out x).done ≡ cond (is_some o) Obey.nothing (saving g.txn)) × ((after_save e staging out x).staging ≡ cond (is_some o) staging g.staging)
    unfolding failed
    save-done g k =
        split (is_refused x.answer)
        (λ r. rw (some-refused, r, save-fails e staging out x r) (refl, refl))
        (λ a. rw (some-refused, a, save-stages e staging out x a, k a) (refl, refl))

  saving-accepted : (x : After) (u : Transaction) → (after_save e staging out x).done ≡ saving u → is_refused x.answer ≡ false
  unfolding failed
  saving-accepted x u h =
      split (is_refused x.answer)
      (λ r. absurd (let g = rw (save-fails e staging out x r) at h in let z : ◌≡◌ {A = ℕ} 0 1 = cc in omega arith))
      (λ a. a)

  module _ (q : List ℕ) (n : ℕ) where
    recall-queue : (o : Option (List ℕ)) → Recalls q n o → (after_recall e staging out (recalled q n)).queue ≡ with_error (cond (is_empty o) (some execution_error) none) e
    unfolding after_recall failed with_error is_empty
    recall-queue none h = rw h
    recall-queue (some body) (at, h, s) = rw h

    recall-done : (o : Option (List ℕ)) → Recalls q n o → RecallsPlace q o (after_recall e staging out (recalled q n)).done
    unfolding after_recall failed seen
    recall-done none h = rw h
    recall-done (some body) (at, h, s) = (at, rw h, rw h at s)

-- ---- runs of lines

runs : {p q : List ℕ} {t : Table} {e : Queue} → LineRun p t e q → TableRun p t q
unfolding obeyed carried_out
runs start = Table.start
runs (line l setup staging out r h) = runs r
runs (saves l setup staging out n u r b i d k) = Table.save staging n setup (runs r) b (saving-accepted _ staging out _ u (rw i at d)) k
runs (renew n places r) = runs r
runs (other staging ks r f k h) = Table.other staging ks (runs r) f k h

fits : {p q : List ℕ} {t : Table} {e : Queue} → LineRun p t e q → fit e ≡ true
unfolding fit all_errors
fits start = refl
fits (line l setup staging out r h) = obey-leaves.fits l setup _ _ staging out (fits r)
fits (saves l setup staging out n u r b i d k) = obey-leaves.fits l setup _ _ staging out (fits r)
fits (renew n places r) = queue-order.judges n places
fits (other staging ks r f k h) = fits r

module _ {p q : List ℕ} {t : Table} {e : Queue} (b : Bare p) (r : LineRun p t e q) (l setup staging out : List ℕ) where
  recalls-place : (n : ℕ) → reading l ≡ recall n → Recalls q n (place n t)
  recalls-place n i = (ten-places p q t b (runs r)).1 n (reading-number rcl l n i)

  carried-queue : (c : Command) → reading l ≡ c → Bytes setup → (carried_out c setup e q staging out).queue ≡ queue_after c (error_of c t q staging setup) e
  unfolding carried_out idle failed answered queue_after error_of with_error
  carried-queue nothing i y = refl
  carried-queue (save n) i y = save-queue e staging out _ _ (save-answers p q t b (runs r) staging n setup y)
  carried-queue (recall n) i y = recall-queue e staging out q n (place n t) (recalls-place n i)
  carried-queue query i y = refl
  carried-queue (fault n) i y = refl

  obeyed-queue : Bytes setup → (obeyed l setup e q staging out).queue ≡ queue_after (reading l) (error_of (reading l) t q staging setup) e
  unfolding obeyed
  obeyed-queue = carried-queue (reading l) refl

  obeyed-recall : (n : ℕ) → reading l ≡ recall n → RecallsPlace q (place n t) (obeyed l setup e q staging out).done
  unfolding obeyed carried_out
  obeyed-recall n i = rw i (recall-done e staging out q n (place n t) (recalls-place n i))

  obeyed-save : (n : ℕ) → Bytes setup → reading l ≡ save n
      → ((obeyed l setup e q staging out).done
      ≡ cond (is_some (first (table_tests q t staging n setup))) Obey.nothing (saving (made q staging (save_call q n setup ∷ [])).left.txn))
      × ((obeyed l setup e q staging out).staging ≡ cond (is_some (first (table_tests q t staging n setup))) staging (made q staging (save_call q n setup ∷ [])).left.staging)
  unfolding obeyed carried_out
  obeyed-save n y i =
      rw i (save-done e staging out (saved q staging n setup) _ (save-answers p q t b (runs r) staging n setup y) (made q staging (save_call q n setup ∷ [])).left
      (λ a. (save-staged q staging n setup a).0))

-- COMMAND LINES ARE A TABLE AND A QUEUE
pub lines-are-table : LinesAreTable
lines-are-table = record { runs = runs; fits = fits; queues = obeyed-queue; recalls = obeyed-recall; saves = obeyed-save }
