-- ONE LOG OVERWRITTEN, proved: `scribbled-log`. Assumes nothing.
use mathlib.Core.Path.{◌≡◌, refl, ◌∙◌}
use mathlib.Core.Logic.{⊎_elim}
use mathlib.Core.Bool.{Bool, true}
use mathlib.Core.List.{List}
use Prim.Native.Nat.{ℕ}
use lib.ListN.{length}
use Rattle.rules.specs.Shape.{Shape}
use Rattle.rules.specs.Header.{shape_in}
use Rattle.rules.specs.Staging.{Store}
use Rattle.powercut.specs.Log.{Log, log_at}
use Rattle.powercut.specs.Steps.{Remedy, recovery_steps}
use Rattle.powercut.specs.Power.{State, keep, view}
use Rattle.powercut.specs.WholeRun.{Run, entries}
use Rattle.powercut.specs.Claim.{End}
use Rattle.powercut.specs.Scribble.{Overwritten, ScribbledLog, other, reached_in}
use Rattle.powercut.proofs.StepRun.{Position, at_recovery}
use Rattle.powercut.proofs.FinalPool.{Setting}
use Rattle.powercut.proofs.Logs.{not_valid}
use Rattle.powercut.proofs.StepRunClaim.{ended}
use Rattle.powercut.proofs.Headers.{header-bytes}
use Rattle.powercut.proofs.RunInput.{HeadersKept, Input, clean, good}
use Rattle.powercut.proofs.Resuming.{Resuming, all-recover}
use Rattle.powercut.proofs.PowerCut.{ended-end}
use Rattle.powercut.proofs.Alike.{off-headers}
use Rattle.powercut.proofs.ScribbledRun.{Scribbled, ScribbledInv, Spared, scribbled-again, scribbled-cut, scribbled-done, scribbled-found, scribbled-log as log-kept, scribbled-view, scribbled-work}
use Rattle.powercut.proofs.CommitSpared.{first-cut}

module _ (inp : Input) (l : Log) (b : Bool) where
  abbrev pool : List ℕ
  pool = inp.pool

  abbrev sh : Shape
  sh = shape_in pool

  abbrev es : List Store
  es = entries pool inp.staging inp.ks

  abbrev P : Position → State → Type 0
  P = ScribbledInv sh es pool l b

  -- the pool as overwritten is one that a cut may leave, but for log l, which is lost: a zero seal is no valid log's
  overwritten : (p q : List ℕ) → Spared sh es pool l b p → Overwritten sh l p q → Scribbled sh es pool l b q
  overwritten p q h o = record {
    spared = record {
      counterpart = h.counterpart;
      same = record { size = o.size ∙ h.same.size; same = λ i f. o.outside i f ∙ h.same.same i f };
      after = h.after;
      zero = h.zero;
    };
    bytes = o.bytes;
    lost = ⊎_elim (not_valid sh q (log_at sh l)) (λ v. v) o.lost;
  }

  module _ (c : b ≡ true → Setting sh es pool) where
    front : (f : Position) (s : State) → P f s → HeadersKept inp (view s)
    front f s h =
        let x = (scribbled-view sh es pool l b (good inp) c f s h).spared in
        let k = header-bytes sh (good inp) es pool (clean inp) x.counterpart b c x.after in
        (x.same.size ∙ k.0, λ i o. x.same.same i (off-headers sh l (good inp) i o) ∙ k.1 i o)

    resuming : Resuming inp P
    resuming = record {
      front = front;
      found = scribbled-found sh es pool l b (good inp) c;
      again = scribbled-again sh es pool l b (good inp) c;
      cuts = scribbled-cut sh es pool l b (good inp) c;
      works = scribbled-work sh es pool l b (good inp) c;
      log-kept = log-kept sh es pool l b (good inp) c;
    }

    ends : (w : Remedy) (k : ℕ) (s : State) → P (at_recovery w k) s → k ≡ length (recovery_steps sh (view s) w) → End pool inp.staging inp.ks s b
    ends w k s h e =
        let d = scribbled-done sh es pool l b (good inp) c w k s h e in
        ended-end inp s b (front (at_recovery w k) s h) (ended sh (good inp) es pool (clean inp) s b c d.0 d.1)

-- THE CLAIM
pub scribbled-log : ScribbledLog
unfolding keep
scribbled-log pool staging ks sound typed t s kept r k l q o =
    let inp : Input = record { pool = pool; staging = staging; ks = ks; sound = sound; typed = typed } in
    let b : Bool = reached_in pool staging ks (other l) (Run.cut r k) in
    let f = first-cut inp l r k in
    all-recover inp (P inp l b) (resuming inp l b f.1) _ b (refl, overwritten inp l b _ q f.0 o) (ends inp l b f.1)
