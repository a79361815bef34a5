-- What a command line hands back goes out as it is, in 8-byte numbers. Assumes nothing.
use Prim.Native.Nat.{ℕ}
use mathlib.Core.Path.{◌≡◌, sym, ap, ◌∙◌, subst}
use mathlib.Core.List.{List}
use Rattle.rules.specs.Answer.{is_refused}
use Rattle.rules.specs.Look.{Look, part, refused}
use Rattle.rules.proofs.Bool.{split}
use Rattle.setups.specs.Setups.{recalled, saved}
use Rattle.lines.specs.Line.{Command, fault, nothing, query, reading, recall, save}
use Rattle.errors.specs.Errors as Errors
use Rattle.errors.specs.Meaning.{queue_out}
use Rattle.errors.specs.declared.Queue.{Queue}
use Rattle.commands.specs.Obey as Obey
use Rattle.commands.specs.Obey.{after_recall, after_save, answered, carried_out, failed, idle, obeyed}
use Rattle.commands.specs.Meaning.{Handed, handed}
use Rattle.pool_c.specs.declared.command.Errors.{Errors}
use Rattle.pool_c.specs.declared.command.Obeyed.{Obeyed}
use Rattle.pool_c.specs.Meaning.{DoneFits, done_out, obeyed_out}
use Rattle.pool_c.proofs.Fits.{save-fits}

pub obeyed-fits : (l setup : List ℕ) (e : Errors.Queue) (p st out : List ℕ) → DoneFits (obeyed l setup e p st out).done
unfolding obeyed
obeyed-fits l setup e p st out = command-fits (reading l)
  where
    recall-fits : (x : Look) → DoneFits (after_recall e st out x).done
    recall-fits (part at n) = unfold after_recall in tt
    recall-fits (refused n) = unfold after_recall failed in tt

    command-fits : (k : Command) → DoneFits (carried_out k setup e p st out).done
    command-fits nothing = unfold carried_out idle in tt
    command-fits (save n) = unfold carried_out after_save failed in split (is_refused (saved p st n setup).answer) (λ f. rw f tt) (λ f. rw f (save-fits p st n setup))
    command-fits (recall n) = unfold carried_out in recall-fits (recalled p n)
    command-fits query = unfold carried_out answered in tt
    command-fits (fault n) = unfold carried_out failed in tt

-- the queue, as it stands in the record for C
abbrev errors_of : Queue → Errors
errors_of q = record { count = q.count; errors = q.errors }

module _ (q : Queue) (d : Obey.Done) (st out : List ℕ) (x : Obey.Obeyed) (h : (q, d, st, out) ≡ handed x) where
  pub handed-fits : DoneFits x.done → DoneFits d
  handed-fits f = subst DoneFits (sym (ap (λ (y : Handed). y.1) h)) f

  pub handed_out : {e : Errors} {r : Obeyed} → e ≡ errors_of q → r ≡ done_out e d → (r, st, out) ≡ obeyed_out x
  unfolding queue_out
  handed_out i e =
      ap (λ (z : Obeyed). (z, st, out)) (e ∙ ap (λ (z : Errors). done_out z d) i) ∙ ap (λ (y : Handed). (done_out (errors_of y.0) y.1, y.2, y.3)) h
