-- Text added piece by piece. Assumes nothing.
use Prim.Native.Nat.{ℕ, ◌+◌, ◌≤◌}
use mathlib.Core.Path.{◌≡◌, refl, sym, ◌∙◌}
use mathlib.Core.List.{List, [], ◌++◌}
use native.Mathlib.Nat.{zero-add}
use lib.ListN.{length}
use lib.Seq.{sets}
use Rattle.texts.specs.declared.Text.{Text}
use Rattle.texts.specs.Adds.{Adds}
use Rattle.texts.proofs.Put.{Putting, put_as, put_then, putting-end, putting-start, putting-step}

-- a text, then another one
pub adds_then : {j k : ℕ} {t : Text} {a : List ℕ} {t' : Text} {b : List ℕ} {t'' : Text} → Adds j t a t' → Adds k t' b t'' → Adds (j + k) t (a ++ b) t''
adds_then p q = record { put = put_then p.put q.put; buffer = q.buffer ∙ p.buffer }

pub adds_as : {j k : ℕ} {t : Text} {a b : List ℕ} {t' : Text} → Adds j t a t' → a ≡ b → j ≤ k → Adds k t b t'
adds_as p e h = record { put = put_as p.put e h; buffer = p.buffer }

-- of a whole text for t, the rest is to be added to t'
pub record Adding (t : Text) (whole : List ℕ) (t' : Text) (rest : List ℕ) : Type 0 where
  pub putting : Putting t.out.now t.at whole t'.out.now t'.at rest
  pub buffer : t'.out.ghost_name ≡ t.out.ghost_name

pub adding-start : (t : Text) (whole : List ℕ) → Adding t whole t whole
adding-start t whole = record { putting = putting-start _ _ whole; buffer = refl }

pub adding-step : {k : ℕ} {t : Text} {whole : List ℕ} {t' : Text} {a b : List ℕ} {t'' : Text} → Adding t whole t' (a ++ b) → Adds k t' a t'' → Adding t whole t'' b
adding-step f p = record { putting = putting-step f.putting p.put; buffer = p.buffer ∙ f.buffer }

pub adding-end : {k : ℕ} {t : Text} {whole : List ℕ} {t' : Text} → Adding t whole t' [] → t'.at ≤ t.at + k → Adds k t whole t'
adding-end f h = record { put = putting-end f.putting h; buffer = f.buffer }

-- a text that was put into a buffer from its front: what its length is, and what the buffer holds
pub put_whole : {k : ℕ} {l : List ℕ} {g : ℕ} {t t' : Text} {a b l' : List ℕ} {r : ℕ} → t.out.now ≡ l → t.at ≡ 0 → t.out.ghost_name ≡ g → Adds k t a t' → a ≡ b → r ≡ t'.at
    → (g ≡ t'.out.ghost_name → l' ≡ t'.out.now) → (r ≡ length b) × (l' ≡ sets l 0 b)
put_whole s p g q e n last =
    (n ∙ q.put.ends ∙ rw (p, e) (zero-add _), last (sym (q.buffer ∙ g)) ∙ q.put.stored ∙ rw (s, p, e))
