-- A buffer with the place behind the text put into it. Assumes nothing.
use Rattle.std.specs.Prelude.{ℕ, ◌≡◌, List, take}
use Rattle.texts.specs.declared.Text.{Text}
use Rattle.texts.specs.Put.{Put}

-- The bytes of the text that the buffer has.
abbrev pub held : Text → List ℕ
held t = take t.at t.out.now

-- The text, of at most k bytes, is put behind what t has, into the same buffer.
pub record Adds (k : ℕ) (t : Text) (text : List ℕ) (t' : Text) : Type 0 where
  pub put : Put k t.out.now t.at text t'.out.now t'.at
  pub buffer : t'.out.ghost_name ≡ t.out.ghost_name
