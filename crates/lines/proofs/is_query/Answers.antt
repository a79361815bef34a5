-- `lines::is_query` meets its contract. Assumes nothing.
use mathlib.Core.Path.{◌≡◌, refl, ◌∙◌}
use mathlib.Core.Bool.{◌||◌}
use mathlib.Core.List.{List}
use Prim.Native.Nat.{ℕ}
use Rattle.rules.specs.Words.{ascii}
use Rattle.lines.specs.Line.{is_query, spells}
use Rattle.lines.proofs.Words.{or_assoc, or_else, or_then, spells-same}
use Rattle.lines.proofs.is_query.Goals as goal
use Rattle.lines.proofs.is_query.Goals.{then-eq_ignore_ascii_case, else-eq_ignore_ascii_case, then-eq_ignore_ascii_case-2, else-eq_ignore_ascii_case-2}

pub returns-then-eq_ignore_ascii_case-3 : goal.returns-then-eq_ignore_ascii_case-3
unfolding is_query
returns-then-eq_ignore_ascii_case-3 c =
    let l : List ℕ = c.args.line.now in
    let a = spells (ascii "SYST:ERR?") l in
    let b = spells (ascii "SYST:ERROR?") l in
    let d = spells (ascii "SYSTEM:ERR?") l in
    let e = spells (ascii "SYSTEM:ERROR?") l in
    let same = spells-same (ascii "SYST:ERR?") l c.eq_ignore_ascii_case.result refl c.eq_ignore_ascii_case.ensures.test in
    let two : c.if-eq_ignore_ascii_case.value ≡ (a || b) =
    elim c.if-eq_ignore_ascii_case.branch [
      | then-eq_ignore_ascii_case w ↦ or_then b w.value-is w.if-eq_ignore_ascii_case.true same
      | else-eq_ignore_ascii_case w ↦
          let x = w.eq_ignore_ascii_case-else-eq_ignore_ascii_case in
          or_else w.value-is w.if-eq_ignore_ascii_case.false same (spells-same (ascii "SYST:ERROR?") l x.result refl x.ensures.test)
    ] in
    let three : c.if-eq_ignore_ascii_case-2.value ≡ ((a || b) || d) =
    elim c.if-eq_ignore_ascii_case-2.branch [
      | then-eq_ignore_ascii_case-2 w ↦ or_then d w.value-is w.if-eq_ignore_ascii_case-2.true two
      | else-eq_ignore_ascii_case-2 w ↦
          let x = w.eq_ignore_ascii_case-else-eq_ignore_ascii_case-2 in
          or_else w.value-is w.if-eq_ignore_ascii_case-2.false two (spells-same (ascii "SYSTEM:ERR?") l x.result refl x.ensures.test)
    ] in
    or_then e refl c.if-eq_ignore_ascii_case-3.true three ∙ or_assoc (a || b) d e ∙ or_assoc a b (d || e)

pub returns-else-eq_ignore_ascii_case-3 : goal.returns-else-eq_ignore_ascii_case-3
unfolding is_query
returns-else-eq_ignore_ascii_case-3 c =
    let l : List ℕ = c.args.line.now in
    let a = spells (ascii "SYST:ERR?") l in
    let b = spells (ascii "SYST:ERROR?") l in
    let d = spells (ascii "SYSTEM:ERR?") l in
    let e = spells (ascii "SYSTEM:ERROR?") l in
    let same = spells-same (ascii "SYST:ERR?") l c.eq_ignore_ascii_case.result refl c.eq_ignore_ascii_case.ensures.test in
    let two : c.if-eq_ignore_ascii_case.value ≡ (a || b) =
    elim c.if-eq_ignore_ascii_case.branch [
      | then-eq_ignore_ascii_case w ↦ or_then b w.value-is w.if-eq_ignore_ascii_case.true same
      | else-eq_ignore_ascii_case w ↦
          let x = w.eq_ignore_ascii_case-else-eq_ignore_ascii_case in
          or_else w.value-is w.if-eq_ignore_ascii_case.false same (spells-same (ascii "SYST:ERROR?") l x.result refl x.ensures.test)
    ] in
    let three : c.if-eq_ignore_ascii_case-2.value ≡ ((a || b) || d) =
    elim c.if-eq_ignore_ascii_case-2.branch [
      | then-eq_ignore_ascii_case-2 w ↦ or_then d w.value-is w.if-eq_ignore_ascii_case-2.true two
      | else-eq_ignore_ascii_case-2 w ↦
          let x = w.eq_ignore_ascii_case-else-eq_ignore_ascii_case-2 in
          or_else w.value-is w.if-eq_ignore_ascii_case-2.false two (spells-same (ascii "SYSTEM:ERR?") l x.result refl x.ensures.test)
    ] in
    let last = c.eq_ignore_ascii_case-else-eq_ignore_ascii_case-3 in
    or_else refl c.if-eq_ignore_ascii_case-3.false three (spells-same (ascii "SYSTEM:ERROR?") l last.result refl last.ensures.test) ∙ or_assoc (a || b) d e ∙ or_assoc a b (d || e)
