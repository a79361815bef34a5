-- The loop over a zone's runs, some runs further on. Assumes nothing.
use Prim.Native.Nat.{ℕ, ◌+◌, ◌≤◌, ◌<◌}
use mathlib.Core.Path.{◌≡◌, refl, sym, ap, ◌∙◌, subst}
use mathlib.Core.Bool.{Bool, true, false}
use mathlib.Core.List.{List, [], ◌∷◌}
use denote.Param.Members.{Called, Mut}
use Rattle.std.specs.Prelude.{Option, Some, None, Ok, Err}
use Rattle.std.specs.Iterator.{ChecksAll, Yields}
use Rattle.std.specs.List.{FoldsTo}
use Rattle.std.specs.Option.{MatchOption, is_some, ok_or}
use Rattle.rules.specs.Runs.{Walk}
use Rattle.stage.specs.Seen.{seen_by}
use Rattle.runs.specs.Rest.{Meets, Passed, rest_of, walk_on}
use Rattle.runs.specs.Taken.{Gives, Taken, runs_on, walk_by}
use Rattle.runs.specs.declared.Run.{Run as MetRun}
use Rattle.runs.specs.declared.Zone.{Zone}
use Rattle.runs.specs.declared.Runs.{Runs}
use Rattle.runs.proofs.Rest.{meets-cell, zoned-seen}
use Rattle.runs.proofs.Walking.{Walking, walking-broken, walking-end, walking-passed, walking_start, walking-step}

-- The loop has the runs i before it. F c w: its result with what it gathered before, where w is the walk from cell c on.
pub record Going {R : Type 0} (F : ℕ → Walk → R) (result : R) (z : Zone) (i : Runs) : Type 0 where
  pub zone : i.zone ≡ z
  pub walking : Walking (F i.cell) result (seen_by z.view) z.from z.cells i.cell i.after

-- Run m was taken from i, and t is left.
pub record Took (z : Zone) (i : Runs) (m : MetRun) (t : Runs) : Type 0 where
  pub here : m.cell ≡ i.cell
  pub left : t ≡ runs_on z (m.cell + m.cells) m.free
  pub passed : Passed (seen_by z.view) z.from z.cells m.cell i.after m.cells m.free

module _ {R : Type 0} {F : ℕ → Walk → R} {result : R} {z : Zone} {i j : Runs} where
  pub going_start : i ≡ runs_on z 0 false → j ≡ i → F 0 (walk_by z) ≡ result → Going F result z j
  going_start p q e =
      let k : Going F result z (runs_on z 0 false) = record { zone = refl; walking = walking_start (zoned-seen z) e } in
      subst (λ (y : Runs). Going F result z y) (sym (q ∙ p)) k

  pub going_from : (c : ℕ) (a : Bool) → i ≡ runs_on z c a → j ≡ i → c ≤ z.cells → F c (walk_on a (rest_of (seen_by z.view) z.from z.cells c)) ≡ result → Going F result z j
  going_from c a p q h e =
      let k : Going F result z (runs_on z c a) = record { zone = refl; walking = record { zoned = zoned-seen z; within = h; rest = e } } in
      subst (λ (y : Runs). Going F result z y) (sym (q ∙ p)) k

module _ {R : Type 0} {F : ℕ → Walk → R} {result : R} {z : Zone} {i : Runs} (g : Going F result z i) where
  pub going-below : {t : Runs} {o : Option MetRun} → Taken i o t → i.cell < z.cells
  going-below k = subst (λ (y : Zone). i.cell < y.cells) g.zone k.below

  taken-meets : {t : Runs} {o : Option MetRun} → Taken i o t → Meets (seen_by z.view) z.from z.cells i.cell i.after o
  taken-meets {o = o} k = subst (λ (y : Zone). Meets (seen_by y.view) y.from y.cells i.cell i.after o) g.zone k.meets

  took : {t : Runs} {m : MetRun} → Taken i (Some m) t → Took z i m t
  took {m = m} k =
      let e = taken-meets k in
      let h = meets-cell e in
      record {
        here = h;
        left = k.left ∙ ap (λ (y : Zone). runs_on y (i.cell + m.cells) m.free) g.zone ∙ ap (λ (c : ℕ). runs_on z (c + m.cells) m.free) (sym h);
        passed = subst (λ (c : ℕ). Passed (seen_by z.view) z.from z.cells c i.after m.cells m.free) (sym h) (walking-passed g.walking (going-below k) e);
      }

  -- the run that is met
  pub going-took : {t : Runs} {o : Option MetRun} {m : MetRun} → Taken i o t → o ≡ Some m → Took z i m t
  going-took {t} k e = took (subst (λ (y : Option MetRun). Taken i y t) e k)

  pub going-step : {t : Runs} {G : ℕ → Walk → R} {m : MetRun} (k : Took z i m t) → ((w : Walk) → F m.cell (record { runs = k.passed.that ∷ w.runs; whole = w.whole }) ≡ G (m.cell + m.cells) w)
      → Going G result z t
  going-step {G = G} {m} k e =
      let w = subst (λ (c : ℕ). Walking (F c) result (seen_by z.view) z.from z.cells c i.after) (sym k.here) g.walking in
      subst (λ (y : Runs). Going G result z y) (sym k.left) (record { zone = refl; walking = walking-step w k.passed e })

  -- no run follows
  pub going-broken : {t : Runs} {o : Option MetRun} → Taken i o t → o ≡ None → F i.cell (record { runs = []; whole = false }) ≡ result
  going-broken {t} k e =
      let y = subst (λ (y : Option MetRun). Taken i y t) e k in walking-broken g.walking (going-below y) (taken-meets y)

  pub going-past : i.zone.cells ≤ i.cell → z.cells ≤ i.cell
  going-past h = subst (λ (y : Zone). y.cells ≤ i.cell) g.zone h

  pub going-end : i.zone.cells ≤ i.cell → F i.cell (record { runs = []; whole = true }) ≡ result
  going-end h = walking-end g.walking (going-past h)

-- ---- an option by its test

pub none-is : {A : Type 0} (o : Option A) → is_some o ≡ false → o ≡ None
none-is None e = refl
none-is (Some a) e = cc

pub some_is : {A : Type 0} (o : Option A) → is_some o ≡ true → (a : A) × (o ≡ Some a)
some_is None e = cc
some_is (Some a) e = (a, refl)

-- ---- all runs are met: the zone is unbroken from here on

module _ {C : Type 0} (f : Mut C (Option MetRun × Unit {0}) Bool) (k : C) (told : (o : Option MetRun) (b : Bool) (j : C) → Called f k (o, tt) b j → (j ≡ k) × (b ≡ is_some o)) {z : Zone} {result : Bool} where
  going-all : (os : List (Option MetRun)) (i t : Runs) (c d : C) → c ≡ k → Going (λ n w. w.whole) result z i → Yields Gives i os t → FoldsTo (λ p o q. Called f p (o, tt) true q) c os d
      → (d ≡ k) × Going (λ n w. w.whole) result z t
  going-all [] i t c d e g y h = (sym h ∙ e, subst (λ (j : Runs). Going (λ n w. w.whole) result z j) y g)
  going-all (o ∷ os) i t c d e g y h =
      let q = told o true h.0 (subst (λ (p : C). Called f p (o, tt) true h.0) e h.1) in
      let m = some_is o (sym q.1) in
      going-all os y.0 t h.0 d q.0 (going-step g (going-took g y.1 m.1) (λ w. refl)) y.2 h.2

  ended : (o : Option (Option MetRun)) (i t : Runs) (c : C) (r : Bool) → c ≡ k → Going (λ n w. w.whole) result z i → Gives i o t
      → MatchOption o (r ≡ true) (λ x. (r ≡ false) × ((j : C) × Called f c (x, tt) false j)) → r ≡ result
  ended None i t c r e g y m = m ∙ going-end g y
  ended (Some o) i t c r e g y m =
      let q = told o false m.1.0 (subst (λ (p : C). Called f p (o, tt) false m.1.0) e m.1.1) in
      m.0 ∙ going-broken g y (none-is o (sym q.1))

  pub whole-all : (i u : Runs) (r : Bool) → Going (λ n w. w.whole) result z i → ChecksAll Gives f i k r u → r ≡ result
  whole-all i u r g a =
      let n = going-all a.0 i a.3.0 k a.2 refl g a.3.1 a.4 in ended a.1 a.3.0 u a.2 r n.0 n.1 a.3.2 a.5

-- the cell behind the run
pub going-cell : {z : Zone} {i t : Runs} {m : MetRun} → Took z i m t → t.cell ≡ i.cell + m.cells
going-cell {m = m} k = ap (λ (y : Runs). y.cell) k.left ∙ ap (λ (c : ℕ). c + m.cells) k.here

-- the loop is left: of what is left of the walk only counts whether it is whole
pub going-judged : {R : Type 0} (H : Bool → R) {result : R} {z : Zone} {i : Runs} {c : ℕ} {f : Bool} → Going (λ c w. H w.whole) result z i → i ≡ runs_on z c f → {x b : Bool}
    → x ≡ (walk_on f (rest_of (seen_by z.view) z.from z.cells c)).whole → x ≡ b → H b ≡ result
going-judged H {result} {z} {i} {c} {f} g l e t =
    let k : Going (λ c w. H w.whole) result z (runs_on z c f) = subst (λ (y : Runs). Going (λ c w. H w.whole) result z y) l g in ap H (sym t ∙ e) ∙ k.walking.rest

-- ---- an option by what `ok_or` makes of it

pub ok-some : {A E : Type 0} (o : Option A) (d : E) {a : A} → Ok a ≡ ok_or o d → o ≡ Some a
ok-some None d e = cc
ok-some (Some b) d e = cc

pub err-none : {A E : Type 0} (o : Option A) {d e : E} → Err e ≡ ok_or o d → (o ≡ None) × (e ≡ d)
err-none None e = (refl, cc)
err-none (Some b) e = (cc, cc)

module _ {R : Type 0} {F : ℕ → Walk → R} {result : R} {z : Zone} {i t : Runs} (g : Going F result z i) {E : Type 0} (d : E) {o : Option MetRun} (k : Taken i o t) where
  pub going-ok : {m : MetRun} → Ok m ≡ ok_or o d → Took z i m t
  going-ok e = going-took g k (ok-some o d e)

  pub going-err : {e : E} → Err e ≡ ok_or o d → (F i.cell (record { runs = []; whole = false }) ≡ result) × (e ≡ d)
  going-err e = let p = err-none o e in (going-broken g k p.0, p.1)
