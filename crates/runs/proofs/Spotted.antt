-- A run found by its cell, and joined with its free neighbours. Assumes nothing.
use Prim.Native.Nat.{ℕ, ◌+◌, ◌-◌, ◌≤◌, ◌<◌}
use mathlib.Core.Path.{◌≡◌, refl, sym, ap, ap₂, ◌∙◌, subst}
use mathlib.Core.Bool.{Bool, true, false}
use mathlib.Core.Option.{Option, none, some}
use mathlib.Core.List.{List, [], ◌∷◌}
use native.Mathlib.Omega.{arith}
use lib.Dec.{eqb}
use borrow.Author.Tests.{eq-eqb, ne_eqb}
use Rattle.rules.specs.Runs.{Run, Walk, cells, free, is_free, object}
use Rattle.rules.specs.Search.{Place, free_cells, joined, lead, run_at}
use Rattle.runs.specs.Rest.{Meets, Passed, Zoned, rest_of, walk_of, walk_on}
use Rattle.runs.specs.Spotted.{Coming, Joined, Lead, Located, Spotted, Stands, free_of}
use Rattle.std.specs.Prelude.{Option as Found, Some, None}
use Rattle.std.specs.Option.{MatchOption}
use Rattle.std.proofs.lemmas.Bool.{cases_lt}
use Rattle.std.proofs.Common.{inl, inr}
use Rattle.runs.specs.declared.Run.{Run as MetRun}
use Rattle.runs.specs.declared.Spot.{Spot}
use Rattle.runs.specs.declared.Zone.{Zone}
use Rattle.runs.specs.declared.Runs.{Runs}
use Rattle.stage.specs.Seen.{seen_by}
use Rattle.runs.specs.Taken.{runs_on}
use Rattle.runs.proofs.Going.{Took}
use Rattle.runs.proofs.Rest.{walk-broken, walk_end, walk-passed, walk_start}

free_of_lem : (r : Run) (m : ℕ) (f : Bool) → cells r ≡ m → is_free r ≡ f → free_of m f ≡ free_cells r
unfolding free_of
free_of_lem (free n) m f p q = rw (← q, ← p)
free_of_lem (object n t b g) m f p q = rw (← q)

free-le : (m : ℕ) (f : Bool) → free_of m f ≤ m
unfolding free_of
free-le m true = omega arith
free-le m false = omega arith

-- ---- the walk to cell a, which comes to cell c with p free cells right before it

-- whether the zone is unbroken, the run at cell a, and that run joined
abbrev pub Sought : Type 0
Sought = Bool × Option Run × Place

abbrev pub sought : ℕ → ℕ → ℕ → Walk → Sought
sought a p c w = (w.whole, run_at a c w.runs, joined a p c w.runs)

pub sought-step : {v : List ℕ} {from n a c : ℕ} (p : ℕ) {f : Bool} {m : ℕ} {g : Bool} {q : ℕ} → c < a → (d : Passed v from n c f m g) → q ≡ free_of m g → (w : Walk)
    → sought a p c (record { runs = d.that ∷ w.runs; whole = w.whole }) ≡ sought a q (c + m) w
unfolding run_at joined
sought-step {a = a} {c} p {m = m} {g} h d e w =
    let ne : eqb c a ≡ false = ne_eqb c a (λ (x : c ≡ a). omega arith) in
    rw (ne, d.cells_is, sym (e ∙ free_of_lem d.that m g d.cells_is d.free-is))

pub free-low : {v : List ℕ} {from n c : ℕ} {f : Bool} {m : ℕ} {g : Bool} {q : ℕ} → Passed v from n c f m g → q ≡ free_of m g → q ≤ c + m
free-low {m = m} {g} d e = omega (arith, free-le m g)

module _ {v : List ℕ} {from n a : ℕ} where
  pub coming-start : Coming v from n a 0 0 false
  coming-start =
      let w = walk_start v from n in
      record {
        within = omega arith;
        low = omega arith;
        whole = ap (λ (x : Walk). x.whole) w;
        seek = ap (λ (x : Walk). run_at a 0 x.runs) w;
        join = ap (λ (x : Walk). joined a 0 0 x.runs) w;
      }

  -- a run before cell a
  pub coming-step : {p c : ℕ} {f : Bool} {m : ℕ} {g : Bool} {q : ℕ} → Coming v from n a p c f → c < a → Passed v from n c f m g → q ≡ free_of m g → Coming v from n a q (c + m) g
  coming-step {p} {c} {m = m} {g} k h d e =
      let w = sought-step p h d e (walk_on g (rest_of v from n (c + m))) in
      record {
        within = d.within;
        low = omega (arith, free-le m g);
        whole = sym d.whole ∙ k.whole;
        seek = sym (ap (λ (x : Sought). x.1) w) ∙ sym (ap (run_at a c) d.runs) ∙ k.seek;
        join = sym (ap (λ (x : Sought). x.2) w) ∙ sym (ap (joined a p c) d.runs) ∙ k.join;
      }

run_past : (a c : ℕ) (rs : List Run) → a < c → run_at a c rs ≡ none
unfolding run_at
run_past a c [] h = refl
run_past a c (r ∷ rs) h = rw (ne_eqb c a (λ (x : c ≡ a). omega arith)) (run_past a (c + cells r) rs (omega arith))

-- ---- the zone judged whole on the way

some-is : {A : Type 0} {x y : A} → Some x ≡ Some y → x ≡ y
some-is e = cc

pub located-broken : {v : List ℕ} {from n a : ℕ} → (walk_of v from n).whole ≡ false → Located v from n a None
located-broken e = record { broken = λ q. e; whole = λ e. cc; spotted = λ e. cc }

pub located-whole : {v : List ℕ} {from n a : ℕ} {s : Spot} → (walk_of v from n).whole ≡ true → Spotted v from n a s.prior s.run → Located v from n a (Some s)
located-whole {v} {from} {n} {a} q k =
    record { broken = λ e. cc; whole = λ e. q; spotted = λ e. subst (λ (y : Spot). Spotted v from n a y.prior y.run) (some-is e) k }

-- the walk passed cell a by
pub spotted-none : {v : List ℕ} {from n a p c : ℕ} {f : Bool} {q : ℕ} → Coming v from n a p c f → a < c → Spotted v from n a q None
spotted-none {v} {from} {n} {a} {p} {c} {f} k h =
    record {
      cell = λ e. cc;
      absent = λ x. sym k.seek ∙ run_past a c (walk_on f (rest_of v from n c)).runs h;
      present = λ e. cc;
    }

pub spotted-here : {v : List ℕ} {from n a p : ℕ} {f : Bool} {r : MetRun} → r.cell ≡ a → Coming v from n a p a f → Passed v from n a f r.cells r.free → Spotted v from n a p (Some r)
spotted-here {v} {from} {n} {a} {p} {f} {r} w k d =
    record {
      cell = λ e. subst (λ (x : MetRun). x.cell ≡ a) (some-is e) w;
      absent = λ e. cc;
      present = λ e. subst (λ (x : MetRun). Stands v from n a p x.cells x.free) (some-is e) (record { after = f; coming = k; passed = d });
    }

-- the walk comes to cell c with p free cells right before it, and met the run of s at cell a
pub record Locating (v : List ℕ) (from n a p c : ℕ) (after : Bool) (s : Spot) : Type 0 where
  pub ahead : c ≤ a → Coming v from n a p c after
  pub absent : c ≤ a → s.run ≡ None
  pub behind : a < c → Spotted v from n a s.prior s.run

module _ {v : List ℕ} {from n a : ℕ} where
  locating-start : Locating v from n a 0 0 false (record { prior = 0; run = None })
  locating-start = record { ahead = λ h. coming-start; absent = λ h. refl; behind = λ h. absurd (omega arith) }

  pub locating-begin : {z : Zone} {i j : Runs} → i ≡ runs_on z 0 false → j ≡ i → Locating v from n a 0 j.cell j.after (record { prior = 0; run = None })
  locating-begin p q = subst (λ (y : Runs). Locating v from n a 0 y.cell y.after (record { prior = 0; run = None })) (sym (q ∙ p)) locating-start

  locating-here : {p c : ℕ} {f : Bool} {s : Spot} (r : MetRun) (q : ℕ) → Locating v from n a p c f s → Passed v from n c f r.cells r.free → c ≡ a → r.cell ≡ a
      → Locating v from n a q (c + r.cells) r.free (record { prior = p; run = Some r })
  locating-here {p} {f = f} r q k d e w =
      let x = subst (λ (y : ℕ). Coming v from n a p y f) e (k.ahead (omega arith)) in
      let y = subst (λ (y : ℕ). Passed v from n y f r.cells r.free) e d in
      let z = d.some in
      record { ahead = λ h. absurd (omega arith); absent = λ h. absurd (omega arith); behind = λ h. spotted-here w x y }

  module _ {p c : ℕ} {f : Bool} {s : Spot} {m : ℕ} {g : Bool} (k : Locating v from n a p c f s) (d : Passed v from n c f m g) where
    locating-before : {q : ℕ} → c < a → q ≡ free_of m g → Locating v from n a q (c + m) g s
    locating-before h l =
        let x = coming-step (k.ahead (omega arith)) h d l in
        record {
          ahead = λ y. x;
          absent = λ y. k.absent (omega arith);
          behind = λ y. subst (λ (o : Found MetRun). Spotted v from n a s.prior o) (sym (k.absent (omega arith))) (spotted-none x y);
        }

    locating-behind : (q : ℕ) → a < c → Locating v from n a q (c + m) g s
    locating-behind q h = let y = d.some in record { ahead = λ y. absurd (omega arith); absent = λ y. absurd (omega arith); behind = λ y. k.behind h }

    locating-past : {q : ℕ} → (c ≡ a → ⊥) → q ≡ free_of m g → Locating v from n a q (c + m) g s
    locating-past {q} e l = elim (cases_lt c a) [ inl h ↦ locating-before h l | inr h ↦ locating-behind q (omega (arith, e)) ]

module _ {z : Zone} {i t : Runs} {m : MetRun} (k : Took z i m t) {a p : ℕ} {s : Spot} (l : Locating (seen_by z.view) z.from z.cells a p i.cell i.after s) where
  at-run : Locating (seen_by z.view) z.from z.cells a p m.cell i.after s
  at-run = subst (λ (c : ℕ). Locating (seen_by z.view) z.from z.cells a p c i.after s) (sym k.here) l

  behind-run : {q : ℕ} {x y : Spot} → x ≡ y → Locating (seen_by z.view) z.from z.cells a q (m.cell + m.cells) m.free y → Locating (seen_by z.view) z.from z.cells a q t.cell t.after x
  behind-run {q} {x} e y =
      subst (λ (r : Runs). Locating (seen_by z.view) z.from z.cells a q r.cell r.after x) (sym k.left)
      (subst (λ (x : Spot). Locating (seen_by z.view) z.from z.cells a q (m.cell + m.cells) m.free x) (sym e) y)

  pub located-here : (q : ℕ) {x : Spot} → m.cell ≡ a → x ≡ record { prior = p; run = Some m } → Locating (seen_by z.view) z.from z.cells a q t.cell t.after x
  located-here q h e = behind-run e (locating-here m q at-run k.passed h h)

  pub located-past : {q : ℕ} {x : Spot} → (m.cell ≡ a → ⊥) → q ≡ free_of m.cells m.free → x ≡ s → Locating (seen_by z.view) z.from z.cells a q t.cell t.after x
  located-past h f e = behind-run e (locating-past at-run k.passed h f)

pub stands-run : {v : List ℕ} {from n a p m : ℕ} {f : Bool} (s : Stands v from n a p m f) → run_at a 0 (walk_of v from n).runs ≡ some s.passed.that
unfolding run_at
stands-run {a = a} s = sym s.coming.seek ∙ ap (run_at a a) s.passed.runs ∙ rw (eq-eqb a a refl)

-- ---- free neighbours

pub lead-none : {v : List ℕ} {from n c : ℕ} {f : Bool} → Zoned v from n → c ≤ n → n ≤ c → Lead v from n c f 0
lead-none {c = c} {f = f} z k h = record { count = sym (ap (λ (w : Walk). lead w.runs) (walk_end c f z h)); within = omega arith }

lead-broken : {v : List ℕ} {from n c : ℕ} {f : Bool} → Zoned v from n → c < n → Meets v from n c f None → Lead v from n c f 0
lead-broken z h e = record { count = sym (ap (λ (w : Walk). lead w.runs) (walk-broken z h e)); within = omega arith }

lead-some : {v : List ℕ} {from n c : ℕ} {f : Bool} {m : ℕ} {g : Bool} {r : ℕ} → Passed v from n c f m g → r ≡ free_of m g → Lead v from n c f r
lead-some {m = m} {g = g} d e =
    record {
      count = e ∙ free_of_lem d.that m g d.cells_is d.free-is ∙ sym (ap lead d.runs);
      within = omega (arith, free-le m g, d.within);
    }

-- the run that is met there, if one is
pub lead-met : {v : List ℕ} {from n c : ℕ} {f : Bool} {r : ℕ} (o : Found MetRun) → Zoned v from n → c < n → Meets v from n c f o
    → MatchOption o (r ≡ 0) (λ m. r ≡ free_of m.cells m.free) → Lead v from n c f r
lead-met None z h m e = rw e (lead-broken z h m)
lead-met (Some o) z h m e = lead-some (walk-passed z h m) e

-- a run stands at cell a
pub there : {v : List ℕ} {from n a p : ℕ} {o : Found MetRun} → Spotted v from n a p o → (run_at a 0 (walk_of v from n).runs ≡ none → ⊥) → o ≡ None → ⊥
there s k e = k (s.absent e)

pub joined_is : {v : List ℕ} {from n a p m : ℕ} {f : Bool} {b : ℕ} → Stands v from n a p m f → Lead v from n (a + m) f b → Joined v from n a (a - p) (p + (m + b))
unfolding joined
joined_is {v} {from} {n} {a} {p} {m} {f} {b} t e =
    let j : joined a 0 0 (walk_of v from n).runs ≡ record { cell = a - p; count = p + (cells t.passed.that + lead (walk_on f (rest_of v from n (a + m))).runs) } =
    sym t.coming.join ∙ ap (joined a p a) t.passed.runs ∙ rw (eq-eqb a a refl) in
    record {
      cell-is = sym (ap (λ (x : Place). x.cell) j);
      count-is = sym (ap (λ (x : Place). x.count) j ∙ ap₂ (λ (x y : ℕ). p + (x + y)) t.passed.cells_is (sym e.count));
      within = omega (arith, e.within, t.coming.low);
    }
