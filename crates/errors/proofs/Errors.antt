-- Laws of the queue of errors: it stays fit, and hands the errors out in order (`queue-order`). Assumes nothing.
use Prim.Native.Nat.{ℕ, zero, suc, ◌-◌, ◌≤◌, ◌<◌}
use mathlib.Core.Path.{◌≡◌, refl, sym, ap, ◌∙◌, subst}
use mathlib.Core.Bool.{Bool, true, false, cond, ◌&&◌, ◌||◌, and-false}
use mathlib.Core.List.{List, [], ◌∷◌, ◌++◌, append-nil}
use native.Mathlib.Nat.{min-le_left, sub-zero, suc-sub-suc, zero-sub}
use native.Mathlib.Omega.{arith}
use lib.ListN.{length, replicate, take, length-append, length-take}
use lib.Seq.{append_snoc, length-take-le, take-append-le, take_at, take-nil}
use lib.Dec.{eqb, leb, ltb}
use borrow.Author.Tests.{eqb-true, leb-true, le-leb, lt-leb, le-ltb, lt-ltb, ltb-false, ltb-true}
use Rattle.rules.specs.Scan.{decimal, decimal_to}
use Rattle.rules.proofs.Bool.{and-join, and_split, split}
use Rattle.std.specs.List.{list_all}
use Rattle.std.specs.Prelude.{IfOk, is_ok, Result, Ok, Err}
use Rattle.std.specs.Result.{result_ok}
use Rattle.errors.specs.Number.{number_in, number_of}
use Rattle.errors.specs.declared.Error.{Error}
use Rattle.errors.specs.declared.Error.TheVariants.{DataType, Execution, MissingParameter, OutOfRange, QueueOverflow, UndefinedHeader}
use Rattle.errors.specs.Errors.{Queue, QueueOrder, all_errors, asked, behind_oldest, entered, entered_all, fit, is_error, judged, line, oldest, text}

-- ---- one error

or_elim : {A : Type 0} (a b : Bool) → (a ≡ true → A) → (b ≡ true → A) → (a || b) ≡ true → A
or_elim true b f g h = f refl
or_elim false b f g h = g h

-- what holds of each of the six holds of every error
pub each-error : (P : ℕ → Type 0) → P 104 → P 109 → P 113 → P 200 → P 222 → P 350 → (e : ℕ) → is_error e ≡ true → P e
unfolding is_error
each-error P p q r s t u e =
    or_elim _ _ (at 104 p) (or_elim _ _ (at 109 q) (or_elim _ _ (at 113 r) (or_elim _ _ (at 200 s) (or_elim _ _ (at 222 t) (at 350 u)))))
  where
    at : (k : ℕ) → P k → eqb e k ≡ true → P e
    at k x h = subst P (sym (eqb-true e k h)) x

line-short : (e : ℕ) → is_error e ≡ true → length (line e) ≤ 25
unfolding line is_error text decimal decimal_to
line-short = each-error (λ e. length (line e) ≤ 25) (omega arith) (omega arith) (omega arith) (omega arith) (omega arith) (omega arith)

-- the number of one of the six
pub number-error : (e : Error) → is_error (number_of e) ≡ true
unfolding is_error
number-error DataType = refl
number-error MissingParameter = refl
number-error UndefinedHeader = refl
number-error Execution = refl
number-error OutOfRange = refl
number-error QueueOverflow = refl

pub number-short : (e : Error) → length (line (number_of e)) ≤ 25
number-short e = line-short (number_of e) (number-error e)

pub number-known : {E : Type 0} (r : Result Error E) (e : ℕ) → (is_ok r ≡ is_error e) × IfOk r (λ x. number_of x ≡ e) → is_error e ≡ true → number_in (result_ok r) ≡ e
number-known (Ok x) e h t = h.1
number-known (Err x) e h t = cc (h.0)

-- ---- fit queues

pub all_errors-list_all : (q : Queue) → all_errors q ≡ list_all is_error q
unfolding all_errors
all_errors-list_all [] = refl
all_errors-list_all (e ∷ q) = rw (all_errors-list_all q)

pub all_cons : (e : ℕ) (q : Queue) → is_error e ≡ true → all_errors q ≡ true → all_errors (e ∷ q) ≡ true
unfolding all_errors
all_cons e q = and-join (is_error e) (all_errors q)

pub all_first : (e : ℕ) (q : Queue) → all_errors (e ∷ q) ≡ true → (is_error e ≡ true) × (all_errors q ≡ true)
unfolding all_errors
all_first e q = and_split (is_error e) (all_errors q)

pub all_append : (q r : Queue) → all_errors q ≡ true → all_errors r ≡ true → all_errors (q ++ r) ≡ true
all_append [] r a b = b
all_append (e ∷ q) r a b = let s = all_first e q a in all_cons e (q ++ r) s.0 (all_append q r s.1 b)

all_take : (n : ℕ) (q : Queue) → all_errors q ≡ true → all_errors (take n q) ≡ true
unfolding all_errors
all_take zero q a = refl
all_take (suc n) [] a = refl
all_take (suc n) (e ∷ q) a = let s = all_first e q a in all_cons e (take n q) s.0 (all_take n q s.1)

take-most : (n : ℕ) (l : List ℕ) → length (take n l) ≤ n
take-most n l = rw (length-take n l) (min-le_left n (length l))

pub fit-split : (q : Queue) → fit q ≡ true → (length q ≤ 10) × (all_errors q ≡ true)
unfolding fit
fit-split q f = let s = and_split (leb (length q) 10) (all_errors q) f in (leb-true _ _ s.0, s.1)

pub fit-join : (q : Queue) → length q ≤ 10 → all_errors q ≡ true → fit q ≡ true
unfolding fit
fit-join q h = and-join (leb (length q) 10) (all_errors q) (le-leb _ _ h)

-- ---- a queue handed in

pub judged-fit : (n : ℕ) (places : List ℕ) → fit (judged n places) ≡ true
unfolding judged all_errors
judged-fit n places =
    split (leb n 10 && all_errors (take n places))
    (λ h. let s = and_split (leb n 10) (all_errors (take n places)) h in rw h (fit-join (take n places) (omega (arith, leb-true n 10 s.0, take-most n places)) s.1))
    (λ h. rw h (fit-join [] (omega arith) refl))

pub many-judged : (n : ℕ) (places : List ℕ) → 10 < n → judged n places ≡ []
unfolding judged
many-judged n places h = rw (lt-leb n 10 h)

pub bad-judged : (n : ℕ) (places : List ℕ) → all_errors (take n places) ≡ false → judged n places ≡ []
unfolding judged
bad-judged n places b = rw (b, and-false (leb n 10))

pub fit-judged : (n : ℕ) (places : List ℕ) → n ≤ length places → fit (take n places) ≡ true → judged n places ≡ take n places
unfolding judged
fit-judged n places h f = let s = fit-split (take n places) f in rw (le-leb n 10 (omega (arith, length-take-le n places h)), s.1)

-- ---- a further error

pub entered-room : (e : ℕ) (q : Queue) → length q < 10 → entered e q ≡ q ++ (e ∷ [])
unfolding entered
entered-room e q h = rw (lt-ltb (length q) 10 h)

pub entered-full : (e : ℕ) (q : Queue) → 10 ≤ length q → entered e q ≡ take 9 q ++ (350 ∷ [])
unfolding entered
entered-full e q h = rw (le-ltb (length q) 10 h)

pub entered-fit : (e : ℕ) (q : Queue) → is_error e ≡ true → fit q ≡ true → fit (entered e q) ≡ true
unfolding all_errors is_error
entered-fit e q h f =
    let s = fit-split q f in
    split (ltb (length q) 10)
    (λ t.
    let r = ltb-true (length q) 10 t in
    rw (entered-room e q r) (fit-join (q ++ (e ∷ [])) (omega (arith, length-append q (e ∷ []))) (all_append q (e ∷ []) s.1 (all_cons e [] h refl))))
    (λ t.
    rw (entered-full e q (ltb-false (length q) 10 t))
    (fit-join (take 9 q ++ (350 ∷ [])) (omega (arith, take-most 9 q, length-append (take 9 q) (350 ∷ []))) (all_append (take 9 q) (350 ∷ []) (all_take 9 q s.1) refl)))

-- nine errors and the overflow stay, whatever comes
overflow-stays : (es q : List ℕ) → length q ≡ 9 → entered_all es (q ++ (350 ∷ [])) ≡ q ++ (350 ∷ [])
unfolding entered_all
overflow-stays [] q h = refl
overflow-stays (e ∷ es) q h =
    rw (entered-full e (q ++ (350 ∷ [])) (omega (arith, length-append q (350 ∷ []))), take_at q (350 ∷ []) 9 h) (overflow-stays es q h)

entered_all_lem : (es q : List ℕ) → length q ≤ 10 → entered_all es q ≡ cond (leb (length (q ++ es)) 10) (q ++ es) (take 9 (q ++ es) ++ (350 ∷ []))
unfolding entered_all
entered_all_lem [] q h = rw (append-nil q, le-leb (length q) 10 h)
entered_all_lem (e ∷ es) q h =
    split (ltb (length q) 10)
    (λ t.
    let r = ltb-true (length q) 10 t in
    rw (entered-room e q r) (rw append_snoc at (entered_all_lem es (q ++ (e ∷ [])) (omega (arith, length-append q (e ∷ []))))))
    (λ t.
    let r = ltb-false (length q) 10 t in
    rw (entered-full e q r, lt-leb (length (q ++ (e ∷ es))) 10 (omega (arith, length-append q (e ∷ es))), take-append-le 9 q (e ∷ es) (omega arith))
    (overflow-stays es (take 9 q) (length-take-le 9 q (omega arith))))

-- ---- queries

pub behind-fit : (q : Queue) → fit q ≡ true → fit (behind_oldest q) ≡ true
unfolding behind_oldest
behind-fit [] f = f
behind-fit (e ∷ q) f = let s = fit-split (e ∷ q) f in fit-join q (omega arith) (all_first e q s.1).1

asked-take : (k : ℕ) (q : Queue) → asked k q ≡ take k q ++ replicate (k - length q) 0
unfolding asked oldest behind_oldest
asked-take zero q = rw (zero-sub (length q))
asked-take (suc k) [] = rw (sub-zero (suc k)) (ap (λ (l : List ℕ). 0 ∷ l) (asked-take k [] ∙ rw (take-nil k, sub-zero k)))
asked-take (suc k) (e ∷ q) = ap (λ (l : List ℕ). e ∷ l) (asked-take k q ∙ rw (suc-sub-suc k (length q)))

oldest-short : (q : Queue) → fit q ≡ true → length (line (oldest q)) ≤ 25
unfolding line oldest
oldest-short [] f = omega arith
oldest-short (e ∷ q) f = line-short e (all_first e q (fit-split (e ∷ q) f).1).0

-- THE QUEUE
pub queue-order : QueueOrder
queue-order =
    record {
      judges = judged-fit;
      fits = fit-judged;
      enters = entered-fit;
      takes = behind-fit;
      holds = λ es. entered_all_lem es [] (omega arith);
      asks = asked-take;
      short = oldest-short;
    }
