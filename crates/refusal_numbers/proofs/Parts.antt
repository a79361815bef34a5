-- THE PARTS OF THE CALLS REFUSE WITH LISTED NUMBERS ALONE, proved: `parts-refuse`. Assumes nothing.
use Prim.Native.Nat.{ℕ, zero, suc}
use mathlib.Core.Path.{◌≡◌, refl}
use mathlib.Core.Bool.{true}
use Rattle.std.proofs.lemmas.Bool.{cond_both}
use mathlib.Core.Option.{Option, none, some}
use mathlib.Core.List.{List, [], ◌∷◌}
use Rattle.refusals.specs.Listed.{is_listed}
use Rattle.rules.specs.Shape.{Shape}
use Rattle.rules.specs.Header.{in_range, shape_in}
use Rattle.rules.specs.Search.{Place}
use Rattle.rules.specs.Zones.{object_tests, walk_in}
use Rattle.rules.specs.Staging.{Store}
use Rattle.rules.specs.Answer.{Answer, refused}
use Rattle.rules.specs.Look.{conclude_look}
use Rattle.rules.specs.Look as Looking
use Rattle.rules.specs.Tag as Tagging
use Rattle.rules.specs.Tag.{conclude_look_up, found}
use Rattle.rules.specs.Plan.{Call, Fit, Plan, allocate, failed, fit_in, fit_test, fitted, plan, release, search, write}
use Rattle.rules.specs.Calls.{live_tests, record_tests}
use Rattle.layout.specs.Meaning as Checking
use Rattle.layout.specs.Meaning.{answer, checked, good, opened}
use Rattle.zones.specs.Body.{look_in}
use Rattle.tags.specs.Found.{look_up_in}
use Rattle.stage.specs.View.{entries_of, seen}
use Rattle.answers.specs.Planned.{conclude_staged, many_test, planned}
use Rattle.refusal_numbers.specs.Listed.{ListedNumber, PartsRefuse}
use Rattle.refusal_numbers.proofs.Numbers.{AllListed, first-listed, listed-join}
use Rattle.refusal_numbers.proofs.Tests.{live-listed, object-listed, open-listed, read-listed, record-listed, run-listed}

-- ---- a shape

checks-listed : (s : Shape) → ListedNumber Checking.refused (checked s)
unfolding checked is_listed
checks-listed s =
    cond_both (in_range s) (good s) (Checking.refused 1) (ListedNumber Checking.refused) (λ t n e. cc) (λ f n e. let h : is_listed 1 ≡ true = refl in cc)

answer-listed : (o : Option ℕ) (s : Shape) → ListedNumber some o → ListedNumber Checking.refused (answer o s)
unfolding answer
answer-listed none s h n e = cc
answer-listed (some m) s h n e = h n cc

opens-listed : (p : List ℕ) → ListedNumber Checking.refused (opened p)
unfolding opened
opens-listed p = answer-listed _ (shape_in p) (first-listed _ (open-listed p))

-- ---- a look, and a look-up

pub look-listed : (o : Option ℕ) (at n : ℕ) → ListedNumber some o → ListedNumber Looking.refused (conclude_look o at n)
unfolding conclude_look
look-listed none at n h m e = cc
look-listed (some k) at n h m e = h m cc

pub up-listed : (o x : Option ℕ) → ListedNumber some o → ListedNumber Tagging.refused (conclude_look_up o (found x))
unfolding conclude_look_up found
up-listed none none h n e = cc
up-listed none (some a) h n e = cc
up-listed (some k) x h n e = h n cc

-- ---- the search for a free run

fit-listed : (z : ℕ) (o : Option Place) (f : Fit) → ListedNumber failed f → ListedNumber failed (fit_in z o f)
unfolding fit_in
fit-listed z none f h = h
fit-listed z (some p) f h = λ n e. cc

searches-listed : (s : Shape) (v : List ℕ) (k z count : ℕ) → ListedNumber failed (search s v k z count)
unfolding search is_listed
searches-listed s v k z zero = λ n e. let h : is_listed 26 ≡ true = refl in cc
searches-listed s v k z (suc count) =
    cond_both (walk_in s v z).whole _ (failed 23) (ListedNumber failed) (λ t. fit-listed z _ _ (searches-listed s v k (suc z) count))
    (λ f n e. let h : is_listed 23 ≡ true = refl in cc)

fit-test-listed : (f : Fit) → ListedNumber failed f → AllListed (fit_test f ∷ [])
unfolding fit_test is_listed
fit-test-listed (fitted z p) h = (refl, tt)
fit-test-listed (failed n) h = (h n refl, tt)

-- ---- a call that stages words

pub plan-listed : (s : Shape) (v : List ℕ) (es : List Store) (k : Call) → AllListed (plan s v es k).tests
unfolding plan is_listed
plan-listed s v es (allocate t b) = (refl, fit-test-listed _ (searches-listed s v _ 0 s.zones))
plan-listed s v es (write a o xs) = listed-join (object_tests s v a) _ (object-listed s v a) (refl, tt)
plan-listed s v es (release a) = object-listed s v a

pub plan-answer-listed : (s : Shape) (v : List ℕ) (es : List Store) (k : Call) → ListedNumber refused (plan s v es k).answer
unfolding plan
plan-answer-listed s v es (allocate t b) n e = cc
plan-answer-listed s v es (write a o xs) n e = cc
plan-answer-listed s v es (release a) n e = cc

staged-listed : (st : List ℕ) (n : ℕ) (o : Option ℕ) (a : Answer) (es : List Store) → ListedNumber some o → ListedNumber refused a → ListedNumber refused (conclude_staged st n o a es).answer
unfolding conclude_staged
staged-listed st n none a es h k = k
staged-listed st n (some m) a es h k = λ r e. h r cc

plans-listed : (s : Shape) (pool staging : List ℕ) (count : ℕ) (k : Call) → ListedNumber refused (planned s pool staging count k).answer
unfolding planned many_test is_listed
plans-listed s pool staging count k =
    let p : Plan = plan s (seen pool staging count) (entries_of staging count) k in
    staged-listed staging count _ p.answer p.entries
    (first-listed _ (listed-join p.tests (many_test p.entries ∷ []) (plan-listed s (seen pool staging count) (entries_of staging count) k) (refl, tt)))
    (plan-answer-listed s (seen pool staging count) (entries_of staging count) k)

pub parts-refuse : PartsRefuse
unfolding look_in look_up_in is_listed
parts-refuse = record {
  checks = checks-listed;
  opens = opens-listed;
  reads = λ p. answer-listed _ (shape_in p) (first-listed _ (read-listed p));
  names = λ o. first-listed _ (run-listed o);
  names-at = λ s v a. first-listed _ (object-listed s v a);
  looks-in = λ s p a. look-listed _ _ _ (first-listed _ (object-listed s p a));
  looks-up-in = λ s p tag from. up-listed _ _ (first-listed _ (refl, tt));
  searches = searches-listed;
  judges = λ g. first-listed _ (record-listed g);
  judges-live = λ g. first-listed _ (listed-join (record_tests g) (live_tests g) (record-listed g) (live-listed g));
  plans = plans-listed;
}
