-- The new book (01, "Commit, cut, recovery"), worked out from the old one, fed a list of calls and its answers only. Assumes nothing.
use Rattle.std.specs.Prelude.{ℕ, List, [], ◌∷◌}
use Rattle.rules.specs.Book.{Listed, enter, overwrite, strike}
use Rattle.rules.specs.Answer.{Answer, address, done, passed, refused, started, stored, taken}
use Rattle.rules.specs.Plan.{Call, allocate, release, write}

-- What an allocate that answers an address, and a write or a free that is taken, make of a book; any other answer alters nothing.
unfoldable pub on_address : Answer → (ℕ → List Listed → List Listed) → List Listed → List Listed
on_address (address a) f bk = f a bk
on_address taken f bk = bk
on_address started f bk = bk
on_address (stored k) f bk = bk
on_address (passed k) f bk = bk
on_address (done k) f bk = bk
on_address (refused n) f bk = bk

unfoldable pub on_taken : Answer → (List Listed → List Listed) → List Listed → List Listed
on_taken (address a) f bk = bk
on_taken taken f bk = f bk
on_taken started f bk = bk
on_taken (stored k) f bk = bk
on_taken (passed k) f bk = bk
on_taken (done k) f bk = bk
on_taken (refused n) f bk = bk

-- An allocate that answers an address enters it with tag and body; a write taken lays its bytes over its range of the body named; a free
-- taken strikes out the object named; a refused call alters nothing.
unfoldable pub new_book : Call → Answer → List Listed → List Listed
new_book (allocate t b) ans = on_address ans (λ a. enter (record { addr = a; tag = t; body = b }))
new_book (write a o xs) ans = on_taken ans (overwrite a o xs)
new_book (release a) ans = on_taken ans (strike a)

unfoldable pub new_books : List Call → List Answer → List Listed → List Listed
new_books [] ans bk = bk
new_books (k ∷ ks) [] bk = bk
new_books (k ∷ ks) (a ∷ ans) bk = new_books ks ans (new_book k a bk)
