-- The numbers that the program can print: 15 is not among them, since its tables have room for every window. Assumes nothing.
use Prim.Native.Nat.{ℕ, zero, suc, ◌+◌}
use mathlib.Core.Bool.{Bool, true, false, not, ◌&&◌, ◌||◌}
use mathlib.Core.Path.{◌≡◌, refl}
use mathlib.Core.List.{List, [], ◌∷◌}
use borrow.Author.Tests.{le-ltb}
use native.Mathlib.Omega.{arith}
use lib.Dec.{eqb, ltb, leb}
use lib.ListN.{length, get_or}
use Rattle.chain.specs.Paper.{preamble, postamble, first_mode, two_preambles, done, bad_chain, bad_mode, no_preamble, bad_check_byte, ends_here, last_device, bad_start, bad_end, more, B2, serial}
use Rattle.chain.specs.Rules.{pick, from}
use Rattle.chain.specs.Kinds.{size_of}
use Rattle.hunt.specs.Hunt.{nowhere, found_at}
use Rattle.reader.specs.Stops.{Stop, stop, ◌then◌}
use Rattle.reader.specs.Windows.{window_stop, windows_stop}
use Rattle.reader.specs.Stream.{preamble_at, control_at, count_at, head_stop, check_stop, stream_stop}
use Rattle.lister.specs.Listing.{list_stop}
use Rattle.chain.proofs.ByCases.{by_test}
use Rattle.reader.proofs.Windows.{ways}
use Rattle.listing.specs.Program.{most_windows, given_of, lister_stop, program_stop}

abbrev pub printed : List ℕ
printed =
    done ∷ bad_chain ∷ bad_mode ∷ no_preamble ∷ bad_check_byte ∷ ends_here ∷ last_device ∷ bad_start ∷ bad_end ∷ more ∷ []

abbrev pub among : ℕ → List ℕ → Bool
among n [] = false
among n (m ∷ ms) = eqb n m || among n ms

abbrev pub Printed : Stop → Type 0
Printed e = among e.number printed ≡ true

-- a row whose number is one of them
row_printed : (holds : Bool) (n t : ℕ) (e : Stop) → among n printed ≡ true → Printed e → Printed (pick holds (stop n t) e)
row_printed holds n t e a b = by_test holds (λ y. rw y a) (λ y. rw y b)

then_printed : (e : Stop) (f : ℕ → Stop) → Printed e → ((at : ℕ) → Printed (f at)) → Printed (e then f)
then_printed e f a b = by_test (eqb e.number done) (λ y. rw y (b e.taken)) (λ y. rw y a)

head-printed : (mode : ℕ) (s : List ℕ) → Printed (head_stop mode s)
unfolding head_stop
head-printed mode s =
    row_printed (ltb 0 (length s) && not (eqb (get_or s 0 0) preamble)) no_preamble 1 _ refl
    (row_printed (eqb mode two_preambles && ltb 1 (length s) && not (eqb (get_or s 1 0) preamble)) no_preamble 2 _ refl
    (row_printed (ltb (length s) (preamble_at mode + 6)) more (length s) _ refl refl))

windows-printed : (size : ℕ) (s : List ℕ) (n at : ℕ) → Printed (windows_stop size s n at)
unfolding windows_stop
windows-printed size s zero at = refl
windows-printed size s (suc n) at =
    then_printed (window_stop size s at) (windows_stop size s n) (ways size s at Printed (λ a b. refl) (λ a b d. refl) (λ f g d. refl) (λ a b d e. refl)) (windows-printed size s n)

check-printed : (control : ℕ) (s : List ℕ) (at : ℕ) → Printed (check_stop control s at)
unfolding check_stop
check-printed control s at =
    row_printed (leb (length s) at) more (length s) _ refl
    (row_printed (not (eqb (get_or s at 0) postamble) && not (eqb (get_or s at 0) preamble)) bad_check_byte (at + 1) _ refl
    (row_printed (eqb (get_or s at 0) preamble && B2 control) ends_here (at + 1) _ refl
    (row_printed (eqb (get_or s at 0) preamble) last_device (at + 1) _ refl refl)))

stream-printed : (size mode : ℕ) (s : List ℕ) → Printed (stream_stop size mode s)
unfolding stream_stop
stream-printed size mode s =
    then_printed (head_stop mode s then windows_stop size s (count_at s (preamble_at mode))) (check_stop (control_at s (preamble_at mode)) s)
    (then_printed (head_stop mode s) (windows_stop size s (count_at s (preamble_at mode))) (head-printed mode s) (windows-printed size s (count_at s (preamble_at mode))))
    (check-printed (control_at s (preamble_at mode)) s)

lister_printed : (kind mode : ℕ) (s : List ℕ) → Printed (lister_stop kind mode s)
unfolding list_stop
lister_printed kind mode s =
    let e : Stop = stream_stop (size_of kind) mode s in
    let p = stream-printed (size_of kind) mode s in
    let room = le-ltb most_windows (count_at s (preamble_at mode)) (omega arith) in
    row_printed (eqb (size_of kind) 0) bad_chain 0 _ refl
    (row_printed (not (from first_mode two_preambles mode)) bad_mode 0 _ refl
    (row_printed (not (eqb e.number done)) e.number e.taken _ p (rw room p)))

pub program_printed : (kind mode : ℕ) (s : List ℕ) → Printed (program_stop kind mode s)
unfolding program_stop
program_printed kind mode s =
    row_printed (eqb (size_of kind) 0) bad_chain 0 _ refl
    (row_printed (not (from first_mode two_preambles mode)) bad_mode 0 _ refl
    (row_printed (serial mode && eqb (found_at s) nowhere) no_preamble 0 _ refl (lister_printed kind mode (given_of mode s))))
