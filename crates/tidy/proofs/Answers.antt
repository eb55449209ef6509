-- What the tidier answers: its refusals in their order, and 0. Assumes nothing.
use Prim.Native.Nat.{ℕ, ◌+◌, ◌≤◌, ◌<◌}
use mathlib.Core.Path.{◌≡◌, sym, ap, ◌∙◌}
use mathlib.Core.List.{List, ◌++◌}
use native.Mathlib.Omega.{arith}
use borrow.Author.Tests.{ne_eqb, eqb-false, lt-ltb, le-ltb}
use lib.Dec.{eqb, ltb}
use lib.ListN.{length, take, length-append}
use lib.Seq.{length-take-le, take-append-le}
use mathlib.Core.Path.{subst}
use mathlib.Core.Bool.{false}
use Rattle.chain.specs.declared.Written.{Written}
use Rattle.chain.specs.declared.refusal.Refusal.{Refusal}
use Rattle.chain.specs.declared.refusal.Refusal.TheVariants.{TooShort}
use Rattle.chain.specs.Refusal.{number_of as refusal_number}
use Rattle.chain.specs.Rules.{pick}
use Rattle.chain.proofs.ByCases.{by_test}
use Rattle.chain.proofs.PassedUp.{not_done}
use Rattle.tidy.specs.declared.given.Given.{Given}
use Rattle.chain.specs.Paper.{first_mode, done, bad_chain, too_short}
use Rattle.chain.specs.Kinds.{size_of}
use Rattle.chain.specs.Output.{over, Writes}
use Rattle.reader.specs.Stops.{Stop}
use Rattle.reader.specs.Windows.{windows_stop}
use Rattle.reader.specs.Stream.{preamble_at, head_length, count_at, stream_stop}
use Rattle.reader.proofs.Streams.{stream-done}
use Rattle.reader.specs.Given.{windows_at}
use Rattle.tidy.specs.Tidy.{last_byte, tidied, tidy_number, Tidies}
use Rattle.chain.specs.declared.window.Window.{Window as Row}
use Rattle.tidy.specs.Steps.{spans_in, Gathered, long_of, AtPlaces, laid_out, Ready, room_number}
use Rattle.tidy.proofs.Lengths.{in_length}
use Rattle.tidy.proofs.Whole.{laid_is, laid-length}

refused : (n : ℕ) (bytes out : List ℕ) (e : Refusal) → refusal_number e ≡ n → Writes n bytes out (record { number = refusal_number e; length = 0 }) out
refused n bytes out e h = record { answer = rw (← h, not_done e); output = rw (← h, not_done e) }

-- ---- a stream that was read whole

module _ (size : ℕ) (s : List ℕ) (st : Stop) (r : st ≡ stream_stop size first_mode s) (h : st.number ≡ done) where
  read : (head_length ≤ length s) × ((windows_stop size s (count_at s 0) head_length).number ≡ done)
  unfolding preamble_at
  read = let q = stream-done size first_mode s (rw (← r) h) in (q.head, q.windows)

  pub head-there : head_length ≤ length s
  head-there = read.0

  pub windows-whole : (windows_stop size s (count_at s 0) head_length).number ≡ done
  windows-whole = read.1

-- m spans come back at the front of the table, and the windows' places in the other one
module _ (g : Given) (few : g.n ≤ 255) (front back rest : List Row) (places out : List ℕ) (m : ℕ)
    (x : (m ≤ length front) × (length back ≡ length front)
    × Gathered g.size (windows_at g.size g.s.now g.n head_length) (spans_in (take m back))
    × AtPlaces places (spans_in (take m back)) 0 (windows_at g.size g.s.now g.n head_length)) (l : length front ≡ g.n) where
  abbrev spans : List Row
  spans = take m (back ++ rest)

  spans_are : spans ≡ take m back
  spans_are = take-append-le m back rest (omega (arith, x.0, x.1))

  many : length spans ≡ m
  many = length-take-le m (back ++ rest) (omega (arith, x.0, x.1, length-append back rest))

  gathered : Gathered g.size (windows_at g.size g.s.now g.n head_length) (spans_in spans)
  gathered = rw spans_are x.2

  module _ (end : ℕ) (e : end ≡ 6 + long_of (spans_in spans)) where
    -- as the code counts the windows and lays them out
    is : laid_out g.s.now (spans_in spans) (last_byte (windows_at g.size g.s.now g.n head_length)) ≡ tidied g.size g.s.now
    is = laid_is g.size g.s.now g.n (spans_in spans) g.count gathered

    long : end + 1 ≡ length (tidied g.size g.s.now)
    long = sym (sym (ap length is) ∙ laid-length g.s.now (spans_in spans) (last_byte (windows_at g.size g.s.now g.n head_length)) ∙ omega arith)

    pub no_room : length out ≤ end
        → Writes (room_number (length (tidied g.size g.s.now)) (length out)) (tidied g.size g.s.now) out (record { number = too_short; length = 0 }) out
    no_room h = refused _ _ out TooShort (rw (lt-ltb (length out) (length (tidied g.size g.s.now)) (omega (arith, long))))

    pub ready : length places ≡ 256 → end < length out → Ready g.size g.s.now g.n (spans_in spans) places end (length out)
    ready t h =
        record {
          head = g.head;
          whole = g.whole;
          few = omega (arith, many, x.0, l, in_length spans);
          table = omega (arith, few, t);
          gathered = gathered;
          placed = rw spans_are x.3;
          end_is = e;
          fits = h;
        }

    pub written : (out' : List ℕ) → end < length out → out' ≡ over (laid_out g.s.now (spans_in spans) (last_byte (windows_at g.size g.s.now g.n head_length))) out
        → Writes (room_number (length (tidied g.size g.s.now)) (length out)) (tidied g.size g.s.now) out (record { number = done; length = end + 1 }) out'
    written out' h w =
        let r : ltb (length out) (length (tidied g.size g.s.now)) ≡ false = le-ltb (length out) (length (tidied g.size g.s.now)) (omega (arith, long)) in
        record { answer = rw (r, long); output = w ∙ rw (r, is) }

-- ---- the whole call, by what reading answers

module _ (kind : ℕ) (s out : List ℕ) where
  abbrev stop : ℕ
  stop = (stream_stop (size_of kind) first_mode s).number

  number-passed : (e : Refusal) → refusal_number e ≡ pick (eqb (size_of kind) 0) bad_chain stop → refusal_number e ≡ tidy_number kind s (length out)
  unfolding tidy_number
  number-passed e h =
      by_test (eqb (size_of kind) 0)
      (λ p. h ∙ rw p)
      (λ p.
      let q : refusal_number e ≡ stop = h ∙ rw p in
      q ∙ rw (p, ne_eqb stop done (λ z. eqb-false (refusal_number e) done (not_done e) (q ∙ z))))

  pub not_read : (e : Refusal) → refusal_number e ≡ pick (eqb (size_of kind) 0) bad_chain stop → Tidies kind s out (record { number = refusal_number e; length = 0 }) out
  not_read e h = refused (tidy_number kind s (length out)) (tidied (size_of kind) s) out e (number-passed e h)

  number-room : done ≡ pick (eqb (size_of kind) 0) bad_chain stop → room_number (length (tidied (size_of kind) s)) (length out) ≡ tidy_number kind s (length out)
  unfolding tidy_number
  number-room h =
      by_test (eqb (size_of kind) 0)
      (λ p. let z : done ≡ bad_chain = h ∙ rw p in absurd (omega (arith, z)))
      (λ p.
      let q : done ≡ stop = h ∙ rw p in
      rw (p, ← q))

  pub was_read : (size : ℕ) (w : Written) (out' : List ℕ) → done ≡ pick (eqb (size_of kind) 0) bad_chain stop → size ≡ size_of kind
      → Writes (room_number (length (tidied size s)) (length out)) (tidied size s) out w out' → Tidies kind s out w out'
  was_read size w out' h z t =
      let P : ℕ → Type 0 = λ n. Writes n (tidied (size_of kind) s) out w out' in
      subst P (number-room h) (rw z at t)
