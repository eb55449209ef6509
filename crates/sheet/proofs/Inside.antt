-- Whatever bytes a run is fed, it stores into cells of the memory lent alone. Assumes nothing.
use Prim.Native.Nat.{ℕ, ◌<◌}
use mathlib.Core.Path.{◌≡◌, ◌∙◌}
use mathlib.Core.List.{List, [], ◌∷◌}
use native.Mathlib.Omega.{arith}
use lib.Dec.{eqb}
use lib.ListN.{length}
use borrow.Author.Tests.{eqb-true, eqb-false}
use Rattle.chain.specs.declared.Chain.{Chain}
use Rattle.chain.specs.Paper.{at_control, at_data, most_devices, done, more}
use Rattle.chain.specs.Bytes.{Bytes}
use Rattle.chain.specs.State.{feed_number}
use Rattle.chain.proofs.ByCases.{by_test}
use Rattle.chain.proofs.Sound.{feed_is_open, feed_sound, sound_feed}
use Rattle.awaited.specs.Byte.{awaits, number_of}
use Rattle.machine.specs.Run.{writes, address_of, went_on}
use Rattle.machine.proofs.Runs.{registers-length}
use Rattle.closing.proofs.Sound.{within}
use Rattle.grammar.specs.Sent.{Target, framing, register, cell}
use Rattle.grammar.specs.Stores.{Put, aim, walk_of, put_of, puts_in, puts_of}
use Rattle.grammar.proofs.Runs.Keeps.{went_sound}
use Rattle.grammar.proofs.Walk.{walk_on, walk_over}
use Rattle.sheet.proofs.Times.{Inside}

-- the byte awaited goes to a cell of the memory, or to none
abbrev AimsInside : ℕ → Target → Type 0
AimsInside size framing = Unit {0}
AimsInside size (register d) = Unit {0}
AimsInside size (cell i) = i < size

put-inside : (size : ℕ) (t : Target) (b : ℕ) (ps : List Put) → AimsInside size t → Inside size ps → Inside size (put_of t b ps)
put-inside size framing b ps h g = g
put-inside size (register d) b ps h g = g
put-inside size (cell i) b ps h g = (h, g)

module _ (c : Chain) (m : List ℕ) (eight : length c.kinds ≡ most_devices) (h : feed_number c (length m) ≡ done) where
  aims_inside : AimsInside (length m) (aim c)
  unfolding address_of
  aims_inside =
      let w = within c m (feed_is_open c (length m) h) eight in
      by_test (awaits c at_data)
      (λ e.
      let n = w.cells (eqb-true c.place.awaited at_data e) in
      rw e (omega (arith, n.0, n.1, w.inside)))
      (λ e. rw e (by_test (awaits c at_control) (λ f. rw f tt) (λ f. rw f tt)))

walk_inside : (bs : List ℕ) (c : Chain) (m : List ℕ) → Bytes bs → length c.kinds ≡ most_devices → length c.registers ≡ most_devices
    → feed_number c (length m) ≡ done → Inside (length m) (puts_in (walk_of c bs))
walk_inside [] c m u k g h = unfold walk_of in tt
walk_inside (b ∷ bs) c m u k g h =
    by_test (eqb (number_of c b) more)
    (λ e.
    let n = eqb-true (number_of c b) more e in
    let s = sound_feed (went_on c [] b) (length m) (went_sound c [] b (length m) u.0 g n (feed_sound c (length m) h)) in
    rw (walk_on c b bs n)
    (put-inside (length m) (aim c) b (puts_in (walk_of (went_on c [] b) bs)) (aims_inside c m k h)
    (walk_inside bs (went_on c [] b) m u.1 k (registers-length c [] b ∙ g) s)))
    (λ e. rw (walk_over c b bs (eqb-false (number_of c b) more e)) tt)

pub stores_inside : (bs : List ℕ) (c : Chain) (m : List ℕ) → Bytes bs → length c.kinds ≡ most_devices → length c.registers ≡ most_devices
    → feed_number c (length m) ≡ done → Inside (length m) (puts_of c bs)
stores_inside bs c m u k g h = by_test (writes c) (λ w. rw w (walk_inside bs c m u k g h)) (λ w. rw w tt)
