-- The test of a saved place says what its proposition says. Assumes nothing.
use Prim.Native.Nat.{ℕ}
use mathlib.Core.Bool.{true, ◌&&◌}
use mathlib.Core.Path.{◌≡◌}
use mathlib.Core.List.{List}
use lib.Dec.{eqb}
use lib.ListN.{length, get_or}
use Rattle.chain.specs.declared.Chain.{Chain}
use Rattle.chain.specs.Rules.{all_of}
use Rattle.chain.specs.State.{is_well_formed}
use Rattle.chain.specs.WellFormed.{WellFormed}
use Rattle.chain.proofs.Means.{Means, m-map, reads}
use Rattle.chain.proofs.WellFormed.{m-formed}
use Rattle.saved.specs.Layout.{form1, saved_length, held_in, place_in, registers_in, marks, well_saved_in, well_saved}
use Rattle.demands.specs.Formed.{WellSaved}

pub m-well_saved : (c : Chain) (s : List ℕ) → Means (well_saved c s) true (WellSaved c s)
unfolding well_saved_in held_in
m-well_saved c s =
    let v = held_in form1 s in
    let parts
    : Means (eqb (length s) saved_length && all_of (marks form1.number form1.table v) && is_well_formed c (registers_in form1 s) (place_in form1 s)) true
    ((length s ≡ saved_length) × ((get_or v 0 0 ≡ form1.number) × (get_or v 5 0 ≡ 0) × (get_or v 7 0 ≡ 0)) × WellFormed c (registers_in form1 s) (place_in form1 s))
    = search (m-formed, reads)
    in
    m-map parts
    (λ h. record { length_27 = h.0; form_1 = h.1.0; zero_bit = h.1.1; zero_byte = h.1.2; place = h.2 })
    (λ h. (h.length_27, (h.form_1, h.zero_bit, h.zero_byte), h.place))
