-- The closing call meets its promise: refused by the state's own numbers, or as the bytes are put. Assumes nothing.
use Prim.Native.Nat.{ℕ}
use mathlib.Core.Path.{◌≡◌, sym, ◌∙◌}
use mathlib.Core.List.{List, [], ◌∷◌}
use borrow.Author.Tests.{ne_eqb}
use lib.Dec.{ltb}
use lib.ListN.{length}
use Rattle.chain.specs.declared.Chain.{Chain}
use Rattle.chain.specs.declared.Written.{Written}
use Rattle.chain.specs.Paper.{done, too_short}
use Rattle.chain.specs.Rules.{◌gives◌}
use Rattle.chain.specs.State.{open_number}
use Rattle.chain.proofs.Numbers.{open_gives, open_passes}
use Rattle.closing.specs.Closing.{closing_bytes}
use Rattle.closing.specs.Calls.{written_number, Closing}
use Rattle.closing.specs.Put.{room_number, Put}

pub number_open : (c : Chain) (m : List ℕ) (room : ℕ) → open_number c (length m) ≡ done → written_number c m room ≡ room_number room (closing_bytes c m)
unfolding written_number
number_open c m room h = open_passes c (length m) ((ltb room (length (closing_bytes c m)) gives too_short) ∷ []) done h

module _ (c : Chain) (m out : List ℕ) where
  pub meets_refused : (n : ℕ) → n ≡ open_number c (length m) → (n ≡ done → ⊥) → Closing c m out (record { number = n; length = 0 }) out
  unfolding written_number
  meets_refused n e h =
      let g : written_number c m (length out) ≡ n =
      open_gives c (length m) ((ltb (length out) (length (closing_bytes c m)) gives too_short) ∷ []) done (λ q. h (e ∙ q)) ∙ sym e in
      record { answer = rw (g, ne_eqb n done h); output = rw (g, ne_eqb n done h) }

  pub meets_put : (r : Written) (out' : List ℕ) → open_number c (length m) ≡ done → Put (closing_bytes c m) out r out' → Closing c m out r out'
  meets_put r out' h p = rw (number_open c m (length out) h) p
