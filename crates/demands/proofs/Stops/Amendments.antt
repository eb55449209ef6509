-- At 11 and in a check at 2 our loader sends what wish 8 says, and the run ends by the number that it says. Assumes nothing.
use Prim.Native.Nat.{ℕ, ◌<◌}
use mathlib.Core.Bool.{true}
use mathlib.Core.Path.{◌≡◌, ap, sym, ◌∙◌}
use mathlib.Core.List.{List, [], ◌∷◌}
use native.Mathlib.Omega.{arith}
use lib.ListN.{length}
use borrow.Author.Tests.{eq-eqb, ne_eqb, le-ltb}
use Rattle.chain.specs.declared.Chain.{Chain}
use Rattle.chain.specs.Paper.{checking, done, no_check, bad_end, more}
use Rattle.chain.specs.Window.{high_byte, low_byte}
use Rattle.chain.proofs.Sound.{feed_is_open}
use Rattle.awaited.specs.Byte.{checks}
use Rattle.machine.specs.Run.{run, run_of}
use Rattle.grammar.proofs.Runs.Slices.{slice_number_lem}
use Rattle.closing.specs.Closing.{ends_below, closing_bytes}
use Rattle.closing.proofs.Meets.{number_open}
use Rattle.closing.proofs.Closes.{closing_number, closes}
use Rattle.demands.specs.Loader.{Open}
use Rattle.demands.specs.Shortest.{OneByte, Amended}
use Rattle.demands.specs.Ours.{ours}
use Rattle.demands.proofs.Stops.ClosingCuts.{offers}

-- the closing bytes are one, and the run ends with n
module _ (c : Chain) (m : List ℕ) (o : Open c m) (b n : ℕ) (e : closing_bytes c m ≡ b ∷ []) (f : closing_number c ≡ n) where
  number : (out : List ℕ) → 0 < length out → (ours.closing c m out).written.number ≡ done
  number out l = number_open c m (length out) (feed_is_open c (length m) o.sound) ∙ rw (e, le-ltb (length out) 1 (omega arith))

  one_byte : OneByte ours c m b n
  one_byte =
      record {
        offers = λ out l. (number out l, offers c m out (number out l) ∙ e);
        ends_with = slice_number_lem c m (b ∷ []) o.sound
            ∙ ap (λ (bs : List ℕ). (run_of (run c m more) bs).number) (sym e)
            ∙ (closes c m o.kinds (feed_is_open c (length m) o.sound)).number
            ∙ f;
      }

pub amended : Amended ours
unfolding closing_bytes closing_number
amended =
    record {
      at_11 = λ c m o a h l.
          let p = c.place in
          let q : ends_below p ≡ true = rw (eq-eqb (high_byte p.end) (high_byte p.start) h, ne_eqb (low_byte p.start) 0 l) in
          one_byte c m o 0x00 bad_end (rw (a, q)) (rw (a, q));
      at_2 = λ c m o a h.
          let q : checks c ≡ true = eq-eqb c.place.check checking h in
          one_byte c m o 0x08 no_check (rw (a, q)) (rw (a, q));
    }
