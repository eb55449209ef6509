-- A reader's check of clause (c), of any loader that meets it: where the null bytes are 00, what is written again is what was taken, byte
-- for byte; in modes 3 and 4 with the lead-in's 00 before it. Assumes nothing.
use Prim.Native.Nat.{ℕ, ◌≤◌}
use mathlib.Core.Bool.{true, false, ◌||◌}
use mathlib.Core.Path.{◌≡◌, ap, sym, subst, ◌∙◌}
use mathlib.Core.List.{List, [], ◌∷◌}
use lib.Dec.{eqb}
use lib.ListN.{length, take}
use Rattle.chain.specs.declared.Chain.{Chain}
use Rattle.chain.specs.Paper.{serial_external, serial_internal, two_preambles, done}
use Rattle.chain.specs.Calls.{no_chain}
use Rattle.chain.proofs.ByCases.{by_test}
use Rattle.writer.specs.Stream.{lead_in, section_of}
use Rattle.grammar.specs.Stream.{Window, Section, stream_sent}
use Rattle.grammar.specs.Sent.{bytes_of}
use Rattle.demands.specs.Loader.{Loader, AfterList, offered}
use Rattle.grammar.specs.Fits.{Reading}
use Rattle.demands.specs.Files.{wanted, rewritten, Again}
use Rattle.grammar.specs.Tables.{nulled, nulls_off, null_byte}
use Rattle.grammar.proofs.SectionBytes.{serial-one}
use Rattle.demands.proofs.Files.WrittenLoads.{any-chain}

-- the lead-in of the mode, as against the preambles that the machine is given
module _ (mode : ℕ) (x : Section) where
  pub wanted-same : eqb mode serial_external || eqb mode serial_internal ≡ false → wanted mode x ≡ bytes_of (stream_sent no_chain mode x [])
  unfolding lead_in
  wanted-same e = rw e (by_test (eqb mode two_preambles) (λ q. rw q) (λ q. rw q))

  wanted-serial : eqb mode serial_external || eqb mode serial_internal ≡ true → wanted mode x ≡ null_byte ∷ bytes_of (stream_sent no_chain mode x [])
  unfolding lead_in
  wanted-serial e = rw (e, serial-one mode e)

module _ (l : Loader) (kind mode : ℕ) (bs : List ℕ) (t : ℕ) (c : Chain) (x : Reading c mode (take t bs)) (one : x.others ≡ []) (r : AfterList)
    (again : Again l kind mode bs t x.first r) (z : nulled x.first.windows ≡ x.first.windows) where
  stream_is : bytes_of (stream_sent no_chain mode (nulls_off x.first) []) ≡ take t bs
  stream_is =
      ap
      (λ (ws : List Window).
      bytes_of (stream_sent no_chain mode (section_of x.first.control (x.first.address0 ∷ x.first.address1 ∷ x.first.address2 ∷ []) ws) [])) z
      ∙ any-chain no_chain c mode x.first
      ∙ ap (λ (ss : List Section). bytes_of (stream_sent c mode x.first ss)) (sym one)
      ∙ x.bytes

  -- an output with room for ys is written with 0, and ys is what is written
  comes : (ys : List ℕ) → wanted mode (nulls_off x.first) ≡ ys → (out : List ℕ) → length ys ≤ length out
      → ((rewritten l kind mode bs r out).written.number ≡ done) × (offered (rewritten l kind mode bs r out) ≡ ys)
  comes ys e out h =
      let n = again.number out (subst (λ (w : List ℕ). length w ≤ length out) (sym e) h) in
      (n, again.bytes out n ∙ e)

  pub comes_back : eqb mode serial_external || eqb mode serial_internal ≡ false → (out : List ℕ) → length (take t bs) ≤ length out
      → ((rewritten l kind mode bs r out).written.number ≡ done) × (offered (rewritten l kind mode bs r out) ≡ take t bs)
  comes_back e out h = comes (take t bs) (wanted-same mode (nulls_off x.first) e ∙ stream_is) out h

  pub comes_back-serial : eqb mode serial_external || eqb mode serial_internal ≡ true → (out : List ℕ) → length (null_byte ∷ take t bs) ≤ length out
      → ((rewritten l kind mode bs r out).written.number ≡ done) × (offered (rewritten l kind mode bs r out) ≡ null_byte ∷ take t bs)
  comes_back-serial e out h =
      comes (null_byte ∷ take t bs) (wanted-serial mode (nulls_off x.first) e ∙ ap (λ (w : List ℕ). null_byte ∷ w) stream_is) out h
