-- The second demand, clause (b): what is written is a stream of one section that fits, lists as what the writer was given, and loads. Assumes nothing.
use Prim.Native.Nat.{ℕ, suc}
use mathlib.Core.Bool.{◌||◌}
use mathlib.Core.Path.{◌≡◌, refl, ap, sym, subst, ◌∙◌}
use mathlib.Core.List.{List, [], ◌∷◌, append-nil}
use native.Mathlib.Omega.{arith}
use lib.Dec.{eqb}
use lib.ListN.{length, take, replicate, length-replicate}
use Rattle.chain.specs.Paper.{preamble, serial_external, serial_internal, two_preambles, done}
use Rattle.chain.specs.Kinds.{size_of, base_of}
use Rattle.chain.proofs.ByCases.{by_test}
use Rattle.writer.specs.Stream.{lead_in, section_of, stream_of}
use Rattle.writer.specs.Write.{write_number}
use Rattle.writer.proofs.Accepted.{Accepted, accepted}
use Rattle.writer.proofs.Lengths.{front}
use Rattle.writer.proofs.TablesFit.{from-cells, from_fits}
use Rattle.grammar.proofs.FromTables.{from-starts, from-ends, from_many, from-nulled}
use Rattle.hunt.proofs.Framed.{framed-front}
use Rattle.grammar.specs.Stream.{Section, sections_sent, stream_sent}
use Rattle.grammar.specs.Sent.{bytes_of}
use Rattle.grammar.specs.Fits.{SectionFits}
use Rattle.chain.specs.Bytes.{Bytes}
use Rattle.demands.specs.Loader.{offered}
use Rattle.demands.specs.Files.{Room, wanted, given, ListsAs, Wrote, Demand2b}
use Rattle.grammar.specs.Tables.{cells, windows_from}
use Rattle.demands.specs.Ours.{ours}
use Rattle.grammar.proofs.SectionBytes.{serial-one}
use Rattle.demands.proofs.Files.SectionLists.{listed}
use Rattle.chain.proofs.Bytes.{bytes-at}
use Rattle.demands.proofs.Loads.FittingLoads.{second_a}
use Rattle.demands.proofs.Files.WrittenLoads.{Small, section_small, written_loads}
use Rattle.chain.specs.Calls.{no_chain}

-- ---- what is given of it: in modes 3 and 4 the hunt finds the preamble at 8

hunted_given : (bs : List ℕ) → Bytes bs
    → take (ours.hunt (0 ∷ preamble ∷ bs) (replicate (length (0 ∷ preamble ∷ bs)) 0)).hunted.length (ours.hunt (0 ∷ preamble ∷ bs) (replicate (length (0 ∷ preamble ∷ bs)) 0)).out
    ≡ preamble ∷ bs
hunted_given bs u =
    let n : ℕ = suc (suc (length bs)) in
    framed-front bs (bytes-at bs u) (replicate n 0) (omega (arith, length-replicate {A = ℕ} n 0))

given_is : (mode : ℕ) (x : Section) → Bytes (bytes_of (sections_sent no_chain 0 x [])) → given ours mode (wanted mode x) ≡ bytes_of (stream_sent no_chain mode x [])
unfolding lead_in
given_is mode x u =
    by_test (eqb mode serial_external || eqb mode serial_internal) (λ e. rw (e, serial-one mode e) (hunted_given (bytes_of (sections_sent no_chain 0 x [])) u))
    (λ e. rw e (by_test (eqb mode two_preambles) (λ q. rw q) (λ q. rw q)))

-- ---- the clause

-- what the writer was given is a section that fits, and what it writes is that section
module _ (kind mode control a0 a1 a2 : ℕ) (ss es d out : List ℕ) (u : Bytes (control ∷ a0 ∷ a1 ∷ a2 ∷ d))
    (z : (ours.write kind mode control (a0 ∷ a1 ∷ a2 ∷ []) ss es d out).written.number ≡ done) where
  abbrev bs : List ℕ
  bs = offered (ours.write kind mode control (a0 ∷ a1 ∷ a2 ∷ []) ss es d out)

  abbrev section : Section
  section = section_of control (a0 ∷ a1 ∷ a2 ∷ []) (windows_from ss es d)

  tells : Accepted kind mode ss es (length d) (length (stream_of mode control (a0 ∷ a1 ∷ a2 ∷ []) ss es d)) (length out)
  unfolding write_number
  tells = accepted kind mode ss es (length d) (length (stream_of mode control (a0 ∷ a1 ∷ a2 ∷ []) ss es d)) (length out) z

  cells_are : cells (windows_from ss es d) ≡ d
  cells_are = from-cells ss es d tells.same tells.all

  section_fits : SectionFits (size_of kind) section
  section_fits =
      let few = tells.few in
      let n = from_many ss es d tells.same in
      record { few = omega arith; fit = from_fits (size_of kind) ss es d tells.same tells.inside tells.all }

  bytes_are : bs ≡ wanted mode section
  unfolding stream_of base_of
  bytes_are = (front kind mode control (a0 ∷ a1 ∷ a2 ∷ []) ss es d out _ _ (record { answer = refl; output = refl }) z).1

  small : Small section
  small = subst (λ (l : List ℕ). Bytes (control ∷ a0 ∷ a1 ∷ a2 ∷ l)) (sym cells_are) u

  given_are : given ours mode bs ≡ bytes_of (stream_sent no_chain mode section [])
  given_are =
      ap (given ours mode) bytes_are
      ∙ given_is mode section
      (section_small no_chain kind section section_fits (from-nulled ss es d) small)

  lists : (ts te to : List ℕ) → Room (length (windows_from ss es d)) ts te to
      → ListsAs mode (given ours mode bs) (length (given ours mode bs)) section (ours.list kind mode (given ours mode bs) ts te to)
  lists ts te to room =
      subst (λ (l : List ℕ). ListsAs mode l (length l) section (ours.list kind mode l ts te to)) (sym given_are)
      (subst (λ (l : List ℕ). ListsAs mode l (length (bytes_of (stream_sent no_chain mode section []))) section (ours.list kind mode l ts te to))
      (append-nil (bytes_of (stream_sent no_chain mode section [])))
      (listed kind mode no_chain section [] section_fits tells.known (record { least = tells.least; most = tells.most }) ts te to room.starts room.ends room.offsets))

  wrote : Wrote ours kind mode (section_of control (a0 ∷ a1 ∷ a2 ∷ [])) ss es d bs
  wrote =
      record {
        windows = windows_from ss es d;
        fits = section_fits;
        nulls_zero = from-nulled ss es d;
        starts_are = from-starts ss es d tells.same;
        ends_are = from-ends ss es d tells.same;
        cells_are = cells_are;
        bytes = bytes_are;
        given_are = given_are;
        lists = lists;
        loads = written_loads kind mode section section_fits (from-nulled ss es d) small ours second_a (given ours mode bs) given_are;
      }

pub second_b : Demand2b ours
second_b kind mode control a0 a1 a2 ss es d out u z = wrote kind mode control a0 a1 a2 ss es d out u z
