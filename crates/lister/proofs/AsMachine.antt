-- A listing's number and bytes taken are the machine's, for a write of the stream into one freshly reset device. Assumes nothing.
use Prim.Native.Nat.{ℕ, ◌<◌}
use mathlib.Core.Bool.{Bool, true, false, not, ◌&&◌}
use mathlib.Core.Path.{◌≡◌, sym, ap, ◌∙◌}
use mathlib.Core.List.{List, ◌∷◌}
use borrow.Author.Tests.{eq-eqb, ne_eqb}
use lib.Dec.{eqb}
use lib.ListN.{length, get_or, replicate}
use Rattle.chain.proofs.ByCases.{by_test}
use Rattle.chain.specs.Paper.{first_mode, two_preambles, done, too_short}
use Rattle.chain.specs.Rules.{pick, from}
use Rattle.chain.specs.Kinds.{size_of}
use Rattle.machine.specs.Run.{Run}
use Rattle.reader.specs.Stops.{Stop, stop}
use Rattle.reader.specs.Stream.{preamble_at, count_at}
use Rattle.reader.proofs.Runs.{end_of, stored_all}
use Rattle.reader.proofs.AsMachine.{machine_of, stream_as_machine, stream_stores}
use Rattle.lister.specs.declared.Listed.{Listed}
use Rattle.lister.specs.Listing.{any_shorter, list_stop, listed_of, listed, listing, Lists}
use Rattle.lister.proofs.Listings.{list_done}
use Rattle.lister.proofs.Tables.{listing-all}

-- the listing r has the number and the bytes taken of the run x; but for 15, where x is accepted and a table is short
pub record AsMachine (r : Listed) (x : Run) (short : Bool) : Type 0 where
  pub number : r.number ≡ pick (eqb x.number done && short) too_short x.number
  pub taken : r.taken ≡ x.chain.place.taken

module _ (e : Stop) where
  by_number : (b : Bool)
      → (pick (not (eqb e.number done)) (stop e.number e.taken) (pick b (stop too_short e.taken) e)).number
      ≡ pick (eqb e.number done && b) too_short e.number
  by_number true = by_test (eqb e.number done) (λ q. rw q) (λ q. rw q)
  by_number false = by_test (eqb e.number done) (λ q. rw q) (λ q. rw q)

  by_taken : (b : Bool)
      → (pick (not (eqb e.number done)) (stop e.number e.taken) (pick b (stop too_short e.taken) e)).taken ≡ e.taken
  by_taken true = by_test (eqb e.number done) (λ q. rw q) (λ q. rw q)
  by_taken false = by_test (eqb e.number done) (λ q. rw q) (λ q. rw q)

module _ (kind : ℕ) (ks : List ℕ) (mode : ℕ) (m s : List ℕ) (bytes : (i : ℕ) → get_or s i 0 < 256) where
  module _ (starts ends offsets : List ℕ) (r : Listed) (starts' ends' offsets' : List ℕ) (l : Lists kind mode s starts ends offsets r starts' ends' offsets') where
    answer_is : (r.number ≡ (listed kind mode s starts ends offsets).number) × (r.taken ≡ (listed kind mode s starts ends offsets).taken)
    unfolding listed_of
    answer_is = (ap (λ (x : Listed). x.number) l.answer, ap (λ (x : Listed). x.taken) l.answer)

    abbrev short : Bool
    short = any_shorter (length starts) (length ends) (length offsets) (count_at s (preamble_at mode))

    pub lists_as_machine : (size_of kind ≡ 0 → ⊥) → from first_mode two_preambles mode ≡ true → AsMachine r (machine_of kind ks mode m s) short
    unfolding list_stop
    lists_as_machine known inside =
        let e = stream_as_machine kind ks mode m s bytes in
        let x : Stop = end_of (machine_of kind ks mode m s) in
        record {
          number = answer_is.0 ∙ rw (ne_eqb (size_of kind) 0 known, inside, e) (by_number x short);
          taken = answer_is.1 ∙ rw (ne_eqb (size_of kind) 0 known, inside, e) (by_taken x short);
        }

    -- and where it is listed, the machine stored the data of the listed windows in their order, and loaded the control byte
    pub stores_as_listed : r.number ≡ done
        → ((machine_of kind ks mode m s).memory ≡ stored_all s 0 m (listing kind mode s starts ends offsets))
        × ((machine_of kind ks mode m s).chain.registers ≡ r.control ∷ replicate 7 0)
    unfolding listed_of
    stores_as_listed z =
        let n = sym answer_is.0 ∙ z in
        let d = list_done (size_of kind) mode s (length starts) (length ends) (length offsets) n in
        let a = stream_stores kind ks mode m s bytes (ap (λ (x : Stop). x.number) (sym d.stream) ∙ n) in
        let w = listing-all (size_of kind) s (preamble_at mode) (listed kind mode s starts ends offsets) n in
        (a.0 ∙ rw w, a.1 ∙ rw (l.answer, eq-eqb (listed kind mode s starts ends offsets).number done n))
