-- The writer on the tables of a section that fits: it writes that section, with null bytes 00. Assumes nothing.
use Prim.Native.Nat.{ℕ, ◌≤◌}
use mathlib.Core.Path.{◌≡◌, refl, sym, ◌∙◌}
use mathlib.Core.List.{List, [], ◌∷◌}
use native.Mathlib.Omega.{arith}
use lib.ListN.{length, length-append}
use Rattle.chain.specs.Paper.{no_windows, done}
use Rattle.chain.specs.Kinds.{size_of, base_of}
use Rattle.writer.specs.Stream.{stream_of}
use Rattle.writer.specs.Write.{sum_of, write_number}
use Rattle.writer.proofs.Accepted.{Within, accepts}
use Rattle.writer.proofs.Lengths.{front}
use Rattle.grammar.specs.Stream.{Window, Section}
use Rattle.grammar.specs.Fits.{AllFit, SectionFits}
use Rattle.demands.specs.Loader.{AfterWrite, Mode, offered}
use Rattle.grammar.specs.Tables.{starts, ends, cells, nulls_off}
use Rattle.demands.specs.Files.{wanted}
use Rattle.demands.specs.Ours.{ours}
use Rattle.grammar.proofs.SectionBytes.{starts_many, ends_many}
use Rattle.grammar.proofs.FromTables.{from_tables}

-- what the writer asks
within : (size : ℕ) (ws : List Window) → AllFit size ws → Within size (starts ws) (ends ws)
within size [] f = tt
within size (w ∷ ws) f = (f.0.order, f.0.inside, within size ws f.1)

cells-sum : (size : ℕ) (ws : List Window) → AllFit size ws → length (cells ws) ≡ sum_of (starts ws) (ends ws)
unfolding sum_of
cells-sum size [] f = refl
cells-sum size (w ∷ ws) f = omega (arith, f.0.full, cells-sum size ws f.1, length-append w.bytes (cells ws))

-- the address as the writer is lent it
abbrev pub address_of : Section → List ℕ
address_of x = x.address0 ∷ x.address1 ∷ x.address2 ∷ []

pub stream-written : (size mode : ℕ) (x : Section) → AllFit size x.windows
    → stream_of mode x.control (address_of x) (starts x.windows) (ends x.windows) (cells x.windows) ≡ wanted mode (nulls_off x)
unfolding stream_of base_of
stream-written size mode x f = rw (from_tables size x.windows f)

-- the writer's answer and output
module _ (kind mode : ℕ) (x : Section) (out : List ℕ) (f : SectionFits (size_of kind) x) where
  abbrev pub wrote : AfterWrite
  wrote = ours.write kind mode x.control (address_of x) (starts x.windows) (ends x.windows) (cells x.windows) out

  pub wrote-number : (size_of kind ≡ 0 → ⊥) → Mode mode → length (wanted mode (nulls_off x)) ≤ length out → wrote.written.number ≡ done
  unfolding write_number
  wrote-number known o room =
      let few : length x.windows ≤ no_windows = f.few in
      let n = starts_many x.windows in
      let m = ends_many x.windows in
      accepts kind mode (starts x.windows) (ends x.windows) (length (cells x.windows))
      (length (stream_of mode x.control (address_of x) (starts x.windows) (ends x.windows) (cells x.windows))) (length out)
      (record {
        known = known;
        least = o.least;
        most = o.most;
        same = n ∙ sym m;
        few = omega arith;
        inside = within (size_of kind) x.windows f.fit;
        all = cells-sum (size_of kind) x.windows f.fit;
        fits = rw (stream-written (size_of kind) mode x f.fit) room;
      })

  pub wrote-bytes : wrote.written.number ≡ done → offered wrote ≡ wanted mode (nulls_off x)
  wrote-bytes z =
      (front kind mode x.control (address_of x) (starts x.windows) (ends x.windows) (cells x.windows) out wrote.written wrote.out
      (record { answer = refl; output = refl }) z).1
      ∙ stream-written (size_of kind) mode x f.fit
