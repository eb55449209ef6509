-- A stream whose reading has one section, in a chain of any length: it lists as that, and is written again as that, null bytes 00.
-- The machine is not mentioned. Assumes nothing.
use Prim.Native.Nat.{ℕ, ◌≤◌}
use mathlib.Core.Path.{◌≡◌, refl, ap, sym, subst, ◌∙◌}
use mathlib.Core.List.{List, [], ◌∷◌, ◌++◌}
use native.Mathlib.Omega.{arith}
use lib.ListN.{length, get_or, take, drop, take-append-drop}
use lib.Seq.{length-take-le}
use Rattle.chain.specs.declared.Chain.{Chain}
use Rattle.chain.specs.Kinds.{size_at, size_of}
use Rattle.grammar.specs.Stream.{Section, stream_sent}
use Rattle.grammar.specs.Sent.{bytes_of}
use Rattle.grammar.specs.Fits.{SectionFits, SectionsFit, Reading}
use Rattle.demands.specs.Loader.{AfterWrite, AfterList, Mode, offered}
use Rattle.demands.specs.Files.{Room, front, ListsAs, rewritten, Again}
use Rattle.grammar.specs.Tables.{starts, ends, cells}
use Rattle.demands.specs.Ours.{ours}
use Rattle.demands.proofs.Files.SectionWritten.{address_of, wrote, wrote-number, wrote-bytes}
use Rattle.demands.proofs.Files.SectionLists.{listed}

-- one device has one section
pub alone : (c : Chain) (s : Section) (ss : List Section) → c.count ≡ 1 → SectionsFit c 0 s ss → ss ≡ []
alone c s [] n f = refl
alone c s (t ∷ []) n f = absurd (omega (arith, f.3.0))
alone c s (t ∷ (u ∷ us)) n f = absurd (omega (arith, f.3.0))

pub first_fits : (c : Chain) (s : Section) (ss : List Section) → SectionsFit c 0 s ss → SectionFits (size_at c 0) s
first_fits c s [] f = f.1
first_fits c s (t ∷ ts) f = f.1

-- a listing that says what a section holds is written again as that section
again_is : (kind mode : ℕ) (bs : List ℕ) (t : ℕ) (x : Section) (a : AfterList) (out : List ℕ) → ListsAs mode bs t x a
    → rewritten ours kind mode bs a out
    ≡ ours.write kind mode x.control (address_of x) (starts x.windows) (ends x.windows) (cells x.windows) out
again_is kind mode bs t x a out l =
    ap (λ (d : List ℕ). ours.write kind mode a.listed.control a.listed.address (front a a.starts) (front a a.ends) d out) l.cells
    ∙ rw (l.control, l.address, l.starts, l.ends)

module _ (c : Chain) (mode : ℕ) (bs ts te to : List ℕ) (t : ℕ) (o : Mode mode) (known : size_at c 0 ≡ 0 → ⊥) (inside : t ≤ length bs)
    (x : Reading c mode (take t bs)) (one : x.others ≡ []) (room : Room (length x.first.windows) ts te to) where
  abbrev kind : ℕ
  kind = get_or c.kinds 0 0

  fits : SectionFits (size_of kind) x.first
  fits = first_fits c x.first x.others x.fits

  bytes_are : bytes_of (stream_sent c mode x.first []) ≡ take t bs
  bytes_are = ap (λ (ss : List Section). bytes_of (stream_sent c mode x.first ss)) (sym one) ∙ x.bytes

  lists : ListsAs mode bs t x.first (ours.list kind mode bs ts te to)
  lists =
      let a : bytes_of (stream_sent c mode x.first []) ++ drop t bs ≡ bs = ap (λ (l : List ℕ). l ++ drop t bs) bytes_are ∙ take-append-drop t bs in
      let n : length (bytes_of (stream_sent c mode x.first [])) ≡ t = ap length bytes_are ∙ length-take-le t bs inside in
      subst (λ (k : ℕ). ListsAs mode bs k x.first (ours.list kind mode bs ts te to)) n
      (subst (λ (l : List ℕ). ListsAs mode l (length (bytes_of (stream_sent c mode x.first []))) x.first (ours.list kind mode l ts te to)) a
      (listed kind mode c x.first (drop t bs) fits known o ts te to room.starts room.ends room.offsets))

  again : (out : List ℕ) → rewritten ours kind mode bs (ours.list kind mode bs ts te to) out ≡ wrote kind mode x.first out fits
  again out = again_is kind mode bs t x.first (ours.list kind mode bs ts te to) out lists

  pub relisted : Again ours kind mode bs t x.first (ours.list kind mode bs ts te to)
  relisted =
      record {
        lists = lists;
        number = λ out h. ap (λ (w : AfterWrite). w.written.number) (again out) ∙ wrote-number kind mode x.first out fits known o h;
        bytes = λ out z.
            ap offered (again out) ∙ wrote-bytes kind mode x.first out fits (ap (λ (w : AfterWrite). w.written.number) (sym (again out)) ∙ z);
      }
