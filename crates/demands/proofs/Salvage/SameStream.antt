-- An accepted stream of one device, whatever follows it in its file, salvaged by any loader that keeps its promise: nothing is missing, and its own bytes come
-- out, null bytes 00. With clauses (a) and (c) of the second demand they are what the writer writes from its listing. Assumes nothing.
use Prim.Native.Nat.{ℕ, ◌+◌, ◌≤◌}
use mathlib.Core.Bool.{false}
use mathlib.Core.Path.{◌≡◌, refl, ap, sym, subst, ◌∙◌}
use mathlib.Core.List.{List, [], ◌++◌}
use native.Mathlib.Omega.{arith}
use borrow.Author.Tests.{ne_eqb}
use lib.ListN.{length, get_or}
use Rattle.chain.specs.declared.Chain.{Chain}
use Rattle.chain.specs.Paper.{preamble, first_mode, done}
use Rattle.chain.specs.Kinds.{size_of}
use Rattle.chain.specs.Bytes.{Bytes}
use Rattle.chain.specs.Calls.{no_chain}
use Rattle.chain.proofs.BadChain.{m_known}
use Rattle.grammar.specs.Sent.{bytes_of}
use Rattle.grammar.specs.Stream.{Section, stream_sent}
use Rattle.grammar.specs.Fits.{SectionFits}
use Rattle.grammar.specs.Tables.{nulls_off}
use Rattle.grammar.proofs.SectionBytes.{windows_bytes, stream-bytes, nulled_long}
use Rattle.reader.specs.Stops.{Stop}
use Rattle.reader.specs.Windows.{windows_stop, windows_of}
use Rattle.reader.specs.Stream.{head_length, count_at, stream_stop}
use Rattle.reader.specs.Given.{given_of}
use Rattle.reader.proofs.Windows.{windows-length}
use Rattle.salvage.specs.declared.Salvaged.{Salvaged}
use Rattle.salvage.specs.Salvage.{after_all, offset_of, salvaged}
use Rattle.salvage.proofs.WholeWindows.{alone}
use Rattle.demands.specs.Loader.{Loader, AfterSalvage, rescued}
use Rattle.demands.specs.Demand2.{Demand2a}
use Rattle.demands.specs.Files.{wanted, Demand2c}
use Rattle.demands.specs.Patches.{Device}
use Rattle.demands.specs.OneFile.{Accepted, section, windows}
use Rattle.demands.specs.OldDisks.{KeepsSalvage, Rescued, InOrder, kept_section, ComesOut, SameComesOut}
use Rattle.demands.proofs.Loads.StreamA.{mode-one}
use Rattle.demands.proofs.Files.AcceptedAgain.{first_known}
use Rattle.demands.proofs.Files.SameBytes.{wanted-same}
use Rattle.demands.proofs.Files.SectionLists.{stream_long}
use Rattle.demands.proofs.Files.WrittenLoads.{any-chain}
use Rattle.demands.proofs.Patches.TwoLaws.{nulled_many}
use Rattle.demands.proofs.Patches.WrittenOnce.{again}
use Rattle.demands.proofs.Tidy.StreamRead.{stood, file-stop, given_is}
use Rattle.demands.proofs.Tidy.TidiedStream.{fits, is_stream}
use Rattle.demands.proofs.Salvage.KeptWindows.{salvaged_is}
use Rattle.demands.proofs.Salvage.SoundStream.{is_done, changes_are, rescued_is}

-- ---- a file that begins with the stream of a section that fits

record Begins (kind : ℕ) (c : Chain) (x : Section) (file : List ℕ) : Type 0 where
  six : head_length ≤ length file
  first : get_or file 0 0 ≡ preamble
  kept : length (given_of (size_of kind) file) ≡ length x.windows
  announced : count_at file 0 ≡ length x.windows
  end : (stream_stop (size_of kind) first_mode file).number ≡ done
  offset : offset_of (size_of kind) file ≡ head_length + length (windows_bytes x.windows)
  bytes : salvaged (size_of kind) file ≡ bytes_of (stream_sent c first_mode (nulls_off x) [])

module _ (kind : ℕ) (c : Chain) (x : Section) (after : List ℕ) (f : SectionFits (size_of kind) x) where
  abbrev size : ℕ
  size = size_of kind

  abbrev file : List ℕ
  file = bytes_of (stream_sent c first_mode x []) ++ after

  -- the byte after the last window is the postamble's place
  offset_read : offset_of size file ≡ head_length + length (windows_bytes x.windows)
  unfolding offset_of
  offset_read =
      let k = stood kind c x after f in
      let n : ℕ = length x.windows in
      let many : length (windows_of size file n head_length) ≡ n =
      windows-length size file n head_length (ap (λ (e : Stop). e.number) k.windows.ending) in
      ap (λ (i : ℕ). after_all head_length (windows_of size file i head_length)) k.count
      ∙ ap (λ (e : Stop). e.taken)
      (sym (alone size file n head_length).0 ∙ ap (λ (i : ℕ). windows_stop size file i head_length) many ∙ k.windows.ending)

  section-kept : kept_section size file ≡ nulls_off x
  section-kept =
      let k = stood kind c x after f in
      rw (k.control, k.address0, k.address1, k.address2, given_is kind c x after f)

  begins : Begins kind c x file
  begins =
      let k = stood kind c x after f in
      record {
        six = omega (arith, k.long);
        first = ap (λ (t : List ℕ). get_or t 0 0) (stream-bytes c first_mode x after);
        kept = ap length (given_is kind c x after f) ∙ nulled_many x.windows;
        announced = k.count;
        end = file-stop kind c x after f;
        offset = offset_read;
        bytes = salvaged_is size file c ∙ ap (λ (y : Section). bytes_of (stream_sent c first_mode y [])) section-kept;
      }

-- ---- an accepted stream

module _ (l : Loader) (keeps : KeepsSalvage l) (c : Chain) (m s : List ℕ) (d : Device c m) (a : Accepted c s) (after out : List ℕ) where
  abbrev kind : ℕ
  kind = get_or c.kinds 0 0

  abbrev w : AfterSalvage
  w = l.salvage kind (s ++ after) out

  read : Begins kind c (section a) (s ++ after)
  read = subst (λ (t : List ℕ). Begins kind c (section a) (t ++ after)) (is_stream c m d s a) (begins kind c (section a) after (fits c m d s a))

  order : InOrder kind (s ++ after)
  order =
      record { known = (m_known kind).says (ne_eqb (size_of kind) 0 (first_known c m d.idle)); six = read.six; first = read.first }

  s_long : length s ≡ head_length + length (windows_bytes (windows a)) + 1
  s_long = ap length (sym (is_stream c m d s a)) ∙ stream_long first_mode c (section a) false refl

  -- as long as it was
  as_long : length (bytes_of (stream_sent c first_mode (nulls_off (section a)) [])) ≡ length s
  as_long =
      stream_long first_mode c (nulls_off (section a)) false refl ∙ omega (arith, s_long, nulled_long (windows a))

  has_room : length s ≤ length out → Rescued w
  has_room h = is_done l keeps kind (s ++ after) out order (omega (arith, h, as_long, ap length read.bytes))

  out_bytes : Rescued w → rescued w ≡ bytes_of (stream_sent c first_mode (nulls_off (section a)) [])
  out_bytes z = rescued_is l keeps kind (s ++ after) out z ∙ read.bytes

  wanted_is : wanted first_mode (nulls_off (section a)) ≡ bytes_of (stream_sent c first_mode (nulls_off (section a)) [])
  wanted_is = wanted-same first_mode (nulls_off (section a)) refl ∙ any-chain no_chain c first_mode (nulls_off (section a))

  comes_out : Demand2a l → Demand2c l → Bytes after → ComesOut l a after out w
  comes_out meets lists small =
      record {
        room = has_room;
        kept = λ z. ap (λ (r : Salvaged). r.kept) (changes_are l keeps kind (s ++ after) out z) ∙ read.kept;
        announced = λ z. ap (λ (r : Salvaged). r.announced) (changes_are l keeps kind (s ++ after) out z) ∙ read.announced;
        end = λ z. ap (λ (r : Salvaged). r.end) (changes_are l keeps kind (s ++ after) out z) ∙ read.end;
        offset = λ z.
            ap (λ (r : Salvaged). r.offset + 1) (changes_are l keeps kind (s ++ after) out z) ∙ ap (λ (n : ℕ). n + 1) read.offset ∙ sym s_long;
        bytes = out_bytes;
        as_written = λ z ts te to out' room h.
            let g = again l meets lists c m d first_mode s after ts te to a.reading mode-one a.bytes small room in
            let n = g.number out' (omega (arith, h, as_long, ap length wanted_is)) in
            (n, g.bytes out' n ∙ wanted_is ∙ sym (out_bytes z));
      }

pub same_comes_out : (l : Loader) → Demand2a l → Demand2c l → KeepsSalvage l → SameComesOut l
same_comes_out l meets lists keeps c m s d a after out small = comes_out l keeps c m s d a after out meets lists small
