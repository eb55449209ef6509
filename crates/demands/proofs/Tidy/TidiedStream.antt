-- An accepted stream of one device, whatever follows it, tidied by any loader whose tidier keeps its promise: an output as long as the stream has room,
-- and what is written is a stream again, of the shape. Assumes nothing.
use Prim.Native.Nat.{ℕ, ◌+◌, ◌≤◌, ◌<◌}
use mathlib.Core.Bool.{true, false}
use mathlib.Core.Path.{◌≡◌, refl, ap, sym, subst, ◌∙◌}
use mathlib.Core.List.{List, [], ◌∷◌, ◌++◌, map}
use native.Mathlib.Omega.{arith}
use borrow.Author.Tests.{ne_eqb, le-ltb}
use lib.Dec.{lit<}
use lib.ListN.{length, get_or}
use lib.Seq.{take-append_seam}
use Rattle.chain.specs.declared.Chain.{Chain}
use Rattle.chain.specs.declared.Written.{Written}
use Rattle.chain.specs.Paper.{first_mode, done}
use Rattle.chain.specs.Kinds.{size_at}
use Rattle.chain.specs.Bytes.{Bytes}
use Rattle.chain.specs.Output.{over, Writes}
use Rattle.chain.proofs.Means.{Means, m-le, m-and, m-or}
use Rattle.reader.specs.Stream.{stream_stop}
use Rattle.grammar.specs.Sent.{memory, bytes_of}
use Rattle.grammar.specs.Stream.{Window, Section, stream_sent}
use Rattle.grammar.specs.Fits.{SectionFits, SectionsFit}
use Rattle.grammar.proofs.WindowCells.{last_small, stream-cells}
use Rattle.tidy.specs.Spans.{Span, covered}
use Rattle.tidy.specs.Steps.{Spaced}
use Rattle.tidy.specs.Tidy.{last_byte, window_over, tidy_windows, tidied, tidy_number}
use Rattle.tidy.proofs.TidyWindows.{tidy_spans, tidy_spaced, tidy_fits, tidy_nulled, tidy_small, tidy_covered}
use Rattle.tidy.proofs.Fewer.{fewer, shorter}
use Rattle.demands.specs.Loader.{Loader, AfterWrite, offered}
use Rattle.demands.specs.Patches.{Device, InSome}
use Rattle.demands.specs.OneFile.{KeepsTidy, Accepted, section, windows, TidyFile, tidying, Done, Gaps, InShape}
use Rattle.demands.proofs.Files.AcceptedAgain.{first_known}
use Rattle.demands.proofs.Files.SectionLists.{stream_long}
use Rattle.demands.proofs.Files.WrittenLoads.{Small, section_small}
use Rattle.demands.proofs.Patches.PatchLoads.{read_fits, read-stream}
use Rattle.demands.proofs.Patches.WrittenOnce.{stream_parts}
use Rattle.demands.proofs.Tidy.StreamRead.{tidy_one, file-stop, tidied_is}

-- ---- what was written

pub offered_is : (n : ℕ) (bytes out : List ℕ) (w : AfterWrite) → Writes n bytes out w.written w.out → Done w → offered w ≡ bytes
offered_is n bytes out w p z =
    let e : n ≡ done = sym (ap (λ (r : Written). r.number) p.answer) ∙ z in
    rw (p.answer, p.output, e) (take-append_seam bytes _)

-- as many bytes as are told, over the front of the output
as_told : (n : ℕ) (bytes out : List ℕ) (w : AfterWrite) → Writes n bytes out w.written w.out → Done w
    → (w.written.length ≡ length (offered w)) × (w.out ≡ over (offered w) out)
as_told n bytes out w p z =
    let e : n ≡ done = sym (ap (λ (r : Written). r.number) p.answer) ∙ z in
    let o = offered_is n bytes out w p z in
    (ap (λ (r : Written). r.length) p.answer ∙ rw (e, o), p.output ∙ rw (e, o))

-- ---- the shape of tidied windows

gaps_over : (v : ℕ → ℕ) (l : ℕ) (xs : List Span) → Spaced l xs → Gaps (map (window_over v) xs)
gaps_over v l [] s = tt
gaps_over v l (x ∷ []) s = tt
gaps_over v l (x ∷ y ∷ ys) s = (s.2.0, gaps_over v (x.end + 2) (y ∷ ys) s.2)

tidy_gaps : (size : ℕ) (ws : List Window) → Gaps (tidy_windows size ws)
unfolding tidy_windows
tidy_gaps size ws = gaps_over (last_byte ws) 0 (tidy_spans size ws) (tidy_spaced size ws)

m-covered : (ws : List Window) (i : ℕ) → Means (covered ws i) true (InSome i ws)
unfolding covered
m-covered [] i = record { says = λ e. let z : ◌≡◌ {A = ℕ} 0 1 = cc in omega arith; said = λ h. absurd h }
m-covered (w ∷ ws) i = m-or (m-and (m-le w.start i) (m-le i w.end)) (m-covered ws i)

-- ---- of one stream

module _ (c : Chain) (m : List ℕ) (d : Device c m) (s : List ℕ) (a : Accepted c s) where
  abbrev size : ℕ
  size = size_at c 0

  -- the section that is written, and its bytes
  abbrev pub written_section : Section
  written_section = tidy_one size (section a)

  abbrev pub written_bytes : List ℕ
  written_bytes = bytes_of (stream_sent c first_mode written_section [])

  pub fits : SectionFits size (section a)
  fits = read_fits c d.one first_mode s a.reading

  pub is_stream : bytes_of (stream_sent c first_mode (section a) []) ≡ s
  is_stream = read-stream c d.one first_mode s a.reading c

  file-done : (after : List ℕ) → (stream_stop size first_mode (s ++ after)).number ≡ done
  file-done after =
      ap (λ (t : List ℕ). (stream_stop size first_mode (t ++ after)).number) (sym is_stream)
      ∙ file-stop (get_or c.kinds 0 0) c (section a) after fits

  pub tidied-file : (after : List ℕ) → tidied size (s ++ after) ≡ written_bytes
  tidied-file after =
      ap (λ (t : List ℕ). tidied size (t ++ after)) (sym is_stream) ∙ tidied_is (get_or c.kinds 0 0) c (section a) after fits

  -- no more bytes
  short : length written_bytes ≤ length s
  short =
      let e : length (bytes_of (stream_sent c first_mode (section a) [])) ≡ length s = ap length is_stream in
      let n = stream_long first_mode c written_section false refl in
      let k = stream_long first_mode c (section a) false refl in
      omega (arith, shorter size (windows a) fits.fit)

  tidy_section_fits : SectionFits size written_section
  tidy_section_fits = record { few = omega (arith, fewer size (windows a), fits.few); fit = tidy_fits size (windows a) }

  -- its parts are bytes
  last_bytes : (i : ℕ) → last_byte (windows a) i < 256
  last_bytes i =
      subst (λ (v : ℕ). v < 256) (stream-cells c first_mode (section a) i 0)
      (last_small memory (stream_sent c first_mode (section a) []) i 0 (subst Bytes (sym is_stream) a.bytes) (lit< tt))

  parts : Small written_section
  parts =
      let p = stream_parts c first_mode (section a) (subst Bytes (sym is_stream) a.bytes) in
      (p.0, (p.1.0, (p.1.1.0, (p.1.1.1.0, tidy_small size (windows a) last_bytes))))

  pub tidy_bytes : Bytes written_bytes
  tidy_bytes = (lit< tt, section_small c (get_or c.kinds 0 0) written_section tidy_section_fits (tidy_nulled size (windows a)) parts)

  pub tidy_reading_fits : SectionsFit c 0 written_section []
  tidy_reading_fits = (omega (arith, d.one), tidy_section_fits)

  abbrev pub tidy_accepted : Accepted c written_bytes
  tidy_accepted = record { bytes = tidy_bytes; reading = record { first = written_section; others = []; fits = tidy_reading_fits; bytes = refl } }

  pub in_shape : InShape a written_bytes
  in_shape =
      record {
        accepted = tidy_accepted;
        head = record { control = refl; address0 = refl; address1 = refl; address2 = refl };
        gaps = tidy_gaps size (windows a);
        nulls_zero = tidy_nulled size (windows a);
        cells = λ i.
            let e = tidy_covered size (windows a) fits.fit i in
            let p = m-covered (windows a) i in
            let q = m-covered (tidy_windows size (windows a)) i in
            ((λ h. p.says (sym e ∙ q.said h)), (λ h. q.says (e ∙ p.said h)));
        fewer = fewer size (windows a);
        shorter = short;
      }

  -- by a tidier that keeps its promise
  module _ (l : Loader) (keeps : KeepsTidy l) (f : TidyFile a) where
    pub has_room : length s ≤ length f.out → Done (tidying l f)
    unfolding tidy_number
    has_room h =
        let long : length (tidied size (s ++ f.after)) ≤ length f.out = omega (arith, ap length (tidied-file f.after), short) in
        ap (λ (r : Written). r.number) (keeps (get_or c.kinds 0 0) (s ++ f.after) f.out).answer
        ∙ rw (ne_eqb size 0 (first_known c m d.idle), file-done f.after, le-ltb (length f.out) (length (tidied size (s ++ f.after))) long)

    pub told_is : Done (tidying l f) → (tidying l f).written.length ≡ length (offered (tidying l f))
    told_is z = (as_told (tidy_number (get_or c.kinds 0 0) (s ++ f.after) (length f.out)) (tidied size (s ++ f.after)) f.out (tidying l f)
        (keeps (get_or c.kinds 0 0) (s ++ f.after) f.out) z).0

    pub output_is : Done (tidying l f) → (tidying l f).out ≡ over (offered (tidying l f)) f.out
    output_is z = (as_told (tidy_number (get_or c.kinds 0 0) (s ++ f.after) (length f.out)) (tidied size (s ++ f.after)) f.out (tidying l f)
        (keeps (get_or c.kinds 0 0) (s ++ f.after) f.out) z).1

    pub written_is : Done (tidying l f) → offered (tidying l f) ≡ written_bytes
    written_is z =
        offered_is (tidy_number (get_or c.kinds 0 0) (s ++ f.after) (length f.out)) (tidied size (s ++ f.after)) f.out (tidying l f)
        (keeps (get_or c.kinds 0 0) (s ++ f.after) f.out) z
        ∙ tidied-file f.after
