-- Two patches listed, and written once: of every loader that meets clauses (a), (b) and (c) of the second demand, what is written is the stream that has the
-- windows of both, and leaves the memory that one patch and then the other leave. Assumes nothing.
use Prim.Native.Nat.{ℕ, ◌+◌, ◌≤◌}
use mathlib.Core.Bool.{Bool, true, false, ◌||◌}
use mathlib.Core.Path.{◌≡◌, refl, ap, sym, subst, ◌∙◌}
use mathlib.Core.List.{List, [], ◌∷◌, ◌++◌, append_assoc, append-nil}
use native.Mathlib.Omega.{arith}
use lib.Dec.{eqb}
use lib.ListN.{length, get_or, take, replicate, length-append, length-replicate}
use lib.Seq.{take-append_seam}
use Rattle.chain.specs.declared.Chain.{Chain}
use Rattle.chain.specs.Paper.{preamble, postamble, serial_external, serial_internal, two_preambles, writing, done}
use Rattle.chain.specs.Rules.{pick}
use Rattle.chain.specs.Kinds.{size_at}
use Rattle.chain.specs.Bytes.{Bytes}
use Rattle.chain.specs.Calls.{no_chain}
use Rattle.chain.proofs.Bytes.{bytes-append, bytes-front, bytes_rest}
use Rattle.writer.specs.Stream.{lead_in, section_of}
use Rattle.writer.specs.Write.{most_windows}
use Rattle.grammar.specs.Sent.{bytes_of}
use Rattle.grammar.specs.Stream.{Window, Section, sections_sent, stream_sent}
use Rattle.grammar.specs.Fits.{AllFit, SectionFits, Reading}
use Rattle.grammar.specs.Tables.{starts, ends, cells, null_byte, window_of, windows_from, nulled, nulls_off}
use Rattle.grammar.proofs.FromTables.{from_tables}
use Rattle.grammar.proofs.SectionBytes.{window_bytes, windows_bytes, section_bytes, section_bytes_lem, lead_bytes, stream-bytes, nulled_long}
use Rattle.demands.specs.Loader.{Loader, AfterWrite, offered, Mode}
use Rattle.demands.specs.Demand2.{ran, Demand2a}
use Rattle.demands.specs.Files.{wanted, given, Room, front, rewritten, Again, Wrote, Demand2b, Demand2c}
use Rattle.demands.specs.Patches.{Device, Patch, windows_in, Sending, AsOne}
use Rattle.demands.specs.WrittenOnce.{File, file_listing, file_data, written_once, WritesOne, WrittenAsOne}
use Rattle.demands.proofs.Files.WrittenLoads.{Small, any-chain}
use Rattle.demands.proofs.Patches.PatchLoads.{alone_read, read_fits, read-stream, file-taken}
use Rattle.demands.proofs.Patches.TwoLaws.{stacked_fits, stacked}

-- ---- the tables and the data of windows put together, and of windows with null bytes 00

starts-both : (vs ws : List Window) → starts vs ++ starts ws ≡ starts (nulled (vs ++ ws))
starts-both [] [] = refl
starts-both [] (w ∷ ws) = ap (w.start ∷◌) (starts-both [] ws)
starts-both (v ∷ vs) ws = ap (v.start ∷◌) (starts-both vs ws)

ends-both : (vs ws : List Window) → ends vs ++ ends ws ≡ ends (nulled (vs ++ ws))
ends-both [] [] = refl
ends-both [] (w ∷ ws) = ap (w.end ∷◌) (ends-both [] ws)
ends-both (v ∷ vs) ws = ap (v.end ∷◌) (ends-both vs ws)

cells-both : (vs ws : List Window) → cells vs ++ cells ws ≡ cells (nulled (vs ++ ws))
cells-both [] [] = refl
cells-both [] (w ∷ ws) = ap (λ (l : List ℕ). w.bytes ++ l) (cells-both [] ws)
cells-both (v ∷ vs) ws = append_assoc v.bytes (cells vs) (cells ws) ∙ ap (λ (l : List ℕ). v.bytes ++ l) (cells-both vs ws)

nulled_twice : (ws : List Window) → nulled (nulled ws) ≡ nulled ws
nulled_twice [] = refl
nulled_twice (w ∷ ws) = ap (window_of w.start w.end w.bytes ∷◌) (nulled_twice ws)

-- tables give one list of windows with null bytes 00
only_windows : (size : ℕ) (us ws : List Window) → AllFit size us → AllFit size ws → nulled us ≡ us → nulled ws ≡ ws
    → starts us ≡ starts ws → ends us ≡ ends ws → cells us ≡ cells ws → us ≡ ws
only_windows size us ws f g y z a b d =
    sym y
    ∙ sym (from_tables size us f)
    ∙ ap (λ (l : List ℕ). windows_from l (ends us) (cells us)) a
    ∙ ap (λ (l : List ℕ). windows_from (starts ws) l (cells us)) b
    ∙ ap (λ (l : List ℕ). windows_from (starts ws) (ends ws) l) d
    ∙ from_tables size ws g
    ∙ z

-- ---- the parts of a stream of bytes are bytes

cells_small : (ws : List Window) → Bytes (windows_bytes ws) → Bytes (cells ws)
cells_small [] u = tt
cells_small (w ∷ ws) u =
    bytes-append w.bytes (cells ws) (bytes-front (window_bytes w) (windows_bytes ws) u).1.1.1.1.1
    (cells_small ws (bytes_rest (window_bytes w) (windows_bytes ws) u))

section_parts : (s : Section) → Bytes (section_bytes s []) → Small s
section_parts s h =
    (h.0, (h.1.0, (h.1.1.0, (h.1.1.1.0, cells_small s.windows (bytes-front (windows_bytes s.windows) (postamble ∷ []) h.1.1.1.1.1)))))

pub stream_parts : (c : Chain) (mode : ℕ) (s : Section) → Bytes (bytes_of (stream_sent c mode s [])) → Small s
stream_parts c mode s u =
    section_parts s
    (bytes_rest (lead_bytes (eqb mode two_preambles)) (section_bytes s [])
    (subst Bytes (sym (append-nil (bytes_of (stream_sent c mode s []))) ∙ stream-bytes c mode s []) u))

-- ---- how long the stream of both is

windows_long : (vs ws : List Window) → length (windows_bytes (nulled (vs ++ ws))) ≡ length (windows_bytes vs) + length (windows_bytes ws)
windows_long [] ws = omega (arith, nulled_long ws)
windows_long (v ∷ vs) ws =
    omega (arith, length-append (window_bytes (window_of v.start v.end v.bytes)) (windows_bytes (nulled (vs ++ ws))), length-append (window_bytes v) (windows_bytes vs), windows_long vs ws)

section_long : (s : Section) → length (section_bytes s []) ≡ 6 + length (windows_bytes s.windows)
section_long s = omega (arith, length-append (windows_bytes s.windows) (postamble ∷ []))

lead_short : (mode : ℕ) → length (lead_in mode) ≤ 2
unfolding lead_in
lead_short mode = led (eqb mode serial_external || eqb mode serial_internal) (eqb mode two_preambles)
  where
    led : (k n : Bool) → length (pick k (null_byte ∷ preamble ∷ []) (pick n (preamble ∷ preamble ∷ []) (preamble ∷ []))) ≤ 2
    led true n = omega arith
    led false true = omega arith
    led false false = omega arith

wanted_long : (mode : ℕ) (s : Section) → length (wanted mode s) ≤ 8 + length (windows_bytes s.windows)
wanted_long mode s =
    let a : length (bytes_of (sections_sent no_chain 0 s [])) ≡ length (section_bytes s []) =
    ap length (sym (append-nil (bytes_of (sections_sent no_chain 0 s []))) ∙ section_bytes_lem no_chain s []) in
    omega (arith, a, section_long s, lead_short mode, length-append (lead_in mode) (bytes_of (sections_sent no_chain 0 s [])))

stream_long : (c : Chain) (mode : ℕ) (s : Section) → 7 + length (windows_bytes s.windows) ≤ length (bytes_of (stream_sent c mode s []))
stream_long c mode s =
    let a : length (bytes_of (stream_sent c mode s [])) ≡ length (lead_bytes (eqb mode two_preambles) ++ section_bytes s []) =
    ap length (sym (append-nil (bytes_of (stream_sent c mode s []))) ∙ stream-bytes c mode s []) in
    omega (arith, a, section_long s, led (eqb mode two_preambles), length-append (lead_bytes (eqb mode two_preambles)) (section_bytes s []))
  where
    led : (k : Bool) → 1 ≤ length (lead_bytes k)
    led true = omega arith
    led false = omega arith

-- ---- two files

module _ (l : Loader) (a : Demand2a l) (r : Demand2c l) (c : Chain) (m : List ℕ) (d : Device c m) where
  abbrev kind : ℕ
  kind = get_or c.kinds 0 0

  -- a stream with a reading, whatever follows it, lists as that and is written again
  pub again : (mode : ℕ) (s rest ts te to : List ℕ) (x : Reading c mode s) → Mode mode → Bytes s → Bytes rest → Room (length x.first.windows) ts te to
      → Again l kind mode (s ++ rest) (ran l writing mode c m [] (s ++ rest)).fed.answer.taken x.first (l.list kind mode (s ++ rest) ts te to)
  again mode s rest ts te to x o u v room =
      let g = file-taken l a c m mode s rest d o u x in
      let e : take (ran l writing mode c m [] (s ++ rest)).fed.answer.taken (s ++ rest) ≡ s = ap (λ (n : ℕ). take n (s ++ rest)) g.taken ∙ take-append_seam s rest in
      r c m writing mode (s ++ rest) ts te to d.idle o (bytes-append s rest u v) g.number
      (record { first = x.first; others = x.others; fits = x.fits; bytes = x.bytes ∙ sym e })
      (alone_read c d.one mode s x) room

  module _ (k n o : ℕ) (s t : List ℕ) (u : Section) (p : Patch c k s) (q : Patch c n t) (few : length (windows_in p) + length (windows_in q) ≤ most_windows)
      (e : u.windows ≡ nulled (windows_in p ++ windows_in q)) (mode : Mode o) (small : Bytes (bytes_of (stream_sent c o u []))) (f : File p) (g : File q) (out : List ℕ) where
    abbrev address : List ℕ
    address = u.address0 ∷ u.address1 ∷ u.address2 ∷ []

    f_lists : Again l kind k (s ++ f.after) (ran l writing k c m [] (s ++ f.after)).fed.answer.taken p.reading.first (file_listing l f)
    f_lists = again k s f.after f.starts f.ends f.offsets p.reading p.of_mode p.bytes f.after_bytes f.room

    g_lists : Again l kind n (t ++ g.after) (ran l writing n c m [] (t ++ g.after)).fed.answer.taken q.reading.first (file_listing l g)
    g_lists = again n t g.after g.starts g.ends g.offsets q.reading q.of_mode q.bytes g.after_bytes g.room

    -- what the writer is lent
    lent : written_once l f g o u out ≡ l.write kind o u.control address (starts u.windows) (ends u.windows) (cells u.windows) out
    lent =
        let x = f_lists.lists in
        let y = g_lists.lists in
        let i = file_listing l f in
        let j = file_listing l g in
        let ss : front i i.starts ++ front j j.starts ≡ starts u.windows = rw (x.starts, y.starts, e) (starts-both (windows_in p) (windows_in q)) in
        let es : front i i.ends ++ front j j.ends ≡ ends u.windows = rw (x.ends, y.ends, e) (ends-both (windows_in p) (windows_in q)) in
        let ds : file_data l f ++ file_data l g ≡ cells u.windows =
        ap (λ (b : List ℕ). b ++ file_data l g) x.cells ∙ ap (λ (b : List ℕ). cells (windows_in p) ++ b) y.cells ∙ cells-both (windows_in p) (windows_in q) ∙ ap cells (sym e) in
        ap (λ (b : List ℕ). l.write kind o u.control address b (front i i.ends ++ front j j.ends) (file_data l f ++ file_data l g) out) ss
        ∙ ap (λ (b : List ℕ). l.write kind o u.control address (starts u.windows) b (file_data l f ++ file_data l g) out) es
        ∙ ap (λ (b : List ℕ). l.write kind o u.control address (starts u.windows) (ends u.windows) b out) ds

    -- u fits: so it is accepted, lists, and is written again from its listing
    u_nulls : nulled u.windows ≡ nulled (windows_in p ++ windows_in q)
    u_nulls = ap nulled e ∙ nulled_twice (windows_in p ++ windows_in q)

    u_fits : SectionFits (size_at c 0) u
    u_fits =
        stacked_fits (size_at c 0) u (windows_in p) (windows_in q) (read_fits c d.one k s p.reading).fit (read_fits c d.one n t q.reading).fit few u_nulls

    u_same : nulled u.windows ≡ u.windows
    u_same = u_nulls ∙ sym e

    wanted-same : wanted o (nulls_off u) ≡ wanted o u
    wanted-same = ap (λ (ws : List Window). wanted o (section_of u.control address ws)) u_same

    abbrev bs : List ℕ
    bs = bytes_of (stream_sent c o u [])

    abbrev table : List ℕ
    table = replicate 255 0

    u_again : Again l kind o (bs ++ []) (ran l writing o c m [] (bs ++ [])).fed.answer.taken u (l.list kind o (bs ++ []) table table table)
    u_again =
        let room : length u.windows ≤ length table = omega (arith, u_fits.few, length-replicate {A = ℕ} 255 0) in
        again o bs [] table table table (record { first = u; others = []; fits = (omega (arith, d.one), u_fits); bytes = refl }) mode small tt
        (record { starts = room; ends = room; offsets = room })

    u_rewritten : rewritten l kind o (bs ++ []) (l.list kind o (bs ++ []) table table table) out ≡ written_once l f g o u out
    u_rewritten =
        let i = l.list kind o (bs ++ []) table table table in
        let x = u_again.lists in
        ap (λ (b : List ℕ). l.write kind o i.listed.control i.listed.address (front i i.starts) (front i i.ends) b out) x.cells
        ∙ ap (λ (b : List ℕ). l.write kind o i.listed.control i.listed.address (front i i.starts) b (cells u.windows) out) x.ends
        ∙ ap (λ (b : List ℕ). l.write kind o i.listed.control i.listed.address b (ends u.windows) (cells u.windows) out) x.starts
        ∙ ap (λ (b : List ℕ). l.write kind o i.listed.control b (starts u.windows) (ends u.windows) (cells u.windows) out) x.address
        ∙ ap (λ (b : ℕ). l.write kind o b address (starts u.windows) (ends u.windows) (cells u.windows) out) x.control
        ∙ sym lent

    number-done : length (wanted o u) ≤ length out → (written_once l f g o u out).written.number ≡ done
    number-done h =
        ap (λ (w : AfterWrite). w.written.number) (sym u_rewritten) ∙ u_again.number out (subst (λ (w : List ℕ). length w ≤ length out) (sym wanted-same) h)

    module _ (z : (written_once l f g o u out).written.number ≡ done) where
      bytes_are : offered (written_once l f g o u out) ≡ wanted o u
      bytes_are = ap offered (sym u_rewritten) ∙ u_again.bytes out (ap (λ (w : AfterWrite). w.written.number) u_rewritten ∙ z) ∙ wanted-same

      module _ (b : Demand2b l) where
        wrote : Wrote l kind o (section_of u.control address) (starts u.windows) (ends u.windows) (cells u.windows) (offered (written_once l f g o u out))
        wrote =
            subst (λ (w : AfterWrite). Wrote l kind o (section_of u.control address) (starts u.windows) (ends u.windows) (cells u.windows) (offered w)) (sym lent)
            (b kind o u.control u.address0 u.address1 u.address2 (starts u.windows) (ends u.windows) (cells u.windows) out
            (stream_parts c o u small) (ap (λ (w : AfterWrite). w.written.number) (sym lent) ∙ z))

        stream_is : given l o (offered (written_once l f g o u out)) ≡ bs
        stream_is =
            let w = wrote in
            let ws-are : w.windows ≡ u.windows =
            only_windows (size_at c 0) w.windows u.windows w.fits.fit u_fits.fit w.nulls_zero u_same w.starts_are w.ends_are w.cells_are in
            w.given_are
            ∙ ap (λ (ws : List Window). bytes_of (stream_sent no_chain o (section_of u.control address ws) [])) ws-are
            ∙ any-chain no_chain c o u

        leaves-both : (x : Sending k s) (y : Sending n t) (v : Sending o (given l o (offered (written_once l f g o u out)))) → AsOne l c m x y v
        leaves-both x y =
            subst (λ (w : List ℕ). (v : Sending o w) → AsOne l c m x y v) (sym stream_is) (stacked l a c m k n o s t u d p q few u_nulls mode small x y)

    writes_one : Demand2b l → WritesOne l m f g o u out (written_once l f g o u out)
    writes_one b =
        let same : length (windows_bytes u.windows) ≡ length (windows_bytes (nulled (windows_in p ++ windows_in q))) = ap (λ (ws : List Window). length (windows_bytes ws)) e in
        let s-is = ap length (read-stream c d.one k s p.reading c) in
        let t-is = ap length (read-stream c d.one n t q.reading c) in
        record {
          lists = (f_lists.lists.number, g_lists.lists.number);
          room =
              omega
              (arith, wanted_long o u, same, windows_long (windows_in p) (windows_in q), stream_long c k p.reading.first, stream_long c n q.reading.first, s-is, t-is);
          number = number-done;
          bytes = bytes_are;
          stream = λ z. stream_is z b;
          as_one = λ z. leaves-both z b;
        }

pub written_as_one : (l : Loader) → Demand2a l → Demand2b l → Demand2c l → WrittenAsOne l
written_as_one l a b r c m k n o s t u d p q few e mode small f g out = writes_one l a r c m d k n o s t u p q few e mode small f g out b
