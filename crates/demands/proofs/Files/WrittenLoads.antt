-- A section that fits, with null bytes 00, loads into every chain that lets it in, by any loader that meets clause (a): its bytes are the
-- same in every chain. Assumes nothing.
use Prim.Native.Nat.{ℕ, ◌/◌, ◌%◌, ◌≤◌, ◌<◌}
use mathlib.Core.Bool.{Bool, true, false}
use mathlib.Core.Path.{◌≡◌, sym, subst, ◌∙◌}
use mathlib.Core.List.{List, [], ◌∷◌, ◌++◌, append-nil}
use native.Mathlib.Nat.{div-add-mod', mod-lt}
use native.Mathlib.Omega.{arith}
use lib.Dec.{eqb, lit<}
use lib.ListN.{length, get_or}
use Rattle.chain.specs.declared.Chain.{Chain}
use Rattle.chain.specs.Paper.{preamble, postamble, no_windows, two_preambles}
use Rattle.chain.specs.Rules.{pick}
use Rattle.chain.specs.Kinds.{size_of}
use Rattle.chain.specs.Calls.{no_chain}
use Rattle.chain.proofs.Sizes.{size_most}
use Rattle.grammar.specs.Sent.{Sent, frame, bytes_of}
use Rattle.grammar.specs.Stream.{Window, Section, sections_sent, stream_sent}
use Rattle.grammar.specs.Fits.{AllFit, SectionFits, Lets, Fitting}
use Rattle.chain.specs.Bytes.{Bytes}
use Rattle.demands.specs.Loader.{Loader, Idle, Mode}
use Rattle.demands.specs.Demand2.{Loads, Demand2a}
use Rattle.grammar.specs.Tables.{cells, nulled}
use Rattle.chain.proofs.Bytes.{bytes-append, bytes-front, bytes_rest}
use Rattle.grammar.proofs.SectionBytes.{windows_bytes, section_bytes_lem, stream-bytes}
use Rattle.grammar.proofs.StartOpens.{count_sound}

-- ---- what is written are bytes

high_byte_lem : (x size : ℕ) → size ≤ 16381 → x < size → x / 256 < 256
high_byte_lem x size h l = omega (arith, div-add-mod' x 256)

low_byte : (x : ℕ) → x % 256 < 256
low_byte x = mod-lt x (lit< {m = 0} {n = 256} tt)

windows_small : (size : ℕ) (ws : List Window) → size ≤ 16381 → AllFit size ws → Bytes (cells ws) → Bytes (windows_bytes (nulled ws))
windows_small size [] h f u = tt
windows_small size (w ∷ ws) h f u =
    let o = f.0.order in
    let i = f.0.inside in
    bytes-append (0 ∷ (w.start / 256) ∷ (w.start % 256) ∷ (w.end / 256) ∷ (w.end % 256) ∷ w.bytes) (windows_bytes (nulled ws))
    (lit< tt, (high_byte_lem w.start size h (omega arith), (low_byte w.start, (high_byte_lem w.end size h i, (low_byte w.end, bytes-front w.bytes (cells ws) u)))))
    (windows_small size ws h f.1 (bytes_rest w.bytes (cells ws) u))

-- the parts of a section are bytes
abbrev pub Small : Section → Type 0
Small x = Bytes (x.control ∷ x.address0 ∷ x.address1 ∷ x.address2 ∷ cells x.windows)

pub section_small : (c : Chain) (kind : ℕ) (x : Section) → SectionFits (size_of kind) x → nulled x.windows ≡ x.windows → Small x
    → Bytes (bytes_of (sections_sent c 0 x []))
section_small c kind x f n u =
    let w : Bytes (windows_bytes x.windows) =
    subst (λ (ws : List Window). Bytes (windows_bytes ws)) n (windows_small (size_of kind) x.windows (size_most kind) f.fit u.1.1.1.1) in
    let few : length x.windows ≤ no_windows = f.few in
    subst (λ (l : List ℕ). Bytes l) (sym (sym (append-nil (bytes_of (sections_sent c 0 x []))) ∙ section_bytes_lem c x []))
    (u.0, (u.1.0, (u.1.1.0, (u.1.1.1.0, (omega arith, bytes-append (windows_bytes x.windows) (postamble ∷ []) w (lit< tt, tt))))))

-- ---- it loads

lead_small : (k : Bool) (xs : List Sent) → Bytes (bytes_of xs) → Bytes (bytes_of (pick k (frame preamble ∷ frame preamble ∷ []) (frame preamble ∷ []) ++ xs))
lead_small true xs u = (lit< tt, (lit< tt, u))
lead_small false xs u = (lit< tt, u)

pub any-chain : (c d : Chain) (mode : ℕ) (s : Section) → bytes_of (stream_sent c mode s []) ≡ bytes_of (stream_sent d mode s [])
any-chain c d mode s =
    sym (append-nil (bytes_of (stream_sent c mode s []))) ∙ stream-bytes c mode s [] ∙ sym (stream-bytes d mode s []) ∙ append-nil (bytes_of (stream_sent d mode s []))

module _ (kind mode : ℕ) (s : Section) (f : SectionFits (size_of kind) s) (z : nulled s.windows ≡ s.windows) (u : Small s) where
  -- it fits the chain, and what is stored in it
  pub written_fits : (c : Chain) (check : ℕ) → 0 < c.count → get_or c.kinds 0 0 ≡ kind → Lets check (get_or c.registers 0 0) s.control
      → Fitting c check mode s []
  written_fits c check some first lets =
      record {
        fits = (some, subst (λ (k : ℕ). SectionFits (size_of k) s) (sym first) f);
        lets = lets;
        bytes = lead_small (eqb mode two_preambles) (sections_sent c 0 s []) (section_small c kind s f z u);
      }

  pub written_loads : (l : Loader) → Demand2a l → (bs : List ℕ) → bs ≡ bytes_of (stream_sent no_chain mode s [])
      → (c : Chain) (m : List ℕ) (check : ℕ) → Idle c m → Mode mode → get_or c.kinds 0 0 ≡ kind → Lets check (get_or c.registers 0 0) s.control
      → Loads l check mode c m bs (stream_sent c mode s [])
  written_loads l a bs e c m check i o first lets =
      let some = (count_sound c (length m) i.sound).0 in
      subst (λ (x : List ℕ). Loads l check mode c m x (stream_sent c mode s [])) (any-chain c no_chain mode s ∙ sym e)
      (a c m check mode s [] i o (written_fits c check some first lets))
