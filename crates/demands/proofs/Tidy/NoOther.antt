-- The claims leave a tidier no other bytes: whatever tidier a loader has, if what it writes has the shape and loads as the stream does, it writes the
-- tidied stream, for windows in order with gaps are tidied to themselves. So it gives one file to one meaning, and tidying twice changes nothing.
-- Assumes nothing.
use Prim.Native.Nat.{ℕ, ◌+◌, ◌≤◌, ◌<◌}
use mathlib.Core.Bool.{false}
use mathlib.Core.Path.{◌≡◌, refl, ap, sym, ◌∙◌}
use mathlib.Core.List.{List, [], ◌∷◌, map}
use native.Mathlib.Omega.{arith}
use Rattle.chain.specs.declared.Chain.{Chain}
use Rattle.chain.specs.Paper.{first_mode}
use Rattle.chain.specs.Kinds.{size_at}
use Rattle.chain.specs.Window.{width_of}
use Rattle.grammar.specs.Sent.{bytes_of}
use Rattle.grammar.specs.Stream.{Window, Section, stream_sent}
use Rattle.grammar.specs.Fits.{Fits, AllFit}
use Rattle.grammar.specs.Tables.{nulled}
use Rattle.tidy.specs.Spans.{covered, values_of}
use Rattle.tidy.specs.Steps.{bounds_of, Spaced}
use Rattle.tidy.specs.Tidy.{last_byte, window_over, tidy_windows}
use Rattle.tidy.proofs.HasCell.{has_yes, has_above, spanned_low}
use Rattle.tidy.proofs.Canon.{spans_are}
use Rattle.tidy.proofs.Gathering.{bounds_below, bounds_cells}
use Rattle.tidy.proofs.WindowEffect.{byte_for, window-values, windows-more, windows_last}
use Rattle.demands.specs.Loader.{Loader, offered}
use Rattle.demands.specs.Demand2.{Demand2a}
use Rattle.demands.specs.Patches.{Device}
use Rattle.demands.specs.OneFile.{Accepted, section, windows, TidyFile, tidying, Done, Gaps, InShape, SameMeaning, TidiesAll, OnlyTidied, OneFile, Twice}
use Rattle.demands.proofs.Tidy.StreamRead.{tidy_one}
use Rattle.demands.proofs.Tidy.TidiedStream.{written_bytes, fits, is_stream, tidied-file}
use Rattle.demands.proofs.Tidy.OneMeaning.{one-file, one_meaning}

-- ---- the spans of windows in order with gaps

gaps_spaced : (size l : ℕ) (w : Window) (ws : List Window) → l ≤ w.start → AllFit size (w ∷ ws) → Gaps (w ∷ ws) → Spaced l (bounds_of (w ∷ ws))
gaps_spaced size l w [] h f g = (h, f.0.order, tt)
gaps_spaced size l w (x ∷ xs) h f g = (h, f.0.order, gaps_spaced size (w.end + 2) x xs g.0 f.1 g.1)

spaced : (size : ℕ) (ws : List Window) → AllFit size ws → Gaps ws → Spaced 0 (bounds_of ws)
spaced size [] f g = tt
spaced size (w ∷ ws) f g = gaps_spaced size 0 w ws (omega arith) f g

-- ---- their last bytes are their own

-- of the first, where the others have no cell up to its end
first_byte : (size : ℕ) (w : Window) (ws : List Window) → AllFit size (w ∷ ws) → Spaced (w.end + 2) (bounds_of ws)
    → (i : ℕ) → w.start ≤ i → i ≤ w.end → last_byte (w ∷ ws) i ≡ byte_for w i
first_byte size w ws f s i h g =
    let none : covered ws i ≡ false = sym (bounds_cells ws i) ∙ spanned_low (bounds_of ws) (w.end + 2) i s (omega arith) in
    windows-more size w ws i 0 f.0
    ∙ rw (has_yes w.start w.end i h g) (windows_last size ws i (byte_for w i) f.1 ∙ rw none)

-- beyond it, those of the others
later-byte : (size : ℕ) (w : Window) (ws : List Window) → Fits size w → (i : ℕ) → w.end < i → last_byte (w ∷ ws) i ≡ last_byte ws i
later-byte size w ws f i h = windows-more size w ws i 0 f ∙ rw (has_above w.start w.end i h)

own-windows : (size l : ℕ) (ws : List Window) (v : ℕ → ℕ) → AllFit size ws → Spaced l (bounds_of ws) → ((i : ℕ) → l ≤ i → v i ≡ last_byte ws i)
    → map (window_over v) (bounds_of ws) ≡ nulled ws
own-windows size l [] v f s e = refl
own-windows size l (w ∷ ws) v f s e =
    let here : values_of v (width_of w.start w.end) w.start ≡ w.bytes =
    window-values size w v f.0 (λ i h g. e i (omega (arith, s.0)) ∙ first_byte size w ws f s.2 i h g) in
    let later : map (window_over v) (bounds_of ws) ≡ nulled ws =
    own-windows size (w.end + 2) ws v f.1 s.2
    (λ i h. e i (omega (arith, s.0, s.1)) ∙ later-byte size w ws f.0 i (omega arith)) in
    rw (here, later)

-- tidied, they are these again, null bytes 00
pub tidy_already : (size : ℕ) (ws : List Window) → AllFit size ws → Gaps ws → tidy_windows size ws ≡ nulled ws
unfolding tidy_windows
tidy_already size ws f g =
    let s = spaced size ws f g in
    ap (map (window_over (last_byte ws))) (spans_are (bounds_of ws) (covered ws) size s (bounds_below size ws f) (bounds_cells ws))
    ∙ own-windows size 0 ws (last_byte ws) f s (λ i _. refl)

-- ---- a stream of the shape

module _ (c : Chain) (m s u : List ℕ) (d : Device c m) (a : Accepted c s) (p : InShape a u) where
  own_section_lem : tidy_one (size_at c 0) (section p.accepted) ≡ section p.accepted
  own_section_lem =
      let e : tidy_windows (size_at c 0) (windows p.accepted) ≡ windows p.accepted =
      tidy_already (size_at c 0) (windows p.accepted) (fits c m d u p.accepted).fit p.gaps ∙ p.nulls_zero in
      rw e

  own-bytes : written_bytes c m d u p.accepted ≡ u
  own-bytes = ap (λ (x : Section). bytes_of (stream_sent c first_mode x [])) own_section_lem ∙ is_stream c m d u p.accepted

pub only_tidied : (l : Loader) → Demand2a l → TidiesAll l → OnlyTidied l
only_tidied l meets tidies c m s d a f z =
    let t = tidies c m s d a f in
    let p = t.shape z in
    let u : List ℕ = offered (tidying l f) in
    let same : SameMeaning l a p.accepted =
    record {
      head =
          record {
            control = sym p.head.control;
            address0 = sym p.head.address0;
            address1 = sym p.head.address1;
            address2 = sym p.head.address2;
          };
      memory = λ n e x y. (t.loads z n e x y).memory;
    } in
    sym (own-bytes c m s u d a p) ∙ sym (one-file l meets c m d a p.accepted same) ∙ sym (tidied-file c m d s a f.after)

-- ---- so, of every such tidier, one file for one meaning

module _ (l : Loader) (meets : Demand2a l) (tidies : TidiesAll l) where
  written : (c : Chain) (m s : List ℕ) (d : Device c m) (a : Accepted c s) (f : TidyFile a) → Done (tidying l f) → offered (tidying l f) ≡ written_bytes c m d s a
  written c m s d a f z = only_tidied l meets tidies c m s d a f z ∙ tidied-file c m d s a f.after

  -- (ii)
  pub one-file_each : OneFile l
  one-file_each c m s t d a b f g y z =
      let p = written c m s d a f y in
      let q = written c m t d b g z in
      ((λ e. one_meaning l meets c m d a b (sym p ∙ e ∙ q)), (λ same. p ∙ one-file l meets c m d a b same ∙ sym q))

  -- (iii)
  pub twice : Twice l
  twice c m s d a f y after out =
      let p = (tidies c m s d a f).shape y in
      let u : List ℕ = offered (tidying l f) in
      let g : TidyFile p.accepted = record { after = after; out = out } in
      ((tidies c m u d p.accepted g).room, (λ z. written c m u d p.accepted g z ∙ own-bytes c m s u d a p))
