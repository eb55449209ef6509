-- What is kept of a stream of bytes, under its own head: windows that fit, null bytes 00, and all their parts are bytes; written, their 4D comes where the
-- last one had ended. The machine is not mentioned. Assumes nothing.
use Prim.Native.Nat.{ℕ, ◌+◌, ◌≤◌}
use mathlib.Core.Path.{◌≡◌, refl, sym, ap, subst, ◌∙◌}
use mathlib.Core.List.{List, [], ◌∷◌, map}
use native.Mathlib.Omega.{arith}
use lib.ListN.{length, take, drop, length-map}
use Rattle.chain.specs.declared.Chain.{Chain}
use Rattle.chain.specs.Paper.{first_mode}
use Rattle.chain.specs.Kinds.{base_of}
use Rattle.chain.specs.Window.{width_of}
use Rattle.chain.specs.Bytes.{Bytes}
use Rattle.chain.proofs.Bytes.{bytes-append, bytes_take, bytes-at, bytes_drop}
use Rattle.grammar.specs.Sent.{bytes_of}
use Rattle.grammar.specs.Stream.{Window, stream_sent}
use Rattle.grammar.specs.Fits.{AllFit, SectionFits}
use Rattle.grammar.specs.Tables.{cells, nulled}
use Rattle.reader.specs.Windows.{ReadWindow, windows_of}
use Rattle.reader.specs.Stream.{head_length, count_at}
use Rattle.reader.specs.Given.{window_in, given_of}
use Rattle.salvage.specs.Salvage.{offset_of, salvaged}
use Rattle.salvage.proofs.WholeWindows.{raws_in, raws-nulled, few, inside, fit}
use Rattle.salvage.proofs.FrontBytes.{sound_long}
use Rattle.demands.specs.OldDisks.{kept_section}
use Rattle.demands.proofs.Files.WrittenLoads.{Small}
use Rattle.demands.proofs.Patches.TwoLaws.{fit_unnulled, nulled_many}

-- ---- windows that were read

module _ (s : List ℕ) where
  own_nulls : (ws : List ReadWindow) → nulled (map (window_in s) ws) ≡ map (window_in s) ws
  own_nulls [] = refl
  own_nulls (w ∷ ws) = ap (λ (vs : List Window). window_in s w ∷ vs) (own_nulls ws)

  cells_small : Bytes s → (ws : List ReadWindow) → Bytes (cells (map (window_in s) ws))
  cells_small u [] = tt
  cells_small u (w ∷ ws) =
      let n = width_of w.start w.end in
      bytes-append (take n (drop w.first s)) (cells (map (window_in s) ws)) (bytes_take n (drop w.first s) (bytes_drop w.first s u)) (cells_small u ws)

-- ---- those that are kept

module _ (size : ℕ) (s : List ℕ) where
  abbrev whole : List ReadWindow
  whole = windows_of size s (count_at s 0) head_length

  -- as they stand in the stream, each with its own null byte
  abbrev pub raws : List Window
  raws = raws_in s head_length whole

  pub raws-kept : nulled raws ≡ given_of size s
  unfolding given_of
  raws-kept = raws-nulled s head_length whole

  pub raws_many : length raws ≡ length (given_of size s)
  raws_many = sym (nulled_many raws) ∙ ap length raws-kept

  pub kept-nulled : nulled (given_of size s) ≡ given_of size s
  unfolding given_of
  kept-nulled = own_nulls s whole

  pub kept_few : length (given_of size s) ≤ count_at s 0
  unfolding given_of
  kept_few = omega (arith, length-map whole (window_in s), few size s (count_at s 0) head_length)

  pub kept_fits : SectionFits size (kept_section size s)
  kept_fits = record { few = omega (arith, kept_few); fit = unfold given_of in fit size s (count_at s 0) head_length }

  pub raws_fit : AllFit size raws
  raws_fit = fit_unnulled size raws (subst (λ (ws : List Window). AllFit size ws) (sym raws-kept) kept_fits.fit)

  -- their stream, in any chain
  pub salvaged_is : (c : Chain) → salvaged size s ≡ bytes_of (stream_sent c first_mode (kept_section size s) [])
  unfolding salvaged base_of
  salvaged_is c = refl

  pub offset-inside : head_length ≤ length s → offset_of size s ≤ length s
  unfolding offset_of
  offset-inside six = inside size s (count_at s 0) head_length six

  module _ (u : Bytes s) where
    pub kept_small : Small (kept_section size s)
    unfolding given_of
    kept_small = (bytes-at s u 1, (bytes-at s u 2, (bytes-at s u 3, (bytes-at s u 4, cells_small s u whole))))

    module _ (six : head_length ≤ length s) where
      pub salvaged_long : length (salvaged size s) ≡ offset_of size s + 1
      unfolding offset_of salvaged given_of
      salvaged_long = sound_long size s (bytes-at s u) (count_at s 0) six
