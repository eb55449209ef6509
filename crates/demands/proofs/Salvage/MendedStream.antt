-- Of every loader whose salvage keeps its promise: the stream cut at offset, its count put right, and 4D is an accepted stream of a device of that kind, and
-- what is salvaged is that stream, null bytes 00. The machine is not mentioned. Assumes nothing.
use Prim.Native.Nat.{ℕ}
use mathlib.Core.Path.{◌≡◌, ap, sym, subst, ◌∙◌}
use mathlib.Core.List.{List, [], ◌∷◌, append-nil}
use native.Mathlib.Omega.{arith}
use lib.Dec.{lit<}
use lib.ListN.{get_or, take, drop}
use Rattle.chain.specs.declared.Chain.{Chain}
use Rattle.chain.specs.Paper.{postamble, first_mode, done}
use Rattle.chain.specs.Kinds.{size_of}
use Rattle.chain.specs.Bytes.{Bytes}
use Rattle.chain.proofs.Bytes.{bytes-append, bytes_take, bytes-at, bytes_drop}
use Rattle.grammar.specs.Sent.{bytes_of}
use Rattle.grammar.specs.Stream.{Window, Section, stream_sent}
use Rattle.grammar.specs.Fits.{SectionFits}
use Rattle.grammar.specs.Tables.{nulls_off}
use Rattle.grammar.proofs.SectionBytes.{windows_bytes, stream-bytes}
use Rattle.reader.specs.Stream.{head_length}
use Rattle.reader.specs.Given.{with_head}
use Rattle.salvage.specs.Salvage.{offset_of, salvaged, changes_of}
use Rattle.demands.specs.Loader.{Loader}
use Rattle.demands.specs.OldDisks.{KeepsSalvage, InOrder, mended, AsMended}
use Rattle.demands.proofs.Salvage.KeptWindows.{raws, raws-kept, raws_many, raws_fit, kept_few, salvaged_is}
use Rattle.demands.proofs.Salvage.SoundStream.{in_order, changes_are, rescued_is}
use Rattle.demands.proofs.Salvage.FrontPart.{front_is}

module _ (kind : ℕ) (s : List ℕ) (u : Bytes s) (o : InOrder kind s) (c : Chain) where
  abbrev size : ℕ
  size = size_of kind

  -- the whole windows, each with its own null byte, under the stream's head
  abbrev own_section : Section
  own_section = with_head s (raws size s)

  own_fits : SectionFits size own_section
  own_fits = record { few = omega (arith, raws_many size s, kept_few size s); fit = raws_fit size s }

  -- its stream is the front part with another count, and 4D
  is_mended : bytes_of (stream_sent c first_mode own_section []) ≡ mended s (changes_of size s done)
  is_mended =
      sym (append-nil (bytes_of (stream_sent c first_mode own_section []))) ∙ stream-bytes c first_mode own_section []
      ∙ rw (raws_many size s, front_is kind s u o.six o.first)

  mended_small : Bytes (mended s (changes_of size s done))
  mended_small =
      let front = front_is kind s u o.six o.first in
      let all = bytes_take (offset_of size s) s u in
      let body : Bytes (windows_bytes (raws size s)) =
      subst (λ (t : List ℕ). Bytes (drop head_length t)) front (bytes_drop head_length (take (offset_of size s) s) all) in
      let end = bytes-append (windows_bytes (raws size s)) (postamble ∷ []) body (lit< tt, tt) in
      rw front (lit< tt, (bytes-at s u 1, (bytes-at s u 2, (bytes-at s u 3, (bytes-at s u 4, (omega arith, end))))))

  -- and with null bytes 00 it is what is salvaged
  own-salvaged : salvaged size s ≡ bytes_of (stream_sent c first_mode (nulls_off own_section) [])
  own-salvaged =
      salvaged_is size s c ∙ ap (λ (ws : List Window). bytes_of (stream_sent c first_mode (with_head s ws) [])) (sym (raws-kept size s))

pub as_mended : (l : Loader) → KeepsSalvage l → AsMended l
as_mended l keeps c m s out d u z =
    let kind : ℕ = get_or c.kinds 0 0 in
    let o = in_order l keeps kind s out z in
    let same : mended s (changes_of (size_of kind) s done) ≡ mended s (l.salvage kind s out).salvaged = ap (mended s) (sym (changes_are l keeps kind s out z)) in
    record {
      accepted =
          record {
            bytes = subst Bytes same (mended_small kind s u o c);
            reading =
                record {
                  first = own_section kind s u o c;
                  others = [];
                  fits = (omega (arith, d.one), own_fits kind s u o c);
                  bytes = is_mended kind s u o c ∙ same;
                };
          };
      bytes = rescued_is l keeps kind s out z ∙ own-salvaged kind s u o c;
    }
