-- Of every loader that meets clause (a) of the second demand and whose salvage keeps its promise: what is salvaged leaves the cells and registers that the
-- stream itself had left up to the byte after its last whole window, where its run is still open. Assumes nothing.
use Prim.Native.Nat.{ℕ, ◌<◌}
use mathlib.Core.Bool.{true≢false}
use mathlib.Core.Path.{◌≡◌, ap, sym, subst, ◌∙◌}
use mathlib.Core.List.{List, [], ◌++◌}
use native.Mathlib.Omega.{arith}
use lib.Dec.{eqb}
use lib.ListN.{length, get_or, take}
use Rattle.chain.specs.declared.Chain.{Chain}
use Rattle.chain.specs.Paper.{writing, first_mode, more}
use Rattle.chain.specs.Rules.{pick}
use Rattle.chain.specs.Kinds.{size_of}
use Rattle.chain.specs.Bytes.{Bytes}
use Rattle.grammar.specs.Sent.{Sent, memory, registers, last_to}
use Rattle.grammar.specs.Stream.{Window, windows_sent}
use Rattle.grammar.proofs.StartOpens.{count_sound}
use Rattle.grammar.proofs.WindowCells.{stream-cells, stream_register, windows_no_register, null_bytes}
use Rattle.reader.specs.Stream.{control_at}
use Rattle.reader.specs.Given.{given_of}
use Rattle.salvage.specs.declared.Salvaged.{Salvaged}
use Rattle.salvage.specs.Salvage.{offset_of}
use Rattle.demands.specs.Loader.{Loader, AfterSlice}
use Rattle.demands.specs.Demand2.{Seen, joined, ran, Demand2a}
use Rattle.demands.specs.Patches.{left_by}
use Rattle.demands.specs.OldDisks.{KeepsSalvage, InOrder, Welcomes, kept_section, AsFarAsWhole}
use Rattle.demands.proofs.Loads.StreamA.{mode-one}
use Rattle.demands.proofs.Files.AcceptedAgain.{first_known}
use Rattle.demands.proofs.Patches.TwoLaws.{same-cells}
use Rattle.demands.proofs.Salvage.KeptWindows.{raws, raws-kept}
use Rattle.demands.proofs.Salvage.SoundStream.{in_order, changes_are, sound_always}
use Rattle.demands.proofs.Salvage.FrontPart.{filled_one, front_sent, front-short, front_sent_lem, front-taken, filled_fitting}

-- ---- what the front part leaves in a cell and in a register: the kept windows, and the control byte

module _ (kind : ℕ) (s : List ℕ) where
  front-cells : (i old : ℕ) → last_to memory (front_sent kind s) i old ≡ last_to memory (windows_sent 0 (given_of (size_of kind) s)) i old
  front-cells i old =
      sym (null_bytes 0 (raws (size_of kind) s) i old)
      ∙ ap (λ (ws : List Window). last_to memory (windows_sent 0 ws) i old) (raws-kept (size_of kind) s)

  front_register : (i old : ℕ) → last_to registers (front_sent kind s) i old ≡ pick (eqb i 0) (control_at s 0) old
  front_register i old = windows_no_register 0 (raws (size_of kind) s) i (pick (eqb i 0) (control_at s 0) old)

-- ---- the stream, up to there

module _ (l : Loader) (meets : Demand2a l) (kind : ℕ) (s : List ℕ) (u : Bytes s) (o : InOrder kind s)
    (c : Chain) (m : List ℕ) (d : Welcomes kind c m) where
  front_seen : (ps : List (List ℕ)) (last : List ℕ) → joined ps ++ last ≡ take (offset_of (size_of kind) s) s
      → Seen writing c m (front_sent kind s) more (ran l writing first_mode c m ps last)
  front_seen ps last e =
      let at : ℕ = offset_of (size_of kind) s in
      let some : 0 < size_of kind = subst (λ (k : ℕ). 0 < size_of k) d.first (omega (arith, first_known c m d.idle)) in
      let fitting =
      filled_fitting kind s u o.six o.first c some (count_sound c (length m) d.idle.sound).0 d.first
      (record { b4 = d.clear; b3 = λ q. absurd (true≢false q); sent_b3 = λ q. absurd (true≢false q) }) in
      subst (λ (xs : List Sent). Seen writing c m xs more (ran l writing first_mode c m ps last)) (front_sent_lem kind s u o.six o.first c)
      ((meets c m writing first_mode (filled_one kind s) [] d.idle mode-one fitting).part at (front-short kind s u o.six o.first c) ps last
      (e ∙ sym (front-taken kind s u o.six o.first c)))

pub as_far_as_whole : (l : Loader) → Demand2a l → KeepsSalvage l → AsFarAsWhole l
as_far_as_whole l meets keeps kind s out u z c m d ps last e x =
    let a : AfterSlice = ran l writing first_mode c m ps last in
    let b : AfterSlice = left_by l c m x in
    let at : (l.salvage kind s out).salvaged.offset ≡ offset_of (size_of kind) s = ap (λ (r : Salvaged). r.offset) (changes_are l keeps kind s out z) in
    let p = front_seen l meets kind s u (in_order l keeps kind s out z) c m d ps last (e ∙ ap (λ (n : ℕ). take n s) at) in
    let q = ((sound_always l meets keeps kind s out u z).loads c m d).whole x.before x.byte x.last x.rest x.all in
    record {
      still_open = p.number;
      memory =
          same-cells (length m) a.memory b.memory p.cells_many q.cells_many
          (λ i h.
          p.cells i h
          ∙ front-cells kind s i (get_or m i 0)
          ∙ sym (q.cells i h ∙ stream-cells c first_mode (kept_section (size_of kind) s) i (get_or m i 0)));
      registers =
          same-cells (length c.registers) a.fed.chain.registers b.fed.chain.registers p.regs_many q.regs_many
          (λ i h.
          p.regs i h
          ∙ front_register kind s i (get_or c.registers i 0)
          ∙ sym (q.regs i h ∙ stream_register c first_mode (kept_section (size_of kind) s) i (get_or c.registers i 0)));
    }
