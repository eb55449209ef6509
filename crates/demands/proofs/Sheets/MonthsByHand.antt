-- The two months, in mode 1 and in mode 3, loaded by hand: the claims of the rows are not hollow. Assumes nothing.
use Prim.Native.Nat.{ℕ, ◌+◌, ◌≤◌}
use mathlib.Core.Logic.{◌≢◌}
use mathlib.Core.Path.{refl, ap, subst}
use mathlib.Core.List.{List}
use native.Mathlib.Omega.{arith}
use lib.ListN.{replicate}
use Rattle.chain.specs.Kinds.{size_of}
use Rattle.chain.proofs.Bytes.{bytes_below}
use Rattle.sheet.specs.Stream.{reset_device}
use Rattle.sheet.specs.Sheet.{streams_of}
use Rattle.demands.specs.Loader.{AfterSheet}
use Rattle.demands.specs.LoadSheets.{RowsByHand}
use Rattle.demands.specs.Ours.{ours}
use Rattle.demands.proofs.Sheets.OneDevice.{reset_there}
use Rattle.demands.proofs.Sheets.RowsByHand.{hand_kept, every_alone}
use Rattle.demands.proofs.Sheets.OneMonth.{month, month_lengths, month_sheet, one-month}
use Rattle.demands.proofs.Sheets.SerialMonth.{serial_month, serial_lengths, serial_sheet, serial_month_lem}

-- the teaching array has 52 cells
pub known : size_of 0 ≢ 0
known e = unfold size_of in omega (arith, e)

room : size_of 0 + 3 ≤ 99
room = unfold size_of in omega arith

-- an output of 99 bytes, lent to hunt and closing
abbrev lent : List ℕ
lent = replicate 99 0

pub month-by_hand : RowsByHand ours 1 (streams_of month_lengths month) (reset_device 0) lent (replicate 8 77) (replicate 48 88) month_sheet
month-by_hand =
    subst (RowsByHand ours 1 (streams_of month_lengths month) (reset_device 0) lent (replicate 8 77) (replicate 48 88)) one-month
    (every_alone ours hand_kept 0 1 month month_lengths (replicate 8 77) (replicate 48 88) (bytes_below month refl)
    (ap (λ (w : AfterSheet). w.sums.number) one-month) (reset_device 0) (reset_there 0 known) lent (omega arith) room)

pub serial-by_hand : RowsByHand ours 3 (streams_of serial_lengths serial_month) (reset_device 0) lent (replicate 5 77) (replicate 31 88) serial_sheet
serial-by_hand =
    subst (RowsByHand ours 3 (streams_of serial_lengths serial_month) (reset_device 0) lent (replicate 5 77) (replicate 31 88)) serial_month_lem
    (every_alone ours hand_kept 0 3 serial_month serial_lengths (replicate 5 77) (replicate 31 88) (bytes_below serial_month refl)
    (ap (λ (w : AfterSheet). w.sums.number) serial_month_lem) (reset_device 0) (reset_there 0 known) lent (omega arith) room)
