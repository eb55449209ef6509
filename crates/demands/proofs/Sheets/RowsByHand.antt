-- The rows of a sheet are what the loader's own calls give, of every loader whose calls keep their promises. Assumes nothing.
use Prim.Native.Nat.{ℕ, ◌+◌, ◌≤◌}
use mathlib.Core.Bool.{true}
use mathlib.Core.Path.{◌≡◌, refl, ap, ap₂, sym, subst, ◌∙◌}
use mathlib.Core.List.{List, [], ◌∷◌}
use native.Mathlib.Omega.{arith}
use lib.ListN.{length, length-replicate}
use Rattle.chain.specs.Paper.{first_mode, two_preambles, done}
use Rattle.chain.specs.Rules.{from}
use Rattle.chain.specs.Kinds.{size_of}
use Rattle.chain.specs.Output.{over, output_of}
use Rattle.sheet.specs.declared.Sheet.{Sheet}
use Rattle.sheet.specs.Stream.{Device, reset_device, left_by}
use Rattle.sheet.specs.Sheet.{streams_of, rows_of, numbers_of, figures_of, sheet_number, sheet_rows}
use Rattle.sheet.proofs.Accepted.{accepted}
use Rattle.sheet.proofs.Left.{Idle, left-idle, left-size, reset_idle}
use Rattle.sheet.proofs.Totals.{bytes_in_all, AllBytes, streams_in_all, streams_bytes}
use Rattle.demands.specs.Loader.{Loader, with_start, with_slice, with_closing, with_hunt, with_sheet}
use Rattle.demands.specs.LoadSheets.{KeepsHand, hand_rows, Alone}
use Rattle.demands.specs.Ours.{ours}
use Rattle.demands.proofs.Promised.{start-ours, slice_ours, closing-ours, hunt_ours}
use Rattle.demands.proofs.Numbers.SheetTables.{sheet_number_lem}
use Rattle.demands.proofs.Sheets.Kept.{sheet_kept, sheet_as_ours}
use Rattle.demands.proofs.Sheets.OneDevice.{reset_is}
use Rattle.demands.proofs.Sheets.ByHand.{lending, one_row, one_left}

-- ---- streams one after another

module _ (l : Loader) (out : List ℕ) (mode : ℕ) (m : from first_mode two_preambles mode ≡ true) where
  hand_rows_lem : (ss : List (List ℕ)) (d : Device) → Idle d → AllBytes ss → bytes_in_all ss ≤ length out → length d.memory + 3 ≤ length out
      → hand_rows (lending l) out mode d ss ≡ rows_of d mode ss
  hand_rows_lem [] d i u h g = refl
  hand_rows_lem (s ∷ ss) d i u h g =
      ap₂ (λ (r : Sheet) (rs : List Sheet). r ∷ rs)
      (one_row l out mode s (omega arith) d i m u.0 g)
      (ap (λ (e : Device). hand_rows (lending l) out mode e ss) (one_left l out mode s (omega arith) d i m u.0 g)
      ∙ hand_rows_lem ss (left_by d mode s) (left-idle d mode s i m u.0) u.1 (omega arith) (omega (arith, left-size d mode s i m u.0)))

-- ---- the sheet

alone_lent : (l : Loader) → Alone (lending l)
unfolding sheet_rows
alone_lent l kind mode s lengths numbers figures u z d r out room spare =
    let n : ℕ = sheet_number kind mode s lengths (length numbers) (length figures) in
    let e : n ≡ done = sym (sheet_number_lem kind mode s lengths n) ∙ z in
    let a = accepted kind mode s lengths (length numbers) (length figures) e in
    let q = reset_is kind d r in
    let h : hand_rows (lending l) out mode d (streams_of lengths s) ≡ sheet_rows kind mode s lengths =
    ap (λ (x : Device). hand_rows (lending l) out mode x (streams_of lengths s)) q
    ∙ hand_rows_lem l out mode a.mode_known (streams_of lengths s) (reset_device kind) (reset_idle kind a.known) (streams_bytes lengths s u)
    (omega (arith, streams_in_all lengths s)) (omega (arith, length-replicate {A = ℕ} (size_of kind) 0)) in
    record {
      numbers_left =
          ap (λ (x : ℕ). output_of x (numbers_of (sheet_rows kind mode s lengths)) numbers) e
          ∙ ap (λ (rs : List Sheet). over (numbers_of rs) numbers) (sym h);
      figures_left =
          ap (λ (x : ℕ). output_of x (figures_of (sheet_rows kind mode s lengths)) figures) e
          ∙ ap (λ (rs : List Sheet). over (figures_of rs) figures) (sym h);
    }

-- ---- every loader

pub hand_kept : KeepsHand ours
hand_kept =
    record {
      start = λ c m mode check. record { made = refl };
      slice = λ c m s. record { fed = refl; memory = refl };
      closing = λ c m out. record { answer = refl; output = refl };
      hunt = λ s out. record { answer = refl; output = refl };
      sheet = sheet_kept;
    }

module _ (l : Loader) (k : KeepsHand l) where
  as_lent : lending l ≡ l
  as_lent = λ i.
      with_sheet
      (with_hunt
      (with_closing
      (with_slice
      (with_start l (λ c m mode check. sym (start-ours c m mode check (l.start c m mode check) (k.start c m mode check)) i))
      (λ c m s. sym (slice_ours c m s (l.slice c m s).fed (l.slice c m s).memory (k.slice c m s)) i))
      (λ c m out. sym (closing-ours c m out (l.closing c m out).written (l.closing c m out).out (k.closing c m out)) i))
      (λ s out. sym (hunt_ours s out (l.hunt s out).hunted (l.hunt s out).out (k.hunt s out)) i))
      (λ kind mode s lengths numbers figures. sheet_as_ours l k.sheet kind mode s lengths numbers figures i)

  pub every_alone : Alone l
  every_alone = subst Alone as_lent (alone_lent l)
