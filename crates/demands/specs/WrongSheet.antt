-- Document 02, wish 10: load sheets that the demands shut out. Each is ours, with what it answers, a row, the sums, or what a stream leaves for the next one altered. Assumes nothing.
use Rattle.std.specs.Prelude.{ℕ, ◌+◌, ◌-◌, ◌*◌, ◌%◌, ◌^◌, not, ◌||◌, List, [], ◌∷◌, eqb, ltb, length, get_or, drop}
use Rattle.chain.specs.Paper.{most_streams, most_bytes, done, bad_lengths, more}
use Rattle.chain.specs.Rules.{pick, ◌gives◌, first_of}
use Rattle.chain.specs.Output.{over, output_of}
use Rattle.closing.specs.Closing.{closing_bytes}
use Rattle.sheet.specs.declared.Sheet.{Sheet}
use Rattle.sheet.specs.Count.{one_if, over_cells}
use Rattle.sheet.specs.Stream.{Device, reset_device, shift_of, load_of, left_by, edges_per_byte, idle_edges, row_of}
use Rattle.sheet.specs.Sheet.{streams_of, rows_of, sum, sums_of, numbers_of, figures_of, sheet_rules, sheet_number, sheet_rows, refused_sheet}
use Rattle.demands.specs.Loader.{Loader, with_sheet}
use Rattle.demands.specs.Ours.{ours}

-- ---- another answer

-- answers n whatever it is given, and does nothing: with n not 0 it refuses all
abbrev pub refusing_sheets : ℕ → Loader
refusing_sheets n = with_sheet ours (λ kind mode s lengths numbers figures. record { sums = refused_sheet n; numbers = numbers; figures = figures })

-- writes what it has into the tables on a refusal too
abbrev pub filling_refused : Loader
filling_refused =
    with_sheet ours
    (λ kind mode s lengths numbers figures.
    record {
      sums = (ours.sheet kind mode s lengths numbers figures).sums;
      numbers = over (numbers_of (sheet_rows kind mode s lengths)) numbers;
      figures = (ours.sheet kind mode s lengths numbers figures).figures;
    })

-- adds the lengths modulo 2^32, as a counter of 32 bits does; where they come to the slice then, it gives a sheet
abbrev pub wrapping_sum : Loader
wrapping_sum =
    with_sheet ours
    (λ kind mode s lengths numbers figures.
    let n =
    first_of
    ((ltb most_streams (length lengths) || not (eqb (sum lengths % 2 ^ 32) (length s)) || ltb most_bytes (length s) gives bad_lengths)
    ∷ drop 1 (sheet_rules kind mode s lengths (length numbers) (length figures)))
    done in
    record {
      sums = pick (eqb n done) (sums_of (sheet_rows kind mode s lengths)) (refused_sheet n);
      numbers = output_of n (numbers_of (sheet_rows kind mode s lengths)) numbers;
      figures = output_of n (figures_of (sheet_rows kind mode s lengths)) figures;
    })

-- ---- other rows or other sums: refused as ours is

abbrev pub sheeting : (ℕ → ℕ → List (List ℕ) → List Sheet) → (List Sheet → Sheet) → Loader
sheeting rows sums =
    with_sheet ours
    (λ kind mode s lengths numbers figures.
    let n = sheet_number kind mode s lengths (length numbers) (length figures) in
    let rs = rows kind mode (streams_of lengths s) in
    record {
      sums = pick (eqb n done) (sums rs) (refused_sheet n);
      numbers = output_of n (numbers_of rs) numbers;
      figures = output_of n (figures_of rs) figures;
    })

abbrev pub rows_by : (Device → ℕ → List ℕ → Sheet) → (Device → ℕ → List ℕ → Device) → Device → ℕ → List (List ℕ) → List Sheet
rows_by row left d mode [] = []
rows_by row left d mode (s ∷ ss) = row d mode s ∷ rows_by row left (left d mode s) mode ss

abbrev pub sheet_by : (Device → ℕ → List ℕ → Sheet) → (Device → ℕ → List ℕ → Device) → Loader
sheet_by row left = sheeting (λ kind. rows_by row left (reset_device kind)) sums_of

-- each row made another one
abbrev pub remaking : (Device → ℕ → List ℕ → Sheet → Sheet) → Loader
remaking g = sheet_by (λ d mode s. g d mode s (row_of d mode s)) left_by

-- a row with one figure replaced
abbrev with_taken : Sheet → ℕ → Sheet
with_taken r v = record { number = r.number; taken = v; «data» = r.«data»; cells = r.cells; again = r.again; bits = r.bits; edges = r.edges }

abbrev with_cells : Sheet → ℕ → Sheet
with_cells r v = record { number = r.number; taken = r.taken; «data» = r.«data»; cells = v; again = r.again; bits = r.bits; edges = r.edges }

abbrev with_again : Sheet → ℕ → Sheet
with_again r v = record { number = r.number; taken = r.taken; «data» = r.«data»; cells = r.cells; again = v; bits = r.bits; edges = r.edges }

abbrev with_bits : Sheet → ℕ → Sheet
with_bits r v = record { number = r.number; taken = r.taken; «data» = r.«data»; cells = r.cells; again = r.again; bits = v; edges = r.edges }

abbrev with_edges : Sheet → ℕ → Sheet
with_edges r v = record { number = r.number; taken = r.taken; «data» = r.«data»; cells = r.cells; again = r.again; bits = r.bits; edges = v }

-- counts a cell once for each store
abbrev pub every_store : Loader
every_store = remaking (λ d mode s r. with_cells r r.«data»)

-- counts the stores after a cell's first, not the cells
abbrev pub stores_again : Loader
stores_again = remaking (λ d mode s r. with_again r (r.«data» - r.cells))

-- counts the cells that differ, not the bits
abbrev pub cells_for_bits : Loader
cells_for_bits =
    remaking
    (λ d mode s r.
    with_bits r
    (over_cells (length d.memory) (λ (i : ℕ). one_if (not (eqb (get_or d.memory i 0) (get_or (load_of d mode s).memory i 0))))))

-- counts the closing bytes of a stream that ran out, and their edges
abbrev pub closing_counted : Loader
closing_counted =
    remaking
    (λ d mode s r.
    let n = pick (eqb r.number more) (length (closing_bytes (load_of d mode s).chain (load_of d mode s).memory)) 0 in
    with_edges (with_taken r (r.taken + n)) (r.edges + edges_per_byte mode * n))

-- leaves p out of the edges
abbrev pub from_preamble : Loader
from_preamble = remaking (λ d mode s r. with_edges r (r.edges - shift_of mode s))

-- has edges to idle for accepted streams alone
abbrev pub idle_accepted : Loader
idle_accepted = remaking (λ d mode s r. pick (eqb r.number done) r (with_edges r (r.edges - idle_edges mode)))

-- resets the device before each stream
abbrev pub reset_each : Loader
reset_each = sheet_by row_of (λ d mode s. d)

-- sums up the accepted streams alone
abbrev accepted_rows : List Sheet → List Sheet
accepted_rows [] = []
accepted_rows (r ∷ rs) = pick (eqb r.number done) (r ∷ accepted_rows rs) (accepted_rows rs)

abbrev pub accepted_sums : Loader
accepted_sums = sheeting (λ kind. rows_of (reset_device kind)) (λ rs. sums_of (accepted_rows rs))
