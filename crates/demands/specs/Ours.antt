-- The loader that the contracts describe: each field is the definition that a call's promise cites. Assumes nothing.
use Rattle.std.specs.Prelude.{length}
use Rattle.std.proofs.lemmas.List.Edits.{sets}
use Rattle.machine.specs.Calls.{start_of, slice_of, slice_memory}
use Rattle.closing.specs.Calls.{closing_of, closing_output}
use Rattle.writer.specs.Write.{write_of, write_output}
use Rattle.reader.specs.Stream.{preamble_at}
use Rattle.lister.specs.Listing.{listed, listing, listed_of, starts_of, ends_of, offsets_of}
use Rattle.hunt.specs.Hunt.{hunt_of, hunt_out}
use Rattle.tidy.specs.Tidy.{tidy_of, tidy_output}
use Rattle.salvage.specs.Salvage.{salvage_of, salvage_output}
use Rattle.eprom.specs.Calls.{fetch_of, fetch_memory}
use Rattle.chain.specs.Output.{output_of}
use Rattle.sheet.specs.Sheet.{numbers_of, figures_of, sheet_number, sheet_rows, sheet_of}
use Rattle.demands.specs.Loader.{Loader}

abbrev pub ours : Loader
ours =
    record {
      start = λ c m mode check. start_of c (length m) mode check;
      slice = λ c m s. record { fed = slice_of c m s; memory = slice_memory c m s };
      closing = λ c m out. record { written = closing_of c m (length out); out = closing_output c m out };
      write =
          λ kind mode control address starts ends bytes out.
          record {
            written = write_of kind mode control address starts ends bytes (length out);
            out = write_output kind mode control address starts ends bytes out;
          };
      list =
          λ kind mode s starts ends offsets.
          record {
            listed = listed_of s (preamble_at mode) (listed kind mode s starts ends offsets);
            starts = sets starts 0 (starts_of (listing kind mode s starts ends offsets));
            ends = sets ends 0 (ends_of (listing kind mode s starts ends offsets));
            offsets = sets offsets 0 (offsets_of (preamble_at mode) (listing kind mode s starts ends offsets));
          };
      hunt = λ s out. record { hunted = hunt_of s (length out); out = hunt_out s out };
      tidy = λ kind s out. record { written = tidy_of kind s (length out); out = tidy_output kind s out };
      salvage = λ kind s out. record { salvaged = salvage_of kind s (length out); out = salvage_output kind s out };
      fetch = λ c f m e n. record { fetched = fetch_of c f m e n; memory = fetch_memory c f m e n };
      sheet =
          λ kind mode s lengths numbers figures.
          let n = sheet_number kind mode s lengths (length numbers) (length figures) in
          record {
            sums = sheet_of kind mode s lengths n;
            numbers = output_of n (numbers_of (sheet_rows kind mode s lengths)) numbers;
            figures = output_of n (figures_of (sheet_rows kind mode s lengths)) figures;
          };
    }
