-- The first demand holds. Assumes nothing.
use Rattle.demands.specs.Demand1.{Demand1}
use Rattle.demands.proofs.Numbers.CallTables.{new_table, reset_table, start_table_lem, drop-table, closing_table_lem, save_table_lem, pick-up_numbers}
use Rattle.demands.proofs.Numbers.ByteTables.{byte_table_lem}
use Rattle.demands.proofs.Numbers.ByteNumbers.{byte_numbers}
use Rattle.demands.proofs.Numbers.SliceTables.{slice_table_lem}
use Rattle.demands.proofs.Numbers.HuntTables.{hunt_table_lem}
use Rattle.demands.proofs.Numbers.WriteTables.{write_table_lem}
use Rattle.demands.proofs.Numbers.ListTables.{list_table_lem, list_taken, list-refused}
use Rattle.demands.proofs.Numbers.TidyTables.{tidy_table_lem, tidy_refused}
use Rattle.demands.proofs.Numbers.SalvageTables.{salvage_table_lem, salvage_refused}
use Rattle.demands.proofs.Numbers.FetchTables.{fetch_numbers}
use Rattle.demands.proofs.Numbers.FetchOpen.{fetch_leaves}
use Rattle.demands.proofs.Numbers.SheetTables.{sheet_numbers}
use Rattle.demands.proofs.Numbers.SheetLeft.{sheet_leaves}
use Rattle.demands.proofs.Numbers.Refused.{new_refused, reset_refused, start-refused, drop-refused, drop-done, byte-ended, slice_refused, slice_ended, more_open, closing-refused, save_refused, pick-up-refused, hunt_refused, write_refused}

pub demand1 : Demand1
demand1 =
    record {
      numbers =
          record {
            new = new_table;
            reset = reset_table;
            start = start_table_lem;
            byte = byte_table_lem;
            byte_own = byte_numbers;
            slice = slice_table_lem;
            drop = drop-table;
            closing = closing_table_lem;
            save = save_table_lem;
            pick_up = pick-up_numbers;
            hunt = hunt_table_lem;
            write = write_table_lem;
            list = list_table_lem;
            list_taken = list_taken;
            tidy = tidy_table_lem;
            salvage = salvage_table_lem;
            fetch = fetch_numbers;
            sheet = sheet_numbers;
          };
      refusals =
          record {
            new = new_refused;
            reset = reset_refused;
            start = start-refused;
            byte = byte-ended;
            slice = slice_refused;
            slice_ended = slice_ended;
            slice_more = more_open;
            drop = drop-refused;
            dropped = drop-done;
            closing = closing-refused;
            save = save_refused;
            pick_up = pick-up-refused;
            hunt = hunt_refused;
            write = write_refused;
            list = list-refused;
            tidy = tidy_refused;
            salvage = salvage_refused;
            fetch = fetch_leaves;
            sheet = sheet_leaves;
          };
    }
