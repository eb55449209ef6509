-- The table of salvage's numbers, and what its refusals leave. Assumes nothing.
use Prim.Native.Nat.{ℕ}
use mathlib.Core.Logic.{◌≢◌}
use mathlib.Core.List.{List}
use lib.ListN.{length}
use Rattle.chain.specs.Paper.{first_mode, done}
use Rattle.chain.specs.Kinds.{size_of}
use Rattle.chain.specs.Table.{Table}
use Rattle.chain.proofs.BadChain.{m_unknown}
use Rattle.chain.proofs.Output.{nothing_written, refused-zero}
use Rattle.chain.proofs.Table.{table, table-reads}
use Rattle.reader.specs.Stream.{count_at, stream_stop}
use Rattle.reader.specs.Given.{given_of}
use Rattle.salvage.specs.Salvage.{offset_of, salvaged, salvage_rules, salvage_number, salvage_of, salvage_output}
use Rattle.demands.specs.Table.{salvage_table}
use Rattle.demands.specs.Demand1.{SalvageRefused}

module _ (kind : ℕ) (s out : List ℕ) where
  abbrev size : ℕ
  size = size_of kind

  abbrev number : ℕ
  number = salvage_number kind s (length out)

  pub salvage_table_lem : Table (salvage_of kind s (length out)).number (salvage_table kind s out) done
  unfolding salvage_number
  salvage_table_lem = table (salvage_rules size s (length out)) (salvage_table kind s out) done tt (search (m_unknown, table-reads) depth 40)

  pub salvage_refused : (salvage_of kind s (length out)).number ≢ done → SalvageRefused out (salvage_of kind s (length out)) (salvage_output kind s out)
  salvage_refused z =
      record {
        kept = refused-zero number (length (given_of size s)) z;
        announced = refused-zero number (count_at s 0) z;
        end = refused-zero number (stream_stop size first_mode s).number z;
        offset = refused-zero number (offset_of size s) z;
        nothing = nothing_written number (salvaged size s) out z;
      }
