-- What is written, and then the lines of the windows to come, make the whole.
use Rattle.std.proofs.Common.{◌≡◌, ◌+◌, ◌*◌, ◌≤◌, ◌++◌, length}
use Rattle.std.specs.Iterator.Adapters.{enumerate_count, enumerate_source, zip_first, zip_second}
use Rattle.std.specs.Slice.Iter.{iter_rest}
use Rattle.listing.specs.Program.{window_lines}
use Rattle.listing.proofs.text.windows.Given as goal

abbrev pub invariant-loop-i : goal.invariant-loop-i
invariant-loop-i l =
    let n = enumerate_count l.i-iterator in
    let first = iter_rest (zip_first (enumerate_source l.i-iterator)) in
    let second = iter_rest (zip_second (enumerate_source l.i-iterator)) in
    record {
      next : (goal.iterator-loop-i).can_next l.i-iterator;
      ends : (goal.iterator-loop-i).is_finite l.i-iterator;
      pairs : length second ≡ length first;
      within : n + length first ≡ length l.starts;
      short : length l.text.bytes ≤ 18 * n;
      whole : l.text.bytes ++ window_lines (n + 1) first second ≡ window_lines 1 l.starts l.ends;
    }
