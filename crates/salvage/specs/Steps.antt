-- For the contracts of private helpers; no promise cites it. Windows kept one after another, how far each reaches, and what is laid into the output.
-- Assumes nothing.
use Rattle.std.specs.Prelude.{ℕ, ◌+◌, ◌-◌, List, [], ◌∷◌, map, length, set, take, Result, Ok, Err}
use Rattle.std.proofs.lemmas.List.Edits.{sets}
use Rattle.chain.specs.Paper.{postamble, no_windows}
use Rattle.grammar.specs.Tables.{null_byte}
use Rattle.reader.specs.Windows.{ReadWindow, windows_stop, windows_of}
use Rattle.reader.specs.Stream.{head_length}
use Rattle.chain.specs.declared.refusal.Refusal.{Refusal}
use Rattle.chain.specs.Refusal.{number_of, answered}
use Rattle.salvage.specs.declared.Front.{Front}
use Rattle.salvage.specs.declared.Salvaged.{Salvaged}
use Rattle.salvage.specs.Salvage.{after_all}

-- how many windows are kept, the byte after the last, and the number that the next one gives, 0 where all announced are kept
pub record Kept : Type 0 where
  pub number : ℕ
  pub windows : ℕ
  pub offset : ℕ

abbrev pub kept_in : Front → ℕ → Kept
kept_in f windows = record { number = answered f.next; windows = windows; offset = f.offset }

-- a refusal is answered by its number alone
abbrev pub answer_of : Result Salvaged Refusal → Salvaged
answer_of (Ok r) = r
answer_of (Err e) = record { number = number_of e; kept = 0; announced = 0; end = 0; offset = 0; length = 0 }

-- of n windows from a position on, those before the first that is not whole, and the number that tells why no other is kept
abbrev pub kept_of : ℕ → List ℕ → ℕ → ℕ → Kept
kept_of size s n at =
    record {
      number = (windows_stop size s n at).number;
      windows = length (windows_of size s n at);
      offset = after_all at (windows_of size s n at);
    }

-- how far each window reaches past its first cell
abbrev pub reaches_of : List ReadWindow → List ℕ
reaches_of ws = map (λ (w : ReadWindow). w.end - w.start) ws

-- a window has six bytes more than that: null byte, start, end, and the first cell's
abbrev pub end_of : ℕ → List ℕ → ℕ
end_of at [] = at
end_of at (d ∷ ds) = end_of (at + (6 + d)) ds

-- null bytes 00, where windows that reach so far stand one after another
abbrev pub nulls_out : ℕ → List ℕ → List ℕ → List ℕ
nulls_out at [] out = out
nulls_out at (d ∷ ds) out = nulls_out (at + (6 + d)) ds (set out at null_byte)

-- s up to a position over an output, its count byte for n windows, their null bytes out, and a postamble behind it
abbrev pub laid_over : List ℕ → ℕ → List ℕ → ℕ → List ℕ → List ℕ
laid_over s n reaches offset out = set (nulls_out head_length reaches (set (sets out 0 (take offset s)) 5 (no_windows - n))) offset postamble
