-- The writer's numbers, in document 01's order, its answer and the output it leaves. Assumes nothing.
use Rattle.std.specs.Prelude.{ℕ, ◌+◌, not, ◌||◌, List, [], ◌∷◌, eqb, ltb, length}
use Rattle.chain.specs.declared.Written.{Written}
use Rattle.chain.specs.Paper.{first_mode, two_preambles, done, bad_chain, bad_mode, bad_start, bad_end, bad_tables, bad_data, too_short}
use Rattle.chain.specs.Rules.{Rule, ◌gives◌, first_of, from}
use Rattle.chain.specs.Kinds.{size_of}
use Rattle.chain.specs.Window.{width_of, start_outside, end_outside}
use Rattle.chain.specs.Output.{written_of, output_of, Writes}
use Rattle.writer.specs.Stream.{stream_of}

abbrev pub most_windows : ℕ
most_windows = 255

-- one window: start not below the size, then end below start or not below the size
abbrev pub window_rules : ℕ → ℕ → ℕ → List Rule
window_rules size start end =
    (start_outside size start gives bad_start)
    ∷ (end_outside size start end gives bad_end)
    ∷ []

-- window by window: the number of the first window that has one, 0 where none has
unfoldable pub windows_number : ℕ → List ℕ → List ℕ → ℕ
windows_number size [] ends = done
windows_number size (s ∷ starts) [] = done
windows_number size (s ∷ starts) (e ∷ ends) = first_of (window_rules size s e) (windows_number size starts ends)

-- the sum of the windows
unfoldable pub sum_of : List ℕ → List ℕ → ℕ
sum_of [] ends = 0
sum_of (s ∷ starts) [] = 0
sum_of (s ∷ starts) (e ∷ ends) = width_of s e + sum_of starts ends

-- an unknown kind, a mode not 1 to 6, tables, windows, data, room; len is the length of the data, long that of the stream, room that of
-- the output
abbrev pub write_rules : ℕ → ℕ → List ℕ → List ℕ → ℕ → ℕ → ℕ → List Rule
write_rules kind mode starts ends len long room =
    (eqb (size_of kind) 0 gives bad_chain)
    ∷ (not (from first_mode two_preambles mode) gives bad_mode)
    ∷ (not (eqb (length starts) (length ends)) || ltb most_windows (length starts) gives bad_tables)
    ∷ (eqb (windows_number (size_of kind) starts ends) bad_start gives bad_start)
    ∷ (eqb (windows_number (size_of kind) starts ends) bad_end gives bad_end)
    ∷ (not (eqb len (sum_of starts ends)) gives bad_data)
    ∷ (ltb room long gives too_short)
    ∷ []

unfoldable pub number_of : ℕ → ℕ → List ℕ → List ℕ → ℕ → ℕ → ℕ → ℕ
number_of kind mode starts ends len long room = first_of (write_rules kind mode starts ends len long room) done

unfoldable pub write_number : ℕ → ℕ → ℕ → List ℕ → List ℕ → List ℕ → List ℕ → ℕ → ℕ
write_number kind mode control address starts ends bytes room =
    number_of kind mode starts ends (length bytes) (length (stream_of mode control address starts ends bytes)) room

abbrev pub write_of : ℕ → ℕ → ℕ → List ℕ → List ℕ → List ℕ → List ℕ → ℕ → Written
write_of kind mode control address starts ends bytes room =
    written_of (write_number kind mode control address starts ends bytes room) (stream_of mode control address starts ends bytes)

abbrev pub write_output : ℕ → ℕ → ℕ → List ℕ → List ℕ → List ℕ → List ℕ → List ℕ → List ℕ
write_output kind mode control address starts ends bytes out =
    output_of (write_number kind mode control address starts ends bytes (length out)) (stream_of mode control address starts ends bytes) out

-- what a reader may hold write to: r is the answer, out' the output left
abbrev pub Write : ℕ → ℕ → ℕ → List ℕ → List ℕ → List ℕ → List ℕ → List ℕ → Written → List ℕ → Type 0
Write kind mode control address starts ends bytes out r out' =
    Writes (write_number kind mode control address starts ends bytes (length out)) (stream_of mode control address starts ends bytes) out r out'
