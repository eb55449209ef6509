-- The tidier: the one stream in mode 1 for what a stream means to one device, its numbers, its answer and the output it leaves. Assumes nothing.
use Rattle.std.specs.Prelude.{ℕ, not, List, [], ◌∷◌, map, eqb, ltb, length}
use Rattle.chain.specs.declared.Written.{Written}
use Rattle.chain.specs.Paper.{first_mode, done, bad_chain, too_short}
use Rattle.chain.specs.Rules.{Rule, ◌gives◌, first_of}
use Rattle.chain.specs.Kinds.{size_of}
use Rattle.chain.specs.Window.{width_of}
use Rattle.chain.specs.Output.{written_of, output_of, Writes}
use Rattle.grammar.specs.Sent.{memory, last_to}
use Rattle.grammar.specs.Stream.{Window, windows_sent}
use Rattle.grammar.specs.Tables.{window_of}
use Rattle.reader.specs.Stream.{stream_stop}
use Rattle.reader.specs.Given.{given_of, stream_with}
use Rattle.tidy.specs.Spans.{Span, covered, spans_of, values_of}

-- the last byte that windows send to cell i of the device
abbrev pub last_byte : List Window → ℕ → ℕ
last_byte ws i = last_to memory (windows_sent 0 ws) i 0

-- a window over a span of cells, null byte 00, with a value for each
abbrev pub window_over : (ℕ → ℕ) → Span → Window
window_over v x = window_of x.start x.end (values_of v (width_of x.start x.end) x.start)

-- windows over the same cells, ascending, disjoint and never touching, each cell with its last byte
unfoldable pub tidy_windows : ℕ → List Window → List Window
tidy_windows size ws = map (window_over (last_byte ws)) (spans_of (covered ws) size 0)

-- control byte and external address are kept
unfoldable pub tidied : ℕ → List ℕ → List ℕ
tidied size s = stream_with s (tidy_windows size (given_of size s))

-- an unknown kind, the number that the lister gives the stream in mode 1, room; long is the length of the tidied stream, room that of the output
abbrev pub tidy_rules : ℕ → List ℕ → ℕ → ℕ → List Rule
tidy_rules size s long room =
    (eqb size 0 gives bad_chain)
    ∷ (not (eqb (stream_stop size first_mode s).number done) gives (stream_stop size first_mode s).number)
    ∷ (ltb room long gives too_short)
    ∷ []

unfoldable pub tidy_number : ℕ → List ℕ → ℕ → ℕ
tidy_number kind s room = first_of (tidy_rules (size_of kind) s (length (tidied (size_of kind) s)) room) done

abbrev pub tidy_of : ℕ → List ℕ → ℕ → Written
tidy_of kind s room = written_of (tidy_number kind s room) (tidied (size_of kind) s)

abbrev pub tidy_output : ℕ → List ℕ → List ℕ → List ℕ
tidy_output kind s out = output_of (tidy_number kind s (length out)) (tidied (size_of kind) s) out

-- what a reader may hold tidy to: r is the answer, out' the output left
abbrev pub Tidies : ℕ → List ℕ → List ℕ → Written → List ℕ → Type 0
Tidies kind s out r out' = Writes (tidy_number kind s (length out)) (tidied (size_of kind) s) out r out'
