-- For the contracts of private helpers, and for laws; no promise cites it. Windows as the code keeps them in a table, by start and index, put in order
-- and joined to spans, by start and end; these framed in the output, and the windows' data laid over the frames. Assumes nothing.
use Rattle.std.specs.Prelude.{ℕ, suc, ◌+◌, ◌-◌, ◌≤◌, ◌<◌, Bool, false, ◌||◌, ◌⊎◌, ◌≢◌, ◌≡◌, List, [], ◌∷◌, ◌++◌, ltb, leb, length, get_or, take}
use Rattle.std.proofs.lemmas.List.Edits.{sets}
use Rattle.chain.specs.Paper.{preamble, postamble, no_windows, done, too_short}
use Rattle.chain.specs.Rules.{pick}
use Rattle.chain.specs.Window.{width_of, high_byte, low_byte}
use Rattle.chain.specs.declared.window.Window.{Window as Row}
use Rattle.grammar.specs.Stream.{Window}
use Rattle.grammar.specs.Tables.{null_byte}
use Rattle.reader.specs.Windows.{windows_stop}
use Rattle.reader.specs.Stream.{head_length}
use Rattle.tidy.specs.Spans.{Span, span, has, covered, values_of}
use Rattle.reader.specs.Given.{windows_at}

-- ---- a table of windows and spans

-- a row of it: of a span the start and the end, of a window that is not joined yet the start and, in the end's place, its index
abbrev pub row : ℕ → ℕ → Row
row a b = record { start = a; end = b }

abbrev pub row_start : Row → ℕ
row_start x = x.start

-- what is read beyond its end
abbrev pub no_row : Row
no_row = row 0 0

abbrev pub row_span : Row → Span
row_span x = span x.start x.end

abbrev pub spans_in : List Row → List Span
spans_in [] = []
spans_in (x ∷ xs) = row_span x ∷ spans_in xs

-- the spans of windows, in the stream's order
abbrev pub bounds_of : List Window → List Span
bounds_of [] = []
bounds_of (w ∷ ws) = span w.start w.end ∷ bounds_of ws

-- ---- windows by start and index

abbrev pub keys_of : ℕ → List Window → List Row
keys_of i [] = []
keys_of i (w ∷ ws) = row w.start i ∷ keys_of (suc i) ws

abbrev pub ends_of : List Window → List ℕ
ends_of [] = []
ends_of (w ∷ ws) = w.end ∷ ends_of ws

-- its span, in a table of the windows' ends
abbrev pub key_span : List ℕ → Row → Span
key_span ends x = span x.start (get_or ends x.end 0)

abbrev pub key_spans : List ℕ → List Row → List Span
key_spans ends [] = []
key_spans ends (x ∷ xs) = key_span ends x ∷ key_spans ends xs

-- ---- joined

-- the span c, and those after it, whose starts ascend from its own: what touches is one
unfoldable pub join_from : Span → List Span → List Span
join_from c [] = c ∷ []
join_from c (x ∷ xs) =
    pick (leb x.start (c.end + 1)) (join_from (span c.start (pick (ltb c.end x.end) x.end c.end)) xs) (c ∷ join_from x xs)

abbrev pub joined : List Span → List Span
joined [] = []
joined (x ∷ xs) = join_from x xs

-- starts ascend
abbrev pub Rising : ℕ → List Span → Type 0
Rising a [] = Unit {0}
Rising a (x ∷ xs) = (a ≤ x.start) × Rising x.start xs

-- no span ends below its start
abbrev pub Ordered : List Span → Type 0
Ordered [] = Unit {0}
Ordered (x ∷ xs) = (x.start ≤ x.end) × Ordered xs

-- ascending from a on, in order, with a cell at least between two
abbrev pub Spaced : ℕ → List Span → Type 0
Spaced a [] = Unit {0}
Spaced a (x ∷ xs) = (a ≤ x.start) × (x.start ≤ x.end) × Spaced (x.end + 2) xs

-- all ends below n
abbrev pub Below : ℕ → List Span → Type 0
Below n [] = Unit {0}
Below n (x ∷ xs) = (x.end < n) × Below n xs

-- some span has cell i
unfoldable pub spanned : List Span → ℕ → Bool
spanned [] i = false
spanned (x ∷ xs) i = has x.start x.end i || spanned xs i

-- one span has all cells from a to b
abbrev pub Inside : List Span → ℕ → ℕ → Type 0
Inside [] a b = ⊥
Inside (x ∷ xs) a b = ((x.start ≤ a) × (b ≤ x.end)) ⊎ Inside xs a b

abbrev pub AllInside : List Span → List Window → Type 0
AllInside xs [] = Unit {0}
AllInside xs (w ∷ ws) = Inside xs w.start w.end × AllInside xs ws

-- xs are the spans of the windows ws of a device of that size
pub record Gathered (size : ℕ) (ws : List Window) (xs : List Span) : Type 0 where
  pub spaced : Spaced 0 xs
  pub below : Below size xs
  pub cells : (i : ℕ) → spanned xs i ≡ covered ws i
  pub inside : AllInside xs ws

-- ---- laid out

-- a window's bytes, null byte 00
abbrev pub window_bytes : ℕ → ℕ → List ℕ → List ℕ
window_bytes start end bytes = null_byte ∷ high_byte start ∷ low_byte start ∷ high_byte end ∷ low_byte end ∷ bytes

-- the windows over spans, with a value for each cell
unfoldable pub render : List Span → (ℕ → ℕ) → List ℕ
render [] v = []
render (x ∷ xs) v = window_bytes x.start x.end (values_of v (width_of x.start x.end) x.start) ++ render xs v

-- how many bytes they take
unfoldable pub long_of : List Span → ℕ
long_of [] = 0
long_of (x ∷ xs) = 5 + width_of x.start x.end + long_of xs

-- where cell a stands, told by the ends of the spans before it
unfoldable pub slot_of : List Span → ℕ → ℕ
slot_of [] a = 0
slot_of (x ∷ xs) a = pick (leb a x.end) (5 + (a - x.start)) (5 + width_of x.start x.end + slot_of xs a)

-- the places of windows, the first of them at index i, are where their first cells stand
abbrev pub AtPlaces : List ℕ → List Span → ℕ → List Window → Type 0
AtPlaces places xs i [] = Unit {0}
AtPlaces places xs i (w ∷ ws) = (get_or places i 0 ≡ slot_of xs w.start) × AtPlaces places xs (suc i) ws

-- what is needed to join windows that stand in order: no two with the same index, since the place of one takes the place of its end
pub record Joinable (xs : List Row) (ends : List ℕ) : Type 0 where
  pub table : length ends ≡ 256
  pub rising : Rising 0 (key_spans ends xs)
  pub ordered : Ordered (key_spans ends xs)
  pub below : Below 65536 (key_spans ends xs)
  pub short : long_of (joined (key_spans ends xs)) ≤ 65535
  pub known : (p : ℕ) → p < length xs → (get_or xs p no_row).end < 256
  pub apart : (p q : ℕ) → p < q → q < length xs → (get_or xs p no_row).end ≢ (get_or xs q no_row).end

-- m spans stand at the front then, and in the other table each window's place
pub record Joins (xs : List Row) (ends : List ℕ) (m : ℕ) (xs' : List Row) (places : List ℕ) : Type 0 where
  pub upto : m ≤ length xs
  pub long : length xs' ≡ length xs
  pub spans : spans_in (take m xs') ≡ joined (key_spans ends xs)
  pub placed : (q : ℕ) → q < length xs → get_or places (get_or xs q no_row).end 0 ≡ slot_of (joined (key_spans ends xs)) (get_or xs q no_row).start

-- the windows' data laid over an output, one after another, each from its place; the first of them at index i
unfoldable pub paint_all : List ℕ → ℕ → List Window → List ℕ → List ℕ
paint_all places i [] o = o
paint_all places i (w ∷ ws) o = paint_all places (suc i) ws (sets o (get_or places i 0) w.bytes)

-- the whole stream of spans with a value for each cell, head and all
unfoldable pub laid_out : List ℕ → List Span → (ℕ → ℕ) → List ℕ
laid_out s xs v =
    (preamble ∷ get_or s 1 0 ∷ get_or s 2 0 ∷ get_or s 3 0 ∷ get_or s 4 0 ∷ (no_windows - length xs) ∷ [])
    ++ render xs v
    ++ (postamble ∷ [])

-- what is needed to lay out the stream of the n windows that were read whole in s: their spans and places, where the postamble goes, and room for it
pub record Ready (size : ℕ) (s : List ℕ) (n : ℕ) (xs : List Span) (places : List ℕ) (end room : ℕ) : Type 0 where
  pub head : head_length ≤ length s
  pub whole : (windows_stop size s n head_length).number ≡ done
  pub few : length xs ≤ 255
  pub table : n ≤ length places
  pub gathered : Gathered size (windows_at size s n head_length) xs
  pub placed : AtPlaces places xs 0 (windows_at size s n head_length)
  pub end_is : end ≡ 6 + long_of xs
  pub fits : end < room

-- the number that is left to give where a stream was read whole
abbrev pub room_number : ℕ → ℕ → ℕ
room_number long room = pick (ltb room long) too_short done
