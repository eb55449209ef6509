-- Windows of a stream, each read at the position of its null byte: null, start (high, low), end (high, low), data. Assumes nothing.
use Rattle.std.specs.Prelude.{ℕ, zero, suc, ◌+◌, ◌&&◌, List, [], ◌∷◌, length, get_or, eqb, ltb, leb, Result, Ok, Err}
use Rattle.chain.specs.Paper.{done, bad_start, bad_end, more}
use Rattle.chain.specs.Refusal.{number_of}
use Rattle.chain.specs.Rules.{pick}
use Rattle.chain.specs.Window.{word, width_of, start_outside, end_outside}
use Rattle.reader.specs.declared.stop.Stopped.{Stopped}
use Rattle.reader.specs.declared.window.WholeWindow.{WholeWindow}
use Rattle.reader.specs.Stops.{Stop, stop, Row, ◌gives◌after◌, first_stop, ◌then◌, if_done}

-- one window as it is read: a number, 0 where it is whole, its bounds, and the positions of its first data byte and after its last
pub record ReadWindow : Type 0 where
  pub number : ℕ
  pub start : ℕ
  pub end : ℕ
  pub first : ℕ
  pub next : ℕ

abbrev pub start_at : List ℕ → ℕ → ℕ
start_at s at = word (get_or s (at + 1) 0) (get_or s (at + 2) 0)

abbrev pub end_at : List ℕ → ℕ → ℕ
end_at s at = word (get_or s (at + 3) 0) (get_or s (at + 4) 0)

-- its first data byte, and the byte after its last
abbrev pub first_at : ℕ → ℕ
first_at at = at + 5

abbrev pub next_at : List ℕ → ℕ → ℕ
next_at s at = first_at at + width_of (start_at s at) (end_at s at)

-- 11 at the start's second byte, 12 at the end's, 16 where the stream is used up within the window
abbrev pub window_rows : ℕ → List ℕ → ℕ → List Row
window_rows size s at =
    (leb (at + 3) (length s) && start_outside size (start_at s at) gives bad_start after (at + 3))
    ∷ (leb (at + 5) (length s) && end_outside size (start_at s at) (end_at s at) gives bad_end after (at + 5))
    ∷ (ltb (length s) (next_at s at) gives more after (length s))
    ∷ []

unfoldable pub window_stop : ℕ → List ℕ → ℕ → Stop
window_stop size s at = first_stop (window_rows size s at) (stop done (next_at s at))

-- one window: its bounds and first data byte, 0 unless it is whole; next is the position after the last byte taken
unfoldable pub read_window_of : ℕ → List ℕ → ℕ → ReadWindow
read_window_of size s at =
    record {
      number = (window_stop size s at).number;
      start = if_done (window_stop size s at) (start_at s at);
      end = if_done (window_stop size s at) (end_at s at);
      first = if_done (window_stop size s at) (first_at at);
      next = (window_stop size s at).taken;
    }

-- n windows one after another
unfoldable pub windows_stop : ℕ → List ℕ → ℕ → ℕ → Stop
windows_stop size s zero at = stop done at
windows_stop size s (suc n) at = window_stop size s at then windows_stop size s n

-- those of them that are whole, up to the first that is not
unfoldable pub windows_of : ℕ → List ℕ → ℕ → ℕ → List ReadWindow
windows_of size s zero at = []
windows_of size s (suc n) at =
    pick (eqb (window_stop size s at).number done) (read_window_of size s at ∷ windows_of size s n (next_at s at)) []

-- a window that is whole, as it is read; and what the reading of one answers
abbrev pub whole_of : WholeWindow → ReadWindow
whole_of w = record { number = done; start = w.bounds.start; end = w.bounds.end; first = w.first; next = w.next }

abbrev pub read_of : Result WholeWindow Stopped → ReadWindow
read_of (Ok w) = whole_of w
read_of (Err e) = record { number = number_of e.refusal; start = 0; end = 0; first = 0; next = e.taken }
