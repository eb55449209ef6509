-- Windows that are known to be whole, gone through one by one. Assumes nothing.
use Rattle.std.specs.Prelude.{◌+◌, ◌≡◌, ◌<◌, List, Option, MatchOption}
use Rattle.reader.specs.declared.window.WholeWindow.{WholeWindow}
use Rattle.reader.specs.declared.whole.Windows.{Windows}
use Rattle.reader.specs.Windows.{ReadWindow, read_window_of, windows_of, whole_of}

-- the next of the windows ws is w, as it is read where it stands, and the windows rest come after it in the same stream
pub record Next (ws : Windows) (w : WholeWindow) (rest : Windows) : Type 0 where
  pub some_left : 0 < ws.left
  pub reads : whole_of w ≡ read_window_of ws.size ws.s.now ws.at
  pub same_size : rest.size ≡ ws.size
  pub same_stream : rest.s.now ≡ ws.s.now
  pub one_less : rest.left + 1 ≡ ws.left
  pub after : rest.at ≡ w.next

abbrev pub NextWindow : Windows → Option WholeWindow → Windows → Type 0
NextWindow ws r rest = MatchOption r (ws.left ≡ 0) (λ w. Next ws w rest)

-- all that are left
abbrev pub windows_left : Windows → List ReadWindow
windows_left ws = windows_of ws.size ws.s.now ws.left ws.at
