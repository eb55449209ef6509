-- Two readings agree: of a window, and of whatever stops. Assumes nothing.
use Rattle.std.specs.Prelude.{ℕ, ◌≡◌, List, eqb, Result, Ok, Err}
use mathlib.Core.Bool.{true≢false}
use mathlib.Core.Path.{sym, ◌∙◌, ap}
use Rattle.chain.specs.Paper.{done}
use Rattle.chain.specs.declared.refusal.Refusal.{Refusal}
use Rattle.chain.specs.Refusal.{number_of}
use Rattle.chain.proofs.OneNumber.{one_number}
use Rattle.chain.proofs.PassedUp.{not_done}
use Rattle.reader.specs.declared.stop.Stopped.{Stopped}
use Rattle.reader.specs.declared.window.WholeWindow.{WholeWindow}
use Rattle.reader.specs.Stops.{Stop, stop_of}
use Rattle.reader.specs.Windows.{ReadWindow, read_window_of, read_of}

-- what is read whole has the number of no refusal
apart : {A : Type 0} (e : Refusal) → done ≡ number_of e → A
apart e same = absurd (true≢false (ap (λ n. eqb n done) same ∙ not_done e))

one_stopped : (e f : Stopped) → number_of e.refusal ≡ number_of f.refusal → e.taken ≡ f.taken → e ≡ f
one_stopped e f same taken = rw (one_number e.refusal f.refusal same, taken)

pub one_stop : (r q : Result ℕ Stopped) → stop_of r ≡ stop_of q → r ≡ q
one_stop (Ok a) (Ok b) same = ap Ok (ap (λ (s : Stop). s.taken) same)
one_stop (Ok a) (Err f) same = apart f.refusal (ap (λ (s : Stop). s.number) same)
one_stop (Err e) (Ok b) same = apart e.refusal (sym (ap (λ (s : Stop). s.number) same))
one_stop (Err e) (Err f) same = ap Err (one_stopped e f (ap (λ (s : Stop). s.number) same) (ap (λ (s : Stop). s.taken) same))

pub one_read : (r q : Result WholeWindow Stopped) → read_of r ≡ read_of q → r ≡ q
one_read (Ok w) (Ok v) same = ap Ok (rw (ap (λ (x : ReadWindow). x.start) same, ap (λ (x : ReadWindow). x.end) same, ap (λ (x : ReadWindow). x.first) same, ap (λ (x : ReadWindow). x.next) same))
one_read (Ok w) (Err f) same = apart f.refusal (ap (λ (x : ReadWindow). x.number) same)
one_read (Err e) (Ok v) same = apart e.refusal (sym (ap (λ (x : ReadWindow). x.number) same))
one_read (Err e) (Err f) same = ap Err (one_stopped e f (ap (λ (x : ReadWindow). x.number) same) (ap (λ (x : ReadWindow). x.next) same))

pub only_window : (size : ℕ) (s : List ℕ) (at : ℕ) (r q : Result WholeWindow Stopped) → read_of r ≡ read_window_of size s at → read_of q ≡ read_window_of size s at → r ≡ q
only_window size s at r q f g = one_read r q (f ∙ sym g)
