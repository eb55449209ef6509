-- A stream of one freshly reset device, read as a write: its own number and the bytes taken. Assumes nothing.
use Rattle.std.specs.Prelude.{ℕ, ◌+◌, ◌-◌, not, ◌&&◌, List, [], ◌∷◌, length, get_or, eqb, ltb, leb}
use Rattle.chain.specs.Paper.{preamble, postamble, two_preambles, no_preamble, bad_check_byte, ends_here, last_device, done, more, B2}
use Rattle.chain.specs.Rules.{pick}
use Rattle.reader.specs.Stops.{Stop, stop, Row, ◌gives◌after◌, first_stop, ◌then◌}
use Rattle.reader.specs.Windows.{windows_stop}

-- where the preamble stands that precedes the control byte: mode 6 has one before it
unfoldable pub preamble_at : ℕ → ℕ
preamble_at mode = pick (eqb mode two_preambles) 1 0

-- from that preamble at p on: preamble, control, external address (low byte first), count; then the windows
abbrev pub head_length : ℕ
head_length = 6

abbrev pub control_at : List ℕ → ℕ → ℕ
control_at s p = get_or s (p + 1) 0

-- the count byte is the ones' complement of the number of windows
abbrev pub count_at : List ℕ → ℕ → ℕ
count_at s p = 255 - get_or s (p + 5) 0

-- 5 at a preamble, 16 where the stream is used up before its windows; a device freshly reset gives no 6, and a write no 7
abbrev pub head_rows : ℕ → List ℕ → List Row
head_rows mode s =
    (ltb 0 (length s) && not (eqb (get_or s 0 0) preamble) gives no_preamble after 1)
    ∷ (eqb mode two_preambles && ltb 1 (length s) && not (eqb (get_or s 1 0) preamble) gives no_preamble after 2)
    ∷ (ltb (length s) (preamble_at mode + head_length) gives more after (length s))
    ∷ []

unfoldable pub head_stop : ℕ → List ℕ → Stop
head_stop mode s = first_stop (head_rows mode s) (stop done (preamble_at mode + head_length))

-- one preamble
abbrev pub preamble_rows : List ℕ → ℕ → List Row
preamble_rows s at =
    (leb (length s) at gives more after (length s))
    ∷ (not (eqb (get_or s at 0) preamble) gives no_preamble after (at + 1))
    ∷ []

abbrev pub preamble_stop : List ℕ → ℕ → Stop
preamble_stop s at = first_stop (preamble_rows s at) (stop done (at + 1))

-- the check byte of the only device: 16, 8, 9, 10, and 4D accepts
abbrev pub check_rows : ℕ → List ℕ → ℕ → List Row
check_rows control s at =
    (leb (length s) at gives more after (length s))
    ∷ (not (eqb (get_or s at 0) postamble) && not (eqb (get_or s at 0) preamble) gives bad_check_byte after (at + 1))
    ∷ (eqb (get_or s at 0) preamble && B2 control gives ends_here after (at + 1))
    ∷ (eqb (get_or s at 0) preamble gives last_device after (at + 1))
    ∷ []

unfoldable pub check_stop : ℕ → List ℕ → ℕ → Stop
check_stop control s at = first_stop (check_rows control s at) (stop done (at + 1))

-- the stream's own number and bytes taken: preambles and head, the windows one after another, the check byte
unfoldable pub stream_stop : ℕ → ℕ → List ℕ → Stop
stream_stop size mode s =
    head_stop mode s
    then windows_stop size s (count_at s (preamble_at mode))
    then check_stop (control_at s (preamble_at mode)) s
