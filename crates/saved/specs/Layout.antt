-- The saved place of document 01: its table of fields, and what the table alone says: the bytes that a place is saved as, the place
-- that bytes hold, and when bytes are well formed. Assumes nothing.
use Rattle.std.specs.Prelude.{ℕ, ◌/◌, Bool, ◌&&◌, List, [], ◌∷◌, ◌++◌, length, get_or, set, replicate, eqb}
use Rattle.chain.specs.declared.Chain.{Chain}
use Rattle.chain.specs.declared.Place.{Place}
use Rattle.chain.specs.Paper.{opened, most_devices}
use Rattle.chain.specs.Rules.{all_of}
use Rattle.chain.specs.Set.{with_running, with_mode, with_check, with_device, with_awaited, with_left, with_control, with_start, with_end, with_next, with_taken, with_mismatches, closed_place}
use Rattle.chain.specs.State.{is_well_formed}
use Rattle.saved.specs.Fields.{total, recut, bytes}

-- ---- the table

-- what stands in a row: the form's number, zero bits, a field of the place (how it is read there, and how it is set), a register
pub data Field : Type 0 where
  form : Field
  zero : Field
  placed : (Place → ℕ) → (Place → ℕ → Place) → Field
  register : ℕ → Field

abbrev pub mode : Field
mode = placed (λ p. p.mode) with_mode

abbrev pub check : Field
check = placed (λ p. p.check) with_check

abbrev pub device : Field
device = placed (λ p. p.device) with_device

abbrev pub awaited : Field
awaited = placed (λ p. p.awaited) with_awaited

abbrev pub left : Field
left = placed (λ p. p.left) with_left

abbrev pub start : Field
start = placed (λ p. p.start) with_start

abbrev pub end : Field
end = placed (λ p. p.end) with_end

abbrev pub next : Field
next = placed (λ p. p.next) with_next

abbrev pub taken : Field
taken = placed (λ p. p.taken) with_taken

abbrev pub mismatches : Field
mismatches = placed (λ p. p.mismatches) with_mismatches

abbrev pub control : Field
control = placed (λ p. p.control) with_control

-- a row: a field and its bits
pub data Row : Type 0 where
  ◌takes◌ : Field → ℕ → Row

infix 25 ◌takes◌
-- document 01's rows, in its order
abbrev pub head_rows : List Row
head_rows =
    (form takes 4) ∷ (mode takes 3) ∷ (check takes 1) ∷ (device takes 3) ∷ (awaited takes 4) ∷ (zero takes 1)
    ∷ (left takes 8)
    ∷ (zero takes 8)
    ∷ []

abbrev pub number_rows : List Row
number_rows =
    head_rows
    ++ ((start takes 16) ∷ (end takes 16) ∷ (next takes 16)
    ∷ (taken takes 32) ∷ (mismatches takes 32)
    ∷ [])

abbrev pub register_rows : List Row
register_rows =
    (register 0 takes 8) ∷ (register 1 takes 8) ∷ (register 2 takes 8) ∷ (register 3 takes 8)
    ∷ (register 4 takes 8) ∷ (register 5 takes 8) ∷ (register 6 takes 8) ∷ (register 7 takes 8)
    ∷ []

abbrev pub rows : List Row
rows = number_rows ++ (register_rows ++ ((control takes 8) ∷ []))

-- a form: its number, and its table
pub record Form : Type 0 where
  pub number : ℕ
  pub table : List Row

abbrev pub headed : ℕ → Form
headed n = record { number = n; table = rows }

abbrev pub form1 : Form
form1 = headed 1

-- ---- what a table says

abbrev pub widths : List Row → List ℕ
widths [] = []
widths ((field takes w) ∷ table) = w ∷ widths table

-- the value of a field
abbrev pub value_of : ℕ → List ℕ → Place → Field → ℕ
value_of number registers p form = number
value_of number registers p zero = 0
value_of number registers p (placed read with) = read p
value_of number registers p (register i) = get_or registers i 0

abbrev pub values : ℕ → List Row → List ℕ → Place → List ℕ
values number [] registers p = []
values number ((field takes w) ∷ table) registers p = value_of number registers p field ∷ values number table registers p

-- and back: an open place, and the registers, with the values of the rows in their fields
abbrev pub set_place : Field → ℕ → Place → Place
set_place form v p = p
set_place zero v p = p
set_place (placed read with) v p = with p v
set_place (register i) v p = p

abbrev pub place_of : List Row → List ℕ → Place
place_of ((field takes w) ∷ table) (v ∷ vs) = set_place field v (place_of table vs)
place_of [] vs = with_running closed_place opened
place_of (row ∷ table) [] = with_running closed_place opened

abbrev pub set_register : Field → ℕ → List ℕ → List ℕ
set_register form v registers = registers
set_register zero v registers = registers
set_register (placed read with) v registers = registers
set_register (register i) v registers = set registers i v

abbrev pub registers_of : List Row → List ℕ → List ℕ
registers_of ((field takes w) ∷ table) (v ∷ vs) = set_register field v (registers_of table vs)
registers_of [] vs = replicate most_devices 0
registers_of (row ∷ table) [] = replicate most_devices 0

-- the form is the form's number, zero bits are 0
abbrev pub marks : ℕ → List Row → List ℕ → List Bool
marks number ((form takes w) ∷ table) (v ∷ vs) = eqb v number ∷ marks number table vs
marks number ((zero takes w) ∷ table) (v ∷ vs) = eqb v 0 ∷ marks number table vs
marks number ((placed read with takes w) ∷ table) (v ∷ vs) = marks number table vs
marks number ((register i takes w) ∷ table) (v ∷ vs) = marks number table vs
marks number [] vs = []
marks number (row ∷ table) [] = []

-- ---- a form's bytes

abbrev pub byte_count : List Row → ℕ
byte_count table = total (widths table) / 8

abbrev pub length_in : Form → ℕ
length_in f = byte_count f.table

unfoldable pub saved_in : Form → List ℕ → Place → List ℕ
saved_in f registers p =
    recut (widths f.table) (bytes (length_in f)) (values f.number f.table registers p)

-- the values that bytes hold, in the table's order
unfoldable pub held_in : Form → List ℕ → List ℕ
held_in f s = recut (bytes (length_in f)) (widths f.table) s

abbrev pub place_in : Form → List ℕ → Place
place_in f s = place_of f.table (held_in f s)

abbrev pub registers_in : Form → List ℕ → List ℕ
registers_in f s = registers_of f.table (held_in f s)

-- well formed: the form's length and number, zero bits 0, and all that is asked of the place of a lent state
unfoldable pub well_saved_in : Form → Chain → List ℕ → Bool
well_saved_in f c s =
    eqb (length s) (length_in f)
    && all_of (marks f.number f.table (held_in f s))
    && is_well_formed c (registers_in f s) (place_in f s)

-- ---- the form that is saved

abbrev pub saved_length : ℕ
saved_length = length_in form1

abbrev pub saved_bytes : List ℕ → Place → List ℕ
saved_bytes registers p = saved_in form1 registers p

abbrev pub well_saved : Chain → List ℕ → Bool
well_saved c s = well_saved_in form1 c s
