-- The constants of documents 01 and 02, by name. Assumes nothing.
use Rattle.std.specs.Prelude.{ℕ, ◌/◌, ◌%◌, Bool, ◌||◌, eqb}

-- the stream's own bytes
abbrev pub preamble : ℕ
preamble = 0xb2

abbrev pub postamble : ℕ
postamble = 0x4d

abbrev pub no_windows : ℕ
no_windows = 0xff

-- awaited bytes
abbrev pub at_preamble : ℕ
at_preamble = 0

abbrev pub at_second : ℕ
at_second = 1

abbrev pub at_control : ℕ
at_control = 2

abbrev pub at_address : ℕ
at_address = 3

abbrev pub at_address2 : ℕ
at_address2 = 4

abbrev pub at_address3 : ℕ
at_address3 = 5

abbrev pub at_count : ℕ
at_count = 6

abbrev pub at_null : ℕ
at_null = 7

abbrev pub at_start : ℕ
at_start = 8

abbrev pub at_start_low : ℕ
at_start_low = 9

abbrev pub at_end : ℕ
at_end = 10

abbrev pub at_end_low : ℕ
at_end_low = 11

abbrev pub at_data : ℕ
at_data = 12

abbrev pub at_check : ℕ
at_check = 13

-- a place: closed or open, writing or checking
abbrev pub closed : ℕ
closed = 0

abbrev pub opened : ℕ
opened = 1

abbrev pub writing : ℕ
writing = 0

abbrev pub checking : ℕ
checking = 1

-- modes: the first, the one whose EPROM is read downward, the two serial ones, the last that reads an EPROM, and the last, which has two preambles
abbrev pub first_mode : ℕ
first_mode = 1

abbrev pub downward : ℕ
downward = 2

abbrev pub serial_external : ℕ
serial_external = 3

abbrev pub serial_internal : ℕ
serial_internal = 4

-- the modes whose streams come as bits
abbrev pub serial : ℕ → Bool
serial mode = eqb mode serial_external || eqb mode serial_internal

abbrev pub eprom_internal : ℕ
eprom_internal = 5

abbrev pub two_preambles : ℕ
two_preambles = 6

-- a chain: devices and bytes of memory at most
abbrev pub most_devices : ℕ
most_devices = 8

abbrev pub most_memory : ℕ
most_memory = 65536

-- a load sheet: streams, and bytes of them in all, at most
abbrev pub most_streams : ℕ
most_streams = 65536

abbrev pub most_bytes : ℕ
most_bytes = 67108864

-- the numbers
abbrev pub done : ℕ
done = 0

abbrev pub bad_chain : ℕ
bad_chain = 1

abbrev pub bad_mode : ℕ
bad_mode = 2

abbrev pub run_open : ℕ
run_open = 3

abbrev pub no_run : ℕ
no_run = 4

abbrev pub no_preamble : ℕ
no_preamble = 5

abbrev pub barred : ℕ
barred = 6

abbrev pub no_check : ℕ
no_check = 7

abbrev pub bad_check_byte : ℕ
bad_check_byte = 8

abbrev pub ends_here : ℕ
ends_here = 9

abbrev pub last_device : ℕ
last_device = 10

abbrev pub bad_start : ℕ
bad_start = 11

abbrev pub bad_end : ℕ
bad_end = 12

abbrev pub bad_tables : ℕ
bad_tables = 13

abbrev pub bad_data : ℕ
bad_data = 14

abbrev pub too_short : ℕ
too_short = 15

abbrev pub more : ℕ
more = 16

abbrev pub ill_formed : ℕ
ill_formed = 17

-- document 02, wish 1
abbrev pub past_eprom : ℕ
past_eprom = 18

abbrev pub bad_jump : ℕ
bad_jump = 19

-- document 02, wish 10
abbrev pub bad_lengths : ℕ
bad_lengths = 23

-- document 02, wish 12
abbrev pub no_head : ℕ
no_head = 27

-- control bits by their weight: bit 0 keeps the EPROM's address counter at a run's end, bit 1 makes it jump, bit 2 ends the stream at this device, bit 3
-- bars checks, bit 4 bars later runs
abbrev pub bit0 : ℕ
bit0 = 1

abbrev pub bit1 : ℕ
bit1 = 2

abbrev pub bit2 : ℕ
bit2 = 4

abbrev pub bit3 : ℕ
bit3 = 8

abbrev pub bit4 : ℕ
bit4 = 16

abbrev pub B0 : ℕ → Bool
B0 g = eqb (g / bit0 % 2) 1

abbrev pub B1 : ℕ → Bool
B1 g = eqb (g / bit1 % 2) 1

abbrev pub B2 : ℕ → Bool
B2 g = eqb (g / bit2 % 2) 1

abbrev pub B3 : ℕ → Bool
B3 g = eqb (g / bit3 % 2) 1

abbrev pub B4 : ℕ → Bool
B4 g = eqb (g / bit4 % 2) 1
