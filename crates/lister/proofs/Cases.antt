-- Worked cases, computed: stream A of document 01 in mode 1, the same in mode 6, with a short table, and cut short. Assumes nothing.
use Prim.Native.Nat.{ℕ}
use mathlib.Core.Path.{refl}
use mathlib.Core.List.{List, [], ◌∷◌}
use lib.ListN.{take, replicate}
use Rattle.chain.specs.Paper.{preamble, done, too_short, more}
use Rattle.chain.specs.Kinds.{size_of}
use Rattle.lister.specs.declared.Listed.{Listed}
use Rattle.reader.specs.Windows.{window_stop, read_window_of, windows_stop, windows_of}
use Rattle.reader.specs.Stream.{preamble_at, head_stop, check_stop, stream_stop}
use Rattle.lister.specs.Listing.{list_stop, listed_of, listing_of, Lists}

abbrev pub stream_a : List ℕ
stream_a = 0xb2 ∷ 0 ∷ 0 ∷ 0 ∷ 0 ∷ 0xfe ∷ 0 ∷ 0 ∷ 0x09 ∷ 0 ∷ 0x0b ∷ 0x11 ∷ 0x22 ∷ 0x33 ∷ 0x4d ∷ []

abbrev answer : ℕ → ℕ → ℕ → Listed
answer number windows taken = record { number = number; windows = windows; control = 0; address = replicate 3 0; taken = taken }

-- one window, 9 to 11, whose first data byte has offset 11; what lies past it in a table stays as lent
pub case_A : Lists 0 1 stream_a (7 ∷ 8 ∷ []) (7 ∷ 8 ∷ []) (7 ∷ 8 ∷ []) (answer done 1 15) (9 ∷ 8 ∷ []) (11 ∷ 8 ∷ []) (11 ∷ 8 ∷ [])
unfolding size_of window_stop read_window_of windows_stop windows_of preamble_at head_stop check_stop stream_stop list_stop listed_of listing_of
case_A = record { answer = refl; starts_left = refl; ends_left = refl; offsets_left = refl }

-- mode 6 has one preamble more, and the offsets count from the second
pub case_A_6 : Lists 0 6 (preamble ∷ stream_a) (7 ∷ []) (7 ∷ []) (7 ∷ []) (answer done 1 16) (9 ∷ []) (11 ∷ []) (11 ∷ [])
unfolding size_of window_stop read_window_of windows_stop windows_of preamble_at head_stop check_stop stream_stop list_stop listed_of listing_of
case_A_6 = record { answer = refl; starts_left = refl; ends_left = refl; offsets_left = refl }

pub case_A-short : Lists 0 1 stream_a (7 ∷ []) [] (7 ∷ []) (answer too_short 0 15) (7 ∷ []) [] (7 ∷ [])
unfolding size_of window_stop read_window_of windows_stop windows_of preamble_at head_stop check_stop stream_stop list_stop listed_of listing_of
case_A-short = record { answer = refl; starts_left = refl; ends_left = refl; offsets_left = refl }

pub case_A-cut : Lists 0 1 (take 13 stream_a) (7 ∷ []) (7 ∷ []) (7 ∷ []) (answer more 0 13) (7 ∷ []) (7 ∷ []) (7 ∷ [])
unfolding size_of window_stop read_window_of windows_stop windows_of preamble_at head_stop check_stop stream_stop list_stop listed_of listing_of
case_A-cut = record { answer = refl; starts_left = refl; ends_left = refl; offsets_left = refl }
