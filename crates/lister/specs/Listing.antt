-- The window lister: what it answers, and what it leaves in its three tables. Assumes nothing.
use Rattle.std.specs.Prelude.{ℕ, ◌+◌, ◌-◌, Bool, not, ◌||◌, ◌≡◌, List, [], ◌∷◌, map, length, get_or, eqb, ltb, Result, Ok, Err}
use Rattle.std.proofs.lemmas.List.Edits.{sets}
use Rattle.chain.specs.Paper.{first_mode, two_preambles, done, bad_chain, bad_mode, too_short}
use Rattle.chain.specs.Refusal.{number_of}
use Rattle.chain.specs.Rules.{pick, from}
use Rattle.chain.specs.Kinds.{size_of}
use Rattle.reader.specs.Stops.{Stop, Row, ◌gives◌after◌, first_stop, if_done}
use Rattle.reader.specs.Windows.{ReadWindow, windows_of}
use Rattle.reader.specs.Stream.{preamble_at, head_length, control_at, count_at, stream_stop}
use Rattle.reader.specs.declared.stop.Stopped.{Stopped}
use Rattle.lister.specs.declared.Listed.{Listed}

-- one of the tables, whose lengths are a, b and c, is shorter than n
abbrev pub any_shorter : ℕ → ℕ → ℕ → ℕ → Bool
any_shorter a b c n = ltb a n || ltb b n || ltb c n

-- kind (1; an unknown one has size 0), mode, the stream's own number e, then 15
abbrev pub list_rows : ℕ → ℕ → List ℕ → ℕ → ℕ → ℕ → Stop → List Row
list_rows size mode s a b c e =
    (eqb size 0 gives bad_chain after 0)
    ∷ (not (from first_mode two_preambles mode) gives bad_mode after 0)
    ∷ (not (eqb e.number done) gives e.number after e.taken)
    ∷ (any_shorter a b c (count_at s (preamble_at mode)) gives too_short after e.taken)
    ∷ []

unfoldable pub list_stop : ℕ → ℕ → List ℕ → ℕ → ℕ → ℕ → Stop
list_stop size mode s a b c = first_stop (list_rows size mode s a b c (stream_stop size mode s)) (stream_stop size mode s)

-- what a stream that stops so is answered, its preamble at p: all but the number and the bytes taken are 0 unless the number is 0
unfoldable pub listed_of : List ℕ → ℕ → Stop → Listed
listed_of s p e =
    record {
      number = e.number;
      windows = if_done e (count_at s p);
      control = if_done e (control_at s p);
      address = if_done e (get_or s (p + 2) 0) ∷ if_done e (get_or s (p + 3) 0) ∷ if_done e (get_or s (p + 4) 0) ∷ [];
      taken = e.taken;
    }

-- and the windows that are listed: none unless the number is 0
unfoldable pub listing_of : ℕ → List ℕ → ℕ → Stop → List ReadWindow
listing_of size s p e = pick (eqb e.number done) (windows_of size s (count_at s p) (p + head_length)) []

-- their starts, their ends, and the offsets of their first data bytes from the preamble at p
abbrev pub starts_of : List ReadWindow → List ℕ
starts_of ws = map (λ (w : ReadWindow). w.start) ws

abbrev pub ends_of : List ReadWindow → List ℕ
ends_of ws = map (λ (w : ReadWindow). w.end) ws

abbrev pub offsets_of : ℕ → List ReadWindow → List ℕ
offsets_of p ws = map (λ (w : ReadWindow). w.first - p) ws

-- what a reader may hold the lister to: r is the answer, then come the tables left. What is not listed stays as lent
module _ (kind mode : ℕ) (s starts ends offsets : List ℕ) where
  abbrev pub listed : Stop
  listed = list_stop (size_of kind) mode s (length starts) (length ends) (length offsets)

  abbrev pub listing : List ReadWindow
  listing = listing_of (size_of kind) s (preamble_at mode) listed

  pub record Lists (r : Listed) (starts' ends' offsets' : List ℕ) : Type 0 where
    pub answer : r ≡ listed_of s (preamble_at mode) listed
    pub starts_left : starts' ≡ sets starts 0 (starts_of listing)
    pub ends_left : ends' ≡ sets ends 0 (ends_of listing)
    pub offsets_left : offsets' ≡ sets offsets 0 (offsets_of (preamble_at mode) listing)

-- what is answered with a refusal: its number and the bytes taken
abbrev pub refused_as : Stopped → Listed
refused_as e = record { number = number_of e.refusal; windows = 0; control = 0; address = 0 ∷ 0 ∷ 0 ∷ []; taken = e.taken }

abbrev pub answer_of : Result Listed Stopped → Listed
answer_of (Ok r) = r
answer_of (Err e) = refused_as e
