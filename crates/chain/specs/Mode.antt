-- The modes by name, and which bytes name one. Assumes nothing.
use Rattle.std.specs.Prelude.{ℕ, ◌≡◌, false, Result, MatchResult}
use Rattle.chain.specs.declared.mode.Mode.{Mode}
use Rattle.chain.specs.declared.mode.Mode.TheVariants.{Upward, Downward, SerialExternal, SerialInternal, EpromInternal, TwoPreambles}
use Rattle.chain.specs.declared.refusal.Refusal.{Refusal}
use Rattle.chain.specs.declared.refusal.Refusal.TheVariants.{BadMode}
use Rattle.chain.specs.Paper.{first_mode, downward, serial_external, serial_internal, eprom_internal, two_preambles}
use Rattle.chain.specs.Rules.{from}

abbrev pub mode_number : Mode → ℕ
mode_number Upward = first_mode
mode_number Downward = downward
mode_number SerialExternal = serial_external
mode_number SerialInternal = serial_internal
mode_number EpromInternal = eprom_internal
mode_number TwoPreambles = two_preambles

-- the mode that this byte names, or 2 where it names none
abbrev pub AsMode : ℕ → Result Mode Refusal → Type 0
AsMode n r = MatchResult r (λ m. mode_number m ≡ n) (λ e. (e ≡ BadMode) × (from first_mode two_preambles n ≡ false))
