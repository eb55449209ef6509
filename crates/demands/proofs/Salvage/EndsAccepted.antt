-- Of every loader whose salvage keeps its promise: where its change list says end 0, the stream begins with an accepted one. Assumes nothing.
use Prim.Native.Nat.{ℕ}
use mathlib.Core.Path.{ap, sym, ◌∙◌}
use lib.ListN.{get_or}
use Rattle.salvage.specs.declared.Salvaged.{Salvaged}
use Rattle.demands.specs.Loader.{Loader}
use Rattle.demands.specs.OldDisks.{KeepsSalvage, EndsAccepted}
use Rattle.demands.proofs.Tidy.OnlyAccepted.{begins-accepted}
use Rattle.demands.proofs.Salvage.SoundStream.{changes_are}

pub ends-accepted : (l : Loader) → KeepsSalvage l → EndsAccepted l
ends-accepted l keeps c m s out d u z e =
    let kind : ℕ = get_or c.kinds 0 0 in
    begins-accepted c m s d u (sym (ap (λ (r : Salvaged). r.end) (changes_are l keeps kind s out z)) ∙ e)
