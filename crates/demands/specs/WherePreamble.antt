-- 'Say where the preamble began': what the hunt of any loader has to answer. Assumes nothing.
use Rattle.std.specs.Prelude.{ℕ, ◌+◌, ◌*◌, ◌<◌, ◌≤◌, ◌≢◌, ◌≡◌, List, length}
use Rattle.chain.specs.Paper.{done}
use Rattle.chain.specs.Output.{over}
use Rattle.chain.specs.Table.{Table}
use Rattle.hunt.specs.Bits.{bytes_from}
use Rattle.hunt.specs.declared.Hunted.{Hunted}
use Rattle.demands.specs.Table.{MakesPreamble, hunt_table}
use Rattle.demands.specs.Demand1.{HuntRefused}
use Rattle.demands.specs.Loader.{Loader}

-- p is the first position, 0 to 64, where eight bits make B2; left is the number of bits after the last whole byte
pub record Where (s : List ℕ) (h : Hunted) : Type 0 where
  pub at_most : h.p ≤ 64
  pub begins : MakesPreamble s h.p
  pub first : (q : ℕ) → q < h.p → MakesPreamble s q → ⊥
  pub bits : 8 * length s ≡ h.p + 8 * h.length + h.left
  pub below_byte : h.left < 8

-- numbers as before; on 0 both figures, and the bytes from p on; on a refusal both are 0
pub record SaysWhere (l : Loader) : Type 0 where
  pub numbers : (s out : List ℕ) → Table (l.hunt s out).hunted.number (hunt_table s out) done
  pub found : (s out : List ℕ) → (l.hunt s out).hunted.number ≡ done → Where s (l.hunt s out).hunted
  pub written : (s out : List ℕ) → (l.hunt s out).hunted.number ≡ done
      → (l.hunt s out).out ≡ over (bytes_from s (l.hunt s out).hunted.p (l.hunt s out).hunted.length) out
  pub refused : (s out : List ℕ) → (l.hunt s out).hunted.number ≢ done → HuntRefused out (l.hunt s out).hunted (l.hunt s out).out
