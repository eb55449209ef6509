-- A call that writes, by how it ends: refused, with nothing written, or done. Assumes nothing.
use Rattle.std.proofs.Common.{◌≡◌, ℕ, List, length}
use Rattle.chain.specs.declared.refusal.Refusal.{Refusal}
use Rattle.chain.specs.Paper.{done}
use Rattle.chain.specs.Output.{over, Writes}
use Rattle.chain.specs.Refusal.{number_of}
use Rattle.chain.proofs.PassedUp.{not_done}

pub refused : (n : ℕ) (s out : List ℕ) (e : Refusal) → number_of e ≡ n → Writes n s out (record { number = number_of e; length = 0 }) out
refused n s out e h = record { answer = rw (← h, not_done e); output = rw (← h, not_done e) }

pub wrote : (n : ℕ) (s out out' : List ℕ) (m : ℕ) → done ≡ n → m ≡ length s → out' ≡ over s out → Writes n s out (record { number = done; length = m }) out'
wrote n s out out' m h l w = record { answer = rw (← h, l); output = rw (← h) w }
