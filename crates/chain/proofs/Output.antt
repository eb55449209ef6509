-- A call that writes into a lent output: two results that meet its promise agree, and a refusal leaves the output as lent. Assumes nothing.
use Prim.Native.Nat.{ℕ}
use mathlib.Core.Logic.{◌≢◌}
use mathlib.Core.Path.{◌≡◌, sym, ◌∙◌}
use mathlib.Core.List.{List}
use borrow.Author.Tests.{ne_eqb}
use lib.ListN.{length}
use Rattle.chain.specs.declared.Written.{Written}
use Rattle.chain.specs.Paper.{done}
use Rattle.chain.specs.Output.{on_done, length_of, output_of, Writes, NothingWritten}

pub writes_only : (n : ℕ) (bytes out : List ℕ) (r s : Written) (out' out'' : List ℕ) → Writes n bytes out r out' → Writes n bytes out s out''
    → (r ≡ s) × (out' ≡ out'')
writes_only n bytes out r s out' out'' p q = (p.answer ∙ sym q.answer, p.output ∙ sym q.output)

pub refused-zero : (n figure : ℕ) → n ≢ done → on_done n figure ≡ 0
refused-zero n figure z = rw (ne_eqb n done z)

pub refused_as_lent : (n : ℕ) (bytes out : List ℕ) → n ≢ done → output_of n bytes out ≡ out
refused_as_lent n bytes out z = rw (ne_eqb n done z)

pub nothing_written : (n : ℕ) (bytes out : List ℕ) → n ≢ done → NothingWritten (length_of n bytes) out (output_of n bytes out)
nothing_written n bytes out z = record { empty = refused-zero n (length bytes) z; as_lent = refused_as_lent n bytes out z }
