-- New and reset give one device with zero registers, no run open and cells of zero. Assumes nothing.
use Prim.Native.Nat.{ℕ}
use mathlib.Core.Logic.{◌≢◌}
use mathlib.Core.Path.{◌≡◌, refl, ap, sym, ◌∙◌}
use mathlib.Core.List.{List, ◌∷◌}
use native.Mathlib.Nat.{add-zero}
use lib.ListN.{length, replicate, length-replicate}
use Rattle.chain.specs.declared.Chain.{Chain}
use Rattle.chain.specs.declared.Made.{Made}
use Rattle.chain.specs.Paper.{done}
use Rattle.chain.specs.Kinds.{size_of, base_of, known_of}
use Rattle.chain.specs.State.{is_bad_chain}
use Rattle.chain.specs.Calls.{first_only, fresh_chain, chain_rules, chain_number, new_of, reset_of, reset_memory}
use Rattle.chain.proofs.FirstOf.{first-none}
use Rattle.chain.proofs.BadChain.{m_fits}
use Rattle.sheet.specs.Stream.{Device, reset_device}
use Rattle.demands.specs.LoadSheets.{ResetOf}
use Rattle.demands.proofs.Numbers.ListTables.{good_chain}

-- the chain of one device
abbrev fresh : ℕ → Chain
fresh kind = fresh_chain 1 (kind ∷ replicate 7 0)

kinds_are : (kind : ℕ) (unused : List ℕ) → length unused ≡ 7 → first_only 1 (kind ∷ unused) ≡ kind ∷ replicate 7 0
unfolding first_only
kinds_are kind unused seven = rw seven

-- whatever the unused kinds were
fresh_is : (kind : ℕ) (unused : List ℕ) → length unused ≡ 7 → fresh_chain 1 (kind ∷ unused) ≡ fresh kind
fresh_is kind unused seven = rw (kinds_are kind unused seven, kinds_are kind (replicate 7 0) refl)

module _ (kind : ℕ) (unused : List ℕ) (len : ℕ) (seven : length unused ≡ 7) (h : chain_number 1 (kind ∷ unused) len ≡ done) where
  lent-size : len ≡ size_of kind
  unfolding chain_number base_of
  lent-size =
      let f = (m_fits 1 (kind ∷ unused) len).says (first-none (chain_rules 1 (kind ∷ unused) len) done tt h).0 in
      sym f.exact ∙ add-zero (size_of kind)

  made-chain : (new_of 1 (kind ∷ unused) len).chain ≡ fresh kind
  unfolding new_of
  made-chain = rw h (fresh_is kind unused seven)

  -- reset is taken too
  again : chain_number 1 (fresh kind).kinds len ≡ done
  unfolding chain_number is_bad_chain known_of base_of first_only
  again = h

  reset_chain : (reset_of (fresh kind) len).chain ≡ fresh kind
  unfolding reset_of
  reset_chain = rw again (ap (fresh_chain 1) (kinds_are kind (replicate 7 0) refl))

zeroed : (kind : ℕ) (unused m : List ℕ) → length unused ≡ 7 → chain_number 1 (kind ∷ unused) (length m) ≡ done
    → reset_memory (fresh kind) m ≡ replicate (size_of kind) 0
unfolding reset_memory
zeroed kind unused m seven h =
    rw (again kind unused (length m) seven h) (ap (λ (n : ℕ). replicate n 0) (lent-size kind unused (length m) seven h))

pub reset_is : (kind : ℕ) (d : Device) → ResetOf kind d → d ≡ reset_device kind
unfolding new_of
reset_is kind d r =
    let len : ℕ = length r.memory in
    let h : chain_number 1 (kind ∷ r.unused) len ≡ done = ap (λ (x : Made). x.number) (sym r.new.made) ∙ r.accepted in
    let made : r.made.chain ≡ fresh kind = ap (λ (x : Made). x.chain) r.new.made ∙ made-chain kind r.unused len r.seven h in
    let chain : d.chain ≡ fresh kind =
    r.chain ∙ ap (λ (x : Made). x.chain) r.reset.made ∙ ap (λ (c : Chain). (reset_of c len).chain) made ∙ reset_chain kind r.unused len r.seven h in
    let memory : d.memory ≡ replicate (size_of kind) 0 =
    r.reset.memory ∙ ap (λ (c : Chain). reset_memory c r.memory) made ∙ zeroed kind r.unused r.memory r.seven h in
    rw (chain, memory)

-- there is one of every kind
pub reset_there : (kind : ℕ) → size_of kind ≢ 0 → ResetOf kind (reset_device kind)
unfolding new_of
reset_there kind known =
    let m : List ℕ = replicate (size_of kind) 0 in
    let z : chain_number 1 (kind ∷ replicate 7 0) (length m) ≡ done = numbered kind known in
    let made : (new_of 1 (kind ∷ replicate 7 0) (length m)).chain ≡ fresh kind = made-chain kind (replicate 7 0) (length m) refl z in
    record {
      unused = replicate 7 0;
      memory = m;
      made = new_of 1 (kind ∷ replicate 7 0) (length m);
      after = reset_of (new_of 1 (kind ∷ replicate 7 0) (length m)).chain (length m);
      seven = refl;
      new = record { made = refl };
      accepted = z;
      reset =
          record {
            made = refl;
            memory = sym (ap (λ (c : Chain). reset_memory c m) made ∙ zeroed kind (replicate 7 0) m refl z);
          };
      chain = sym (ap (λ (c : Chain). (reset_of c (length m)).chain) made ∙ reset_chain kind (replicate 7 0) (length m) refl z);
    }
  where
    numbered : (kind : ℕ) → size_of kind ≢ 0 → chain_number 1 (kind ∷ replicate 7 0) (length {A = ℕ} (replicate (size_of kind) 0)) ≡ done
    numbered kind known = unfold chain_number in rw (length-replicate {A = ℕ} (size_of kind) 0, good_chain kind known)
