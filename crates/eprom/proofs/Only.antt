-- Two results that meet a call's promise agree. Assumes nothing.
use Rattle.std.proofs.Common.{◌≡◌, ℕ, List, sym, ◌∙◌}
use Rattle.chain.specs.declared.Chain.{Chain}
use Rattle.eprom.specs.declared.Fetcher.{Fetcher}
use Rattle.eprom.specs.declared.Fetched.{Fetched}
use Rattle.eprom.specs.Calls.{FetcherNew, Fetch}

pub fetcher_new_only : (mode : ℕ) (f g : Fetcher) → FetcherNew mode f → FetcherNew mode g → f ≡ g
fetcher_new_only mode f g a b = a.made ∙ sym b.made

pub fetch_only : (c : Chain) (f : Fetcher) (m e : List ℕ) (n : ℕ) (r q : Fetched) (x y : List ℕ) → Fetch c f m e n r x → Fetch c f m e n q y → (r ≡ q) × (x ≡ y)
fetch_only c f m e n r q x y a b = (a.answer ∙ sym b.answer, a.memory ∙ sym b.memory)
