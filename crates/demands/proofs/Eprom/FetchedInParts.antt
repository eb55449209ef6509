-- A run of ours fetched in parts, with a pause after each: it is one fetch, and 18 is such a pause. Assumes nothing.
use Prim.Native.Nat.{ℕ, ◌+◌}
use mathlib.Core.Path.{◌≡◌, ap, sym, ◌∙◌}
use mathlib.Core.List.{List, [], ◌∷◌, ◌++◌}
use native.Mathlib.Nat.{zero-add, add_assoc}
use lib.ListN.{length}
use Rattle.chain.specs.declared.Chain.{Chain}
use Rattle.chain.specs.Paper.{more}
use Rattle.chain.specs.Bytes.{Bytes}
use Rattle.chain.proofs.ByCases.{by_eq}
use Rattle.chain.proofs.Bytes.{bytes-front}
use Rattle.machine.specs.Run.{run}
use Rattle.eprom.specs.declared.Fetcher.{Fetcher}
use Rattle.eprom.specs.Fetch.{Fetching, fetching, fetch_all, bytes_fetched}
use Rattle.eprom.specs.Calls.{fetched_of, lent}
use Rattle.eprom.proofs.Turns.{fetch_over}
use Rattle.eprom.proofs.Parts.{fetch_sum, keeps_going as runs_on}
use Rattle.eprom.proofs.Again.{Ready, more_ready, past_ready}
use Rattle.demands.specs.Loader.{AfterFetch}
use Rattle.demands.specs.EpromBoards.{fetched, total, InParts, GoesOn}
use Rattle.demands.specs.Ours.{ours}
use Rattle.demands.proofs.Numbers.FetchRuns.{came, came-more, came_past}
use Rattle.demands.proofs.Eprom.ReadyRuns.{ready, fetch_is, fetch_number_lem}

-- a state as the run x left it
abbrev next : Fetching → List ℕ → ℕ → AfterFetch
next x e k = ours.fetch x.run.chain x.fetcher x.run.memory e k

module _ (c : Chain) (f : Fetcher) (m e : List ℕ) (n : ℕ) (u : Bytes e) (r : Ready c m f) where
  abbrev x : Fetching
  x = fetch_all e n (lent c m f)

  -- the next fetch goes on where the last one stopped
  next_more : x.run.number ≡ more → (k : ℕ) → next x e k ≡ ours.fetch c f m e (n + k)
  next_more h k =
      fetch_is x.run.chain x.fetcher x.run.memory e k (more_ready e n c m f u r h)
      ∙ ap (λ (j : ℕ). came (fetch_all e k (fetching (run x.run.chain x.run.memory j) x.fetcher))) (sym h)
      ∙ ap came (sym (fetch_sum e n k (lent c m f)))
      ∙ sym (fetch_is c f m e (n + k) r)

  -- the call leaves that state
  left-more : x.run.number ≡ more → (ns : List ℕ) (k : ℕ)
      → fetched ours c f m e (n ∷ ns) k ≡ fetched ours x.run.chain x.fetcher x.run.memory e ns k
  unfolding fetched_of
  left-more h ns k =
      ap (λ (a : AfterFetch). fetched ours a.fetched.chain a.fetched.fetcher a.memory e ns k) (fetch_is c f m e n r)
      ∙ ap (λ (d : Chain). fetched ours d (came x).fetched.fetcher x.run.memory e ns k) (came-more x h)

pub in_parts : InParts ours
in_parts c f m e n k o g l u h =
    let r = ready c m f o g l in
    let q = sym (fetch_number_lem c f m e n r) ∙ h in
    sym (left-more c f m e n u r q [] k ∙ next_more c f m e n u r q k)

-- as many parts as one likes, as long as the run is open before the last
pub parts_join : (ns : List ℕ) (c : Chain) (f : Fetcher) (m e : List ℕ) (k : ℕ) → Bytes e → Ready c m f → (fetch_all e (total ns) (lent c m f)).run.number ≡ more
    → fetched ours c f m e ns k ≡ ours.fetch c f m e (total ns + k)
parts_join [] c f m e k u r h = rw (zero-add k)
parts_join (n ∷ ns) c f m e k u r h =
    let x = fetch_all e n (lent c m f) in
    let all = fetch_sum e n (total ns) (lent c m f) in
    by_eq x.run.number more
    (λ q.
    let on : (fetch_all e (total ns) (lent x.run.chain x.run.memory x.fetcher)).run.number ≡ more =
    ap (λ (j : ℕ). (fetch_all e (total ns) (fetching (run x.run.chain x.run.memory j) x.fetcher)).run.number) (sym q)
    ∙ ap (λ (y : Fetching). y.run.number) (sym all) ∙ h
    in
    left-more c f m e n u r q ns k
    ∙ parts_join ns x.run.chain x.fetcher x.run.memory e k u (more_ready e n c m f u r q) on
    ∙ next_more c f m e n u r q (total ns + k)
    ∙ ap (ours.fetch c f m e) (sym (add_assoc n (total ns) k)))
    (λ q. absurd (q (ap (λ (y : Fetching). y.run.number) (sym (all ∙ fetch_over e x q (total ns))) ∙ h)))

pub keeps_going : GoesOn ours
unfolding fetched_of
keeps_going c f m e d n k o g l u h =
    let r = ready c m f o g l in
    let q = sym (fetch_number_lem c f m e n r) ∙ h in
    let x = fetch_all e n (lent c m f) in
    let t : ℕ = length (bytes_fetched e n (lent c m f)) in
    ap (λ (a : AfterFetch). ours.fetch a.fetched.chain a.fetched.fetcher a.memory (e ++ d) k) (fetch_is c f m e n r)
    ∙ ap (λ (y : Chain). ours.fetch y (came x).fetched.fetcher x.run.memory (e ++ d) k) (came_past x q)
    ∙ fetch_is x.run.chain x.fetcher x.run.memory (e ++ d) k (past_ready e n c m f (bytes-front e d u) r q)
    ∙ ap (λ (y : Fetching). came (fetch_all (e ++ d) k y)) (sym (runs_on e d n c m f q))
    ∙ ap came (sym (fetch_sum (e ++ d) t k (lent c m f)))
    ∙ sym (fetch_is c f m (e ++ d) (t + k) r)
