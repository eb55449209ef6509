-- Document 02, wish 1: fetchers that the demands shut out. Each is ours, with what it makes of a byte, or what a call leaves, altered. Assumes nothing.
use Rattle.std.specs.Prelude.{ℕ, zero, suc, ◌&&◌, List, eqb, length}
use Rattle.chain.specs.Paper.{at_preamble, first_mode, done, more, past_eprom}
use Rattle.chain.specs.Rules.{pick}
use Rattle.chain.specs.Set.{with_place, closed_place}
use Rattle.awaited.specs.Byte.{awaits}
use Rattle.machine.specs.Run.{step_of}
use Rattle.eprom.specs.declared.Fetcher.{Fetcher}
use Rattle.eprom.specs.declared.Fetched.{Fetched}
use Rattle.eprom.specs.Counter.{home_of, next_of}
use Rattle.eprom.specs.Kept.{with_counter, with_nulled, not_yet, astray, onward}
use Rattle.eprom.specs.Fetch.{Fetching, fetching, at_counter, fetch_one}
use Rattle.eprom.specs.Calls.{fetch_number, fetched_of, lent}
use Rattle.demands.specs.Loader.{Loader, AfterFetch, with_fetch}
use Rattle.demands.specs.Ours.{ours}

-- ---- another byte: what it makes of a byte of an open run, given what ours makes of it

abbrev pub stepping : (List ℕ → Fetching → Fetching → Fetching) → List ℕ → ℕ → Fetching → Fetching
stepping g e zero x = x
stepping g e (suc n) x = stepping g e n (pick (eqb x.run.number more) (g e x (fetch_one e x)) x)

abbrev pub refetching : (List ℕ → Fetching → Fetching → Fetching) → Loader
refetching g =
    with_fetch ours
    (λ c f m e n.
    let x = stepping g e n (lent c m f) in
    pick (eqb (fetch_number c f (length m)) done) (record { fetched = fetched_of x; memory = x.run.memory }) (ours.fetch c f m e n))

-- the same, its fetcher replaced
abbrev pub keeping : Fetching → Fetcher → Fetching
keeping x f = fetching x.run f

-- jumps after every null byte of the section: each is taken for the first
abbrev pub every_null : Loader
every_null = refetching (λ e x y. fetch_one e (keeping x (with_nulled x.fetcher not_yet)))

-- begins a run with what the one before it left: the preamble changes the counter alone
abbrev pub stale : Loader
stale =
    refetching
    (λ e x y.
    pick (awaits x.run.chain at_preamble && eqb y.run.number more) (keeping y (with_counter x.fetcher y.fetcher.counter)) y)

-- counts up, in mode 2 too
abbrev pub upward : Loader
upward =
    refetching
    (λ e x y.
    let k = x.fetcher.counter in
    pick (eqb y.fetcher.counter (next_of x.run.chain.place.mode k)) (keeping y (with_counter y.fetcher (next_of first_mode k))) y)

-- jumps wherever it is told to, above 1FFFF too
abbrev pub far_jump : Loader
far_jump =
    refetching
    (λ e x y.
    let c = x.run.chain in
    pick (astray c.place x.fetcher) (fetching (step_of c x.run.memory (at_counter e x)) (onward c.place x.fetcher (at_counter e x))) y)

-- keeps the counter's next value at a run's end, whatever B0 is
abbrev pub never_home : Loader
never_home =
    refetching
    (λ e x y.
    pick (eqb y.run.number done) (keeping y (with_counter y.fetcher (next_of x.run.chain.place.mode x.fetcher.counter))) y)

-- ---- another call: what it leaves, given what ours leaves

abbrev pub afterwards : (AfterFetch → Fetched → Fetched) → Loader
afterwards g = with_fetch ours (λ c f m e n. let a = ours.fetch c f m e n in record { fetched = g a a.fetched; memory = a.memory })

-- closes the run with 18
abbrev pub shut_past : Loader
shut_past =
    afterwards
    (λ a r.
    pick (eqb r.answer.number past_eprom) (record { chain = with_place r.chain closed_place; answer = r.answer; fetcher = r.fetcher }) r)

-- puts the counter back where it starts with 18
abbrev pub home_past : Loader
home_past =
    afterwards
    (λ a r.
    pick (eqb r.answer.number past_eprom)
    (record { chain = r.chain; answer = r.answer; fetcher = with_counter r.fetcher (home_of r.chain.place.mode) })
    r)
