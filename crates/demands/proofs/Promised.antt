-- What each call's promise says of a result is that it is our loader's: so the demands, met by `ours`, hold of the code. Assumes nothing.
use Prim.Native.Nat.{ℕ}
use mathlib.Core.Path.{◌≡◌}
use mathlib.Core.List.{List}
use Rattle.chain.specs.declared.Chain.{Chain}
use Rattle.chain.specs.declared.Made.{Made}
use Rattle.chain.specs.declared.Written.{Written}
use Rattle.machine.specs.declared.Fed.{Fed}
use Rattle.machine.specs.Calls.{Start, Slice}
use Rattle.closing.specs.Calls.{Closing}
use Rattle.writer.specs.Write.{Write}
use Rattle.hunt.specs.declared.Hunted.{Hunted}
use Rattle.hunt.specs.Hunt.{Hunt}
use Rattle.lister.specs.declared.Listed.{Listed}
use Rattle.lister.specs.Listing.{Lists}
use Rattle.tidy.specs.Tidy.{Tidies}
use Rattle.salvage.specs.declared.Salvaged.{Salvaged}
use Rattle.salvage.specs.Salvage.{Salvages}
use Rattle.eprom.specs.declared.Fetcher.{Fetcher}
use Rattle.eprom.specs.declared.Fetched.{Fetched}
use Rattle.eprom.specs.Calls.{Fetch}
use Rattle.sheet.specs.declared.Sheet.{Sheet}
use Rattle.sheet.specs.Sheet.{LoadSheet}
use Rattle.demands.specs.Loader.{AfterSlice, AfterWrite, AfterHunt, AfterList, AfterSalvage, AfterFetch, AfterSheet}
use Rattle.demands.specs.Ours.{ours}

pub start-ours : (c : Chain) (m : List ℕ) (mode check : ℕ) (r : Made) → Start c m mode check r → r ≡ ours.start c m mode check
start-ours c m mode check r h = h.made

pub slice_ours : (c : Chain) (m s : List ℕ) (r : Fed) (m' : List ℕ) → Slice c m s r m' → ◌≡◌ {A = AfterSlice} (record { fed = r; memory = m' }) (ours.slice c m s)
slice_ours c m s r m' h = rw (h.fed, h.memory)

pub closing-ours : (c : Chain) (m out : List ℕ) (r : Written) (out' : List ℕ) → Closing c m out r out'
    → ◌≡◌ {A = AfterWrite} (record { written = r; out = out' }) (ours.closing c m out)
closing-ours c m out r out' h = rw (h.answer, h.output)

pub write_ours : (kind mode control : ℕ) (address starts ends bytes out : List ℕ) (r : Written) (out' : List ℕ)
    → Write kind mode control address starts ends bytes out r out'
    → ◌≡◌ {A = AfterWrite} (record { written = r; out = out' }) (ours.write kind mode control address starts ends bytes out)
write_ours kind mode control address starts ends bytes out r out' h = rw (h.answer, h.output)

pub hunt_ours : (s out : List ℕ) (r : Hunted) (out' : List ℕ) → Hunt s out r out'
    → ◌≡◌ {A = AfterHunt} (record { hunted = r; out = out' }) (ours.hunt s out)
hunt_ours s out r out' h = rw (h.answer, h.output)

pub list-ours : (kind mode : ℕ) (s starts ends offsets : List ℕ) (r : Listed) (a b d : List ℕ) → Lists kind mode s starts ends offsets r a b d
    → ◌≡◌ {A = AfterList} (record { listed = r; starts = a; ends = b; offsets = d }) (ours.list kind mode s starts ends offsets)
list-ours kind mode s starts ends offsets r a b d h = rw (h.answer, h.starts_left, h.ends_left, h.offsets_left)

pub tidy_ours : (kind : ℕ) (s out : List ℕ) (r : Written) (out' : List ℕ) → Tidies kind s out r out'
    → ◌≡◌ {A = AfterWrite} (record { written = r; out = out' }) (ours.tidy kind s out)
tidy_ours kind s out r out' h = rw (h.answer, h.output)

pub salvage_ours : (kind : ℕ) (s out : List ℕ) (r : Salvaged) (out' : List ℕ) → Salvages kind s out r out'
    → ◌≡◌ {A = AfterSalvage} (record { salvaged = r; out = out' }) (ours.salvage kind s out)
salvage_ours kind s out r out' h = rw (h.answer, h.output)

pub fetch_ours : (c : Chain) (f : Fetcher) (m e : List ℕ) (n : ℕ) (r : Fetched) (m' : List ℕ) → Fetch c f m e n r m'
    → ◌≡◌ {A = AfterFetch} (record { fetched = r; memory = m' }) (ours.fetch c f m e n)
fetch_ours c f m e n r m' h = rw (h.answer, h.memory)

pub sheet_ours : (kind mode : ℕ) (s lengths numbers figures : List ℕ) (r : Sheet) (a b : List ℕ) → LoadSheet kind mode s lengths numbers figures r a b
    → ◌≡◌ {A = AfterSheet} (record { sums = r; numbers = a; figures = b }) (ours.sheet kind mode s lengths numbers figures)
sheet_ours kind mode s lengths numbers figures r a b h = rw (h.answer, h.numbers_left, h.figures_left)
