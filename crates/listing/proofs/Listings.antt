-- The windows that the lister's tables name are those of the definition. Assumes nothing.
use Rattle.std.proofs.Common.{ℕ, ◌≡◌, ap, ◌∙◌, List, ◌++◌, length, take, drop}
use Rattle.std.proofs.lemmas.List.{length-map}
use Rattle.std.proofs.Math.Seq.{take_at}
use Rattle.reader.specs.Windows.{ReadWindow}
use Rattle.lister.specs.declared.Listed.{Listed}
use Rattle.reader.specs.Stream.{preamble_at}
use Rattle.lister.specs.Listing.{listed_of, starts_of, ends_of, listed, listing, Lists}
use Rattle.lister.proofs.Tables.{lists_leave}
use Rattle.listing.specs.Program.{most_windows, lister_stop, windows_listed, windows_text, answer_line, lines_of}

module _ (kind mode : ℕ) (s starts ends offsets : List ℕ) (r : Listed) (starts' ends' offsets' : List ℕ)
    (a : length starts ≡ most_windows) (b : length ends ≡ most_windows) (c : length offsets ≡ most_windows)
    (l : Lists kind mode s starts ends offsets r starts' ends' offsets') where
  is_stop : listed kind mode s starts ends offsets ≡ lister_stop kind mode s
  is_stop = rw (a, b, c)

  pub record Told : Type 0 where
    pub number : r.number ≡ (lister_stop kind mode s).number
    pub taken : r.taken ≡ (lister_stop kind mode s).taken
    pub starts_are : take r.windows starts' ≡ starts_of (windows_listed kind mode s (lister_stop kind mode s))
    pub ends_are : take r.windows ends' ≡ ends_of (windows_listed kind mode s (lister_stop kind mode s))

  pub told : Told
  unfolding listed_of
  told =
      let ws : List ReadWindow = listing kind mode s starts ends offsets in
      let left = lists_leave kind mode s starts ends offsets r starts' ends' offsets' l in
      let f : take r.windows starts' ≡ starts_of ws =
      ap (take r.windows) left.starts_are ∙ take_at (starts_of ws) (drop r.windows starts) r.windows (length-map ws _ ∙ left.count) in
      let g : take r.windows ends' ≡ ends_of ws =
      ap (take r.windows) left.ends_are ∙ take_at (ends_of ws) (drop r.windows ends) r.windows (length-map ws _ ∙ left.count) in
      let e : r ≡ listed_of s (preamble_at mode) (lister_stop kind mode s) = l.answer ∙ ap (listed_of s (preamble_at mode)) is_stop in
      record {
        number = ap (λ (z : Listed). z.number) e;
        taken = ap (λ (z : Listed). z.taken) e;
        starts_are = rw is_stop at f;
        ends_are = rw is_stop at g;
      }

-- and the last line after them makes the whole text
pub lines_whole : (kind mode : ℕ) (s windows new : List ℕ) (number taken : ℕ) (following : List ℕ) → number ≡ (lister_stop kind mode s).number → taken ≡ (lister_stop kind mode s).taken
    → windows ≡ windows_text kind mode s (lister_stop kind mode s) → new ≡ windows ++ answer_line number taken following
    → new ≡ lines_of kind mode s (lister_stop kind mode s) following
unfolding lines_of
lines_whole kind mode s windows new number taken following n t w e = rw (n, t, w) at e
