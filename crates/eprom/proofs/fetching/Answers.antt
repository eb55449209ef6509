use Rattle.std.proofs.Common.{sym, ◌∙◌, rules}
use Rattle.chain.proofs.PassedUp.{passed_up}
use Rattle.chain.proofs.Tests.{tests}
use Rattle.eprom.proofs.Numbers.{fetch_passes, fetch_of_state}
use Rattle.eprom.proofs.fetching.Goals as goal

pub returns-in_err-sound : goal.returns-in_err-sound
returns-in_err-sound c =
    let a = c.args in
    rw (fetch_of_state a.c a.f a.len) (search (rules, passed_up))

pub returns-then-f-gt-LAST_COUNT : goal.returns-then-f-gt-LAST_COUNT
returns-then-f-gt-LAST_COUNT c =
    let a = c.args in
    simp (fetch_passes a.c a.f a.len (sym (c.in_ok-sound.ensures {u = tt}))) (search tests)

pub returns-then-c-eq-CLOSED : goal.returns-then-c-eq-CLOSED
returns-then-c-eq-CLOSED c =
    let a = c.args in
    simp (fetch_passes a.c a.f a.len (sym (c.in_ok-sound.ensures {u = tt}))) (search tests)

pub returns-then-not-is_fetched : goal.returns-then-not-is_fetched
returns-then-not-is_fetched c =
    let a = c.args in
    simp (fetch_passes a.c a.f a.len (sym (c.in_ok-sound.ensures {u = tt})), sym c.is_fetched.ensures ∙ c.if-not-is_fetched.true) (search tests)

pub returns : goal.returns
returns c =
    let a = c.args in
    simp (fetch_passes a.c a.f a.len (sym (c.in_ok-sound.ensures {u = tt})), sym c.is_fetched.ensures ∙ c.if-not-is_fetched.false) (search tests)
