use Rattle.std.proofs.Common.{sym, ap, ◌∙◌}
use Rattle.chain.proofs.PassedUp.{not_done}
use Rattle.eprom.specs.Calls.{fetched_of, fetch_of, fetch_memory}
use Rattle.eprom.specs.Fetch.{Fetching}
use Rattle.eprom.proofs.Numbers.{fetch_going, fetch_done}
use Rattle.eprom.proofs.Walks.{still}
use Rattle.eprom.proofs.fetch.Goals as goal

pub returns-in-Err : goal.returns-in-Err
unfolding fetch_of fetch_memory
returns-in-Err c =
    let n = c.in-Err.ensures {u = tt} in
    record { answer = c.not_fetched.ensures ∙ simp (← n, not_done c.in-Err.why); memory = simp (← n, not_done c.in-Err.why) }

pub invariant_of-board : goal.invariant_of-board
invariant_of-board c = record { going = fetch_going c.args.c c.args.f _ (sym (c.in_default.ensures {u = tt})) }

pub returns-in-Ok : goal.returns-in-Ok
returns-in-Ok c =
    let a = c.args in
    let x = sym (c.in-Ok.ensures {u = tt}) in
    fetch_done a.c a.f a.mem.now a.eprom.now a.n _ _ (c.in_default.ensures {u = tt}) (c.stays.ensures ∙ still _ _ _ ∙ ap fetched_of x) (ap (λ (y : Fetching). y.run.memory) x)

pub returns-in-Err-walk : goal.returns-in-Err-walk
returns-in-Err-walk c =
    let a = c.args in
    let o = c.in-Err-walk.ensures {u = tt} in
    fetch_done a.c a.f a.mem.now a.eprom.now a.n _ _ (c.in_default.ensures {u = tt}) o.value o.memory
