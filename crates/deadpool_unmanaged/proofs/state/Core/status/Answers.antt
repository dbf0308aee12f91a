-- A status is that of the core's lists: all idle objects are available, all gets in the queue wait.
use Rattle.deadpool_unmanaged.proofs.Words.{◌≡◌, length, vec_len, rules, refl, granted_count-length}
use Rattle.deadpool_unmanaged.proofs.Words.{waiting_count-length}
use Rattle.deadpool_unmanaged.proofs.state.Core.status.Goals as goal

pub returns : goal.returns
returns g c =
    let waiters = c.self.inside.gets.waiters in
    let idle : vec_len c.self.inside.idle ≡ length c.self.inside.idle.items = search rules in
    rw (
      ← c.self.view_is,
      c.waiting.ensures.count,
      waiting_count-length waiters,
      c.granted.ensures.count,
      granted_count-length waiters,
      c.len-available.ensures,
      idle,
    ) refl
