-- Who asks, and whether it leaves.
use Rattle.std.proofs.Common.{◌≡◌, ℕ, Bool, eqb, List, Option, Some, None, refl}
use Rattle.std.specs.Option.{option_map}
use Rattle.deadpool_gate.specs.Gate.{Waiter, find_waiter, without_waiter, asked}
use Rattle.deadpool_gate.proofs.GateListed.{remove_first_none}

-- nobody does if nobody is listed
pub without_waiter_unlisted : (is_closed : Bool) (key : ℕ) (ws : List Waiter)
    → None ≡ option_map (λ (w : Waiter). w.granted) (find_waiter key ws)
    → without_waiter key ws ≡ asked is_closed key ws
without_waiter_unlisted c key ws none = by_cases (find_waiter key ws) refl
  where
    by_cases : (o : Option Waiter) → find_waiter key ws ≡ o → without_waiter key ws ≡ asked c key ws
    by_cases None is = rw is (remove_first_none (λ v. eqb v.ticket key) ws is)
    by_cases (Some w) is = absurd (let some : None ≡ Some w.granted = rw is at none in cc)
