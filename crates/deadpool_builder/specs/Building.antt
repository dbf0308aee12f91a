-- What a pool is made of.
use Rattle.std.specs.Prelude.{ℕ, Bool, false, [], Option, None, is_some, is_none, ◌&&◌, ◌||◌}
use Rattle.deadpool_parts.specs.declared.config.QueueMode.{QueueMode}
use Rattle.deadpool_parts.specs.declared.config.QueueMode.TheVariants.{Fifo}
use Rattle.deadpool_parts.specs.declared.config.Timeouts.{Timeouts}
use Rattle.deadpool_parts.specs.declared.moment.Runtime.{Runtime}
use Rattle.deadpool_parts.specs.Timeouts.{no_timeouts}
use Rattle.deadpool_managed.specs.HookLists.{HookLists}

pub record Building (M F A C : Type 0) : Type 0 where
  pub manager : M
  pub hooks : HookLists F A
  pub clock : C
  pub max_size : ℕ
  pub timeouts : Timeouts
  pub queue_mode : QueueMode
  pub min_idle : ℕ
  -- how many gets may wait, if that is bounded
  pub max_waiting : Option ℕ
  -- whether the queue is to have room for all of them from the beginning
  pub room_for_waiting : Bool
  pub runtime : Option Runtime
  -- how many entries the journal may have
  pub journal : ℕ

abbrev pub no_hooks : {F A : Type 0} → HookLists F A
no_hooks = record { pre_recycle = []; post_recycle = []; post_create = [] }

-- what a pool is made of if nothing is said but these
abbrev pub newly : {M F A C : Type 0} → M → C → Building M F A C
newly manager clock =
    record {
      manager = manager;
      hooks = no_hooks;
      clock = clock;
      max_size = 2;
      timeouts = no_timeouts;
      queue_mode = Fifo;
      min_idle = 0;
      max_waiting = None;
      room_for_waiting = false;
      runtime = None;
      journal = 0;
    }

-- a timeout is set, zero included, and nothing is there to serve it
abbrev pub lacks_any_runtime : Option Runtime → Timeouts → Bool
lacks_any_runtime runtime t = (is_some t.wait || is_some t.create || is_some t.recycle) && is_none runtime
