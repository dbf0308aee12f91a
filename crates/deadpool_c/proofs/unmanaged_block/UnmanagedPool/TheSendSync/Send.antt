-- A block may go to another thread, since its state may.
use Rattle.deadpool_c.proofs.Steps.{Keyless, raw_type as raw, lone, Ptr, block_ptr, null_ptr, exits_of, shape, fields}
use Rattle.deadpool_c.proofs.Steps.{to, IsSend, AllSend, owning_send, struct_send, sendable, quiet, lies, handle_send}
use Rattle.deadpool_c.proofs.Words.{Global, unmanaged_owns}
use Rattle.deadpool_c.proofs.unmanaged_state.UnmanagedState.TheSendSync.{the_send as state}
use Rattle.deadpool_c.specs.contracts.unmanaged_block.UnmanagedPool.{the_row, the_type}
use Rattle.deadpool_c.specs.contracts.unmanaged_state.UnmanagedState.{the_row as state_row}

owned : (alloc : Global) (p : Ptr) (x : state_row.Denot) → Keyless (unmanaged_owns alloc p x)
owned alloc (block_ptr b o) x = (
  lies state_row state (block_ptr b o) x,
  Rattle.std.proofs.Crossing.frees.frees alloc (raw (lone state_row.mir)) (block_ptr b o),
)
owned alloc null_ptr x = tt

pub send : IsSend the_row
send =
    let all : AllSend (fields the_type) = (search sendable, (handle_send, tt)) in
    owning_send the_type all (λ d. owned d.alloc d.at d.state)
    (λ k. quiet (to the_type) (exits_of k (fields the_type)) ((struct_send (shape the_type) all).leaving k))
