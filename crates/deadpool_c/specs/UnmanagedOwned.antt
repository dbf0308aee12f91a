-- What the block of an unmanaged pool owns: its state on the heap, or nothing with a null pointer.
use base.Fml.{Fml, ftrue}
use base.Stored.{Coded}
use denote.RawPtr.{Ptr, block_ptr, null_ptr}
use Rattle.std.specs.Box.Ownership.{box_owns}
use Rattle.std.specs.Global.{Global}
use Rattle.std_heap.specs.contracts.GlobalAllocator.TheImpl.{ghosts}
use Rattle.deadpool_c.specs.contracts.unmanaged_state.UnmanagedState.{the_row}

abbrev pub unmanaged_owns : Global → Ptr → the_row.Denot → Fml
unmanaged_owns alloc (block_ptr b o) x = box_owns (ghosts.dealloc_token alloc) the_row (block_ptr b o) x
unmanaged_owns alloc null_ptr x = ftrue

abbrev pub unmanaged_coded : Coded the_row.Denot
unmanaged_coded = the_row.coded
