-- Ownership of a handle of a policy set: nothing, or what a box with its value owns.
use Rattle.std.specs.Prelude.{Option, Some, None}
use base.Fml.{Fml, ftrue}
use base.Stored.{Coded}
use denote.RawPtr.{Ptr}
use Rattle.std.specs.Box.Ownership.{box_owns}
use Rattle.std.specs.Coded.{coded_option}
use Rattle.std.specs.Global.{Global}
use Rattle.std_heap.specs.contracts.GlobalAllocator.TheImpl.{ghosts}
use Rattle.cedar_c.specs.contracts.policies_handle.Inner.{the_row}

-- The ownership of a handle with an address: nothing for a closed handle, and the ownership of a box for an open one.
abbrev pub held_owns : Global → Ptr → Option the_row.Denot → Fml
held_owns alloc at None = ftrue
held_owns alloc at (Some x) = box_owns (ghosts.dealloc_token alloc) the_row at x

-- The code of the contents of a handle.
abbrev pub held_coded : Coded (Option the_row.Denot)
held_coded = coded_option the_row.coded
