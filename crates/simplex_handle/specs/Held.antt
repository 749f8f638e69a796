-- What a handle owns.
use Rattle.std.specs.Prelude.{Option, Some, None}
use base.Fml.{Fml, feq, fex, fsep}
use base.Stored.{Coded}
use denote.RawPtr.{Ptr, block_ptr, null_ptr}
use Rattle.std.specs.Box.Ownership.{box_owns}
use Rattle.std.specs.Coded.{coded_option}
use Rattle.std.specs.declared.alloc.Global.{Global}
use Rattle.std.specs.contracts.impls.GlobalAllocator.TheImpl.{ghosts}
use Rattle.simplex_handle.specs.contracts.auditor.AnyAuditor.{the_row}

-- an auditor, or none
abbrev pub Held : Type 0
Held = Option the_row.Denot

-- null owns nothing, and any other pointer an auditor, in a box of the allocator
abbrev pub holds : Global → Ptr → Held → Fml
holds alloc null_ptr held = feq Held held None
holds alloc (block_ptr b o) held =
    fex the_row.Denot
    (λ one. fsep (feq Held held (Some one)) (box_owns (ghosts.dealloc_token alloc) the_row (block_ptr b o) one))

-- how the logic stores it
abbrev pub held_coded : Coded Held
held_coded = coded_option the_row.coded
