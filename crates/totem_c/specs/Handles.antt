-- The ownership of a handle: an empty one owns nothing, any other its node and the right to free the node's block.
use Rattle.std.specs.Prelude.{Bool, true, false, Option, None, Some}
use base.Fml.{Fml, ftrue, ffalse, fex}
use denote.RawPtr.{Ptr}
use Rattle.std.specs.Box.Ownership.{box_owns}
use Rattle.std.specs.declared.alloc.Global.{Global}
use Rattle.std.specs.contracts.impls.GlobalAllocator.TheImpl.{ghosts}
use Rattle.totem_c.specs.declared.handle_contents.HandleContents.{HandleContents}
use Rattle.totem_c.specs.contracts.handle_contents.HandleContents as contents

-- A node is boxed at this address, in a block of the heap's allocator.
abbrev pub is_boxed_at : Ptr → HandleContents → Global → Fml
is_boxed_at p x heap = box_owns (ghosts.dealloc_token heap) contents.the_row p x

-- The ownership of a handle with this mark, address and contents: a marked one owns its boxed node, an empty one owns
-- nothing.
abbrev pub handle_owns : Bool → Ptr → Option HandleContents → Fml
handle_owns true p (Some x) = fex Global (is_boxed_at p x)
handle_owns true p None = ffalse
handle_owns false p (Some x) = ffalse
handle_owns false p None = ftrue
