-- A box of the contents of a handle, in the heap, and its parts.
use mir.Syntax.{impl, tnil, dnil}
use mathlib.Core.List.{[]}
use denote.Param.Laws.{Laws}
use denote.RattleType.{RattleType}
use Rattle.std_alloc.proofs.BoxSteps.Form.{Bx}
use Rattle.std_heap.specs.contracts.Global as Heap
use Rattle.std_heap.specs.contracts.GlobalAllocator.TheImpl.{ghosts, dict}
use Rattle.std_heap.proofs.Global.TheLaws as heap
use Rattle.cedar_c.specs.contracts.parts.Parts as Parts

-- A box of a type, in the heap.
abbrev pub box_of : (row : RattleType) → Laws row → Bx
box_of row laws = record {
  row = row;
  laws = laws;
  al = record { row = Heap.the_row; laws = heap.the_row_laws; g = ghosts; d = dict; drops = impl [] tnil dnil };
}

-- The parts of such a box.
abbrev pub parts_of : RattleType → RattleType
parts_of row = Parts.the_row row Heap.the_row ghosts
