-- The box that an open handle of a policy set has.
use Rattle.std_alloc.proofs.BoxSteps.Form.{Bx}
use Rattle.cedar_c.specs.contracts.policies_handle.Inner.{the_row}
use Rattle.cedar_c.proofs.policies_handle.Inner.TheLaws.{the_row_laws}
use Rattle.cedar_c.proofs.AsBox.{box_of}

-- A box of the contents of the handle.
abbrev pub E : Bx
E = box_of the_row the_row_laws
