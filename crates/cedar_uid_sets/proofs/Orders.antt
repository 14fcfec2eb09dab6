-- The order of three uids.
use Rattle.std.specs.Prelude.{◌≡◌, ◌≤◌, false}
use Rattle.std.proofs.Common.{ap, sym, ◌∙◌, arith}
use Rattle.std.specs.Ordering.{ordering_index, ordering_reverse, is_eq}
use Rattle.std.specs.declared.cmp.Ordering.{Ordering}
use Rattle.std.specs.declared.cmp.Ordering.TheVariants.{Less, Equal, Greater}
use Rattle.cedar_ids.specs.UidOf.{uid_order, same_uid}
use Rattle.cedar_ids.specs.laws.UidOfLaws.{uid_order_total, uid_order_ties, same_uid_decides}
use Rattle.cedar_ids.specs.declared.entity.EntityUID.{EntityUID}

top : (o : Ordering) → ordering_index o ≤ 2
top Less = omega arith
top Equal = omega arith
top Greater = omega arith

from_less : (o p : Ordering) → o ≡ Less → ordering_index o ≤ ordering_index p
from_less o Less e = rw e (omega arith)
from_less o Equal e = rw e (omega arith)
from_less o Greater e = rw e (omega arith)

-- If x is less than y, then x compares to a third uid at most as y does.
pub rises : (x y u : EntityUID) (r : Ordering) → uid_order y u ≡ r → uid_order x y ≡ Less
    → ordering_index (uid_order x u) ≤ ordering_index r
rises x y u Less e l = from_less (uid_order x u) Less (uid_order_total.trans x y u l e)
rises x y u Equal e l =
    let back : uid_order u x ≡ uid_order y x = sym (uid_order_total.congr y u x e) in
    from_less (uid_order x u) Equal (uid_order_total.antisymm x u ∙ ap ordering_reverse back
    ∙ sym (uid_order_total.antisymm x y) ∙ l)
rises x y u Greater e l = top (uid_order x u)

-- If x is less than y, they differ.
pub apart : (x y : EntityUID) → uid_order x y ≡ Less → same_uid x y ≡ false
apart x y l = uid_order_ties x y ∙ ap is_eq l

-- If y is less than x, they differ.
pub apart_back : (x y : EntityUID) → uid_order y x ≡ Less → same_uid x y ≡ false
apart_back x y l = uid_order_ties x y ∙ ap is_eq (uid_order_total.antisymm x y ∙ ap ordering_reverse l)

pub turned : (x y : EntityUID) → uid_order x y ≡ Greater → uid_order y x ≡ Less
turned x y g = uid_order_total.antisymm y x ∙ ap ordering_reverse g

pub equal_is : (x y : EntityUID) → uid_order x y ≡ Equal → x ≡ y
equal_is x y e = (same_uid_decides x y).0 (uid_order_ties x y ∙ ap is_eq e)
