-- A text of a uid with an ASCII eid is parsed as that uid.
use Rattle.std.proofs.Common.{◌≡◌, ℕ, List, ap, ◌∙◌, refl}
use Rattle.cedar_ids.specs.Escape.{escaped}
use Rattle.cedar_ids.specs.Printed.{printed_name}
use Rattle.cedar_ids.specs.TextOf.{IsPrinted}
use Rattle.cedar_ids.specs.UidOf.{uid_parts}
use Rattle.cedar_ids.specs.declared.entity.EntityUID.{EntityUID}
use Rattle.cedar_ids.specs.declared.entity.EntityUID.TheVariants as uids
use Rattle.cedar_ids.specs.laws.PrintedLaws.{halves-printed, printed_uid_injective}
use Rattle.cedar_ids.specs.laws.UidReading.{uid_halves}
use Rattle.cedar_ids.specs.laws.UidTexts.{starts_named}
use Rattle.cedar_c_lists.specs.Texts.{IsReadOf}

same_parts : (x y : EntityUID) → uid_parts x ≡ uid_parts y → x ≡ y
same_parts (uids.EntityUID u) (uids.EntityUID v) e = ap uids.EntityUID e

pub read_of_printed : (u : EntityUID) (text : List ℕ) → IsPrinted (uid_parts u) text → IsReadOf u text
read_of_printed u text p = record {
  printed = λ _. p;
  exact = λ v q. same_parts u v (printed_uid_injective (uid_parts u) (uid_parts v) text p q);
  starts =
      starts_named text (printed_name (uid_parts u).name) (escaped (uid_parts u).eid) (uid_parts u).name
      (ap uid_halves p.2 ∙ halves-printed (uid_parts u) p.0) (p.0, refl);
}
