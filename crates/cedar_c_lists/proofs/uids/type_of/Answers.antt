use Rattle.std.proofs.Common.{Err, inr, refl, subst, sym}
use Rattle.cedar_ids.specs.Reads.{IsTextOfNone, IsTypeText, Reads}
use Rattle.cedar_ids.specs.TextOf.{IsNameText}
use Rattle.cedar_ids.specs.declared.entity.EntityType.TheVariants.{EntityType}
use Rattle.cedar_ids.specs.declared.err.ParseErrors.{ParseErrors}
use Rattle.cedar_c_lists.proofs.uids.type_of.Goals as goal

pub returns-in-Err-InvalidName : goal.returns-in-Err-InvalidName
returns-in-Err-InvalidName c =
    let none : IsTextOfNone IsTypeText c.in-Ok.text.now =
    subst (λ (e : ParseErrors). Reads IsTypeText (Err e) c.in-Ok.text.now) c.in-Err-InvalidName.field-0-is
    c.in-Err-InvalidName.ensures in
    inr (refl, λ _ n named. none (EntityType n) (subst (IsNameText n) (sym c.in-Ok.ensures.cases.0) named))
