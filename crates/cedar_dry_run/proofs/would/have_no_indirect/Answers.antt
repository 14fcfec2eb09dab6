use Rattle.std.proofs.Common.{◌<◌, ◌≡◌, ap, sym, subst, ◌∙◌, length, arith}
use Rattle.std.proofs.lemmas.Bool.{false≢true}
use Rattle.cedar_entity_maps.specs.Plain.{HasNoIndirect}
use Rattle.cedar_dry_run.proofs.Bare.{all_item}
use Rattle.cedar_dry_run.proofs.would.have_no_indirect.Goals as goal

pub returns-then-not-has_no_indirect : goal.returns-then-not-has_no_indirect
returns-then-not-has_no_indirect c =
    let k = c.loop-entity.entity-index in
    let list = c.args.list.now in
    let one = c.entity-item.result in
    let within : k < length list = omega arith in
    let same : c.deref.result.now ≡ one.value = c.deref.ensures in (
      λ t. absurd (false≢true t),
      λ all. c.if-not-has_no_indirect.ensures.1 (subst HasNoIndirect (ap (λ r. r.value) (sym c.entity-item.is) ∙ sym same)
          (all_item (λ r. r.value) HasNoIndirect list k one within all)),
    )
