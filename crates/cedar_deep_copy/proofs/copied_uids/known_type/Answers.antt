use Rattle.std.proofs.Common.{sym, ◌∙◌}
use Rattle.cedar_ids.specs.laws.NameLaws.{name_eq-Decides}
use Rattle.cedar_deep_copy.proofs.copied_uids.known_type.Goals as goal

pub returns-then-eq : goal.returns-then-eq
returns-then-eq c =
    let same = (name_eq-Decides c.name.result.now c.name-in-loop-known.result.now).0 (sym c.if-eq.ensures) in
    c.in_ok-copy.ensures ∙ sym c.name.ensures.value ∙ same ∙ c.name-in-loop-known.ensures.value
