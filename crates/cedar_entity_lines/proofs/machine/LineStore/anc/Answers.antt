use Rattle.std.specs.Prelude.{codes, ◌++◌}
use Rattle.std.proofs.Common.{sym, subst}
use Rattle.std.specs.List.{flat_map}
use Rattle.std.proofs.lemmas.Result.{on_ok_weaker}
use Rattle.cedar_lines.specs.Lines.{written_line}
use Rattle.cedar_entity_lines.specs.EntityOutput.{field_of}
use Rattle.cedar_entity_lines.specs.Holding.{Holds}
use Rattle.cedar_entity_lines.proofs.Steps.{shows_none, shows_some, found_reach, found_ascii}
use Rattle.cedar_entity_lines.proofs.machine.LineStore.anc.Goals as goal

pub returns-in-None : goal.returns-in-None
returns-in-None g c = on_ok_weaker c.push_line.result
    (λ text s h.
    let entity_at = subst (λ m. Holds m s) (sym c.self.view_is) h in
    (written_line (codes "no entity"), shows_none s.input_store _ c.args.uid.now entity_at.plain c.in-None.ensures.value, text))
    c.push_line.ensures

pub returns-in-Some : goal.returns-in-Some
returns-in-Some g c =
    let e = c.in-Some.entity.now in
    let us = c.ancestors_in_order.result in
    let at = c.in-Some.ensures.value in
    let ascend = c.ancestors_in_order.ensures.ascending in
    let members = c.ancestors_in_order.ensures.members in
    on_ok_weaker c.push_ancestors.result
    (λ text s h.
    let entity_at = subst (λ m. Holds m s) (sym c.self.view_is) h in
    let found = found_reach s.input_store _ c.args.uid.now e entity_at.plain at in (
      written_line (codes "anc" ++ flat_map field_of us),
      shows_some s.input_store _ c.args.uid.now e us entity_at.plain at ascend members,
      text (found_ascii s.input_store c.args.uid.now e us found h.ascii_input members),
    ))
    c.push_ancestors.ensures
