use Rattle.std.proofs.Common.{sym, ◌∙◌, codes, map}
use Rattle.std.proofs.lemmas.Result.{IfOk-weaker}
use Rattle.cedar_policy_lines.proofs.Fields.{taken_by}
use Rattle.cedar_policy_lines.proofs.machine.PolicySets.apply_fields.Goals as goal

pub returns-then-eq : goal.returns-then-eq
returns-then-eq g c =
    rw c.in-Some.ensures.cases.0
    (IfOk-weaker c.apply_link.result _ _
    (λ taken. taken_by (codes "link") taken c.in-Some.word.now.now (map (λ f. f.now) c.in-Some.rest.now)
    c.args.self.now c.apply_link.new.self c.args.out.now.items c.apply_link.new.out.items
    (sym c.eq.ensures ∙ c.if-eq.true))
    c.apply_link.ensures)
