use Rattle.std.proofs.Common.{◌≡◌, ◌∙◌, sym, ap, arith}
use Rattle.cedar_ids.specs.laws.TextLaws.{same_text_decides}
use Rattle.cedar_body.specs.Bodies.{BodyParts}
use Rattle.cedar_policy_merge.specs.laws.SharedLaws.{found_at}
use Rattle.cedar_policy_merge.proofs.cursor_lookup.new_body_at.Goals as goal

pub returns-then-eq : goal.returns-then-eq
returns-then-eq c =
    let own : c.id.result.now ≡ c.args.id.now =
    (same_text_decides c.id.result.now c.args.id.now).0 (sym c.eq.ensures ∙ c.if-eq.true) in
    found_at c.args.joined.now c.loop-next.next c.index-joined-next.result c.args.id.now c.requires (omega arith)
    c.index-joined-next.is (sym (ap (λ (b : BodyParts). b.id) c.deref.ensures) ∙ sym c.id.ensures ∙ own)
