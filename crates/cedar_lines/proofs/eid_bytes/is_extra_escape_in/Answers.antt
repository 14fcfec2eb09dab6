use Rattle.std.proofs.Common.{◌-◌, length, ap, ◌∙◌, arith}
use Rattle.std.specs.Int.{bit_at}
use Rattle.std.proofs.lemmas.Bool.{eqb-true}
use Rattle.std.proofs.lemmas.Nat.Bits.{bit_at-zero}
use Rattle.cedar_lines.proofs.EscapeBytes.{AreOwnEscapesIn-eight, is_extra_escape-from_place, no_bit_from}
use Rattle.cedar_lines.proofs.eid_bytes.is_extra_escape_in.Goals as goal

pub loop-at-preserved : goal.loop-at-preserved
loop-at-preserved c = record {
  near = omega arith;
  seen = AreOwnEscapesIn-eight c.args.text.now c.args.from c.loop-at.at c.loop-at.at _ _ (omega arith) (omega arith)
      c.loop-at.invariant.seen c.escapes_at.ensures
      (λ k _. ap (λ m. bit_at m k) c.if-escapes_at-ne0.false ∙ bit_at-zero k);
}

pub returns : goal.returns
returns c clear =
    let last = length c.args.text.now - 8 in
    is_extra_escape-from_place c.args.text.now c.args.from
    (AreOwnEscapesIn-eight c.args.text.now c.args.from c.loop-at.at last _ _ (omega arith) (omega arith)
    c.loop-at.invariant.seen c.escapes_at-2.ensures
    (λ k past. no_bit_from _ (c.loop-at.at - last) k (eqb-true _ 0 clear) (omega arith)))
