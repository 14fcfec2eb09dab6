use Rattle.std.proofs.Common.{◌∙◌, sym, arith}
use Rattle.cedar_policy_merge.specs.laws.Numerals.{numeral_decimal}
use Rattle.cedar_policy_merge.proofs.fresh.digits_of.Goals as goal

pub returns-then-number-lt18446744073709551616 : goal.returns-then-number-lt18446744073709551616
returns-then-number-lt18446744073709551616 c = c.in_ok-text.ensures.ok ∙ sym (numeral_decimal c.args.number (omega (arith, c.ranges.number.fits)))

pub returns : goal.returns
returns c = c.in_ok-text-2.ensures.ok ∙ sym (numeral_decimal c.args.number (omega (arith, c.ranges.number.fits)))
