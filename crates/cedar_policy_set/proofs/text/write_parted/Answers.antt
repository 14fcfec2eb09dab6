use Rattle.std.specs.Prelude.{refl}
use Rattle.cedar_policy_set.specs.SetTexts.{body_line, is_known_body, known_body}
use Rattle.cedar_policy_set.proofs.Written.{first_then}
use Rattle.cedar_policy_set.proofs.text.write_parted.Goals as goal

pub returns : goal.returns
returns g c = λ k plain ok.
    first_then g.W.Write.write_str_gives is_known_body known_body body_line c.args.first.now c.args.rest c.args.f.now
    c.write_body.new.f c.write_body_lines.new.f (λ a b. c.in_ok-write_body.ensures a b refl)
    (λ a b. c.write_body_lines.ensures a b ok) k plain
