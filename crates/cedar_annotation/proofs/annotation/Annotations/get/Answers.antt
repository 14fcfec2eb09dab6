use Rattle.std.proofs.Common.{ap, sym, ◌∙◌}
use Rattle.cedar_annotation.specs.Annotations.{value_at}
use Rattle.cedar_annotation.proofs.Pairs.{value_at-lookup}
use Rattle.cedar_annotation.proofs.annotation.Annotations.get.Goals as goal

pub returns : goal.returns
returns c = c.get.ensures.value ∙ sym (value_at-lookup c.args.key.now c.self.inside.pairs.entries)
    ∙ ap (value_at c.args.key.now) c.self.view_is
