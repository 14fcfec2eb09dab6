use Rattle.std.proofs.Common.{◌≡◌}
use Rattle.std.proofs.lemmas.Result.{MatchResult-weaker}
use Rattle.cedar_entity.proofs.FieldLists.{copied_fields}
use Rattle.cedar_entity.proofs.entity.copy_of_fields.Goals as goal

pub returns : goal.returns
returns c =
    MatchResult-weaker c.clone.result c.clone.ensures.cases
    (λ n h. copied_fields (λ x y. y ≡ x) (λ x y h. h) c.args.fields.now.entries n.entries h) (λ _ _. tt)
