use Rattle.std.proofs.Common.{◌∙◌, sym}
use Rattle.cedar_uid_sets.proofs.Abbreviations.{none_without_numbers}
use Rattle.cedar_uid_sets.proofs.order.may_contain.Goals as goal

pub returns-else-uids-gt-FEW : goal.returns-else-uids-gt-FEW
returns-else-uids-gt-FEW c none = none_without_numbers c.args.uid.now c.args.uids.now (sym c.has_numbers.ensures ∙ none)
