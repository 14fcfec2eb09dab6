use Rattle.cedar_dry_run.proofs.Bare.{bare_so}
use Rattle.cedar_dry_run.proofs.would.has_no_indirect.Goals as goal

pub returns : goal.returns
returns c = bare_so c.args.entity.now.indirect c.indirect_ancestors.result c.next.new.self
    c.indirect_ancestors.ensures.lists.members c.next.result c.next.ensures.steps c.is_none.result c.is_none.ensures
