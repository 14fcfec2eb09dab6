use Rattle.std.proofs.Common.{sym}
use Rattle.cedar_c_stores.proofs.Gathering.{push_new}
use Rattle.cedar_c_stores.proofs.listing.push_parent_at.Goals as goal

pub returns-clause-ok : goal.returns-clause-ok
returns-clause-ok c =
    let one = c.in-Some.one.now in
    let at = c.in-Some.ensures.item.3 in (
      at.0,
      push_new c.args.listed.now.items c.args.place one c.add.new.self c.args.parent at.0
          (sym (at.1 one)) c.in_ok-add.ensures,
    )
