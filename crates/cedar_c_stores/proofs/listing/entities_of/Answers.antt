use Rattle.std.proofs.Common.{◌∙◌}
use Rattle.cedar_c_stores.proofs.Gathering.{listed_of, unlisted_by}
use Rattle.cedar_c_stores.proofs.listing.entities_of.Goals as goal

pub returns-in-Ok : goal.returns-in-Ok
returns-in-Ok c =
    listed_of c.args.text.now c.args.spans.now c.args.count c.args.edges.now c.in_ok-uids_of.field-0.items
    c.deref.result.now _ c.in_ok-uids_of.ensures (c.deref.ensures.value ∙ c.in_ok-uids.ensures) c.in-Ok.ensures

pub returns : goal.returns
returns c =
    unlisted_by c.args.text.now c.args.spans.now c.args.count c.args.edges.now c.in_ok-uids_of.field-0.items
    c.deref.result.now c.in-Err.reason c.in_ok-uids_of.ensures (c.deref.ensures.value
    ∙ c.in_ok-uids.ensures) c.in-Err.ensures
