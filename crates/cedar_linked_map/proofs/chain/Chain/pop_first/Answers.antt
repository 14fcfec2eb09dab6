use Rattle.std.proofs.Common.{length}
use Rattle.cedar_linked_map.proofs.Ends.{first_within, first_entry, popped, some_len}
use Rattle.cedar_linked_map.proofs.Seen.{still_unique}
use Rattle.cedar_linked_map.proofs.chain.Chain.pop_first.Goals as goal

pub take_at-requires-clause-within : goal.take_at-requires-clause-within
take_at-requires-clause-within g c =
    let chain = c.args.self.now in
    first_within chain.nodes.entries chain.first chain.last c.requires.small c.requires.linked
    (some_len (length chain.nodes.entries) c.is_empty.result c.is_empty.ensures.1 c.if-is_empty.false)

pub returns-clause-some : goal.returns-clause-some
returns-clause-some g c =
    let chain = c.args.self.now in
    let taken = c.take_at.ensures.taken in
    let front = first_entry chain.nodes.entries chain.first chain.last c.requires.small c.requires.linked
    c.take_at.result c.take_at.ensures.cell
    (some_len (length chain.nodes.entries) c.is_empty.result c.is_empty.ensures.1 c.if-is_empty.false) in
    popped g.met.K.Eq.laws _ c.take_at.result front.0 _ taken.0 taken.1
    (still_unique chain.nodes.entries chain.first chain.last c.requires.small c.requires.linked g.met.K.Eq.laws
    c.requires.unique)
    front.1 taken.2 taken.3
