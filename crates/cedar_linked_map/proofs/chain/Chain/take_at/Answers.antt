use Rattle.std.proofs.Common.{◌≡◌, sym, ◌∙◌, ap, length, arith}
use Rattle.std.proofs.lemmas.Option.{none-some}
use Rattle.cedar_linked_map.proofs.Orders.{some_below}
use Rattle.cedar_linked_map.proofs.Taken.{seats, length_cells, fill_seats, linked_after, taken_out, cell_gone}
use Rattle.cedar_linked_map.proofs.chain.Chain.take_at.Goals as goal

pub unlink-requires-clause-before : goal.unlink-requires-clause-before
unlink-requires-clause-before g c = (seats c.args.self.now.nodes.entries c.args.self.now.first c.args.self.now.last
    c.requires.small c.args.at c.requires.within c.requires.linked).0

pub unlink-requires-clause-after : goal.unlink-requires-clause-after
unlink-requires-clause-after g c = (seats c.args.self.now.nodes.entries c.args.self.now.first c.args.self.now.last
    c.requires.small c.args.at c.requires.within c.requires.linked).1

pub unreachable-requires : goal.unreachable-requires
unreachable-requires g c =
    let ns = c.args.self.now.nodes.entries in
    let ns1 = c.unlink.new.self.nodes.entries in
    let same : length ns1 ≡ length ns = sym (length_cells ns1) ∙ ap length c.unlink.ensures.cells ∙ length_cells ns in
    let there = some_below ns1 c.args.at (omega (arith, same, c.requires.within)) in
    none-some there.0 (sym c.in-None.is ∙ c.swap_remove_index.ensures.entry ∙ there.1)

pub fill-requires-clause-before : goal.fill-requires-clause-before
fill-requires-clause-before g c = λ h. (fill_seats c.args.self.now.nodes.entries c.unlink.new.self.nodes.entries
    c.swap_remove_index.new.self.entries
    c.swap_remove_index.new.self.entries c.args.self.now.first c.args.self.now.last c.unlink.new.self.first
    c.unlink.new.self.last
    c.unlink.new.self.first c.unlink.new.self.last c.args.at (c.in-Some.key, c.in-Some.node)
    c.requires.small c.requires.within c.requires.linked c.unlink.ensures.after c.unlink.ensures.before
    c.unlink.ensures.cells
    (sym c.in-Some.ensures.entry) c.in-Some.ensures.entries h).0

pub fill-requires-clause-after : goal.fill-requires-clause-after
fill-requires-clause-after g c = λ h. (fill_seats c.args.self.now.nodes.entries c.unlink.new.self.nodes.entries
    c.swap_remove_index.new.self.entries
    c.swap_remove_index.new.self.entries c.args.self.now.first c.args.self.now.last c.unlink.new.self.first
    c.unlink.new.self.last
    c.unlink.new.self.first c.unlink.new.self.last c.args.at (c.in-Some.key, c.in-Some.node)
    c.requires.small c.requires.within c.requires.linked c.unlink.ensures.after c.unlink.ensures.before
    c.unlink.ensures.cells
    (sym c.in-Some.ensures.entry) c.in-Some.ensures.entries h).1

pub returns-clause-linked : goal.returns-clause-linked
returns-clause-linked g c = linked_after c.args.self.now.nodes.entries c.unlink.new.self.nodes.entries
    c.swap_remove_index.new.self.entries
    c.fill.new.self.nodes.entries c.args.self.now.first c.args.self.now.last c.unlink.new.self.first
    c.unlink.new.self.last
    c.fill.new.self.first c.fill.new.self.last c.args.at (c.in-Some.key, c.in-Some.node)
    c.requires.small c.requires.within c.requires.linked c.unlink.ensures.after c.unlink.ensures.before
    c.unlink.ensures.cells
    (sym c.in-Some.ensures.entry) c.in-Some.ensures.entries c.fill.ensures.after c.fill.ensures.before
    c.fill.ensures.cells

pub returns-clause-cell : goal.returns-clause-cell
returns-clause-cell g c = cell_gone c.args.self.now.nodes.entries c.unlink.new.self.nodes.entries
    c.swap_remove_index.new.self.entries
    c.fill.new.self.nodes.entries c.args.self.now.first c.args.self.now.last c.unlink.new.self.first
    c.unlink.new.self.last
    c.fill.new.self.first c.fill.new.self.last c.args.at (c.in-Some.key, c.in-Some.node)
    c.requires.small c.requires.within c.requires.linked c.unlink.ensures.after c.unlink.ensures.before
    c.unlink.ensures.cells
    (sym c.in-Some.ensures.entry) c.in-Some.ensures.entries c.fill.ensures.after c.fill.ensures.before
    c.fill.ensures.cells

pub returns-clause-taken : goal.returns-clause-taken
returns-clause-taken g c = taken_out c.args.self.now.nodes.entries c.unlink.new.self.nodes.entries
    c.swap_remove_index.new.self.entries
    c.fill.new.self.nodes.entries c.args.self.now.first c.args.self.now.last c.unlink.new.self.first
    c.unlink.new.self.last
    c.fill.new.self.first c.fill.new.self.last c.args.at (c.in-Some.key, c.in-Some.node)
    c.requires.small c.requires.within c.requires.linked c.unlink.ensures.after c.unlink.ensures.before
    c.unlink.ensures.cells
    (sym c.in-Some.ensures.entry) c.in-Some.ensures.entries c.fill.ensures.after c.fill.ensures.before
    c.fill.ensures.cells
