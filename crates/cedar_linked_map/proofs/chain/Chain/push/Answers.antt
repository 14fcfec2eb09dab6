use Rattle.std.proofs.Common.{◌∙◌, ◌∷◌, ◌<◌, ◌^◌, [], sym, ap, subst, length, nat_eq, arith}
use Rattle.std.specs.Prelude.{if◌then◌else◌}
use Rattle.std.proofs.lemmas.List.{length-append}
use Rattle.indexmap.proofs.CallerLemmas.{insert_entry-new}
use Rattle.cedar_linked_map.specs.Linked.{AreLinked, after_of, end}
use Rattle.cedar_linked_map.proofs.Pushed.{last_seat, linked_pushed, in_order_pushed}
use Rattle.cedar_linked_map.proofs.chain.Chain.push.Goals as goal

pub set_after-requires : goal.set_after-requires
set_after-requires g c =
    let ns = c.args.self.now.nodes in
    let s1 = (rw c.unwrap.ensures at c.insert.ensures.entries)
    ∙ insert_entry-new g.K.PartialEq.eq ns c.args.key _ c.requires.absent in
    last_seat ns.entries c.args.self.now.first c.args.self.now.last (length c.insert.new.self.entries)
    (omega (
      arith,
      ap length s1,
      length-append ns.entries ((
        c.args.key,
        record {
          value = c.args.value;
          before =
              c.args.self.now.last;
          after = end;
        },
      ) ∷ []),
    ))
    c.requires.linked

pub returns-clause-linked : goal.returns-clause-linked
returns-clause-linked g c =
    let ns = c.args.self.now.nodes in
    let s1 = (rw c.unwrap.ensures at c.insert.ensures.entries)
    ∙ insert_entry-new g.K.PartialEq.eq ns c.args.key _ c.requires.absent in
    let len = c.len-at.ensures.len in
    subst (AreLinked c.set_after.new.self.nodes.entries c.set_after.new.self.first) (sym len)
    (linked_pushed ns.entries c.insert.new.self.entries c.set_after.new.self.nodes.entries c.args.self.now.first
    c.args.self.now.last
    c.set_after.new.self.first c.set_after.new.self.last c.args.key c.args.value
    (subst (λ n. n < 2 ^ 63) len c.len-at.ensures.small) (subst (λ n. n < 2 ^ 63) c.len-len.ensures.len
    c.len-len.ensures.small)
    c.requires.linked s1
    (λ u. c.set_after.ensures.after u ∙ ap (λ n. if nat_eq u c.args.self.now.last then n else after_of
    c.insert.new.self.entries c.args.self.now.first u) len)
    c.set_after.ensures.before c.set_after.ensures.cells)

pub returns-clause-pushed : goal.returns-clause-pushed
returns-clause-pushed g c =
    let ns = c.args.self.now.nodes in
    let s1 = (rw c.unwrap.ensures at c.insert.ensures.entries)
    ∙ insert_entry-new g.K.PartialEq.eq ns c.args.key _ c.requires.absent in
    let len = c.len-at.ensures.len in
    in_order_pushed ns.entries c.insert.new.self.entries c.set_after.new.self.nodes.entries c.args.self.now.first
    c.args.self.now.last
    c.set_after.new.self.first c.set_after.new.self.last c.args.key c.args.value
    (subst (λ n. n < 2 ^ 63) len c.len-at.ensures.small) (subst (λ n. n < 2 ^ 63) c.len-len.ensures.len
    c.len-len.ensures.small)
    c.requires.linked s1
    (λ u. c.set_after.ensures.after u ∙ ap (λ n. if nat_eq u c.args.self.now.last then n else after_of
    c.insert.new.self.entries c.args.self.now.first u) len)
    c.set_after.ensures.before c.set_after.ensures.cells
