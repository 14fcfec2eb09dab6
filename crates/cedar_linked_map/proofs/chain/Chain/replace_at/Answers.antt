use Rattle.std.proofs.Common.{◌∙◌, ◌++◌, ◌∷◌, sym, ap, refl, Some}
use Rattle.std.specs.Option.{option_map}
use Rattle.cedar_linked_map.proofs.Replaced.{order_kept, replaced, values_seen}
use Rattle.cedar_linked_map.proofs.chain.Chain.replace_at.Goals as goal

pub returns-clause-linked : goal.returns-clause-linked
returns-clause-linked g c =
    let s = c.args.self.now in (
      c.requires.linked.0,
      order_kept s.nodes.entries s.first s.last c.args.at c.in-Some.node.now _ (sym
          c.in-Some.ensures.value) refl refl c.requires.small c.requires.linked,
    )

pub returns-clause-old : goal.returns-clause-old
returns-clause-old g c =
    values_seen c.args.self.now.nodes.entries c.args.at ∙ ap (option_map (λ n. n.value)) (sym c.in-Some.ensures.value)
    ∙ ap Some (sym c.replace.ensures.value)

pub returns-clause-replaced : goal.returns-clause-replaced
returns-clause-replaced g c =
    let s = c.args.self.now in
    let r = replaced s.nodes.entries s.first s.last c.args.at c.in-Some.node.now
    (record { value = c.replace.new.dest; before = c.in-Some.node.now.before; after = c.in-Some.node.now.after })
    (sym c.in-Some.ensures.value) refl refl c.requires.small c.requires.linked c.requires.within in
    (r.0, r.1, r.2, r.3, r.4 ∙ ap (λ v. r.0 ++ (r.1.0, v) ∷ r.2) c.replace.ensures.after, r.5)
