use Rattle.std.proofs.Common.{ap, sym, ◌∙◌}
use Rattle.std.proofs.lemmas.Result.{IfOk-weaker}
use Rattle.std.specs.FinMap as finmap
use Rattle.cedar_slice.proofs.PlainSlices.{plain_slice, least_part}
use Rattle.cedar_slice.proofs.Sliced.{asked_stays, holds_slice, only_memory}
use Rattle.cedar_slice.proofs.slicing.part_of.Goals as goal

pub returns-clause-entities : goal.returns-clause-entities
returns-clause-entities g c =
    holds_slice c.args.store.now.entities c.in_ok-wanted.wanted.keys c.in_ok-list.ensures.keyed c.in_ok-list.list.items
    c.in_ok-list.ensures.copies c.args.uids.now c.in_ok-wanted.ensures c.from_entities_with_hasher.result
    c.from_entities_with_hasher.ensures.partial c.from_entities_with_hasher.ensures.adds.ok

pub returns-clause-asked : goal.returns-clause-asked
returns-clause-asked g c = IfOk-weaker c.from_entities_with_hasher.result _ _
    (λ s h q m. ap (λ x. finmap.get x q) h.0 ∙ asked_stays c.args.store.now.entities c.args.uids.now q m)
    (returns-clause-entities g c)

pub returns-clause-plain : goal.returns-clause-plain
returns-clause-plain g c = IfOk-weaker c.from_entities_with_hasher.result _ _
    (λ s h W p. plain_slice W c.args.store.now p c.args.uids.now s h.0 h.1)
    (returns-clause-entities g c)

pub returns-clause-least : goal.returns-clause-least
returns-clause-least g c = IfOk-weaker c.from_entities_with_hasher.result _ _
    (λ s h W p V has q k. least_part W c.args.store.now p c.args.uids.now V has q
    (sym (ap (λ x. finmap.contains_key x q) h.0) ∙ k))
    (returns-clause-entities g c)

pub returns-clause-err : goal.returns-clause-err
returns-clause-err g c =
    only_memory c.args.store.now.entities c.in_ok-wanted.wanted.keys c.in_ok-list.ensures.keyed c.in_ok-list.list.items
    c.in_ok-list.ensures.copies c.from_entities_with_hasher.result c.from_entities_with_hasher.ensures.adds.err
