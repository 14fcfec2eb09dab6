use Rattle.std.proofs.Common.{◌≡◌, ap, sym, subst, ◌∙◌, List, []}
use Rattle.std.proofs.lemmas.List.{append-nil}
use Rattle.std.specs.FinSet as set
use Rattle.std.specs.Set.{is_member}
use Rattle.cedar_ids.specs.UidOf.{same_uid}
use Rattle.cedar_ids.specs.declared.entity.EntityUID.{EntityUID}
use Rattle.cedar_uid_sets.specs.UidSets.{Ascend, UidValues}
use Rattle.cedar_uid_sets.specs.laws.Sets.{contains_listed}
use Rattle.cedar_entity.specs.Listing.{Lists}
use Rattle.cedar_entity.specs.View.{EntityView}
use Rattle.cedar_entity.proofs.UidSteps.{lists_ascending}
use Rattle.cedar_entity.proofs.entity.Entity.shared_parents.Goals as goal

-- The result is the pointers of the parents followed by an empty list.
pub returns-clause-ascending : goal.returns-clause-ascending
returns-clause-ascending c =
    let whole : c.pointers.result.now ≡ c.of.result = sym (append-nil c.pointers.result.now) ∙ sym c.of.ensures in
    subst Ascend whole c.pointers.ensures.ascending

pub returns-clause-lists : goal.returns-clause-lists
returns-clause-lists c =
    let us = c.pointers.result.now in
    let whole : us ≡ c.of.result = sym (append-nil us) ∙ sym c.of.ensures in
    subst (Lists c.args.self.now.parents) whole (lists_ascending c.args.self.now.parents us
    (λ q. sym (contains_listed us q) ∙ ap (λ (s : UidValues). set.contains s q) c.pointers.ensures.all
    ∙ ap (λ (e : EntityView). set.contains e.parents q) c.self.view_is) c.pointers.ensures.ascending)
