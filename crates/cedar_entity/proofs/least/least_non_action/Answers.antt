use Rattle.std.proofs.Common.{◌≡◌, ap, sym, subst, ◌∙◌}
use Rattle.std.specs.FinSet as set
use Rattle.std.specs.Set.{is_member}
use Rattle.cedar_ids.specs.UidOf.{same_uid}
use Rattle.cedar_ids.specs.declared.entity.EntityUID.{EntityUID}
use Rattle.std.specs.Prelude.{Some, None, not, ◌&&◌}
use Rattle.cedar_entity.specs.Least.{IsLeast}
use Rattle.cedar_uid_sets.specs.UidSets.{UidValues}
use Rattle.cedar_uid_sets.specs.laws.Sets.{contains_listed}
use Rattle.cedar_entity.specs.Validity.{is_action}
use Rattle.cedar_entity.proofs.LeastUids.{first_least_of}
use Rattle.cedar_entity.proofs.least.least_non_action.Goals as goal

pub returns-in-Some : goal.returns-in-Some
returns-in-Some c =
    let members : (q : EntityUID) → is_member same_uid c.pointers.result.now q ≡ set.contains c.args.uids.now q =
    λ q. sym (contains_listed c.pointers.result.now q)
    ∙ ap (λ (s : UidValues). set.contains s q) c.pointers.ensures.all in
    let least = first_least_of (λ q. not (is_action q)) c.args.uids.now c.pointers.result.now
    (Some c.in-Some.shared.now) members c.pointers.ensures.ascending c.in-Some.ensures in
    subst (λ (u : EntityUID). IsLeast (λ (q : EntityUID). set.contains c.args.uids.now q && not (is_action q)) u)
    (sym c.uid.ensures) least

pub returns-in-None : goal.returns-in-None
returns-in-None c =
    let members : (q : EntityUID) → is_member same_uid c.pointers.result.now q ≡ set.contains c.args.uids.now q =
    λ q. sym (contains_listed c.pointers.result.now q)
    ∙ ap (λ (s : UidValues). set.contains s q) c.pointers.ensures.all in
    first_least_of (λ q. not (is_action q)) c.args.uids.now c.pointers.result.now None members
    c.pointers.ensures.ascending c.in-None.ensures
