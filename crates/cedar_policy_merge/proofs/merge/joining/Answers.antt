use Rattle.std.proofs.Common.{subst, Option, IfSome}
use Rattle.std.specs.Option.{option_copied}
use Rattle.cedar_policy.specs.Policies.{PolicyParts}
use Rattle.cedar_policy_maps.specs.Views.{bodies_of}
use Rattle.cedar_policy_merge.specs.Merge.{new_id}
use Rattle.cedar_policy_merge.specs.laws.SharedLaws.{IsOnBody, shared_is}
use Rattle.cedar_policy_merge.proofs.merge.joining.Goals as goal

pub returns-in-Some : goal.returns-in-Some
returns-in-Some g c =
    let js = bodies_of c.args.joined.now in
    let new = option_copied c.args.new in
    shared_is new (new_id c.args.renaming.now.entries) js c.args.policy.now c.in-Some.shared c.requires.new
    c.requires.on
    (subst (λ (o : Option PolicyParts). IfSome o (IsOnBody new js c.args.policy.now)) c.in-Some.is
    c.in_ok-on_new_body.ensures)
