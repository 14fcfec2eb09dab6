use Rattle.std.proofs.Common.{ap}
use Rattle.cedar_store.specs.Sessions.{SessionView, IsInState}
use Rattle.cedar_store.proofs.Joined.{takes_kept, lost_where_refused}
use Rattle.cedar_store.proofs.session.Session.apply_line.Goals as goal

pub returns-clause-takes : goal.returns-clause-takes
returns-clause-takes g c =
    let i = c.self-2.inside in
    let new : SessionView = record {
      entities = i.entities;
      policy_sets = i.sets;
      is_lost = c.is_err-self-inside.result;
    } in
    takes_kept c.apply_fields_of-known.result
    (IsInState c.args.self.now) c.args.line.now c.apply_fields_of-known.new.self new c.args.out.now.items
    c.apply_fields_of-known.new.out.items
    (ap (λ v. v.entities) c.self-2.view_is)
    (ap (λ v. v.policy_sets) c.self-2.view_is) c.is_err-self-inside.ensures.value c.apply_fields_of-known.ensures

pub returns-clause-lost : goal.returns-clause-lost
returns-clause-lost g c =
    lost_where_refused c.apply_fields_of-known.result c.is_err-self-inside.result c.is_err-self-inside.ensures.value
