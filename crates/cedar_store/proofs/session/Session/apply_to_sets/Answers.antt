use Rattle.std.proofs.Common.{sym, subst, map}
use Rattle.std.proofs.lemmas.Result.{IfOk-weaker}
use Rattle.cedar_store.specs.Sessions.{SessionView, IsInState}
use Rattle.cedar_store.proofs.Joined.{policy_taken}
use Rattle.cedar_store.proofs.session.Session.apply_to_sets.Goals as goal

pub returns : goal.returns
returns g c =
    let i = c.self.inside in
    let old : SessionView = record { entities = i.entities; policy_sets = i.sets; is_lost = i.is_lost } in
    IfOk-weaker c.apply_fields.result _ _
    (λ taken h s is. policy_taken taken old c.apply_fields.new.self s (map (λ f. f.now) c.args.fields.now)
    c.args.out.now.items c.apply_fields.new.out.items (subst (λ v. IsInState v s) (sym c.self.view_is) is) h)
    c.apply_fields.ensures
