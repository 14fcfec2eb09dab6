use Rattle.std.proofs.Common.{refl, inl}
use Rattle.std.proofs.lemmas.Result.{err_from_is_err_and}
use Rattle.cedar_policy_set.specs.Refusals.{set_error_of}
use Rattle.cedar_c_sets.proofs.Refusing.{kept_before, told_merging}
use Rattle.cedar_c_sets.proofs.set_state.SetState.merge.Goals as goal

pub returns-in-Err : goal.returns-in-Err
returns-in-Err g c = (
  c.refuse.ensures.set,
  c.refuse.ensures.answer,
  c.refuse.ensures.nodes,
  kept_before (set_error_of c.in-Err.error) c.by_set.result c.refuse.result c.args.self.now.refusal.items
      c.refuse.new.self.refusal.items c.by_set.ensures c.refuse.ensures.told,
  told_merging (λ r. r.entries) c.merge_policyset.result c.in-Err.error c.in_ok-set.set c.args.self.now.set
      c.args.other.now.set c.args.rename _ c.by_set.result c.refuse.result c.args.self.now.refusal.items
      c.refuse.new.self.refusal.items
      c.in-Err.is c.in_ok-set.ensures.cases c.merge_policyset.ensures.merges c.by_set.ensures c.refuse.ensures.told,
)

pub returns-in_err-self-in-Ok : goal.returns-in_err-self-in-Ok
returns-in_err-self-in-Ok g c =
    let want = c.from_residual-in_err-self-in-Ok in
    let p = err_from_is_err_and want.result want.ensures.1 in
    rw p.1 (refl, refl, refl, λ _. refl, inl p.2)
