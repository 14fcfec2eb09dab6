use Rattle.std.proofs.Common.{◌≡◌, List, ℕ, ◌++◌, ◌∷◌, sym, ap, ◌∙◌, subst}
use Rattle.std.specs.Map.{keys_of}
use Rattle.indexmap.proofs.CallerLemmas.{insert_entry-new}
use Rattle.cedar_ids.specs.Texts.{same_text}
use Rattle.cedar_policy_maps.specs.PolicySets.{AreOnce}
use Rattle.cedar_policy_merge.specs.Fresh.{is_bound_in_either, free_below}
use Rattle.cedar_policy_merge.specs.laws.FreshLaws.{none_free_below, absent_key, before_once, fresh_more}
use Rattle.cedar_policy_merge.specs.laws.Trials.{number_of}
use Rattle.cedar_policy_merge.proofs.fresh.fresh_ids.Goals as goal

pub loop-id-init : goal.loop-id-init
loop-id-init g c =
    let bound = is_bound_in_either c.args.here.now c.args.other.now in
    rw c.in_ok-renaming.ensures.empty
    (record {
      at = c.first-trial.ensures.at;
      keys = c.into_iter-id-iterator.ensures.into_iter_gives.0;
      free = tt;
      next = ap (free_below bound) c.first-trial.ensures.number ∙ none_free_below bound;
    })

pub loop-id-preserved : goal.loop-id-preserved
loop-id-preserved g c =
    let bound = is_bound_in_either c.args.here.now c.args.other.now in
    let es = c.loop-id.renaming.entries in
    let i = c.in-Some.id in
    let v = c.in_ok-fresh.fresh in
    let ks : keys_of es ++ i ∷ c.next.new.self ≡ c.args.ids.keys =
    ap (λ x. keys_of es ++ x) (sym c.in-Some.ensures.steps) ∙ c.loop-id.invariant.keys in
    let none = absent_key es i
    (before_once (keys_of es) i c.next.new.self (subst (AreOnce (λ (i : List ℕ). i)) (sym ks) c.requires)) in
    let m =
    fresh_more bound es c.insert.new.self.entries i v c.next.new.self c.args.ids.keys (number_of c.loop-id.trial)
    (number_of c.next_free.new.trial)
    (c.in_ok-insert.ensures.entries ∙ insert_entry-new same_text c.loop-id.renaming i v none) ks
    c.loop-id.invariant.free c.loop-id.invariant.next c.in_ok-fresh.ensures.named c.in_ok-fresh.ensures.free in
    record {
      at = c.in_ok-go_on.ensures.at;
      keys = m.0;
      free = m.1;
      next = ap (free_below bound) c.in_ok-go_on.ensures.number ∙ m.2;
    }
