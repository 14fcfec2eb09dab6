use Rattle.std.proofs.Common.{rules, List, ℕ, sym, ◌∙◌, subst}
use Rattle.cedar_policy_maps.specs.PolicySets.{AreOnce}
use Rattle.cedar_policy_merge.specs.laws.MergeSteps.{once_conflicts}
use Rattle.cedar_policy_merge.specs.laws.RenamingLaws.{once_free, none_bound_of, numbers_below}
use Rattle.cedar_policy_merge.specs.laws.ConflictLaws.{conflicts_differ}
use Rattle.cedar_policy_merge.proofs.merge.merge_maps.Goals as goal

pub fresh_ids-requires : goal.fresh_ids-requires
fresh_ids-requires g c =
    subst (AreOnce (λ (i : List ℕ). i)) (sym c.in_ok-ids.ensures) (once_conflicts c.args.here.now c.args.other.now)

pub store_merged-requires : goal.store_merged-requires
store_merged-requires g c = (c.in_ok-renaming.ensures.keys ∙ c.in_ok-ids.ensures, c.in_ok-renaming.ensures.free)

pub returns : goal.returns
returns g c = record {
  merges = search (rules, once_free, none_bound_of, numbers_below);
  differ =
      conflicts_differ c.args.here.now c.args.other.now;
  apart = search (rules, once_free, none_bound_of, numbers_below);
  unbound = search (rules, once_free, none_bound_of, numbers_below);
  below = search (rules, once_free, none_bound_of, numbers_below);
}

pub returns-in-Some : goal.returns-in-Some
returns-in-Some g c = record {
  merges = search rules;
  differ =
      conflicts_differ c.args.here.now c.args.other.now;
  apart = search rules;
  unbound = search rules;
  below = search rules;
}

pub returns-in_err-clone : goal.returns-in_err-clone
returns-in_err-clone g c = record {
  merges = search rules;
  differ =
      conflicts_differ c.args.here.now c.args.other.now;
  apart = search rules;
  unbound = search rules;
  below = search rules;
}

pub returns-in_err-ids : goal.returns-in_err-ids
returns-in_err-ids g c = record {
  merges = search rules;
  differ =
      conflicts_differ c.args.here.now c.args.other.now;
  apart = search rules;
  unbound = search rules;
  below = search rules;
}

pub returns-in_err-renaming : goal.returns-in_err-renaming
returns-in_err-renaming g c = record {
  merges = search rules;
  differ =
      conflicts_differ c.args.here.now c.args.other.now;
  apart = search rules;
  unbound = search rules;
  below = search rules;
}

pub returns-in_err-store_merged : goal.returns-in_err-store_merged
returns-in_err-store_merged g c = record {
  merges = search rules;
  differ =
      conflicts_differ c.args.here.now c.args.other.now;
  apart = search rules;
  unbound = search rules;
  below = search rules;
}
