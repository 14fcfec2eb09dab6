use Rattle.std.specs.Prelude.{◌≡◌}
use Rattle.std.proofs.Common.{ap, sym, ◌∙◌}
use Rattle.std.specs.Bool.{Decides, one_answer}
use Rattle.std.specs.FinSet as set
use Rattle.std.proofs.lemmas.Slice.Eq.{slice_eq-Decides}
use Rattle.cedar_ids.specs.laws.UidOfLaws.{same_uid_decides}
use Rattle.cedar_uid_sets.specs.laws.Sets.{same_uids_decides}
use Rattle.cedar_uid_sets.proofs.Same.{one_listing}
use Rattle.cedar_uid_sets.proofs.uid_set.UidSetPartialEq.eq.Goals as goal

-- The lists are equal if and only if the sets are.
pub returns : goal.returns
returns c =
    let lists =
    slice_eq-Decides same_uid_decides c.self.inside.uids.items c.other.inside.uids.items c.eq.result c.eq.ensures in
    let sets : Decides c.eq.result (c.args.self.now ≡ c.args.other.now) = (
      λ h. sym c.self.view_is ∙ ap (λ us. set.from_list us) (lists.0 h) ∙ c.other.view_is,
      λ e. lists.1 (one_listing _ _ c.self.invariant c.other.invariant (c.self.view_is ∙ e ∙ sym c.other.view_is)),
    ) in
    one_answer _ _ sets (same_uids_decides c.args.self.now c.args.other.now)
