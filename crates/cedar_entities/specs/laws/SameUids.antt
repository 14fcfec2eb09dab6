-- Having the same uids is an equivalence relation.
use Rattle.std.proofs.lemmas.Cmp.{lists_equiv}
use Rattle.std.specs.Cmp.{IsEquivalence, and_equiv, on_equiv, bool_eq_equiv}
use Rattle.cedar_ids.specs.laws.UidOfLaws.{same_uid_equiv}
use Rattle.cedar_entities.specs.SameUids.{mode_of, same_uids_and_mode, uids_in}

-- `same_uids_and_mode` is an equivalence relation.
pub same_uids_and_mode_equiv : IsEquivalence same_uids_and_mode
same_uids_and_mode_equiv = and_equiv (on_equiv mode_of bool_eq_equiv) (on_equiv uids_in (lists_equiv same_uid_equiv))
