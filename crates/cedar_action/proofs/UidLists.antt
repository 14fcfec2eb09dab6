-- Lists of shared uids, by the parts of the uids.
use Rattle.std.proofs.Common.{◌≡◌, List, [], ◌∷◌, ◌++◌, map, refl, ap, sym}
use Rattle.std.specs.declared.cmp.Ordering.{Ordering}
use Rattle.std.specs.declared.cmp.Ordering.TheVariants.{Less, Equal, Greater}
use Rattle.std.specs.Ordering.{ordering_then}
use Rattle.std.specs.Cmp.Lexicographic.{slice_cmp}
use Rattle.std.specs.List.{flat_map, list_all}
use Rattle.std.specs.Hash as fed
use Rattle.std.proofs.lemmas.List.Folds.{flat_map-map, list_all-map}
use Rattle.std.proofs.lemmas.List.{length-map}
use Rattle.cedar_ids.specs.Uid.{UidParts, uid_cmp, uid_hash_input}
use Rattle.cedar_action.specs.laws.UidCopies.{Shared, parts}
use Rattle.cedar_action.specs.RuleTexts.{after_comma}
use Rattle.cedar_terms.specs.UidTrees.{is_ascii_uid}

-- Lists of shared uids are ordered as the lists of their parts.
pub shared_lists_cmp : (us vs : List Shared)
    → slice_cmp (λ u v. uid_cmp (parts u) (parts v)) us vs ≡ slice_cmp uid_cmp (map parts us) (map parts vs)
shared_lists_cmp [] [] = refl
shared_lists_cmp [] (v ∷ vs) = refl
shared_lists_cmp (u ∷ us) [] = refl
shared_lists_cmp (u ∷ us) (v ∷ vs) = ap (ordering_then (uid_cmp (parts u) (parts v))) (shared_lists_cmp us vs)

then_Equal : (o : Ordering) → ordering_then o Equal ≡ o
then_Equal Less = refl
then_Equal Equal = refl
then_Equal Greater = refl

-- Lists of one uid are ordered as their uids.
pub lists_of_one_cmp : (u v : UidParts) → slice_cmp uid_cmp (u ∷ []) (v ∷ []) ≡ uid_cmp u v
lists_of_one_cmp u v = then_Equal (uid_cmp u v)

-- A list of shared uids feeds the same input to a hasher as the list of its parts.
pub shared_lists_fed : (us : List Shared)
    → fed.slice (λ u. uid_hash_input (parts u)) us ≡ fed.slice uid_hash_input (map parts us)
shared_lists_fed us = λ i. fed.usize (sym (length-map us parts) i) ++ sym (flat_map-map uid_hash_input parts us) i

pub more_text : (us : List Shared) → flat_map after_comma (map parts us) ≡ flat_map (λ u. after_comma (parts u)) us
more_text us = flat_map-map after_comma parts us

pub more_ascii : (us : List Shared) → list_all is_ascii_uid (map parts us) ≡ list_all (λ u. is_ascii_uid (parts u)) us
more_ascii us = list_all-map is_ascii_uid parts us
