-- Insertion of uids in any order into a set.
use Rattle.std.specs.Prelude.{◌≡◌, Bool, true, false, ◌||◌, List, [], ◌∷◌, length}
use Rattle.std.proofs.Common.{ap, sym, refl, ◌∙◌}
use Rattle.std.specs.FinSet as set
use Rattle.std.specs.Set.{is_member}
use Rattle.cedar_ids.specs.UidOf.{uid_order, same_uid}
use Rattle.cedar_ids.specs.laws.UidOfLaws.{uid_order_total}
use Rattle.cedar_ids.specs.declared.entity.EntityUID.{EntityUID}
use Rattle.cedar_uid_sets.specs.UidSets.{UidValues}
use Rattle.cedar_uid_sets.specs.laws.Sets.{contains_listed, same_members, same_tests}

-- Holds if the members of the set, together with the remaining uids, are the members of the list.
abbrev pub Covers : UidValues → List EntityUID → List EntityUID → Type 0
Covers s rest us = (q : EntityUID) → (set.contains s q || is_member same_uid rest q) ≡ is_member same_uid us q

pub covers_all : (rest us : List EntityUID) → rest ≡ us → Covers set.empty rest us
covers_all rest us e q = ap (λ b. b || is_member same_uid rest q) (set.contains-empty uid_order q)
    ∙ ap (λ l. is_member same_uid l q) e

swap : (a b c : Bool) → ((a || b) || c) ≡ (b || (a || c))
swap true true c = refl
swap true false c = refl
swap false b c = refl

pub covers_more : (s : UidValues) (k : EntityUID) (old rest us : List EntityUID) → old ≡ k ∷ rest → Covers s old us
    → Covers (set.insert s k) rest us
covers_more s k old rest us e h q =
    ap (λ b. b || is_member same_uid rest q) (set.contains-insert uid_order_total s k q
    ∙ ap (λ f. f q k || set.contains s q) same_tests)
    ∙ swap (same_uid q k) (set.contains s q) (is_member same_uid rest q)
    ∙ ap (λ l. set.contains s q || is_member same_uid l q) (sym e) ∙ h q

or_false : (b : Bool) → b ≡ (b || false)
or_false true = refl
or_false false = refl

pub covered : (s : UidValues) (rest us : List EntityUID) → length rest ≡ 0 → Covers s rest us → s ≡ set.from_list us
covered s [] us l h = same_members _ _ (λ q. or_false (set.contains s q) ∙ h q ∙ sym (contains_listed us q))
covered s (r ∷ rest) us l h = absurd (cc)
