use Rattle.std.proofs.Common.{◌≡◌, List, ℕ, [], ◌∷◌, false, length, arith, refl}
use Rattle.cedar_policy_merge.specs.laws.RenamingLaws.{is_in}
use Rattle.cedar_policy_merge.proofs.merge.is_listed_id.Goals as goal

none_in : (i : List ℕ) (ids : List (List ℕ)) → length ids ≡ 0 → false ≡ is_in i ids
none_in i [] e = refl
none_in i (x ∷ xs) e = absurd (omega arith)

pub returns-then-is_empty : goal.returns-then-is_empty
returns-then-is_empty g c =
    none_in c.args.id.now c.args.ids.now.keys ((rw c.if-is_empty.true at c.is_empty.ensures).0 refl)
