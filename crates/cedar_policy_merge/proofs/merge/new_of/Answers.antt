use Rattle.std.proofs.Common.{◌≡◌, List, ℕ, [], ◌∷◌, Bool, None, length, arith, refl}
use Rattle.std.specs.Map.{lookup}
use Rattle.cedar_ids.specs.Texts.{same_text}
use Rattle.cedar_policy_merge.proofs.merge.new_of.Goals as goal

nothing_found : (t : List ℕ → Bool) (r : List (List ℕ × List ℕ)) → length r ≡ 0 → None ≡ lookup t r
nothing_found t [] e = refl
nothing_found t (x ∷ r) e = absurd (omega arith)

pub returns-then-is_empty : goal.returns-then-is_empty
returns-then-is_empty g c =
    nothing_found (same_text c.args.id.now) c.args.renaming.now.entries
    ((rw c.if-is_empty.true at c.is_empty.ensures).0 refl)
