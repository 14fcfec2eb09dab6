-- After a node is inserted by its key, each key is its node's key.
use Rattle.std.specs.Prelude.{◌≡◌, Bool, true, false, cond, Some}
use Rattle.std.proofs.Common.{sym, refl, subst, ◌∙◌}
use Rattle.std.specs.HashMap.{HashMap, get}
use Rattle.std.specs.Option.{IfSome}
use Rattle.cedar_graph.specs.Graph.{KeysMatch}
use Rattle.cedar_ids.specs.UidOf.{same_uid}
use Rattle.cedar_ids.specs.laws.UidOfLaws.{same_uid_decides}
use Rattle.cedar_ids.specs.declared.entity.EntityUID.{EntityUID}

module _ {V S : Type 0} (key : V → EntityUID) (m n : HashMap EntityUID V S) (k : EntityUID) (v : V)
    (same : key v ≡ k) where
  at_key : (q : EntityUID) (b : Bool) → same_uid k q ≡ b → KeysMatch same_uid key m
      → IfSome (cond b (Some v) (get same_uid m q)) (λ w. same_uid q (key w) ≡ true)
  at_key q true s h = (same_uid_decides q (key v)).1 (sym ((same_uid_decides k q).0 s) ∙ sym same)
  at_key q false s h = h q

  pub put_keys : ((q : EntityUID) → get same_uid n q ≡ cond (same_uid k q) (Some v) (get same_uid m q))
      → KeysMatch same_uid key m → KeysMatch same_uid key n
  put_keys step h q =
      subst (λ o. IfSome o (λ w. same_uid q (key w) ≡ true)) (sym (step q)) (at_key q (same_uid k q) refl h)
