use Rattle.std.proofs.Common.{◌∙◌, ap, subst, sym}
use Rattle.std.specs.Prelude.{nat_eq}
use Rattle.std.specs.List.{list_any}
use Rattle.std.specs.Option.{IfSome}
use Rattle.cedar_entity.specs.View.{has_ancestor}
use Rattle.cedar_c_stores.proofs.Noting.{row_tells}
use Rattle.cedar_c_stores.specs.QueryCaches.{IsNumberOfText, IsRowAt}
use Rattle.cedar_c_stores.proofs.query_cache.QueryCache.is_below.Goals as goal

pub returns-in-Some : goal.returns-in-Some
returns-in-Some g c S a =
    let us = c.args.self.now.numbers in
    let n = c.in-Some.number.now in
    let (v, number, name) : IsNumberOfText us c.args.ancestor.now n =
    subst (λ o. IfSome o (IsNumberOfText us c.args.ancestor.now)) (sym c.in-Some.ensures.value) (a.names c.args.ancestor.now) in
    let (u, e, read, entity_at, row) : IsRowAt S us c.args.child.now c.in-Some-Some.row.items =
    subst (λ p. IfSome p (λ row. IsRowAt S us c.args.child.now row.items)) c.in-Some-Some.field-0-is
    (subst (λ o. IfSome o (λ p. IfSome p (λ row. IsRowAt S us c.args.child.now row.items)))
    (sym c.in-Some-Some.ensures.value) (a.above c.args.child.now)) in (
      e,
      v,
      (u, read, entity_at),
      name,
      c.contains.ensures.value ∙ ap (list_any (λ m. nat_eq m n)) c.deref.ensures.value
          ∙ row_tells us (has_ancestor e) c.in-Some-Some.row.items a.distinct row n v number,
    )
