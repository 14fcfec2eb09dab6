use Rattle.std.proofs.Common.{refl, subst, sym}
use Rattle.cedar_c_stores.proofs.Noting.{noted_put, noted_stays, some_then}
use Rattle.std.specs.Option.{IfSome}
use Rattle.cedar_c_lists.specs.Texts.{IsReadOf}
use Rattle.cedar_c_stores.specs.QueryCaches.{IsRowAt}
use Rattle.cedar_c_stores.proofs.query_cache.QueryCache.cache_ancestors.Goals as goal

pub returns-in_err-row : goal.returns-in_err-row
returns-in_err-row g c S u read entity_at a = noted_stays S c.args.self.now _ c.row_of.ensures.keeps refl refl a

pub returns-in_err-key : goal.returns-in_err-key
returns-in_err-key g c S u read entity_at a = noted_stays S c.args.self.now _ c.row_of.ensures.keeps refl refl a

pub returns-in_err-insert : goal.returns-in_err-insert
returns-in_err-insert g c S u read entity_at a =
    noted_stays S c.args.self.now _ c.row_of.ensures.keeps c.in_err-insert.ensures.err refl a

pub returns : goal.returns
returns g c S u read entity_at a =
    let before = noted_stays S c.args.self.now record c.args.self.now { numbers = c.row_of.new.numbers } c.row_of.ensures.keeps refl refl a in
    record {
      distinct = before.distinct;
      above = noted_put c.args.self.now.above c.insert.new.self c.in_ok-key.key c.in_ok-row.row
          c.in_ok-insert.ensures.updates
          (λ t o. IfSome o (λ p. IfSome p (λ row. IsRowAt S c.row_of.new.numbers t row.items)))
          (some_then _ _ (λ row r. (u, c.args.entity.now, subst (IsReadOf u) (sym c.in_ok-key.ensures.items) read, entity_at, r)) c.in_ok-row.row c.in_ok-row.ensures.row)
          before.above;
      names = before.names;
    }
