use Rattle.std.proofs.Common.{refl, subst, sym}
use Rattle.cedar_c_lists.specs.Texts.{IsReadOf}
use Rattle.cedar_c_stores.proofs.Noting.{keeps_with, noted_put, noted_stays}
use Rattle.std.specs.Option.{IfSome}
use Rattle.cedar_c_stores.specs.QueryCaches.{IsNumberOfText}
use Rattle.cedar_c_stores.proofs.query_cache.QueryCache.cache_name.Goals as goal

pub returns-in_err-key : goal.returns-in_err-key
returns-in_err-key g c S read a =
    noted_stays S c.args.self.now _
    (keeps_with c.args.self.now.numbers c.number_of.new.self c.args.uid c.in_ok-number.ensures.uids
    c.in_ok-number.ensures.number.1) refl refl a

pub returns-in_err-insert : goal.returns-in_err-insert
returns-in_err-insert g c S read a =
    noted_stays S c.args.self.now _
    (keeps_with c.args.self.now.numbers c.number_of.new.self c.args.uid c.in_ok-number.ensures.uids
    c.in_ok-number.ensures.number.1) refl c.in_err-insert.ensures.err a

pub returns : goal.returns
returns g c S read a =
    let us = c.number_of.new.self in
    let kept =
    keeps_with c.args.self.now.numbers us c.args.uid c.in_ok-number.ensures.uids c.in_ok-number.ensures.number.1 in
    let before = noted_stays S c.args.self.now record c.args.self.now { numbers = us } kept refl refl a in
    record {
      distinct = before.distinct;
      above = before.above;
      names = noted_put c.args.self.now.names c.insert.new.self c.in_ok-key.key c.in_ok-number.number
          c.in_ok-insert.ensures.updates (λ t o. IfSome o (IsNumberOfText us t)) (
            c.args.uid,
            c.in_ok-number.ensures.number.0,
            subst (IsReadOf c.args.uid) (sym c.in_ok-key.ensures.items) read,
          )
          before.names;
    }
