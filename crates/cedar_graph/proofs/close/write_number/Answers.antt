use Rattle.std.proofs.Common.{◌≡◌, ◌<◌, Some, ap, refl, sym, subst, ◌∙◌, length, slice_get}
use Rattle.std.proofs.lemmas.Bool.{false_from_ne_true}
use Rattle.std.proofs.lemmas.Option.{slice_get-get_or}
use Rattle.std.proofs.lemmas.Result.{IfOk-weaker}
use Rattle.cedar_graph.specs.laws.Readings.{IsArc}
use Rattle.cedar_graph.specs.Ascending.{IsAscendingAt}
use Rattle.cedar_graph.specs.laws.Writings.{IsRowOf, KeepsOrder}
use Rattle.cedar_graph.proofs.Rows.{number_written, number_counted}
use Rattle.cedar_graph.proofs.close.write_number.Goals as goal

pub add_row-requires-clause-ascending : goal.add_row-requires-clause-ascending
add_row-requires-clause-ascending g c is =
    let eq = g.K.PartialEq.eq in
    let precedes = g.V.TCNode.precedes in
    let same : c.as_slice-keys.result.now ≡ c.args.read.now.keys.keys = c.as_slice-keys.ensures.keys in
    let keys = c.args.read.now.keys.keys in
    let numbers = c.listed_for-numbers.result.now in
    let row = c.in_ok-row.row.items in
    let ascends = subst (λ v. IsAscendingAt precedes keys v) (sym c.listed_for-numbers.ensures.listed)
    (c.ascends-ascending.ensures is) in
    let order = subst (λ v. KeepsOrder eq v numbers (length numbers) row) same c.in_ok-row.ensures.order in
    (order.by precedes g.met.V.TCNode.precedes_respects_eq ascends).ascends

pub add_row-requires-clause-new : goal.add_row-requires-clause-new
add_row-requires-clause-new g c q has =
    let eq = g.K.PartialEq.eq in
    let ks = c.as_slice-keys.result.now in
    let is : ks ≡ c.args.read.now.keys.keys = c.as_slice-keys.ensures.keys in
    let x = c.args.x in
    let key = c.index-keys-x.result in
    let known = c.args.known.now in
    let there : slice_get ks x ≡ Some key = slice_get-get_or ks x key
    (subst (λ v. x < length v) (sym is) c.requires.within) ∙ ap Some (sym c.index-keys-x.is) in
    let got = subst (λ v. slice_get v x ≡ Some key) is there in
    let row = subst (λ v. IsRowOf eq v c.listed_for-numbers.result.now known c.in_ok-row.row.items) is c.in_ok-row.ensures.row in
    false_from_ne_true _ (λ goes. row.new q has (c.requires.known.all key q got goes))

pub returns-clause-writes : goal.returns-clause-writes
returns-clause-writes g c =
    let eq = g.K.PartialEq.eq in
    let read = c.args.read.now in
    let ks = c.as_slice-keys.result.now in
    let keys = read.keys.keys in
    let is : ks ≡ keys = c.as_slice-keys.ensures.keys in
    let x = c.args.x in
    let reached = c.args.reached.now.numbers in
    let known = c.args.known.now in
    let row = c.in_ok-row.row.items in
    let key = c.index-keys-x.result in
    let within = c.requires.within in
    let there : slice_get ks x ≡ Some key = slice_get-get_or ks x key (subst (λ v. x < length v) (sym is) within)
    ∙ ap Some (sym c.index-keys-x.is) in
    let got : slice_get keys x ≡ Some key = subst (λ v. slice_get v x ≡ Some key) is there in
    let numbers = c.listed_for-numbers.result.now in
    let of_ks : IsRowOf eq ks numbers known row = c.in_ok-row.ensures.row in
    let of_keys : IsRowOf eq keys numbers known row = subst (λ v. IsRowOf eq v numbers known row) is of_ks in
    let is_row = subst (λ v. IsRowOf eq keys v known row) c.listed_for-numbers.ensures.listed of_keys in
    number_written eq keys (IsArc read) reached.component.items reached.start.items reached.lists.items
    c.requires.reach x within _ _ refl refl g.met.K.Eq.laws g.V.TCNode.edges g.met.V.TCNode.respects_eq
    c.args.nodes.now c.add_row.new.nodes c.add_row.result key row known got c.requires.known is_row
    c.add_row.ensures.writes

pub returns-clause-count : goal.returns-clause-count
returns-clause-count g c =
    let ks = c.as_slice-keys.result.now in
    let keys = c.args.read.now.keys.keys in
    let is : ks ≡ keys = c.as_slice-keys.ensures.keys in
    let x = c.args.x in
    let key = c.index-keys-x.result in
    let there : slice_get ks x ≡ Some key = slice_get-get_or ks x key
    (subst (λ v. x < length v) (sym is) c.requires.within) ∙ ap Some (sym c.index-keys-x.is) in
    let got : slice_get keys x ≡ Some key = subst (λ v. slice_get v x ≡ Some key) is there in
    IfOk-weaker c.add_row.result _ _ (λ n count. number_counted g.met.K.Eq.laws keys x key got c.args.nodes.now n
    count) c.add_row.ensures.count
