use Rattle.std.proofs.Common.{◌≡◌, ◌<◌, length, rules, slice_index, sym, subst, ◌∙◌}
use Rattle.std.proofs.lemmas.List.{get_or_default}
use Rattle.cedar_graph.specs.laws.Arcs.{IsKeyAt}
use Rattle.cedar_graph.specs.laws.Readings.{IsArc}
use Rattle.cedar_graph.proofs.Members.{MatchFault-weaker}
use Rattle.cedar_graph.proofs.closed.check_number.Goals as goal

pub missing-requires-clause-grandparent : goal.missing-requires-clause-grandparent
missing-requires-clause-grandparent g c =
    let read = c.args.read.now in
    let k = c.in-Some.place in
    let k_in = c.in-Some.ensures.some.within in
    let k_to = subst (λ n. k < n) (sym c.requires.arcs.same_len) k_in in
    let d = c.index-grandparent.result.now in
    let d_is : d ≡ slice_index read.to.items k = c.index-grandparent.ensures ∙ get_or_default read.to.items k d 0 k_to in
    let d_in : d < length read.keys.keys = subst (λ n. n < length read.keys.keys) (sym d_is)
    (c.requires.arcs.to_in k k_in) in
    subst (λ v. d < length v) (sym c.as_slice.ensures.keys) d_in

pub returns-in_default-clause-ok : goal.returns-in_default-clause-ok
returns-in_default-clause-ok g c = c.first_lack.ensures.none (search rules)

pub returns-clause-err : goal.returns-clause-err
returns-clause-err g c =
    let eq = g.K.PartialEq.eq in
    let read = c.args.read.now in
    let known = c.args.known.now in
    let x = c.args.x in
    let from = read.from.items in
    let to = read.to.items in
    let k = c.in-Some.place in
    let leak = c.in-Some.ensures.some in
    let k_in = leak.within in
    let k_to = subst (λ n. k < n) (sym c.requires.arcs.same_len) k_in in
    let b = c.index-parent.result.now in
    let d = c.index-grandparent.result.now in
    let b_is : b ≡ slice_index from k = c.index-parent.ensures ∙ get_or_default from k b 0 k_in in
    let d_is : d ≡ slice_index to k = c.index-grandparent.ensures ∙ get_or_default to k d 0 k_to in
    let b_in = subst (λ n. slice_index from k < n) (sym c.requires.marks) (c.requires.arcs.from_in k k_in) in
    let to_b : IsArc read x b = subst (λ n. IsArc read x n) (sym b_is)
    (c.requires.known.only (slice_index from k) b_in leak.starts) in
    let to_d : IsArc read b d = (k, k_in, sym b_is, sym d_is) in
    let keys = c.as_slice.ensures.keys in
    MatchFault-weaker c.in_ok-missing.field-0 _ _ _ _ (λ p q r at. (
      b,
      d,
      to_b,
      to_d,
      λ e. leak.ends (subst (λ n. slice_index known.marks.items n ≡ known.mark) d_is (c.requires.known.all d e)),
      subst (λ v. IsKeyAt eq v x p) keys at.0,
      subst (λ v. IsKeyAt eq v b q) keys at.1,
      subst (λ v. IsKeyAt eq v d r) keys at.2,
    )) (λ _ none. none) c.in_ok-missing.ensures
