use Rattle.std.proofs.Common.{◌≡◌, true, ◌≤◌, inl, inr, arith, sym, ap, ◌∙◌, length, map, take, take_all, slice_get}
use Rattle.std.specs.Set.{is_member}
use Rattle.std.proofs.lemmas.Map.Made.{length-le_from_is_member}
use Rattle.cedar_graph.specs.laws.Arcs.{IsPrefix}
use Rattle.cedar_graph.proofs.Members.{member_at, refs_more}
use Rattle.cedar_graph.proofs.Keyed.{some_and, prefix_number, member_of_got}
use Rattle.cedar_graph.proofs.arcs.number_set.Goals as goal

pub loop-key-preserved : goal.loop-key-preserved
loop-key-preserved g c =
    let eq = g.K.PartialEq.eq in
    let laws = g.met.K.Eq.laws in
    let e = c.in_ok-insert_key_copy.ensures in
    let i = c.loop-key.invariant in
    let refs = c.deref-key-items.result.now in
    let key = c.key-item.result in
    let now = c.loop-key.keys.keys in
    let after = c.insert_key_copy.new.keys.keys in
    let more : IsPrefix now after = e.more in
    let f = some_and (slice_get after c.in_ok-insert_key_copy.field-0) (λ k. eq key.now k ≡ true) e.found in
    record {
      unique = e.unique;
      done = λ q m. elim (refs_more eq refs c.loop-key.key-index key q (omega arith) c.key-item.is m) [
        | inl p ↦ prefix_number now after more eq q (i.done q p)
        | inr h ↦ (c.in_ok-insert_key_copy.field-0, f.0, f.1, laws.congr q key.now f.0 h ∙ f.2)
      ];
      all = i.all;
      len = omega (arith, i.len, e.one);
      count = i.count;
      only = λ j k got. elim (e.fresh j k got) [
        | inl old ↦ i.only j k old
        | inr same ↦ sym (i.all k)
            ∙ member_at eq refs c.loop-key.key-index key k (omega arith) c.key-item.is (laws.symm k key.now ∙ same)
      ];
    }

pub returns-clause-all : goal.returns-clause-all
returns-clause-all g c =
    let eq = g.K.PartialEq.eq in
    let i = c.loop-key.invariant in
    let refs = c.deref-key-items.result.now in
    let over : length refs ≤ c.loop-key.key-index = omega arith in
    let whole : take c.loop-key.key-index refs ≡ refs = take_all c.loop-key.key-index refs over in
    λ q h. i.done q (ap (λ rs. is_member eq (map (λ x. x.now) rs) q) whole ∙ i.all q ∙ h)

pub returns-clause-least : goal.returns-clause-least
returns-clause-least g c =
    let eq = g.K.PartialEq.eq in
    let laws = g.met.K.Eq.laws in
    let i = c.loop-key.invariant in
    let refs = c.deref-key-items.result.now in
    let listed = c.loop-key.keys.keys in
    let over : length refs ≤ c.loop-key.key-index = omega arith in
    let whole : take c.loop-key.key-index refs ≡ refs = take_all c.loop-key.key-index refs over in
    length-le_from_is_member laws c.args.fix.now.keys listed c.in_ok-all.ensures.unique (λ q h.
    let n = i.done q (ap (λ rs. is_member eq (map (λ x. x.now) rs) q) whole ∙ i.all q ∙ h) in
    member_of_got eq listed n.0 n.1 q n.2 n.3)
