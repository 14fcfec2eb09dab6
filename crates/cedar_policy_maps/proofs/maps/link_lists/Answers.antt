use Rattle.std.specs.Prelude.{◌≡◌, ◌++◌, ◌∷◌, length}
use Rattle.std.proofs.Common.{◌∙◌, sym, ap, subst, arith}
use Rattle.std.specs.List.{IsDistinct}
use Rattle.std.specs.Map.{keys_of}
use Rattle.indexmap.proofs.MapLemmas.{absent_before}
use Rattle.cedar_ids.specs.Texts.{same_text}
use Rattle.cedar_ids.specs.laws.TextLaws.{same_text_equiv}
use Rattle.cedar_policy_maps.specs.Maps.{lists_of}
use Rattle.cedar_policy_maps.specs.laws.BulkInsertSteps.{listed_keys}
use Rattle.cedar_policy_maps.proofs.Entries.{none_unread, listed_last}
use Rattle.cedar_policy_maps.proofs.maps.link_lists.Goals as goal

pub push-requires-clause-absent : goal.push-requires-clause-absent
push-requires-clause-absent g c =
    let es = c.loop-body.lists.entries in
    let all = c.args.map.entries in
    let rest = c.next.new.self in
    let parts : lists_of all ≡ lists_of es ++ (c.in-Some.body, c.in-Some.ids.keys) ∷ lists_of rest =
    sym c.loop-body.invariant.lists ∙ ap (λ fs. lists_of es ++ lists_of fs) c.in-Some.ensures.steps in
    none_unread (λ s. s.keys) (same_text c.in-Some.body) es
    (absent_before same_text_equiv (lists_of es) (lists_of rest) (c.in-Some.body, c.in-Some.ids.keys)
    (subst (λ fs. IsDistinct same_text (keys_of fs)) parts
    (subst (IsDistinct same_text) (sym (listed_keys all)) c.loop-body.invariant.once)))

pub loop-body-preserved : goal.loop-body-preserved
loop-body-preserved g c =
    let es = c.loop-body.lists.entries in
    let rest = c.next.new.self in
    let i = c.in-Some.body in
    let ks = c.in-Some.ids.keys in
    let steps = c.in-Some.ensures.steps in
    record {
      lists =
          ap (λ fs. lists_of fs ++ lists_of rest) c.push.ensures.entries ∙ listed_last es i c.in_ok-ids.ids ks (lists_of rest) c.in_ok-ids.ensures
          ∙ ap (λ fs. lists_of es ++ lists_of fs) (sym steps) ∙ c.loop-body.invariant.lists;
      room = omega (arith, ap length steps, c.loop-body.invariant.room, c.push.ensures.spare);
      once = c.loop-body.invariant.once;
    }
