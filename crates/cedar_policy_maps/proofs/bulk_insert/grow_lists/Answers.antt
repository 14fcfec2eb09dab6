use Rattle.std.specs.Prelude.{◌∷◌}
use Rattle.std.proofs.Common.{◌∙◌, sym, ap, subst, arith}
use Rattle.std.specs.List.{list_any}
use Rattle.cedar_ids.specs.Texts.{same_text}
use Rattle.cedar_policy_maps.specs.Maps.{lists_of}
use Rattle.cedar_policy_maps.specs.laws.BulkInsertSteps.{HaveRoom, HaveOwnKeys, grown_by, room_elsewhere, listed_keys}
use Rattle.cedar_policy_maps.proofs.bulk_insert.grow_lists.Goals as goal

pub loop-body-preserved : goal.loop-body-preserved
loop-body-preserved g c =
    let old = c.loop-body.map.entries in
    let new = c.grow_list.new.map.entries in
    let rest = c.next.new.self in
    let i = c.in-Some.body in
    let before = c.loop-body.invariant in
    let once : HaveOwnKeys ((i, c.in-Some.more) ∷ rest) = subst HaveOwnKeys c.in-Some.ensures.steps before.once in
    let room : HaveRoom old (lists_of ((i, c.in-Some.more) ∷ rest)) =
    subst (λ es. HaveRoom old (lists_of es)) c.in-Some.ensures.steps before.room in
    record {
      lists =
          ap (λ ls. grown_by ls (lists_of rest)) c.grow_list.ensures.lists
          ∙ ap (λ es. grown_by (lists_of old) (lists_of es)) (sym c.in-Some.ensures.steps) ∙ before.lists;
      room =
          room_elsewhere old new (lists_of rest) i (ap (list_any (same_text i)) (listed_keys rest)
          ∙ once.0) c.grow_list.ensures.others room.1;
      once = once.1;
      spared = omega (arith, before.spared, c.grow_list.ensures.room);
    }
