use Rattle.std.specs.Prelude.{◌++◌, ◌∷◌, []}
use Rattle.std.proofs.Common.{◌∙◌, sym, ap, subst}
use Rattle.std.specs.Map.{lookup}
use Rattle.std.proofs.lemmas.List.{append_assoc}
use Rattle.cedar_ids.specs.Texts.{same_text}
use Rattle.cedar_policy_maps.specs.Maps.{lists_of}
use Rattle.cedar_policy_maps.specs.laws.BulkInsertSteps.{HasRoom, room_more, room_kept}
use Rattle.cedar_policy_maps.proofs.bulk_insert.room_in_lists.Goals as goal

pub loop-body-preserved : goal.loop-body-preserved
loop-body-preserved g c =
    let old = c.loop-body.map.entries in
    let new = c.room_in_list.new.map.entries in
    let i = c.in-Some.body.now in
    let ks = c.in-Some.ids.now.keys in
    let before = c.loop-body.invariant in
    record {
      lists = c.in_ok-room_in_list.ensures.lists ∙ before.lists;
      done = before.done ++ (i, ks) ∷ [];
      is_part = append_assoc before.done ((i, ks) ∷ []) (lists_of c.next.new.self)
          ∙ ap (λ es. before.done ++ lists_of es) (sym c.in-Some.ensures.steps) ∙ before.is_part;
      room =
          room_more new before.done i ks (room_kept old new before.done c.in_ok-room_in_list.ensures.kept before.room)
          (subst (HasRoom (lookup (same_text i) new)) c.len.ensures.len c.in_ok-room_in_list.ensures.room);
    }
