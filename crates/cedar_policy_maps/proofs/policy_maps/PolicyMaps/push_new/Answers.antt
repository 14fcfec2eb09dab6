use Rattle.std.specs.Prelude.{◌≡◌, ◌++◌, OnErr, Result, Ok, Err}
use Rattle.std.proofs.Common.{◌∙◌, sym, ap, subst, refl}
use Rattle.std.specs.Map.{keys_of, values_of}
use Rattle.cedar_policy_maps.specs.PolicySets.{SetParts}
use Rattle.cedar_policy_maps.specs.Maps.{Maps, maps_of, set_in, lists_of, shared_of}
use Rattle.cedar_policy_maps.specs.Views.{bodies_of}
use Rattle.cedar_policy_maps.specs.laws.GatherLaws.{elsewhere_in}
use Rattle.cedar_policy_maps.specs.laws.BulkInsertSteps.{grown_by}
use Rattle.cedar_policy_maps.specs.BulkInsert.{CanBulkInsert, bulk_inserted}
use Rattle.cedar_policy_maps.proofs.Entered.{bodies_new, policies_new, grown_once, lists_new, entered}
use Rattle.cedar_policy_maps.proofs.policy_maps.PolicyMaps.push_new.Goals as goal

-- A fact that holds of every result holds of an error.
on_err : {A E P : Type 0} (r : Result A E) → P → OnErr r P
on_err (Ok x) p = tt
on_err (Err e) p = p

pub push_all-requires-clause-new : goal.push_all-requires-clause-new
push_all-requires-clause-new g c =
    let m : Maps =
    maps_of c.self.inside.templates.entries c.self.inside.links.entries
    c.self.inside.template_to_links_map.entries in
    let es = c.args.entering.templates.entries in
    let fs = c.args.entering.links.entries in
    let k : CanBulkInsert (set_in m) (bodies_of c.args.bodies.items) (bodies_of (values_of es)) (values_of fs) =
    subst (λ b. CanBulkInsert b (bodies_of c.args.bodies.items) (bodies_of (values_of es)) (values_of fs))
    (sym c.self.view_is) c.requires.can in
    rw c.make_room.ensures.bodies (bodies_new m
    (bodies_of c.args.bodies.items) c.self.inside.templates.entries es fs c.self.invariant refl k
    c.requires.bodies)

pub push_all-requires-2-clause-new : goal.push_all-requires-2-clause-new
push_all-requires-2-clause-new g c =
    let m : Maps =
    maps_of c.self.inside.templates.entries c.self.inside.links.entries
    c.self.inside.template_to_links_map.entries in
    let es = c.args.entering.templates.entries in
    let fs = c.args.entering.links.entries in
    let k : CanBulkInsert (set_in m) (bodies_of c.args.bodies.items) (bodies_of (values_of es)) (values_of fs) =
    subst (λ b. CanBulkInsert b (bodies_of c.args.bodies.items) (bodies_of (values_of es)) (values_of fs))
    (sym c.self.view_is) c.requires.can in
    rw c.make_room.ensures.policies (policies_new m (bodies_of c.args.bodies.items)
    (bodies_of (values_of es)) fs c.self.invariant k c.requires.policies)

pub grow_lists-requires-clause-once : goal.grow_lists-requires-clause-once
grow_lists-requires-clause-once g c =
    grown_once (elsewhere_in (keys_of c.args.entering.listed.entries) (values_of c.args.entering.links.entries))
    c.args.entering.grown.entries c.requires.grown

pub push_all-requires-3-clause-new : goal.push_all-requires-3-clause-new
push_all-requires-3-clause-new g c =
    let m : Maps =
    maps_of c.self.inside.templates.entries c.self.inside.links.entries
    c.self.inside.template_to_links_map.entries in
    let es = c.args.entering.templates.entries in
    let fs = c.args.entering.links.entries in
    let gs = c.args.entering.grown.entries in
    let k : CanBulkInsert (set_in m) (bodies_of c.args.bodies.items) (bodies_of (values_of es)) (values_of fs) =
    subst (λ b. CanBulkInsert b (bodies_of c.args.bodies.items) (bodies_of (values_of es)) (values_of fs))
    (sym c.self.view_is) c.requires.can in
    lists_new m (bodies_of c.args.bodies.items) (bodies_of (values_of es))
    (values_of fs) c.grow_lists.new.map.entries c.args.entering.listed.entries (lists_of gs) c.self.invariant k
    (c.grow_lists.ensures.lists ∙ ap (λ ls. grown_by ls (lists_of gs)) c.make_room.ensures.lists) c.requires.listed

pub invariant_of-self-2 : goal.invariant_of-self-2
invariant_of-self-2 g c =
    let ts = c.self.inside.templates.entries in
    let ps = c.self.inside.links.entries in
    let ls = c.self.inside.template_to_links_map.entries in
    let es = c.args.entering.templates.entries in
    let fs = c.args.entering.links.entries in
    let gs = c.args.entering.grown.entries in
    let k : CanBulkInsert (set_in (maps_of ts ps ls)) (bodies_of c.args.bodies.items) (bodies_of (values_of es))
    (values_of fs) =
    subst (λ b. CanBulkInsert b (bodies_of c.args.bodies.items) (bodies_of (values_of es)) (values_of fs))
    (sym c.self.view_is) c.requires.can in
    (entered ts es c.replace_equal_bodies.new.templates.entries ps fs c.replace_equal_policies.new.links.entries ls gs
    c.grow_lists.new.map.entries c.args.entering.listed.entries c.push_all-3.new.map.entries
    (bodies_of c.args.bodies.items) c.self.invariant k c.requires.bodies c.requires.policies c.requires.listed c.requires.grown
    (c.replace_equal_bodies.ensures ∙ ap shared_of c.push_all.ensures
    ∙ ap (λ us. shared_of (us ++ es)) c.make_room.ensures.bodies)
    (c.replace_equal_policies.ensures ∙ c.push_all-2.ensures ∙ ap (λ qs. qs ++ fs) c.make_room.ensures.policies)
    (c.grow_lists.ensures.lists ∙ ap (λ ls. grown_by ls (lists_of gs)) c.make_room.ensures.lists)
    c.push_all-3.ensures).0

pub returns-clause-ok : goal.returns-clause-ok
returns-clause-ok g c =
    let ts = c.self.inside.templates.entries in
    let ps = c.self.inside.links.entries in
    let ls = c.self.inside.template_to_links_map.entries in
    let es = c.args.entering.templates.entries in
    let fs = c.args.entering.links.entries in
    let gs = c.args.entering.grown.entries in
    let k : CanBulkInsert (set_in (maps_of ts ps ls)) (bodies_of c.args.bodies.items) (bodies_of (values_of es))
    (values_of fs) =
    subst (λ b. CanBulkInsert b (bodies_of c.args.bodies.items) (bodies_of (values_of es)) (values_of fs))
    (sym c.self.view_is) c.requires.can in
    (entered ts es c.replace_equal_bodies.new.templates.entries ps fs c.replace_equal_policies.new.links.entries ls gs
    c.grow_lists.new.map.entries c.args.entering.listed.entries c.push_all-3.new.map.entries
    (bodies_of c.args.bodies.items) c.self.invariant k c.requires.bodies c.requires.policies c.requires.listed c.requires.grown
    (c.replace_equal_bodies.ensures ∙ ap shared_of c.push_all.ensures
    ∙ ap (λ us. shared_of (us ++ es)) c.make_room.ensures.bodies)
    (c.replace_equal_policies.ensures ∙ c.push_all-2.ensures ∙ ap (λ qs. qs ++ fs) c.make_room.ensures.policies)
    (c.grow_lists.ensures.lists ∙ ap (λ ls. grown_by ls (lists_of gs)) c.make_room.ensures.lists)
    c.push_all-3.ensures).1
    ∙ ap (λ (b : SetParts). bulk_inserted b (bodies_of (values_of es)) (values_of fs)) c.self.view_is

pub returns-in_err-make_room-clause-err : goal.returns-in_err-make_room-clause-err
returns-in_err-make_room-clause-err g c =
    let new : SetParts = set_in (maps_of c.make_room.new.templates.entries c.make_room.new.links.entries
    c.make_room.new.map.entries) in
    let same : new ≡ c.args.self.now =
    (λ j. set_in (record {
      bodies = shared_of (c.make_room.ensures.bodies j);
      policies = c.make_room.ensures.policies j;
      listed = c.make_room.ensures.lists j;
    }))
    ∙ c.self.view_is in
    on_err c.from_residual.result same
