-- The difference of two stores, from the lists of the values at ascending uids.
use Rattle.std.specs.Prelude.{◌≡◌, Bool, true, false, cond, List, filter_map, Option, Some, None}
use Rattle.std.proofs.Common.{ap, sym, ◌∙◌}
use Rattle.std.specs.Option.{IfSome}
use Rattle.std.specs.FinMap as finmap
use Rattle.std.specs.FinSet as set
use Rattle.std.specs.Set.{is_member}
use Rattle.cedar_ids.specs.UidOf.{same_uid}
use Rattle.cedar_ids.specs.declared.entity.EntityUID.{EntityUID}
use Rattle.cedar_uid_sets.specs.UidSets.{Ascend, same_uids}
use Rattle.cedar_entity.specs.View.{EntityView}
use Rattle.cedar_entity_maps.specs.Plain.{IsKeyed, StoreView}
use Rattle.cedar_entity_diff.specs.Diffs.{AncestryView, ChangeView, IsDiff, ancestors, ancestry_from, ancestry_uid}
use Rattle.cedar_entity_diff.specs.Diffs.{changed_from, changed_uid, mode_from, only_first, same_content, uid_of}
use Rattle.cedar_entity_diff.specs.laws.DiffLaws.{ancestry_itself, changed_itself, only_itself}
use Rattle.cedar_entity_diff.specs.laws.Listed.{lists_all}

only_keyed : (q : EntityUID) (o n : Option EntityView) → IfSome o (λ e. e.uid ≡ q)
    → IfSome (only_first o n) (λ e. uid_of e ≡ q)
only_keyed q o None k = k
only_keyed q o (Some b) k = tt

changed_if : (t : Bool) (q : EntityUID) (a b : EntityView) → b.uid ≡ q
    → IfSome (cond t None (Some (record { before = a; after = b }))) (λ c. changed_uid c ≡ q)
changed_if true q a b k = tt
changed_if false q a b k = k

changed_keyed : (q : EntityUID) (o n : Option EntityView) → IfSome n (λ e. e.uid ≡ q)
    → IfSome (changed_from o n) (λ c. changed_uid c ≡ q)
changed_keyed q None n k = tt
changed_keyed q (Some a) None k = tt
changed_keyed q (Some a) (Some b) k = changed_if (same_content a b) q a b k

ancestry_if : (t : Bool) (q : EntityUID) (c : AncestryView) → c.uid ≡ q
    → IfSome (cond t None (Some c)) (λ c. ancestry_uid c ≡ q)
ancestry_if true q c k = tt
ancestry_if false q c k = k

ancestry_keyed : (q : EntityUID) (o n : Option EntityView) → IfSome n (λ e. e.uid ≡ q)
    → IfSome (ancestry_from o n) (λ c. ancestry_uid c ≡ q)
ancestry_keyed q None n k = tt
ancestry_keyed q (Some a) None k = tt
ancestry_keyed q (Some a) (Some b) k =
    ancestry_if (same_uids (ancestors a) (ancestors b)) q (record {
      uid = b.uid;
      gained = set.difference (ancestors b) (ancestors a);
      lost = set.difference (ancestors a) (ancestors b);
    }) k

module _ (S T : StoreView) (keyed : IsKeyed S.entities × IsKeyed T.entities) (us : List EntityUID) (ascending : Ascend us)
    (others : (q : EntityUID) → is_member same_uid us q ≡ false → finmap.get S.entities q ≡ finmap.get T.entities q) where
  abbrev old : EntityUID → Option EntityView
  old = finmap.get S.entities

  abbrev new : EntityUID → Option EntityView
  new = finmap.get T.entities

  -- The lists of the values at these uids are the difference.
  pub is_diff : (removed added : List EntityView) (changed : List ChangeView) (ancestry : List AncestryView)
      (partial : Option Bool) → removed ≡ filter_map (λ q. only_first (old q) (new q)) us
      → added ≡ filter_map (λ q. only_first (new q) (old q)) us
      → changed ≡ filter_map (λ q. changed_from (old q) (new q)) us
      → ancestry ≡ filter_map (λ q. ancestry_from (old q) (new q)) us
      → partial ≡ mode_from S.partial T.partial
      → IsDiff S T (record { removed = removed; added = added; changed = changed; ancestry = ancestry; partial = partial })
  is_diff removed added changed ancestry partial r a c n p = record {
    removed = lists_all uid_of (λ q. only_first (old q) (new q)) (λ q. only_keyed q (old q) (new q) (keyed.0 q)) us
        ascending (λ q m. ap (only_first (old q)) (sym (others q m)) ∙ only_itself (old q)) removed r;
    added = lists_all uid_of (λ q. only_first (new q) (old q)) (λ q. only_keyed q (new q) (old q) (keyed.1 q)) us
        ascending (λ q m. ap (only_first (new q)) (others q m) ∙ only_itself (new q)) added a;
    changed = lists_all changed_uid (λ q. changed_from (old q) (new q))
        (λ q. changed_keyed q (old q) (new q) (keyed.1 q)) us ascending
        (λ q m. ap (changed_from (old q)) (sym (others q m)) ∙ changed_itself (old q)) changed c;
    ancestry = lists_all ancestry_uid (λ q. ancestry_from (old q) (new q))
        (λ q. ancestry_keyed q (old q) (new q) (keyed.1 q)) us ascending
        (λ q m. ap (ancestry_from (old q)) (sym (others q m)) ∙ ancestry_itself (old q)) ancestry n;
    partial = p;
  }
